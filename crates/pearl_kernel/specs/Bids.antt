-- What is offered at a task's place for its offer.
use Rattle.std.specs.Prelude.{Bool, true, false, Option, Some, None}
use Rattle.pearl_rules.specs.declared.action.Action.{Action}
use Rattle.pearl_exchange.specs.declared.offer.Offer.{Offer}
use Rattle.pearl_exchange.specs.Offers.{action_of}

-- the action that lies there, where one is offered
abbrev pub offer_if : (stands : Bool) → Offer → Option Action
offer_if true offer = Some (action_of offer)
offer_if false offer = None
