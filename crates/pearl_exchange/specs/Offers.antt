-- What is offered, as the rules name it.
use Rattle.pearl_rules.specs.declared.action.Action.{Action}
use Rattle.pearl_rules.specs.declared.action.Action.TheVariants as action
use Rattle.pearl_exchange.specs.declared.offer.What.{What}
use Rattle.pearl_exchange.specs.declared.offer.What.TheVariants as what
use Rattle.pearl_exchange.specs.declared.offer.Offer.{Offer}

-- the action that this is, where the large parts lie in an offer
abbrev pub action_by : What → Offer → Action
action_by (what.Read slot) offer = action.Read slot
action_by (what.Write slot) offer = action.Write slot offer.value
action_by what.Turn offer = action.Turn
action_by what.Enter offer = action.Enter
action_by what.Now offer = action.Now
action_by what.Request offer = action.Request offer.list
action_by what.Release offer = action.Release offer.list
action_by (what.Try semaphore) offer = action.Try semaphore
action_by (what.Activate task priority) offer = action.Activate task offer.start offer.repeat priority
action_by (what.Continue task) offer = action.Continue task offer.start
action_by what.Resume offer = action.Resume offer.start
action_by (what.Suspend task) offer = action.Suspend task
action_by (what.Terminate task) offer = action.Terminate task
action_by (what.Prevent task) offer = action.Prevent task
action_by (what.Enable device) offer = action.Enable device
action_by (what.Disable device) offer = action.Disable device
action_by (what.Trigger device) offer = action.Trigger device
action_by (what.Put device) offer = action.Put device offer.text
action_by (what.Get device format) offer = action.Get device format offer.kinds
action_by (what.Take device) offer = action.Take device
action_by (what.Send device) offer = action.Send device offer.value
action_by what.End offer = action.End
action_by (what.Trap trap) offer = action.Trap trap

-- the action that is offered
abbrev pub action_of : Offer → Action
action_of offer = action_by offer.what offer
