-- What holds of the runs of valid objects.
use Rattle.std.specs.Prelude.{◌≡◌, ℕ, List, Some, length}
use Rattle.pearl_rules.specs.declared.action.Action.{Action}
use Rattle.pearl_rules.specs.declared.action.Answer.{Answer}
use Rattle.pearl_rules.specs.Faithful.{Soon}
use Rattle.pearl_rules.specs.Runs.{Silent, Offers}
use Rattle.pearl_rules.specs.Slots as rules
use Rattle.pearl_rules.specs.Tables.{IsSetup}
use Rattle.pearl_stack.specs.Frames.{Frame}
use Rattle.pearl_instructions.specs.declared.object.Parts.{Parts as Object}
use Rattle.pearl_instructions.specs.Actions.{IsSlotNumber, IsOffered}
use Rattle.pearl_instructions.specs.Lawful.{IsObject}
use Rattle.pearl_instructions.specs.Objects.{slot_kind}
use Rattle.pearl_instructions.specs.Stacks.{Answers}
use Rattle.pearl_instructions.specs.Valid.{IsValid}
use Rattle.pearl_instructions.specs.Setups.{setup_of}
use Rattle.pearl_instructions.specs.Engines.{engine, total_rows}
use Rattle.pearl_instructions.specs.Owners.{StandsIn, rows_left}

-- the tables from which a run starts are lawful
abbrev pub AreTables : Type 0
AreTables = (o : Object) → IsObject o → IsSetup (setup_of o)

-- a slot's kind is that of its leaf
abbrev pub KnowsSlots : Type 0
KnowsSlots = (o : Object) (slot : ℕ) → IsObject o → IsSlotNumber o slot → slot_kind o.leaves slot ≡ Some (rules.slot_kind (setup_of o) slot)

-- a task starts with a stack of its own
abbrev pub Begins : Type 0
Begins = (o : Object) (t : ℕ) → IsValid o → IsObject o → StandsIn o t ((engine o).begin t)

-- an instruction that offers nothing leaves a stack of the same task
abbrev pub GoesOn : Type 0
GoesOn = (o : Object) (t : ℕ) (frames after : List Frame) → IsValid o → IsObject o → StandsIn o t frames →
    (engine o).step t frames ≡ Silent after → StandsIn o t after

-- and so does an answer that suits the action
abbrev pub GoesOnAfter : Type 0
GoesOnAfter = (o : Object) (t : ℕ) (frames : List Frame) (action : Action) (answer : Answer) → IsValid o → IsObject o → StandsIn o t frames →
    (engine o).step t frames ≡ Offers action → Answers o t action answer → StandsIn o t ((engine o).answer t frames answer)

-- an answer that suits an action by the tables suits it by the object
abbrev pub HearsWhatSuits : Type 0
HearsWhatSuits = (o : Object) (t : ℕ) (action : Action) (answer : Answer) → IsObject o → IsOffered o action →
    rules.Suits (setup_of o) t action answer → Answers o t action answer

-- an action that is offered names what is there
abbrev pub OffersWhatIsThere : Type 0
OffersWhatIsThere = (o : Object) (t : ℕ) (frames : List Frame) (action : Action) → IsValid o → IsObject o → StandsIn o t frames →
    (engine o).step t frames ≡ Offers action → IsOffered o action

-- an action that is offered fits the tables
abbrev pub FitsTables : Type 0
FitsTables = (o : Object) (t : ℕ) (frames : List Frame) (action : Action) → IsValid o → IsObject o → StandsIn o t frames →
    (engine o).step t frames ≡ Offers action → rules.Fits (setup_of o) action

-- from wherever the code of a task stands it offers an action within as many rows as the object has
abbrev pub OffersSoon : Type 0
OffersSoon = (o : Object) → IsValid o → IsObject o →
    Soon (length o.tasks) (engine o) (λ t heard frames. StandsIn o t frames) (λ t frames. rows_left o frames) (total_rows o)
