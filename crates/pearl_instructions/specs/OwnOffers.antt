-- What an object's own code offers after the answers that a task had.
use Rattle.std.specs.Prelude.{◌≡◌, ℕ, zero, suc, List, [], ◌∷◌, length}
use Rattle.pearl_rules.specs.declared.action.Action.{Action}
use Rattle.pearl_rules.specs.declared.action.Action.TheVariants.{End}
use Rattle.pearl_rules.specs.declared.action.Answer.{Answer}
use Rattle.pearl_rules.specs.Faithful.{Alone, IsFaithful}
use Rattle.pearl_rules.specs.Runs.{Supplier}
use Rattle.pearl_stack.specs.Frames.{Frame}
use Rattle.pearl_instructions.specs.declared.object.Parts.{Parts as Object}
use Rattle.pearl_instructions.specs.Engines.{engine, total_rows}
use Rattle.pearl_instructions.specs.Lawful.{IsObject}
use Rattle.pearl_instructions.specs.Owners.{StandsIn}
use Rattle.pearl_instructions.specs.Rows.{row, after}
use Rattle.pearl_instructions.specs.Setups.{setup_of}
use Rattle.pearl_instructions.specs.Steps.{Step, Silent, Offers, Missing}
use Rattle.pearl_instructions.specs.Valid.{IsValid}

abbrev pub onward : (List Frame → Step) → Step → Step
onward more (Silent frames) = more frames
onward more (Offers action go) = Offers action go
onward more Missing = Missing

-- the next row that offers an action, among so many; none where there is no such row
abbrev pub settled : Object → ℕ → List Frame → Step
settled o zero frames = Missing
settled o (suc n) frames = onward (settled o n) (row o frames)

-- among as many as the object has
abbrev pub offering : Object → List Frame → Step
offering o frames = settled o (total_rows o) frames

-- the stack after these answers, each to what is offered next
abbrev pub answered_by : Object → List Frame → List Answer → List Frame
answered_by o frames [] = frames
answered_by o frames (answer ∷ heard) = answered_by o (after (offering o frames) answer) heard

abbrev pub action_in : Step → Action
action_in (Offers action go) = action
action_in (Silent frames) = End
action_in Missing = End

-- what the code of a task offers after exactly these answers since its start
abbrev pub own_offer : Object → Supplier
own_offer o t heard = action_in (offering o (answered_by o ((engine o).begin t) heard))

-- where the code of task t stands after these answers: it offers next what it offers after them
pub record StandsAfter (o : Object) (t : ℕ) (heard : List Answer) (frames : List Frame) : Type 0 where
  pub own : StandsIn o t frames
  pub same : offering o frames ≡ offering o (answered_by o ((engine o).begin t) heard)

-- what is asked of one task at a time holds of each valid object and what its own code offers
abbrev pub CodeStands : Type 0
CodeStands = (o : Object) → IsValid o → IsObject o → Alone (setup_of o) (own_offer o) (engine o) (StandsAfter o)

-- so a valid object's run is the one by what its own code offers, for any tasks and any journal whose entries fit
abbrev pub RunsAsOffered : Type 0
RunsAsOffered = (o : Object) → IsValid o → IsObject o → IsFaithful (own_offer o) (engine o) (setup_of o) (length o.tasks) (total_rows o)
