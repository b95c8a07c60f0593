-- What holds of every valid object.
use Rattle.std.specs.Prelude.{◌≡◌, ℕ, ◌+◌, ◌≤◌, List, ◌∷◌, Some, length}
use Rattle.pearl_rules.specs.declared.action.Action.{Action}
use Rattle.pearl_rules.specs.declared.action.Answer.{Answer}
use Rattle.pearl_stack.specs.Frames.{Frame, used}
use Rattle.pearl_instructions.specs.declared.instr.Instr.{Instr}
use Rattle.pearl_instructions.specs.declared.object.Code.{Code}
use Rattle.pearl_instructions.specs.declared.object.Parts.{Parts as Object}
use Rattle.pearl_instructions.specs.Objects.{routines, routine_at}
use Rattle.pearl_instructions.specs.Lawful.{IsObject}
use Rattle.pearl_instructions.specs.Steps.{Offers}
use Rattle.pearl_instructions.specs.Rows.{row, instr_at, begun}
use Rattle.pearl_instructions.specs.Valid.{IsValid}
use Rattle.pearl_instructions.specs.Stacks.{IsStack, task_of, Goes, room, all_rows, OffersWithin}
use Rattle.pearl_instructions.specs.Actions.{IsTaskNumber, IsOffered}
use Rattle.pearl_instructions.specs.Owned.{IsOfTask, own_action, Moves, Afterwards}

-- a task's routine begins with a stack of the object
abbrev pub Begins : Type 0
Begins = (o : Object) (r : ℕ) (code : Code) → IsValid o → IsObject o → length o.procedures ≤ r → routine_at o r ≡ Some code → IsStack o (begun o r)

-- at each stack of the object there is a row, and it leads to such stacks only: the next one, or the one after each answer that suits
abbrev pub Leads : Type 0
Leads = (o : Object) → IsValid o → IsObject o → (frames : List Frame) → IsStack o frames → Goes o (task_of o frames) (row o frames)

-- what an action names is there, and its values are of the kinds that are needed there
abbrev pub OffersWhatIsThere : Type 0
OffersWhatIsThere =
    (o : Object) → IsValid o → IsObject o → (frames : List Frame) → IsStack o frames →
    (action : Action) (go : Answer → List Frame) → row o frames ≡ Offers action go → IsOffered o action

-- each stack is that of a task which is there
abbrev pub HasTask : Type 0
HasTask = (o : Object) (frames : List Frame) → IsStack o frames → IsTaskNumber o (task_of o frames) × IsOfTask o (task_of o frames) frames

-- an instruction on the own task names the task whose stack it is, from whatever procedure
abbrev pub NamesOwn : Type 0
NamesOwn = (o : Object) (task : ℕ) (f : Frame) (lower : List Frame) (instr : Instr) (action : Action) →
    IsOfTask o task (f ∷ lower) → instr_at o f ≡ Some instr → own_action instr task ≡ Some action →
    (go : Answer → List Frame) × (row o (f ∷ lower) ≡ Offers action go)

-- a stack stays that of its task, and its frames move as the instruction says
abbrev pub KeepsTask : Type 0
KeepsTask = (o : Object) (task : ℕ) (f : Frame) (lower : List Frame) (instr : Instr) → IsOfTask o task (f ∷ lower) → instr_at o f ≡ Some instr →
    Afterwards o task (λ next. Moves instr f lower next × IsOfTask o task next) (row o (f ∷ lower))

-- the depth that the task states isn't passed
abbrev pub KeepsDepth : Type 0
KeepsDepth = (o : Object) → IsValid o → (frames : List Frame) → IsStack o frames → used frames ≤ room o frames

-- there is at most one frame more than there are procedures
abbrev pub CountsFrames : Type 0
CountsFrames = (o : Object) → IsValid o → (frames : List Frame) → IsStack o frames → length frames ≤ length o.procedures + 1

-- an action is offered after at most as many rows as the object has instructions
abbrev pub OffersSoon : Type 0
OffersSoon = (o : Object) → IsValid o → IsObject o → (frames : List Frame) → IsStack o frames → OffersWithin o (all_rows (routines o)) frames
