-- Whose task a stack is, and how a row moves the frames of a stack.
use Rattle.std.specs.Prelude.{◌≡◌, ◌⊎◌, ℕ, ◌+◌, true, List, [], ◌∷◌, Option, Some, None, map, slice_get, length}
use Rattle.pearl_rules.specs.declared.action.Action.{Action}
use Rattle.pearl_rules.specs.declared.action.Action.TheVariants as action
use Rattle.pearl_rules.specs.declared.action.Answer.{Answer}
use Rattle.pearl_stack.specs.Frames.{Frame}
use Rattle.pearl_instructions.specs.declared.instr.Instr.{Instr}
use Rattle.pearl_instructions.specs.declared.instr.Instr.TheVariants.{Call, Return, SuspendOwn, TerminateOwn, PreventOwn}
use Rattle.pearl_instructions.specs.declared.object.Parts.{Parts as Object}
use Rattle.pearl_instructions.specs.Steps.{Step, Silent, Offers, Missing}
use Rattle.pearl_instructions.specs.Valid.{goes_on, targets}
use Rattle.pearl_instructions.specs.Stacks.{Answers}

-- the stack is that of the task with this number: the lowest frame is of its routine, and the procedures' routines come before the tasks'
abbrev pub IsOfTask : Object → ℕ → List Frame → Type 0
IsOfTask o task [] = ⊥
IsOfTask o task (f ∷ []) = f.routine ≡ length o.procedures + task
IsOfTask o task (f ∷ g ∷ lower) = IsOfTask o task (g ∷ lower)

-- what an instruction on the own task offers in the task with this number
abbrev pub own_action : Instr → ℕ → Option Action
own_action SuspendOwn task = Some (action.Suspend task)
own_action TerminateOwn task = Some (action.Terminate task)
own_action PreventOwn task = Some (action.Prevent task)
own_action instr task = None

-- in which routine a frame is, and at which of its instructions
abbrev pub position : Frame → ℕ × ℕ
position f = (f.routine, f.place)

-- where each of the frames stands
abbrev pub standing : List Frame → List (ℕ × ℕ)
standing frames = map position frames

-- instruction i goes on to the one behind it, or it names this one
abbrev pub GoesTo : Instr → ℕ → ℕ → Type 0
GoesTo instr i to = ((goes_on instr ≡ true) × (to ≡ i + 1)) ⊎ ((n : ℕ) × (slice_get (targets instr) n ≡ Some to))

-- the top frame goes on in its routine, and those below it stand where they stood
abbrev pub Proceeds : Instr → Frame → List Frame → List Frame → Type 0
Proceeds instr f lower [] = ⊥
Proceeds instr f lower (g ∷ left) = (g.routine ≡ f.routine) × GoesTo instr f.place g.place × (standing left ≡ standing lower)

-- a frame of procedure p, at its first instruction, stands on all the others, which stand where they stood
abbrev pub Enters : ℕ → List Frame → List Frame → Type 0
Enters p frames [] = ⊥
Enters p frames (g ∷ left) = (g.routine ≡ p) × (g.place ≡ 0) × (standing left ≡ standing frames)

-- the caller, which is the top frame now, goes on behind its Call, and those below it stand where they stood
abbrev pub GoesBack : List Frame → List Frame → Type 0
GoesBack (g ∷ lower) (h ∷ left) = (h.routine ≡ g.routine) × (h.place ≡ g.place + 1) × (standing left ≡ standing lower)
GoesBack lower next = ⊥

-- how an instruction moves the frames: a Call puts one on, a Return takes one off, and any other moves the top one only
abbrev pub Moves : Instr → Frame → List Frame → List Frame → Type 0
Moves (Call p) f lower = Enters p (f ∷ lower)
Moves Return f lower = GoesBack lower
Moves instr f lower = Proceeds instr f lower

-- this holds of the stack that a row of this task leaves, or of the one after each answer that suits
abbrev pub Afterwards : Object → ℕ → (List Frame → Type 0) → Step → Type 0
Afterwards o own P (Silent frames) = P frames
Afterwards o own P (Offers action go) = (answer : Answer) → Answers o own action answer → P (go answer)
Afterwards o own P Missing = Unit {0}
