-- Two tasks, the second of which stands in a procedure: P: PROC; TERMINATE; END; B: TASK; CALL P; END;
use Rattle.std.specs.Prelude.{◌≡◌, ℕ, false, List, [], ◌∷◌, Some, None}
use Rattle.std.proofs.Common.{refl}
use Rattle.pearl_rules.specs.declared.action.Action.TheVariants as action
use Rattle.pearl_rules.specs.declared.action.Answer.{Answer}
use Rattle.pearl_rules.specs.declared.action.Answer.TheVariants.{Nothing}
use Rattle.pearl_stack.specs.Frames.{Frame}
use Rattle.pearl_instructions.specs.declared.instr.Instr.{Instr}
use Rattle.pearl_instructions.specs.declared.instr.Instr.TheVariants.{Turn, Call, Return, End, SuspendOwn, TerminateOwn, PreventOwn}
use Rattle.pearl_instructions.specs.declared.object.Task.{Task}
use Rattle.pearl_instructions.specs.declared.object.Parts.{Parts as Object}
use Rattle.pearl_instructions.specs.Steps.{Silent}
use Rattle.pearl_instructions.specs.Rows.{row, after, begun}
use Rattle.pearl_instructions.specs.Stacks.{Answers}
use Rattle.pearl_instructions.specs.Owned.{IsOfTask}
use Rattle.pearl_instructions.proofs.Examples.{code}
use Rattle.pearl_instructions.proofs.ExampleRows.{offered}

abbrev named : ℕ → List Instr → Task
named letter instrs = record { name = record { items = letter ∷ [] }; priority = 1; main = false; code = code [] 9 instrs [] }

-- routine 0 is the procedure, which begins with this instruction; routines 1 and 2 are the tasks A and B
abbrev two : Instr → Object
two instr = record {
  devices = [];
  semaphores = [];
  leaves = [];
  formats = [];
  procedures = record { params = 0; result = None; code = code [] 9 (instr ∷ Return ∷ []) [] } ∷ [];
  tasks = named 65 (End ∷ []) ∷ named 66 (Call 0 ∷ End ∷ []) ∷ [];
}

abbrev at : ℕ → ℕ → Frame
at routine place = record { routine = routine; place = place; cells = []; operands = [] }

-- B stands at its Call, and above it the procedure
abbrev in_procedure : ℕ → List Frame
in_procedure place = at 0 place ∷ at 2 0 ∷ []

is_of_b : (instr : Instr) (place : ℕ) → IsOfTask (two instr) 1 (in_procedure place)
is_of_b instr place = refl

b_begins : (instr : Instr) → IsOfTask (two instr) 1 (begun (two instr) 2)
b_begins instr = refl

terminates_b : offered (row (two TerminateOwn) (in_procedure 0)) ≡ Some (action.Terminate 1)
terminates_b = refl

b_hears_nothing : (answer : Answer) → Answers (two TerminateOwn) 1 (action.Terminate 1) answer → ⊥
b_hears_nothing answer suits = suits.0 refl

hears_of_a : Answers (two TerminateOwn) 1 (action.Terminate 0) Nothing
hears_of_a = (λ same. cc, refl)

suspends_b : offered (row (two SuspendOwn) (in_procedure 0)) ≡ Some (action.Suspend 1)
suspends_b = refl

goes_on_when_continued : after (row (two SuspendOwn) (in_procedure 0)) Nothing ≡ in_procedure 1
goes_on_when_continued = refl

prevents_b : offered (row (two PreventOwn) (in_procedure 0)) ≡ Some (action.Prevent 1)
prevents_b = refl

goes_on_behind : after (row (two PreventOwn) (in_procedure 0)) Nothing ≡ in_procedure 1
goes_on_behind = refl

turns : offered (row (two Turn) (in_procedure 0)) ≡ Some action.Turn
turns = refl

-- the next turn of a loop begins in the same frame
turns_in_its_frame : after (row (two Turn) (in_procedure 0)) Nothing ≡ in_procedure 1
turns_in_its_frame = refl

b_goes_back : row (two Turn) (in_procedure 1) ≡ Silent (at 2 1 ∷ [])
b_goes_back = refl
