-- What holds of loops and calls: a loop is a turn and then the same loop again, since no statement gives back more answers than there
-- were; over more answers a statement does the same; and a call is what its procedure's statements do, in which calls mean the same.
use Rattle.std.specs.Prelude.{◌≡◌, ℕ, ◌<◌, ◌≤◌, List, ◌++◌, length, Option, Some, slice_get}
use Rattle.pearl_value.specs.declared.kind.Kind.{Kind}
use Rattle.pearl_value.specs.declared.cell.Cell.{Cell}
use Rattle.pearl_rules.specs.declared.action.Answer.{Answer}
use Rattle.pearl_program.specs.PlainExpressions.{PlainExpr}
use Rattle.pearl_program.specs.PlainStatements.{PlainCounter, PlainStmts}
use Rattle.pearl_program.specs.PlainPrograms.{PlainRoutine, PlainProcedure, PlainProg}
use Rattle.pearl_program.specs.Sound.{CallSmaller}
use Rattle.pearl_meaning.specs.Frames.{Store}
use Rattle.pearl_meaning.specs.Evaluation.{Outcome, Value, Needs, Fails, Does}
use Rattle.pearl_meaning.specs.Setting.{Setting}
use Rattle.pearl_meaning.specs.Loops.{Flow, goes_on, advances, turn, repeats}
use Rattle.pearl_meaning.specs.Execution.{exec_all}
use Rattle.pearl_meaning.specs.Programs.{setting_of, runs, call_within}

-- no more answers are left than there were
abbrev pub LeavesNoMore : {X : Type 0} → List Answer → Outcome X → Type 0
LeavesNoMore rest (Value x store left) = length left ≤ length rest
LeavesNoMore rest (Needs action) = Unit {0}
LeavesNoMore rest (Fails trap) = Unit {0}

-- fewer answers are left than these
abbrev pub LeavesFewer : {X : Type 0} → List Answer → Outcome X → Type 0
LeavesFewer more (Value x store left) = length left < length more
LeavesFewer more (Needs action) = Unit {0}
LeavesFewer more (Fails trap) = Unit {0}

-- What was done without these answers, and then with them behind the others: it is the same, and they are left; or an
-- answer was needed, and one of them is used.
abbrev pub GoesOn : {X : Type 0} → List Answer → (without having : Outcome X) → Type 0
GoesOn more (Value x store left) having = having ≡ Value x store (left ++ more)
GoesOn more (Needs action) having = LeavesFewer more having
GoesOn more (Fails trap) having = having ≡ Fails trap

-- answers are used up one after the other
pub record UsesUp {X : Type 0} (does : Does X) : Type 0 where
  pub leaves : (store : Store) (rest : List Answer) → LeavesNoMore rest (does store rest)
  pub goes_on : (store : Store) (rest more : List Answer) → GoesOn more (does store rest) (does store (rest ++ more))

-- where statements of a program stand, in whatever routine
abbrev pub standing : PlainProg → (depth : ℕ) → Option Kind → PlainRoutine → Setting
standing p depth result routine = setting_of p (call_within p depth) result routine

-- no statement gives back more answers than there were, and over more answers each does the same
abbrev pub StatementsUseUp : Type 0
StatementsUseUp = (p : PlainProg) (depth : ℕ) (result : Option Kind) (routine : PlainRoutine) (statements : PlainStmts) →
    UsesUp (exec_all (standing p depth result routine) statements)

-- a loop once it has begun to count
abbrev pub loop : Setting → Option PlainCounter → Option PlainExpr → PlainStmts → Does Flow
loop setting counter condition statements = repeats (goes_on setting counter condition) (exec_all setting statements) (advances counter)

-- and one turn of it, with what comes behind that
abbrev pub turn_of : Setting → Option PlainCounter → Option PlainExpr → PlainStmts → Does Flow → Does Flow
turn_of setting counter condition statements again = turn (goes_on setting counter condition) (exec_all setting statements) (advances counter) again

-- a loop is a turn and then the same loop again
abbrev pub LoopsTurn : Type 0
LoopsTurn = (p : PlainProg) (depth : ℕ) (result : Option Kind) (routine : PlainRoutine)
    (counter : Option PlainCounter) (condition : Option PlainExpr) (statements : PlainStmts) (store : Store) (rest : List Answer) →
    let setting = standing p depth result routine in
    loop setting counter condition statements store rest
    ≡ turn_of setting counter condition statements (loop setting counter condition statements) store rest

-- a call is what its procedure's statements do, in which calls mean the same: how many calls may stand within one another doesn't
-- matter, as long as it is more than the procedure's number
abbrev pub CallsRun : Type 0
CallsRun = (p : PlainProg) → CallSmaller 0 p.procedures → (number depth : ℕ) (procedure : PlainProcedure) →
    slice_get p.procedures number ≡ Some procedure → number < depth → (arguments : List Cell) (store : Store) (rest : List Answer) →
    call_within p depth number arguments store rest ≡ runs p (call_within p depth) procedure arguments store rest
