-- What a call does, and what a task does next after the answers that it had.
use Rattle.std.specs.Prelude.{ℕ, zero, suc, List, [], ◌∷◌, ◌++◌, length, map, drop, Option, Some, None, slice_get}
use Rattle.pearl_value.specs.declared.kind.Kind.{Kind}
use Rattle.pearl_value.specs.declared.kind.CellKind.{CellKind}
use Rattle.pearl_value.specs.declared.kind.CellKind.TheVariants.{Plain, RefTo}
use Rattle.pearl_value.specs.declared.cell.Cell.{Cell}
use Rattle.pearl_value.specs.declared.trap.Trap.TheVariants.{Range}
use Rattle.pearl_value.specs.Blanks.{blank_of}
use Rattle.pearl_rules.specs.declared.action.Action.{Action}
use Rattle.pearl_rules.specs.declared.action.Action.TheVariants as action
use Rattle.pearl_rules.specs.declared.action.Answer.{Answer}
use Rattle.pearl_rules.specs.Runs.{Supplier}
use Rattle.pearl_program.specs.PlainPrograms.{PlainRoutine, PlainProcedure, PlainTask, PlainProg}
use Rattle.pearl_meaning.specs.Frames.{Store}
use Rattle.pearl_meaning.specs.Evaluation.{Outcome, Value, Needs, Fails, Does, gives, fails, bind, next, ask, given, push_frame, drop_frame}
use Rattle.pearl_meaning.specs.Setting.{Setting}
use Rattle.pearl_meaning.specs.Loops.{Flow, Return}
use Rattle.pearl_meaning.specs.Execution.{exec_all}

-- what is unset of a cell's kind
abbrev pub unset : CellKind → Cell
unset (Plain kind) = blank_of kind
unset (RefTo kind) = blank_of kind

-- the result that a procedure has when its statements have ended; one with RETURNS that reaches its END traps Range
abbrev pub result_at_end : Option Kind → Does (Option Cell)
result_at_end None = gives None
result_at_end (Some kind) = fails Range

abbrev pub result_of : Option Kind → Flow → Does (Option Cell)
result_of kind (Return result) = gives result
result_of kind flow = result_at_end kind

-- the cells of a procedure that is entered: its arguments, and behind them what is unset
abbrev pub entered : PlainProcedure → List Cell → List Cell
entered procedure arguments = arguments ++ map unset (drop procedure.params procedure.routine.cells)

abbrev pub setting_of : PlainProg → (ℕ → List Cell → Does (Option Cell)) → Option Kind → PlainRoutine → Setting
setting_of p call result routine = record { program = p; cells = routine.cells; result = result; call = call }

-- a procedure is entered, does its statements in a frame of its own, and is left
abbrev pub runs : PlainProg → (ℕ → List Cell → Does (Option Cell)) → PlainProcedure → List Cell → Does (Option Cell)
runs p call procedure arguments =
    next (ask action.Enter) (next (push_frame (entered procedure arguments))
    (bind (exec_all (setting_of p call procedure.result procedure.routine) procedure.routine.body)
    (λ flow. next drop_frame (result_of procedure.result flow))))

-- What a call does where at most n calls stand within one another. No procedure calls its own or a greater number, so as many as
-- there are procedures are enough.
abbrev pub call_within : PlainProg → ℕ → (procedure : ℕ) → List Cell → Does (Option Cell)
call_within p zero number arguments = fails Range
call_within p (suc n) number arguments =
    given (slice_get p.procedures number) (λ procedure. runs p (call_within p n) procedure arguments)

abbrev pub task_setting : PlainProg → PlainTask → Setting
task_setting p task = setting_of p (call_within p (length p.procedures)) None task.routine

-- a task has at its start one frame, in which all is unset
abbrev pub store_at_start : ℕ → PlainTask → Store
store_at_start t task = record { task = t; frames = map unset task.routine.cells ∷ [] }

abbrev pub next_action : Outcome Flow → Action
next_action (Value flow store rest) = action.End
next_action (Needs action) = action
next_action (Fails trap) = action.Trap trap

-- a number that names no task is that of one without statements
abbrev pub offer_of : PlainProg → ℕ → Option PlainTask → List Answer → Action
offer_of p t None answers = action.End
offer_of p t (Some task) answers = next_action (exec_all (task_setting p task) task.routine.body (store_at_start t task) answers)

-- what task t does next after exactly these answers since its start
unfoldable pub offer : PlainProg → Supplier
offer p t answers = offer_of p t (slice_get p.tasks t) answers
