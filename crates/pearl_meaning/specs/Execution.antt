-- What a statement does.
use Rattle.std.specs.Prelude.{ℕ, zero, suc, pos, negsuc, ℤ, if◌then◌else◌, Option, Some, None}
use Rattle.pearl_rules.specs.declared.action.Action.{Action}
use Rattle.pearl_rules.specs.declared.action.Action.TheVariants as action
use Rattle.pearl_program.specs.FirstCells.{first_cells}
use Rattle.pearl_program.specs.PlainExpressions.{PlainExpr}
use Rattle.pearl_program.specs.PlainStatements.{PlainStmt, OfRenew, OfAssign, OfCallOf, OfIf, OfCase, OfRepeat, OfExit, OfReturn, OfActivate, OfContinue, OfResume, OfSuspend, OfTerminate, OfPrevent, OfRequest, OfRelease, OfEnable, OfDisable, OfTrigger, OfPut, OfGet, OfSend, OfTake, PlainStmts, NoStmts, MoreStmts, PlainBranches, NoBranches, MoreBranches}
use Rattle.pearl_meaning.specs.Evaluation.{Does, gives, bind, next, stop, own_task, put_cells}
use Rattle.pearl_meaning.specs.Setting.{Setting}
use Rattle.pearl_meaning.specs.Variables.{number_of}
use Rattle.pearl_meaning.specs.Values.{convert, eval, calls, hand_over}
use Rattle.pearl_meaning.specs.Loops.{Flow, Normal, Exit, Return, holds, begins, goes_on, advances, repeats}
use Rattle.pearl_meaning.specs.Schedules.{acts, activates, continues, resumes}
use Rattle.pearl_meaning.specs.Transfers.{assigns, puts, sends, takes, gets}

-- the statements that follow are done only where a statement ends in the ordinary way
abbrev pub on_flow : Flow → Does Flow → Does Flow
on_flow Normal following = following
on_flow flow following = gives flow

-- an action on the task that is named, or else on the own one
abbrev pub acts_on : (ℕ → Action) → Option ℕ → Does Flow
acts_on action (Some task) = acts (action task)
acts_on action None = bind own_task (λ task. acts (action task))

-- a task that terminates itself hears nothing more
abbrev pub terminates : Option ℕ → Does Flow
terminates (Some task) = acts (action.Terminate task)
terminates None = bind own_task (λ task. stop (action.Terminate task))

-- RETURN converts its value to what RETURNS says
abbrev pub returns : Setting → Option PlainExpr → Does Flow
returns setting None = gives (Return None)
returns setting (Some e) = bind (eval setting e) (λ x. bind (convert setting.result x) (λ y. gives (Return (Some y))))

-- the number of the alternative that a value takes, the first one having the number 0
abbrev pub alternative : ℤ → Option ℕ
alternative (pos zero) = None
alternative (pos (suc n)) = Some n
alternative (negsuc n) = None

abbrev pub chosen : Option ℕ → (ℕ → Does Flow) → Does Flow → Does Flow
chosen None take otherwise = otherwise
chosen (Some n) take otherwise = take n

module _ (setting : Setting) where
  abbrev mutual
    pub exec : PlainStmt → Does Flow
    exec (OfRenew cell values) = next (put_cells cell (first_cells values)) (gives Normal)
    exec (OfAssign target value) = assigns setting target value
    exec (OfCallOf procedure arguments) =
        next (calls setting procedure (λ params. hand_over setting params arguments)) (gives Normal)
    exec (OfIf condition statements otherwise) =
        bind (eval setting condition) (λ x. if holds x then exec_all statements else exec_all otherwise)
    exec (OfCase selector alternatives otherwise) =
        bind (eval setting selector) (λ x. chosen (alternative (number_of x)) (λ n. exec_nth alternatives n (exec_all otherwise)) (exec_all otherwise))
    exec (OfRepeat counter condition statements) =
        next (begins setting counter) (repeats (goes_on setting counter condition) (exec_all statements) (advances counter))
    exec OfExit = gives Exit
    exec (OfReturn value) = returns setting value
    exec (OfActivate task start period priority) = activates setting task start period priority
    exec (OfContinue task once) = continues setting task once
    exec (OfResume once) = resumes setting once
    exec (OfSuspend task) = acts_on action.Suspend task
    exec (OfTerminate task) = terminates task
    exec (OfPrevent task) = acts_on action.Prevent task
    exec (OfRequest semaphores) = acts (action.Request (record { items = semaphores }))
    exec (OfRelease semaphores) = acts (action.Release (record { items = semaphores }))
    exec (OfEnable interrupt) = acts (action.Enable interrupt)
    exec (OfDisable interrupt) = acts (action.Disable interrupt)
    exec (OfTrigger interrupt) = acts (action.Trigger interrupt)
    exec (OfPut values device format) = puts setting values device format
    exec (OfGet targets device format cell) = gets setting targets device format cell
    exec (OfSend value device) = sends setting value device
    exec (OfTake target device) = takes setting target device

    -- the statements in order
    pub exec_all : PlainStmts → Does Flow
    exec_all NoStmts = gives Normal
    exec_all (MoreStmts statement rest) = bind (exec statement) (λ flow. on_flow flow (exec_all rest))

    -- those of the alternative with this number, or else those of OUT
    pub exec_nth : PlainBranches → ℕ → Does Flow → Does Flow
    exec_nth NoBranches n otherwise = otherwise
    exec_nth (MoreBranches statements rest) zero otherwise = exec_all statements
    exec_nth (MoreBranches statements rest) (suc n) otherwise = exec_nth rest n otherwise
