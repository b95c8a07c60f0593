-- What statements of a program say, apart from where their parts lie in memory.
use Rattle.std.specs.Prelude.{ℕ, List, [], ◌∷◌, map, Option, option_map}
use Rattle.pearl_value.specs.declared.cell.Cell.{Cell}
use Rattle.pearl_value.specs.declared.kind.Kind.{Kind}
use Rattle.pearl_program.specs.declared.table.FirstValues.{FirstValues}
use Rattle.pearl_program.specs.declared.schedule.PeriodEnd.{PeriodEnd}
use Rattle.pearl_program.specs.declared.schedule.PeriodEnd.TheVariants as period_end
use Rattle.pearl_program.specs.declared.schedule.Period.{Period}
use Rattle.pearl_program.specs.declared.schedule.Start.{Start}
use Rattle.pearl_program.specs.declared.schedule.Start.TheVariants as start
use Rattle.pearl_program.specs.declared.schedule.Once.{Once}
use Rattle.pearl_program.specs.declared.schedule.Once.TheVariants as once
use Rattle.pearl_program.specs.declared.statement.Counter.{Counter}
use Rattle.pearl_program.specs.declared.statement.Branch.{Branch}
use Rattle.pearl_program.specs.declared.statement.Stmt.{Stmt}
use Rattle.pearl_program.specs.declared.statement.Stmt as stmt
use Rattle.pearl_program.specs.declared.statement.Stmt.{Row_of-Stmt, end_of-Stmt, more_of-Stmt}
use Rattle.pearl_program.specs.declared.statement.Case as case_
use Rattle.pearl_program.specs.declared.statement.Case.{Row_of-Branch, end_of-Branch, more_of-Branch}
use Rattle.pearl_program.specs.PlainExpressions.{cell_of, PlainExpr, PlainVariable, PlainExprs, PlainArguments, plain_expr, plain_exprs, plain_arguments, plain_variable}

pub record PlainValues : Type 0 where
  pub kind : Kind
  pub count : ℕ
  pub constants : List Cell

abbrev pub plain_values : FirstValues → PlainValues
plain_values values = record { kind = values.kind; count = values.count; constants = map cell_of values.constants }

pub data PlainPeriodEnd : Type 0 where
  OfUntil : (time : PlainExpr) → PlainPeriodEnd
  OfDuring : (duration : PlainExpr) → PlainPeriodEnd

abbrev pub plain_period_end : PeriodEnd → PlainPeriodEnd
plain_period_end (period_end.Until time) = OfUntil (plain_expr time)
plain_period_end (period_end.During duration) = OfDuring (plain_expr duration)

pub record PlainPeriod : Type 0 where
  pub duration : PlainExpr
  pub end : Option PlainPeriodEnd

abbrev pub plain_period : Period → PlainPeriod
plain_period period = record { duration = plain_expr period.duration; end = option_map plain_period_end period.end }

pub data PlainStart : Type 0 where
  OfAt : (time : PlainExpr) → PlainStart
  OfAfter : (duration : PlainExpr) → PlainStart
  OfWhen : (interrupt : ℕ) → PlainStart
  OfWhenAfter : (interrupt : ℕ) (duration : PlainExpr) → PlainStart

abbrev pub plain_start : Start → PlainStart
plain_start (start.At time) = OfAt (plain_expr time)
plain_start (start.After duration) = OfAfter (plain_expr duration)
plain_start (start.When interrupt) = OfWhen interrupt
plain_start (start.WhenAfter interrupt duration) = OfWhenAfter interrupt (plain_expr duration)

pub data PlainOnce : Type 0 where
  OnceAt : (time : PlainExpr) → PlainOnce
  OnceAfter : (duration : PlainExpr) → PlainOnce
  OnceWhen : (interrupt : ℕ) → PlainOnce

abbrev pub plain_once : Once → PlainOnce
plain_once (once.At time) = OnceAt (plain_expr time)
plain_once (once.After duration) = OnceAfter (plain_expr duration)
plain_once (once.When interrupt) = OnceWhen interrupt

pub record PlainCounter : Type 0 where
  pub cell : ℕ
  pub begin : Option PlainExpr
  pub step : Option PlainExpr
  pub end : Option PlainExpr

abbrev pub plain_counter : Counter → PlainCounter
plain_counter counter = record {
  cell = counter.cell;
  begin = option_map plain_expr counter.begin;
  step = option_map plain_expr counter.step;
  end = option_map plain_expr counter.end;
}

mutual
  pub data PlainStmt : Type 0 where
    OfRenew : (cell : ℕ) (values : PlainValues) → PlainStmt
    OfAssign : (target : PlainVariable) (value : PlainExpr) → PlainStmt
    OfCallOf : (procedure : ℕ) (arguments : PlainArguments) → PlainStmt
    OfIf : (condition : PlainExpr) (statements otherwise : PlainStmts) → PlainStmt
    OfCase : (selector : PlainExpr) (alternatives : PlainBranches) (otherwise : PlainStmts) → PlainStmt
    OfRepeat : (counter : Option PlainCounter) (condition : Option PlainExpr) (statements : PlainStmts) → PlainStmt
    OfExit : PlainStmt
    OfReturn : (value : Option PlainExpr) → PlainStmt
    OfActivate : (task : ℕ) (start : Option PlainStart) (period : Option PlainPeriod) (priority : Option PlainExpr) → PlainStmt
    OfContinue : (task : ℕ) (once : Option PlainOnce) → PlainStmt
    OfResume : (once : PlainOnce) → PlainStmt
    OfSuspend : (task : Option ℕ) → PlainStmt
    OfTerminate : (task : Option ℕ) → PlainStmt
    OfPrevent : (task : Option ℕ) → PlainStmt
    OfRequest : (semaphores : List ℕ) → PlainStmt
    OfRelease : (semaphores : List ℕ) → PlainStmt
    OfEnable : (interrupt : ℕ) → PlainStmt
    OfDisable : (interrupt : ℕ) → PlainStmt
    OfTrigger : (interrupt : ℕ) → PlainStmt
    OfPut : (values : PlainExprs) (device format : ℕ) → PlainStmt
    OfGet : (targets : List PlainVariable) (device format cell : ℕ) → PlainStmt
    OfSend : (value : PlainExpr) (device : ℕ) → PlainStmt
    OfTake : (target : PlainVariable) (device : ℕ) → PlainStmt

  pub data PlainStmts : Type 0 where
    NoStmts : PlainStmts
    MoreStmts : (statement : PlainStmt) (rest : PlainStmts) → PlainStmts

  pub data PlainBranches : Type 0 where
    NoBranches : PlainBranches
    MoreBranches : (statements : PlainStmts) (rest : PlainBranches) → PlainBranches

abbrev mutual
  pub plain_stmt : Stmt → PlainStmt
  plain_stmt (stmt.Renew part) = OfRenew part.value.cell (plain_values part.value.values)
  plain_stmt (stmt.Assign part) = OfAssign (plain_variable part.value.target) (plain_expr part.value.value)
  plain_stmt (stmt.Call part) = OfCallOf part.value.procedure (plain_arguments part.value.arguments.items)
  plain_stmt (stmt.If' _ condition _ statements _ otherwise) =
      OfIf (plain_expr condition) (plain_stmt_row statements) (plain_stmt_row otherwise)
  plain_stmt (stmt.Case' _ (case_.Case' selector _ alternatives _ otherwise)) =
      OfCase (plain_expr selector) (plain_branch_row alternatives) (plain_stmt_row otherwise)
  plain_stmt (stmt.Repeat' _ counter condition _ statements) =
      OfRepeat (option_map plain_counter counter) (option_map plain_expr condition) (plain_stmt_row statements)
  plain_stmt stmt.Exit = OfExit
  plain_stmt (stmt.Return part) = OfReturn (option_map plain_expr part.value.value)
  plain_stmt (stmt.Activate part) =
      OfActivate part.value.task (option_map plain_start part.value.start) (option_map plain_period part.value.period)
      (option_map plain_expr part.value.priority)
  plain_stmt (stmt.Continue part) = OfContinue part.value.task (option_map plain_once part.value.once)
  plain_stmt (stmt.Resume part) = OfResume (plain_once part.value)
  plain_stmt (stmt.Suspend task) = OfSuspend task
  plain_stmt (stmt.Terminate task) = OfTerminate task
  plain_stmt (stmt.Prevent task) = OfPrevent task
  plain_stmt (stmt.Request part) = OfRequest part.value.items
  plain_stmt (stmt.Release part) = OfRelease part.value.items
  plain_stmt (stmt.Enable interrupt) = OfEnable interrupt
  plain_stmt (stmt.Disable interrupt) = OfDisable interrupt
  plain_stmt (stmt.Trigger interrupt) = OfTrigger interrupt
  plain_stmt (stmt.Put part) = OfPut (plain_exprs part.value.values.items) part.value.device part.value.format
  plain_stmt (stmt.Get part) = OfGet (map plain_variable part.value.targets.items) part.value.device part.value.format part.value.cell
  plain_stmt (stmt.Send part) = OfSend (plain_expr part.value.value) part.value.device
  plain_stmt (stmt.Take part) = OfTake (plain_variable part.value.target) part.value.device

  pub plain_stmt_row : {n : _} → Row_of-Stmt n → PlainStmts
  plain_stmt_row end_of-Stmt = NoStmts
  plain_stmt_row (more_of-Stmt s rest) = MoreStmts (plain_stmt s) (plain_stmt_row rest)

  pub plain_branch_row : {n : _} → Row_of-Branch n → PlainBranches
  plain_branch_row end_of-Branch = NoBranches
  plain_branch_row (more_of-Branch _ statements rest) = MoreBranches (plain_stmt_row statements) (plain_branch_row rest)

-- the same over a list
abbrev pub plain_stmts : List Stmt → PlainStmts
plain_stmts [] = NoStmts
plain_stmts (s ∷ rest) = MoreStmts (plain_stmt s) (plain_stmts rest)

abbrev pub plain_branches : List Branch → PlainBranches
plain_branches [] = NoBranches
plain_branches (branch ∷ rest) = MoreBranches (plain_stmts branch.statements.items) (plain_branches rest)
