-- What statements, bodies and modules say, apart from where their parts lie in memory.
use Rattle.std.specs.Prelude.{ℕ, Bool, List, map, Option, option_map}
use Rattle.pearl_tree.specs.declared.name.Name.{Name}
use Rattle.pearl_tree.specs.declared.format.Fmt.{Fmt}
use Rattle.pearl_tree.specs.declared.statement.PeriodEnd.{PeriodEnd}
use Rattle.pearl_tree.specs.declared.statement.PeriodEnd.TheVariants.{Until, During}
use Rattle.pearl_tree.specs.declared.statement.Period.{Period}
use Rattle.pearl_tree.specs.declared.statement.Start.{Start}
use Rattle.pearl_tree.specs.declared.statement.Start.TheVariants as start
use Rattle.pearl_tree.specs.declared.statement.Once.{Once}
use Rattle.pearl_tree.specs.declared.statement.Once.TheVariants as once
use Rattle.pearl_tree.specs.declared.statement.TaskWord.{TaskWord}
use Rattle.pearl_tree.specs.declared.statement.SemaWord.{SemaWord}
use Rattle.pearl_tree.specs.declared.statement.InterruptWord.{InterruptWord}
use Rattle.pearl_tree.specs.declared.statement.BodyDecl.{BodyDecl}
use Rattle.pearl_tree.specs.declared.statement.Stmt.{Stmt, Empty, Assign, Call, If', Case', Repeat', Exit, Begin', Return, Activate, Continue, Resume, OnTask, OnSemas, OnInterrupt, Put, Get, Send, Take, Row_of-Stmt, end_of-Stmt, more_of-Stmt}
use Rattle.pearl_tree.specs.declared.statement.If as if_
use Rattle.pearl_tree.specs.declared.statement.If.{Held-Case-otherwise, None', Some'}
use Rattle.pearl_tree.specs.declared.statement.Case as case_
use Rattle.pearl_tree.specs.declared.statement.Case.{Row_of-Branch, end_of-Branch, more_of-Branch}
use Rattle.pearl_tree.specs.ShownExpressions.{ShownExpr, ShownRef, shown_expr, shown_ref}
use Rattle.pearl_tree.specs.ShownDeclarations.{ShownItem, shown_item}

pub data ShownPeriodEnd : Type 0 where
  OfUntil : (time : ShownExpr) (place : ℕ) → ShownPeriodEnd
  OfDuring : (duration : ShownExpr) (place : ℕ) → ShownPeriodEnd

abbrev pub shown_period_end : PeriodEnd → ShownPeriodEnd
shown_period_end (Until time place) = OfUntil (shown_expr time) place
shown_period_end (During duration place) = OfDuring (shown_expr duration) place

pub record ShownPeriod : Type 0 where
  pub duration : ShownExpr
  pub end : Option ShownPeriodEnd
  pub place : ℕ

abbrev pub shown_period : Period → ShownPeriod
shown_period period =
    record { duration = shown_expr period.duration; end = option_map shown_period_end period.end; place = period.place }

pub data ShownStart : Type 0 where
  OfAt : (time : ShownExpr) (period : Option ShownPeriod) (place : ℕ) → ShownStart
  OfAfter : (duration : ShownExpr) (period : Option ShownPeriod) (place : ℕ) → ShownStart
  OfWhen : (interrupt : Name) (after : Option ShownExpr) (period : Option ShownPeriod) (place : ℕ) → ShownStart
  OfAll : (period : ShownPeriod) → ShownStart

abbrev pub shown_start : Start → ShownStart
shown_start (start.At time period place) = OfAt (shown_expr time) (option_map shown_period period) place
shown_start (start.After duration period place) = OfAfter (shown_expr duration) (option_map shown_period period) place
shown_start (start.When interrupt after period place) =
    OfWhen interrupt (option_map shown_expr after) (option_map shown_period period) place
shown_start (start.All period) = OfAll (shown_period period)

pub data ShownOnce : Type 0 where
  OnceAt : (time : ShownExpr) (place : ℕ) → ShownOnce
  OnceAfter : (duration : ShownExpr) (place : ℕ) → ShownOnce
  OnceWhen : (interrupt : Name) (place : ℕ) → ShownOnce

abbrev pub shown_once : Once → ShownOnce
shown_once (once.At time place) = OnceAt (shown_expr time) place
shown_once (once.After duration place) = OnceAfter (shown_expr duration) place
shown_once (once.When interrupt place) = OnceWhen interrupt place

pub record ShownBodyDecl : Type 0 where
  pub items : List ShownItem
  pub place : ℕ

abbrev pub shown_body_decl : BodyDecl → ShownBodyDecl
shown_body_decl declaration = record { items = map shown_item declaration.items.items.items; place = declaration.place }

mutual
  pub data ShownStmt : Type 0 where
    OfEmpty : (place : ℕ) → ShownStmt
    OfAssign : (target : ShownRef) (value : ShownExpr) (place : ℕ) → ShownStmt
    OfCall : (call : Bool) (name : Name) (arguments : List ShownExpr) (place : ℕ) → ShownStmt
    OfIf : (condition : ShownExpr) (statements : ShownStmts) (otherwise : ShownOtherwise) (place : ℕ) → ShownStmt
    OfCase : (selector : ShownExpr) (alternatives : ShownBranches) (otherwise : ShownOtherwise) (place : ℕ) → ShownStmt
    OfRepeat : (control : Option Name) (begin step end condition : Option ShownExpr) (declarations : List ShownBodyDecl) (statements : ShownStmts) (body_place place : ℕ) → ShownStmt
    OfExit : (place : ℕ) → ShownStmt
    OfBegin : (declarations : List ShownBodyDecl) (statements : ShownStmts) (body_place place : ℕ) → ShownStmt
    OfReturn : (value : Option ShownExpr) (place : ℕ) → ShownStmt
    OfActivate : (start : Option ShownStart) (task : Name) (priority : Option ShownExpr) (place : ℕ) → ShownStmt
    OfContinue : (once : Option ShownOnce) (task : Name) (place : ℕ) → ShownStmt
    OfResume : (once : ShownOnce) (place : ℕ) → ShownStmt
    OfOnTask : (word : TaskWord) (task : Option Name) (place : ℕ) → ShownStmt
    OfOnSemas : (word : SemaWord) (names : List Name) (place : ℕ) → ShownStmt
    OfOnInterrupt : (word : InterruptWord) (name : Name) (place : ℕ) → ShownStmt
    OfPut : (values : List ShownExpr) (dation : Name) (formats : List Fmt) (place : ℕ) → ShownStmt
    OfGet : (targets : List ShownRef) (dation : Name) (formats : List Fmt) (place : ℕ) → ShownStmt
    OfSend : (value : ShownExpr) (dation : Name) (place : ℕ) → ShownStmt
    OfTake : (target : ShownRef) (dation : Name) (place : ℕ) → ShownStmt

  pub data ShownStmts : Type 0 where
    NoStmts : ShownStmts
    MoreStmts : (statement : ShownStmt) (rest : ShownStmts) → ShownStmts

  pub data ShownBranches : Type 0 where
    NoBranches : ShownBranches
    MoreBranches : (statements : ShownStmts) (place : ℕ) (rest : ShownBranches) → ShownBranches

  pub data ShownOtherwise : Type 0 where
    NoOtherwise : ShownOtherwise
    OfOtherwise : (statements : ShownStmts) (place : ℕ) → ShownOtherwise

abbrev mutual
  pub shown_stmt : Stmt → ShownStmt
  shown_stmt (Empty place) = OfEmpty place
  shown_stmt (Assign part) = OfAssign (shown_ref part.value.target) (shown_expr part.value.value) part.value.place
  shown_stmt (Call part) = OfCall part.value.call part.value.name (map shown_expr part.value.arguments.items.items) part.value.place
  shown_stmt (If' _ (if_.If' condition _ statements otherwise place)) =
      OfIf (shown_expr condition) (shown_stmts statements) (shown_otherwise otherwise) place
  shown_stmt (Case' _ (case_.Case' selector _ alternatives otherwise place)) =
      OfCase (shown_expr selector) (shown_branches alternatives) (shown_otherwise otherwise) place
  shown_stmt (Repeat' _ control begin step end condition declarations _ statements body_place place) =
      OfRepeat control (option_map shown_expr begin) (option_map shown_expr step) (option_map shown_expr end)
      (option_map shown_expr condition) (map shown_body_decl declarations.items.items) (shown_stmts statements) body_place place
  shown_stmt (Exit place) = OfExit place
  shown_stmt (Begin' _ declarations _ statements body_place place) =
      OfBegin (map shown_body_decl declarations.items.items) (shown_stmts statements) body_place place
  shown_stmt (Return part) = OfReturn (option_map shown_expr part.value.value) part.value.place
  shown_stmt (Activate part) =
      OfActivate (option_map shown_start part.value.start) part.value.task (option_map shown_expr part.value.priority) part.value.place
  shown_stmt (Continue part) = OfContinue (option_map shown_once part.value.once) part.value.task part.value.place
  shown_stmt (Resume part) = OfResume (shown_once part.value.once) part.value.place
  shown_stmt (OnTask part) = OfOnTask part.value.word part.value.task part.value.place
  shown_stmt (OnSemas part) = OfOnSemas part.value.word part.value.names.items.items part.value.place
  shown_stmt (OnInterrupt part) = OfOnInterrupt part.value.word part.value.name part.value.place
  shown_stmt (Put part) = OfPut (map shown_expr part.value.values.items.items) part.value.dation part.value.formats.items.items part.value.place
  shown_stmt (Get part) = OfGet (map shown_ref part.value.targets.items.items) part.value.dation part.value.formats.items.items part.value.place
  shown_stmt (Send part) = OfSend (shown_expr part.value.value) part.value.dation part.value.place
  shown_stmt (Take part) = OfTake (shown_ref part.value.target) part.value.dation part.value.place

  pub shown_stmts : {n : _} → Row_of-Stmt n → ShownStmts
  shown_stmts end_of-Stmt = NoStmts
  shown_stmts (more_of-Stmt statement rest) = MoreStmts (shown_stmt statement) (shown_stmts rest)

  pub shown_branches : {n : _} → Row_of-Branch n → ShownBranches
  shown_branches end_of-Branch = NoBranches
  shown_branches (more_of-Branch _ statements place rest) = MoreBranches (shown_stmts statements) place (shown_branches rest)

  pub shown_otherwise : Held-Case-otherwise → ShownOtherwise
  shown_otherwise None' = NoOtherwise
  shown_otherwise (Some' _ statements place) = OfOtherwise (shown_stmts statements) place
