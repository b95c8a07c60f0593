-- What statements become once their names are numbers. Each list of statements is taken with the number of its
-- scope, and with how far the text has come.
use Rattle.std.specs.Prelude.{ℕ, ◌+◌, if◌then◌else◌, List, [], ◌∷◌, map, Option, Some, None, option_map}
use Rattle.pearl_tree.specs.declared.name.Name.{Name}
use Rattle.pearl_tree.specs.declared.statement.TaskWord.{TaskWord}
use Rattle.pearl_tree.specs.declared.statement.TaskWord.TheVariants.{Suspend, Terminate, Prevent}
use Rattle.pearl_tree.specs.declared.statement.SemaWord.{SemaWord}
use Rattle.pearl_tree.specs.declared.statement.SemaWord.TheVariants.{Request, Release}
use Rattle.pearl_tree.specs.declared.statement.InterruptWord.{InterruptWord}
use Rattle.pearl_tree.specs.declared.statement.InterruptWord.TheVariants.{Enable, Disable, Trigger}
use Rattle.pearl_tree.specs.Names.{names_of}
use Rattle.pearl_tree.specs.ShownLiterals.{ShownConst}
use Rattle.pearl_tree.specs.ShownExpressions.{ShownExpr, ShownExprs, NoExprs, MoreExprs}
use Rattle.pearl_tree.specs.ShownDeclarations.{ShownItem}
use Rattle.pearl_tree.specs.ShownStatements as shown
use Rattle.pearl_tree.specs.ShownStatements.{ShownPeriodEnd, ShownPeriod, ShownStart, ShownOnce, ShownBodyDecl, ShownStmt, ShownStmts, ShownBranches, ShownOtherwise}
use Rattle.pearl_names.specs.declared.scope.View.TheVariants.{Within, WhileOf}
use Rattle.pearl_names.specs.Tables.{Parameter}
use Rattle.pearl_program.specs.PlainExpressions.{PlainExpr, PlainExprs, PlainArguments}
use Rattle.pearl_program.specs.PlainStatements.{PlainPeriodEnd, OfUntil, OfDuring, PlainPeriod, PlainStart, OfAt, OfAfter, OfWhen, OfWhenAfter, PlainOnce, OnceAt, OnceAfter, OnceWhen, PlainCounter, PlainStmt, OfRenew, OfAssign, OfCallOf, OfIf, OfCase, OfRepeat, OfExit, OfReturn, OfActivate, OfContinue, OfResume, OfSuspend, OfTerminate, OfPrevent, OfRequest, OfRelease, OfEnable, OfDisable, OfTrigger, OfPut, OfGet, OfSend, OfTake, PlainStmts, NoStmts, MoreStmts, PlainBranches, NoBranches, MoreBranches}
use Rattle.pearl_program.specs.PlainPrograms.{PlainLeaf}
use Rattle.pearl_resolve.specs.Laying.{leaves_of_sense, slots, left_behind, filled_leaves, merged}
use Rattle.pearl_resolve.specs.Numbers.{At, counts, loop_cells, entered, after, after_all, after_branches}
use Rattle.pearl_resolve.specs.Expressions.{Numbered, Meant, meant, number_of, params_of, resolve_expr, resolve_exprs, resolve_arguments, resolve_variable}

abbrev pub value_in : Numbered → ℕ → ShownExpr → PlainExpr
value_in numbered scope e = resolve_expr numbered (Within scope) e

-- expressions, as those within an expression
abbrev pub listed : List ShownExpr → ShownExprs
listed [] = NoExprs
listed (e ∷ rest) = MoreExprs e (listed rest)

abbrev pub values_in : Numbered → ℕ → List ShownExpr → PlainExprs
values_in numbered scope exprs = resolve_exprs numbered (Within scope) (listed exprs)

-- what a call statement hands over
abbrev pub arguments_in : Numbered → ℕ → List Parameter → List ShownExpr → PlainArguments
arguments_in numbered scope parameters exprs = resolve_arguments numbered (Within scope) parameters (listed exprs)

abbrev pub or_no_params : Option (List Parameter) → List Parameter
or_no_params None = []
or_no_params (Some parameters) = parameters

abbrev pub period_end_in : Numbered → ℕ → ShownPeriodEnd → PlainPeriodEnd
period_end_in numbered scope (shown.OfUntil time place) = OfUntil (value_in numbered scope time)
period_end_in numbered scope (shown.OfDuring duration place) = OfDuring (value_in numbered scope duration)

abbrev pub period_in : Numbered → ℕ → ShownPeriod → PlainPeriod
period_in numbered scope period = record {
  duration = value_in numbered scope period.duration;
  end = option_map (period_end_in numbered scope) period.end;
}

abbrev pub when_in : ℕ → Option PlainExpr → PlainStart
when_in interrupt None = OfWhen interrupt
when_in interrupt (Some duration) = OfWhenAfter interrupt duration

abbrev pub start_in : Numbered → ℕ → ShownStart → Option PlainStart
start_in numbered scope (shown.OfAt time period place) = Some (OfAt (value_in numbered scope time))
start_in numbered scope (shown.OfAfter duration period place) = Some (OfAfter (value_in numbered scope duration))
start_in numbered scope (shown.OfWhen interrupt delay period place) =
    Some (when_in (number_of numbered (Within scope) interrupt) (option_map (value_in numbered scope) delay))
start_in numbered scope (shown.OfAll period) = None

abbrev pub start_in_if : Numbered → ℕ → Option ShownStart → Option PlainStart
start_in_if numbered scope None = None
start_in_if numbered scope (Some start) = start_in numbered scope start

-- ALL with what stands behind it
abbrev pub period_of : ShownStart → Option ShownPeriod
period_of (shown.OfAt time period place) = period
period_of (shown.OfAfter duration period place) = period
period_of (shown.OfWhen interrupt delay period place) = period
period_of (shown.OfAll period) = Some period

abbrev pub period_of_if : Option ShownStart → Option ShownPeriod
period_of_if None = None
period_of_if (Some start) = period_of start

abbrev pub once_in : Numbered → ℕ → ShownOnce → PlainOnce
once_in numbered scope (shown.OnceAt time place) = OnceAt (value_in numbered scope time)
once_in numbered scope (shown.OnceAfter duration place) = OnceAfter (value_in numbered scope duration)
once_in numbered scope (shown.OnceWhen interrupt place) = OnceWhen (number_of numbered (Within scope) interrupt)

abbrev pub on_task : TaskWord → Option ℕ → PlainStmt
on_task Suspend task = OfSuspend task
on_task Terminate task = OfTerminate task
on_task Prevent task = OfPrevent task

abbrev pub on_semaphores : SemaWord → List ℕ → PlainStmt
on_semaphores Request semaphores = OfRequest semaphores
on_semaphores Release semaphores = OfRelease semaphores

abbrev pub on_interrupt : InterruptWord → ℕ → PlainStmt
on_interrupt Enable interrupt = OfEnable interrupt
on_interrupt Disable interrupt = OfDisable interrupt
on_interrupt Trigger interrupt = OfTrigger interrupt

-- the counter of a loop that counts, whose cells come next
abbrev pub counter_in : Numbered → ℕ → At → Option Name → (begin step end : Option ShownExpr) → Option PlainCounter
counter_in numbered scope at control begin step end =
    if counts control begin step end then Some (record {
      cell = at.cell;
      begin = option_map (value_in numbered scope) begin;
      step = option_map (value_in numbered scope) step;
      end = option_map (value_in numbered scope) end;
    }) else None

-- leaves that lie in cells from this one on get their first values
abbrev pub renewals : ℕ → List PlainLeaf → PlainStmts
renewals cell [] = NoStmts
renewals cell (leaf ∷ rest) = MoreStmts (OfRenew cell leaf.values) (renewals (cell + leaf.values.count) rest)

abbrev pub joined : PlainStmts → PlainStmts → PlainStmts
joined NoStmts more = more
joined (MoreStmts statement rest) more = MoreStmts statement (joined rest more)

-- neighbouring leaves of one kind get them together
abbrev pub variable_renewals : List ShownConst → Option Meant → PlainStmts
variable_renewals constants None = NoStmts
variable_renewals constants (Some thing) = renewals thing.number (filled_leaves [] constants (merged (leaves_of_sense thing.sense)))

abbrev pub slots_of_meant : Option Meant → ℕ
slots_of_meant None = 0
slots_of_meant (Some thing) = slots (leaves_of_sense thing.sense)

-- the constants run over the names of an item in order
abbrev pub names_renewals : Numbered → ℕ → List ShownConst → List Name → PlainStmts
names_renewals numbered scope constants [] = NoStmts
names_renewals numbered scope constants (name ∷ rest) =
    joined (variable_renewals constants (meant numbered (Within scope) name))
    (names_renewals numbered scope (left_behind (slots_of_meant (meant numbered (Within scope) name)) constants) rest)

abbrev pub items_renewals : Numbered → ℕ → List ShownItem → PlainStmts
items_renewals numbered scope [] = NoStmts
items_renewals numbered scope (item ∷ rest) =
    joined (names_renewals numbered scope item.init (names_of item.names)) (items_renewals numbered scope rest)

-- the variables that a scope declares get their first values
abbrev pub declared_renewals : Numbered → ℕ → List ShownBodyDecl → PlainStmts
declared_renewals numbered scope [] = NoStmts
declared_renewals numbered scope (declaration ∷ rest) =
    joined (items_renewals numbered scope declaration.items) (declared_renewals numbered scope rest)

abbrev pub alone : PlainStmt → PlainStmts
alone statement = MoreStmts statement NoStmts

abbrev mutual
  pub resolve_stmt : Numbered → ℕ → At → ShownStmt → PlainStmts
  resolve_stmt numbered scope at (shown.OfEmpty place) = NoStmts
  resolve_stmt numbered scope at (shown.OfAssign target value place) =
      alone (OfAssign (resolve_variable numbered (Within scope) target) (value_in numbered scope value))
  resolve_stmt numbered scope at (shown.OfCall call name arguments place) =
      alone (OfCallOf (number_of numbered (Within scope) name)
      (arguments_in numbered scope (or_no_params (params_of (meant numbered (Within scope) name))) arguments))
  resolve_stmt numbered scope at (shown.OfIf condition statements otherwise place) =
      alone (OfIf (value_in numbered scope condition) (resolve_all numbered scope at statements)
      (resolve_otherwise numbered scope (after_all numbered.table at statements) otherwise))
  resolve_stmt numbered scope at (shown.OfCase selector alternatives otherwise place) =
      alone (OfCase (value_in numbered scope selector) (resolve_branches numbered scope at alternatives)
      (resolve_otherwise numbered scope (after_branches numbered.table at alternatives) otherwise))
  resolve_stmt numbered scope at (shown.OfRepeat control begin step end condition declarations statements body_place place) =
      alone (OfRepeat (counter_in numbered scope at control begin step end)
      (option_map (resolve_expr numbered (WhileOf at.next)) condition)
      (joined (declared_renewals numbered at.next declarations)
      (resolve_all numbered at.next (entered numbered.table (loop_cells control begin step end) at) statements)))
  resolve_stmt numbered scope at (shown.OfExit place) = alone OfExit
  resolve_stmt numbered scope at (shown.OfBegin declarations statements body_place place) =
      joined (declared_renewals numbered at.next declarations)
      (resolve_all numbered at.next (entered numbered.table 0 at) statements)
  resolve_stmt numbered scope at (shown.OfReturn value place) = alone (OfReturn (option_map (value_in numbered scope) value))
  resolve_stmt numbered scope at (shown.OfActivate start task priority place) =
      alone (OfActivate (number_of numbered (Within scope) task) (start_in_if numbered scope start)
      (option_map (period_in numbered scope) (period_of_if start)) (option_map (value_in numbered scope) priority))
  resolve_stmt numbered scope at (shown.OfContinue once task place) =
      alone (OfContinue (number_of numbered (Within scope) task) (option_map (once_in numbered scope) once))
  resolve_stmt numbered scope at (shown.OfResume once place) = alone (OfResume (once_in numbered scope once))
  resolve_stmt numbered scope at (shown.OfOnTask word task place) =
      alone (on_task word (option_map (number_of numbered (Within scope)) task))
  resolve_stmt numbered scope at (shown.OfOnSemas word names place) =
      alone (on_semaphores word (map (number_of numbered (Within scope)) names))
  resolve_stmt numbered scope at (shown.OfOnInterrupt word name place) =
      alone (on_interrupt word (number_of numbered (Within scope) name))
  resolve_stmt numbered scope at (shown.OfPut values dation formats place) =
      alone (OfPut (values_in numbered scope values) (number_of numbered (Within scope) dation) at.format)
  resolve_stmt numbered scope at (shown.OfGet targets dation formats place) =
      alone (OfGet (map (resolve_variable numbered (Within scope)) targets) (number_of numbered (Within scope) dation) at.format at.cell)
  resolve_stmt numbered scope at (shown.OfSend value dation place) =
      alone (OfSend (value_in numbered scope value) (number_of numbered (Within scope) dation))
  resolve_stmt numbered scope at (shown.OfTake target dation place) =
      alone (OfTake (resolve_variable numbered (Within scope) target) (number_of numbered (Within scope) dation))

  pub resolve_all : Numbered → ℕ → At → ShownStmts → PlainStmts
  resolve_all numbered scope at shown.NoStmts = NoStmts
  resolve_all numbered scope at (shown.MoreStmts statement rest) =
      joined (resolve_stmt numbered scope at statement) (resolve_all numbered scope (after numbered.table at statement) rest)

  pub resolve_branches : Numbered → ℕ → At → ShownBranches → PlainBranches
  resolve_branches numbered scope at shown.NoBranches = NoBranches
  resolve_branches numbered scope at (shown.MoreBranches statements place rest) =
      MoreBranches (resolve_all numbered scope at statements)
      (resolve_branches numbered scope (after_all numbered.table at statements) rest)

  pub resolve_otherwise : Numbered → ℕ → At → ShownOtherwise → PlainStmts
  resolve_otherwise numbered scope at shown.NoOtherwise = NoStmts
  resolve_otherwise numbered scope at (shown.OfOtherwise statements place) = resolve_all numbered scope at statements
