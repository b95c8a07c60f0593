-- What a statement asks for, apart from those within it: expressions in their roles, targets, calls, and names of tasks,
-- semaphores, interrupts and dations.
use Rattle.std.specs.Prelude.{ℕ, List, [], ◌∷◌, ◌++◌, map, Option, Some, None}
use Rattle.pearl_tree.specs.declared.name.Name.{Name}
use Rattle.pearl_tree.specs.ShownExpressions.{ShownExpr, ShownExprs, NoExprs, MoreExprs, ShownRef}
use Rattle.pearl_tree.specs.ShownStatements.{ShownPeriodEnd, OfUntil, OfDuring, ShownPeriod, ShownStart, OfAt, OfAfter, OfWhen, OfAll, ShownOnce, OnceAt, OnceAfter, OnceWhen, ShownStmt, OfAssign, OfCall, OfIf, OfCase, OfRepeat, OfReturn, OfActivate, OfContinue, OfResume, OfOnTask, OfOnSemas, OfOnInterrupt, OfPut, OfGet, OfSend, OfTake}
use Rattle.pearl_scope.specs.Placed.{Placed}
use Rattle.pearl_check_expr.specs.Subjects.{ShownSubject, OfValue, OfWhile, OfTarget, OfCallStatement, shown_subject}
use Rattle.pearl_check.specs.declared.asked.Role.{Role}
use Rattle.pearl_check.specs.declared.asked.Role.TheVariants.{Plain, Condition, Count, Moment, Lapse, Priority}
use Rattle.pearl_check.specs.declared.asked.NameRole.{NameRole}
use Rattle.pearl_check.specs.declared.asked.NameRole.TheVariants as name_role
use Rattle.pearl_check.specs.declared.asked.Asked.{Asked as CodeAsked}
use Rattle.pearl_check.specs.declared.asked.Asked.TheVariants as asked

-- in the scope of this number; that of a WHILE is the scope of its loop's body
pub data Asked : Type 0 where
  Subject : (role : Role) (scope : ℕ) (subject : ShownSubject) → Asked
  Named : (role : NameRole) (scope : ℕ) (name : Name) → Asked

abbrev pub value : Role → ℕ → ShownExpr → Asked
value role scope expr = Subject role scope (OfValue expr)

abbrev pub target : ℕ → ShownRef → Asked
target scope reference = Subject Plain scope (OfTarget reference)

-- where it is there
abbrev pub if_there : {X : Type 0} → (X → List Asked) → Option X → List Asked
if_there asked None = []
if_there asked (Some x) = asked x

abbrev pub value_if : Role → ℕ → Option ShownExpr → List Asked
value_if role scope expr = if_there (λ expr. value role scope expr ∷ []) expr

abbrev pub period_end_asked : ℕ → ShownPeriodEnd → List Asked
period_end_asked scope (OfUntil time place) = value Moment scope time ∷ []
period_end_asked scope (OfDuring duration place) = value Lapse scope duration ∷ []

abbrev pub period_asked : ℕ → ShownPeriod → List Asked
period_asked scope period = value Lapse scope period.duration ∷ if_there (period_end_asked scope) period.end

abbrev pub start_asked : ℕ → ShownStart → List Asked
start_asked scope (OfAt time period place) = value Moment scope time ∷ if_there (period_asked scope) period
start_asked scope (OfAfter duration period place) = value Lapse scope duration ∷ if_there (period_asked scope) period
start_asked scope (OfWhen interrupt after period place) =
    Named name_role.Interrupt scope interrupt ∷ (value_if Lapse scope after ++ if_there (period_asked scope) period)
start_asked scope (OfAll period) = period_asked scope period

abbrev pub once_asked : ℕ → ShownOnce → List Asked
once_asked scope (OnceAt time place) = value Moment scope time ∷ []
once_asked scope (OnceAfter duration place) = value Lapse scope duration ∷ []
once_asked scope (OnceWhen interrupt place) = Named name_role.Interrupt scope interrupt ∷ []

-- arguments, as those within an expression
abbrev pub as_exprs : List ShownExpr → ShownExprs
as_exprs [] = NoExprs
as_exprs (expr ∷ rest) = MoreExprs expr (as_exprs rest)

-- FROM, BY and TO see the names around the loop, and WHILE sees the control variable too
abbrev pub loop_asked : (scope next : ℕ) → (begin step end condition : Option ShownExpr) → List Asked
loop_asked scope next begin step end condition =
    value_if Count scope begin ++
    (value_if Count scope step ++
    (value_if Count scope end ++ if_there (λ expr. Subject Condition next (OfWhile expr) ∷ []) condition))

-- of a statement in this scope, the first scope within which has the number `next`
abbrev pub stmt_asked : (scope next : ℕ) → ShownStmt → List Asked
stmt_asked scope next (OfAssign reference expr place) = target scope reference ∷ value Plain scope expr ∷ []
stmt_asked scope next (OfCall call name arguments place) =
    Subject Plain scope (OfCallStatement name (as_exprs arguments)) ∷ []
stmt_asked scope next (OfIf condition statements rest place) = value Condition scope condition ∷ []
stmt_asked scope next (OfCase selector alternatives rest place) = value Count scope selector ∷ []
stmt_asked scope next (OfRepeat control begin step end condition declarations statements body_place place) =
    loop_asked scope next begin step end condition
stmt_asked scope next (OfReturn expr place) = value_if Plain scope expr
stmt_asked scope next (OfActivate start task priority place) =
    if_there (start_asked scope) start ++ (Named name_role.Task scope task ∷ value_if Priority scope priority)
stmt_asked scope next (OfContinue once task place) = if_there (once_asked scope) once ++ Named name_role.Task scope task ∷ []
stmt_asked scope next (OfResume once place) = once_asked scope once
stmt_asked scope next (OfOnTask word task place) = if_there (λ name. Named name_role.Task scope name ∷ []) task
stmt_asked scope next (OfOnSemas word names place) = map (Named name_role.Semaphore scope) names
stmt_asked scope next (OfOnInterrupt word name place) = Named name_role.Interrupt scope name ∷ []
stmt_asked scope next (OfPut values dation formats place) =
    map (value Plain scope) values ++ Named name_role.Dation scope dation ∷ []
stmt_asked scope next (OfGet targets dation formats place) = map (target scope) targets ++ Named name_role.Dation scope dation ∷ []
stmt_asked scope next (OfSend expr dation place) = value Plain scope expr ∷ Named name_role.Dation scope dation ∷ []
stmt_asked scope next (OfTake reference dation place) = target scope reference ∷ Named name_role.Dation scope dation ∷ []
stmt_asked scope next statement = []

abbrev pub asked_at : Placed → List Asked
asked_at place = stmt_asked place.spot.scope place.next place.statement

abbrev pub shown_asked : CodeAsked → Asked
shown_asked (asked.Subject role scope subject) = Subject role scope (shown_subject subject)
shown_asked (asked.Named role scope name) = Named role scope name.now

-- what a list in memory shows
unfoldable pub asked_in : List CodeAsked → List Asked
asked_in parts = map shown_asked parts
