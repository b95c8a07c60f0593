-- The weight of a task or procedure: its cells, the greatest need of its statements, and the greatest weight of a
-- procedure that it calls. The need of a statement is the number of values in its own expressions, and 2.
use Rattle.std.specs.Prelude.{ℕ, ◌+◌, max, List, [], ◌∷◌, ◌++◌, length, Option, Some, None, slice_get, unwrap_or}
use Rattle.pearl_program.specs.PlainExpressions.{PlainExpr, OfLiteral, OfRead, OfMonadic, OfDyadic, OfCall, OfNow, OfTry, PlainVariable, OfVariable, PlainExprs, NoExprs, MoreExprs, PlainArgument, OfValue, OfIdent, PlainArguments, NoArguments, MoreArguments}
use Rattle.pearl_program.specs.PlainStatements.{PlainPeriodEnd, OfUntil, OfDuring, PlainPeriod, PlainStart, OfAt, OfAfter, OfWhen, OfWhenAfter, PlainOnce, OnceAt, OnceAfter, OnceWhen, PlainCounter, PlainStmt, OfAssign, OfCallOf, OfIf, OfCase, OfRepeat, OfReturn, OfActivate, OfContinue, OfResume, OfPut, OfGet, OfSend, OfTake, PlainStmts, NoStmts, MoreStmts, PlainBranches, NoBranches, MoreBranches}
use Rattle.pearl_program.specs.PlainPrograms.{PlainRoutine, PlainProcedure}

-- what is taken together over the expressions of a statement: `one` of each value in them, and `call` of each procedure
-- that is called
pub record Sizes : Type 0 where
  pub one : ℕ
  pub call : ℕ → ℕ
  pub both : ℕ → ℕ → ℕ

module _ (sizes : Sizes) where
  abbrev mutual
    pub of_expr : PlainExpr → ℕ
    of_expr (OfLiteral value) = sizes.one
    of_expr (OfRead variable) = sizes.both sizes.one (of_variable variable)
    of_expr (OfMonadic op operand) = of_expr operand
    of_expr (OfDyadic op left right) = sizes.both (of_expr left) (of_expr right)
    of_expr (OfCall procedure arguments) = sizes.both sizes.one (sizes.both (sizes.call procedure) (of_arguments arguments))
    of_expr OfNow = sizes.one
    of_expr (OfTry semaphore) = sizes.one

    -- what its subscripts have
    pub of_variable : PlainVariable → ℕ
    of_variable (OfVariable target bounds subscripts) = of_exprs subscripts

    pub of_exprs : PlainExprs → ℕ
    of_exprs NoExprs = 0
    of_exprs (MoreExprs e rest) = sizes.both (of_expr e) (of_exprs rest)

    pub of_argument : PlainArgument → ℕ
    of_argument (OfValue e) = of_expr e
    of_argument (OfIdent variable) = sizes.both sizes.one (of_variable variable)

    pub of_arguments : PlainArguments → ℕ
    of_arguments NoArguments = 0
    of_arguments (MoreArguments argument rest) = sizes.both (of_argument argument) (of_arguments rest)

  abbrev pub of_if : {X : Type 0} → (X → ℕ) → Option X → ℕ
  of_if of None = 0
  of_if of (Some x) = of x

  abbrev pub of_period_end : PlainPeriodEnd → ℕ
  of_period_end (OfUntil time) = of_expr time
  of_period_end (OfDuring duration) = of_expr duration

  abbrev pub of_period : PlainPeriod → ℕ
  of_period period = sizes.both (of_expr period.duration) (of_if of_period_end period.end)

  abbrev pub of_start : PlainStart → ℕ
  of_start (OfAt time) = of_expr time
  of_start (OfAfter duration) = of_expr duration
  of_start (OfWhen interrupt) = 0
  of_start (OfWhenAfter interrupt duration) = of_expr duration

  abbrev pub of_once : PlainOnce → ℕ
  of_once (OnceAt time) = of_expr time
  of_once (OnceAfter duration) = of_expr duration
  of_once (OnceWhen interrupt) = 0

  abbrev pub of_counter : PlainCounter → ℕ
  of_counter counter =
      sizes.both (of_if of_expr counter.begin) (sizes.both (of_if of_expr counter.step) (of_if of_expr counter.end))

  abbrev pub of_variables : List PlainVariable → ℕ
  of_variables [] = 0
  of_variables (variable ∷ rest) = sizes.both (of_variable variable) (of_variables rest)

  -- of a statement's own expressions, those of statements within it aside
  abbrev pub of_stmt : PlainStmt → ℕ
  of_stmt (OfAssign target value) = sizes.both (of_variable target) (of_expr value)
  of_stmt (OfCallOf procedure arguments) = sizes.both (sizes.call procedure) (of_arguments arguments)
  of_stmt (OfIf condition statements otherwise) = of_expr condition
  of_stmt (OfCase selector alternatives otherwise) = of_expr selector
  of_stmt (OfRepeat counter condition statements) = sizes.both (of_if of_counter counter) (of_if of_expr condition)
  of_stmt (OfReturn value) = of_if of_expr value
  of_stmt (OfActivate task start period priority) =
      sizes.both (of_if of_start start) (sizes.both (of_if of_period period) (of_if of_expr priority))
  of_stmt (OfContinue task once) = of_if of_once once
  of_stmt (OfResume once) = of_once once
  of_stmt (OfPut values device format) = of_exprs values
  of_stmt (OfGet targets device format cell) = of_variables targets
  of_stmt (OfSend value device) = of_expr value
  of_stmt (OfTake target device) = of_variable target
  of_stmt _ = 0

  -- the greatest of a statement and those within it
  abbrev mutual
    pub greatest : PlainStmt → ℕ
    greatest (OfIf condition statements otherwise) =
        max (of_stmt (OfIf condition statements otherwise)) (max (greatest_of_all statements) (greatest_of_all otherwise))
    greatest (OfCase selector alternatives otherwise) =
        max (of_stmt (OfCase selector alternatives otherwise)) (max (greatest_of_branches alternatives) (greatest_of_all otherwise))
    greatest (OfRepeat counter condition statements) = max (of_stmt (OfRepeat counter condition statements)) (greatest_of_all statements)
    greatest statement = of_stmt statement

    pub greatest_of_all : PlainStmts → ℕ
    greatest_of_all NoStmts = 0
    greatest_of_all (MoreStmts statement rest) = max (greatest statement) (greatest_of_all rest)

    pub greatest_of_branches : PlainBranches → ℕ
    greatest_of_branches NoBranches = 0
    greatest_of_branches (MoreBranches statements rest) = max (greatest_of_all statements) (greatest_of_branches rest)

-- the number next to the greatest that is called, or else 0
abbrev pub calls : Sizes
calls = record { one = 0; call = λ procedure. procedure + 1; both = max }

-- how many values stand in expressions; a call's result is one
abbrev pub values : Sizes
values = record { one = 1; call = λ procedure. 0; both = λ a b. a + b }

-- the greatest weight of those that are called, where procedures have these weights
abbrev pub callees : List ℕ → Sizes
callees weights = record { one = 0; call = λ procedure. unwrap_or (slice_get weights procedure) 0; both = max }

-- where the procedures that may be called have these weights
abbrev pub weight : List ℕ → PlainRoutine → ℕ
weight weights routine =
    length routine.cells + (greatest_of_all values routine.body + 2) + greatest_of_all (callees weights) routine.body

-- the weights of these procedures behind those of smaller numbers
abbrev pub weights_behind : List ℕ → List PlainProcedure → List ℕ
weights_behind before [] = before
weights_behind before (procedure ∷ rest) = weights_behind (before ++ weight before procedure.routine ∷ []) rest

abbrev pub weights_of : List PlainProcedure → List ℕ
weights_of procedures = weights_behind [] procedures
