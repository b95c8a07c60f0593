-- Sound statements call procedures that are there.
use Rattle.std.specs.Prelude.{◌≡◌, ℕ, zero, suc, ◌≤◌, ◌<◌, List, [], ◌∷◌, length, Option, Some, None, slice_get}
use Rattle.std.specs.List.{AllZip}
use Rattle.std.proofs.Common.{inl, inr, arith}
use Rattle.pearl_value.specs.declared.kind.Kind.{Kind}
use Rattle.pearl_value.specs.declared.kind.Kind.TheVariants.{Bits as of_bits, Fixed as of_fixed, Clock as of_clock, Span as of_span}
use Rattle.pearl_value.specs.declared.kind.CellKind.{CellKind}
use Rattle.pearl_value.specs.declared.kind.CellKind.TheVariants.{Plain, RefTo}
use Rattle.pearl_program.specs.declared.expression.Bound.{Bound}
use Rattle.pearl_program.specs.declared.expression.Target.TheVariants.{Leaf, Own, Param}
use Rattle.pearl_program.specs.PlainExpressions.{PlainExpr, OfLiteral, OfRead, OfMonadic, OfDyadic, OfCall, OfNow, OfTry, PlainVariable, OfVariable, PlainExprs, NoExprs, MoreExprs, PlainArgument, OfValue, OfIdent, PlainArguments, NoArguments, MoreArguments}
use Rattle.pearl_program.specs.PlainStatements.{PlainPeriodEnd, OfUntil, OfDuring, PlainPeriod, PlainStart, OfAt, OfAfter, OfWhen, OfWhenAfter, PlainOnce, OnceAt, OnceAfter, OnceWhen, PlainCounter, PlainStmt, OfRenew, OfAssign, OfCallOf, OfIf, OfCase, OfRepeat, OfExit, OfReturn, OfActivate, OfContinue, OfResume, OfPut, OfGet, OfSend, OfTake, PlainStmts, NoStmts, MoreStmts, PlainBranches, NoBranches, MoreBranches}
use Rattle.pearl_program.specs.Typing.{Around, HasKind, IsVariable, IsControl, AreSubscripts, IsParam, Suit, SuitsParam, IsFixed, HaveKinds}
use Rattle.pearl_program.specs.SoundStatements.{IsIf, IsCounter, IsReturn, IsStart, IsOnce, IsPeriod, IsPeriodEnd, IsStmt, AreStmts, AreBranches, within}
use Rattle.pearl_program.specs.Weights.{calls, of_expr, of_exprs, of_variable, of_variables, of_argument, of_arguments, of_if, of_counter, of_start, of_once, of_period, of_period_end, greatest, greatest_of_all, greatest_of_branches}

in_list : {X : Type 0} (xs : List X) (n : ℕ) (x : X) → slice_get xs n ≡ Some x → n < length xs
in_list [] n x is = cc
in_list (y ∷ xs) zero x is = omega arith
in_list (y ∷ xs) (suc n) x is = let less = in_list xs n x is in omega (arith, less)

module _ (around : Around) where
  abbrev There : ℕ → Type 0
  There size = size ≤ length around.procedures

  param_there : (found : Option CellKind) (bounds : List Bound) (subscripts : PlainExprs) (kind : Kind) → IsParam found bounds subscripts kind → There (of_exprs calls subscripts)
  param_there None bounds subscripts kind is = absurd is
  param_there (Some (Plain of)) bounds subscripts kind is = absurd is
  param_there (Some (RefTo of)) [] NoExprs kind is = omega arith
  param_there (Some (RefTo of)) [] (MoreExprs e rest) kind is = absurd is
  param_there (Some (RefTo of)) (bound ∷ bounds) subscripts kind is = absurd is

  control_there : (variable : PlainVariable) (kind : Kind) → IsControl around variable kind → There (of_variable calls variable)
  control_there (OfVariable (Own cell) [] NoExprs) kind is = omega arith
  control_there (OfVariable (Own cell) [] (MoreExprs e rest)) kind is = absurd is
  control_there (OfVariable (Own cell) (bound ∷ bounds) subscripts) kind is = absurd is
  control_there (OfVariable (Leaf number) bounds subscripts) kind is = absurd is
  control_there (OfVariable (Param cell) bounds subscripts) kind is = absurd is

  mutual
    pub expr_there : (e : PlainExpr) (kind : Kind) → HasKind around e kind → There (of_expr calls e)
    expr_there (OfLiteral value) kind has = omega arith
    expr_there (OfRead variable) kind (inl is) = let less = variable_there variable kind is in omega (arith, less)
    expr_there (OfRead variable) kind (inr is) = let less = control_there variable kind is in omega (arith, less)
    expr_there (OfMonadic op operand) kind has = expr_there operand has.0 has.1
    expr_there (OfDyadic op left right) kind has =
        let one = expr_there left has.0 has.2 in let two = expr_there right has.1 has.3 in omega (arith, one, two)
    expr_there (OfCall procedure handed) kind has =
        let one = in_list around.procedures procedure has.0 has.1 in let two = arguments_there handed has.0.params has.2 in omega (arith, one, two)
    expr_there OfNow kind has = omega arith
    expr_there (OfTry semaphore) kind has = omega arith

    pub variable_there : (variable : PlainVariable) (kind : Kind) → IsVariable around variable kind → There (of_variable calls variable)
    variable_there (OfVariable (Leaf number) bounds subscripts) kind is = subscripts_there subscripts bounds is.2
    variable_there (OfVariable (Own cell) bounds subscripts) kind is = subscripts_there subscripts bounds is.2
    variable_there (OfVariable (Param cell) bounds subscripts) kind is = param_there (slice_get around.cells cell) bounds subscripts kind is

    subscripts_there : (es : PlainExprs) (bounds : List Bound) → AreSubscripts around bounds es → There (of_exprs calls es)
    subscripts_there NoExprs bounds are = omega arith
    subscripts_there (MoreExprs e rest) [] are = absurd are
    subscripts_there (MoreExprs e rest) (bound ∷ bounds) are =
        let one = expr_there e (of_fixed are.1.0) are.1.1 in let two = subscripts_there rest bounds are.2 in omega (arith, one, two)

    argument_there : (argument : PlainArgument) (param : CellKind) → SuitsParam around param argument → There (of_argument calls argument)
    argument_there (OfValue e) (Plain to) suits = expr_there e suits.0 suits.1
    argument_there (OfValue e) (RefTo to) suits = absurd suits
    argument_there (OfIdent variable) (Plain to) suits = absurd suits
    argument_there (OfIdent variable) (RefTo to) suits = let less = variable_there variable to suits in omega (arith, less)

    pub arguments_there : (handed : PlainArguments) (params : List CellKind) → Suit around params handed → There (of_arguments calls handed)
    arguments_there NoArguments params suit = omega arith
    arguments_there (MoreArguments argument rest) [] suit = absurd suit
    arguments_there (MoreArguments argument rest) (param ∷ params) suit =
        let one = argument_there argument param suit.0 in let two = arguments_there rest params suit.1 in omega (arith, one, two)

  all_there : (es : PlainExprs) (kinds : List Kind) → HaveKinds around es kinds → There (of_exprs calls es)
  all_there NoExprs kinds have = omega arith
  all_there (MoreExprs e rest) [] have = absurd have
  all_there (MoreExprs e rest) (kind ∷ kinds) have = let one = expr_there e kind have.0 in let two = all_there rest kinds have.1 in omega (arith, one, two)

  variables_there : (targets : List PlainVariable) (kinds : List Kind) → AllZip (IsVariable around) targets kinds → There (of_variables calls targets)
  variables_there [] kinds are = omega arith
  variables_there (target ∷ targets) [] are = absurd are
  variables_there (target ∷ targets) (kind ∷ kinds) are =
      let one = variable_there target kind are.0 in let two = variables_there targets kinds are.1 in omega (arith, one, two)

  fixed_there : (e : Option PlainExpr) → IsIf (IsFixed around) e → There (of_if calls (of_expr calls) e)
  fixed_there None is = omega arith
  fixed_there (Some e) is = expr_there e (of_fixed is.0) is.1

  condition_there : (e : Option PlainExpr) → IsIf (λ e. HasKind around e (of_bits 1)) e → There (of_if calls (of_expr calls) e)
  condition_there None is = omega arith
  condition_there (Some e) is = expr_there e (of_bits 1) is

  counter_there : (counter : Option PlainCounter) → IsIf (IsCounter around) counter → There (of_if calls (of_counter calls) counter)
  counter_there None is = omega arith
  counter_there (Some counter) is =
      let one = fixed_there counter.begin is.begin in let two = fixed_there counter.step is.step in let three = fixed_there counter.end is.end in omega (arith, one, two, three)

  start_there : (start : Option PlainStart) → IsIf (IsStart around) start → There (of_if calls (of_start calls) start)
  start_there None is = omega arith
  start_there (Some (OfAt time)) is = expr_there time of_clock is
  start_there (Some (OfAfter duration)) is = expr_there duration of_span is
  start_there (Some (OfWhen interrupt)) is = omega arith
  start_there (Some (OfWhenAfter interrupt duration)) is = expr_there duration of_span is.1

  once_there : (once : PlainOnce) → IsOnce around once → There (of_once calls once)
  once_there (OnceAt time) is = expr_there time of_clock is
  once_there (OnceAfter duration) is = expr_there duration of_span is
  once_there (OnceWhen interrupt) is = omega arith

  later_there : (once : Option PlainOnce) → IsIf (IsOnce around) once → There (of_if calls (of_once calls) once)
  later_there None is = omega arith
  later_there (Some once) is = once_there once is

  end_there : (end : Option PlainPeriodEnd) → IsIf (IsPeriodEnd around) end → There (of_if calls (of_period_end calls) end)
  end_there None is = omega arith
  end_there (Some (OfUntil time)) is = expr_there time of_clock is
  end_there (Some (OfDuring duration)) is = expr_there duration of_span is

  period_there : (period : Option PlainPeriod) → IsIf (IsPeriod around) period → There (of_if calls (of_period calls) period)
  period_there None is = omega arith
  period_there (Some period) is = let one = expr_there period.duration of_span is.0 in let two = end_there period.end is.1 in omega (arith, one, two)

  return_there : (returns : Option (Option Kind)) (value : Option PlainExpr) → IsReturn around returns value → There (of_if calls (of_expr calls) value)
  return_there returns None is = omega arith
  return_there None (Some e) is = absurd is
  return_there (Some None) (Some e) is = absurd is
  return_there (Some (Some to)) (Some e) is = expr_there e is.0 is.1

mutual
  stmt_there : (statement : PlainStmt) (around : Around) → IsStmt around statement → greatest calls statement ≤ length around.procedures
  stmt_there (OfRenew cell values) around is = omega arith
  stmt_there (OfAssign target value) around is =
      let one = variable_there around target is.0 is.1 in let two = expr_there around value is.2.0 is.2.1 in omega (arith, one, two)
  stmt_there (OfCallOf procedure handed) around is =
      let one = in_list around.procedures procedure is.0 is.1 in let two = arguments_there around handed is.0.params is.2 in omega (arith, one, two)
  stmt_there (OfIf condition statements otherwise) around is =
      let one = expr_there around condition (of_bits 1) is.0 in let two = stmts_there statements around is.1 in let three = stmts_there otherwise around is.2 in omega (arith, one, two, three)
  stmt_there (OfCase selector alternatives otherwise) around is =
      let one = expr_there around selector (of_fixed is.0.0) is.0.1 in let two = branches_there alternatives around is.1 in let three = stmts_there otherwise around is.2 in omega (arith, one, two, three)
  stmt_there (OfRepeat counter condition statements) around is =
      let one = counter_there around counter is.0 in let two = condition_there (within around counter) condition is.1 in let three = stmts_there statements (within around counter) is.2 in
      omega (arith, one, two, three)
  stmt_there OfExit around is = omega arith
  stmt_there (OfReturn value) around is = return_there around around.returns value is
  stmt_there (OfActivate task start period priority) around is =
      let one = start_there around start is.starts in let two = period_there around period is.repeats in let three = fixed_there around priority is.urgent in omega (arith, one, two, three)
  stmt_there (OfContinue task once) around is = later_there around once is.1
  stmt_there (OfResume once) around is = once_there around once is
  stmt_there (OfPut values device format) around is = all_there around values is.1 is.2
  stmt_there (OfGet targets device format cell) around is = variables_there around targets is.1 is.2
  stmt_there (OfSend value device) around is = expr_there around value is.2.0 is.2.1
  stmt_there (OfTake target device) around is = variable_there around target is.1 is.3
  stmt_there statement around is = omega arith

  pub stmts_there : (statements : PlainStmts) (around : Around) → AreStmts around statements → greatest_of_all calls statements ≤ length around.procedures
  stmts_there NoStmts around are = omega arith
  stmts_there (MoreStmts statement rest) around are = let one = stmt_there statement around are.0 in let two = stmts_there rest around are.1 in omega (arith, one, two)

  branches_there : (alternatives : PlainBranches) (around : Around) → AreBranches around alternatives → greatest_of_branches calls alternatives ≤ length around.procedures
  branches_there NoBranches around are = omega arith
  branches_there (MoreBranches statements rest) around are = let one = stmts_there statements around are.0 in let two = branches_there rest around are.1 in omega (arith, one, two)
