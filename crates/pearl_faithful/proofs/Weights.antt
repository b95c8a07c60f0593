-- The stated depths are the weights of procedures.
use Rattle.std.proofs.Common.{◌≡◌, ℕ, zero, suc, ◌+◌, ◌<◌, ◌≤◌, max, List, [], ◌∷◌, ◌++◌, Option, Some, None, slice_get, length, refl, sym, ap, ◌∙◌, subst, arith}
use Rattle.std.specs.Prelude.{unwrap_or}
use Rattle.std.proofs.lemmas.Option.{same_Some}
use Rattle.std.proofs.lemmas.List.{length-append}
use Rattle.pearl_faithful.proofs.Lists.{get_within, get_last}
use Rattle.pearl_program.specs.PlainExpressions.{PlainExpr, OfLiteral, OfRead, OfMonadic, OfDyadic, OfCall, OfNow, OfTry, PlainVariable, OfVariable, PlainExprs, NoExprs, MoreExprs, PlainArgument, OfValue, OfIdent, PlainArguments, NoArguments, MoreArguments}
use Rattle.pearl_program.specs.PlainStatements.{PlainPeriodEnd, OfUntil, OfDuring, PlainPeriod, PlainStart, OfAt, OfAfter, OfWhen, OfWhenAfter, PlainOnce, OnceAt, OnceAfter, OnceWhen, PlainCounter, PlainStmt, OfRenew, OfAssign, OfCallOf, OfIf, OfCase, OfRepeat, OfExit, OfReturn, OfActivate, OfContinue, OfResume, OfSuspend, OfTerminate, OfPrevent, OfRequest, OfRelease, OfEnable, OfDisable, OfTrigger, OfPut, OfGet, OfSend, OfTake, PlainStmts, NoStmts, MoreStmts, PlainBranches, NoBranches, MoreBranches}
use Rattle.pearl_program.specs.PlainPrograms.{PlainRoutine, PlainProcedure}
use Rattle.pearl_program.specs.Sound.{CallSmaller}
use Rattle.pearl_program.specs.Weights.{Sizes, calls, values, callees, of_expr, of_variable, of_exprs, of_argument, of_arguments, of_if, of_period_end, of_period, of_start, of_once, of_counter, of_variables, greatest, greatest_of_all, greatest_of_branches, weight, weights_behind, weights_of}

max_same : (a b c d : ℕ) → a ≡ b → c ≡ d → max a c ≡ max b d
max_same a b c d one two = ap (λ n. max n c) one ∙ ap (λ n. max b n) two

-- Two lists of weights have the same for each number below this one.
module _ (one two : List ℕ) (below : ℕ) (same : (n : ℕ) → n < below → unwrap_or (slice_get one n) 0 ≡ unwrap_or (slice_get two n) 0) where
  abbrev Alike : (Sizes → ℕ) → Type 0
  Alike of = of calls ≤ below → of (callees one) ≡ of (callees two)

  both_alike : (f g : Sizes → ℕ) → Alike f → Alike g → max (f calls) (g calls) ≤ below → max (f (callees one)) (g (callees one)) ≡ max (f (callees two)) (g (callees two))
  both_alike f g first second small =
      max_same (f (callees one)) (f (callees two)) (g (callees one)) (g (callees two)) (first (omega (arith, small))) (second (omega (arith, small)))

  mutual
    expr_alike : (e : PlainExpr) → Alike (λ z. of_expr z e)
    expr_alike (OfLiteral value) small = refl
    expr_alike (OfRead variable) small = both_alike (λ z. 0) (λ z. of_variable z variable) (λ small. refl) (variable_alike variable) small
    expr_alike (OfMonadic op operand) small = expr_alike operand small
    expr_alike (OfDyadic op left right) small = both_alike (λ z. of_expr z left) (λ z. of_expr z right) (expr_alike left) (expr_alike right) small
    expr_alike (OfCall number arguments) small =
        both_alike (λ z. 0) (λ z. z.both (z.call number) (of_arguments z arguments)) (λ small. refl)
        (both_alike (λ z. z.call number) (λ z. of_arguments z arguments) (λ small. same number (omega (arith, small))) (arguments_alike arguments)) small
    expr_alike OfNow small = refl
    expr_alike (OfTry semaphore) small = refl

    variable_alike : (variable : PlainVariable) → Alike (λ z. of_variable z variable)
    variable_alike (OfVariable target bounds subscripts) small = exprs_alike subscripts small

    exprs_alike : (es : PlainExprs) → Alike (λ z. of_exprs z es)
    exprs_alike NoExprs small = refl
    exprs_alike (MoreExprs e rest) small = both_alike (λ z. of_expr z e) (λ z. of_exprs z rest) (expr_alike e) (exprs_alike rest) small

    argument_alike : (argument : PlainArgument) → Alike (λ z. of_argument z argument)
    argument_alike (OfValue e) small = expr_alike e small
    argument_alike (OfIdent variable) small = both_alike (λ z. 0) (λ z. of_variable z variable) (λ small. refl) (variable_alike variable) small

    arguments_alike : (arguments : PlainArguments) → Alike (λ z. of_arguments z arguments)
    arguments_alike NoArguments small = refl
    arguments_alike (MoreArguments argument rest) small = both_alike (λ z. of_argument z argument) (λ z. of_arguments z rest) (argument_alike argument) (arguments_alike rest) small

  maybe_alike : (e : Option PlainExpr) → Alike (λ z. of_if z (of_expr z) e)
  maybe_alike None small = refl
  maybe_alike (Some e) small = expr_alike e small

  period_end_alike : (end : Option PlainPeriodEnd) → Alike (λ z. of_if z (of_period_end z) end)
  period_end_alike None small = refl
  period_end_alike (Some (OfUntil time)) small = expr_alike time small
  period_end_alike (Some (OfDuring duration)) small = expr_alike duration small

  period_alike : (period : Option PlainPeriod) → Alike (λ z. of_if z (of_period z) period)
  period_alike None small = refl
  period_alike (Some period) small =
      both_alike (λ z. of_expr z period.duration) (λ z. of_if z (of_period_end z) period.end) (expr_alike period.duration) (period_end_alike period.end) small

  start_alike : (start : Option PlainStart) → Alike (λ z. of_if z (of_start z) start)
  start_alike None small = refl
  start_alike (Some (OfAt time)) small = expr_alike time small
  start_alike (Some (OfAfter duration)) small = expr_alike duration small
  start_alike (Some (OfWhen interrupt)) small = refl
  start_alike (Some (OfWhenAfter interrupt duration)) small = expr_alike duration small

  once_alike : (once : PlainOnce) → Alike (λ z. of_once z once)
  once_alike (OnceAt time) small = expr_alike time small
  once_alike (OnceAfter duration) small = expr_alike duration small
  once_alike (OnceWhen interrupt) small = refl

  later_alike : (once : Option PlainOnce) → Alike (λ z. of_if z (of_once z) once)
  later_alike None small = refl
  later_alike (Some once) small = once_alike once small

  counter_alike : (counter : Option PlainCounter) → Alike (λ z. of_if z (of_counter z) counter)
  counter_alike None small = refl
  counter_alike (Some counter) small =
      both_alike (λ z. of_if z (of_expr z) counter.begin) (λ z. z.both (of_if z (of_expr z) counter.step) (of_if z (of_expr z) counter.end)) (maybe_alike counter.begin)
      (both_alike (λ z. of_if z (of_expr z) counter.step) (λ z. of_if z (of_expr z) counter.end) (maybe_alike counter.step) (maybe_alike counter.end)) small

  variables_alike : (targets : List PlainVariable) → Alike (λ z. of_variables z targets)
  variables_alike [] small = refl
  variables_alike (target ∷ targets) small = both_alike (λ z. of_variable z target) (λ z. of_variables z targets) (variable_alike target) (variables_alike targets) small

  mutual
    stmt_alike : (statement : PlainStmt) → Alike (λ z. greatest z statement)
    stmt_alike (OfRenew cell first) small = refl
    stmt_alike (OfAssign target value) small = both_alike (λ z. of_variable z target) (λ z. of_expr z value) (variable_alike target) (expr_alike value) small
    stmt_alike (OfCallOf number arguments) small =
        both_alike (λ z. z.call number) (λ z. of_arguments z arguments) (λ small. same number (omega (arith, small))) (arguments_alike arguments) small
    stmt_alike (OfIf condition statements otherwise) small =
        both_alike (λ z. of_expr z condition) (λ z. max (greatest_of_all z statements) (greatest_of_all z otherwise)) (expr_alike condition)
        (both_alike (λ z. greatest_of_all z statements) (λ z. greatest_of_all z otherwise) (stmts_alike statements) (stmts_alike otherwise)) small
    stmt_alike (OfCase selector alternatives otherwise) small =
        both_alike (λ z. of_expr z selector) (λ z. max (greatest_of_branches z alternatives) (greatest_of_all z otherwise)) (expr_alike selector)
        (both_alike (λ z. greatest_of_branches z alternatives) (λ z. greatest_of_all z otherwise) (branches_alike alternatives) (stmts_alike otherwise)) small
    stmt_alike (OfRepeat counter condition statements) small =
        both_alike (λ z. z.both (of_if z (of_counter z) counter) (of_if z (of_expr z) condition)) (λ z. greatest_of_all z statements)
        (both_alike (λ z. of_if z (of_counter z) counter) (λ z. of_if z (of_expr z) condition) (counter_alike counter) (maybe_alike condition)) (stmts_alike statements) small
    stmt_alike OfExit small = refl
    stmt_alike (OfReturn value) small = maybe_alike value small
    stmt_alike (OfActivate task start period priority) small =
        both_alike (λ z. of_if z (of_start z) start) (λ z. z.both (of_if z (of_period z) period) (of_if z (of_expr z) priority)) (start_alike start)
        (both_alike (λ z. of_if z (of_period z) period) (λ z. of_if z (of_expr z) priority) (period_alike period) (maybe_alike priority)) small
    stmt_alike (OfContinue task once) small = later_alike once small
    stmt_alike (OfResume once) small = once_alike once small
    stmt_alike (OfSuspend task) small = refl
    stmt_alike (OfTerminate task) small = refl
    stmt_alike (OfPrevent task) small = refl
    stmt_alike (OfRequest semaphores) small = refl
    stmt_alike (OfRelease semaphores) small = refl
    stmt_alike (OfEnable interrupt) small = refl
    stmt_alike (OfDisable interrupt) small = refl
    stmt_alike (OfTrigger interrupt) small = refl
    stmt_alike (OfPut es device format) small = exprs_alike es small
    stmt_alike (OfGet targets device format cell) small = variables_alike targets small
    stmt_alike (OfSend value device) small = expr_alike value small
    stmt_alike (OfTake target device) small = variable_alike target small

    stmts_alike : (statements : PlainStmts) → Alike (λ z. greatest_of_all z statements)
    stmts_alike NoStmts small = refl
    stmts_alike (MoreStmts statement rest) small = both_alike (λ z. greatest z statement) (λ z. greatest_of_all z rest) (stmt_alike statement) (stmts_alike rest) small

    branches_alike : (alternatives : PlainBranches) → Alike (λ z. greatest_of_branches z alternatives)
    branches_alike NoBranches small = refl
    branches_alike (MoreBranches statements rest) small =
        both_alike (λ z. greatest_of_all z statements) (λ z. greatest_of_branches z rest) (stmts_alike statements) (branches_alike rest) small

  -- so routines that call only smaller numbers weigh the same
  weights_alike : (routine : PlainRoutine) → greatest_of_all calls routine.body ≤ below → weight one routine ≡ weight two routine
  weights_alike routine small = ap (λ n. length routine.cells + (greatest_of_all values routine.body + 2) + n) (stmts_alike routine.body small)

-- THE WEIGHTS OF PROCEDURES

-- what stands before a list goes on standing before its weights
kept_before : (procedures : List PlainProcedure) (before : List ℕ) (n : ℕ) → n < length before → slice_get (weights_behind before procedures) n ≡ slice_get before n
kept_before [] before n less = refl
kept_before (procedure ∷ rest) before n less =
    let w = weight before procedure.routine in
    let long = length-append before (w ∷ []) in
    kept_before rest (before ++ w ∷ []) n (omega (arith, less, long)) ∙ get_within before (w ∷ []) n less

-- the weight of a procedure over those of smaller numbers
weighs : (procedures : List PlainProcedure) (before all : List ℕ) (n k : ℕ) (procedure : PlainProcedure) → all ≡ weights_behind before procedures → k ≡ length before + n →
    slice_get procedures n ≡ Some procedure → CallSmaller (length before) procedures → slice_get all k ≡ Some (weight all procedure.routine)
weighs [] before all n k procedure is place there order = cc
weighs (first ∷ rest) before all zero k procedure is place there order =
    let w = weight before first.routine in
    let it : first ≡ procedure = same_Some first procedure there in
    let long = length-append before (w ∷ []) in
    let last : k ≡ length before = omega (arith, place) in
    let same : (n : ℕ) → n < length before → unwrap_or (slice_get before n) 0 ≡ unwrap_or (slice_get all n) 0 = λ n less.
    ap (λ found. unwrap_or found 0) (sym (kept_before (first ∷ rest) before n less) ∙ ap (λ all. slice_get all n) (sym is)) in
    let found : slice_get all k ≡ Some w =
    ap (λ k. slice_get all k) last ∙ (ap (λ all. slice_get all (length before)) is ∙ (kept_before rest (before ++ w ∷ []) (length before) (omega (arith, long)) ∙ get_last before w)) in
    found ∙ (ap Some (weights_alike before all (length before) same first.routine order.0) ∙ ap (λ (procedure : PlainProcedure). Some (weight all procedure.routine)) it)
weighs (first ∷ rest) before all (suc n) k procedure is place there order =
    let w = weight before first.routine in
    let long : length (before ++ w ∷ []) ≡ length before + 1 = length-append before (w ∷ []) in
    weighs rest (before ++ w ∷ []) all n k procedure is (omega (arith, place, long)) there (subst (λ n. CallSmaller n rest) (sym long) order.1)

pub weight_is : (procedures : List PlainProcedure) (n : ℕ) (procedure : PlainProcedure) → slice_get procedures n ≡ Some procedure → CallSmaller 0 procedures →
    slice_get (weights_of procedures) n ≡ Some (weight (weights_of procedures) procedure.routine)
weight_is procedures n procedure there order = weighs procedures [] (weights_of procedures) n n procedure refl (omega arith) there order

-- there are no more weights than procedures
count_is : (procedures : List PlainProcedure) (before : List ℕ) → length (weights_behind before procedures) ≡ length before + length procedures
count_is [] before = omega arith
count_is (procedure ∷ rest) before =
    let w = weight before procedure.routine in
    let long : length (before ++ w ∷ []) ≡ length before + 1 = length-append before (w ∷ []) in
    let more = count_is rest (before ++ w ∷ []) in
    omega (arith, long, more)

pub weights_count : (procedures : List PlainProcedure) → length (weights_of procedures) ≡ length procedures
weights_count procedures = let all = count_is procedures [] in omega (arith, all)
