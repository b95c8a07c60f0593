-- Statements are the same where calls of the procedures that they name are; so how many calls may stand within one another doesn't matter.
use Rattle.std.specs.Prelude.{◌≡◌, ℕ, zero, suc, ◌+◌, ◌≤◌, max, pos, ℤ, Bool, false, List, [], ◌∷◌, length, map, Option, Some, None}
use Rattle.std.specs.Ordering.{int_eq}
use Rattle.std.proofs.Common.{refl, arith}
use Rattle.pearl_value.specs.declared.kind.Kind.{Kind}
use Rattle.pearl_value.specs.declared.trap.Trap.TheVariants.{Range}
use Rattle.pearl_value.specs.Blanks.{blank_of}
use Rattle.pearl_rules.specs.declared.action.Action.TheVariants as action
use Rattle.pearl_program.specs.PlainExpressions.{PlainExpr, PlainVariable, OfVariable}
use Rattle.pearl_program.specs.PlainStatements.{OfUntil, OfDuring, PlainPeriodEnd, PlainPeriod, OfAt, OfAfter, OfWhen, OfWhenAfter, PlainStart, OnceAt, OnceAfter, OnceWhen, PlainOnce, PlainCounter, PlainStmt, OfRenew, OfAssign, OfCallOf, OfIf, OfCase, OfRepeat, OfExit, OfReturn, OfActivate, OfContinue, OfResume, OfSuspend, OfTerminate, OfPrevent, OfRequest, OfRelease, OfEnable, OfDisable, OfTrigger, OfPut, OfGet, OfSend, OfTake, PlainStmts, NoStmts, MoreStmts, PlainBranches, NoBranches, MoreBranches}
use Rattle.pearl_program.specs.PlainPrograms.{PlainRoutine, PlainProg}
use Rattle.pearl_program.specs.Weights as weights
use Rattle.pearl_meaning.specs.Evaluation.{Does, gives, fails, ask, own_cell, put_cell, put_cells}
use Rattle.pearl_meaning.specs.Setting.{Setting}
use Rattle.pearl_meaning.specs.Variables.{number_of, reference, write_reference}
use Rattle.pearl_meaning.specs.Values.{eval, taken}
use Rattle.pearl_meaning.specs.Loops.{Flow, Normal, Exit, Return, holds, counted, limited, begins, advances, asks_while, goes_on, after_turn, turn, turns, repeats}
use Rattle.pearl_meaning.specs.Schedules.{start_of, once_of, with_end, repeat_of, priority_of, moment, lapse, activates}
use Rattle.pearl_meaning.specs.Transfers.{heard_values, offset, keep_offsets, write_targets, kinds_of, gets}
use Rattle.pearl_meaning.specs.Execution.{on_flow, returns, alternative, chosen, exec, exec_all, exec_nth}
use Rattle.pearl_meaning.specs.Programs.{setting_of}
use Rattle.pearl_meaning.proofs.Alike.{Alike, itself, bind_alike, after_same, next_alike, given_alike, either_alike}
use Rattle.pearl_meaning.proofs.ExpressionsAlike.{Calls, AlikeBelow, less_left, less_right, calls_alike, eval_alike, taken_alike, all_alike, hand_over_alike}

after_turn_alike : {on other : Does Flow} (flow : Flow) → Alike on other → Alike (after_turn flow on) (after_turn flow other)
after_turn_alike Normal on = on
after_turn_alike Exit on = itself
after_turn_alike (Return result) on = itself

turn_alike : {more asks : Does Bool} {statements others again anew : Does Flow} (advance : Does Bool) → Alike more asks → Alike statements others →
    Alike again anew → Alike (turn more statements advance again) (turn asks others advance anew)
turn_alike advance more does again = next_alike itself (bind_alike more (λ going.
    either_alike going (bind_alike does (λ flow. after_turn_alike flow
    (after_same advance (λ on. either_alike on again (itself {does = gives Normal}))))) (itself {does = gives Normal})))

turns_alike : {more asks : Does Bool} {statements others : Does Flow} (advance : Does Bool) (n : ℕ) → Alike more asks → Alike statements others →
    Alike (turns n more statements advance) (turns n asks others advance)
turns_alike advance zero more does = itself
turns_alike advance (suc n) more does = turn_alike advance more does (turns_alike advance n more does)

repeats_alike : {more asks : Does Bool} {statements others : Does Flow} (advance : Does Bool) → Alike more asks → Alike statements others →
    Alike (repeats more statements advance) (repeats asks others advance)
repeats_alike advance more does = record { same = λ store rest. (turns_alike advance (length rest) more does).same store rest }

on_flow_alike : {following other : Does Flow} (flow : Flow) → Alike following other → Alike (on_flow flow following) (on_flow flow other)
on_flow_alike Normal following = following
on_flow_alike Exit following = itself
on_flow_alike (Return result) following = itself

chosen_alike : {take takes : ℕ → Does Flow} {otherwise other : Does Flow} (n : Option ℕ) → ((n : ℕ) → Alike (take n) (takes n)) → Alike otherwise other →
    Alike (chosen n take otherwise) (chosen n takes other)
chosen_alike None take otherwise = otherwise
chosen_alike (Some n) take otherwise = take n

module _ (p : PlainProg) (result : Option Kind) (routine : PlainRoutine) (bound : ℕ) (one two : Calls) (alike : AlikeBelow bound one two) where
  abbrev before : Setting
  before = setting_of p one result routine

  abbrev behind : Setting
  behind = setting_of p two result routine

  abbrev Below : ℕ → Type 0
  Below size = size ≤ bound

  left : {a : ℕ} (b : ℕ) → Below (max a b) → Below a
  left {a = a} b less = less_left a b bound less

  right : (a : ℕ) {b : ℕ} → Below (max a b) → Below b
  right a {b = b} less = less_right a b bound less

  abbrev size : PlainExpr → ℕ
  size e = weights.of_expr weights.calls e

  abbrev size_if : Option PlainExpr → ℕ
  size_if e = weights.of_if weights.calls size e

  value_alike : (e : PlainExpr) → Below (size e) → Alike (eval before e) (eval behind e)
  value_alike = eval_alike p result routine bound one two alike

  target_alike : (variable : PlainVariable) → Below (weights.of_variable weights.calls variable) → Alike (taken before variable) (taken behind variable)
  target_alike = taken_alike p result routine bound one two alike

  counted_alike : (counter : PlainCounter) (e : Option PlainExpr) → Below (size_if e) → Alike (counted before counter e) (counted behind counter e)
  counted_alike counter None less = itself
  counted_alike counter (Some e) less = bind_alike (value_alike e less) (λ x. itself)

  limited_alike : (counter : PlainCounter) (e : Option PlainExpr) → Below (size_if e) → Alike (limited before counter e) (limited behind counter e)
  limited_alike counter None less = itself
  limited_alike counter (Some e) less = bind_alike (counted_alike counter (Some e) less) (λ limit. itself)

  counter_alike : (counter : PlainCounter) → Below (weights.of_counter weights.calls counter) → Alike (begins before (Some counter)) (begins behind (Some counter))
  counter_alike counter less =
      bind_alike (counted_alike counter counter.begin (omega (arith, less))) (λ control. after_same (put_cell counter.cell control)
      (λ done. bind_alike (counted_alike counter counter.step (omega (arith, less))) (λ step. either_alike (int_eq (number_of step) (pos 0)) (itself {does = fails Range})
      (after_same (put_cell (counter.cell + 1) step) (λ done. limited_alike counter counter.end (omega (arith, less)))))))

  begins_alike : (counter : Option PlainCounter) → Below (weights.of_if weights.calls (weights.of_counter weights.calls) counter) → Alike (begins before counter) (begins behind counter)
  begins_alike None less = itself
  begins_alike (Some counter) less = counter_alike counter less

  while_alike : (condition : Option PlainExpr) → Below (size_if condition) → Alike (asks_while before condition) (asks_while behind condition)
  while_alike None less = itself
  while_alike (Some condition) less = bind_alike (value_alike condition less) (λ x. itself)

  goes_on_alike : (counter : Option PlainCounter) (condition : Option PlainExpr) → Below (size_if condition) →
      Alike (goes_on before counter condition) (goes_on behind counter condition)
  goes_on_alike counter condition less = bind_alike itself (λ inside. either_alike inside (while_alike condition less) (itself {does = gives false}))

  moment_alike : (e : PlainExpr) → Below (size e) → Alike (moment before e) (moment behind e)
  moment_alike e less = bind_alike (value_alike e less) (λ x. itself)

  lapse_alike : (e : PlainExpr) → Below (size e) → Alike (lapse before e) (lapse behind e)
  lapse_alike e less = bind_alike (value_alike e less) (λ x. itself)

  start_alike : (start : Option PlainStart) → Below (weights.of_if weights.calls (weights.of_start weights.calls) start) → Alike (start_of before start) (start_of behind start)
  start_alike None less = itself
  start_alike (Some (OfAt time)) less = bind_alike (moment_alike time less) (λ t. itself)
  start_alike (Some (OfAfter duration)) less = bind_alike (lapse_alike duration less) (λ d. itself)
  start_alike (Some (OfWhen interrupt)) less = itself
  start_alike (Some (OfWhenAfter interrupt duration)) less = bind_alike (lapse_alike duration less) (λ d. itself)

  once_alike : (once : Option PlainOnce) → Below (weights.of_if weights.calls (weights.of_once weights.calls) once) → Alike (once_of before once) (once_of behind once)
  once_alike None less = itself
  once_alike (Some (OnceAt time)) less = bind_alike (moment_alike time less) (λ t. itself)
  once_alike (Some (OnceAfter duration)) less = bind_alike (lapse_alike duration less) (λ d. itself)
  once_alike (Some (OnceWhen interrupt)) less = itself

  end_alike : (end : Option PlainPeriodEnd) (period : ℤ) → Below (weights.of_if weights.calls (weights.of_period_end weights.calls) end) →
      Alike (with_end before end period) (with_end behind end period)
  end_alike None period less = itself
  end_alike (Some (OfUntil time)) period less = bind_alike (moment_alike time less) (λ t. itself)
  end_alike (Some (OfDuring duration)) period less = bind_alike (lapse_alike duration less) (λ d. itself)

  repeat_alike : (period : Option PlainPeriod) → Below (weights.of_if weights.calls (weights.of_period weights.calls) period) →
      Alike (repeat_of before period) (repeat_of behind period)
  repeat_alike None less = itself
  repeat_alike (Some period) less = bind_alike (lapse_alike period.duration (omega (arith, less))) (λ d. end_alike period.end d (omega (arith, less)))

  priority_alike : (priority : Option PlainExpr) → Below (size_if priority) → Alike (priority_of before priority) (priority_of behind priority)
  priority_alike None less = itself
  priority_alike (Some e) less = bind_alike (value_alike e less) (λ x. itself)

  activates_alike : (task : ℕ) (start : Option PlainStart) (period : Option PlainPeriod) (priority : Option PlainExpr) →
      Below (weights.of_stmt weights.calls (OfActivate task start period priority)) →
      Alike (activates before task start period priority) (activates behind task start period priority)
  activates_alike task start period priority less =
      bind_alike (start_alike start (omega (arith, less))) (λ when. bind_alike (repeat_alike period (omega (arith, less))) (λ how.
      bind_alike (priority_alike priority (omega (arith, less))) (λ urgent. itself)))

  offset_alike : (target : PlainVariable) → Below (weights.of_variable weights.calls target) → Alike (offset before target) (offset behind target)
  offset_alike (OfVariable target bounds subscripts) less = bind_alike (all_alike p result routine bound one two alike subscripts less) (λ xs. itself)

  keep_alike : (cell : ℕ) (targets : List PlainVariable) → Below (weights.of_variables weights.calls targets) →
      Alike (keep_offsets before cell targets) (keep_offsets behind cell targets)
  keep_alike cell [] less = itself
  keep_alike cell (target ∷ targets) less =
      bind_alike (offset_alike target (omega (arith, less))) (λ at. after_same (put_cell cell at) (λ done. keep_alike (cell + 1) targets (omega (arith, less))))

  -- the kinds of targets, and how they are written, name no calls
  kinds_alike : (targets : List PlainVariable) → kinds_of before targets ≡ kinds_of behind targets
  kinds_alike [] = refl
  kinds_alike (target ∷ targets) = rw (kinds_alike targets) refl

  write_alike : (from at : ℕ) (targets : List PlainVariable) → Alike (write_targets before from at targets) (write_targets behind from at targets)
  write_alike from at [] = itself
  write_alike from at (OfVariable target bounds subscripts ∷ targets) =
      after_same (own_cell at) (λ offset. after_same (reference before target bounds offset) (λ to. after_same (own_cell from) (λ x.
      after_same (write_reference to x) (λ done. write_alike (from + 1) (at + 1) targets))))

  gets_alike : (targets : List PlainVariable) (device format cell : ℕ) → Below (weights.of_variables weights.calls targets) →
      Alike (gets before targets device format cell) (gets behind targets device format cell)
  gets_alike targets device format cell less = rw (kinds_alike targets) (given_alike (kinds_of behind targets) (λ kinds.
      next_alike (keep_alike (cell + length targets) targets less) (after_same (put_cells cell (map blank_of kinds)) (λ done.
      after_same (ask (action.Get device format (record { items = kinds }))) (λ answer.
      after_same (put_cells cell (heard_values answer)) (λ done. write_alike cell (cell + length targets) targets))))))

  returns_alike : (e : Option PlainExpr) → Below (size_if e) → Alike (returns before e) (returns behind e)
  returns_alike None less = itself
  returns_alike (Some e) less = bind_alike (value_alike e less) (λ x. itself)

  mutual
    pub exec_alike : (statement : PlainStmt) → Below (weights.greatest weights.calls statement) → Alike (exec before statement) (exec behind statement)
    exec_alike (OfRenew cell values) less = itself
    exec_alike (OfAssign target value) less =
        bind_alike (target_alike target (omega (arith, less))) (λ to. bind_alike (value_alike value (omega (arith, less))) (λ x. itself))
    exec_alike (OfCallOf procedure arguments) less =
        bind_alike (calls_alike p result routine bound one two alike procedure (omega (arith, less))
        (λ params. hand_over_alike p result routine bound one two alike params arguments (omega (arith, less)))) (λ done. itself)
    exec_alike (OfIf condition statements otherwise) less =
        bind_alike (value_alike condition (omega (arith, less))) (λ x.
        either_alike (holds x) (exec_all_alike statements (omega (arith, less))) (exec_all_alike otherwise (omega (arith, less))))
    exec_alike (OfCase selector alternatives otherwise) less =
        bind_alike (value_alike selector (omega (arith, less))) (λ x. chosen_alike (alternative (number_of x))
        (λ n. exec_nth_alike alternatives n (omega (arith, less)) (exec_all_alike otherwise (omega (arith, less)))) (exec_all_alike otherwise (omega (arith, less))))
    exec_alike (OfRepeat counter condition statements) less =
        next_alike (begins_alike counter (omega (arith, less)))
        (repeats_alike (advances counter) (goes_on_alike counter condition (omega (arith, less))) (exec_all_alike statements (omega (arith, less))))
    exec_alike OfExit less = itself
    exec_alike (OfReturn value) less = returns_alike value less
    exec_alike (OfActivate task start period priority) less = activates_alike task start period priority less
    exec_alike (OfContinue task once) less = bind_alike (once_alike once less) (λ when. itself)
    exec_alike (OfResume once) less = bind_alike (once_alike (Some once) less) (λ when. itself)
    exec_alike (OfSuspend task) less = itself
    exec_alike (OfTerminate task) less = itself
    exec_alike (OfPrevent task) less = itself
    exec_alike (OfRequest semaphores) less = itself
    exec_alike (OfRelease semaphores) less = itself
    exec_alike (OfEnable interrupt) less = itself
    exec_alike (OfDisable interrupt) less = itself
    exec_alike (OfTrigger interrupt) less = itself
    exec_alike (OfPut values device format) less = bind_alike (all_alike p result routine bound one two alike values less) (λ xs. itself)
    exec_alike (OfGet targets device format cell) less = gets_alike targets device format cell less
    exec_alike (OfSend value device) less = bind_alike (value_alike value less) (λ x. itself)
    exec_alike (OfTake target device) less = bind_alike (target_alike target less) (λ to. itself)

    pub exec_all_alike : (statements : PlainStmts) → Below (weights.greatest_of_all weights.calls statements) → Alike (exec_all before statements) (exec_all behind statements)
    exec_all_alike NoStmts less = itself
    exec_all_alike (MoreStmts statement rest) less =
        bind_alike (exec_alike statement (omega (arith, less))) (λ flow. on_flow_alike flow (exec_all_alike rest (omega (arith, less))))

    exec_nth_alike : {otherwise other : Does Flow} (branches : PlainBranches) (n : ℕ) → Below (weights.greatest_of_branches weights.calls branches) → Alike otherwise other →
        Alike (exec_nth before branches n otherwise) (exec_nth behind branches n other)
    exec_nth_alike NoBranches n less otherwise = otherwise
    exec_nth_alike (MoreBranches statements rest) zero less otherwise = exec_all_alike statements (omega (arith, less))
    exec_nth_alike (MoreBranches statements rest) (suc n) less otherwise = exec_nth_alike rest n (omega (arith, less)) otherwise
