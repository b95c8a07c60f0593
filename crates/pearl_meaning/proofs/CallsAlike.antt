-- A call means the same however many calls may stand within one another, where each procedure calls smaller ones.
use Rattle.std.specs.Prelude.{◌≡◌, ℕ, zero, suc, ◌+◌, ◌<◌, ◌≤◌, List, [], ◌∷◌, Option, Some, None, is_some, slice_get}
use Rattle.std.proofs.Common.{refl, arith, subst, ap, sym, true≢false}
use Rattle.pearl_value.specs.declared.cell.Cell.{Cell}
use Rattle.pearl_value.specs.declared.trap.Trap.TheVariants.{Range}
use Rattle.pearl_rules.specs.declared.action.Action.TheVariants.{Enter}
use Rattle.pearl_program.specs.PlainPrograms.{PlainProcedure, PlainProg}
use Rattle.pearl_program.specs.Sound.{CallSmaller}
use Rattle.pearl_program.specs.Weights as weights
use Rattle.pearl_meaning.specs.Evaluation.{Does, fails, next, ask, given, push_frame, drop_frame}
use Rattle.pearl_meaning.specs.Programs.{result_of, entered, runs, call_within}
use Rattle.pearl_meaning.specs.Laws.{CallsRun}
use Rattle.pearl_meaning.proofs.Alike.{Alike, itself, bind_alike, after_same}
use Rattle.pearl_meaning.proofs.ExpressionsAlike.{Calls, AlikeBelow}
use Rattle.pearl_meaning.proofs.StatementsAlike.{exec_all_alike}

calls_smaller : (procedures : List PlainProcedure) (first number : ℕ) (procedure : PlainProcedure) → CallSmaller first procedures →
    slice_get procedures number ≡ Some procedure → weights.greatest_of_all weights.calls procedure.routine.body ≤ first + number
calls_smaller [] first number procedure smaller at = absurd (true≢false (sym (ap is_some at)))
calls_smaller (x ∷ rest) first zero procedure smaller at =
    let same : x ≡ procedure = cc in
    subst (λ (other : PlainProcedure). weights.greatest_of_all weights.calls other.routine.body ≤ first + 0) same (omega (arith, smaller.0))
calls_smaller (x ∷ rest) first (suc number) procedure smaller at =
    omega (arith, calls_smaller rest (first + 1) number procedure smaller.1 at)

-- what a procedure does, where calls of smaller ones are the same
runs_alike : (p : PlainProg) (one two : Calls) (number : ℕ) (procedure : PlainProcedure) (arguments : List Cell) → AlikeBelow number one two →
    weights.greatest_of_all weights.calls procedure.routine.body ≤ number → Alike (runs p one procedure arguments) (runs p two procedure arguments)
runs_alike p one two number procedure arguments alike small =
    after_same (ask Enter) (λ answer. after_same (push_frame (entered procedure arguments)) (λ done.
    bind_alike (exec_all_alike p procedure.result procedure.routine number one two alike procedure.routine.body small)
    (λ flow. itself {does = next drop_frame (result_of procedure.result flow)})))

given_of : {X : Type 0} (option : Option PlainProcedure) (go : PlainProcedure → Does X) (other : PlainProcedure → Does X) →
    ((procedure : PlainProcedure) → option ≡ Some procedure → Alike (go procedure) (other procedure)) → Alike (given option go) (given option other)
given_of None go other alike = itself {does = fails Range}
given_of (Some procedure) go other alike = alike procedure refl

calls_alike : (p : PlainProg) → CallSmaller 0 p.procedures → (depth other number : ℕ) → number < depth → number < other → (arguments : List Cell) →
    Alike (call_within p depth number arguments) (call_within p other number arguments)
calls_alike p smaller zero other number less few arguments = absurd (omega (arith, less))
calls_alike p smaller (suc depth) zero number less few arguments = absurd (omega (arith, few))
calls_alike p smaller (suc depth) (suc other) number less few arguments =
    given_of (slice_get p.procedures number) (λ procedure. runs p (call_within p depth) procedure arguments)
    (λ procedure. runs p (call_within p other) procedure arguments) (λ procedure at.
    runs_alike p (call_within p depth) (call_within p other) number procedure arguments
    (λ n small arguments. calls_alike p smaller depth other n (omega (arith, less, small)) (omega (arith, few, small)) arguments)
    (omega (arith, calls_smaller p.procedures 0 number procedure smaller at)))

pub calls_run : CallsRun
calls_run p smaller number zero procedure at less arguments store rest = absurd (omega (arith, less))
calls_run p smaller number (suc depth) procedure at less arguments store rest =
    rw at ((runs_alike p (call_within p depth) (call_within p (suc depth)) number procedure arguments
    (λ n small arguments. calls_alike p smaller depth (suc depth) n (omega (arith, less, small)) (omega (arith, less, small)) arguments)
    (omega (arith, calls_smaller p.procedures 0 number procedure smaller at))).same store rest)
