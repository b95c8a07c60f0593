-- Expressions are the same where calls of the procedures that they name are.
use Rattle.std.specs.Prelude.{ℕ, ◌<◌, ◌≤◌, max, List, Option, slice_get, drop}
use Rattle.std.proofs.Common.{arith}
use Rattle.pearl_value.specs.declared.kind.Kind.{Kind}
use Rattle.pearl_value.specs.declared.kind.CellKind.{CellKind}
use Rattle.pearl_value.specs.declared.cell.Cell.{Cell}
use Rattle.pearl_program.specs.PlainExpressions.{PlainExpr, OfLiteral, OfRead, OfMonadic, OfDyadic, OfCall, OfNow, OfTry, PlainVariable, OfVariable, PlainExprs, NoExprs, MoreExprs, PlainArgument, OfValue, OfIdent, PlainArguments, NoArguments, MoreArguments}
use Rattle.pearl_program.specs.PlainPrograms.{PlainRoutine, PlainProg}
use Rattle.pearl_program.specs.Weights as weights
use Rattle.pearl_meaning.specs.Evaluation.{Does}
use Rattle.pearl_meaning.specs.Setting.{Setting, params_of}
use Rattle.pearl_meaning.specs.Values.{calls, eval, taken, eval_all, hand_over, handed}
use Rattle.pearl_meaning.specs.Programs.{setting_of}
use Rattle.pearl_meaning.proofs.Alike.{Alike, itself, bind_alike, given_alike}

abbrev pub Calls : Type 0
Calls = ℕ → List Cell → Does (Option Cell)

-- calls of procedures with smaller numbers are the same
abbrev pub AlikeBelow : ℕ → Calls → Calls → Type 0
AlikeBelow bound one two = (number : ℕ) → number < bound → (arguments : List Cell) → Alike (one number arguments) (two number arguments)

pub less_left : (a b bound : ℕ) → max a b ≤ bound → a ≤ bound
less_left a b bound less = omega (arith, less)

pub less_right : (a b bound : ℕ) → max a b ≤ bound → b ≤ bound
less_right a b bound less = omega (arith, less)

module _ (p : PlainProg) (result : Option Kind) (routine : PlainRoutine) (bound : ℕ) (one two : Calls) (alike : AlikeBelow bound one two) where
  abbrev before : Setting
  before = setting_of p one result routine

  abbrev behind : Setting
  behind = setting_of p two result routine

  pub calls_alike : (number : ℕ) {arguments others : List CellKind → Does (List Cell)} → number < bound →
      ((params : List CellKind) → Alike (arguments params) (others params)) → Alike (calls before number arguments) (calls behind number others)
  calls_alike number less same = given_alike (slice_get p.procedures number) (λ procedure.
      bind_alike (same (params_of procedure)) (λ xs. alike number less xs))

  mutual
    pub eval_alike : (e : PlainExpr) → weights.of_expr weights.calls e ≤ bound → Alike (eval before e) (eval behind e)
    eval_alike (OfLiteral value) less = itself
    eval_alike (OfRead variable) less = bind_alike (taken_alike variable (omega (arith, less))) (λ r. itself)
    eval_alike (OfMonadic op operand) less = bind_alike (eval_alike operand less) (λ x. itself)
    eval_alike (OfDyadic op left right) less =
        bind_alike (eval_alike left (less_left (weights.of_expr weights.calls left) (weights.of_expr weights.calls right) bound less)) (λ x.
        bind_alike (eval_alike right (less_right (weights.of_expr weights.calls left) (weights.of_expr weights.calls right) bound less)) (λ y. itself))
    eval_alike (OfCall procedure arguments) less =
        bind_alike (calls_alike procedure (omega (arith, less)) (λ params. hand_over_alike params arguments (omega (arith, less)))) (λ result. itself)
    eval_alike OfNow less = itself
    eval_alike (OfTry semaphore) less = itself

    pub taken_alike : (variable : PlainVariable) → weights.of_variable weights.calls variable ≤ bound → Alike (taken before variable) (taken behind variable)
    taken_alike (OfVariable target bounds subscripts) less = bind_alike (all_alike subscripts less) (λ xs. itself)

    pub all_alike : (es : PlainExprs) → weights.of_exprs weights.calls es ≤ bound → Alike (eval_all before es) (eval_all behind es)
    all_alike NoExprs less = itself
    all_alike (MoreExprs e rest) less =
        bind_alike (eval_alike e (less_left (weights.of_expr weights.calls e) (weights.of_exprs weights.calls rest) bound less)) (λ x.
        bind_alike (all_alike rest (less_right (weights.of_expr weights.calls e) (weights.of_exprs weights.calls rest) bound less)) (λ xs. itself))

    pub hand_over_alike : (params : List CellKind) (arguments : PlainArguments) → weights.of_arguments weights.calls arguments ≤ bound →
        Alike (hand_over before params arguments) (hand_over behind params arguments)
    hand_over_alike params NoArguments less = itself
    hand_over_alike params (MoreArguments argument rest) less =
        bind_alike (handed_alike (slice_get params 0) argument
        (less_left (weights.of_argument weights.calls argument) (weights.of_arguments weights.calls rest) bound less)) (λ x.
        bind_alike (hand_over_alike (drop 1 params) rest
        (less_right (weights.of_argument weights.calls argument) (weights.of_arguments weights.calls rest) bound less)) (λ xs. itself))

    handed_alike : (param : Option CellKind) (argument : PlainArgument) → weights.of_argument weights.calls argument ≤ bound →
        Alike (handed before param argument) (handed behind param argument)
    handed_alike param (OfValue e) less = bind_alike (eval_alike e less) (λ x. itself)
    handed_alike param (OfIdent variable) less = taken_alike variable (omega (arith, less))
