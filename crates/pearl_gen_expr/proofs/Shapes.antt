-- Parts of the code in which no rule fails, one behind the other.
use Rattle.std.proofs.Common.{◌≡◌, ℕ, suc, ◌+◌, ◌<◌, ◌≤◌, ◌⊎◌, inl, inr, Bool, true, false, [], Option, Some, None, slice_get, length, refl, sym, ap, ◌∙◌, subst, arith, eq-eqb, ltb-true, ltb-false, ◌∷◌}
use Rattle.std.specs.List.{list_all}
use Rattle.pearl_value.specs.declared.kind.Kind.{Kind}
use Rattle.pearl_value.specs.declared.kind.Kind.TheVariants as kind
use Rattle.pearl_value.specs.declared.kind.CellKind.{CellKind}
use Rattle.pearl_value.specs.declared.kind.CellKind.TheVariants.{Plain, RefTo}
use Rattle.std.specs.Prelude.{◌&&◌, ◌||◌, not, nat_lt, if◌then◌else◌}
use Rattle.pearl_instructions.specs.declared.instr.Instr.{Instr}
use Rattle.pearl_instructions.specs.declared.object.Code.{Code}
use Rattle.pearl_instructions.specs.declared.object.Parts.{Parts as Object}
use Rattle.pearl_instructions.specs.Operands.{Shape, asked, same_kind, same_cell, same_shape, v2}
use Rattle.pearl_instructions.specs.Named.{v1}
use Rattle.pearl_instructions.specs.Kinds.{v3, v4, v5, shape_after}
use Rattle.pearl_instructions.specs.Valid.{goes_on, targets, is_named, stated, passed_on, shape_or, shape_before, v6, v7, v8, v10, v11, v12, keep, judged, judged_at, is_turn}
use Rattle.pearl_gen_expr.specs.Shapes.{IsQuiet, IsOpen, Keeps}

-- the rules that are asked of an instruction alone
pub record Fits (o : Object) (r : ℕ) (code : Code) (instr : Instr) (s : Shape) : Type 0 where
  pub one : v1 o code instr ≡ true
  pub two : v2 (asked o r instr) s ≡ true
  pub three : v3 instr s ≡ true
  pub four : v4 o code instr s ≡ true
  pub five : v5 o code instr ≡ true
  pub eight : v8 o r instr ≡ true
  pub ten : v10 o r instr s ≡ true
  pub eleven : v11 o code instr s ≡ true
  pub twelve : v12 o code instr s ≡ true

kept : (test : Bool) (rule : ℕ) (later : Option ℕ) → test ≡ true → later ≡ None → keep test rule later ≡ None
kept true rule later e none = none
kept false rule later e none = cc

-- a quiet place is open, whatever lies there
pub quiet_open : (code : Code) (place : ℕ) (s : Shape) → IsQuiet code place → IsOpen code place s
quiet_open code place s quiet = record { named = inl quiet.named; stated = quiet.stated }

next_shape : (o : Object) (r : ℕ) (code : Code) (place : ℕ) (instr : Instr) (after : Shape) → IsOpen code (suc place) after → slice_get code.instructions place ≡ Some instr →
    goes_on instr ≡ true → shape_after o r code instr (shape_before o r code place) ≡ after → shape_before o r code (suc place) ≡ after
next_shape o r code place instr after quiet is on same = by (stated code.shapes (suc place)) (is_named code.instructions (suc place)) (slice_get code.instructions place) quiet.stated quiet.named is
  where
    last : (test : Bool) → test ≡ true → (if test then shape_after o r code instr (shape_before o r code place) else []) ≡ after
    last true e = same
    last false e = cc

    by : (found : Option Shape) (test : Bool) (here : Option Instr) → found ≡ None → (test ≡ false) ⊎ (after ≡ []) → here ≡ Some instr →
        shape_or found (if test then [] else passed_on o r code here (shape_before o r code place)) ≡ after
    by (Some s) test here none free at = cc
    by None true here none (inl free) at = cc
    by None true here none (inr empty) at = sym empty
    by None false here none free at = ap (λ here. passed_on o r code here (shape_before o r code place)) at ∙ last (goes_on instr) on

same_kind_self : (k : Kind) → same_kind k k ≡ true
same_kind_self (kind.Fixed a) = eq-eqb a a refl
same_kind_self (kind.Bits a) = eq-eqb a a refl
same_kind_self (kind.Chars a) = eq-eqb a a refl
same_kind_self kind.Clock = refl
same_kind_self kind.Span = refl

pub same_cell_self : (k : CellKind) → same_cell k k ≡ true
same_cell_self (Plain a) = same_kind_self a
same_cell_self (RefTo a) = same_kind_self a

pub and_is : (a b : Bool) → a ≡ true → b ≡ true → a && b ≡ true
and_is true b e f = f
and_is false b e f = cc

pub or_is : (a b : Bool) → b ≡ true → a || b ≡ true
or_is true b e = refl
or_is false b e = e

pub same_shape_self : (s : Shape) → same_shape s s ≡ true
same_shape_self [] = refl
same_shape_self (k ∷ s) = and_is (same_cell k k) (same_shape s s) (same_cell_self k) (same_shape_self s)

-- an instruction that only goes on keeps to the shapes, and goes nowhere else
goes_well : (o : Object) (r : ℕ) (code : Code) (place : ℕ) (instr : Instr) (left : Shape) → targets instr ≡ [] → shape_before o r code (place + 1) ≡ left →
    v6 o r code place instr left ≡ true
goes_well o r code place instr left none next =
    ap (λ list. list_all (λ t. same_shape (shape_before o r code t) left) list
    && (not (goes_on instr && nat_lt (place + 1) (length code.instructions)) || same_shape (shape_before o r code (place + 1)) left)) none
    ∙ or_is (not (goes_on instr && nat_lt (place + 1) (length code.instructions))) (same_shape (shape_before o r code (place + 1)) left)
    (ap (λ s. same_shape s left) next ∙ same_shape_self left)

goes_forward : (code : Code) (place : ℕ) (instr : Instr) → targets instr ≡ [] → v7 code place instr ≡ true
goes_forward code place instr none = ap (list_all (λ t. nat_lt place t || is_turn (slice_get code.instructions t))) none

-- no rule fails where those that are asked of the instruction alone are kept, and those on where it goes
pub judged_well : (o : Object) (r : ℕ) (code : Code) (place : ℕ) (instr : Instr) (s : Shape) → Fits o r code instr s →
    v6 o r code place instr (shape_after o r code instr s) ≡ true → v7 code place instr ≡ true → judged o r code place instr s ≡ None
judged_well o r code place instr s fits six seven =
    kept (v1 o code instr) 1 _ fits.one (kept (v2 (asked o r instr) s) 2 _ fits.two (kept (v3 instr s) 3 _ fits.three (kept (v4 o code instr s) 4 _ fits.four
    (kept (v5 o code instr) 5 _ fits.five (kept (v6 o r code place instr (shape_after o r code instr s)) 6 _ six (kept (v7 code place instr) 7 _ seven
    (kept (v8 o r instr) 8 _ fits.eight (kept (v10 o r instr s) 10 _ fits.ten (kept (v11 o code instr s) 11 _ fits.eleven
    (kept (v12 o code instr s) 12 None fits.twelve refl))))))))))

-- one instruction, where no rule fails at it
pub here_keeps : (o : Object) (r : ℕ) (code : Code) (place : ℕ) (instr : Instr) (s after : Shape) → slice_get code.instructions place ≡ Some instr →
    (shape_before o r code place ≡ s → shape_before o r code (place + 1) ≡ after) → (shape_before o r code place ≡ s → judged o r code place instr s ≡ None) →
    Keeps o r code place (place + 1) s after
here_keeps o r code place instr s after is next well = record {
  forward = omega arith;
  shape = next;
  sound = λ before i from to. let here : place ≡ i = omega (arith, from, to) in
      subst (λ i. judged_at o r code i (slice_get code.instructions i) ≡ None) here
      (ap (judged_at o r code place) is ∙ (ap (judged o r code place instr) before ∙ well before));
}

-- one that only goes on
pub open_keeps : (o : Object) (r : ℕ) (code : Code) (place : ℕ) (instr : Instr) (s after : Shape) → slice_get code.instructions place ≡ Some instr → IsOpen code (place + 1) after →
    goes_on instr ≡ true → targets instr ≡ [] → Fits o r code instr s → shape_after o r code instr s ≡ after → Keeps o r code place (place + 1) s after
open_keeps o r code place instr s after is clear on none fits same =
    let next : suc place ≡ place + 1 = omega arith in
    let goes : shape_before o r code place ≡ s → shape_before o r code (place + 1) ≡ after =
    λ before. ap (shape_before o r code) (sym next)
    ∙ next_shape o r code place instr after (subst (λ at. IsOpen code at after) (sym next) clear) is on (ap (shape_after o r code instr) before ∙ same) in
    here_keeps o r code place instr s after is goes (λ before. judged_well o r code place instr s fits
    (goes_well o r code place instr (shape_after o r code instr s) none (goes before ∙ sym same)) (goes_forward code place instr none))

pub one_keeps : (o : Object) (r : ℕ) (code : Code) (place : ℕ) (instr : Instr) (s : Shape) → slice_get code.instructions place ≡ Some instr → IsQuiet code (place + 1) →
    goes_on instr ≡ true → targets instr ≡ [] → Fits o r code instr s → Keeps o r code place (place + 1) s (shape_after o r code instr s)
one_keeps o r code place instr s is quiet on none fits =
    open_keeps o r code place instr s (shape_after o r code instr s) is (quiet_open code (place + 1) (shape_after o r code instr s) quiet) on none fits refl

-- one part behind the other
pub both_keep : (o : Object) (r : ℕ) (code : Code) (from middle to : ℕ) (before between after : Shape) → Keeps o r code from middle before between → Keeps o r code middle to between after →
    Keeps o r code from to before after
both_keep o r code from middle to before between after one two = record {
  forward = let less = one.forward in let more = two.forward in omega (arith, less, more);
  shape = λ e. two.shape (one.shape e);
  sound = λ e i low high. by_place i (nat_lt i middle) refl e low high;
}
  where
    by_place : (i : ℕ) (test : Bool) → nat_lt i middle ≡ test → shape_before o r code from ≡ before → from ≤ i → i < to → judged_at o r code i (slice_get code.instructions i) ≡ None
    by_place i true t e low high = one.sound e i low (ltb-true i middle t)
    by_place i false t e low high = two.sound (one.shape e) i (ltb-false i middle t) high
