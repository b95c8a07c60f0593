-- What follows from tests that hold.
use Rattle.std.proofs.Common.{◌≡◌, ℕ, zero, suc, ◌<◌, List, [], ◌∷◌, Option, Some, None, length, slice_get, refl, ap, subst, arith, Bool, true, false, eqb-true}
use Rattle.std.proofs.lemmas.Option.{same_Some}
use Rattle.std.specs.Prelude.{◌&&◌, ◌||◌, not, is_some}
use Rattle.std.specs.List.{list_all}
use Rattle.pearl_value.specs.declared.kind.Kind.{Kind}
use Rattle.pearl_value.specs.declared.kind.Kind.TheVariants as kind
use Rattle.pearl_value.specs.declared.kind.CellKind.{CellKind}
use Rattle.pearl_value.specs.declared.kind.CellKind.TheVariants.{Plain, RefTo}
use Rattle.pearl_instructions.specs.declared.instr.Instr.{Instr}
use Rattle.pearl_instructions.specs.Operands.{Shape, same_kind, same_cell, same_shape}
use Rattle.pearl_instructions.specs.Valid.{goes_on, is_closed, keep}

pub and_true : (a b : Bool) → a && b ≡ true → (a ≡ true) × (b ≡ true)
and_true true b e = (refl, e)
and_true false b e = cc

pub or_true : (a b : Bool) → a || b ≡ true → a ≡ false → b ≡ true
or_true true b e h = cc
or_true false b e h = e

pub not_true : (b : Bool) → not b ≡ true → b ≡ false
not_true true e = cc
not_true false e = refl

pub not_both : (b : Bool) → not b ≡ true → b ≡ true → ⊥
not_both true e h = cc
not_both false e h = cc

pub is_some_true : {A : Type 0} (o : Option A) → is_some o ≡ true → (x : A) × (o ≡ Some x)
is_some_true None e = cc
is_some_true (Some x) e = (x, refl)

pub same_kind_true : (a b : Kind) → same_kind a b ≡ true → a ≡ b
same_kind_true (kind.Fixed a) (kind.Fixed b) e = ap kind.Fixed (eqb-true a b e)
same_kind_true (kind.Bits a) (kind.Bits b) e = ap kind.Bits (eqb-true a b e)
same_kind_true (kind.Chars a) (kind.Chars b) e = ap kind.Chars (eqb-true a b e)
same_kind_true kind.Clock kind.Clock e = refl
same_kind_true kind.Span kind.Span e = refl
same_kind_true a b e = cc

pub same_cell_true : (a b : CellKind) → same_cell a b ≡ true → a ≡ b
same_cell_true (Plain a) (Plain b) e = ap Plain (same_kind_true a b e)
same_cell_true (RefTo a) (RefTo b) e = ap RefTo (same_kind_true a b e)
same_cell_true (Plain a) (RefTo b) e = cc
same_cell_true (RefTo a) (Plain b) e = cc

pub same_shape_true : (xs ys : Shape) → same_shape xs ys ≡ true → xs ≡ ys
same_shape_true [] [] e = refl
same_shape_true [] (y ∷ ys) e = cc
same_shape_true (x ∷ xs) [] e = cc
same_shape_true (x ∷ xs) (y ∷ ys) e =
    let p = and_true (same_cell x y) (same_shape xs ys) e in
    let a : x ≡ y = same_cell_true x y p.0 in
    let b : xs ≡ ys = same_shape_true xs ys p.1 in
    rw (a, b) refl

pub keep_none : (b : Bool) (rule : ℕ) (more : Option ℕ) → keep b rule more ≡ None → (b ≡ true) × (more ≡ None)
keep_none true rule more e = (refl, e)
keep_none false rule more e = cc

-- what holds of all holds of each
pub all_at : {A : Type 0} (test : A → Bool) (xs : List A) (n : ℕ) (x : A) → list_all test xs ≡ true → slice_get xs n ≡ Some x → test x ≡ true
all_at test [] n x e h = cc
all_at test (y ∷ xs) zero x e h = subst (λ y. test y ≡ true) (same_Some y x h) (and_true (test y) (list_all test xs) e).0
all_at test (y ∷ xs) (suc n) x e h = all_at test xs n x (and_true (test y) (list_all test xs) e).1 h

-- an instruction that goes on isn't the last one
pub closed_more : (is : List Instr) (i : ℕ) (instr : Instr) → is_closed is ≡ true → slice_get is i ≡ Some instr → goes_on instr ≡ true → suc i < length is
closed_more [] i instr st e g = cc
closed_more (a ∷ []) zero instr st e g =
    let same : a ≡ instr = cc in
    absurd (not_both (goes_on instr) (subst (λ a. not (goes_on a) ≡ true) same st) g)
closed_more (a ∷ []) (suc i) instr st e g = cc
closed_more (a ∷ b ∷ is) zero instr st e g = omega arith
closed_more (a ∷ b ∷ is) (suc i) instr st e g = let more = closed_more (b ∷ is) i instr st e g in omega (arith, more)

pub closed_some : (is : List Instr) → is_closed is ≡ true → 0 < length is
closed_some [] e = cc
closed_some (i ∷ is) e = omega arith
