-- Comparisons of kinds and of lists of kinds, and lists that lie the other way round.
use Rattle.std.proofs.Common.{◌≡◌, ℕ, ◌-◌, ◌≤◌, List, [], ◌∷◌, ◌++◌, length, take, drop, reverse, refl, sym, ap, ◌∙◌, arith, Bool, true, false, inl, inr, eqb-true, eq-eqb, take-append-drop, length-drop}
use Rattle.std.specs.Prelude.{◌&&◌}
use Rattle.std.proofs.lemmas.Bool.{cases_Bool, cases_lt}
use Rattle.std.proofs.lemmas.List.{reverse-append, reverse-reverse, length-reverse, drop_at, take_at, take_all}
use Rattle.std.proofs.Math.ListN.{drop_of_length-le}
use Rattle.pearl_value.specs.declared.kind.Kind.{Kind}
use Rattle.pearl_value.specs.declared.kind.Kind.TheVariants as kind
use Rattle.pearl_value.specs.declared.kind.CellKind.{CellKind}
use Rattle.pearl_value.specs.declared.kind.CellKind.TheVariants.{Plain, RefTo}
use Rattle.pearl_instructions.specs.Operands.{Shape, same_kind, same_cell, same_shape}

pub and_true : (a b : Bool) → a && b ≡ true → (a ≡ true) × (b ≡ true)
and_true true b e = (refl, e)
and_true false b e = cc

pub same_kind_true : (a b : Kind) → same_kind a b ≡ true → a ≡ b
same_kind_true (kind.Fixed a) (kind.Fixed b) e = ap kind.Fixed (eqb-true a b e)
same_kind_true (kind.Bits a) (kind.Bits b) e = ap kind.Bits (eqb-true a b e)
same_kind_true (kind.Chars a) (kind.Chars b) e = ap kind.Chars (eqb-true a b e)
same_kind_true kind.Clock kind.Clock e = refl
same_kind_true kind.Span kind.Span e = refl
same_kind_true a b e = cc

pub same_cell_true : (a b : CellKind) → same_cell a b ≡ true → a ≡ b
same_cell_true (Plain a) (Plain b) e = ap Plain (same_kind_true a b e)
same_cell_true (RefTo a) (RefTo b) e = ap RefTo (same_kind_true a b e)
same_cell_true (Plain a) (RefTo b) e = cc
same_cell_true (RefTo a) (Plain b) e = cc

pub same_kind_refl : (a : Kind) → same_kind a a ≡ true
same_kind_refl (kind.Fixed a) = eq-eqb a a refl
same_kind_refl (kind.Bits a) = eq-eqb a a refl
same_kind_refl (kind.Chars a) = eq-eqb a a refl
same_kind_refl kind.Clock = refl
same_kind_refl kind.Span = refl

pub same_cell_refl : (a : CellKind) → same_cell a a ≡ true
same_cell_refl (Plain a) = same_kind_refl a
same_cell_refl (RefTo a) = same_kind_refl a

pub same_shape_refl : (s : Shape) → same_shape s s ≡ true
same_shape_refl [] = refl
same_shape_refl (k ∷ s) = ap (λ b. b && same_shape s s) (same_cell_refl k) ∙ same_shape_refl s

pub same_shape_true : (xs ys : Shape) → same_shape xs ys ≡ true → xs ≡ ys
same_shape_true [] [] e = refl
same_shape_true [] (y ∷ ys) e = cc
same_shape_true (x ∷ xs) [] e = cc
same_shape_true (x ∷ xs) (y ∷ ys) e =
    let p = and_true (same_cell x y) (same_shape xs ys) e in
    let a : x ≡ y = same_cell_true x y p.0 in
    let b : xs ≡ ys = same_shape_true xs ys p.1 in
    rw (a, b) refl

pub other_lengths : (xs ys : Shape) → (length xs ≡ length ys → ⊥) → same_shape xs ys ≡ false
other_lengths xs ys h = elim (cases_Bool (same_shape xs ys)) [
  | inl e ↦ absurd (h (ap length (same_shape_true xs ys e)))
  | inr e ↦ e
]

reverse_same : {A : Type 0} (xs ys : List A) → reverse xs ≡ reverse ys → xs ≡ ys
reverse_same xs ys e = sym (reverse-reverse xs) ∙ (ap reverse e ∙ reverse-reverse ys)

-- both lists the other way round
pub same_reversed : (xs ys : Shape) → same_shape xs ys ≡ same_shape (reverse xs) (reverse ys)
same_reversed xs ys = elim (cases_Bool (same_shape xs ys)) [
  | inl e ↦ e ∙ sym (ap (λ z. same_shape (reverse xs) (reverse z)) (sym (same_shape_true xs ys e)) ∙ same_shape_refl (reverse xs))
  | inr e ↦ elim (cases_Bool (same_shape (reverse xs) (reverse ys))) [
    | inl h ↦ (let is : xs ≡ ys = reverse_same xs ys (same_shape_true (reverse xs) (reverse ys) h) in
        let same : same_shape xs ys ≡ true = ap (same_shape xs) (sym is) ∙ same_shape_refl xs in
        absurd (cc))
    | inr h ↦ e ∙ sym h
  ]
]

parts : {A : Type 0} (m : ℕ) (ys : List A) → reverse ys ≡ reverse (drop m ys) ++ reverse (take m ys)
parts m ys = ap reverse (sym (take-append-drop m ys)) ∙ reverse-append (take m ys) (drop m ys)

behind : {A : Type 0} (n : ℕ) (ys : List A) → n ≤ length ys → length (reverse (drop (length ys - n) ys)) ≡ n
behind n ys h = length-reverse (drop (length ys - n) ys) ∙ (length-drop (length ys - n) ys ∙ omega (arith, h))

-- the first ones, of a list that lies the other way round
pub top_is : {A : Type 0} (n : ℕ) (ys : List A) → drop (length ys - n) ys ≡ reverse (take n (reverse ys))
top_is n ys = elim (cases_lt (length ys) n) [
  | inl less ↦ (let none : length ys - n ≡ 0 = omega (arith, less) in
      let back : length (reverse ys) ≤ n = omega (arith, less, length-reverse ys) in
      ap (λ m. drop m ys) none ∙ sym (ap reverse (take_all n (reverse ys) back) ∙ reverse-reverse ys))
  | inr more ↦ sym (ap (λ zs. reverse (take n zs)) (parts (length ys - n) ys)
      ∙ (ap reverse (take_at (reverse (drop (length ys - n) ys)) (reverse (take (length ys - n) ys)) n (behind n ys more))
      ∙ reverse-reverse (drop (length ys - n) ys)))
]

-- and without them
pub rest_is : {A : Type 0} (n : ℕ) (ys : List A) → reverse (take (length ys - n) ys) ≡ drop n (reverse ys)
rest_is n ys = elim (cases_lt (length ys) n) [
  | inl less ↦ (let none : length ys - n ≡ 0 = omega (arith, less) in
      let back : length (reverse ys) ≤ n = omega (arith, less, length-reverse ys) in
      ap (λ m. reverse (take m ys)) none ∙ sym (drop_of_length-le (reverse ys) back))
  | inr more ↦ sym (ap (drop n) (parts (length ys - n) ys)
      ∙ drop_at (reverse (drop (length ys - n) ys)) (reverse (take (length ys - n) ys)) n (behind n ys more))
]
