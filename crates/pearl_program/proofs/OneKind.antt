-- An expression has one kind at most, and so has a variable.
use Rattle.std.specs.Prelude.{◌≡◌, ◌⊎◌, ℕ, suc, ◌+◌, ◌*◌, ◌-ℤ◌, unsigned_abs, List, [], ◌∷◌, replicate, Option, Some, None, unwrap_or, slice_get}
use Rattle.std.proofs.Common.{inl, inr, refl, ap, ◌∙◌, sym, subst, arith}
use Rattle.pearl_value.specs.declared.kind.Kind.{Kind}
use Rattle.pearl_value.specs.declared.kind.Kind.TheVariants.{Fixed}
use Rattle.pearl_value.specs.declared.kind.CellKind.{CellKind}
use Rattle.pearl_value.specs.declared.kind.CellKind.TheVariants.{Plain, RefTo}
use Rattle.pearl_value.specs.Rows.{row1, row2}
use Rattle.pearl_program.specs.declared.expression.Target.TheVariants.{Leaf, Own, Param}
use Rattle.pearl_program.specs.declared.expression.Bound.{Bound}
use Rattle.pearl_program.specs.PlainExpressions.{PlainExpr, OfLiteral, OfRead, OfMonadic, OfDyadic, OfCall, OfNow, OfTry, PlainVariable, OfVariable, PlainExprs, NoExprs, MoreExprs}
use Rattle.pearl_program.specs.PlainPrograms.{PlainLeaf}
use Rattle.pearl_program.specs.Typing.{Signature, Around, elements, AreCells, IsLeafOf, IsParam, IsControl, HasKind, IsVariable}

pub some_one : {X : Type 0} {x y : X} → Some x ≡ Some y → x ≡ y
some_one {x = x} same = ap (λ o. unwrap_or o x) same

-- each list of bounds has an element
elements_some : (bounds : List Bound) → (n : ℕ) × (elements bounds ≡ suc n)
elements_some [] = (0, refl)
elements_some (bound ∷ rest) = by (elements rest) (elements_some rest)
  where
    by : (more : ℕ) → (n : ℕ) × (more ≡ suc n) → (n : ℕ) × ((unsigned_abs (bound.upper -ℤ bound.lower) + 1) * more ≡ suc n)
    by more some = (
      unsigned_abs (bound.upper -ℤ bound.lower) * suc some.0 + some.0,
      ap (λ m. (unsigned_abs (bound.upper -ℤ bound.lower) + 1) * m) some.1 ∙ omega arith,
    )

abbrev kind_of_cell : CellKind → Kind
kind_of_cell (Plain kind) = kind
kind_of_cell (RefTo kind) = kind

abbrev first_kind : List CellKind → Kind
first_kind [] = Fixed 0
first_kind (cell ∷ rest) = kind_of_cell cell

abbrev kind_if : Option CellKind → Kind
kind_if None = Fixed 0
kind_if (Some cell) = kind_of_cell cell

cells_one : (n : ℕ) (count : ℕ) (a b : Kind) → count ≡ suc n → replicate count (Plain a) ≡ replicate count (Plain b) → a ≡ b
cells_one n count a b is same = ap first_kind (subst (λ m. replicate m (Plain a) ≡ replicate m (Plain b)) is same)

leaf_one : (leaf : Option PlainLeaf) (bounds : List Bound) (a b : Kind) → IsLeafOf leaf bounds a → IsLeafOf leaf bounds b → a ≡ b
leaf_one None bounds a b h k = absurd h
leaf_one (Some leaf) bounds a b h k = sym h.0 ∙ k.0

param_one : (cell : Option CellKind) (bounds : List Bound) (subscripts : PlainExprs) (a b : Kind) →
    IsParam cell bounds subscripts a → IsParam cell bounds subscripts b → a ≡ b
param_one (Some (RefTo of)) [] NoExprs a b h k = sym h ∙ k
param_one (Some (RefTo of)) [] (MoreExprs e rest) a b h k = absurd h
param_one (Some (RefTo of)) (bound ∷ rest) subscripts a b h k = absurd h
param_one (Some (Plain of)) bounds subscripts a b h k = absurd h
param_one None bounds subscripts a b h k = absurd h

own_one : (cells : List CellKind) (cell : ℕ) (bounds : List Bound) (a b : Kind) →
    AreCells cells cell (elements bounds) (Plain a) → AreCells cells cell (elements bounds) (Plain b) → a ≡ b
own_one cells cell bounds a b h k =
    let some = elements_some bounds in cells_one some.0 (elements bounds) a b some.1 (sym h ∙ k)

pub one_variable : (around : Around) (variable : PlainVariable) (a b : Kind) →
    IsVariable around variable a → IsVariable around variable b → a ≡ b
one_variable around (OfVariable (Leaf number) bounds subscripts) a b h k =
    leaf_one (slice_get around.leaves number) bounds a b h.0 k.0
one_variable around (OfVariable (Own cell) bounds subscripts) a b h k = own_one around.cells cell bounds a b h.0.0 k.0.0
one_variable around (OfVariable (Param cell) bounds subscripts) a b h k =
    param_one (slice_get around.cells cell) bounds subscripts a b h k

-- the kind of a control variable
control_one : (around : Around) (variable : PlainVariable) (a b : Kind) →
    IsControl around variable a → IsControl around variable b → a ≡ b
control_one around (OfVariable (Own cell) [] NoExprs) a b h k = own_one around.cells cell [] a b h.1 k.1
control_one around (OfVariable (Own cell) [] (MoreExprs e rest)) a b h k = absurd h
control_one around (OfVariable (Own cell) (bound ∷ bounds) subscripts) a b h k = absurd h
control_one around (OfVariable (Leaf number) bounds subscripts) a b h k = absurd h
control_one around (OfVariable (Param cell) bounds subscripts) a b h k = absurd h

mixed_one : (around : Around) (variable : PlainVariable) (a b : Kind) →
    IsVariable around variable a → IsControl around variable b → a ≡ b
mixed_one around (OfVariable (Own cell) [] NoExprs) a b h k = own_one around.cells cell [] a b h.0.0 k.1
mixed_one around (OfVariable (Own cell) [] (MoreExprs e rest)) a b h k = absurd k
mixed_one around (OfVariable (Own cell) (bound ∷ bounds) subscripts) a b h k = absurd k
mixed_one around (OfVariable (Leaf number) bounds subscripts) a b h k = absurd k
mixed_one around (OfVariable (Param cell) bounds subscripts) a b h k = absurd k

read_one : (around : Around) (variable : PlainVariable) (a b : Kind) →
    (IsVariable around variable a ⊎ IsControl around variable a) → (IsVariable around variable b ⊎ IsControl around variable b) → a ≡ b
read_one around variable a b (inl h) (inl k) = one_variable around variable a b h k
read_one around variable a b (inl h) (inr k) = mixed_one around variable a b h k
read_one around variable a b (inr h) (inl k) = sym (mixed_one around variable b a k h)
read_one around variable a b (inr h) (inr k) = control_one around variable a b h k

pub one_kind : (around : Around) (e : PlainExpr) (a b : Kind) → HasKind around e a → HasKind around e b → a ≡ b
one_kind around (OfLiteral value) a b h k = sym h.same_kind ∙ k.same_kind
one_kind around (OfRead variable) a b h k = read_one around variable a b h k
one_kind around (OfMonadic op operand) a b h k =
    some_one (sym h.2 ∙ ap (λ kind. row1 op kind) (one_kind around operand h.0 k.0 h.1 k.1) ∙ k.2)
one_kind around (OfDyadic op left right) a b h k =
    some_one (sym h.4 ∙ ap (λ kind. row2 op kind h.1) (one_kind around left h.0 k.0 h.2 k.2) ∙
    ap (λ kind. row2 op k.0 kind) (one_kind around right h.1 k.1 h.3 k.3) ∙ k.4)
one_kind around (OfCall procedure arguments) a b h k =
    some_one (sym h.3 ∙ ap (λ (signature : Signature). signature.result) (some_one (sym h.1 ∙ k.1)) ∙ k.3)
one_kind around OfNow a b h k = h ∙ sym k
one_kind around (OfTry semaphore) a b h k = h.1 ∙ sym k.1

pub one_of_both :
    ((around : Around) (e : PlainExpr) (a b : Kind) → HasKind around e a → HasKind around e b → a ≡ b) ×
    ((around : Around) (variable : PlainVariable) (a b : Kind) → IsVariable around variable a → IsVariable around variable b → a ≡ b)
one_of_both = (one_kind, one_variable)
