-- Trees of the parts that go on with what was read.
use Rattle.std.proofs.Common.{◌≡◌, ℕ, ◌+◌, ◌<◌, ◌≤◌, ◌^◌, max, List, length, Box, Global, refl, ◌∙◌, arith, ◌⊎◌, inl}
use Rattle.std.proofs.Common.{inr}
use denote.RawPtr.{null_ptr}
use Rattle.pearl_tree.specs.declared.parts.Parts.{Parts}
use Rattle.pearl_value.specs.declared.operator.Dyad.{Dyad}
use Rattle.pearl_value.specs.declared.operator.Dyad.TheVariants as dyad
use Rattle.pearl_tree.specs.declared.expression.Dyadic.{Dyadic}
use Rattle.pearl_tree.specs.declared.expression.Operand.{Operand}
use Rattle.pearl_tree.specs.declared.expression.Expr.{Expr, Operand', Dyadic'}
use Rattle.pearl_tree.specs.declared.expression.Expr as tree
use Rattle.pearl_tree.specs.declared.token.Token.{Token}
use Rattle.pearl_tree.specs.Standing.{IsAt}
use Rattle.pearl_tree.specs.Expressions.{SpellsTerms, HasDyad, rank, rank_of, dyad_count}
use Rattle.pearl_parse_expr.proofs.Reaching.{order}

abbrev pub alloc : Global
alloc = record { memory = record { seal = tt } }

-- a list as a node holds it
abbrev pub parts_of : {X : Type 0} → (xs : List X) → length xs < 2 ^ 63 → Parts X
parts_of xs small = record {
  items = record {
    ptr = null_ptr;
    len = length xs;
    cap = length xs;
    alloc = alloc;
    items = xs;
    ok = (refl, omega arith);
    small = small;
  };
}

abbrev pub boxed : {X : Type 0} → X → Box X Global
boxed x = record { ptr = null_ptr; alloc = alloc; value = x }

rank_positive : (operator : Dyad) → 0 < rank operator
rank_positive dyad.Pow = omega arith
rank_positive dyad.Mul = omega arith
rank_positive dyad.Div = omega arith
rank_positive dyad.Rem = omega arith
rank_positive dyad.Cat = omega arith
rank_positive dyad.Add = omega arith
rank_positive dyad.Sub = omega arith
rank_positive dyad.Cshift = omega arith
rank_positive dyad.Shift = omega arith
rank_positive dyad.Lt = omega arith
rank_positive dyad.Gt = omega arith
rank_positive dyad.Le = omega arith
rank_positive dyad.Ge = omega arith
rank_positive dyad.Eq = omega arith
rank_positive dyad.Ne = omega arith
rank_positive dyad.And = omega arith
rank_positive dyad.Or = omega arith
rank_positive dyad.Exor = omega arith

-- a tree with this many operators outside its brackets, of this rank
pub record Ranked (tokens : List Token) (depth from to count rank : ℕ) : Type 0 where
  pub expr : Expr
  pub spelled : SpellsTerms tokens depth from expr to
  pub counted : dyad_count expr ≡ count
  pub ranked : rank_of expr ≡ rank

pub first_at : (tokens : List Token) (depth from : ℕ) (x : Expr) (to : ℕ) → SpellsTerms tokens depth from x to →
    (place : ℕ) × IsAt tokens from place
first_at tokens depth from (Operand' monadics part place) to h = (place, h.1)
first_at tokens depth from (Dyadic' _ left dyadic _ right place) to h = (place, h.1)

between : (tokens : List Token) (depth from m to : ℕ) (left : Expr) (dyadic : Dyadic) (right : Expr) →
    SpellsTerms tokens depth from left m →
    HasDyad tokens m dyadic.operator → IsAt tokens m dyadic.place → SpellsTerms tokens depth (m + 1) right to →
    rank_of left ≤ rank dyadic.operator → rank_of right < rank dyadic.operator →
    Ranked tokens depth from to (dyad_count left + dyad_count right + 1) (rank dyadic.operator)
between tokens depth from m to left dyadic right h has at g below above =
    let first = first_at tokens depth from left m h in
    record {
      expr = tree.Dyadic (boxed left) dyadic (boxed right) first.0;
      spelled = (m, first.1, h, has, at, g, below, above);
      counted = refl;
      ranked = refl;
    }

recounted : (tokens : List Token) (depth from to n m r q : ℕ) → n ≡ m → r ≡ q → Ranked tokens depth from to n r →
    Ranked tokens depth from to m q
recounted tokens depth from to n m r q same ranks j = record {
  expr = j.expr;
  spelled = j.spelled;
  counted = j.counted ∙ same;
  ranked = j.ranked ∙ ranks;
}

pub joins : (tokens : List Token) (depth from m to : ℕ) (left : Expr) (dyadic : Dyadic) (right : Operand) →
    SpellsTerms tokens depth from left m →
    HasDyad tokens m dyadic.operator → IsAt tokens m dyadic.place →
    SpellsTerms tokens depth (m + 1) (tree.Operand right) to →
    Ranked tokens depth from to (dyad_count left + 1) (max (rank_of left) (rank dyadic.operator))
joins tokens depth from m to (Operand' monadics part place) dyadic right h has at g =
    recounted tokens depth from to _ _ _ _ (omega arith) (omega arith)
    (between tokens depth from m to (Operand' monadics part place) dyadic (tree.Operand right) h has at g (omega arith)
    (rank_positive dyadic.operator))
joins tokens depth from m to (Dyadic' p first upper q second place) dyadic right h has at g =
    by (order (rank dyadic.operator) (rank upper.operator)) (joins tokens depth (h.0 + 1) m to second
    dyadic right h.5 has at g)
  where
    by : (rank dyadic.operator < rank upper.operator) ⊎ (rank upper.operator ≤ rank dyadic.operator) →
        Ranked tokens depth (h.0 + 1) to (dyad_count second + 1) (max (rank_of second) (rank dyadic.operator)) →
        Ranked tokens depth from to (dyad_count (Dyadic' p first upper q second place) + 1)
        (max (rank upper.operator) (rank dyadic.operator))
    by (inl below) inner =
        let less : rank_of inner.expr < rank upper.operator = omega (arith, inner.ranked, h.7) in
        recounted tokens depth from to _ _ _ _ (omega (arith, inner.counted)) (omega arith)
        (between tokens depth from h.0 to first upper inner.expr h.2 h.3 h.4 inner.spelled h.6 less)
    by (inr above) inner =
        recounted tokens depth from to _ _ _ _ (omega arith) (omega arith)
        (between tokens depth from m to (Dyadic' p first upper q second place) dyadic (tree.Operand right) h has at g
        above (rank_positive dyadic.operator))
