-- Each expression ends behind the token at which it begins.
use Rattle.std.proofs.Common.{ℕ, ◌+◌, ◌-◌, ◌<◌, ◌≤◌, List, [], ◌∷◌, Option, Some, None, arith}
use Rattle.pearl_tree.specs.declared.name.Number.{Number}
use Rattle.pearl_tree.specs.declared.expression.Monadic.{Monadic}
use Rattle.pearl_tree.specs.declared.expression.Expr.{Expr, Operand', Dyadic'}
use Rattle.pearl_tree.specs.declared.expression.Primary.{Primary}
use Rattle.pearl_tree.specs.declared.expression.Primary as primary
use Rattle.pearl_tree.specs.declared.expression.Selector.{Selector, Subscripts', Component, Row_of-Expr, end_of-Expr, more_of-Expr}
use Rattle.pearl_tree.specs.declared.expression.Ref.{Row_of-Selector, end_of-Selector, more_of-Selector}
use Rattle.pearl_tree.specs.declared.token.Token.{Token}
use Rattle.pearl_tree.specs.Standing.{SpellsEach, SpellsMaybe, SpellsNumber}
use Rattle.pearl_tree.specs.Expressions.{SpellsMonadic, SpellsTerms, SpellsPrimary, SpellsSelectors, SpellsSelector, SpellsSubscripts, SpellsMoreSubscripts}
use Rattle.pearl_tree.proofs.LiteralEnds.{literal_after}

module _ (tokens : List Token) where
  pub monadics_after : (from : ℕ) (monadics : List Monadic) (to : ℕ) → SpellsEach (SpellsMonadic tokens) from monadics to → from ≤ to
  monadics_after from [] to h = omega (arith, h)
  monadics_after from (x ∷ xs) to h = omega (arith, h.1.2, monadics_after h.0 xs to h.2)

  dimension_after : (from : ℕ) (dimension : Option Number) (to : ℕ) → SpellsMaybe (SpellsNumber tokens) from dimension to → from ≤ to
  dimension_after from None to h = omega (arith, h)
  dimension_after from (Some x) to h = omega (arith, h.1)

  mutual
    pub terms_after : (depth from : ℕ) (expr : Expr) (to : ℕ) → SpellsTerms tokens depth from expr to → from < to
    terms_after depth from (Operand' monadics part place) to h =
        omega (arith, monadics_after from monadics.items.items h.0 h.3, primary_after depth h.0 part to h.4)
    terms_after depth from (Dyadic' _ left dyadic _ right place) to h =
        omega (arith, terms_after depth from left h.0 h.2, terms_after depth (h.0 + 1) right to h.5)

    pub primary_after : (depth from : ℕ) (part : Primary) (to : ℕ) → SpellsPrimary tokens depth from part to → from < to
    primary_after depth from (primary.Literal part) to h = literal_after tokens from part to h
    primary_after depth from (primary.Ref' name _ selectors place) to h = omega (arith, selectors_after depth (from + 1) _ selectors to h.2)
    primary_after depth from (primary.Group' _ inner place) to h =
        omega (arith, terms_after (depth - 1) (from + 1) inner h.0 h.4.0, h.6)
    primary_after depth from (primary.Now place) to h = omega (arith, h.2)
    primary_after depth from (primary.Try name place) to h = omega (arith, h.3)
    primary_after depth from (primary.Limit' dimension side _ name _ selectors ref_place place) to h =
        omega (arith, dimension_after from dimension h.0 h.2, selectors_after depth (h.0 + 1 + 1) _ selectors to h.4.2)

    selectors_after : (depth from : ℕ) (n : _) (row : Row_of-Selector n) (to : ℕ) → SpellsSelectors tokens depth from row to → from ≤ to
    selectors_after depth from _ end_of-Selector to h = omega (arith, h)
    selectors_after depth from _ (more_of-Selector selector rest) to h =
        omega (arith, selector_after depth from selector h.0 h.1, selectors_after depth h.0 _ rest to h.2)

    pub selector_after : (depth from : ℕ) (selector : Selector) (to : ℕ) → SpellsSelector tokens depth from selector to → from < to
    selector_after depth from (Subscripts' _ subscripts place) to h =
        omega (arith, subscripts_after (depth - 1) (from + 1) _ subscripts h.0 h.4, h.6)
    selector_after depth from (Component name place) to h = omega (arith, h.3)

    subscripts_after : (depth from : ℕ) (n : _) (row : Row_of-Expr n) (to : ℕ) → SpellsSubscripts tokens depth from row to → from ≤ to
    subscripts_after depth from _ end_of-Expr to h = absurd h
    subscripts_after depth from _ (more_of-Expr expr rest) to h =
        omega (arith, terms_after depth from expr h.0 h.1.0, more_subscripts_after depth h.0 _ rest to h.2)

    more_subscripts_after : (depth from : ℕ) (n : _) (row : Row_of-Expr n) (to : ℕ) → SpellsMoreSubscripts tokens depth from row to → from ≤ to
    more_subscripts_after depth from _ end_of-Expr to h = omega (arith, h)
    more_subscripts_after depth from _ (more_of-Expr expr rest) to h =
        omega (arith, terms_after depth (from + 1) expr h.0 h.2.0, more_subscripts_after depth h.0 _ rest to h.3)
