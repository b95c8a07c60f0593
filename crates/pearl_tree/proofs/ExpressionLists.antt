-- What a reference in an expression and its brackets spell, told by the lists that their fields show.
use Rattle.std.proofs.Common.{◌≡◌, ℕ, ◌+◌, ◌-◌, ◌<◌, List, Option, refl, ap, ◌∙◌, ◌≤◌, length, Box, Global}
use mathlib.Core.Former.{Count}
use Rattle.pearl_tree.specs.declared.parts.Parts.{Parts}
use Rattle.pearl_tree.specs.declared.name.Number.{Number}
use Rattle.pearl_tree.specs.declared.expression.Side.{Side}
use Rattle.pearl_tree.specs.declared.expression.Expr.{Expr}
use Rattle.pearl_tree.specs.declared.expression.Expr as expr
use Rattle.pearl_tree.specs.declared.expression.Operand.{Operand}
use Rattle.pearl_tree.specs.declared.expression.Dyadic.{Dyadic}
use Rattle.pearl_tree.specs.declared.expression.Primary.{Primary}
use Rattle.pearl_tree.specs.declared.expression.Primary as primary
use Rattle.pearl_tree.specs.declared.expression.Selector.{Selector, Subscripts, Subscripts', Row_of-Expr, end_of-Expr, more_of-Expr, items-the_row-Expr, items_hidden-the_row-Expr-1}
use Rattle.pearl_tree.specs.declared.expression.Ref.{Ref, Row_of-Selector, end_of-Selector, more_of-Selector, items-the_row-Selector, items_hidden-the_row-Selector-0}
use Rattle.pearl_tree.specs.declared.token.Token.{Token}
use Rattle.pearl_tree.specs.Standing.{IsAt, HasWord, HasSymbol, IsName, SpellsEach, SpellsMore, SpellsList, SpellsMaybe, SpellsNumber}
use Rattle.pearl_tree.specs.Expressions.{SpellsTerms, SpellsExpr, SpellsPrimary, SpellsRef, SpellsSelectors, SpellsSelector, SpellsSubscripts, SpellsMoreSubscripts, SpellsMonadic, HasDyad, rank, rank_of, side_word}
use Rattle.pearl_tree.specs.declared.symbol.TheConstants as s

module _ (tokens : List Token) where
  pub selectors : (depth from : ℕ) (n : _) (row : Row_of-Selector n) (to : ℕ) →
      SpellsSelectors tokens depth from row to ≡
      SpellsEach (SpellsSelector tokens depth) from (items-the_row-Selector n row) to
  selectors depth from _ end_of-Selector to = refl
  selectors depth from _ (more_of-Selector selector rest) to =
      λ i. (m : ℕ) × SpellsSelector tokens depth from selector m × selectors depth m _ rest to i

  more_subscripts : (depth from : ℕ) (n : _) (row : Row_of-Expr n) (to : ℕ) →
      SpellsMoreSubscripts tokens depth from row to ≡
      SpellsMore tokens (SpellsExpr tokens depth) from (items-the_row-Expr n row) to
  more_subscripts depth from _ end_of-Expr to = refl
  more_subscripts depth from _ (more_of-Expr expr rest) to =
      λ i. (m : ℕ) × HasSymbol tokens from s.COMMA × SpellsExpr tokens depth (from + 1) expr m ×
      more_subscripts depth m _ rest to i

  pub subscripts : (depth from : ℕ) (n : _) (row : Row_of-Expr n) (to : ℕ) →
      SpellsSubscripts tokens depth from row to ≡
      SpellsList tokens (SpellsExpr tokens depth) from (items-the_row-Expr n row) to
  subscripts depth from _ end_of-Expr to = refl
  subscripts depth from _ (more_of-Expr expr rest) to =
      λ i. (m : ℕ) × SpellsExpr tokens depth from expr m × more_subscripts depth m _ rest to i

  abbrev subscripts_of : Selector → (n : Count) × Row_of-Expr n
  subscripts_of (Subscripts' _ row _) = (_, row)
  subscripts_of _ = (_, end_of-Expr)

  -- "(" expr { "," expr } ")"
  pub spells_subscripts : (depth from : ℕ) (exprs : Parts Expr) (place to : ℕ) →
      SpellsSelector tokens depth from (Subscripts exprs place) to ≡
      ((m : ℕ) × IsAt tokens from place × HasSymbol tokens from s.LEFT_ROUND × (0 < depth) ×
      SpellsList tokens (SpellsExpr tokens (depth - 1)) (from + 1) exprs.items.items m ×
      HasSymbol tokens m s.RIGHT_ROUND × (to ≡ m + 1))
  spells_subscripts depth from exprs place to =
      let row = subscripts_of (Subscripts exprs place) in
      λ i. (m : ℕ) × IsAt tokens from place × HasSymbol tokens from s.LEFT_ROUND × (0 < depth) ×
      (subscripts (depth - 1) (from + 1) row.0 row.1 m ∙ ap (λ xs. SpellsList tokens (SpellsExpr tokens (depth - 1)) (from + 1) xs m) (items_hidden-the_row-Expr-1 exprs.items)) i ×
      HasSymbol tokens m s.RIGHT_ROUND × (to ≡ m + 1)

  abbrev selectors_of : Primary → (n : Count) × Row_of-Selector n
  selectors_of (primary.Ref' _ _ row _) = (_, row)
  selectors_of (primary.Limit' _ _ _ _ _ row _ _) = (_, row)
  selectors_of _ = (_, end_of-Selector)

  -- ref
  pub spells_ref : (depth from : ℕ) (reference : Ref) (to : ℕ) →
      SpellsPrimary tokens depth from (primary.Ref reference) to ≡ SpellsRef tokens depth from reference to
  spells_ref depth from reference to =
      let row = selectors_of (primary.Ref reference) in
      λ i. IsAt tokens from reference.place × IsName tokens from reference.name ×
      (selectors depth (from + 1) row.0 row.1 to ∙
      ap (λ xs. SpellsEach (SpellsSelector tokens depth) (from + 1) xs to) (items_hidden-the_row-Selector-0 reference.selectors.items)) i

  -- [ number ] ( LWB | UPB ) ref
  pub spells_limit : (depth from : ℕ) (dimension : Option Number) (side : Side) (array : Box Ref Global) (place to : ℕ) →
      SpellsPrimary tokens depth from (primary.Limit dimension side array place) to ≡
      ((m : ℕ) × IsAt tokens from place × SpellsMaybe (SpellsNumber tokens) from dimension m ×
      HasWord tokens m (side_word side) × SpellsRef tokens depth (m + 1) array.value to)
  spells_limit depth from dimension side array place to =
      let row = selectors_of (primary.Limit dimension side array place) in
      λ i. (m : ℕ) × IsAt tokens from place × SpellsMaybe (SpellsNumber tokens) from dimension m ×
      HasWord tokens m (side_word side) ×
      (IsAt tokens (m + 1) array.value.place × IsName tokens (m + 1) array.value.name ×
      (selectors depth (m + 1 + 1) row.0 row.1 to ∙
      ap (λ xs. SpellsEach (SpellsSelector tokens depth) (m + 1 + 1) xs to) (items_hidden-the_row-Selector-0 array.value.selectors.items)) i)

  -- "(" expr ")"
  pub spells_group : (depth from : ℕ) (inner : Box Expr Global) (place to : ℕ) →
      SpellsPrimary tokens depth from (primary.Group inner place) to ≡
      ((m : ℕ) × IsAt tokens from place × HasSymbol tokens from s.LEFT_ROUND × (0 < depth) ×
      SpellsExpr tokens (depth - 1) (from + 1) inner.value m × HasSymbol tokens m s.RIGHT_ROUND × (to ≡ m + 1))
  spells_group depth from inner place to = refl

  -- operand
  pub spells_operand : (depth from : ℕ) (operand : Operand) (to : ℕ) →
      SpellsTerms tokens depth from (expr.Operand operand) to ≡
      ((m : ℕ) × IsAt tokens from operand.place × (length operand.monadics.items.items ≤ 8) ×
      SpellsEach (SpellsMonadic tokens) from operand.monadics.items.items m ×
      SpellsPrimary tokens depth m operand.primary to)
  spells_operand depth from operand to = refl

  -- two expressions with an operator between them
  pub spells_dyadic : (depth from : ℕ) (left : Box Expr Global) (dyadic : Dyadic) (right : Box Expr Global) (place to : ℕ) →
      SpellsTerms tokens depth from (expr.Dyadic left dyadic right place) to ≡
      ((m : ℕ) × IsAt tokens from place × SpellsTerms tokens depth from left.value m ×
      HasDyad tokens m dyadic.operator × IsAt tokens m dyadic.place ×
      SpellsTerms tokens depth (m + 1) right.value to × (rank_of left.value ≤ rank dyadic.operator) ×
      (rank_of right.value < rank dyadic.operator))
  spells_dyadic depth from left dyadic right place to = refl
