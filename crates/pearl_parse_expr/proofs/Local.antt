-- Which tokens a part depends on: those before its end alone.
use Rattle.std.proofs.Common.{◌≡◌, ℕ, ◌+◌, ◌<◌, ◌≤◌, List, slice_get, Option, arith}
use Rattle.pearl_tree.specs.declared.name.Name.{Name}
use Rattle.pearl_tree.specs.declared.name.Number.{Number}
use Rattle.pearl_tree.specs.declared.literal.Secs.{Secs}
use Rattle.pearl_tree.specs.declared.literal.Duration.{Duration}
use Rattle.pearl_tree.specs.declared.literal.Literal.{Literal}
use Rattle.pearl_value.specs.declared.operator.Dyad.{Dyad}
use Rattle.pearl_tree.specs.declared.expression.Monadic.{Monadic}
use Rattle.pearl_tree.specs.declared.expression.Expr.{Expr}
use Rattle.pearl_tree.specs.declared.expression.Primary.{Primary}
use Rattle.pearl_tree.specs.declared.expression.Selector.{Selector}
use Rattle.pearl_tree.specs.declared.expression.Ref.{Row_of-Selector}
use Rattle.pearl_tree.specs.declared.token.Token.{Token}
use Rattle.pearl_tree.specs.Standing.{what_at, place_at, IsName, IsNumber, SpellsEach, SpellsMaybe, SpellsNumber}
use Rattle.pearl_tree.specs.Expressions.{SpellsSecs, SpellsMinutes, SpellsDuration, SpellsLiteral, SpellsMonadic}
use Rattle.pearl_tree.specs.Expressions.{SpellsTerms, SpellsPrimary, SpellsSelectors, SpellsSelector, HasDyad}
use Rattle.pearl_parse_expr.specs.Least.{AlikeBefore}
use Rattle.pearl_parse_expr.proofs.Between as between

module _ (tokens others : List Token) (k : ℕ) (alike : AlikeBefore tokens others k) where
  within : (j : ℕ) → 0 ≤ j → j < k → slice_get tokens j ≡ slice_get others j
  within j above below = alike j below

  pub what : (j : ℕ) → j < k → what_at others j ≡ what_at tokens j
  what j below = between.what tokens others 0 k within j (omega arith) below

  pub place : (j : ℕ) → j < k → place_at others j ≡ place_at tokens j
  place j below = between.place tokens others 0 k within j (omega arith) below

  pub dyad : (j : ℕ) (operator : Dyad) → j < k → HasDyad tokens j operator → HasDyad others j operator
  dyad j x below h = between.dyad tokens others 0 k within j x (omega arith) below h

  pub name : (j : ℕ) (name : Name) → j < k → IsName tokens j name → IsName others j name
  name j x below h = between.name tokens others 0 k within j x (omega arith) below h

  pub number : (j : ℕ) (number : Number) → j < k → IsNumber tokens j number → IsNumber others j number
  number j x below h = between.number tokens others 0 k within j x (omega arith) below h

  pub secs_local : (from : ℕ) (part : Secs) (to : ℕ) → SpellsSecs tokens from part to → to ≤ k →
      SpellsSecs others from part to
  secs_local from x to h near = between.secs_local tokens others 0 k within from x to h (omega arith) near

  pub maybe_minutes_local : (from : ℕ) (part : Option Number) (to : ℕ) →
      SpellsMaybe (SpellsMinutes tokens) from part to → to ≤ k → SpellsMaybe (SpellsMinutes others) from part to
  maybe_minutes_local from x to h near = between.maybe_minutes_local tokens others 0 k within from
      x to h (omega arith) near

  pub duration_far : (from : ℕ) (part : Duration) (to : ℕ) → SpellsDuration tokens from part to → from + 2 ≤ to
  duration_far from x to h = between.duration_far tokens others 0 k within from x to h

  pub literal_local : (from : ℕ) (part : Literal) (to : ℕ) → SpellsLiteral tokens from part to → to ≤ k →
      SpellsLiteral others from part to
  literal_local from x to h near = between.literal_local tokens others 0 k within from x to h (omega arith) near

  pub monadics_local : (from : ℕ) (list : List Monadic) (to : ℕ) → SpellsEach (SpellsMonadic tokens) from list to →
      to ≤ k → SpellsEach (SpellsMonadic others) from list to
  monadics_local from x to h near = between.monadics_local tokens others 0 k within from x to h (omega arith) near

  pub dimension_local : (from : ℕ) (part : Option Number) (to : ℕ) → SpellsMaybe (SpellsNumber tokens) from part to →
      to ≤ k → SpellsMaybe (SpellsNumber others) from part to
  dimension_local from x to h near = between.dimension_local tokens others 0 k within from x to h (omega arith) near

  pub terms_local : (depth from : ℕ) (expr : Expr) (to : ℕ) → SpellsTerms tokens depth from expr to → to ≤ k →
      SpellsTerms others depth from expr to
  terms_local depth from x to h near = between.terms_local tokens others 0 k within depth from x to h (omega arith) near

  pub primary_local : (depth from : ℕ) (part : Primary) (to : ℕ) → SpellsPrimary tokens depth from part to → to ≤ k →
      SpellsPrimary others depth from part to
  primary_local depth from x to h near = between.primary_local tokens others 0 k within depth from
      x to h (omega arith) near

  pub selectors_local : (depth from : ℕ) (n : _) (row : Row_of-Selector n) (to : ℕ) →
      SpellsSelectors tokens depth from row to → to ≤ k → SpellsSelectors others depth from row to
  selectors_local depth from n row to h near = between.selectors_local tokens others 0 k within depth from n
      row to h (omega arith) near

  pub selector_local : (depth from : ℕ) (selector : Selector) (to : ℕ) → SpellsSelector tokens depth from selector to →
      to ≤ k → SpellsSelector others depth from selector to
  selector_local depth from x to h near = between.selector_local tokens others 0 k within depth from
      x to h (omega arith) near
