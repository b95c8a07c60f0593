-- Which tokens a part depends on: those from its first one up to its end alone.
use Rattle.std.proofs.Common.{◌≡◌, ℕ, ◌+◌, ◌-◌, ◌<◌, ◌≤◌, List, [], ◌∷◌, slice_get, Option, Some, None, sym, ap, ◌∙◌}
use Rattle.std.proofs.Common.{arith}
use Rattle.std.specs.Option.{option_map, option_and_then}
use Rattle.pearl_tree.specs.declared.name.Name.{Name}
use Rattle.pearl_tree.specs.declared.name.Number.{Number}
use Rattle.pearl_tree.specs.declared.literal.Secs.{Secs}
use Rattle.pearl_tree.specs.declared.literal.Secs.TheVariants as secs
use Rattle.pearl_tree.specs.declared.literal.Duration.{Duration}
use Rattle.pearl_tree.specs.declared.literal.Duration.TheVariants.{Hours, Minutes, Seconds}
use Rattle.pearl_tree.specs.declared.literal.Literal.{Literal}
use Rattle.pearl_tree.specs.declared.literal.Literal.TheVariants as literal
use Rattle.pearl_value.specs.declared.operator.Dyad.{Dyad}
use Rattle.pearl_tree.specs.declared.expression.Monadic.{Monadic}
use Rattle.pearl_tree.specs.declared.expression.Expr.{Expr, Operand', Dyadic'}
use Rattle.pearl_tree.specs.declared.expression.Primary.{Primary}
use Rattle.pearl_tree.specs.declared.expression.Primary as primary
use Rattle.pearl_tree.specs.declared.expression.Selector.{Selector, Subscripts', Component, Row_of-Expr, end_of-Expr}
use Rattle.pearl_tree.specs.declared.expression.Selector.{more_of-Expr}
use Rattle.pearl_tree.specs.declared.expression.Ref.{Row_of-Selector, end_of-Selector, more_of-Selector}
use Rattle.pearl_tree.specs.declared.token.Token.{Token}
use Rattle.pearl_tree.specs.Standing.{what_at, place_at, IsName, IsNumber, SpellsEach, SpellsMaybe, SpellsNumber}
use Rattle.pearl_tree.specs.Expressions.{SpellsSecs, SpellsSeconds, SpellsMinutes, SpellsDuration, SpellsLiteral}
use Rattle.pearl_tree.specs.Expressions.{SpellsMonadic, SpellsTerms, SpellsPrimary, SpellsSelectors, SpellsSelector}
use Rattle.pearl_tree.specs.Expressions.{SpellsSubscripts, SpellsMoreSubscripts, HasDyad, dyad_of}
use Rattle.pearl_tree.proofs.Offered.{terms_after, primary_after, selector_after, monadics_after}

module _ (tokens others : List Token) (low k : ℕ) (alike : (j : ℕ) → low ≤ j → j < k →
    slice_get tokens j ≡ slice_get others j) where
  pub what : (j : ℕ) → low ≤ j → j < k → what_at others j ≡ what_at tokens j
  what j above below = ap (option_map (λ token. token.what)) (sym (alike j above below))

  pub place : (j : ℕ) → low ≤ j → j < k → place_at others j ≡ place_at tokens j
  place j above below = ap (option_map (λ token. token.place)) (sym (alike j above below))

  pub dyad : (j : ℕ) (operator : Dyad) → low ≤ j → j < k → HasDyad tokens j operator → HasDyad others j operator
  dyad j operator above below h = ap (option_and_then dyad_of) (what j above below) ∙ h

  pub name : (j : ℕ) (name : Name) → low ≤ j → j < k → IsName tokens j name → IsName others j name
  name j x above below h = (what j above below ∙ h.0, place j above below ∙ h.1)

  pub number : (j : ℕ) (number : Number) → low ≤ j → j < k → IsNumber tokens j number → IsNumber others j number
  number j x above below h = (what j above below ∙ h.0, place j above below ∙ h.1)

  pub secs_local : (from : ℕ) (part : Secs) (to : ℕ) → SpellsSecs tokens from part to → low ≤ from → to ≤ k →
      SpellsSecs others from part to
  secs_local from (secs.Number x) to h above near = (number from x (omega arith) (omega (arith, h.1)) h.0, h.1)
  secs_local from (secs.Decimal whole thousandths at) to h above near =
      let below : from < k = omega (arith, h.2) in (
        what from (omega arith) below ∙ h.0,
        place from (omega arith) below ∙ h.1,
        h.2,
      )

  secs_after : (from : ℕ) (part : Secs) (to : ℕ) → SpellsSecs tokens from part to → from < to
  secs_after from (secs.Number x) to h = omega (arith, h.1)
  secs_after from (secs.Decimal whole thousandths at) to h = omega (arith, h.2)

  pub seconds_local : (from : ℕ) (part : Secs) (to : ℕ) → SpellsSeconds tokens from part to → low ≤ from → to ≤ k →
      SpellsSeconds others from part to
  seconds_local from part to h above near = (
    h.0,
    secs_local from part h.0 h.1 (omega arith) (omega (arith, h.3)),
    what h.0 (omega (arith, secs_after from part h.0 h.1)) (omega (arith, h.3)) ∙ h.2,
    h.3,
  )

  seconds_after : (from : ℕ) (part : Secs) (to : ℕ) → SpellsSeconds tokens from part to → from < to
  seconds_after from part to h = omega (arith, secs_after from part h.0 h.1, h.3)

  pub maybe_seconds_local : (from : ℕ) (part : Option Secs) (to : ℕ) → SpellsMaybe (SpellsSeconds tokens) from part to →
      low ≤ from → to ≤ k → SpellsMaybe (SpellsSeconds others) from part to
  maybe_seconds_local from None to h above near = h
  maybe_seconds_local from (Some part) to h above near = seconds_local from part to h (omega arith) near

  maybe_seconds_after : (from : ℕ) (part : Option Secs) (to : ℕ) → SpellsMaybe (SpellsSeconds tokens) from part to →
      from ≤ to
  maybe_seconds_after from None to h = omega (arith, h)
  maybe_seconds_after from (Some part) to h = omega (arith, seconds_after from part to h)

  pub maybe_minutes_local : (from : ℕ) (part : Option Number) (to : ℕ) →
      SpellsMaybe (SpellsMinutes tokens) from part to → low ≤ from → to ≤ k →
      SpellsMaybe (SpellsMinutes others) from part to
  maybe_minutes_local from None to h above near = h
  maybe_minutes_local from (Some x) to h above near = (
    number from x (omega arith) (omega (arith, h.2)) h.0,
    what (from + 1) (omega arith) (omega (arith, h.2)) ∙ h.1,
    h.2,
  )

  maybe_minutes_after : (from : ℕ) (part : Option Number) (to : ℕ) → SpellsMaybe (SpellsMinutes tokens) from part to →
      from ≤ to
  maybe_minutes_after from None to h = omega (arith, h)
  maybe_minutes_after from (Some x) to h = omega (arith, h.2)

  pub duration_local : (from : ℕ) (part : Duration) (to : ℕ) → SpellsDuration tokens from part to → low ≤ from →
      to ≤ k → SpellsDuration others from part to
  duration_local from (Hours hours minutes seconds at) to h above near =
      let behind : from + 2 ≤ h.0 = omega (arith, maybe_minutes_after (from + 2) minutes h.0 h.4) in
      let end : h.0 ≤ to = omega (arith, maybe_seconds_after h.0 seconds to h.5) in (
        h.0,
        place from (omega arith) (omega arith) ∙ h.1,
        number from hours (omega arith) (omega arith) h.2,
        what (from + 1) (omega arith) (omega arith) ∙ h.3,
        maybe_minutes_local (from + 2) minutes h.0 h.4 (omega arith) (omega arith),
        maybe_seconds_local h.0 seconds to h.5 (omega arith) near,
      )
  duration_local from (Minutes minutes seconds at) to h above near =
      let end : from + 2 ≤ to = omega (arith, maybe_seconds_after (from + 2) seconds to h.3) in (
        place from (omega arith) (omega arith) ∙ h.0,
        number from minutes (omega arith) (omega arith) h.1,
        what (from + 1) (omega arith) (omega arith) ∙ h.2,
        maybe_seconds_local (from + 2) seconds to h.3 (omega arith) near,
      )
  duration_local from (Seconds seconds at) to h above near = (
    place from (omega arith) (omega (arith, seconds_after from seconds to h.1)) ∙ h.0,
    seconds_local from seconds to h.1 (omega arith) near,
  )

  pub duration_far : (from : ℕ) (part : Duration) (to : ℕ) → SpellsDuration tokens from part to → from + 2 ≤ to
  duration_far from (Hours hours minutes seconds at) to h =
      omega (arith, maybe_minutes_after (from + 2) minutes h.0 h.4, maybe_seconds_after h.0 seconds to h.5)
  duration_far from (Minutes minutes seconds at) to h = omega (arith, maybe_seconds_after (from + 2) seconds to h.3)
  duration_far from (Seconds seconds at) to h = omega (arith, secs_after from seconds h.1.0 h.1.1, h.1.3)

  pub literal_local : (from : ℕ) (part : Literal) (to : ℕ) → SpellsLiteral tokens from part to → low ≤ from → to ≤ k →
      SpellsLiteral others from part to
  literal_local from (literal.Number x) to h above near = (number from x (omega arith) (omega (arith, h.1)) h.0, h.1)
  literal_local from (literal.Bits len value at) to h above near =
      let below : from < k = omega (arith, h.2) in (
        what from (omega arith) below ∙ h.0,
        place from (omega arith) below ∙ h.1,
        h.2,
      )
  literal_local from (literal.Text text at) to h above near =
      let below : from < k = omega (arith, h.2) in (
        what from (omega arith) below ∙ h.0,
        place from (omega arith) below ∙ h.1,
        h.2,
      )
  literal_local from (literal.Clock milliseconds at) to h above near =
      let below : from < k = omega (arith, h.2) in (
        what from (omega arith) below ∙ h.0,
        place from (omega arith) below ∙ h.1,
        h.2,
      )
  literal_local from (literal.Duration part) to h above near = duration_local from part.value to h (omega arith) near

  pub monadics_local : (from : ℕ) (list : List Monadic) (to : ℕ) → SpellsEach (SpellsMonadic tokens) from list to →
      low ≤ from → to ≤ k → SpellsEach (SpellsMonadic others) from list to
  monadics_local from [] to h above near = h
  monadics_local from (x ∷ xs) to h above near =
      let behind : from < k = omega (arith, h.1.2, monadics_after tokens h.0 xs to h.2) in (
        h.0,
        (what from (omega arith) behind ∙ h.1.0, place from (omega arith) behind ∙ h.1.1, h.1.2),
        monadics_local h.0 xs to h.2 (omega (arith, h.1.2)) near,
      )

  pub dimension_local : (from : ℕ) (part : Option Number) (to : ℕ) → SpellsMaybe (SpellsNumber tokens) from part to →
      low ≤ from → to ≤ k → SpellsMaybe (SpellsNumber others) from part to
  dimension_local from None to h above near = h
  dimension_local from (Some x) to h above near = (number from x (omega arith) (omega (arith, h.1)) h.0, h.1)

  dimension_after : (from : ℕ) (dimension : Option Number) (to : ℕ) →
      SpellsMaybe (SpellsNumber tokens) from dimension to → from ≤ to
  dimension_after from None to h = omega (arith, h)
  dimension_after from (Some x) to h = omega (arith, h.1)

  selectors_after : (depth from : ℕ) (n : _) (row : Row_of-Selector n) (to : ℕ) →
      SpellsSelectors tokens depth from row to → from ≤ to
  selectors_after depth from _ end_of-Selector to h = omega (arith, h)
  selectors_after depth from _ (more_of-Selector selector rest) to h =
      omega (arith, selector_after tokens depth from selector h.0 h.1, selectors_after depth h.0 _ rest to h.2)

  more_after : (depth from : ℕ) (n : _) (row : Row_of-Expr n) (to : ℕ) → SpellsMoreSubscripts tokens depth from row to →
      from ≤ to
  more_after depth from _ end_of-Expr to h = omega (arith, h)
  more_after depth from _ (more_of-Expr expr rest) to h =
      omega (arith, terms_after tokens depth (from + 1) expr h.0 h.2.0, more_after depth h.0 _ rest to h.3)

  subscripts_after : (depth from : ℕ) (n : _) (row : Row_of-Expr n) (to : ℕ) →
      SpellsSubscripts tokens depth from row to → from < to
  subscripts_after depth from _ end_of-Expr to h = absurd h
  subscripts_after depth from _ (more_of-Expr expr rest) to h =
      omega (arith, terms_after tokens depth from expr h.0 h.1.0, more_after depth h.0 _ rest to h.2)

  mutual
    pub terms_local : (depth from : ℕ) (expr : Expr) (to : ℕ) → SpellsTerms tokens depth from expr to → low ≤ from →
        to ≤ k → SpellsTerms others depth from expr to
    terms_local depth from (Operand' monadics part at) to h above near =
        let first = monadics_after tokens from monadics.items.items h.0 h.3 in
        let second = primary_after tokens depth h.0 part to h.4 in (
          h.0,
          place from (omega arith) (omega arith) ∙ h.1,
          h.2,
          monadics_local from monadics.items.items h.0 h.3 (omega arith) (omega arith),
          primary_local depth h.0 part to h.4 (omega arith) near,
        )
    terms_local depth from (Dyadic' _ left dyadic _ right at) to h above near =
        let first = terms_after tokens depth from left h.0 h.2 in
        let second = terms_after tokens depth (h.0 + 1) right to h.5 in (
          h.0,
          place from (omega arith) (omega arith) ∙ h.1,
          terms_local depth from left h.0 h.2 (omega arith) (omega arith),
          dyad h.0 dyadic.operator (omega arith) (omega arith) h.3,
          place h.0 (omega arith) (omega arith) ∙ h.4,
          terms_local depth (h.0 + 1) right to h.5 (omega arith) near,
          h.6,
          h.7,
        )

    pub primary_local : (depth from : ℕ) (part : Primary) (to : ℕ) → SpellsPrimary tokens depth from part to →
        low ≤ from → to ≤ k → SpellsPrimary others depth from part to
    primary_local depth from (primary.Literal part) to h above near = literal_local from part to h (omega arith) near
    primary_local depth from (primary.Ref' x _ selectors at) to h above near =
        let behind = selectors_after depth (from + 1) _ selectors to h.2 in (
          place from (omega arith) (omega arith) ∙ h.0,
          name from x (omega arith) (omega arith) h.1,
          selectors_local depth (from + 1) _ selectors to h.2 (omega arith) near,
        )
    primary_local depth from (primary.Group' _ inner at) to h above near =
        let inside = terms_after tokens (depth - 1) (from + 1) inner h.0 h.4.0 in
        let below : from < k = omega (arith, h.6) in (
          h.0,
          place from (omega arith) below ∙ h.1,
          what from (omega arith) below ∙ h.2,
          h.3,
          (terms_local (depth - 1) (from + 1) inner h.0 h.4.0 (omega arith) (omega (arith, h.6)), h.4.1),
          what h.0 (omega arith) (omega (arith, h.6)) ∙ h.5,
          h.6,
        )
    primary_local depth from (primary.Now at) to h above near =
        let below : from < k = omega (arith, h.2) in (
          place from (omega arith) below ∙ h.0,
          what from (omega arith) below ∙ h.1,
          h.2,
        )
    primary_local depth from (primary.Try x at) to h above near =
        let below : from + 1 < k = omega (arith, h.3) in (
          place from (omega arith) (omega arith) ∙ h.0,
          what from (omega arith) (omega arith) ∙ h.1,
          name (from + 1) x (omega arith) below h.2,
          h.3,
        )
    primary_local depth from (primary.Limit' dimension side _ x _ selectors ref_place at) to h above near =
        let first = dimension_after from dimension h.0 h.2 in
        let behind = selectors_after depth (h.0 + 1 + 1) _ selectors to h.4.2 in (
          h.0,
          place from (omega arith) (omega arith) ∙ h.1,
          dimension_local from dimension h.0 h.2 (omega arith) (omega arith),
          what h.0 (omega arith) (omega arith) ∙ h.3,
          (
            place (h.0 + 1) (omega arith) (omega arith) ∙ h.4.0,
            name (h.0 + 1) x (omega arith) (omega arith) h.4.1,
            selectors_local depth (h.0 + 1 + 1) _ selectors to h.4.2 (omega arith) near,
          ),
        )

    pub selectors_local : (depth from : ℕ) (n : _) (row : Row_of-Selector n) (to : ℕ) →
        SpellsSelectors tokens depth from row to → low ≤ from → to ≤ k → SpellsSelectors others depth from row to
    selectors_local depth from _ end_of-Selector to h above near = h
    selectors_local depth from _ (more_of-Selector selector rest) to h above near =
        let behind = selectors_after depth h.0 _ rest to h.2 in (
          h.0,
          selector_local depth from selector h.0 h.1 (omega arith) (omega arith),
          selectors_local depth h.0 _ rest to h.2 (omega (arith, selector_after tokens depth from selector h.0 h.1))
              near,
        )

    pub selector_local : (depth from : ℕ) (selector : Selector) (to : ℕ) →
        SpellsSelector tokens depth from selector to → low ≤ from → to ≤ k →
        SpellsSelector others depth from selector to
    selector_local depth from (Subscripts' _ subscripts at) to h above near =
        let inside = subscripts_after (depth - 1) (from + 1) _ subscripts h.0 h.4 in
        let below : from < k = omega (arith, h.6) in (
          h.0,
          place from (omega arith) below ∙ h.1,
          what from (omega arith) below ∙ h.2,
          h.3,
          subscripts_local (depth - 1) (from + 1) _ subscripts h.0 h.4 (omega arith) (omega (arith, h.6)),
          what h.0 (omega arith) (omega (arith, h.6)) ∙ h.5,
          h.6,
        )
    selector_local depth from (Component x at) to h above near =
        let below : from + 1 < k = omega (arith, h.3) in (
          place from (omega arith) (omega arith) ∙ h.0,
          what from (omega arith) (omega arith) ∙ h.1,
          name (from + 1) x (omega arith) below h.2,
          h.3,
        )

    subscripts_local : (depth from : ℕ) (n : _) (row : Row_of-Expr n) (to : ℕ) →
        SpellsSubscripts tokens depth from row to → low ≤ from → to ≤ k → SpellsSubscripts others depth from row to
    subscripts_local depth from _ end_of-Expr to h above near = h
    subscripts_local depth from _ (more_of-Expr expr rest) to h above near =
        let behind = more_after depth h.0 _ rest to h.2 in (
          h.0,
          (terms_local depth from expr h.0 h.1.0 (omega arith) (omega arith), h.1.1),
          more_subscripts_local depth h.0 _ rest to h.2 (omega (arith, terms_after tokens depth from expr h.0 h.1.0))
              near,
        )

    more_subscripts_local : (depth from : ℕ) (n : _) (row : Row_of-Expr n) (to : ℕ) →
        SpellsMoreSubscripts tokens depth from row to → low ≤ from → to ≤ k →
        SpellsMoreSubscripts others depth from row to
    more_subscripts_local depth from _ end_of-Expr to h above near = h
    more_subscripts_local depth from _ (more_of-Expr expr rest) to h above near =
        let behind = more_after depth h.0 _ rest to h.3 in
        let inside = terms_after tokens depth (from + 1) expr h.0 h.2.0 in (
          h.0,
          what from (omega arith) (omega arith) ∙ h.1,
          (terms_local depth (from + 1) expr h.0 h.2.0 (omega arith) (omega arith), h.2.1),
          more_subscripts_local depth h.0 _ rest to h.3 (omega arith) near,
        )
