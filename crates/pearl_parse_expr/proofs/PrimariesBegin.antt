-- A primary, a selector or a reference may stand anywhere.
use Rattle.std.proofs.Common.{ℕ, ◌+◌, ◌≤◌, List, [], ◌∷◌, length, refl, ap, arith}
use Rattle.pearl_tree.specs.declared.expression.Primary as primary
use Rattle.pearl_tree.specs.declared.expression.Selector as selector
use Rattle.pearl_tree.specs.declared.token.What.TheVariants as what
use Rattle.pearl_tree.specs.declared.token.Token.{Token}
use Rattle.pearl_tree.specs.Expressions.{SpellsPrimary, SpellsSelector}
use Rattle.pearl_tree.specs.declared.symbol.TheConstants as s
use Rattle.pearl_tree.specs.declared.word_code.TheConstants as w
use Rattle.pearl_parse_expr.specs.Stops.{SpellsNamed, is_name}
use Rattle.pearl_parse_expr.specs.Least.{Reaches}
use Rattle.pearl_parse_expr.proofs.Ids.{x_name, x_token, x_lawful}
use Rattle.pearl_parse_expr.proofs.Reaching.{completed, one_lawful, none_lawful, token_of, what_stands, place_stands}

-- a primary may begin anywhere
pub primary_begins : (tokens : List Token) (depth from : ℕ) → from ≤ length tokens →
    Reaches (λ tokens. SpellsPrimary tokens depth) tokens from from
primary_begins tokens depth from within =
    completed (λ tokens. SpellsPrimary tokens depth) tokens from from (token_of (what.Word w.NOW) ∷ []) (primary.Now 0)
    within (omega arith) (one_lawful (token_of (what.Word w.NOW)) [] (omega arith) none_lawful)
    (λ alike. (
      place_stands tokens from (token_of (what.Word w.NOW) ∷ []) within 0 from (omega arith),
      what_stands tokens from (token_of (what.Word w.NOW) ∷ []) within 0 from (omega arith),
      refl,
    ))

pub selector_begins : (tokens : List Token) (depth from : ℕ) → from ≤ length tokens →
    Reaches (λ tokens. SpellsSelector tokens depth) tokens from from
selector_begins tokens depth from within =
    let period = token_of (what.Symbol s.PERIOD) in
    let what_is = what_stands tokens from (period ∷ x_token ∷ []) within in
    let place_is = place_stands tokens from (period ∷ x_token ∷ []) within in
    completed (λ tokens. SpellsSelector tokens depth) tokens from from (period ∷ x_token ∷ [])
    (selector.Component x_name 0) within (omega arith) (one_lawful period (x_token ∷ []) (omega arith) x_lawful)
    (λ alike. (
      place_is 0 from (omega arith),
      what_is 0 from (omega arith),
      (what_is 1 (from + 1) refl, place_is 1 (from + 1) refl),
      refl,
    ))

pub named_begins : (tokens : List Token) (depth from : ℕ) → from ≤ length tokens →
    Reaches (λ tokens. SpellsNamed tokens depth) tokens from from
named_begins tokens depth from within =
    completed (λ tokens. SpellsNamed tokens depth) tokens from from (x_token ∷ []) [] within (omega arith) x_lawful
    (λ alike. (ap is_name (what_stands tokens from (x_token ∷ []) within 0 from (omega arith)), refl))
