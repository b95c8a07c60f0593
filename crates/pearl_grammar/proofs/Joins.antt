-- Which tokens the joined parts depend on: those before their end alone, where that holds of the parts. And a list has no
-- more parts than tokens.
use Rattle.std.proofs.Common.{◌≡◌, ℕ, ◌+◌, ◌<◌, ◌≤◌, true, false, List, [], ◌∷◌, Some, None, length, ◌∙◌, arith}
use Rattle.pearl_tree.specs.declared.token.Token.{Token}
use Rattle.pearl_tree.specs.Standing.{Spelling, what_at, SpellsBracketed, SpellsMaybeBracketed, SpellsMaybeHeaded}
use Rattle.pearl_tree.specs.Standing.{SpellsMaybe, SpellsFlag, SpellsSymbolFlag}
use Rattle.pearl_tree.specs.Statements.{SpellsMaybeList}
use Rattle.pearl_parse_expr.specs.Least.{AlikeBefore}
use Rattle.pearl_parse_expr.proofs.Offered as local
use Rattle.pearl_parse_expr.proofs.Offered.{Keeps, list_keeps, list_long}

module _ (tokens others : List Token) (k : ℕ) (alike : AlikeBefore tokens others k) where
  what : (j : ℕ) → j < k → what_at others j ≡ what_at tokens j
  what = local.what tokens others k alike

  pub flag_keeps : (word : ℕ) → Keeps tokens others k 0 (λ tokens. SpellsFlag tokens word)
  flag_keeps word from false to h near = (omega (arith, h), h)
  flag_keeps word from true to h near = (omega (arith, h.1), (what from (omega (arith, h.1)) ∙ h.0, h.1))

  pub symbol_flag_keeps : (symbol : ℕ) → Keeps tokens others k 0 (λ tokens. SpellsSymbolFlag tokens symbol)
  symbol_flag_keeps symbol from false to h near = (omega (arith, h), h)
  symbol_flag_keeps symbol from true to h near = (omega (arith, h.1), (what from (omega (arith, h.1)) ∙ h.0, h.1))

  module _ {X : Type 0} (n : ℕ) (spells : List Token → Spelling X) (keeps : Keeps tokens others k n spells) where
    pub maybe_keeps : Keeps tokens others k 0 (λ tokens. SpellsMaybe (spells tokens))
    maybe_keeps from None to h near = (omega (arith, h), h)
    maybe_keeps from (Some x) to h near = let part = keeps from x to h near in (omega (arith, part.0), part.1)

    pub maybe_list_keeps : Keeps tokens others k 0 (λ tokens. SpellsMaybeList tokens (spells tokens))
    maybe_list_keeps from [] to h near = (omega (arith, h), h)
    maybe_list_keeps from (x ∷ xs) to h near =
        let part = list_keeps tokens others k alike n spells keeps from (x ∷ xs) to h near in (omega (arith, part.0), part.1)

    pub bracketed_keeps : Keeps tokens others k (n + 2) (λ tokens. SpellsBracketed tokens (spells tokens))
    bracketed_keeps from xs to h near =
        let list = list_keeps tokens others k alike n spells keeps (from + 1) xs h.0 h.2 (omega (arith, h.4)) in
        let below : h.0 < k = omega (arith, h.4) in (
          omega (arith, list.0, h.4),
          (h.0, what from (omega (arith, list.0)) ∙ h.1, list.1, what h.0 below ∙ h.3, h.4),
        )

    pub maybe_bracketed_keeps : Keeps tokens others k 0 (λ tokens. SpellsMaybeBracketed tokens (spells tokens))
    maybe_bracketed_keeps from [] to h near = (omega (arith, h), h)
    maybe_bracketed_keeps from (x ∷ xs) to h near =
        let part = bracketed_keeps from (x ∷ xs) to h near in (omega (arith, part.0), part.1)

    pub maybe_headed_keeps : (word : ℕ) →
        Keeps tokens others k 0 (λ tokens. SpellsMaybeHeaded tokens word (spells tokens))
    maybe_headed_keeps word from [] to h near = (omega (arith, h), h)
    maybe_headed_keeps word from (x ∷ xs) to h near =
        let part = bracketed_keeps (from + 1) (x ∷ xs) to h.1 near in
        (omega (arith, part.0), (what from (omega (arith, part.0)) ∙ h.0, part.1))

-- a list has no more parts than tokens
module _ {X : Type 0} (tokens : List Token) (spells : Spelling X)
    (after : (from : ℕ) (x : X) (to : ℕ) → spells from x to → from + 1 ≤ to) where
  pub maybe_list_long : (from : ℕ) (xs : List X) (to : ℕ) → SpellsMaybeList tokens spells from xs to →
      from + length xs ≤ to
  maybe_list_long from [] to h = omega (arith, h)
  maybe_list_long from (x ∷ xs) to h = list_long tokens spells after from (x ∷ xs) to h

  pub bracketed_long : (from : ℕ) (xs : List X) (to : ℕ) → SpellsBracketed tokens spells from xs to →
      from + length xs ≤ to
  bracketed_long from xs to h = omega (arith, list_long tokens spells after (from + 1) xs h.0 h.2, h.4)

  pub maybe_bracketed_long : (from : ℕ) (xs : List X) (to : ℕ) → SpellsMaybeBracketed tokens spells from xs to →
      from + length xs ≤ to
  maybe_bracketed_long from [] to h = omega (arith, h)
  maybe_bracketed_long from (x ∷ xs) to h = bracketed_long from (x ∷ xs) to h

  pub maybe_headed_long : (word from : ℕ) (xs : List X) (to : ℕ) →
      SpellsMaybeHeaded tokens word spells from xs to → from + length xs ≤ to
  maybe_headed_long word from [] to h = omega (arith, h)
  maybe_headed_long word from (x ∷ xs) to h = omega (arith, bracketed_long (from + 1) (x ∷ xs) to h.1)
