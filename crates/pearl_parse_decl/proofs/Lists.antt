-- Lists in brackets, and behind a word: what other tokens can spell that begin as these do.
use Rattle.std.proofs.Common.{◌≡◌, ℕ, ◌+◌, ◌<◌, ◌≤◌, Bool, true, false, List, [], ◌∷◌}
use Rattle.std.proofs.Common.{Option, ◌⊎◌, inl, inr, sym, ap, subst, ◌∙◌, arith}
use Rattle.pearl_tree.specs.declared.token.What.{What}
use Rattle.pearl_tree.specs.declared.token.Token.{Token}
use Rattle.pearl_tree.specs.Standing.{Spelling, what_at, HasSymbol, SpellsBracketed}
use Rattle.pearl_tree.specs.Standing.{SpellsMaybeBracketed, SpellsMaybeHeaded}
use Rattle.pearl_tree.specs.declared.symbol.TheConstants as s
use Rattle.pearl_parse_expr.specs.Stops.{IsLongest, Stuck, IsOnly, EndsEarly, is_word}
use Rattle.pearl_parse_decl.specs.Readings.{by_bracket}
use Rattle.pearl_parse_expr.proofs.Offered.{clash}

-- where no token goes on with the part, it ends where it was read to
pub settled : (extends : Option What → Bool) (others : List Token) (end m : ℕ) →
    (m ≡ end) ⊎ EndsEarly extends others end m → extends (what_at others m) ≡ false → m ≡ end
settled extends others end m (inl same) never = same
settled extends others end m (inr early) never = absurd (clash _ early.1 never)

module _ {X : Type 0} (spells : List Token → Spelling X) where
  -- [ "(" part { "," part } ")" ]
  pub maybe_is_longest : (tokens : List Token) (from end stop : ℕ) → from < end → from ≤ stop →
      HasSymbol tokens from s.LEFT_ROUND →
      IsOnly (λ tokens. SpellsBracketed tokens (spells tokens)) tokens from end stop →
      IsLongest (λ tokens. SpellsMaybeBracketed tokens (spells tokens)) by_bracket tokens from end stop
  maybe_is_longest tokens from end stop ahead near bracket only = λ others agree xs to h.
      by others (sym (agree from near) ∙ bracket) (λ xs to h. only others agree xs to h) xs to h
    where
      by : (others : List Token) → HasSymbol others from s.LEFT_ROUND →
          ((xs : List X) (to : ℕ) → SpellsBracketed others (spells others) from xs to → to ≡ end) →
          (xs : List X) (to : ℕ) → SpellsMaybeBracketed others (spells others) from xs to →
          (to ≡ end) ⊎ EndsEarly by_bracket others end to
      by others bracket one [] to h = inr (
        omega (arith, h, ahead),
        subst (λ k. by_bracket (what_at others k) ≡ true) (sym h) (ap by_bracket bracket),
      )
      by others bracket one (x ∷ xs) to h = inl (one (x ∷ xs) to h)

  pub maybe_is_none : (tokens : List Token) (from stop : ℕ) →
      Stuck (λ tokens. SpellsBracketed tokens (spells tokens)) tokens from stop →
      IsLongest (λ tokens. SpellsMaybeBracketed tokens (spells tokens)) by_bracket tokens from from stop
  maybe_is_none tokens from stop stuck = λ others agree xs to h. by others (λ xs to h. stuck others agree xs to h) xs
      to h
    where
      by : (others : List Token) → ((xs : List X) (to : ℕ) →
          SpellsBracketed others (spells others) from xs to → ⊥) →
          (xs : List X) (to : ℕ) → SpellsMaybeBracketed others (spells others) from xs to →
          (to ≡ from) ⊎ EndsEarly by_bracket others from to
      by others none [] to h = inl h
      by others none (x ∷ xs) to h = absurd (none (x ∷ xs) to h)

  -- [ word "(" part { "," part } ")" ]
  pub headed_is_longest : (tokens : List Token) (from word end stop : ℕ) → from < end → from ≤ stop →
      is_word word (what_at tokens from) ≡ true →
      IsOnly (λ tokens. SpellsBracketed tokens (spells tokens)) tokens (from + 1) end stop →
      IsLongest (λ tokens. SpellsMaybeHeaded tokens word (spells tokens)) (is_word word) tokens from end stop
  headed_is_longest tokens from word end stop ahead near stands only = λ others agree xs to h.
      by others (ap (is_word word) (sym (agree from near)) ∙ stands) (λ xs to h. only others agree xs to h) xs to h
    where
      by : (others : List Token) → is_word word (what_at others from) ≡ true →
          ((xs : List X) (to : ℕ) → SpellsBracketed others (spells others) (from + 1) xs to → to ≡ end) →
          (xs : List X) (to : ℕ) → SpellsMaybeHeaded others word (spells others) from xs to →
          (to ≡ end) ⊎ EndsEarly (is_word word) others end to
      by others stands one [] to h = inr
          (omega (arith, h, ahead), subst (λ k. is_word word (what_at others k) ≡ true) (sym h) stands)
      by others stands one (x ∷ xs) to h = inl (one (x ∷ xs) to h.1)

  pub headed_is_none : (tokens : List Token) (from word stop : ℕ) →
      Stuck (λ tokens. SpellsBracketed tokens (spells tokens)) tokens (from + 1) stop →
      IsLongest (λ tokens. SpellsMaybeHeaded tokens word (spells tokens)) (is_word word) tokens from from stop
  headed_is_none tokens from word stop stuck = λ others agree xs to h. by others
      (λ xs to h. stuck others agree xs to h) xs to h
    where
      by : (others : List Token) → ((xs : List X) (to : ℕ) →
          SpellsBracketed others (spells others) (from + 1) xs to → ⊥) →
          (xs : List X) (to : ℕ) → SpellsMaybeHeaded others word (spells others) from xs to →
          (to ≡ from) ⊎ EndsEarly (is_word word) others from to
      by others none [] to h = inl h
      by others none (x ∷ xs) to h = absurd (none (x ∷ xs) to h.1)
