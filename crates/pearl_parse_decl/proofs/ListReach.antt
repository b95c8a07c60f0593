-- Lists in brackets, and behind a word, that go on as far as a stop, and one that is missing.
use Rattle.std.proofs.Common.{ℕ, ◌+◌, ◌<◌, ◌≤◌, Bool, List, [], ◌∷◌, length, Option, Vec, Ok, refl, ap, ◌∙◌, arith}
use Rattle.std.specs.Option.{option_map}
use Rattle.pearl_tree.specs.declared.token.Token.{Token}
use Rattle.pearl_tree.specs.declared.token.What.{What}
use Rattle.pearl_tree.specs.Standing.{Spelling, HasWord, HasSymbol, SpellsList, SpellsBracketed}
use Rattle.pearl_tree.specs.Standing.{SpellsMaybeBracketed, SpellsMaybeHeaded}
use Rattle.pearl_tree.specs.declared.symbol.TheConstants as s
use Rattle.pearl_parse_expr.specs.declared.reading.Reading.{Reading}
use Rattle.pearl_parse_expr.specs.Least.{ReachesIn, GoesIn}
use Rattle.pearl_parse_expr.specs.Reads.{ReadsMaybeList}
use Rattle.pearl_parse_expr.specs.Readings.{IsList}
use Rattle.pearl_parse_expr.specs.Stops.{IsLongest, StopsWithin}
use Rattle.pearl_parse_expr.proofs.Offered.{listed, IsLocal, reaches_as_in, reaches_closed_in}
use Rattle.pearl_parse_expr.proofs.Offered as offered
use Rattle.pearl_parse_decl.specs.Readings.{IsSelfContained}
use Rattle.pearl_parse_decl.proofs.Behind.{Holds}
use Rattle.pearl_parse_decl.proofs.Leaves.{symbol}

module _ {X : Type 0} (spells : List Token → Spelling X) (kept : IsSelfContained spells) where
  pub list_is_local : IsLocal (λ tokens. SpellsList tokens (spells tokens))
  list_is_local tokens others k alike from xs to h near =
      (offered.list_keeps tokens others k alike 1 spells (kept tokens others k alike) from xs to h near).1

  pub list_after : (tokens : List Token) (from : ℕ) (xs : List X) (to : ℕ) →
      SpellsList tokens (spells tokens) from xs to → from + length xs ≤ to
  list_after tokens = offered.list_long tokens (spells tokens) (offered.after_of 1 spells kept tokens)

  -- a list behind the bracket that opens it
  pub bracketed_holds : (tokens : List Token) (from : ℕ) → HasSymbol tokens from s.LEFT_ROUND →
      Holds 16 9 (λ tokens. SpellsList tokens (spells tokens)) (λ tokens. SpellsBracketed tokens (spells tokens)) tokens
      from (from + 1)
  bracketed_holds tokens from bracket = record {
    carries = λ stop near within r.
        reaches_closed_in (λ tokens. SpellsList tokens (spells tokens))
        (λ tokens. SpellsBracketed tokens (spells tokens)) tokens from (from + 1) 16 9 stop (symbol s.RIGHT_ROUND)
        (omega arith) (omega arith)
        (λ others alike short m size end xs h. (
          xs,
          (
            m,
            offered.what tokens others stop alike from (omega (arith, near)) ∙ bracket,
            h,
            ap (option_map (λ token. token.what)) end,
            refl,
          ),
        ))
        list_is_local r;
  }

-- of a list that may be missing nothing is read
pub maybe_list_none : {X A : Type 0} {room : ℕ} (part : List Token → Spelling (List X)) (extends : Option What → Bool)
    (tokens : List Token) (from stop : ℕ) {list : Reading (Vec X A)} → IsList [] from stop list →
    part tokens from [] from → IsLongest part extends tokens from from stop → StopsWithin tokens from from from stop →
    GoesIn room part tokens from from stop → ReadsMaybeList room part extends tokens from (Ok list)
maybe_list_none {X} {A} {room} part extends tokens from stop {list} is spells longest bounds least = record {
  spells = listed (λ xs to last. part tokens from xs to) is spells;
  longest = listed (λ xs to last. IsLongest part extends tokens from to last) is longest;
  bounds = listed (λ xs to last. StopsWithin tokens from from to last) is bounds;
  refused = tt;
  least = listed (λ xs to last. GoesIn room part tokens from to last) is least;
}

module _ {X : Type 0} (spells : List Token → Spelling X) where
  as_maybe : (others : List Token) (from : ℕ) (xs : List X) (to : ℕ) →
      SpellsBracketed others (spells others) from xs to → SpellsMaybeBracketed others (spells others) from xs to
  as_maybe others from [] to h = absurd h.2
  as_maybe others from (x ∷ xs) to h = h

  as_headed : (others : List Token) (word from : ℕ) (xs : List X) (to : ℕ) → HasWord others from word →
      SpellsBracketed others (spells others) (from + 1) xs to →
      SpellsMaybeHeaded others word (spells others) from xs to
  as_headed others word from [] to stands h = absurd h.2
  as_headed others word from (x ∷ xs) to stands h = (stands, h)

  -- where a list in brackets may be missing
  pub maybe_bracketed_reaches : (tokens : List Token) (from stop : ℕ) →
      ReachesIn 9 (λ tokens. SpellsBracketed tokens (spells tokens)) tokens from stop →
      ReachesIn 9 (λ tokens. SpellsMaybeBracketed tokens (spells tokens)) tokens from stop
  maybe_bracketed_reaches tokens from stop r =
      reaches_as_in (λ tokens. SpellsBracketed tokens (spells tokens))
      (λ tokens. SpellsMaybeBracketed tokens (spells tokens)) tokens from from 9 9 stop (omega arith)
      (λ others alike long short xs h. (xs, as_maybe others from xs (length others) h)) r

  pub maybe_headed_reaches : (tokens : List Token) (from stop word : ℕ) → HasWord tokens from word →
      from < stop → ReachesIn 9 (λ tokens. SpellsBracketed tokens (spells tokens)) tokens (from + 1) stop →
      ReachesIn 9 (λ tokens. SpellsMaybeHeaded tokens word (spells tokens)) tokens from stop
  maybe_headed_reaches tokens from stop word stands near r =
      reaches_as_in (λ tokens. SpellsBracketed tokens (spells tokens))
      (λ tokens. SpellsMaybeHeaded tokens word (spells tokens)) tokens from (from + 1) 9 9 stop (omega arith)
      (λ others alike long short xs h. (
        xs,
        as_headed others word from xs (length others) (offered.what tokens others stop alike from near ∙ stands) h,
      )) r
