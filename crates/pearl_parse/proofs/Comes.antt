-- What completes a part behind words, symbols and names: whatever rest stands behind them makes a whole one, and a few
-- tokens make such a rest.
use Rattle.std.specs.Option.{option_map}
use Rattle.std.proofs.Common.{ℕ, ◌+◌, List, Option, None, refl, ap, ◌∙◌, arith}
use Rattle.pearl_tree.specs.Tokens.{IsLawfulWhat}
use Rattle.pearl_tree.specs.declared.name.Name.{Name}
use Rattle.pearl_tree.specs.declared.token.What.TheVariants as what
use Rattle.pearl_tree.specs.declared.token.Token.{Token}
use Rattle.pearl_tree.specs.Standing.{Spelling, HasWord, HasSymbol, IsName, SpellsName, SpellsMaybe}
use Rattle.pearl_parse_expr.proofs.Offered as local
use Rattle.pearl_parse_expr.proofs.Offered.{x_name, x_token, x_lawful, token_of}
use Rattle.pearl_grammar.proofs.Offered.{Rest, Next, Fills, Makes, fills_as, fills_token, Comes}

-- a token, and a rest behind it
abbrev pub Behind : (List Token → ℕ → Type 0) → Rest → Rest
Behind first rest others at to = first others at × rest others (at + 1) to

abbrev pub BehindWord : ℕ → Rest → Rest
BehindWord word = Behind (λ others at. HasWord others at word)

abbrev pub BehindSymbol : ℕ → Rest → Rest
BehindSymbol symbol = Behind (λ others at. HasSymbol others at symbol)

abbrev pub Maybe : {X : Type 0} → (List Token → Spelling X) → List Token → Spelling (Option X)
Maybe spells tokens = SpellsMaybe (spells tokens)

module _ (n : ℕ) (rest : Rest) (fills : Fills n rest) where
  pub fills_word : (word : ℕ) → IsLawfulWhat (what.Word word) → Fills (n + 1) (BehindWord word rest)
  fills_word word known =
      fills_token n rest fills (token_of (what.Word word)) (BehindWord word rest) known
      (λ others k to here h. (ap (option_map (λ token. token.what)) here, h))

  pub fills_symbol : (symbol : ℕ) → IsLawfulWhat (what.Symbol symbol) → Fills (n + 1) (BehindSymbol symbol rest)
  fills_symbol symbol known =
      fills_token n rest fills (token_of (what.Symbol symbol)) (BehindSymbol symbol rest) known
      (λ others k to here h. (ap (option_map (λ token. token.what)) here, h))

  pub fills_name : Fills (n + 1) (Next SpellsName rest)
  fills_name =
      fills_token n rest fills x_token (Next SpellsName rest) (x_lawful 0 (omega arith))
      (λ others k to here h. (
        x_name,
        k + 1,
        (
          (
            ap (option_map (λ token. token.what)) here,
            ap (option_map (λ token. token.place)) here,
          ),
          refl,
        ),
        h,
      ))

  -- without a part that may be missing
  pub fills_maybe : {Y : Type 0} (spells : List Token → Spelling Y) → Fills n (Next (Maybe spells) rest)
  fills_maybe spells = fills_as n rest fills (Next (Maybe spells) rest) (λ others k to h. (None, k, refl, h))

-- ---- whole parts

module _ {X : Type 0} (whole : List Token → Spelling X) (tokens : List Token) (from : ℕ) where
  pub come_made : (rest : Rest) → Makes whole rest → Comes whole tokens from rest from
  come_made rest makes others alike to small h = makes others from to small h

  -- behind a token that stands there
  pub come_word : (word : ℕ) (rest : Rest) (at : ℕ) → HasWord tokens at word → Comes whole tokens from
      (BehindWord word rest) at → Comes whole tokens from rest (at + 1)
  come_word word rest at here comes others alike to small h =
      comes others (λ j below. alike j (omega arith)) to small (
        local.what tokens others (at + 1) alike at
            (omega arith) ∙ here,
        h,
      )

  pub come_symbol : (symbol : ℕ) (rest : Rest) (at : ℕ) → HasSymbol tokens at symbol →
      Comes whole tokens from (BehindSymbol symbol rest) at → Comes whole tokens from rest (at + 1)
  come_symbol symbol rest at here comes others alike to small h =
      comes others (λ j below. alike j (omega arith)) to small (
        local.what tokens others (at + 1) alike at
            (omega arith) ∙ here,
        h,
      )

  pub come_name : (name : Name) (rest : Rest) (at : ℕ) → IsName tokens at name → Comes whole tokens from
      (Next SpellsName rest) at → Comes whole tokens from rest (at + 1)
  come_name name rest at here comes others alike to small h =
      comes others (λ j below. alike j (omega arith)) to small
      (name, at + 1, (local.name tokens others (at + 1) alike at name (omega arith) here, refl), h)
