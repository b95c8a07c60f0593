-- The tokens that complete what was read of a statement or a module: names, symbols, words, and the ends of what is
-- open.
use Rattle.std.proofs.Common.{ℕ, ◌+◌, List, [], ◌∷◌, ap, refl, arith}
use Rattle.std.specs.Option.{option_map}
use Rattle.pearl_tree.specs.declared.token.What.TheVariants as what
use Rattle.pearl_tree.specs.declared.token.Token.{Token}
use Rattle.pearl_tree.specs.Tokens.{IsLawfulWhat}
use Rattle.pearl_tree.specs.Standing.{Spelling, SpellsEach, SpellsSome}
use Rattle.pearl_tree.specs.Statements.{SpellsBranch}
use Rattle.pearl_tree.specs.Modules.{SpellsBlock}
use Rattle.pearl_tree.specs.declared.symbol.TheConstants as s
use Rattle.pearl_tree.specs.declared.word_code.TheConstants as w
use Rattle.pearl_parse_expr.proofs.Offered.{placed, token_of, parts_of}
use Rattle.pearl_parse.specs.Bodies.{SpellsStatements, SpellsInner}
use Rattle.pearl_grammar.proofs.Offered.{Rest, Ends, Next, Fills, ends_fill, fills_as, fills_token}
use Rattle.pearl_parse.proofs.Comes.{BehindWord, BehindSymbol, Maybe}
use Rattle.pearl_parse.proofs.Comes.{fills_word, fills_symbol, fills_maybe}
use Rattle.pearl_parse.proofs.Made.{semicolon}
use Rattle.pearl_parse.proofs.NestedRests.{closing_rest}

module _ (n : ℕ) (rest : Rest) (fills : Fills n rest) where
  -- no parts
  pub fills_each : {X : Type 0} (spells : List Token → Spelling X) →
      Fills n (Next (λ tokens. SpellsEach (spells tokens)) rest)
  fills_each spells = fills_as n rest fills (Next (λ tokens. SpellsEach (spells tokens)) rest)
      (λ others k to h. ([], k, refl, h))

  pub fills_statements : (depth : ℕ) → Fills n (Next (SpellsStatements depth) rest)
  fills_statements depth = fills_as n rest fills (Next (SpellsStatements depth) rest)
      (λ others k to h. ([], k, refl, h))

  pub fills_inner : (depth : ℕ) → Fills n (Next (SpellsInner depth) rest)
  fills_inner depth = fills_as n rest fills (Next (SpellsInner depth) rest)
      (λ others k to h. (([], []), k, (k, refl, refl), h))

  pub fills_choices : (depth : ℕ) → Fills (n + 1) (Next (λ tokens. SpellsSome (SpellsBranch tokens depth w.ALT)) rest)
  fills_choices depth =
      fills_token n rest fills (token_of (what.Word w.ALT))
      (Next (λ tokens. SpellsSome (SpellsBranch tokens depth w.ALT)) rest) (omega arith)
      (λ others k to here h. (
        record { statements = parts_of [] (omega arith); place = 0 } ∷ [],
        k + 1,
        (k + 1, (ap (option_map (λ token. token.place)) here, ap (option_map (λ token. token.what)) here, refl), refl),
        h,
      ))

-- ---- statements

pub semicolon_fills : Fills 1 semicolon
semicolon_fills = fills_symbol 0 Ends ends_fill s.SEMICOLON (omega arith)

pub bracket_fills : Fills 1 (BehindSymbol s.RIGHT_ROUND Ends)
bracket_fills = fills_symbol 0 Ends ends_fill s.RIGHT_ROUND (omega arith)

-- ---- statements with others in them

pub closing_fills : (word : ℕ) → IsLawfulWhat (what.Word word) → Fills 2 (closing_rest word)
closing_fills word known =
    fills_as 2 (BehindWord word semicolon) (fills_word 1 semicolon semicolon_fills word known) (closing_rest word)
    (λ others k to h. (tt, to, (h.0, h.1.0, omega (arith, h.1.1)), refl))

pub fin_fills : Fills 2 (closing_rest w.FIN)
fin_fills = closing_fills w.FIN (omega arith)

pub end_fills : Fills 2 (closing_rest w.END)
end_fills = closing_fills w.END (omega arith)

-- [ word { stmt } ] FIN ";"
abbrev pub otherwise : ℕ → ℕ → Rest
otherwise depth word = Next (Maybe (λ tokens. SpellsBranch tokens depth word)) (closing_rest w.FIN)

pub otherwise_fills : (depth word : ℕ) → Fills 2 (otherwise depth word)
otherwise_fills depth word = fills_maybe 2 (closing_rest w.FIN) fin_fills (λ tokens. SpellsBranch tokens depth word)

-- { stmt } [ ELSE { stmt } ] FIN ";"
pub then_fills : (depth : ℕ) → Fills 2 (Next (SpellsStatements depth) (otherwise depth w.ELSE))
then_fills depth = fills_statements 2 (otherwise depth w.ELSE) (otherwise_fills depth w.ELSE) depth

-- ALT { stmt } { ALT { stmt } } [ OUT { stmt } ] FIN ";"
pub alternatives_fill : (depth : ℕ) → Fills 3 (Next (λ tokens. SpellsSome (SpellsBranch tokens depth w.ALT))
    (otherwise depth w.OUT))
alternatives_fill depth = fills_choices 2 (otherwise depth w.OUT) (otherwise_fills depth w.OUT) depth

-- body END ";"
pub inner_fills : (depth : ℕ) → Fills 2 (Next (SpellsInner depth) (closing_rest w.END))
inner_fills depth = fills_inner 2 (closing_rest w.END) end_fills depth

-- ---- modules

-- ";" END ";"
pub block_fills : Fills 3 (Next SpellsBlock Ends)
block_fills =
    fills_as 3 (BehindSymbol s.SEMICOLON (BehindWord w.END semicolon))
    (fills_symbol 2 (BehindWord w.END semicolon) (fills_word 1 semicolon semicolon_fills w.END (omega arith))
    s.SEMICOLON (omega arith))
    (Next SpellsBlock Ends)
    (λ others k to h.
    let at = placed others (k + 1) (what.Word w.END) h.1.0 in (
      record { declarations = parts_of [] (omega arith); statements = parts_of [] (omega arith); place = at.0 },
      to,
      (k + 1, h.0, (k + 1, at.1, refl, refl), h.1.0, h.1.1.0, omega (arith, h.1.1.1)),
      refl,
    ))
