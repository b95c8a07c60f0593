-- A word and a semicolon that close what stands before them: they are read, or the one that is missing is told.
use Rattle.std.proofs.Common.{ℕ, ◌+◌, ◌<◌, ◌≤◌, ◌^◌, List, length, Result, Ok, Err, OnOk, IfErr, ap, ◌∙◌, arith}
use Rattle.pearl_tree.specs.declared.token.Token.{Token}
use Rattle.pearl_tree.specs.Standing.{HasWord, HasSymbol}
use Rattle.pearl_tree.specs.declared.symbol.TheConstants as s
use Rattle.pearl_parse_expr.specs.declared.reading.Halt.{Halt}
use Rattle.pearl_parse_expr.specs.Stops.{is_word, is_symbol}
use Rattle.pearl_parse.specs.Stops.{IsMissing}
use Rattle.pearl_parse.specs.Bodies.{SpellsClosing}
use Rattle.pearl_parse.specs.Reads.{ReadsClosing}
use Rattle.pearl_grammar.proofs.Offered.{Rest, Makes, State, first}
use Rattle.pearl_parse.proofs.Steps.{Goes, itself, missing_behind, missing_is_refused}
use Rattle.pearl_parse.proofs.Comes.{BehindWord, fills_word}
use Rattle.pearl_parse.proofs.Made.{semicolon}
use Rattle.pearl_parse.proofs.Tails.{semicolon_fills}
use Rattle.pearl_parse.proofs.States.{past_word, halt_token}

closing_made : (word : ℕ) → Makes (SpellsClosing word) (BehindWord word semicolon)
closing_made word others from to small h = (tt, (h.0, h.1.0, omega (arith, h.1.1)))

module _ (tokens : List Token) (word from low : ℕ) (near : from ≤ low) (within : low ≤ length tokens)
    (few : length tokens < 2 ^ 55) where
  abbrev closing : Rest
  closing others at to = SpellsClosing word others at tt to

  closes : Goes (SpellsClosing word) tokens from closing from low
  closes = λ others agree x to h. h

  closing_first : State 8 (SpellsClosing word) tokens from low (BehindWord word semicolon) from low
  closing_first = first 8 (SpellsClosing word) tokens from low (BehindWord word semicolon) 0 low (closing_made word)
      (omega arith) (omega arith) (omega arith) (omega (arith, near, within)) few

  pub no_word : (halt : Halt) → IsMissing tokens (is_word word) from low halt →
      ReadsClosing word tokens from low (Err halt)
  no_word halt absent = record {
    stands = tt;
    within = tt;
    refused = missing_behind (SpellsClosing word) tokens from low (is_word word) closing from low from halt closes
        (λ others to h. ap (is_word word) h.0 ∙ itself word) near (omega arith) (omega (arith, near, within)) within
        absent;
    least = λ known.
        halt_token 8 (SpellsClosing word) tokens from low 2 (BehindWord word semicolon)
        (fills_word 1 semicolon semicolon_fills word known) (omega arith) (is_word word) from low halt closing_first
        absent;
    memory = missing_is_refused tokens (is_word word) from low halt absent;
  }

  pub behind_word : HasWord tokens from word → from < length tokens → (result : Result (Unit {0}) Halt) →
      OnOk result (HasSymbol tokens (from + 1) s.SEMICOLON) → OnOk result (from + 1 < length tokens) →
      IfErr result (λ halt. IsMissing tokens (is_symbol s.SEMICOLON) (from + 1) low halt) →
      ReadsClosing word tokens from low result
  behind_word here inside (Ok done) stands next absent = record {
    stands = (here, stands);
    within = omega (arith, next);
    refused = tt;
    least = λ known. tt;
    memory = tt;
  }
  behind_word here inside (Err halt) stands next absent = record {
    stands = tt;
    within = tt;
    refused = missing_behind (SpellsClosing word) tokens from low (is_symbol s.SEMICOLON) closing from low (from + 1)
        halt closes (λ others to h. ap (is_symbol s.SEMICOLON) h.1) near (omega arith) (omega (arith, inside)) within
        absent;
    least = λ known.
        halt_token 8 (SpellsClosing word) tokens from low 1 semicolon semicolon_fills (omega arith)
        (is_symbol s.SEMICOLON) (from + 1) low halt
        (past_word 8 (SpellsClosing word) tokens from low word semicolon from low (from + 1) (omega arith) closing_first
        here inside) absent;
    memory = missing_is_refused tokens (is_symbol s.SEMICOLON) (from + 1) low halt absent;
  }
