-- What is left of a body, a task or a procedure behind its first tokens.
use Rattle.std.proofs.Common.{◌≡◌, ℕ, ◌+◌, ◌≤◌, Bool, List, length, max, Option, Some, None, ap, subst, arith}
use Rattle.pearl_tree.specs.declared.declaration.Param.{Param}
use Rattle.pearl_tree.specs.declared.typing.Basic.{Basic}
use Rattle.pearl_tree.specs.declared.token.What.{What}
use Rattle.pearl_tree.specs.declared.token.Token.{Token}
use Rattle.pearl_tree.specs.Standing.{Spelling, HasWord, HasSymbol, SpellsMaybe, SpellsMaybeBracketed}
use Rattle.pearl_tree.specs.Declarations.{SpellsParam}
use Rattle.pearl_tree.specs.Statements.{SpellsWholeBody}
use Rattle.pearl_tree.specs.Modules.{SpellsTaskHead, SpellsReturns, SpellsBlock}
use Rattle.pearl_tree.specs.declared.symbol.TheConstants as s
use Rattle.pearl_tree.specs.declared.word_code.TheConstants as w
use Rattle.pearl_parse_expr.specs.declared.reading.Halt.{Halt}
use Rattle.pearl_parse_expr.specs.declared.reading.Halt.TheVariants.{Refused, NoMemory}
use Rattle.pearl_parse_expr.specs.Stops.{IsLongest, IsHalted, is_word}
use Rattle.pearl_parse_expr.proofs.Offered.{shorter}
use Rattle.pearl_parse_decl.specs.Readings.{by_bracket, extends_head}
use Rattle.pearl_parse_decl.specs.Readings as readings
use Rattle.pearl_parse.specs.Bodies.{extends_body}
use Rattle.pearl_grammar.specs.Reached.{IsStopped}
use Rattle.pearl_grammar.proofs.Offered.{Rest, Ends, Next}
use Rattle.pearl_parse.proofs.Steps.{Goes, Avoids, past}

-- END ";"
abbrev pub end_rest : Rest
end_rest others at to = HasWord others at w.END × HasSymbol others (at + 1) s.SEMICOLON × (to ≡ at + 2)

-- body END ";"
abbrev pub body_rest : Rest
body_rest = Next SpellsWholeBody end_rest

-- ";" body END ";"
abbrev pub opened_rest : Rest
opened_rest others at to = HasSymbol others at s.SEMICOLON × body_rest others (at + 1) to

abbrev pub block_rest : Rest
block_rest = Next SpellsBlock Ends

abbrev pub task_rest : Rest
task_rest = Next SpellsTaskHead block_rest

abbrev pub Returned : List Token → Spelling (Option Basic)
Returned tokens = SpellsMaybe (SpellsReturns tokens)

abbrev pub returns_rest : Rest
returns_rest = Next Returned block_rest

abbrev pub Params : List Token → Spelling (List Param)
Params tokens = SpellsMaybeBracketed tokens (SpellsParam tokens)

abbrev pub proc_rest : Rest
proc_rest = Next Params returns_rest

pub end_stops : Avoids extends_body end_rest
end_stops others at to h = ap extends_body h.0

pub head_stops : Avoids extends_head block_rest
head_stops others at to h = ap extends_head h.2.1

pub returns_stop : Avoids (is_word w.RETURNS) block_rest
returns_stop others at to h = ap (is_word w.RETURNS) h.2.1

pub params_stop : Avoids by_bracket returns_rest
params_stop others at to (None, m, h, rest) = ap by_bracket (subst (λ k. HasSymbol others k s.SEMICOLON) h rest.2.1)
params_stop others at to (Some x, m, h, rest) = ap by_bracket h.1

pub longest_later : {Y : Type 0} (spells : List Token → Spelling Y) (extends : Option What → Bool) (tokens : List Token)
    (from end stop new : ℕ) → stop ≤ new →
    IsLongest spells extends tokens from end stop → IsLongest spells extends tokens from end new
longest_later spells extends tokens from end stop new below longest = λ others agree x to h. longest others
    (shorter tokens others stop new below agree) x to h

module _ (tokens : List Token) (from least_stop : ℕ) where
  pub opened_goes : Goes SpellsBlock tokens from opened_rest from least_stop
  opened_goes = λ others agree x to h. (h.1, (x, h.0, h.2, (h.3, h.4, h.5)))

  pub body_goes : Goes SpellsBlock tokens from body_rest (from + 1) least_stop
  body_goes = λ others agree x to h. (x, h.0, h.2, (h.3, h.4, h.5))

  pub end_goes : (end stop new : ℕ) → least_stop ≤ new → stop ≤ new →
      IsLongest SpellsWholeBody extends_body tokens (from + 1) end stop → Goes SpellsBlock tokens from end_rest end new
  end_goes end stop new below reach longest =
      past SpellsBlock tokens from SpellsWholeBody extends_body end_rest (from + 1) least_stop end new body_goes below
      (longest_later SpellsWholeBody extends_body tokens (from + 1) end stop new reach longest) end_stops

-- a part is stopped no earlier than the part before it
pub behind_is_stopped : {Y : Type 0} (spells : List Token → Spelling Y) (tokens : List Token) (from least_stop : ℕ)
    (halt : Halt) → least_stop ≤ length tokens →
    IsHalted spells tokens from halt → IsStopped spells tokens from least_stop (readings.behind halt least_stop)
behind_is_stopped spells tokens from least_stop NoMemory within h = tt
behind_is_stopped spells tokens from least_stop (Refused stop) within h = (
  λ others agree x to read. h.0 others (shorter tokens others stop (max stop least_stop) (omega arith) agree) x to read,
  omega (arith, h.1),
  omega arith,
  omega (arith, h.2, within),
)
