-- What `upper` answers where a colon stands: a number is read behind it, or isn't.
use Rattle.std.proofs.Common.{ℕ, ◌<◌, ◌^◌, ◌+◌, List, length, Result, Ok, Err, rules, refl, ap, arith}
use Rattle.pearl_tree.specs.declared.token.Token.{Token}
use Rattle.pearl_tree.specs.declared.typing.Int.{Int}
use Rattle.pearl_tree.specs.declared.symbol.TheConstants as s
use Rattle.pearl_tree.specs.Standing.{HasSymbol}
use Rattle.pearl_tree.specs.Types.{SpellsInt, SpellsUpper}
use Rattle.pearl_parse_expr.specs.declared.reading.Halt.{Halt}
use Rattle.pearl_parse_expr.specs.declared.reading.Reading.{Reading}
use Rattle.pearl_parse_expr.specs.Reads.{ReadsOnly}
use Rattle.pearl_parse_decl.specs.Readings.{by_colon}
use Rattle.pearl_parse_decl.proofs.Behind.{maybe_reads}
use Rattle.pearl_grammar.proofs.Offered.{upper_start, token_read, only_read, part_missing, took_only, lacks_first, only}
use Rattle.pearl_grammar.proofs.Offered.{none_only}
use Rattle.pearl_parse_decl.proofs.typing.upper.Goals as goal

upper_reads : (tokens : List Token) (from : ℕ) → HasSymbol tokens from s.COLON → from < length tokens →
    length tokens < 2 ^ 55 → (read : Result (Reading Int) Halt) → ReadsOnly 16 SpellsInt tokens (from + 1) read →
    ReadsOnly 16 SpellsUpper tokens from read
upper_reads tokens from colon within few (Err halt) none =
    none_only halt (part_missing (token_read (upper_start tokens from (omega arith) few) refl colon within)
    (lacks_first halt none.refused none.least (omega arith)) (omega arith) (omega arith))
upper_reads tokens from colon within few (Ok int) read =
    only int.part (only_read (token_read (upper_start tokens from (omega arith) few) refl colon within)
    (took_only {new = int.stop} read (omega (arith, read.ahead)) (omega arith)) (omega arith) (omega arith))
    (omega (arith, read.ahead)) (omega (arith, read.ahead)) (colon, read.spells)

pub returns : goal.returns
returns c =
    maybe_reads SpellsUpper by_colon c.args.tokens.now c.args.from (λ x to h. ap by_colon h.0)
    c.int.result c.optional.result c.optional.ensures
    (upper_reads c.args.tokens.now c.args.from (c.if-not-is_symbol.ensures.stands refl)
    (c.if-not-is_symbol.ensures.within refl) (search rules) c.int.result c.int.ensures.reads)
