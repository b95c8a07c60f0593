-- What `maybe_number` answers: a number in brackets stands there, or doesn't.
use Rattle.std.proofs.Common.{ap}
use Rattle.pearl_tree.specs.Standing.{SpellsBracketedNumber}
use Rattle.pearl_parse_decl.specs.Readings.{by_bracket}
use Rattle.pearl_parse_decl.proofs.Behind.{maybe_reads}
use Rattle.pearl_parse_decl.proofs.name.maybe_number.Goals as goal

pub returns : goal.returns
returns c =
    maybe_reads SpellsBracketedNumber by_bracket c.args.tokens.now c.args.from (λ x to h. ap by_bracket h.0)
    c.bracketed_number.result c.optional.result c.optional.ensures c.bracketed_number.ensures.reads
