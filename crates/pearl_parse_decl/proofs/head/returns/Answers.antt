-- What `returns` answers: RETURNS with a type in brackets stands there, or doesn't.
use Rattle.std.proofs.Common.{ap}
use Rattle.pearl_tree.specs.Modules.{SpellsReturns}
use Rattle.pearl_tree.specs.declared.word_code.TheConstants as w
use Rattle.pearl_parse_expr.specs.Stops.{is_word}
use Rattle.pearl_parse_decl.proofs.Behind.{maybe_reads}
use Rattle.pearl_parse_decl.proofs.head.returns.Goals as goal

pub returns : goal.returns
returns c =
    maybe_reads SpellsReturns (is_word w.RETURNS) c.args.tokens.now c.args.from (λ x to h. ap (is_word w.RETURNS) h.1)
    c.returned.result c.optional.result c.optional.ensures c.returned.ensures.reads
