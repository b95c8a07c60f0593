-- What reading a bound of a list answers: whether tokens spell it depends on those before its end alone.
use Rattle.pearl_grammar.proofs.Offered.{bound}
use Rattle.pearl_parse_decl.proofs.typing.BoundReadable.read.Goals as goal

pub returns-clause-contained : goal.returns-clause-contained
returns-clause-contained c = bound.kept
