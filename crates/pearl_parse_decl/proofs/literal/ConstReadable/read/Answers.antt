-- What reading a constant of a list answers: whether tokens spell it depends on those before its end alone.
use Rattle.pearl_grammar.proofs.Offered.{constant}
use Rattle.pearl_parse_decl.proofs.literal.ConstReadable.read.Goals as goal

pub returns-clause-contained : goal.returns-clause-contained
returns-clause-contained c = constant.kept
