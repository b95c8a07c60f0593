-- What reading a reference of a list answers: whether tokens spell it depends on those before its end alone.
use Rattle.pearl_grammar.proofs.Offered.{own_ref_keeps}
use Rattle.pearl_parse_decl.proofs.expression.RefReadable.read.Goals as goal

pub returns-clause-contained : goal.returns-clause-contained
returns-clause-contained c = own_ref_keeps
