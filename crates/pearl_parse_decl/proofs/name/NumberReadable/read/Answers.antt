-- What reading a number of a list answers: it has one end, and depends on the tokens before that alone.
use Rattle.pearl_parse_expr.proofs.Offered.{longest_read}
use Rattle.pearl_grammar.proofs.Offered.{number_keeps}
use Rattle.pearl_parse_decl.proofs.name.NumberReadable.read.Goals as goal

pub returns-clause-reads : goal.returns-clause-reads
returns-clause-reads c = longest_read c.number.result c.number.ensures.reads

pub returns-clause-contained : goal.returns-clause-contained
returns-clause-contained c = number_keeps
