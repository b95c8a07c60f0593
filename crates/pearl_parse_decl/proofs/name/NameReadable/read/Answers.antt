-- What reading a name of a list answers: it has one end, and depends on the tokens before that alone.
use Rattle.pearl_parse_expr.proofs.Offered.{longest_read}
use Rattle.pearl_grammar.proofs.Offered.{name_keeps}
use Rattle.pearl_parse_decl.proofs.name.NameReadable.read.Goals as goal

pub returns-clause-reads : goal.returns-clause-reads
returns-clause-reads c = longest_read c.name.result c.name.ensures.reads

pub returns-clause-contained : goal.returns-clause-contained
returns-clause-contained c = name_keeps
