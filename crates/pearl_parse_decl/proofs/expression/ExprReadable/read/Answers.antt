-- What reading an expression of a list answers: whether tokens spell it depends on those before its end alone.
use Rattle.pearl_parse_decl.proofs.Kept.{whole_keeps}
use Rattle.pearl_parse_decl.proofs.expression.ExprReadable.read.Goals as goal

pub returns-clause-contained : goal.returns-clause-contained
returns-clause-contained c = whole_keeps
