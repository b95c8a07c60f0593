-- What reading an item of a format answers: whether tokens spell it depends on those before its end alone.
use Rattle.pearl_parse_decl.proofs.Kept.{fmt_keeps}
use Rattle.pearl_parse_decl.proofs.format.FmtReadable.read.Goals as goal

pub returns-clause-contained : goal.returns-clause-contained
returns-clause-contained c = fmt_keeps
