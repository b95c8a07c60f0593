use Rattle.pearl_lex.proofs.Unique.{never_both}
use Rattle.pearl_lex.proofs.laws.never_both.Goals as goal

pub returns : goal.returns
returns c = never_both
