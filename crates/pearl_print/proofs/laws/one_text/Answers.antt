use Rattle.pearl_print.proofs.ShownModules.{one_text}
use Rattle.pearl_print.proofs.laws.one_text.Goals as goal

pub returns : goal.returns
returns c = one_text
