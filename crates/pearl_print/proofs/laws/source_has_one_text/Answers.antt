use Rattle.pearl_print.proofs.ShownModules.{source_has_one_text}
use Rattle.pearl_print.proofs.laws.source_has_one_text.Goals as goal

pub returns : goal.returns
returns c = source_has_one_text
