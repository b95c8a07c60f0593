use Rattle.pearl_top.proofs.PrintsItsText.{prints_its_text}
use Rattle.pearl_top.proofs.laws.prints_its_text.Goals as goal

pub returns : goal.returns
returns c = prints_its_text
