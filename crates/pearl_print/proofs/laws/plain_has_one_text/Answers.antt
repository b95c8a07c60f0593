use Rattle.pearl_print.proofs.PlainTokens.{plain_has_one_text}
use Rattle.pearl_print.proofs.laws.plain_has_one_text.Goals as goal

pub returns : goal.returns
returns c = plain_has_one_text
