use Rattle.pearl_print.proofs.LawfulParts.{lawful_tokens}
use Rattle.pearl_print.proofs.laws.lawful_tokens.Goals as goal

pub returns : goal.returns
returns c = lawful_tokens
