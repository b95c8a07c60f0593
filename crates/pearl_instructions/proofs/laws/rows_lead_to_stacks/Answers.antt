use Rattle.pearl_instructions.proofs.Sound.{row_goes}
use Rattle.pearl_instructions.proofs.laws.rows_lead_to_stacks.Goals as goal

pub returns : goal.returns
returns c = row_goes
