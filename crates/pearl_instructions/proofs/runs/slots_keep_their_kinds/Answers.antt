use Rattle.pearl_instructions.proofs.Tables.{knows_slots}
use Rattle.pearl_instructions.proofs.runs.slots_keep_their_kinds.Goals as goal

pub returns : goal.returns
returns c = knows_slots
