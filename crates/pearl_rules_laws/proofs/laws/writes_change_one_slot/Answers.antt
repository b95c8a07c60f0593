use Rattle.pearl_rules_laws.proofs.Doing.{write_changes}
use Rattle.pearl_rules_laws.proofs.laws.writes_change_one_slot.Goals as goal

pub returns : goal.returns
returns c = write_changes
