use Rattle.pearl_rules.proofs.TaskLaws.{effect-ends_itself}
use Rattle.pearl_rules.proofs.laws.only_ends_end.Goals as goal

pub returns : goal.returns
returns c = effect-ends_itself
