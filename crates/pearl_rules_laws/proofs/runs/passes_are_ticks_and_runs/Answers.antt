use Rattle.pearl_rules_laws.proofs.Alike.{passes_turn}
use Rattle.pearl_rules_laws.proofs.runs.passes_are_ticks_and_runs.Goals as goal

pub returns : goal.returns
returns c = passes_turn
