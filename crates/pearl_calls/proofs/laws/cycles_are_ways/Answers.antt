use Rattle.pearl_calls.proofs.Ways.{cycles}
use Rattle.pearl_calls.proofs.laws.cycles_are_ways.Goals as goal

pub returns : goal.returns
returns c = cycles
