use Rattle.pearl_calls.proofs.Adding.{add_up}
use Rattle.pearl_calls.proofs.laws.weights_add_up.Goals as goal

pub returns : goal.returns
returns c = add_up
