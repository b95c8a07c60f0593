use Rattle.pearl_calls.proofs.Following.{none_calls_back}
use Rattle.pearl_calls.proofs.laws.numbered_call_none_back.Goals as goal

pub returns : goal.returns
returns c = none_calls_back
