use Rattle.pearl_object.proofs.Reading as reading
use Rattle.pearl_object.proofs.object.one_object.Goals as goal

pub returns : goal.returns
returns c = λ o p more rest is other small same. reading.one_object o p more rest is other small same
