use Rattle.pearl_machine.proofs.Marked.{makes_none}
use Rattle.pearl_machine.proofs.laws.settles_without_a_mark.Goals as goal

pub returns : goal.returns
returns c = λ old new handles before entries. makes_none old new handles before entries
