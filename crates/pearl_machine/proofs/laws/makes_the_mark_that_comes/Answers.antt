use Rattle.pearl_machine.proofs.Marked.{makes_one}
use Rattle.pearl_machine.proofs.laws.makes_the_mark_that_comes.Goals as goal

pub returns : goal.returns
returns c = λ old new entry mark over told settled comes last handles before entries left next.
    makes_one old new entry mark over told settled comes last handles before entries left next
