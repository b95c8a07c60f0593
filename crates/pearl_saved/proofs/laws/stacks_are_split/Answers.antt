use Rattle.pearl_saved.proofs.Forth.{are_of_a_stack}
use Rattle.pearl_saved.proofs.Back.{keeps_rules}
use Rattle.pearl_saved.proofs.Again.{record_again}
use Rattle.pearl_saved.proofs.laws.stacks_are_split.Goals as goal

pub returns-clause-frames : goal.returns-clause-frames
returns-clause-frames c = λ o t frames is refers. (are_of_a_stack o t frames is refers, record_again o _ frames is)

pub returns-clause-stacks : goal.returns-clause-stacks
returns-clause-stacks c = keeps_rules
