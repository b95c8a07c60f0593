use Rattle.pearl_machine.proofs.part.step_here.Goals as goal

pub returns-clause-going : goal.returns-clause-going
returns-clause-going c = c.is_silent-part.ensures c.step_stack-gave.new.into
