use Rattle.pearl_journal.proofs.CodeLaws.{tick_past, tick_up_to}
use Rattle.pearl_journal.proofs.laws.moments_have_an_end.Goals as goal

pub returns-clause-up_to_it : goal.returns-clause-up_to_it
returns-clause-up_to_it c = tick_up_to

pub returns-clause-past_it : goal.returns-clause-past_it
returns-clause-past_it c = tick_past
