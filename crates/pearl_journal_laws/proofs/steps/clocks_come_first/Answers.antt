use Rattle.pearl_journal_laws.proofs.StepLaws.{clock_first, clock_later, clock_none}
use Rattle.pearl_journal_laws.proofs.steps.clocks_come_first.Goals as goal

pub returns-clause-first : goal.returns-clause-first
returns-clause-first c setup reading line text time = clock_first setup reading line text time

pub returns-clause-later : goal.returns-clause-later
returns-clause-later c = clock_later

pub returns-clause-form : goal.returns-clause-form
returns-clause-form c = clock_none
