use Rattle.pearl_journal_laws.proofs.Readings.{is_counted, moment_stays}
use Rattle.pearl_journal_laws.proofs.StepLaws.{stays_within}
use Rattle.pearl_journal_laws.proofs.lines.reading_goes_on.Goals as goal

pub returns-clause-counted : goal.returns-clause-counted
returns-clause-counted c = is_counted

pub returns-clause-stays : goal.returns-clause-stays
returns-clause-stays c = moment_stays

pub returns-clause-within : goal.returns-clause-within
returns-clause-within c = stays_within
