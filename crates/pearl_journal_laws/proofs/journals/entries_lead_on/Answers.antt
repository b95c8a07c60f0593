use Rattle.pearl_journal_laws.proofs.Joining.{moment_led}
use Rattle.pearl_journal_laws.proofs.journals.entries_lead_on.Goals as goal

pub returns : goal.returns
returns c = moment_led
