use Rattle.pearl_journal_laws.proofs.StepLaws.{pass_is, pass_late, pass_no_picks, pass_no_times}
use Rattle.pearl_journal_laws.proofs.steps.passes_let_time_pass.Goals as goal

pub returns-clause-entry : goal.returns-clause-entry
returns-clause-entry c setup reading line first second d n says = pass_is setup reading line first second says d n

pub returns-clause-late : goal.returns-clause-late
returns-clause-late c setup reading line first second d n says = pass_late setup reading line first second says d n

pub returns-clause-times : goal.returns-clause-times
returns-clause-times c = pass_no_times

pub returns-clause-picks : goal.returns-clause-picks
returns-clause-picks c = pass_no_picks
