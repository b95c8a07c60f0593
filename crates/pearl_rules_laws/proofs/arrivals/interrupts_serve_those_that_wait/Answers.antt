use Rattle.pearl_rules_laws.proofs.Reaching.{goes_on_at, starts_at, overrun_at, kept_at, late_at, keeps_at, begins_at, later_at, anew_at, untouched_at}
use Rattle.pearl_rules_laws.proofs.arrivals.interrupts_serve_those_that_wait.Goals as goal

pub returns-clause-goes_on : goal.returns-clause-goes_on
returns-clause-goes_on c = goes_on_at

pub returns-clause-starts : goal.returns-clause-starts
returns-clause-starts c = starts_at

pub returns-clause-overruns : goal.returns-clause-overruns
returns-clause-overruns c = overrun_at

pub returns-clause-is_kept : goal.returns-clause-is_kept
returns-clause-is_kept c = kept_at

pub returns-clause-keeps : goal.returns-clause-keeps
returns-clause-keeps c = keeps_at

pub returns-clause-begins : goal.returns-clause-begins
returns-clause-begins c = begins_at

pub returns-clause-later : goal.returns-clause-later
returns-clause-later c = later_at

pub returns-clause-anew : goal.returns-clause-anew
returns-clause-anew c = anew_at

pub returns-clause-others : goal.returns-clause-others
returns-clause-others c = untouched_at

pub returns-clause-late : goal.returns-clause-late
returns-clause-late c = late_at
