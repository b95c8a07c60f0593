use Rattle.pearl_rules.proofs.TimeOfRuns.{turn_fits, turn_time, turn_moments, turn_clock, turn_bytes}
use Rattle.pearl_rules.proofs.laws.entries_fit_one_after_the_other.Goals as goal

pub returns-clause-each : goal.returns-clause-each
returns-clause-each c = turn_fits

pub returns-clause-time : goal.returns-clause-time
returns-clause-time c = turn_time

pub returns-clause-moments : goal.returns-clause-moments
returns-clause-moments c = turn_moments

pub returns-clause-clock : goal.returns-clause-clock
returns-clause-clock c = turn_clock

pub returns-clause-bytes : goal.returns-clause-bytes
returns-clause-bytes c = turn_bytes
