use Rattle.pearl_rules_laws.proofs.Times.{time_starts, time_goes_on, time_turns, time_within}
use Rattle.pearl_rules_laws.proofs.schedules.the_time_of_day_goes_on.Goals as goal

pub returns-clause-starts : goal.returns-clause-starts
returns-clause-starts c = time_starts

pub returns-clause-goes_on : goal.returns-clause-goes_on
returns-clause-goes_on c = time_goes_on

pub returns-clause-midnight : goal.returns-clause-midnight
returns-clause-midnight c = time_turns

pub returns-clause-within : goal.returns-clause-within
returns-clause-within c = time_within
