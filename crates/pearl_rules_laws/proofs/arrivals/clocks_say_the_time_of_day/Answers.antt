use Rattle.std.proofs.Common.{refl}
use Rattle.pearl_rules_laws.proofs.Times.{time_starts}
use Rattle.pearl_rules_laws.proofs.arrivals.clocks_say_the_time_of_day.Goals as goal

pub returns-clause-says : goal.returns-clause-says
returns-clause-says c = λ core time small. time_starts (record core { clock = time }) small

pub returns-clause-rest : goal.returns-clause-rest
returns-clause-rest c = λ core time. refl
