use Rattle.pearl_rules.proofs.EndsLaws.{millisecond-lasts, arrived-lasts}
use Rattle.pearl_rules.proofs.EndsLaws.{effect-ends, effect-serves}
use Rattle.pearl_rules.proofs.KeptLaws.{begins_afresh}
use Rattle.pearl_rules.proofs.laws.ended_tasks_begin_afresh.Goals as goal

pub returns-clause-ends : goal.returns-clause-ends
returns-clause-ends g c = effect-ends

pub returns-clause-keeps : goal.returns-clause-keeps
returns-clause-keeps g c = λ fresh rows ended before t row at. begins_afresh fresh rows ended before t row at

pub returns-clause-passes : goal.returns-clause-passes
returns-clause-passes g c = millisecond-lasts

pub returns-clause-arrives : goal.returns-clause-arrives
returns-clause-arrives g c = arrived-lasts

pub returns-clause-serves : goal.returns-clause-serves
returns-clause-serves g c = effect-serves
