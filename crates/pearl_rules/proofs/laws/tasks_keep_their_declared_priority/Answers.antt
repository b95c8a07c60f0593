use Rattle.pearl_rules.proofs.EffectLaws.{millisecond-leaves}
use Rattle.pearl_rules.proofs.UrgencyLaws.{arrived-declared, millisecond-urgencies, arrived-urgencies}
use Rattle.std.proofs.Common.{ap}
use Rattle.pearl_rules.proofs.EffectLaws.{leaves}
use Rattle.pearl_rules.proofs.PickLaws.{turned-is}
use Rattle.pearl_rules.proofs.UrgencyLaws.{opening-declared, opening-urgencies, effect-urgencies}
use Rattle.pearl_rules.proofs.laws.tasks_keep_their_declared_priority.Goals as goal

pub returns-clause-opens : goal.returns-clause-opens
returns-clause-opens c = λ setup. opening-declared setup.tasks

pub returns-clause-acts : goal.returns-clause-acts
returns-clause-acts c = λ core own action. (leaves core own action).declared

pub returns-clause-turns : goal.returns-clause-turns
returns-clause-turns c = λ core offers t. ap (λ c. c.tasks) (turned-is core offers t)

pub returns-clause-urgent_at_start : goal.returns-clause-urgent_at_start
returns-clause-urgent_at_start c = λ setup all. opening-urgencies setup.tasks all

pub returns-clause-urgent : goal.returns-clause-urgent
returns-clause-urgent c = effect-urgencies

pub returns-clause-passes : goal.returns-clause-passes
returns-clause-passes c = λ core. (millisecond-leaves core).declared

pub returns-clause-arrives : goal.returns-clause-arrives
returns-clause-arrives c = arrived-declared

pub returns-clause-urgent_later : goal.returns-clause-urgent_later
returns-clause-urgent_later c = millisecond-urgencies

pub returns-clause-urgent_then : goal.returns-clause-urgent_then
returns-clause-urgent_then c = arrived-urgencies
