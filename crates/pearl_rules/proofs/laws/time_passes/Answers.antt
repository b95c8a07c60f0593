use Rattle.pearl_rules.proofs.EffectLaws.{leaves, millisecond-leaves}
use Rattle.pearl_rules.proofs.UrgencyLaws.{arrived-moment}
use Rattle.pearl_rules.proofs.laws.time_passes.Goals as goal

pub returns-clause-acts : goal.returns-clause-acts
returns-clause-acts c = λ core own action. (leaves core own action).moment

pub returns-clause-passes : goal.returns-clause-passes
returns-clause-passes c = λ core. (millisecond-leaves core).moment

pub returns-clause-arrives : goal.returns-clause-arrives
returns-clause-arrives c = arrived-moment
