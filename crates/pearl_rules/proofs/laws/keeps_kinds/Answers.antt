use Rattle.pearl_rules.proofs.EffectLaws.{opening-kinds, millisecond-kinds, arrived-kinds}
use Rattle.pearl_rules.proofs.EffectLaws.{effect-kinds, effect-answers}
use Rattle.pearl_rules.proofs.laws.keeps_kinds.Goals as goal

pub returns-clause-slots : goal.returns-clause-slots
returns-clause-slots c = effect-kinds

pub returns-clause-answers : goal.returns-clause-answers
returns-clause-answers c = effect-answers

pub returns-clause-opens : goal.returns-clause-opens
returns-clause-opens c = opening-kinds

pub returns-clause-passes : goal.returns-clause-passes
returns-clause-passes c = millisecond-kinds

pub returns-clause-arrives : goal.returns-clause-arrives
returns-clause-arrives c = arrived-kinds
