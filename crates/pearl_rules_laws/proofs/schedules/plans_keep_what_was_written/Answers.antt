use Rattle.std.proofs.Common.{refl}
use Rattle.pearl_rules_laws.proofs.schedules.plans_keep_what_was_written.Goals as goal

pub returns-clause-made : goal.returns-clause-made
returns-clause-made c = λ core start repeat. (refl, refl, refl, refl)

pub returns-clause-begins : goal.returns-clause-begins
returns-clause-begins c = λ core plan. (refl, refl, refl, refl)

pub returns-clause-times : goal.returns-clause-times
returns-clause-times c = λ interrupt n. (refl, refl, refl, refl)
