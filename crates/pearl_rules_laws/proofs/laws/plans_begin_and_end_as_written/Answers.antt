use Rattle.std.proofs.Common.{refl, add-zero}
use Rattle.pearl_rules_laws.proofs.Times.{next_time}
use Rattle.pearl_rules_laws.proofs.laws.plans_begin_and_end_as_written.Goals as goal

pub returns-clause-now : goal.returns-clause-now
returns-clause-now c = λ core. add-zero core.moment

pub returns-clause-at : goal.returns-clause-at
returns-clause-at c = λ core time small. next_time core time core.moment small

pub returns-clause-after : goal.returns-clause-after
returns-clause-after c = λ core n. refl

pub returns-clause-occurs : goal.returns-clause-occurs
returns-clause-occurs c = λ made core interrupt repeat. add-zero core.moment

pub returns-clause-after_it : goal.returns-clause-after_it
returns-clause-after_it c = λ made core interrupt n repeat. refl

pub returns-clause-periods : goal.returns-clause-periods
returns-clause-periods c = λ n m time. (refl, refl, refl, refl)

pub returns-clause-never_ends : goal.returns-clause-never_ends
returns-clause-never_ends c = λ core first n. (refl, refl)

pub returns-clause-until : goal.returns-clause-until
returns-clause-until c = λ core first n time small. next_time core time first small

pub returns-clause-during : goal.returns-clause-during
returns-clause-during c = λ core first n m. refl
