use Rattle.pearl_rules_laws.proofs.Planning.{masked_tells}
use Rattle.pearl_rules_laws.proofs.Rows.{occurred_is}
use Rattle.pearl_rules_laws.proofs.laws.interrupts_reach_those_that_wait.Goals as goal

pub returns-clause-masked : goal.returns-clause-masked
returns-clause-masked c = masked_tells

pub returns-clause-occurs : goal.returns-clause-occurs
returns-clause-occurs c = occurred_is
