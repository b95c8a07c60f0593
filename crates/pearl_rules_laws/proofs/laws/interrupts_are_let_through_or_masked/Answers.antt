use Rattle.pearl_rules_laws.proofs.Incoming.{enable_lets_through, disable_masks, trigger_occurs}
use Rattle.pearl_rules_laws.proofs.laws.interrupts_are_let_through_or_masked.Goals as goal

pub returns-clause-enables : goal.returns-clause-enables
returns-clause-enables c = enable_lets_through

pub returns-clause-disables : goal.returns-clause-disables
returns-clause-disables c = disable_masks

pub returns-clause-triggers : goal.returns-clause-triggers
returns-clause-triggers c = trigger_occurs
