use Rattle.pearl_rules.proofs.RunLaws.{step-entries}
use Rattle.pearl_rules.proofs.MarkLaws.{step-acts, step-turns, step-tells, step-passes, step-arrives, ticks_pass, ticks_leave}
use Rattle.pearl_rules.proofs.laws.marks_change_the_core.Goals as goal

pub returns-clause-leaves : goal.returns-clause-leaves
returns-clause-leaves c = step-entries

pub returns-clause-passes : goal.returns-clause-passes
returns-clause-passes c = step-passes

pub returns-clause-arrives : goal.returns-clause-arrives
returns-clause-arrives c = step-arrives

pub returns-clause-tick_passes : goal.returns-clause-tick_passes
returns-clause-tick_passes c = ticks_pass

pub returns-clause-tick_leaves : goal.returns-clause-tick_leaves
returns-clause-tick_leaves c = ticks_leave

pub returns-clause-acts : goal.returns-clause-acts
returns-clause-acts c = step-acts

pub returns-clause-turns : goal.returns-clause-turns
returns-clause-turns c = step-turns

pub returns-clause-tells : goal.returns-clause-tells
returns-clause-tells c = step-tells
