use Rattle.pearl_rules_laws.proofs.Keeping.{effect_keeps, prevent_empties, millisecond_grows, arrived_grows, none_kept}
use Rattle.pearl_rules_laws.proofs.kept.kept_starts_wait_in_order.Goals as goal

pub returns-clause-acts : goal.returns-clause-acts
returns-clause-acts c = effect_keeps

pub returns-clause-prevents : goal.returns-clause-prevents
returns-clause-prevents c = prevent_empties

pub returns-clause-passes : goal.returns-clause-passes
returns-clause-passes c = millisecond_grows

pub returns-clause-arrives : goal.returns-clause-arrives
returns-clause-arrives c = arrived_grows

pub returns-clause-always : goal.returns-clause-always
returns-clause-always c = none_kept
