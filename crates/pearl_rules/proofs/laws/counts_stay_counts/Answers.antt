use Rattle.pearl_rules.proofs.CountLaws.{millisecond-counts, arrived-counts}
use Rattle.pearl_rules.proofs.CountLaws.{opening-counts, effect-counts, turned-counts}
use Rattle.pearl_rules.proofs.laws.counts_stay_counts.Goals as goal

pub returns-clause-opens : goal.returns-clause-opens
returns-clause-opens c = opening-counts

pub returns-clause-acts : goal.returns-clause-acts
returns-clause-acts c = effect-counts

pub returns-clause-turns : goal.returns-clause-turns
returns-clause-turns c = turned-counts

pub returns-clause-passes : goal.returns-clause-passes
returns-clause-passes c = millisecond-counts

pub returns-clause-arrives : goal.returns-clause-arrives
returns-clause-arrives c = arrived-counts
