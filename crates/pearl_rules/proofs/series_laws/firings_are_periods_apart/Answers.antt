use Rattle.pearl_rules.proofs.Firings.{periods_apart}
use Rattle.pearl_rules.proofs.series_laws.firings_are_periods_apart.Goals as goal

pub returns : goal.returns
returns c = periods_apart
