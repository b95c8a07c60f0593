use Rattle.pearl_rules.proofs.Firings.{fires_as_said}
use Rattle.pearl_rules.proofs.series_laws.series_fire_as_said.Goals as goal

pub returns : goal.returns
returns c = fires_as_said
