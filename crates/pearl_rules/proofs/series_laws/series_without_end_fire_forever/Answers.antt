use Rattle.pearl_rules.proofs.Firings.{fires_forever}
use Rattle.pearl_rules.proofs.series_laws.series_without_end_fire_forever.Goals as goal

pub returns : goal.returns
returns c = fires_forever
