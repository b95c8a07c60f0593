use Rattle.pearl_top.proofs.SavedRuns.{parts_write_alike}
use Rattle.pearl_top.proofs.laws.parts_write_alike.Goals as goal

pub returns : goal.returns
returns c = parts_write_alike
