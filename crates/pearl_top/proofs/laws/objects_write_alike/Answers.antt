use Rattle.pearl_top.proofs.FaithfulRuns.{written_alike}
use Rattle.pearl_top.proofs.laws.objects_write_alike.Goals as goal

pub returns : goal.returns
returns c = written_alike
