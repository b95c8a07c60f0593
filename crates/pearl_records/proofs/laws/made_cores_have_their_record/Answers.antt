use Rattle.pearl_records.proofs.Cores.{core-read}
use Rattle.pearl_records.proofs.laws.made_cores_have_their_record.Goals as goal

pub returns : goal.returns
returns c = core-read
