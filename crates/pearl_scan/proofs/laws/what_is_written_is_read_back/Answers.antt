use Rattle.pearl_scan.proofs.Back.{reads_what_is_written}
use Rattle.pearl_scan.proofs.laws.what_is_written_is_read_back.Goals as goal

pub returns : goal.returns
returns c = reads_what_is_written
