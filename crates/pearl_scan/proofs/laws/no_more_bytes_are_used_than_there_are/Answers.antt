use Rattle.pearl_scan.proofs.Within.{uses_no_more}
use Rattle.pearl_scan.proofs.laws.no_more_bytes_are_used_than_there_are.Goals as goal

pub returns : goal.returns
returns c = uses_no_more
