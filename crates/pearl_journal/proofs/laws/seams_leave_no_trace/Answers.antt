use Rattle.pearl_journal.proofs.CutLaws.{fed_joined, return_dropped, return_stands}
use Rattle.pearl_journal.proofs.laws.seams_leave_no_trace.Goals as goal

pub returns : goal.returns
returns c = record { joined = fed_joined; dropped = return_dropped; stands = return_stands }
