use Rattle.pearl_rules.proofs.Offered.{reads_values}
use Rattle.pearl_scan.proofs.laws.what_is_got_is_of_the_kinds.Goals as goal

pub returns : goal.returns
returns c = reads_values
