use Rattle.std.proofs.Common.{◌≡◌, length}
use Rattle.pearl_bench.specs.Counts.{behind_blank}
use Rattle.pearl_bench.proofs.counts.behind_blank.Given as goal

abbrev pub invariant-bytes : goal.invariant-bytes
invariant-bytes l = behind_blank l.rest ≡ behind_blank l.line

abbrev pub decreases-bytes : goal.decreases-bytes
decreases-bytes l = length l.rest
