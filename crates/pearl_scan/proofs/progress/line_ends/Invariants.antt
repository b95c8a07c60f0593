use Rattle.std.proofs.Common.{◌≡◌, take}
use Rattle.pearl_scan.specs.Progress.{line_ends}
use Rattle.pearl_scan.proofs.progress.line_ends.Given as goal

abbrev pub invariant-loop-byte : goal.invariant-loop-byte
invariant-loop-byte l = l.count ≡ line_ends (take l.byte-index l.bytes)
