use Rattle.std.proofs.Common.{◌≡◌, ◌≤◌, ℕ, List, ◌++◌, length, drop}
use Rattle.pearl_scan.specs.Progress.{finds}
use Rattle.pearl_scan.proofs.progress.Reached.go_on.Given as goal

abbrev pub invariant-loop-place : goal.invariant-loop-place
invariant-loop-place l = record {
  far : (more : List ℕ) → finds (drop l.place l.items) (drop l.targets l.kinds) (drop l.used (l.bytes ++ more)) ≡ finds l.items l.kinds (l.bytes ++ more);
  within : l.used ≤ length l.bytes;
  fewer : l.targets ≤ length l.kinds;
}
