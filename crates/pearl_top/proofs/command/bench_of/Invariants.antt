use Rattle.std.proofs.Common.{◌≡◌, ◌≤◌}
use Rattle.pearl_top.specs.Commands.{bench_of, bench_upto}
use Rattle.pearl_top.proofs.command.bench_of.Given as goal

abbrev pub invariant-numbers : goal.invariant-numbers
invariant-numbers l = record {
  few : l.n ≤ 100;
  same : bench_of l.digits ≡ bench_upto l.n l.digits;
}

abbrev pub decreases-numbers : goal.decreases-numbers
decreases-numbers l = l.n
