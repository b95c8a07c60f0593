use Rattle.std.proofs.Common.{◌<◌}
use Rattle.pearl_gen_stmt.proofs.Settling.{IsSettled}
use Rattle.pearl_gen_stmt.proofs.pending.settle_between.Given as goal

abbrev pub invariant-loop-index : goal.invariant-loop-index
invariant-loop-index l = IsSettled l.kind l.from l.to (λ k. k < l.index) l.fn.code.items l.code.items
