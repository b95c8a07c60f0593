use Rattle.pearl_gen_stmt.proofs.Settling.{IsSettled, UpTo}
use Rattle.pearl_gen_stmt.proofs.pending.settle_at.Given as goal

abbrev pub invariant-loop-place : goal.invariant-loop-place
invariant-loop-place l = IsSettled l.kind l.from l.to (UpTo l.places l.place-index) l.fn.code.items l.code.items
