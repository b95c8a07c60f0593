use Rattle.pearl_verify.proofs.Fitting.{Further}
use Rattle.pearl_verify.proofs.limits.row_fits.Given as goal

abbrev pub invariant-loop-item : goal.invariant-loop-item
invariant-loop-item l = Further l.row l.kinds l.item-index l.at l.width
