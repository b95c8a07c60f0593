use Rattle.std.proofs.Common.{length}
use Rattle.pearl_resolve.proofs.making.«+monadics_over».Given as goal

abbrev pub decreases-monadics_over : goal.decreases-monadics_over
decreases-monadics_over l = length l.monadics.now
