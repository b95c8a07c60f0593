use Rattle.std.proofs.Common.{refl, rules}
use Rattle.pearl_snap.proofs.cells.cell_at.Goals as goal

pub returns-in_err-reference-in-1 : goal.returns-in_err-reference-in-1
returns-in_err-reference-in-1 c = rw c.in-1.is (search rules)

pub returns-in_ok-array-in-2 : goal.returns-in_ok-array-in-2
returns-in_ok-array-in-2 c = rw (c.in-2.is, c.in_ok-array-in-2.ensures) refl
