use Rattle.std.proofs.Common.{refl, append_assoc}
use Rattle.pearl_snap.specs.Cells.{cell}
use Rattle.pearl_snap.proofs.cells.put_cell.Goals as goal

pub returns-in_ok-put_array-in-Array : goal.returns-in_ok-put_array-in-Array
unfolding cell
returns-in_ok-put_array-in-Array c = rw (c.in-Array.is, c.in_ok-put_array-in-Array.ensures, c.in_ok-push-in-Array.ensures.items) (simp append_assoc refl)
