use Rattle.std.proofs.Common.{refl, append_assoc}
use Rattle.pearl_snap.proofs.Puts.{active_bytes}
use Rattle.pearl_snap.proofs.frames.put_task.Goals as goal

pub returns-in_ok-put_acting-in-Active : goal.returns-in_ok-put_acting-in-Active
returns-in_ok-put_acting-in-Active c =
    rw (active_bytes c.args.row.now c.args.frames.now c.in-Active.priority c.in-Active.suspended c.in-Active.kept c.in-Active.is, c.in_ok-put_acting-in-Active.ensures, c.in_ok-push-in-Active.ensures.items, c.active_tag.ensures, c.as_slice.ensures)
    (simp append_assoc refl)
