use Rattle.pearl_snap.proofs.frames.task_at.Goals as goal

pub returns-in-1 : goal.returns-in-1
returns-in-1 c = rw c.in-1.is c.read_active.ensures
