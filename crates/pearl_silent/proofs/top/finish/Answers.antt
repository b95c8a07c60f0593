use Rattle.pearl_silent.proofs.Tops.{has_next}
use Rattle.pearl_silent.proofs.top.finish.Goals as goal

pub leave-requires-clause-next : goal.leave-requires-clause-next
leave-requires-clause-next c = has_next c.args.here.now c.args.stack.now.frames c.requires.here
