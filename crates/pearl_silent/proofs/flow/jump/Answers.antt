use Rattle.pearl_silent.proofs.Made.{silent_does}
use Rattle.pearl_silent.proofs.FlowRows.{jump_is}
use Rattle.pearl_silent.proofs.flow.jump.Goals as goal

pub returns : goal.returns
returns c = silent_does _ c.args.stack.now c.go.new.self _ (jump_is c.args.stack.now.frames c.args.i c.requires.next.some) c.go.ensures
