use Rattle.pearl_cells.specs.Filled.{filled}
use Rattle.pearl_stack.specs.Frames.{Stack, popped}
use Rattle.pearl_silent.proofs.Tops.{next_at, next_pushed, next_without}
use Rattle.pearl_silent.proofs.Copies.{filled_top, filled_does}
use Rattle.pearl_silent.proofs.outcomes.leave_filled.Goals as goal

pub go_on-requires-clause-some : goal.go_on-requires-clause-some
go_on-requires-clause-some c =
    let old : Stack = c.args.stack.now in
    let d = filled_top old c.fill_top.new.self c.args.len c.fill_top.ensures in
    (next_at c.fill_top.new.self _ d.is (next_pushed (filled c.args.len d.x) (popped old.frames) (next_without 1 old.frames c.requires.next))).some

pub go_on-requires-clause-next : goal.go_on-requires-clause-next
go_on-requires-clause-next c =
    let old : Stack = c.args.stack.now in
    let d = filled_top old c.fill_top.new.self c.args.len c.fill_top.ensures in
    (next_at c.fill_top.new.self _ d.is (next_pushed (filled c.args.len d.x) (popped old.frames) (next_without 1 old.frames c.requires.next))).next

pub returns : goal.returns
returns c =
    let old : Stack = c.args.stack.now in
    let d = filled_top old c.fill_top.new.self c.args.len c.fill_top.ensures in
    filled_does old c.fill_top.new.self c.go_on.new.self c.args.len c.requires.next.some d c.go_on.ensures
