use Rattle.std.proofs.Common.{ap, ◌∙◌}
use Rattle.pearl_stack.specs.Frames.{Stack}
use Rattle.pearl_silent.specs.Steps.{next_of}
use Rattle.pearl_silent.proofs.Tops.{next_at, next_with_cells}
use Rattle.pearl_silent.proofs.Made.{silent_does}
use Rattle.pearl_silent.proofs.CellRows.{fill_is}
use Rattle.pearl_silent.proofs.cells.fill.Goals as goal

pub fill_cells-requires-clause-there : goal.fill_cells-requires-clause-there
fill_cells-requires-clause-there c = (fill_is c.args.stack.now.frames c.args.first c.args.count c.args.kind c.args.stack.now.room c.requires.ready).0

pub go_on-requires-clause-some : goal.go_on-requires-clause-some
go_on-requires-clause-some c = (next_at c.fill_cells.new.stack _ c.fill_cells.ensures (next_with_cells _ c.args.stack.now.frames c.requires.next)).some

pub go_on-requires-clause-next : goal.go_on-requires-clause-next
go_on-requires-clause-next c = (next_at c.fill_cells.new.stack _ c.fill_cells.ensures (next_with_cells _ c.args.stack.now.frames c.requires.next)).next

pub returns : goal.returns
returns c =
    let old : Stack = c.args.stack.now in
    silent_does _ old c.go_on.new.self _ (fill_is old.frames c.args.first c.args.count c.args.kind old.room c.requires.ready).1
    (c.go_on.ensures ∙ ap (λ (s : Stack). record s { frames = next_of s.frames }) c.fill_cells.ensures)
