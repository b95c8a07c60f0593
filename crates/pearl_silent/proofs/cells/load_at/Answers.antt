use Rattle.std.proofs.Common.{◌+◌, slice_get, sym, ap, ◌∙◌, arith}
use Rattle.pearl_silent.specs.Steps.{told, top_cells}
use Rattle.pearl_silent.proofs.Made.{same_applies, same_does, made_room, offers_does}
use Rattle.pearl_silent.proofs.Applied.{one_there}
use Rattle.pearl_silent.proofs.Tops.{some_within}
use Rattle.pearl_silent.proofs.CellRows.{load_at_some, load_at_none}
use Rattle.pearl_silent.proofs.Copies.{is_some}
use Rattle.pearl_silent.proofs.cells.load_at.Goals as goal

pub top-requires : goal.top-requires
top-requires c = one_there c.args.stack.now.frames _ c.args.stack.now.room c.requires.ready

pub behind-c-requires : goal.behind-c-requires
behind-c-requires c =
    let frames = c.args.stack.now.frames in
    let at = load_at_some frames c.args.first c.args.count c.args.stack.now.room c.in-Some.o c.top.result.now c.requires.ready c.top.ensures (sym c.offset.ensures ∙ c.in-Some.is) in
    some_within (top_cells frames) (c.args.first + c.in-Some.o) at.there

pub leave_cell-requires-clause-there : goal.leave_cell-requires-clause-there
leave_cell-requires-clause-there c = let there = one_there c.args.stack.now.frames _ c.args.stack.now.room c.requires.ready in omega (arith, there)

pub leave_cell-requires-clause-cell : goal.leave_cell-requires-clause-cell
leave_cell-requires-clause-cell c =
    let frames = c.args.stack.now.frames in
    rw c.behind-c.ensures (load_at_some frames c.args.first c.args.count c.args.stack.now.room c.in-Some.o c.top.result.now c.requires.ready c.top.ensures (sym c.offset.ensures ∙ c.in-Some.is)).there

pub leave_cell-requires-clause-room : goal.leave_cell-requires-clause-room
leave_cell-requires-clause-room c =
    let frames = c.args.stack.now.frames in
    let at = load_at_some frames c.args.first c.args.count c.args.stack.now.room c.in-Some.o c.top.result.now c.requires.ready c.top.ensures (sym c.offset.ensures ∙ c.in-Some.is) in
    let x = is_some (slice_get (top_cells frames) (c.args.first + c.in-Some.o)) at.there in
    made_room frames 1 c.args.stack.now.room x.0 (same_applies _ _ c.args.stack.now.room (at.is x.0 x.1) c.requires.ready)

pub returns-in-Some : goal.returns-in-Some
returns-in-Some c =
    let frames = c.args.stack.now.frames in
    let at = load_at_some frames c.args.first c.args.count c.args.stack.now.room c.in-Some.o c.top.result.now c.requires.ready c.top.ensures (sym c.offset.ensures ∙ c.in-Some.is) in
    let x = is_some (slice_get (top_cells frames) (c.args.first + c.in-Some.o)) at.there in
    same_does _ _ c.args.stack.now c.leave_cell.new.stack (told c.leave_cell.result) (at.is x.0 x.1)
    (c.leave_cell.ensures x.0 (ap (slice_get (top_cells frames)) c.behind-c.ensures ∙ x.1))

pub returns-in-None : goal.returns-in-None
returns-in-None c =
    offers_does _ c.args.stack.now _ _
    (load_at_none c.args.stack.now.frames c.args.first c.args.count c.args.stack.now.room c.top.result.now c.requires.ready c.top.ensures (sym c.offset.ensures ∙ c.in-None.is))
