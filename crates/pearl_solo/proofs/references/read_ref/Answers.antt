use Rattle.std.proofs.Common.{Some, refl, ap, ◌∙◌, arith}
use Rattle.pearl_silent.proofs.Offered.{one_there, top_some, without_some}
use Rattle.pearl_solo.proofs.ReferenceRows.{read_place, read_slot, read_cell, read_there, read_room, pushes_some, read_silent}
use Rattle.pearl_solo.proofs.references.read_ref.Goals as goal

pub operand-requires-clause-there : goal.operand-requires-clause-there
operand-requires-clause-there c = one_there c.args.stack.now.frames _ c.args.stack.now.room c.requires.ready

pub referred-place-requires : goal.referred-place-requires
referred-place-requires c = read_place c.args.stack.now.frames c.args.stack.now.room c.operand.result.now c.requires.ready c.operand.ensures

pub drop_top-requires : goal.drop_top-requires
drop_top-requires c = let there = one_there c.args.stack.now.frames _ c.args.stack.now.room c.requires.ready in omega (arith, there)

pub push_cell-requires-clause-cell : goal.push_cell-requires-clause-cell
push_cell-requires-clause-cell c =
    read_there c.args.stack.now c.drop_top.new.self c.in-Cell.frame c.in-Cell.cell
    (read_cell c.args.stack.now.frames c.args.stack.now.room c.in-Cell.frame c.in-Cell.cell c.operand.result.now c.requires.ready c.operand.ensures
    (c.referred-place.ensures ∙ ap Some c.in-Cell.is)) c.drop_top.ensures

pub push_cell-requires-clause-room : goal.push_cell-requires-clause-room
push_cell-requires-clause-room c =
    read_room c.args.stack.now c.drop_top.new.self c.in-Cell.frame c.in-Cell.cell
    (read_cell c.args.stack.now.frames c.args.stack.now.room c.in-Cell.frame c.in-Cell.cell c.operand.result.now c.requires.ready c.operand.ensures
    (c.referred-place.ensures ∙ ap Some c.in-Cell.is)) c.requires.ready c.drop_top.ensures

pub go-requires : goal.go-requires
go-requires c =
    pushes_some c.drop_top.new.self c.push_cell.new.self _
    (rw c.drop_top.ensures (without_some 1 c.args.stack.now.frames (top_some c.args.here.now c.args.stack.now.frames c.requires.here.top))) c.push_cell.ensures

pub returns-in-Slot : goal.returns-in-Slot
returns-in-Slot c =
    let at = read_slot c.args.stack.now.frames c.operand.result.now c.in-Slot.slot c.operand.ensures (c.referred-place.ensures ∙ ap Some c.in-Slot.is) in
    (at.0, at.1, refl)

pub returns-in-Cell : goal.returns-in-Cell
returns-in-Cell c =
    read_silent c.args.stack.now c.drop_top.new.self c.push_cell.new.self c.go.new.self c.args.here.now c.in-Cell.frame c.in-Cell.cell c.requires.here.top
    (read_cell c.args.stack.now.frames c.args.stack.now.room c.in-Cell.frame c.in-Cell.cell c.operand.result.now c.requires.ready c.operand.ensures
    (c.referred-place.ensures ∙ ap Some c.in-Cell.is)) c.drop_top.ensures c.push_cell.ensures c.go.ensures
