use Rattle.std.proofs.Common.{Some, refl, sym, ap, ◌∙◌, arith}
use Rattle.pearl_rules.specs.declared.action.Action.TheVariants as action
use Rattle.pearl_instructions.specs.Steps.{Offers}
use Rattle.pearl_silent.proofs.Offered.{two_there}
use Rattle.pearl_solo.proofs.ReferenceRows.{write_place, write_slot, write_there, stored_long, stored_some, write_silent}
use Rattle.pearl_solo.proofs.references.write_ref.Goals as goal

pub operand-requires-clause-there : goal.operand-requires-clause-there
operand-requires-clause-there c = two_there c.args.stack.now.frames _ c.args.stack.now.room c.requires.ready

pub referred-place-requires : goal.referred-place-requires
referred-place-requires c = write_place c.args.stack.now.frames c.args.stack.now.room c.operand.result.now c.requires.ready c.operand.ensures

pub operand-requires-in-Slot-clause-there : goal.operand-requires-in-Slot-clause-there
operand-requires-in-Slot-clause-there c = let there = two_there c.args.stack.now.frames _ c.args.stack.now.room c.requires.ready in omega (arith, there)

pub store_top-requires-clause-operand : goal.store_top-requires-clause-operand
store_top-requires-clause-operand c = let there = two_there c.args.stack.now.frames _ c.args.stack.now.room c.requires.ready in omega (arith, there)

pub store_top-requires-clause-cell : goal.store_top-requires-clause-cell
store_top-requires-clause-cell c =
    write_there c.args.stack.now.frames c.args.here.now c.args.stack.now.room c.in-Cell.frame c.in-Cell.cell c.operand.result.now c.requires.here.top c.requires.ready
    (two_there c.args.stack.now.frames _ c.args.stack.now.room c.requires.ready) c.operand.ensures (c.referred-place.ensures ∙ ap Some c.in-Cell.is)

pub drop_top-requires : goal.drop_top-requires
drop_top-requires c =
    stored_long c.args.stack.now c.store_top.new.self c.in-Cell.frame c.in-Cell.cell
    (two_there c.args.stack.now.frames _ c.args.stack.now.room c.requires.ready) c.store_top.ensures

pub go-requires : goal.go-requires
go-requires c =
    stored_some c.store_top.new.self c.drop_top.new.self
    (stored_long c.args.stack.now c.store_top.new.self c.in-Cell.frame c.in-Cell.cell
    (two_there c.args.stack.now.frames _ c.args.stack.now.room c.requires.ready) c.store_top.ensures) c.drop_top.ensures

pub returns-in-Slot : goal.returns-in-Slot
returns-in-Slot c =
    let at = write_slot c.args.stack.now.frames c.operand-in-Slot.result.now c.operand.result.now c.in-Slot.slot c.operand-in-Slot.ensures c.operand.ensures (c.referred-place.ensures ∙ ap Some c.in-Slot.is) in
    (at.0, at.1 ∙ ap (λ x. Offers (action.Write c.in-Slot.slot x) at.0) (sym c.put_copy.ensures), refl)

pub returns-in-Cell : goal.returns-in-Cell
returns-in-Cell c =
    write_silent c.args.stack.now c.store_top.new.self c.drop_top.new.self c.go.new.self c.args.here.now c.in-Cell.frame c.in-Cell.cell c.operand.result.now
    c.requires.here.top c.requires.ready c.operand.ensures (c.referred-place.ensures ∙ ap Some c.in-Cell.is) c.store_top.ensures c.drop_top.ensures c.go.ensures
