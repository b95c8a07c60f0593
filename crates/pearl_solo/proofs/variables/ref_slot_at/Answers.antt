use Rattle.std.proofs.Common.{Ok, sym, ap, ◌∙◌, arith}
use Rattle.pearl_value.specs.declared.cell.Cell.TheVariants.{Ref}
use Rattle.pearl_value.specs.declared.cell.Place.TheVariants as place
use Rattle.pearl_silent.specs.Steps.{told, made_on}
use Rattle.pearl_silent.proofs.Offered.{same_applies, same_does, offers_does}
use Rattle.pearl_solo.proofs.SlotRows.{ref_at_there, ref_at_some, ref_at_none}
use Rattle.pearl_solo.proofs.variables.ref_slot_at.Goals as goal

pub operand-requires-clause-there : goal.operand-requires-clause-there
operand-requires-clause-there c = ref_at_there c.args.stack.now.frames c.args.code.now c.args.v c.args.stack.now.room c.requires.ready

pub slot-at-requires-clause-few : goal.slot-at-requires-clause-few
slot-at-requires-clause-few c = c.requires.leaf.few

pub slot-at-requires-clause-within : goal.slot-at-requires-clause-within
slot-at-requires-clause-within c =
    (ref_at_some c.args.stack.now.frames c.args.code.now c.args.v c.args.leaf.now c.args.first c.args.stack.now.room c.in-Some.o c.operand.result.now c.requires.leaf c.requires.ready
    c.operand.ensures (sym c.offset.ensures ∙ c.in-Some.is)).less

pub finish-requires-clause-there : goal.finish-requires-clause-there
finish-requires-clause-there c =
    let there = ref_at_there c.args.stack.now.frames c.args.code.now c.args.v c.args.stack.now.room c.requires.ready in omega (arith, there)

pub finish-requires-clause-ready : goal.finish-requires-clause-ready
finish-requires-clause-ready c =
    let at = ref_at_some c.args.stack.now.frames c.args.code.now c.args.v c.args.leaf.now c.args.first c.args.stack.now.room c.in-Some.o c.operand.result.now c.requires.leaf c.requires.ready
    c.operand.ensures (sym c.offset.ensures ∙ c.in-Some.is) in
    same_applies _ _ c.args.stack.now.room
    (at.is ∙ ap (λ s. made_on 1 (Ok (Ref c.args.leaf.now.kind (place.Slot s))) c.args.stack.now.frames) (sym c.slot-at.ensures)) c.requires.ready

pub returns-in-Some : goal.returns-in-Some
returns-in-Some c =
    let at = ref_at_some c.args.stack.now.frames c.args.code.now c.args.v c.args.leaf.now c.args.first c.args.stack.now.room c.in-Some.o c.operand.result.now c.requires.leaf c.requires.ready
    c.operand.ensures (sym c.offset.ensures ∙ c.in-Some.is) in
    rw c.tell.ensures (same_does _ _ c.args.stack.now c.finish.new.stack (told c.finish.result)
    (at.is ∙ ap (λ s. made_on 1 (Ok (Ref c.args.leaf.now.kind (place.Slot s))) c.args.stack.now.frames) (sym c.slot-at.ensures)) c.finish.ensures)

pub returns-in-None : goal.returns-in-None
returns-in-None c =
    offers_does _ c.args.stack.now _ _
    (ref_at_none c.args.stack.now.frames c.args.code.now c.args.v c.args.leaf.now c.args.first c.args.stack.now.room c.operand.result.now c.requires.leaf c.requires.ready
    c.operand.ensures (sym c.offset.ensures ∙ c.in-None.is))
