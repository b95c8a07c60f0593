use Rattle.std.proofs.Common.{refl, sym, ap, ◌∙◌, arith}
use Rattle.pearl_rules.specs.declared.action.Action.TheVariants as action
use Rattle.pearl_instructions.specs.Steps.{Offers}
use Rattle.pearl_silent.proofs.Offered.{offers_does}
use Rattle.pearl_solo.proofs.SlotRows.{write_at_there, write_at_less, write_at_some, write_at_none}
use Rattle.pearl_solo.proofs.variables.write_at.Goals as goal

pub operand-requires-clause-there : goal.operand-requires-clause-there
operand-requires-clause-there c = write_at_there c.args.stack.now.frames c.args.code.now c.args.v c.args.stack.now.room c.requires.ready

pub operand-requires-in-Some-clause-there : goal.operand-requires-in-Some-clause-there
operand-requires-in-Some-clause-there c =
    let there = write_at_there c.args.stack.now.frames c.args.code.now c.args.v c.args.stack.now.room c.requires.ready in omega (arith, there)

pub slot-at-requires-clause-few : goal.slot-at-requires-clause-few
slot-at-requires-clause-few c = c.requires.leaf.few

pub slot-at-requires-clause-within : goal.slot-at-requires-clause-within
slot-at-requires-clause-within c =
    write_at_less c.args.stack.now.frames c.args.code.now c.args.v c.args.leaf.now c.args.first c.args.stack.now.room c.in-Some.o c.operand.result.now c.requires.leaf c.requires.ready
    c.operand.ensures (sym c.offset.ensures ∙ c.in-Some.is)

pub returns-in-Some : goal.returns-in-Some
returns-in-Some c =
    let at = write_at_some c.args.stack.now.frames c.args.code.now c.args.v c.args.leaf.now c.args.first c.args.stack.now.room c.in-Some.o c.operand-in-Some.result.now c.operand.result.now
    c.requires.leaf c.requires.ready c.operand-in-Some.ensures c.operand.ensures (sym c.offset.ensures ∙ c.in-Some.is) in
    (at.go, at.is ∙ (ap (λ s. Offers (action.Write s c.operand-in-Some.result.now) at.go) (sym c.slot-at.ensures) ∙ ap (λ x. Offers (action.Write c.slot-at.result x) at.go) (sym c.put_copy.ensures)), refl)

pub returns-in-None : goal.returns-in-None
returns-in-None c =
    offers_does _ c.args.stack.now _ _
    (write_at_none c.args.stack.now.frames c.args.code.now c.args.v c.args.leaf.now c.args.first c.args.stack.now.room c.operand.result.now c.requires.leaf c.requires.ready
    c.operand.ensures (sym c.offset.ensures ∙ c.in-None.is))
