use Rattle.std.proofs.Common.{refl, sym, ap, ◌∙◌}
use Rattle.pearl_rules.specs.declared.action.Action.TheVariants as action
use Rattle.pearl_instructions.specs.Steps.{Offers}
use Rattle.pearl_silent.proofs.Offered.{offers_does}
use Rattle.pearl_solo.proofs.VariableRows.{read_at_there, read_at_some, read_at_none}
use Rattle.pearl_solo.proofs.variables.read_at.Goals as goal

pub operand-requires-clause-there : goal.operand-requires-clause-there
operand-requires-clause-there c = read_at_there c.args.stack.now.frames c.args.code.now c.args.v c.args.stack.now.room c.requires.ready

pub slot-at-requires-clause-few : goal.slot-at-requires-clause-few
slot-at-requires-clause-few c = c.requires.leaf.few

pub slot-at-requires-clause-within : goal.slot-at-requires-clause-within
slot-at-requires-clause-within c =
    (read_at_some c.args.stack.now.frames c.args.code.now c.args.v c.args.leaf.now c.args.first c.args.stack.now.room c.in-Some.o c.operand.result.now c.requires.leaf c.requires.ready
    c.operand.ensures (sym c.offset.ensures ∙ c.in-Some.is)).less

pub returns-in-Some : goal.returns-in-Some
returns-in-Some c =
    let at = read_at_some c.args.stack.now.frames c.args.code.now c.args.v c.args.leaf.now c.args.first c.args.stack.now.room c.in-Some.o c.operand.result.now c.requires.leaf
    c.requires.ready c.operand.ensures (sym c.offset.ensures ∙ c.in-Some.is) in
    (at.go, at.is ∙ ap (λ s. Offers (action.Read s) at.go) (sym c.slot-at.ensures), refl)

pub returns-in-None : goal.returns-in-None
returns-in-None c =
    offers_does _ c.args.stack.now _ _
    (read_at_none c.args.stack.now.frames c.args.code.now c.args.v c.args.leaf.now c.args.first c.args.stack.now.room c.operand.result.now c.requires.leaf c.requires.ready
    c.operand.ensures (sym c.offset.ensures ∙ c.in-None.is))
