use Rattle.std.proofs.Common.{refl, sym, ap, ◌∙◌}
use Rattle.pearl_rules.specs.declared.action.Action.TheVariants as action
use Rattle.pearl_instructions.specs.Steps.{Offers}
use Rattle.pearl_solo.proofs.VariableRows.{write_there, write_offers}
use Rattle.pearl_solo.proofs.variables.write.Goals as goal

pub operand-requires-clause-there : goal.operand-requires-clause-there
operand-requires-clause-there c = write_there c.args.stack.now.frames c.args.code.now c.args.v c.args.stack.now.room c.requires.ready

pub returns : goal.returns
returns c =
    let at = write_offers c.args.stack.now.frames c.args.code.now c.args.v c.args.leaf.now c.args.first c.operand.result.now c.requires.leaf c.operand.ensures in
    (at.0, at.1 ∙ ap (λ x. Offers (action.Write c.args.first x) at.0) (sym c.put_copy.ensures), refl)
