use Rattle.std.proofs.Common.{refl, sym, ap, ◌∙◌}
use Rattle.pearl_rules.specs.declared.action.Action.TheVariants as action
use Rattle.pearl_instructions.specs.Steps.{Offers}
use Rattle.pearl_silent.proofs.Offered.{one_there}
use Rattle.pearl_solo.proofs.SendRows.{send_offers}
use Rattle.pearl_solo.proofs.offers.send.Goals as goal

pub operand-requires-clause-there : goal.operand-requires-clause-there
operand-requires-clause-there c = one_there c.args.stack.now.frames _ c.args.stack.now.room c.requires.ready

pub returns : goal.returns
returns c =
    let at = send_offers c.args.stack.now.frames c.args.device c.operand.result.now c.operand.ensures in
    (at.0, at.1 ∙ ap (λ x. Offers (action.Send c.args.device x) at.0) (sym c.put_copy.ensures), refl)
