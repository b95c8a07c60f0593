use Rattle.std.proofs.Common.{subst}
use Rattle.pearl_scope.specs.PartLists.{parts_in}
use Rattle.pearl_scope.proofs.Asking.{Asked, asked_none, asked_more}
use Rattle.pearl_names.proofs.Offered.{all_taken}
use Rattle.pearl_scope.proofs.rules.rules_at_all.Goals as goal

pub loop-part-init : goal.loop-part-init
loop-part-init c = asked_none _ _ _ _

pub loop-part-preserved : goal.loop-part-preserved
loop-part-preserved c =
    asked_more _ _ _ _ _ _ _ _ c.args.parts.now c.loop-part.part-index c.part-item.result c.loop-part-test.true c.part-item.is c.loop-part.invariant
    c.in_ok-rules_at.ensures.grows c.in_ok-rules_at.ensures.named c.in_ok-rules_at.ensures.faults

pub returns : goal.returns
returns c =
    (subst (λ l. Asked c.args.scopes.now c.args.lengths.now c.args.types.now c.loop-part.types c.args.faults.now.items c.loop-part.faults.items (parts_in l))
    (all_taken c.args.parts.now c.loop-part.part-index c.loop-part-test.false) c.loop-part.invariant).told
