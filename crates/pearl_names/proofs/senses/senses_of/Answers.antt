use Rattle.std.proofs.Common.{subst}
use Rattle.pearl_names.proofs.Holding.{HeldSo, held_none, held_more}
use Rattle.pearl_names.proofs.Lists.{all_taken}
use Rattle.pearl_names.proofs.senses.senses_of.Goals as goal

pub loop-group-init : goal.loop-group-init
loop-group-init c = held_none _ _ _ _ _ c.new-senses.ensures.items

pub loop-group-preserved : goal.loop-group-preserved
loop-group-preserved c =
    held_more _ _ _ _ _ _ _ _ c.args.groups.now c.loop-group.group-index c.group-item.result c.in_ok-part.part c.loop-group-test.true c.group-item.is c.loop-group.invariant
    c.in_ok-part.ensures.grows c.in_ok-part.ensures.named c.in_ok-part.ensures.part c.in_ok-add_senses.ensures

pub returns-clause-senses : goal.returns-clause-senses
returns-clause-senses c =
    (subst (HeldSo c.args.names.now c.args.lengths.now c.args.scope c.args.types.now c.loop-group.types c.loop-group.senses.items)
    (all_taken c.args.groups.now c.loop-group.group-index c.loop-group-test.false) c.loop-group.invariant).held
