use Rattle.std.proofs.Common.{subst}
use Rattle.pearl_names.proofs.Offered.{all_taken}
use Rattle.pearl_scope.proofs.Seen.{Told, told_none, told_more}
use Rattle.pearl_scope.proofs.rules.tell_repeats.Goals as goal

pub loop-name-init : goal.loop-name-init
loop-name-init c = told_none _ _

pub loop-name-preserved : goal.loop-name-preserved
loop-name-preserved c =
    told_more _ _ _ _ _ _ c.args.names.now c.loop-name.name-index c.name-item.result 0 _ c.loop-name-test.true c.name-item.is c.loop-name.invariant
    c.in_ok-again.ensures.twice c.in_ok-again.ensures.noted c.in_ok-fault_if.ensures

pub returns : goal.returns
returns c =
    subst (Told c.args.seen.now.entries c.loop-name.seen.entries c.args.faults.now.items c.loop-name.faults.items)
    (all_taken c.args.names.now c.loop-name.name-index c.loop-name-test.false) c.loop-name.invariant
