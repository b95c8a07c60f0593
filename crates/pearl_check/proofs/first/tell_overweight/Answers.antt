use Rattle.std.proofs.Common.{refl}
use Rattle.pearl_check.proofs.TellingModules.{weights_begin, weights_next}
use Rattle.pearl_check.proofs.first.tell_overweight.Goals as goal

pub loop-places-init : goal.loop-places-init
loop-places-init c = weights_begin c.args.weights.now.procedures.now c.args.places.now c.args.callers.now c.args.told

pub loop-places-preserved : goal.loop-places-preserved
loop-places-preserved c =
    weights_next c.args.weights.now.procedures.now c.args.places.now c.loop-places.places.now c.args.callers.now c.loop-places.callers.now _ _
    c.caller-item.result c.args.told c.loop-places.told c.told_with-told.result c.is_overweight.result c.in-len1-up.len_at_least refl
    c.in-len1-up-callers.len_at_least c.caller-item.is c.loop-places.invariant c.is_overweight.ensures c.told_with-told.ensures
