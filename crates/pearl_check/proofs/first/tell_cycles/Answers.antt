use Rattle.std.proofs.Common.{refl}
use Rattle.pearl_check.proofs.TellingModules.{cycles_begin, cycles_next, cycles_end}
use Rattle.pearl_check.proofs.first.tell_cycles.Goals as goal

pub loop-places-init : goal.loop-places-init
loop-places-init c = cycles_begin c.args.callers.now c.args.places.now c.args.told

pub loop-places-preserved : goal.loop-places-preserved
loop-places-preserved c =
    cycles_next c.args.callers.now c.args.places.now c.loop-places.places.now _ _ c.loop-places.number c.in_ok-number.number c.args.told
    c.loop-places.told c.in_ok-told.told c.in-len1-up.len_at_least refl c.loop-places.invariant c.in_ok-told.ensures c.in_ok-number.ensures

pub returns : goal.returns
returns c =
    cycles_end c.args.callers.now c.args.places.now c.loop-places.places.now c.loop-places.number c.args.told c.loop-places.told c.in_default.len_below
    c.loop-places.invariant
