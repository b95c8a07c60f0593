use Rattle.pearl_names.proofs.Laid.{bounds_none, bounds_not, bounds_all}
use Rattle.pearl_names.proofs.Lists.{all_taken}
use Rattle.pearl_names.proofs.Sized.{bound_at, own_bound}
use Rattle.pearl_names.proofs.forms.all_bounds.Goals as goal

pub loop-bound-init : goal.loop-bound-init
loop-bound-init c = bounds_none _ c.new-found.ensures.items

pub returns-in-None : goal.returns-in-None
returns-in-None c =
    let xs = c.args.bounds.now in
    let i = c.loop-bound.bound-index in
    bounds_not _ xs i (bound_at xs i) c.loop-bound-test.true (own_bound xs i c.loop-bound-test.true) c.loop-bound.invariant c.in-None.ensures

pub returns : goal.returns
returns c = bounds_all _ c.args.bounds.now c.loop-bound.bound-index c.loop-bound.invariant (all_taken c.args.bounds.now c.loop-bound.bound-index c.loop-bound-test.false)
