use Rattle.pearl_names.proofs.Lists.{all_taken}
use Rattle.pearl_names.proofs.Sized.{sized_more, sized_not, sized_all, bound_at, own_bound}
use Rattle.pearl_names.proofs.forms.sizes_of_bounds.Goals as goal

pub returns-in-None : goal.returns-in-None
returns-in-None c =
    let xs = c.args.bounds.now in
    let i = c.loop-bound.bound-index in
    sized_not _ xs i (bound_at xs i) c.loop-bound-test.true (own_bound xs i c.loop-bound-test.true) c.loop-bound.invariant c.in-None.ensures

pub loop-bound-preserved : goal.loop-bound-preserved
loop-bound-preserved c =
    let xs = c.args.bounds.now in
    let i = c.loop-bound.bound-index in
    rw c.with_dimension-sizes.ensures (sized_more c.loop-bound.sizes xs i (bound_at xs i) c.in-Some.elements c.loop-bound-test.true (own_bound xs i c.loop-bound-test.true)
    c.loop-bound.invariant c.in-Some.ensures)

pub returns : goal.returns
returns c = sized_all _ c.args.bounds.now c.loop-bound.bound-index c.loop-bound.invariant (all_taken c.args.bounds.now c.loop-bound.bound-index c.loop-bound-test.false)
