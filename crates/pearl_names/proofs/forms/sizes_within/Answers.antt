use Rattle.std.proofs.Common.{◌∙◌}
use Rattle.pearl_names.proofs.Sized.{pairs_sized, bounds_at, own_bounds}
use Rattle.pearl_names.proofs.forms.sizes_within.Goals as goal

pub loop-own-preserved : goal.loop-own-preserved
loop-own-preserved c =
    let xs = c.args.bounds.now in
    let i = c.loop-own.own-index in
    c.with_dimension-sizes.ensures
    ∙ pairs_sized c.loop-own.sizes xs i (bounds_at xs i) c.elements_within.result c.loop-own-test.true (own_bounds xs i c.loop-own-test.true) c.loop-own.invariant c.elements_within.ensures
