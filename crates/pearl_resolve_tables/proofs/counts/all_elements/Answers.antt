use Rattle.pearl_resolve_tables.proofs.Fills.{elements_more}
use Rattle.pearl_names.proofs.Offered.{bounds_at, own_bounds}
use Rattle.pearl_resolve_tables.proofs.counts.all_elements.Goals as goal

pub loop-own-preserved : goal.loop-own-preserved
loop-own-preserved c =
    let xs = c.args.bounds.now in
    let i = c.loop-own.own-index in
    elements_more xs i (bounds_at xs i) c.loop-own.count c.in_ok-elements_within.field-0 c.in_ok-count.count _ c.loop-own-test.true (own_bounds xs i c.loop-own-test.true) c.in_ok-elements_within.ensures c.in_ok-count.ensures c.loop-own.invariant
