use Rattle.std.proofs.Common.{sym, subst, take}
use Rattle.pearl_tree.specs.ShownDeclarations.{shown_typing}
use Rattle.pearl_names.specs.Forming.{IsLaid, around_of}
use Rattle.pearl_names.specs.Shapes.{sound_bounds, shape_of}
use Rattle.pearl_names.proofs.layout.item_counts.Goals as goal

pub returns-clause-counts : goal.returns-clause-counts
returns-clause-counts c = λ shapes all.
    let bounds = sound_bounds c.args.item.now.bounds.items.items in
    let shape = shape_of (around_of c.args.scopes.now c.args.lengths.now c.args.scope (take c.args.types shapes)) (shown_typing c.args.item.now.typing) in
    c.counts_within-found.ensures bounds shape (subst (λ l. IsLaid l c.in_ok-laid.laid bounds shape) (sym c.as_slice.ensures.value) (c.in_ok-laid.ensures.laid shapes all))
