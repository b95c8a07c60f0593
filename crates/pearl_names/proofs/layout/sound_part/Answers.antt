use Rattle.std.proofs.Common.{sym, subst, take, option_map}
use Rattle.pearl_tree.specs.ShownDeclarations.{shown_typing}
use Rattle.pearl_names.specs.Forming.{IsLaid, around_of}
use Rattle.pearl_names.specs.Forms.{Matches}
use Rattle.pearl_names.specs.Tables.{sound_form}
use Rattle.pearl_names.specs.Shapes.{sound_bounds, shape_of}
use Rattle.pearl_names.proofs.layout.sound_part.Goals as goal

pub returns-clause-part : goal.returns-clause-part
returns-clause-part c = λ shapes all.
    let bounds = sound_bounds c.args.item.now.bounds.items.items in
    let shape = shape_of (around_of c.args.scopes.now c.args.lengths.now c.args.scope (take c.args.types shapes)) (shown_typing c.args.item.now.typing) in
    subst (λ l. Matches l c.sound_within-part.result (option_map (λ form. form.shape) (sound_form bounds shape))) c.as_slice.ensures.value
    (c.sound_within-part.ensures bounds shape (subst (λ l. IsLaid l c.in_ok-laid.laid bounds shape) (sym c.as_slice.ensures.value) (c.in_ok-laid.ensures.laid shapes all)))
