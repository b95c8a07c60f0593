use Rattle.std.proofs.Common.{sym, subst, ap, ◌∙◌, option_map, take}
use Rattle.pearl_tree.specs.ShownDeclarations.{shown_typing}
use Rattle.pearl_names.specs.Forming.{AllMatch, around_of, sizes_of}
use Rattle.pearl_names.specs.Shapes.{sound_bounds, shape_of}
use Rattle.pearl_names.proofs.FieldsMade.{grows_none}
use Rattle.pearl_names.proofs.Laid.{all_match_take, unsized, sized}
use Rattle.pearl_names.proofs.layout.item_laid.Goals as goal

pub returns-in-None-clause-grows : goal.returns-in-None-clause-grows
returns-in-None-clause-grows c = grows_none _

pub returns-in-None-clause-laid : goal.returns-in-None-clause-laid
returns-in-None-clause-laid c = λ shapes all.
    unsized c.args.known.now.forms.items (sound_bounds c.args.item.now.bounds.items.items) _ (c.in-None.ensures ∙ ap (λ b. option_map sizes_of (sound_bounds b)) c.as_slice.ensures)

pub returns-clause-laid : goal.returns-clause-laid
returns-clause-laid c = λ shapes all.
    let n = c.args.types in
    let forms = c.form_of.new.forms.items in
    let shape = shape_of (around_of c.args.scopes.now c.args.lengths.now c.args.scope (take n shapes)) (shown_typing c.args.item.now.typing) in
    let named = c.first_types-named.ensures ∙ ap (take n) c.as_slice-2.ensures.value in
    let before = subst (λ l. AllMatch c.args.known.now.forms.items l (take n shapes)) (sym named)
    (all_match_take c.args.known.now.forms.items c.args.known.now.named.items shapes n all) in
    sized forms (sound_bounds c.args.item.now.bounds.items.items) shape c.in-Some.sizes _ (c.in-Some.ensures ∙ ap (λ b. option_map sizes_of (sound_bounds b)) c.as_slice.ensures)
    (λ own same. c.laid_of-laid.ensures forms own shape same (c.in_ok-part.ensures.form (take n shapes) before))
