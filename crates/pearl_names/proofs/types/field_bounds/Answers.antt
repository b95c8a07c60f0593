use Rattle.std.proofs.Common.{refl}
use Rattle.std.proofs.lemmas.Option.{slice_get_read, slice_get_past}
use Rattle.pearl_names.proofs.Standing.{bounds_answer, no_form}
use Rattle.pearl_names.proofs.types.field_bounds.Goals as goal

pub returns-in-Some : goal.returns-in-Some
returns-in-Some c =
    let at : _ = slice_get_read c.args.forms.now _ c.args.number c.in-Some.form.now refl c.in-Some.ensures.lookup.3.0 c.in-Some.ensures.lookup.1 in
    λ fields h. bounds_answer c.args.forms.now c.args.number fields _ c.in-Some.form.now _ at c.own_bounds.ensures h

pub returns-in-None : goal.returns-in-None
returns-in-None c =
    λ fields h. absurd (no_form c.args.forms.now c.args.number fields (slice_get_past c.args.forms.now c.args.number c.in-None.ensures.lookup.3) h)
