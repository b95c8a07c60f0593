use Rattle.std.proofs.Common.{refl, sym, subst, Some, None}
use Rattle.std.proofs.lemmas.Option.{slice_get_read, slice_get_past}
use Rattle.pearl_names.specs.Shapes.{meant_shape}
use Rattle.pearl_names.specs.Forms.{Matches}
use Rattle.pearl_names.proofs.FieldsMade.{named_form, named_none}
use Rattle.pearl_names.proofs.forms.form_of_declared.Goals as goal

pub returns-in-Some : goal.returns-in-Some
returns-in-Some c =
    let at : _ = slice_get_read c.args.named.now _ c.in-NewType.number c.in-Some.part.now refl c.in-Some.ensures.lookup.3.0 c.in-Some.ensures.lookup.1 in
    λ forms shapes h. subst (λ s. Matches forms c.in-Some.part.now (meant_shape shapes (Some s))) (sym c.in-NewType.is)
    (named_form forms c.args.named.now shapes c.in-NewType.number c.in-Some.part.now h at)

pub returns-in-None : goal.returns-in-None
returns-in-None c =
    λ forms shapes h. subst (λ s. Matches forms None (meant_shape shapes (Some s))) (sym c.in-NewType.is)
    (named_none forms c.args.named.now shapes c.in-NewType.number h (slice_get_past c.args.named.now c.in-NewType.number c.in-None.ensures.lookup.3))
