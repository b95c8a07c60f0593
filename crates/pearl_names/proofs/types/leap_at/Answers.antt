use Rattle.std.proofs.Common.{refl, sym, ap}
use Rattle.std.proofs.lemmas.Option.{slice_get_read, slice_get_past}
use Rattle.std.specs.Option.{option_and_then}
use Rattle.pearl_names.specs.declared.types.StructForm.{StructForm}
use Rattle.pearl_names.proofs.types.leap_at.Goals as goal

pub returns-in-Some : goal.returns-in-Some
returns-in-Some c =
    let at : _ = slice_get_read c.args.forms.now _ c.args.number c.in-Some.form.now refl c.in-Some.ensures.lookup.3.0 c.in-Some.ensures.lookup.1 in
    ap (option_and_then (λ (form : StructForm). form.leap)) (sym at)

pub returns-in-None : goal.returns-in-None
returns-in-None c = ap (option_and_then (λ (form : StructForm). form.leap)) (sym (slice_get_past c.args.forms.now c.args.number c.in-None.ensures.lookup.3))
