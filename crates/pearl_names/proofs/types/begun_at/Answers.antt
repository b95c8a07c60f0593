use Rattle.std.proofs.Common.{◌≡◌, Some, None, option_map, refl, sym, ap, subst, ◌∙◌}
use Rattle.pearl_names.specs.Leaps.{begun, begun_with}
use Rattle.pearl_names.proofs.types.begun_at.Goals as goal

pub returns-in-Basic : goal.returns-in-Basic
returns-in-Basic c = subst (λ p. None ≡ begun c.args.forms.now p) (sym c.in-Basic.is) refl

pub returns-in-Some : goal.returns-in-Some
returns-in-Some c =
    subst (λ p. Some (begun_with c.in-Struct.number c.in-Some.leap) ≡ begun c.args.forms.now p) (sym c.in-Struct.is)
    (ap (option_map (begun_with c.in-Struct.number)) (sym c.in-Some.is ∙ c.leap_at.ensures))

pub returns-in-None : goal.returns-in-None
returns-in-None c =
    subst (λ p. None ≡ begun c.args.forms.now p) (sym c.in-Struct.is)
    (ap (option_map (begun_with c.in-Struct.number)) (sym c.in-None.is ∙ c.leap_at.ensures))
