use Rattle.std.proofs.Common.{◌≡◌, refl, sym, ap, subst, ◌∙◌, unwrap_or}
use Rattle.pearl_names.specs.Chains.{one_of, end_of}
use Rattle.pearl_names.specs.declared.types.TypeRef.TheVariants.{Struct}
use Rattle.pearl_names.proofs.types.end_of.Goals as goal

pub returns-in-Basic : goal.returns-in-Basic
returns-in-Basic c = subst (λ p. one_of p ≡ end_of c.args.forms.now p) (sym c.in-Basic.is) refl

pub returns-in-Some : goal.returns-in-Some
returns-in-Some c =
    subst (λ p. c.in-Some.end ≡ end_of c.args.forms.now p) (sym c.in-Struct.is)
    (ap (λ e. unwrap_or e (one_of (Struct c.in-Struct.number))) (sym c.in-Some.is ∙ c.end_at.ensures))

pub returns-in-None : goal.returns-in-None
returns-in-None c =
    subst (λ p. one_of (Struct c.in-Struct.number) ≡ end_of c.args.forms.now p) (sym c.in-Struct.is)
    (ap (λ e. unwrap_or e (one_of (Struct c.in-Struct.number))) (sym c.in-None.is ∙ c.end_at.ensures))
