use Rattle.std.proofs.Common.{Option, ◌∙◌, ap, subst}
use Rattle.pearl_names.specs.declared.sense.Form.{Form}
use Rattle.pearl_names.specs.declared.sense.Sense.TheVariants as held
use Rattle.pearl_names.specs.Holding.{HoldsSense}
use Rattle.pearl_check.specs.SizeSorts.{is_long}
use Rattle.pearl_check.proofs.Sizing.{long_told}
use Rattle.pearl_check.proofs.sizes.has_long_form.Goals as goal

pub returns-in-Some : goal.returns-in-Some
returns-in-Some c = λ of inv holds.
    c.is_long.ensures ∙ ap (λ n. is_long n c.form_counts.result) c.len.ensures.value
    ∙ long_told c.args.forms.now c.in-Some.form inv c.form_counts.result c.args.name.now c.form_counts.ensures of
    (subst (λ (form : Option Form). HoldsSense c.args.forms.now (held.Variable form inv) of) c.in-Some.is holds)
