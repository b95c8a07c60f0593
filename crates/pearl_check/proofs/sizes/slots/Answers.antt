use Rattle.std.proofs.Common.{Option, subst}
use Rattle.pearl_names.specs.declared.sense.Form.{Form}
use Rattle.pearl_names.specs.declared.sense.Sense.TheVariants as held
use Rattle.pearl_names.specs.Holding.{HoldsSense}
use Rattle.pearl_check.proofs.Sizing.{slots_told}
use Rattle.pearl_check.proofs.sizes.slots.Goals as goal

pub returns-in-Some : goal.returns-in-Some
returns-in-Some c = λ of inv holds.
    slots_told c.args.forms.now c.in-Some.form inv c.form_counts.result c.form_counts.ensures of
    (subst (λ (form : Option Form). HoldsSense c.args.forms.now (held.Variable form inv) of) c.in-Some.is holds)
