use Rattle.std.proofs.Common.{subst}
use Rattle.pearl_names.specs.Holding.{HoldsForm}
use Rattle.pearl_resolve.proofs.Sizes.{form_slots}
use Rattle.pearl_resolve.proofs.counts.slots_of_form.Goals as goal

pub returns-in_ok-count-in-Some : goal.returns-in_ok-count-in-Some
returns-in_ok-count-in-Some c = λ of h.
    form_slots c.args.forms.now c.in-Some.form of c.form_counts.result c.in_ok-count-in-Some.count
    (subst (λ form. HoldsForm c.args.forms.now form of) c.in-Some.is h) c.form_counts.ensures c.in_ok-count-in-Some.ensures
