use Rattle.std.proofs.Common.{subst}
use Rattle.pearl_names.specs.Forming.{IsLaid}
use Rattle.pearl_names.proofs.Laid.{some_counted, none_counted}
use Rattle.pearl_names.proofs.layout.counts_within.Goals as goal

pub returns-in-Some : goal.returns-in-Some
returns-in-Some c = λ bounds shape laid.
    some_counted c.args.forms.now c.in-Some.laid _ bounds shape (subst (λ l. IsLaid c.args.forms.now l bounds shape) c.in-Some.is laid) c.counts_of_laid.ensures

pub returns-in-None : goal.returns-in-None
returns-in-None c = λ bounds shape laid. none_counted c.args.forms.now bounds shape (subst (λ l. IsLaid c.args.forms.now l bounds shape) c.in-None.is laid)
