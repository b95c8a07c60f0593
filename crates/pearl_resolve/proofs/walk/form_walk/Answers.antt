use Rattle.pearl_resolve.proofs.Reached.{no_form}
use Rattle.pearl_resolve.proofs.walk.form_walk.Goals as goal

pub returns-in-None : goal.returns-in-None
returns-in-None c = λ forms of h. no_form forms c.no_walk.result c.args.target c.args.form.now of c.in-None.is h (c.no_walk.ensures forms)
