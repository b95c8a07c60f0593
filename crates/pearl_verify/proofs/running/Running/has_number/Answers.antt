use Rattle.std.proofs.Common.{sym, ◌∙◌}
use Rattle.pearl_verify.proofs.Numbering.{same_number, no_number}
use Rattle.pearl_verify.proofs.running.Running.has_number.Goals as goal

pub returns-in-Some : goal.returns-in-Some
returns-in-Some c = λ edges s tree numbered e.
    same_number edges s c.args.self.now.kinds c.args.number c.in-Some.own tree e (sym c.in-Some.is ∙ c.number.ensures edges numbered)

pub returns-in-None : goal.returns-in-None
returns-in-None c = λ edges s tree numbered e. no_number edges s c.args.self.now.kinds c.args.number e (sym c.in-None.is ∙ c.number.ensures edges numbered)
