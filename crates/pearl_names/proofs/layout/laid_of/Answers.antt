use Rattle.std.proofs.Common.{subst}
use Rattle.pearl_names.specs.Forms.{Matches}
use Rattle.pearl_names.proofs.Laid.{laid_some, laid_none}
use Rattle.pearl_names.proofs.layout.laid_of.Goals as goal

pub returns-in-Some : goal.returns-in-Some
returns-in-Some c = λ forms bounds shape same matches.
    laid_some forms c.args.sizes bounds c.in-Some.part shape same (subst (λ p. Matches forms p shape) c.in-Some.is matches)

pub returns-in-None : goal.returns-in-None
returns-in-None c = λ forms bounds shape same matches. laid_none forms bounds shape (subst (λ p. Matches forms p shape) c.in-None.is matches)
