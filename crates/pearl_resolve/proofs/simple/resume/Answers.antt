use Rattle.std.proofs.Common.{ap, ◌∙◌}
use Rattle.pearl_program.specs.declared.schedule.Once.{Once}
use Rattle.pearl_program.specs.PlainStatements.{OfResume, plain_once}
use Rattle.pearl_resolve.specs.Statements.{alone}
use Rattle.pearl_resolve.proofs.simple.resume.Goals as goal

pub returns : goal.returns
returns c = λ of holds at. ap alone (
    ap (λ (x : Once). OfResume (plain_once x)) c.in_ok-made.ensures.ok ∙ ap OfResume (c.in_ok-once.ensures of holds))
