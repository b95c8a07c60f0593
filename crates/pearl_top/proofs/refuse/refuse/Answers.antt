use Rattle.std.proofs.Common.{◌∙◌}
use Rattle.pearl_script.specs.Refusals.{refusal_line as line_of_refusal}
use Rattle.pearl_top.specs.Status.{status_of as status_of_refusal}
use Rattle.pearl_top.proofs.TakenLaws.{just_short}
use Rattle.pearl_top.proofs.refuse.refuse.Goals as goal

pub returns-in-Err-clause-ends : goal.returns-in-Err-clause-ends
returns-in-Err-clause-ends g c =
    just_short _ _ (status_of_refusal c.args.refusal.now) (line_of_refusal c.args.refusal.now) c.as_slice.result.now
    (c.as_slice.ensures.value ∙ c.refusal_line.ensures) c.in-Err.ensures.err
