use Rattle.std.proofs.Common.{sym, ◌∙◌}
use Rattle.pearl_check.proofs.FirstFaults.{told}
use Rattle.pearl_check.proofs.first.told_of.Goals as goal

pub returns : goal.returns
returns c = λ broken lists. c.copied.ensures ∙ c.first.ensures.value ∙ sym (told broken c.args.faults.now lists)
