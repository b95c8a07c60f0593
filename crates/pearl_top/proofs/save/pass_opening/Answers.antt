use Rattle.std.proofs.Common.{ap, ◌∙◌}
use Rattle.pearl_machine.specs.Seen.{retold}
use Rattle.pearl_top.proofs.SaveEnds.{all_taken}
use Rattle.pearl_top.proofs.save.pass_opening.Goals as goal

pub returns : goal.returns
returns c = c.begin-begun.ensures.same ∙ ap (retold c.args.machine.now) (all_taken c.begin-begun.result _ c.begin-begun.ensures.cause c.begin-begun.ensures.all)
