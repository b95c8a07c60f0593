use Rattle.std.proofs.Common.{ap, ◌∙◌}
use Rattle.pearl_program.specs.PlainPrograms.{plain_routine}
use Rattle.pearl_program.specs.Weights.{weight}
use Rattle.pearl_generate.proofs.routine.task_of.Goals as goal

pub code_of-requires : goal.code_of-requires
code_of-requires c = c.in_ok-weight.ensures ∙ ap (λ weights. weight weights (plain_routine c.args.task.now.routine)) c.requires

pub returns : goal.returns
returns c =
    record {
      entry = λ i. record { name = c.in_ok-name.ensures i; priority = c.args.task.now.priority; main = c.args.task.now.main };
      code = c.in_ok-code.ensures;
    }
