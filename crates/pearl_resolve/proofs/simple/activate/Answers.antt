use Rattle.std.proofs.Common.{ap, ◌∙◌, option_map}
use Rattle.pearl_program.specs.declared.statement.Activate.{Activate}
use Rattle.pearl_program.specs.PlainExpressions.{plain_expr}
use Rattle.pearl_program.specs.PlainStatements.{OfActivate, plain_period, plain_start}
use Rattle.pearl_resolve.specs.Statements.{alone}
use Rattle.pearl_resolve.proofs.simple.activate.Goals as goal

pub returns : goal.returns
returns c = λ of holds at. ap alone (
    ap (λ (x : Activate). OfActivate x.task (option_map plain_start x.start) (option_map plain_period x.period) (option_map plain_expr x.priority)) c.in_ok-made.ensures.ok
    ∙ (λ i. OfActivate (c.number_in-task.ensures of holds i) (c.in_ok-start.ensures of holds i) (c.in_ok-period.ensures of holds i) (c.in_ok-priority.ensures of holds i)))
