use Rattle.std.proofs.Common.{drop, map}
use Rattle.pearl_program.specs.PlainExpressions.{plain_variable}
use Rattle.pearl_program.specs.Weights.{of_variables}
use Rattle.pearl_generate.proofs.Sums.{IsSumOf}
use Rattle.pearl_generate.proofs.statement.variables_need.Given as goal

abbrev pub invariant-loop-variable : goal.invariant-loop-variable
invariant-loop-variable l =
    IsSumOf l.weights l.need (λ sizes. of_variables sizes (map plain_variable (drop l.variable-index l.variables)))
    (λ sizes. of_variables sizes (map plain_variable l.variables))
