use Rattle.std.proofs.Common.{drop}
use Rattle.pearl_program.specs.PlainStatements.{plain_stmts, plain_branches}
use Rattle.pearl_program.specs.Weights.{greatest_of_all, greatest_of_branches}
use Rattle.pearl_generate.proofs.Sums.{IsGreatestOf}
use Rattle.pearl_generate.proofs.statement.«+statement».Given as goal

abbrev pub invariant-stmts_need-loop-stmt : goal.invariant-stmts_need-loop-stmt
invariant-stmts_need-loop-stmt l =
    IsGreatestOf l.weights l.need (λ sizes. greatest_of_all sizes (plain_stmts (drop l.stmt-index l.stmts)))
    (λ sizes. greatest_of_all sizes (plain_stmts l.stmts))

abbrev pub invariant-branches_need-loop-branch : goal.invariant-branches_need-loop-branch
invariant-branches_need-loop-branch l =
    IsGreatestOf l.weights l.need (λ sizes. greatest_of_branches sizes (plain_branches (drop l.branch-index l.branches)))
    (λ sizes. greatest_of_branches sizes (plain_branches l.branches))
