use Rattle.std.proofs.Common.{drop}
use Rattle.pearl_program.specs.PlainExpressions.{plain_exprs, plain_arguments}
use Rattle.pearl_program.specs.Weights.{of_exprs, of_arguments}
use Rattle.pearl_generate.proofs.Sums.{IsSumOf}
use Rattle.pearl_generate.proofs.expression.«+expression».Given as goal

abbrev pub invariant-exprs_need-loop-expr : goal.invariant-exprs_need-loop-expr
invariant-exprs_need-loop-expr l =
    IsSumOf l.weights l.need (λ sizes. of_exprs sizes (plain_exprs (drop l.expr-index l.exprs))) (λ sizes. of_exprs sizes (plain_exprs l.exprs))

abbrev pub invariant-arguments_need-loop-argument : goal.invariant-arguments_need-loop-argument
invariant-arguments_need-loop-argument l =
    IsSumOf l.weights l.need (λ sizes. of_arguments sizes (plain_arguments (drop l.argument-index l.arguments)))
    (λ sizes. of_arguments sizes (plain_arguments l.arguments))
