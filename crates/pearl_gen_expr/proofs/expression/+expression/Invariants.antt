use Rattle.std.proofs.Common.{drop}
use Rattle.pearl_program.specs.PlainExpressions.{plain_exprs, plain_arguments}
use Rattle.pearl_program.specs.PlainPrograms.{plain_prog}
use Rattle.pearl_gen_expr.specs.Emitting.{Extends}
use Rattle.pearl_gen_expr.proofs.Emitted.{AllSoFar, ArgumentsSoFar}
use Rattle.pearl_gen_expr.proofs.expression.«+expression».Given as goal

abbrev pub invariant-emit_all-loop-expr : goal.invariant-emit_all-loop-expr
invariant-emit_all-loop-expr l =
    Extends l.fn.code.items l.code.items ×
    AllSoFar (plain_prog l.program) l.fn.code.items l.code.items (plain_exprs (drop l.expr-index l.exprs)) (plain_exprs l.exprs)

abbrev pub invariant-emit_arguments-loop-index : goal.invariant-emit_arguments-loop-index
invariant-emit_arguments-loop-index l =
    Extends l.fn.code.items l.code.items ×
    ArgumentsSoFar (plain_prog l.program) l.fn.code.items l.code.items (drop l.index l.params) (plain_arguments (drop l.index l.arguments))
    l.params (plain_arguments l.arguments)
