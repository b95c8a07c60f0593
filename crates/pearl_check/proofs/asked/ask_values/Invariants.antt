use Rattle.std.proofs.Common.{◌≡◌, ◌++◌, take, map}
use Rattle.pearl_tree.specs.ShownExpressions.{shown_expr}
use Rattle.pearl_check.specs.declared.asked.Role.TheVariants.{Plain}
use Rattle.pearl_check.specs.Asked.{value, asked_in}
use Rattle.pearl_check.proofs.asked.ask_values.Given as goal

abbrev pub invariant-loop-expr : goal.invariant-loop-expr
invariant-loop-expr l = asked_in l.asked.items ≡ asked_in l.fn.asked.items ++ map (λ expr. value Plain l.scope (shown_expr expr)) (take l.expr-index l.exprs)
