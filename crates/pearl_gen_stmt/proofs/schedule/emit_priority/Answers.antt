use Rattle.std.proofs.Common.{true, false, option_map, refl, sym, subst}
use Rattle.pearl_program.specs.PlainExpressions.{plain_expr}
use Rattle.pearl_gen_stmt.specs.StmtCode.{PriorityAt}
use Rattle.pearl_gen_stmt.specs.Emission.{setting_of, Adds}
use Rattle.pearl_gen_stmt.proofs.Planning.{expr_adds}
use Rattle.pearl_gen_stmt.proofs.schedule.emit_priority.Goals as goal

pub returns-in-None-clause-added : goal.returns-in-None-clause-added
returns-in-None-clause-added c =
    let old = c.args.code.now.items in
    subst (λ part. Adds (λ code from to. PriorityAt (setting_of c.args.site.program.now c.args.site.result c.args.site.routine.now) code from (option_map plain_expr part) false to) old old) (sym c.in-None.is) (λ final stays. (refl, refl))

pub returns-in_ok-emit_expr-in-Some-clause-added : goal.returns-in_ok-emit_expr-in-Some-clause-added
returns-in_ok-emit_expr-in-Some-clause-added c =
    let old = c.args.code.now.items in let one = c.emit_expr.new.code.items in
    subst (λ part. Adds (λ code from to. PriorityAt (setting_of c.args.site.program.now c.args.site.result c.args.site.routine.now) code from (option_map plain_expr part) true to) old one) (sym c.in-Some.is)
    (λ final stays. (refl, expr_adds (setting_of c.args.site.program.now c.args.site.result c.args.site.routine.now) old one (plain_expr c.in-Some.priority) c.in_ok-emit_expr-in-Some.ensures.added final stays))
