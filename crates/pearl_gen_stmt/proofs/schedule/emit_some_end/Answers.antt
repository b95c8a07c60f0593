use Rattle.std.proofs.Common.{Some, refl, sym, subst}
use Rattle.pearl_instructions.specs.declared.schedule.RepeatForm.TheVariants as again
use Rattle.pearl_program.specs.PlainExpressions.{plain_expr}
use Rattle.pearl_program.specs.PlainStatements.{plain_period_end}
use Rattle.pearl_gen_stmt.specs.StmtCode.{PeriodEndAt}
use Rattle.pearl_gen_stmt.specs.Emission.{setting_of, Adds}
use Rattle.pearl_gen_stmt.proofs.Planning.{expr_adds}
use Rattle.pearl_gen_stmt.proofs.schedule.emit_some_end.Goals as goal

pub returns-in_ok-emit_expr-in-Until-clause-added : goal.returns-in_ok-emit_expr-in-Until-clause-added
returns-in_ok-emit_expr-in-Until-clause-added c =
    let old = c.args.code.now.items in let one = c.emit_expr.new.code.items in
    subst (λ part. Adds (λ code from to. PeriodEndAt (setting_of c.args.site.program.now c.args.site.result c.args.site.routine.now) code from (Some (plain_period_end part)) again.Until to) old one) (sym c.in-Until.is)
    (λ final stays. (refl, expr_adds (setting_of c.args.site.program.now c.args.site.result c.args.site.routine.now) old one (plain_expr c.in-Until.time) c.in_ok-emit_expr-in-Until.ensures.added final stays))

pub returns-in_ok-emit_expr-in-During-clause-added : goal.returns-in_ok-emit_expr-in-During-clause-added
returns-in_ok-emit_expr-in-During-clause-added c =
    let old = c.args.code.now.items in let one = c.emit_expr-in-During.new.code.items in
    subst (λ part. Adds (λ code from to. PeriodEndAt (setting_of c.args.site.program.now c.args.site.result c.args.site.routine.now) code from (Some (plain_period_end part)) again.During to) old one) (sym c.in-During.is)
    (λ final stays. (refl, expr_adds (setting_of c.args.site.program.now c.args.site.result c.args.site.routine.now) old one (plain_expr c.in-During.duration) c.in_ok-emit_expr-in-During.ensures.added final stays))
