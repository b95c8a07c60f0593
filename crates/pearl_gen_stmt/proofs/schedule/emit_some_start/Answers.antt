use Rattle.std.proofs.Common.{Some, refl, sym, ap, subst}
use Rattle.pearl_instructions.specs.declared.schedule.StartForm.TheVariants as start
use Rattle.pearl_program.specs.PlainExpressions.{plain_expr}
use Rattle.pearl_program.specs.PlainStatements.{plain_start}
use Rattle.pearl_gen_stmt.specs.StmtCode.{WhenAt}
use Rattle.pearl_gen_stmt.specs.Emission.{setting_of, Adds}
use Rattle.pearl_gen_stmt.proofs.Planning.{expr_adds}
use Rattle.pearl_gen_stmt.proofs.schedule.emit_some_start.Goals as goal

pub returns-in_ok-emit_expr-in-At-clause-added : goal.returns-in_ok-emit_expr-in-At-clause-added
returns-in_ok-emit_expr-in-At-clause-added c =
    let old = c.args.code.now.items in let one = c.emit_expr.new.code.items in
    subst (λ part. Adds (λ code from to. WhenAt (setting_of c.args.site.program.now c.args.site.result c.args.site.routine.now) code from (Some (plain_start part)) start.At to) old one) (sym c.in-At.is)
    (λ final stays. (refl, expr_adds (setting_of c.args.site.program.now c.args.site.result c.args.site.routine.now) old one (plain_expr c.in-At.time) c.in_ok-emit_expr-in-At.ensures.added final stays))

pub returns-in_ok-emit_expr-in-After-clause-added : goal.returns-in_ok-emit_expr-in-After-clause-added
returns-in_ok-emit_expr-in-After-clause-added c =
    let old = c.args.code.now.items in let one = c.emit_expr-in-After.new.code.items in
    subst (λ part. Adds (λ code from to. WhenAt (setting_of c.args.site.program.now c.args.site.result c.args.site.routine.now) code from (Some (plain_start part)) start.After to) old one) (sym c.in-After.is)
    (λ final stays. (refl, expr_adds (setting_of c.args.site.program.now c.args.site.result c.args.site.routine.now) old one (plain_expr c.in-After.duration) c.in_ok-emit_expr-in-After.ensures.added final stays))

pub returns-in-When-clause-added : goal.returns-in-When-clause-added
returns-in-When-clause-added c =
    let old = c.args.code.now.items in
    subst (λ part. Adds (λ code from to. WhenAt (setting_of c.args.site.program.now c.args.site.result c.args.site.routine.now) code from (Some (plain_start part)) (start.When c.from.result) to) old old) (sym c.in-When.is) (λ final stays. (ap start.When c.from.ensures, refl))

pub returns-in_ok-emit_expr-in-WhenAfter-clause-added : goal.returns-in_ok-emit_expr-in-WhenAfter-clause-added
returns-in_ok-emit_expr-in-WhenAfter-clause-added c =
    let old = c.args.code.now.items in let one = c.emit_expr-in-WhenAfter.new.code.items in
    subst (λ part. Adds (λ code from to. WhenAt (setting_of c.args.site.program.now c.args.site.result c.args.site.routine.now) code from (Some (plain_start part)) (start.WhenAfter c.from-in-WhenAfter.result) to) old one) (sym c.in-WhenAfter.is)
    (λ final stays. (ap start.WhenAfter c.from-in-WhenAfter.ensures, expr_adds (setting_of c.args.site.program.now c.args.site.result c.args.site.routine.now) old one (plain_expr c.in-WhenAfter.duration) c.in_ok-emit_expr-in-WhenAfter.ensures.added final stays))
