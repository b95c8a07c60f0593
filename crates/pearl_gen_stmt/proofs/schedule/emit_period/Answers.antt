use Rattle.std.proofs.Common.{option_map, refl, sym, subst}
use Rattle.pearl_instructions.specs.declared.schedule.RepeatForm.TheVariants as again
use Rattle.pearl_program.specs.PlainStatements.{plain_period}
use Rattle.pearl_gen_stmt.specs.StmtCode.{PeriodAt}
use Rattle.pearl_gen_stmt.specs.Emission.{setting_of, Adds}
use Rattle.pearl_gen_stmt.proofs.Planning.{period_adds}
use Rattle.pearl_gen_stmt.proofs.schedule.emit_period.Goals as goal

pub returns-in-None-clause-added : goal.returns-in-None-clause-added
returns-in-None-clause-added c =
    let old = c.args.code.now.items in
    subst (λ part. Adds (λ code from to. PeriodAt (setting_of c.args.site.program.now c.args.site.result c.args.site.routine.now) code from (option_map plain_period part) again.Once to) old old) (sym c.in-None.is) (λ final stays. (refl, refl))

pub returns-in_ok-form-in-Some-clause-added : goal.returns-in_ok-form-in-Some-clause-added
returns-in_ok-form-in-Some-clause-added c =
    let old = c.args.code.now.items in let one = c.emit_expr.new.code.items in let two = c.emit_period_end.new.code.items in
    subst (λ part. Adds (λ code from to. PeriodAt (setting_of c.args.site.program.now c.args.site.result c.args.site.routine.now) code from (option_map plain_period part) c.in_ok-form-in-Some.form to) old two) (sym c.in-Some.is)
    (period_adds (setting_of c.args.site.program.now c.args.site.result c.args.site.routine.now) old one two (plain_period c.in-Some.period) c.in_ok-form-in-Some.form c.in_ok-emit_expr-in-Some.ensures.added
    c.in_ok-form-in-Some.ensures.kept c.in_ok-form-in-Some.ensures.added)
