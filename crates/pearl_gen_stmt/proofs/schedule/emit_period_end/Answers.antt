use Rattle.std.proofs.Common.{option_map, refl, sym, subst}
use Rattle.pearl_instructions.specs.declared.schedule.RepeatForm.TheVariants as again
use Rattle.pearl_program.specs.PlainStatements.{plain_period_end}
use Rattle.pearl_gen_stmt.specs.StmtCode.{PeriodEndAt}
use Rattle.pearl_gen_stmt.specs.Emission.{setting_of, Adds}
use Rattle.pearl_gen_stmt.proofs.schedule.emit_period_end.Goals as goal

pub returns-in-None-clause-added : goal.returns-in-None-clause-added
returns-in-None-clause-added c =
    let old = c.args.code.now.items in
    subst (λ part. Adds (λ code from to. PeriodEndAt (setting_of c.args.site.program.now c.args.site.result c.args.site.routine.now) code from (option_map plain_period_end part) again.All to) old old) (sym c.in-None.is) (λ final stays. (refl, refl))

pub returns-in_ok-form-in-Some-clause-added : goal.returns-in_ok-form-in-Some-clause-added
returns-in_ok-form-in-Some-clause-added c =
    subst (λ part. Adds (λ code from to. PeriodEndAt (setting_of c.args.site.program.now c.args.site.result c.args.site.routine.now) code from (option_map plain_period_end part) c.in_ok-form-in-Some.form to) c.args.code.now.items c.emit_some_end.new.code.items) (sym c.in-Some.is)
    c.in_ok-form-in-Some.ensures.added
