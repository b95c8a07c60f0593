use Rattle.std.proofs.Common.{Some, None, option_map, refl, sym, subst}
use Rattle.pearl_program.specs.PlainStatements.{plain_once}
use Rattle.pearl_gen_stmt.specs.StmtCode.{MaybeLaterAt}
use Rattle.pearl_gen_stmt.specs.Emission.{setting_of, Adds}
use Rattle.pearl_gen_stmt.proofs.schedule.emit_maybe_once.Goals as goal

pub returns-in-None-clause-added : goal.returns-in-None-clause-added
returns-in-None-clause-added c =
    let old = c.args.code.now.items in
    subst (λ part. Adds (λ code from to. MaybeLaterAt (setting_of c.args.site.program.now c.args.site.result c.args.site.routine.now) code from (option_map plain_once part) None to) old old) (sym c.in-None.is) (λ final stays. (refl, refl))

pub returns-in_ok-form-in-Some-clause-added : goal.returns-in_ok-form-in-Some-clause-added
returns-in_ok-form-in-Some-clause-added c =
    let old = c.args.code.now.items in let one = c.emit_once.new.code.items in
    subst (λ part. Adds (λ code from to. MaybeLaterAt (setting_of c.args.site.program.now c.args.site.result c.args.site.routine.now) code from (option_map plain_once part) (Some c.in_ok-form-in-Some.form) to) old one) (sym c.in-Some.is)
    (λ final stays. (c.in_ok-form-in-Some.form, refl, c.in_ok-form-in-Some.ensures.added final stays))
