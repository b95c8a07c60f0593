use Rattle.std.proofs.Common.{option_map, refl, sym, subst}
use Rattle.pearl_program.specs.PlainExpressions.{plain_expr}
use Rattle.pearl_gen_stmt.specs.StmtCode.{WhileAt}
use Rattle.pearl_gen_stmt.specs.Emission.{setting_of, AddsTest}
use Rattle.pearl_gen_stmt.proofs.Settling.{extends_longer}
use Rattle.pearl_gen_stmt.proofs.Counting.{while_adds}
use Rattle.pearl_gen_stmt.proofs.loops.emit_while.Goals as goal

pub returns-in-None-clause-added : goal.returns-in-None-clause-added
returns-in-None-clause-added c =
    let old = c.args.code.now.items in
    subst (λ value. AddsTest (λ past code from to. WhileAt (setting_of c.args.site.program.now c.args.site.result c.args.site.routine.now) code from past (option_map plain_expr value) to) old old) (sym c.in-None.is)
    (λ final past stays leave. refl)

pub returns-in_ok-emit_pending-in-Some-clause-added : goal.returns-in_ok-emit_pending-in-Some-clause-added
returns-in_ok-emit_pending-in-Some-clause-added c =
    let old = c.args.code.now.items in let one = c.emit_expr.new.code.items in let two = c.emit_pending.new.code.items in
    subst (λ value. AddsTest (λ past code from to. WhileAt (setting_of c.args.site.program.now c.args.site.result c.args.site.routine.now) code from past (option_map plain_expr value) to) old two) (sym c.in-Some.is)
    (while_adds (setting_of c.args.site.program.now c.args.site.result c.args.site.routine.now) old one two (plain_expr c.in-Some.condition) c.in_ok-emit_expr-in-Some.ensures.added (extends_longer old one c.in_ok-emit_expr-in-Some.ensures.kept)
    c.in_ok-emit_pending-in-Some.ensures.added)
