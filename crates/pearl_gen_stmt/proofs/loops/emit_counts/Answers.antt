use Rattle.std.proofs.Common.{option_map, refl, sym, subst}
use Rattle.pearl_program.specs.PlainStatements.{plain_counter}
use Rattle.pearl_gen_stmt.specs.StmtCode.{CountsAt}
use Rattle.pearl_gen_stmt.specs.Emission.{AddsTest}
use Rattle.pearl_gen_stmt.proofs.loops.emit_counts.Goals as goal

pub returns-in-None-clause-added : goal.returns-in-None-clause-added
returns-in-None-clause-added c setting =
    let old = c.args.code.now.items in
    subst (λ counter. AddsTest (λ past code from to. CountsAt setting code from past (option_map plain_counter counter) to) old old) (sym c.in-None.is)
    (λ final past stays leave. refl)

pub returns-in_ok-emit_within-in-Some-clause-added : goal.returns-in_ok-emit_within-in-Some-clause-added
returns-in_ok-emit_within-in-Some-clause-added c setting =
    let old = c.args.code.now.items in let one = c.emit_within.new.code.items in
    subst (λ counter. AddsTest (λ past code from to. CountsAt setting code from past (option_map plain_counter counter) to) old one) (sym c.in-Some.is)
    (c.in_ok-emit_within-in-Some.ensures.added setting)
