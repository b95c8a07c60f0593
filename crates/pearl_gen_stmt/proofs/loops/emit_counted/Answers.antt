use Rattle.std.proofs.Common.{option_map, sym, subst}
use Rattle.pearl_program.specs.PlainExpressions.{plain_expr}
use Rattle.pearl_program.specs.PlainStatements.{plain_counter}
use Rattle.pearl_gen_stmt.specs.StmtCode.{CountedAt}
use Rattle.pearl_gen_stmt.specs.Emission.{setting_of, Adds}
use Rattle.pearl_gen_stmt.proofs.Counting.{one_counted_adds, counted_adds}
use Rattle.pearl_gen_stmt.proofs.loops.emit_counted.Goals as goal

pub returns-in_ok-emit-in-None-2-clause-added : goal.returns-in_ok-emit-in-None-2-clause-added
returns-in_ok-emit-in-None-2-clause-added c =
    let old = c.args.code.now.items in let two = c.emit-in-None.new.code.items in
    subst (λ value. Adds (λ code from to. CountedAt (setting_of c.args.site.program.now c.args.site.result c.args.site.routine.now) code from (plain_counter c.args.counter.now) (option_map plain_expr value) to) old two) (sym c.in-None.is)
    (one_counted_adds (setting_of c.args.site.program.now c.args.site.result c.args.site.routine.now) old c.emit.new.code.items two (plain_counter c.args.counter.now) c.in_ok-kind.kind c.in_ok-one-in-None.one c.in_ok-kind.ensures
    c.in_ok-one-in-None.ensures c.in_ok-emit-in-None.ensures.added c.in_ok-emit-in-None-2.ensures.added)

pub returns-in_ok-emit_converted-in-Some-clause-added : goal.returns-in_ok-emit_converted-in-Some-clause-added
returns-in_ok-emit_converted-in-Some-clause-added c =
    let old = c.args.code.now.items in let one = c.emit_converted.new.code.items in
    subst (λ value. Adds (λ code from to. CountedAt (setting_of c.args.site.program.now c.args.site.result c.args.site.routine.now) code from (plain_counter c.args.counter.now) (option_map plain_expr value) to) old one) (sym c.in-Some.is)
    (counted_adds (setting_of c.args.site.program.now c.args.site.result c.args.site.routine.now) old one one (plain_counter c.args.counter.now) (plain_expr c.in-Some.value) c.in_ok-kind.kind c.in_ok-kind.ensures
    c.in_ok-emit_converted-in-Some.ensures.added)
