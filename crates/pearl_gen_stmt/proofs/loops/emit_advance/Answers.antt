use Rattle.std.proofs.Common.{option_map, sym, subst}
use Rattle.pearl_program.specs.PlainStatements.{plain_counter}
use Rattle.pearl_gen_stmt.specs.StmtCode.{AdvanceAt}
use Rattle.pearl_gen_stmt.specs.Emission.{Adds}
use Rattle.pearl_gen_stmt.proofs.Counting.{endless_turn_adds}
use Rattle.pearl_gen_stmt.proofs.loops.emit_advance.Goals as goal

pub returns-in_ok-emit-in-None-clause-added : goal.returns-in_ok-emit-in-None-clause-added
returns-in_ok-emit-in-None-clause-added c setting =
    let old = c.args.code.now.items in let one = c.emit.new.code.items in
    subst (λ counter. Adds (λ code from to. AdvanceAt setting code from c.args.top (option_map plain_counter counter) to) old one) (sym c.in-None.is)
    (endless_turn_adds setting old one one c.args.top c.in_ok-emit-in-None.ensures.added)

pub returns-in_ok-emit_passed-in-Some-clause-added : goal.returns-in_ok-emit_passed-in-Some-clause-added
returns-in_ok-emit_passed-in-Some-clause-added c setting =
    let old = c.args.code.now.items in let one = c.emit_passed.new.code.items in
    subst (λ counter. Adds (λ code from to. AdvanceAt setting code from c.args.top (option_map plain_counter counter) to) old one) (sym c.in-Some.is)
    (c.in_ok-emit_passed-in-Some.ensures.added setting)
