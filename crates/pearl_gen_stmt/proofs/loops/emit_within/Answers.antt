use Rattle.std.proofs.Common.{◌≡◌, ◌++◌, [], ◌∷◌, option_map, refl, sym, subst}
use Rattle.pearl_instructions.specs.declared.instr.Instr.TheVariants as instr
use Rattle.pearl_program.specs.PlainExpressions.{plain_expr}
use Rattle.pearl_program.specs.PlainStatements.{plain_counter}
use Rattle.pearl_gen_stmt.specs.StmtCode.{WithinAt}
use Rattle.pearl_gen_stmt.specs.Emission.{AddsTest}
use Rattle.pearl_gen_stmt.proofs.Counting.{within_adds}
use Rattle.pearl_gen_stmt.proofs.loops.emit_within.Goals as goal

pub returns-in-None-clause-added : goal.returns-in-None-clause-added
returns-in-None-clause-added c setting =
    let old = c.args.code.now.items in
    subst (λ value. AddsTest (λ past code from to. WithinAt setting code from past (plain_counter c.args.counter.now) (option_map plain_expr value) to) old old) (sym c.in-None.is)
    (λ final past stays leave. refl)

pub returns-in_ok-emit_pending-in-Some-clause-added : goal.returns-in_ok-emit_pending-in-Some-clause-added
returns-in_ok-emit_pending-in-Some-clause-added c setting =
    let old = c.args.code.now.items in let one = c.emit.new.code.items in let two = c.emit_pending.new.code.items in
    subst (λ value. AddsTest (λ past code from to. WithinAt setting code from past (plain_counter c.args.counter.now) (option_map plain_expr value) to) old two) (sym c.in-Some.is)
    (within_adds setting old one two (plain_counter c.args.counter.now) (plain_expr c.in-Some.field-0)
    (subst (λ n. one ≡ old ++ instr.Within n ∷ []) c.from.ensures c.in_ok-emit-in-Some.ensures.added) c.in_ok-emit_pending-in-Some.ensures.added)
