use Rattle.std.proofs.Common.{◌≡◌, ◌++◌, ◌+◌, [], ◌∷◌, length, option_map, sym, ◌∙◌, subst, arith}
use Rattle.pearl_instructions.specs.declared.instr.Instr.TheVariants as instr
use Rattle.pearl_program.specs.PlainExpressions.{plain_expr}
use Rattle.pearl_program.specs.PlainStatements.{plain_counter}
use Rattle.pearl_gen_stmt.specs.StmtCode.{PassedAt}
use Rattle.pearl_gen_stmt.specs.Emission.{Adds}
use Rattle.pearl_gen_stmt.proofs.Counting.{passed_adds, endless_adds}
use Rattle.pearl_gen_stmt.proofs.loops.emit_passed.Goals as goal

pub returns-in_ok-emit-in-None-3-clause-added : goal.returns-in_ok-emit-in-None-3-clause-added
returns-in_ok-emit-in-None-3-clause-added c setting =
    let old = c.args.code.now.items in let one = c.emit.new.code.items in let two = c.emit-in-None.new.code.items in let three = c.emit-in-None-2.new.code.items in
    let counter = plain_counter c.args.counter.now in
    subst (λ value. Adds (λ code from to. PassedAt setting code from c.args.top counter (option_map plain_expr value) to) old three) (sym c.in-None.is)
    (endless_adds setting old one two three counter c.args.top
    (subst (λ n. one ≡ old ++ instr.Advance n (length old + 2) ∷ []) c.from-first.ensures
    (subst (λ n. one ≡ old ++ instr.Advance c.from-first.result (n + 2) ∷ []) (c.len.ensures ∙ omega (arith, c.args.code.now.ok.0)) c.in_ok-emit-in-None.ensures.added))
    c.in_ok-emit-in-None-2.ensures.added c.in_ok-emit-in-None-3.ensures.added)

pub returns-in_ok-emit-in-Some-2-clause-added : goal.returns-in_ok-emit-in-Some-2-clause-added
returns-in_ok-emit-in-Some-2-clause-added c setting =
    let old = c.args.code.now.items in let one = c.emit-in-Some.new.code.items in let two = c.emit-in-Some-2.new.code.items in
    let counter = plain_counter c.args.counter.now in
    subst (λ value. Adds (λ code from to. PassedAt setting code from c.args.top counter (option_map plain_expr value) to) old two) (sym c.in-Some.is)
    (passed_adds setting old one two counter c.args.top (plain_expr c.in-Some.field-0)
    (subst (λ n. one ≡ old ++ instr.Advance n (length old + 2) ∷ []) c.from-first.ensures
    (subst (λ n. one ≡ old ++ instr.Advance c.from-first.result (n + 2) ∷ []) (c.len.ensures ∙ omega (arith, c.args.code.now.ok.0)) c.in_ok-emit-in-Some.ensures.added))
    c.in_ok-emit-in-Some-2.ensures.added)
