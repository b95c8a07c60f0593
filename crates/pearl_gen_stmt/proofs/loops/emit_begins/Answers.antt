use Rattle.std.proofs.Common.{◌≡◌, ◌++◌, ◌+◌, [], ◌∷◌, option_map, refl, sym, subst}
use Rattle.pearl_instructions.specs.declared.instr.Instr.TheVariants as instr
use Rattle.pearl_program.specs.PlainStatements.{plain_counter}
use Rattle.pearl_gen_stmt.specs.StmtCode.{BeginsAt}
use Rattle.pearl_gen_stmt.specs.Emission.{setting_of, Adds}
use Rattle.pearl_gen_stmt.proofs.Counting.{begins_adds}
use Rattle.pearl_gen_stmt.proofs.loops.emit_begins.Goals as goal

pub returns-in-None-clause-added : goal.returns-in-None-clause-added
returns-in-None-clause-added c =
    let old = c.args.code.now.items in
    subst (λ counter. Adds (λ code from to. BeginsAt (setting_of c.args.site.program.now c.args.site.result c.args.site.routine.now) code from (option_map plain_counter counter) to) old old) (sym c.in-None.is) (λ final stays. refl)

pub returns-in_ok-emit_limit-in-Some-clause-added : goal.returns-in_ok-emit_limit-in-Some-clause-added
returns-in_ok-emit_limit-in-Some-clause-added c =
    let old = c.args.code.now.items in let one = c.emit_counted.new.code.items in let two = c.emit.new.code.items in let three = c.emit_counted-in-Some.new.code.items in
    let four = c.emit-in-Some.new.code.items in let five = c.emit-in-Some-2.new.code.items in let six = c.emit_limit.new.code.items in
    let counter = plain_counter c.in-Some.counter in
    subst (λ counter. Adds (λ code from to. BeginsAt (setting_of c.args.site.program.now c.args.site.result c.args.site.routine.now) code from (option_map plain_counter counter) to) old six) (sym c.in-Some.is)
    (begins_adds (setting_of c.args.site.program.now c.args.site.result c.args.site.routine.now) old one two three four five six counter c.in_ok-emit_counted-in-Some.ensures.added
    (subst (λ n. two ≡ one ++ instr.Store n ∷ []) c.from-cell.ensures c.in_ok-emit-in-Some.ensures.added)
    c.in_ok-emit_counted-in-Some-2.ensures.kept c.in_ok-emit_counted-in-Some-2.ensures.added c.in_ok-emit-in-Some-2.ensures.added
    (subst (λ n. five ≡ four ++ instr.Store (n + 1) ∷ []) c.from-cell.ensures c.in_ok-emit-in-Some-3.ensures.added)
    c.in_ok-emit_limit-in-Some.ensures.kept c.in_ok-emit_limit-in-Some.ensures.added)
