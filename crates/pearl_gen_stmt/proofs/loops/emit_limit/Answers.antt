use Rattle.std.proofs.Common.{◌≡◌, ◌++◌, ◌+◌, [], ◌∷◌, option_map, refl, sym, subst}
use Rattle.pearl_instructions.specs.declared.instr.Instr.TheVariants as instr
use Rattle.pearl_program.specs.PlainExpressions.{plain_expr}
use Rattle.pearl_program.specs.PlainStatements.{plain_counter}
use Rattle.pearl_gen_stmt.specs.StmtCode.{CountedAt, LimitAt}
use Rattle.pearl_gen_stmt.specs.Emission.{setting_of, Adds}
use Rattle.pearl_gen_stmt.proofs.Counting.{limit_adds}
use Rattle.pearl_gen_stmt.proofs.loops.emit_limit.Goals as goal

pub returns-in-None-clause-added : goal.returns-in-None-clause-added
returns-in-None-clause-added c =
    let old = c.args.code.now.items in
    subst (λ value. Adds (λ code from to. LimitAt (setting_of c.args.site.program.now c.args.site.result c.args.site.routine.now) code from (plain_counter c.args.counter.now) (option_map plain_expr value) to) old old) (sym c.in-None.is) (λ final stays. refl)

pub returns-in_ok-emit-in-Some-clause-added : goal.returns-in_ok-emit-in-Some-clause-added
returns-in_ok-emit-in-Some-clause-added c =
    let old = c.args.code.now.items in let one = c.emit_counted.new.code.items in let two = c.emit.new.code.items in
    let e = plain_expr c.in-Some.field-0 in let counter = plain_counter c.args.counter.now in
    subst (λ value. Adds (λ code from to. LimitAt (setting_of c.args.site.program.now c.args.site.result c.args.site.routine.now) code from (plain_counter c.args.counter.now) (option_map plain_expr value) to) old two) (sym c.in-Some.is)
    (limit_adds (setting_of c.args.site.program.now c.args.site.result c.args.site.routine.now) old one two counter e
    (subst (λ value. Adds (λ code from to. CountedAt (setting_of c.args.site.program.now c.args.site.result c.args.site.routine.now) code from counter (option_map plain_expr value) to) old one) c.in-Some.is c.in_ok-emit_counted-in-Some.ensures.added)
    (subst (λ n. two ≡ one ++ instr.Store (n + 2) ∷ []) c.from.ensures c.in_ok-emit-in-Some.ensures.added))
