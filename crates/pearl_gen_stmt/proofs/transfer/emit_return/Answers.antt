use Rattle.std.proofs.Common.{option_map, refl, sym, subst}
use Rattle.pearl_instructions.specs.declared.instr.Instr.TheVariants as instr
use Rattle.pearl_program.specs.PlainExpressions.{plain_expr}
use Rattle.pearl_gen_stmt.specs.Emission.{setting_of, Adds}
use Rattle.pearl_gen_stmt.specs.StmtCode.{ReturnAt}
use Rattle.pearl_gen_stmt.proofs.Adding.{alone_adds, return_adds}
use Rattle.pearl_gen_stmt.proofs.transfer.emit_return.Goals as goal

pub returns-in_ok-emit-in-None-clause-added : goal.returns-in_ok-emit-in-None-clause-added
returns-in_ok-emit-in-None-clause-added c =
    let old = c.args.code.now.items in let one = c.emit.new.code.items in
    subst (λ value. Adds (λ code from to. ReturnAt (setting_of c.args.site.program.now c.args.site.result c.args.site.routine.now) code from (option_map plain_expr value) to) old one) (sym c.in-None.is)
    (alone_adds old one instr.Return c.in_ok-emit-in-None.ensures.added (setting_of c.args.site.program.now c.args.site.result c.args.site.routine.now) refl)

pub returns-in_ok-emit-in-Some-clause-added : goal.returns-in_ok-emit-in-Some-clause-added
returns-in_ok-emit-in-Some-clause-added c =
    let old = c.args.code.now.items in let one = c.emit_converted.new.code.items in let two = c.emit-in-Some.new.code.items in
    subst (λ value. Adds (λ code from to. ReturnAt (setting_of c.args.site.program.now c.args.site.result c.args.site.routine.now) code from (option_map plain_expr value) to) old two) (sym c.in-Some.is)
    (return_adds (setting_of c.args.site.program.now c.args.site.result c.args.site.routine.now) old one two (plain_expr c.in-Some.value) c.in-Some-result.kind c.in-Some-result.is c.in_ok-emit_converted-in-Some.ensures.added c.in_ok-emit-in-Some.ensures.added)
