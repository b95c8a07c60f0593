use Rattle.std.proofs.Common.{◌≡◌, ◌++◌, [], ◌∷◌, subst}
use Rattle.pearl_instructions.specs.declared.instr.Instr.TheVariants as instr
use Rattle.pearl_program.specs.PlainExpressions.{plain_variable}
use Rattle.pearl_gen_stmt.specs.Emission.{setting_of}
use Rattle.pearl_gen_stmt.proofs.Adding.{take_adds}
use Rattle.pearl_gen_stmt.proofs.transfer.emit_take.Goals as goal

pub returns-clause-added : goal.returns-clause-added
returns-clause-added c =
    let way = c.emit_way.new.code.items in let one = c.emit.new.code.items in
    take_adds (setting_of c.args.site.program.now c.args.site.result c.args.site.routine.now) c.args.code.now.items way one
    c.emit-2.new.code.items c.emit-3.new.code.items (plain_variable c.args.take.now.target) c.args.take.now.device c.in_ok-kind.kind c.in_ok-instr.instr
    c.in_ok-kind.ensures c.in_ok-instr.ensures c.in_ok-emit_way.ensures.added (subst (λ n. one ≡ way ++ instr.Take n ∷ []) c.from.ensures c.in_ok-emit.ensures.added)
    c.in_ok-emit-2.ensures.added c.in_ok-emit-3.ensures.added
