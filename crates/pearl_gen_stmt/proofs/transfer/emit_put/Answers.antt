use Rattle.std.proofs.Common.{◌≡◌, ◌++◌, [], ◌∷◌, subst}
use Rattle.pearl_instructions.specs.declared.instr.Instr.TheVariants as instr
use Rattle.pearl_program.specs.PlainExpressions.{plain_exprs}
use Rattle.pearl_gen_stmt.specs.Emission.{setting_of}
use Rattle.pearl_gen_expr.specs.Emitting.{EmitsAll}
use Rattle.pearl_program.specs.PlainPrograms.{plain_prog}
use Rattle.pearl_gen_stmt.proofs.Adding.{put_adds}
use Rattle.pearl_gen_stmt.proofs.transfer.emit_put.Goals as goal

pub returns-clause-added : goal.returns-clause-added
returns-clause-added c =
    let old = c.args.code.now.items in let one = c.emit_all.new.code.items in let two = c.emit.new.code.items in
    put_adds (setting_of c.args.site.program.now c.args.site.result c.args.site.routine.now) old one two (plain_exprs c.args.put.now.values.items) c.args.put.now.device c.args.put.now.format
    (subst (λ xs. EmitsAll (plain_prog c.args.site.program.now) (plain_exprs xs) old one) c.as_slice.ensures.value c.in_ok-emit_all.ensures.added)
    (subst (λ n. two ≡ one ++ instr.Put n c.args.put.now.format ∷ []) c.from-device.ensures
    (subst (λ n. two ≡ one ++ instr.Put c.from-device.result n ∷ []) c.from-format.ensures c.in_ok-emit.ensures.added))
