use Rattle.std.proofs.Common.{◌≡◌, ◌++◌, [], ◌∷◌, subst}
use Rattle.pearl_instructions.specs.declared.instr.Instr.TheVariants as instr
use Rattle.pearl_program.specs.PlainExpressions.{plain_expr}
use Rattle.pearl_gen_stmt.specs.Emission.{setting_of}
use Rattle.pearl_gen_stmt.proofs.Adding.{send_adds}
use Rattle.pearl_gen_stmt.proofs.transfer.emit_send.Goals as goal

pub returns-clause-added : goal.returns-clause-added
returns-clause-added c =
    let one = c.emit_converted.new.code.items in let two = c.emit.new.code.items in
    send_adds (setting_of c.args.site.program.now c.args.site.result c.args.site.routine.now) c.args.code.now.items one two (plain_expr c.args.send.now.value) c.args.send.now.device c.in_ok-kind.kind
    c.in_ok-kind.ensures c.in_ok-emit_converted.ensures.added (subst (λ n. two ≡ one ++ instr.Send n ∷ []) c.from.ensures c.in_ok-emit.ensures.added)
