use Rattle.pearl_program.specs.PlainExpressions.{plain_expr, plain_variable}
use Rattle.pearl_gen_stmt.specs.Emission.{setting_of}
use Rattle.pearl_gen_stmt.proofs.Adding.{assign_adds}
use Rattle.pearl_gen_stmt.proofs.transfer.emit_assign.Goals as goal

pub returns-clause-added : goal.returns-clause-added
returns-clause-added c =
    assign_adds (setting_of c.args.site.program.now c.args.site.result c.args.site.routine.now) c.args.code.now.items c.emit_way.new.code.items
    c.emit_converted.new.code.items c.emit.new.code.items (plain_variable c.args.assign.now.target) (plain_expr c.args.assign.now.value) c.in_ok-kind.kind c.in_ok-instr.instr
    c.in_ok-kind.ensures c.in_ok-instr.ensures c.in_ok-emit_way.ensures.added c.in_ok-emit_converted.ensures.kept c.in_ok-emit_converted.ensures.added
    c.in_ok-emit.ensures.added
