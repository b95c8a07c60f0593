use Rattle.pearl_program.specs.PlainExpressions.{plain_expr}
use Rattle.pearl_gen_stmt.specs.Emission.{setting_of}
use Rattle.pearl_gen_stmt.proofs.Adding.{converted_adds}
use Rattle.pearl_gen_stmt.proofs.transfer.emit_converted.Goals as goal

pub returns-clause-added : goal.returns-clause-added
returns-clause-added c =
    converted_adds (setting_of c.args.site.program.now c.args.site.result c.args.site.routine.now) c.args.code.now.items c.emit_expr.new.code.items c.emit.new.code.items
    (plain_expr c.args.expr.now) c.args.kind c.in_ok-emit_expr.ensures.added c.in_ok-emit.ensures.added
