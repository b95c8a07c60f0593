use Rattle.std.proofs.Common.{slice_get}
use Rattle.pearl_program.specs.PlainExpressions.{plain_arguments}
use Rattle.pearl_gen_stmt.specs.Emission.{setting_of}
use Rattle.pearl_gen_stmt.proofs.Adding.{call_of_adds}
use Rattle.pearl_gen_stmt.proofs.Naming.{procedure_there}
use Rattle.pearl_program.specs.PlainPrograms.{plain_prog, plain_procedure}
use Rattle.pearl_gen_stmt.proofs.transfer.emit_call_of.Goals as goal

pub returns-clause-added : goal.returns-clause-added
returns-clause-added c =
    call_of_adds (setting_of c.args.site.program.now c.args.site.result c.args.site.routine.now) c.args.code.now.items c.emit_call.new.code.items c.emit_dropped.new.code.items
    c.args.call.now.procedure (slice_get (plain_prog c.args.site.program.now).procedures c.args.call.now.procedure) (plain_procedure c.in-Some.procedure.now)
    (plain_arguments c.args.call.now.arguments.items)
    (procedure_there c.args.site.program.now c.as_slice.result.now c.args.call.now.procedure c.in-Some.procedure.now c.as_slice.ensures c.in-Some.ensures.lookup.0 c.in-Some.ensures.lookup.1)
    c.in_ok-emit_call.ensures.added c.in_ok-emit_dropped.ensures.kept (c.in_ok-emit_dropped.ensures.added (setting_of c.args.site.program.now c.args.site.result c.args.site.routine.now))
