use Rattle.pearl_program.specs.PlainStatements.{plain_once}
use Rattle.pearl_gen_stmt.specs.Emission.{setting_of}
use Rattle.pearl_gen_stmt.proofs.Planning.{resume_adds}
use Rattle.pearl_gen_stmt.proofs.schedule.emit_resume.Goals as goal

pub returns-clause-added : goal.returns-clause-added
returns-clause-added c =
    resume_adds (setting_of c.args.site.program.now c.args.site.result c.args.site.routine.now) c.args.code.now.items c.emit_once.new.code.items c.emit.new.code.items (plain_once c.args.once.now) c.in_ok-form.form
    c.in_ok-form.ensures.added c.in_ok-emit.ensures.added
