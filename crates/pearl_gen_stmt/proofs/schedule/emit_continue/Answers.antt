use Rattle.std.proofs.Common.{option_map, ap, ◌∙◌}
use Rattle.pearl_program.specs.PlainStatements.{plain_once}
use Rattle.pearl_gen_stmt.specs.Emission.{setting_of}
use Rattle.pearl_gen_stmt.proofs.Planning.{continue_adds}
use Rattle.pearl_gen_stmt.proofs.schedule.emit_continue.Goals as goal

pub returns-clause-added : goal.returns-clause-added
returns-clause-added c =
    let part = c.args.part.now in
    continue_adds (setting_of c.args.site.program.now c.args.site.result c.args.site.routine.now) c.args.code.now.items c.emit_maybe_once.new.code.items c.emit.new.code.items part.task (option_map plain_once part.once)
    c.in_ok-once.once c.in_ok-boxed.boxed c.in_ok-once.ensures.added
    (c.in_ok-boxed.ensures ∙ ap (λ task. record { task = task; once = c.in_ok-once.once }) c.from.ensures) c.in_ok-emit.ensures.added
