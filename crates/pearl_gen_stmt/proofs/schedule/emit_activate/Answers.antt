use Rattle.std.proofs.Common.{option_map, ap, ◌∙◌}
use Rattle.pearl_program.specs.PlainExpressions.{plain_expr}
use Rattle.pearl_program.specs.PlainStatements.{plain_start, plain_period}
use Rattle.pearl_gen_stmt.specs.Emission.{setting_of}
use Rattle.pearl_gen_stmt.proofs.Planning.{activate_adds}
use Rattle.pearl_gen_stmt.proofs.schedule.emit_activate.Goals as goal

pub returns-clause-added : goal.returns-clause-added
returns-clause-added c =
    let part = c.args.part.now in
    activate_adds (setting_of c.args.site.program.now c.args.site.result c.args.site.routine.now) c.args.code.now.items c.emit_start.new.code.items c.emit_period.new.code.items c.emit_priority.new.code.items c.emit.new.code.items
    part.task (option_map plain_start part.start) (option_map plain_period part.period) (option_map plain_expr part.priority)
    c.in_ok-start.start c.in_ok-repeat.repeat c.in_ok-priority.priority c.in_ok-boxed.boxed c.in_ok-start.ensures.added c.in_ok-repeat.ensures.kept
    c.in_ok-repeat.ensures.added c.in_ok-priority.ensures.kept c.in_ok-priority.ensures.added
    (c.in_ok-boxed.ensures ∙ ap (λ task. record { task = task; start = c.in_ok-start.start; repeat = c.in_ok-repeat.repeat; priority = c.in_ok-priority.priority }) c.from.ensures)
    c.in_ok-emit.ensures.added
