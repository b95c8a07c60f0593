use Rattle.std.proofs.Common.{◌∙◌}
use Rattle.pearl_program.specs.PlainPrograms.{plain_prog, plain_routine}
use Rattle.pearl_generate.proofs.Routines.{routine_is}
use Rattle.pearl_generate.proofs.routine.code_of.Goals as goal

pub returns : goal.returns
returns c =
    routine_is (plain_prog c.args.program.now) c.args.returns (plain_routine c.args.routine.now) c.args.last
    (record { cells = c.new.result; depth = c.args.weight; instructions = c.new-2.result; shapes = c.new-4.result })
    c.new-instructions.result.items c.emit_statements.new.code.items c.push.new.self.items c.new-instructions.ensures.items
    c.in_ok-emit_statements.ensures.stands c.in_ok-push.ensures.items c.new-2.ensures c.requires (c.new-4.ensures ∙ c.new-3.ensures.items)
    (c.new.ensures ∙ (c.in_ok-cells.ensures.items ∙ c.as_slice.ensures))
