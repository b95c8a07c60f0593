use Rattle.std.proofs.Common.{map, ap, sym, subst, ◌∙◌}
use Rattle.std.specs.List.{AllZip}
use Rattle.pearl_program.specs.PlainPrograms.{plain_prog, plain_leaf}
use Rattle.pearl_program.specs.declared.program.Program.{Program}
use Rattle.pearl_instructions.specs.declared.object.Parts.{Parts as Object}
use Rattle.pearl_gen_expr.specs.Tables.{plain_leaf as leaf_said}
use Rattle.pearl_gen_stmt.specs.Generated.{IsGenerated}
use Rattle.pearl_generate.specs.Routines.{IsProcedure, IsTask}
use Rattle.pearl_generate.proofs.Whole.{generated}
use Rattle.pearl_generate.proofs.parts_of.Goals as goal

pub returns-clause-generated : goal.returns-clause-generated
returns-clause-generated c =
    let parts = c.parts-parts.result.now in
    let o : Object =
    record { devices = c.new.result; semaphores = c.new-2.result; leaves = c.new-3.result; formats = c.new-4.result; procedures = c.new-5.result; tasks = c.new-6.result } in
    subst (λ (program : Program). IsGenerated (plain_prog program) o) c.parts-parts.ensures.value
    (generated parts o
    (ap (map leaf_said) c.new-3.ensures ∙ (c.in_ok-leaves.ensures ∙ ap (map plain_leaf) c.as_slice-2.ensures))
    (c.new-2.ensures ∙ (c.in_ok-semaphores.ensures.items ∙ c.as_slice-3.ensures))
    (c.new.ensures ∙ (c.in_ok-devices.ensures ∙ c.as_slice-4.ensures))
    (c.new-4.ensures ∙ (c.in_ok-formats.ensures ∙ c.as_slice.ensures))
    (subst (λ list. AllZip (IsProcedure (plain_prog parts)) parts.procedures list) (sym c.new-5.ensures) c.in_ok-procedures.ensures)
    (subst (λ list. AllZip (IsTask (plain_prog parts)) parts.tasks list) (sym c.new-6.ensures) c.in_ok-tasks.ensures))
