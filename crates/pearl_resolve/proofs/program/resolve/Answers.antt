use Rattle.std.proofs.Common.{List, length, map, ap, ◌∙◌}
use Rattle.std.specs.List.{flat_map}
use Rattle.pearl_tree.specs.declared.tree.Decl.{Decl}
use Rattle.pearl_tree.specs.ShownModules.{shown_decl, shown_tree}
use Rattle.pearl_resolve_tables.specs.Devices.{device_of}
use Rattle.pearl_program.specs.PlainPrograms.{plain_leaf, plain_procedure, plain_task}
use Rattle.pearl_resolve.specs.Numbers.{first}
use Rattle.pearl_resolve.specs.Resolve.{by_number, decl_leaves, numbered_of, procedures_in, tasks_in}
use Rattle.pearl_resolve.proofs.PlacingSteps.{by_number_map}
use Rattle.pearl_resolve.proofs.program.resolve.Goals as goal

pub returns : goal.returns
returns c = λ t holds.
    let numbers = c.args.procedures.now in
    let of = numbered_of t c.args.devices.now numbers (shown_tree c.args.tree.now) in
    let n = c.in_ok-numbered.ensures t holds in
    let leaves = ap (map plain_leaf) c.new-leaves.ensures ∙ c.in_ok-leaves.ensures of n
    ∙ ap (λ (l : List Decl). flat_map (decl_leaves of) (map shown_decl l)) c.as_slice-decls.ensures in
    let devices = c.in_ok-devices.ensures ∙ ap (λ l. map (device_of l) c.args.devices.now) (c.lengths.ensures ∙ n.table.lengths) in
    let procedures = ap (map plain_procedure) (c.new-procedures.ensures ∙ c.in_ok-placed.ensures)
    ∙ by_number_map plain_procedure numbers c.in_ok-routines.routines.procedures.items (length numbers) 0
    ∙ ap (λ l. by_number numbers l (length numbers) 0) (c.in_ok-routines.ensures.procedures of n
    ∙ ap (λ (l : List Decl). procedures_in of first (map shown_decl l)) c.as_slice-decls.ensures) in
    let tasks = ap (map plain_task) c.new-tasks.ensures ∙ c.in_ok-routines.ensures.tasks of n
    ∙ ap (λ (l : List Decl). tasks_in of first (map shown_decl l)) c.as_slice-decls.ensures in
    λ i. record {
      leaves = leaves i;
      semaphores = c.in_ok-semaphores.ensures i;
      devices = devices i;
      formats = c.in_ok-formats.ensures i;
      procedures = procedures i;
      tasks = tasks i;
    }
