-- The laws of numbers, sizes and tasks.
use Rattle.std.specs.Prelude.{◌≡◌, ℕ, ◌≤◌, ◌<◌, List, [], ◌∷◌, length, filter, None}
use Rattle.std.specs.List.{AllByRecursion, AllZip}
use Rattle.std.proofs.Common.{◌∙◌, sym, arith}
use Rattle.std.proofs.lemmas.List.{length-map}
use Rattle.pearl_tree.specs.declared.tree.Tree.{Tree}
use Rattle.pearl_tree.specs.Lawful.{IsLawful}
use Rattle.pearl_tree.specs.ShownModules.{ShownTree, shown_tree}
use Rattle.pearl_tree.specs.Tokens.{IsId}
use Rattle.pearl_names.specs.Known.{known_of}
use Rattle.pearl_names.specs.Tables.{table_of}
use Rattle.pearl_scope.specs.Rules as names
use Rattle.pearl_system.specs.declared.device.SpecifiedDevice.{SpecifiedDevice}
use Rattle.pearl_system.specs.Devices.{device_key, IsDevice}
use Rattle.pearl_system.specs.Rising.{Lists}
use Rattle.pearl_check.specs.Rules.{all_broken}
use Rattle.pearl_check.specs.Routines.{Routine, is_procedure, is_task, routines_of}
use Rattle.pearl_check.specs.Sizes.{task_count, procedure_count, semaphore_count, slot_count, cells_of}
use Rattle.pearl_program.specs.PlainPrograms.{PlainProcedure, PlainTask, PlainProg}
use Rattle.pearl_program.specs.Sound.{IsRoutine, CallSmaller, IsTask, HasSizes, IsSound}
use Rattle.pearl_resolve.specs.Numbers.{first}
use Rattle.pearl_resolve.specs.Expressions.{Numbered}
use Rattle.pearl_resolve.specs.Resolve.{device_of, tasks_in, procedures_in, numbered_of, resolve}
use Rattle.pearl_sound_sizes.specs.ByRule.{program, AreByRule}
use Rattle.pearl_sound_sizes.specs.Laws.{HasToldSizes, HasCountedCells, WeighsNoMore, RestIsSound}
use Rattle.pearl_sound_sizes.proofs.Bounds.{routine_has_cells}
use Rattle.pearl_sound_sizes.proofs.Routines.{IsProcedureOf, IsTaskOf, procedures_alike, tasks_alike}
use Rattle.pearl_sound.proofs.Offered.{all_semaphores, all_tasks, all_procedures}
use Rattle.pearl_sound_sizes.proofs.Counts.{module_size, all_slots, declared_once}
use Rattle.pearl_sound_sizes.proofs.Devices.{few_devices}
use Rattle.pearl_sound_sizes.proofs.Kept.{no_name_broken, no_whole_broken, all_kept}
use Rattle.pearl_sound_sizes.proofs.Limits.{limits_kept}
use Rattle.pearl_sound_sizes.proofs.Tasks.{tasks_urgent, tasks_named}
use Rattle.pearl_sound_sizes.proofs.Whole.{whole, count, call_smaller, procedure_weights, task_weights, procedures_weigh_no_more, tasks_weigh_no_more}

pub smaller_called : (tree : ShownTree) (devices : List SpecifiedDevice) (numbers : List ℕ) → all_broken tree ≡ [] → AreByRule tree numbers →
    CallSmaller 0 (resolve (table_of tree) devices numbers tree).procedures
smaller_called tree devices numbers none by_rule = call_smaller tree devices numbers by_rule (all_kept tree none)

pub told : (tree : ShownTree) (devices : List SpecifiedDevice) (numbers : List ℕ) → names.broken tree ≡ [] → AreByRule tree numbers →
    HasToldSizes tree devices numbers
told tree devices numbers none by_rule =
    let numbered : Numbered = numbered_of (table_of tree) devices numbers tree in
    let known = known_of tree in
    record {
      tasks = module_size tree task_count ∙ all_tasks known numbered first 0 tree.declarations;
      procedures = module_size tree procedure_count ∙ all_procedures known numbered first 0 tree.declarations ∙
          sym (whole tree devices numbers by_rule) ∙ sym (count tree devices numbers by_rule);
      slots = module_size tree slot_count ∙ all_slots tree numbered.numbers (declared_once tree none);
    }

pub sizes_within : (tree : ShownTree) (devices : List SpecifiedDevice) (numbers : List ℕ) → all_broken tree ≡ [] →
    Lists device_key (IsDevice tree) devices → AreByRule tree numbers → HasSizes (resolve (table_of tree) devices numbers tree)
sizes_within tree devices numbers none lists by_rule =
    let limits = limits_kept tree (no_whole_broken tree none) in
    let kept = all_kept tree none in
    let sizes = told tree devices numbers (no_name_broken tree none) by_rule in
    let semaphores = module_size tree semaphore_count ∙ all_semaphores (known_of tree) 0 tree.declarations in
    record {
      tasks = let a = limits.tasks in let b = sizes.tasks in omega (arith, a, b);
      procedures = let a = limits.procedures in let b = sizes.procedures in omega (arith, a, b);
      semaphores = let a = limits.semaphores in omega (arith, a, semaphores);
      slots = let a = limits.slots in let b = sizes.slots in omega (arith, a, b);
      devices = let a = few_devices tree devices lists in let b = length-map devices (device_of (table_of tree).lengths) in omega (arith, a, b);
      weights = procedure_weights tree devices numbers by_rule kept limits;
      task_weights = task_weights tree devices numbers by_rule kept limits;
    }

pub urgent : (tree : ShownTree) (devices : List SpecifiedDevice) (numbers : List ℕ) → all_broken tree ≡ [] →
    AllByRecursion (λ (task : PlainTask). (0 < task.priority) × (task.priority ≤ 255)) (resolve (table_of tree) devices numbers tree).tasks
urgent tree devices numbers none = tasks_urgent tree devices numbers (all_kept tree none)

pub ids : (tree : Tree) (devices : List SpecifiedDevice) (numbers : List ℕ) → IsLawful tree →
    AllByRecursion (λ (task : PlainTask). IsId task.name) (resolve (table_of (shown_tree tree)) devices numbers (shown_tree tree)).tasks
ids tree devices numbers lawful =
    tasks_named (numbered_of (table_of (shown_tree tree)) devices numbers (shown_tree tree)) first tree.declarations.items.items lawful.declarations

procedure_cells : (numbered : Numbered) (procedures : List PlainProcedure) (routines : List Routine) → AllZip (IsProcedureOf numbered) procedures routines →
    AllZip (λ (procedure : PlainProcedure) (routine : Routine). length procedure.routine.cells ≡ cells_of numbered.table routine) procedures routines
procedure_cells numbered [] [] of = tt
procedure_cells numbered (procedure ∷ procedures) (routine ∷ routines) of =
    (routine_has_cells numbered procedure.routine routine of.0, procedure_cells numbered procedures routines of.1)
procedure_cells numbered [] (routine ∷ routines) of = absurd of
procedure_cells numbered (procedure ∷ procedures) [] of = absurd of

task_cells : (numbered : Numbered) (tasks : List PlainTask) (routines : List Routine) → AllZip (IsTaskOf numbered) tasks routines →
    AllZip (λ (task : PlainTask) (routine : Routine). length task.routine.cells ≡ cells_of numbered.table routine) tasks routines
task_cells numbered [] [] of = tt
task_cells numbered (task ∷ tasks) (routine ∷ routines) of =
    (routine_has_cells numbered task.routine routine of.0.own, task_cells numbered tasks routines of.1)
task_cells numbered [] (routine ∷ routines) of = absurd of
task_cells numbered (task ∷ tasks) [] of = absurd of

pub cells_counted : (tree : ShownTree) (devices : List SpecifiedDevice) (numbers : List ℕ) → HasCountedCells tree devices numbers
cells_counted tree devices numbers =
    let numbered : Numbered = numbered_of (table_of tree) devices numbers tree in
    record {
      procedures = procedure_cells numbered (procedures_in numbered first tree.declarations) (filter is_procedure (routines_of tree))
          (procedures_alike numbered first tree.declarations);
      tasks = task_cells numbered (tasks_in numbered first tree.declarations) (filter is_task (routines_of tree)) (tasks_alike numbered first tree.declarations);
    }

pub weigh_no_more : (tree : ShownTree) (devices : List SpecifiedDevice) (numbers : List ℕ) → all_broken tree ≡ [] → AreByRule tree numbers →
    WeighsNoMore tree devices numbers
weigh_no_more tree devices numbers none by_rule =
    let limits = limits_kept tree (no_whole_broken tree none) in
    let kept = all_kept tree none in
    record {
      procedures = procedures_weigh_no_more tree devices numbers by_rule kept limits;
      tasks = tasks_weigh_no_more tree devices numbers by_rule kept limits;
    }

tasks_sound : (p : PlainProg) (tasks : List PlainTask) → AllByRecursion (λ (task : PlainTask). IsId task.name) tasks →
    AllByRecursion (λ (task : PlainTask). (0 < task.priority) × (task.priority ≤ 255)) tasks →
    AllByRecursion (λ (task : PlainTask). IsRoutine p 0 None task.routine) tasks → AllByRecursion (IsTask p) tasks
tasks_sound p [] names priorities routines = tt
tasks_sound p (task ∷ rest) names priorities routines =
    (record { named = names.0; urgent = priorities.0; routine = routines.0 }, tasks_sound p rest names.1 priorities.1 routines.1)

pub rest_sound : (tree : Tree) (devices : List SpecifiedDevice) (numbers : List ℕ) → IsLawful tree → all_broken (shown_tree tree) ≡ [] →
    Lists device_key (IsDevice (shown_tree tree)) devices → AreByRule (shown_tree tree) numbers →
    RestIsSound (program (shown_tree tree) devices numbers) → IsSound (program (shown_tree tree) devices numbers)
rest_sound tree devices numbers lawful none lists by_rule rest =
    let p = program (shown_tree tree) devices numbers in
    record {
      leaves = rest.leaves;
      semaphores = rest.semaphores;
      devices = rest.devices;
      rising = rest.rising;
      formats = rest.formats;
      procedures = rest.procedures;
      order = smaller_called (shown_tree tree) devices numbers none by_rule;
      tasks = tasks_sound p p.tasks (ids tree devices numbers lawful) (urgent (shown_tree tree) devices numbers none) rest.tasks;
      sizes = sizes_within (shown_tree tree) devices numbers none lists by_rule;
    }
