-- The tables from which an object's run starts are lawful.
use Rattle.std.proofs.Common.{◌≡◌, List, [], ◌∷◌, length, map, arith}
use Rattle.std.specs.List.{AllByRecursion}
use Rattle.std.proofs.lemmas.List.{length-map}
use Rattle.pearl_tree.proofs.Offered.{ids_are_names}
use Rattle.pearl_rules.specs.Tables.{IsTaskEntry}
use Rattle.pearl_instructions.specs.declared.object.Task.{Task}
use Rattle.pearl_instructions.specs.Lawful.{IsTask}
use Rattle.pearl_instructions.specs.Setups.{entry_of}
use Rattle.pearl_instructions.specs.RunLaws.{AreTables, KnowsSlots}
use Rattle.pearl_instructions.proofs.Slots.{all_long, all_values, slot_known}

entries : (tasks : List Task) → AllByRecursion IsTask tasks → AllByRecursion IsTaskEntry (map entry_of tasks)
entries [] all = tt
entries (task ∷ tasks) all = (record { urgent = all.0.urgent; named = ids_are_names task.name.items all.0.named }, entries tasks all.1)

pub are_tables : AreTables
are_tables o is =
    let long = all_long o.leaves is.leaves in
    let count : length (map entry_of o.tasks) ≡ length o.tasks = length-map o.tasks entry_of in
    record {
      tasks = entries o.tasks is.tasks;
      slots = all_values o.leaves is.leaves;
      semaphores = is.semaphores;
      devices = is.devices;
      rising = is.rising;
      formats = is.formats;
      few_tasks = omega (arith, count, is.few_tasks);
      few_slots = omega (arith, long, is.few_slots);
      few_semaphores = is.few_semaphores;
      few_devices = is.few_devices;
    }

pub knows_slots : KnowsSlots
knows_slots o slot is there = slot_known o.leaves slot is.leaves there
