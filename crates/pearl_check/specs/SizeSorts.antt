-- What a name adds to each size of a module, and the limits; the sizes that are told.
use Rattle.std.specs.Prelude.{ℕ, ◌+◌, ◌==◌, Bool, ◌&&◌, not, nat_le, nat_lt, List}
use Rattle.pearl_names.specs.declared.types.Counts.{Counts}
use Rattle.pearl_names.specs.Counts.{cut}
use Rattle.pearl_names.specs.Tables.{Sense}
use Rattle.pearl_check.specs.declared.limit.TheConstants.{TASKS_MAX, PROCEDURES_MAX, SEMAPHORES_MAX, SLOTS_MAX, LEAF_NAME_MAX}
use Rattle.pearl_check.specs.declared.sizes.Size.{Size}
use Rattle.pearl_check.specs.declared.sizes.Size.TheVariants.{Tasks, Procedures, Semaphores, Slots}
use Rattle.pearl_check.specs.declared.sizes.Sizes.{Sizes}
use Rattle.pearl_check.specs.Sizes.{Declared, size_of, task_count, procedure_count, semaphore_count, slot_count}

abbrev pub added : Size → Sense → ℕ
added Tasks = task_count
added Procedures = procedure_count
added Semaphores = semaphore_count
added Slots = slot_count

abbrev pub limit : Size → ℕ
limit Tasks = TASKS_MAX
limit Procedures = PROCEDURES_MAX
limit Semaphores = SEMAPHORES_MAX
limit Slots = SLOTS_MAX

-- a size passes its limit between these counts
abbrev pub passes : Size → ℕ → ℕ → Bool
passes size before after = nat_le before (limit size) && nat_lt (limit size) after

-- a leaf of these has too long a name behind so many bytes
abbrev pub is_long : ℕ → Counts → Bool
is_long bytes counts = not (counts.leaves == 0) && nat_lt LEAF_NAME_MAX (bytes + counts.longest)

-- the tasks and procedures among these names, and the slots of the variables
abbrev pub sizes_in : List Declared → Sizes
sizes_in declared = record {
  tasks = size_of task_count declared;
  procedures = size_of procedure_count declared;
  slots = size_of slot_count declared;
}

abbrev pub cut_sizes : Sizes → Sizes
cut_sizes sizes = record { tasks = cut sizes.tasks; procedures = cut sizes.procedures; slots = cut sizes.slots }
