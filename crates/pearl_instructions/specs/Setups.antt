-- The tables from which an object's run starts.
use Rattle.std.specs.Prelude.{◌-◌, List, ◌++◌, length, map, replicate}
use Rattle.std.specs.List.{flat_map}
use Rattle.pearl_value.specs.declared.cell.Cell.{Cell}
use Rattle.pearl_value.specs.Blanks.{blank_of, last_or}
use Rattle.pearl_rules.specs.declared.setup.TaskEntry.{TaskEntry}
use Rattle.pearl_rules.specs.declared.setup.Setup.{Setup}
use Rattle.pearl_instructions.specs.declared.object.Leaf.{Leaf}
use Rattle.pearl_instructions.specs.declared.object.Task.{Task}
use Rattle.pearl_instructions.specs.declared.object.Parts.{Parts as Object}

abbrev pub entry_of : Task → TaskEntry
entry_of task = record { name = task.name; priority = task.priority; main = task.main }

-- what the slots of a leaf hold at first: the constants in order, and the last of them in all that are left; without constants they
-- are unset
abbrev pub first_cells : Leaf → List Cell
first_cells leaf = leaf.constants ++ replicate (leaf.slots - length leaf.constants) (last_or (blank_of leaf.kind) leaf.constants)

abbrev pub setup_of : Object → Setup
setup_of o = record {
  tasks = map entry_of o.tasks;
  slots = flat_map first_cells o.leaves;
  semaphores = o.semaphores;
  devices = o.devices;
  formats = o.formats;
}
