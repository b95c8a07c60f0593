-- The tables from which a program's run starts, and how it runs over a journal's entries.
use Rattle.std.specs.Prelude.{ℕ, List, map}
use Rattle.std.specs.List.{flat_map}
use Rattle.pearl_value.specs.declared.cell.Cell.{Cell}
use Rattle.pearl_rules.specs.declared.entry.Entry.{Entry}
use Rattle.pearl_rules.specs.declared.setup.TaskEntry.{TaskEntry}
use Rattle.pearl_rules.specs.declared.setup.Setup.{Setup}
use Rattle.pearl_rules.specs.Runs as runs
use Rattle.pearl_rules.specs.Runs.{Source}
use Rattle.pearl_program.specs.FirstCells.{first_cells}
use Rattle.pearl_program.specs.PlainPrograms.{PlainLeaf, PlainTask, PlainProg}
use Rattle.pearl_meaning.specs.Programs.{offer}

abbrev pub entry_of : PlainTask → TaskEntry
entry_of task = record { name = record { items = task.name }; priority = task.priority; main = task.main }

-- the slots of a leaf hold at first what INIT says
abbrev pub slots_of : PlainLeaf → List Cell
slots_of leaf = first_cells leaf.values

abbrev pub setup_of : PlainProg → Setup
setup_of p = record {
  tasks = map entry_of p.tasks;
  slots = flat_map slots_of p.leaves;
  semaphores = p.semaphores;
  devices = p.devices;
  formats = p.formats;
}

-- the state of the program's run over these entries after so many marks
abbrev pub source_run : PlainProg → List Entry → ℕ → Source
source_run p entries m = runs.source_run (offer p) (setup_of p) entries m
