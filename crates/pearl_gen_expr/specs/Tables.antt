-- When an object has the tables of a program: all that is no code.
use Rattle.std.specs.Prelude.{◌≡◌, ℕ, List, map, Option}
use Rattle.pearl_value.specs.declared.kind.Kind.{Kind}
use Rattle.pearl_value.specs.declared.kind.CellKind.{CellKind}
use Rattle.pearl_rules.specs.declared.setup.TaskEntry.{TaskEntry}
use Rattle.pearl_program.specs.PlainPrograms.{PlainLeaf, PlainProcedure, PlainTask, PlainProg}
use Rattle.pearl_meaning.specs.ProgramRuns.{entry_of}
use Rattle.pearl_instructions.specs.declared.object.Leaf.{Leaf}
use Rattle.pearl_instructions.specs.declared.object.Procedure.{Procedure}
use Rattle.pearl_instructions.specs.declared.object.Task.{Task}
use Rattle.pearl_instructions.specs.declared.object.Parts.{Parts as Object}

-- a leaf of an object as one of a program
abbrev pub plain_leaf : Leaf → PlainLeaf
plain_leaf leaf = record { name = leaf.name; values = record { kind = leaf.kind; count = leaf.slots; constants = leaf.constants } }

-- a procedure without what it does
pub record Head : Type 0 where
  pub params : ℕ
  pub result : Option Kind
  pub cells : List CellKind

abbrev pub head_of : PlainProcedure → Head
head_of procedure = record { params = procedure.params; result = procedure.result; cells = procedure.routine.cells }

abbrev pub code_head : Procedure → Head
code_head procedure = record { params = procedure.params; result = procedure.result; cells = procedure.code.cells }

abbrev pub code_entry : Task → TaskEntry
code_entry task = record { name = task.name; priority = task.priority; main = task.main }

pub record HasTables (p : PlainProg) (o : Object) : Type 0 where
  pub leaves : map plain_leaf o.leaves ≡ p.leaves
  pub semaphores : o.semaphores ≡ p.semaphores
  pub devices : o.devices ≡ p.devices
  pub formats : o.formats ≡ p.formats
  pub procedures : map code_head o.procedures ≡ map head_of p.procedures
  pub tasks : map code_entry o.tasks ≡ map entry_of p.tasks
  pub task_cells : map (λ (task : Task). task.code.cells) o.tasks ≡ map (λ (task : PlainTask). task.routine.cells) p.tasks
