-- What a program says, apart from where its parts lie in memory. Two programs say the same where these are equal.
use Rattle.std.specs.Prelude.{ℕ, Bool, List, map, Option}
use Rattle.pearl_value.specs.declared.kind.Kind.{Kind}
use Rattle.pearl_value.specs.declared.kind.CellKind.{CellKind}
use Rattle.pearl_format.specs.declared.item.Item.{Item}
use Rattle.pearl_program.specs.declared.table.Leaf.{Leaf}
use Rattle.pearl_value.specs.declared.device.Device.{Device}
use Rattle.pearl_program.specs.declared.program.Routine.{Routine}
use Rattle.pearl_program.specs.declared.program.Procedure.{Procedure}
use Rattle.pearl_program.specs.declared.program.Task.{Task}
use Rattle.pearl_program.specs.declared.program.Program.{Program}
use Rattle.pearl_program.specs.PlainStatements.{PlainValues, plain_values, PlainStmts, plain_stmts}

pub record PlainLeaf : Type 0 where
  pub name : List ℕ
  pub values : PlainValues

abbrev pub plain_leaf : Leaf → PlainLeaf
plain_leaf leaf = record { name = leaf.name; values = plain_values leaf.values }

pub record PlainRoutine : Type 0 where
  pub cells : List CellKind
  pub body : PlainStmts

abbrev pub plain_routine : Routine → PlainRoutine
plain_routine routine = record { cells = routine.cells; body = plain_stmts routine.body.items }

pub record PlainProcedure : Type 0 where
  pub params : ℕ
  pub result : Option Kind
  pub routine : PlainRoutine

abbrev pub plain_procedure : Procedure → PlainProcedure
plain_procedure procedure =
    record { params = procedure.params; result = procedure.result; routine = plain_routine procedure.routine }

pub record PlainTask : Type 0 where
  pub name : List ℕ
  pub priority : ℕ
  pub main : Bool
  pub routine : PlainRoutine

abbrev pub plain_task : Task → PlainTask
plain_task task =
    record { name = task.name.items; priority = task.priority; main = task.main; routine = plain_routine task.routine }

pub record PlainProg : Type 0 where
  pub leaves : List PlainLeaf
  pub semaphores : List ℕ
  pub devices : List Device
  pub formats : List (List Item)
  pub procedures : List PlainProcedure
  pub tasks : List PlainTask

abbrev pub plain_prog : Program → PlainProg
plain_prog p = record {
  leaves = map plain_leaf p.leaves;
  semaphores = p.semaphores;
  devices = p.devices;
  formats = p.formats;
  procedures = map plain_procedure p.procedures;
  tasks = map plain_task p.tasks;
}
