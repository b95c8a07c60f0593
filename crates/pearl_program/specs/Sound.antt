-- Which programs are sound: every number names a thing of the needed sort, every value suits, hidden cells serve nothing
-- else, no procedure calls its own or a greater number, and every size is in its range.
use Rattle.std.specs.Prelude.{ℕ, ◌+◌, ◌<◌, ◌≤◌, false, nat_eq, List, [], ◌∷◌, length, map, take, drop, Option, Some, None}
use Rattle.std.specs.List.{AllByRecursion, IsDistinct, sum_by}
use Rattle.pearl_value.specs.declared.kind.Kind.{Kind}
use Rattle.pearl_value.specs.declared.kind.CellKind.{CellKind}
use Rattle.pearl_value.specs.declared.kind.CellKind.TheVariants.{Plain, RefTo}
use Rattle.pearl_value.specs.Kinds.{IsKind}
use Rattle.pearl_value.specs.WellFormed.{IsLetter}
use Rattle.pearl_value.specs.Counts.{IsPreset}
use Rattle.pearl_value.specs.Devices.{IsDevice, AreRising}
use Rattle.pearl_format.specs.Items.{IsFormat}
use Rattle.pearl_tree.specs.Tokens.{IsId}
use Rattle.pearl_program.specs.PlainPrograms.{PlainLeaf, PlainRoutine, PlainProcedure, PlainTask, PlainProg}
use Rattle.pearl_program.specs.Typing.{Signature, Around}
use Rattle.pearl_program.specs.SoundStatements.{IsIf, AreFirst, AreStmts}
use Rattle.pearl_program.specs.HiddenCells.{hidden_in_all}
use Rattle.pearl_program.specs.Weights.{calls, greatest_of_all, weight, weights_of}

-- a leaf's name has from 1 to 1,024 bytes from 32 to 126
pub record IsLeaf (leaf : PlainLeaf) : Type 0 where
  pub named : (0 < length leaf.name) × (length leaf.name ≤ 1024)
  pub spelled : AllByRecursion IsLetter leaf.name
  pub values : AreFirst leaf.values

abbrev pub IsCellKind : CellKind → Type 0
IsCellKind (Plain kind) = IsKind kind
IsCellKind (RefTo kind) = IsKind kind

-- a cell for a value
abbrev pub IsPlain : CellKind → Type 0
IsPlain (Plain kind) = IsKind kind
IsPlain (RefTo kind) = ⊥

abbrev pub signature_of : PlainProcedure → Signature
signature_of procedure =
    record { params = take procedure.params procedure.routine.cells; result = procedure.result }

-- what stands around a routine's statements
abbrev pub around_of : PlainProg → PlainRoutine → Option (Option Kind) → Around
around_of p routine returns = record {
  leaves = p.leaves;
  semaphores = length p.semaphores;
  devices = p.devices;
  formats = p.formats;
  tasks = length p.tasks;
  procedures = map signature_of p.procedures;
  cells = routine.cells;
  hidden = hidden_in_all routine.body;
  controls = [];
  returns = returns;
  in_loop = false;
}

-- a routine with so many parameters. A cell that is none is no reference. No hidden cell is a parameter, or two at once
pub record IsRoutine (p : PlainProg) (count : ℕ) (returns : Option (Option Kind)) (routine : PlainRoutine) : Type 0 where
  pub params : AllByRecursion IsCellKind (take count routine.cells)
  pub others : AllByRecursion IsPlain (drop count routine.cells)
  pub behind : AllByRecursion (λ cell. count ≤ cell) (hidden_in_all routine.body)
  pub apart : IsDistinct nat_eq (hidden_in_all routine.body)
  pub body : AreStmts (around_of p routine returns) routine.body

pub record IsProcedure (p : PlainProg) (procedure : PlainProcedure) : Type 0 where
  pub few : procedure.params ≤ length procedure.routine.cells
  pub result : IsIf IsKind procedure.result
  pub routine : IsRoutine p procedure.params (Some procedure.result) procedure.routine

-- where the first of these has this number
abbrev pub CallSmaller : ℕ → List PlainProcedure → Type 0
CallSmaller number [] = Unit {0}
CallSmaller number (procedure ∷ rest) =
    (greatest_of_all calls procedure.routine.body ≤ number) × CallSmaller (number + 1) rest

-- its name is an identifier of the source
pub record IsTask (p : PlainProg) (task : PlainTask) : Type 0 where
  pub named : IsId task.name
  pub urgent : (0 < task.priority) × (task.priority ≤ 255)
  pub routine : IsRoutine p 0 None task.routine

-- at most 200 tasks, 200 procedures, 1,000 semaphores, 65,536 slots and 396 devices, and weights of at most 4,096
pub record HasSizes (p : PlainProg) : Type 0 where
  pub tasks : length p.tasks ≤ 200
  pub procedures : length p.procedures ≤ 200
  pub semaphores : length p.semaphores ≤ 1000
  pub slots : sum_by (λ (leaf : PlainLeaf). leaf.values.count) p.leaves ≤ 65536
  pub devices : length p.devices ≤ 396
  pub weights : AllByRecursion (λ weight. weight ≤ 4096) (weights_of p.procedures)
  pub task_weights : AllByRecursion (λ (task : PlainTask). weight (weights_of p.procedures) task.routine ≤ 4096) p.tasks

pub record IsSound (p : PlainProg) : Type 0 where
  pub leaves : AllByRecursion IsLeaf p.leaves
  pub semaphores : AllByRecursion IsPreset p.semaphores
  pub devices : AllByRecursion IsDevice p.devices
  pub rising : AreRising p.devices
  pub formats : AllByRecursion IsFormat p.formats
  pub procedures : AllByRecursion (IsProcedure p) p.procedures
  pub order : CallSmaller 0 p.procedures
  pub tasks : AllByRecursion (IsTask p) p.tasks
  pub sizes : HasSizes p
