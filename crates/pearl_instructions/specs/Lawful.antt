-- What is asked of each object, before any rule of the validator: lengths, counts, kinds, names and numbers.
use Rattle.std.specs.Prelude.{ℕ, ◌^◌, ◌<◌, ◌≤◌, List, [], ◌∷◌, IfSome, length, drop, sum_by}
use Rattle.std.specs.List.{AllByRecursion}
use Rattle.pearl_value.specs.declared.kind.CellKind.{CellKind}
use Rattle.pearl_value.specs.declared.kind.CellKind.TheVariants.{Plain, RefTo}
use Rattle.pearl_value.specs.Kinds.{IsKind}
use Rattle.pearl_value.specs.WellFormed.{IsValue, IsValueOf, IsLetter}
use Rattle.pearl_format.specs.Items.{IsFormat}
use Rattle.pearl_value.specs.Devices.{IsDevice}
use Rattle.pearl_value.specs.Devices as device_list
use Rattle.pearl_tree.specs.Tokens.{IsId}
use Rattle.pearl_instructions.specs.declared.instr.Instr.{Instr}
use Rattle.pearl_instructions.specs.declared.object.Leaf.{Leaf}
use Rattle.pearl_instructions.specs.declared.object.Shape.{Shape as Stated}
use Rattle.pearl_instructions.specs.declared.object.Code.{Code}
use Rattle.pearl_instructions.specs.declared.object.Procedure.{Procedure}
use Rattle.pearl_instructions.specs.declared.object.Task.{Task}
use Rattle.pearl_instructions.specs.declared.object.Parts.{Parts as Object}
use Rattle.pearl_instructions.specs.Opcodes.{Held, NothingHeld, Literal, OfKind, opcode}

abbrev pub IsCellKind : CellKind → Type 0
IsCellKind (Plain of) = IsKind of
IsCellKind (RefTo of) = IsKind of

abbrev pub IsPlain : CellKind → Type 0
IsPlain (Plain of) = Unit {0}
IsPlain (RefTo of) = ⊥

-- a leaf has 1 to 65,536 slots, no more constants than slots, and a printable name of at most 1,024 bytes
pub record IsLeaf (leaf : Leaf) : Type 0 where
  pub named : AllByRecursion IsLetter leaf.name
  pub short : length leaf.name ≤ 1024
  pub kind : IsKind leaf.kind
  pub some : (0 < leaf.slots) × (leaf.slots ≤ 65536)
  pub constants : AllByRecursion (IsValueOf leaf.kind) leaf.constants
  pub few : length leaf.constants ≤ leaf.slots

abbrev pub IsHeld : Held → Type 0
IsHeld NothingHeld = Unit {0}
IsHeld (Literal x) = IsValue x
IsHeld (OfKind of) = IsKind of

-- literals are values, and kinds are kinds
abbrev pub IsInstr : Instr → Type 0
IsInstr instr = IsHeld (opcode instr).holds

-- the numbers of the instructions whose shape is stated rise
abbrev pub AreRising : List Stated → Type 0
AreRising [] = Unit {0}
AreRising (s ∷ []) = Unit {0}
AreRising (s ∷ t ∷ more) = (s.instruction < t.instruction) × AreRising (t ∷ more)

pub record IsCode (params : ℕ) (code : Code) : Type 0 where
  pub kinds : AllByRecursion IsCellKind code.cells
  pub plain : AllByRecursion IsPlain (drop params code.cells)
  pub few : params ≤ length code.cells
  pub instructions : AllByRecursion IsInstr code.instructions
  pub shapes : AllByRecursion (λ s. AllByRecursion IsCellKind s.kinds) code.shapes
  pub rising : AreRising code.shapes

pub record IsProcedure (p : Procedure) : Type 0 where
  pub code : IsCode p.params p.code
  pub result : IfSome p.result IsKind

-- its name is an identifier, so none of the language's words
pub record IsTask (t : Task) : Type 0 where
  pub code : IsCode 0 t.code
  pub named : IsId t.name.items
  pub urgent : (0 < t.priority) × (t.priority ≤ 255)

-- at most 200 procedures and tasks each, 1,000 semaphores, 396 devices and 65,536 slots; a format has a number of 32 bits, and the
-- devices rise by sort and number, so none stands twice
pub record IsObject (o : Object) : Type 0 where
  pub devices : AllByRecursion IsDevice o.devices
  pub rising : device_list.AreRising o.devices
  pub leaves : AllByRecursion IsLeaf o.leaves
  pub formats : AllByRecursion IsFormat o.formats
  pub procedures : AllByRecursion IsProcedure o.procedures
  pub tasks : AllByRecursion IsTask o.tasks
  pub semaphores : AllByRecursion (λ count. count < 2 ^ 31) o.semaphores
  pub few_formats : length o.formats < 2 ^ 32
  pub few_slots : sum_by (λ leaf. leaf.slots) o.leaves ≤ 65536
  pub few_procedures : length o.procedures ≤ 200
  pub few_tasks : length o.tasks ≤ 200
  pub few_semaphores : length o.semaphores ≤ 1000
  pub few_devices : length o.devices ≤ 396
