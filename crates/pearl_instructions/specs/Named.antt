-- Which numbers an instruction may name (V1), and which cells it names.
use Rattle.std.specs.Prelude.{ℕ, ◌+◌, Bool, true, false, ◌&&◌, ◌||◌, nat_lt, nat_le, List, [], ◌∷◌, ◌++◌, Option, Some, None, is_some, length, take, drop, slice_get}
use Rattle.std.specs.List.{list_all}
use Rattle.pearl_value.specs.declared.kind.CellKind.{CellKind}
use Rattle.pearl_format.specs.declared.item.Item.{Item}
use Rattle.pearl_format.specs.Items.{data_count}
use Rattle.pearl_value.specs.declared.device.Device.{Device}
use Rattle.pearl_value.specs.declared.device.Device.TheVariants.{Interrupt, Terminal, Input, Output}
use Rattle.pearl_value.specs.declared.device.Direction.TheVariants as direction
use Rattle.pearl_instructions.specs.declared.schedule.StartForm.{StartForm}
use Rattle.pearl_instructions.specs.declared.schedule.StartForm.TheVariants as form
use Rattle.pearl_instructions.specs.declared.instr.Instr.{Instr}
use Rattle.pearl_instructions.specs.declared.object.Code.{Code}
use Rattle.pearl_instructions.specs.declared.object.Parts.{Parts as Object}
use Rattle.pearl_instructions.specs.Objects.{items_at}
use Rattle.pearl_instructions.specs.Opcodes.{Names, NoName, ALeaf, AProcedure, ASemaphore, Semaphores, ATask, ATaskWhen, AWhen, AnInterrupt, AWriter, AReader, AnInput, AnOutput, Cells, NoCells, AnyCell, OneCell, ManyCells, LoopCells, ReadCells, Targets, NoTarget, Target, AnyTarget, Opcode, opcode}

-- at least one cell from c on, and all of them the routine's
abbrev pub has_cells : Code → ℕ → ℕ → Bool
has_cells code c n = nat_lt 0 n && nat_le (c + n) (length code.cells)

abbrev pub is_interrupt : Option Device → Bool
is_interrupt (Some (Interrupt number)) = true
is_interrupt device = false

-- a terminal that takes texts, and one that gives them
abbrev pub takes_texts : Option Device → Bool
takes_texts (Some (Terminal number direction.In)) = false
takes_texts (Some (Terminal number direction.Out)) = true
takes_texts (Some (Terminal number direction.InOut)) = true
takes_texts device = false

abbrev pub gives_texts : Option Device → Bool
gives_texts (Some (Terminal number direction.In)) = true
gives_texts (Some (Terminal number direction.Out)) = false
gives_texts (Some (Terminal number direction.InOut)) = true
gives_texts device = false

abbrev pub is_input : Option Device → Bool
is_input (Some (Input number of)) = true
is_input device = false

abbrev pub is_output : Option Device → Bool
is_output (Some (Output number of)) = true
is_output device = false

-- a WHEN names an interrupt
abbrev pub names_interrupt : Object → StartForm → Bool
names_interrupt o form.Free = true
names_interrupt o form.At = true
names_interrupt o form.After = true
names_interrupt o (form.When device) = is_interrupt (slice_get o.devices device)
names_interrupt o (form.WhenAfter device) = is_interrupt (slice_get o.devices device)

-- GET has as many cells as its format has items with a value; where it has none, its first cell may be any number
abbrev pub has_read_cells : Code → ℕ → Option (List Item) → Bool
has_read_cells code c None = false
has_read_cells code c (Some items) = nat_le (data_count items) 0 || has_cells code c (data_count items)

-- whether there is what is named, of the right sort and direction
abbrev pub names_there : Object → Names → List Bool
names_there o NoName = []
names_there o (ALeaf v) = nat_lt v (length o.leaves) ∷ []
names_there o (AProcedure p) = nat_lt p (length o.procedures) ∷ []
names_there o (ASemaphore s) = nat_lt s (length o.semaphores) ∷ []
names_there o (Semaphores list) = list_all (λ s. nat_lt s (length o.semaphores)) list ∷ []
names_there o (ATask t) = nat_lt t (length o.tasks) ∷ []
names_there o (ATaskWhen t when) = nat_lt t (length o.tasks) ∷ names_interrupt o when ∷ []
names_there o (AWhen when) = names_interrupt o when ∷ []
names_there o (AnInterrupt d) = is_interrupt (slice_get o.devices d) ∷ []
names_there o (AWriter d format) = takes_texts (slice_get o.devices d) ∷ is_some (items_at o format) ∷ []
names_there o (AReader d) = gives_texts (slice_get o.devices d) ∷ []
names_there o (AnInput d) = is_input (slice_get o.devices d) ∷ []
names_there o (AnOutput d) = is_output (slice_get o.devices d) ∷ []

abbrev pub cells_there : Object → Code → Cells → List Bool
cells_there o code NoCells = []
cells_there o code (AnyCell c) = nat_lt c (length code.cells) ∷ []
cells_there o code (OneCell c) = nat_lt c (length code.cells) ∷ []
cells_there o code (ManyCells c n) = has_cells code c n ∷ []
cells_there o code (LoopCells c) = has_cells code c 3 ∷ []
cells_there o code (ReadCells c format) = has_read_cells code c (items_at o format) ∷ []

abbrev pub targets_there : Code → Targets → List Bool
targets_there code NoTarget = []
targets_there code (Target i) = nat_lt i (length code.instructions) ∷ []
targets_there code (AnyTarget list) = list_all (λ i. nat_lt i (length code.instructions)) list ∷ []

abbrev pub all_kept : List Bool → Bool
all_kept [] = true
all_kept (test ∷ []) = test
all_kept (test ∷ other ∷ more) = test && all_kept (other ∷ more)

abbrev pub all_there : Object → Code → Opcode → Bool
all_there o code row =
    all_kept (names_there o row.names ++ cells_there o code row.cells ++ targets_there code row.targets)

-- V1: each number names something, a device of the right sort and direction, and each range some of the routine's cells
abbrev pub v1 : Object → Code → Instr → Bool
v1 o code instr = all_there o code (opcode instr)

abbrev pub cells_at : Code → ℕ → ℕ → List CellKind
cells_at code c n = take n (drop c code.cells)

abbrev pub read_cells : Code → ℕ → Option (List Item) → List CellKind
read_cells code c None = []
read_cells code c (Some items) = cells_at code c (data_count items)

abbrev pub cells_read : Object → Code → Cells → List CellKind
cells_read o code NoCells = []
cells_read o code (AnyCell c) = []
cells_read o code (OneCell c) = []
cells_read o code (ManyCells c n) = []
cells_read o code (LoopCells c) = []
cells_read o code (ReadCells c format) = read_cells code c (items_at o format)

-- the cells that GET reads into
abbrev pub get_cells : Object → Code → Instr → List CellKind
get_cells o code instr = cells_read o code (opcode instr).cells

abbrev pub range_in : Code → Cells → List CellKind
range_in code NoCells = []
range_in code (AnyCell c) = []
range_in code (OneCell c) = cells_at code c 1
range_in code (ManyCells c n) = cells_at code c n
range_in code (LoopCells c) = cells_at code c 3
range_in code (ReadCells c format) = []

-- the range of cells that any other instruction names, where they must not be references
abbrev pub range_of : Code → Instr → List CellKind
range_of code instr = range_in code (opcode instr).cells
