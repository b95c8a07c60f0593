-- How a stack is read and filled, frame by frame.
use Rattle.std.specs.Prelude.{ℕ, ◌<◌, ◌^◌, List, [], ◌∷◌, Option, Some, None, length, reverse}
use Rattle.std.specs.List.{AllByRecursion}
use Rattle.pearl_value.specs.declared.cell.Cell.{Cell}
use Rattle.pearl_stack.specs.Frames.{Frame}
use Rattle.pearl_saved.specs.declared.saved.Target.{Target}
use Rattle.pearl_saved.specs.declared.saved.Target.TheVariants.{Slot, Own}
use Rattle.pearl_saved.specs.declared.saved.SavedCell.{SavedCell}
use Rattle.pearl_saved.specs.declared.saved.SavedCell.TheVariants.{Value, Variable, Array}
use Rattle.pearl_saved.specs.declared.saved.FrameRecord.{FrameRecord}

-- the cells of a frame, and its operands, the one that was pushed first standing first
abbrev pub cells_in : Option Frame → List Cell
cells_in None = []
cells_in (Some f) = f.cells

abbrev pub operands_in : Option Frame → List Cell
operands_in None = []
operands_in (Some f) = reverse f.operands

abbrev pub top_cells : List Frame → List Cell
top_cells [] = []
top_cells (f ∷ lower) = f.cells

-- the stack whose top frame has these cells
abbrev pub with_cells : List Cell → List Frame → List Frame
with_cells xs [] = []
with_cells xs (f ∷ lower) = record f { cells = xs } ∷ lower

-- numbers that a reference of a stack has room for
abbrev pub IsSmallTarget : Target → Type 0
IsSmallTarget (Slot slot) = slot < 2 ^ 32
IsSmallTarget (Own frame cell) = (frame < 2 ^ 32) × (cell < 2 ^ 32)

abbrev pub IsSmallCell : SavedCell → Type 0
IsSmallCell (Value x) = Unit {0}
IsSmallCell (Variable reference) = IsSmallTarget reference.target
IsSmallCell (Array array) = Unit {0}

-- a frame's numbers too
pub record IsSmallFrame (f : FrameRecord) : Type 0 where
  pub routine : f.routine < 2 ^ 32
  pub few : length f.cells < 2 ^ 32
  pub cells : AllByRecursion IsSmallCell f.cells
  pub operands : AllByRecursion IsSmallCell f.operands
