-- What is recorded of a stack, and the stack of a record. A stack's frames and operands stand from the top down, a record's from the
-- bottom up.
use Rattle.std.specs.Prelude.{List, map, reverse}
use Rattle.pearl_value.specs.declared.cell.Cell.{Cell}
use Rattle.pearl_value.specs.declared.cell.Cell.TheVariants.{Ref}
use Rattle.pearl_value.specs.declared.cell.Place.{Place}
use Rattle.pearl_value.specs.declared.cell.Place.TheVariants as place
use Rattle.pearl_stack.specs.Frames.{Frame, unset}
use Rattle.pearl_saved.specs.declared.saved.Target.{Target}
use Rattle.pearl_saved.specs.declared.saved.Target.TheVariants.{Slot, Own}
use Rattle.pearl_saved.specs.declared.saved.SavedCell.{SavedCell}
use Rattle.pearl_saved.specs.declared.saved.SavedCell.TheVariants.{Value, Variable, Array}
use Rattle.pearl_saved.specs.declared.saved.FrameRecord.{FrameRecord}

-- ---- what is recorded

abbrev pub target_of : Place → Target
target_of (place.Slot slot) = Slot slot
target_of (place.Cell frame cell) = Own frame cell

abbrev pub cell_record : Cell → SavedCell
cell_record (Ref kind at) = Variable (record { kind = kind; target = target_of at })
cell_record x = Value x

abbrev pub frame_record : Frame → FrameRecord
frame_record f = record {
  routine = f.routine;
  place = f.place;
  cells = map cell_record f.cells;
  operands = map cell_record (reverse f.operands);
}

-- the frames of a stack, the lowest first
abbrev pub stack_record : List Frame → List FrameRecord
stack_record frames = map frame_record (reverse frames)

-- ---- what a record is of

abbrev pub place_of : Target → Place
place_of (Slot slot) = place.Slot slot
place_of (Own frame cell) = place.Cell frame cell

-- no cell of a stack is an array; in place of one stands what is unset
abbrev pub cell_made : SavedCell → Cell
cell_made (Value x) = x
cell_made (Variable reference) = Ref reference.kind (place_of reference.target)
cell_made (Array array) = unset

abbrev pub frame_made : FrameRecord → Frame
frame_made f = record {
  routine = f.routine;
  place = f.place;
  cells = map cell_made f.cells;
  operands = map cell_made (reverse f.operands);
}

-- the stack of these frames, of which the lowest comes first
abbrev pub frames_made : List FrameRecord → List Frame
frames_made frames = map frame_made (reverse frames)
