-- What a task's stack is, and what each call makes of it. A stack is a list of frames, and a frame has operands; both stand from
-- the top down. They are numbered from the bottom up: frame 0 is the lowest one, operand 0 the one that was pushed first.
use Rattle.std.specs.Prelude.{ℕ, ◌+◌, ◌-◌, cond, eqb, pos, List, [], ◌∷◌, ◌++◌, Option, Some, None, length, take, drop, reverse, replicate, slice_get, slice_set, option_and_then}
use Rattle.pearl_value.specs.declared.cell.Cell.{Cell}
use Rattle.pearl_value.specs.declared.cell.Cell.TheVariants.{Fixed}
use Rattle.pearl_stack.specs.declared.stack.Frame as size

-- a call of a routine: the number of its instruction, its cells, and its operands, the top one first
pub record Frame : Type 0 where
  pub routine : ℕ
  pub place : ℕ
  pub cells : List Cell
  pub operands : List Cell

-- the frames, the top one first; for how many cells and operands together there is memory, and for how many frames
pub record Stack : Type 0 where
  pub frames : List Frame
  pub room : ℕ
  pub most : ℕ

-- the frame that has n frames below it
abbrev pub frame_at : List Frame → ℕ → Option Frame
frame_at [] n = None
frame_at (f ∷ below) n = cond (eqb n (length below)) (Some f) (frame_at below n)

abbrev pub cell_at : List Frame → ℕ → ℕ → Option Cell
cell_at frames n c = option_and_then (λ f. slice_get f.cells c) (frame_at frames n)

abbrev pub operand_at : List Frame → ℕ → ℕ → Option Cell
operand_at frames n at = option_and_then (λ f. slice_get (reverse f.operands) at) (frame_at frames n)

-- what is told of a frame: its place, and how many cells and operands it has
abbrev pub sizes : Frame → size.Frame
sizes f = record { routine = f.routine; instruction = f.place; cells = length f.cells; operands = length f.operands }

abbrev pub top_operands : List Frame → List Cell
top_operands [] = []
top_operands (f ∷ below) = f.operands

-- the number of the top frame's instruction
abbrev pub place_of : List Frame → ℕ
place_of [] = 0
place_of (f ∷ below) = f.place

-- how many cells and operands there are
abbrev pub used : List Frame → ℕ
used [] = 0
used (f ∷ below) = length f.cells + length f.operands + used below

-- the stack with an operand more on its top frame
abbrev pub pushed : Cell → List Frame → List Frame
pushed x [] = []
pushed x (f ∷ below) = record f { operands = x ∷ f.operands } ∷ below

-- the stack without the top n operands of its top frame
abbrev pub without : ℕ → List Frame → List Frame
without n [] = []
without n (f ∷ below) = record f { operands = drop n f.operands } ∷ below

abbrev pub popped : List Frame → List Frame
popped frames = without 1 frames

-- the stack whose top frame is at this instruction
abbrev pub moved : ℕ → List Frame → List Frame
moved place [] = []
moved place (f ∷ below) = record f { place = place } ∷ below

-- the stack in which cell c of frame n is x
abbrev pub with_cell : List Frame → ℕ → ℕ → Cell → List Frame
with_cell [] n c x = []
with_cell (f ∷ below) n c x = cond (eqb n (length below)) (record f { cells = slice_set f.cells c x } ∷ below) (f ∷ with_cell below n c x)

-- what a cell holds before it is written: FIXED(31) 0
abbrev pub unset : Cell
unset = Fixed 31 (pos 0)

-- a called routine's frame on its caller: its first cells are the caller's top operands in the order in which they were pushed,
-- which the caller no longer has
abbrev pub entered : ℕ → ℕ → ℕ → List Frame → List Frame
entered routine params cells frames =
    record {
      routine = routine;
      place = 0;
      cells = reverse (take params (top_operands frames)) ++ replicate (cells - params) unset;
      operands = [];
    } ∷ without params frames
