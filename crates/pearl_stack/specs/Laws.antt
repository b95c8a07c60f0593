-- What the calls on a stack mean to one another, whatever the stack is.
use Rattle.std.specs.Prelude.{◌≡◌, ◌≢◌, ◌↔◌, ℕ, ◌+◌, ◌-◌, ◌<◌, ◌≤◌, cond, eqb, List, [], ◌∷◌, ◌++◌, Some, IsSome, length, option_map, replicate, slice_get, slice_set}
use Rattle.pearl_value.specs.declared.cell.Cell.{Cell}
use Rattle.pearl_stack.specs.declared.stack.Frame as size
use Rattle.pearl_stack.specs.Frames.{Frame, frame_at, cell_at, operand_at, sizes, top_operands, used, unset, pushed, popped, moved, with_cell, entered}

-- the numbers of frames are those below how many there are
abbrev pub NumbersFrames : Type 0
NumbersFrames = (frames : List Frame) (n : ℕ) → IsSome (frame_at frames n) ↔ (n < length frames)

-- and so it is with the cells and operands of each
pub record NumbersOf (frames : List Frame) (n i : ℕ) (size : size.Frame) : Type 0 where
  pub cells : IsSome (cell_at frames n i) ↔ (i < size.cells)
  pub operands : IsSome (operand_at frames n i) ↔ (i < size.operands)

abbrev pub NumbersValues : Type 0
NumbersValues = (frames : List Frame) (n i : ℕ) (size : size.Frame) → option_map sizes (frame_at frames n) ≡ Some size → NumbersOf frames n i size

-- the operand with n above it, by its number
abbrev pub ReadsFromTheTop : Type 0
ReadsFromTheTop = (f : Frame) (below : List Frame) (n : ℕ) → n < length f.operands →
    operand_at (f ∷ below) (length below) (length f.operands - 1 - n) ≡ slice_get f.operands n

-- what was pushed is on top, and popping it leaves the stack as it was
abbrev pub PopsThePushed : Type 0
PopsThePushed = (x : Cell) (frames : List Frame) → frames ≢ [] →
    (slice_get (top_operands (pushed x frames)) 0 ≡ Some x) × (popped (pushed x frames) ≡ frames)

-- the stack with these operands pushed one after the other
abbrev pub all_pushed : List Cell → List Frame → List Frame
all_pushed [] frames = frames
all_pushed (x ∷ xs) frames = all_pushed xs (pushed x frames)

-- arguments that are pushed one after the other are in this order the first cells of the routine that takes them, and below it the
-- stack is as it was before
abbrev pub PassesArguments : Type 0
PassesArguments = (xs : List Cell) (routine cells : ℕ) (frames : List Frame) → frames ≢ [] →
    entered routine (length xs) cells (all_pushed xs frames)
    ≡ record { routine = routine; place = 0; cells = xs ++ replicate (cells - length xs) unset; operands = [] } ∷ frames

-- where cell c of frame n is written, that frame has what was written there, and each frame is as it was else
abbrev pub WritesOneCell : Type 0
WritesOneCell = (frames : List Frame) (n c : ℕ) (x : Cell) (m : ℕ) →
    frame_at (with_cell frames n c x) m ≡ option_map (λ f. cond (eqb n m) (record f { cells = slice_set f.cells c x }) f) (frame_at frames m)

-- how many cells and operands there are after each call
pub record CountsValues : Type 0 where
  pub by_push : (x : Cell) (frames : List Frame) → frames ≢ [] → used (pushed x frames) ≡ used frames + 1
  pub by_pop : (frames : List Frame) → top_operands frames ≢ [] → used (popped frames) + 1 ≡ used frames
  pub by_go : (place : ℕ) (frames : List Frame) → used (moved place frames) ≡ used frames
  pub by_set_cell : (frames : List Frame) (n c : ℕ) (x : Cell) → used (with_cell frames n c x) ≡ used frames
  pub by_enter : (routine params cells : ℕ) (frames : List Frame) → params ≤ length (top_operands frames) → params ≤ cells →
      used (entered routine params cells frames) ≡ used frames + (cells - params)
