-- A task's own variables, frame by frame: a frame has the cells of one routine that was entered and not yet left.
use Rattle.std.specs.Prelude.{ℕ, ◌+◌, ◌==◌, if◌then◌else◌, List, [], ◌∷◌, ◌++◌, length, take, drop, Option, Some, None, option_and_then, slice_get, slice_set}
use Rattle.pearl_value.specs.declared.cell.Cell.{Cell}

-- the task's number, and its frames: that of the routine at work first, that of the task itself last
pub record Store : Type 0 where
  pub task : ℕ
  pub frames : List (List Cell)

-- the frame that has so many below it
abbrev pub frame_at : List (List Cell) → ℕ → Option (List Cell)
frame_at [] n = None
frame_at (frame ∷ lower) n = if n == length lower then Some frame else frame_at lower n

-- what a cell of a frame holds
abbrev pub cell_at : List (List Cell) → (frame cell : ℕ) → Option Cell
cell_at frames n cell = option_and_then (λ frame. slice_get frame cell) (frame_at frames n)

-- the frames in which that cell holds this
abbrev pub with_cell_at : List (List Cell) → (frame cell : ℕ) → Cell → List (List Cell)
with_cell_at [] n cell x = []
with_cell_at (frame ∷ lower) n cell x =
    if n == length lower then slice_set frame cell x ∷ lower else frame ∷ with_cell_at lower n cell x

-- the cells of the routine at work
abbrev pub top : List (List Cell) → List Cell
top [] = []
top (frame ∷ lower) = frame

-- how many frames lie below that of the routine at work
abbrev pub below : List (List Cell) → ℕ
below [] = 0
below (frame ∷ lower) = length lower

-- the frames in which a cell of the routine at work holds this
abbrev pub with_cell : List (List Cell) → ℕ → Cell → List (List Cell)
with_cell [] cell x = []
with_cell (frame ∷ lower) cell x = slice_set frame cell x ∷ lower

-- and those in which its cells from this one on hold these
abbrev pub with_cells : List (List Cell) → ℕ → List Cell → List (List Cell)
with_cells [] cell xs = []
with_cells (frame ∷ lower) cell xs = (take cell frame ++ xs ++ drop (cell + length xs) frame) ∷ lower
