-- How the frames of a stack lie in memory. The values of all frames lie one behind the other, those of the lowest frame first:
-- of each frame its cells, and behind them its operands, the top one last.
use Rattle.std.specs.Prelude.{◌≡◌, ℕ, ◌+◌, ◌≤◌, List, [], ◌∷◌, Option, Some, None, take, drop, reverse}
use Rattle.pearl_value.specs.declared.cell.Cell.{Cell}
use Rattle.pearl_stack.specs.declared.stack.Head.{Head}
use Rattle.pearl_stack.specs.Frames.{Frame}

abbrev pub frame_of : Head → List Cell → Frame
frame_of h values = record { routine = h.routine; place = h.instruction; cells = take h.cells values; operands = reverse (drop h.cells values) }

-- the frames from the top down, of heads from the top down
abbrev pub frames_of : List Head → List Cell → List Frame
frames_of [] values = []
frames_of (h ∷ heads) values = frame_of h (drop h.first values) ∷ frames_of heads (take h.first values)

-- so many values are what these heads divide
abbrev pub Divides : List Head → ℕ → Type 0
Divides [] n = n ≡ 0
Divides (h ∷ heads) n = (h.first + h.cells ≤ n) × Divides heads h.first

-- where a frame's values begin; where there is none, the end of all values
abbrev pub first_or : ℕ → Option Head → ℕ
first_or end None = end
first_or end (Some h) = h.first
