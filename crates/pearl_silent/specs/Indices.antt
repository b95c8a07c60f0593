-- The offset of an element, by values as subscripts.
use Rattle.std.specs.Prelude.{ℕ, ℤ, ◌-ℤ◌, int_le, unsigned_abs, ◌&&◌, if◌then◌else◌, List, take, reverse, Option, Some, None, option_and_then}
use Rattle.pearl_value.specs.declared.cell.Cell.{Cell}
use Rattle.pearl_stack.specs.Frames.{Frame, top_operands}
use Rattle.pearl_instructions.specs.declared.instr.Bounds.{Bounds}
use Rattle.pearl_instructions.specs.Operators.{number_of, numbers_of, offset_of}

-- how far a subscript is above the lower bound, where it is within the bounds
abbrev pub distance_of : Bounds → ℤ → Option ℕ
distance_of b n = if int_le b.low n && int_le n b.high then Some (unsigned_abs (n -ℤ b.low)) else None

abbrev pub distance_at : Bounds → Cell → Option ℕ
distance_at b x = option_and_then (distance_of b) (number_of x)

-- the offset of an element, of whose dimensions these are left; none where a value is no number, or is outside its bounds
abbrev pub offset_among : ℤ → List Bounds → List Cell → Option ℤ
offset_among so_far bounds values = option_and_then (offset_of so_far bounds) (numbers_of values)

-- the top n operands in the order in which they were pushed
abbrev pub top_in_order : ℕ → List Frame → List Cell
top_in_order n frames = reverse (take n (top_operands frames))
