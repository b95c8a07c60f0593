-- Which cells of the top frame hold numbers.
use Rattle.std.specs.Prelude.{ℕ, ◌+◌, ℤ, Bool, false, List, Option, IsSome, option_and_then, slice_get}
use Rattle.pearl_value.specs.declared.cell.Cell.{Cell}
use Rattle.pearl_value.specs.declared.cell.Cell.TheVariants.{Fixed}
use Rattle.pearl_stack.specs.Frames.{Frame}
use Rattle.pearl_instructions.specs.Flow.{is_past}
use Rattle.pearl_instructions.specs.Operators.{number_of}
use Rattle.pearl_silent.specs.Steps.{top_cells}

-- the number that cell c of the top frame holds
abbrev pub number_at : ℕ → List Frame → Option ℤ
number_at c frames = option_and_then number_of (slice_get (top_cells frames) c)

-- the control, the step and the limit of a loop are numbers
pub record HasLoop (c : ℕ) (frames : List Frame) : Type 0 where
  pub control : IsSome (number_at c frames)
  pub step : IsSome (number_at (c + 1) frames)
  pub limit : IsSome (number_at (c + 2) frames)

-- a loop's control is past its limit
abbrev pub are_past : Cell → Cell → Cell → Bool
are_past (Fixed len control) (Fixed other step) (Fixed another limit) = is_past control step limit
are_past x y z = false
