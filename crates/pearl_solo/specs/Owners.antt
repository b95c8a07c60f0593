-- The routine of the task whose stack this is.
use Rattle.std.specs.Prelude.{ℕ, List, [], ◌∷◌}
use Rattle.pearl_stack.specs.Frames.{Frame}
use Rattle.pearl_instructions.specs.Rows.{lowest}

abbrev pub lowest_of : List Frame → ℕ
lowest_of [] = 0
lowest_of (f ∷ lower) = lowest f lower
