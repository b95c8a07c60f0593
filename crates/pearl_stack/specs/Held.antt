-- A row of values, and for how many there is memory.
use Rattle.std.specs.Prelude.{ℕ, List}
use Rattle.pearl_value.specs.declared.cell.Cell.{Cell}

pub record Held : Type 0 where
  pub items : List Cell
  pub room : ℕ
