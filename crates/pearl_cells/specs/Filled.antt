-- A CHAR that is filled up where it lies.
use Rattle.std.specs.Prelude.{ℕ}
use Rattle.pearl_value.specs.declared.cell.Cell.{Cell}
use Rattle.pearl_value.specs.declared.cell.Cell.TheVariants.{Chars}
use Rattle.pearl_value.specs.Blanks.{filled_to}

-- a CHAR with blanks on the right, at least `len` bytes in all; another value as it is
abbrev pub filled : ℕ → Cell → Cell
filled len (Chars text) = Chars (record { items = filled_to len text.items })
filled len x = x
