-- Which value is held by a literal, and how it is seen.
use Rattle.std.specs.Prelude.{◌≤◌, length}
use Rattle.pearl_value.specs.declared.cell.Cell.{Cell}
use Rattle.pearl_value.specs.declared.cell.Cell.TheVariants as cells
use Rattle.pearl_instructions.specs.declared.constant.Held.{Held}
use Rattle.pearl_instructions.specs.declared.constant.Held.TheVariants.{Fixed, Bits, Chars, Clock, Span, Ref}
use Rattle.pearl_instructions.specs.declared.constant.Seen.{Seen}
use Rattle.pearl_instructions.specs.declared.constant.Seen.TheVariants as seen

abbrev pub held_cell : Held → Cell
held_cell (Fixed len value) = cells.Fixed len value
held_cell (Bits len value) = cells.Bits len value
held_cell (Chars text) = cells.Chars (record { items = text })
held_cell (Clock time) = cells.Clock time
held_cell (Span time) = cells.Span time
held_cell (Ref kind place) = cells.Ref kind place

-- the value that is seen
abbrev pub seen_cell : Seen → Cell
seen_cell (seen.Fixed len value) = cells.Fixed len value
seen_cell (seen.Bits len value) = cells.Bits len value
seen_cell (seen.Chars text) = cells.Chars (record { items = text.now })
seen_cell (seen.Clock time) = cells.Clock time
seen_cell (seen.Span time) = cells.Span time
seen_cell (seen.Ref kind place) = cells.Ref kind place

-- a text has at most 255 bytes
abbrev pub IsShort : Cell → Type 0
IsShort (cells.Chars text) = length text.items ≤ 255
IsShort cell = Unit {0}
