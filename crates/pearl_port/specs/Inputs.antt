-- What waits at an input of any kind, as cells.
use Rattle.std.specs.Prelude.{ℕ, map}
use Rattle.pearl_value.specs.declared.kind.Kind.{Kind}
use Rattle.pearl_value.specs.declared.kind.Kind.TheVariants as kinds
use Rattle.pearl_value.specs.declared.cell.Cell.{Cell}
use Rattle.pearl_port.specs.declared.input.AnyPort.{AnyPort}
use Rattle.pearl_port.specs.declared.input.AnyPort.TheVariants.{Fixed, Bits, Chars, Clock, Span}
use Rattle.pearl_port.specs.Pending.{Queue}
use Rattle.pearl_port.specs.Values.{fixed_cell, bits_cell, chars_cell, clock_cell, span_cell}

-- a queue of values as one of the cells that they are
abbrev pub as_cells : {X : Type 0} → (X → Cell) → Queue X → Queue Cell
as_cells cell_of queue = record { kind = queue.kind; room = queue.room; items = map cell_of queue.items }

-- what waits at an input
abbrev pub queue_of : AnyPort → Queue Cell
queue_of (Fixed port) = as_cells fixed_cell port
queue_of (Bits port) = as_cells bits_cell port
queue_of (Chars port) = as_cells chars_cell port
queue_of (Clock port) = as_cells clock_cell port
queue_of (Span port) = as_cells span_cell port

-- the number of the family of its values
abbrev pub family_in : AnyPort → ℕ
family_in (Fixed port) = 0
family_in (Bits port) = 1
family_in (Chars port) = 2
family_in (Clock port) = 3
family_in (Span port) = 4

-- the number of the family of a kind
abbrev pub family_of_kind : Kind → ℕ
family_of_kind (kinds.Fixed len) = 0
family_of_kind (kinds.Bits len) = 1
family_of_kind (kinds.Chars len) = 2
family_of_kind kinds.Clock = 3
family_of_kind kinds.Span = 4
