-- How devices stand: interrupts that are let through or masked, and what comes in at terminals and inputs.
use Rattle.std.specs.Prelude.{ℕ, List, [], ◌∷◌, ◌++◌, Bool, false, Option, Some, Result, Ok, Err, length, drop, nat_le, nat_lt, slice_get, slice_set, if◌then◌else◌}
use Rattle.pearl_value.specs.declared.cell.Cell.{Cell}
use Rattle.pearl_value.specs.declared.kind.Kind.{Kind}
use Rattle.pearl_value.specs.declared.trap.Trap.{Trap}
use Rattle.pearl_value.specs.Conversions.{converted}
use Rattle.pearl_format.specs.declared.item.Item.{Item}
use Rattle.pearl_rules.specs.declared.event.Event.TheVariants as event
use Rattle.pearl_rules.specs.declared.entry.Entry.{Entry}
use Rattle.pearl_rules.specs.declared.entry.Entry.TheVariants as entry
use Rattle.pearl_rules.specs.Core.{Core, Channel, Switch, Bytes, Values, note}
use Rattle.pearl_rules.specs.Plans.{occurred}
use Rattle.pearl_rules.specs.Tables.{items_or_none}

abbrev pub channel_of : Core → ℕ → Option Channel
channel_of core device = slice_get core.channels device

-- a device stands so from now on
abbrev pub with_channel : Core → ℕ → Channel → Core
with_channel core device channel = record core { channels = slice_set core.channels device channel }

-- the items of a format; a number that names none means no items
abbrev pub items_of : Core → ℕ → List Item
items_of core format = items_or_none (slice_get core.formats format)

-- INTERRUPTS

abbrev pub is_on : Option Channel → Bool
is_on (Some (Switch enabled)) = enabled
is_on other = false

-- whether an interrupt is let through
abbrev pub is_enabled : Core → ℕ → Bool
is_enabled core device = is_on (channel_of core device)

-- an interrupt occurs; that a masked one did is told, and nothing else comes of it
abbrev pub interrupted : Core → ℕ → Core
interrupted core device = if is_enabled core device then occurred core device else note core (event.Masked device)

-- TERMINALS

abbrev pub bytes_in : Option Channel → List ℕ
bytes_in (Some (Bytes pending)) = pending
bytes_in other = []

-- the bytes that wait at a terminal
abbrev pub bytes_at : Core → ℕ → List ℕ
bytes_at core device = bytes_in (channel_of core device)

-- how many bytes may wait at a terminal
abbrev pub terminal_room : ℕ
terminal_room = 4096

-- bytes that come in wait behind all others; where there isn't room for all of them none is kept, and that is told
abbrev pub with_bytes : Core → ℕ → List ℕ → Core
with_bytes core device text =
    let pending = bytes_at core device ++ text in
    if nat_le (length pending) terminal_room then with_channel core device (Bytes pending) else note core (event.Lost device)

-- the oldest bytes, so many of them, are gone
abbrev pub without_bytes : Core → ℕ → ℕ → Core
without_bytes core device used = with_channel core device (Bytes (drop used (bytes_at core device)))

-- INPUTS

abbrev pub values_in : Option Channel → List Cell
values_in (Some (Values kind pending)) = pending
values_in other = []

-- the values that wait at an input
abbrev pub values_at : Core → ℕ → List Cell
values_at core device = values_in (channel_of core device)

-- how many values may wait at an input
abbrev pub input_room : ℕ
input_room = 256

-- a value comes in at an input of this kind: it is converted, and waits behind all others
abbrev pub joined : Core → ℕ → Kind → List Cell → Result Cell Trap → Core
joined core device kind pending (Err trap) = core
joined core device kind pending (Ok x) = with_channel core device (Values kind (pending ++ x ∷ []))

abbrev pub with_value_by : Option Channel → Core → ℕ → Cell → Core
with_value_by (Some (Values kind pending)) core device x =
    if nat_lt (length pending) input_room then joined core device kind pending (converted x kind) else note core (event.Lost device)
with_value_by other core device x = core

-- a value comes in; where the input is full it is dropped, and that is told
abbrev pub with_value : Core → ℕ → Cell → Core
with_value core device x = with_value_by (channel_of core device) core device x

abbrev pub without_value_by : Option Channel → Core → ℕ → Core
without_value_by (Some (Values kind pending)) core device = with_channel core device (Values kind (drop 1 pending))
without_value_by other core device = core

-- the oldest value is gone
abbrev pub without_value : Core → ℕ → Core
without_value core device = without_value_by (channel_of core device) core device

-- WHAT COMES FROM OUTSIDE

-- what an entry of a journal does by itself, whoever could act: it sets the clock, or something comes in
abbrev pub arrived : Core → Entry → Core
arrived core (entry.Clock time) = record core { clock = time }
arrived core (entry.Irpt device) = interrupted core device
arrived core (entry.Chars device text) = with_bytes core device text.items
arrived core (entry.Line device text) = with_bytes core device (text.items ++ 10 ∷ [])
arrived core (entry.Value device x) = with_value core device x
arrived core other = core
