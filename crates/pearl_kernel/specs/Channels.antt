-- How a device stands in the rules' core, and what may come in at it.
use Rattle.std.specs.Prelude.{◌≡◌, List, [], ◌∷◌, ◌++◌, All, Option, Some, None, Result, Ok, Err, drop}
use Rattle.pearl_value.specs.declared.cell.Cell.{Cell}
use Rattle.pearl_value.specs.declared.kind.Kind.{Kind}
use Rattle.pearl_value.specs.declared.trap.Trap.{Trap}
use Rattle.pearl_value.specs.Cells.{kind_of}
use Rattle.pearl_value.specs.Conversions.{SuitsKind, converted}
use Rattle.pearl_value.specs.Kinds.{IsKind}
use Rattle.pearl_value.specs.WellFormed.{IsValue, IsTyped}
use Rattle.pearl_rules.specs.declared.entry.Entry.{Entry}
use Rattle.pearl_rules.specs.declared.entry.Entry.TheVariants as entry
use Rattle.pearl_rules.specs.Core.{Channel}
use Rattle.pearl_rules.specs.Core as core
use Rattle.pearl_rules.specs.Devices.{input_room, channel_of}
use Rattle.pearl_kernel.specs.declared.channel.Waiting.{Waiting}
use Rattle.pearl_kernel.specs.declared.channel.Waiting.TheVariants.{Switch, Bytes, Values, Outward}

abbrev pub standing : Waiting → Channel
standing (Switch enabled) = core.Switch enabled
standing (Bytes terminal) = core.Bytes terminal
standing (Values input) = core.Values input.kind input.items
standing Outward = core.Outward

-- an input has room for as many values as may wait there
abbrev pub HasOwnRoom : Waiting → Type 0
HasOwnRoom (Switch enabled) = Unit {0}
HasOwnRoom (Bytes terminal) = Unit {0}
HasOwnRoom (Values input) = input.room ≡ input_room
HasOwnRoom Outward = Unit {0}

-- the channel is a terminal's
abbrev pub HasBytes : Option Channel → Type 0
HasBytes (Some (core.Bytes pending)) = Unit {0}
HasBytes other = ⊥

-- the channel is an interrupt's
abbrev pub HasSwitch : Option Channel → Type 0
HasSwitch (Some (core.Switch enabled)) = Unit {0}
HasSwitch other = ⊥

-- a value that suits a kind
pub record IsFor (x : Cell) (kind : Kind) : Type 0 where
  pub is_kind : IsKind kind
  pub is_value : IsValue x
  pub suits : SuitsKind (kind_of x) kind

-- the channel is that of an input, whose kind a value suits
abbrev pub HasValuesFor : Cell → Option Channel → Type 0
HasValuesFor x (Some (core.Values kind pending)) = IsFor x kind
HasValuesFor x other = ⊥

-- a value waits behind all others, where it could be converted
abbrev pub behind : Kind → List Cell → Result Cell Trap → List Cell
behind kind pending (Err trap) = pending
behind kind pending (Ok x) = pending ++ x ∷ []

-- how an input stands once a value came in for which there is room
abbrev pub taken_in : Channel → Cell → Channel
taken_in (core.Values kind pending) x = core.Values kind (behind kind pending (converted x kind))
taken_in other x = other

-- how an input stands without its oldest value
abbrev pub without_oldest : Channel → Channel
without_oldest (core.Values kind pending) = core.Values kind (drop 1 pending)
without_oldest other = other

-- the same of a device that is there
abbrev pub taken_in_of : Option Channel → Cell → Channel
taken_in_of None x = core.Outward
taken_in_of (Some channel) x = taken_in channel x

-- what comes in suits the channel at which it does
abbrev pub ComesIn : core.Core → Entry → Type 0
ComesIn core (entry.Chars device text) = HasBytes (channel_of core device) × All IsTyped text.items
ComesIn core (entry.Line device text) = HasBytes (channel_of core device) × All IsTyped text.items
ComesIn core (entry.Value device x) = HasValuesFor x (channel_of core device)
ComesIn core other = Unit {0}
