-- What the state of a run is, apart from the tasks' own variables: the time, how each task stands and what is planned for it, what
-- the module's variables hold, the semaphores' counts, how each device stands, who acted last, what was told.
use Rattle.std.specs.Prelude.{ℕ, ◌+◌, pos, List, [], ◌∷◌, ◌++◌, Bool, true, false, Option, Some, None, map, slice_get, slice_set}
use Rattle.pearl_value.specs.declared.cell.Cell.{Cell}
use Rattle.pearl_value.specs.declared.cell.Cell.TheVariants.{Fixed}
use Rattle.pearl_value.specs.declared.kind.Kind.{Kind}
use Rattle.pearl_format.specs.declared.item.Item.{Item}
use Rattle.pearl_rules.specs.declared.row.Mode.{Mode}
use Rattle.pearl_rules.specs.declared.row.Mode.TheVariants.{Dormant, Active}
use Rattle.pearl_rules.specs.declared.row.Kept.TheVariants.{Nothing}
use Rattle.pearl_rules.specs.declared.row.TaskRow.{TaskRow}
use Rattle.pearl_rules.specs.declared.event.Event.{Event}
use Rattle.pearl_rules.specs.declared.event.Event.TheVariants.{Start}
use Rattle.pearl_rules.specs.declared.event.Shown.{Shown}
use Rattle.pearl_rules.specs.declared.setup.TaskEntry.{TaskEntry}
use Rattle.pearl_value.specs.declared.device.Device.{Device}
use Rattle.pearl_value.specs.declared.device.Device.TheVariants as device
use Rattle.pearl_rules.specs.declared.setup.Setup.{Setup}

-- what a run tells: that something happened, or how a task stands
pub data Report : Type 0 where
  Happened : (event : Event) → Report
  Shows : (task : ℕ) (shown : Shown) → Report

-- how a device stands: whether an interrupt is let through, and what came in and waits, from the oldest on
pub data Channel : Type 0 where
  Switch : (enabled : Bool) → Channel
  Bytes : (pending : List ℕ) → Channel
  Values : (kind : Kind) (pending : List Cell) → Channel
  Outward : Channel

-- The moment is in milliseconds since the start, and `clock` is the time of day at the start, in milliseconds since midnight. The
-- channels are those of the devices; the formats are the tables' and never change. `told` has all that was told so far, each with
-- its moment.
pub record Core : Type 0 where
  pub moment : ℕ
  pub clock : ℕ
  pub tasks : List TaskRow
  pub slots : List Cell
  pub counts : List ℕ
  pub channels : List Channel
  pub formats : List (List Item)
  pub last : Option ℕ
  pub told : List (ℕ × Report)

abbrev pub cell_or_zero : Option Cell → Cell
cell_or_zero None = Fixed 31 (pos 0)
cell_or_zero (Some x) = x

-- the value of a slot; a number that names none has that of a new variable
abbrev pub value_at : List Cell → ℕ → Cell
value_at slots slot = cell_or_zero (slice_get slots slot)

-- one more event, at this moment
abbrev pub note : Core → Event → Core
note core event = record core { told = core.told ++ (core.moment, Happened event) ∷ [] }

-- the same core with this told before all that it has told
abbrev pub told_before : List (ℕ × Report) → Core → Core
told_before before core = record core { told = before ++ core.told }

-- a task's row
abbrev pub row_of : Core → ℕ → Option TaskRow
row_of core t = slice_get core.tasks t

-- a row's declared priority
abbrev pub declared_of : TaskRow → ℕ
declared_of row = row.declared

-- the core with another row for a task
abbrev pub with_row : Core → ℕ → TaskRow → Core
with_row core t row = record core { tasks = slice_set core.tasks t row }

abbrev pub is_active_mode : Mode → Bool
is_active_mode Dormant = false
is_active_mode (Active priority suspended) = true

abbrev pub is_active_row : Option TaskRow → Bool
is_active_row None = false
is_active_row (Some row) = is_active_mode row.mode

-- whether a task is active
abbrev pub is_active : Core → ℕ → Bool
is_active core t = is_active_row (row_of core t)

-- how a task stands; a number that names none is that of a dormant one
abbrev pub mode_of_row : Option TaskRow → Mode
mode_of_row None = Dormant
mode_of_row (Some row) = row.mode

abbrev pub mode_of : Core → ℕ → Mode
mode_of core t = mode_of_row (row_of core t)

-- how a task stands at the start: a MAIN task is active with its declared priority
abbrev pub first_mode : Bool → ℕ → Mode
first_mode true priority = Active priority false
first_mode false priority = Dormant

abbrev pub first_row : TaskEntry → TaskRow
first_row task = record {
  mode = first_mode task.main task.priority;
  declared = task.priority;
  kept = Nothing;
  continuation = None;
  activation = None;
}

-- how a device stands at the start: interrupts are masked, and nothing has come in
abbrev pub first_channel : Device → Channel
first_channel (device.Interrupt number) = Switch false
first_channel (device.Terminal number direction) = Bytes []
first_channel (device.Input number kind) = Values kind []
first_channel (device.Output number kind) = Outward

abbrev pub first_events_if : Bool → ℕ → ℕ → List (ℕ × Report) → List (ℕ × Report)
first_events_if true t priority rest = (0, Happened (Start t priority)) ∷ rest
first_events_if false t priority rest = rest

-- the starts of the MAIN tasks, in order of declaration, the first task having the number t
abbrev pub first_events : ℕ → List TaskEntry → List (ℕ × Report)
first_events t [] = []
first_events t (task ∷ tasks) = first_events_if task.main t task.priority (first_events (t + 1) tasks)

-- the core at the start: each slot has its first value, and each semaphore its first count
abbrev pub opening : Setup → Core
opening setup = record {
  moment = 0;
  clock = 0;
  tasks = map first_row setup.tasks;
  slots = setup.slots;
  counts = setup.semaphores;
  channels = map first_channel setup.devices;
  formats = setup.formats;
  last = None;
  told = first_events 0 setup.tasks;
}
