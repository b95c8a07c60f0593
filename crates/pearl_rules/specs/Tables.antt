-- What the tables of a program or an object are like.
use Rattle.std.specs.Prelude.{ℕ, ◌<◌, ◌≤◌, IsTrue, List, [], Option, Some, None, length, slice_get}
use Rattle.std.specs.List.{AllByRecursion}
use Rattle.pearl_value.specs.Counts.{IsPreset}
use Rattle.pearl_value.specs.Devices.{IsDevice, AreRising}
use Rattle.pearl_value.specs.Names.{is_id}
use Rattle.pearl_value.specs.declared.kind.Kind.{Kind}
use Rattle.pearl_value.specs.WellFormed.{IsValue}
use Rattle.pearl_format.specs.declared.item.Item.{Item}
use Rattle.pearl_format.specs.Items.{IsFormat}
use Rattle.pearl_rules.specs.declared.setup.TaskEntry.{TaskEntry}
use Rattle.pearl_value.specs.declared.device.Device.{Device}
use Rattle.pearl_value.specs.declared.device.Device.TheVariants.{Interrupt, Terminal, Input, Output}
use Rattle.pearl_value.specs.declared.device.Direction.{Direction}
use Rattle.pearl_value.specs.declared.device.Direction.TheVariants.{In, Out, InOut}
use Rattle.pearl_rules.specs.declared.setup.Setup.{Setup}

-- a declared priority is from 1 to 255
pub record IsTaskEntry (task : TaskEntry) : Type 0 where
  pub urgent : (0 < task.priority) × (task.priority ≤ 255)
  pub named : IsTrue (is_id task.name.items)

-- at most 200 tasks, 65,536 slots, 1,000 semaphores and 396 devices, each slot with a first value; a format is lawful also where
-- no PUT uses it
pub record IsSetup (setup : Setup) : Type 0 where
  pub tasks : AllByRecursion IsTaskEntry setup.tasks
  pub slots : AllByRecursion IsValue setup.slots
  pub semaphores : AllByRecursion IsPreset setup.semaphores
  pub devices : AllByRecursion IsDevice setup.devices
  pub rising : AreRising setup.devices
  pub formats : AllByRecursion IsFormat setup.formats
  pub few_tasks : length setup.tasks ≤ 200
  pub few_slots : length setup.slots ≤ 65536
  pub few_semaphores : length setup.semaphores ≤ 1000
  pub few_devices : length setup.devices ≤ 396

abbrev pub Writes : Direction → Type 0
Writes In = ⊥
Writes Out = Unit {0}
Writes InOut = Unit {0}

abbrev pub IsWritable : Option Device → Type 0
IsWritable None = ⊥
IsWritable (Some (Interrupt number)) = ⊥
IsWritable (Some (Terminal number direction)) = Writes direction
IsWritable (Some (Input number kind)) = ⊥
IsWritable (Some (Output number kind)) = ⊥

abbrev pub Reads : Direction → Type 0
Reads In = Unit {0}
Reads Out = ⊥
Reads InOut = Unit {0}

abbrev pub IsReadable : Option Device → Type 0
IsReadable (Some (Terminal number direction)) = Reads direction
IsReadable other = ⊥

abbrev pub IsInterrupt : Option Device → Type 0
IsInterrupt (Some (Interrupt number)) = Unit {0}
IsInterrupt other = ⊥

-- the kind of the values that come in at an input, and of those that go out at an output
abbrev pub input_kind : Option Device → Option Kind
input_kind (Some (Input number kind)) = Some kind
input_kind other = None

abbrev pub output_kind : Option Device → Option Kind
output_kind (Some (Output number kind)) = Some kind
output_kind other = None

-- the number names a terminal that takes texts
abbrev pub TakesTexts : Setup → ℕ → Type 0
TakesTexts setup device = IsWritable (slice_get setup.devices device)

abbrev pub items_or_none : Option (List Item) → List Item
items_or_none None = []
items_or_none (Some items) = items

-- the items of a format; a number that names none means no items
abbrev pub format_of : Setup → ℕ → List Item
format_of setup format = items_or_none (slice_get setup.formats format)
