-- The lines of a transcript. Each begins with the moment in milliseconds.
use Rattle.std.specs.Prelude.{ℕ, ◌<◌, List, ◌++◌, length, codes}
use Rattle.std.specs.Fmt.{decimal}
use Rattle.std.specs.List.{flat_map}
use Rattle.pearl_value.specs.WellFormed.{IsValue}
use Rattle.pearl_rules.specs.declared.event.Event.{Event}
use Rattle.pearl_rules.specs.declared.event.Event.TheVariants.{Start, End, Stop, Trap, Kept, Overrun, Masked, Lost, Out, Send}
use Rattle.pearl_rules.specs.declared.event.Shown.{Shown}
use Rattle.pearl_rules.specs.declared.event.Shown.TheVariants.{Dormant, Suspended, Blocked, Running, Runnable}
use Rattle.pearl_rules.specs.declared.setup.Setup.{Setup}
use Rattle.pearl_rules.specs.Core.{Report, Happened, Shows}
use Rattle.pearl_script.specs.Words.{trap_word, task_name, device_number, sort_word, spelled}
use Rattle.pearl_script.specs.Literals.{literal}

-- the numbers in the event name what is there, and what is sent is a value
abbrev pub IsEventOf : Setup → Event → Type 0
IsEventOf setup (Start task priority) = task < length setup.tasks
IsEventOf setup (End task) = task < length setup.tasks
IsEventOf setup (Stop task) = task < length setup.tasks
IsEventOf setup (Trap task trap) = task < length setup.tasks
IsEventOf setup (Kept task number) = task < length setup.tasks
IsEventOf setup (Overrun task) = task < length setup.tasks
IsEventOf setup (Masked device) = device < length setup.devices
IsEventOf setup (Lost device) = device < length setup.devices
IsEventOf setup (Out device text) = device < length setup.devices
IsEventOf setup (Send device value) = (device < length setup.devices) × IsValue value

-- that something happened
abbrev pub event_line : ℕ → Event → Setup → List ℕ
event_line moment (Start task priority) setup = decimal moment ++ codes " start " ++ task_name setup task ++ codes " " ++ decimal priority ++ codes "\n"
event_line moment (End task) setup = decimal moment ++ codes " end " ++ task_name setup task ++ codes "\n"
event_line moment (Stop task) setup = decimal moment ++ codes " stop " ++ task_name setup task ++ codes "\n"
event_line moment (Trap task trap) setup = decimal moment ++ codes " trap " ++ task_name setup task ++ codes " " ++ trap_word trap ++ codes "\n"
event_line moment (Kept task number) setup = decimal moment ++ codes " kept " ++ task_name setup task ++ codes " " ++ decimal number ++ codes "\n"
event_line moment (Overrun task) setup = decimal moment ++ codes " overrun " ++ task_name setup task ++ codes "\n"
event_line moment (Masked device) setup = decimal moment ++ codes " masked" ++ codes " " ++ decimal (device_number setup device) ++ codes "\n"
event_line moment (Lost device) setup = decimal moment ++ codes " lost " ++ sort_word setup device ++ codes " " ++ decimal (device_number setup device) ++ codes "\n"
event_line moment (Out device text) setup = decimal moment ++ codes " out " ++ decimal (device_number setup device) ++ codes " '" ++ spelled text.items ++ codes "'\n"
event_line moment (Send device value) setup = decimal moment ++ codes " send " ++ decimal (device_number setup device) ++ codes " " ++ literal value ++ codes "\n"

-- how the task of this name stands
abbrev pub state_line : ℕ → List ℕ → Shown → List ℕ
state_line moment name Dormant = decimal moment ++ codes " state " ++ name ++ codes " dormant\n"
state_line moment name (Suspended priority) = decimal moment ++ codes " state " ++ name ++ codes " suspended " ++ decimal priority ++ codes "\n"
state_line moment name (Blocked priority) = decimal moment ++ codes " state " ++ name ++ codes " blocked " ++ decimal priority ++ codes "\n"
state_line moment name (Running priority) = decimal moment ++ codes " state " ++ name ++ codes " running " ++ decimal priority ++ codes "\n"
state_line moment name (Runnable priority) = decimal moment ++ codes " state " ++ name ++ codes " runnable " ++ decimal priority ++ codes "\n"

-- the end of a run
abbrev pub close_line : ℕ → List ℕ
close_line moment = decimal moment ++ codes " close\n"

-- the line of what a run tells
abbrev pub report_line : Setup → ℕ × Report → List ℕ
report_line setup (moment, Happened event) = event_line moment event setup
report_line setup (moment, Shows task shown) = state_line moment (task_name setup task) shown

-- all lines, one after the other
abbrev pub lines_of : Setup → List (ℕ × Report) → List ℕ
lines_of setup told = flat_map (report_line setup) told
