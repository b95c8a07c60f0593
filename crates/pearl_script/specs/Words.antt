-- The parts of a transcript's lines.
use Rattle.std.specs.Prelude.{ℕ, List, [], ◌∷◌, Option, Some, None, slice_get, codes, ◌==◌, ◌||◌, if◌then◌else◌}
use Rattle.std.specs.List.{flat_map}
use Rattle.pearl_value.specs.declared.trap.Trap.{Trap}
use Rattle.pearl_value.specs.declared.trap.Trap.TheVariants.{Overflow, ZeroDivide, Index, Range, Format, SemaLimit}
use Rattle.pearl_rules.specs.declared.setup.TaskEntry.{TaskEntry}
use Rattle.pearl_value.specs.declared.device.Device.{Device}
use Rattle.pearl_value.specs.declared.device.Device.TheVariants.{Interrupt, Terminal, Input, Output}
use Rattle.pearl_rules.specs.declared.setup.Setup.{Setup}

abbrev pub trap_word : Trap → List ℕ
trap_word Overflow = codes "Overflow"
trap_word ZeroDivide = codes "ZeroDivide"
trap_word Index = codes "Index"
trap_word Range = codes "Range"
trap_word Format = codes "Format"
trap_word SemaLimit = codes "SemaLimit"

abbrev pub name_or_none : Option TaskEntry → List ℕ
name_or_none None = []
name_or_none (Some task) = task.name.items

-- the name of a task; a number that names none has an empty name
abbrev pub task_name : Setup → ℕ → List ℕ
task_name setup task = name_or_none (slice_get setup.tasks task)

-- a device's own number
abbrev pub number_of : Device → ℕ
number_of (Interrupt number) = number
number_of (Terminal number direction) = number
number_of (Input number kind) = number
number_of (Output number kind) = number

abbrev pub number_or_zero : Option Device → ℕ
number_or_zero None = 0
number_or_zero (Some device) = number_of device

-- the own number of the device at a place of the list; 0 where there is none
abbrev pub device_number : Setup → ℕ → ℕ
device_number setup device = number_or_zero (slice_get setup.devices device)

abbrev pub sort_word_of : Device → List ℕ
sort_word_of (Interrupt number) = codes "interrupt"
sort_word_of (Terminal number direction) = codes "terminal"
sort_word_of (Input number kind) = codes "input"
sort_word_of (Output number kind) = codes "output"

abbrev pub sort_word_or_none : Option Device → List ℕ
sort_word_or_none None = []
sort_word_or_none (Some device) = sort_word_of device

-- the word for the sort of the device at a place of the list; empty where there is none
abbrev pub sort_word : Setup → ℕ → List ℕ
sort_word setup device = sort_word_or_none (slice_get setup.devices device)

-- a line end is written as a backslash and an n; an apostrophe (39) and a backslash (92) are doubled
abbrev pub spelled_byte : ℕ → List ℕ
spelled_byte byte = if byte == 10 then codes "\\n" else (if byte == 39 || byte == 92 then byte ∷ byte ∷ [] else byte ∷ [])

-- a text as it stands between the apostrophes of a line
abbrev pub spelled : List ℕ → List ℕ
spelled text = flat_map spelled_byte text
