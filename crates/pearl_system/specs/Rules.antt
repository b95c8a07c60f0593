-- The rules S10 to S14, one after the other, and the faults of a module in them.
use Rattle.std.specs.Prelude.{ℕ, Bool, true, false, ◌&&◌, ◌==◌, not, List, [], ◌∷◌, ◌++◌, map, Option, Some, None, is_some}
use Rattle.std.specs.List.{flat_map, list_any}
use Rattle.std.specs.Str.{bytes_eq}
use Rattle.pearl_tree.specs.declared.declaration.Class.{Class}
use Rattle.pearl_tree.specs.declared.declaration.Class.TheVariants.{Alphic, Basic}
use Rattle.pearl_tree.specs.declared.declaration.Device.{Device}
use Rattle.pearl_tree.specs.declared.declaration.DeviceWord.{DeviceWord}
use Rattle.pearl_tree.specs.declared.declaration.DeviceWord.TheVariants as word
use Rattle.pearl_value.specs.declared.device.Direction.{Direction}
use Rattle.pearl_value.specs.declared.device.Direction.TheVariants.{In, Out, InOut}
use Rattle.pearl_tree.specs.declared.fault.RuleFault.{RuleFault}
use Rattle.pearl_tree.specs.declared.rule.TheConstants as rule
use Rattle.pearl_tree.specs.Faults.{fault_if}
use Rattle.pearl_tree.specs.Names.{repeats}
use Rattle.pearl_tree.specs.ShownModules.{ShownTree}
use Rattle.pearl_system.specs.declared.device.DeviceSort.{DeviceSort}
use Rattle.pearl_system.specs.declared.device.DeviceSort.TheVariants.{Interrupt, Terminal, Input, Output}
use Rattle.pearl_system.specs.declared.specified.Form.{Form}
use Rattle.pearl_system.specs.declared.specified.Form.TheVariants as form
use Rattle.pearl_system.specs.declared.specified.Specified.{Specified}
use Rattle.pearl_system.specs.Devices.{devices_of, named, spelling, sort_of, is_number}
use Rattle.pearl_system.specs.Specified.{specified}

-- S10: the system part has a name twice; told at the later name
abbrev pub s10 : List Device → List RuleFault
s10 devices = repeats rule.S10 [] (map (λ device. device.name) devices)

-- its word is none of the four, or its number isn't 1 to 99
abbrev pub is_no_device : Device → Bool
is_no_device device = not (is_some (sort_of (spelling device.word)) && is_number device.number.value)

abbrev pub word_place : DeviceWord → ℕ
word_place (word.Id name) = name.place
word_place (word.Interrupt place) = place

abbrev pub no_device_fault : Device → List RuleFault
no_device_fault device = fault_if (is_no_device device) (word_place device.word) rule.S11

-- S11: the system part has what is no device; told at the word
abbrev pub s11 : List Device → List RuleFault
s11 devices = flat_map no_device_fault devices

abbrev pub is_twin : Device → Device → Bool
is_twin a b = bytes_eq (spelling a.word) (spelling b.word) && (a.number.value == b.number.value)

-- a fault of each device that has the word and number of one before it
abbrev pub twins : List Device → List Device → List RuleFault
twins before [] = []
twins before (device ∷ devices) =
    fault_if (list_any (is_twin device) before) device.name.place rule.S12 ++ twins (before ++ device ∷ []) devices

-- S12: a word with its number stands twice in the system part; told at the later device's name
abbrev pub s12 : List Device → List RuleFault
s12 devices = twins [] devices

-- INTERRUPT is specified for another device, or DATION for an INTERRUPT
abbrev pub is_other : Form → Option DeviceSort → Bool
is_other form.Interrupt (Some Interrupt) = false
is_other form.Interrupt _ = true
is_other (form.Dation direction class) (Some Interrupt) = true
is_other (form.Dation direction class) _ = false

abbrev pub is_missed : Form → Option Device → Bool
is_missed form None = true
is_missed form (Some device) = is_other form (sort_of (spelling device.word))

abbrev pub missed_fault : List Device → Specified → List RuleFault
missed_fault devices spec = fault_if (is_missed spec.form (named devices spec.text.items)) spec.place rule.S13

-- S13: a specified name isn't in the system part, or is specified as what it isn't; told at the name
abbrev pub s13 : List Device → List Specified → List RuleFault
s13 devices specs = flat_map (missed_fault devices) specs

abbrev pub is_alphic : Class → Bool
is_alphic (Alphic place) = true
is_alphic (Basic basic place) = false

abbrev pub is_basic : Class → Bool
is_basic (Alphic place) = false
is_basic (Basic basic place) = true

abbrev pub is_in : Direction → Bool
is_in In = true
is_in Out = false
is_in InOut = false

abbrev pub is_out : Direction → Bool
is_out In = false
is_out Out = true
is_out InOut = false

-- TERMINAL isn't ALPHIC, INPUT isn't IN BASIC, or OUTPUT isn't OUT BASIC
abbrev pub is_unfit : Form → Option DeviceSort → Bool
is_unfit (form.Dation direction class) (Some Terminal) = not (is_alphic class)
is_unfit (form.Dation direction class) (Some Input) = not (is_in direction && is_basic class)
is_unfit (form.Dation direction class) (Some Output) = not (is_out direction && is_basic class)
is_unfit _ _ = false

abbrev pub is_unsuited : Form → Option Device → Bool
is_unsuited form None = false
is_unsuited form (Some device) = is_unfit form (sort_of (spelling device.word))

abbrev pub unsuited_fault : List Device → Specified → List RuleFault
unsuited_fault devices spec = fault_if (is_unsuited spec.form (named devices spec.text.items)) spec.place rule.S14

-- S14: a device is specified as a dation that it can't be; told at the specified name
abbrev pub s14 : List Device → List Specified → List RuleFault
s14 devices specs = flat_map (unsuited_fault devices) specs

abbrev pub faults_of : List Device → List Specified → List RuleFault
faults_of devices specs = s10 devices ++ (s11 devices ++ (s12 devices ++ (s13 devices specs ++ s14 devices specs)))

-- the rules S10 to S14 that a module breaks, in no order and perhaps more than once
abbrev pub broken : ShownTree → List RuleFault
broken tree = faults_of (devices_of tree) (specified tree)
