-- When each of the rules S10 to S14 is broken, and where, with no lists of faults.
use Rattle.std.specs.Prelude.{◌≡◌, ◌≢◌, ◌⊎◌, ◌↔◌, ℕ, ◌<◌, ◌≤◌, Contains, Option, Some, None, slice_get}
use Rattle.pearl_tree.specs.declared.declaration.Class.{Class}
use Rattle.pearl_tree.specs.declared.declaration.Class.TheVariants.{Alphic, Basic}
use Rattle.pearl_tree.specs.declared.declaration.Device.{Device}
use Rattle.pearl_value.specs.declared.device.Direction.TheVariants.{In, Out}
use Rattle.pearl_tree.specs.declared.fault.RuleFault.{RuleFault}
use Rattle.pearl_tree.specs.declared.rule.TheConstants as rule
use Rattle.pearl_tree.specs.declared.typing.Basic.{Basic as BasicOf}
use Rattle.pearl_tree.specs.ShownModules.{ShownTree}
use Rattle.pearl_system.specs.declared.device.DeviceSort.{DeviceSort}
use Rattle.pearl_system.specs.declared.device.DeviceSort.TheVariants.{Interrupt, Terminal, Input, Output}
use Rattle.pearl_system.specs.declared.specified.Form.{Form}
use Rattle.pearl_system.specs.declared.specified.Form.TheVariants as form
use Rattle.pearl_system.specs.declared.specified.Specified.{Specified}
use Rattle.pearl_system.specs.Devices.{devices_of, named, sort_of, spelling}
use Rattle.pearl_system.specs.Rules.{broken, word_place}
use Rattle.pearl_system.specs.Specified.{specified}

-- two devices of the system part, the first before the later
abbrev pub InOrder : ShownTree → Device → Device → Type 0
InOrder tree first later =
    (i : ℕ) × (j : ℕ) × (i < j) × (slice_get (devices_of tree) i ≡ Some first) × (slice_get (devices_of tree) j ≡ Some later)

-- two devices have one name
abbrev pub BreaksS10 : ShownTree → ℕ → Type 0
BreaksS10 tree place =
    (first : Device) × (later : Device) × InOrder tree first later
    × (first.name.text.items ≡ later.name.text.items) × (place ≡ later.name.place)

-- the word of a device, if it is one of the four
abbrev pub word_of : Device → Option DeviceSort
word_of device = sort_of (spelling device.word)

-- a device has none of the words, or its number isn't 1 to 99
abbrev pub IsNoDevice : Device → Type 0
IsNoDevice device = (word_of device ≡ None) ⊎ ((1 ≤ device.number.value) × (device.number.value ≤ 99) → ⊥)

-- one of the system part is no device
abbrev pub BreaksS11 : ShownTree → ℕ → Type 0
BreaksS11 tree place =
    (device : Device) × Contains (devices_of tree) device × IsNoDevice device × (place ≡ word_place device.word)

-- two devices have one word and one number
abbrev pub BreaksS12 : ShownTree → ℕ → Type 0
BreaksS12 tree place =
    (first : Device) × (later : Device) × InOrder tree first later
    × (spelling first.word ≡ spelling later.word) × (first.number.value ≡ later.number.value) × (place ≡ later.name.place)

-- no device of the system part has the name
abbrev pub IsUnknown : ShownTree → Specified → Type 0
IsUnknown tree spec = (device : Device) → Contains (devices_of tree) device → device.name.text.items ≢ spec.text.items

-- a name is that of a device of the system part, and of several it is the first
abbrev pub Means : ShownTree → Specified → Device → Type 0
Means tree spec device = named (devices_of tree) spec.text.items ≡ Some device

-- INTERRUPT is specified for a device of another word, or DATION for one of this
abbrev pub IsOther : Form → Option DeviceSort → Type 0
IsOther form.Interrupt sort = sort ≢ Some Interrupt
IsOther (form.Dation direction class) sort = sort ≡ Some Interrupt

-- a specified name isn't in the system part, or is specified as what it isn't
abbrev pub BreaksS13 : ShownTree → ℕ → Type 0
BreaksS13 tree place =
    (spec : Specified) × Contains (specified tree) spec
    × (IsUnknown tree spec ⊎ ((device : Device) × Means tree spec device × IsOther spec.form (word_of device))) × (place ≡ spec.place)

abbrev pub IsAlphic : Class → Type 0
IsAlphic class = (place : ℕ) × (class ≡ Alphic place)

abbrev pub IsBasic : Class → Type 0
IsBasic class = (basic : BasicOf) × (place : ℕ) × (class ≡ Basic basic place)

-- TERMINAL isn't ALPHIC, INPUT isn't IN BASIC, or OUTPUT isn't OUT BASIC
abbrev pub IsUnfit : Form → Option DeviceSort → Type 0
IsUnfit form.Interrupt sort = ⊥
IsUnfit (form.Dation direction class) sort =
    ((sort ≡ Some Terminal) × (IsAlphic class → ⊥))
    ⊎ (((sort ≡ Some Input) × ((direction ≡ In) × IsBasic class → ⊥))
    ⊎ ((sort ≡ Some Output) × ((direction ≡ Out) × IsBasic class → ⊥)))

-- a device is specified as a dation that it can't be
abbrev pub BreaksS14 : ShownTree → ℕ → Type 0
BreaksS14 tree place =
    (spec : Specified) × Contains (specified tree) spec
    × ((device : Device) × Means tree spec device × IsUnfit spec.form (word_of device)) × (place ≡ spec.place)

abbrev pub IsBroken : ShownTree → RuleFault → Type 0
IsBroken tree fault =
    ((fault.rule ≡ rule.S10) × BreaksS10 tree fault.place)
    ⊎ (((fault.rule ≡ rule.S11) × BreaksS11 tree fault.place)
    ⊎ (((fault.rule ≡ rule.S12) × BreaksS12 tree fault.place)
    ⊎ (((fault.rule ≡ rule.S13) × BreaksS13 tree fault.place)
    ⊎ ((fault.rule ≡ rule.S14) × BreaksS14 tree fault.place))))

-- the lists of faults have exactly what is broken
abbrev pub FaultsAreBroken : Type 0
FaultsAreBroken = (tree : ShownTree) (fault : RuleFault) → Contains (broken tree) fault ↔ IsBroken tree fault
