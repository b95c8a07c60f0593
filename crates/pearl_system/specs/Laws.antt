-- What the definition of devices determines, and which devices a module has by its rules.
use Rattle.std.specs.Prelude.{◌≡◌, ℕ, ◌<◌, false, List, [], Contains, Some, slice_get}
use Rattle.pearl_tree.specs.declared.declaration.Class.TheVariants.{Alphic, Basic}
use Rattle.pearl_tree.specs.declared.declaration.Device.{Device}
use Rattle.pearl_value.specs.declared.device.Direction.TheVariants.{In, Out}
use Rattle.pearl_tree.specs.ShownModules.{ShownTree}
use Rattle.pearl_system.specs.declared.device.DeviceSort.{DeviceSort}
use Rattle.pearl_system.specs.declared.device.DeviceSort.TheVariants as sort
use Rattle.pearl_system.specs.declared.device.Role.{Role}
use Rattle.pearl_system.specs.declared.device.Role.TheVariants as role
use Rattle.pearl_system.specs.declared.device.SpecifiedDevice.{SpecifiedDevice}
use Rattle.pearl_system.specs.declared.specified.Form.{Form}
use Rattle.pearl_system.specs.declared.specified.Form.TheVariants as form
use Rattle.pearl_system.specs.declared.specified.Specified.{Specified}
use Rattle.pearl_system.specs.Devices.{devices_of, device_key, named, sort_of, spelling, IsDevice}
use Rattle.pearl_system.specs.Rising.{Lists}
use Rattle.pearl_system.specs.Rules.{broken, is_missed, is_no_device, is_unsuited}
use Rattle.pearl_system.specs.Specified.{specified}

-- a module has one list of devices
abbrev pub HasOneDeviceList : Type 0
HasOneDeviceList =
    (tree : ShownTree) (devices others : List SpecifiedDevice) → Lists device_key (IsDevice tree) devices
    → Lists device_key (IsDevice tree) others → devices ≡ others

-- the word of a device
abbrev pub sort_of_role : Role → DeviceSort
sort_of_role role.Interrupt = sort.Interrupt
sort_of_role (role.Terminal direction) = sort.Terminal
sort_of_role (role.Input basic) = sort.Input
sort_of_role (role.Output basic) = sort.Output

-- a name that is specified so is such a device: a TERMINAL has the direction that is specified, INPUT and OUTPUT the type
abbrev pub IsSpecifiedAs : Role → Form → Type 0
IsSpecifiedAs role.Interrupt given = given ≡ form.Interrupt
IsSpecifiedAs (role.Terminal direction) given = (place : ℕ) × (given ≡ form.Dation direction (Alphic place))
IsSpecifiedAs (role.Input basic) given = (place : ℕ) × (given ≡ form.Dation In (Basic basic place))
IsSpecifiedAs (role.Output basic) given = (place : ℕ) × (given ≡ form.Dation Out (Basic basic place))

-- the n-th specified name means this device of the system part, and breaks none of S11, S13 and S14 there
pub record Specifies (tree : ShownTree) (n : ℕ) (spec : Specified) (part : Device) : Type 0 where
  pub stands : slice_get (specified tree) n ≡ Some spec
  pub means : named (devices_of tree) spec.text.items ≡ Some part
  pub keeps_s11 : is_no_device part ≡ false
  pub keeps_s13 : is_missed spec.form (Some part) ≡ false
  pub keeps_s14 : is_unsuited spec.form (Some part) ≡ false

-- a device has the word and number of this one of the system part
pub record HasWordAndNumber (part : Device) (device : SpecifiedDevice) : Type 0 where
  pub word : sort_of (spelling part.word) ≡ Some (sort_of_role device.role)
  pub number : device.number ≡ part.number.value

-- a device is what the n-th specified name says of this one of the system part, and is the first with its word and number
pub record IsSpecifiedBy (tree : ShownTree) (n : ℕ) (spec : Specified) (part : Device) (device : SpecifiedDevice) : Type 0 where
  pub specifies : Specifies tree n spec part
  pub same : HasWordAndNumber part device
  pub text : device.text ≡ spec.text
  pub place : device.place ≡ spec.place
  pub suits : IsSpecifiedAs device.role spec.form
  pub first : (m : ℕ) (earlier : Specified) (other : Device) → m < n → Specifies tree m earlier other → HasWordAndNumber other device → ⊥

-- a module's devices are those that it specifies: each is what some specified name says of a device of the system part, the first
-- of such names, and for each such name there is one with that word and number
pub record AreSpecified (tree : ShownTree) (devices : List SpecifiedDevice) : Type 0 where
  pub from : (device : SpecifiedDevice) → Contains devices device → (n : ℕ) × (spec : Specified) × (part : Device) × IsSpecifiedBy tree n spec part device
  pub to : (n : ℕ) (spec : Specified) (part : Device) → Specifies tree n spec part → (device : SpecifiedDevice) × Contains devices device × HasWordAndNumber part device

abbrev pub DevicesAreSpecified : Type 0
DevicesAreSpecified = (tree : ShownTree) (devices : List SpecifiedDevice) → Lists device_key (IsDevice tree) devices → AreSpecified tree devices

-- where no rule is broken, each specified name means a device of the module
abbrev pub SpecifiedMeansDevice : Type 0
SpecifiedMeansDevice =
    (tree : ShownTree) → broken tree ≡ [] → (n : ℕ) (spec : Specified)
    → slice_get (specified tree) n ≡ Some spec → (part : Device) × Specifies tree n spec part
