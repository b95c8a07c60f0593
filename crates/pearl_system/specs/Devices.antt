-- Which devices a module has: those of its system part that its problem part specifies.
use Rattle.std.specs.Prelude.{◌≡◌, ℕ, Bool, ◌&&◌, ◌==◌, nat_le, if◌then◌else◌, List, [], Option, Some, None, find, unwrap_or, option_and_then, codes}
use Rattle.std.specs.List.{filter_map}
use Rattle.std.specs.Str.{bytes_eq}
use Rattle.pearl_tree.specs.declared.declaration.Class.TheVariants.{Alphic, Basic}
use Rattle.pearl_tree.specs.declared.declaration.Device.{Device}
use Rattle.pearl_tree.specs.declared.declaration.DeviceWord.{DeviceWord}
use Rattle.pearl_tree.specs.declared.declaration.DeviceWord.TheVariants as word
use Rattle.pearl_value.specs.declared.device.Direction.TheVariants.{In, Out}
use Rattle.pearl_tree.specs.ShownModules.{ShownTree}
use Rattle.pearl_system.specs.declared.device.DeviceSort.{DeviceSort}
use Rattle.pearl_system.specs.declared.device.DeviceSort.TheVariants.{Interrupt, Terminal, Input, Output}
use Rattle.pearl_system.specs.declared.device.Role.{Role}
use Rattle.pearl_system.specs.declared.device.Role.TheVariants as role
use Rattle.pearl_system.specs.declared.device.SpecifiedDevice.{SpecifiedDevice}
use Rattle.pearl_system.specs.declared.specified.Form.{Form}
use Rattle.pearl_system.specs.declared.specified.Form.TheVariants as form
use Rattle.pearl_system.specs.declared.specified.Specified.{Specified}
use Rattle.pearl_system.specs.Specified.{specified}

-- the devices of the system part, in order
abbrev pub devices_of : ShownTree → List Device
devices_of tree = unwrap_or tree.system []

-- what a name means in the system part: of several devices of this name, the first
abbrev pub named : List Device → List ℕ → Option Device
named devices text = find (λ device. bytes_eq text device.name.text.items) devices

-- how a device word is spelled
abbrev pub spelling : DeviceWord → List ℕ
spelling (word.Id name) = name.text.items
spelling (word.Interrupt place) = codes "INTERRUPT"

abbrev pub sort_of : List ℕ → Option DeviceSort
sort_of text =
    if bytes_eq text (codes "INTERRUPT") then Some Interrupt else
    if bytes_eq text (codes "TERMINAL") then Some Terminal else
    if bytes_eq text (codes "INPUT") then Some Input else
    if bytes_eq text (codes "OUTPUT") then Some Output else None

-- the numbers that a device may have
abbrev pub is_number : ℕ → Bool
is_number number = nat_le 1 number && nat_le number 99

-- what a device of this sort is to a module that specifies it so; none where that doesn't suit it
abbrev pub role_of : DeviceSort → Form → Option Role
role_of Interrupt form.Interrupt = Some role.Interrupt
role_of Terminal (form.Dation direction (Alphic place)) = Some (role.Terminal direction)
role_of Input (form.Dation In (Basic basic place)) = Some (role.Input basic)
role_of Output (form.Dation Out (Basic basic place)) = Some (role.Output basic)
role_of _ _ = None

abbrev pub numbered : Specified → ℕ → Role → Option SpecifiedDevice
numbered spec number role =
    if is_number number then Some (record { text = spec.text; place = spec.place; number = number; role = role }) else None

abbrev pub specified_as : Specified → Device → Option SpecifiedDevice
specified_as spec device =
    option_and_then (numbered spec device.number.value) (option_and_then (λ sort. role_of sort spec.form) (sort_of (spelling device.word)))

-- the device that a specified name means, where no rule refuses it
abbrev pub meant : List Device → Specified → Option SpecifiedDevice
meant devices spec = option_and_then (specified_as spec) (named devices spec.text.items)

-- the order of the sorts in an object
abbrev pub rank : Role → ℕ
rank role.Interrupt = 0
rank (role.Terminal direction) = 1
rank (role.Input basic) = 2
rank (role.Output basic) = 3

-- devices stand in an object by their sorts, then by their numbers
abbrev pub device_key : SpecifiedDevice → ℕ × ℕ
device_key device = (rank device.role, device.number)

abbrev pub has_key : ℕ × ℕ → SpecifiedDevice → Bool
has_key key device = (rank device.role == key.0) && (device.number == key.1)

-- of several devices with one sort and number, the first
abbrev pub IsFirstIn : List SpecifiedDevice → SpecifiedDevice → Type 0
IsFirstIn devices device = find (has_key (device_key device)) devices ≡ Some device

-- the devices of a module
abbrev pub IsDevice : ShownTree → SpecifiedDevice → Type 0
IsDevice tree device = IsFirstIn (filter_map (meant (devices_of tree)) (specified tree)) device
