-- Which device of the program a specified one is.
use Rattle.std.specs.Prelude.{List, Option, unwrap_or}
use Rattle.pearl_value.specs.declared.kind.Kind.{Kind}
use Rattle.pearl_value.specs.declared.kind.Kind.TheVariants as kind
use Rattle.pearl_value.specs.declared.device.Device.{Device}
use Rattle.pearl_value.specs.declared.device.Device.TheVariants as device
use Rattle.pearl_names.specs.declared.length.DefaultLength.{DefaultLength}
use Rattle.pearl_names.specs.Lengths.{kind_of_basic}
use Rattle.pearl_system.specs.declared.device.Role.{Role}
use Rattle.pearl_system.specs.declared.device.Role.TheVariants as role
use Rattle.pearl_system.specs.declared.device.SpecifiedDevice.{SpecifiedDevice}

abbrev pub kind_or_short : Option Kind → Kind
kind_or_short known = unwrap_or known (kind.Fixed 31)

abbrev pub device_of : List DefaultLength → SpecifiedDevice → Device
device_of lengths specified = of specified.role
  where
    of : Role → Device
    of role.Interrupt = device.Interrupt specified.number
    of (role.Terminal direction) = device.Terminal specified.number direction
    of (role.Input basic) = device.Input specified.number (kind_or_short (kind_of_basic lengths basic))
    of (role.Output basic) = device.Output specified.number (kind_or_short (kind_of_basic lengths basic))
