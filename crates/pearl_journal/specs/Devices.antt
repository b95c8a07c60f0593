-- Which devices the numbers in lines name.
use Rattle.std.specs.Prelude.{ℕ, Bool, true, false, ◌&&◌, ◌==◌}
use Rattle.pearl_value.specs.declared.device.Device.{Device}
use Rattle.pearl_value.specs.declared.device.Device.TheVariants.{Interrupt, Terminal, Input}
use Rattle.pearl_value.specs.declared.device.Direction.{Direction}
use Rattle.pearl_value.specs.declared.device.Direction.TheVariants.{In, Out, InOut}

abbrev pub is_interrupt : ℕ → Device → Bool
is_interrupt k (Interrupt number) = number == k
is_interrupt k other = false

abbrev pub reads : Direction → Bool
reads In = true
reads Out = false
reads InOut = true

-- a terminal at which bytes can come in
abbrev pub is_readable : ℕ → Device → Bool
is_readable k (Terminal number direction) = number == k && reads direction
is_readable k other = false

abbrev pub is_input : ℕ → Device → Bool
is_input k (Input number kind) = number == k
is_input k other = false
