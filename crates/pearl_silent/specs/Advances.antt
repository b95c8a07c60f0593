-- What Advance and NonZero make of numbers.
use Rattle.std.specs.Prelude.{pos, ◌+ℤ◌, if◌then◌else◌, Option, Some, None}
use Rattle.std.specs.Ordering.{int_eq}
use Rattle.pearl_value.specs.declared.cell.Cell.{Cell}
use Rattle.pearl_value.specs.declared.cell.Cell.TheVariants.{Fixed}
use Rattle.pearl_value.specs.declared.trap.Trap.{Trap}
use Rattle.pearl_value.specs.declared.trap.Trap.TheVariants.{Range}
use Rattle.pearl_silent.specs.declared.advances.Number.{Number}
use Rattle.pearl_value.specs.Conversions.{fits_fixed}

-- the value that a number is
abbrev pub fixed_of : Number → Cell
fixed_of n = Fixed n.len n.value

-- the control of a loop after its step, where it is still of its kind
abbrev pub advanced : Cell → Cell → Option Cell
advanced (Fixed len control) (Fixed other step) = if fits_fixed len (control +ℤ step) then Some (Fixed len (control +ℤ step)) else None
advanced x y = None

-- the trap where a number is 0
abbrev pub null_trap : Cell → Option Trap
null_trap (Fixed len n) = if int_eq n (pos 0) then Some Range else None
null_trap x = None
