-- What an operator makes of two numbers, as a result that is small in memory: the value or the trap that it stands for.
use Rattle.std.specs.Prelude.{if◌then◌else◌, Result, Ok, Err}
use Rattle.pearl_value.specs.declared.cell.Cell.{Cell}
use Rattle.pearl_value.specs.declared.cell.Cell.TheVariants.{Fixed, Bits}
use Rattle.pearl_value.specs.declared.trap.Trap.{Trap}
use Rattle.pearl_cells.specs.declared.numbers.Made.{Made}
use Rattle.pearl_cells.specs.declared.numbers.Made.TheVariants.{Number, Truth, Trapped}

abbrev pub result_of : Made → Result Cell Trap
result_of (Number len value) = Ok (Fixed len value)
result_of (Truth holds) = Ok (Bits 1 (if holds then 1 else 0))
result_of (Trapped trap) = Err trap
