-- What slots and cells hold at first: the constants in order, and the last of them in all that are left; without
-- constants they are unset.
use Rattle.std.specs.Prelude.{◌-◌, List, ◌++◌, length, replicate}
use Rattle.pearl_value.specs.declared.cell.Cell.{Cell}
use Rattle.pearl_value.specs.Blanks.{blank_of, last_or}
use Rattle.pearl_program.specs.PlainStatements.{PlainValues}

abbrev pub first_cells : PlainValues → List Cell
first_cells values =
    values.constants ++ replicate (values.count - length values.constants) (last_or (blank_of values.kind) values.constants)
