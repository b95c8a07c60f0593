-- What a check tells of a module: its sizes, or why it isn't accepted.
use Rattle.std.specs.Prelude.{◌≡◌, List, Some}
use Rattle.pearl_calls.specs.Callers.{Caller}
use Rattle.pearl_tree.specs.ShownModules.{ShownTree}
use Rattle.pearl_names.specs.Tables.{table_of}
use Rattle.pearl_check.specs.declared.fault.CheckFault.{CheckFault}
use Rattle.pearl_check.specs.declared.fault.CheckFault.TheVariants.{Refused, NoMemory}
use Rattle.pearl_check.specs.declared.sizes.Sizes.{Sizes}
use Rattle.pearl_check.specs.Calls.{callers_of}
use Rattle.pearl_check.specs.Routines.{routines_of}
use Rattle.pearl_check.specs.Rules.{all_broken, first}
use Rattle.pearl_check.specs.Sizes.{declared_in, weighed_procedures}
use Rattle.pearl_check.specs.SizeSorts.{sizes_in}

-- how many tasks and procedures a module declares, and how many slots its own variables have
abbrev pub sizes_of : ShownTree → Sizes
sizes_of tree = sizes_in (declared_in (table_of tree))

-- the procedures in the order of the text, each with what it weighs itself and which others it calls
abbrev pub module_callers : ShownTree → List Caller
module_callers tree = callers_of (weighed_procedures (table_of tree) (routines_of tree))

-- a module is refused with the first rule that it breaks; memory may be out at any module
abbrev pub IsRefused : ShownTree → CheckFault → Type 0
IsRefused tree (Refused fault) = first (all_broken tree) ≡ Some fault
IsRefused tree NoMemory = Unit {0}
