-- Which program a module means: over the table of its names, its specified devices, and its procedures numbered by the rule.
use Rattle.std.specs.Prelude.{◌≡◌, ℕ, List}
use Rattle.pearl_calls.specs.Numberings.{IsNumbering}
use Rattle.pearl_calls.specs.Numbers.{AreNumbers}
use Rattle.pearl_tree.specs.ShownModules.{ShownTree}
use Rattle.pearl_names.specs.Tables.{table_of}
use Rattle.pearl_system.specs.declared.device.SpecifiedDevice.{SpecifiedDevice}
use Rattle.pearl_system.specs.Devices.{IsDevice, device_key}
use Rattle.pearl_system.specs.Rising.{Lists}
use Rattle.pearl_check.specs.Checks.{module_callers}
use Rattle.pearl_program.specs.PlainPrograms.{PlainProg}
use Rattle.pearl_resolve.specs.Resolve.{resolve}

pub record IsProgramOf (tree : ShownTree) (program : PlainProg) : Type 0 where
  pub devices : List SpecifiedDevice
  pub specified : Lists device_key (IsDevice tree) devices
  -- the procedures in the order of their numbers
  pub order : List ℕ
  pub by_rule : IsNumbering (module_callers tree) order
  -- and their numbers in order of declaration
  pub numbers : List ℕ
  pub numbered : AreNumbers order numbers
  pub is : program ≡ resolve (table_of tree) devices numbers tree
