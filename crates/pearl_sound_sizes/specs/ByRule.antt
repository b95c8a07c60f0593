-- The program of a module, and which numbers its procedures get by the rule.
use Rattle.std.specs.Prelude.{◌≡◌, ℕ, List, map}
use Rattle.pearl_tree.specs.ShownModules.{ShownTree}
use Rattle.pearl_names.specs.Tables.{table_of}
use Rattle.pearl_system.specs.declared.device.SpecifiedDevice.{SpecifiedDevice}
use Rattle.pearl_calls.specs.Callers.{Caller}
use Rattle.pearl_calls.specs.Numberings.{IsNumbering}
use Rattle.pearl_calls.specs.Numbers.{AreNumbers}
pub use Rattle.pearl_check.specs.Checks.{module_callers}
use Rattle.pearl_program.specs.PlainPrograms.{PlainProg}
use Rattle.pearl_resolve.specs.Resolve.{resolve}

-- with these devices and these numbers of procedures
abbrev pub program : ShownTree → List SpecifiedDevice → List ℕ → PlainProg
program tree devices numbers = resolve (table_of tree) devices numbers tree

abbrev pub calls_in : List Caller → List (List ℕ)
calls_in callers = map (λ (caller : Caller). caller.calls) callers

-- by the calls of the module's procedures, whatever these weigh
pub record AreByRule (tree : ShownTree) (numbers : List ℕ) : Type 0 where
  pub callers : List Caller
  pub calls : calls_in callers ≡ calls_in (module_callers tree)
  pub order : List ℕ
  pub numbering : IsNumbering callers order
  pub are : AreNumbers order numbers
