-- The names of a module: what each stands for, and its number; which numbers its procedures may have, and when devices suit.
use Rattle.std.specs.Prelude.{◌≡◌, ℕ, ◌<◌, nat_eq, List, [], length, Some, unwrap_or, slice_get}
use Rattle.std.specs.List.{AllByRecursion, IsDistinct}
use Rattle.pearl_value.specs.declared.kind.Kind.{Kind}
use Rattle.pearl_value.specs.declared.device.Direction.{Direction}
use Rattle.pearl_tree.specs.ShownModules.{ShownTree}
use Rattle.pearl_names.specs.declared.scope.SortedName.{SortedName}
use Rattle.pearl_names.specs.FirstNames.{repeated}
use Rattle.pearl_names.specs.Found.{names_in}
use Rattle.pearl_names.specs.Tables.{Sense, Interrupt, AlphicDation, BasicDation, table_of}
use Rattle.pearl_system.specs.declared.device.SpecifiedDevice.{SpecifiedDevice}
use Rattle.pearl_program.specs.SoundStatements.{IsInterruptDevice}
use Rattle.pearl_resolve.specs.Numbers.{senses_at, first}
use Rattle.pearl_resolve.specs.Numbers as numbering
use Rattle.pearl_resolve.specs.Expressions.{Numbered}
use Rattle.pearl_sound.specs.SoundNames.{IsTerminal, IsChannel}
use Rattle.pearl_resolve.specs.Resolve.{procedures_in, numbered_of, resolve}

-- where these are the devices, and procedures have these numbers, this name has this sense and this number
pub record IsModuleName (tree : ShownTree) (devices : List SpecifiedDevice) (procedures : List ℕ) (entry : SortedName) (sense : Sense) (number : ℕ) : Type 0 where
  pub index : ℕ
  pub named : slice_get (names_in (slice_get (table_of tree).names 0)) index ≡ Some entry
  pub means : slice_get (senses_at (table_of tree) 0) index ≡ Some sense
  pub numbered : slice_get (unwrap_or (slice_get (numbering.numbers_of (table_of tree) devices procedures tree) 0) []) index ≡ Some number

-- S1 isn't broken in the module's own scope
abbrev pub HasNamesOnce : ShownTree → Type 0
HasNamesOnce tree = repeated (names_in (slice_get (table_of tree).names 0)) ≡ []

-- each procedure has a number below their count, and no two have the same
pub record AreNumbered (numbered : Numbered) (tree : ShownTree) (procedures : List ℕ) : Type 0 where
  pub each : length procedures ≡ length (procedures_in numbered first tree.declarations)
  pub below : AllByRecursion (λ number. number < length procedures) procedures
  pub distinct : IsDistinct nat_eq procedures

abbrev pub AreProcedureNumbers : ShownTree → List SpecifiedDevice → List ℕ → Type 0
AreProcedureNumbers tree devices procedures = AreNumbered (numbered_of (table_of tree) devices procedures tree) tree procedures

-- at the number of an interrupt's or a dation's name stands a device of the sort that the name says
pub record DevicesAreThere (tree : ShownTree) (devices : List SpecifiedDevice) (procedures : List ℕ) : Type 0 where
  pub interrupts : (name : SortedName) (number : ℕ) → IsModuleName tree devices procedures name Interrupt number →
      IsInterruptDevice (slice_get (resolve (table_of tree) devices procedures tree).devices number)
  pub terminals : (name : SortedName) (direction : Direction) (number : ℕ) →
      IsModuleName tree devices procedures name (AlphicDation direction) number →
      IsTerminal direction (slice_get (resolve (table_of tree) devices procedures tree).devices number)
  pub channels : (name : SortedName) (direction : Direction) (kind : Kind) (number : ℕ) →
      IsModuleName tree devices procedures name (BasicDation direction (Some kind)) number →
      IsChannel direction kind (slice_get (resolve (table_of tree) devices procedures tree).devices number)
