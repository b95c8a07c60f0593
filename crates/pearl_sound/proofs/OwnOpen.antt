-- The names that a routine declares for itself lie in no hidden cell.
use Rattle.std.specs.Prelude.{◌≡◌, ℕ, ◌+◌, ◌≤◌, List, [], ◌∷◌, Some, slice_get}
use Rattle.std.specs.List.{AllByRecursion, sum_by}
use Rattle.std.proofs.Common.{inr, arith}
use Rattle.pearl_tree.specs.ShownModules.{ShownBody}
use Rattle.pearl_names.specs.Tables.{Sense}
use Rattle.pearl_program.specs.Typing.{AreOpen}
use Rattle.pearl_program.specs.HiddenCells.{hidden_in_all}
use Rattle.pearl_resolve.specs.Laying.{cells_of_sense}
use Rattle.pearl_resolve.specs.Numbers.{At, senses_at, routine_start, scope_numbers}
use Rattle.pearl_resolve.specs.Expressions.{Numbered}
use Rattle.pearl_resolve.specs.Resolve.{resolve_routine}
use Rattle.pearl_sound.specs.Laws.{IsNoControl}
use Rattle.pearl_sound.proofs.OwnCells.{not_beyond}
use Rattle.pearl_sound.proofs.HiddenRising.{hidden_apart}

open_before : (hidden : List ℕ) (own cell count : ℕ) → cell + count ≤ own → AllByRecursion (λ other. own ≤ other) hidden →
    AreOpen hidden cell count
open_before [] own cell count fits all = tt
open_before (other ∷ rest) own cell count fits all =
    (inr (let low = all.0 in omega (arith, fits, low)), open_before rest own cell count fits all.1)

pub own_open : (numbered : Numbered) (at : At) (body : ShownBody) (i number : ℕ) (sense : Sense) →
    slice_get (senses_at numbered.table at.next) i ≡ Some sense → IsNoControl sense →
    slice_get (scope_numbers numbered.table 0 (routine_start at)) i ≡ Some number →
    AreOpen (hidden_in_all (resolve_routine numbered at body).body) number (cells_of_sense sense)
own_open numbered at body i number sense there own is =
    open_before (hidden_in_all (resolve_routine numbered at body).body) (sum_by cells_of_sense (senses_at numbered.table at.next)) number
    (cells_of_sense sense)
    (let fits = not_beyond 0 0 (senses_at numbered.table at.next) i number sense there own is in omega (arith, fits))
    (hidden_apart numbered at body).1
