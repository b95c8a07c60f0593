-- How far the GET that each task offers has come in the bytes that wait at its terminal. No public clause cites this module.
use Rattle.std.specs.Prelude.{◌≡◌, ◌≢◌, ℕ, ◌≤◌, List, ◌++◌, Bool, true, false, Option, Some, None, length, nat_eq, slice_get, slice_index_or}
use Rattle.std.specs.List.{AllByRecursion}
use Rattle.pearl_value.specs.declared.kind.Kind.{Kind}
use Rattle.pearl_value.specs.Kinds.{IsKind}
use Rattle.pearl_format.specs.declared.item.Item.{Item}
use Rattle.pearl_rules.specs.declared.action.Action.{Action}
use Rattle.pearl_rules.specs.declared.action.Action.TheVariants.{Get}
use Rattle.pearl_rules.specs.Core.{Channel}
use Rattle.pearl_rules.specs.Devices.{bytes_in}
use Rattle.pearl_rules.specs.Runs.{kept_at}
use Rattle.pearl_rules.specs.Tables.{items_or_none}
use Rattle.pearl_scan.specs.declared.progress.Progress.{Progress}
use Rattle.pearl_scan.specs.declared.progress.Progress.TheVariants.{Complete}
use Rattle.pearl_scan.specs.Progress.{IsProgress}

-- a GET for targets of kinds that there are has come so far
pub record IsAskedGet (items : List Item) (kinds : List Kind) (bytes : List ℕ) (p : Progress) : Type 0 where
  pub few : length kinds ≤ 64
  pub are : AllByRecursion IsKind kinds
  pub progress : IsProgress items kinds bytes p

-- an action that is a GET has come so far; of others nothing is said
abbrev pub IsAskedOf : (formats : List (List Item)) → List Channel → Action → Progress → Type 0
IsAskedOf formats channels (Get device format kinds) p =
    IsAskedGet (items_or_none (slice_get formats format)) kinds.items (bytes_in (slice_get channels device)) p
IsAskedOf formats channels other p = Unit {0}

abbrev pub IsAsked : (formats : List (List Item)) → List Channel → Option Action → Progress → Type 0
IsAsked formats channels None p = Unit {0}
IsAsked formats channels (Some action) p = IsAskedOf formats channels action p

abbrev pub progress_at : List Progress → ℕ → Progress
progress_at progress t = slice_index_or progress t Complete

-- it is kept of each task's offer how far it has come
pub record AreAsked (offers : List (Option Action)) (formats : List (List Item)) (channels : List Channel) (progress : List Progress) : Type 0 where
  pub size : length progress ≡ length offers
  pub each : (t : ℕ) → IsAsked formats channels (kept_at offers t) (progress_at progress t)

-- one task's offer is another action, and it is kept how far that has come
pub record IsKept (formats : List (List Item)) (channels : List Channel) (task : ℕ) (action : Action) (old new : List Progress) : Type 0 where
  pub size : length new ≡ length old
  pub this : IsAskedOf formats channels action (progress_at new task)
  pub others : (t : ℕ) → t ≢ task → progress_at new t ≡ progress_at old t

abbrev pub is_get : Action → Bool
is_get (Get device format kinds) = true
is_get other = false

-- whether an action is a GET at this device
abbrev pub gets_at : (device : ℕ) → Action → Bool
gets_at device (Get other format kinds) = nat_eq other device
gets_at device other = false

-- the same waits as before at all other devices; and at this one more bytes behind the others, unless all is asked anew
pub record Comes (anew : Bool) (device : ℕ) (old channels : List Channel) : Type 0 where
  pub here : anew ≡ false → (text : List ℕ) × (bytes_in (slice_get channels device) ≡ bytes_in (slice_get old device) ++ text)
  pub others : (d : ℕ) → d ≢ device → bytes_in (slice_get channels d) ≡ bytes_in (slice_get old d)
