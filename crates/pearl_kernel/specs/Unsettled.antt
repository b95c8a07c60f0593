-- The bits that tell which tasks are active and have offered nothing. No public clause cites this module.
use Rattle.std.specs.Prelude.{◌≡◌, ℕ, ◌<◌, ◌≤◌, List, Bool, true, false, ◌&&◌, Option, length, slice_get}
use Rattle.pearl_bits.specs.Bits.{bit}
use Rattle.pearl_rules.specs.declared.action.Action.{Action}
use Rattle.pearl_rules.specs.declared.row.TaskRow.{TaskRow}
use Rattle.pearl_rules.specs.Core.{is_active_row}
use Rattle.pearl_rules.specs.Runs.{kept_at}
use Rattle.pearl_kernel.specs.Kept.{is_silent}

abbrev pub bit_if : Bool → ℕ
bit_if true = 1
bit_if false = 0

-- a task's bit is set where it is active
pub record AreActive (rows : List TaskRow) (words : List ℕ) : Type 0 where
  pub four : length words ≡ 4
  pub each : (t : ℕ) → t < 256 → bit words t ≡ bit_if (is_active_row (slice_get rows t))

-- a task's bit is set where it is active and has offered nothing
pub record AreUnsettled (rows : List TaskRow) (offers : List (Option Action)) (words : List ℕ) : Type 0 where
  pub few : length rows ≤ 200
  pub few_offers : length offers ≤ 200
  pub four : length words ≡ 4
  pub each : (t : ℕ) → t < 256 → bit words t ≡ bit_if (is_active_row (slice_get rows t) && is_silent (kept_at offers t))
