-- At which device each task's offer waits, and the bits that tell it: a row of 256 over the tasks for each device. No public
-- clause cites this module.
use Rattle.std.specs.Prelude.{◌≡◌, ℕ, ◌+◌, ◌*◌, ◌<◌, ◌≤◌, List, Option, Some, None, length}
use Rattle.pearl_bits.specs.Bits.{bit, Changes}
use Rattle.pearl_rules.specs.declared.action.Action.{Action}
use Rattle.pearl_rules.specs.declared.action.Action.TheVariants.{Get, Take}
use Rattle.pearl_rules.specs.Runs.{kept_at}
use Rattle.pearl_sema.specs.Waiting.{IsBehind}

-- the device at which an action waits: a GET for bytes, a TAKE for a value
abbrev pub device_of : Action → Option ℕ
device_of (Get device format kinds) = Some device
device_of (Take device) = Some device
device_of other = None

-- that of an offer
abbrev pub awaited : Option Action → Option ℕ
awaited None = None
awaited (Some action) = device_of action

-- what a task offers waits at the device
abbrev pub Listens : List (Option Action) → (device t : ℕ) → Type 0
Listens offers device t = awaited (kept_at offers t) ≡ Some device

-- t is the first task behind the other that waits at the device
pub record IsNextListener (offers : List (Option Action)) (device : ℕ) (after : Option ℕ) (t : ℕ) : Type 0 where
  pub behind : IsBehind after t
  pub listens : Listens offers device t
  pub first : (u : ℕ) → IsBehind after u → Listens offers device u → t ≤ u

-- no task behind the other waits at the device
abbrev pub NoneListens : List (Option Action) → (device : ℕ) → Option ℕ → Type 0
NoneListens offers device after = (u : ℕ) → IsBehind after u → Listens offers device u → ⊥

-- a task's bit in a device's row
abbrev pub place : (device t : ℕ) → ℕ
place device t = device * 256 + t

-- a task's bit in a device's row is set exactly where its offer waits there, and it waits only at devices that are there
pub record AreListening (devices : ℕ) (offers : List (Option Action)) (rows : List ℕ) : Type 0 where
  pub few : length offers ≤ 200
  pub few_devices : devices ≤ 396
  pub words : length rows ≡ devices * 4
  pub there : (d t : ℕ) → Listens offers d t → d < devices
  pub member : (d t : ℕ) → Listens offers d t → bit rows (place d t) ≡ 1
  pub real : (d t : ℕ) → t < 256 → d < devices → bit rows (place d t) ≡ 1 → Listens offers d t

-- a task's bit in the row of this device, if there is one, is b now, and no other bit changed
abbrev pub Marks : (old new : List ℕ) (task b : ℕ) → Option ℕ → Type 0
Marks old new task b None = new ≡ old
Marks old new task b (Some device) = Changes old new (place device task) b × (length new ≡ length old)
