-- What of all that decides whether an offer can be done may have changed, and whose offers are asked again after that.
use Rattle.std.specs.Prelude.{◌≡◌, ◌≢◌, ◌⊎◌, ℕ, ◌<◌, Bool, true, false, Option, Some, None, length, nat_eq}
use Rattle.std.specs.Prelude.{slice_get, if◌then◌else◌}
use Rattle.pearl_rules.specs.declared.action.Action.{Action}
use Rattle.pearl_rules.specs.declared.action.Action.TheVariants.{Request, Get, Take}
use Rattle.pearl_rules.specs.Core.{Core}
use Rattle.pearl_rules.specs.Devices.{bytes_at, values_at}
use Rattle.pearl_rules.specs.Pick.{guard}
use Rattle.pearl_kernel.specs.declared.changes.Changed.{Changed}
use Rattle.pearl_kernel.specs.declared.changes.Changed.TheVariants.{Nothing, Counts, Device}
use Rattle.pearl_kernel.specs.Kept.{Kept, offered}
use Rattle.pearl_kernel.specs.Eligible.{Stand, able_at, entry_if, IsSameAt}
use Rattle.pearl_kernel.specs.Listening.{Listens}

abbrev pub is_counts : Changed → Bool
is_counts Counts = true
is_counts other = false

abbrev pub is_device : Changed → ℕ → Bool
is_device (Device changed) device = nat_eq changed device
is_device other device = false

-- of the counts, and of what waits at devices, at most this changed
pub record ChangesOnly (changed : Changed) (old core : Core) : Type 0 where
  pub counts : is_counts changed ≡ false → core.counts ≡ old.counts
  pub bytes : (d : ℕ) → is_device changed d ≡ false → bytes_at core d ≡ bytes_at old d
  pub values : (d : ℕ) → is_device changed d ≡ false → values_at core d ≡ values_at old d
  pub formats : core.formats ≡ old.formats

-- where what waits at a device changed, the tasks are as they were
abbrev pub KeepsTasks : Changed → Core → Core → Type 0
KeepsTasks (Device device) old new = new.tasks ≡ old.tasks
KeepsTasks other old new = Unit {0}

-- None: the tasks and all that their offers wait for are as they were. Else at most this changed of what they wait for.
abbrev pub Stirs : Core → Core → Option Changed → Type 0
Stirs old new None = (new.tasks ≡ old.tasks) × ChangesOnly Nothing old new
Stirs old new (Some changed) = KeepsTasks changed old new × ChangesOnly changed old new

-- whether an action waits for what changed
abbrev pub looks_at : Changed → Action → Bool
looks_at changed (Request semaphores) = is_counts changed
looks_at changed (Get device format kinds) = is_device changed device
looks_at changed (Take device) = is_device changed device
looks_at changed other = false

-- whether an offer can be done, where this was so of what was offered before: it is asked where the offer waits for what changed
abbrev pub renewed_offer : Changed → Core → Option Action → (before : Bool) → Bool
renewed_offer changed core None before = false
renewed_offer changed core (Some action) before = if looks_at changed action then guard core action else before

abbrev pub renewed : Changed → Kept → ℕ → (before : Bool) → Bool
renewed changed k t before = renewed_offer changed k.core (offered k t) before

-- what is kept of a task is renewed
pub record IsRenewedAt (k : Kept) (changed : Changed) (old new : Stand) (t : ℕ) : Type 0 where
  pub able : slice_get new.able t ≡ Some (renewed changed k t (able_at old t))
  pub set : slice_get new.set t ≡ Some (entry_if k t (renewed changed k t (able_at old t)))

-- what is kept of one task is renewed, and of the others it is as before
pub record Renews (k : Kept) (changed : Changed) (u : ℕ) (old new : Stand) : Type 0 where
  pub size : length new.able ≡ length old.able
  pub set_size : length new.set ≡ length old.set
  pub here : IsRenewedAt k changed old new u
  pub others : (t : ℕ) → t ≢ u → IsSameAt old new t

-- what is kept of each task is renewed, or of a task that may be left it is as before
pub record AreRenewedBut (k : Kept) (changed : Changed) (MayBeLeft : ℕ → Type 0) (old new : Stand) : Type 0 where
  pub size : length new.able ≡ length old.able
  pub set_size : length new.set ≡ length old.set
  pub each : (t : ℕ) → t < length k.core.tasks → IsRenewedAt k changed old new t ⊎ (MayBeLeft t × IsSameAt old new t)

-- where what waits at a device changed, a task may be left whose offer doesn't wait there; else none may
abbrev pub IsUnmoved : Kept → Changed → ℕ → Type 0
IsUnmoved k (Device device) t = Listens k.offers device t → ⊥
IsUnmoved k other t = ⊥

-- what is kept of all others is renewed where something changed; else all that is kept is as before
abbrev pub AreRenewedIf : Kept → Option Changed → Stand → Stand → Type 0
AreRenewedIf k None old new = new ≡ old
AreRenewedIf k (Some changed) old new = AreRenewedBut k changed (IsUnmoved k changed) old new
