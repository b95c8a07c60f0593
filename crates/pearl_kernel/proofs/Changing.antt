-- What each step changes of all that offers wait for.
use Rattle.std.proofs.Common.{◌≡◌, ◌≢◌, ℕ, zero, suc, List, [], ◌∷◌, Bool, false, Option, Some, None}
use Rattle.std.proofs.Common.{◌∙◌, drop, nat_eq, length, slice_get, slice_set, refl, sym, subst, ap}
use Rattle.std.proofs.lemmas.Bool.{eqb-false}
use Rattle.pearl_rules.specs.declared.row.TaskRow.{TaskRow}
use Rattle.pearl_rules.specs.Core.{Core, Channel, Switch, Bytes, Values, Outward, note, row_of, with_row}
use Rattle.pearl_rules.specs.Devices.{bytes_in, values_in, channel_of, with_channel}
use Rattle.pearl_rules.specs.Devices.{without_value, without_value_by}
use Rattle.pearl_rules.specs.Plans.{on_row, each_task, reached, occurred}
use Rattle.pearl_kernel.specs.declared.changes.Changed.{Changed}
use Rattle.pearl_kernel.specs.declared.changes.Changed.TheVariants as changed
use Rattle.pearl_kernel.specs.Kept.{Kept}
use Rattle.pearl_kernel.specs.Channels.{HasSwitch}
use Rattle.pearl_kernel.specs.Changes.{ChangesOnly, Stirs}
use Rattle.pearl_kernel.proofs.Places.{get-other}
use Rattle.pearl_kernel.proofs.OneTask as one
use Rattle.pearl_kernel.proofs.Entries.{unchanged}

-- ROWS AND EVENTS

-- the same counts, channels and formats
pub same_but : (c : Changed) (old core new : Core) → ChangesOnly c old core → new.counts ≡ core.counts →
    new.channels ≡ core.channels → new.formats ≡ core.formats → ChangesOnly c old new
same_but c old core new only counts channels formats = record {
  counts = λ e. counts ∙ only.counts e;
  bytes = λ d e. ap (λ xs. bytes_in (slice_get xs d)) channels ∙ only.bytes d e;
  values = λ d e. ap (λ xs. values_in (slice_get xs d)) channels ∙ only.values d e;
  formats = formats ∙ only.formats;
}

pub closed : (c : Changed) (old : Core) (u : ℕ) → one.Closed (ChangesOnly c old) u
closed c old u = record {
  row = λ core change only. by_row core change only (row_of core u);
  tell = λ core e of only. same_but c old core (note core e) only refl refl refl;
}
  where
    by_row : (core : Core) (change : TaskRow → TaskRow) → ChangesOnly c old core → (row : Option TaskRow) →
        ChangesOnly c old (on_row row core (λ r. with_row core u (change r)))
    by_row core change only None = only
    by_row core change only (Some row) = same_but c old core (with_row core u (change row)) only refl refl refl

-- nothing changes, so only this does
less : (c : Changed) (old core : Core) → ChangesOnly changed.Nothing old core → ChangesOnly c old core
less c old core only = record {
  counts = λ e. only.counts refl;
  bytes = λ d e. only.bytes d refl;
  values = λ d e. only.values d refl;
  formats = only.formats;
}

-- INTERRUPTS

each_kept : (P : Core → Type 0) (change : Core → ℕ → Core) → ((core : Core) (u : ℕ) → P core → P (change core u)) →
    (n : ℕ) (core : Core) → P core → P (each_task change n core)
each_kept P change step zero core p = p
each_kept P change step (suc n) core p = step (each_task change n core) n (each_kept P change step n core p)

occurred_changes : (old core : Core) (d : ℕ) → ChangesOnly changed.Nothing old core →
    ChangesOnly changed.Nothing old (occurred core d)
occurred_changes old core d only =
    each_kept (ChangesOnly changed.Nothing old) (reached d)
    (λ c u. one.reached-kept (ChangesOnly changed.Nothing old) u (closed changed.Nothing old u) d c)
    (length core.tasks) core only

-- an interrupt was let through
pub stirs-occurred : (k new : Kept) (d : ℕ) → new ≡ record k { core = occurred k.core d } →
    Stirs k.core new.core (Some changed.Nothing)
stirs-occurred k new d e = (
  tt,
  subst (λ (x : Kept). ChangesOnly changed.Nothing k.core x.core) (sym e)
      (occurred_changes k.core k.core d (unchanged k.core)),
)

-- WHAT WAITS AT A DEVICE

other_device : (d e : ℕ) → nat_eq d e ≡ false → e ≢ d
other_device d e h = λ same. eqb-false d e h (sym same)

channel_changes : (old core : Core) (d : ℕ) (channel : Channel) → ChangesOnly (changed.Device d) old core →
    ChangesOnly (changed.Device d) old (with_channel core d channel)
channel_changes old core d channel only = record {
  counts = only.counts;
  bytes = λ e h. ap bytes_in (get-other core.channels d e channel (other_device d e h)) ∙ only.bytes e h;
  values = λ e h. ap values_in (get-other core.channels d e channel (other_device d e h)) ∙ only.values e h;
  formats = only.formats;
}

pub stirs-channel : (k new : Kept) (d : ℕ) (channel : Channel) →
    new ≡ record k { core = with_channel k.core d channel } → Stirs k.core new.core (Some (changed.Device d))
stirs-channel k new d channel is = (
  ap (λ (x : Kept). x.core.tasks) is,
  subst (λ (x : Kept). ChangesOnly (changed.Device d) k.core x.core) (sym is)
      (channel_changes k.core k.core d channel (less (changed.Device d) k.core k.core (unchanged k.core))),
)

pub stirs-value : (k new : Kept) (d : ℕ) → new ≡ record k { core = without_value k.core d } →
    Stirs k.core new.core (Some (changed.Device d))
stirs-value k new d is = (
  ap (λ (x : Kept). x.core.tasks) is ∙ same_tasks (channel_of k.core d),
  subst (λ (x : Kept). ChangesOnly (changed.Device d) k.core x.core) (sym is) (by_channel (channel_of k.core d)),
)
  where
    same_tasks : (channel : Option Channel) → (without_value_by channel k.core d).tasks ≡ k.core.tasks
    same_tasks None = refl
    same_tasks (Some (Switch enabled)) = refl
    same_tasks (Some (Bytes pending)) = refl
    same_tasks (Some (Values kind pending)) = refl
    same_tasks (Some Outward) = refl

    only : ChangesOnly (changed.Device d) k.core k.core
    only = less (changed.Device d) k.core k.core (unchanged k.core)

    by_channel : (channel : Option Channel) → ChangesOnly (changed.Device d) k.core (without_value_by channel k.core d)
    by_channel None = only
    by_channel (Some (Switch enabled)) = only
    by_channel (Some (Bytes pending)) = only
    by_channel (Some (Values kind pending)) = channel_changes k.core k.core d (Values kind (drop 1 pending)) only
    by_channel (Some Outward) = only

-- an interrupt is let through or masked
module _ {X : Type 0} (look : Option Channel → X)
    (no_switch : (a b : Bool) → look (Some (Switch a)) ≡ look (Some (Switch b))) where
  channel_same : (channel : Channel) (enabled : Bool) → HasSwitch (Some channel) →
      look (Some (Switch enabled)) ≡ look (Some channel)
  channel_same (Switch before) enabled is = no_switch enabled before
  channel_same (Bytes pending) enabled is = absurd is
  channel_same (Values kind pending) enabled is = absurd is
  channel_same Outward enabled is = absurd is

  pub switch_same : (channels : List Channel) (u d : ℕ) (enabled : Bool) → HasSwitch (slice_get channels u) →
      look (slice_get (slice_set channels u (Switch enabled)) d) ≡ look (slice_get channels d)
  switch_same [] u d enabled is = refl
  switch_same (channel ∷ channels) zero zero enabled is = channel_same channel enabled is
  switch_same (channel ∷ channels) zero (suc d) enabled is = refl
  switch_same (channel ∷ channels) (suc u) zero enabled is = refl
  switch_same (channel ∷ channels) (suc u) (suc d) enabled is = switch_same channels u d enabled is

pub switch-changes : (core : Core) (u : ℕ) (enabled : Bool) → HasSwitch (channel_of core u) →
    ChangesOnly changed.Nothing core (with_channel core u (Switch enabled))
switch-changes core u enabled is = record {
  counts = λ e. refl;
  bytes = λ d e. switch_same bytes_in (λ a b. refl) core.channels u d enabled is;
  values = λ d e. switch_same values_in (λ a b. refl) core.channels u d enabled is;
  formats = refl;
}
