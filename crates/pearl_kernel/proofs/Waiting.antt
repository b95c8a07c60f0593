-- Channels of which one is changed.
use Rattle.std.proofs.Common.{◌≡◌, ℕ, zero, suc, ◌<◌, List, [], ◌∷◌, ◌++◌, Bool, true, false, Option, Some, None, Result, Ok, Err}
use Rattle.std.proofs.Common.{drop, length, nat_lt, slice_get, slice_set, slice_index_or, refl, sym, ap, ◌∙◌, arith, if◌then◌else◌}
use Rattle.std.proofs.lemmas.Option.{same_Some, slice_get_within}
use Rattle.pearl_value.specs.declared.cell.Cell.{Cell}
use Rattle.pearl_value.specs.declared.kind.Kind.{Kind}
use Rattle.pearl_value.specs.declared.trap.Trap.{Trap}
use Rattle.pearl_value.specs.Conversions.{converted}
use Rattle.pearl_rules.specs.declared.event.Event.TheVariants as event
use Rattle.pearl_rules.specs.Core.{Core, Channel, Switch, Bytes, Values, Outward, note}
use Rattle.pearl_rules.specs.Devices.{channel_of, with_channel, bytes_in, bytes_at, values_in, values_at, input_room, joined}
use Rattle.pearl_rules.specs.Devices.{without_bytes, with_value_by, with_value, without_value_by, without_value}
use Rattle.pearl_kernel.specs.Channels.{HasSwitch, HasBytes, HasValuesFor, behind, taken_in, taken_in_of, without_oldest}
use Rattle.pearl_kernel.specs.Kept.{Kept}

-- a place that is written with what stands there
pub set_same : {X : Type 0} (xs : List X) (i : ℕ) (x : X) → slice_get xs i ≡ Some x → slice_set xs i x ≡ xs
set_same [] i x e = refl
set_same (y ∷ xs) zero x e = ap (λ z. z ∷ xs) (sym (same_Some y x e))
set_same (y ∷ xs) (suc i) x e = ap (λ zs. y ∷ zs) (set_same xs i x e)

pub get-is : {X : Type 0} (xs : List X) (i : ℕ) (x : X) → i < length xs → x ≡ slice_index_or xs i x → slice_get xs i ≡ Some x
get-is [] i x within e = let no : ⊥ = omega arith in absurd no
get-is (y ∷ xs) zero x within e = ap (λ z. Some z) (sym e)
get-is (y ∷ xs) (suc i) x within e = get-is xs i x (omega arith) e

pub bytes-there : (core : Core) (device : ℕ) → HasBytes (channel_of core device) → device < length core.channels
bytes-there core device is = by_channel (channel_of core device) refl is
  where
    by_channel : (channel : Option Channel) → channel_of core device ≡ channel → HasBytes channel →
        device < length core.channels
    by_channel None e is = absurd is
    by_channel (Some channel) e is = slice_get_within core.channels device channel e

pub switch-there : (core : Core) (device : ℕ) → HasSwitch (channel_of core device) → device < length core.channels
switch-there core device is = by_channel (channel_of core device) refl is
  where
    by_channel : (channel : Option Channel) → channel_of core device ≡ channel → HasSwitch channel →
        device < length core.channels
    by_channel None e is = absurd is
    by_channel (Some channel) e is = slice_get_within core.channels device channel e

pub values-there : (core : Core) (device : ℕ) (x : Cell) → HasValuesFor x (channel_of core device) →
    device < length core.channels
values-there core device x is = by_channel (channel_of core device) refl is
  where
    by_channel : (channel : Option Channel) → channel_of core device ≡ channel → HasValuesFor x channel →
        device < length core.channels
    by_channel None e is = absurd is
    by_channel (Some channel) e is = slice_get_within core.channels device channel e

module _ (k : Kept) (device : ℕ) where
  abbrev put : Channel → Kept
  put channel = record k { core = with_channel k.core device channel }

  put_same : (old : Channel) → channel_of k.core device ≡ Some old → put old ≡ k
  put_same old at = ap (λ channels. record k { core = record k.core { channels = channels } })
      (set_same k.core.channels device old at)

  -- no byte is used up
  pub none-used : HasBytes (channel_of k.core device) → k ≡ record k { core = without_bytes k.core device 0 }
  none-used is = by_channel (channel_of k.core device) refl is
    where
      by_channel : (channel : Option Channel) → channel_of k.core device ≡ channel → HasBytes channel →
          k ≡ put (Bytes (drop 0 (bytes_at k.core device)))
      by_channel (Some (Bytes pending)) at is =
          sym (ap (λ c. put (Bytes (drop 0 (bytes_in c)))) at ∙ put_same (Bytes pending) at)
      by_channel None at is = absurd is
      by_channel (Some (Switch enabled)) at is = absurd is
      by_channel (Some (Values kind pending)) at is = absurd is
      by_channel (Some Outward) at is = absurd is

  pub added : (text : List ℕ) (old new : Channel) (room : Bool) → channel_of k.core device ≡ Some old →
      new ≡ (if room then Bytes (bytes_in (Some old) ++ text) else old) →
      put new ≡ (if room then put (Bytes (bytes_at k.core device ++ text)) else k)
  added text old new true at e = ap put (e ∙ ap (λ c. Bytes (bytes_in c ++ text)) (sym at))
  added text old new false at e = ap put e ∙ put_same old at

  pub took-in : (x : Cell) (old new : Channel) (room : Bool) → channel_of k.core device ≡ Some old →
      new ≡ (if room then taken_in old x else old) →
      put new ≡ (if room then put (taken_in_of (channel_of k.core device) x) else k)
  took-in x old new true at e = ap put (e ∙ ap (λ c. taken_in_of c x) (sym at))
  took-in x old new false at e = ap put e ∙ put_same old at

  pub served-one : (old new : Channel) → channel_of k.core device ≡ Some old → new ≡ without_oldest old →
      put new ≡ record k { core = without_value k.core device }
  served-one old new at e = ap put e ∙ by_channel old at
      ∙ ap (λ c. record k { core = without_value_by c k.core device }) (sym at)
    where
      by_channel : (old : Channel) → channel_of k.core device ≡ Some old →
          put (without_oldest old) ≡ record k { core = without_value_by (Some old) k.core device }
      by_channel (Switch enabled) at = put_same (Switch enabled) at
      by_channel (Bytes pending) at = put_same (Bytes pending) at
      by_channel (Values kind pending) at = refl
      by_channel Outward at = put_same Outward at

  pub came-in : (x : Cell) → HasValuesFor x (channel_of k.core device) →
      nat_lt (length (values_at k.core device)) input_room ≡ true →
      put (taken_in_of (channel_of k.core device) x) ≡ record k { core = with_value k.core device x }
  came-in x is room = by_channel (channel_of k.core device) refl is room
    where
      by_value : (kind : Kind) (pending : List Cell) → channel_of k.core device ≡ Some (Values kind pending) →
          (value : Result Cell Trap) →
          put (Values kind (behind kind pending value)) ≡ record k { core = joined k.core device kind pending value }
      by_value kind pending at (Err trap) = put_same (Values kind pending) at
      by_value kind pending at (Ok y) = refl

      by_channel : (channel : Option Channel) → channel_of k.core device ≡ channel → HasValuesFor x channel →
          nat_lt (length (values_in channel)) input_room ≡ true →
          put (taken_in_of channel x) ≡ record k { core = with_value_by channel k.core device x }
      by_channel None at is room = absurd is
      by_channel (Some (Switch enabled)) at is room = absurd is
      by_channel (Some (Bytes pending)) at is room = absurd is
      by_channel (Some Outward) at is room = absurd is
      by_channel (Some (Values kind pending)) at is room =
          by_value kind pending at (converted x kind)
          ∙ ap (λ b. record k {
            core = if b then joined k.core device kind pending (converted x kind)
                else note k.core (event.Lost device);
          }) (sym room)
