-- Interrupts that are let through or masked, what comes in, and what TAKE and GET have of it.
use Rattle.std.proofs.Common.{◌≡◌, ◌↔◌, ◌≢◌, drop, ℕ, ◌<◌, ◌≤◌, List, [], ◌∷◌, ◌++◌, true, false, IsTrue, nat_lt, Option, None, Ok, Err, lt-ltb, le-ltb, if◌then◌else◌, nat_le, Some, length, refl, sym, ap, subst, ◌∙◌, le-leb}
use Rattle.std.proofs.lemmas.Bool.{true≢false, lt-leb}
use Rattle.pearl_value.specs.declared.cell.Cell.{Cell}
use Rattle.pearl_value.specs.declared.cell.Cell.TheVariants.{Clock}
use Rattle.pearl_value.specs.declared.kind.Kind.{Kind}
use Rattle.pearl_value.specs.declared.trap.Trap.{Trap}
use Rattle.pearl_value.specs.declared.trap.Trap.TheVariants.{Format}
use Rattle.arrayvec.specs.ArrayVec.{ArrayVec}
use Rattle.pearl_value.specs.Conversions.{converted}
use Rattle.pearl_rules.specs.declared.action.Action.TheVariants as action
use Rattle.pearl_rules.specs.declared.action.Answer.TheVariants.{Nothing, One, Many}
use Rattle.pearl_rules.specs.declared.event.Event.TheVariants as event
use Rattle.pearl_rules.specs.declared.row.TaskRow.{TaskRow}
use Rattle.pearl_rules.specs.Core.{Core, Channel, Switch, Bytes, Values, Outward, Happened, note, row_of}
use Rattle.pearl_rules.specs.Plans.{time_at}
use Rattle.pearl_rules.specs.Devices.{channel_of, items_of, bytes_at, without_bytes, with_channel, interrupted, bytes_in, values_in, terminal_room, input_room, with_bytes, joined, with_value_by, with_value, without_value_by}
use Rattle.pearl_rules.specs.Effect.{Hears, answering, ending, getting, taking, effect}
use Rattle.pearl_rules.specs.Pick.{guard, is_some_value, is_complete}
use Rattle.pearl_rules.specs.Scan.{Scanned, Short, Bad, Got, scan}
use Rattle.pearl_rules.proofs.Offered.{set-same, set-other}
use Rattle.pearl_rules_laws.specs.Plans.{ChangesChannel, ValueWaits, BreaksOff}
use Rattle.pearl_rules_laws.proofs.Planning.{ended_by}

-- a channel that is there is written
channel_changes : (core : Core) (device : ℕ) (before channel : Channel) → channel_of core device ≡ Some before →
    ChangesChannel core (with_channel core device channel) device channel
channel_changes core device before channel at = record {
  this = set-same core.channels device before channel at;
  others = λ other differ. set-other core.channels device other channel differ;
  rest = refl;
}

module _ (core : Core) (own device : ℕ) where
  pub enable_lets_through : (before : Channel) → channel_of core device ≡ Some before →
      ChangesChannel (record core { last = Some own }) (effect core own (action.Enable device)).core device (Switch true)
  unfolding effect
  enable_lets_through before at = channel_changes (record core { last = Some own }) device before (Switch true) at

  pub disable_masks : (before : Channel) → channel_of core device ≡ Some before →
      ChangesChannel (record core { last = Some own }) (effect core own (action.Disable device)).core device (Switch false)
  unfolding effect
  disable_masks before at = channel_changes (record core { last = Some own }) device before (Switch false) at

  pub trigger_occurs : effect core own (action.Trigger device) ≡ answering (interrupted (record core { last = Some own }) device) Nothing
  unfolding effect
  trigger_occurs = refl

pub now_answers : (core : Core) (own : ℕ) → effect core own action.Now
    ≡ answering (record core { last = Some own }) (One (Clock (time_at core core.moment)))
unfolding effect
now_answers core own = refl

-- BYTES

-- the bytes at a terminal, and more
joined_bytes : (core : Core) (device : ℕ) (pending text : List ℕ) → channel_of core device ≡ Some (Bytes pending) → with_bytes core device text
    ≡ (if nat_le (length (pending ++ text)) terminal_room then with_channel core device (Bytes (pending ++ text)) else note core (event.Lost device))
joined_bytes core device pending text at =
    ap (λ waits. if nat_le (length (waits ++ text)) terminal_room then with_channel core device (Bytes (waits ++ text)) else note core (event.Lost device))
    (ap bytes_in at)

pub bytes_join : (core : Core) (device : ℕ) (pending text : List ℕ) → channel_of core device ≡ Some (Bytes pending) → length (pending ++ text) ≤ 4096 →
    ChangesChannel core (with_bytes core device text) device (Bytes (pending ++ text))
bytes_join core device pending text at room =
    subst (λ c. ChangesChannel core c device (Bytes (pending ++ text)))
    (sym (joined_bytes core device pending text at
    ∙ ap (λ b. if b then with_channel core device (Bytes (pending ++ text)) else note core (event.Lost device)) (le-leb (length (pending ++ text)) 4096 room)))
    (channel_changes core device (Bytes pending) (Bytes (pending ++ text)) at)

pub bytes_lost : (core : Core) (device : ℕ) (pending text : List ℕ) → channel_of core device ≡ Some (Bytes pending) → 4096 < length (pending ++ text) →
    with_bytes core device text ≡ note core (event.Lost device)
bytes_lost core device pending text at full =
    joined_bytes core device pending text at
    ∙ ap (λ b. if b then with_channel core device (Bytes (pending ++ text)) else note core (event.Lost device)) (lt-leb (length (pending ++ text)) 4096 full)

-- VALUES

pub take_answers : (core : Core) (own device : ℕ) (kind : Kind) (x : Cell) (later : List Cell) →
    channel_of core device ≡ Some (Values kind (x ∷ later)) →
    ((effect core own (action.Take device)).reply ≡ Hears (One x))
    × ChangesChannel (record core { last = Some own }) (effect core own (action.Take device)).core device (Values kind later)
unfolding effect
take_answers core own device kind x later at =
    subst (λ done. (done.reply ≡ Hears (One x)) × ChangesChannel acted done.core device (Values kind later)) (sym is)
    (refl, channel_changes acted device (Values kind (x ∷ later)) (Values kind later) at)
  where
    acted : Core
    acted = record core { last = Some own }

    is : taking acted own device (values_in (channel_of core device)) ≡ answering (with_channel acted device (Values kind later)) (One x)
    is =
        ap (λ channel. taking acted own device (values_in channel)) at
        ∙ ap (λ channel. answering (without_value_by channel acted device) (One x)) at

-- where a TAKE can be done
pub take_waits : (core : Core) (device : ℕ) → IsTrue (guard core (action.Take device)) ↔ ValueWaits core device
take_waits core device = (by_channel (channel_of core device) refl, able)
  where
    by_values : (kind : Kind) (pending : List Cell) → channel_of core device ≡ Some (Values kind pending) → IsTrue (is_some_value pending) →
        ValueWaits core device
    by_values kind [] at is = absurd (true≢false (sym is))
    by_values kind (x ∷ later) at is = record { kind = kind; oldest = x; later = later; stands = at }

    by_channel : (channel : Option Channel) → channel_of core device ≡ channel → IsTrue (is_some_value (values_in channel)) → ValueWaits core device
    by_channel None at is = absurd (true≢false (sym is))
    by_channel (Some (Switch enabled)) at is = absurd (true≢false (sym is))
    by_channel (Some (Bytes pending)) at is = absurd (true≢false (sym is))
    by_channel (Some (Values kind pending)) at is = by_values kind pending at is
    by_channel (Some Outward) at is = absurd (true≢false (sym is))

    able : ValueWaits core device → IsTrue (guard core (action.Take device))
    able waits = ap (λ channel. is_some_value (values_in channel)) waits.stands

pub send_tells : (core : Core) (own device : ℕ) (value : Cell) → effect core own (action.Send device value) ≡ answering
    (record core { last = Some own; told = core.told ++ (core.moment, Happened (event.Send device value)) ∷ [] }) Nothing
unfolding effect
send_tells core own device value = refl

module _ (core : Core) (device : ℕ) (kind : Kind) (pending : List Cell) (x : Cell) (at : channel_of core device ≡ Some (Values kind pending)) where
  value_comes : with_value core device x
      ≡ (if nat_lt (length pending) input_room then joined core device kind pending (converted x kind) else note core (event.Lost device))
  value_comes = ap (λ channel. with_value_by channel core device x) at

  value_with_room : length pending < 256 → with_value core device x ≡ joined core device kind pending (converted x kind)
  value_with_room room =
      value_comes
      ∙ ap (λ b. if b then joined core device kind pending (converted x kind) else note core (event.Lost device)) (lt-ltb (length pending) 256 room)

  value_full : 256 ≤ length pending → with_value core device x ≡ note core (event.Lost device)
  value_full full =
      value_comes
      ∙ ap (λ b. if b then joined core device kind pending (converted x kind) else note core (event.Lost device)) (le-ltb (length pending) 256 full)

pub value_joins : (core : Core) (device : ℕ) (kind : Kind) (pending : List Cell) (x y : Cell) → channel_of core device ≡ Some (Values kind pending) →
    length pending < 256 → converted x kind ≡ Ok y → ChangesChannel core (with_value core device x) device (Values kind (pending ++ y ∷ []))
value_joins core device kind pending x y at room fits =
    subst (λ c. ChangesChannel core c device (Values kind (pending ++ y ∷ [])))
    (sym (value_with_room core device kind pending x at room ∙ ap (joined core device kind pending) fits))
    (channel_changes core device (Values kind pending) (Values kind (pending ++ y ∷ [])) at)

pub value_lost : (core : Core) (device : ℕ) (kind : Kind) (pending : List Cell) (x : Cell) → channel_of core device ≡ Some (Values kind pending) →
    256 ≤ length pending → with_value core device x ≡ note core (event.Lost device)
value_lost core device kind pending x at full = value_full core device kind pending x at full

pub value_outside : (core : Core) (device : ℕ) (kind : Kind) (pending : List Cell) (x : Cell) (trap : Trap) →
    channel_of core device ≡ Some (Values kind pending) → length pending < 256 → converted x kind ≡ Err trap → with_value core device x ≡ core
value_outside core device kind pending x trap at room outside =
    value_with_room core device kind pending x at room ∙ ap (joined core device kind pending) outside

-- GET

-- a scan that isn't short is complete
complete_is : (found : Scanned) → (IsTrue (is_complete found)) ↔ (found ≢ Short)
complete_is found = (λ is e. true≢false (sym is ∙ ap is_complete e), by_case found)
  where
    by_case : (s : Scanned) → s ≢ Short → IsTrue (is_complete s)
    by_case Short other = absurd (other refl)
    by_case (Bad used) other = refl
    by_case (Got used values) other = refl

pub get_waits : (core : Core) (device format : ℕ) (kinds : ArrayVec Kind) → IsTrue (guard core (action.Get device format kinds))
    ↔ (scan (items_of core format) kinds.items (bytes_at core device) ≢ Short)
get_waits core device format kinds = complete_is (scan (items_of core format) kinds.items (bytes_at core device))

module _ (core : Core) (own device format : ℕ) (kinds : ArrayVec Kind) (pending : List ℕ) (at : channel_of core device ≡ Some (Bytes pending)) where
  -- the core in which the task acted last
  abbrev acting : Core
  acting = record core { last = Some own }

  -- what the bytes that wait come to
  get_is : (found : Scanned) → scan (items_of core format) kinds.items pending ≡ found →
      effect core own (action.Get device format kinds) ≡ getting acting own device found
  unfolding effect
  get_is found is =
      ap (λ channel. getting acting own device (scan (items_of core format) kinds.items (bytes_in channel))) at ∙ ap (getting acting own device) is

  -- so many bytes are gone
  bytes_gone : (used : ℕ) → without_bytes acting device used ≡ with_channel acting device (Bytes (drop used pending))
  bytes_gone used = ap (λ channel. with_channel acting device (Bytes (drop used (bytes_in channel)))) at

pub get_reads : (core : Core) (own device format : ℕ) (kinds : ArrayVec Kind) (pending : List ℕ) (used : ℕ) (values : List Cell) →
    channel_of core device ≡ Some (Bytes pending) → scan (items_of core format) kinds.items pending ≡ Got used values →
    ((effect core own (action.Get device format kinds)).reply ≡ Hears (Many (record { items = values })))
    × ChangesChannel (record core { last = Some own }) (effect core own (action.Get device format kinds)).core device (Bytes (drop used pending))
get_reads core own device format kinds pending used values at is =
    subst (λ done. (done.reply ≡ Hears (Many (record { items = values })))
    × ChangesChannel (record core { last = Some own }) done.core device (Bytes (drop used pending)))
    (sym (get_is core own device format kinds pending at (Got used values) is
    ∙ ap (λ c. answering c (Many (record { items = values }))) (bytes_gone core own device format kinds pending at used)))
    (refl, channel_changes (record core { last = Some own }) device (Bytes pending) (Bytes (drop used pending)) at)

pub get_breaks_off : (core : Core) (own device format : ℕ) (kinds : ArrayVec Kind) (pending : List ℕ) (used : ℕ) (row : TaskRow) →
    channel_of core device ≡ Some (Bytes pending) → row_of core own ≡ Some row → scan (items_of core format) kinds.items pending ≡ Bad used →
    BreaksOff core own device (Bytes (drop used pending)) row Format (effect core own (action.Get device format kinds))
get_breaks_off core own device format kinds pending used row at stands is =
    subst (λ done. BreaksOff core own device (Bytes (drop used pending)) row Format done)
    (sym (get_is core own device format kinds pending at (Bad used) is
    ∙ ap (λ c. ending c own (event.Trap own Format)) (bytes_gone core own device format kinds pending at used)))
    (record {
      between = between;
      channel_changes = channel_changes (record core { last = Some own }) device (Bytes pending) (Bytes (drop used pending)) at;
      row_changes = ended_by between own row stands (event.Trap own Format);
      replies = refl;
      ends = refl;
    })
  where
    between : Core
    between = with_channel (record core { last = Some own }) device (Bytes (drop used pending))
