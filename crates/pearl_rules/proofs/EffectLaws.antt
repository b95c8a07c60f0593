-- What every action, every millisecond and whatever comes in keeps: the tasks with their declared priorities, what was told, and the
-- kinds of all values; and that what a task hears suits its action.
use Rattle.std.proofs.Common.{◌≡◌, ◌≢◌, ℕ, zero, suc, ◌+◌, ◌%◌, ◌<◌, ◌≤◌, inl, inr, List, [], ◌∷◌, ◌++◌, Bool, true, false, nat_eq, nat_lt, nat_le, if◌then◌else◌, IfSome, IsSome, Option, Some, None, Result, Ok, Err, map, length, drop, slice_get, slice_set, refl, sym, ap, subst, ◌∙◌, append-nil, append_assoc, arith, ltb-true, leb-true}
use Rattle.std.specs.List.{AllByRecursion, AllZip}
use Rattle.std.proofs.lemmas.Bool.{eqb-false, false≢true}
use Rattle.std.proofs.lemmas.Option.{same_Some}
use Rattle.std.proofs.lemmas.List.{length-map, length-drop, length_push}
use Rattle.pearl_value.specs.declared.cell.Cell.{Cell}
use Rattle.pearl_value.specs.declared.cell.Cell.TheVariants.{Bits, Clock}
use Rattle.pearl_value.specs.declared.kind.Kind.{Kind}
use Rattle.pearl_value.specs.declared.kind.Kind.TheVariants as kind
use Rattle.pearl_value.specs.declared.trap.Trap.{Trap}
use Rattle.pearl_value.specs.WellFormed.{IsValue, IsValueOf, IsTyped}
use Rattle.pearl_value.specs.Laws.{Gives}
use Rattle.pearl_value.specs.Kinds.{IsKind}
use Rattle.pearl_value.proofs.Offered.{keeps_kinds}
use Rattle.pearl_value.specs.Conversions.{converted}
use Rattle.pearl_rules.specs.declared.action.Action.{Action}
use Rattle.pearl_rules.specs.declared.action.Action.TheVariants as action
use Rattle.pearl_rules.specs.declared.row.Mode.TheVariants.{Dormant}
use Rattle.pearl_rules.specs.declared.row.Kept.{Kept}
use Rattle.pearl_rules.specs.declared.row.Kept.TheVariants as kept
use Rattle.pearl_rules.specs.declared.row.Plan.{Plan}
use Rattle.pearl_rules.specs.declared.row.Activation.{Activation}
use Rattle.pearl_rules.specs.declared.row.TaskRow.{TaskRow}
use Rattle.pearl_rules.specs.declared.entry.Entry.{Entry}
use Rattle.pearl_rules.specs.declared.entry.Entry.TheVariants as entry
use Rattle.pearl_rules.specs.declared.event.Event.{Event}
use Rattle.pearl_rules.specs.declared.event.Event.TheVariants as event
use Rattle.pearl_rules.specs.declared.action.Answer.{Answer}
use Rattle.pearl_rules.specs.declared.action.Answer.TheVariants.{Nothing, One, Many}
use Rattle.pearl_value.specs.declared.device.Device.{Device}
use Rattle.pearl_value.specs.declared.device.Device.TheVariants as device
use Rattle.pearl_rules.specs.declared.setup.Setup.{Setup}
use Rattle.pearl_format.specs.Items.{Suits as SuitsKinds}
use Rattle.pearl_value.specs.Devices.{IsDevice}
use Rattle.pearl_rules.specs.Tables.{items_or_none, IsInterrupt, IsReadable, input_kind}
use Rattle.pearl_rules.specs.Core.{Core, Channel, Switch, Bytes, Values, Outward, Report, Happened, value_at, note, row_of, with_row, declared_of, first_channel, opening}
use Rattle.pearl_rules.specs.Counts.{count_at, all_below_most}
use Rattle.pearl_rules.specs.Plans.{priorities, time_at, day, millisecond}
use Rattle.pearl_rules.specs.Devices.{channel_of, with_channel, items_of, bytes_at, bytes_in, terminal_room, with_bytes, without_bytes, values_at, values_in, input_room, joined, with_value_by, with_value, without_value_by, without_value, arrived}
use Rattle.pearl_rules.specs.Scan.{Scanned, Short, Bad, Got, scan}
use Rattle.pearl_rules.specs.Effect.{Reply, Hears, Ends, reply_if_other, releasing, trying, getting, taking, effect}
use Rattle.pearl_rules.specs.Slots.{IsOneOf, AreOf, Suits, Fits, IsLike, IsChannelOf, HasKinds}
use Rattle.pearl_rules.specs.Entries.{IsFitting, IsPrinted, ComesInAt}
use Rattle.pearl_rules.proofs.ScanLaws.{reads_values}
use Rattle.pearl_rules.proofs.Serving.{Starts, Closed, ClosedAtEnds, OnlyValues, Brings, KeepsValues, millisecond-kept, effect-kept, effect-free, interrupted-kept, bytes-kept, value-kept}

-- WHAT IS LEFT

-- any priority and any plan
abbrev pub AnyPriority : ℕ → Type 0
AnyPriority priority = Unit {0}

abbrev pub AnyPlan : Plan → Type 0
AnyPlan plan = Unit {0}

pub any_continuation : (plan : Option Plan) → IfSome plan AnyPlan
any_continuation None = tt
any_continuation (Some plan) = tt

pub any_activation : (plan : Option Activation) → IfSome plan (Starts AnyPriority AnyPlan)
any_activation None = tt
any_activation (Some plan) = (tt, tt)

pub any_kept : (kept : Kept) → AllByRecursion AnyPriority (priorities kept)
any_kept kept.Nothing = tt
any_kept (kept.One a) = (tt, tt)
any_kept (kept.Two a b) = (tt, (tt, tt))
any_kept (kept.Three a b c) = (tt, (tt, (tt, tt)))

-- an action brings some plan
pub any_brings : (core : Core) (asked : Action) → Brings AnyPriority AnyPlan core asked
any_brings core (action.Activate t start repeat priority) = (λ row at. tt, λ now. tt)
any_brings core (action.Continue t start) = λ now. tt
any_brings core (action.Resume start) = λ now. tt
any_brings core other = tt

-- another row with the same declared priority leaves the declared priorities
declared-set : (rows : List TaskRow) (t : ℕ) (row changed : TaskRow) → slice_get rows t ≡ Some row → changed.declared ≡ row.declared →
    map declared_of (slice_set rows t changed) ≡ map declared_of rows
declared-set [] t row changed at same = refl
declared-set (first ∷ rows) zero row changed at same =
    ap (λ n. n ∷ map declared_of rows) (same ∙ ap declared_of (sym (same_Some first row at)))
declared-set (first ∷ rows) (suc t) row changed at same = ap (λ ds. first.declared ∷ ds) (declared-set rows t row changed at same)

-- what every action leaves: the moment and the clock, the tasks with their declared priorities, how many slots, counts and channels there
-- are, the formats, and what was told
pub record Leaves (old core : Core) : Type 0 where
  pub moment : core.moment ≡ old.moment
  pub clock : core.clock ≡ old.clock
  pub declared : map declared_of core.tasks ≡ map declared_of old.tasks
  pub slots : length core.slots ≡ length old.slots
  pub counts : length core.counts ≡ length old.counts
  pub channels : length core.channels ≡ length old.channels
  pub formats : core.formats ≡ old.formats
  pub more : List (ℕ × Report)
  pub told : core.told ≡ old.told ++ more

module _ (old : Core) where
  -- nothing changed
  leaves_all : Leaves old old
  leaves_all = record {
    moment = refl;
    clock = refl;
    declared = refl;
    slots = refl;
    counts = refl;
    channels = refl;
    formats = refl;
    more = [];
    told = sym (append-nil old.told);
  }

  -- another row
  leaves_row : (core : Core) (t : ℕ) (row changed : TaskRow) → row_of core t ≡ Some row → changed.declared ≡ row.declared → Leaves old core →
      Leaves old (with_row core t changed)
  leaves_row core t row changed at same k = record {
    moment = k.moment;
    clock = k.clock;
    declared = declared-set core.tasks t row changed at same ∙ k.declared;
    slots = k.slots;
    counts = k.counts;
    channels = k.channels;
    formats = k.formats;
    more = k.more;
    told = k.told;
  }

  -- one more event
  leaves_told : (core : Core) (e : Event) → Leaves old core → Leaves old (note core e)
  leaves_told core e k = record {
    moment = k.moment;
    clock = k.clock;
    declared = k.declared;
    slots = k.slots;
    counts = k.counts;
    channels = k.channels;
    formats = k.formats;
    more = k.more ++ (core.moment, Happened e) ∷ [];
    told = ap (λ told. told ++ (core.moment, Happened e) ∷ []) k.told ∙ append_assoc old.told k.more ((core.moment, Happened e) ∷ []);
  }

  -- other values
  leaves_values : (core other : Core) → OnlyValues core other → Leaves old core → Leaves old other
  leaves_values core other only k = record {
    moment = only.moment ∙ k.moment;
    clock = only.clock ∙ k.clock;
    declared = ap (map declared_of) only.tasks ∙ k.declared;
    slots = only.slots ∙ k.slots;
    counts = only.counts ∙ k.counts;
    channels = only.channels ∙ k.channels;
    formats = only.formats ∙ k.formats;
    more = k.more;
    told = only.told ∙ k.told;
  }

  leaves_closed : Closed AnyPriority AnyPlan (Leaves old)
  leaves_closed = record {
    told = leaves_told;
    stands = λ core t row mode kept at stays keeps k. leaves_row core t row (record row { mode = mode; kept = kept }) at refl k;
    goes_on = λ core t row plan at lawful k. leaves_row core t row (record row { continuation = plan }) at refl k;
    starts = λ core t row plan at lawful k. leaves_row core t row (record row { activation = Some plan }) at refl k;
    going = λ core t row at k. any_continuation row.continuation;
    starting = λ core t row at k. any_activation row.activation;
    keeping = λ core t row at k. any_kept row.kept;
    begins = λ core plan lawful. tt;
  }

  leaves_at_ends : ClosedAtEnds (Leaves old)
  leaves_at_ends = record {
    ends = λ core t row at k. leaves_row core t row (record row { mode = Dormant; kept = kept.Nothing; continuation = None }) at refl k;
    prevents = λ core t row at k.
        leaves_row core t row (record row { kept = kept.Nothing; continuation = None; activation = None }) at refl k;
  }

-- no action changes the moment, the number of tasks or their declared priorities, and what it tells comes after what was told
pub leaves : (core : Core) (own : ℕ) (action : Action) → Leaves core (effect core own action).core
leaves core own asked =
    effect-free AnyPriority AnyPlan (Leaves core) (leaves_closed core) (leaves_values core) (leaves_at_ends core) core own asked
    (any_brings core asked) (leaves_all core)

-- the core one millisecond later, before any plan serves
abbrev pub later : Core → Core
later core = record core { moment = core.moment + 1 }

-- likewise a millisecond
pub millisecond-leaves : (core : Core) → Leaves (later core) (millisecond core)
millisecond-leaves core =
    millisecond-kept AnyPriority AnyPlan (Leaves (later core)) (leaves_closed (later core)) core (leaves_all (later core))

-- the core with the clock that an entry sets
abbrev pub with_clock_of : Core → Entry → Core
with_clock_of core (entry.Clock time) = record core { clock = time }
with_clock_of core other = core

-- and whatever comes in
pub arrived-leaves : (core : Core) (come : Entry) → Leaves (with_clock_of core come) (arrived core come)
arrived-leaves core (entry.Clock time) = leaves_all (record core { clock = time })
arrived-leaves core (entry.Run picks) = leaves_all core
arrived-leaves core (entry.Tick milliseconds) = leaves_all core
arrived-leaves core (entry.Pass times picks) = leaves_all core
arrived-leaves core (entry.Irpt device) = interrupted-kept AnyPriority AnyPlan (Leaves core) (leaves_closed core) core device (leaves_all core)
arrived-leaves core (entry.Chars device text) =
    bytes-kept AnyPriority AnyPlan (Leaves core) (leaves_closed core) (leaves_values core) core device text.items (leaves_all core)
arrived-leaves core (entry.Line device text) =
    bytes-kept AnyPriority AnyPlan (Leaves core) (leaves_closed core) (leaves_values core) core device (text.items ++ 10 ∷ []) (leaves_all core)
arrived-leaves core (entry.Value device x) =
    value-kept AnyPriority AnyPlan (Leaves core) (leaves_closed core) (leaves_values core) core device x (leaves_all core)
arrived-leaves core (entry.Turn task) = leaves_all core
arrived-leaves core entry.State = leaves_all core

-- as many tasks have as many declared priorities
as_many : (old core : Core) → Leaves old core → length core.tasks ≡ length old.tasks
as_many old core k = sym (length-map core.tasks declared_of) ∙ ap length k.declared ∙ length-map old.tasks declared_of

pub effect-length : (core : Core) (t : ℕ) (action : Action) → length (effect core t action).core.tasks ≡ length core.tasks
effect-length core t action = as_many core (effect core t action).core (leaves core t action)

pub millisecond-length : (core : Core) → length (millisecond core).tasks ≡ length core.tasks
millisecond-length core = as_many (later core) (millisecond core) (millisecond-leaves core)

pub arrived-length : (core : Core) (come : Entry) → length (arrived core come).tasks ≡ length core.tasks
arrived-length core come = as_many (with_clock_of core come) (arrived core come) (arrived-leaves core come) ∙ ap length (clock_tasks come)
  where
    clock_tasks : (come : Entry) → (with_clock_of core come).tasks ≡ core.tasks
    clock_tasks (entry.Clock time) = refl
    clock_tasks other = refl

-- what was told before an action stays, and what the action tells comes after it
pub effect-told : (core : Core) (t : ℕ) (action : Action) → (more : List (ℕ × Report)) × ((effect core t action).core.told ≡ core.told ++ more)
effect-told core t action = ((leaves core t action).more, (leaves core t action).told)

pub millisecond-told : (core : Core) → (more : List (ℕ × Report)) × ((millisecond core).told ≡ core.told ++ more)
millisecond-told core = ((millisecond-leaves core).more, (millisecond-leaves core).told)

pub arrived-told : (core : Core) (come : Entry) → (more : List (ℕ × Report)) × ((arrived core come).told ≡ core.told ++ more)
arrived-told core come =
    ((arrived-leaves core come).more, (arrived-leaves core come).told ∙ ap (λ told. told ++ (arrived-leaves core come).more) (clock_told come))
  where
    clock_told : (come : Entry) → (with_clock_of core come).told ≡ core.told
    clock_told (entry.Clock time) = refl
    clock_told other = refl

-- KINDS

-- two lists side by side at one place
abbrev pub BothAt : {A B : Type 0} → (A → B → Type 0) → Option A → Option B → Type 0
BothAt R None None = Unit {0}
BothAt R None (Some y) = ⊥
BothAt R (Some x) None = ⊥
BothAt R (Some x) (Some y) = R x y

both_at : {A B : Type 0} (R : A → B → Type 0) (xs : List A) (ys : List B) → AllZip R xs ys → (i : ℕ) → BothAt R (slice_get xs i) (slice_get ys i)
both_at R [] [] all i = tt
both_at R [] (y ∷ ys) all i = absurd all
both_at R (x ∷ xs) [] all i = absurd all
both_at R (x ∷ xs) (y ∷ ys) all zero = all.0
both_at R (x ∷ xs) (y ∷ ys) all (suc i) = both_at R xs ys all.1 i

-- one that is written on the right side, where it suits the left one
both_set : {A B : Type 0} (R : A → B → Type 0) (xs : List A) (ys : List B) → AllZip R xs ys → (i : ℕ) (y : B) →
    IfSome (slice_get xs i) (λ x. R x y) → AllZip R xs (slice_set ys i y)
both_set R [] [] all i y suits = tt
both_set R [] (z ∷ ys) all i y suits = absurd all
both_set R (x ∷ xs) [] all i y suits = absurd all
both_set R (x ∷ xs) (z ∷ ys) all zero y suits = (suits, all.1)
both_set R (x ∷ xs) (z ∷ ys) all (suc i) y suits = (all.0, both_set R xs ys all.1 i y suits)

-- the first values have their own kinds
own_kinds : (slots : List Cell) → AllByRecursion IsValue slots → AllZip IsLike slots slots
own_kinds [] all = tt
own_kinds (x ∷ slots) all = (record { is_value = all.0; same_kind = refl }, own_kinds slots all.1)

-- the first channels are of the devices' sorts
first_channels : (devices : List Device) → AllByRecursion IsDevice devices → AllZip IsChannelOf devices (map first_channel devices)
first_channels [] all = tt
first_channels (device.Interrupt number ∷ devices) all = (tt, first_channels devices all.1)
first_channels (device.Terminal number direction ∷ devices) all = ((tt, omega arith), first_channels devices all.1)
first_channels (device.Input number kind ∷ devices) all = ((refl, all.0.2, tt, omega arith), first_channels devices all.1)
first_channels (device.Output number kind ∷ devices) all = (tt, first_channels devices all.1)

pub opening-kinds : (setup : Setup) → AllByRecursion IsValue setup.slots → AllByRecursion IsDevice setup.devices → HasKinds setup (opening setup)
opening-kinds setup values devices =
    record { slots = own_kinds setup.slots values; channels = first_channels setup.devices devices; formats = refl }

-- a slot has a value of its kind
value_kind : (first now : List Cell) (slot : ℕ) → AllZip IsLike first now → slot < length first → IsLike (value_at first slot) (value_at now slot)
value_kind [] now slot all within = let no : ⊥ = omega arith in absurd no
value_kind (f ∷ first) [] slot all within = absurd all
value_kind (f ∷ first) (x ∷ now) zero all within = all.0
value_kind (f ∷ first) (x ∷ now) (suc slot) all within = value_kind first now slot all.1 (omega arith)

-- and keeps it where a value of its kind is put there
set_kinds : (first now : List Cell) (slot : ℕ) (value : Cell) → AllZip IsLike first now → slot < length first → IsLike (value_at first slot) value →
    AllZip IsLike first (slice_set now slot value)
set_kinds [] now slot value all within like = let no : ⊥ = omega arith in absurd no
set_kinds (f ∷ first) [] slot value all within like = absurd all
set_kinds (f ∷ first) (x ∷ now) zero value all within like = (like, all.1)
set_kinds (f ∷ first) (x ∷ now) (suc slot) value all within like = (all.0, set_kinds first now slot value all.1 (omega arith) like)

-- what holds of all bytes holds of the later ones
all_drop : {X : Type 0} (P : X → Type 0) (n : ℕ) (xs : List X) → AllByRecursion P xs → AllByRecursion P (drop n xs)
all_drop P zero xs all = all
all_drop P (suc n) [] all = tt
all_drop P (suc n) (x ∷ xs) all = all_drop P n xs all.1

all_join : {X : Type 0} (P : X → Type 0) (xs ys : List X) → AllByRecursion P xs → AllByRecursion P ys → AllByRecursion P (xs ++ ys)
all_join P [] ys all more = more
all_join P (x ∷ xs) ys all more = (all.0, all_join P xs ys all.1 more)

-- printed bytes are typed ones
all_typed : (bytes : List ℕ) → AllByRecursion IsPrinted bytes → AllByRecursion IsTyped bytes
all_typed [] all = tt
all_typed (byte ∷ bytes) all = (inr all.0, all_typed bytes all.1)

module _ (setup : Setup) where
  -- another core with the same values
  kinds_moved : (core other : Core) → other.slots ≡ core.slots → other.channels ≡ core.channels → other.formats ≡ core.formats →
      HasKinds setup core → HasKinds setup other
  kinds_moved core other slots channels formats kinds = record {
    slots = subst (λ xs. AllZip IsLike setup.slots xs) (sym slots) kinds.slots;
    channels = subst (λ xs. AllZip IsChannelOf setup.devices xs) (sym channels) kinds.channels;
    formats = formats ∙ kinds.formats;
  }

  kinds_closed : Closed AnyPriority AnyPlan (HasKinds setup)
  kinds_closed = record {
    told = λ core e kinds. kinds_moved core (note core e) refl refl refl kinds;
    stands = λ core t row mode kept at stays keeps kinds.
        kinds_moved core (with_row core t (record row { mode = mode; kept = kept })) refl refl refl kinds;
    goes_on = λ core t row plan at lawful kinds. kinds_moved core (with_row core t (record row { continuation = plan })) refl refl refl kinds;
    starts = λ core t row plan at lawful kinds. kinds_moved core (with_row core t (record row { activation = Some plan })) refl refl refl kinds;
    going = λ core t row at kinds. any_continuation row.continuation;
    starting = λ core t row at kinds. any_activation row.activation;
    keeping = λ core t row at kinds. any_kept row.kept;
    begins = λ core plan lawful. tt;
  }

  kinds_at_ends : ClosedAtEnds (HasKinds setup)
  kinds_at_ends = record {
    ends = λ core t row at kinds.
        kinds_moved core (with_row core t (record row { mode = Dormant; kept = kept.Nothing; continuation = None })) refl refl refl kinds;
    prevents = λ core t row at kinds.
        kinds_moved core (with_row core t (record row { kept = kept.Nothing; continuation = None; activation = None })) refl refl refl kinds;
  }

  -- the device and its channel
  channel_is : (core : Core) (device : ℕ) → HasKinds setup core → BothAt IsChannelOf (slice_get setup.devices device) (channel_of core device)
  channel_is core device kinds = both_at IsChannelOf setup.devices core.channels kinds.channels device

  -- another channel of a device, of its sort
  channel_kinds : (core : Core) (device : ℕ) (channel : Channel) → IfSome (slice_get setup.devices device) (λ is. IsChannelOf is channel) →
      HasKinds setup core → HasKinds setup (with_channel core device channel)
  channel_kinds core device channel suits kinds = record {
    slots = kinds.slots;
    channels = both_set IsChannelOf setup.devices core.channels kinds.channels device channel suits;
    formats = kinds.formats;
  }

  -- an interrupt is let through or masked
  switch_suits : (is : Option Device) (enabled : Bool) → IsInterrupt is → IfSome is (λ d. IsChannelOf d (Switch enabled))
  switch_suits None enabled interrupt = absurd interrupt
  switch_suits (Some (device.Interrupt number)) enabled interrupt = tt
  switch_suits (Some (device.Terminal number direction)) enabled interrupt = absurd interrupt
  switch_suits (Some (device.Input number kind)) enabled interrupt = absurd interrupt
  switch_suits (Some (device.Output number kind)) enabled interrupt = absurd interrupt

  -- the bytes that wait at a terminal
  pub bytes_typed : (core : Core) (device : ℕ) → HasKinds setup core →
      AllByRecursion IsTyped (bytes_at core device) × (length (bytes_at core device) ≤ terminal_room)
  bytes_typed core at kinds = by_channel (slice_get setup.devices at) (channel_of core at) (channel_is core at kinds)
    where
      by_channel : (is : Option Device) (channel : Option Channel) → BothAt IsChannelOf is channel →
          AllByRecursion IsTyped (bytes_in channel) × (length (bytes_in channel) ≤ terminal_room)
      by_channel is None both = (tt, omega arith)
      by_channel is (Some (Switch enabled)) both = (tt, omega arith)
      by_channel is (Some (Values kind pending)) both = (tt, omega arith)
      by_channel is (Some Outward) both = (tt, omega arith)
      by_channel None (Some (Bytes pending)) both = absurd both
      by_channel (Some (device.Interrupt number)) (Some (Bytes pending)) both = absurd both
      by_channel (Some (device.Terminal number direction)) (Some (Bytes pending)) both = both
      by_channel (Some (device.Input number kind)) (Some (Bytes pending)) both = absurd both
      by_channel (Some (device.Output number kind)) (Some (Bytes pending)) both = absurd both

  -- such bytes at a terminal that gives texts
  bytes_suit : (is : Option Device) (pending : List ℕ) → IsReadable is → AllByRecursion IsTyped pending → length pending ≤ terminal_room →
      IfSome is (λ d. IsChannelOf d (Bytes pending))
  bytes_suit None pending gives typed few = absurd gives
  bytes_suit (Some (device.Interrupt number)) pending gives typed few = absurd gives
  bytes_suit (Some (device.Terminal number direction)) pending gives typed few = (typed, few)
  bytes_suit (Some (device.Input number kind)) pending gives typed few = absurd gives
  bytes_suit (Some (device.Output number kind)) pending gives typed few = absurd gives

  -- the oldest bytes are gone
  without_bytes-kinds : (core : Core) (device used : ℕ) → IsReadable (slice_get setup.devices device) → HasKinds setup core →
      HasKinds setup (without_bytes core device used)
  without_bytes-kinds core device used gives kinds =
      let is = bytes_typed core device kinds in
      let few : length (drop used (bytes_at core device)) ≤ terminal_room = omega (arith, length-drop used (bytes_at core device), is.1) in
      channel_kinds core device (Bytes (drop used (bytes_at core device)))
      (bytes_suit (slice_get setup.devices device) (drop used (bytes_at core device)) gives (all_drop IsTyped used (bytes_at core device) is.0) few) kinds

  -- bytes come in
  with_bytes-kinds : (core : Core) (device : ℕ) (text : List ℕ) → IsReadable (slice_get setup.devices device) → AllByRecursion IsTyped text →
      HasKinds setup core → HasKinds setup (with_bytes core device text)
  with_bytes-kinds core device text gives typed kinds = by_test (nat_le (length pending) terminal_room) refl
    where
      pending : List ℕ
      pending = bytes_at core device ++ text

      by_test : (b : Bool) → nat_le (length pending) terminal_room ≡ b →
          HasKinds setup (if b then with_channel core device (Bytes pending) else note core (event.Lost device))
      by_test false e = kinds_closed.told core (event.Lost device) kinds
      by_test true e =
          channel_kinds core device (Bytes pending)
          (bytes_suit (slice_get setup.devices device) pending gives
          (all_join IsTyped (bytes_at core device) text (bytes_typed core device kinds).0 typed) (leb-true (length pending) terminal_room e)) kinds

  -- the oldest value is gone
  without_value-kinds : (core : Core) (device : ℕ) → HasKinds setup core → HasKinds setup (without_value core device)
  without_value-kinds core at kinds = by_channel (slice_get setup.devices at) refl (channel_of core at) (channel_is core at kinds)
    where
      by_channel : (is : Option Device) → slice_get setup.devices at ≡ is → (channel : Option Channel) → BothAt IsChannelOf is channel →
          HasKinds setup (without_value_by channel core at)
      by_channel is e None both = kinds
      by_channel is e (Some (Switch enabled)) both = kinds
      by_channel is e (Some (Bytes pending)) both = kinds
      by_channel is e (Some Outward) both = kinds
      by_channel None e (Some (Values own pending)) both = absurd both
      by_channel (Some (device.Interrupt number)) e (Some (Values own pending)) both = absurd both
      by_channel (Some (device.Terminal number direction)) e (Some (Values own pending)) both = absurd both
      by_channel (Some (device.Output number kind)) e (Some (Values own pending)) both = absurd both
      by_channel (Some (device.Input number kind)) e (Some (Values own pending)) both =
          channel_kinds core at (Values own (drop 1 pending))
          (subst (λ is. IfSome is (λ d. IsChannelOf d (Values own (drop 1 pending)))) (sym e)
          (both.0, both.1, all_drop (IsValueOf kind) 1 pending both.2, omega (arith, length-drop 1 pending, both.3))) kinds

  -- a value comes in
  with_value-kinds : (core : Core) (device : ℕ) (x : Cell) → ComesInAt (input_kind (slice_get setup.devices device)) x → HasKinds setup core →
      HasKinds setup (with_value core device x)
  with_value-kinds core at x comes kinds = by_channel (slice_get setup.devices at) refl comes (channel_of core at) (channel_is core at kinds)
    where
      by_channel : (is : Option Device) → slice_get setup.devices at ≡ is → ComesInAt (input_kind is) x → (channel : Option Channel) →
          BothAt IsChannelOf is channel → HasKinds setup (with_value_by channel core at x)
      by_channel is e comes None both = kinds
      by_channel is e comes (Some (Switch enabled)) both = kinds
      by_channel is e comes (Some (Bytes pending)) both = kinds
      by_channel is e comes (Some Outward) both = kinds
      by_channel None e comes (Some (Values own pending)) both = absurd both
      by_channel (Some (device.Interrupt number)) e comes (Some (Values own pending)) both = absurd both
      by_channel (Some (device.Terminal number direction)) e comes (Some (Values own pending)) both = absurd both
      by_channel (Some (device.Output number kind)) e comes (Some (Values own pending)) both = absurd both
      by_channel (Some (device.Input number kind)) e comes (Some (Values own pending)) both = by_test (nat_lt (length pending) input_room) refl
        where
          by_value : (value : Result Cell Trap) → Gives own value → length pending < input_room → HasKinds setup (joined core at own pending value)
          by_value (Err trap) gives room = kinds
          by_value (Ok y) gives room =
              channel_kinds core at (Values own (pending ++ y ∷ []))
              (subst (λ is. IfSome is (λ d. IsChannelOf d (Values own (pending ++ y ∷ [])))) (sym e) (
                both.0,
                both.1,
                all_join (IsValueOf kind) pending (y ∷ []) both.2 (subst (λ k. IsValueOf k y) both.0 gives, tt),
                omega (arith, length_push pending y, room),
              )) kinds

          by_test : (b : Bool) → nat_lt (length pending) input_room ≡ b →
              HasKinds setup (if b then joined core at own pending (converted x own) else note core (event.Lost at))
          by_test false e = kinds_closed.told core (event.Lost at) kinds
          by_test true e =
              by_value (converted x own) (keeps_kinds x own comes.is_value (subst IsKind (sym both.0) both.1))
              (ltb-true (length pending) input_room e)

  -- what an action does to values keeps their kinds
  kinds_values : (core : Core) (asked : Action) → HasKinds setup core → Fits setup asked → KeepsValues (HasKinds setup) core asked
  kinds_values core (action.Write slot value) kinds fits = record {
    slots = set_kinds setup.slots core.slots slot value kinds.slots fits.0 fits.1;
    channels = kinds.channels;
    formats = kinds.formats;
  }
  kinds_values core (action.Request list) kinds fits = kinds_moved core _ refl refl refl kinds
  kinds_values core (action.Release list) kinds fits = λ below. kinds_moved core _ refl refl refl kinds
  kinds_values core (action.Try s) kinds fits = kinds_moved core _ refl refl refl kinds
  kinds_values core (action.Enable device) kinds fits =
      channel_kinds core device (Switch true) (switch_suits (slice_get setup.devices device) true fits) kinds
  kinds_values core (action.Disable device) kinds fits =
      channel_kinds core device (Switch false) (switch_suits (slice_get setup.devices device) false fits) kinds
  kinds_values core (action.Get device format are) kinds fits = λ used. without_bytes-kinds core device used fits.gives kinds
  kinds_values core (action.Take device) kinds fits = without_value-kinds core device kinds
  kinds_values core other kinds fits = tt

-- each slot and each input keeps its kind
pub effect-kinds : (setup : Setup) (core : Core) (t : ℕ) (action : Action) → HasKinds setup core → Fits setup action → HasKinds setup (effect core t action).core
effect-kinds setup core own asked kinds fits =
    let acted : Core = record core { last = Some own } in
    let last : HasKinds setup acted = kinds_moved setup core acted refl refl refl kinds in
    effect-kept AnyPriority AnyPlan (HasKinds setup) (kinds_closed setup) (kinds_at_ends setup) core own asked (any_brings core asked)
    (kinds_values setup acted asked last fits) last

pub millisecond-kinds : (setup : Setup) (core : Core) → HasKinds setup core → HasKinds setup (millisecond core)
millisecond-kinds setup core kinds =
    millisecond-kept AnyPriority AnyPlan (HasKinds setup) (kinds_closed setup) core (kinds_moved setup core (later core) refl refl refl kinds)

pub arrived-kinds : (setup : Setup) (core : Core) (entry : Entry) → HasKinds setup core → IsFitting setup entry → HasKinds setup (arrived core entry)
arrived-kinds setup core (entry.Clock time) kinds fits = kinds_moved setup core (record core { clock = time }) refl refl refl kinds
arrived-kinds setup core (entry.Run picks) kinds fits = kinds
arrived-kinds setup core (entry.Tick milliseconds) kinds fits = kinds
arrived-kinds setup core (entry.Pass times picks) kinds fits = kinds
arrived-kinds setup core (entry.Irpt device) kinds fits =
    interrupted-kept AnyPriority AnyPlan (HasKinds setup) (kinds_closed setup) core device kinds
arrived-kinds setup core (entry.Chars device text) kinds fits =
    with_bytes-kinds setup core device text.items fits.1.0 (all_typed text.items fits.1.1) kinds
arrived-kinds setup core (entry.Line device text) kinds fits =
    with_bytes-kinds setup core device (text.items ++ 10 ∷ []) fits.1.0
    (all_join IsTyped text.items (10 ∷ []) (all_typed text.items fits.1.1) (inl refl, tt)) kinds
arrived-kinds setup core (entry.Value device x) kinds fits = with_value-kinds setup core device x fits.1 kinds
arrived-kinds setup core (entry.Turn task) kinds fits = kinds
arrived-kinds setup core entry.State kinds fits = kinds

-- ANSWERS

-- the answer in a reply
abbrev answer_of : Reply → Option Answer
answer_of (Hears answer) = Some answer
answer_of Ends = None

same_answer : (a b : Answer) → Hears a ≡ Hears b → b ≡ a
same_answer a b e = sym (same_Some a b (ap answer_of e))

pub ends_unheard : (answer : Answer) → Ends ≡ Hears answer → ⊥
ends_unheard answer e = cc

-- a task that ends another hears that it did, and nothing more where it ends itself
stopping-answers : (own t : ℕ) (answer : Answer) → reply_if_other (nat_eq t own) ≡ Hears answer → (t ≢ own) × (answer ≡ Nothing)
stopping-answers own t answer e = by_test (nat_eq t own) refl e
  where
    by_test : (is_own : Bool) → nat_eq t own ≡ is_own → reply_if_other is_own ≡ Hears answer → (t ≢ own) × (answer ≡ Nothing)
    by_test true same h = absurd (ends_unheard answer h)
    by_test false differ h = (eqb-false t own differ, same_answer Nothing answer h)

-- a release that raises is answered by nothing
releasing-answers : (core : Core) (own : ℕ) (semaphores : List ℕ) (can_raise : Bool) (answer : Answer) →
    (releasing core own semaphores can_raise).reply ≡ Hears answer → answer ≡ Nothing
releasing-answers core own semaphores true answer e = same_answer Nothing answer e
releasing-answers core own semaphores false answer e = absurd (ends_unheard answer e)

-- one bit is a value
is_bit : (b : ℕ) → b < 2 → IsValueOf (kind.Bits 1) (Bits 1 b)
is_bit b less = record { is_value = ((omega arith, omega arith), less); same_kind = refl }

-- a try is answered by one bit
trying-answers : (core : Core) (semaphore : ℕ) (is_free : Bool) (answer : Answer) → (trying core semaphore is_free).reply ≡ Hears answer →
    (x : Cell) × (answer ≡ One x) × IsValueOf (kind.Bits 1) x
trying-answers core semaphore true answer e = (Bits 1 1, same_answer (One (Bits 1 1)) answer e, is_bit 1 (omega arith))
trying-answers core semaphore false answer e = (Bits 1 0, same_answer (One (Bits 1 0)) answer e, is_bit 0 (omega arith))

-- a time of day
is_clock : (moment : ℕ) → IsValueOf kind.Clock (Clock (moment % day))
is_clock moment = record { is_value = omega arith; same_kind = refl }

-- what is scanned is answered as values of the targets' kinds
getting-answers : (core : Core) (own device : ℕ) (kinds : List Kind) (scanned : Scanned) (answer : Answer) →
    ((used : ℕ) (values : List Cell) → scanned ≡ Got used values → AllZip IsValueOf kinds values) →
    (getting core own device scanned).reply ≡ Hears answer → AreOf kinds answer
getting-answers core own device kinds Short answer are e = absurd (ends_unheard answer e)
getting-answers core own device kinds (Bad used) answer are e = absurd (ends_unheard answer e)
getting-answers core own device kinds (Got used values) answer are e =
    (record { items = values }, same_answer (Many (record { items = values })) answer e, are used values refl)

-- the oldest value of an input is of its kind
values_are : (setup : Setup) (core : Core) (device : ℕ) (kind : Kind) → HasKinds setup core → input_kind (slice_get setup.devices device) ≡ Some kind →
    AllByRecursion (IsValueOf kind) (values_at core device)
values_are setup core at kind kinds e = by_channel (slice_get setup.devices at) e (channel_of core at) (channel_is setup core at kinds)
  where
    by_channel : (is : Option Device) → input_kind is ≡ Some kind → (channel : Option Channel) → BothAt IsChannelOf is channel →
        AllByRecursion (IsValueOf kind) (values_in channel)
    by_channel is e None both = tt
    by_channel is e (Some (Switch enabled)) both = tt
    by_channel is e (Some (Bytes pending)) both = tt
    by_channel is e (Some Outward) both = tt
    by_channel None e (Some (Values own pending)) both = absurd both
    by_channel (Some (device.Interrupt number)) e (Some (Values own pending)) both = absurd both
    by_channel (Some (device.Terminal number direction)) e (Some (Values own pending)) both = absurd both
    by_channel (Some (device.Output number other)) e (Some (Values own pending)) both = absurd both
    by_channel (Some (device.Input number other)) e (Some (Values own pending)) both =
        subst (λ k. AllByRecursion (IsValueOf k) pending) (same_Some other kind e) both.2

taking-answers : (core : Core) (own device : ℕ) (known : Option Kind) (values : List Cell) (answer : Answer) → IsSome known →
    ((kind : Kind) → known ≡ Some kind → AllByRecursion (IsValueOf kind) values) → (taking core own device values).reply ≡ Hears answer →
    IsOneOf known answer
taking-answers core own device known [] answer some are e = absurd (ends_unheard answer e)
taking-answers core own device None (x ∷ others) answer some are e = absurd (false≢true some)
taking-answers core own device (Some kind) (x ∷ others) answer some are e = (x, same_answer (One x) answer e, (are kind refl).0)

-- an answer suits its action
pub effect-answers : (setup : Setup) (core : Core) (t : ℕ) (action : Action) (answer : Answer) → HasKinds setup core → Fits setup action →
    (effect core t action).reply ≡ Hears answer → Suits setup t action answer
unfolding effect
effect-answers setup core own (action.Read slot) answer kinds fits e =
    (value_at core.slots slot, same_answer (One (value_at core.slots slot)) answer e, value_kind setup.slots core.slots slot kinds.slots fits)
effect-answers setup core own (action.Write slot value) answer kinds fits e = same_answer Nothing answer e
effect-answers setup core own action.Turn answer kinds fits e = same_answer Nothing answer e
effect-answers setup core own action.Enter answer kinds fits e = same_answer Nothing answer e
effect-answers setup core own action.Now answer kinds fits e =
    let time = Clock (time_at core core.moment) in (time, same_answer (One time) answer e, is_clock (core.clock + core.moment))
effect-answers setup core own (action.Request list) answer kinds fits e = same_answer Nothing answer e
effect-answers setup core own (action.Release list) answer kinds fits e =
    releasing-answers (record core { last = Some own }) own list.items (all_below_most core.counts list.items) answer e
effect-answers setup core own (action.Try s) answer kinds fits e = trying-answers (record core { last = Some own }) s (nat_lt 0 (count_at core.counts s)) answer e
effect-answers setup core own (action.Activate t when how priority) answer kinds fits e = same_answer Nothing answer e
effect-answers setup core own (action.Continue t when) answer kinds fits e = same_answer Nothing answer e
effect-answers setup core own (action.Resume when) answer kinds fits e = same_answer Nothing answer e
effect-answers setup core own (action.Suspend t) answer kinds fits e = same_answer Nothing answer e
effect-answers setup core own (action.Terminate t) answer kinds fits e = stopping-answers own t answer e
effect-answers setup core own (action.Prevent t) answer kinds fits e = same_answer Nothing answer e
effect-answers setup core own (action.Enable device) answer kinds fits e = same_answer Nothing answer e
effect-answers setup core own (action.Disable device) answer kinds fits e = same_answer Nothing answer e
effect-answers setup core own (action.Trigger device) answer kinds fits e = same_answer Nothing answer e
effect-answers setup core own (action.Put device text) answer kinds fits e = same_answer Nothing answer e
effect-answers setup core own (action.Get device format list) answer kinds fits e =
    getting-answers (record core { last = Some own }) own device list.items (scan (items_of core format) list.items (bytes_at core device)) answer
    (λ used values got. reads_values (items_of core format) list.items (bytes_at core device) used values
    (subst (λ formats. SuitsKinds (items_or_none (slice_get formats format)) list.items) (sym kinds.formats) fits.suits) fits.are
    (bytes_typed setup core device kinds).0 got) e
effect-answers setup core own (action.Take device) answer kinds fits e =
    taking-answers (record core { last = Some own }) own device (input_kind (slice_get setup.devices device)) (values_at core device) answer fits
    (λ kind known. values_are setup core device kind kinds known) e
effect-answers setup core own (action.Send device value) answer kinds fits e = same_answer Nothing answer e
effect-answers setup core own action.End answer kinds fits e = absurd (ends_unheard answer e)
effect-answers setup core own (action.Trap trap) answer kinds fits e = absurd (ends_unheard answer e)
