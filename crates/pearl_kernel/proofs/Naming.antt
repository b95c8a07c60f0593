-- What the offers of a lawful kernel name is there, and no moment of it is too far.
use Rattle.std.proofs.Common.{◌≡◌, ℕ, ◌<◌, List, [], ◌∷◌, ◌++◌, Option, Some, None, IfSome, length, slice_get, refl, sym, ap, subst, ◌∙◌}
use Rattle.std.proofs.Common.{zero, suc, inr, IsSome, arith}
use Rattle.std.specs.List.{All}
use Rattle.std.specs.List.{AllByRecursion, AllZip, IsDistinct}
use Rattle.std.proofs.lemmas.Bool.{true≢false}
use Rattle.std.proofs.lemmas.Option.{slice_get_within}
use Rattle.pearl_value.specs.declared.cell.Cell.{Cell}
use Rattle.pearl_value.specs.declared.kind.Kind.{Kind}
use Rattle.pearl_rules.specs.declared.action.Action.{Action}
use Rattle.pearl_rules.specs.declared.action.Action.TheVariants as action
use Rattle.pearl_rules.specs.declared.action.Start.{Start}
use Rattle.pearl_rules.specs.declared.action.Start.TheVariants.{Free, At, After, When, WhenAfter}
use Rattle.pearl_rules.specs.declared.action.Repeat.{Repeat}
use Rattle.pearl_rules.specs.declared.action.Repeat.TheVariants as repeat
use Rattle.pearl_rules.specs.declared.entry.Entry.{Entry}
use Rattle.pearl_rules.specs.declared.entry.Entry.TheVariants as come
use Rattle.pearl_rules.specs.declared.row.End.{End}
use Rattle.pearl_rules.specs.declared.row.End.TheVariants as end
use Rattle.pearl_rules.specs.declared.row.TaskRow.{TaskRow}
use Rattle.pearl_value.specs.declared.device.Device.{Device}
use Rattle.pearl_value.specs.declared.device.Device.TheVariants as device
use Rattle.pearl_rules.specs.declared.setup.Setup.{Setup}
use Rattle.pearl_rules.specs.Core.{Channel, Switch, Bytes, Values, Outward, value_at}
use Rattle.pearl_rules.specs.Devices.{channel_of}
use Rattle.pearl_rules.specs.Entries.{EntryFits, IsPrinted, ComesInAt}
use Rattle.pearl_rules.specs.Slots.{Fits, IsLike, IsChannelOf, IsStart, IsOnce, IsLater, IsRepeat, IsEnd, IsPlan, IsPlannedRow}
use Rattle.pearl_rules.specs.Tables.{IsInterrupt, IsReadable, input_kind}
use Rattle.pearl_value.specs.WellFormed.{IsTyped, IsValue}
use Rattle.pearl_sema.specs.Waiting.{AreThere}
use Rattle.pearl_kernel.specs.Channels.{HasSwitch, HasBytes, IsFor, HasValuesFor, ComesIn}
use Rattle.pearl_kernel.specs.Kept.{Kept, IsLawful}
use Rattle.pearl_kernel.specs.Names.{Names, NamesAll}
use Rattle.pearl_kernel.specs.Timing.{IsTimelyStart, IsTimelyRepeat, IsTimelyEnd, IsTimelyPlan, IsTimelyRow, IsTimely}

-- WHAT IS NAMED IS THERE

are_there : (counts others list : List ℕ) → length others ≡ length counts → AreThere counts list → AreThere others list
are_there counts others list same there =
    record {
      there = subst (λ n. AllByRecursion (λ semaphore. semaphore < n) list)
          (sym same) there.there;
      distinct = there.distinct;
    }

-- a list of one
pub one-there : (counts empty list : List ℕ) (semaphore : ℕ) → semaphore < length counts → empty ≡ [] →
    list ≡ empty ++ semaphore ∷ [] → AreThere counts list
unfolding IsDistinct
one-there counts empty list semaphore there none is =
    subst (λ xs. AreThere counts xs) (sym (is ∙ ap (λ xs. xs ++ semaphore ∷ []) none))
    (record { there = (there, tt); distinct = (tt, tt) })

-- as many on both sides
zip_length : {A B : Type 0} (P : A → B → Type 0) (first : List A) (now : List B) → AllZip P first now →
    length now ≡ length first
zip_length P [] [] all = refl
zip_length P [] (x ∷ now) all = absurd all
zip_length P (f ∷ first) [] all = absurd all
zip_length P (f ∷ first) (x ∷ now) all = ap suc (zip_length P first now all.1)

-- what is like something is a value
value_there : (first now : List Cell) (slot : ℕ) → AllZip IsLike first now → slot < length now → IsValue (value_at now slot)
value_there first [] slot all there = let no : ⊥ = omega arith in absurd no
value_there [] (x ∷ now) slot all there = absurd all
value_there (f ∷ first) (x ∷ now) zero all there = all.0.is_value
value_there (f ∷ first) (x ∷ now) (suc slot) all there = value_there first now slot all.1 (omega arith)

pub interrupt-there : (setup : Setup) (device : ℕ) → IsInterrupt (slice_get setup.devices device) →
    device < length setup.devices
interrupt-there setup device is = by_found (slice_get setup.devices device) refl is
  where
    by_found : (found : Option Device) → slice_get setup.devices device ≡ found → IsInterrupt found →
        device < length setup.devices
    by_found None e is = absurd is
    by_found (Some x) e is = slice_get_within setup.devices device x e

readable_bytes : (devices : List Device) (channels : List Channel) (d : ℕ) → AllZip IsChannelOf devices channels →
    IsReadable (slice_get devices d) → HasBytes (slice_get channels d)
readable_bytes [] channels d all is = absurd is
readable_bytes (x ∷ devices) [] d all is = absurd all
readable_bytes (x ∷ devices) (channel ∷ channels) zero all is = by_sort x channel all.0 is
  where
    by_sort : (x : Device) (channel : Channel) → IsChannelOf x channel → IsReadable (Some x) → HasBytes (Some channel)
    by_sort (device.Interrupt number) channel of is = absurd is
    by_sort (device.Terminal number direction) (Switch enabled) of is = absurd of
    by_sort (device.Terminal number direction) (Bytes pending) of is = tt
    by_sort (device.Terminal number direction) (Values kind pending) of is = absurd of
    by_sort (device.Terminal number direction) Outward of is = absurd of
    by_sort (device.Input number kind) channel of is = absurd is
    by_sort (device.Output number kind) channel of is = absurd is
readable_bytes (x ∷ devices) (channel ∷ channels) (suc d) all is = readable_bytes devices channels d all.1 is

interrupt_switch : (devices : List Device) (channels : List Channel) (d : ℕ) → AllZip IsChannelOf devices channels →
    IsInterrupt (slice_get devices d) → HasSwitch (slice_get channels d)
interrupt_switch [] channels d all is = absurd is
interrupt_switch (x ∷ devices) [] d all is = absurd all
interrupt_switch (x ∷ devices) (channel ∷ channels) zero all is = by_sort x channel all.0 is
  where
    by_sort : (x : Device) (channel : Channel) → IsChannelOf x channel → IsInterrupt (Some x) → HasSwitch (Some channel)
    by_sort (device.Interrupt number) (Switch enabled) of is = tt
    by_sort (device.Interrupt number) (Bytes pending) of is = absurd of
    by_sort (device.Interrupt number) (Values kind pending) of is = absurd of
    by_sort (device.Interrupt number) Outward of is = absurd of
    by_sort (device.Terminal number direction) channel of is = absurd is
    by_sort (device.Input number kind) channel of is = absurd is
    by_sort (device.Output number kind) channel of is = absurd is
interrupt_switch (x ∷ devices) (channel ∷ channels) (suc d) all is = interrupt_switch devices channels d all.1 is

-- a value that comes in suits the input's channel
values_for : (devices : List Device) (channels : List Channel) (d : ℕ) (x : Cell) → AllZip IsChannelOf devices channels →
    ComesInAt (input_kind (slice_get devices d)) x → HasValuesFor x (slice_get channels d)
values_for [] channels d x all comes = absurd comes
values_for (first ∷ devices) [] d x all comes = absurd all
values_for (first ∷ devices) (channel ∷ channels) zero x all comes = by_sort first channel all.0 comes
  where
    by_sort : (first : Device) (channel : Channel) → IsChannelOf first channel → ComesInAt (input_kind (Some first)) x →
        HasValuesFor x (Some channel)
    by_sort (device.Interrupt number) channel of comes = absurd comes
    by_sort (device.Terminal number direction) channel of comes = absurd comes
    by_sort (device.Output number kind) channel of comes = absurd comes
    by_sort (device.Input number kind) (Switch enabled) of comes = absurd of
    by_sort (device.Input number kind) (Bytes pending) of comes = absurd of
    by_sort (device.Input number kind) Outward of comes = absurd of
    by_sort (device.Input number kind) (Values own pending) of comes =
        subst (λ (to : Kind). IsFor x to) (sym of.0)
        (record { is_kind = of.1; is_value = comes.is_value; suits = comes.suits })
values_for (first ∷ devices) (channel ∷ channels) (suc d) x all comes = values_for devices channels d x all.1 comes

pub input-there : (setup : Setup) (device : ℕ) (found : Option Device) → slice_get setup.devices device ≡ found →
    IsSome (input_kind found) → device < length setup.devices
input-there setup device None e is = absurd (true≢false (sym is))
input-there setup device (Some x) e is = slice_get_within setup.devices device x e

pub readable-there : (setup : Setup) (device : ℕ) (found : Option Device) → slice_get setup.devices device ≡ found →
    IsReadable found → device < length setup.devices
readable-there setup device None e is = absurd is
readable-there setup device (Some x) e is = slice_get_within setup.devices device x e

pub comes-there : (setup : Setup) (device : ℕ) (x : Cell) (found : Option Device) → slice_get setup.devices device ≡ found →
    ComesInAt (input_kind found) x → device < length setup.devices
comes-there setup device x None e is = absurd is
comes-there setup device x (Some d) e is = slice_get_within setup.devices device d e

-- TIMES

start_timely : (setup : Setup) (start : Start) → IsStart setup start → IsTimelyStart start
start_timely setup Free is = tt
start_timely setup (At time) is = tt
start_timely setup (After time) is = is.1
start_timely setup (When interrupt) is = tt
start_timely setup (WhenAfter interrupt time) is = is.1.1

once_timely : (setup : Setup) (start : Start) → IsOnce setup start → IsTimelyStart start
once_timely setup Free is = tt
once_timely setup (At time) is = tt
once_timely setup (After time) is = is.1
once_timely setup (When interrupt) is = tt
once_timely setup (WhenAfter interrupt time) is = absurd is

later_timely : (setup : Setup) (start : Start) → IsLater setup start → IsTimelyStart start
later_timely setup Free is = absurd is
later_timely setup (At time) is = tt
later_timely setup (After time) is = is.1
later_timely setup (When interrupt) is = tt
later_timely setup (WhenAfter interrupt time) is = absurd is

repeat_timely : (repeat : Repeat) → IsRepeat repeat → IsTimelyRepeat repeat
repeat_timely repeat.Once is = tt
repeat_timely (repeat.All period) is = is.1
repeat_timely (repeat.Until period time) is = is.0.1
repeat_timely (repeat.During period time) is = (is.0.1, is.1.1)

end_timely : (e : End) → IsEnd e → IsTimelyEnd e
end_timely end.Never is = tt
end_timely (end.Until time) is = tt
end_timely (end.During time) is = is

if_some : {X : Type 0} (P Q : X → Type 0) → ((x : X) → P x → Q x) → (o : Option X) → IfSome o P → IfSome o Q
if_some P Q then None p = tt
if_some P Q then (Some x) p = then x p

row_timely : (setup : Setup) (row : TaskRow) → IsPlannedRow setup row → IsTimelyRow row
row_timely setup row is = (
  if_some (IsPlan setup) IsTimelyPlan (λ plan p. (p.after, end_timely plan.end p.end)) row.continuation is.0,
  if_some (λ a. IsPlan setup a.plan) (λ a. IsTimelyPlan a.plan)
      (λ a p. (p.after, end_timely a.plan.end p.end)) row.activation is.1,
)

rows_timely : (setup : Setup) (rows : List TaskRow) → AllByRecursion (IsPlannedRow setup) rows →
    AllByRecursion IsTimelyRow rows
rows_timely setup [] all = tt
rows_timely setup (row ∷ rows) all = (row_timely setup row all.0, rows_timely setup rows all.1)

-- A LAWFUL KERNEL

module _ (setup : Setup) (k : Kept) (lawful : IsLawful setup k) where
  pub lawful-timely : IsTimely k.core
  lawful-timely = record {
    moment = lawful.moment;
    clock = lawful.plans.clock;
    plans = rows_timely setup k.core.tasks lawful.plans.plans;
  }

  pub slots-length : length k.core.slots ≡ length setup.slots
  slots-length = zip_length IsLike setup.slots k.core.slots lawful.kinds.slots

  pub slot-value : (slot : ℕ) → slot < length k.core.slots → IsValue (value_at k.core.slots slot)
  slot-value slot there = value_there setup.slots k.core.slots slot lawful.kinds.slots there

  pub channels-length : length k.core.channels ≡ length setup.devices
  channels-length = zip_length IsChannelOf setup.devices k.core.channels lawful.kinds.channels

  task_there : (task : ℕ) → task < length setup.tasks → task < length k.core.tasks
  task_there task there = subst (λ n. task < n) (sym lawful.tasks) there

  has_switch : (device : ℕ) → IsInterrupt (slice_get setup.devices device) → HasSwitch (channel_of k.core device)
  has_switch device is = interrupt_switch setup.devices k.core.channels device lawful.kinds.channels is

  -- a terminal that gives texts has bytes
  pub has-bytes : (device : ℕ) → IsReadable (slice_get setup.devices device) → HasBytes (channel_of k.core device)
  has-bytes device is = readable_bytes setup.devices k.core.channels device lawful.kinds.channels is

  -- an action that fits the tables names what is there
  pub fits-names : (a : Action) → Fits setup a → Names k.core a
  fits-names (action.Read slot) fits = subst (λ n. slot < n) (sym slots-length) fits
  fits-names (action.Write slot value) fits = subst (λ n. slot < n) (sym slots-length) fits.0
  fits-names action.Turn fits = tt
  fits-names action.Enter fits = tt
  fits-names action.Now fits = tt
  fits-names (action.Request list) fits =
      are_there setup.semaphores k.core.counts list.items lawful.counts (record { there = fits.there; distinct = fits.distinct })
  fits-names (action.Release list) fits =
      are_there setup.semaphores k.core.counts list.items lawful.counts (record { there = fits.there; distinct = fits.distinct })
  fits-names (action.Try semaphore) fits = subst (λ n. semaphore < n) (sym lawful.counts) fits
  fits-names (action.Activate task start repeat priority) fits =
      (task_there task fits.0, start_timely setup start fits.1, repeat_timely repeat fits.2)
  fits-names (action.Continue task start) fits = (task_there task fits.0, once_timely setup start fits.1)
  fits-names (action.Resume start) fits = later_timely setup start fits
  fits-names (action.Suspend task) fits = task_there task fits
  fits-names (action.Terminate task) fits = task_there task fits
  fits-names (action.Prevent task) fits = task_there task fits
  fits-names (action.Enable device) fits = has_switch device fits
  fits-names (action.Disable device) fits = has_switch device fits
  fits-names (action.Trigger device) fits = tt
  fits-names (action.Put device text) fits = tt
  fits-names (action.Get device format kinds) fits = (has-bytes device fits.gives, fits.few, fits.are)
  fits-names (action.Take device) fits =
      subst (λ n. device < n) (sym channels-length) (input-there setup device (slice_get setup.devices device) refl fits)
  fits-names (action.Send device value) fits = tt
  fits-names action.End fits = tt
  fits-names (action.Trap trap) fits = tt

  pub names-all : NamesAll k
  names-all t a e = fits-names a (lawful.fits t a e)

  typed : (text : List ℕ) → AllByRecursion IsPrinted text → AllByRecursion IsTyped text
  typed [] all = tt
  typed (byte ∷ text) all = (inr all.0, typed text all.1)

  all_typed : (text : List ℕ) → AllByRecursion IsTyped text → All IsTyped text
  all_typed [] all k d within = let no : ⊥ = omega arith in absurd no
  all_typed (byte ∷ text) all zero d within = all.0
  all_typed (byte ∷ text) all (suc k) d within = all_typed text all.1 k d (omega arith)

  -- what fits the tables suits the channels
  pub comes-in : (entry : Entry) → EntryFits setup k.core.moment entry → ComesIn k.core entry
  comes-in (come.Clock time) fits = tt
  comes-in (come.Run picks) fits = tt
  comes-in (come.Tick milliseconds) fits = tt
  comes-in (come.Pass times picks) fits = tt
  comes-in (come.Irpt device) fits = tt
  comes-in (come.Chars device text) fits = (has-bytes device fits.0, all_typed text.items (typed text.items fits.1))
  comes-in (come.Line device text) fits = (has-bytes device fits.0, all_typed text.items (typed text.items fits.1))
  comes-in (come.Value device x) fits = values_for setup.devices k.core.channels device x lawful.kinds.channels fits
  comes-in (come.Turn task) fits = tt
  comes-in come.State fits = tt
