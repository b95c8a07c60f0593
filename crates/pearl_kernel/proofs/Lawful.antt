-- What happens leaves a lawful kernel: an action, an interrupt, milliseconds, a clock that is set.
use Rattle.std.proofs.Common.{◌≡◌, ℕ, ◌+◌, ◌<◌, ◌≤◌, List, Option, Some, None, length, slice_get, slice_set}
use Rattle.std.proofs.Common.{IsTrue, IfSome, MatchOption, zero, suc, [], ◌∷◌, Bool, true, false, drop, refl, sym, subst, ◌∙◌, length-set}
use Rattle.std.proofs.lemmas.Option.{none-some}
use Rattle.std.specs.List.{AllByRecursion, AllZip}
use Rattle.pearl_rules.specs.declared.action.Action.{Action}
use Rattle.pearl_rules.specs.declared.action.Action.TheVariants as action
use Rattle.pearl_rules.specs.declared.entry.Entry.{Entry}
use Rattle.pearl_rules.specs.declared.entry.Entry.TheVariants as entry
use Rattle.pearl_rules.specs.declared.event.Event.{Event}
use Rattle.pearl_rules.specs.declared.row.Plan.{Plan}
use Rattle.pearl_value.specs.declared.device.Device.{Device}
use Rattle.pearl_value.specs.declared.device.Device.TheVariants as device
use Rattle.pearl_rules.specs.declared.setup.Setup.{Setup}
use Rattle.pearl_rules.specs.Core.{Core, Channel, Switch, Bytes, Values, Outward, Report, Happened, is_active}
use Rattle.pearl_rules.specs.Devices.{interrupted, arrived}
use Rattle.pearl_rules.specs.Effect.{effect}
use Rattle.pearl_rules.specs.Entries.{EntryFits, last_moment_of_all}
use Rattle.pearl_rules.specs.Plans.{millisecond}
use Rattle.pearl_rules.specs.Slots.{Fits, HasCounts, IsChannelOf}
use Rattle.pearl_rules.specs.Tables.{IsInterrupt}
use Rattle.pearl_rules.specs.Entries.{IsFitting}
use Rattle.pearl_rules.proofs.Offered.{effect-counts, millisecond-counts, arrived-counts, effect-length, effect-kinds}
use Rattle.pearl_rules.proofs.Offered.{millisecond-length, millisecond-kinds, arrived-length, arrived-kinds}
use Rattle.pearl_rules.proofs.Offered.{effect-urgencies, millisecond-urgencies, arrived-urgencies, effect-plans}
use Rattle.pearl_rules.proofs.Offered.{millisecond-plans, arrived-plans, Closed, ClosedAtEnds, IsFree, Brings, Starts}
use Rattle.pearl_rules.proofs.Offered.{any_kept, effect-free, arrived-kept, interrupted-kept, millisecond-kept}
use Rattle.pearl_records.specs.Records.{IsRecordable}
use Rattle.pearl_kernel.specs.Kept.{Kept, offered, done, taken, IsReportOf, IsToldNext, NamesWhatIsThere, IsLawful}
use Rattle.pearl_rules.specs.Laws.{passed}
use Rattle.pearl_kernel.specs.Timing.{IsQuiet}
use Rattle.pearl_kernel.proofs.Passing.{passed-quiet}
use Rattle.pearl_kernel.proofs.Places.{some-before, some-dropped, dropped-length}
use Rattle.pearl_kernel.proofs.Quiet.{quiet-less, quiet-after, quiet-interrupted, quiet-millisecond, quiet-arrived}
use Rattle.pearl_kernel.proofs.Told.{reports-after, reports-interrupted, reports-millisecond, reports-arrived}

-- THE MOMENT

abbrev AnyPriority : ℕ → Type 0
AnyPriority priority = Unit {0}

abbrev AnyPlan : Plan → Type 0
AnyPlan plan = Unit {0}

if_any : {X : Type 0} (P : X → Type 0) → ((x : X) → P x) → (o : Option X) → IfSome o P
if_any P all None = tt
if_any P all (Some x) = all x

abbrev IsNear : Core → Type 0
IsNear core = core.moment ≤ last_moment_of_all

near_closed : Closed AnyPriority AnyPlan IsNear
near_closed = record {
  told = λ core e near. near;
  stands = λ core t row mode kept at stays keeps near. near;
  goes_on = λ core t row plan at lawful near. near;
  starts = λ core t row plan at lawful near. near;
  going = λ core t row at near. if_any AnyPlan (λ plan. tt) row.continuation;
  starting = λ core t row at near. if_any (Starts AnyPriority AnyPlan) (λ plan. (tt, tt)) row.activation;
  keeping = λ core t row at near. any_kept row.kept;
  begins = λ core plan lawful. tt;
}

near_ends : ClosedAtEnds IsNear
near_ends = record { ends = λ core t row at near. near; prevents = λ core t row at near. near }

near_free : IsFree IsNear
near_free core other only near = subst (λ n. n ≤ last_moment_of_all) (sym only.moment) near

brings_any : (core : Core) (a : Action) → Brings AnyPriority AnyPlan core a
brings_any core (action.Activate t start repeat priority) = ((λ row at. tt), (λ now. tt))
brings_any core (action.Continue t start) = λ now. tt
brings_any core (action.Resume start) = λ now. tt
brings_any core other = tt

-- LAWFUL KERNELS

-- what an action, a millisecond and whatever comes in leave of a core that can be recorded can be recorded
abbrev pub ActsKeep : Type 0
ActsKeep = (setup : Setup) (core : Core) (own : ℕ) (action : Action) → own < length core.tasks → IsTrue (is_active core own) →
    Fits setup action → IsRecordable setup core → IsRecordable setup (effect core own action).core

abbrev pub PassesKeep : Type 0
PassesKeep = (setup : Setup) (core : Core) → core.moment + 1 ≤ last_moment_of_all → IsRecordable setup core →
    IsRecordable setup (millisecond core)

abbrev pub ArrivesKeep : Type 0
ArrivesKeep = (setup : Setup) (core : Core) (come : Entry) → IsFitting setup come → IsRecordable setup core →
    IsRecordable setup (arrived core come)

pub recordable : (setup : Setup) (k : Kept) → IsLawful setup k → IsRecordable setup k.core
recordable setup k lawful = record {
  kinds = lawful.kinds;
  counts = record { as_many = lawful.counts; small = lawful.counted };
  declared = lawful.declared;
  urgent = lawful.urgent;
  times = record { moment = lawful.moment; lawful = lawful.plans; rows = lawful.timed };
  last = lawful.last;
}

-- a task that has offered something is active
pub active-own : (setup : Setup) (k : Kept) (own : ℕ) (a : Action) → IsLawful setup k → offered k own ≡ Some a →
    is_active k.core own ≡ true
active-own setup k own a lawful offer = by_test (is_active k.core own) refl
  where
    by_test : (b : Bool) → is_active k.core own ≡ b → is_active k.core own ≡ true
    by_test true e = e
    by_test false e = absurd (none-some a (sym (lawful.quiet own e) ∙ offer))

has_counts : (setup : Setup) (k : Kept) → IsLawful setup k → HasCounts setup k.core
has_counts setup k lawful = record { as_many = lawful.counts; small = lawful.counted }

pub lawful-after : ActsKeep → (setup : Setup) (k : Kept) (own : ℕ) (a : Action) → own < length k.core.tasks →
    offered k own ≡ Some a → IsLawful setup k → IsLawful setup (done k own a)
lawful-after keeps setup k own a there offer lawful =
    let fits = lawful.fits own a offer in
    let new = keeps setup k.core own a there (active-own setup k own a lawful offer) fits (recordable setup k lawful) in
    let after = effect k.core own a in
    let left = slice_set k.offers own None in
    let size = effect-length k.core own a in
    let counts = effect-counts setup k.core own a (has_counts setup k lawful) fits in
    record {
      tasks = size ∙ lawful.tasks;
      counts = counts.as_many;
      counted = counts.small;
      kinds = effect-kinds setup k.core own a lawful.kinds fits;
      urgent = effect-urgencies setup k.core own a lawful.urgent fits;
      plans = effect-plans setup k.core own a lawful.plans fits;
      moment = effect-free AnyPriority AnyPlan IsNear near_closed near_free near_ends k.core own a (brings_any k.core a)
          lawful.moment;
      timed = new.times.rows;
      declared = new.declared;
      last = new.last;
      same = dropped-length after.ended left ∙ length-set k.offers own None ∙ lawful.same ∙ sym size;
      quiet = quiet-after left k.core own a (quiet-less k.core.tasks k.offers own lawful.quiet);
      fits = λ t b e. lawful.fits t b (some-before k.offers own t b (some-dropped after.ended left t b e));
      told = reports-after setup k.core own a (subst (λ n. own < n) lawful.tasks there) lawful.tasks fits lawful.told;
    }

pub lawful-interrupt : ArrivesKeep → (setup : Setup) (k : Kept) (device : ℕ) → IsInterrupt (slice_get setup.devices device) →
    IsLawful setup k → IsLawful setup (record k { core = interrupted k.core device })
lawful-interrupt keeps setup k device is lawful =
    let irpt = entry.Irpt device in
    let fits : IsFitting setup irpt = (0, is) in
    let new = keeps setup k.core irpt fits (recordable setup k lawful) in
    let size = arrived-length k.core irpt in
    let counts = arrived-counts setup k.core irpt (has_counts setup k lawful) in
    record {
      tasks = size ∙ lawful.tasks;
      counts = counts.as_many;
      counted = counts.small;
      kinds = arrived-kinds setup k.core irpt lawful.kinds fits;
      urgent = arrived-urgencies k.core irpt lawful.urgent;
      plans = arrived-plans setup k.core irpt lawful.plans fits;
      moment = interrupted-kept AnyPriority AnyPlan IsNear near_closed k.core device lawful.moment;
      timed = new.times.rows;
      declared = new.declared;
      last = new.last;
      same = lawful.same ∙ sym size;
      quiet = quiet-interrupted k.offers k.core device lawful.quiet;
      fits = lawful.fits;
      told = reports-interrupted setup k.core device lawful.tasks is lawful.told;
    }

pub lawful-arrived : ArrivesKeep → (setup : Setup) (k : Kept) (come : Entry) → EntryFits setup k.core.moment come → IsLawful setup k →
    IsLawful setup (record k { core = arrived k.core come })
lawful-arrived keeps setup k come comes lawful =
    let fits : IsFitting setup come = (k.core.moment, comes) in
    let new = keeps setup k.core come fits (recordable setup k lawful) in
    let size = arrived-length k.core come in
    let counts = arrived-counts setup k.core come (has_counts setup k lawful) in
    record {
      tasks = size ∙ lawful.tasks;
      counts = counts.as_many;
      counted = counts.small;
      kinds = arrived-kinds setup k.core come lawful.kinds fits;
      urgent = arrived-urgencies k.core come lawful.urgent;
      plans = arrived-plans setup k.core come lawful.plans fits;
      moment = arrived-kept AnyPriority AnyPlan IsNear near_closed near_free k.core come (λ time e. lawful.moment) lawful.moment;
      timed = new.times.rows;
      declared = new.declared;
      last = new.last;
      same = lawful.same ∙ sym size;
      quiet = quiet-arrived k.offers k.core come lawful.quiet;
      fits = lawful.fits;
      told = reports-arrived setup k.core come k.core.moment lawful.tasks comes lawful.told;
    }

pub lawful-millisecond : PassesKeep → (setup : Setup) (k : Kept) → k.core.moment + 1 ≤ last_moment_of_all → IsLawful setup k →
    IsLawful setup (record k { core = millisecond k.core })
lawful-millisecond keeps setup k later lawful =
    let new = keeps setup k.core later (recordable setup k lawful) in
    let size = millisecond-length k.core in
    let counts = millisecond-counts setup k.core (has_counts setup k lawful) in
    record {
      tasks = size ∙ lawful.tasks;
      counts = counts.as_many;
      counted = counts.small;
      kinds = millisecond-kinds setup k.core lawful.kinds;
      urgent = millisecond-urgencies k.core lawful.urgent;
      plans = millisecond-plans setup k.core lawful.plans;
      moment = millisecond-kept AnyPriority AnyPlan IsNear near_closed k.core later;
      timed = new.times.rows;
      declared = new.declared;
      last = new.last;
      same = lawful.same ∙ sym size;
      quiet = quiet-millisecond k.offers k.core lawful.quiet;
      fits = lawful.fits;
      told = reports-millisecond setup k.core lawful.tasks lawful.told;
    }

-- another moment, another clock, another task that acted last, or what is told
lawful_with : (setup : Setup) (k : Kept) (moment clock : ℕ) (last : Option ℕ) (told : List (ℕ × Report)) →
    moment ≤ last_moment_of_all → clock < 86400000 → IfSome last (λ t. t < length k.core.tasks) →
    AllByRecursion (IsReportOf setup) told → IsLawful setup k →
    IsLawful setup (record k {
      core = record k.core { moment = moment; clock = clock; last = last; told = told };
    })
lawful_with setup k moment clock last told near is acted all lawful = record {
  tasks = lawful.tasks;
  counts = lawful.counts;
  counted = lawful.counted;
  kinds = record { slots = lawful.kinds.slots; channels = lawful.kinds.channels; formats = lawful.kinds.formats };
  urgent = lawful.urgent;
  plans = record { plans = lawful.plans.plans; clock = is };
  moment = near;
  timed = lawful.timed;
  declared = lawful.declared;
  last = acted;
  same = lawful.same;
  quiet = lawful.quiet;
  fits = lawful.fits;
  told = all;
}

pub lawful-moment : (setup : Setup) (k : Kept) (moment : ℕ) → moment ≤ last_moment_of_all → IsLawful setup k →
    IsLawful setup (record k { core = record k.core { moment = moment } })
lawful-moment setup k moment near lawful =
    lawful_with setup k moment k.core.clock k.core.last k.core.told near lawful.plans.clock lawful.last lawful.told lawful

pub lawful-passed : (setup : Setup) (k : Kept) (n : ℕ) → k.core.moment + n ≤ last_moment_of_all → IsQuiet k.core n →
    IsLawful setup k → IsLawful setup (record k { core = passed n k.core })
lawful-passed setup k n later quiet lawful =
    subst (λ (c : Core). IsLawful setup (record k { core = c })) (sym (passed-quiet n k.core quiet))
    (lawful-moment setup k (k.core.moment + n) later lawful)

pub lawful-clock : (setup : Setup) (k : Kept) (time : ℕ) → time < 86400000 → IsLawful setup k →
    IsLawful setup (record k { core = record k.core { clock = time } })
lawful-clock setup k time is lawful =
    lawful_with setup k k.core.moment time k.core.last k.core.told lawful.moment is lawful.last lawful.told lawful

pub lawful-last : (setup : Setup) (k : Kept) (last : Option ℕ) → IfSome last (λ t. t < length k.core.tasks) → IsLawful setup k →
    IsLawful setup (record k { core = record k.core { last = last } })
lawful-last setup k last acted lawful =
    lawful_with setup k k.core.moment k.core.clock last k.core.told lawful.moment lawful.plans.clock acted lawful.told lawful

lawful_told : (setup : Setup) (k : Kept) (told : List (ℕ × Report)) → AllByRecursion (IsReportOf setup) told →
    IsLawful setup k → IsLawful setup (record k { core = record k.core { told = told } })
lawful_told setup k told all lawful =
    lawful_with setup k k.core.moment k.core.clock k.core.last told lawful.moment lawful.plans.clock lawful.last all lawful

-- the oldest event is taken
pub lawful-taken : (setup : Setup) (k new : Kept) (taken : Option Event) →
    MatchOption taken ((k.core.told ≡ []) × (new ≡ k)) (λ e. k.core.told ≡ (k.core.moment, Happened e) ∷ new.core.told) →
    new ≡ record k { core = record k.core { told = new.core.told } } → IsLawful setup k → IsLawful setup new
lawful-taken setup k new None taken same lawful = subst (λ (x : Kept). IsLawful setup x) (sym taken.1) lawful
lawful-taken setup k new (Some e) taken same lawful =
    subst (λ (x : Kept). IsLawful setup x) (sym same)
    (lawful_told setup k new.core.told (subst (λ xs. AllByRecursion (IsReportOf setup) xs) taken lawful.told).1 lawful)

pub lawful-dropped : (setup : Setup) (k : Kept) → IsLawful setup k → IsLawful setup (record k { core = taken k.core })
lawful-dropped setup k lawful =
    lawful_told setup k (drop 1 k.core.told) (later k.core.told lawful.told) lawful
  where
    later : (told : List (ℕ × Report)) → AllByRecursion (IsReportOf setup) told →
        AllByRecursion (IsReportOf setup) (drop 1 told)
    later [] all = tt
    later (report ∷ told) all = all.1

-- the event that is told next names what is there
pub names-next : (setup : Setup) (k : Kept) (event : Event) → IsToldNext k.core event → IsLawful setup k →
    NamesWhatIsThere setup event
names-next setup k event next lawful =
    (subst (λ xs. AllByRecursion (IsReportOf setup) xs) next.1 lawful.told).0

-- THE TABLES OF A KERNEL

same_sort : (x y : Device) (channel : Channel) → IsChannelOf x channel → IsChannelOf y channel → IsInterrupt (Some x) →
    IsInterrupt (Some y)
same_sort (device.Interrupt number) (device.Interrupt other) channel p q is = tt
same_sort (device.Interrupt number) (device.Terminal other direction) (Switch enabled) p q is = absurd q
same_sort (device.Interrupt number) (device.Terminal other direction) (Bytes pending) p q is = absurd p
same_sort (device.Interrupt number) (device.Terminal other direction) (Values kind pending) p q is = absurd p
same_sort (device.Interrupt number) (device.Terminal other direction) Outward p q is = absurd p
same_sort (device.Interrupt number) (device.Input other kind) (Switch enabled) p q is = absurd q
same_sort (device.Interrupt number) (device.Input other kind) (Bytes pending) p q is = absurd p
same_sort (device.Interrupt number) (device.Input other kind) (Values own pending) p q is = absurd p
same_sort (device.Interrupt number) (device.Input other kind) Outward p q is = absurd p
same_sort (device.Interrupt number) (device.Output other kind) (Switch enabled) p q is = absurd q
same_sort (device.Interrupt number) (device.Output other kind) (Bytes pending) p q is = absurd p
same_sort (device.Interrupt number) (device.Output other kind) (Values own pending) p q is = absurd p
same_sort (device.Interrupt number) (device.Output other kind) Outward p q is = absurd p
same_sort (device.Terminal number direction) y channel p q is = absurd is
same_sort (device.Input number kind) y channel p q is = absurd is
same_sort (device.Output number kind) y channel p q is = absurd is

-- of two tables of one kernel the devices are of the same sorts
pub same-interrupt : (devices others : List Device) (channels : List Channel) (d : ℕ) →
    AllZip IsChannelOf devices channels → AllZip IsChannelOf others channels → IsInterrupt (slice_get devices d) →
    IsInterrupt (slice_get others d)
same-interrupt [] others channels d p q is = absurd is
same-interrupt (x ∷ devices) others [] d p q is = absurd p
same-interrupt (x ∷ devices) [] (channel ∷ channels) d p q is = absurd q
same-interrupt (x ∷ devices) (y ∷ others) (channel ∷ channels) zero p q is = same_sort x y channel p.0 q.0 is
same-interrupt (x ∷ devices) (y ∷ others) (channel ∷ channels) (suc d) p q is =
    same-interrupt devices others channels d p.1 q.1 is
