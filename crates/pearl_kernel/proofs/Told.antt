-- What actions, interrupts and milliseconds tell names what is there.
use Rattle.std.proofs.Common.{◌≡◌, ℕ, zero, suc, ◌<◌, ◌≤◌, List, [], ◌∷◌, ◌++◌, Bool, true, false, Option, Some, None, Result, Ok, Err, nat_le, nat_lt}
use Rattle.std.proofs.Common.{length, slice_get, refl, sym, subst, arith, ◌+◌, if◌then◌else◌}
use Rattle.std.specs.List.{AllByRecursion}
use Rattle.std.proofs.lemmas.Option.{slice_get_within}
use Rattle.pearl_value.specs.declared.cell.Cell.{Cell}
use Rattle.pearl_value.specs.declared.kind.Kind.{Kind}
use Rattle.pearl_value.specs.declared.trap.Trap.{Trap}
use Rattle.pearl_value.specs.declared.trap.Trap.TheVariants.{SemaLimit, Format}
use Rattle.pearl_value.specs.Conversions.{converted}
use Rattle.pearl_value.specs.WellFormed.{IsValue}
use Rattle.pearl_rules.specs.declared.action.Action.{Action}
use Rattle.pearl_rules.specs.declared.action.Action.TheVariants as action
use Rattle.pearl_rules.specs.declared.entry.Entry.{Entry}
use Rattle.pearl_rules.specs.declared.entry.Entry.TheVariants as come
use Rattle.pearl_rules.specs.declared.event.Event.{Event}
use Rattle.pearl_rules.specs.declared.event.Event.TheVariants as event
use Rattle.pearl_rules.specs.declared.row.TaskRow.{TaskRow}
use Rattle.pearl_value.specs.declared.device.Device.{Device}
use Rattle.pearl_value.specs.declared.device.Device.TheVariants as to
use Rattle.pearl_rules.specs.declared.setup.Setup.{Setup}
use Rattle.pearl_rules.specs.Core.{Core, Channel, Switch, Bytes, Values, Outward, Report, Happened, note, row_of, with_row}
use Rattle.pearl_rules.specs.Counts.{all_below_most, count_at}
use Rattle.pearl_rules.specs.Devices.{is_enabled, interrupted, channel_of, with_channel, items_of, bytes_at, with_bytes, without_bytes, terminal_room}
use Rattle.pearl_rules.specs.Devices.{values_at, input_room, joined, with_value_by, with_value, without_value_by, arrived}
use Rattle.pearl_rules.specs.Entries.{EntryFits}
use Rattle.pearl_rules.specs.Scan.{Scanned, Short, Bad, Got, scan}
use Rattle.pearl_rules.specs.Effect.{effect, priority_or_declared, releasing, trying, getting, taking}
use Rattle.pearl_rules.specs.Plans.{on_row, changed_row, each_task, served, millisecond, reached, occurred}
use Rattle.pearl_rules.specs.Slots.{Fits, IsSent}
use Rattle.pearl_rules.specs.Tables.{IsWritable, IsInterrupt, output_kind}
use Rattle.pearl_kernel.specs.Kept.{NamesWhatIsThere, IsReportOf}
use Rattle.pearl_kernel.proofs.Naming.{interrupt-there, readable-there, comes-there}
use Rattle.pearl_kernel.proofs.OneTask as one

module _ (setup : Setup) where
  abbrev pub AreReports : List (ℕ × Report) → Type 0
  AreReports told = AllByRecursion (IsReportOf setup) told

  abbrev TellsWell : Core → Type 0
  TellsWell core = AreReports core.told

  reports_more : (told : List (ℕ × Report)) (report : ℕ × Report) → IsReportOf setup report → AreReports told →
      AreReports (told ++ report ∷ [])
  reports_more [] report is all = (is, tt)
  reports_more (first ∷ told) report is all = (all.0, reports_more told report is all.1)

  reports_note : (core : Core) (e : Event) → NamesWhatIsThere setup e → TellsWell core → TellsWell (note core e)
  reports_note core e is all = reports_more core.told (core.moment, Happened e) is all

  reports_row : (core : Core) (u : ℕ) (change : TaskRow → TaskRow) → TellsWell core → TellsWell (changed_row core u change)
  reports_row core u change all = by_row (row_of core u)
    where
      by_row : (row : Option TaskRow) → TellsWell (on_row row core (λ r. with_row core u (change r)))
      by_row None = all
      by_row (Some row) = all

  -- an event of a task that is there
  names_task : (u : ℕ) (e : Event) → u < length setup.tasks → one.IsOf u e → NamesWhatIsThere setup e
  names_task u (event.Start task priority) there is = subst (λ t. t < length setup.tasks) (sym is) there
  names_task u (event.End task) there is = subst (λ t. t < length setup.tasks) (sym is) there
  names_task u (event.Stop task) there is = subst (λ t. t < length setup.tasks) (sym is) there
  names_task u (event.Trap task trap) there is = subst (λ t. t < length setup.tasks) (sym is) there
  names_task u (event.Kept task number) there is = subst (λ t. t < length setup.tasks) (sym is) there
  names_task u (event.Overrun task) there is = subst (λ t. t < length setup.tasks) (sym is) there
  names_task u (event.Masked device) there is = absurd is
  names_task u (event.Lost device) there is = absurd is
  names_task u (event.Out device text) there is = absurd is
  names_task u (event.Send device value) there is = absurd is

  closed : (u : ℕ) → u < length setup.tasks → one.Closed TellsWell u
  closed u there = record {
    row = λ core change all. reports_row core u change all;
    tell = λ core e is all. reports_note core e (names_task u e there is) all;
  }

  -- each of the first n tasks
  each : (change : Core → ℕ → Core) →
      ((core : Core) (u : ℕ) → u < length setup.tasks → TellsWell core → TellsWell (change core u)) →
      (n : ℕ) (core : Core) → n ≤ length setup.tasks → TellsWell core → TellsWell (each_task change n core)
  each change keeps zero core within all = all
  each change keeps (suc n) core within all =
      keeps (each_task change n core) n (omega (arith, within)) (each change keeps n core (omega (arith, within)) all)

  pub reports-millisecond : (core : Core) → length core.tasks ≡ length setup.tasks → TellsWell core →
      TellsWell (millisecond core)
  reports-millisecond core same all =
      each served (λ c u there tells. one.served-kept TellsWell u (closed u there) c tells)
      (length core.tasks) (record core { moment = core.moment + 1 }) (omega (arith, same)) all

  reports_occurred : (core : Core) (interrupt : ℕ) → length core.tasks ≡ length setup.tasks → TellsWell core →
      TellsWell (occurred core interrupt)
  reports_occurred core interrupt same all =
      each (reached interrupt) (λ c u there tells. one.reached-kept TellsWell u (closed u there) interrupt c tells)
      (length core.tasks) core (omega (arith, same)) all

  pub reports-interrupted : (core : Core) (device : ℕ) → length core.tasks ≡ length setup.tasks →
      IsInterrupt (slice_get setup.devices device) → TellsWell core → TellsWell (interrupted core device)
  reports-interrupted core device same is all = by_enabled (is_enabled core device)
    where
      by_enabled : (enabled : Bool) →
          TellsWell (if enabled then occurred core device else note core (event.Masked device))
      by_enabled true = reports_occurred core device same all
      by_enabled false = reports_note core (event.Masked device) (interrupt-there setup device is) all

  reports_releasing : (core : Core) (own : ℕ) (list : List ℕ) (can_raise : Bool) → own < length setup.tasks →
      TellsWell core → TellsWell (releasing core own list can_raise).core
  reports_releasing core own list true there all = all
  reports_releasing core own list false there all =
      one.ending-kept TellsWell own (closed own there) core (event.Trap own SemaLimit) refl all

  reports_trying : (core : Core) (semaphore : ℕ) (is_free : Bool) → TellsWell core →
      TellsWell (trying core semaphore is_free).core
  reports_trying core semaphore true all = all
  reports_trying core semaphore false all = all

  reports_getting : (core : Core) (own device : ℕ) (scanned : Scanned) → own < length setup.tasks → TellsWell core →
      TellsWell (getting core own device scanned).core
  reports_getting core own device Short there all =
      one.ending-kept TellsWell own (closed own there) core (event.End own) refl all
  reports_getting core own device (Bad used) there all =
      one.ending-kept TellsWell own (closed own there) (without_bytes core device used) (event.Trap own Format) refl all
  reports_getting core own device (Got used values) there all = all

  reports_taking : (core : Core) (own device : ℕ) (values : List Cell) → own < length setup.tasks → TellsWell core →
      TellsWell (taking core own device values).core
  reports_taking core own device [] there all =
      one.ending-kept TellsWell own (closed own there) core (event.End own) refl all
  reports_taking core own device (x ∷ later) there all = by_channel (channel_of core device)
    where
      by_channel : (channel : Option Channel) → TellsWell (without_value_by channel core device)
      by_channel None = all
      by_channel (Some (Switch enabled)) = all
      by_channel (Some (Bytes pending)) = all
      by_channel (Some (Values kind pending)) = all
      by_channel (Some Outward) = all

  sent_there : (device : ℕ) (x : Cell) (found : Option Device) → slice_get setup.devices device ≡ found →
      IsSent (output_kind found) x → (device < length setup.devices) × IsValue x
  sent_there device x None e sent = absurd sent
  sent_there device x (Some (to.Interrupt number)) e sent = absurd sent
  sent_there device x (Some (to.Terminal number direction)) e sent = absurd sent
  sent_there device x (Some (to.Input number kind)) e sent = absurd sent
  sent_there device x (Some (to.Output number kind)) e sent =
      (slice_get_within setup.devices device (to.Output number kind) e, sent.is_value)

  -- WHAT COMES IN

  reports_bytes : (core : Core) (device : ℕ) (text : List ℕ) → device < length setup.devices → TellsWell core →
      TellsWell (with_bytes core device text)
  reports_bytes core device text there all = by_room (nat_le (length (bytes_at core device ++ text)) terminal_room)
    where
      by_room : (room : Bool) → TellsWell (if room then with_channel core device (Bytes (bytes_at core device ++ text))
          else note core (event.Lost device))
      by_room true = all
      by_room false = reports_note core (event.Lost device) there all

  reports_value : (core : Core) (device : ℕ) (x : Cell) → device < length setup.devices → TellsWell core →
      TellsWell (with_value core device x)
  reports_value core device x there all = by_channel (channel_of core device)
    where
      by_value : (kind : Kind) (pending : List Cell) (value : Result Cell Trap) → TellsWell (joined core device kind pending value)
      by_value kind pending (Err trap) = all
      by_value kind pending (Ok y) = all

      by_room : (kind : Kind) (pending : List Cell) (room : Bool) →
          TellsWell (if room then joined core device kind pending (converted x kind) else note core (event.Lost device))
      by_room kind pending true = by_value kind pending (converted x kind)
      by_room kind pending false = reports_note core (event.Lost device) there all

      by_channel : (channel : Option Channel) → TellsWell (with_value_by channel core device x)
      by_channel None = all
      by_channel (Some (Switch enabled)) = all
      by_channel (Some (Bytes pending)) = all
      by_channel (Some (Values kind pending)) = by_room kind pending (nat_lt (length pending) input_room)
      by_channel (Some Outward) = all

  pub reports-arrived : (core : Core) (entry : Entry) (moment : ℕ) → length core.tasks ≡ length setup.tasks →
      EntryFits setup moment entry → TellsWell core → TellsWell (arrived core entry)
  reports-arrived core (come.Clock time) moment same fits all = all
  reports-arrived core (come.Run picks) moment same fits all = all
  reports-arrived core (come.Tick milliseconds) moment same fits all = all
  reports-arrived core (come.Pass times picks) moment same fits all = all
  reports-arrived core (come.Irpt device) moment same fits all = reports-interrupted core device same fits all
  reports-arrived core (come.Chars device text) moment same fits all =
      reports_bytes core device text.items (readable-there setup device (slice_get setup.devices device) refl fits.0) all
  reports-arrived core (come.Line device text) moment same fits all =
      reports_bytes core device (text.items ++ 10 ∷ [])
      (readable-there setup device (slice_get setup.devices device) refl fits.0) all
  reports-arrived core (come.Value device x) moment same fits all =
      reports_value core device x (comes-there setup device x (slice_get setup.devices device) refl fits) all
  reports-arrived core (come.Turn task) moment same fits all = all
  reports-arrived core come.State moment same fits all = all

  writable_there : (device : ℕ) (found : Option Device) → slice_get setup.devices device ≡ found → IsWritable found →
      device < length setup.devices
  writable_there device None e writable = absurd writable
  writable_there device (Some x) e writable = slice_get_within setup.devices device x e

  pub reports-after : (core : Core) (own : ℕ) (a : Action) → own < length setup.tasks →
      length core.tasks ≡ length setup.tasks → Fits setup a → TellsWell core →
      TellsWell (effect core own a).core
  unfolding effect
  reports-after core own a there same fits all = by_action a fits
    where
      acted : Core
      acted = record core { last = Some own }

      by_action : (a : Action) → Fits setup a → TellsWell (effect core own a).core
      by_action (action.Read slot) fits = all
      by_action (action.Write slot value) fits = all
      by_action action.Turn fits = all
      by_action action.Enter fits = all
      by_action action.Now fits = all
      by_action (action.Request list) fits = all
      by_action (action.Release list) fits =
          reports_releasing acted own list.items (all_below_most core.counts list.items) there all
      by_action (action.Try semaphore) fits =
          reports_trying acted semaphore (nat_lt 0 (count_at core.counts semaphore)) all
      by_action (action.Activate u start repeat priority) fits =
          one.activated-kept TellsWell u (closed u fits.0) acted start repeat (priority_or_declared acted u priority) all
      by_action (action.Continue u start) fits = one.continues-kept TellsWell u (closed u fits.0) acted start all
      by_action (action.Resume start) fits = one.resuming-kept TellsWell own (closed own there) acted start all
      by_action (action.Suspend u) fits = one.mark-kept TellsWell u (closed u fits) acted true all
      by_action (action.Terminate u) fits = one.stopped-kept TellsWell u (closed u fits) acted all
      by_action (action.Prevent u) fits = one.prevented-kept TellsWell u (closed u fits) acted all
      by_action (action.Enable device) fits = all
      by_action (action.Disable device) fits = all
      by_action (action.Trigger device) fits = reports-interrupted acted device same fits all
      by_action (action.Put device text) fits =
          reports_note acted (event.Out device text) (writable_there device (slice_get setup.devices device) refl fits.0) all
      by_action (action.Get device format kinds) fits =
          reports_getting acted own device (scan (items_of core format) kinds.items (bytes_at core device)) there all
      by_action (action.Take device) fits = reports_taking acted own device (values_at core device) there all
      by_action (action.Send device value) fits =
          reports_note acted (event.Send device value) (sent_there device value (slice_get setup.devices device) refl fits) all
      by_action action.End fits = one.ending-kept TellsWell own (closed own there) acted (event.End own) refl all
      by_action (action.Trap trap) fits =
          one.ending-kept TellsWell own (closed own there) acted (event.Trap own trap) refl all
