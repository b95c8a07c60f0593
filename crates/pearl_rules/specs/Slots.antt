-- Which actions fit the tables, which answers suit an action, and what holds of each core: every slot and every input has values of its
-- kind; and which counts, priorities and plans there are.
use Rattle.std.specs.Prelude.{◌≡◌, ◌≢◌, ℕ, ◌^◌, ◌<◌, ◌≤◌, ℤ, pos, ◌≤ℤ◌, List, Option, Some, None, IsSome, IfSome, All, nat_eq, length, slice_get}
use Rattle.std.specs.List.{AllByRecursion, AllZip, IsDistinct}
use Rattle.arrayvec.specs.ArrayVec.{ArrayVec}
use Rattle.pearl_value.specs.declared.kind.Kind.{Kind}
use Rattle.pearl_value.specs.declared.kind.Kind.TheVariants as kind
use Rattle.pearl_value.specs.declared.cell.Cell.{Cell}
use Rattle.pearl_value.specs.Cells.{kind_of}
use Rattle.pearl_value.specs.Kinds.{IsKind}
use Rattle.pearl_value.specs.WellFormed.{IsValueOf, FitsSpan, IsTyped}
use Rattle.pearl_format.specs.Bytes.{IsTextByte}
use Rattle.pearl_format.specs.Items.{Suits as SuitsKinds}
use Rattle.pearl_rules.specs.declared.action.Action.{Action}
use Rattle.pearl_rules.specs.declared.action.Action.TheVariants as action
use Rattle.pearl_rules.specs.declared.action.Start.{Start}
use Rattle.pearl_rules.specs.declared.action.Start.TheVariants as start
use Rattle.pearl_rules.specs.declared.action.Repeat.{Repeat}
use Rattle.pearl_rules.specs.declared.action.Repeat.TheVariants as repeat
use Rattle.pearl_rules.specs.declared.action.Answer.{Answer}
use Rattle.pearl_rules.specs.declared.action.Answer.TheVariants.{Nothing, One, Many}
use Rattle.pearl_rules.specs.declared.row.Mode.{Mode}
use Rattle.pearl_rules.specs.declared.row.Mode.TheVariants.{Dormant, Active}
use Rattle.pearl_rules.specs.declared.row.Kept.TheVariants as kept
use Rattle.pearl_rules.specs.declared.row.End.{End}
use Rattle.pearl_rules.specs.declared.row.End.TheVariants as end
use Rattle.pearl_rules.specs.declared.row.Plan.{Plan}
use Rattle.pearl_rules.specs.declared.row.TaskRow.{TaskRow}
use Rattle.pearl_value.specs.declared.device.Device.{Device}
use Rattle.pearl_value.specs.declared.device.Device.TheVariants as device
use Rattle.pearl_rules.specs.declared.setup.Setup.{Setup}
use Rattle.pearl_rules.specs.Core.{Core, Channel, Switch, Bytes, Values, Outward, cell_or_zero, value_at}
use Rattle.pearl_rules.specs.Plans.{priorities, day}
use Rattle.pearl_rules.specs.Devices.{terminal_room, input_room}
use Rattle.pearl_value.specs.Counts.{IsPreset}
use Rattle.pearl_rules.specs.Tables.{TakesTexts, IsInterrupt, IsReadable, input_kind, output_kind, format_of}

-- the kind of a slot's values: that of its first value
abbrev pub slot_kind : Setup → ℕ → Kind
slot_kind setup slot = kind_of (value_at setup.slots slot)

-- one value of this kind
abbrev pub IsOneOf : Option Kind → Answer → Type 0
IsOneOf None answer = ⊥
IsOneOf (Some kind) answer = (x : Cell) × (answer ≡ One x) × IsValueOf kind x

-- values of these kinds
abbrev pub AreOf : List Kind → Answer → Type 0
AreOf kinds answer = (xs : ArrayVec Cell) × (answer ≡ Many xs) × AllZip IsValueOf kinds xs.items

-- The answers that an action of the task with this number can have. A task that ends hears nothing more, also where it terminates itself.
abbrev pub Suits : Setup → (own : ℕ) → Action → Answer → Type 0
Suits setup own (action.Read slot) answer = IsOneOf (Some (slot_kind setup slot)) answer
Suits setup own action.Now answer = IsOneOf (Some kind.Clock) answer
Suits setup own (action.Try semaphore) answer = IsOneOf (Some (kind.Bits 1)) answer
Suits setup own (action.Terminate task) answer = (task ≢ own) × (answer ≡ Nothing)
Suits setup own (action.Get device format kinds) answer = AreOf kinds.items answer
Suits setup own (action.Take device) answer = IsOneOf (input_kind (slice_get setup.devices device)) answer
Suits setup own action.End answer = ⊥
Suits setup own (action.Trap trap) answer = ⊥
Suits setup own action answer = answer ≡ Nothing

-- the value that an answer has; an answer that isn't one value counts as that of a new variable
abbrev pub heard_value : Answer → Cell
heard_value Nothing = cell_or_zero None
heard_value (One x) = x
heard_value (Many xs) = cell_or_zero None

-- these semaphores are there, and none is named twice
pub record AreNamed (setup : Setup) (semaphores : List ℕ) : Type 0 where
  pub there : AllByRecursion (λ semaphore. semaphore < length setup.semaphores) semaphores
  pub distinct : IsDistinct nat_eq semaphores

abbrev pub IsUrgency : ℕ → Type 0
IsUrgency priority = (0 < priority) × (priority ≤ 255)

-- a length of time of at least so many milliseconds
abbrev pub Lasts : ℤ → ℤ → Type 0
Lasts least time = (least ≤ℤ time) × FitsSpan time

-- a start of a plan: its time of day is one, its length of time isn't below 0, and its interrupt is there
abbrev pub IsStart : Setup → Start → Type 0
IsStart setup start.Free = Unit {0}
IsStart setup (start.At time) = time < day
IsStart setup (start.After time) = Lasts (pos 0) time
IsStart setup (start.When interrupt) = IsInterrupt (slice_get setup.devices interrupt)
IsStart setup (start.WhenAfter interrupt time) = IsInterrupt (slice_get setup.devices interrupt) × Lasts (pos 0) time

-- a task goes on once, so not some time after each interrupt
abbrev pub IsOnce : Setup → Start → Type 0
IsOnce setup (start.WhenAfter interrupt time) = ⊥
IsOnce setup when = IsStart setup when

-- and not at once
abbrev pub IsLater : Setup → Start → Type 0
IsLater setup start.Free = ⊥
IsLater setup when = IsOnce setup when

-- how a plan goes on: a period is at least 1 millisecond
abbrev pub IsRepeat : Repeat → Type 0
IsRepeat repeat.Once = Unit {0}
IsRepeat (repeat.All period) = Lasts (pos 1) period
IsRepeat (repeat.Until period time) = Lasts (pos 1) period × (time < day)
IsRepeat (repeat.During period time) = Lasts (pos 1) period × Lasts (pos 0) time

-- a terminal that gives texts, and a format that suits these kinds
pub record IsGet (setup : Setup) (device format : ℕ) (kinds : List Kind) : Type 0 where
  pub gives : IsReadable (slice_get setup.devices device)
  pub are : AllByRecursion IsKind kinds
  pub suits : SuitsKinds (format_of setup format) kinds
  pub few : length kinds ≤ 64

abbrev pub IsSent : Option Kind → Cell → Type 0
IsSent None x = ⊥
IsSent (Some kind) x = IsValueOf kind x

-- An action names what is there, writes or sends a value of the kind that is needed there, or a text to a terminal that takes texts.
abbrev pub Fits : Setup → Action → Type 0
Fits setup (action.Read slot) = slot < length setup.slots
Fits setup (action.Write slot value) = (slot < length setup.slots) × IsValueOf (slot_kind setup slot) value
Fits setup action.Turn = Unit {0}
Fits setup action.Enter = Unit {0}
Fits setup action.Now = Unit {0}
Fits setup (action.Request semaphores) = AreNamed setup semaphores.items
Fits setup (action.Release semaphores) = AreNamed setup semaphores.items
Fits setup (action.Try semaphore) = semaphore < length setup.semaphores
Fits setup (action.Activate task when how priority) =
    (task < length setup.tasks) × IsStart setup when × IsRepeat how × IfSome priority IsUrgency
Fits setup (action.Continue task when) = (task < length setup.tasks) × IsOnce setup when
Fits setup (action.Resume when) = IsLater setup when
Fits setup (action.Suspend task) = task < length setup.tasks
Fits setup (action.Terminate task) = task < length setup.tasks
Fits setup (action.Prevent task) = task < length setup.tasks
Fits setup (action.Enable device) = IsInterrupt (slice_get setup.devices device)
Fits setup (action.Disable device) = IsInterrupt (slice_get setup.devices device)
Fits setup (action.Trigger device) = IsInterrupt (slice_get setup.devices device)
Fits setup (action.Put device text) = TakesTexts setup device × All IsTextByte text.items
Fits setup (action.Get device format kinds) = IsGet setup device format kinds.items
Fits setup (action.Take device) = IsSome (input_kind (slice_get setup.devices device))
Fits setup (action.Send device value) = IsSent (output_kind (slice_get setup.devices device)) value
Fits setup action.End = Unit {0}
Fits setup (action.Trap trap) = Unit {0}

-- WHAT A CORE IS LIKE

-- a value where this one stood first
abbrev pub IsLike : Cell → Cell → Type 0
IsLike first x = IsValueOf (kind_of first) x

-- A device's channel is of its sort. What waits at a terminal are at most 4,096 bytes, at an input at most 256 values of its kind.
abbrev pub IsChannelOf : Device → Channel → Type 0
IsChannelOf (device.Interrupt number) (Switch enabled) = Unit {0}
IsChannelOf (device.Terminal number direction) (Bytes pending) = AllByRecursion IsTyped pending × (length pending ≤ terminal_room)
IsChannelOf (device.Input number kind) (Values own pending) =
    (own ≡ kind) × IsKind kind × AllByRecursion (IsValueOf kind) pending × (length pending ≤ input_room)
IsChannelOf (device.Output number kind) Outward = Unit {0}
IsChannelOf _ _ = ⊥

-- each slot holds a value of its kind, each device has its channel, and the formats are the tables'
pub record HasKinds (setup : Setup) (core : Core) : Type 0 where
  pub slots : AllZip IsLike setup.slots core.slots
  pub channels : AllZip IsChannelOf setup.devices core.channels
  pub formats : core.formats ≡ setup.formats

-- as many counts as there are semaphores, each below 2^31
pub record HasCounts (setup : Setup) (core : Core) : Type 0 where
  pub as_many : length core.counts ≡ length setup.semaphores
  pub small : AllByRecursion IsPreset core.counts

-- an active task's priority is from 1 to 255
abbrev pub IsUrgentMode : Mode → Type 0
IsUrgentMode Dormant = Unit {0}
IsUrgentMode (Active priority suspended) = IsUrgency priority

-- and so are its declared one, those of the starts that it keeps, and that with which it is to be started
abbrev pub IsUrgentRow : TaskRow → Type 0
IsUrgentRow row =
    IsUrgency row.declared × IsUrgentMode row.mode × AllByRecursion IsUrgency (priorities row.kept)
    × IfSome row.activation (λ activation. IsUrgency activation.priority)

-- each task has such priorities
abbrev pub HasUrgencies : Core → Type 0
HasUrgencies core = AllByRecursion IsUrgentRow core.tasks

-- where a plan's series end: at a time of day, or after a length of time of at most 2^40 milliseconds
abbrev pub IsEnd : End → Type 0
IsEnd end.Never = Unit {0}
IsEnd (end.Until time) = time < day
IsEnd (end.During time) = time ≤ 2 ^ 40

-- the interrupt of a plan is there, its lengths of time are at most 2^40 milliseconds, and its end is one
pub record IsPlan (setup : Setup) (plan : Plan) : Type 0 where
  pub when : IfSome plan.when (λ interrupt. IsInterrupt (slice_get setup.devices interrupt))
  pub after : plan.after ≤ 2 ^ 40
  pub period : plan.period ≤ 2 ^ 40
  pub end : IsEnd plan.end

abbrev pub IsPlannedRow : Setup → TaskRow → Type 0
IsPlannedRow setup row = IfSome row.continuation (IsPlan setup) × IfSome row.activation (λ activation. IsPlan setup activation.plan)

-- each task has lawful plans, and the clock a time of day
pub record HasPlans (setup : Setup) (core : Core) : Type 0 where
  pub plans : AllByRecursion (IsPlannedRow setup) core.tasks
  pub clock : core.clock < day

-- periods alone have an end: a plan without a period has none
abbrev pub EndsPeriods : Plan → Type 0
EndsPeriods plan = plan.period ≡ 0 → plan.end ≡ end.Never

abbrev pub EndsPeriodsOf : TaskRow → Type 0
EndsPeriodsOf row = IfSome row.continuation EndsPeriods × IfSome row.activation (λ activation. EndsPeriods activation.plan)

-- so it is of each task's plans
abbrev pub HasEnds : Core → Type 0
HasEnds core = AllByRecursion EndsPeriodsOf core.tasks

-- A plan that waits for no interrupt has a series. A first moment is at most 2^42, and a period at most 2^40
-- milliseconds.
pub record IsTimed (plan : Plan) : Type 0 where
  pub has : plan.when ≡ None → IsSome plan.series
  pub near : IfSome plan.series (λ series. (series.first ≤ 2 ^ 42) × (series.period ≤ 2 ^ 40))

-- a dormant task has no plan to go on and keeps no start, and the plans of a task are such
pub record IsTimedRow (row : TaskRow) : Type 0 where
  pub dormant : row.mode ≡ Dormant → row.continuation ≡ None
  pub keeps_none : row.mode ≡ Dormant → row.kept ≡ kept.Nothing
  pub goes_on : IfSome row.continuation IsTimed
  pub starts : IfSome row.activation (λ activation. IsTimed activation.plan)

-- so it is of each task, up to the last moment that a run may come to
pub record HasTimes (setup : Setup) (core : Core) : Type 0 where
  pub moment : core.moment ≤ 2 ^ 40
  pub lawful : HasPlans setup core
  pub rows : AllByRecursion IsTimedRow core.tasks

-- whoever acted last is a task
abbrev pub HasLast : Core → Type 0
HasLast core = IfSome core.last (λ t. t < length core.tasks)
