-- Which actions a task of an object may offer: all that they name is there, and their values are of the kinds that are needed there.
use Rattle.std.specs.Prelude.{ℕ, ◌<◌, ◌≤◌, pos, List, Option, Some, None, IsSome, IfSome, nat_eq, length, slice_get, sum_by, All}
use Rattle.std.specs.List.{AllByRecursion, IsDistinct}
use Rattle.pearl_value.specs.declared.kind.Kind.{Kind}
use Rattle.pearl_value.specs.declared.cell.Cell.{Cell}
use Rattle.pearl_value.specs.declared.cell.Cell.TheVariants.{Clock}
use Rattle.pearl_value.specs.Kinds.{IsKind}
use Rattle.pearl_value.specs.WellFormed.{IsValue, IsValueOf}
use Rattle.pearl_format.specs.Bytes.{IsTextByte}
use Rattle.pearl_format.specs.Items.{FitsSome}
use Rattle.pearl_value.specs.declared.device.Device.{Device}
use Rattle.pearl_rules.specs.declared.action.Action.{Action}
use Rattle.pearl_rules.specs.declared.action.Action.TheVariants as action
use Rattle.pearl_rules.specs.declared.action.Start.{Start}
use Rattle.pearl_rules.specs.declared.action.Start.TheVariants as start
use Rattle.pearl_rules.specs.Slots.{Lasts, IsRepeat}
use Rattle.pearl_rules.specs.Tables.{IsWritable, IsReadable, IsInterrupt, input_kind, output_kind}
use Rattle.pearl_instructions.specs.declared.object.Parts.{Parts as Object}
use Rattle.pearl_instructions.specs.Objects.{items_at, slot_kind}

abbrev pub IsTaskNumber : Object → ℕ → Type 0
IsTaskNumber o task = task < length o.tasks

-- the slots of all leaves are numbered through
abbrev pub IsSlotNumber : Object → ℕ → Type 0
IsSlotNumber o slot = slot < sum_by (λ leaf. leaf.slots) o.leaves

abbrev pub device_at : Object → ℕ → Option Device
device_at o number = slice_get o.devices number

-- there is a kind, and this is a value of it
abbrev pub IsOf : Option Kind → Cell → Type 0
IsOf None x = ⊥
IsOf (Some kind) x = IsValueOf kind x

-- 1 to 16, none named twice
pub record AreSemaphores (o : Object) (semaphores : List ℕ) : Type 0 where
  pub some : 0 < length semaphores
  pub few : length semaphores ≤ 16
  pub distinct : IsDistinct nat_eq semaphores
  pub there : AllByRecursion (λ semaphore. semaphore < length o.semaphores) semaphores

abbrev pub IsStart : Object → Start → Type 0
IsStart o start.Free = Unit {0}
IsStart o (start.At time) = IsValue (Clock time)
IsStart o (start.After time) = Lasts (pos 0) time
IsStart o (start.When interrupt) = IsInterrupt (device_at o interrupt)
IsStart o (start.WhenAfter interrupt time) = IsInterrupt (device_at o interrupt) × Lasts (pos 0) time

-- a task goes on once, so not some time after each interrupt
abbrev pub IsOnce : Object → Start → Type 0
IsOnce o (start.WhenAfter interrupt time) = ⊥
IsOnce o when = IsStart o when

-- and not at once
abbrev pub IsLater : Object → Start → Type 0
IsLater o start.Free = ⊥
IsLater o when = IsOnce o when

abbrev pub IsPriority : ℕ → Type 0
IsPriority priority = (0 < priority) × (priority ≤ 255)

-- the text is printable, and has at most 1,024 bytes
pub record IsPut (o : Object) (device : ℕ) (text : List ℕ) : Type 0 where
  pub takes : IsWritable (device_at o device)
  pub printable : All IsTextByte text
  pub short : length text ≤ 1024

pub record IsGet (o : Object) (device format : ℕ) (kinds : List Kind) : Type 0 where
  pub gives : IsReadable (device_at o device)
  pub are : AllByRecursion IsKind kinds
  pub fits : FitsSome (items_at o format) kinds

-- a task of the object may offer this
abbrev pub IsOffered : Object → Action → Type 0
IsOffered o (action.Read slot) = IsSlotNumber o slot
IsOffered o (action.Write slot value) = IsSlotNumber o slot × IsOf (slot_kind o.leaves slot) value
IsOffered o action.Turn = Unit {0}
IsOffered o action.Enter = Unit {0}
IsOffered o action.Now = Unit {0}
IsOffered o (action.Request semaphores) = AreSemaphores o semaphores.items
IsOffered o (action.Release semaphores) = AreSemaphores o semaphores.items
IsOffered o (action.Try semaphore) = semaphore < length o.semaphores
IsOffered o (action.Activate task when how priority) = IsTaskNumber o task × IsStart o when × IsRepeat how × IfSome priority IsPriority
IsOffered o (action.Continue task when) = IsTaskNumber o task × IsOnce o when
IsOffered o (action.Resume when) = IsLater o when
IsOffered o (action.Suspend task) = IsTaskNumber o task
IsOffered o (action.Terminate task) = IsTaskNumber o task
IsOffered o (action.Prevent task) = IsTaskNumber o task
IsOffered o (action.Enable interrupt) = IsInterrupt (device_at o interrupt)
IsOffered o (action.Disable interrupt) = IsInterrupt (device_at o interrupt)
IsOffered o (action.Trigger interrupt) = IsInterrupt (device_at o interrupt)
IsOffered o (action.Put device text) = IsPut o device text.items
IsOffered o (action.Get device format kinds) = IsGet o device format kinds.items
IsOffered o (action.Take device) = IsSome (input_kind (device_at o device))
IsOffered o (action.Send device value) = IsOf (output_kind (device_at o device)) value
IsOffered o action.End = Unit {0}
IsOffered o (action.Trap trap) = Unit {0}
