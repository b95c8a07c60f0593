-- When the numbers in an action name what is there, and its lengths of time are ones.
use Rattle.std.specs.Prelude.{◌≡◌, ℕ, ◌<◌, ◌≤◌, Some, length}
use Rattle.std.specs.List.{AllByRecursion}
use Rattle.pearl_value.specs.Kinds.{IsKind}
use Rattle.pearl_rules.specs.declared.action.Action.{Action}
use Rattle.pearl_rules.specs.declared.action.Action.TheVariants as action
use Rattle.pearl_rules.specs.Core.{Core}
use Rattle.pearl_rules.specs.Devices.{channel_of}
use Rattle.pearl_sema.specs.Waiting.{AreThere}
use Rattle.pearl_kernel.specs.Kept.{Kept, offered}
use Rattle.pearl_kernel.specs.Channels.{HasSwitch, HasBytes}
use Rattle.pearl_kernel.specs.Timing.{IsTimelyStart, IsTimelyRepeat}

-- the targets of a GET are of kinds that there are
abbrev pub HasKinds : Action → Type 0
HasKinds (action.Get device format kinds) = (length kinds.items ≤ 64) × AllByRecursion IsKind kinds.items
HasKinds other = Unit {0}

abbrev pub Names : Core → Action → Type 0
Names core (action.Read slot) = slot < length core.slots
Names core (action.Write slot value) = slot < length core.slots
Names core (action.Request list) = AreThere core.counts list.items
Names core (action.Release list) = AreThere core.counts list.items
Names core (action.Try semaphore) = semaphore < length core.counts
Names core (action.Activate task start repeat priority) =
    (task < length core.tasks) × IsTimelyStart start × IsTimelyRepeat repeat
Names core (action.Continue task start) = (task < length core.tasks) × IsTimelyStart start
Names core (action.Resume start) = IsTimelyStart start
Names core (action.Suspend task) = task < length core.tasks
Names core (action.Terminate task) = task < length core.tasks
Names core (action.Prevent task) = task < length core.tasks
Names core (action.Enable device) = HasSwitch (channel_of core device)
Names core (action.Disable device) = HasSwitch (channel_of core device)
Names core (action.Get device format kinds) =
    HasBytes (channel_of core device) × (length kinds.items ≤ 64) × AllByRecursion IsKind kinds.items
Names core (action.Take device) = device < length core.channels
Names core other = Unit {0}

-- each offer names what is there
abbrev pub NamesAll : Kept → Type 0
NamesAll k = (t : ℕ) (a : Action) → offered k t ≡ Some a → Names k.core a
