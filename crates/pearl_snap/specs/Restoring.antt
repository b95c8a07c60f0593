-- What bytes are restored to: an object and a state of it; or why they aren't.
use Rattle.std.specs.Prelude.{◌≡◌, ◌<◌, ◌-◌, ◌^◌, ℕ, List, Result, Ok, Err, IfSome}
use Rattle.std.specs.List.{AllByRecursion}
use Rattle.pearl_instructions.specs.declared.object.Parts.{Parts as Object}
use Rattle.pearl_instructions.specs.Lawful.{IsObject}
use Rattle.pearl_snap.specs.declared.fault.ReadFail.{ReadFail}
use Rattle.pearl_snap.specs.declared.fault.ReadFail.TheVariants as fail
use Rattle.pearl_snap.specs.declared.fault.SnapFault.{SnapFault}
use Rattle.pearl_snap.specs.declared.fault.SnapFault.TheVariants.{BadBytes, BadState, NoMemory}
use Rattle.pearl_records.specs.declared.record.PlanRecord.{PlanRecord}
use Rattle.pearl_records.specs.declared.record.TaskRecord.{TaskRecord}
use Rattle.pearl_saved.specs.declared.saved.Saved.{Saved}
use Rattle.pearl_snap.specs.States.{saved}
use Rattle.pearl_snap.specs.Snapshots.{snapshot_bytes, IsBadAt}
use Rattle.pearl_saved.specs.Rules.{IsMachineState, IsLeastBroken}
use Rattle.pearl_snap.specs.Numbers.{number}

-- these are the bytes of an object and a state
pub record IsSnapshot (bytes : List ℕ) (o : Object) (s : Saved) : Type 0 where
  pub object : IsObject o
  pub state : saved.fits s
  pub same : bytes ≡ snapshot_bytes o s

-- the bytes were those of an object and a state of it
abbrev pub IsRestored : List ℕ → Object × Saved → Type 0
IsRestored bytes p = IsSnapshot bytes p.0 p.1 × IsMachineState p.0 p.1

-- no snapshot has the bytes, and a field there is the first bad one; or one has, and this is the least rule that its state breaks
abbrev pub IsCause : List ℕ → SnapFault → Type 0
IsCause bytes (BadBytes place) = ((o : Object) (s : Saved) → IsSnapshot bytes o s → ⊥) × IsBadAt bytes place
IsCause bytes (BadState rule) = (o : Object) × (s : Saved) × IsSnapshot bytes o s × IsLeastBroken o s (number rule)
IsCause bytes NoMemory = Unit {0}

-- bytes that can't be read are not restored
abbrev pub cause_of : ReadFail → SnapFault
cause_of (fail.BadBytes place) = BadBytes place
cause_of fail.NoMemory = NoMemory

-- the answer where the bytes are those of this object and this state: both, or the least rule that the state breaks, unless memory
-- ran out
abbrev pub Restores : Object → Saved → Result (Object × Saved) SnapFault → Type 0
Restores o s (Ok p) = (p ≡ (o, s)) × IsMachineState o s
Restores o s (Err (BadBytes place)) = ⊥
Restores o s (Err (BadState rule)) = IsLeastBroken o s (number rule)
Restores o s (Err NoMemory) = Unit {0}
