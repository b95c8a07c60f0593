-- What is due for a snapshot from which a run goes on.
use Rattle.std.specs.Prelude.{◌≡◌, ℕ, ◌≤◌, ◌⊎◌, List, length}
use Rattle.pearl_fields.specs.Codec.{IsBytes}
use Rattle.pearl_instructions.specs.declared.object.Parts.{Parts as Object}
use Rattle.pearl_saved.specs.declared.saved.Saved.{Saved}
use Rattle.pearl_saved.specs.Rules.{IsLeastBroken, IsMachineState}
use Rattle.pearl_script.specs.declared.refusal.Refusal.TheVariants as refusal
use Rattle.pearl_script.specs.Refusals.{refusal_line}
use Rattle.pearl_snap.specs.Restoring.{IsSnapshot}
use Rattle.pearl_snap.specs.Snapshots.{IsBadAt}
use Rattle.pearl_top.specs.declared.limits.TheConstants.{SNAPSHOT_LIMIT}
use Rattle.pearl_top.specs.declared.status.Status.{Status}
use Rattle.pearl_top.specs.JournalDue.{DueFrom}
use Rattle.pearl_top.specs.Reading.{ASnapshot, DueAt}
use Rattle.pearl_top.specs.Runners.{by_state}

-- a file has these bytes, within the limit, and they are those of an object and a state of it
pub record IsFileWith (file : List ℕ) (state : Object × Saved) : Type 0 where
  pub within : length file ≤ SNAPSHOT_LIMIT
  pub in_bytes : IsBytes file
  pub spelled : IsSnapshot file state.0 state.1

-- and no rule on states is broken, so that a run can go on from it
pub record IsStateOf (file : List ℕ) (state : Object × Saved) : Type 0 where
  pub is : IsFileWith file state
  pub lawful : IsMachineState state.0 state.1

-- no snapshot has the bytes of a file, within the limit, and this is the line of the place of the first bad field
pub record IsNoSnapshot (file bytes : List ℕ) : Type 0 where
  pub within : length file ≤ SNAPSHOT_LIMIT
  pub none : (o : Object) (s : Saved) → IsSnapshot file o s → ⊥
  pub place : ℕ
  pub bad : IsBadAt file place
  pub text : bytes ≡ refusal_line (refusal.Snapshot place)

-- they are those of an object and a state of it that breaks a rule, and this is the line of the least one
pub record IsBadState (file bytes : List ℕ) : Type 0 where
  pub state : Object × Saved
  pub is : IsFileWith file state
  pub rule : ℕ
  pub least : IsLeastBroken state.0 state.1 rule
  pub text : bytes ≡ refusal_line (refusal.State rule)

-- they are no snapshot's, or its state breaks a rule
abbrev pub IsNotRestored : List ℕ → List ℕ → Type 0
IsNotRestored file bytes = IsNoSnapshot file bytes ⊎ IsBadState file bytes

-- what is due at a snapshot, with which no command is done: the line of what is wrong with it
abbrev pub SnapshotDue : List ℕ → Type 0 → Status → List ℕ → Type 0
SnapshotDue file = DueAt ASnapshot file (λ bytes. ⊥) (IsNotRestored file)

-- what is due at the snapshot, or where a run can go on from it at the journal, of its object's own machine
abbrev pub ResumeDue : List ℕ → List ℕ → (snapshot_rose journal_rose : Type 0) → Status → List ℕ → Type 0
ResumeDue file = DueFrom ASnapshot file (IsNotRestored file) (IsStateOf file) (λ state. by_state state.0 state.1)
