-- What is due at a file that is read whole, and what is known of a file from a shelf that may not tell what it holds.
use Rattle.std.specs.Prelude.{◌≡◌, ℕ, ◌+◌, ◌<◌, ◌≤◌, List, length, Option, Some, None, Result, Ok, Err}
use Rattle.std.specs.Global.{Vec}
use Rattle.pearl_io.specs.Outside.{Files, content}
use Rattle.pearl_script.specs.declared.refusal.Refusal.TheVariants as refusal
use Rattle.pearl_script.specs.Refusals.{refusal_line}
use Rattle.pearl_top.specs.declared.failure.Failure.{Failure}
use Rattle.pearl_top.specs.declared.limits.TheConstants.{SOURCE_LIMIT, OBJECT_LIMIT, SNAPSHOT_LIMIT}
use Rattle.pearl_top.specs.declared.status.Status.{Status}
use Rattle.pearl_top.specs.declared.status.Status.TheVariants.{Done, Refused, BadObject, ReadFault, NoMemory, TooLong}
use Rattle.pearl_top.specs.Failures.{IsDue}

-- the file has more bytes than the limit; or reading it failed, and its count of faults rose; or memory is out
abbrev pub UnreadDue : List ℕ → ℕ → Type 0 → Status → List ℕ → Type 0
UnreadDue file limit rose TooLong bytes = (limit < length file) × (bytes ≡ refusal_line (refusal.TooLong (limit + 1)))
UnreadDue file limit rose ReadFault bytes = rose × (bytes ≡ refusal_line refusal.Read)
UnreadDue file limit rose NoMemory bytes = bytes ≡ refusal_line refusal.Memory
UnreadDue file limit rose status bytes = ⊥

-- what a file is to be
pub data Sort : Type 0 where
  ASource : Sort
  AnObject : Sort
  ASnapshot : Sort

-- the most bytes that such a file may have
abbrev pub limit_of : Sort → ℕ
limit_of ASource = SOURCE_LIMIT
limit_of AnObject = OBJECT_LIMIT
limit_of ASnapshot = SNAPSHOT_LIMIT

-- what holds of a source alone, and of a file that has an object: one alone, or one in a snapshot
abbrev pub IfSource : Sort → Type 0 → Type 0
IfSource ASource is = is
IfSource AnObject is = ⊥
IfSource ASnapshot is = ⊥

abbrev pub IfObject : Sort → Type 0 → Type 0
IfObject ASource is = ⊥
IfObject AnObject is = is
IfObject ASnapshot is = is

-- what is due with each way to end at a file: where it is done with; where it is refused; where it is not read whole
abbrev pub DueAt : Sort → List ℕ → (done refused : List ℕ → Type 0) → Type 0 → Status → List ℕ → Type 0
DueAt sort file done refused rose Done bytes = done bytes
DueAt sort file done refused rose Refused bytes = IfSource sort (refused bytes)
DueAt sort file done refused rose BadObject bytes = IfObject sort (refused bytes)
DueAt sort file done refused rose status bytes = UnreadDue file (limit_of sort) rose status bytes

abbrev pub DueAtSource : List ℕ → (done refused : List ℕ → Type 0) → Type 0 → Status → List ℕ → Type 0
DueAtSource = DueAt ASource

-- the file was read whole and is within the limit, or what is due is a line that says why not
abbrev pub IsReadWhole : List ℕ → ℕ → Type 0 → Result (Vec ℕ) Failure → Type 0
IsReadWhole file limit rose (Ok bytes) = (bytes.items ≡ file) × (length file ≤ limit)
IsReadWhole file limit rose (Err failure) = IsDue (UnreadDue file limit rose) failure

-- bytes that a file of this name may have: those held, where that is told
abbrev pub MayHave : Option Files → List ℕ → List ℕ → Type 0
MayHave None name bytes = Unit {0}
MayHave (Some files) name bytes = bytes ≡ content files name
