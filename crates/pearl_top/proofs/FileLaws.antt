-- A file that is read whole: what is due at it is determined, and comes to its end where the file is not refused.
use Rattle.std.proofs.Common.{◌≡◌, ◌≢◌, ◌<◌, ◌≤◌, ◌⊎◌, ◌+◌, ℕ, List, length, refl, sym, ◌∙◌, inl, inr, arith}
use Rattle.pearl_script.specs.declared.refusal.Refusal.TheVariants as refusal
use Rattle.pearl_script.specs.Refusals.{refusal_line}
use Rattle.pearl_top.specs.declared.status.Status.{Status}
use Rattle.pearl_top.specs.declared.status.Status.TheVariants.{Done, Usage, Refused, BadObject, BadJournal, ReadFault, WriteFault, NoMemory, TooLong, BadName}
use Rattle.pearl_top.specs.Reading.{Sort, ASource, AnObject, ASnapshot, DueAt, UnreadDue, limit_of}

-- what is due at a file, told otherwise
pub at_file_as : (sort : Sort) (file : List ℕ) (done refused finer coarser : List ℕ → Type 0) (rose risen : Type 0) (status : Status) (bytes : List ℕ) →
    ((bytes : List ℕ) → done bytes → finer bytes) → ((bytes : List ℕ) → refused bytes → coarser bytes) → (rose → risen) →
    DueAt sort file done refused rose status bytes → DueAt sort file finer coarser risen status bytes
at_file_as sort file done refused finer coarser rose risen Done bytes ends breaks on due = ends bytes due
at_file_as sort file done refused finer coarser rose risen Usage bytes ends breaks on due = due
at_file_as ASource file done refused finer coarser rose risen Refused bytes ends breaks on due = breaks bytes due
at_file_as AnObject file done refused finer coarser rose risen Refused bytes ends breaks on due = due
at_file_as ASnapshot file done refused finer coarser rose risen Refused bytes ends breaks on due = due
at_file_as ASource file done refused finer coarser rose risen BadObject bytes ends breaks on due = due
at_file_as AnObject file done refused finer coarser rose risen BadObject bytes ends breaks on due = breaks bytes due
at_file_as ASnapshot file done refused finer coarser rose risen BadObject bytes ends breaks on due = breaks bytes due
at_file_as sort file done refused finer coarser rose risen BadJournal bytes ends breaks on due = due
at_file_as sort file done refused finer coarser rose risen ReadFault bytes ends breaks on due = (on due.0, due.1)
at_file_as sort file done refused finer coarser rose risen WriteFault bytes ends breaks on due = due
at_file_as sort file done refused finer coarser rose risen NoMemory bytes ends breaks on due = due
at_file_as sort file done refused finer coarser rose risen TooLong bytes ends breaks on due = due
at_file_as sort file done refused finer coarser rose risen BadName bytes ends breaks on due = due

-- what comes without a fault of reading comes where no count rose
pub at_file_unrisen : (sort : Sort) (file : List ℕ) (done refused : List ℕ → Type 0) (rose : Type 0) (status : Status) (bytes : List ℕ) → status ≢ ReadFault →
    DueAt sort file done refused rose status bytes → DueAt sort file done refused ⊥ status bytes
at_file_unrisen sort file done refused rose Done bytes free due = due
at_file_unrisen sort file done refused rose Usage bytes free due = due
at_file_unrisen ASource file done refused rose Refused bytes free due = due
at_file_unrisen AnObject file done refused rose Refused bytes free due = due
at_file_unrisen ASnapshot file done refused rose Refused bytes free due = due
at_file_unrisen ASource file done refused rose BadObject bytes free due = due
at_file_unrisen AnObject file done refused rose BadObject bytes free due = due
at_file_unrisen ASnapshot file done refused rose BadObject bytes free due = due
at_file_unrisen sort file done refused rose BadJournal bytes free due = due
at_file_unrisen sort file done refused rose ReadFault bytes free due = absurd (free refl)
at_file_unrisen sort file done refused rose WriteFault bytes free due = due
at_file_unrisen sort file done refused rose NoMemory bytes free due = due
at_file_unrisen sort file done refused rose TooLong bytes free due = due
at_file_unrisen sort file done refused rose BadName bytes free due = due

-- what is due where the file is not read whole
pub at_file_unread : (sort : Sort) (file : List ℕ) (done refused : List ℕ → Type 0) (rose : Type 0) (status : Status) (bytes : List ℕ) →
    UnreadDue file (limit_of sort) rose status bytes → DueAt sort file done refused rose status bytes
at_file_unread sort file done refused rose Done bytes due = absurd due
at_file_unread sort file done refused rose Usage bytes due = due
at_file_unread ASource file done refused rose Refused bytes due = absurd due
at_file_unread AnObject file done refused rose Refused bytes due = due
at_file_unread ASnapshot file done refused rose Refused bytes due = due
at_file_unread ASource file done refused rose BadObject bytes due = due
at_file_unread AnObject file done refused rose BadObject bytes due = absurd due
at_file_unread ASnapshot file done refused rose BadObject bytes due = absurd due
at_file_unread sort file done refused rose BadJournal bytes due = due
at_file_unread sort file done refused rose ReadFault bytes due = due
at_file_unread sort file done refused rose WriteFault bytes due = due
at_file_unread sort file done refused rose NoMemory bytes due = due
at_file_unread sort file done refused rose TooLong bytes due = due
at_file_unread sort file done refused rose BadName bytes due = due

-- a file that is within the limit and not refused comes to its end
pub at_file_completes : (sort : Sort) (file : List ℕ) (done refused : List ℕ → Type 0) (rose : Type 0) (status : Status) (bytes : List ℕ) →
    length file ≤ limit_of sort → ((bytes : List ℕ) → refused bytes → ⊥) → DueAt sort file done refused rose status bytes →
    status ≢ NoMemory → status ≢ ReadFault → status ≡ Done
at_file_completes sort file done refused rose Done bytes within never due no_memory no_read = refl
at_file_completes sort file done refused rose Usage bytes within never due no_memory no_read = absurd due
at_file_completes ASource file done refused rose Refused bytes within never due no_memory no_read = absurd (never bytes due)
at_file_completes AnObject file done refused rose Refused bytes within never due no_memory no_read = absurd due
at_file_completes ASnapshot file done refused rose Refused bytes within never due no_memory no_read = absurd due
at_file_completes ASource file done refused rose BadObject bytes within never due no_memory no_read = absurd due
at_file_completes AnObject file done refused rose BadObject bytes within never due no_memory no_read = absurd (never bytes due)
at_file_completes ASnapshot file done refused rose BadObject bytes within never due no_memory no_read = absurd (never bytes due)
at_file_completes sort file done refused rose BadJournal bytes within never due no_memory no_read = absurd due
at_file_completes sort file done refused rose ReadFault bytes within never due no_memory no_read = absurd (no_read refl)
at_file_completes sort file done refused rose WriteFault bytes within never due no_memory no_read = absurd due
at_file_completes sort file done refused rose NoMemory bytes within never due no_memory no_read = absurd (no_memory refl)
at_file_completes sort file done refused rose TooLong bytes within never due no_memory no_read = absurd (omega (arith, within, due.0))
at_file_completes sort file done refused rose BadName bytes within never due no_memory no_read = absurd due

-- ONE OUTCOME

-- what is written of a file that is refused is one list; it is not done with then; and either way it is within the limit
pub record IsSettled (sort : Sort) (file : List ℕ) (done refused : List ℕ → Type 0) : Type 0 where
  pub done_within : (bytes : List ℕ) → done bytes → length file ≤ limit_of sort
  pub refused_within : (bytes : List ℕ) → refused bytes → length file ≤ limit_of sort
  pub never_both : (bytes others : List ℕ) → done bytes → refused others → ⊥
  pub refused_once : (bytes others : List ℕ) → refused bytes → refused others → bytes ≡ others

-- a file that is too long
abbrev pub IsLong : Sort → List ℕ → List ℕ → Type 0
IsLong sort file bytes = (limit_of sort < length file) × (bytes ≡ refusal_line (refusal.TooLong (limit_of sort + 1)))

-- with which status such a file is refused
abbrev pub refused_as : Sort → Status
refused_as ASource = Refused
refused_as AnObject = BadObject
refused_as ASnapshot = BadObject

-- the file is done with, is refused, or is too long
abbrev pub Ended : Sort → List ℕ → (done refused : List ℕ → Type 0) → Status → List ℕ → Type 0
Ended sort file done refused status bytes =
    ((status ≡ Done) × done bytes) ⊎ (((status ≡ refused_as sort) × refused bytes) ⊎ ((status ≡ TooLong) × IsLong sort file bytes))

pub ended : (sort : Sort) (file : List ℕ) (done refused : List ℕ → Type 0) (status : Status) (bytes : List ℕ) → status ≢ NoMemory →
    DueAt sort file done refused ⊥ status bytes → Ended sort file done refused status bytes
ended sort file done refused Done bytes known due = inl (refl, due)
ended sort file done refused Usage bytes known due = absurd due
ended ASource file done refused Refused bytes known due = inr (inl (refl, due))
ended AnObject file done refused Refused bytes known due = absurd due
ended ASnapshot file done refused Refused bytes known due = absurd due
ended ASource file done refused BadObject bytes known due = absurd due
ended AnObject file done refused BadObject bytes known due = inr (inl (refl, due))
ended ASnapshot file done refused BadObject bytes known due = inr (inl (refl, due))
ended sort file done refused BadJournal bytes known due = absurd due
ended sort file done refused ReadFault bytes known due = absurd due.0
ended sort file done refused WriteFault bytes known due = absurd due
ended sort file done refused NoMemory bytes known due = absurd (known refl)
ended sort file done refused TooLong bytes known due = inr (inr (refl, due))
ended sort file done refused BadName bytes known due = absurd due

pub within_or_long : (sort : Sort) (file bytes : List ℕ) → length file ≤ limit_of sort → IsLong sort file bytes → ⊥
within_or_long sort file bytes within long = omega (arith, within, long.0)

-- one status, and one list of bytes, where there is one for a file that is done with
abbrev pub AreOne : Status → Status → List ℕ → List ℕ → Type 0 → Type 0
AreOne status other bytes others once = (status ≡ other) × (once → bytes ≡ others)

ended_once : (sort : Sort) (file : List ℕ) (done refused : List ℕ → Type 0) (status other : Status) (bytes others : List ℕ) → IsSettled sort file done refused →
    Ended sort file done refused status bytes → Ended sort file done refused other others →
    AreOne status other bytes others (status ≡ Done → done bytes → done others → bytes ≡ others)
ended_once sort file done refused status other bytes others settled (inl (e, is)) (inl (f, also)) = (e ∙ sym f, λ once. once e is also)
ended_once sort file done refused status other bytes others settled (inl (e, is)) (inr (inl (f, why))) = absurd (settled.never_both bytes others is why)
ended_once sort file done refused status other bytes others settled (inl (e, is)) (inr (inr (f, long))) =
    absurd (within_or_long sort file others (settled.done_within bytes is) long)
ended_once sort file done refused status other bytes others settled (inr (inl (e, why))) (inl (f, is)) = absurd (settled.never_both others bytes is why)
ended_once sort file done refused status other bytes others settled (inr (inl (e, why))) (inr (inl (f, also))) =
    (e ∙ sym f, λ once. settled.refused_once bytes others why also)
ended_once sort file done refused status other bytes others settled (inr (inl (e, why))) (inr (inr (f, long))) =
    absurd (within_or_long sort file others (settled.refused_within bytes why) long)
ended_once sort file done refused status other bytes others settled (inr (inr (e, long))) (inl (f, is)) =
    absurd (within_or_long sort file bytes (settled.done_within others is) long)
ended_once sort file done refused status other bytes others settled (inr (inr (e, long))) (inr (inl (f, why))) =
    absurd (within_or_long sort file bytes (settled.refused_within others why) long)
ended_once sort file done refused status other bytes others settled (inr (inr (e, long))) (inr (inr (f, also))) =
    (e ∙ sym f, λ once. long.1 ∙ sym also.1)

-- what is due at a file is one thing, where nothing outside fails and memory is there
pub at_file_once : (sort : Sort) (file : List ℕ) (done refused : List ℕ → Type 0) (status other : Status) (bytes others : List ℕ) →
    IsSettled sort file done refused → status ≢ NoMemory → other ≢ NoMemory → DueAt sort file done refused ⊥ status bytes →
    DueAt sort file done refused ⊥ other others → AreOne status other bytes others (status ≡ Done → done bytes → done others → bytes ≡ others)
at_file_once sort file done refused status other bytes others settled known also due too =
    ended_once sort file done refused status other bytes others settled (ended sort file done refused status bytes known due)
    (ended sort file done refused other others also too)
