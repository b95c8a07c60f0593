-- What is due at a file and then at a journal: it is determined, and comes to its end where neither is refused.
use Rattle.std.proofs.Common.{◌≡◌, ◌≢◌, ◌≤◌, ◌⊎◌, ℕ, List, length, subst, inl, inr}
use Rattle.pearl_top.specs.declared.limits.TheConstants.{JOURNAL_LIMIT}
use Rattle.pearl_top.specs.declared.status.Status.{Status}
use Rattle.pearl_top.specs.declared.status.Status.TheVariants.{Done, Usage, ReadFault, NoMemory}
use Rattle.pearl_top.specs.JournalDue.{DueFrom, IsBadJournal, JournalDue}
use Rattle.pearl_top.specs.Reading.{Sort, DueAt, UnreadDue, limit_of}
use Rattle.pearl_top.specs.Runners.{Runner}
use Rattle.pearl_top.proofs.FileLaws.{Ended, IsSettled, at_file_as, at_file_completes, at_file_once, at_file_unread, at_file_unrisen, ended, within_or_long}
use Rattle.pearl_top.proofs.JournalLaws.{WritesOnce, journal_completes, journal_once, journal_rises, journal_unrisen}

-- what the file holds is one thing, which writes one thing; what it is refused with is one list; not both; and either way it is
-- within the limit
pub record IsLoaded {X : Type 0} (sort : Sort) (file : List ℕ) (refused : List ℕ → Type 0) (holds : X → Type 0) (runner : X → Runner) : Type 0 where
  pub within : (x : X) → holds x → length file ≤ limit_of sort
  pub refused_within : (bytes : List ℕ) → refused bytes → length file ≤ limit_of sort
  pub never_both : (x : X) (bytes : List ℕ) → holds x → refused bytes → ⊥
  pub refused_once : (bytes others : List ℕ) → refused bytes → refused others → bytes ≡ others
  pub one : (x y : X) → holds x → holds y → x ≡ y
  pub writes_once : (x : X) → holds x → WritesOnce (runner x)

module _ {X : Type 0} (sort : Sort) (file : List ℕ) (refused : List ℕ → Type 0) (holds : X → Type 0) (runner : X → Runner) (journal : List ℕ) where
  -- where the file is not read whole
  pub from_unread : (rose also : Type 0) (status : Status) (bytes : List ℕ) → UnreadDue file (limit_of sort) rose status bytes →
      DueFrom sort file refused holds runner journal rose also status bytes
  from_unread rose also status bytes due = inl (at_file_unread sort file (λ b. ⊥) refused rose status bytes due)

  -- where it was read
  pub from_refused : (rose also : Type 0) (status : Status) (bytes : List ℕ) → DueAt sort file (λ b. ⊥) refused ⊥ status bytes →
      DueFrom sort file refused holds runner journal rose also status bytes
  from_refused rose also status bytes due =
      inl (at_file_as sort file (λ b. ⊥) refused (λ b. ⊥) refused ⊥ rose status bytes (λ b h. h) (λ b h. h) (λ h. absurd h) due)

  -- where it holds something
  pub from_held : (x : X) (rose also later : Type 0) (status : Status) (bytes : List ℕ) → (also → later) → holds x → JournalDue (runner x) journal also status bytes →
      DueFrom sort file refused holds runner journal rose later status bytes
  from_held x rose also later status bytes on is due = inr (x, is, journal_rises (runner x) journal also later status bytes on due)

  -- what comes without a fault of reading comes where no count rose
  pub from_unrisen : (rose also : Type 0) (status : Status) (bytes : List ℕ) → status ≢ ReadFault → DueFrom sort file refused holds runner journal rose also status bytes →
      DueFrom sort file refused holds runner journal ⊥ ⊥ status bytes
  from_unrisen rose also status bytes free (inl due) = inl (at_file_unrisen sort file (λ b. ⊥) refused rose status bytes free due)
  from_unrisen rose also status bytes free (inr (x, is, due)) = inr (x, is, journal_unrisen (runner x) journal also status bytes free due)

  pub from_usage : (rose also : Type 0) (bytes : List ℕ) → DueFrom sort file refused holds runner journal rose also Usage bytes → ⊥
  from_usage rose also bytes (inl due) = due
  from_usage rose also bytes (inr (x, is, due)) = due

  pub from_read : (rose also : Type 0) (bytes : List ℕ) → DueFrom sort file refused holds runner journal rose also ReadFault bytes → rose ⊎ also
  from_read rose also bytes (inl due) = inl due.0
  from_read rose also bytes (inr (x, is, due)) = inr due.0

  -- it comes to its end where the file isn't refused and no line of the journal is
  pub from_completes : (rose also : Type 0) (status : Status) (bytes : List ℕ) → length file ≤ limit_of sort → ((bytes : List ℕ) → refused bytes → ⊥) →
      length journal ≤ JOURNAL_LIMIT → ((x : X) (bytes : List ℕ) → holds x → IsBadJournal (runner x) journal bytes → ⊥) →
      DueFrom sort file refused holds runner journal rose also status bytes → status ≢ NoMemory → status ≢ ReadFault → status ≡ Done
  from_completes rose also status bytes within never short good (inl due) no_memory no_read =
      at_file_completes sort file (λ b. ⊥) refused rose status bytes within never due no_memory no_read
  from_completes rose also status bytes within never short good (inr (x, is, due)) no_memory no_read =
      journal_completes (runner x) journal also status bytes short (λ b. good x b is) due no_read

  settled : IsLoaded sort file refused holds runner → IsSettled sort file (λ b. ⊥) refused
  settled loaded = record {
    done_within = λ bytes done. absurd done;
    refused_within = loaded.refused_within;
    never_both = λ bytes others done. absurd done;
    refused_once = loaded.refused_once;
  }

  -- it isn't refused, or too long, and holds something
  held_or_ended : (x : X) (status : Status) (bytes : List ℕ) → IsLoaded sort file refused holds runner → holds x → Ended sort file (λ b. ⊥) refused status bytes → ⊥
  held_or_ended x status bytes loaded is (inl (e, done)) = done
  held_or_ended x status bytes loaded is (inr (inl (e, why))) = loaded.never_both x bytes is why
  held_or_ended x status bytes loaded is (inr (inr (e, long))) = within_or_long sort file bytes (loaded.within x is) long

  pub held_or_refused : (x : X) (status : Status) (bytes : List ℕ) → IsLoaded sort file refused holds runner → holds x → status ≢ NoMemory →
      DueAt sort file (λ b. ⊥) refused ⊥ status bytes → ⊥
  held_or_refused x status bytes loaded is known due = held_or_ended x status bytes loaded is (ended sort file (λ b. ⊥) refused status bytes known due)

  -- it is one thing, where nothing outside fails and memory is there
  pub from_once : (status other : Status) (bytes others : List ℕ) → IsLoaded sort file refused holds runner → status ≢ NoMemory → other ≢ NoMemory →
      DueFrom sort file refused holds runner journal ⊥ ⊥ status bytes → DueFrom sort file refused holds runner journal ⊥ ⊥ other others →
      (status ≡ other) × (bytes ≡ others)
  from_once status other bytes others loaded known also (inl due) (inl too) =
      let one = at_file_once sort file (λ b. ⊥) refused status other bytes others (settled loaded) known also due too in
      (one.0, one.1 (λ e done. absurd done))
  from_once status other bytes others loaded known also (inl due) (inr (y, is, too)) = absurd (held_or_refused y status bytes loaded is known due)
  from_once status other bytes others loaded known also (inr (x, is, due)) (inl too) = absurd (held_or_refused x other others loaded is also too)
  from_once status other bytes others loaded known also (inr (x, is, due)) (inr (y, its, too)) =
      journal_once (runner y) journal status other bytes others (loaded.writes_once y its)
      (subst (λ z. JournalDue (runner z) journal ⊥ status bytes) (loaded.one x y is its) due) too
