-- What is due for an object of which some leaves are watched by their names while it is executed.
use Rattle.std.specs.Prelude.{◌≡◌, ℕ, ◌⊎◌, List, ◌++◌}
use Rattle.pearl_rules.specs.declared.entry.Entry.{Entry}
use Rattle.pearl_instructions.specs.declared.object.Parts.{Parts as Object}
use Rattle.pearl_instructions.specs.Setups.{setup_of}
use Rattle.pearl_journal.specs.Readings.{start}
use Rattle.pearl_script.specs.declared.refusal.Refusal.TheVariants as refusal
use Rattle.pearl_script.specs.Refusals.{refusal_line}
use Rattle.pearl_watch.specs.Changes.{last_line}
use Rattle.pearl_watch.specs.Monitored.{IsWatchText}
use Rattle.pearl_watch.specs.Watched.{AreAccepted, IsFirstRefused}
use Rattle.pearl_top.specs.declared.status.Status.{Status}
use Rattle.pearl_top.specs.declared.status.Status.TheVariants.{BadName}
use Rattle.pearl_top.specs.JournalDue.{DueFrom}
use Rattle.pearl_top.specs.ObjectDue.{IsCodeOf, IsRefused, ObjectDue}
use Rattle.pearl_top.specs.Reading.{AnObject}
use Rattle.pearl_top.specs.Runners.{Runner}
use Rattle.pearl_top.specs.Transcript.{Close, Closed, Cut}

-- what is written last, after so many marks, at this moment: the closing line, or the line of a refusal in its place
abbrev pub watch_closing : (marks moment : ℕ) → Close → List ℕ
watch_closing marks moment Closed = last_line marks moment
watch_closing marks moment (Cut refusal) = refusal_line refusal

-- how the named leaves' slots change over the run of an object, from its start to its end, and what closes that
pub record IsWatched (names : List (List ℕ)) (o : Object) (es : List Entry) (close : Close) (bytes : List ℕ) : Type 0 where
  pub changes : List ℕ
  pub marks : ℕ
  pub moment : ℕ
  pub is : IsWatchText o names es changes marks moment
  pub text : bytes ≡ changes ++ watch_closing marks moment close

-- an object's own machine, from its start, of which the leaves of these names are watched
abbrev pub by_watch : List (List ℕ) → Object → Runner
by_watch names o = record { setup = setup_of o; first = start; writes = IsWatched names o }

-- a file has a valid object, and none of the names is refused
pub record CanBeWatched (file : List ℕ) (names : List (List ℕ)) (o : Object) : Type 0 where
  pub code : IsCodeOf file o
  pub accepted : AreAccepted o.leaves names

-- it has a valid object, and this is the line of the first name that is refused
pub record HasBadName (file : List ℕ) (names : List (List ℕ)) (bytes : List ℕ) : Type 0 where
  pub o : Object
  pub code : IsCodeOf file o
  pub number : ℕ
  pub first : IsFirstRefused o.leaves names number
  pub text : bytes ≡ refusal_line (refusal.Name number)

-- what is due at the names, with which no other command ends
abbrev pub NamesDue : List ℕ → List (List ℕ) → Status → List ℕ → Type 0
NamesDue file names BadName bytes = HasBadName file names bytes
NamesDue file names status bytes = ⊥

-- or at the object, which is asked first
abbrev pub NamesOrObjectDue : List ℕ → List (List ℕ) → Status → List ℕ → Type 0
NamesOrObjectDue file names status bytes = NamesDue file names status bytes ⊎ ObjectDue file ⊥ status bytes

-- what is due at the object; or where it is valid at the names; or where none of them is refused at the journal, of its own machine
abbrev pub WatchDue : List ℕ → (names : List (List ℕ)) → (journal : List ℕ) → (object_rose journal_rose : Type 0) → Status → List ℕ → Type 0
WatchDue file names journal rose also status bytes =
    NamesDue file names status bytes
    ⊎ DueFrom AnObject file (IsRefused file) (CanBeWatched file names) (by_watch names) journal rose also status bytes
