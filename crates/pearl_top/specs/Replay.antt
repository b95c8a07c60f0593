-- How what goes over a journal does so, and what the bytes that were read of it bring about.
use Rattle.std.specs.Prelude.{◌≡◌, ℕ, ◌+◌, ◌<◌, ◌≤◌, List, [], ◌++◌, Option, Some, None, Result, Ok, Err, false, length, take}
use Rattle.pearl_io.specs.Outside.{Files, Takes, TakesFront, content}
use Rattle.pearl_rules.specs.declared.entry.Entry.{Entry}
use Rattle.pearl_rules.specs.declared.setup.Setup.{Setup}
use Rattle.pearl_script.specs.declared.refusal.Refusal.TheVariants.{Journal, Read, TooLong}
use Rattle.pearl_top.specs.declared.failure.Failure.{Failure}
use Rattle.pearl_top.specs.declared.failure.Failure.TheVariants.{Refused, WriteFault}
use Rattle.pearl_top.specs.declared.limits.TheConstants.{JOURNAL_LIMIT}
use Rattle.pearl_top.specs.Going.{Going}
use Rattle.pearl_top.specs.JournalDue.{handled}
use Rattle.pearl_journal.specs.Entries.{Ending, All, Bad, Entries, entries_from}
use Rattle.pearl_journal.specs.Lines.{ended_lines, journal_lines}
use Rattle.pearl_journal.specs.Pieces.{Kept, ended_on, read_on}
use Rattle.pearl_journal.specs.Readings.{Reading}

-- WHAT WAS READ

-- these entries before others
abbrev pub with_front : List Entry → Entries → Entries
with_front es later = record later { accepted = es ++ later.accepted }

-- entries of which these are the first
abbrev pub BeginsWith : List Entry → Entries → Type 0
BeginsWith es found = (later : Entries) × (found ≡ with_front es later)

-- Whatever follows these bytes, they have these entries, and then come those that are read from there on: of all lines, and of those
-- alone that are ended.
pub record Reads (setup : Setup) (before : Kept) (since : ℕ) (bytes : List ℕ) (es : List Entry) (after : Kept) (now : ℕ) : Type 0 where
  pub all : (rest : List ℕ) → read_on setup before since (bytes ++ rest) ≡ with_front es (read_on setup after now rest)
  pub ended : (rest : List ℕ) → ended_on setup before since (bytes ++ rest) ≡ with_front es (ended_on setup after now rest)

-- whatever follows these bytes, the entries from there on are such
pub record ReadsSuch (setup : Setup) (before : Kept) (since : ℕ) (bytes : List ℕ) (AreSuch : Entries → Type 0) : Type 0 where
  pub all : (rest : List ℕ) → AreSuch (read_on setup before since (bytes ++ rest))
  pub ended : (rest : List ℕ) → AreSuch (ended_on setup before since (bytes ++ rest))

-- nothing was read from there on
pub record IsUnread (kept : Kept) : Type 0 where
  pub none : kept.lines ≡ 0
  pub empty : kept.standing ≡ []
  pub partial : kept.is_whole ≡ false
  pub unfinished : kept.is_finished ≡ false
  pub unrefused : kept.refused ≡ None

-- WHAT WAS CARRIED OUT

-- it went over the entries of these bytes, and what is to be written of them was taken
pub record Carried {X : Type 0} (g : Going X) (before : Kept) (seen : X) (bytes : List ℕ) (after : Kept) (now : X) (old new : Option (List ℕ)) : Type 0 where
  pub es : List Entry
  pub text : List ℕ
  pub reads : Reads (g.tables seen) before (g.moment seen) bytes es after (g.moment now)
  pub writes : g.writes seen es [] now text
  pub rests : g.rests now
  pub taken : Takes old new text

-- these bytes end a line that is refused; it went over the entries before it, and what is to be written of them was taken
pub record MeetsBad {X : Type 0} (g : Going X) (before : Kept) (seen : X) (bytes : List ℕ) (line code : ℕ) (now : X) (old new : Option (List ℕ)) : Type 0 where
  pub es : List Entry
  pub text : List ℕ
  pub reads : ReadsSuch (g.tables seen) before (g.moment seen) bytes (λ found. found ≡ record { accepted = es; ending = Bad line code })
  pub writes : g.writes seen es [] now text
  pub rests : g.rests now
  pub taken : Takes old new text

-- what is to be written of some of these bytes' entries was taken only up to a front
pub record CutShort {X : Type 0} (g : Going X) (before : Kept) (seen : X) (bytes : List ℕ) (now : X) (old new : Option (List ℕ)) : Type 0 where
  pub es : List Entry
  pub left : List Entry
  pub text : List ℕ
  pub reads : ReadsSuch (g.tables seen) before (g.moment seen) bytes (BeginsWith es)
  pub writes : g.writes seen es left now text
  pub taken : TakesFront old new text

-- these bytes failed: at a line that is refused, or where the output was not taken whole
abbrev pub IsFailure : {X : Type 0} → Going X → Failure → Kept → X → List ℕ → X → Option (List ℕ) → Option (List ℕ) → Type 0 → Type 0
IsFailure g (Refused refusal) before seen bytes now old new failed =
    (line code : ℕ) × (refusal ≡ Journal line code) × MeetsBad g before seen bytes line code now old new
IsFailure g WriteFault before seen bytes now old new failed = failed × CutShort g before seen bytes now old new

-- so many bytes of a file were read, which are its first ones, where it is told what it holds; and they were carried out
pub record Progress {X : Type 0} (g : Going X) (held : Option Files) (name : List ℕ) (place : ℕ) (first kept : Kept) (seen now : X) (old new : Option (List ℕ)) :
    Type 0 where
  pub bytes : List ℕ
  pub far : length bytes ≡ place
  pub front : (files : Files) → held ≡ Some files → bytes ≡ take (length bytes) (content files name)
  pub carried : Carried g first seen bytes kept now old new

-- THE WHOLE JOURNAL

-- these lines ended so, from how far a journal counts as read; it went over the entries before, and what is to be written of them
-- was taken
pub record LinesDone {X : Type 0} (g : Going X) (first : Reading) (lines : List (List ℕ)) (ending : Ending) (seen after : X) (old new : Option (List ℕ)) : Type 0 where
  pub es : List Entry
  pub text : List ℕ
  pub read : entries_from (g.tables seen) first lines ≡ record { accepted = es; ending = ending }
  pub writes : g.writes seen es [] after text
  pub rests : g.rests after
  pub taken : Takes old new text

-- what is to be written of these lines was taken only up to a front
pub record LinesBroken {X : Type 0} (g : Going X) (first : Reading) (lines : List (List ℕ)) (seen after : X) (old new : Option (List ℕ)) : Type 0 where
  pub es : List Entry
  pub ending : Ending
  pub left : List Entry
  pub text : List ℕ
  pub read : entries_from (g.tables seen) first lines ≡ record { accepted = es; ending = ending }
  pub writes : g.writes seen es left after text
  pub taken : TakesFront old new text

-- How the carrying out of a journal ends: behind all its lines; at one that is refused; at a fault of reading, where the count of
-- faults rose, behind the lines that end within some first bytes; at the limit, behind those that end within it; or where the output
-- was not taken whole.
abbrev pub CarriesOut : {X : Type 0} → Going X → Result (Unit {0}) Failure → Reading → List ℕ → Type 0 → Type 0 → X → X → Option (List ℕ) → Option (List ℕ) → Type 0
CarriesOut g (Ok done) first journal rose failed seen after old new =
    (length journal ≤ JOURNAL_LIMIT) × LinesDone g first (journal_lines journal) All seen after old new
CarriesOut g (Err (Refused (Journal line code))) first journal rose failed seen after old new =
    LinesDone g first (handled journal) (Bad line code) seen after old new
CarriesOut g (Err (Refused Read)) first journal rose failed seen after old new =
    rose × (count : ℕ) × (count ≤ JOURNAL_LIMIT) × LinesDone g first (ended_lines (take count journal)) All seen after old new
CarriesOut g (Err (Refused (TooLong count))) first journal rose failed seen after old new =
    (count ≡ JOURNAL_LIMIT + 1) × (JOURNAL_LIMIT < length journal) × LinesDone g first (handled journal) All seen after old new
CarriesOut g (Err (Refused refusal)) first journal rose failed seen after old new = ⊥
CarriesOut g (Err WriteFault) first journal rose failed seen after old new = failed × LinesBroken g first (handled journal) seen after old new
