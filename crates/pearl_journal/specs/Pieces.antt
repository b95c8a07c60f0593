-- How a journal is read in pieces, and which entries are still to come.
use Rattle.std.specs.Prelude.{◌≡◌, ℕ, ◌+◌, ◌≤◌, Bool, true, false, ◌||◌, nat_lt, if◌then◌else◌, List, [], ◌∷◌, ◌++◌, length, min, take, Option, Some, None, Result, Ok, Err}
use Rattle.pearl_rules.specs.declared.entry.Entry.{Entry}
use Rattle.pearl_rules.specs.declared.setup.Setup.{Setup}
use Rattle.pearl_rules.specs.Entries.{moment_after}
use Rattle.pearl_journal.specs.declared.limits.TheConstants.{LINE_ROOM}
use Rattle.pearl_journal.specs.declared.lines.BadLine.{BadLine}
use Rattle.pearl_journal.specs.declared.lines.Next.{Next}
use Rattle.pearl_journal.specs.declared.lines.Next.TheVariants as next
use Rattle.pearl_journal.specs.declared.reading.Line.{Line}
use Rattle.pearl_journal.specs.declared.reading.Line.TheVariants as line
use Rattle.pearl_journal.specs.Entries.{Entries, Bad, entries_from}
use Rattle.pearl_journal.specs.Lines.{ended_lines, journal_lines, line_end}
use Rattle.pearl_journal.specs.Meaning.{meaning}
use Rattle.pearl_journal.specs.Readings.{Reading}

-- WHAT IS KEPT

-- how many lines were taken, whether none of them was accepted as an entry, the bytes of the line that stands next,
-- whether it is whole, whether the journal ended, and that line's refusal, once it was told
pub record Kept : Type 0 where
  pub lines : ℕ
  pub is_first : Bool
  pub standing : List ℕ
  pub is_whole : Bool
  pub is_finished : Bool
  pub refused : Option BadLine

-- nothing was read
abbrev pub begin : Kept
begin = record { lines = 0; is_first = true; standing = []; is_whole = false; is_finished = false; refused = None }

-- nothing was read of a journal that goes on with a run: entries were accepted before, and its lines count anew
abbrev pub begin_later : Kept
begin_later = record begin { is_first = false }

-- PIECES

-- of a piece the bytes up to and with its first byte 10 are taken, or all
abbrev pub taken : (piece : List ℕ) → ℕ
taken piece = min (line_end piece + 1) (length piece)

-- those before the byte 10 stand behind the ones before; more than make a line too long are not kept
abbrev pub fed : Kept → (piece : List ℕ) → Kept
fed kept piece = record kept {
  standing = take LINE_ROOM (kept.standing ++ take (line_end piece) piece);
  is_whole = nat_lt (line_end piece) (length piece);
}

-- the end of the journal ends a line that has some bytes
abbrev pub finished : Kept → Kept
finished kept = record kept { is_whole = kept.is_whole || nat_lt 0 (length kept.standing); is_finished = true }

-- WHAT IS STILL TO COME

-- how far it was read, at this moment
abbrev pub reading_at : Kept → (now : ℕ) → Reading
reading_at kept now = record { lines = kept.lines; is_first = kept.is_first; moment = now }

-- the standing bytes and those that follow
abbrev pub bytes_from : Kept → (rest : List ℕ) → List ℕ
bytes_from kept rest = kept.standing ++ (if kept.is_whole then 10 ∷ rest else rest)

-- nothing is accepted behind a refused line
abbrev pub unless_refused : Option BadLine → Entries → Entries
unless_refused None later = later
unless_refused (Some bad) later = record { accepted = []; ending = Bad bad.line bad.code }

-- the entries from there on, where these bytes follow
abbrev pub read_on : Setup → Kept → (now : ℕ) → (rest : List ℕ) → Entries
read_on setup kept now rest = unless_refused kept.refused (entries_from setup (reading_at kept now) (journal_lines (bytes_from kept rest)))

-- those of the lines alone that a byte 10 ends
abbrev pub ended_on : Setup → Kept → (now : ℕ) → (rest : List ℕ) → Entries
ended_on setup kept now rest = unless_refused kept.refused (entries_from setup (reading_at kept now) (ended_lines (bytes_from kept rest)))

-- each whole line was taken, and none was refused
pub record HasNoWhole (kept : Kept) : Type 0 where
  pub unrefused : kept.refused ≡ None
  pub partial : kept.is_whole ≡ false
  pub unended : ended_lines kept.standing ≡ []
  pub last : kept.is_finished ≡ true → kept.standing ≡ []

-- ANSWERS

-- what is answered to a whole line of this meaning that has this number
abbrev pub told : (number : ℕ) → Line → Result Next BadLine
told number line.Blank = Ok next.Blank
told number (line.Item entry) = Ok (next.Entry entry)
told number (line.Wrong code) = Err (record { line = number; code = code })

-- a refusal is told again
abbrev pub told_if : Option BadLine → (is_whole : Bool) → Result Next BadLine → Result Next BadLine
told_if (Some bad) is_whole answer = Err bad
told_if None true answer = answer
told_if None false answer = Ok next.Partial

-- what is answered, at this moment
abbrev pub answer_of : Setup → Kept → (now : ℕ) → Result Next BadLine
answer_of setup kept now = told_if kept.refused kept.is_whole (told (kept.lines + 1) (meaning setup (reading_at kept now) kept.standing))

-- a line that was answered is taken, and one that is refused goes on standing
abbrev pub kept_after : Kept → Result Next BadLine → Kept
kept_after kept (Ok (next.Entry entry)) = record kept { lines = kept.lines + 1; is_first = false; standing = []; is_whole = false }
kept_after kept (Ok next.Blank) = record kept { lines = kept.lines + 1; standing = []; is_whole = false }
kept_after kept (Ok next.Partial) = kept
kept_after kept (Err bad) = record kept { refused = Some bad }

-- what an answer says of the entries, before those that come later
abbrev pub said : Result Next BadLine → Entries → Entries
said (Ok (next.Entry entry)) later = record later { accepted = entry ∷ later.accepted }
said (Ok next.Blank) later = later
said (Ok next.Partial) later = later
said (Err bad) later = record { accepted = []; ending = Bad bad.line bad.code }

-- the moment to which it brings a run
abbrev pub moment_said : (now : ℕ) → Result Next BadLine → ℕ
moment_said now (Ok (next.Entry entry)) = moment_after now entry
moment_said now (Ok next.Blank) = now
moment_said now (Ok next.Partial) = now
moment_said now (Err bad) = now

-- what is true of an entry, where one is answered
abbrev pub IfEntry : Result Next BadLine → (Entry → Type 0) → Type 0
IfEntry (Ok (next.Entry entry)) P = P entry
IfEntry (Ok next.Blank) P = Unit {0}
IfEntry (Ok next.Partial) P = Unit {0}
IfEntry (Err bad) P = Unit {0}

-- no whole line stands, and so it is answered
abbrev pub IsPartial : Result Next BadLine → Type 0
IsPartial answer = answer ≡ Ok next.Partial

-- what is always true of it: no more bytes stand than make a line too long, none of them is a byte 10, a refused line
-- goes on standing, and behind the end of the journal none stand but those of a whole line
pub record IsKept (kept : Kept) : Type 0 where
  pub short : length kept.standing ≤ LINE_ROOM
  pub unended : ended_lines kept.standing ≡ []
  pub stays : kept.is_whole ≡ false → kept.refused ≡ None
  pub last : kept.is_finished ≡ true → kept.is_whole ≡ false → kept.standing ≡ []
