-- Which entries a journal has, read from left to right.
use Rattle.std.specs.Prelude.{ℕ, ◌+◌, List, [], ◌∷◌, false}
use Rattle.pearl_rules.specs.declared.entry.Entry.{Entry}
use Rattle.pearl_rules.specs.declared.setup.Setup.{Setup}
use Rattle.pearl_rules.specs.Entries.{moment_after}
use Rattle.pearl_journal.specs.declared.reading.Line.{Line}
use Rattle.pearl_journal.specs.declared.reading.Line.TheVariants.{Blank, Item, Wrong}
use Rattle.pearl_journal.specs.Readings.{Reading, start}
use Rattle.pearl_journal.specs.Meaning.{meaning}

-- what an entry is, if the line is one
abbrev pub IfItem : Line → (Entry → Type 0) → Type 0
IfItem (Item entry) P = P entry
IfItem Blank P = Unit {0}
IfItem (Wrong code) P = Unit {0}

-- how far it was read after one more line of this meaning
abbrev pub after : Reading → Line → Reading
after reading (Item entry) =
    record { lines = reading.lines + 1; is_first = false; moment = moment_after reading.moment entry }
after reading Blank = record reading { lines = reading.lines + 1 }
after reading (Wrong code) = record reading { lines = reading.lines + 1 }

-- all lines were accepted, or a line, counted from 1, is refused
pub data Ending : Type 0 where
  All : Ending
  Bad : (line code : ℕ) → Ending

-- the accepted entries up to the first refused line
pub record Entries : Type 0 where
  pub accepted : List Entry
  pub ending : Ending

-- a line that has this number, before the others
abbrev pub more_entries : Line → ℕ → Entries → Entries
more_entries Blank line later = later
more_entries (Item entry) line later = record later { accepted = entry ∷ later.accepted }
more_entries (Wrong code) line later = record { accepted = []; ending = Bad line code }

-- the entries of the lines that follow, by the tables
abbrev pub entries_from : Setup → Reading → List (List ℕ) → Entries
entries_from setup reading [] = record { accepted = []; ending = All }
entries_from setup reading (line ∷ lines) =
    more_entries (meaning setup reading line) (reading.lines + 1) (entries_from setup (after reading (meaning setup reading line)) lines)

-- the entries of a journal's lines
abbrev pub entries : Setup → List (List ℕ) → Entries
entries setup lines = entries_from setup start lines
