-- What the lines of a journal mean behind those of another one, and what is the same if they stand alone.
use Rattle.std.specs.Prelude.{◌≡◌, ℕ, ◌+◌, List, ◌++◌, codes}
use Rattle.std.specs.List.{AllByRecursion}
use Rattle.pearl_rules.specs.declared.entry.Entry.{Entry}
use Rattle.pearl_journal.specs.Entries.{All, Bad, Ending, Entries}
use Rattle.pearl_journal.specs.Laws.{SaysWordAndText}
use Rattle.pearl_journal.specs.Lines.{ended_lines, journal_lines, without_return}
use Rattle.pearl_journal_laws.specs.Times.{IsTimeOfDay}

-- each line of these bytes is ended by byte 10: none stand behind the last one
abbrev pub EndsEachLine : (journal : List ℕ) → Type 0
EndsEachLine journal = ended_lines journal ≡ journal_lines journal

-- a line `clock C`: this word, and a time of day behind it. A byte 13 at the line's end is dropped before.
pub record SetsClock (line : List ℕ) : Type 0 where
  pub text : List ℕ
  pub time : ℕ
  pub says : SaysWordAndText (without_return line) (codes "clock") text
  pub is_time : IsTimeOfDay text time

-- no line sets the clock
abbrev pub HasNoClock : (lines : List (List ℕ)) → Type 0
HasNoClock lines = AllByRecursion (λ line. SetsClock line → ⊥) lines

-- these entries, and then others
abbrev pub with_front : (front : List Entry) → Entries → Entries
with_front front later = record later { accepted = front ++ later.accepted }

-- a line that is refused is counted from one before which so many others stand
abbrev pub counted_behind : (before : ℕ) → Ending → Ending
counted_behind before All = All
counted_behind before (Bad line code) = Bad (line + before) code

-- the same entries, ending so
abbrev pub renumbered : (before : ℕ) → Entries → Entries
renumbered before found = record found { ending = counted_behind before found.ending }
