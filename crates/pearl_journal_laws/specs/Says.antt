-- What a line says: its words, and the numbers and texts among them.
use Rattle.std.specs.Prelude.{◌≡◌, ◌≢◌, ℕ, ◌<◌, ◌≤◌, ◌^◌, List, [], codes, length}
use Rattle.std.specs.List.{AllByRecursion}
use Rattle.std.specs.Str.Parse.{digits_value}
use Rattle.pearl_rules.specs.Entries.{IsPrinted}
use Rattle.pearl_journal.specs.Laws.{EndsInNoReturn, IsBare, SaysThreeParts, SaysWordAndText, in_apostrophes}

-- a line that isn't too long, with no byte 13 at its end, and has this word and this text behind it
pub record Says (line word text : List ℕ) : Type 0 where
  pub parts : SaysWordAndText line word text
  pub ends : EndsInNoReturn line
  pub short : length line ≤ 1024

-- the same of a word, a second one and a text behind that
pub record SaysMore (line word second text : List ℕ) : Type 0 where
  pub parts : SaysThreeParts line word second text
  pub is_bare : IsBare text
  pub ends : EndsInNoReturn line
  pub short : length line ≤ 1024

-- 0 to 9
abbrev pub IsDigit : ℕ → Type 0
IsDigit byte = (48 ≤ byte) × (byte ≤ 57)

-- digits that spell this number, which is at most 2^63 - 1
pub record IsNumber (digits : List ℕ) (n : ℕ) : Type 0 where
  pub some : digits ≢ []
  pub are_digits : AllByRecursion IsDigit digits
  pub value : digits_value 10 digits ≡ n
  pub small : n < 2 ^ 63

-- no number
abbrev pub IsNoNumber : List ℕ → Type 0
IsNoNumber text = (n : ℕ) → IsNumber text n → ⊥

-- a text of bytes from 32 to 126, at most 255 of them, between apostrophes, each apostrophe in it written twice
pub record IsText (spelled text : List ℕ) : Type 0 where
  pub written : spelled ≡ in_apostrophes text
  pub printed : AllByRecursion IsPrinted text
  pub short : length text ≤ 255

-- none of the ten words with which a line begins
pub record IsOther (word : List ℕ) : Type 0 where
  pub clock : word ≢ codes "clock"
  pub run : word ≢ codes "run"
  pub tick : word ≢ codes "tick"
  pub pass : word ≢ codes "pass"
  pub irpt : word ≢ codes "irpt"
  pub chars : word ≢ codes "chars"
  pub line : word ≢ codes "line"
  pub value : word ≢ codes "value"
  pub turn : word ≢ codes "turn"
  pub state : word ≢ codes "state"
