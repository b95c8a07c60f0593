-- Which value a literal in a line spells.
use Rattle.std.specs.Prelude.{◌≡◌, ◌≢◌, ◌⊎◌, ℕ, ◌*◌, ◌^◌, ◌<◌, ◌≤◌, ℤ, pos, neg_ℤ, List, [], ◌∷◌, ◌++◌, codes, length, if◌then◌else◌}
use Rattle.std.specs.Char.{digit_value}
use Rattle.std.specs.List.{AllByRecursion}
use Rattle.std.specs.Str.Parse.{digits_value}
use Rattle.pearl_value.specs.declared.cell.Cell.{Cell}
use Rattle.pearl_value.specs.declared.cell.Cell.TheVariants.{Fixed, Bits, Chars, Clock, Span, Ref}
use Rattle.pearl_value.specs.Conversions.{fits_fixed}
use Rattle.pearl_value.specs.WellFormed.{FitsSpan}
use Rattle.pearl_journal.specs.Laws.{IsGap}
use Rattle.pearl_journal_laws.specs.Durations.{IsLengthOfTime}
use Rattle.pearl_journal_laws.specs.Says.{IsDigit, IsNumber, IsText}
use Rattle.pearl_journal_laws.specs.Times.{IsTimeOfDay}

-- `-`, perhaps blanks and tabs, and a number
pub record IsNegative (bytes : List ℕ) (n : ℕ) : Type 0 where
  pub gap : List ℕ
  pub digits : List ℕ
  pub spelled : bytes ≡ 45 ∷ (gap ++ digits)
  pub is_gap : IsGap gap
  pub is_number : IsNumber digits n

-- a number, perhaps with `-` in front
abbrev pub IsSigned : List ℕ → ℤ → Type 0
IsSigned bytes value =
    ((n : ℕ) × IsNumber bytes n × (value ≡ pos n)) ⊎ ((n : ℕ) × IsNegative bytes n × (value ≡ neg_ℤ (pos n)))

-- 0 to 9, or a capital A to F, which counts less than 2^group
abbrev pub IsBitDigit : (group : ℕ) → ℕ → Type 0
IsBitDigit group byte = (IsDigit byte ⊎ ((65 ≤ byte) × (byte ≤ 70))) × (digit_value byte < 2 ^ group)

-- the word says how many bits each digit has
abbrev pub SaysGroup : (word : List ℕ) → (group : ℕ) → Type 0
SaysGroup word group =
    ((word ≡ codes "B") × (group ≡ 1)) ⊎ (
    ((word ≡ codes "B1") × (group ≡ 1)) ⊎ (
    ((word ≡ codes "B2") × (group ≡ 2)) ⊎ (
    ((word ≡ codes "B3") × (group ≡ 3)) ⊎ ((word ≡ codes "B4") × (group ≡ 4)))))

-- digits between apostrophes and behind them the word: so many bits, 64 at most, and the number that they spell
pub record AreBits (bytes : List ℕ) (len value : ℕ) : Type 0 where
  pub digits : List ℕ
  pub word : List ℕ
  pub group : ℕ
  pub spelled : bytes ≡ 39 ∷ (digits ++ 39 ∷ word)
  pub says_group : SaysGroup word group
  pub some : digits ≢ []
  pub are_digits : AllByRecursion (IsBitDigit group) digits
  pub count : len ≡ group * length digits
  pub few : len ≤ 64
  pub number : value ≡ digits_value (2 ^ group) digits

-- a number, bits, a text of at least one character, a time of day, or a length of time of no more than 2^40
-- milliseconds, forward or back; a number has 31 binary digits where it fits, and else 63
abbrev pub Spells : List ℕ → Cell → Type 0
Spells bytes (Fixed len value) =
    IsSigned bytes value × (len ≡ (if fits_fixed 31 value then 31 else 63))
Spells bytes (Bits len value) = AreBits bytes len value
Spells bytes (Chars text) = IsText bytes text.items × (text.items ≢ [])
Spells bytes (Clock time) = IsTimeOfDay bytes time
Spells bytes (Span time) = IsLengthOfTime bytes time × FitsSpan time
Spells bytes (Ref of place) = ⊥

-- a length of time of more than 2^40 milliseconds, forward or back
abbrev pub SpellsTooMuch : List ℕ → Type 0
SpellsTooMuch bytes = (time : ℤ) × IsLengthOfTime bytes time × (FitsSpan time → ⊥)

abbrev pub IsLiteral : List ℕ → Type 0
IsLiteral bytes = ((x : Cell) × Spells bytes x) ⊎ SpellsTooMuch bytes
