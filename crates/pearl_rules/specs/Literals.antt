-- How numbers, digits of bits, times of day and lengths of time are read from bytes.
use Rattle.std.specs.Prelude.{ℕ, ◌+◌, ◌-◌, ◌*◌, ◌/◌, ◌%◌, ◌^◌, ℤ, pos, neg_ℤ, Bool, not, ◌&&◌, ◌==◌, nat_le, nat_lt, if◌then◌else◌, List, [], ◌∷◌, ◌++◌, length, take, drop, replicate, slice_index, take_while, Option, Some, None, option_map, codes, bytes_eq}
use Rattle.std.specs.Char.{digit_value, is_ascii_digit, is_ascii_lowercase}
use Rattle.std.specs.List.{list_all, prefix_len, suffix_len, slice_split}
use Rattle.std.specs.Str.{all_ascii_digits}
use Rattle.std.specs.Str.Parse.{digits_value}
use Rattle.pearl_value.specs.Blanks.{widened}

-- BLANKS

-- without the blanks at the front
abbrev pub behind_blanks : (is_blank : ℕ → Bool) → List ℕ → List ℕ
behind_blanks is_blank text = drop (prefix_len is_blank text) text

-- without the blanks at the end
abbrev pub before_blanks : (is_blank : ℕ → Bool) → List ℕ → List ℕ
before_blanks is_blank text = take (length text - suffix_len is_blank text) text

-- without the blanks at both ends
abbrev pub bare : (is_blank : ℕ → Bool) → List ℕ → List ℕ
bare is_blank text = before_blanks is_blank (behind_blanks is_blank text)

-- NUMBERS

-- the number that digits spell in decimal; none where there is no digit, or another byte
abbrev pub decimal_number : List ℕ → Option ℕ
decimal_number [] = None
decimal_number (byte ∷ bytes) = if all_ascii_digits (byte ∷ bytes) then Some (digits_value 10 (byte ∷ bytes)) else None

abbrev pub at_most : ℕ → Option ℕ → Option ℕ
at_most limit None = None
at_most limit (Some n) = if nat_le n limit then Some n else None

-- the same, where it is no greater than the limit
abbrev pub number_up_to : ℕ → List ℕ → Option ℕ
number_up_to limit digits = at_most limit (decimal_number digits)

-- a number: at most 2^63 - 1
abbrev pub number_literal : List ℕ → Option ℕ
number_literal digits = number_up_to (2 ^ 63 - 1) digits

abbrev pub minus : ℕ → ℤ
minus n = neg_ℤ (pos n)

-- a number of any size, perhaps with `+` or `-` directly in front
abbrev pub signed_number : List ℕ → Option ℤ
signed_number text =
    if slice_index text 0 == 45 then option_map minus (decimal_number (drop 1 text)) else (
    if slice_index text 0 == 43 then option_map pos (decimal_number (drop 1 text))
    else option_map pos (decimal_number text))

-- what `read` says of the text, or, where `-` and any number of blanks stand in front, of what is behind them, negated
abbrev pub perhaps_negative : (is_blank : ℕ → Bool) → (read : List ℕ → Option ℕ) → List ℕ → Option ℤ
perhaps_negative is_blank read text =
    if slice_index text 0 == 45 then option_map minus (read (behind_blanks is_blank (drop 1 text)))
    else option_map pos (read text)

-- a FIXED literal: a number, perhaps with `-` in front
abbrev pub fixed_literal : (is_blank : ℕ → Bool) → List ℕ → Option ℤ
fixed_literal is_blank text = perhaps_negative is_blank number_literal text

-- BITS

-- a digit of so many bits: 0 to 9 and A to F
abbrev pub is_bit_digit : ℕ → ℕ → Bool
is_bit_digit group byte = nat_lt (digit_value byte) (2 ^ group) && not (is_ascii_lowercase byte)

-- the number that one or more digits of `group` bits spell
abbrev pub bits_number : ℕ → List ℕ → Option ℕ
bits_number group [] = None
bits_number group (byte ∷ bytes) =
    if list_all (is_bit_digit group) (byte ∷ bytes) then Some (digits_value (2 ^ group) (byte ∷ bytes)) else None

-- the first `len` of `count` bits, with zeros on the right where they are fewer; none where one past them isn't zero
abbrev pub bits_within : (len count : ℕ) → Option ℕ → Option ℕ
bits_within len count None = None
bits_within len count (Some value) =
    if nat_le count len then Some (widened count value len) else (
    if value % 2 ^ (count - len) == 0 then Some (value / 2 ^ (count - len)) else None)

-- what one or more digits of `group` bits are as a BIT of a length
abbrev pub bits_literal : (group len : ℕ) → List ℕ → Option ℕ
bits_literal group len digits = bits_within len (group * length digits) (bits_number group digits)

-- TIMES OF DAY

-- one to three digits behind a point, in thousandths: those that are missing are zeros
abbrev pub thousandths : List ℕ → Option ℕ
thousandths [] = None
thousandths (byte ∷ bytes) =
    let digits = byte ∷ bytes in
    if nat_le (length digits) 3 then decimal_number (digits ++ replicate (3 - length digits) 48) else None

abbrev pub clock_value : Option ℕ → Option ℕ → Option ℕ → Option ℕ → Option ℕ
clock_value (Some hours) (Some minutes) (Some seconds) (Some milliseconds) =
    Some (((hours * 60 + minutes) * 60 + seconds) * 1000 + milliseconds)
clock_value hours minutes seconds milliseconds = None

abbrev pub clock_of : (hours minutes seconds : List ℕ) → Option ℕ → Option ℕ
clock_of hours minutes seconds milliseconds =
    clock_value (number_up_to 23 hours) (number_up_to 59 minutes) (number_up_to 59 seconds) milliseconds

abbrev pub with_point : (hours minutes : List ℕ) → List (List ℕ) → Option ℕ
with_point hours minutes (seconds ∷ []) = clock_of hours minutes seconds (Some 0)
with_point hours minutes (seconds ∷ digits ∷ []) = clock_of hours minutes seconds (thousandths digits)
with_point hours minutes parts = None

abbrev pub with_colons : List (List ℕ) → Option ℕ
with_colons (hours ∷ minutes ∷ seconds ∷ []) = with_point hours minutes (slice_split (λ byte. byte == 46) seconds)
with_colons parts = None

-- a clock literal, in milliseconds since midnight: hours up to 23, a colon, minutes up to 59, a colon, seconds up to
-- 59, each in any number of digits, and perhaps a point and one to three digits
unfoldable pub clock_literal : List ℕ → Option ℕ
clock_literal text = with_colons (slice_split (λ byte. byte == 58) text)

-- LENGTHS OF TIME

-- so many milliseconds, and what stands behind their word
pub record Amount : Type 0 where
  pub milliseconds : ℕ
  pub rest : List ℕ

-- the digits at the front
abbrev pub front_digits : List ℕ → List ℕ
front_digits text = take_while is_ascii_digit text

-- what stands behind them
abbrev pub behind_digits : List ℕ → List ℕ
behind_digits text = drop (prefix_len is_ascii_digit text) text

-- so many milliseconds, where the word comes next, behind any number of blanks
abbrev pub worded : (is_blank : ℕ → Bool) → (word : List ℕ) → Option ℕ → List ℕ → Option Amount
worded is_blank word None rest = None
worded is_blank word (Some n) rest =
    let here = behind_blanks is_blank rest in
    if bytes_eq (take (length word) here) word then Some (record { milliseconds = n; rest = drop (length word) here })
    else None

-- a number and the word of a unit, at the front
abbrev pub whole_amount : (is_blank : ℕ → Bool) → (word : List ℕ) → (unit : ℕ) → List ℕ → Option Amount
whole_amount is_blank word unit text =
    worded is_blank word (option_map (λ n. n * unit) (number_literal (front_digits text))) (behind_digits text)

abbrev pub decimal_value : Option ℕ → Option ℕ → Option ℕ
decimal_value (Some whole) (Some part) = Some (whole * 1000 + part)
decimal_value whole part = None

-- a decimal and SEC: a number, and a point and one to three digits
abbrev pub decimal_amount : (is_blank : ℕ → Bool) → (whole part : List ℕ) → Option Amount
decimal_amount is_blank whole part =
    let value = decimal_value (number_literal whole) (thousandths (front_digits part)) in
    worded is_blank (codes "SEC") value (behind_digits part)

-- a number or a decimal, and SEC, at the front
abbrev pub seconds_amount : (is_blank : ℕ → Bool) → List ℕ → Option Amount
seconds_amount is_blank text =
    let behind = behind_digits text in
    if slice_index behind 0 == 46 then decimal_amount is_blank (front_digits text) (drop 1 behind)
    else whole_amount is_blank (codes "SEC") 1000 text

-- behind an amount nothing is left, or a blank and what `later` reads
abbrev pub behind_amount : (is_blank : ℕ → Bool) → (later : List ℕ → Option ℕ) → List ℕ → Option ℕ
behind_amount is_blank later [] = Some 0
behind_amount is_blank later (byte ∷ rest) = if is_blank byte then later (behind_blanks is_blank rest) else None

-- where the text begins with an amount, it and what is behind it, else what `later` reads in all of the text
abbrev pub from_amount : (is_blank : ℕ → Bool) → (later : List ℕ → Option ℕ) → List ℕ → Option Amount → Option ℕ
from_amount is_blank later text None = later text
from_amount is_blank later text (Some amount) =
    option_map (λ n. amount.milliseconds + n) (behind_amount is_blank later amount.rest)

abbrev pub from_seconds : (is_blank : ℕ → Bool) → List ℕ → Option ℕ
from_seconds is_blank text = from_amount is_blank (λ rest. None) text (seconds_amount is_blank text)

abbrev pub from_minutes : (is_blank : ℕ → Bool) → List ℕ → Option ℕ
from_minutes is_blank text =
    from_amount is_blank (from_seconds is_blank) text (whole_amount is_blank (codes "MIN") 60000 text)

abbrev pub from_hours : (is_blank : ℕ → Bool) → List ℕ → Option ℕ
from_hours is_blank text =
    from_amount is_blank (from_minutes is_blank) text (whole_amount is_blank (codes "HRS") 3600000 text)

-- a duration literal, perhaps with `-` in front, in milliseconds and of any size: hours, minutes, and seconds that may
-- be a decimal, of which not all are missing; any number of blanks comes before a word, and one or more between a word
-- and the next number
unfoldable pub span_literal : (is_blank : ℕ → Bool) → List ℕ → Option ℤ
span_literal is_blank text = perhaps_negative is_blank (from_hours is_blank) text
