-- Numbers, decimals and clocks. A byte past the end reads as 0.
use Rattle.std.specs.Prelude.{ℕ, ◌+◌, ◌-◌, ◌*◌, ◌^◌, Bool, ◌&&◌, ◌==◌, nat_le, if◌then◌else◌, List, [], ◌∷◌, take, drop, fold, slice_index, Option, Some, None}
use Rattle.std.specs.Option.{option_map}
use Rattle.std.specs.Char.{is_ascii_digit}
use Rattle.std.specs.List.{prefix_len}
use Rattle.pearl_tree.specs.declared.token.What.{What}
use Rattle.pearl_tree.specs.declared.token.What.TheVariants as what
use Rattle.pearl_lex.specs.declared.front.Front.{Front}
use Rattle.pearl_lex.specs.Spelling.{sized}

abbrev pub next_value : ℕ → ℕ → ℕ
next_value value digit = 10 * value + (digit - 48)

abbrev pub value_of : List ℕ → ℕ
value_of digits = fold next_value 0 digits

abbrev pub value_within : List ℕ → ℕ → Option ℕ
value_within digits max = if nat_le (value_of digits) max then Some (value_of digits) else None

abbrev pub digit_count : List ℕ → ℕ
digit_count bytes = prefix_len is_ascii_digit bytes

-- the digits that begin the bytes
abbrev pub digits_of : List ℕ → List ℕ
digits_of bytes = take (digit_count bytes) bytes

-- what stands behind those digits
abbrev pub after_digits : List ℕ → List ℕ
after_digits bytes = drop (digit_count bytes) bytes

-- what stands behind the byte that follows those digits
abbrev pub next_part : List ℕ → List ℕ
next_part bytes = drop 1 (after_digits bytes)

-- this byte and a digit
abbrev pub begins_part : ℕ → List ℕ → Bool
begins_part byte bytes = slice_index bytes 0 == byte && is_ascii_digit (slice_index bytes 1)

-- the digits behind a period, if both are there
abbrev pub decimals_of : List ℕ → List ℕ
decimals_of bytes = if begins_part 46 bytes then digits_of (drop 1 bytes) else []

-- how many bytes the period and the digits behind it take
abbrev pub decimals_len : List ℕ → ℕ
decimals_len bytes = if begins_part 46 bytes then 1 + digit_count (drop 1 bytes) else 0

-- at most three decimals, as thousandths
abbrev pub thousandths : List ℕ → Option ℕ
thousandths [] = Some 0
thousandths (a ∷ []) = Some (100 * (a - 48))
thousandths (a ∷ b ∷ []) = Some (100 * (a - 48) + 10 * (b - 48))
thousandths (a ∷ b ∷ c ∷ []) = Some (100 * (a - 48) + 10 * (b - 48) + (c - 48))
thousandths (a ∷ b ∷ c ∷ d ∷ more) = None

-- a number of at most 2^63 - 1
abbrev pub number_of : List ℕ → Option What
number_of digits = option_map what.Number (value_within digits (2 ^ 63 - 1))

abbrev pub decimal_by : Option ℕ → Option ℕ → Option What
decimal_by (Some whole) (Some part) = Some (what.Decimal whole part)
decimal_by whole part = None

-- a whole part of at most 2^63 - 1, and at most three decimals
abbrev pub decimal_of : List ℕ → List ℕ → Option What
decimal_of digits decimals = decimal_by (value_within digits (2 ^ 63 - 1)) (thousandths decimals)

abbrev pub milliseconds : Option ℕ → Option ℕ → Option ℕ → Option ℕ → Option What
milliseconds (Some hours) (Some minutes) (Some seconds) (Some part) = Some (what.Clock (1000 * (60 * (60 * hours + minutes) + seconds) + part))
milliseconds hours minutes seconds part = None

-- a time of day: at most 23 hours, 59 minutes and 59 seconds, and at most three decimals
abbrev pub clock_of : List ℕ → List ℕ → List ℕ → List ℕ → Option What
clock_of hours minutes seconds decimals = milliseconds (value_within hours 23) (value_within minutes 59) (value_within seconds 59) (thousandths decimals)

-- two more runs of digits follow the first, each behind a colon
abbrev pub begins_clock : List ℕ → Bool
begins_clock bytes = begins_part 58 (after_digits bytes) && begins_part 58 (after_digits (next_part bytes))

abbrev pub clock_front : List ℕ → Option Front
clock_front bytes =
    let minutes = next_part bytes in
    let seconds = next_part minutes in
    sized (clock_of (digits_of bytes) (digits_of minutes) (digits_of seconds) (decimals_of (after_digits seconds)))
    (digit_count bytes + digit_count minutes + digit_count seconds + 2 + decimals_len (after_digits seconds))

abbrev pub decimal_front : List ℕ → Option Front
decimal_front bytes = sized (decimal_of (digits_of bytes) (decimals_of (after_digits bytes))) (digit_count bytes + decimals_len (after_digits bytes))

abbrev pub number_front : List ℕ → Option Front
number_front bytes = sized (number_of (digits_of bytes)) (digit_count bytes)

-- what begins with a digit: a clock, or else a decimal, or else a number
abbrev pub numeral : List ℕ → Option Front
numeral bytes =
    if begins_clock bytes then clock_front bytes else
    (if begins_part 46 (after_digits bytes) then decimal_front bytes else number_front bytes)
