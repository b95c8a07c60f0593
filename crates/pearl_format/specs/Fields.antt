-- What the text of a value is, and how a text is put into a width.
use Rattle.std.specs.Prelude.{ℕ, zero, suc, ◌+◌, ◌-◌, ◌*◌, ◌/◌, ◌%◌, ◌^◌, ℤ, pos, negsuc, true, List, [], ◌∷◌, ◌++◌, Option, Some, None, length, take, replicate, nat_le, if◌then◌else◌, codes, decimal}
use Rattle.std.specs.Fmt.{digit_glyph}
use Rattle.pearl_value.specs.Blanks.{widened}

-- the width that an item has, or else that of what it stands for
abbrev pub width_or : ℕ → ℕ → ℕ
width_or zero own = own
width_or (suc width) own = suc width

-- a text with blanks on its left up to the width; none where it is longer
abbrev pub right_field : ℕ → List ℕ → Option (List ℕ)
right_field width text = if nat_le (length text) width then Some (replicate (width - length text) 32 ++ text) else None

-- a text with blanks on its right up to the width; none where it is longer
abbrev pub left_field : ℕ → List ℕ → Option (List ℕ)
left_field width text = if nat_le (length text) width then Some (text ++ replicate (width - length text) 32) else None

-- the first bytes of a text, with blanks on its right up to the width
abbrev pub cut_field : ℕ → List ℕ → List ℕ
cut_field width text = take width text ++ replicate (width - length text) 32

-- how many digits of `group` bits stand for `len` bits
abbrev pub digit_count : ℕ → ℕ → ℕ
digit_count group len = (len + (group - 1)) / group

-- the last `count` digits of `group` bits each, 0 to 9 and A to F
abbrev pub last_digits : ℕ → ℕ → ℕ → List ℕ
last_digits group zero value = []
last_digits group (suc count) value = digit_glyph true (value / 2 ^ (group * count) % 2 ^ group) ∷ last_digits group count value

-- a BIT in digits of `group` bits, the last one filled with zero bits on the right
abbrev pub bits_text : ℕ → ℕ → ℕ → List ℕ
bits_text group len value =
    let count = digit_count group len in
    last_digits group count (widened len value (group * count))

abbrev pub two_digits : ℕ → List ℕ
two_digits n = (48 + n / 10) ∷ (48 + n % 10) ∷ []

abbrev pub three_digits : ℕ → List ℕ
three_digits n = (48 + n / 100) ∷ two_digits (n % 100)

-- hh:mm:ss
abbrev pub seconds_text : ℕ → List ℕ
seconds_text time = two_digits (time / 3600000) ++ codes ":" ++ two_digits (time / 60000 % 60) ++ codes ":" ++ two_digits (time / 1000 % 60)

-- a CLOCK: hh:mm:ss.mmm where the width is at least 12, else hh:mm:ss
abbrev pub clock_text : ℕ → ℕ → List ℕ
clock_text width time = if nat_le 12 width then seconds_text time ++ codes "." ++ three_digits (time % 1000) else seconds_text time

-- so many milliseconds: hours, and two digits each of minutes and seconds, and three of milliseconds
abbrev pub hours_text : ℕ → List ℕ
hours_text n =
    decimal (n / 3600000) ++ codes " HRS " ++ two_digits (n / 60000 % 60) ++ codes " MIN " ++ two_digits (n / 1000 % 60) ++ codes "." ++ three_digits (n % 1000) ++ codes " SEC"

-- a DURATION, with `-` in front where it is negative, also where that shows in the milliseconds alone
abbrev pub span_text : ℤ → List ℕ
span_text (pos n) = hours_text n
span_text (negsuc n) = codes "-" ++ hours_text (suc n)
