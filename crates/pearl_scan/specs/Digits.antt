-- Digits that are read one after another.
use Rattle.std.specs.Prelude.{ℕ, ◌+◌, ◌*◌, ◌^◌, ℤ, pos, Bool, Option, Some, None, nat_le, if◌then◌else◌}
use Rattle.std.specs.Char.{digit_value, is_ascii_digit}
use Rattle.pearl_rules.specs.Literals.{is_bit_digit, minus}

-- a number with one more digit behind it, where that is no greater than the limit
abbrev pub followed : (limit n byte : ℕ) → Option ℕ
followed limit n byte =
    if is_ascii_digit byte then (if nat_le (n * 10 + digit_value byte) limit then Some (n * 10 + digit_value byte) else None)
    else None

-- the same with one more digit of so many bits
abbrev pub bits_followed : (group n byte : ℕ) → Option ℕ
bits_followed group n byte = if is_bit_digit group byte then Some (n * 2 ^ group + digit_value byte) else None

-- a number with or without `-`
abbrev pub signed : Bool → ℕ → ℤ
signed is_negative n = if is_negative then minus n else pos n
