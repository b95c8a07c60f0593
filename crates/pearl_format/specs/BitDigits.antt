-- The digits of a BIT, told of its truth values.
use Rattle.std.specs.Prelude.{◌≡◌, ℕ, zero, suc, ◌*◌, ◌<◌, ◌≤◌, Bool, true, List, [], ◌∷◌, length, take, drop}
use Rattle.std.specs.Fmt.{digit_glyph}
use Rattle.pearl_value.specs.BitLists.{number_of, zeros_to}
use Rattle.pearl_format.specs.Fields.{digit_count, bits_text}

-- so many digits, each of the next `group` truth values
abbrev pub group_digits : ℕ → ℕ → List Bool → List ℕ
group_digits group zero bits = []
group_digits group (suc count) bits = digit_glyph true (number_of (take group bits)) ∷ group_digits group count (drop group bits)

-- the text of a BIT: its truth values from the first on, `group` to a digit, the last digit filled with zeros on the right
abbrev pub WritesGroups : Type 0
WritesGroups = (group : ℕ) (bits : List Bool) → 0 < group → group ≤ 4 →
    let count = digit_count group (length bits) in
    bits_text group (length bits) (number_of bits) ≡ group_digits group count (zeros_to (group * count) bits)
