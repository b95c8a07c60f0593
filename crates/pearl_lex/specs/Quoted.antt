-- What begins with an apostrophe: bits and texts. A byte past the end reads as 0.
use Rattle.std.specs.Prelude.{ℕ, ◌+◌, ◌-◌, ◌*◌, ◌^◌, Bool, ◌&&◌, ◌==◌, nat_le, nat_lt, if◌then◌else◌, List, [], ◌∷◌, length, take, drop, fold, slice_index, Option, Some, None}
use Rattle.std.specs.List.{list_all}
use Rattle.pearl_tree.specs.declared.token.What.{What}
use Rattle.pearl_tree.specs.declared.token.What.TheVariants as what
use Rattle.pearl_lex.specs.declared.front.Front.{Front}
use Rattle.pearl_lex.specs.Spelling.{is_id_byte, sized}

-- a byte from 32 to 126
abbrev pub is_char : ℕ → Bool
is_char b = nat_le 32 b && nat_le b 126

-- how many bytes spell the character that these two bytes begin with, the apostrophe being written twice; 0 where they begin with none
abbrev pub char_len : ℕ → ℕ → ℕ
char_len a b = if a == 39 then (if b == 39 then 2 else 0) else (if is_char a then 1 else 0)

-- how many bytes at the front spell characters
abbrev pub chars_len : List ℕ → ℕ
chars_len [] = 0
chars_len (a ∷ []) = char_len a 0
chars_len (a ∷ b ∷ rest) = if a == 39 then (if b == 39 then 2 + chars_len rest else 0) else (if is_char a then 1 + chars_len (b ∷ rest) else 0)

-- the characters that such bytes spell
abbrev pub chars_of : List ℕ → List ℕ
chars_of [] = []
chars_of (a ∷ []) = a ∷ []
chars_of (a ∷ b ∷ rest) = a ∷ (if a == 39 then chars_of rest else chars_of (b ∷ rest))

-- 1 to 255 characters
abbrev pub quoted_text : List ℕ → Option What
quoted_text text = if nat_le 1 (length text) && nat_le (length text) 255 then Some (what.Text (record { items = text })) else None

-- how many bits each digit has where `B`, `B1`, `B2`, `B3` or `B4` and then no letter, digit or `_` stands here, and else 0
abbrev pub digit_width : List ℕ → ℕ
digit_width bytes =
    if slice_index bytes 0 == 66
    then (if is_id_byte (slice_index bytes 1)
    then (if nat_le 49 (slice_index bytes 1) && nat_le (slice_index bytes 1) 52 then (if is_id_byte (slice_index bytes 2) then 0 else slice_index bytes 1 - 48) else 0)
    else 1)
    else 0

-- how many bytes that takes
abbrev pub suffix_len : List ℕ → ℕ
suffix_len bytes = if is_id_byte (slice_index bytes 1) then 2 else 1

-- 0 to 9 and A to F; 16 for any other byte
abbrev pub digit_value : ℕ → ℕ
digit_value b =
    if nat_le 48 b && nat_le b 57 then b - 48 else
    (if nat_le 65 b && nat_le b 70 then b - 55 else 16)

abbrev pub is_digit_of : ℕ → ℕ → Bool
is_digit_of width digit = nat_lt (digit_value digit) (2 ^ width)

-- the number that digits of this many bits spell, the first bit highest
abbrev pub bits_value : ℕ → List ℕ → ℕ
bits_value width digits = fold (λ value digit. value * 2 ^ width + digit_value digit) 0 digits

-- 1 to 64 bits in digits of this many bits
abbrev pub bits_of : ℕ → List ℕ → Option What
bits_of width digits =
    if nat_le 1 (length digits) && nat_le (length digits * width) 64 && list_all (is_digit_of width) digits
    then Some (what.Bits (length digits * width) (bits_value width digits)) else None

-- characters of which this many bytes stand before the closing apostrophe, and what follows that
abbrev pub closed : List ℕ → ℕ → List ℕ → Option Front
closed bytes size after =
    if digit_width after == 0
    then sized (quoted_text (chars_of (take size bytes))) (size + 2)
    else sized (bits_of (digit_width after) (take size bytes)) (size + 2 + suffix_len after)

-- the bits or the text whose bytes behind the opening apostrophe these are
abbrev pub quoted : List ℕ → Option Front
quoted bytes = if slice_index bytes (chars_len bytes) == 39 then closed bytes (chars_len bytes) (drop (chars_len bytes + 1) bytes) else None
