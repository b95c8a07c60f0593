-- Blanks, comments, words, names and symbols. A byte past the end reads as 0.
use Rattle.std.specs.Prelude.{ℕ, ◌+◌, Bool, true, false, ◌&&◌, ◌||◌, ◌==◌, nat_le, if◌then◌else◌, List, [], ◌∷◌, length, drop, slice_index, Option, Some, None}
use Rattle.std.specs.Char.{is_ascii_alphabetic, is_ascii_digit}
use Rattle.std.specs.List.{prefix_len}
use Rattle.std.specs.Str.{bytes_eq}
use Rattle.pearl_tree.specs.declared.token.What.{What}
use Rattle.pearl_tree.specs.declared.token.What.TheVariants as what
use Rattle.pearl_tree.specs.declared.symbol.TheConstants as s
use Rattle.pearl_lex.specs.declared.front.Front.{Front}

-- a letter, a digit or `_`
abbrev pub is_id_byte : ℕ → Bool
is_id_byte b = is_ascii_alphabetic b || is_ascii_digit b || b == 95

abbrev pub is_blank : ℕ → Bool
is_blank b = b == 9 || b == 10 || b == 12 || b == 13 || b == 32

abbrev pub is_in_line : ℕ → Bool
is_in_line b = if b == 10 then false else true

-- how many bytes stand before the first `*/`; all of them where none comes
abbrev pub before_end : List ℕ → ℕ
before_end [] = 0
before_end (b ∷ rest) = if b == 42 && slice_index rest 0 == 47 then 0 else 1 + before_end rest

-- the size of a comment of this many bytes between `/*` and `*/`, or 0 where `*/` is missing
abbrev pub enclosed_len : List ℕ → ℕ → ℕ
enclosed_len bytes inner = if nat_le (inner + 4) (length bytes) then inner + 4 else 0

-- the size of the blank or the comment that begins the bytes, or 0 where neither does
abbrev pub space_len : List ℕ → ℕ
space_len bytes =
    if is_blank (slice_index bytes 0) then 1 else
    (if slice_index bytes 0 == 33 then 1 + prefix_len is_in_line (drop 1 bytes) else
    (if slice_index bytes 0 == 47 && slice_index bytes 1 == 42 then enclosed_len bytes (before_end (drop 2 bytes)) else 0))

-- a token of this size, if there is one
abbrev pub sized : Option What → ℕ → Option Front
sized None size = None
sized (Some w) size = Some (record { what = w; size = size })

-- the code of a word in a table
abbrev pub meaning : List (List ℕ × ℕ) → List ℕ → Option ℕ
meaning [] text = None
meaning (row ∷ rows) text = if bytes_eq row.0 text then Some row.1 else meaning rows text

-- a name of at most 63 bytes
abbrev pub id_of : List ℕ → Option What
id_of text = if nat_le (length text) 63 then Some (what.Id (record { items = text })) else None

-- a word, or else a name
abbrev pub word_or_id : Option ℕ → List ℕ → Option What
word_or_id (Some code) text = Some (what.Word code)
word_or_id None text = id_of text

-- the symbol of these two bytes
abbrev pub double_symbol : ℕ → ℕ → Option ℕ
double_symbol a b =
    if a == 58 && b == 61 then Some s.BECOMES else (
    if a == 61 && b == 61 then Some s.EQUAL else (
    if a == 47 && b == 61 then Some s.UNEQUAL else (
    if a == 60 && b == 61 then Some s.AT_MOST else (
    if a == 62 && b == 61 then Some s.AT_LEAST else (
    if a == 62 && b == 60 then Some s.CONCATENATE else (
    if a == 60 && b == 62 then Some s.ROTATE else (
    if a == 47 && b == 47 then Some s.DIVIDE else (
    if a == 42 && b == 42 then Some s.POWER else None))))))))

-- the symbol of this one byte
abbrev pub single_symbol : ℕ → Option ℕ
single_symbol a =
    if a == 40 then Some s.LEFT_ROUND else (
    if a == 41 then Some s.RIGHT_ROUND else (
    if a == 91 then Some s.LEFT_SQUARE else (
    if a == 93 then Some s.RIGHT_SQUARE else (
    if a == 44 then Some s.COMMA else (
    if a == 59 then Some s.SEMICOLON else (
    if a == 58 then Some s.COLON else (
    if a == 46 then Some s.PERIOD else (
    if a == 61 then Some s.EQUALS_SIGN else (
    if a == 60 then Some s.LESS else (
    if a == 62 then Some s.GREATER else (
    if a == 43 then Some s.PLUS else (
    if a == 45 then Some s.MINUS else (
    if a == 42 then Some s.TIMES else None)))))))))))))

abbrev pub longer_symbol : Option ℕ → Option ℕ → Option Front
longer_symbol (Some double) single = Some (record { what = what.Symbol double; size = 2 })
longer_symbol None (Some single) = Some (record { what = what.Symbol single; size = 1 })
longer_symbol None None = None

-- the longest symbol that these two bytes begin with
abbrev pub symbol_front : ℕ → ℕ → Option Front
symbol_front a b = longer_symbol (double_symbol a b) (single_symbol a)
