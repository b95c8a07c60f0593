-- Which values literals spell, and where they can come in.
use Rattle.std.specs.Prelude.{ℕ, ◌*◌, ℤ, Bool, true, false, nat_le, if◌then◌else◌, List, length, drop, slice_index, Option, Some, None, option_map, option_and_then, codes, bytes_eq}
use Rattle.std.specs.Option.{option_or}
use Rattle.std.specs.List.{before_first, after_first}
use Rattle.pearl_value.specs.declared.kind.Kind.{Kind}
use Rattle.pearl_value.specs.declared.kind.Kind.TheVariants as kind
use Rattle.pearl_value.specs.declared.cell.Cell.{Cell}
use Rattle.pearl_value.specs.declared.cell.Cell.TheVariants.{Fixed, Bits, Chars, Clock, Span}
use Rattle.pearl_value.specs.Arithmetic.{fits_span}
use Rattle.pearl_value.specs.Conversions.{fits_fixed}
use Rattle.pearl_rules.specs.Literals.{bits_number, clock_literal, fixed_literal, span_literal}
use Rattle.pearl_journal.specs.declared.literals.Literal.{Literal}
use Rattle.pearl_journal.specs.declared.literals.Literal.TheVariants.{Value, TooLong}
use Rattle.pearl_journal.specs.Texts.{is_apostrophe, text_literal}
use Rattle.pearl_journal.specs.Words.{is_blank}

-- BITS

-- the word behind digits says how many bits each has
abbrev pub digit_width : List ℕ → Option ℕ
digit_width word =
    if bytes_eq word (codes "B") then Some 1 else (
    if bytes_eq word (codes "B1") then Some 1 else (
    if bytes_eq word (codes "B2") then Some 2 else (
    if bytes_eq word (codes "B3") then Some 3 else (
    if bytes_eq word (codes "B4") then Some 4 else None))))

-- digits of so many bits, at most 64 bits in all
abbrev pub bits_of : (group : ℕ) → List ℕ → Option Cell
bits_of group digits =
    let len = group * length digits in
    if nat_le len 64 then option_map (Bits len) (bits_number group digits) else None

-- bits: digits between apostrophes, and behind them the word
abbrev pub bits_literal : List ℕ → Option Cell
bits_literal text =
    let inner = drop 1 text in
    if is_apostrophe (slice_index text 0)
    then option_and_then (λ group. bits_of group (before_first is_apostrophe inner)) (digit_width (after_first is_apostrophe inner))
    else None

-- LITERALS

-- a FIXED literal has 31 binary digits where it fits, and else 63
abbrev pub fixed_cell : ℤ → Cell
fixed_cell value = Fixed (if fits_fixed 31 value then 31 else 63) value

abbrev pub text_cell : List ℕ → Cell
text_cell text = Chars (record { items = text })

abbrev pub span_value : ℤ → Literal
span_value value = if fits_span value then Value (Span value) else TooLong

-- bits, a text, a time of day, a number, or a length of time, the last two perhaps with `-` in front
abbrev pub literal : List ℕ → Option Literal
literal text =
    option_or (option_map Value (bits_literal text)) (
    option_or (option_map (λ t. Value (text_cell t)) (text_literal text)) (
    option_or (option_map (λ time. Value (Clock time)) (clock_literal text)) (
    option_or (option_map (λ n. Value (fixed_cell n)) (fixed_literal is_blank text)) (
    option_map span_value (span_literal is_blank text)))))

-- whether a value may come in where this kind is wanted: its kind suits, and the value fits
abbrev pub may_come_in : Kind → Cell → Bool
may_come_in (kind.Fixed to) (Fixed len value) = fits_fixed to value
may_come_in (kind.Bits to) (Bits len value) = nat_le len to
may_come_in (kind.Chars to) (Chars text) = nat_le (length text.items) to
may_come_in kind.Clock (Clock time) = true
may_come_in kind.Span (Span time) = true
may_come_in kind x = false

-- what a literal gives there
abbrev pub coming_in : Option Kind → Literal → Option Cell
coming_in (Some kind) (Value x) = if may_come_in kind x then Some x else None
coming_in kind literal = None
