-- The kinds of literals.
use Rattle.std.specs.Prelude.{ℕ, pos, if◌then◌else◌, length, List, Option, Some, None}
use Rattle.pearl_value.specs.declared.kind.Kind.{Kind}
use Rattle.pearl_value.specs.declared.kind.Kind.TheVariants as kind
use Rattle.pearl_value.specs.Conversions.{fits_fixed}
use Rattle.pearl_tree.specs.declared.typing.Sort.TheVariants.{Fixed}
use Rattle.pearl_tree.specs.declared.literal.Duration.{Duration}
use Rattle.pearl_tree.specs.ShownLiterals.{ShownLiteral, OfNumber, OfBits, OfText, OfClock, OfDuration}
use Rattle.pearl_names.specs.declared.length.DefaultLength.{DefaultLength}
use Rattle.pearl_names.specs.Lengths.{length_at}
use Rattle.pearl_names.specs.Durations.{is_too_long}

-- a number has the default length where its value fits, and else length 63
abbrev pub fixed_length : ℕ → ℕ → ℕ
fixed_length len value = if fits_fixed len (pos value) then len else 63

-- a duration that is too long has no kind
abbrev pub duration_kind : Duration → Option Kind
duration_kind duration = if is_too_long duration then None else Some kind.Span

abbrev pub literal_kind : List DefaultLength → ShownLiteral → Option Kind
literal_kind lengths (OfNumber number) = Some (kind.Fixed (fixed_length (length_at lengths Fixed number.place) number.value))
literal_kind lengths (OfBits len value place) = Some (kind.Bits len)
literal_kind lengths (OfText text place) = Some (kind.Chars (length text))
literal_kind lengths (OfClock milliseconds place) = Some kind.Clock
literal_kind lengths (OfDuration duration) = duration_kind duration
