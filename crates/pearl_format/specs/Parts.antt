-- The text of one item alone, over the values that are left; none where it is a B, F or D item and its value's text is
-- longer than its width, or where the value is of a kind that the item doesn't suit.
use Rattle.std.specs.Prelude.{ℕ, List, ◌∷◌, Option, Some, None, length, replicate}
use Rattle.std.specs.Fmt.{signed_decimal}
use Rattle.pearl_value.specs.declared.cell.Cell.{Cell}
use Rattle.pearl_value.specs.declared.cell.Cell.TheVariants.{Fixed, Bits, Chars, Clock, Span}
use Rattle.pearl_format.specs.declared.item.ItemCode.{ItemCode}
use Rattle.pearl_format.specs.declared.item.ItemCode.TheVariants.{A, B1, B2, B3, B4, F, T, D, X, Skip}
use Rattle.pearl_format.specs.Items.{skip_count}
use Rattle.pearl_format.specs.Fields.{width_or, right_field, left_field, cut_field, bits_text, clock_text, span_text}

-- A: a CHAR, cut or with blanks on its right
abbrev pub letters_item : ℕ → List Cell → Option (List ℕ)
letters_item width (Chars text ∷ values) = Some (cut_field (width_or width (length text.items)) text.items)
letters_item width values = None

-- B1 to B4: a BIT, with blanks on its right
abbrev pub bits_item : ℕ → ℕ → List Cell → Option (List ℕ)
bits_item group width (Bits len value ∷ values) = let text = bits_text group len value in left_field (width_or width (length text)) text
bits_item group width values = None

-- F: a FIXED in decimal, with blanks on its left
abbrev pub number_item : ℕ → List Cell → Option (List ℕ)
number_item width (Fixed len value ∷ values) = right_field width (signed_decimal value)
number_item width values = None

-- T: a CLOCK, with blanks on its left
abbrev pub clock_item : ℕ → List Cell → Option (List ℕ)
clock_item width (Clock time ∷ values) = right_field width (clock_text width time)
clock_item width values = None

-- D: a DURATION, with blanks on its left
abbrev pub span_item : ℕ → List Cell → Option (List ℕ)
span_item width (Span time ∷ values) = right_field width (span_text time)
span_item width values = None

abbrev pub own_text : ItemCode → ℕ → List Cell → Option (List ℕ)
own_text A width values = letters_item width values
own_text B1 width values = bits_item 1 width values
own_text B2 width values = bits_item 2 width values
own_text B3 width values = bits_item 3 width values
own_text B4 width values = bits_item 4 width values
own_text F width values = number_item width values
own_text T width values = clock_item width values
own_text D width values = span_item width values
own_text X width values = Some (replicate (skip_count width) 32)
own_text Skip width values = Some (replicate (skip_count width) 10)
