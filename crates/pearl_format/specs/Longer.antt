-- Where the text of a B, F or D item is longer than its width.
use Rattle.std.specs.Prelude.{ℕ, ◌<◌, ◌⊎◌, List, [], ◌∷◌, length, drop}
use Rattle.std.specs.Fmt.{signed_decimal}
use Rattle.pearl_value.specs.declared.cell.Cell.{Cell}
use Rattle.pearl_value.specs.declared.cell.Cell.TheVariants.{Fixed, Bits, Span}
use Rattle.pearl_format.specs.declared.item.ItemCode.{ItemCode}
use Rattle.pearl_format.specs.declared.item.ItemCode.TheVariants.{B1, B2, B3, B4, F, D, X, Skip}
use Rattle.pearl_format.specs.declared.item.Item.{Item}
use Rattle.pearl_format.specs.Items.{data_here}
use Rattle.pearl_format.specs.Fields.{digit_count, span_text}

-- the value's text is longer than the item's width; B without a width is as wide as its digits
abbrev pub IsLonger : ItemCode → ℕ → Cell → Type 0
IsLonger B1 width (Bits len value) = (0 < width) × (width < digit_count 1 len)
IsLonger B2 width (Bits len value) = (0 < width) × (width < digit_count 2 len)
IsLonger B3 width (Bits len value) = (0 < width) × (width < digit_count 3 len)
IsLonger B4 width (Bits len value) = (0 < width) × (width < digit_count 4 len)
IsLonger F width (Fixed len value) = width < length (signed_decimal value)
IsLonger D width (Span time) = width < length (span_text time)
IsLonger _ _ _ = ⊥

-- the first of the values that are left is longer than the item
abbrev pub IsFirstLonger : ItemCode → ℕ → List Cell → Type 0
IsFirstLonger X width values = ⊥
IsFirstLonger Skip width values = ⊥
IsFirstLonger code width [] = ⊥
IsFirstLonger code width (value ∷ values) = IsLonger code width value

-- some item's text is longer than its width
abbrev pub IsSomeLonger : List Item → List Cell → Type 0
IsSomeLonger [] values = ⊥
IsSomeLonger (item ∷ items) values =
    IsFirstLonger item.code item.width values ⊎ IsSomeLonger items (drop (data_here item.code) values)
