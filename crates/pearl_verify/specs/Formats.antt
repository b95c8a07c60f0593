-- What is kept of each format, so that an instruction that names it needn't look through it again.
use Rattle.std.specs.Prelude.{ℕ, ◌+◌, Bool, true, false, ◌&&◌, nat_le, if◌then◌else◌, List, [], ◌∷◌, ◌++◌}
use Rattle.pearl_value.specs.declared.kind.Kind.{Kind}
use Rattle.pearl_format.specs.declared.item.ItemCode.{ItemCode}
use Rattle.pearl_format.specs.declared.item.ItemCode.TheVariants.{X, Skip}
use Rattle.pearl_format.specs.declared.item.Item.{Item}
use Rattle.pearl_format.specs.Items.{skip_count, data_count, text_width}
use Rattle.pearl_instructions.specs.Offers.{items_suit}
use Rattle.pearl_verify.specs.declared.formats.FormatRow.{FormatRow}

-- the width of an item that takes no value
abbrev pub blank_here : ItemCode → ℕ → ℕ
blank_here X width = skip_count width
blank_here Skip width = skip_count width
blank_here code width = 0

abbrev pub blank_width : List Item → ℕ
blank_width [] = 0
blank_width (item ∷ items) = blank_here item.code item.width + blank_width items

abbrev pub takes_value : ItemCode → Bool
takes_value X = false
takes_value Skip = false
takes_value code = true

-- the items that take a value
abbrev pub value_items : List Item → List Item
value_items [] = []
value_items (item ∷ items) = (if takes_value item.code then item ∷ [] else []) ++ value_items items

abbrev pub format_row : List Item → FormatRow
format_row items = record { count = data_count items; blank = blank_width items; values = value_items items }

-- the items with a value take just these kinds, and with the other items they are at most 1,024 wide
abbrev pub row_fits : FormatRow → List Kind → Bool
row_fits row kinds = items_suit row.values kinds && nat_le (row.blank + text_width row.values kinds) 1024
