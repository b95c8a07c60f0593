-- The text that PUT writes by a list of items.
use Rattle.std.specs.Prelude.{ℕ, List, [], ◌∷◌, ◌++◌, Option, Some, None, drop}
use Rattle.pearl_value.specs.declared.cell.Cell.{Cell}
use Rattle.pearl_format.specs.declared.item.Item.{Item}
use Rattle.pearl_format.specs.Items.{data_here}
use Rattle.pearl_format.specs.Parts.{own_text}

abbrev pub joined_text : Option (List ℕ) → Option (List ℕ) → Option (List ℕ)
joined_text None rest = None
joined_text (Some text) None = None
joined_text (Some text) (Some rest) = Some (text ++ rest)

-- the text of the items over these values, each over those that the items before it left; none where a value doesn't fit
-- its item
abbrev pub text_of : List Item → List Cell → Option (List ℕ)
text_of [] values = Some []
text_of (item ∷ items) values =
    joined_text (own_text item.code item.width values) (text_of items (drop (data_here item.code) values))
