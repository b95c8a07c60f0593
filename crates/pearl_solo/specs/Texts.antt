-- Which operands make the text of a format.
use Rattle.std.specs.Prelude.{ℕ, ◌≤◌, List, Option, Some, None, length, map, take, reverse, All}
use Rattle.pearl_value.specs.declared.cell.Cell.{Cell}
use Rattle.pearl_value.specs.Cells.{kind_of}
use Rattle.pearl_value.specs.WellFormed.{IsValue}
use Rattle.pearl_value.specs.declared.trap.Trap.TheVariants.{Format}
use Rattle.pearl_format.specs.declared.item.Item.{Item}
use Rattle.pearl_format.specs.Items.{Suits, data_count, text_width}
use Rattle.pearl_rules.specs.declared.action.Action.{Action}
use Rattle.pearl_rules.specs.declared.action.Action.TheVariants.{Put, Trap}

-- values of the items' kinds, whose text is short
pub record HasText (items : List Item) (values : List Cell) : Type 0 where
  pub suits : Suits items (map kind_of values)
  pub are : All IsValue values
  pub short : text_width items (map kind_of values) ≤ 1024

-- the top operands are such values, at most 64
abbrev pub MakesText : Option (List Item) → List Cell → Type 0
MakesText None operands = ⊥
MakesText (Some items) operands =
    (data_count items ≤ 64) × (data_count items ≤ length operands) × HasText items (reverse (take (data_count items) operands))

-- what a Put offers: its text, or the trap where there is none
abbrev pub text_offered : ℕ → Option (List ℕ) → Action
text_offered device None = Trap Format
text_offered device (Some text) = Put device (record { items = text })
