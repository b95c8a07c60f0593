-- What the laws of GET's scan say.
use Rattle.std.specs.Prelude.{◌≡◌, ℕ, ◌≤◌, List, ◌++◌, Some, length, map}
use Rattle.std.specs.List.{AllByRecursion, AllZip}
use Rattle.pearl_value.specs.declared.kind.Kind.{Kind}
use Rattle.pearl_value.specs.declared.cell.Cell.{Cell}
use Rattle.pearl_value.specs.Cells.{kind_of}
use Rattle.pearl_value.specs.Kinds.{IsKind}
use Rattle.pearl_value.specs.WellFormed.{IsValue, IsValueOf}
use Rattle.pearl_format.specs.declared.item.ItemCode.{ItemCode}
use Rattle.pearl_format.specs.declared.item.ItemCode.TheVariants.{A, T}
use Rattle.pearl_format.specs.declared.item.Item.{Item}
use Rattle.pearl_format.specs.Bytes.{IsTextByte}
use Rattle.pearl_format.specs.Items.{Suits}
use Rattle.pearl_format.specs.Texts.{text_of}
use Rattle.pearl_rules.specs.Scan.{Scanned, Short, Bad, Got, scan}

-- from bytes of texts and line ends come values of the kinds that the items suit, one for each
abbrev pub ReadsValuesOfKinds : Type 0
ReadsValuesOfKinds =
    (items : List Item) (kinds : List Kind) (bytes : List ℕ) (used : ℕ) (values : List Cell) → Suits items kinds
    → AllByRecursion IsKind kinds → AllByRecursion IsTextByte bytes → scan items kinds bytes ≡ Got used values
    → AllZip IsValueOf kinds values

-- no more bytes are used than there are
abbrev pub IsWithin : (bytes : ℕ) → Scanned → Type 0
IsWithin bytes Short = Unit {0}
IsWithin bytes (Bad used) = used ≤ bytes
IsWithin bytes (Got used values) = used ≤ bytes

abbrev pub UsesNoMore : Type 0
UsesNoMore = (items : List Item) (kinds : List Kind) (bytes : List ℕ) → IsWithin (length bytes) (scan items kinds bytes)

-- what the item writes has all of its value: A may cut a text, or fill it with blanks, and T shows thousandths from a
-- width of 12 on
abbrev pub WritesAll : ItemCode → (width : ℕ) → Type 0
WritesAll A width = ⊥
WritesAll T width = 12 ≤ width
WritesAll code width = Unit {0}

abbrev pub IsWhole : Item → Type 0
IsWhole item = WritesAll item.code item.width

-- what PUT writes by such items, GET reads as the same values by the same items, whatever stands behind it
abbrev pub ReadsWhatIsWritten : Type 0
ReadsWhatIsWritten =
    (items : List Item) (values : List Cell) (text rest : List ℕ) → Suits items (map kind_of values)
    → AllByRecursion IsWhole items → AllByRecursion IsValue values → text_of items values ≡ Some text
    → scan items (map kind_of values) (text ++ rest) ≡ Got (length text) values
