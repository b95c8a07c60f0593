-- Which format items suit which kinds, and how much they count.
use Rattle.std.specs.Prelude.{ℕ, ◌+◌, ◌<◌, ◌≤◌, List, [], ◌∷◌, drop, length, Option, Some, None}
use Rattle.std.specs.List.{AllByRecursion}
use Rattle.pearl_value.specs.declared.kind.Kind.{Kind}
use Rattle.pearl_value.specs.declared.kind.Kind.TheVariants.{Fixed, Bits, Chars, Clock, Span}
use Rattle.pearl_format.specs.declared.item.ItemCode.{ItemCode}
use Rattle.pearl_format.specs.declared.item.ItemCode.TheVariants.{A, B1, B2, B3, B4, F, T, D, X, Skip}
use Rattle.pearl_format.specs.declared.item.Item.{Item}
use Rattle.pearl_format.specs.Fields.{width_or, digit_count}

-- how many bytes X and SKIP write: as many as they say, and one where they have no width
abbrev pub skip_count : ℕ → ℕ
skip_count width = width_or width 1

-- how many values an item takes: X and SKIP none, each other one
abbrev pub data_here : ItemCode → ℕ
data_here X = 0
data_here Skip = 0
data_here code = 1

-- how many of the items take a value
abbrev pub data_count : List Item → ℕ
data_count [] = 0
data_count (item ∷ items) = data_here item.code + data_count items

-- the width of A over these kinds: without one, the length of the text
abbrev pub letters_width : ℕ → List Kind → ℕ
letters_width width (Chars len ∷ kinds) = width_or width len
letters_width width kinds = width

-- the width of B over these kinds: without one, the number of the digits
abbrev pub bits_width : ℕ → ℕ → List Kind → ℕ
bits_width group width (Bits len ∷ kinds) = width_or width (digit_count group len)
bits_width group width kinds = width

-- the width of an item over the kinds that are left
abbrev pub width_over : ItemCode → ℕ → List Kind → ℕ
width_over A width kinds = letters_width width kinds
width_over B1 width kinds = bits_width 1 width kinds
width_over B2 width kinds = bits_width 2 width kinds
width_over B3 width kinds = bits_width 3 width kinds
width_over B4 width kinds = bits_width 4 width kinds
width_over F width kinds = width
width_over T width kinds = width
width_over D width kinds = width
width_over X width kinds = skip_count width
width_over Skip width kinds = skip_count width

-- the sum of the items' widths over these kinds
abbrev pub text_width : List Item → List Kind → ℕ
text_width [] kinds = 0
text_width (item ∷ items) kinds =
    width_over item.code item.width kinds + text_width items (drop (data_here item.code) kinds)

-- the widths that an item may have: F and D have one, and T has at least room for hours, minutes and seconds
abbrev pub HasWidth : ItemCode → ℕ → Type 0
HasWidth F width = 0 < width
HasWidth T width = 8 ≤ width
HasWidth D width = 0 < width
HasWidth code width = Unit {0}

-- the width suits the code, and is at most 255
abbrev pub IsItem : Item → Type 0
IsItem item = HasWidth item.code item.width × (item.width ≤ 255)

-- how many values the items take and how long their text gets is asked only of the PUT or GET that names the format
abbrev pub IsFormat : List Item → Type 0
IsFormat items = AllByRecursion IsItem items

-- an item takes a value of its kind
abbrev pub TakesKind : ItemCode → ℕ → Kind → Type 0
TakesKind A width (Chars len) = HasWidth A width
TakesKind B1 width (Bits len) = HasWidth B1 width
TakesKind B2 width (Bits len) = HasWidth B2 width
TakesKind B3 width (Bits len) = HasWidth B3 width
TakesKind B4 width (Bits len) = HasWidth B4 width
TakesKind F width (Fixed len) = HasWidth F width
TakesKind T width Clock = HasWidth T width
TakesKind D width Span = HasWidth D width
TakesKind _ _ _ = ⊥

-- one item takes the kinds that it suits from the front; `rest` is asked of the others
abbrev pub SuitsItem : ItemCode → ℕ → List Kind → (List Kind → Type 0) → Type 0
SuitsItem X width kinds rest = rest kinds
SuitsItem Skip width kinds rest = rest kinds
SuitsItem code width [] rest = ⊥
SuitsItem code width (kind ∷ kinds) rest = TakesKind code width kind × rest kinds

abbrev pub IsNoKind : List Kind → Type 0
IsNoKind [] = Unit {0}
IsNoKind (kind ∷ kinds) = ⊥

-- the items take just these kinds, in order
abbrev pub Suits : List Item → List Kind → Type 0
Suits [] kinds = IsNoKind kinds
Suits (item ∷ items) kinds = SuitsItem item.code item.width kinds (λ rest. Suits items rest)

-- the items suit the values' kinds, at most 64, and their widths are at most 1,024 together
pub record FitsFormat (items : List Item) (kinds : List Kind) : Type 0 where
  pub suits : Suits items kinds
  pub few : length kinds ≤ 64
  pub short : text_width items kinds ≤ 1024

abbrev pub FitsSome : Option (List Item) → List Kind → Type 0
FitsSome None kinds = ⊥
FitsSome (Some items) kinds = FitsFormat items kinds
