-- Which items a format may have for its values or targets.
use Rattle.std.specs.Prelude.{ℕ, ◌+◌, ◌==◌, Bool, true, false, ◌&&◌, ◌||◌, not, nat_le, nat_lt, if◌then◌else◌, List, [], ◌∷◌, ◌++◌, length, map, drop, Option, Some, None, filter}
use Rattle.std.specs.Int.{div_ceil}
use Rattle.pearl_value.specs.declared.kind.Kind.{Kind}
use Rattle.pearl_value.specs.declared.kind.Kind.TheVariants.{Fixed, Bits, Chars, Clock, Span}
use Rattle.pearl_tree.specs.declared.fault.RuleFault.{RuleFault}
use Rattle.pearl_tree.specs.declared.format.FreeCode.{FreeCode}
use Rattle.pearl_tree.specs.declared.format.FreeCode.TheVariants.{A, B, B1, B2, B3, B4, X, Skip}
use Rattle.pearl_tree.specs.declared.format.WideCode.{WideCode}
use Rattle.pearl_tree.specs.declared.format.WideCode.TheVariants.{F, T, D}
use Rattle.pearl_tree.specs.declared.format.Fmt.{Fmt}
use Rattle.pearl_tree.specs.declared.format.Fmt.TheVariants.{Free, Wide}
use Rattle.pearl_tree.specs.declared.rule.TheConstants as rule
use Rattle.pearl_tree.specs.Faults.{fault_if}
use Rattle.pearl_tree.specs.ShownStatements.{ShownStmt, OfPut, OfGet}
use Rattle.pearl_names.specs.Tables.{Table}
use Rattle.pearl_check.specs.declared.limit.TheConstants as limit
use Rattle.pearl_check.specs.Views.{value_kind, target_kind}

abbrev pub place_of_item : Fmt → ℕ
place_of_item (Free code width place) = place
place_of_item (Wide code width place) = place

-- a data item stands for a value or a target: any but X and SKIP
abbrev pub is_data : Fmt → Bool
is_data (Free X width place) = false
is_data (Free Skip width place) = false
is_data item = true

-- the kinds that a data item is for
abbrev pub is_free_for : FreeCode → Kind → Bool
is_free_for A (Chars len) = true
is_free_for B (Bits len) = true
is_free_for B1 (Bits len) = true
is_free_for B2 (Bits len) = true
is_free_for B3 (Bits len) = true
is_free_for B4 (Bits len) = true
is_free_for code kind = false

abbrev pub is_wide_for : WideCode → Kind → Bool
is_wide_for F (Fixed len) = true
is_wide_for T Clock = true
is_wide_for D Span = true
is_wide_for code kind = false

abbrev pub is_for : Fmt → Kind → Bool
is_for (Free code width place) kind = is_free_for code kind
is_for (Wide code width place) kind = is_wide_for code kind

-- the least width: T has at least room for hours, minutes and seconds
abbrev pub least_width : WideCode → ℕ
least_width T = 8
least_width code = 1

abbrev pub has_width : Fmt → Bool
has_width (Free code None place) = true
has_width (Free code (Some width) place) = nat_le 1 width.value && nat_le width.value limit.WIDTH_MAX
has_width (Wide code width place) = nat_le (least_width code) width.value && nat_le width.value limit.WIDTH_MAX

-- the length of a value of this kind, or the number of its digits
abbrev pub length_by : FreeCode → Kind → ℕ
length_by A (Chars len) = len
length_by B (Bits len) = len
length_by B1 (Bits len) = len
length_by B2 (Bits len) = div_ceil len 2
length_by B3 (Bits len) = div_ceil len 3
length_by B4 (Bits len) = div_ceil len 4
length_by code kind = 0

-- the width that an item without one counts for; where the kind is missing, or another, none
abbrev pub own_width : FreeCode → Option Kind → ℕ
own_width X kind = 1
own_width Skip kind = 1
own_width code None = 0
own_width code (Some kind) = length_by code kind

abbrev pub counted_width : Fmt → Option Kind → ℕ
counted_width (Free code None place) kind = own_width code kind
counted_width (Free code (Some width) place) kind = width.value
counted_width (Wide code width place) kind = width.value

abbrev pub first_kind : List (Option Kind) → Option Kind
first_kind [] = None
first_kind (kind ∷ kinds) = kind

-- the kind of what an item stands for, of the values or targets that are left
abbrev pub kind_for : Fmt → List (Option Kind) → Option Kind
kind_for item kinds = if is_data item then first_kind kinds else None

abbrev pub left_by : Fmt → List (Option Kind) → List (Option Kind)
left_by item kinds = if is_data item then drop 1 kinds else kinds

abbrev pub is_for_other : Fmt → Option Kind → Bool
is_for_other item None = false
is_for_other item (Some kind) = not (is_for item kind)

-- an item is for another kind than that of its value or target, or has a width out of range
abbrev pub item_faults : List Fmt → List (Option Kind) → List RuleFault
item_faults [] kinds = []
item_faults (item ∷ items) kinds =
    fault_if (is_for_other item (kind_for item kinds) || not (has_width item)) (place_of_item item) rule.S33 ++
    item_faults items (left_by item kinds)

-- the widths together
abbrev pub sum_of_widths : List Fmt → List (Option Kind) → ℕ
sum_of_widths [] kinds = 0
sum_of_widths (item ∷ items) kinds = counted_width item (kind_for item kinds) + sum_of_widths items (left_by item kinds)

abbrev pub data_count : List Fmt → ℕ
data_count items = length (filter is_data items)

-- there are not as many data items as values or targets, or too many, or the widths are too much together
abbrev pub is_ill_sized : List Fmt → List (Option Kind) → Bool
is_ill_sized items kinds =
    not (data_count items == length kinds) ||
    (nat_lt limit.DATA_MAX (data_count items) || nat_lt limit.FORMAT_MAX (sum_of_widths items kinds))

abbrev pub format_faults : ℕ → List Fmt → List (Option Kind) → List RuleFault
format_faults place items kinds = item_faults items kinds ++ fault_if (is_ill_sized items kinds) place rule.S33

-- S33: items don't suit what they stand for, or are too many or too wide
abbrev pub s33 : Table → (scope : ℕ) → ShownStmt → List RuleFault
s33 table scope (OfPut values dation formats place) = format_faults place formats (map (value_kind table scope) values)
s33 table scope (OfGet targets dation formats place) = format_faults place formats (map (target_kind table scope) targets)
s33 table scope statement = []
