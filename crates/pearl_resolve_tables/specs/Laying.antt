-- How a scope's variables lie in leaves and cells, and what their INIT puts into them.
use Rattle.std.specs.Prelude.{ℕ, ◌+◌, ◌-◌, ℤ, pos, neg_ℤ, min, Bool, true, false, ◌==◌, if◌then◌else◌, List, [], ◌∷◌, ◌++◌, length, map, take, drop, Option, Some, None, Result, Ok, Err}
use Rattle.std.specs.List.{flat_map, sum_by}
use Rattle.pearl_value.specs.declared.kind.Kind.{Kind}
use Rattle.pearl_value.specs.declared.kind.Kind.TheVariants as kinds
use Rattle.pearl_value.specs.declared.cell.Cell.{Cell}
use Rattle.pearl_value.specs.declared.cell.Cell.TheVariants.{Fixed, Bits, Chars, Clock, Span}
use Rattle.pearl_value.specs.declared.trap.Trap.{Trap}
use Rattle.pearl_value.specs.Blanks.{blank_of}
use Rattle.pearl_value.specs.Conversions.{converted}
use Rattle.pearl_tree.specs.declared.literal.Sign.{Sign}
use Rattle.pearl_tree.specs.declared.literal.Sign.TheVariants.{Minus}
use Rattle.pearl_tree.specs.Durations.{milliseconds_of}
use Rattle.pearl_tree.specs.ShownLiterals.{ShownLiteral, OfNumber, OfBits, OfText, OfClock, OfDuration, ShownConst}
use Rattle.pearl_names.specs.Layout.{Leaf, elements}
use Rattle.pearl_names.specs.Tables.{Form, Sense, Variable, OwnParameter, leaves_in}
use Rattle.pearl_program.specs.PlainStatements.{PlainValues}
use Rattle.pearl_program.specs.PlainPrograms.{PlainLeaf}

abbrev pub leaves_of_sense : Sense → List Leaf
leaves_of_sense (Variable form inv) = leaves_in form
leaves_of_sense sense = []

-- the form of what a name stands for: only variables have one
abbrev pub form_of_sense : Sense → Option Form
form_of_sense (Variable form inv) = form
form_of_sense sense = None

abbrev pub slots : List Leaf → ℕ
slots leaves = sum_by (λ (leaf : Leaf). elements leaf.bounds) leaves

abbrev pub same_kind : Kind → Kind → Bool
same_kind (kinds.Fixed a) (kinds.Fixed b) = a == b
same_kind (kinds.Bits a) (kinds.Bits b) = a == b
same_kind (kinds.Chars a) (kinds.Chars b) = a == b
same_kind kinds.Clock kinds.Clock = true
same_kind kinds.Span kinds.Span = true
same_kind a b = false

-- two leaves of one kind as one, that of an array with the elements of both
abbrev pub together : Leaf → Leaf → Leaf
together own leaf =
    record { path = []; bounds = (pos 0, pos (elements own.bounds + elements leaf.bounds - 1)) ∷ []; kind = own.kind }

-- a leaf and those behind it, where neighbouring ones of one kind are one leaf
abbrev pub merged_behind : Leaf → List Leaf → List Leaf
merged_behind own [] = own ∷ []
merged_behind own (leaf ∷ rest) =
    if same_kind own.kind leaf.kind then merged_behind (together own leaf) rest else own ∷ merged_behind leaf rest

-- the leaves of a variable, where neighbouring ones of one kind are one leaf
abbrev pub merged : List Leaf → List Leaf
merged [] = []
merged (leaf ∷ rest) = merged_behind leaf rest

-- how many cells a name has in the routine that declares it
abbrev pub cells_of_sense : Sense → ℕ
cells_of_sense (OwnParameter parameter) = 1
cells_of_sense sense = slots (leaves_of_sense sense)

abbrev pub negative_if : Option Sign → ℕ → ℤ
negative_if (Some Minus) n = neg_ℤ (pos n)
negative_if sign n = pos n

-- the value of a constant, in the longest kind that it may have
abbrev pub value_of : ShownConst → Cell
value_of constant = of constant.literal
  where
    of : ShownLiteral → Cell
    of (OfNumber number) = Fixed 63 (negative_if constant.sign number.value)
    of (OfBits len value place) = Bits len value
    of (OfText text place) = Chars (record { items = text })
    of (OfClock milliseconds place) = Clock milliseconds
    of (OfDuration duration) = Span (negative_if constant.sign (milliseconds_of duration))

abbrev pub or_blank : Kind → Result Cell Trap → Cell
or_blank kind (Ok value) = value
or_blank kind (Err trap) = blank_of kind

-- a constant as a value of a slot's kind; one that doesn't fit breaks a rule
abbrev pub constant_in : Kind → ShownConst → Cell
constant_in kind constant = or_blank kind (converted (value_of constant) kind)

abbrev pub values_of_leaf : List ShownConst → Leaf → PlainValues
values_of_leaf constants leaf = record {
  kind = leaf.kind;
  count = elements leaf.bounds;
  constants = map (constant_in leaf.kind) (take (elements leaf.bounds) constants);
}

-- the constants for what comes behind so many slots: the last one stays
abbrev pub left_behind : ℕ → List ShownConst → List ShownConst
left_behind count constants = drop (min count (length constants - 1)) constants

-- a variable's name, and behind points those of the fields
abbrev pub path_name : List ℕ → List (List ℕ) → List ℕ
path_name name path = name ++ flat_map (λ field. 46 ∷ field) path

-- the leaves of one variable, which the constants run over leaf by leaf, element by element
abbrev pub filled_leaves : List ℕ → List ShownConst → List Leaf → List PlainLeaf
filled_leaves name constants [] = []
filled_leaves name constants (leaf ∷ rest) =
    record { name = path_name name leaf.path; values = values_of_leaf constants leaf } ∷
    filled_leaves name (left_behind (elements leaf.bounds) constants) rest

-- what these leaves hold at first, without their names
abbrev pub filled_values : List ShownConst → List Leaf → List PlainValues
filled_values constants leaves = map (λ (leaf : PlainLeaf). leaf.values) (filled_leaves [] constants leaves)
