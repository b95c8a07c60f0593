-- The lengths of FIXED, BIT and CHAR: which there are, and which one holds where none is written.
use Rattle.std.specs.Prelude.{ℕ, Bool, true, false, ◌&&◌, nat_le, if◌then◌else◌, List, [], ◌∷◌, Option, Some, None}
use Rattle.std.specs.List.{flat_map}
use Rattle.pearl_value.specs.declared.kind.Kind.{Kind}
use Rattle.pearl_value.specs.declared.kind.Kind.TheVariants as kind
use Rattle.pearl_tree.specs.declared.typing.Sort.{Sort}
use Rattle.pearl_tree.specs.declared.typing.Sort.TheVariants.{Fixed, Bit, Char}
use Rattle.pearl_tree.specs.declared.typing.Basic.{Basic}
use Rattle.pearl_tree.specs.declared.typing.Basic.TheVariants.{Sized, Clock, Duration}
use Rattle.pearl_tree.specs.ShownModules.{ShownDecl, OfLength}
use Rattle.pearl_names.specs.declared.length.DefaultLength.{DefaultLength}

abbrev pub longest : Sort → ℕ
longest Fixed = 63
longest Bit = 64
longest Char = 255

-- FIXED has 1 to 63 binary digits, BIT 1 to 64 bits, CHAR 1 to 255 characters
abbrev pub is_length : Sort → ℕ → Bool
is_length sort n = nat_le 1 n && nat_le n (longest sort)

abbrev pub kind_of_length : Sort → ℕ → Kind
kind_of_length Fixed len = kind.Fixed len
kind_of_length Bit len = kind.Bits len
kind_of_length Char len = kind.Chars len

abbrev pub is_same_sort : Sort → Sort → Bool
is_same_sort Fixed Fixed = true
is_same_sort Bit Bit = true
is_same_sort Char Char = true
is_same_sort _ _ = false

-- where no LENGTH stands before
abbrev pub first_length : Sort → ℕ
first_length Fixed = 31
first_length Bit = 1
first_length Char = 1

-- what a declaration sets: LENGTH with a number that is none changes nothing
abbrev pub length_set : ShownDecl → List DefaultLength
length_set (OfLength sort number place) =
    if is_length sort number.value then record { place = place; sort = sort; len = number.value } ∷ [] else []
length_set decl = []

-- the default lengths, in order of their places
abbrev pub lengths_set : List ShownDecl → List DefaultLength
lengths_set declarations = flat_map length_set declarations

abbrev pub holds_at : DefaultLength → Sort → ℕ → Bool
holds_at default sort place = is_same_sort default.sort sort && nat_le default.place place

-- the last one that is set at or before a place, or else this one
abbrev pub last_length : ℕ → List DefaultLength → Sort → ℕ → ℕ
last_length len [] sort place = len
last_length len (default ∷ rest) sort place = last_length (if holds_at default sort place then default.len else len) rest sort place

abbrev pub length_at : List DefaultLength → Sort → ℕ → ℕ
length_at lengths sort place = last_length (first_length sort) lengths sort place

-- the kind of a basic type; a length out of range gives none
abbrev pub kind_of_basic : List DefaultLength → Basic → Option Kind
kind_of_basic lengths (Sized sort None place) = Some (kind_of_length sort (length_at lengths sort place))
kind_of_basic lengths (Sized sort (Some number) place) =
    if is_length sort number.value then Some (kind_of_length sort number.value) else None
kind_of_basic lengths (Clock place) = Some kind.Clock
kind_of_basic lengths (Duration place) = Some kind.Span
