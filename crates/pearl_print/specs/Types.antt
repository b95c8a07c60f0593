-- The tokens of names, bounds and types.
use Rattle.std.specs.Prelude.{Bool, true, false, List, [], ◌++◌}
use Rattle.pearl_tree.specs.declared.name.Names.{Names}
use Rattle.pearl_tree.specs.declared.name.Names.TheVariants.{One, Several}
use Rattle.pearl_tree.specs.declared.typing.Int.{Int}
use Rattle.pearl_tree.specs.declared.typing.Bound.{Bound}
use Rattle.pearl_tree.specs.declared.typing.Basic.{Basic}
use Rattle.pearl_tree.specs.declared.typing.Basic.TheVariants as basic
use Rattle.pearl_tree.specs.declared.typing.Typing.{Typing, Row_of-Field, end_of-Field, more_of-Field}
use Rattle.pearl_tree.specs.declared.typing.Typing as typing
use Rattle.pearl_tree.specs.declared.typing.Field.{Field}
use Rattle.pearl_tree.specs.declared.token.What.{What}
use Rattle.pearl_tree.specs.Types.{sort_word}
use Rattle.pearl_tree.specs.declared.symbol.TheConstants as s
use Rattle.pearl_tree.specs.declared.word_code.TheConstants as w
use Rattle.pearl_print.specs.Lists.{word, symbol, name_tokens, number_tokens, listed, bracketed, maybe_bracketed, maybe, bracketed_number}

-- names = id | "(" id { "," id } ")"
abbrev pub names_tokens : Names → List What
names_tokens (One name) = name_tokens name
names_tokens (Several names place) = bracketed name_tokens names.items.items

-- [ "-" ]
abbrev pub minus_tokens : Bool → List What
minus_tokens false = []
minus_tokens true = symbol s.MINUS

-- int = [ "-" ] number
abbrev pub int_tokens : Int → List What
int_tokens int = minus_tokens int.minus ++ number_tokens int.number

-- ":" int
abbrev pub upper_tokens : Int → List What
upper_tokens int = symbol s.COLON ++ int_tokens int

-- bound = int [ ":" int ]
abbrev pub bound_tokens : Bound → List What
bound_tokens bound = int_tokens bound.first ++ maybe upper_tokens bound.second

-- bounds = "(" bound { "," bound } ")"
abbrev pub bounds_tokens : List Bound → List What
bounds_tokens bounds = maybe_bracketed bound_tokens bounds

-- basic = ( FIXED | BIT | CHAR ) [ "(" number ")" ] | CLOCK | DURATION
abbrev pub basic_tokens : Basic → List What
basic_tokens (basic.Sized sort number place) = word (sort_word sort) ++ maybe bracketed_number number
basic_tokens (basic.Clock place) = word w.CLOCK
basic_tokens (basic.Duration place) = word w.DURATION

abbrev mutual
  -- type = basic | STRUCT "[" field { "," field } "]" | id
  pub typing_tokens : Typing → List What
  typing_tokens (typing.Basic part) = basic_tokens part
  typing_tokens (typing.Struct' _ fields place) =
      word w.STRUCT ++ symbol s.LEFT_SQUARE ++ fields_tokens fields ++ symbol s.RIGHT_SQUARE
  typing_tokens (typing.Named name) = name_tokens name

  -- field { "," field }, field = names [ bounds ] type
  pub fields_tokens : {n : _} → Row_of-Field n → List What
  fields_tokens end_of-Field = []
  fields_tokens (more_of-Field names bounds part place rest) =
      (names_tokens names ++ bounds_tokens bounds.items.items ++ typing_tokens part) ++ more_fields_tokens rest

  -- { "," field }
  pub more_fields_tokens : {n : _} → Row_of-Field n → List What
  more_fields_tokens end_of-Field = []
  more_fields_tokens (more_of-Field names bounds part place rest) =
      (symbol s.COMMA ++ names_tokens names ++ bounds_tokens bounds.items.items ++ typing_tokens part) ++ more_fields_tokens rest

-- field = names [ bounds ] type
abbrev pub field_tokens : Field → List What
field_tokens field = names_tokens field.names ++ bounds_tokens field.bounds.items.items ++ typing_tokens field.typing

-- STRUCT "[" field { "," field } "]"
abbrev pub struct_tokens : List Field → List What
struct_tokens fields = word w.STRUCT ++ symbol s.LEFT_SQUARE ++ listed field_tokens fields ++ symbol s.RIGHT_SQUARE
