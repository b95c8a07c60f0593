-- Which tokens names, bounds and types spell.
use Rattle.std.specs.Prelude.{◌≡◌, ℕ, ◌+◌, ◌-◌, ◌<◌, List}
use Rattle.pearl_tree.specs.declared.name.Names.{Names}
use Rattle.pearl_tree.specs.declared.name.Names.TheVariants.{One, Several}
use Rattle.pearl_tree.specs.declared.typing.Int.{Int}
use Rattle.pearl_tree.specs.declared.typing.Bound.{Bound}
use Rattle.pearl_tree.specs.declared.typing.Sort.{Sort}
use Rattle.pearl_tree.specs.declared.typing.Sort.TheVariants.{Fixed, Bit, Char}
use Rattle.pearl_tree.specs.declared.typing.Basic.{Basic}
use Rattle.pearl_tree.specs.declared.typing.Basic.TheVariants as basic
use Rattle.pearl_tree.specs.declared.typing.Typing.{Typing}
use Rattle.pearl_tree.specs.declared.typing.Typing as typing
use Rattle.pearl_tree.specs.declared.typing.Typing.{Row_of-Field, end_of-Field, more_of-Field}
use Rattle.pearl_tree.specs.declared.typing.Field.{Field}
use Rattle.pearl_tree.specs.declared.parts.Parts.{Parts}
use Rattle.pearl_tree.specs.declared.token.Token.{Token}
use Rattle.pearl_tree.specs.declared.limit.TheConstants as limit
use Rattle.pearl_tree.specs.Standing.{Spelling, IsAt, HasWord, HasSymbol, IsNumber, SpellsName, SpellsMaybe, SpellsBracketed, SpellsMaybeBracketed, SpellsBracketedNumber, SpellsSymbolFlag}
use Rattle.pearl_tree.specs.declared.symbol.TheConstants as s
use Rattle.pearl_tree.specs.declared.word_code.TheConstants as w

-- names = id | "(" id { "," id } ")"
abbrev pub SpellsNames : List Token → Spelling Names
SpellsNames tokens from (One name) to = SpellsName tokens from name to
SpellsNames tokens from (Several names place) to =
    IsAt tokens from place × SpellsBracketed tokens (SpellsName tokens) from names.items.items to

-- int = [ "-" ] number
abbrev pub SpellsInt : List Token → Spelling Int
SpellsInt tokens from int to =
    (m : ℕ) × IsAt tokens from int.place × SpellsSymbolFlag tokens s.MINUS from int.minus m ×
    IsNumber tokens m int.number × (to ≡ m + 1)

-- ":" int
abbrev pub SpellsUpper : List Token → Spelling Int
SpellsUpper tokens from int to = HasSymbol tokens from s.COLON × SpellsInt tokens (from + 1) int to

-- bound = int [ ":" int ]
abbrev pub SpellsBound : List Token → Spelling Bound
SpellsBound tokens from bound to =
    (m : ℕ) × IsAt tokens from bound.place × SpellsInt tokens from bound.first m ×
    SpellsMaybe (SpellsUpper tokens) m bound.second to

-- [ bounds ], bounds = "(" bound { "," bound } ")"
abbrev pub SpellsBounds : List Token → Spelling (Parts Bound)
SpellsBounds tokens from bounds to = SpellsMaybeBracketed tokens (SpellsBound tokens) from bounds.items.items to

-- FIXED | BIT | CHAR
abbrev pub sort_word : Sort → ℕ
sort_word Fixed = w.FIXED
sort_word Bit = w.BIT
sort_word Char = w.CHAR

-- basic = ( FIXED | BIT | CHAR ) [ "(" number ")" ] | CLOCK | DURATION
abbrev pub SpellsBasic : List Token → Spelling Basic
SpellsBasic tokens from (basic.Sized sort number place) to =
    IsAt tokens from place × HasWord tokens from (sort_word sort) ×
    SpellsMaybe (SpellsBracketedNumber tokens) (from + 1) number to
SpellsBasic tokens from (basic.Clock place) to =
    IsAt tokens from place × HasWord tokens from w.CLOCK × (to ≡ from + 1)
SpellsBasic tokens from (basic.Duration place) to =
    IsAt tokens from place × HasWord tokens from w.DURATION × (to ≡ from + 1)

-- `depth` is the number of STRUCTs that may still stand within one another
abbrev mutual
  -- type = basic | STRUCT "[" field { "," field } "]" | id
  pub SpellsTyping : List Token → ℕ → ℕ → Typing → ℕ → Type 0
  SpellsTyping tokens depth from (typing.Basic part) to = SpellsBasic tokens from part to
  SpellsTyping tokens depth from (typing.Struct' _ fields place) to =
      (m : ℕ) × IsAt tokens from place × HasWord tokens from w.STRUCT × (0 < depth) ×
      HasSymbol tokens (from + 1) s.LEFT_SQUARE × SpellsFields tokens (depth - 1) (from + 2) fields m ×
      HasSymbol tokens m s.RIGHT_SQUARE × (to ≡ m + 1)
  SpellsTyping tokens depth from (typing.Named name) to = SpellsName tokens from name to

  -- field { "," field }, field = names [ bounds ] type
  pub SpellsFields : {n : _} → List Token → ℕ → ℕ → Row_of-Field n → ℕ → Type 0
  SpellsFields tokens depth from end_of-Field to = ⊥
  SpellsFields tokens depth from (more_of-Field names bounds part place rest) to =
      (m : ℕ) ×
      ((a : ℕ) × (b : ℕ) × IsAt tokens from place × SpellsNames tokens from names a ×
      SpellsBounds tokens a bounds b × SpellsTyping tokens depth b part m) ×
      SpellsMoreFields tokens depth m rest to

  -- { "," field }
  pub SpellsMoreFields : {n : _} → List Token → ℕ → ℕ → Row_of-Field n → ℕ → Type 0
  SpellsMoreFields tokens depth from end_of-Field to = to ≡ from
  SpellsMoreFields tokens depth from (more_of-Field names bounds part place rest) to =
      (m : ℕ) × HasSymbol tokens from s.COMMA ×
      ((a : ℕ) × (b : ℕ) × IsAt tokens (from + 1) place × SpellsNames tokens (from + 1) names a ×
      SpellsBounds tokens a bounds b × SpellsTyping tokens depth b part m) ×
      SpellsMoreFields tokens depth m rest to

-- field = names [ bounds ] type
abbrev pub SpellsField : List Token → ℕ → Spelling Field
SpellsField tokens depth from field to =
    (a : ℕ) × (b : ℕ) × IsAt tokens from field.place × SpellsNames tokens from field.names a ×
    SpellsBounds tokens a field.bounds b × SpellsTyping tokens depth b field.typing to

-- a type that stands in no other
abbrev pub SpellsWholeTyping : List Token → Spelling Typing
SpellsWholeTyping tokens from part to = SpellsTyping tokens limit.STRUCTS_MAX from part to
