-- What other tokens can spell at names and types, by the first token.
use Rattle.std.proofs.Common.{◌≡◌, ℕ, ◌+◌, ◌-◌, ◌<◌, ◌≤◌, true, false, List}
use Rattle.std.proofs.Common.{sym, ap, ◌∙◌}
use mathlib.Core.Former.{Count}
use Rattle.pearl_tree.specs.declared.typing.Basic.{Basic}
use Rattle.pearl_tree.specs.declared.typing.Basic.TheVariants as basic
use Rattle.pearl_tree.specs.declared.typing.Field.{Field}
use Rattle.pearl_tree.specs.declared.typing.Sort.TheVariants.{Fixed, Bit, Char}
use Rattle.pearl_tree.specs.declared.typing.Typing.{Typing, Row_of-Field, end_of-Field, more_of-Field}
use Rattle.pearl_tree.specs.declared.typing.Typing.{items-the_row-Field}
use Rattle.pearl_tree.specs.declared.typing.Typing as typing
use Rattle.pearl_tree.specs.declared.token.Token.{Token}
use Rattle.pearl_tree.specs.Standing.{what_at, HasWord, HasSymbol, SpellsMore, SpellsList}
use Rattle.pearl_tree.specs.Types.{SpellsBasic, SpellsTyping, SpellsFields}
use Rattle.pearl_tree.specs.Types.{SpellsMoreFields, SpellsField}
use Rattle.pearl_tree.specs.declared.symbol.TheConstants as s
use Rattle.pearl_tree.specs.declared.word_code.TheConstants as w
use Rattle.pearl_tree.specs.Stops.{BeginAlike}
use Rattle.pearl_parse_expr.specs.Stops.{is_word, is_name}
use Rattle.pearl_parse_expr.proofs.Offered.{clash}

module _ (tokens : List Token) where
  only_basic : (depth from : ℕ) → is_name (what_at tokens from) ≡ false →
      is_word w.STRUCT (what_at tokens from) ≡ false →
      (x : Typing) (to : ℕ) → SpellsTyping tokens depth from x to →
      (part : Basic) × SpellsBasic tokens from part to
  only_basic depth from no_name no_struct (typing.Basic part) to h = (part, h)
  only_basic depth from no_name no_struct (typing.Struct' _ fields place) to h =
      absurd (clash _ (ap (is_word w.STRUCT) h.2) no_struct)
  only_basic depth from no_name no_struct (typing.Named name) to h = absurd (clash _ (ap is_name h.0.0) no_name)

  basic_no_name : (from : ℕ) (x : Basic) (to : ℕ) → SpellsBasic tokens from x to →
      is_name (what_at tokens from) ≡ false
  basic_no_name from (basic.Sized sort number place) to h = ap is_name h.1
  basic_no_name from (basic.Clock place) to h = ap is_name h.1
  basic_no_name from (basic.Duration place) to h = ap is_name h.1

  pub only_name : (depth from : ℕ) → is_name (what_at tokens from) ≡ true →
      (x : Typing) (to : ℕ) → SpellsTyping tokens depth from x to → to ≡ from + 1
  only_name depth from name (typing.Basic part) to h = absurd (clash _ name (basic_no_name from part to h))
  only_name depth from name (typing.Struct' _ fields place) to h = absurd (clash _ name (ap is_name h.2))
  only_name depth from name (typing.Named part) to h = h.1

  basic_no_struct : (from : ℕ) (x : Basic) (to : ℕ) → SpellsBasic tokens from x to →
      is_word w.STRUCT (what_at tokens from) ≡ false
  basic_no_struct from (basic.Sized Fixed number place) to h = ap (is_word w.STRUCT) h.1
  basic_no_struct from (basic.Sized Bit number place) to h = ap (is_word w.STRUCT) h.1
  basic_no_struct from (basic.Sized Char number place) to h = ap (is_word w.STRUCT) h.1
  basic_no_struct from (basic.Clock place) to h = ap (is_word w.STRUCT) h.1
  basic_no_struct from (basic.Duration place) to h = ap (is_word w.STRUCT) h.1

  more_fields : (depth from : ℕ) (n : _) (row : Row_of-Field n) (to : ℕ) →
      SpellsMoreFields tokens depth from row to → SpellsMore tokens (SpellsField tokens depth) from
      (items-the_row-Field n row) to
  more_fields depth from _ end_of-Field to h = h
  more_fields depth from _ (more_of-Field names bounds part place rest) to h =
      (h.0, h.1, h.2, more_fields depth h.0 _ rest to h.3)

  fields_list : (depth from : ℕ) (n : _) (row : Row_of-Field n) (to : ℕ) →
      SpellsFields tokens depth from row to → SpellsList tokens (SpellsField tokens depth) from
      (items-the_row-Field n row) to
  fields_list depth from _ end_of-Field to h = h
  fields_list depth from _ (more_of-Field names bounds part place rest) to h =
      (h.0, h.1, more_fields depth h.0 _ rest to h.2)

  abbrev fields_of : Typing → (n : Count) × Row_of-Field n
  fields_of (typing.Struct' _ row _) = (_, row)
  fields_of _ = (_, end_of-Field)

  pub only_struct : (depth from : ℕ) → HasWord tokens from w.STRUCT → (x : Typing) (to : ℕ) →
      SpellsTyping tokens depth from x to →
      (0 < depth) × HasSymbol tokens (from + 1) s.LEFT_SQUARE ×
      ((list : List Field) × (m : ℕ) × SpellsList tokens (SpellsField tokens (depth - 1))
      (from + 2) list m × HasSymbol tokens m s.RIGHT_SQUARE × (to ≡ m + 1))
  only_struct depth from word (typing.Basic part) to h =
      absurd (clash _ (ap (is_word w.STRUCT) word) (basic_no_struct from part to h))
  only_struct depth from word (typing.Struct' n fields place) to h =
      let row = fields_of (typing.Struct' n fields place) in (
        h.3,
        h.4,
        (items-the_row-Field row.0 row.1, h.0, fields_list (depth - 1) (from + 2) row.0 row.1 h.0 h.5, h.6, h.7),
      )
  only_struct depth from word (typing.Named name) to h = absurd (clash _ (ap is_name h.0.0) (ap is_name word))

-- a type that tokens spell which begin alike, with neither a name nor STRUCT
pub basic_of : (tokens others : List Token) (depth from stop : ℕ) → is_name (what_at tokens from) ≡ false →
    is_word w.STRUCT (what_at tokens from) ≡ false → from ≤ stop → BeginAlike tokens others stop →
    (x : Typing) (to : ℕ) → SpellsTyping others depth from x to → (part : Basic) × SpellsBasic others from part to
basic_of tokens others depth from stop no_name no_struct near agree =
    let here = sym (agree from near) in
    only_basic others depth from (ap is_name here ∙ no_name) (ap (is_word w.STRUCT) here ∙ no_struct)

-- a STRUCT that tokens spell which begin alike
pub struct_of : (tokens others : List Token) (depth from stop : ℕ) → HasWord tokens from w.STRUCT →
    from ≤ stop → BeginAlike tokens others stop → (x : Typing) (to : ℕ) →
    SpellsTyping others depth from x to →
    (0 < depth) × HasSymbol others (from + 1) s.LEFT_SQUARE ×
    ((list : List Field) × (m : ℕ) × SpellsList others (SpellsField others (depth - 1))
    (from + 2) list m × HasSymbol others m s.RIGHT_SQUARE × (to ≡ m + 1))
struct_of tokens others depth from stop word near agree =
    only_struct others depth from (sym (agree from near) ∙ word)
