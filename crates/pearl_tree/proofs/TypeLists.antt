-- What a STRUCT spells, told by the list of its fields.
use Rattle.std.proofs.Common.{◌≡◌, ℕ, ◌+◌, ◌-◌, ◌<◌, List, refl, ap, ◌∙◌}
use mathlib.Core.Former.{Count}
use Rattle.pearl_tree.specs.declared.parts.Parts.{Parts}
use Rattle.pearl_tree.specs.declared.typing.Field.{Field}
use Rattle.pearl_tree.specs.declared.typing.Typing.{Typing, Struct, Struct', Row_of-Field, end_of-Field, more_of-Field, items-the_row-Field, items_hidden-the_row-Field-0}
use Rattle.pearl_tree.specs.declared.token.Token.{Token}
use Rattle.pearl_tree.specs.Standing.{IsAt, HasWord, HasSymbol, SpellsMore, SpellsList}
use Rattle.pearl_tree.specs.Types.{SpellsTyping, SpellsFields, SpellsMoreFields, SpellsField}
use Rattle.pearl_tree.specs.declared.symbol.TheConstants as s
use Rattle.pearl_tree.specs.declared.word_code.TheConstants as w

module _ (tokens : List Token) where
  more_fields : (depth from : ℕ) (n : _) (row : Row_of-Field n) (to : ℕ) →
      SpellsMoreFields tokens depth from row to ≡
      SpellsMore tokens (SpellsField tokens depth) from (items-the_row-Field n row) to
  more_fields depth from _ end_of-Field to = refl
  more_fields depth from _ (more_of-Field names bounds typing place rest) to =
      let field : Field = record { names = names; bounds = bounds; typing = typing; place = place } in
      λ i. (m : ℕ) × HasSymbol tokens from s.COMMA × SpellsField tokens depth (from + 1) field m ×
      more_fields depth m _ rest to i

  fields_list : (depth from : ℕ) (n : _) (row : Row_of-Field n) (to : ℕ) →
      SpellsFields tokens depth from row to ≡
      SpellsList tokens (SpellsField tokens depth) from (items-the_row-Field n row) to
  fields_list depth from _ end_of-Field to = refl
  fields_list depth from _ (more_of-Field names bounds typing place rest) to =
      let field : Field = record { names = names; bounds = bounds; typing = typing; place = place } in
      λ i. (m : ℕ) × SpellsField tokens depth from field m × more_fields depth m _ rest to i

  abbrev fields_of : Typing → (n : Count) × Row_of-Field n
  fields_of (Struct' _ row _) = (_, row)
  fields_of _ = (_, end_of-Field)

  -- STRUCT "[" field { "," field } "]"
  pub spells_struct : (depth from : ℕ) (fields : Parts Field) (place to : ℕ) →
      SpellsTyping tokens depth from (Struct fields place) to ≡
      ((m : ℕ) × IsAt tokens from place × HasWord tokens from w.STRUCT × (0 < depth) ×
      HasSymbol tokens (from + 1) s.LEFT_SQUARE ×
      SpellsList tokens (SpellsField tokens (depth - 1)) (from + 2) fields.items.items m ×
      HasSymbol tokens m s.RIGHT_SQUARE × (to ≡ m + 1))
  spells_struct depth from fields place to =
      let row = fields_of (Struct fields place) in
      λ i. (m : ℕ) × IsAt tokens from place × HasWord tokens from w.STRUCT × (0 < depth) ×
      HasSymbol tokens (from + 1) s.LEFT_SQUARE ×
      (fields_list (depth - 1) (from + 2) row.0 row.1 m ∙
      ap (λ xs. SpellsList tokens (SpellsField tokens (depth - 1)) (from + 2) xs m) (items_hidden-the_row-Field-0 fields.items)) i ×
      HasSymbol tokens m s.RIGHT_SQUARE × (to ≡ m + 1)
