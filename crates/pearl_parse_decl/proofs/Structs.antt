-- STRUCT, which holds other types, by its rule.
use Rattle.std.proofs.Common.{ℕ, ◌+◌, ◌-◌, ◌<◌, ◌^◌, List, length, refl, sym, subst, ◌∙◌, arith}
use Rattle.pearl_tree.specs.declared.typing.Field.{Field}
use Rattle.pearl_tree.specs.declared.typing.Typing.{Typing}
use Rattle.pearl_tree.specs.declared.typing.Typing as typing_tree
use Rattle.pearl_tree.specs.declared.token.What.TheVariants as what
use Rattle.pearl_tree.specs.declared.token.Token.{Token}
use Rattle.pearl_tree.specs.declared.symbol.TheConstants as s
use Rattle.pearl_tree.specs.declared.word_code.TheConstants as w
use Rattle.pearl_tree.specs.Standing.{HasWord, HasSymbol, SpellsList}
use Rattle.pearl_tree.specs.Types.{SpellsBasic, SpellsTyping, SpellsField}
use Rattle.pearl_tree.proofs.Offered.{spells_struct}
use Rattle.pearl_parse_expr.proofs.Offered.{after_of, list_long, parts_of, placed, word_within}
use Rattle.pearl_grammar.specs.Rules.{One, Listed, Rule, End, Then, word, symbol}
use Rattle.pearl_grammar.specs.Reached.{never}
use Rattle.pearl_grammar.proofs.Offered.{Makes, Left, Facts, field, Walk, opened, token_read}
use Rattle.pearl_parse_decl.specs.Readings.{IsSelfContained}
use Rattle.pearl_parse_decl.proofs.Behind.{Holds, ends_with}
use Rattle.pearl_parse_decl.proofs.Kept.{contained_of}
use Rattle.pearl_parse_decl.proofs.Types.{only_struct}

pub field_is_contained : (depth : ℕ) → IsSelfContained (λ tokens. SpellsField tokens depth)
field_is_contained depth = contained_of 2 (λ tokens. SpellsField tokens depth) (omega arith) (field depth).kept

pub typing_holds : (tokens : List Token) (depth from : ℕ) →
    Holds 16 16 SpellsBasic (λ tokens. SpellsTyping tokens depth) tokens from from
typing_holds tokens depth from =
    ends_with SpellsBasic (λ tokens. SpellsTyping tokens depth) tokens from from (omega arith)
    (λ others stop near long alike x h. (typing_tree.Basic x, h))

-- field { "," field } "]"
abbrev pub fields_rule : ℕ → Rule
fields_rule depth = Then (Listed (One Field (λ tokens. SpellsField tokens depth))) (symbol s.RIGHT_SQUARE End)

abbrev pub fields_facts : (depth : ℕ) → Facts (fields_rule depth)
fields_facts depth = (field depth, (omega arith, tt))

-- STRUCT "[" field { "," field } "]", with so many STRUCTs at most within it
abbrev pub struct_rule : ℕ → Rule
struct_rule depth = word w.STRUCT (symbol s.LEFT_SQUARE (fields_rule depth))

module _ (depth : ℕ) (deep : 0 < depth) where
  struct_made : Makes (λ tokens. SpellsTyping tokens depth) (Left (struct_rule (depth - 1)))
  struct_made others from to small h =
      let at = placed others from (what.Word w.STRUCT) h.1.0 in
      let rest = h.1.1.1 in
      let all = list_long others (SpellsField others (depth - 1))
      (λ at x end g. omega (
        arith,
        after_of 2 (λ tokens. SpellsField tokens (depth - 1)) (field (depth - 1)).kept others at x
            end g,
      )) (from + 1 + 1) h.0.0 rest.0 rest.1 in
      let few : length h.0.0 < 2 ^ 63 = omega (arith, all, rest.2.1, small) in (
        typing_tree.Struct (parts_of h.0.0 few) at.0,
        subst (λ X. X) (sym (spells_struct others depth from (parts_of h.0.0 few) at.0 to)) (
          rest.0,
          at.1,
          h.1.0,
          deep,
          h.1.1.0,
          subst (λ k. SpellsList others (SpellsField others (depth - 1)) k h.0.0 rest.0) (omega arith) rest.1,
          rest.2.0,
          rest.2.1,
        ),
      )

  module _ (tokens : List Token) (from : ℕ) (stands : HasWord tokens from w.STRUCT) (few : length tokens < 2 ^ 55) where
    struct_start : Walk 16 (λ tokens. SpellsTyping tokens depth) tokens from 0 (struct_rule (depth - 1))
        (omega arith, (omega arith, fields_facts (depth - 1))) never from from
    struct_start = opened tt struct_made
        (λ others agree x to h.
        let read = only_struct others depth from (sym (agree from (omega arith)) ∙ stands) x to h in (
          (read.2.0, tt),
          (
            sym (agree from (omega arith)) ∙ stands,
            (
              read.1,
              (
                read.2.1,
                subst (λ k. SpellsList others (SpellsField others (depth - 1)) k read.2.0 read.2.1) (omega arith) read.2.2,
                (read.2.3, read.2.4),
              ),
            ),
          ),
        )) (omega (arith, word_within tokens from w.STRUCT stands)) (omega arith) (omega arith) few (omega arith)

    -- behind STRUCT
    pub struct_begun : Walk 16 (λ tokens. SpellsTyping tokens depth) tokens from 0
        (symbol s.LEFT_SQUARE (fields_rule (depth - 1))) (omega arith, fields_facts (depth - 1)) never (from + 1) from
    struct_begun = token_read struct_start refl stands (word_within tokens from w.STRUCT stands)

    -- and the bracket
    pub struct_opened : HasSymbol tokens (from + 1) s.LEFT_SQUARE → from + 1 < length tokens →
        Walk 16 (λ tokens. SpellsTyping tokens depth) tokens from 0 (fields_rule (depth - 1)) (fields_facts (depth - 1)) never
        (from + 2) from
    struct_opened bracket there = token_read struct_begun (omega arith) bracket there
