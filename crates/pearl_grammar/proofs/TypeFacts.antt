-- Types, and declarations that have them: the facts of their parts, and what follows of each.
use Rattle.std.proofs.Common.{◌≡◌, ℕ, ◌+◌, ◌-◌, ◌<◌, ◌≤◌, ◌^◌, ◌⊎◌, inl, inr, true, false, List, [], ◌∷◌, length}
use Rattle.std.proofs.Common.{Some, refl, sym, ap, ◌∙◌, arith}
use Rattle.pearl_tree.specs.declared.name.Names.{Names}
use Rattle.pearl_tree.specs.declared.parts.Parts.{Parts}
use Rattle.pearl_tree.specs.declared.typing.Bound.{Bound}
use Rattle.pearl_tree.specs.declared.typing.Typing.{Typing, Row_of-Field, end_of-Field, more_of-Field}
use Rattle.pearl_tree.specs.declared.typing.Typing as typing_tree
use Rattle.pearl_tree.specs.declared.declaration.Item.{Item}
use Rattle.pearl_tree.specs.declared.declaration.Sema.{Sema}
use Rattle.pearl_tree.specs.declared.declaration.Declared.{Declared}
use Rattle.pearl_tree.specs.declared.declaration.Declared.TheVariants as declared_tree
use Rattle.pearl_tree.specs.declared.tree.Decl.{Decl}
use Rattle.pearl_tree.specs.declared.tree.Decl.TheVariants as decl
use Rattle.pearl_tree.specs.declared.token.What.TheVariants as what
use Rattle.pearl_tree.specs.declared.token.Token.{Token}
use Rattle.pearl_tree.specs.declared.limit.TheConstants as limit
use Rattle.pearl_tree.specs.declared.word_code.TheConstants as w
use Rattle.pearl_tree.specs.Standing.{what_at, IsAt, HasWord, SpellsNumber}
use Rattle.pearl_tree.specs.Expressions.{SpellsConst}
use Rattle.pearl_tree.specs.Types.{SpellsNames, SpellsBounds, SpellsBasic, SpellsTyping, SpellsFields, SpellsMoreFields}
use Rattle.pearl_tree.specs.Types.{SpellsField, SpellsWholeTyping}
use Rattle.pearl_tree.specs.Declarations.{SpellsItem, SpellsSema, SpellsDeclared, SpellsSpec}
use Rattle.pearl_tree.specs.Modules.{SpellsDecl}
use Rattle.pearl_parse_expr.specs.Stops.{is_word}
use Rattle.pearl_parse_expr.specs.Least.{AlikeBefore}
use Rattle.pearl_parse_expr.proofs.Offered as local
use Rattle.pearl_parse_expr.proofs.Offered.{Kept, after_of, list_long, parts_of, clash, word_within}
use Rattle.pearl_grammar.specs.Rules.{First, Second, Rule, End, Mark, Then, Held, word}
use Rattle.pearl_grammar.specs.Declarations as rule
use Rattle.pearl_grammar.specs.Reached.{never}
use Rattle.pearl_grammar.proofs.Joins.{maybe_headed_long}
use Rattle.pearl_grammar.proofs.Rests.{Fills, Makes, fills_as}
use Rattle.pearl_grammar.proofs.Tokens.{Kind, AWord, AnId, Among, Leads}
use Rattle.pearl_grammar.proofs.RuleFacts.{Left, Leaf, Facts, IsFirm, rule_fills}
use Rattle.pearl_grammar.proofs.Walk.{Walk, opened}
use Rattle.pearl_grammar.proofs.Leaves as leaf
use Rattle.pearl_grammar.proofs.Said as said
use Rattle.pearl_grammar.proofs.Productions as production
use Rattle.pearl_grammar.proofs.DeclarationFacts.{names, bounds, basic, constant, sort, spec, bracketed_number, close_facts}

-- ---- types

module _ (tokens others : List Token) (k : ℕ) (alike : AlikeBefore tokens others k) where
  here : (j : ℕ) → j < k → what_at others j ≡ what_at tokens j
  here = local.what tokens others k alike

  -- what stands before the type of a field
  before_typing : (from : ℕ) (names_ : Names) (bounds_ : Parts Bound) (at a b : ℕ) →
      IsAt tokens from at → SpellsNames tokens from names_ a → SpellsBounds tokens a bounds_ b → b ≤ k →
      (from + 1 ≤ b) × (IsAt others from at × SpellsNames others from names_ a × SpellsBounds others a bounds_ b)
  before_typing from names_ bounds_ at a b placed h g near =
      let second = bounds.kept tokens others k alike a bounds_ b g near in
      let first = names.kept tokens others k alike from names_ a h (omega (arith, second.0)) in
      let below : from < k = omega (arith, first.0, second.0) in
      (omega (arith, first.0, second.0), (local.place tokens others k alike from below ∙ placed, first.1, second.1))

  mutual
    pub typing_keeps : (depth from : ℕ) (x : Typing) (to : ℕ) → SpellsTyping tokens depth from x to →
        to ≤ k →
        (from + 1 ≤ to) × SpellsTyping others depth from x to
    typing_keeps depth from (typing_tree.Basic part) to h near = basic.kept tokens others k alike from part to h near
    typing_keeps depth from (typing_tree.Struct' _ fields at) to h near =
        let list = fields_keep (depth - 1) (from + 2) _ fields h.0 h.5 (omega (arith, h.7)) in
        let below : h.0 < k = omega (arith, h.7) in
        let behind : from + 2 ≤ h.0 = omega (arith, list.0) in (
          omega (arith, h.7),
          (
            h.0,
            local.place tokens others k alike from (omega arith) ∙ h.1,
            here from (omega arith) ∙ h.2,
            h.3,
            here (from + 1) (omega arith) ∙ h.4,
            list.1,
            here h.0 below ∙ h.6,
            h.7,
          ),
        )
    typing_keeps depth from (typing_tree.Named x) to h near = leaf.name_keeps tokens others k alike from x to h near

    fields_keep : (depth from : ℕ) (n : _) (row : Row_of-Field n) (to : ℕ) →
        SpellsFields tokens depth from row to → to ≤ k →
        (from ≤ to) × SpellsFields others depth from row to
    fields_keep depth from _ end_of-Field to h near = absurd h
    fields_keep depth from _ (more_of-Field names_ bounds_ part at rest) to h near =
        let last = more_fields_keep depth h.0 _ rest to h.2 near in
        let type_ = typing_keeps depth h.1.1 part h.0 h.1.5 (omega (arith, last.0)) in
        let below : h.1.1 ≤ k = omega (arith, last.0, type_.0) in
        let first = before_typing from names_ bounds_ at h.1.0 h.1.1 h.1.2 h.1.3 h.1.4 below in (
          omega (arith, first.0, type_.0, last.0),
          (h.0, (h.1.0, h.1.1, first.1.0, first.1.1, first.1.2, type_.1), last.1),
        )

    more_fields_keep : (depth from : ℕ) (n : _) (row : Row_of-Field n) (to : ℕ) →
        SpellsMoreFields tokens depth from row to → to ≤ k →
        (from ≤ to) × SpellsMoreFields others depth from row to
    more_fields_keep depth from _ end_of-Field to h near = (omega (arith, h), h)
    more_fields_keep depth from _ (more_of-Field names_ bounds_ part at rest) to h near =
        let last = more_fields_keep depth h.0 _ rest to h.3 near in
        let type_ = typing_keeps depth h.2.1 part h.0 h.2.5 (omega (arith, last.0)) in
        let first = before_typing (from + 1) names_ bounds_ at h.2.0 h.2.1 h.2.2 h.2.3 h.2.4
        (omega (arith, last.0, type_.0)) in
        let behind : from < h.0 = omega (arith, first.0, type_.0) in
        let below : from < k = omega (arith, last.0) in (
          omega (arith, last.0),
          (h.0, here from below ∙ h.1, (h.2.0, h.2.1, first.1.0, first.1.1, first.1.2, type_.1), last.1),
        )

abbrev pub typing_firsts : List Kind
typing_firsts = AnId ∷ AWord w.STRUCT ∷ basic.firsts

pub typing_leads : (depth : ℕ) → Leads (λ tokens. SpellsTyping tokens depth) typing_firsts
typing_leads depth others from (typing_tree.Basic part) to h = by (basic.leads others from part to h)
  where
    by : (to ≡ from) ⊎ Among basic.firsts (what_at others from) → (to ≡ from) ⊎ Among typing_firsts (what_at others from)
    by (inl e) = inl e
    by (inr a) = inr (inr (inr a))
typing_leads depth others from (typing_tree.Struct' _ fields place) to h = inr (inr (inl h.2))
typing_leads depth others from (typing_tree.Named name) to h = inr (inl (name, h.0.0))

abbrev pub typing : (depth : ℕ) → Leaf (λ tokens. SpellsTyping tokens depth)
typing depth = record {
  least = 1;
  kept = λ tokens others k alike. typing_keeps tokens others k alike depth;
  fill = 1;
  fills = fills_as 1 (λ others at to. (x : _) × SpellsBasic others at x to) basic.fills
      (λ others at to. (x : Typing) × SpellsTyping others depth at x to) (λ others k to h. (typing_tree.Basic h.0, h.1));
  firsts = typing_firsts;
  leads = typing_leads depth;
}

abbrev pub whole_typing : Leaf SpellsWholeTyping
whole_typing = typing limit.STRUCTS_MAX

-- ---- fields

abbrev pub field_facts : (depth : ℕ) → Facts (rule.field_rule depth)
field_facts depth = (names, (bounds, (typing depth, tt)))

pub field_firm : (depth : ℕ) → IsFirm (rule.field_rule depth) (field_facts depth)
field_firm depth = (omega arith, tt)

abbrev pub field : (depth : ℕ) → Leaf (λ tokens. SpellsField tokens depth)
field depth = production.whole_leaf (λ tokens. SpellsField tokens depth) (rule.field_rule depth) (rule.field_parts depth)
    (said.field_said depth) (field_facts depth) (field_firm depth)
    (λ h. record { place = h.0; names = h.1.0; bounds = h.1.1.0; typing = h.1.1.1.0 }) (λ h. refl)

pub field_start : (depth : ℕ) → production.Start 16 (λ tokens. SpellsField tokens depth) (rule.field_rule depth)
    (field_facts depth)
field_start depth = production.whole_starts (λ tokens. SpellsField tokens depth) (rule.field_rule depth)
    (rule.field_parts depth) (said.field_said depth) (field_facts depth) (field_firm depth)
    (λ h. record { place = h.0; names = h.1.0; bounds = h.1.1.0; typing = h.1.1.1.0 }) (λ h. refl) 16 (omega arith)

-- ---- variables

abbrev pub item_facts : Facts rule.item_rule
item_facts = (names, (bounds, (tt, (whole_typing, (constant, tt)))))

pub item_firm : IsFirm rule.item_rule item_facts
item_firm = (omega arith, tt)

pub item_made : Makes SpellsItem (Left rule.item_rule)
item_made others from to small h =
    let init = h.1.1.2.2.2.2 in
    let few : length h.0.1.1.1.1.1.0 < 2 ^ 63 = omega (
      arith,
      maybe_headed_long others (SpellsConst others) (after_of 1 SpellsConst constant.kept others) w.INIT h.1.1.2.2.2.0
          h.0.1.1.1.1.1.0 init.0 init.1,
      init.2,
      small,
    ) in
    let item : Item = record {
      place = h.0.0;
      names = h.0.1.0;
      bounds = h.0.1.1.0;
      inv = h.0.1.1.1.0;
      typing = h.0.1.1.1.1.0;
      init = parts_of h.0.1.1.1.1.1.0 few;
    } in
    (item, (said.item_said others from item to).1 h.1)

pub item_start : production.Start 16 SpellsItem rule.item_rule item_facts
item_start = production.starts SpellsItem rule.item_rule rule.item_parts said.item_said item_facts item_firm 16
    (omega arith) item_made

-- names and a type
short_item : Rule
short_item = Mark (Then rule.names (Then rule.whole_type End))

pub item_fills : Fills 2 (λ others at to. (x : Item) × SpellsItem others at x to)
unfolding short_item
item_fills = fills_as 2 (Left short_item) (rule_fills short_item (names, (whole_typing, tt)) (omega arith, tt))
    (λ others at to. (x : Item) × SpellsItem others at x to) (λ others k to h. (
      record {
        place = h.0.0;
        names = h.0.1.0;
        bounds = parts_of [] (omega arith);
        inv = false;
        typing = h.0.1.1.0;
        init = parts_of [] (omega arith);
      },
      (h.1.1.0, h.1.1.0, h.1.1.0, h.1.1.2.0, h.1.0, h.1.1.1, refl, refl, h.1.1.2.1, h.1.1.2.2),
    ))

abbrev pub item : Leaf SpellsItem
item = production.leaf SpellsItem rule.item_rule rule.item_parts said.item_said item_facts item_firm 2 item_fills

-- ---- semaphores

abbrev pub sema_facts : Facts rule.sema_rule
sema_facts = (names, (omega arith, (leaf.number, tt)))

pub sema_firm : IsFirm rule.sema_rule sema_facts
sema_firm = (omega arith, tt)

pub sema_made : Makes SpellsSema (Left rule.sema_rule)
sema_made others from to small h =
    let preset = h.1.1.2.1 in
    let few : length h.0.1.1.0 < 2 ^ 63 = omega (
      arith,
      maybe_headed_long others (SpellsNumber others) (after_of 1 SpellsNumber leaf.number_keeps others) w.PRESET
          (h.1.1.0 + 1) h.0.1.1.0 preset.0 preset.1,
      preset.2,
      small,
    ) in
    let sema : Sema = record { place = h.0.0; names = h.0.1.0; preset = parts_of h.0.1.1.0 few } in
    (sema, (said.sema_said others from sema to).1 h.1)

pub sema_start : production.Start 16 SpellsSema rule.sema_rule sema_facts
sema_start = production.starts SpellsSema rule.sema_rule rule.sema_parts said.sema_said sema_facts sema_firm 16
    (omega arith) sema_made

short_sema : Rule
short_sema = Mark (Then rule.names (word w.SEMA End))

pub sema_fills : Fills 2 (λ others at to. (x : Sema) × SpellsSema others at x to)
unfolding short_sema
sema_fills = fills_as 2 (Left short_sema) (rule_fills short_sema (names, (omega arith, tt)) (omega arith, tt))
    (λ others at to. (x : Sema) × SpellsSema others at x to) (λ others k to h. (
      record { place = h.0.0; names = h.0.1.0; preset = parts_of [] (omega arith) },
      (h.1.1.0, h.1.0, h.1.1.1, h.1.1.2.0, h.1.1.2.1),
    ))

abbrev pub sema : Leaf SpellsSema
sema = production.leaf SpellsSema rule.sema_rule rule.sema_parts said.sema_said sema_facts sema_firm 2 sema_fills

-- ---- variables or semaphores

pub declared_of : Held rule.declared_rule → Declared
declared_of (First h) = declared_tree.Item h.0
declared_of (Second h) = declared_tree.Sema h.0

pub declared_same : (h : Held rule.declared_rule) → rule.declared_parts (declared_of h) ≡ h
unfolding declared_of
declared_same (First h) = refl
declared_same (Second h) = refl

abbrev pub declared : Leaf SpellsDeclared
declared = production.whole_leaf SpellsDeclared rule.declared_rule rule.declared_parts said.declared_said
    ((item, tt), (sema, tt)) (tt, tt) declared_of declared_same

-- ---- declarations that have no body

abbrev pub length_facts : Facts rule.length_rule
length_facts = (omega arith, (sort, (bracketed_number, close_facts)))

abbrev pub type_facts : Facts rule.type_rule
type_facts = (omega arith, (leaf.id, (whole_typing, close_facts)))

abbrev pub declare_facts : Facts rule.declare_rule
declare_facts = (omega arith, (declared, close_facts))

abbrev pub specify_facts : Facts rule.specify_rule
specify_facts = (omega arith, (spec, close_facts))

-- what begins with a word is of its kind
abbrev pub IsOf : List Token → ℕ → ℕ → Rule → ℕ → Type 0
IsOf others from to rule word = Left rule others from to ⊎ (is_word word (what_at others from) ≡ false)

module _ (others : List Token) (from : ℕ) where
  pub lengths : (x : Decl) (to : ℕ) → SpellsDecl others from x to → IsOf others from to rule.length_rule w.LENGTH
  lengths (decl.Length kind number place) to h = inl
      ((place, (kind, (number, tt))), (said.length_said kind number place others from to).0 h)
  lengths (decl.Type name part place) to h = inr (ap (is_word w.LENGTH) h.2)
  lengths (decl.Declare list place) to h = inr (ap (is_word w.LENGTH) h.2)
  lengths (decl.Specify list place) to h = inr (ap (is_word w.LENGTH) h.2)
  lengths (decl.Task name head body place) to h = inr (ap (is_word w.LENGTH) h.2.0)
  lengths (decl.Proc name params returns body place) to h = inr (ap (is_word w.LENGTH) h.3.0)

  pub types : (x : Decl) (to : ℕ) → SpellsDecl others from x to → IsOf others from to rule.type_rule w.TYPE
  types (decl.Length kind number place) to h = inr (ap (is_word w.TYPE) h.1)
  types (decl.Type name part place) to h = inl
      ((place, (name, (part, tt))), (said.type_said name part place others from to).0 h)
  types (decl.Declare list place) to h = inr (ap (is_word w.TYPE) h.2)
  types (decl.Specify list place) to h = inr (ap (is_word w.TYPE) h.2)
  types (decl.Task name head body place) to h = inr (ap (is_word w.TYPE) h.2.0)
  types (decl.Proc name params returns body place) to h = inr (ap (is_word w.TYPE) h.3.0)

  pub variables : (x : Decl) (to : ℕ) → SpellsDecl others from x to → IsOf others from to rule.declare_rule w.DCL
  variables (decl.Length kind number place) to h = inr (ap (is_word w.DCL) h.1)
  variables (decl.Type name part place) to h = inr (ap (is_word w.DCL) h.2)
  variables (decl.Declare list place) to h = inl
      ((place, (list.items.items, tt)), (said.declare_said list place others from to).0 h)
  variables (decl.Specify list place) to h = inr (ap (is_word w.DCL) h.2)
  variables (decl.Task name head body place) to h = inr (ap (is_word w.DCL) h.2.0)
  variables (decl.Proc name params returns body place) to h = inr (ap (is_word w.DCL) h.3.0)

  pub specifications : (x : Decl) (to : ℕ) → SpellsDecl others from x to → IsOf others from to rule.specify_rule w.SPC
  specifications (decl.Length kind number place) to h = inr (ap (is_word w.SPC) h.1)
  specifications (decl.Type name part place) to h = inr (ap (is_word w.SPC) h.2)
  specifications (decl.Declare list place) to h = inr (ap (is_word w.SPC) h.2)
  specifications (decl.Specify list place) to h = inl
      ((place, (list.items.items, tt)), (said.specify_said list place others from to).0 h)
  specifications (decl.Task name head body place) to h = inr (ap (is_word w.SPC) h.2.0)
  specifications (decl.Proc name params returns body place) to h = inr (ap (is_word w.SPC) h.3.0)

-- a reader of one begins, where its word stands
module _ (rule : Rule) (facts : Facts rule) (firm : IsFirm rule facts) (word : ℕ)
    (itself : is_word word (Some (what.Word word)) ≡ true)
    (all : (others : List Token) (from : ℕ) (x : Decl) (to : ℕ) → SpellsDecl others from x to → IsOf others from to rule word)
    (makes : Makes SpellsDecl (Left rule)) (tokens : List Token) (from : ℕ) (stands : HasWord tokens from word)
    (few : length tokens < 2 ^ 55) where
  pub declaration_start : Walk 16 SpellsDecl tokens from 0 rule facts never from from
  declaration_start = opened firm makes
      (λ others agree x to h. by others (sym (agree from (omega arith)) ∙ stands) to (all others from x to h))
      (omega (arith, word_within tokens from word stands)) (omega arith) (omega arith) few (omega arith)
    where
      by : (others : List Token) → HasWord others from word → (to : ℕ) → IsOf others from to rule word → Left rule others from to
      by others stands to (inl h) = h
      by others stands to (inr none) = absurd (clash _ (ap (is_word word) stands ∙ itself) none)

pub length_start : (tokens : List Token) (from : ℕ) → HasWord tokens from w.LENGTH → length tokens < 2 ^ 55 →
    Walk 16 SpellsDecl tokens from 0 rule.length_rule length_facts never from from
length_start = declaration_start rule.length_rule length_facts (omega arith, tt) w.LENGTH refl lengths
    (λ others from to small h.
    (decl.Length h.0.1.0 h.0.1.1.0 h.0.0, (said.length_said h.0.1.0 h.0.1.1.0 h.0.0 others from to).1 h.1))

pub type_start : (tokens : List Token) (from : ℕ) → HasWord tokens from w.TYPE → length tokens < 2 ^ 55 →
    Walk 16 SpellsDecl tokens from 0 rule.type_rule type_facts never from from
type_start = declaration_start rule.type_rule type_facts (omega arith, tt) w.TYPE refl types
    (λ others from to small h.
    (decl.Type h.0.1.0 h.0.1.1.0 h.0.0, (said.type_said h.0.1.0 h.0.1.1.0 h.0.0 others from to).1 h.1))

pub declare_start : (tokens : List Token) (from : ℕ) → HasWord tokens from w.DCL → length tokens < 2 ^ 55 →
    Walk 16 SpellsDecl tokens from 0 rule.declare_rule declare_facts never from from
declare_start = declaration_start rule.declare_rule declare_facts (omega arith, tt) w.DCL refl variables
    (λ others from to small h.
    let all = list_long others (SpellsDeclared others)
    (λ at x end g. omega (arith, after_of 2 SpellsDeclared declared.kept others at x end g)) (from + 1) h.0.1.0 h.1.1.1.0 h.1.1.1.1 in
    let few : length h.0.1.0 < 2 ^ 63 = omega (arith, all, h.1.1.1.2.1, small) in
    (decl.Declare (parts_of h.0.1.0 few) h.0.0, (said.declare_said (parts_of h.0.1.0 few) h.0.0 others from to).1 h.1))

pub specify_start : (tokens : List Token) (from : ℕ) → HasWord tokens from w.SPC → length tokens < 2 ^ 55 →
    Walk 16 SpellsDecl tokens from 0 rule.specify_rule specify_facts never from from
specify_start = declaration_start rule.specify_rule specify_facts (omega arith, tt) w.SPC refl specifications
    (λ others from to small h.
    let all = list_long others (SpellsSpec others)
    (λ at x end g. omega (arith, after_of 2 SpellsSpec spec.kept others at x end g)) (from + 1) h.0.1.0 h.1.1.1.0 h.1.1.1.1 in
    let few : length h.0.1.0 < 2 ^ 63 = omega (arith, all, h.1.1.1.2.1, small) in
    (decl.Specify (parts_of h.0.1.0 few) h.0.0, (said.specify_said (parts_of h.0.1.0 few) h.0.0 others from to).1 h.1))
