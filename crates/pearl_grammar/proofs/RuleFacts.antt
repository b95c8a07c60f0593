-- What holds of each rule because it holds of its parts: on which tokens it depends, how long it is at least, with which
-- tokens it begins, and which few tokens make it.
use Rattle.std.proofs.Common.{◌≡◌, ℕ, ◌+◌, ◌<◌, ◌≤◌, ◌⊎◌, inl, inr, min, true, false, List, [], ◌∷◌, ◌++◌}
use Rattle.std.proofs.Common.{length, Some, None, refl, sym, ap, subst, ◌∙◌, arith}
use Rattle.std.specs.Option.{option_map}
use Rattle.pearl_tree.specs.Tokens.{IsLawfulWhat}
use Rattle.pearl_tree.specs.declared.token.Token.{Token}
use Rattle.pearl_tree.specs.Standing.{Spelling, what_at, SpellsEach, SpellsMore, SpellsList}
use Rattle.pearl_tree.specs.declared.token.What.TheVariants as what
use Rattle.pearl_tree.specs.declared.symbol.TheConstants as s
use Rattle.pearl_parse_expr.specs.Least.{AlikeBefore}
use Rattle.pearl_parse_expr.proofs.Offered as local
use Rattle.pearl_parse_expr.proofs.Offered.{Keeps, Kept, local_of, each_keeps, list_keeps, IsLocal, token_of, placed_within}
use Rattle.pearl_grammar.specs.Rules.{First, Second, Part, One, Flag, Sign, Maybe, Each, Listed, MaybeListed, Bracketed}
use Rattle.pearl_grammar.specs.Rules.{MaybeBracketed, MaybeHeaded, Rule, End, Mark, Behind, Then, Or, Value, Held, SpellsPart, Spells}
use Rattle.pearl_grammar.proofs.Rests.{Rest, Ends, Fills, ends_fill, fills_as, fills_token, fills_then}
use Rattle.pearl_grammar.proofs.Joins as joins
use Rattle.pearl_grammar.proofs.Tokens.{Kind, AWord, ASymbol, Among, kind_of, is_kind, some_there, what_within, among_first}
use Rattle.pearl_grammar.proofs.Tokens.{among_second, front, front_first, front_second, Leads}

-- some parts, from one token to another
abbrev pub Left : Rule → Rest
Left rule others at to = (x : Held rule) × Spells rule others at x to

abbrev pub LeftPart : Part → Rest
LeftPart part others at to = (x : Value part) × SpellsPart part others at x to

-- of one part: it depends on its own tokens alone and is `least` of them long at least, `fill` tokens make one, and it
-- begins with a token of these kinds
pub record Leaf {X : Type 0} (spells : List Token → Spelling X) : Type 0 where
  pub least : ℕ
  pub kept : Kept least spells
  pub fill : ℕ
  pub fills : Fills fill (λ others at to. (x : X) × spells others at x to)
  pub firsts : List Kind
  pub leads : Leads spells firsts

abbrev pub PartFacts : Part → Type 0
PartFacts (One X spells) = Leaf spells
PartFacts (Flag word) = Unit {0}
PartFacts (Sign symbol) = Unit {0}
PartFacts (Maybe part) = PartFacts part
PartFacts (Each part) = PartFacts part
PartFacts (Listed part) = PartFacts part
PartFacts (MaybeListed part) = PartFacts part
PartFacts (Bracketed part) = PartFacts part
PartFacts (MaybeBracketed part) = PartFacts part
PartFacts (MaybeHeaded word part) = PartFacts part

-- of a rule: the facts of its parts, and some spelling means each of its tokens
abbrev pub Facts : Rule → Type 0
Facts End = Unit {0}
Facts (Mark rest) = Facts rest
Facts (Behind token rest) = IsLawfulWhat token × Facts rest
Facts (Then part rest) = PartFacts part × Facts rest
Facts (Or first second) = Facts first × Facts second

abbrev pub least_part : (part : Part) → PartFacts part → ℕ
least_part (One X spells) facts = facts.least
least_part (Flag word) facts = 0
least_part (Sign symbol) facts = 0
least_part (Maybe part) facts = 0
least_part (Each part) facts = 0
least_part (Listed part) facts = least_part part facts
least_part (MaybeListed part) facts = 0
least_part (Bracketed part) facts = least_part part facts + 2
least_part (MaybeBracketed part) facts = 0
least_part (MaybeHeaded word part) facts = 0

abbrev pub least_of : (rule : Rule) → Facts rule → ℕ
least_of End facts = 0
least_of (Mark rest) facts = least_of rest facts
least_of (Behind token rest) facts = least_of rest facts.1 + 1
least_of (Then part rest) facts = least_part part facts.0 + least_of rest facts.1
least_of (Or first second) facts = min (least_of first facts.0) (least_of second facts.1)

abbrev pub fill_part : (part : Part) → PartFacts part → ℕ
fill_part (One X spells) facts = facts.fill
fill_part (Flag word) facts = 0
fill_part (Sign symbol) facts = 0
fill_part (Maybe part) facts = 0
fill_part (Each part) facts = 0
fill_part (Listed part) facts = fill_part part facts
fill_part (MaybeListed part) facts = 0
fill_part (Bracketed part) facts = fill_part part facts + 1 + 1
fill_part (MaybeBracketed part) facts = 0
fill_part (MaybeHeaded word part) facts = 0

abbrev pub fill_of : (rule : Rule) → Facts rule → ℕ
fill_of End facts = 0
fill_of (Mark rest) facts = fill_of rest facts
fill_of (Behind token rest) facts = fill_of rest facts.1 + 1
fill_of (Then part rest) facts = fill_part part facts.0 + fill_of rest facts.1
fill_of (Or first second) facts = fill_of first facts.0

abbrev pub firsts_part : (part : Part) → PartFacts part → List Kind
firsts_part (One X spells) facts = facts.firsts
firsts_part (Flag word) facts = AWord word ∷ []
firsts_part (Sign symbol) facts = ASymbol symbol ∷ []
firsts_part (Maybe part) facts = firsts_part part facts
firsts_part (Each part) facts = firsts_part part facts
firsts_part (Listed part) facts = firsts_part part facts ++ (ASymbol s.COMMA ∷ [])
firsts_part (MaybeListed part) facts = firsts_part part facts ++ (ASymbol s.COMMA ∷ [])
firsts_part (Bracketed part) facts = ASymbol s.LEFT_ROUND ∷ []
firsts_part (MaybeBracketed part) facts = ASymbol s.LEFT_ROUND ∷ []
firsts_part (MaybeHeaded word part) facts = AWord word ∷ []

abbrev pub firsts_of : (rule : Rule) → Facts rule → List Kind
firsts_of End facts = []
firsts_of (Mark rest) facts = firsts_of rest facts
firsts_of (Behind token rest) facts = kind_of token ∷ []
firsts_of (Then part rest) facts =
    front (least_part part facts.0) (firsts_part part facts.0) (firsts_of rest facts.1)
firsts_of (Or first second) facts = firsts_of first facts.0 ++ firsts_of second facts.1

-- a place is that of a token
abbrev pub IsFirm : (rule : Rule) → Facts rule → Type 0
IsFirm End facts = Unit {0}
IsFirm (Mark rest) facts = (1 ≤ least_of rest facts) × IsFirm rest facts
IsFirm (Behind token rest) facts = IsFirm rest facts.1
IsFirm (Then part rest) facts = IsFirm rest facts.1
IsFirm (Or first second) facts = IsFirm first facts.0 × IsFirm second facts.1

-- ---- locality

module _ (tokens others : List Token) (k : ℕ) (alike : AlikeBefore tokens others k) where
  pub part_keeps : (part : Part) (facts : PartFacts part) → Keeps tokens others k (least_part part facts) (SpellsPart part)
  part_keeps (One X spells) facts = facts.kept tokens others k alike
  part_keeps (Flag word) facts = joins.flag_keeps tokens others k alike word
  part_keeps (Sign symbol) facts = joins.symbol_flag_keeps tokens others k alike symbol
  part_keeps (Maybe part) facts =
      joins.maybe_keeps tokens others k alike (least_part part facts) (SpellsPart part) (part_keeps part facts)
  part_keeps (Each part) facts =
      each_keeps tokens others k alike (least_part part facts) (SpellsPart part) (part_keeps part facts)
  part_keeps (Listed part) facts =
      list_keeps tokens others k alike (least_part part facts) (SpellsPart part) (part_keeps part facts)
  part_keeps (MaybeListed part) facts =
      joins.maybe_list_keeps tokens others k alike (least_part part facts) (SpellsPart part) (part_keeps part facts)
  part_keeps (Bracketed part) facts =
      joins.bracketed_keeps tokens others k alike (least_part part facts) (SpellsPart part) (part_keeps part facts)
  part_keeps (MaybeBracketed part) facts =
      joins.maybe_bracketed_keeps tokens others k alike (least_part part facts) (SpellsPart part) (part_keeps part facts)
  part_keeps (MaybeHeaded word part) facts =
      joins.maybe_headed_keeps tokens others k alike (least_part part facts) (SpellsPart part) (part_keeps part facts) word

  pub rule_keeps : (rule : Rule) (facts : Facts rule) → IsFirm rule facts →
      Keeps tokens others k (least_of rule facts) (Spells rule)
  rule_keeps End facts firm from x to h near = (omega (arith, h), h)
  rule_keeps (Mark rest) facts firm from x to h near =
      let behind = rule_keeps rest facts firm.1 from x.1 to h.1 near in
      let below : from < k = omega (arith, behind.0, near, firm.0) in
      (behind.0, (local.place tokens others k alike from below ∙ h.0, behind.1))
  rule_keeps (Behind token rest) facts firm from x to h near =
      let behind = rule_keeps rest facts.1 firm (from + 1) x to h.1 near in
      let below : from < k = omega (arith, behind.0, near) in
      (omega (arith, behind.0), (local.what tokens others k alike from below ∙ h.0, behind.1))
  rule_keeps (Then part rest) facts firm from x to h near =
      let behind = rule_keeps rest facts.1 firm h.0 x.1 to h.2 near in
      let first = part_keeps part facts.0 from x.0 h.0 h.1 (omega (arith, behind.0, near)) in
      (omega (arith, first.0, behind.0), (h.0, first.1, behind.1))
  rule_keeps (Or first second) facts firm from (First x) to h near =
      let kept = rule_keeps first facts.0 firm.0 from x to h near in (omega (arith, kept.0), kept.1)
  rule_keeps (Or first second) facts firm from (Second x) to h near =
      let kept = rule_keeps second facts.1 firm.1 from x to h near in (omega (arith, kept.0), kept.1)

pub part_is_local : (part : Part) (facts : PartFacts part) → IsLocal (SpellsPart part)
part_is_local part facts = local_of (least_part part facts) (SpellsPart part)
    (λ tokens others k alike. part_keeps tokens others k alike part facts)

pub part_after : (part : Part) (facts : PartFacts part) (others : List Token) (from : ℕ) (x : Value part) (to : ℕ) →
    SpellsPart part others from x to → from + least_part part facts ≤ to
part_after part facts others from x to h =
    let same : to ≤ to = omega arith in (part_keeps others others to (λ j below. refl) part facts from x to h same).0

pub rule_after : (rule : Rule) (facts : Facts rule) → IsFirm rule facts → (others : List Token) (from : ℕ)
    (x : Held rule) (to : ℕ) → Spells rule others from x to → from + least_of rule facts ≤ to
rule_after rule facts firm others from x to h =
    let same : to ≤ to = omega arith in (rule_keeps others others to (λ j below. refl) rule facts firm from x to h same).0

-- ---- first tokens

module _ (others : List Token) where
  each_leads : {X : Type 0} (spells : List Token → Spelling X) (kinds : List Kind) → Leads spells kinds → (from : ℕ)
      (xs : List X) (to : ℕ) → SpellsEach (spells others) from xs to → (to ≡ from) ⊎ Among kinds (what_at others from)
  each_leads spells kinds leads from [] to h = inl h
  each_leads {X} spells kinds leads from (x ∷ xs) to h =
      by (leads others from x h.0 h.1) (each_leads spells kinds leads h.0 xs to h.2)
    where
      by : (h.0 ≡ from) ⊎ Among kinds (what_at others from) → (to ≡ h.0) ⊎ Among kinds (what_at others h.0) →
          (to ≡ from) ⊎ Among kinds (what_at others from)
      by (inr a) g = inr a
      by (inl same) g = subst (λ k. (to ≡ k) ⊎ Among kinds (what_at others k)) same g

  more_leads : {X : Type 0} (spells : Spelling X) (from : ℕ) (xs : List X) (to : ℕ) → SpellsMore others spells from xs to →
      (to ≡ from) ⊎ (what_at others from ≡ Some (what.Symbol s.COMMA))
  more_leads spells from [] to h = inl h
  more_leads spells from (x ∷ xs) to h = inr h.1

  list_leads : {X : Type 0} (spells : List Token → Spelling X) (kinds : List Kind) → Leads spells kinds → (from : ℕ)
      (xs : List X) (to : ℕ) → SpellsList others (spells others) from xs to →
      (to ≡ from) ⊎ Among (kinds ++ (ASymbol s.COMMA ∷ [])) (what_at others from)
  list_leads spells kinds leads from [] to h = absurd h
  list_leads {X} spells kinds leads from (x ∷ xs) to h = by (leads others from x h.0 h.1)
    where
      after : h.0 ≡ from → (to ≡ h.0) ⊎ (what_at others h.0 ≡ Some (what.Symbol s.COMMA)) →
          (to ≡ from) ⊎ Among (kinds ++ (ASymbol s.COMMA ∷ [])) (what_at others from)
      after same (inl none) = inl (none ∙ same)
      after same (inr comma) = inr (among_second kinds (ASymbol s.COMMA ∷ []) (what_at others from)
          (inl (ap (what_at others) (sym same) ∙ comma)))

      by : (h.0 ≡ from) ⊎ Among kinds (what_at others from) →
          (to ≡ from) ⊎ Among (kinds ++ (ASymbol s.COMMA ∷ [])) (what_at others from)
      by (inr a) = inr (among_first kinds (ASymbol s.COMMA ∷ []) (what_at others from) a)
      by (inl same) = after same (more_leads (spells others) h.0 xs to h.2)

pub part_leads : (part : Part) (facts : PartFacts part) → Leads (SpellsPart part) (firsts_part part facts)
part_leads (One X spells) facts others from x to h = facts.leads others from x to h
part_leads (Flag word) facts others from false to h = inl h
part_leads (Flag word) facts others from true to h = inr (inl h.0)
part_leads (Sign symbol) facts others from false to h = inl h
part_leads (Sign symbol) facts others from true to h = inr (inl h.0)
part_leads (Maybe part) facts others from None to h = inl h
part_leads (Maybe part) facts others from (Some x) to h = part_leads part facts others from x to h
part_leads (Each part) facts others from xs to h =
    each_leads others (SpellsPart part) (firsts_part part facts) (part_leads part facts) from xs to h
part_leads (Listed part) facts others from xs to h =
    list_leads others (SpellsPart part) (firsts_part part facts) (part_leads part facts) from xs to h
part_leads (MaybeListed part) facts others from [] to h = inl h
part_leads (MaybeListed part) facts others from (x ∷ xs) to h =
    list_leads others (SpellsPart part) (firsts_part part facts) (part_leads part facts) from (x ∷ xs) to h
part_leads (Bracketed part) facts others from xs to h = inr (inl h.1)
part_leads (MaybeBracketed part) facts others from [] to h = inl h
part_leads (MaybeBracketed part) facts others from (x ∷ xs) to h = inr (inl h.1)
part_leads (MaybeHeaded word part) facts others from [] to h = inl h
part_leads (MaybeHeaded word part) facts others from (x ∷ xs) to h = inr (inl h.0)

pub rule_leads : (rule : Rule) (facts : Facts rule) → Leads (Spells rule) (firsts_of rule facts)
rule_leads End facts others from x to h = inl h
rule_leads (Mark rest) facts others from x to h = rule_leads rest facts others from x.1 to h.1
rule_leads (Behind token rest) facts others from x to h = inr (inl (is_kind token (what_at others from) h.0))
rule_leads (Then part rest) facts others from x to h =
    by (part_leads part facts.0 others from x.0 h.0 h.1) (rule_leads rest facts.1 others h.0 x.1 to h.2)
  where
    by : (h.0 ≡ from) ⊎ Among (firsts_part part facts.0) (what_at others from) →
        (to ≡ h.0) ⊎ Among (firsts_of rest facts.1) (what_at others h.0) →
        (to ≡ from) ⊎ Among (front (least_part part facts.0) (firsts_part part facts.0) (firsts_of rest facts.1))
        (what_at others from)
    by (inr a) g = inr (front_first (least_part part facts.0) (firsts_part part facts.0) (firsts_of rest facts.1)
        (what_at others from) a)
    by (inl same) (inl none) = inl (none ∙ same)
    by (inl same) (inr a) = inr (front_second (least_part part facts.0) (firsts_part part facts.0) (firsts_of rest facts.1)
        (what_at others from) (omega (arith, same, part_after part facts.0 others from x.0 h.0 h.1))
        (subst (λ k. Among (firsts_of rest facts.1) (what_at others k)) same a))
rule_leads (Or first second) facts others from (First x) to h = by (rule_leads first facts.0 others from x to h)
  where
    by : (to ≡ from) ⊎ Among (firsts_of first facts.0) (what_at others from) →
        (to ≡ from) ⊎ Among (firsts_of first facts.0 ++ firsts_of second facts.1) (what_at others from)
    by (inl e) = inl e
    by (inr a) = inr (among_first (firsts_of first facts.0) (firsts_of second facts.1) (what_at others from) a)
rule_leads (Or first second) facts others from (Second x) to h = by (rule_leads second facts.1 others from x to h)
  where
    by : (to ≡ from) ⊎ Among (firsts_of second facts.1) (what_at others from) →
        (to ≡ from) ⊎ Among (firsts_of first facts.0 ++ firsts_of second facts.1) (what_at others from)
    by (inl e) = inl e
    by (inr a) = inr (among_second (firsts_of first facts.0) (firsts_of second facts.1) (what_at others from) a)

-- a rule that isn't empty begins with a token of its kinds
pub rule_begins : (rule : Rule) (facts : Facts rule) → IsFirm rule facts → 1 ≤ least_of rule facts →
    (others : List Token) (from : ℕ) (x : Held rule) (to : ℕ) → Spells rule others from x to →
    Among (firsts_of rule facts) (what_at others from)
rule_begins rule facts firm solid others from x to h = by (rule_leads rule facts others from x to h)
  where
    by : (to ≡ from) ⊎ Among (firsts_of rule facts) (what_at others from) → Among (firsts_of rule facts) (what_at others from)
    by (inl same) = absurd (omega (arith, same, solid, rule_after rule facts firm others from x to h))
    by (inr a) = a

pub rule_stands : (rule : Rule) (facts : Facts rule) → IsFirm rule facts → 1 ≤ least_of rule facts →
    (others : List Token) (from : ℕ) (x : Held rule) (to : ℕ) → Spells rule others from x to → from < length others
rule_stands rule facts firm solid others from x to h =
    let there = some_there (firsts_of rule facts) (what_at others from)
    (rule_begins rule facts firm solid others from x to h) in
    what_within others from there.0 there.1

-- ---- completion

abbrev bracketed : Part → Rest
bracketed part others at to = (x : Value part) × (j : ℕ) × SpellsPart part others at x j ×
    ((what_at others j ≡ Some (what.Symbol s.RIGHT_ROUND)) × Ends others (j + 1) to)

pub part_fills : (part : Part) (facts : PartFacts part) → Fills (fill_part part facts) (LeftPart part)
part_fills (One X spells) facts = facts.fills
part_fills (Flag word) facts = fills_as 0 Ends ends_fill (LeftPart (Flag word)) (λ others k to h. (false, h))
part_fills (Sign symbol) facts = fills_as 0 Ends ends_fill (LeftPart (Sign symbol)) (λ others k to h. (false, h))
part_fills (Maybe part) facts = fills_as 0 Ends ends_fill (LeftPart (Maybe part)) (λ others k to h. (None, h))
part_fills (Each part) facts = fills_as 0 Ends ends_fill (LeftPart (Each part)) (λ others k to h. ([], h))
part_fills (Listed part) facts = fills_as (fill_part part facts) (LeftPart part) (part_fills part facts)
    (LeftPart (Listed part)) (λ others k to h. (h.0 ∷ [], (to, h.1, refl)))
part_fills (MaybeListed part) facts =
    fills_as 0 Ends ends_fill (LeftPart (MaybeListed part)) (λ others k to h. ([], h))
part_fills (Bracketed part) facts =
    fills_token (fill_part part facts + (0 + 1)) (bracketed part)
    (fills_then (SpellsPart part) (part_is_local part facts) (fill_part part facts) (0 + 1)
    (λ others j to. (what_at others j ≡ Some (what.Symbol s.RIGHT_ROUND)) × Ends others (j + 1) to) (part_fills part facts)
    (fills_token 0 Ends ends_fill (token_of (what.Symbol s.RIGHT_ROUND))
    (λ others j to. (what_at others j ≡ Some (what.Symbol s.RIGHT_ROUND)) × Ends others (j + 1) to) (omega arith)
    (λ others k to here h. (ap (option_map (λ token. token.what)) here, h))))
    (token_of (what.Symbol s.LEFT_ROUND)) (LeftPart (Bracketed part)) (omega arith)
    (λ others k to here h. (
      h.0 ∷ [],
      (h.1, ap (option_map (λ token. token.what)) here, (h.1, h.2, refl), h.3.0, h.3.1),
    ))
part_fills (MaybeBracketed part) facts =
    fills_as 0 Ends ends_fill (LeftPart (MaybeBracketed part)) (λ others k to h. ([], h))
part_fills (MaybeHeaded word part) facts =
    fills_as 0 Ends ends_fill (LeftPart (MaybeHeaded word part)) (λ others k to h. ([], h))

pub rule_fills : (rule : Rule) (facts : Facts rule) → IsFirm rule facts → Fills (fill_of rule facts) (Left rule)
rule_fills End facts firm = fills_as 0 Ends ends_fill (Left End) (λ others k to h. (tt, h))
rule_fills (Mark rest) facts firm =
    fills_as (fill_of rest facts) (Left rest) (rule_fills rest facts firm.1) (Left (Mark rest))
    (λ others k to h. let at = placed_within others k (rule_stands rest facts firm.1 firm.0 others k h.0 to h.1) in
    ((at.0, h.0), (at.1, h.1)))
rule_fills (Behind token rest) facts firm =
    fills_token (fill_of rest facts.1) (Left rest) (rule_fills rest facts.1 firm) (token_of token)
    (Left (Behind token rest)) facts.0 (λ others k to here h. (h.0, (ap (option_map (λ token. token.what)) here, h.1)))
rule_fills (Then part rest) facts firm =
    fills_as (fill_part part facts.0 + fill_of rest facts.1)
    (λ others at to. (x : Value part) × (j : ℕ) × SpellsPart part others at x j × Left rest others j to)
    (fills_then (SpellsPart part) (part_is_local part facts.0) (fill_part part facts.0) (fill_of rest facts.1) (Left rest)
    (part_fills part facts.0) (rule_fills rest facts.1 firm)) (Left (Then part rest))
    (λ others k to h. ((h.0, h.3.0), (h.1, h.2, h.3.1)))
rule_fills (Or first second) facts firm = fills_as (fill_of first facts.0) (Left first) (rule_fills first facts.0 firm.0)
    (Left (Or first second)) (λ others k to h. (First h.0, h.1))

-- a rule as one part
abbrev pub rule_leaf : (rule : Rule) (facts : Facts rule) → IsFirm rule facts → Leaf (Spells rule)
rule_leaf rule facts firm = record {
  least = least_of rule facts;
  kept = λ tokens others k alike. rule_keeps tokens others k alike rule facts firm;
  fill = fill_of rule facts;
  fills = rule_fills rule facts firm;
  firsts = firsts_of rule facts;
  leads = rule_leads rule facts;
}
