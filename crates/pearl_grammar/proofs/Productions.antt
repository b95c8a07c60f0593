-- What is known of a part, because it is known of the rule that says what it spells.
use Rattle.std.proofs.Common.{◌≡◌, ℕ, ◌<◌, ◌≤◌, ◌^◌, List, length, subst, sym, refl, arith}
use Rattle.pearl_tree.specs.declared.token.Token.{Token}
use Rattle.pearl_tree.specs.Standing.{Spelling}
use Rattle.pearl_parse_expr.specs.Least.{ReachesIn}
use Rattle.pearl_parse_expr.proofs.Offered.{Kept, IsLocal, local_of}
use Rattle.pearl_grammar.specs.Rules.{One, Rule, End, Then, Held, Spells}
use Rattle.pearl_grammar.specs.Laws.{IsSaid}
use Rattle.pearl_grammar.specs.Reached.{never}
use Rattle.pearl_grammar.proofs.Rests.{Fills, Makes, fills_as}
use Rattle.pearl_grammar.proofs.Tokens.{Leads}
use Rattle.pearl_grammar.proofs.RuleFacts.{Left, Leaf, Facts, IsFirm, least_of, fill_of, firsts_of, rule_keeps, rule_leads, rule_fills}
use Rattle.pearl_grammar.proofs.Walk.{Walk, opened}

-- a reader of it begins
abbrev pub Start : {X : Type 0} → ℕ → (List Token → Spelling X) → (rule : Rule) → Facts rule → Type 0
Start room spells rule facts =
    (tokens : List Token) (from : ℕ) → from ≤ length tokens → length tokens < 2 ^ 55 →
    Walk room spells tokens from 0 rule facts never from from

module _ {X : Type 0} (spells : List Token → Spelling X) (rule : Rule) (parts : X → Held rule)
    (said : IsSaid spells rule parts) (facts : Facts rule) (firm : IsFirm rule facts) where
  -- whatever it spells goes on by the rule
  pub parted : (others : List Token) (from : ℕ) (x : X) (to : ℕ) → spells others from x to → Left rule others from to
  parted others from x to h = (parts x, (said others from x to).0 h)

  pub said_keeps : Kept (least_of rule facts) spells
  said_keeps tokens others k alike from x to h near =
      let kept = rule_keeps tokens others k alike rule facts firm from (parts x) to ((said tokens from x to).0 h) near in
      (kept.0, (said others from x to).1 kept.1)

  pub said_leads : Leads spells (firsts_of rule facts)
  said_leads others from x to h = rule_leads rule facts others from (parts x) to ((said others from x to).0 h)

  pub starts : (room : ℕ) → room ≤ 2 ^ 55 → Makes spells (Left rule) → Start room spells rule facts
  starts room small makes tokens from within few =
      opened firm makes (λ others agree x to h. parted others from x to h) within (omega arith) (omega arith) few small

  -- where so many tokens make one
  abbrev pub leaf : (fill : ℕ) → Fills fill (λ others at to. (x : X) × spells others at x to) → Leaf spells
  leaf fill fills = record {
    least = least_of rule facts;
    kept = said_keeps;
    fill = fill;
    fills = fills;
    firsts = firsts_of rule facts;
    leads = said_leads;
  }

  -- where any places and parts make one
  module _ (tree : Held rule → X) (same : (h : Held rule) → parts (tree h) ≡ h) where
    pub joined : (others : List Token) (from to : ℕ) → Left rule others from to → (x : X) × spells others from x to
    joined others from to h = (
      tree h.0,
      (said others from (tree h.0) to).1 (subst (λ x. Spells rule others from x to) (sym (same h.0)) h.1),
    )

    pub said_fills : Fills (fill_of rule facts) (λ others at to. (x : X) × spells others at x to)
    said_fills = fills_as (fill_of rule facts) (Left rule) (rule_fills rule facts firm)
        (λ others at to. (x : X) × spells others at x to) joined

    abbrev pub whole_leaf : Leaf spells
    whole_leaf = leaf (fill_of rule facts) said_fills

    pub whole_starts : (room : ℕ) → room ≤ 2 ^ 55 → Start room spells rule facts
    whole_starts room small = starts room small (λ others from to small h. joined others from to h)

-- ---- a part alone

module _ {X : Type 0} (spells : List Token → Spelling X) (leaf : Leaf spells) where
  pub leaf_is_local : IsLocal spells
  leaf_is_local = local_of leaf.least spells leaf.kept

  pub leaf_starts : Start 16 spells (Then (One X spells) End) (leaf, tt)
  leaf_starts tokens from within few = opened {rule = Then (One X spells) End} {facts = (leaf, tt)} tt
      (λ others from to small h. (h.0.0, subst (λ k. spells others from h.0.0 k) (sym h.1.2) h.1.1))
      (λ others agree x to h. ((x, tt), (to, h, refl))) within (omega arith) (omega arith) few (omega arith)

  -- it may stand anywhere
  pub begins : (room : ℕ) → leaf.fill ≤ room → (tokens : List Token) (from : ℕ) → from ≤ length tokens →
      ReachesIn room spells tokens from from
  begins room few tokens from within =
      let tail = leaf.fills tokens from within in
      record {
        others = tail.others;
        alike = tail.alike;
        long = tail.long;
        short = omega (arith, tail.short, few);
        lawful = tail.lawful;
        part = tail.made.0;
        spelled = tail.made.1;
      }
