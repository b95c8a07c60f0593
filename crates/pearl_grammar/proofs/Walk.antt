-- How far a reader has come in a rule: what is left of the rule, told in both ways, where a whole may have ended before a
-- token of `early`. From the beginning each token, part and choice that is read makes one step; at the end, and where a
-- token or a part is missing, what is known is what the reader's contract says.
use Rattle.std.proofs.Common.{◌≡◌, ℕ, ◌+◌, ◌*◌, ◌<◌, ◌≤◌, ◌^◌, ◌⊎◌, inl, inr, max, Bool, true, false, ◌||◌, List, length}
use Rattle.std.proofs.Common.{Option, Some, refl, sym, ap, subst, ◌∙◌, arith}
use Rattle.pearl_tree.specs.declared.token.What.{What}
use Rattle.pearl_tree.specs.declared.token.Token.{Token}
use Rattle.pearl_tree.specs.Standing.{Spelling, what_at}
use Rattle.pearl_tree.specs.Stops.{BeginAlike}
use Rattle.pearl_parse_expr.specs.declared.reading.Halt.{Halt}
use Rattle.pearl_parse_expr.specs.declared.reading.Halt.TheVariants.{Refused, NoMemory}
use Rattle.pearl_parse_expr.specs.Stops.{IsLongest, EndsEarly, StopsWithin}
use Rattle.pearl_parse_expr.specs.Least.{AlikeBefore, ReachesIn}
use Rattle.pearl_parse_expr.proofs.Offered as local
use Rattle.pearl_parse_expr.proofs.Offered.{clash, shorter, order, or_first, or_second, placed_within}
use Rattle.pearl_grammar.specs.Rules.{First, Second, Part, One, Rule, End, Mark, Behind, Then, Or, Value, Held, SpellsPart}
use Rattle.pearl_grammar.specs.Rules.{Spells}
use Rattle.pearl_grammar.specs.Reached.{GoesBehind, HaltsBehind, IsStopped, never}
use Rattle.pearl_grammar.proofs.Rests.{Rest, Next, Makes}
use Rattle.pearl_grammar.proofs.States.{State}
use Rattle.pearl_grammar.proofs.States as states
use Rattle.pearl_grammar.proofs.Tokens.{Among, AllAnswer, answers}
use Rattle.pearl_grammar.proofs.RuleFacts.{Left, Facts, IsFirm, least_of, fill_of, firsts_of}
use Rattle.pearl_grammar.proofs.RuleFacts.{part_is_local, rule_fills, rule_leads, rule_begins, rule_stands, rule_leaf}

pub record Walk {X : Type 0} (room : ℕ) (whole : List Token → Spelling X) (tokens : List Token) (from low : ℕ)
    (rule : Rule) (facts : Facts rule) (early : Option What → Bool) (at stop : ℕ) : Type 0 where
  pub goes : (others : List Token) → BeginAlike tokens others stop → (x : X) (to : ℕ) → whole others from x to →
      Left rule others at to ⊎ EndsEarly early others at to
  pub level : State room whole tokens from low (Left rule) at stop
  pub firm : IsFirm rule facts
  pub near : from ≤ stop
  pub inside : stop ≤ length tokens

-- a part was read behind what was stopped at `low`; `other` is how all is told that begins where it does
pub record TookAs {Y Z : Type 0} (inner : ℕ) (spells : List Token → Spelling Y) (other : List Token → Spelling Z)
    (extends : Option What → Bool) (tokens : List Token) (at low : ℕ) (y : Y) (end stop : ℕ) : Type 0 where
  pub spelled : spells tokens at y end
  pub longest : IsLongest other extends tokens at end stop
  pub bounds : StopsWithin tokens at low end stop
  pub least : GoesBehind inner spells tokens at low end stop

-- told by the same words
abbrev pub Took : {Y : Type 0} → ℕ → (List Token → Spelling Y) → (Option What → Bool) → List Token → ℕ → ℕ → Y → ℕ → ℕ →
    Type 0
Took inner spells extends tokens at low y end stop = TookAs inner spells spells extends tokens at low y end stop

-- no part was read there
pub record Lacks {Y : Type 0} (inner : ℕ) (spells : List Token → Spelling Y) (tokens : List Token) (at low : ℕ)
    (halt : Halt) : Type 0 where
  pub refused : IsStopped spells tokens at low halt
  pub least : HaltsBehind inner spells tokens at low halt

-- a whole that goes on by other words
pub state_as : {X : Type 0} (room : ℕ) (whole : List Token → Spelling X) (tokens : List Token) (from low : ℕ)
    (rest next : Rest) (at to stop new : ℕ) → State room whole tokens from low rest at stop → at ≤ to → to ≤ length tokens →
    (new ≡ stop) ⊎ (new ≡ max stop at) →
    ((others : List Token) → AlikeBefore tokens others to → (end : ℕ) → next others to end → rest others at end) →
    State room whole tokens from low next to new
state_as room whole tokens from low rest next at to stop new a ahead within is by = made is (order a.own at)
  where
    comes : (others : List Token) → AlikeBefore tokens others to → (end : ℕ) → end < 2 ^ 63 → next others to end →
        (x : _) × whole others from x end
    comes others alike end small h = a.comes others (λ j below. alike j (omega arith)) end small (by others alike end h)

    told : (a.own ≤ at) ⊎ ReachesIn room whole tokens from a.own → (a.own ≤ to) ⊎ ReachesIn room whole tokens from a.own
    told (inl e) = inl (omega arith)
    told (inr r) = inr r

    kept : new ≡ max a.own low → State room whole tokens from low next to new
    kept same = record {
      own = a.own;
      told = told a.told;
      is = same;
      comes = comes;
      near = omega (arith, a.near);
      inside = within;
      reach = a.reach;
      few = a.few;
      small = a.small;
    }

    made : (new ≡ stop) ⊎ (new ≡ max stop at) → (a.own < at) ⊎ (at ≤ a.own) → State room whole tokens from low next to new
    made (inl same) o = kept (omega (arith, same, a.is))
    made (inr same) (inr above) = kept (omega (arith, same, a.is, above))
    made (inr same) (inl below) = record {
      own = at;
      told = inl ahead;
      is = omega (arith, same, a.is, below);
      comes = comes;
      near = omega (arith, a.near);
      inside = within;
      reach = a.inside;
      few = a.few;
      small = a.small;
    }

-- ---- the beginning

module _ {X : Type 0} {room : ℕ} {whole : List Token → Spelling X} {tokens : List Token} {from low : ℕ} where
  pub opened : {rule : Rule} {facts : Facts rule} {stop : ℕ} → IsFirm rule facts → Makes whole (Left rule) →
      ((others : List Token) → BeginAlike tokens others stop → (x : X) (to : ℕ) → whole others from x to →
      Left rule others from to) → from ≤ length tokens → low ≤ length tokens →
      stop ≡ max from low → length tokens < 2 ^ 55 → room ≤ 2 ^ 55 →
      Walk room whole tokens from low rule facts never from stop
  opened {rule} {facts} {stop} firm makes goes inside within is few small = record {
    goes = λ others agree x to h. inl (goes others agree x to h);
    level = states.first room whole tokens from low (Left rule) from stop makes small (omega arith) is inside few;
    firm = firm;
    near = omega (arith, is);
    inside = omega (arith, is);
  }

-- ---- what is left of a whole that may have ended

module _ {A B : Type 0} where
  later : (early : Option What → Bool) (others : List Token) (at end to : ℕ) → at ≤ end →
      (A → B) → A ⊎ EndsEarly early others at to → B ⊎ EndsEarly early others end to
  later early others at end to near step (inl a) = inl (step a)
  later early others at end to near step (inr e) = inr (omega (arith, e.0), e.1)

module _ {X : Type 0} {room : ℕ} {whole : List Token → Spelling X} {tokens : List Token} {from low : ℕ}
    {early : Option What → Bool} where
  -- the place of the token there
  pub mark_read : {rest : Rule} {facts : Facts rest} {at stop : ℕ} →
      Walk room whole tokens from low (Mark rest) facts early at stop →
      Walk room whole tokens from low rest facts early at stop
  mark_read {rest} {facts} {at} {stop} a = record {
    goes = λ others agree x to h. later early others at at to (omega arith) (λ g. (g.0.1, g.1.1)) (a.goes others agree x to h);
    level = state_as room whole tokens from low (Left (Mark rest)) (Left rest) at at stop stop a.level (omega arith)
        a.level.inside (inl refl) (λ others alike end h.
        let place = placed_within others at (rule_stands rest facts a.firm.1 a.firm.0 others at h.0 end h.1) in
        ((place.0, h.0), (place.1, h.1)));
    firm = a.firm.1;
    near = a.near;
    inside = a.inside;
  }

  -- a token
  pub token_read : {token : What} {rest : Rule} {facts : Facts (Behind token rest)} {at stop next : ℕ} →
      Walk room whole tokens from low (Behind token rest) facts early at stop → next ≡ at + 1 →
      what_at tokens at ≡ Some token → at < length tokens →
      Walk room whole tokens from low rest facts.1 early next stop
  token_read {token} {rest} {facts} {at} {stop} {next} a is here within =
      subst (λ k. Walk room whole tokens from low rest facts.1 early k stop) (sym is) (record {
        goes = λ others agree x to h. later early others at (at + 1) to (omega arith) (λ g. (g.0, g.1.1))
            (a.goes others agree x to h);
        level = state_as room whole tokens from low (Left (Behind token rest)) (Left rest) at (at + 1) stop stop a.level
            (omega arith) (omega arith) (inl refl)
            (λ others alike end h. (h.0, (local.what tokens others (at + 1) alike at (omega arith) ∙ here, h.1)));
        firm = a.firm;
        near = a.near;
        inside = a.inside;
      })

  -- a part of one token
  pub one_read : {Y : Type 0} {spells : List Token → Spelling Y} {rest : Rule} {facts : Facts (Then (One Y spells) rest)}
      {at stop next : ℕ} {y : Y} → Walk room whole tokens from low (Then (One Y spells) rest) facts early at stop →
      ((others : List Token) (k : ℕ) (x : Y) (to : ℕ) → spells others k x to → to ≡ k + 1) → next ≡ at + 1 →
      spells tokens at y (at + 1) → at < length tokens → Walk room whole tokens from low rest facts.1 early next stop
  one_read {Y} {spells} {rest} {facts} {at} {stop} {next} {y} a one is h within =
      subst (λ k. Walk room whole tokens from low rest facts.1 early k stop) (sym is) (record {
        goes = λ others agree x to h. later early others at (at + 1) to (omega arith)
            (λ g. (g.0.1, subst (λ k. Spells rest others k g.0.1 to) (one others at g.0.0 g.1.0 g.1.1) g.1.2))
            (a.goes others agree x to h);
        level = state_as room whole tokens from low (Left (Then (One Y spells) rest)) (Left rest) at (at + 1) stop stop a.level
            (omega arith) (omega arith) (inl refl) (λ others alike end g. (
              (y, g.0),
              (at + 1, part_is_local (One Y spells) facts.0 tokens others (at + 1) alike at y (at + 1) h (omega arith), g.1),
            ));
        firm = a.firm;
        near = a.near;
        inside = a.inside;
      })

  -- what is left, as one part
  pub as_one : {rule : Rule} {facts : Facts rule} {at stop : ℕ}
      (a : Walk room whole tokens from low rule facts early at stop) →
      Walk room whole tokens from low (Then (One (Held rule) (Spells rule)) End) (rule_leaf rule facts a.firm, tt) early at stop
  as_one {rule} {facts} {at} {stop} a = record {
    goes = λ others agree x to h. later early others at at to (omega arith) (λ g. ((g.0, tt), (to, g.1, refl)))
        (a.goes others agree x to h);
    level = state_as room whole tokens from low (Left rule) (Left (Then (One (Held rule) (Spells rule)) End)) at at stop stop
        a.level (omega arith) a.level.inside (inl refl)
        (λ others alike end h. (h.0.0, subst (λ k. Spells rule others at h.0.0 k) (sym h.1.2) h.1.1));
    firm = tt;
    near = a.near;
    inside = a.inside;
  }

  -- ---- a part

  module _ {part : Part} {rest : Rule} {facts : Facts (Then part rest)} {at stop : ℕ}
      (a : Walk room whole tokens from low (Then part rest) facts early at stop) where
    before : State room whole tokens from low (Next (SpellsPart part) (Left rest)) at stop
    before = state_as room whole tokens from low (Left (Then part rest)) (Next (SpellsPart part) (Left rest)) at at stop stop
        a.level (omega arith) a.level.inside (inl refl) (λ others alike to h. ((h.0, h.3.0), (h.1, h.2, h.3.1)))

    -- it has one end, since no token that goes on with it begins what is left, with which other words tell it
    pub part_read_as : {Z : Type 0} {other : List Token → Spelling Z} {inner : ℕ} {extends : Option What → Bool}
        {y : Value part} {end new : ℕ} → TookAs inner (SpellsPart part) other extends tokens at stop y end new →
        ((others : List Token) (x : Value part) (m to : ℕ) → SpellsPart part others at x m → Left rest others m to →
        (z : Z) × other others at z m) → AllAnswer false extends (firsts_of rest facts.1) → 1 ≤ least_of rest facts.1 →
        inner + fill_of rest facts.1 + 8 * from ≤ room + 8 * at → fill_of rest facts.1 ≤ room →
        Walk room whole tokens from low rest facts.1 early end new
    part_read_as {Z} {other} {inner} {extends} {y} {end} {new} t told none solid fits few = record {
      goes = λ others agree x to h. by others agree to
          (a.goes others (shorter tokens others stop new (omega (arith, t.bounds)) agree) x to h);
      level = states.past_part room whole tokens from low (fill_of rest facts.1) inner (SpellsPart part)
          (Left rest) (part_is_local part facts.0) (rule_fills rest facts.1 a.firm) few at stop fits before y end new
          t.spelled (omega (arith, t.bounds)) (omega (arith, t.bounds)) t.least;
      firm = a.firm;
      near = omega (arith, t.bounds, a.near);
      inside = omega (arith, t.bounds);
    }
      where
        met : (others : List Token) (m to : ℕ) → Left rest others m to → (m ≡ end) ⊎ EndsEarly extends others end m →
            Left rest others end to
        met others m to g (inl same) = subst (λ k. Left rest others k to) same g
        met others m to g (inr e) = absurd (clash _ e.1 (answers false extends (firsts_of rest facts.1) (what_at others m)
            none (rule_begins rest facts.1 a.firm solid others m g.0 to g.1)))

        by : (others : List Token) → BeginAlike tokens others new → (to : ℕ) →
            Left (Then part rest) others at to ⊎ EndsEarly early others at to →
            Left rest others end to ⊎ EndsEarly early others end to
        by others agree to (inl g) =
            let left : Left rest others g.1.0 to = (g.0.1, g.1.2) in
            let z = told others g.0.0 g.1.0 to g.1.1 left in
            inl (met others g.1.0 to left (t.longest others agree z.0 g.1.0 z.1))
        by others agree to (inr e) = inr (omega (arith, e.0, t.bounds), e.1)

    module _ {inner : ℕ} {extends : Option What → Bool} {y : Value part} {end new : ℕ}
        (t : Took inner (SpellsPart part) extends tokens at stop y end new) where
      behind_part : inner + fill_of rest facts.1 + 8 * from ≤ room + 8 * at → fill_of rest facts.1 ≤ room →
          State room whole tokens from low (Left rest) end new
      behind_part fits few = states.past_part room whole tokens from low (fill_of rest facts.1) inner (SpellsPart part)
          (Left rest) (part_is_local part facts.0) (rule_fills rest facts.1 a.firm) few at stop fits before y end new
          t.spelled (omega (arith, t.bounds)) (omega (arith, t.bounds)) t.least

      -- what begins as the whole does goes on by the rest, or the part was shorter
      shorter_or : (others : List Token) → BeginAlike tokens others new → (x : X) (to : ℕ) → whole others from x to →
          (Left rest others end to ⊎ ((m : ℕ) × Left rest others m to × EndsEarly extends others end m)) ⊎
          EndsEarly early others end to
      shorter_or others agree x to h =
          by (a.goes others (shorter tokens others stop new (omega (arith, t.bounds)) agree) x to h)
        where
          met : (m : ℕ) → Left rest others m to → (m ≡ end) ⊎ EndsEarly extends others end m →
              Left rest others end to ⊎ ((m : ℕ) × Left rest others m to × EndsEarly extends others end m)
          met m g (inl same) = inl (subst (λ k. Left rest others k to) same g)
          met m g (inr e) = inr (m, g, e)

          by : Left (Then part rest) others at to ⊎ EndsEarly early others at to →
              (Left rest others end to ⊎ ((m : ℕ) × Left rest others m to × EndsEarly extends others end m)) ⊎
              EndsEarly early others end to
          by (inl g) = inl (met g.1.0 (g.0.1, g.1.2) (t.longest others agree g.0.0 g.1.0 g.1.1))
          by (inr e) = inr (omega (arith, e.0, t.bounds), e.1)

      pub part_read : AllAnswer false extends (firsts_of rest facts.1) → 1 ≤ least_of rest facts.1 →
          inner + fill_of rest facts.1 + 8 * from ≤ room + 8 * at → fill_of rest facts.1 ≤ room →
          Walk room whole tokens from low rest facts.1 early end new
      part_read = part_read_as t (λ others x m to h g. (x, h))

      -- what is left may be empty: then a whole may end where the part does
      pub part_taken : AllAnswer false extends (firsts_of rest facts.1) →
          inner + fill_of rest facts.1 + 8 * from ≤ room + 8 * at → fill_of rest facts.1 ≤ room →
          Walk room whole tokens from low rest facts.1 (λ token. early token || extends token) end new
      part_taken none fits few = record {
        goes = λ others agree x to h. by others to (shorter_or others agree x to h);
        level = behind_part fits few;
        firm = a.firm;
        near = omega (arith, t.bounds, a.near);
        inside = omega (arith, t.bounds);
      }
        where
          ended : (others : List Token) (to m : ℕ) → EndsEarly extends others end m →
              (to ≡ m) ⊎ Among (firsts_of rest facts.1) (what_at others m) →
              Left rest others end to ⊎ EndsEarly (λ token. early token || extends token) others end to
          ended others to m e (inl same) = inr (
            omega (arith, e.0, same),
            or_second (early (what_at others to)) (extends (what_at others to))
                (ap (λ k. extends (what_at others k)) same ∙ e.1),
          )
          ended others to m e (inr some) =
              absurd (clash _ e.1 (answers false extends (firsts_of rest facts.1) (what_at others m) none some))

          one : (others : List Token) (to : ℕ) →
              Left rest others end to ⊎ ((m : ℕ) × Left rest others m to × EndsEarly extends others end m) →
              Left rest others end to ⊎ EndsEarly (λ token. early token || extends token) others end to
          one others to (inl g) = inl g
          one others to (inr g) = ended others to g.0 g.2 (rule_leads rest facts.1 others g.0 g.1.0 to g.1.1)

          by : (others : List Token) (to : ℕ) →
              (Left rest others end to ⊎ ((m : ℕ) × Left rest others m to × EndsEarly extends others end m)) ⊎
              EndsEarly early others end to →
              Left rest others end to ⊎ EndsEarly (λ token. early token || extends token) others end to
          by others to (inl g) = one others to g
          by others to (inr e) = inr (e.0, or_first (early (what_at others to)) (extends (what_at others to)) e.1)

    -- a part that has one end
    pub only_read : {inner : ℕ} {y : Value part} {end new : ℕ} →
        Took inner (SpellsPart part) never tokens at stop y end new →
        inner + fill_of rest facts.1 + 8 * from ≤ room + 8 * at → fill_of rest facts.1 ≤ room →
        Walk room whole tokens from low rest facts.1 early end new
    only_read {inner} {y} {end} {new} t fits few = record {
      goes = λ others agree x to h. by others to (shorter_or t others agree x to h);
      level = behind_part t fits few;
      firm = a.firm;
      near = omega (arith, t.bounds, a.near);
      inside = omega (arith, t.bounds);
    }
      where
        one : (others : List Token) (to : ℕ) →
            Left rest others end to ⊎ ((m : ℕ) × Left rest others m to × EndsEarly never others end m) →
            Left rest others end to
        one others to (inl g) = g
        one others to (inr g) = absurd (clash _ g.2.1 refl)

        by : (others : List Token) (to : ℕ) →
            (Left rest others end to ⊎ ((m : ℕ) × Left rest others m to × EndsEarly never others end m)) ⊎
            EndsEarly early others end to → Left rest others end to ⊎ EndsEarly early others end to
        by others to (inl g) = inl (one others to g)
        by others to (inr e) = inr e

  -- ---- a choice, by the token that stands there

  module _ {first second : Rule} {facts : Facts (Or first second)} {at stop new : ℕ} (answer : Bool)
      (test : Option What → Bool) (a : Walk room whole tokens from low (Or first second) facts early at stop)
      (is : new ≡ max stop at) where
    here : (others : List Token) → BeginAlike tokens others new → test (what_at tokens at) ≡ answer →
        test (what_at others at) ≡ answer
    here others agree e = ap test (sym (agree at (omega (arith, is)))) ∙ e

    pub first_chosen : test (what_at tokens at) ≡ true → AllAnswer false test (firsts_of second facts.1) →
        1 ≤ least_of second facts.1 → Walk room whole tokens from low first facts.0 early at new
    first_chosen there none solid = record {
      goes = λ others agree x to h. later early others at at to (omega arith)
          (λ g. by others to (ap test (sym (agree at (omega (arith, is)))) ∙ there) g.0 g.1)
          (a.goes others (shorter tokens others stop new (omega (arith, is)) agree) x to h);
      level = state_as room whole tokens from low (Left (Or first second)) (Left first) at at stop new a.level (omega arith)
          a.level.inside (inr is) (λ others alike end h. (First h.0, h.1));
      firm = a.firm.0;
      near = omega (arith, is, a.near);
      inside = omega (arith, is, a.inside, a.level.inside);
    }
      where
        by : (others : List Token) (to : ℕ) → test (what_at others at) ≡ true → (x : Held (Or first second)) →
            Spells (Or first second) others at x to → Left first others at to
        by others to there (First x) h = (x, h)
        by others to there (Second x) h = absurd (clash _ there (answers false test (firsts_of second facts.1)
            (what_at others at) none (rule_begins second facts.1 a.firm.1 solid others at x to h)))

    pub second_chosen : test (what_at tokens at) ≡ false → AllAnswer true test (firsts_of first facts.0) →
        1 ≤ least_of first facts.0 → Walk room whole tokens from low second facts.1 early at new
    second_chosen there all solid = record {
      goes = λ others agree x to h. later early others at at to (omega arith)
          (λ g. by others to (ap test (sym (agree at (omega (arith, is)))) ∙ there) g.0 g.1)
          (a.goes others (shorter tokens others stop new (omega (arith, is)) agree) x to h);
      level = state_as room whole tokens from low (Left (Or first second)) (Left second) at at stop new a.level (omega arith)
          a.level.inside (inr is) (λ others alike end h. (Second h.0, h.1));
      firm = a.firm.1;
      near = omega (arith, is, a.near);
      inside = omega (arith, is, a.inside, a.level.inside);
    }
      where
        by : (others : List Token) (to : ℕ) → test (what_at others at) ≡ false → (x : Held (Or first second)) →
            Spells (Or first second) others at x to → Left second others at to
        by others to there (First x) h = absurd (clash _ (answers true test (firsts_of first facts.0)
            (what_at others at) all (rule_begins first facts.0 a.firm.0 solid others at x to h)) there)
        by others to there (Second x) h = (x, h)

-- ---- nothing is read

left : (rest : Rest) (others : List Token) (at to : ℕ) → rest others at to ⊎ EndsEarly never others at to → rest others at to
left rest others at to (inl g) = g
left rest others at to (inr e) = absurd (clash _ e.1 refl)

module _ {X : Type 0} {room : ℕ} {whole : List Token → Spelling X} {tokens : List Token} {from low : ℕ} where
  -- no token stands there with which what is left begins
  pub lacking : {rule : Rule} {facts : Facts rule} {at stop k : ℕ} → Walk room whole tokens from low rule facts never at stop →
      (Among (firsts_of rule facts) (what_at tokens at) → ⊥) → 1 ≤ least_of rule facts → fill_of rule facts ≤ room →
      k ≡ max stop at → Lacks room whole tokens from low (Refused k)
  lacking {rule} {facts} {at} {stop} {k} a none solid few is = record {
    refused = (
      λ others agree x to h.
          let g = left (Left rule) others at to (a.goes others (shorter tokens others stop k (omega (arith, is)) agree) x to h) in
          none (subst (λ token. Among (firsts_of rule facts) token) (sym (agree at (omega (arith, is))))
          (rule_begins rule facts a.firm solid others at g.0 to g.1)),
      omega (arith, is, a.near),
      omega (arith, is, a.level.is),
      omega (arith, is, a.inside, a.level.inside),
    );
    least = states.halt_token room whole tokens from low (fill_of rule facts) (Left rule) (rule_fills rule facts a.firm) few
        at stop k a.level is;
  }

  -- known by a test
  pub missing : {rule : Rule} {facts : Facts rule} {at stop k : ℕ} (wanted : Option What → Bool) →
      Walk room whole tokens from low rule facts never at stop → wanted (what_at tokens at) ≡ false →
      AllAnswer true wanted (firsts_of rule facts) → 1 ≤ least_of rule facts → fill_of rule facts ≤ room → k ≡ max stop at →
      Lacks room whole tokens from low (Refused k)
  missing {rule} {facts} {at} {stop} {k} wanted a absent all solid few is =
      lacking a (λ some. clash _ (answers true wanted (firsts_of rule facts) (what_at tokens at) all some) absent) solid few is

  -- a part is missing, where what stands there is also told by other words
  pub part_missing_as : {Y : Type 0} (other : List Token → Spelling Y) (inner : ℕ) {part : Part} {rest : Rule}
      {facts : Facts (Then part rest)} {at stop : ℕ} {halt : Halt} →
      Walk room whole tokens from low (Then part rest) facts never at stop →
      ((others : List Token) (x : Value part) (m to : ℕ) → SpellsPart part others at x m → Left rest others m to →
      (y : Y) × (k : ℕ) × other others at y k) →
      IsStopped other tokens at stop halt → HaltsBehind inner (SpellsPart part) tokens at stop halt →
      inner + fill_of rest facts.1 + 8 * from ≤ room + 8 * at → fill_of rest facts.1 ≤ room →
      Lacks room whole tokens from low halt
  part_missing_as {Y} other inner {part} {rest} {facts} {at} {stop} {halt} a told refused least fits few = record {
    refused = by halt refused;
    least = states.halt_part room whole tokens from low (fill_of rest facts.1) inner (SpellsPart part) (Left rest)
        (part_is_local part facts.0) (rule_fills rest facts.1 a.firm) few at stop fits (before a) halt least;
  }
    where
      by : (halt : Halt) → IsStopped other tokens at stop halt → IsStopped whole tokens from low halt
      by NoMemory h = tt
      by (Refused k) h = (
        λ others agree x to w.
            let g = left (Left (Then part rest)) others at to (a.goes others (shorter tokens others stop k h.2 agree) x to w) in
            let y = told others g.0.0 g.1.0 to g.1.1 (g.0.1, g.1.2) in h.0 others agree y.0 y.1 y.2,
        omega (arith, h.2, a.near),
        omega (arith, h.2, a.level.is),
        h.3,
      )

  -- a part is missing
  pub part_missing : {inner : ℕ} {part : Part} {rest : Rule} {facts : Facts (Then part rest)} {at stop : ℕ} {halt : Halt} →
      Walk room whole tokens from low (Then part rest) facts never at stop → Lacks inner (SpellsPart part) tokens at stop halt →
      inner + fill_of rest facts.1 + 8 * from ≤ room + 8 * at → fill_of rest facts.1 ≤ room →
      Lacks room whole tokens from low halt
  part_missing {inner} {part} {rest} {facts} {at} {stop} {halt} a t fits few =
      part_missing_as (SpellsPart part) inner a (λ others x m to h g. (x, m, h)) t.refused t.least fits few
