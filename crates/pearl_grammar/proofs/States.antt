-- How far a reader has come: what completes the part that it reads, and as far as which token some part goes on.
use Rattle.std.proofs.Common.{◌≡◌, ℕ, ◌+◌, ◌*◌, ◌<◌, ◌≤◌, ◌^◌, ◌⊎◌, inl, inr, max, List, length}
use Rattle.std.proofs.Common.{refl, sym, subst, arith}
use Rattle.pearl_tree.specs.declared.token.Token.{Token}
use Rattle.pearl_tree.specs.Standing.{Spelling}
use Rattle.pearl_parse_expr.specs.declared.reading.Halt.{Halt}
use Rattle.pearl_parse_expr.specs.declared.reading.Halt.TheVariants.{Refused, NoMemory}
use Rattle.pearl_parse_expr.specs.Least.{ReachesIn, GoesIn, HaltsIn}
use Rattle.pearl_parse_expr.proofs.Offered.{order, IsLocal}
use Rattle.pearl_grammar.specs.Reached.{GoesBehind, HaltsBehind}
use Rattle.pearl_grammar.proofs.Rests.{Rest, Ends, Next, Fills, Makes, Comes, come_past, state_reaches, part_reaches}
use Rattle.pearl_grammar.proofs.Rests.{read_reaches}

-- whatever makes `rest` behind the tokens before number `at` makes a whole part from `from`, and some goes on as far as
-- `own`, or `own` is no later than `at`; `stop` is the later one of `own` and `low`
pub record State {X : Type 0} (room : ℕ) (whole : List Token → Spelling X) (tokens : List Token) (from low : ℕ)
    (rest : Rest) (at stop : ℕ) : Type 0 where
  pub own : ℕ
  pub told : (own ≤ at) ⊎ ReachesIn room whole tokens from own
  pub is : stop ≡ max own low
  pub comes : Comes whole tokens from rest at
  pub near : from ≤ at
  pub inside : at ≤ length tokens
  pub reach : own ≤ length tokens
  pub few : length tokens < 2 ^ 55
  pub small : room ≤ 2 ^ 55

module _ {X : Type 0} (room : ℕ) (whole : List Token → Spelling X) (tokens : List Token) (from low : ℕ) where
  abbrev pub At : Rest → ℕ → ℕ → Type 0
  At = State room whole tokens from low

  pub first : (rest : Rest) (own stop : ℕ) → Makes whole rest → room ≤ 2 ^ 55 → own ≤ from → stop ≡ max own low →
      from ≤ length tokens → length tokens < 2 ^ 55 → At rest from stop
  first rest own stop makes small before is inside few = record {
    own = own;
    told = inl before;
    is = is;
    comes = λ others alike to small h. makes others from to small h;
    near = omega arith;
    inside = inside;
    reach = omega arith;
    few = few;
    small = small;
  }

  pub moved : (rest next : Rest) (at stop to : ℕ) → At rest at stop → at ≤ to → to ≤ length tokens →
      Comes whole tokens from next to → At next to stop
  moved rest next at stop to a ahead inside comes = record {
    own = a.own;
    told = by a.told;
    is = a.is;
    comes = comes;
    near = omega (arith, a.near);
    inside = inside;
    reach = a.reach;
    few = a.few;
    small = a.small;
  }
    where
      by : (a.own ≤ at) ⊎ ReachesIn room whole tokens from a.own → (a.own ≤ to) ⊎ ReachesIn room whole tokens from a.own
      by (inl e) = inl (omega arith)
      by (inr r) = inr r

  -- told no earlier than at a token that was read
  pub raised : (rest : Rest) (at stop new : ℕ) → At rest at stop → low ≤ new → new ≤ at → At rest at new
  raised rest at stop new a above below = record {
    own = new;
    told = inl below;
    is = omega arith;
    comes = a.comes;
    near = a.near;
    inside = a.inside;
    reach = omega (arith, a.inside);
    few = a.few;
    small = a.small;
  }

  -- where some whole is known to go on as far as `new`
  pub elsewhere : (rest : Rest) (at stop new : ℕ) → At rest at stop → ReachesIn room whole tokens from new →
      new ≤ length tokens → low ≤ new → At rest at new
  elsewhere rest at stop new a r within above = record {
    own = new;
    told = inr r;
    is = omega arith;
    comes = a.comes;
    near = a.near;
    inside = a.inside;
    reach = within;
    few = a.few;
    small = a.small;
  }

  larger : (a b c : ℕ) → c ≡ max a b → (c ≡ a) ⊎ (c ≡ b)
  larger a b c is = by (order a b)
    where
      by : (a < b) ⊎ (b ≤ a) → (c ≡ a) ⊎ (c ≡ b)
      by (inl e) = inr (omega (arith, is))
      by (inr e) = inl (omega (arith, is))

  -- some whole goes on as far as `here`, no earlier than at `at`
  told_to : (at own here new : ℕ) → (own ≤ at) ⊎ ReachesIn room whole tokens from own → at ≤ here →
      ReachesIn room whole tokens from here → new ≡ max here own →
      ReachesIn room whole tokens from new
  told_to at own here new (inl e) near r is = let same : here ≡ new = omega (arith, is) in
      subst (λ k. ReachesIn room whole tokens from k) same r
  told_to at own here new (inr before) near r is = by (larger here own new is)
    where
      by : (new ≡ here) ⊎ (new ≡ own) → ReachesIn room whole tokens from new
      by (inl e) = subst (λ k. ReachesIn room whole tokens from k) (sym e) r
      by (inr e) = subst (λ k. ReachesIn room whole tokens from k) (sym e) before

  halts_at : (rest : Rest) (at stop here k : ℕ) → At rest at stop → at ≤ here → here ≤ length tokens →
      ReachesIn room whole tokens from here → k ≡ max here stop →
      HaltsBehind room whole tokens from low (Refused k)
  halts_at rest at stop here k a near inside r is = by (max here a.own) refl
    where
      by : (new : ℕ) → new ≡ max here a.own → HaltsBehind room whole tokens from low (Refused k)
      by new same = (
        new,
        omega (arith, a.near, same),
        omega (arith, a.reach, same),
        told_to at a.own here new a.told near r same,
        omega (arith, is, a.is, same),
      )

  module _ (n : ℕ) (rest : Rest) (fills : Fills n rest) (few : n ≤ room) where
    here_reaches : (at stop : ℕ) → At rest at stop → ReachesIn room whole tokens from at
    here_reaches at stop a = state_reaches whole tokens from room n rest at fills few a.small a.near a.inside a.few
        a.comes

    -- a token that is not there
    pub halt_token : (at stop k : ℕ) → At rest at stop → k ≡ max stop at → HaltsBehind room whole tokens from low (Refused k)
    halt_token at stop k a is = halts_at rest at stop at k a (omega arith) a.inside (here_reaches at stop a)
        (omega (arith, is))

  module _ {Y : Type 0} (n inner : ℕ) (spells : List Token → Spelling Y) (rest : Rest) (is_local : IsLocal spells)
      (fills : Fills n rest) (few : n ≤ room)
      (at stop : ℕ) (fits : inner + n + 8 * from ≤ room + 8 * at) (a : At (Next spells rest) at stop) where
    -- a part that is not there
    pub halt_part : (halt : Halt) → HaltsBehind inner spells tokens at stop halt →
        HaltsBehind room whole tokens from low halt
    halt_part NoMemory h = tt
    halt_part (Refused k) h =
        halts_at (Next spells rest) at stop h.0 k a h.1 h.2
        (part_reaches whole tokens from room n inner spells rest at h.0 is_local fills fits a.small h.1 h.2 a.few
        a.comes h.3) h.4

    -- behind a part that was read
    pub past_part : (y : Y) (end new : ℕ) → spells tokens at y end → at ≤ end → new ≤ length tokens →
        GoesBehind inner spells tokens at stop end new → At rest end new
    past_part y end new h ahead within t = by (max t.0 a.own) refl
      where
        by : (to : ℕ) → to ≡ max t.0 a.own → At rest end new
        by to same = record {
          own = to;
          told = inr
              (told_to at a.own t.0 to a.told (omega (arith, t.1))
              (read_reaches whole tokens from room n inner spells rest at end t.0 y is_local fills fits few a.small
              a.near ahead t.1 (omega (arith, t.3)) a.few a.comes h t.2.goes) same);
          is = omega (arith, t.3, a.is, same);
          comes = come_past whole tokens from spells rest at end y is_local ahead h a.comes;
          near = omega (arith, a.near);
          inside = omega (arith, t.1, t.3);
          reach = omega (arith, a.reach, same, t.3);
          few = a.few;
          small = a.small;
        }

  -- where the whole part was read
  pub done : (at stop new : ℕ) → At Ends at stop → new ≡ max stop at → GoesBehind room whole tokens from low at new
  done at stop new a is = by a.told (order at a.own)
    where
      by : (a.own ≤ at) ⊎ ReachesIn room whole tokens from a.own → (at < a.own) ⊎ (a.own ≤ at) →
          GoesBehind room whole tokens from low at new
      by told (inr e) = (at, omega arith, record { goes = inl refl }, omega (arith, is, a.is))
      by (inl e) (inl g) = absurd (omega arith)
      by (inr r) (inl g) = (a.own, omega arith, record { goes = inr r }, omega (arith, is, a.is))

-- ---- what is told is told without what stands before

module _ {X : Type 0} (room : ℕ) (whole : List Token → Spelling X) (tokens : List Token) (from low : ℕ)
    (near : low ≤ from) where
  pub halts_in : (halt : Halt) → HaltsBehind room whole tokens from low halt → HaltsIn room whole tokens from halt
  halts_in NoMemory h = tt
  halts_in (Refused k) h = let same : h.0 ≡ k = omega (arith, h.4, h.1) in
      subst (λ k. ReachesIn room whole tokens from k) same h.3

  pub goes_in_told : (end stop : ℕ) → from ≤ end → GoesBehind room whole tokens from low end stop →
      GoesIn room whole tokens from end stop
  goes_in_told end stop ahead h = let same : h.0 ≡ stop = omega (arith, h.3, h.1) in
      subst (λ k. GoesIn room whole tokens from end k) same h.2
