-- Parts that stand one after the other: how far some of them go on, behind those that were read.
use Rattle.std.proofs.Common.{◌≡◌, ℕ, ◌<◌, ◌≤◌, ◌⊎◌, inl, inr, max, List, refl, arith}
use Rattle.pearl_tree.specs.declared.token.Token.{Token}
use Rattle.pearl_tree.specs.Standing.{Spelling, SpellsEach}
use Rattle.pearl_parse_expr.specs.declared.reading.Halt.{Halt}
use Rattle.pearl_parse_expr.specs.declared.reading.Halt.TheVariants.{Refused}
use Rattle.pearl_parse_expr.specs.Least.{ReachesIn, GoesIn, HaltsIn}
use Rattle.pearl_parse_expr.proofs.Offered.{order, reached_halt, each_goes_on}
use Rattle.pearl_parse_decl.proofs.Offered.{Kept}
use Rattle.pearl_grammar.specs.Reached.{GoesBehind}

module _ {X : Type 0} (spells : List Token → Spelling X) (tokens : List Token) (from low : ℕ) where
  abbrev pub Each : List Token → Spelling (List X)
  Each tokens = SpellsEach (spells tokens)

  -- no parts
  pub none_least : (stop : ℕ) → stop ≡ max from low → GoesBehind 24 Each tokens from low from stop
  none_least stop is = (from, omega arith, record { goes = inl refl }, is)

  module _ (n : ℕ) (kept : Kept n spells) (xs : List X) (end stop : ℕ) (h : SpellsEach (spells tokens) from xs end)
      (t : GoesBehind 24 Each tokens from low end stop) where
    -- behind one more part
    pub next_least : (next own new : ℕ) → end < next → next ≤ own → GoesIn 24 spells tokens end next own →
        new ≡ max stop own → GoesBehind 24 Each tokens from low next new
    next_least next own new ahead near g is = by (order t.0 own) g.goes
      where
        behind : own ≤ t.0 → (t.0 ≡ end) ⊎ ReachesIn 24 Each tokens from t.0 → ReachesIn 24 Each tokens from t.0
        behind far (inl same) = absurd (omega arith)
        behind far (inr r) = r

        by : (t.0 < own) ⊎ (own ≤ t.0) → (own ≡ next) ⊎ ReachesIn 24 spells tokens end own →
            GoesBehind 24 Each tokens from low next new
        by (inl e) (inl same) = (own, near, record { goes = inl same }, omega (arith, is, t.3))
        by (inl e) (inr r) = (
          own,
          near,
          record {
            goes = inr (each_goes_on n 24 spells kept tokens from own xs end h
                (omega arith) r);
          },
          omega (arith, is, t.3),
        )
        by (inr e) any = (t.0, omega arith, record { goes = inr (behind e t.2.goes) }, omega (arith, is, t.3))

    -- where no further part begins
    pub end_least : (halt : Halt) (at new : ℕ) → halt ≡ Refused at → HaltsIn 24 spells tokens end halt → end ≤ at →
        new ≡ max stop at → GoesBehind 24 Each tokens from low end new
    end_least halt at new same r near is = by (order t.0 at)
      where
        by : (t.0 < at) ⊎ (at ≤ t.0) → GoesBehind 24 Each tokens from low end new
        by (inl e) = (
          at,
          near,
          record {
            goes = inr (each_goes_on n 24 spells kept tokens from at xs end h near
                (reached_halt spells tokens end at halt same r));
          },
          omega (arith, is, t.3),
        )
        by (inr e) = (t.0, t.1, t.2, omega (arith, is, t.3))
