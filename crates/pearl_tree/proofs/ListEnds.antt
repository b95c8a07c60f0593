-- Where lists of parts end, from where their parts end.
use Rattle.std.proofs.Common.{◌≡◌, inl, inr, ℕ, ◌+◌, ◌<◌, ◌≤◌, List, [], ◌∷◌, ◌++◌, sym, subst, ◌∙◌, arith}
use Rattle.pearl_tree.specs.declared.token.Token.{Token}
use Rattle.pearl_tree.specs.Standing.{Spelling, HasSymbol, SpellsEach, SpellsMore, SpellsList}
use Rattle.pearl_tree.specs.Following.{Meet}
use Rattle.pearl_tree.specs.declared.symbol.TheConstants as s
use Rattle.pearl_tree.proofs.Meeting.{meets_once}

-- parts of which all that begin at a token end at the same one
module _ {X : Type 0} (spells : Spelling X) (goes : ℕ → Type 0)
    (after : (from : ℕ) (x : X) (to : ℕ) → spells from x to → from < to)
    (begins : (from : ℕ) (x : X) (to : ℕ) → spells from x to → goes from)
    (once : (from : ℕ) (x y : X) (to end : ℕ) → spells from x to → spells from y end → to ≡ end) where
  pub each_after : (xs : List X) (from to : ℕ) → SpellsEach spells from xs to → from ≤ to
  each_after [] from to h = omega (arith, h)
  each_after (x ∷ xs) from to h = omega (arith, after from x h.0 h.1, each_after xs h.0 to h.2)

  pub each_meets : (xs ys : List X) (from to end : ℕ) → SpellsEach spells from xs to → SpellsEach spells from ys end → Meet goes to end
  each_meets [] [] from to end h g = inl (h ∙ sym g)
  each_meets [] (y ∷ ys) from to end h g =
      inr (inl (omega (arith, h, after from y g.0 g.1, each_after ys g.0 end g.2), subst goes (sym h) (begins from y g.0 g.1)))
  each_meets (x ∷ xs) [] from to end h g =
      inr (inr (omega (arith, g, after from x h.0 h.1, each_after xs h.0 to h.2), subst goes (sym g) (begins from x h.0 h.1)))
  each_meets (x ∷ xs) (y ∷ ys) from to end h g =
      let same = once from x y h.0 g.0 h.1 g.1 in
      each_meets xs ys g.0 to end (subst (λ k. SpellsEach spells k xs to) same h.2) g.2

-- parts that end at the same token, or the shorter one before a token that is neither a comma nor what ends the list
module _ {X : Type 0} (tokens : List Token) (spells : Spelling X) (goes closes : ℕ → Type 0)
    (meets : (from : ℕ) (x y : X) (to end : ℕ) → spells from x to → spells from y end → Meet goes to end)
    (no_comma : (k : ℕ) → HasSymbol tokens k s.COMMA → goes k → ⊥)
    (no_close : (k : ℕ) → closes k → goes k → ⊥)
    (apart : (k : ℕ) → HasSymbol tokens k s.COMMA → closes k → ⊥) where
  -- a list that goes on from there, or ends there, doesn't lengthen the part before it
  still : (xs : List X) (from to : ℕ) → SpellsMore tokens spells from xs to → closes to → goes from → ⊥
  still [] from to h c g = no_close from (subst closes h c) g
  still (x ∷ xs) from to h c g = no_comma from h.1 g

  pub more_once : (xs ys : List X) (from to end : ℕ) → SpellsMore tokens spells from xs to → closes to →
      SpellsMore tokens spells from ys end → closes end → to ≡ end
  more_once [] [] from to end h c g d = h ∙ sym g
  more_once [] (y ∷ ys) from to end h c g d = absurd (apart from g.1 (subst closes h c))
  more_once (x ∷ xs) [] from to end h c g d = absurd (apart from h.1 (subst closes g d))
  more_once (x ∷ xs) (y ∷ ys) from to end h c g d =
      let same = meets_once goes (still xs h.0 to h.3 c) (still ys g.0 end g.3 d) (meets (from + 1) x y h.0 g.0 h.2 g.2) in
      more_once xs ys g.0 to end (subst (λ k. SpellsMore tokens spells k xs to) same h.3) c g.3 d

  pub list_once : (xs ys : List X) (from to end : ℕ) → SpellsList tokens spells from xs to → closes to →
      SpellsList tokens spells from ys end → closes end → to ≡ end
  list_once [] ys from to end h c g d = absurd h
  list_once (x ∷ xs) [] from to end h c g d = absurd g
  list_once (x ∷ xs) (y ∷ ys) from to end h c g d =
      let same = meets_once goes (still xs h.0 to h.2 c) (still ys g.0 end g.2 d) (meets from x y h.0 g.0 h.1 g.1) in
      more_once xs ys g.0 to end (subst (λ k. SpellsMore tokens spells k xs to) same h.2) c g.2 d

module _ {X : Type 0} (spells : Spelling X) where
  pub each_joined : (xs ys : List X) (from m to : ℕ) → SpellsEach spells from xs m → SpellsEach spells m ys to → SpellsEach spells from (xs ++ ys) to
  each_joined [] ys from m to h g = subst (λ k. SpellsEach spells k ys to) h g
  each_joined (x ∷ xs) ys from m to h g = (h.0, h.1, each_joined xs ys h.0 m to h.2 g)
