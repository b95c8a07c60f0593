-- How far a list was read is how far each list from the same token goes on that ends where it may end: then it ends
-- where the reading does, or there is none.
use Rattle.std.proofs.Common.{◌≡◌, ℕ, ◌+◌, List, [], ◌∷◌, subst}
use Rattle.pearl_tree.specs.declared.token.Token.{Token}
use Rattle.pearl_tree.specs.Standing.{Spelling, HasSymbol, SpellsEach, SpellsMore, SpellsList}
use Rattle.pearl_tree.specs.declared.symbol.TheConstants as s

-- { part }: `closes` holds of the tokens before which such a list may end, and no part begins with one of them
module _ {X : Type 0} (spells : Spelling X) (closes : ℕ → Type 0)
    (apart : (k : ℕ) (x : X) (to : ℕ) → spells k x to → closes k → ⊥) where
  -- each list from `from` that may end where it does passes through `at`
  abbrev pub EachPasses : ℕ → ℕ → Type 0
  EachPasses from at =
      (ys : List X) (end : ℕ) → SpellsEach spells from ys end → closes end → (rest : List X) × SpellsEach spells at rest end

  pub each_from : (from : ℕ) → EachPasses from from
  each_from from ys end g c = (ys, g)

  -- behind a part that has one end
  pub each_past : (from at : ℕ) → EachPasses from at → (to : ℕ) → (closes at → ⊥) →
      ((y : X) (end : ℕ) → spells at y end → end ≡ to) → EachPasses from to
  each_past from at passes to more one ys end g c = by (passes ys end g c)
    where
      by : (rest : List X) × SpellsEach spells at rest end → (rest : List X) × SpellsEach spells to rest end
      by ([], h) = absurd (more (subst closes h c))
      by (z ∷ zs, h) = (zs, subst (λ k. SpellsEach spells k zs end) (one z h.0 h.1) h.2)

  pub each_ends : (from at : ℕ) → EachPasses from at → closes at → (ys : List X) (end : ℕ) → SpellsEach spells from ys end → closes end → end ≡ at
  each_ends from at passes here ys end g c = by (passes ys end g c)
    where
      by : (rest : List X) × SpellsEach spells at rest end → end ≡ at
      by ([], h) = h
      by (z ∷ zs, h) = absurd (apart at z h.0 h.1 here)

  -- where the list may not end and no part begins, there is none
  pub each_none : (from at : ℕ) → EachPasses from at → (closes at → ⊥) → ((y : X) (end : ℕ) → spells at y end → ⊥) →
      (ys : List X) (end : ℕ) → SpellsEach spells from ys end → closes end → ⊥
  each_none from at passes more none ys end g c = by (passes ys end g c)
    where
      by : (rest : List X) × SpellsEach spells at rest end → ⊥
      by ([], h) = more (subst closes h c)
      by (z ∷ zs, h) = none z h.0 h.1

-- part { "," part }: `closes` holds of the tokens that may stand behind such a list, and a part stops before them and
-- before a comma
module _ {X : Type 0} (tokens : List Token) (spells : Spelling X) (stops closes : ℕ → Type 0)
    (comma_stops : (k : ℕ) → HasSymbol tokens k s.COMMA → stops k) (close_stops : (k : ℕ) → closes k → stops k)
    (apart : (k : ℕ) → HasSymbol tokens k s.COMMA → closes k → ⊥) where
  -- a part that begins at `from` and stops, ends at `to`
  abbrev pub StopsAt : ℕ → ℕ → Type 0
  StopsAt from to = (y : X) (end : ℕ) → spells from y end → stops end → end ≡ to

  abbrev pub ListPasses : ℕ → ℕ → Type 0
  ListPasses from at =
      (ys : List X) (end : ℕ) → SpellsList tokens spells from ys end → closes end → (rest : List X) × SpellsMore tokens spells at rest end

  stopped : (xs : List X) (from to : ℕ) → SpellsMore tokens spells from xs to → closes to → stops from
  stopped [] from to h c = close_stops from (subst closes h c)
  stopped (x ∷ xs) from to h c = comma_stops from h.1

  pub list_first : (from to : ℕ) → StopsAt from to → ListPasses from to
  list_first from to one [] end g c = absurd g
  list_first from to one (y ∷ ys) end g c =
      let same = one y g.0 g.1 (stopped ys g.0 end g.2 c) in
      (ys, subst (λ k. SpellsMore tokens spells k ys end) same g.2)

  pub list_next : (from at : ℕ) → ListPasses from at → HasSymbol tokens at s.COMMA → (to : ℕ) → StopsAt (at + 1) to → ListPasses from to
  list_next from at passes comma to one ys end g c = by (passes ys end g c)
    where
      by : (rest : List X) × SpellsMore tokens spells at rest end → (rest : List X) × SpellsMore tokens spells to rest end
      by ([], h) = absurd (apart at comma (subst closes h c))
      by (z ∷ zs, h) =
          let same = one z h.0 h.2 (stopped zs h.0 end h.3 c) in
          (zs, subst (λ k. SpellsMore tokens spells k zs end) same h.3)

  pub list_ends : (from at : ℕ) → ListPasses from at → closes at → (ys : List X) (end : ℕ) → SpellsList tokens spells from ys end → closes end → end ≡ at
  list_ends from at passes here ys end g c = by (passes ys end g c)
    where
      by : (rest : List X) × SpellsMore tokens spells at rest end → end ≡ at
      by ([], h) = h
      by (z ∷ zs, h) = absurd (apart at h.1 here)

  -- where the list may not end, and no comma stands with a part behind it, there is none
  pub list_none : (from at : ℕ) → ListPasses from at → (closes at → ⊥) →
      (HasSymbol tokens at s.COMMA → (y : X) (end : ℕ) → spells (at + 1) y end → ⊥) →
      (ys : List X) (end : ℕ) → SpellsList tokens spells from ys end → closes end → ⊥
  list_none from at passes more none ys end g c = by (passes ys end g c)
    where
      by : (rest : List X) × SpellsMore tokens spells at rest end → ⊥
      by ([], h) = more (subst closes h c)
      by (z ∷ zs, h) = none h.1 z h.0 h.2
