-- Parts that stand one after the other: what other tokens can spell that begin as these do, read up to some part.
use Rattle.std.proofs.Common.{◌≡◌, ℕ, ◌<◌, ◌≤◌, Bool, true, List, [], ◌∷◌, Option, ◌⊎◌, inl, inr, sym, ap, subst, ◌∙◌}
use Rattle.std.proofs.Common.{arith}
use Rattle.pearl_tree.specs.declared.token.What.{What}
use Rattle.pearl_tree.specs.declared.token.Token.{Token}
use Rattle.pearl_tree.specs.Standing.{Spelling, what_at, SpellsEach}
use Rattle.pearl_tree.specs.Stops.{BeginAlike}
use Rattle.pearl_parse_expr.specs.Stops.{IsLongest, IsOnly, Stuck, EndsEarly}
use Rattle.pearl_parse_expr.proofs.Offered.{shorter}

module _ {X : Type 0} (spells : List Token → Spelling X) (begins : Option What → Bool) where
  -- a list from `from` ends early, or goes through `end`
  abbrev pub EachGoes : List Token → ℕ → ℕ → ℕ → Type 0
  EachGoes tokens from end stop =
      (others : List Token) → BeginAlike tokens others stop → (xs : List X) (to : ℕ) →
      SpellsEach (spells others) from xs to →
      EndsEarly begins others end to ⊎ ((ys : List X) × SpellsEach (spells others) end ys to)

  step : (others : List Token) (end next to : ℕ) → end < next → begins (what_at others end) ≡ true →
      ((x : X) (to : ℕ) → spells others end x to → to ≡ next) →
      EndsEarly begins others end to ⊎ ((ys : List X) × SpellsEach (spells others) end ys to) →
      EndsEarly begins others next to ⊎ ((ys : List X) × SpellsEach (spells others) next ys to)
  step others end next to ahead first only (inl early) = inl (omega (arith, early.0), early.1)
  step others end next to ahead first only (inr ([], h)) =
      inl (omega (arith, h), subst (λ k. begins (what_at others k) ≡ true) (sym h) first)
  step others end next to ahead first only (inr (y ∷ ys, h)) =
      inr (ys, subst (λ k. SpellsEach (spells others) k ys to) (only y h.0 h.1) h.2)

  pub each_next : (tokens : List Token) (from end stop next last new : ℕ) → EachGoes tokens from end stop → end ≤ stop →
      end < next →
      stop ≤ new → last ≤ new → begins (what_at tokens end) ≡ true → IsOnly spells tokens end next last →
      EachGoes tokens from next new
  each_next tokens from end stop next last new go near ahead below reach first only = λ others agree xs to h.
      step others end next to ahead (ap begins (sym (agree end (omega arith))) ∙ first)
      (λ x to h. only others (shorter tokens others last new reach agree) x to h)
      (go others (shorter tokens others stop new below agree) xs to h)

  ends : (others : List Token) (end to : ℕ) → ((x : X) (to : ℕ) → spells others end x to → ⊥) →
      EndsEarly begins others end to ⊎ ((ys : List X) × SpellsEach (spells others) end ys to) →
      (to ≡ end) ⊎ EndsEarly begins others end to
  ends others end to stuck (inl early) = inr early
  ends others end to stuck (inr ([], h)) = inl h
  ends others end to stuck (inr (y ∷ ys, h)) = absurd (stuck y h.0 h.1)

  pub each_ends : (tokens : List Token) (from end stop last new : ℕ) → EachGoes tokens from end stop → stop ≤ new →
      last ≤ new →
      Stuck spells tokens end last → IsLongest (λ tokens. SpellsEach (spells tokens)) begins tokens from end new
  each_ends tokens from end stop last new go below reach stuck = λ others agree xs to h.
      ends others end to
      (λ x to h. stuck others (shorter tokens others last new reach agree) x to h)
      (go others (shorter tokens others stop new below agree) xs to h)
