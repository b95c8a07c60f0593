-- Lists of parts that are one for the tokens that spell them: the lists are one, too.
use Rattle.std.proofs.Common.{◌≡◌, ℕ, ◌+◌, List, [], ◌∷◌, Bool, true, false, Option, Some, None, map, option_map, refl, sym, ap, subst, ◌∙◌, arith}
use mathlib.Core.List.{map-id}
use Rattle.pearl_tree.specs.declared.token.Token.{Token}
use Rattle.pearl_tree.specs.Standing.{Spelling, HasSymbol, HasWord, SpellsEach, SpellsMore, SpellsList, SpellsBracketed, SpellsMaybeBracketed, SpellsMaybeHeaded, SpellsMaybe, SpellsFlag}
use Rattle.pearl_tree.specs.declared.symbol.TheConstants as s
use Rattle.pearl_tree.proofs.Meeting.{same_symbol}

module _ (tokens : List Token) where
  pub symbol_no_word : (k a b : ℕ) → HasSymbol tokens k a → HasWord tokens k b → ⊥
  symbol_no_word k a b h g = absurd (let e = sym h ∙ g in cc e)

-- parts of which one alone begins at a token
module _ {X S : Type 0} (spells : Spelling X) (show : X → S) (begins : ℕ → Type 0)
    (begin : (from : ℕ) (x : X) (to : ℕ) → spells from x to → begins from)
    (one : (from : ℕ) (x y : X) (to end : ℕ) → spells from x to → spells from y end → (show x ≡ show y) × (to ≡ end)) where
  pub each_one : (xs ys : List X) (from to end : ℕ) → SpellsEach spells from xs to → (begins to → ⊥) → SpellsEach spells from ys end → (begins end → ⊥) →
      (map show xs ≡ map show ys) × (to ≡ end)
  each_one [] [] from to end h i g j = (refl, h ∙ sym g)
  each_one [] (y ∷ ys) from to end h i g j = absurd (i (subst begins (sym h) (begin from y g.0 g.1)))
  each_one (x ∷ xs) [] from to end h i g j = absurd (j (subst begins (sym g) (begin from x h.0 h.1)))
  each_one (x ∷ xs) (y ∷ ys) from to end h i g j =
      let first = one from x y h.0 g.0 h.1 g.1 in
      let rest = each_one xs ys g.0 to end (subst (λ k. SpellsEach spells k xs to) first.1 h.2) i g.2 j in
      ((λ i. first.0 i ∷ rest.0 i), rest.1)

-- parts of which one alone stands before a token at which it stops
module _ {X S : Type 0} (tokens : List Token) (spells : Spelling X) (show : X → S) (stops closes : ℕ → Type 0)
    (comma_stops : (k : ℕ) → HasSymbol tokens k s.COMMA → stops k) (close_stops : (k : ℕ) → closes k → stops k)
    (apart : (k : ℕ) → HasSymbol tokens k s.COMMA → closes k → ⊥)
    (one : (from : ℕ) (x y : X) (to end : ℕ) → spells from x to → stops to → spells from y end → stops end → (show x ≡ show y) × (to ≡ end)) where
  stopped : (xs : List X) (from to : ℕ) → SpellsMore tokens spells from xs to → closes to → stops from
  stopped [] from to h c = close_stops from (subst closes h c)
  stopped (x ∷ xs) from to h c = comma_stops from h.1

  pub more_one : (xs ys : List X) (from to end : ℕ) → SpellsMore tokens spells from xs to → closes to → SpellsMore tokens spells from ys end → closes end →
      (map show xs ≡ map show ys) × (to ≡ end)
  more_one [] [] from to end h c g d = (refl, h ∙ sym g)
  more_one [] (y ∷ ys) from to end h c g d = absurd (apart from g.1 (subst closes h c))
  more_one (x ∷ xs) [] from to end h c g d = absurd (apart from h.1 (subst closes g d))
  more_one (x ∷ xs) (y ∷ ys) from to end h c g d =
      let first = one (from + 1) x y h.0 g.0 h.2 (stopped xs h.0 to h.3 c) g.2 (stopped ys g.0 end g.3 d) in
      let rest = more_one xs ys g.0 to end (subst (λ k. SpellsMore tokens spells k xs to) first.1 h.3) c g.3 d in
      ((λ i. first.0 i ∷ rest.0 i), rest.1)

  pub list_one : (xs ys : List X) (from to end : ℕ) → SpellsList tokens spells from xs to → closes to → SpellsList tokens spells from ys end → closes end →
      (map show xs ≡ map show ys) × (to ≡ end)
  list_one [] ys from to end h c g d = absurd h
  list_one (x ∷ xs) [] from to end h c g d = absurd g
  list_one (x ∷ xs) (y ∷ ys) from to end h c g d =
      let first = one from x y h.0 g.0 h.1 (stopped xs h.0 to h.2 c) g.1 (stopped ys g.0 end g.2 d) in
      let rest = more_one xs ys g.0 to end (subst (λ k. SpellsMore tokens spells k xs to) first.1 h.2) c g.2 d in
      ((λ i. first.0 i ∷ rest.0 i), rest.1)

-- lists between brackets
module _ {X S : Type 0} (tokens : List Token) (spells : Spelling X) (show : X → S) (stops : ℕ → Type 0)
    (comma_stops : (k : ℕ) → HasSymbol tokens k s.COMMA → stops k) (close_stops : (k : ℕ) → HasSymbol tokens k s.RIGHT_ROUND → stops k)
    (one : (from : ℕ) (x y : X) (to end : ℕ) → spells from x to → stops to → spells from y end → stops end → (show x ≡ show y) × (to ≡ end)) where
  apart : (k : ℕ) → HasSymbol tokens k s.COMMA → HasSymbol tokens k s.RIGHT_ROUND → ⊥
  apart k h g = omega (arith, same_symbol tokens k s.COMMA s.RIGHT_ROUND h g)

  pub bracketed_one : (xs ys : List X) (from to end : ℕ) → SpellsBracketed tokens spells from xs to → SpellsBracketed tokens spells from ys end →
      (map show xs ≡ map show ys) × (to ≡ end)
  bracketed_one xs ys from to end h g =
      let all = list_one tokens spells show stops (λ k. HasSymbol tokens k s.RIGHT_ROUND) comma_stops close_stops apart one xs ys (from + 1) h.0 g.0 h.2 h.3 g.2 g.3 in
      (all.0, omega (arith, all.1, h.4, g.4))

  pub maybe_bracketed_one : (xs ys : List X) (from to end : ℕ) → SpellsMaybeBracketed tokens spells from xs to → (HasSymbol tokens to s.LEFT_ROUND → ⊥) →
      SpellsMaybeBracketed tokens spells from ys end → (HasSymbol tokens end s.LEFT_ROUND → ⊥) → (map show xs ≡ map show ys) × (to ≡ end)
  maybe_bracketed_one [] [] from to end h i g j = (refl, h ∙ sym g)
  maybe_bracketed_one [] (y ∷ ys) from to end h i g j = absurd (i (subst (λ k. HasSymbol tokens k s.LEFT_ROUND) (sym h) g.1))
  maybe_bracketed_one (x ∷ xs) [] from to end h i g j = absurd (j (subst (λ k. HasSymbol tokens k s.LEFT_ROUND) (sym g) h.1))
  maybe_bracketed_one (x ∷ xs) (y ∷ ys) from to end h i g j = bracketed_one (x ∷ xs) (y ∷ ys) from to end h g

  pub maybe_headed_one : (word : ℕ) (xs ys : List X) (from to end : ℕ) → SpellsMaybeHeaded tokens word spells from xs to → (HasWord tokens to word → ⊥) →
      SpellsMaybeHeaded tokens word spells from ys end → (HasWord tokens end word → ⊥) → (map show xs ≡ map show ys) × (to ≡ end)
  maybe_headed_one word [] [] from to end h i g j = (refl, h ∙ sym g)
  maybe_headed_one word [] (y ∷ ys) from to end h i g j = absurd (i (subst (λ k. HasWord tokens k word) (sym h) g.0))
  maybe_headed_one word (x ∷ xs) [] from to end h i g j = absurd (j (subst (λ k. HasWord tokens k word) (sym g) h.0))
  maybe_headed_one word (x ∷ xs) (y ∷ ys) from to end h i g j = bracketed_one (x ∷ xs) (y ∷ ys) (from + 1) to end h.1 g.1

-- a part that may be missing, before a token with which none begins and at which it stops
module _ {X S : Type 0} (spells : Spelling X) (show : X → S) (begins stops : ℕ → Type 0)
    (begin : (from : ℕ) (x : X) (to : ℕ) → spells from x to → begins from)
    (one : (from : ℕ) (x y : X) (to end : ℕ) → spells from x to → stops to → spells from y end → stops end → (show x ≡ show y) × (to ≡ end)) where
  pub maybe_one : (a b : Option X) (from to end : ℕ) → SpellsMaybe spells from a to → (begins to → ⊥) → stops to → SpellsMaybe spells from b end →
      (begins end → ⊥) → stops end → (option_map show a ≡ option_map show b) × (to ≡ end)
  maybe_one None None from to end h i p g j q = (refl, h ∙ sym g)
  maybe_one None (Some b) from to end h i p g j q = absurd (i (subst begins (sym h) (begin from b end g)))
  maybe_one (Some a) None from to end h i p g j q = absurd (j (subst begins (sym g) (begin from a to h)))
  maybe_one (Some a) (Some b) from to end h i p g j q = let same = one from a b to end h p g q in (ap Some same.0, same.1)

pub flag_one : (tokens : List Token) (word from : ℕ) (a b : Bool) (to end : ℕ) → SpellsFlag tokens word from a to → (HasWord tokens to word → ⊥) →
    SpellsFlag tokens word from b end → (HasWord tokens end word → ⊥) → (a ≡ b) × (to ≡ end)
flag_one tokens word from false false to end h i g j = (refl, h ∙ sym g)
flag_one tokens word from true true to end h i g j = (refl, h.1 ∙ sym g.1)
flag_one tokens word from false true to end h i g j = absurd (i (subst (λ k. HasWord tokens k word) (sym h) g.0))
flag_one tokens word from true false to end h i g j = absurd (j (subst (λ k. HasWord tokens k word) (sym g) h.0))

pub as_they_are : {X : Type 0} (xs ys : List X) → map (λ x. x) xs ≡ map (λ x. x) ys → xs ≡ ys
as_they_are xs ys e = sym (map-id xs) ∙ e ∙ map-id ys

pub option_as_it_is : {X : Type 0} (a b : Option X) → option_map (λ x. x) a ≡ option_map (λ x. x) b → a ≡ b
option_as_it_is None None e = refl
option_as_it_is (Some a) (Some b) e = e
option_as_it_is None (Some b) e = absurd (let e = e in cc e)
option_as_it_is (Some a) None e = absurd (let e = e in cc e)
