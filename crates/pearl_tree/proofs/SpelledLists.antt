-- A tree that spells lawful tokens is lawful, and so is each part of one.
use Rattle.std.proofs.Common.{◌≡◌, ℕ, ◌+◌, List, [], ◌∷◌, All, Option, Some, None, IfSome, subst, ⊎_elim}
use Rattle.std.proofs.lemmas.List.Elements.{All-nil, All-cons}
use Rattle.std.proofs.lemmas.Option.{slice_get_cases}
use Rattle.pearl_tree.specs.declared.token.Token.{Token}
use Rattle.pearl_tree.specs.declared.token.What.{What}
use Rattle.pearl_tree.specs.Standing.{Spelling, what_at, SpellsEach, SpellsMore, SpellsList, SpellsBracketed, SpellsMaybeBracketed, SpellsMaybeHeaded, SpellsMaybe}
use Rattle.pearl_tree.specs.Tokens.{IsLawfulWhat}

pub what_lawful : (tokens : List Token) → All (λ token. IsLawfulWhat token.what) tokens → (k : ℕ) (what : What) →
    what_at tokens k ≡ Some what → IsLawfulWhat what
what_lawful tokens all k what here = ⊎_elim
    (λ c. let same : c.0.what ≡ what = cc in subst IsLawfulWhat same (subst (λ (t : Token). IsLawfulWhat t.what) c.3 (all k c.0 c.1)))
    (λ c. cc)
    (slice_get_cases tokens k).1

-- what holds of each part that is spelled holds of each part of a list that is spelled
module _ {X : Type 0} (P : X → Type 0) (spells : Spelling X) (sure : (from : ℕ) (x : X) (to : ℕ) → spells from x to → P x) where
  pub each_sure : (xs : List X) (from to : ℕ) → SpellsEach spells from xs to → All P xs
  each_sure [] from to h = All-nil P
  each_sure (x ∷ xs) from to h = All-cons P x xs (sure from x h.0 h.1) (each_sure xs h.0 to h.2)

  pub more_sure : (tokens : List Token) (xs : List X) (from to : ℕ) → SpellsMore tokens spells from xs to → All P xs
  more_sure tokens [] from to h = All-nil P
  more_sure tokens (x ∷ xs) from to h =
      All-cons P x xs (sure (from + 1) x h.0 h.2) (more_sure tokens xs h.0 to h.3)

  pub list_sure : (tokens : List Token) (xs : List X) (from to : ℕ) → SpellsList tokens spells from xs to → All P xs
  list_sure tokens [] from to h = absurd h
  list_sure tokens (x ∷ xs) from to h = All-cons P x xs (sure from x h.0 h.1) (more_sure tokens xs h.0 to h.2)

  pub bracketed_sure : (tokens : List Token) (xs : List X) (from to : ℕ) → SpellsBracketed tokens spells from xs to → All P xs
  bracketed_sure tokens xs from to h = list_sure tokens xs (from + 1) h.0 h.2

  pub maybe_bracketed_sure : (tokens : List Token) (xs : List X) (from to : ℕ) →
      SpellsMaybeBracketed tokens spells from xs to → All P xs
  maybe_bracketed_sure tokens [] from to h = All-nil P
  maybe_bracketed_sure tokens (x ∷ xs) from to h = bracketed_sure tokens (x ∷ xs) from to h

  pub maybe_headed_sure : (tokens : List Token) (word : ℕ) (xs : List X) (from to : ℕ) →
      SpellsMaybeHeaded tokens word spells from xs to → All P xs
  maybe_headed_sure tokens word [] from to h = All-nil P
  maybe_headed_sure tokens word (x ∷ xs) from to h = bracketed_sure tokens (x ∷ xs) (from + 1) to h.1

  pub maybe_sure : (o : Option X) (from to : ℕ) → SpellsMaybe spells from o to → IfSome o P
  maybe_sure None from to h = tt
  maybe_sure (Some x) from to h = sure from x to h
