-- Which tokens lists depend on: those before their end alone, where that holds of their parts.
use Rattle.std.proofs.Common.{◌+◌, ◌≤◌, ℕ, List, [], ◌∷◌, length, ◌∙◌, refl, arith}
use Rattle.pearl_tree.specs.declared.token.Token.{Token}
use Rattle.pearl_tree.specs.Standing.{Spelling, SpellsEach, SpellsSome, SpellsMore, SpellsList}
use Rattle.pearl_parse_expr.specs.Least.{AlikeBefore}
use Rattle.pearl_parse_expr.proofs.Local as local
use Rattle.pearl_parse_expr.proofs.Reaching.{IsLocal}

-- a part that ends at k at the latest is spelled by others too, and is n tokens long at least
abbrev pub Keeps : {X : Type 0} → List Token → List Token → ℕ → ℕ → (List Token → Spelling X) → Type 0
Keeps {X} tokens others k n spells =
    (from : ℕ) (x : X) (to : ℕ) → spells tokens from x to → to ≤ k →
    (from + n ≤ to) × spells others from x to

abbrev pub Kept : {X : Type 0} → ℕ → (List Token → Spelling X) → Type 0
Kept n spells = (tokens others : List Token) (k : ℕ) → AlikeBefore tokens others k →
    Keeps tokens others k n spells

pub local_of : {X : Type 0} (n : ℕ) (spells : List Token → Spelling X) → Kept n spells → IsLocal spells
local_of n spells kept tokens others k alike from x to h near = (kept tokens others k alike from x to h near).1

pub after_of : {X : Type 0} (n : ℕ) (spells : List Token → Spelling X) → Kept n spells →
    (tokens : List Token) (from : ℕ) (x : X) (to : ℕ) → spells tokens from x to → from + n ≤ to
after_of n spells kept tokens from x to h = (kept tokens tokens to (λ j below. refl) from x to h (omega arith)).0

module _ (tokens others : List Token) (k : ℕ) (alike : AlikeBefore tokens others k)
    {X : Type 0} (n : ℕ) (spells : List Token → Spelling X) (keeps : Keeps tokens others k n spells) where
  pub each_keeps : Keeps tokens others k 0 (λ tokens. SpellsEach (spells tokens))
  each_keeps from [] to h near = (omega (arith, h), h)
  each_keeps from (x ∷ xs) to h near =
      let rest = each_keeps h.0 xs to h.2 near in
      let first = keeps from x h.0 h.1 (omega (arith, rest.0)) in
      (omega (arith, first.0, rest.0), (h.0, first.1, rest.1))

  pub some_keeps : Keeps tokens others k n (λ tokens. SpellsSome (spells tokens))
  some_keeps from [] to h near = absurd h
  some_keeps from (x ∷ xs) to h near =
      let rest = each_keeps h.0 xs to h.2 near in
      let first = keeps from x h.0 h.1 (omega (arith, rest.0)) in
      (omega (arith, first.0, rest.0), (h.0, first.1, rest.1))

  pub more_keeps : Keeps tokens others k 0 (λ tokens. SpellsMore tokens (spells tokens))
  more_keeps from [] to h near = (omega (arith, h), h)
  more_keeps from (x ∷ xs) to h near =
      let rest = more_keeps h.0 xs to h.3 near in
      let first = keeps (from + 1) x h.0 h.2 (omega (arith, rest.0)) in
      let comma = local.what tokens others k alike from (omega (arith, first.0, rest.0)) ∙ h.1 in
      (omega (arith, first.0, rest.0), (h.0, comma, first.1, rest.1))

  pub list_keeps : Keeps tokens others k n (λ tokens. SpellsList tokens (spells tokens))
  list_keeps from [] to h near = absurd h
  list_keeps from (x ∷ xs) to h near =
      let rest = more_keeps h.0 xs to h.2 near in
      let first = keeps from x h.0 h.1 (omega (arith, rest.0)) in
      (omega (arith, first.0, rest.0), (h.0, first.1, rest.1))

-- a list has no more parts than tokens
module _ {X : Type 0} (tokens : List Token) (spells : Spelling X)
    (after : (from : ℕ) (x : X) (to : ℕ) → spells from x to → from + 1 ≤ to) where
  pub each_long : (from : ℕ) (xs : List X) (to : ℕ) → SpellsEach spells from xs to → from + length xs ≤ to
  each_long from [] to h = omega (arith, h)
  each_long from (x ∷ xs) to h = omega (arith, after from x h.0 h.1, each_long h.0 xs to h.2)

  pub more_long : (from : ℕ) (xs : List X) (to : ℕ) → SpellsMore tokens spells from xs to →
      from + length xs ≤ to
  more_long from [] to h = omega (arith, h)
  more_long from (x ∷ xs) to h = omega (arith, after (from + 1) x h.0 h.2, more_long h.0 xs to h.3)

  pub list_long : (from : ℕ) (xs : List X) (to : ℕ) → SpellsList tokens spells from xs to →
      from + length xs ≤ to
  list_long from [] to h = absurd h
  list_long from (x ∷ xs) to h = omega (arith, after from x h.0 h.1, more_long h.0 xs to h.2)
