-- Parts that begin at the same token: where they end, from the tokens that follow them.
use Rattle.std.proofs.Common.{◌≡◌, inl, inr, ℕ, ◌≤◌, Bool, true, false, List, Some, option_map, sym, ap, ◌∙◌, arith}
use Rattle.pearl_tree.specs.declared.token.What.{What}
use Rattle.pearl_tree.specs.declared.token.Token.{Token}
use Rattle.pearl_tree.specs.Standing.{HasWord, HasSymbol, what_at}
use Rattle.pearl_tree.specs.Following.{HasOneOf, Meet}

module _ (goes : ℕ → Type 0) where
  pub meets_sym : {to end : ℕ} → Meet goes to end → Meet goes end to
  meets_sym (inl e) = inl (sym e)
  meets_sym (inr (inl h)) = inr (inr h)
  meets_sym (inr (inr h)) = inr (inl h)

  pub meets_as : (also : ℕ → Type 0) {to end : ℕ} → ((k : ℕ) → goes k → also k) → Meet goes to end → Meet also to end
  meets_as also f (inl e) = inl e
  meets_as also {to = to} f (inr (inl h)) = inr (inl (h.0, f to h.1))
  meets_as also {end = end} f (inr (inr h)) = inr (inr (h.0, f end h.1))

  -- where each ends before a token that lengthens neither, they end at the same
  pub meets_once : {to end : ℕ} → (goes to → ⊥) → (goes end → ⊥) → Meet goes to end → to ≡ end
  meets_once f g (inl e) = e
  meets_once f g (inr (inl h)) = absurd (f h.1)
  meets_once f g (inr (inr h)) = absurd (g h.1)

  -- where one ends before no token that lengthens it, no other one ends behind it
  pub meets_after : {to end : ℕ} → (goes to → ⊥) → Meet goes to end → end ≤ to
  meets_after f (inl e) = omega (arith, e)
  meets_after f (inr (inl h)) = absurd (f h.1)
  meets_after f (inr (inr h)) = omega (arith, h.0)

module _ (tokens : List Token) where
  pub has_one : (kind : What → Bool) (k : ℕ) (what : What) → what_at tokens k ≡ Some what → kind what ≡ true → HasOneOf kind tokens k
  has_one kind k what here is = ap (option_map kind) here ∙ ap Some is

  pub has_none : (kind : What → Bool) (k : ℕ) (what : What) → what_at tokens k ≡ Some what → kind what ≡ false → HasOneOf kind tokens k → ⊥
  has_none kind k what here is has = absurd (let e = sym (ap Some is) ∙ (sym (ap (option_map kind) here) ∙ has) in cc e)

  pub same_word : (k a b : ℕ) → HasWord tokens k a → HasWord tokens k b → a ≡ b
  same_word k a b h g = let e = sym h ∙ g in cc e

  pub same_symbol : (k a b : ℕ) → HasSymbol tokens k a → HasSymbol tokens k b → a ≡ b
  same_symbol k a b h g = let e = sym h ∙ g in cc e
