-- Tokens have one first stop at most.
use Rattle.std.proofs.Common.{◌≡◌, ◌⊎◌, inl, inr, ℕ, zero, suc, ◌<◌, List, refl, arith}
use Rattle.pearl_tree.specs.declared.token.Token.{Token}
use Rattle.pearl_tree.specs.Stops.{NoneBegins, SomeBegins}
use Rattle.pearl_tree.specs.Laws.{HasOneStop, StopsHaveNoTree}

-- of two such numbers none is less
not_less : (tokens : List Token) (k n : ℕ) → NoneBegins tokens k → SomeBegins tokens n → k < n → ⊥
not_less tokens k n none some below = none some.0 some.1 (λ j within. some.2 j (omega (arith, within, below))) some.4

pub one_stop : HasOneStop
one_stop tokens k n h g = by (split k n)
  where
    more : (k n : ℕ) → (k < n) ⊎ ((k ≡ n) ⊎ (n < k)) → (suc k < suc n) ⊎ ((suc k ≡ suc n) ⊎ (suc n < suc k))
    more k n (inl e) = inl (omega (arith, e))
    more k n (inr (inl e)) = inr (inl (omega (arith, e)))
    more k n (inr (inr e)) = inr (inr (omega (arith, e)))

    split : (k n : ℕ) → (k < n) ⊎ ((k ≡ n) ⊎ (n < k))
    split zero zero = inr (inl refl)
    split zero (suc n) = inl (omega arith)
    split (suc k) zero = inr (inr (omega arith))
    split (suc k) (suc n) = more k n (split k n)

    by : (k < n) ⊎ ((k ≡ n) ⊎ (n < k)) → k ≡ n
    by (inl e) = absurd (not_less tokens k n h.none g.some e)
    by (inr (inl e)) = e
    by (inr (inr e)) = absurd (not_less tokens n k g.none h.some e)

pub stops_have_no_tree : StopsHaveNoTree
stops_have_no_tree tokens k tree none spells = none tree tokens (λ j within. refl) spells
