-- When a room is full.
use Rattle.std.proofs.Common.{◌≡◌, ℕ, ◌<◌, ◌≤◌, inl, inr, refl, sym, arith, Bool, true, false}
use Rattle.std.specs.Prelude.{◌↔◌, IsFalse}
use Rattle.std.proofs.lemmas.Bool.{cases_lt, false≢true}

-- a room is full exactly where not one more goes into it
pub full : (fits : Bool) (len room : ℕ) → (fits ≡ true → len < room) → (len < room → fits ≡ true) → len ≤ room →
    IsFalse fits ↔ (len ≡ room)
full true len room less is within =
    ((λ h. absurd (false≢true (sym h))), (λ same. let h = less refl in absurd (omega (arith, same, h))))
full false len room less is within = (
  (λ h. elim (cases_lt len room) [ inl fits ↦ absurd (false≢true (is fits)) | inr more ↦ omega arith ]),
  (λ same. refl),
)
