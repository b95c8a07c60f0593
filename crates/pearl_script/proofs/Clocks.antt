-- A time of day whose milliseconds aren't 0 shows them.
use Rattle.std.proofs.Common.{◌≡◌, ℕ, ◌%◌, ◌<◌, false, if◌then◌else◌, ◌∷◌, ◌++◌, ap, arith}
use Rattle.std.specs.Prelude.{◌==◌}
use Rattle.std.proofs.lemmas.Bool.{ne_eqb}
use Rattle.pearl_format.specs.Fields.{seconds_text, three_digits, clock_text}
use Rattle.pearl_script.specs.Literals.{clock_literal}

no_zero : (n : ℕ) → 0 < n → (n == 0) ≡ false
no_zero n some = ne_eqb n 0 (λ is. absurd (omega (arith, some, is)))

pub clock_with_milliseconds : (time : ℕ) → 0 < time % 1000 → clock_literal time ≡ seconds_text time ++ 46 ∷ three_digits (time % 1000)
clock_with_milliseconds time some = ap (λ b. clock_text (if b then 8 else 12) time) (no_zero (time % 1000) some)
