-- The number of a workload, one after another.
use Rattle.std.proofs.Common.{◌≡◌, ◌+◌, ◌<◌, ℕ, List, [], ◌∷◌, length, map, true, false, if◌then◌else◌, bytes_eq, refl, ap, sym, ◌∙◌, add-one, arith}
use Rattle.std.specs.Fmt.{decimal}
use Rattle.pearl_top.specs.Commands.{Bench, NoCommand, bench_upto, command_of}

down : (n m : ℕ) (digits : List ℕ) → n ≡ m + 1 →
    bench_upto n digits ≡ (if bytes_eq (decimal n) digits then Bench n else bench_upto m digits)
down n m digits is =
    ap (λ k. bench_upto k digits) (is ∙ add-one m)
    ∙ ap (λ k. if bytes_eq (decimal k) digits then Bench k else bench_upto m digits) (sym (is ∙ add-one m))

-- it is this number
pub found : (n m : ℕ) (digits : List ℕ) → n ≡ m + 1 → bytes_eq (decimal n) digits ≡ true → bench_upto n digits ≡ Bench n
found n m digits is same = down n m digits is ∙ ap (λ b. if b then Bench n else bench_upto m digits) same

-- it is one below
pub below : (n m : ℕ) (digits : List ℕ) → n ≡ m + 1 → bytes_eq (decimal n) digits ≡ false → bench_upto n digits ≡ bench_upto m digits
below n m digits is other = down n m digits is ∙ ap (λ b. if b then Bench n else bench_upto m digits) other

-- one word, or none, is no command
pub few : {A : Type 0} (f : A → List ℕ) (xs : List A) → length xs < 2 → command_of (map f xs) ≡ NoCommand
few f [] less = refl
few f (x ∷ []) less = refl
few f (x ∷ y ∷ xs) less = absurd (omega (arith, less))
