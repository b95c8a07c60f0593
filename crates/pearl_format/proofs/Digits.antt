-- Numbers cut into digits of some bits each.
use Rattle.std.proofs.Common.{◌≡◌, ℕ, zero, suc, ◌+◌, ◌-◌, ◌*◌, ◌/◌, ◌%◌, ◌^◌, ◌<◌, ◌≤◌, true, List, [], ◌∷◌, ◌++◌, length, refl, ap, ◌∙◌, arith, append_assoc}
use Rattle.std.specs.Fmt.{digit_glyph}
use Rattle.std.proofs.lemmas.Nat.{div_below}
use Rattle.std.proofs.Math.Pow.{pow_mono}
use Rattle.pearl_format.specs.Fields.{digit_count, last_digits}

-- nothing stands above as many bits as a number has
pub nothing_above : (value places : ℕ) → value < 2 ^ 128 → 128 ≤ places → 0 ≡ value / 2 ^ places
nothing_above value places small far =
    let m : 2 ^ 128 ≤ 2 ^ places = pow_mono far in
    let low : value < 1 * 2 ^ places = omega (arith, m, small) in
    let none : value / 2 ^ places < 1 = div_below value (2 ^ places) 1 (omega (arith, m, small)) low in
    omega (arith, none)

-- so many digits are enough, and by at most three bits more than that
pub record IsCount (group len count : ℕ) : Type 0 where
  pub enough : len ≤ group * count
  pub tight : group * count ≤ len + 3
  pub few : count ≤ len + 3

pub counted : (group len : ℕ) → 0 < group → group ≤ 4 → IsCount group len (digit_count group len)
counted zero len some few = absurd (omega (arith, some))
counted (suc zero) len some few = record { enough = omega arith; tight = omega arith; few = omega arith }
counted (suc (suc zero)) len some few = record { enough = omega arith; tight = omega arith; few = omega arith }
counted (suc (suc (suc zero))) len some few = record { enough = omega arith; tight = omega arith; few = omega arith }
counted (suc (suc (suc (suc zero)))) len some few = record { enough = omega arith; tight = omega arith; few = omega arith }
counted (suc (suc (suc (suc (suc group))))) len some few = absurd (omega (arith, few))

pub length-last_digits : (group count value : ℕ) → length (last_digits group count value) ≡ count
length-last_digits group zero value = refl
length-last_digits group (suc count) value = ap suc (length-last_digits group count value)

-- one digit more stands in front of the others
pub digit_more : (group left value : ℕ) (front whole : List ℕ) → 0 < left → front ++ last_digits group left value ≡ whole →
    (front ++ digit_glyph true (value / 2 ^ (group * (left - 1)) % 2 ^ group) ∷ []) ++ last_digits group (left - 1) value ≡ whole
digit_more group zero value front whole some e = absurd (omega (arith, some))
digit_more group (suc left) value front whole some e =
    let back : suc left - 1 ≡ left = omega arith in
    rw back (append_assoc front (digit_glyph true (value / 2 ^ (group * left) % 2 ^ group) ∷ []) (last_digits group left value) ∙ e)

-- a digit of at most four bits is below 16
pub digit_small : (value group : ℕ) → group ≤ 4 → value % (1 * 2 ^ group % 2 ^ 128) < 16
digit_small value zero few = omega arith
digit_small value (suc zero) few = omega arith
digit_small value (suc (suc zero)) few = omega arith
digit_small value (suc (suc (suc zero))) few = omega arith
digit_small value (suc (suc (suc (suc zero)))) few = omega arith
digit_small value (suc (suc (suc (suc (suc group))))) few = absurd (omega (arith, few))
