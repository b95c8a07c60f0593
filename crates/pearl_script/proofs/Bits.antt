-- The digits of a BIT, one for each bit.
use Rattle.std.proofs.Common.{◌≡◌, ℕ, zero, suc, ◌+◌, ◌-◌, ◌*◌, ◌/◌, ◌%◌, ◌^◌, ◌<◌, true, List, [], ◌∷◌, ◌++◌, refl, sym, ap, subst, ◌∙◌, arith}
use Rattle.std.specs.Fmt.{digit_glyph}
use Rattle.pearl_value.specs.Blanks.{widened}
use Rattle.pearl_format.specs.Fields.{digit_count, last_digits, bits_text}
use Rattle.pearl_format.proofs.Offered.{digit_more}

glyph_of : (digit : ℕ) → digit < 2 → digit_glyph true digit ≡ 48 + digit
glyph_of zero small = refl
glyph_of (suc zero) small = refl
glyph_of (suc (suc digit)) small = absurd (omega (arith, small))

-- one bit more stands in front of the others
pub bit_more : (left value : ℕ) (front whole : List ℕ) → 0 < left → front ++ last_digits 1 left value ≡ whole →
    (front ++ (48 + value / 2 ^ (left - 1) % 2) ∷ []) ++ last_digits 1 (left - 1) value ≡ whole
bit_more left value front whole some e =
    let once : 1 * (left - 1) ≡ left - 1 = omega arith in
    let more = subst (λ n. (front ++ digit_glyph true (value / 2 ^ n % 2) ∷ []) ++ last_digits 1 (left - 1) value ≡ whole) once
    (digit_more 1 left value front whole some e) in
    subst (λ glyph. (front ++ glyph ∷ []) ++ last_digits 1 (left - 1) value ≡ whole)
    (glyph_of (value / 2 ^ (left - 1) % 2) (omega arith)) more

-- a BIT has as many digits of one bit as it has bits
pub bits_by_one : (len value : ℕ) → last_digits 1 len value ≡ bits_text 1 len value
bits_by_one len value =
    let count : len ≡ digit_count 1 len = omega arith in
    let none : 1 * len - len ≡ 0 = omega arith in
    let same : value ≡ widened len value (1 * len) = sym (ap (λ n. value * 2 ^ n) none ∙ omega arith) in
    ap (λ v. last_digits 1 len v) same ∙ ap (λ n. last_digits 1 n (widened len value (1 * n))) count
