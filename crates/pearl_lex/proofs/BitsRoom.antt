-- A number that digits of a few bits each spell has no more bits than they.
use Rattle.std.proofs.Common.{◌≡◌, ◌<◌, ◌≤◌, ◌+◌, ◌*◌, ◌^◌, ℕ, suc, true, List, ◌∷◌, length, drop, get_or, fold, sym, ap, ◌∙◌, arith}
use Rattle.std.specs.List.{list_all}
use Rattle.std.proofs.Math.Nat.{add-mul, mul-le-mul_right, pow-le-pow_right}
use Rattle.std.proofs.Math.Seq.{drop-cons}
use Rattle.std.proofs.lemmas.Nat.{mul-add-lt, pow-add}
use Rattle.pearl_lex.specs.Quoted.{digit_value, is_digit_of}
use Rattle.pearl_lex.proofs.Passes.{and_front, and_back, less}

pub bits_step : (w i v d : ℕ) → v < 2 ^ (i * w) → d < 2 ^ w → v * 2 ^ w + d < 2 ^ ((i + 1) * w)
bits_step w i v d few less =
    let more = mul-add-lt v (2 ^ w) d (2 ^ (i * w)) few less in
    let index : (i + 1) * w ≡ w + i * w = omega (arith, add-mul i 1 w) in
    let power : 2 ^ ((i + 1) * w) ≡ 2 ^ w * 2 ^ (i * w) = ap (λ n. 2 ^ n) index ∙ pow-add 2 w (i * w) in
    omega (arith, more, power)

pub bits_room : (w i n v d : ℕ) → v < 2 ^ (i * w) → d < 2 ^ w → i < n → n * w ≤ 64 → v * 2 ^ w + d < 2 ^ 64
bits_room w i n v d few less inside all =
    let step : v * 2 ^ w + d < 2 ^ ((i + 1) * w) = bits_step w i v d few less in
    let next : i + 1 ≤ n = omega (arith, inside) in
    let count : (i + 1) * w ≤ n * w = mul-le-mul_right w next in
    let within : (i + 1) * w ≤ 64 = omega (arith, count, all) in
    let some : 0 < 2 = omega arith in
    let power : 2 ^ ((i + 1) * w) ≤ 2 ^ 64 = pow-le-pow_right some within in
    omega (arith, step, power)

next_drop : (digits : List ℕ) (i : ℕ) → i < length digits → drop i digits ≡ get_or digits i 0 ∷ drop (i + 1) digits
next_drop digits i inside =
    let e : suc i ≡ i + 1 = omega arith in
    drop-cons digits i 0 inside ∙ ap (λ n. get_or digits i 0 ∷ drop n digits) e

-- the next of the digits is one, and so are those behind it
pub digits_go_on : (w : ℕ) (digits : List ℕ) (i : ℕ) → i < length digits → list_all (is_digit_of w) (drop i digits) ≡ true
    → (digit_value (get_or digits i 0) < 2 ^ w) × (list_all (is_digit_of w) (drop (i + 1) digits) ≡ true)
digits_go_on w digits i inside all =
    let here : list_all (is_digit_of w) (get_or digits i 0 ∷ drop (i + 1) digits) ≡ true = sym (ap (list_all (is_digit_of w)) (next_drop digits i inside)) ∙ all in (
      less (digit_value (get_or digits i 0)) (2 ^ w) (and_front (is_digit_of w (get_or digits i 0)) (list_all (is_digit_of w) (drop (i + 1) digits)) here),
      and_back (is_digit_of w (get_or digits i 0)) (list_all (is_digit_of w) (drop (i + 1) digits)) here,
    )

pub value_goes_on : (w : ℕ) (digits : List ℕ) (i value next : ℕ) → i < length digits → next ≡ value * 2 ^ w + digit_value (get_or digits i 0)
    → fold (λ value digit. value * 2 ^ w + digit_value digit) next (drop (i + 1) digits) ≡ fold (λ value digit. value * 2 ^ w + digit_value digit) value (drop i digits)
value_goes_on w digits i value next inside is =
    let f = λ (value digit : ℕ). value * 2 ^ w + digit_value digit in
    ap (λ n. fold f n (drop (i + 1) digits)) is ∙ sym (ap (fold f value) (next_drop digits i inside))
