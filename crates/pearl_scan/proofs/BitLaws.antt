-- What digits of some bits each spell.
use Rattle.std.proofs.Common.{◌≡◌, ◌<◌, ◌≤◌, ℕ, zero, suc, ◌+◌, ◌-◌, ◌*◌, ◌/◌, ◌%◌, ◌^◌, List, [], ◌∷◌, ◌++◌, Bool, true, false, not, ◌&&◌, ◌==◌, length, refl, arith, nat_le, nat_lt, sym, ◌∙◌, ap, subst, length-append, take, drop}
use Rattle.std.proofs.lemmas.List.{length-take-le, length-drop, take-append-drop}
use Rattle.std.proofs.lemmas.Bool.{false≢true, leb-true, lt-leb, le-leb, ne_eqb, lt-ltb, eqb-true, eqb-false}
use Rattle.std.proofs.lemmas.Bool.Decides.{nat_tests}
use Rattle.std.proofs.lemmas.Nat.{shl-shr, shr-shr, mod-pow-add, mod_low, pow_pos, shl_whole, mul-add-lt, pow-add, shr_high, shr_below, mul-le}
use Rattle.std.proofs.Math.Pow.{pow_mono}
use Rattle.std.proofs.lemmas.Int.Digits.{digits_value-lt}
use Rattle.std.proofs.Math.Nat.{mul-suc, suc-mul, mul_assoc, mul_comm, add-mul, add_assoc, pow-succ', mul-one, mul-zero, zero-mul, mod-eq_of_lt}
use native.Mathlib.Numerals.{unary_clauses}
use Rattle.std.specs.Prelude.{Option, Some, None, if◌then◌else◌}
use Rattle.std.specs.Char.{digit_value, is_ascii_lowercase}
use Rattle.std.specs.List.{list_all}
use Rattle.std.specs.Str.Parse.{digits_value, digits_value_after}
use Rattle.pearl_rules.specs.Literals.{is_bit_digit, bits_number, bits_within, bits_literal}
use Rattle.pearl_rules.proofs.Offered.{bit_digits, pow_pow}
use Rattle.pearl_scan.specs.Digits.{bits_followed}
use Rattle.pearl_scan.proofs.Numbers.{and_then}

-- ONE DIGIT AFTER ANOTHER

-- the number of these digits behind those of a number
abbrev pub bits_from : ℕ → ℕ → List ℕ → Option ℕ
bits_from group n [] = Some n
bits_from group n (byte ∷ bytes) = and_then (bits_followed group n byte) (λ m. bits_from group m bytes)

from_if : (digit rest : Bool) (m v : ℕ) (go : ℕ → Option ℕ) → go m ≡ (if rest then Some v else None) →
    and_then (if digit then Some m else None) go ≡ (if digit && rest then Some v else None)
from_if true rest m v go e = e
from_if false rest m v go e = refl

bits_from-value : (group n : ℕ) (bytes : List ℕ) → bits_from group n bytes ≡ (if list_all (is_bit_digit group) bytes then Some (digits_value_after (2 ^ group) n bytes) else None)
bits_from-value group n [] = refl
bits_from-value group n (byte ∷ bytes) =
    let m = n * 2 ^ group + digit_value byte in
    from_if (is_bit_digit group byte) (list_all (is_bit_digit group) bytes) m (digits_value_after (2 ^ group) m bytes) (λ k. bits_from group k bytes) (bits_from-value group m bytes)

pub bits_from-start : (group : ℕ) (bytes : List ℕ) → 0 < length bytes → bits_from group 0 bytes ≡ bits_number group bytes
bits_from-start group [] some = absurd (omega arith)
bits_from-start group (byte ∷ bytes) some = bits_from-value group 0 (byte ∷ bytes)

-- one digit more has so many bits more
pub one_more : (group count value digit : ℕ) → value < 2 ^ (group * count) → digit < 2 ^ group → value * 2 ^ group + digit < 2 ^ (group * (count + 1))
one_more group count value digit below small =
    let e : group * (count + 1) ≡ group + group * count = omega (arith, mul-suc group count) in
    let m : 2 ^ (group * (count + 1)) ≡ 2 ^ group * 2 ^ (group * count) = ap (λ n. 2 ^ n) e ∙ pow-add 2 group (group * count) in
    subst (λ n. value * 2 ^ group + digit < n) (sym m) (mul-add-lt value (2 ^ group) digit (2 ^ (group * count)) below small)

-- DIGITS PAST THE LENGTH

abbrev are_zeros : List ℕ → Bool
are_zeros past = list_all (λ byte. byte == 48) past

after_append : (radix n : ℕ) (front past : List ℕ) → digits_value_after radix n (front ++ past) ≡ digits_value_after radix (digits_value_after radix n front) past
after_append radix n [] past = refl
after_append radix n (byte ∷ front) past = after_append radix (n * radix + digit_value byte) front past

all_append : (test : ℕ → Bool) (front past : List ℕ) → list_all test (front ++ past) ≡ (list_all test front && list_all test past)
all_append test [] past = refl
all_append test (byte ∷ front) past = by (test byte) (list_all test front) (list_all test past) (list_all test (front ++ past)) (all_append test front past)
  where
    by : (a b c d : Bool) → d ≡ (b && c) → (a && d) ≡ ((a && b) && c)
    by true b c d e = e
    by false b c d e = refl

zeros_value : (radix n : ℕ) (past : List ℕ) → are_zeros past ≡ true → digits_value_after radix n past ≡ n * radix ^ length past
zeros_value radix n [] h = simp unary_clauses (sym (mul-one n))
zeros_value radix n (byte ∷ past) h = by (byte == 48) (are_zeros past) refl (zeros_value radix (n * radix + digit_value byte) past) h
  where
    by : (zero rest : Bool) → (byte == 48) ≡ zero → (rest ≡ true → digits_value_after radix (n * radix + digit_value byte) past ≡ (n * radix + digit_value byte) * radix ^ length past) →
        zero && rest ≡ true → digits_value_after radix (n * radix + digit_value byte) past ≡ n * radix ^ suc (length past)
    by true true e others h =
        let none : digit_value byte ≡ 0 = ap digit_value (eqb-true byte 48 e) in
        let first : n * radix + digit_value byte ≡ n * radix = omega (arith, none) in
        others refl ∙ ap (λ m. m * radix ^ length past) first ∙ mul_assoc n radix (radix ^ length past) ∙ ap (λ m. n * m) (sym (pow-succ' radix (length past)))
    by true false e others h = absurd (false≢true h)
    by false rest e others h = absurd (false≢true h)

zeros_are_digits : (group : ℕ) (past : List ℕ) → are_zeros past ≡ true → list_all (is_bit_digit group) past ≡ true
zeros_are_digits group [] h = refl
zeros_are_digits group (byte ∷ past) h = by (byte == 48) (are_zeros past) refl (zeros_are_digits group past) h
  where
    by : (zero rest : Bool) → (byte == 48) ≡ zero → (rest ≡ true → list_all (is_bit_digit group) past ≡ true) →
        zero && rest ≡ true → (is_bit_digit group byte && list_all (is_bit_digit group) past) ≡ true
    by true true e others h =
        let digit : is_bit_digit group byte ≡ true = ap (is_bit_digit group) (eqb-true byte 48 e) ∙ ap (λ b. b && true) (lt-ltb 0 (2 ^ group) (pow_pos group)) in
        rw (digit, others refl) refl
    by true false e others h = absurd (false≢true h)
    by false rest e others h = absurd (false≢true h)

more_digits : (radix n : ℕ) (past : List ℕ) → 0 < radix → n ≤ digits_value_after radix n past
more_digits radix n [] some = omega arith
more_digits radix n (byte ∷ past) some =
    let more = more_digits radix (n * radix + digit_value byte) past some in
    let grows : n * 1 ≤ n * radix = mul-le n 1 n radix (omega arith) some in
    omega (arith, more, grows)

digit_zero : (byte : ℕ) → digit_value byte ≡ 0 → byte ≡ 48
digit_zero byte e = grind (arith, nat_tests)

positive : (d k v : ℕ) → (d ≡ 0 → ⊥) → k + d ≤ v → 0 < v
positive zero k v never le = absurd (never refl)
positive (suc d) k v never le = omega (arith, le)

-- digits of which one isn't zero spell a number that isn't
some_value : (radix n : ℕ) (past : List ℕ) → 0 < radix → are_zeros past ≡ false → 0 < digits_value_after radix n past
some_value radix n [] some h = absurd (false≢true (sym h))
some_value radix n (byte ∷ past) some h =
    by (byte == 48) refl (some_value radix (n * radix + digit_value byte) past some) h
  where
    by : (zero : Bool) → (byte == 48) ≡ zero → (are_zeros past ≡ false → 0 < digits_value_after radix (n * radix + digit_value byte) past) →
        (zero && are_zeros past) ≡ false → 0 < digits_value_after radix (n * radix + digit_value byte) past
    by true e others h = others h
    by false e others h =
        let more : n * radix + digit_value byte ≤ digits_value_after radix (n * radix + digit_value byte) past = more_digits radix (n * radix + digit_value byte) past some in
        positive (digit_value byte) (n * radix) _ (λ z. eqb-false byte 48 e (digit_zero byte z)) more

-- a number in `count` bits with `more` bits behind it, that are the number `low`
remainder_of : (past more value low : ℕ) → low < 2 ^ more → (value * 2 ^ more + low) % 2 ^ (past + more) ≡ (value % 2 ^ past) * 2 ^ more + low
remainder_of past more value low small =
    mod-pow-add (value * 2 ^ more + low) past more
    ∙ ap (λ n. (n % 2 ^ past) * 2 ^ more + (value * 2 ^ more + low) % 2 ^ more) (shr_high value more low small)
    ∙ ap (λ n. (value % 2 ^ past) * 2 ^ more + n) (mod_low value more low small)

quotient_of : (past more value : ℕ) → value * 2 ^ more / 2 ^ (past + more) ≡ value / 2 ^ past
quotient_of past more value =
    let e : past + more ≡ more + past = omega arith in
    ap (λ n. value * 2 ^ more / 2 ^ n) e ∙ sym (shr-shr (value * 2 ^ more) more past) ∙ ap (λ n. n / 2 ^ past) (shl-shr value more)

positive_test : (m : ℕ) → 0 < m → (m == 0) ≡ false
positive_test m h = grind (arith, nat_tests)

test_product : (a b : ℕ) → 0 < b → (a * b == 0) ≡ (a == 0)
test_product zero b some = let e : 0 * b ≡ 0 = zero-mul b in ap (λ n. n == 0) e
test_product (suc a) b some =
    let more : suc a * b ≡ a * b + b = suc-mul a b in
    positive_test (suc a * b) (omega (arith, more, some)) ∙ sym (positive_test (suc a) (omega arith))

not_short : (len count more : ℕ) → len ≤ count → 0 < more → nat_le (count + more) len ≡ false
not_short len count more enough some = lt-leb (count + more) len (omega arith)

-- zeros behind the bits change nothing
zero_bits : (len count more value : ℕ) → len ≤ count → 0 < more → bits_within len (count + more) (Some (value * 2 ^ more)) ≡ bits_within len count (Some value)
zero_bits len count more value enough some =
    let past = count - len in
    let places : count + more - len ≡ past + more = omega arith in
    let left : value * 2 ^ more % 2 ^ (past + more) ≡ value % 2 ^ past * 2 ^ more =
    (let e = remainder_of past more value 0 (pow_pos more) in plain (value * 2 ^ more) (value % 2 ^ past * 2 ^ more) (2 ^ (past + more)) e) in
    let test : (value * 2 ^ more % 2 ^ (past + more) == 0) ≡ (value % 2 ^ past == 0) =
    ap (λ n. n == 0) left ∙ test_product (value % 2 ^ past) (2 ^ more) (pow_pos more) in
    rw (not_short len count more enough some, places, test, quotient_of past more value) (at_end (nat_le count len) refl)
  where
    plain : (a b m : ℕ) → (a + 0) % m ≡ b + 0 → a % m ≡ b
    plain a b m e = let f : a + 0 ≡ a = omega arith in let g : b + 0 ≡ b = omega arith in ap (λ n. n % m) (sym f) ∙ e ∙ g

    at_end : (short : Bool) → nat_le count len ≡ short →
        (if value % 2 ^ (count - len) == 0 then Some (value / 2 ^ (count - len)) else None)
        ≡ (if short then Some (value * 2 ^ (len - count)) else (if value % 2 ^ (count - len) == 0 then Some (value / 2 ^ (count - len)) else None))
    at_end true e =
        let up : count - len ≡ 0 = omega (arith, leb-true count len e) in
        let down : len - count ≡ 0 = omega (arith, leb-true count len e, enough) in
        let one : value % 1 ≡ 0 = omega arith in
        let same : value / 1 ≡ value * 1 = omega arith in
        rw (up, down, one, same) refl
    at_end false e = refl

-- bits behind them that aren't zeros do
other_bits : (len count more value low : ℕ) → len ≤ count → 0 < more → 0 < low → low < 2 ^ more → bits_within len (count + more) (Some (value * 2 ^ more + low)) ≡ None
other_bits len count more value low enough some positive small =
    let past = count - len in
    let places : count + more - len ≡ past + more = omega arith in
    let left = remainder_of past more value low small in
    let test : ((value * 2 ^ more + low) % 2 ^ (past + more) == 0) ≡ false = ap (λ n. n == 0) left ∙ by (value % 2 ^ past * 2 ^ more) low positive in
    rw (not_short len count more enough some, places, test) refl
  where
    by : (a n : ℕ) → 0 < n → (a + n == 0) ≡ false
    by a n h = positive_test (a + n) (omega arith)

-- the digits in front count as often as there are numbers of those behind
after_split : (radix n : ℕ) (past : List ℕ) → digits_value_after radix n past ≡ n * radix ^ length past + digits_value radix past
after_split radix n [] = simp unary_clauses (let e : n * 1 ≡ n = mul-one n in omega (arith, e))
after_split radix n (byte ∷ past) =
    let d = digit_value byte in
    let r = radix ^ length past in
    let p : radix ^ suc (length past) ≡ radix * r = pow-succ' radix (length past) in
    let whole = after_split radix (n * radix + d) past in
    let part = after_split radix (0 * radix + d) past in
    let first : 0 * radix + d ≡ d = omega arith in
    let part' : digits_value_after radix (0 * radix + d) past ≡ d * r + digits_value radix past = part ∙ ap (λ m. m * r + digits_value radix past) first in
    let product : (n * radix + d) * r ≡ n * (radix * r) + d * r = add-mul (n * radix) d r ∙ ap (λ m. m + d * r) (mul_assoc n radix r) in
    whole ∙ ap (λ m. m + digits_value radix past) product ∙ add_assoc (n * (radix * r)) (d * r) (digits_value radix past)
    ∙ ap (λ m. n * (radix * r) + m) (sym part') ∙ ap (λ m. n * m + digits_value_after radix (0 * radix + d) past) (sym p)

places : (group front past : ℕ) → group * (front + past) ≡ group * front + group * past
places group front past = mul_comm group (front + past) ∙ add-mul front past group ∙ ap (λ n. n + past * group) (mul_comm front group) ∙ ap (λ n. group * front + n) (mul_comm past group)

some_places : (group past : ℕ) → 0 < group → 0 < past → 0 < group * past
some_places group past some more = let e : 1 * 1 ≤ group * past = mul-le 1 1 group past some more in omega (arith, e)

module _ (group len : ℕ) (byte : ℕ) (bytes past : List ℕ) (some : 0 < group) (more : 0 < length past) where
  front : List ℕ
  front = byte ∷ bytes

  same_literal : (o : Option ℕ) → bits_number group ((byte ∷ bytes) ++ past) ≡ o →
      bits_literal group len ((byte ∷ bytes) ++ past) ≡ bits_within len (group * length (byte ∷ bytes) + group * length past) o
  same_literal o e =
      ap (λ n. bits_within len n (bits_number group ((byte ∷ bytes) ++ past))) (ap (λ n. group * n) (length-append (byte ∷ bytes) past) ∙ places group (length (byte ∷ bytes)) (length past))
      ∙ ap (bits_within len (group * length (byte ∷ bytes) + group * length past)) e

  module _ (enough : len ≤ group * length (byte ∷ bytes)) where
    value : ℕ
    value = digits_value (2 ^ group) (byte ∷ bytes)

    past_zeros : are_zeros past ≡ true → bits_literal group len ((byte ∷ bytes) ++ past) ≡ bits_within len (group * length (byte ∷ bytes)) (bits_number group (byte ∷ bytes))
    past_zeros h = by (list_all (is_bit_digit group) (byte ∷ bytes)) refl
      where
        whole : digits_value (2 ^ group) ((byte ∷ bytes) ++ past) ≡ digits_value (2 ^ group) (byte ∷ bytes) * 2 ^ (group * length past)
        whole = after_append (2 ^ group) 0 (byte ∷ bytes) past ∙ zeros_value (2 ^ group) (digits_value (2 ^ group) (byte ∷ bytes)) past h
            ∙ ap (λ n. digits_value (2 ^ group) (byte ∷ bytes) * n) (pow_pow group (length past))

        all : (good : Bool) → list_all (is_bit_digit group) (byte ∷ bytes) ≡ good → list_all (is_bit_digit group) ((byte ∷ bytes) ++ past) ≡ good
        all good e = all_append (is_bit_digit group) (byte ∷ bytes) past ∙ and_true (list_all (is_bit_digit group) (byte ∷ bytes)) (zeros_are_digits group past h) ∙ e
          where
            and_true : (a : Bool) {b : Bool} → b ≡ true → (a && b) ≡ a
            and_true true e = e
            and_true false e = refl

        by : (good : Bool) → list_all (is_bit_digit group) (byte ∷ bytes) ≡ good →
            bits_literal group len ((byte ∷ bytes) ++ past) ≡ bits_within len (group * length (byte ∷ bytes)) (bits_number group (byte ∷ bytes))
        by true e =
            same_literal (Some (digits_value (2 ^ group) (byte ∷ bytes) * 2 ^ (group * length past)))
            (ap (λ b. if b then Some (digits_value (2 ^ group) ((byte ∷ bytes) ++ past)) else None) (all true e) ∙ ap Some whole)
            ∙ zero_bits len (group * length (byte ∷ bytes)) (group * length past) (digits_value (2 ^ group) (byte ∷ bytes)) enough (some_places group (length past) some more)
            ∙ ap (λ b. bits_within len (group * length (byte ∷ bytes)) (if b then Some (digits_value (2 ^ group) (byte ∷ bytes)) else None)) (sym e)
        by false e =
            same_literal None (ap (λ b. if b then Some (digits_value (2 ^ group) ((byte ∷ bytes) ++ past)) else None) (all false e))
            ∙ ap (λ b. bits_within len (group * length (byte ∷ bytes)) (if b then Some (digits_value (2 ^ group) (byte ∷ bytes)) else None)) (sym e)

    past_other : are_zeros past ≡ false → bits_literal group len ((byte ∷ bytes) ++ past) ≡ None
    past_other h = by (list_all (is_bit_digit group) ((byte ∷ bytes) ++ past)) refl
      where
        by : (good : Bool) → list_all (is_bit_digit group) ((byte ∷ bytes) ++ past) ≡ good → bits_literal group len ((byte ∷ bytes) ++ past) ≡ None
        by true e =
            let digits : list_all (is_bit_digit group) past ≡ true = and_second (list_all (is_bit_digit group) (byte ∷ bytes)) _ (sym (all_append (is_bit_digit group) (byte ∷ bytes) past) ∙ e) in
            let low = digits_value (2 ^ group) past in
            let small : low < 2 ^ (group * length past) = subst (λ n. low < n) (pow_pow group (length past)) (digits_value-lt (2 ^ group) past (bit_digits group past digits)) in
            let whole = after_append (2 ^ group) 0 (byte ∷ bytes) past ∙ after_split (2 ^ group) (digits_value (2 ^ group) (byte ∷ bytes)) past
            ∙ ap (λ n. digits_value (2 ^ group) (byte ∷ bytes) * n + low) (pow_pow group (length past)) in
            same_literal (Some (digits_value (2 ^ group) (byte ∷ bytes) * 2 ^ (group * length past) + low))
            (ap (λ b. if b then Some (digits_value (2 ^ group) ((byte ∷ bytes) ++ past)) else None) e ∙ ap Some whole)
            ∙ other_bits len (group * length (byte ∷ bytes)) (group * length past) (digits_value (2 ^ group) (byte ∷ bytes)) low enough
            (some_places group (length past) some more) (some_value (2 ^ group) 0 past (pow_pos group) h) small
          where
            and_second : (a b : Bool) → (a && b) ≡ true → b ≡ true
            and_second true b e = e
            and_second false b e = absurd (false≢true e)
        by false e = same_literal None (ap (λ b. if b then Some (digits_value (2 ^ group) ((byte ∷ bytes) ++ past)) else None) e)

-- where enough digits stand in front, those behind must be zeros
pub front_bits : (group len : ℕ) (front past : List ℕ) → 0 < group → 0 < length past → 0 < length front → len ≤ group * length front → are_zeros past ≡ true →
    bits_literal group len (front ++ past) ≡ bits_within len (group * length front) (bits_number group front)
front_bits group len [] past some more there enough h = absurd (omega arith)
front_bits group len (byte ∷ bytes) past some more there enough h = past_zeros group len byte bytes past some more enough h

pub no_bits : (group len : ℕ) (front past : List ℕ) → 0 < group → 0 < length past → 0 < length front → len ≤ group * length front → are_zeros past ≡ false →
    bits_literal group len (front ++ past) ≡ None
no_bits group len [] past some more there enough h = absurd (omega arith)
no_bits group len (byte ∷ bytes) past some more there enough h = past_other group len byte bytes past some more enough h

-- a byte that is none of 0 to 9 and A to F is no digit
pub other_byte : (group byte : ℕ) → group ≤ 4 → (48 ≤ byte → byte ≤ 57 → ⊥) → (65 ≤ byte → byte ≤ 70 → ⊥) → is_bit_digit group byte ≡ false
other_byte group byte few digit capital =
    let most : 2 ^ group ≤ 16 = pow_mono few in
    by (2 ^ group) most
  where
    by : (n : ℕ) → n ≤ 16 → (nat_lt (digit_value byte) n && not (is_ascii_lowercase byte)) ≡ false
    by n most = grind (arith, nat_tests)

-- a number of so many bits has as many bits or more
pub wider : (value count more : ℕ) → count ≤ more → value < 2 ^ count → value < 2 ^ more
wider value count more le below = let m : 2 ^ count ≤ 2 ^ more = pow_mono le in omega (arith, m, below)

pub places_more : (group i count : ℕ) → i ≤ count → group * i ≤ group * count
places_more group i count le = mul-le group i group count (omega arith) le

-- filled with zeros on the right
pub filled_bits : (len count value : ℕ) → count ≤ len → len ≤ 64 → value < 2 ^ count → (value % 2 ^ 64 * 2 ^ (len - count)) % 2 ^ 64 ≡ value * 2 ^ (len - count)
filled_bits len count value le few below =
    let same : value % 2 ^ 64 ≡ value = mod-eq_of_lt (wider value count 64 (omega arith) below) in
    rw same (shl_whole value count (len - count) 64 below (omega arith))

pub short_bits : (len count value : ℕ) → count ≤ len → bits_within len count (Some value) ≡ Some (value * 2 ^ (len - count))
short_bits len count value le = rw (le-leb count len le) refl

pub long_bits : (len count value : ℕ) → len < count → value % 2 ^ (count - len) ≡ 0 → bits_within len count (Some value) ≡ Some (value / 2 ^ (count - len))
long_bits len count value more zeros = rw (lt-leb count len more, zeros) refl

pub no_long_bits : (len count value : ℕ) → len < count → (value % 2 ^ (count - len) ≡ 0 → ⊥) → bits_within len count (Some value) ≡ None
no_long_bits len count value more other = rw (lt-leb count len more, ne_eqb (value % 2 ^ (count - len)) 0 other) refl

pub first_below : (len count value : ℕ) → len < count → len ≤ 64 → value < 2 ^ count → value / 2 ^ (count - len) < 2 ^ 64
first_below len count value more few below =
    let e : len + (count - len) ≡ count = omega arith in
    wider (value / 2 ^ (count - len)) len 64 few (shr_below value len (count - len) (subst (λ n. value < 2 ^ n) (sym e) below))

some_count : (group count len : ℕ) → 0 < len → len ≤ group * count → 0 < count
some_count group zero len some enough = absurd (let e : group * 0 ≡ 0 = mul-zero group in omega (arith, e, some, enough))
some_count group (suc count) len some enough = omega arith

module _ (group len count : ℕ) (digits : List ℕ) (some : 0 < group) (long : 0 < len) (enough : len ≤ group * count) (more : count < length digits) where
  front_length : length (take count digits) ≡ count
  front_length = length-take-le count digits (omega (arith, more))

  past_length : 0 < length (drop count digits)
  past_length = omega (arith, length-drop count digits, more)

  front_some : 0 < length (take count digits)
  front_some = omega (arith, front_length, some_count group count len long enough)

  front_enough : len ≤ group * length (take count digits)
  front_enough = subst (λ n. len ≤ group * n) (sym front_length) enough

  -- where all digits past the first `count` are zeros, these are enough; else there is no BIT
  pub cut_zeros : are_zeros (drop count digits) ≡ true → bits_literal group len digits ≡ bits_within len (group * count) (bits_number group (take count digits))
  cut_zeros h =
      ap (bits_literal group len) (sym (take-append-drop count digits))
      ∙ front_bits group len (take count digits) (drop count digits) some past_length front_some front_enough h
      ∙ ap (λ n. bits_within len (group * n) (bits_number group (take count digits))) front_length

  pub cut_other : are_zeros (drop count digits) ≡ false → bits_literal group len digits ≡ None
  cut_other h =
      ap (bits_literal group len) (sym (take-append-drop count digits))
      ∙ no_bits group len (take count digits) (drop count digits) some past_length front_some front_enough h
