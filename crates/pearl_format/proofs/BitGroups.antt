-- Why the digits of a BIT are those of its truth values.
use Rattle.std.proofs.Common.{◌≡◌, ℕ, zero, suc, ◌+◌, ◌-◌, ◌*◌, ◌/◌, ◌%◌, ◌^◌, ◌<◌, Bool, true, List, ◌∷◌, length, take, drop, refl, sym, ap, ◌∙◌, subst, arith}
use Rattle.std.specs.Fmt.{digit_glyph}
use Rattle.std.proofs.lemmas.Nat.{pow-add, pow_pos, mod_below, shr_split, div-mul-add, mod-mul-add, div-add-mod'}
use Rattle.std.proofs.lemmas.List.{length-drop, length-take}
use Rattle.std.proofs.Math.Nat.{add-mul, mul_assoc, mul_comm, mod-eq_of_lt}
use Rattle.pearl_value.specs.BitLists.{number_of, zeros_to}
use Rattle.pearl_value.proofs.Offered.{number-below, length-zeros_to, number-zeros_to, before, in_two}
use Rattle.pearl_format.specs.Fields.{digit_count, last_digits}
use Rattle.pearl_format.specs.BitDigits.{group_digits, WritesGroups}
use Rattle.pearl_format.proofs.Digits.{counted}

next_places : (group count : ℕ) → group * suc count ≡ group + group * count
next_places group count = mul_comm group (suc count) ∙ (let e = add-mul 1 count group in let f = mul_comm count group in omega (arith, e, f))

-- what stands above the digits changes none of them
digits-above : (group count high value : ℕ) → last_digits group count (high * 2 ^ (group * count) + value) ≡ last_digits group count value
digits-above group zero high value = refl
digits-above group (suc count) high value =
    let p = 2 ^ (group * count) in
    let q = 2 ^ group in
    let wide : 2 ^ (group * suc count) ≡ q * p = ap (λ n. 2 ^ n) (next_places group count) ∙ pow-add 2 group (group * count) in
    let more : high * 2 ^ (group * suc count) + value ≡ high * q * p + value = ap (λ n. high * n + value) wide ∙ ap (λ n. n + value) (sym (mul_assoc high q p)) in
    let split : value / p * p + value % p ≡ value = shr_split value (group * count) in
    let whole : high * q * p + value ≡ (high * q + value / p) * p + value % p = (let e = add-mul (high * q) (value / p) p in omega (arith, e, split)) in
    let quotient : (high * q * p + value) / p ≡ high * q + value / p =
    ap (λ n. n / p) whole ∙ div-mul-add (high * q + value / p) p (value % p) (mod_below value p (pow_pos (group * count))) in
    let same : (high * q * p + value) / p % q ≡ value / p % q = ap (λ n. n % q) quotient ∙ left_over high q (value / p) (pow_pos group) in
    rw more (ap (λ n. digit_glyph true n ∷ last_digits group count (high * q * p + value)) same ∙ ap (λ rest. digit_glyph true (value / p % q) ∷ rest) (digits-above group count (high * q) value))
  where
    left_over : (high q value : ℕ) → 0 < q → (high * q + value) % q ≡ value % q
    left_over high q value some =
        let split : value / q * q + value % q ≡ value = div-add-mod' value q in
        let whole : high * q + value ≡ (high + value / q) * q + value % q = (let e = add-mul high (value / q) q in omega (arith, e, split)) in
        ap (λ n. n % q) whole ∙ mod-mul-add (high + value / q) q (value % q) (mod_below value q some)

-- the digits of a number are those of the truth values that spell it
digits-groups : (group count : ℕ) (bits : List Bool) → length bits ≡ group * count → last_digits group count (number_of bits) ≡ group_digits group count bits
digits-groups group zero bits long = refl
digits-groups group (suc count) bits long =
    let front = number_of (take group bits) in
    let all : length bits ≡ group + group * count = long ∙ next_places group count in
    let left : length bits - group ≡ group * count = omega (arith, all) in
    let first : length (take group bits) ≡ group = (let e = length-take group bits in omega (arith, e, all)) in
    let top : number_of bits / 2 ^ (group * count) ≡ front = ap (λ n. number_of bits / 2 ^ n) (sym left) ∙ before group bits in
    let small : front % 2 ^ group ≡ front = mod-eq_of_lt (subst (λ n. front < 2 ^ n) first (number-below (take group bits))) in
    let split : number_of bits ≡ front * 2 ^ (group * count) + number_of (drop group bits) =
    in_two group bits ∙ ap (λ n. front * 2 ^ n + number_of (drop group bits)) left in
    let rest : last_digits group count (number_of bits) ≡ group_digits group count (drop group bits) =
    ap (last_digits group count) split ∙ digits-above group count front (number_of (drop group bits)) ∙ digits-groups group count (drop group bits) (length-drop group bits ∙ left) in
    ap (λ n. digit_glyph true (n % 2 ^ group) ∷ last_digits group count (number_of bits)) top ∙ ap (λ n. digit_glyph true n ∷ last_digits group count (number_of bits)) small
    ∙ ap (λ digits. digit_glyph true front ∷ digits) rest

pub writes_groups : WritesGroups
writes_groups group bits some few =
    let count = digit_count group (length bits) in
    let places = group * count in
    let room = counted group (length bits) some few in
    let long : length (zeros_to places bits) ≡ places = (let e = length-zeros_to places bits in omega (arith, e, room.enough)) in
    ap (last_digits group count) (sym (number-zeros_to places bits)) ∙ digits-groups group count (zeros_to places bits) long
