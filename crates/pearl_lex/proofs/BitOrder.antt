-- The truth values of a bit literal are those of its digits, in order.
use Rattle.std.proofs.Common.{◌≡◌, ◌<◌, ◌+◌, ◌*◌, ◌^◌, ℕ, suc, List, [], ◌∷◌, ◌++◌, length, take, fold, All, refl, sym, ap, ◌∙◌, subst, arith, length-append}
use Rattle.std.proofs.lemmas.List.Elements.{All-head, All-tail}
use Rattle.std.proofs.lemmas.Nat.{pow-add}
use Rattle.std.proofs.Math.Nat.{add-mul, mul_assoc}
use Rattle.std.proofs.Math.Seq.{take-append_seam}
use Rattle.pearl_tree.specs.declared.token.What.TheVariants as what
use Rattle.pearl_value.specs.BitLists.{bits_of, number_of}
use Rattle.pearl_value.proofs.Offered.{number-append, number-bits, bits-number, length-bits}
use Rattle.pearl_lex.specs.Laws.{digit_bits, BitsAreTheirDigits, TakesBitsInOrder}
use Rattle.pearl_lex.specs.Quoted.{digit_value, bits_value}
use Rattle.pearl_lex.specs.Spells.{SpellsBits, BeginsToken}
use Rattle.pearl_lex.proofs.LongestFront.{takes_the_longest}

-- one more digit
next_digit : (w n : ℕ) → w + n * w ≡ suc n * w
next_digit w n =
    let more : suc n * w ≡ (1 + n) * w = (let e : suc n ≡ 1 + n = omega arith in ap (λ m. m * w) e) in
    omega (arith, more, add-mul 1 n w)

length-digits : (w : ℕ) (digits : List ℕ) → length (digit_bits w digits) ≡ length digits * w
length-digits w [] = omega arith
length-digits w (d ∷ digits) =
    length-append (bits_of w (digit_value d)) (digit_bits w digits) ∙ ap (λ n. n + length (digit_bits w digits)) (length-bits w (digit_value d))
    ∙ ap (λ n. w + n) (length-digits w digits) ∙ next_digit w (length digits)

-- what the first digits make stands above the bits of the others
digits_worth : (w : ℕ) (digits : List ℕ) (v : ℕ) → All (λ digit. digit_value digit < 2 ^ w) digits
    → fold (λ value digit. value * 2 ^ w + digit_value digit) v digits ≡ v * 2 ^ length (digit_bits w digits) + number_of (digit_bits w digits)
digits_worth w [] v each = omega arith
digits_worth w (d ∷ digits) v each =
    let x = digit_value d in
    let first = bits_of w x in
    let rest = digit_bits w digits in
    let q = 2 ^ length rest in
    let small : x < 2 ^ w = All-head (λ digit. digit_value digit < 2 ^ w) d digits each in
    let long : length (first ++ rest) ≡ w + length rest = length-append first rest ∙ ap (λ n. n + length rest) (length-bits w x) in
    let wide : v * 2 ^ length (first ++ rest) ≡ v * 2 ^ w * q = ap (λ n. v * 2 ^ n) long ∙ ap (λ n. v * n) (pow-add 2 w (length rest)) ∙ sym (mul_assoc v (2 ^ w) q) in
    let worth : number_of (first ++ rest) ≡ x * q + number_of rest = number-append first rest ∙ ap (λ n. n * q + number_of rest) (number-bits w x small) in
    let spread : (v * 2 ^ w + x) * q ≡ v * 2 ^ w * q + x * q = add-mul (v * 2 ^ w) x q in
    digits_worth w digits (v * 2 ^ w + x) (All-tail (λ digit. digit_value digit < 2 ^ w) d digits each) ∙ omega (arith, wide, worth, spread)

pub bits_are_their_digits : BitsAreTheirDigits
bits_are_their_digits width digits each =
    let bits = digit_bits width digits in
    let worth : bits_value width digits ≡ number_of bits = digits_worth width digits 0 each ∙ omega arith in
    ap (λ n. bits_of n (bits_value width digits)) (sym (length-digits width digits)) ∙ ap (bits_of (length bits)) worth ∙ bits-number bits

in_order : (text : List ℕ) (len value : ℕ) (is : SpellsBits text len value) → bits_of len value ≡ digit_bits is.width is.digits
in_order text len value is =
    ap (λ n. bits_of n value) is.len_is ∙ ap (bits_of (length is.digits * is.width)) is.value_is ∙ bits_are_their_digits is.width is.digits is.each

begun : (bytes : List ℕ) (len value size : ℕ) → BeginsToken bytes (what.Bits len value) size → SpellsBits (take size bytes) len value
begun bytes len value size is =
    let text : take size bytes ≡ is.text = ap (λ n. take n bytes) is.size_is ∙ ap (take (length is.text)) is.written ∙ take-append_seam is.text is.rest in
    subst (λ t. SpellsBits t len value) (sym text) is.spells

pub takes_bits_in_order : TakesBitsInOrder
takes_bits_in_order bytes len value size e =
    let taken = (takes_the_longest bytes (record { what = what.Bits len value; size = size })).0 e in
    let spelled = begun bytes len value size taken.0.begins in
    (spelled, in_order (take size bytes) len value spelled)
