-- Bits are read back as they are written, and written in their order.
use Rattle.std.proofs.Common.{◌≡◌, ◌<◌, ◌≤◌, ◌+◌, ◌-◌, ◌*◌, ◌/◌, ◌%◌, ◌^◌, ℕ, zero, suc, Bool, true, false, ◌&&◌, ◌==◌, if◌then◌else◌, List, [], ◌∷◌, ◌++◌, length, map, take, drop, fold, slice_index, Some, refl, sym, ap, ◌∙◌, append_assoc, arith, length-append, codes}
use Rattle.std.proofs.lemmas.Grind.{common_steps}
use Rattle.std.proofs.lemmas.Bool.Decides.{nat_tests}
use Rattle.std.proofs.Math.Nat.{div-eq_of_lt, div-div-eq-div-mul}
use Rattle.std.specs.List.{list_all}
use Rattle.pearl_tree.specs.declared.token.What.TheVariants as what
use Rattle.pearl_tree.specs.Tokens.{IsBits}
use Rattle.pearl_value.specs.BitLists.{bits_of as truth_values}
use Rattle.pearl_lex.specs.Spelling.{sized}
use Rattle.pearl_lex.specs.Quoted.{is_char, chars_len, digit_value, is_digit_of, bits_value, bits_of, quoted}
use Rattle.pearl_lex.specs.Front.{front}
use Rattle.pearl_print.specs.Spelled.{binary, spelled}
use Rattle.pearl_print.specs.Reading.{IsReadBack, DigitsAreTheBits}
use Rattle.pearl_print.proofs.TextsRead.{len_plain, some_left, taken_front, index_front, drop_more}

record IsBitByte (b : ℕ) : Type 0 where
  pub low : 48 ≤ b
  pub high : b ≤ 49

bit_byte : (n : ℕ) → IsBitByte (48 + n % 2)
bit_byte n = record { low = omega arith; high = omega arith }

bit_plain : (b : ℕ) → IsBitByte b → (b == 39) ≡ false
bit_plain b h = let l = h.low in let u = h.high in grind (arith, common_steps, nat_tests)

bit_char : (b : ℕ) → IsBitByte b → is_char b ≡ true
bit_char b h = let l = h.low in let u = h.high in grind (arith, common_steps, nat_tests)

bit_worth : (b : ℕ) → IsBitByte b → digit_value b ≡ b - 48
bit_worth b h = let l = h.low in let u = h.high in grind (arith, nat_tests)

bit_digit : (b : ℕ) → IsBitByte b → is_digit_of 1 b ≡ true
bit_digit b h = let l = h.low in let u = h.high in grind (arith, nat_tests)

binary_length : (n value : ℕ) → length (binary n value) ≡ n
binary_length zero value = refl
binary_length (suc n) value = ap suc (binary_length n value)

len_binary : (n value : ℕ) (rest : List ℕ) → chars_len (binary n value ++ 39 ∷ 66 ∷ rest) ≡ length (binary n value)
len_binary zero value rest = refl
len_binary (suc n) value rest =
    let h = bit_byte (value / 2 ^ n) in
    let others : chars_len (binary n value ++ 39 ∷ 66 ∷ rest) ≡ length (binary n value) = len_binary n value rest in
    len_plain (48 + value / 2 ^ n % 2) (binary n value ++ 39 ∷ 66 ∷ rest) (bit_plain _ h) (bit_char _ h) (some_left (binary n value) (66 ∷ rest) 39) ∙ omega (arith, others)

and_true : (a b : Bool) → a ≡ true → b ≡ true → a && b ≡ true
and_true true true e f = refl
and_true true false e f = f
and_true false b e f = e

binary_digits : (n value : ℕ) → list_all (is_digit_of 1) (binary n value) ≡ true
binary_digits zero value = refl
binary_digits (suc n) value = and_true (is_digit_of 1 (48 + value / 2 ^ n % 2)) _ (bit_digit _ (bit_byte (value / 2 ^ n))) (binary_digits n value)

halved : (value n : ℕ) → value / 2 ^ suc n ≡ value / 2 ^ n / 2
halved value n =
    let double : 2 ^ suc n ≡ 2 ^ n * 2 = omega arith in
    ap (λ m. value / m) double ∙ sym (div-div-eq-div-mul value (2 ^ n) 2)

-- the bits below add to those above
binary_worth : (n value : ℕ) → fold (λ value digit. value * 2 ^ 1 + digit_value digit) (value / 2 ^ n) (binary n value) ≡ value
binary_worth zero value = omega arith
binary_worth (suc n) value =
    let bit = 48 + value / 2 ^ n % 2 in
    let up : value / 2 ^ suc n * 2 ^ 1 + digit_value bit ≡ value / 2 ^ n =
    ap (λ v. v * 2 + digit_value bit) (halved value n) ∙ omega (arith, bit_worth bit (bit_byte (value / 2 ^ n))) in
    ap (λ v. fold (λ value digit. value * 2 ^ 1 + digit_value digit) v (binary n value)) up ∙ binary_worth n value

fits : (bytes : List ℕ) (len value : ℕ) → length bytes ≡ len → 1 ≤ len → len ≤ 64 → list_all (is_digit_of 1) bytes ≡ true → bits_value 1 bytes ≡ value → bits_of 1 bytes ≡ Some (what.Bits len value)
fits bytes len value size low high digits worth =
    let product : length bytes * 1 ≡ len = omega arith in
    rw (digits, worth, product) (grind (arith, nat_tests))

quoted_bits : (bytes digits rest : List ℕ) (n : ℕ) → chars_len bytes ≡ n → slice_index bytes n ≡ 39 → drop (n + 1) bytes ≡ 66 ∷ 32 ∷ rest → take n bytes ≡ digits →
    quoted bytes ≡ sized (bits_of 1 digits) (n + 2 + 1)
quoted_bits bytes digits rest n len close after chars = rw (len, close, after, chars)

-- bits are read back
pub bits_read_back : (len value : ℕ) → IsBits len value → IsReadBack (what.Bits len value)
unfolding spelled front
bits_read_back len value is =
    let inner = binary len value in
    let size : length ((39 ∷ inner) ++ 39 ∷ 66 ∷ []) ≡ length inner + 2 + 1 = omega (arith, length-append (39 ∷ inner) (39 ∷ 66 ∷ [])) in
    let top : value / 2 ^ len ≡ 0 = div-eq_of_lt is.2 in
    let worth : bits_value 1 inner ≡ value = ap (λ v. fold (λ value digit. value * 2 ^ 1 + digit_value digit) v inner) (sym top) ∙ binary_worth len value in
    record {
      begins = λ rest. ap front (append_assoc ((39 ∷ inner) ++ 39 ∷ 66 ∷ []) (32 ∷ []) rest ∙ append_assoc (39 ∷ inner) (39 ∷ 66 ∷ []) (32 ∷ rest)) ∙
          quoted_bits (inner ++ 39 ∷ 66 ∷ 32 ∷ rest) inner rest (length inner) (len_binary len value (32 ∷ rest)) (index_front inner (66 ∷ 32 ∷ rest) 39)
          (drop_more inner (66 ∷ 32 ∷ rest) 39) (taken_front inner (39 ∷ 66 ∷ 32 ∷ rest)) ∙
          ap (λ what. sized what (length inner + 2 + 1)) (fits inner len value (binary_length len value) is.0 is.1 (binary_digits len value) worth) ∙
          ap (λ n. Some (record { what = what.Bits len value; size = n })) (sym size);
      no_space = λ rest. refl;
    }

bit_of_digit : (digit : ℕ) → digit < 2 → 48 + digit ≡ (if digit == 1 then 49 else 48)
bit_of_digit zero small = refl
bit_of_digit (suc zero) small = refl
bit_of_digit (suc (suc n)) small = absurd (omega (arith, small))

-- the digits of a number are its truth values in order
digits_in_order : (len value : ℕ) → binary len value ≡ map (λ bit. if bit then 49 else 48) (truth_values len value)
digits_in_order zero value = refl
digits_in_order (suc n) value =
    ap (λ digit. digit ∷ binary n value) (bit_of_digit (value / 2 ^ n % 2) (omega arith))
    ∙ ap (λ digits. (if value / 2 ^ n % 2 == 1 then 49 else 48) ∷ digits) (digits_in_order n value)

-- bits are written as their truth values in order
pub digits_are_the_bits : DigitsAreTheBits
unfolding spelled
digits_are_the_bits len value = ap (λ digits. codes "'" ++ digits ++ codes "'B") (digits_in_order len value)
