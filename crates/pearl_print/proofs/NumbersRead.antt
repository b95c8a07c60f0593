-- Numbers are read back as they are written.
use Rattle.std.proofs.Common.{◌≡◌, ◌<◌, ◌≤◌, ◌+◌, ◌-◌, ◌*◌, ◌^◌, ◌/◌, ℕ, true, false, nat_le, if◌then◌else◌, List, [], ◌∷◌, ◌++◌, length, take, drop, fold, slice_index, Some, None, refl, sym, ap, ◌∙◌, append_assoc, arith, length-append}
use Rattle.std.specs.Fmt.{decimal}
use Rattle.std.specs.Option.{option_map}
use Rattle.std.specs.Char.{is_ascii_alphabetic, is_ascii_digit}
use Rattle.std.specs.List.{prefix_len}
use Rattle.std.specs.Char.{digit_value}
use Rattle.std.specs.Str.Parse.{AllDigits, digits_value_after}
use Rattle.std.proofs.lemmas.Fmt.{decimal_is_IsNumeral}
use Rattle.std.proofs.lemmas.Grind.{common_steps}
use Rattle.std.proofs.lemmas.Bool.Decides.{nat_tests}
use Rattle.pearl_tree.specs.declared.token.What.TheVariants as what
use Rattle.pearl_tree.specs.Tokens.{IsNumberValue}
use Rattle.pearl_lex.specs.Spelling.{space_len, sized}
use Rattle.pearl_lex.specs.Literals.{next_value, value_of, value_within, number_of, thousandths, decimal_by, decimal_of}
use Rattle.pearl_lex.specs.Front.{front}
use Rattle.pearl_print.specs.Spelled.{digit, spelled}
use Rattle.pearl_print.specs.Reading.{IsReadBack}

-- a digit is no other byte that begins something
pub record IsDigitByte (b : ℕ) : Type 0 where
  pub low : 48 ≤ b
  pub high : b ≤ 57

digit_byte : (b : ℕ) → digit_value b < 10 → IsDigitByte b
digit_byte b h = record { low = grind (arith, nat_tests); high = grind (arith, nat_tests) }

pub digit_is : (b : ℕ) → IsDigitByte b → is_ascii_digit b ≡ true
digit_is b h = let l = h.low in let u = h.high in grind (arith, common_steps, nat_tests)

pub digit_is_no_letter : (b : ℕ) → IsDigitByte b → is_ascii_alphabetic b ≡ false
digit_is_no_letter b h = let l = h.low in let u = h.high in grind (arith, common_steps, nat_tests)

digit_worth : (b : ℕ) → IsDigitByte b → digit_value b ≡ b - 48
digit_worth b h = let l = h.low in let u = h.high in grind (arith, nat_tests)

pub digit_is_no_space : (b : ℕ) (rest : List ℕ) → IsDigitByte b → space_len (b ∷ rest) ≡ 0
digit_is_no_space b rest h = let l = h.low in let u = h.high in grind (arith, common_steps, nat_tests)

same_value : (ds : List ℕ) (n : ℕ) → AllDigits 10 ds → fold next_value n ds ≡ digits_value_after 10 n ds
same_value [] n all = refl
same_value (b ∷ ds) n all =
    let h : n * 10 + digit_value b ≡ next_value n b = omega (arith, digit_worth b (digit_byte b all.0)) in
    same_value ds (next_value n b) all.1 ∙ ap (λ m. digits_value_after 10 m ds) (sym h)

all_counted : (ds rest : List ℕ) (b : ℕ) → is_ascii_digit b ≡ false → AllDigits 10 ds → prefix_len is_ascii_digit (ds ++ b ∷ rest) ≡ length ds
all_counted [] rest b other all = rw other
all_counted (d ∷ ds) rest b other all =
    let e : is_ascii_digit d ≡ true = digit_is d (digit_byte d all.0) in
    let others : prefix_len is_ascii_digit (ds ++ b ∷ rest) ≡ length ds = all_counted ds rest b other all.1 in
    rw e (omega arith)

taken_front : (bytes rest : List ℕ) → take (length bytes) (bytes ++ rest) ≡ bytes
taken_front [] rest = refl
taken_front (b ∷ bytes) rest = ap (λ t. b ∷ t) (taken_front bytes rest)

drop_front : (before after : List ℕ) → drop (length before) (before ++ after) ≡ after
drop_front [] after = refl
drop_front (b ∷ before) after = drop_front before after

first_digit : (ds rest : List ℕ) → 0 < length ds → AllDigits 10 ds → IsDigitByte (slice_index (ds ++ rest) 0)
first_digit [] rest some all = absurd (omega arith)
first_digit (d ∷ ds) rest some all = digit_byte d all.0

digits_no_space : (ds rest : List ℕ) → 0 < length ds → AllDigits 10 ds → space_len (ds ++ rest) ≡ 0
digits_no_space [] rest some all = absurd (omega arith)
digits_no_space (d ∷ ds) rest some all = digit_is_no_space d (ds ++ rest) (digit_byte d all.0)

-- what stands at the front of digits and a blank
digits_front : (bytes ds rest : List ℕ) → is_ascii_alphabetic (slice_index bytes 0) ≡ false → is_ascii_digit (slice_index bytes 0) ≡ true →
    prefix_len is_ascii_digit bytes ≡ length ds → take (length ds) bytes ≡ ds → drop (length ds) bytes ≡ 32 ∷ rest → front bytes ≡ sized (number_of ds) (length ds)
unfolding front
digits_front bytes ds rest no_letter digit count digits after = rw (no_letter, digit, count, after, digits)

pub within_limit : (value max : ℕ) → value ≤ max → (if nat_le value max then Some value else None) ≡ Some value
within_limit value max h = grind (arith, nat_tests)

-- a number is read back
pub number_reads : (value : ℕ) → IsNumberValue value → IsReadBack (what.Number value)
unfolding spelled
number_reads value small =
    let ds = decimal value in
    let known = decimal_is_IsNumeral value (omega arith) in
    let some : 0 < length ds = known.0.0 in
    let all : AllDigits 10 ds = known.0.1 in
    let worth : value_of ds ≡ value = same_value ds 0 all ∙ known.1 in
    let number : number_of ds ≡ Some (what.Number value) =
    ap (λ (v : ℕ). option_map what.Number (if nat_le v (2 ^ 63 - 1) then Some v else None)) worth ∙
    ap (option_map what.Number) (within_limit value (2 ^ 63 - 1) (omega arith)) in
    record {
      begins = λ rest. ap front (append_assoc ds (32 ∷ []) rest) ∙
          digits_front (ds ++ 32 ∷ rest) ds rest (digit_is_no_letter _ (first_digit ds (32 ∷ rest) some all)) (digit_is _ (first_digit ds (32 ∷ rest) some all))
          (all_counted ds rest 32 refl all) (taken_front ds (32 ∷ rest)) (drop_front ds (32 ∷ rest)) ∙
          ap (λ what. sized what (length ds)) number;
      no_space = λ rest. ap space_len (append_assoc ds (32 ∷ []) rest) ∙ digits_no_space ds (32 ∷ rest) some all;
    }

-- what stands at the front of digits, a period, plus_three digits and a blank
decimal_front : (bytes ds rest : List ℕ) (a b c : ℕ) → is_ascii_alphabetic (slice_index bytes 0) ≡ false → is_ascii_digit (slice_index bytes 0) ≡ true →
    prefix_len is_ascii_digit bytes ≡ length ds → take (length ds) bytes ≡ ds → drop (length ds) bytes ≡ 46 ∷ a ∷ b ∷ c ∷ 32 ∷ rest →
    is_ascii_digit a ≡ true → is_ascii_digit b ≡ true → is_ascii_digit c ≡ true → front bytes ≡ sized (decimal_of ds (a ∷ b ∷ c ∷ [])) (length ds + 4)
unfolding front
decimal_front bytes ds rest a b c no_letter digit count digits after first second third = rw (no_letter, digit, count, after, digits, first, second, third)

pub digit_written : (n : ℕ) → is_ascii_digit (digit n) ≡ true
digit_written n = digit_is (digit n) (record { low = omega arith; high = omega arith })

pub three_worth : (n : ℕ) → n < 1000 → 100 * (digit (n / 100) - 48) + 10 * (digit (n / 10) - 48) + (digit n - 48) ≡ n
three_worth n small = omega arith

-- a decimal is read back
pub decimal_reads : (whole part : ℕ) → IsNumberValue whole → part < 1000 → IsReadBack (what.Decimal whole part)
unfolding spelled
decimal_reads whole part small fine =
    let ds = decimal whole in
    let a = digit (part / 100) in
    let b = digit (part / 10) in
    let c = digit part in
    let known = decimal_is_IsNumeral whole (omega arith) in
    let some : 0 < length ds = known.0.0 in
    let all : AllDigits 10 ds = known.0.1 in
    let worth : value_of ds ≡ whole = same_value ds 0 all ∙ known.1 in
    let within : value_within ds (2 ^ 63 - 1) ≡ Some whole =
    ap (λ (v : ℕ). if nat_le v (2 ^ 63 - 1) then Some v else None) worth ∙ within_limit whole (2 ^ 63 - 1) (omega arith) in
    let number : decimal_of ds (a ∷ b ∷ c ∷ []) ≡ Some (what.Decimal whole part) =
    ap (λ v. decimal_by v (thousandths (a ∷ b ∷ c ∷ []))) within ∙ ap (λ (n : ℕ). Some (what.Decimal whole n)) (three_worth part fine) in
    let size : length ((ds ++ 46 ∷ []) ++ a ∷ b ∷ c ∷ []) ≡ length ds + 4 = omega (arith, length-append (ds ++ 46 ∷ []) (a ∷ b ∷ c ∷ []), length-append ds (46 ∷ [])) in
    let spelling : (rest : List ℕ) → (((ds ++ 46 ∷ []) ++ a ∷ b ∷ c ∷ []) ++ 32 ∷ []) ++ rest ≡ ds ++ 46 ∷ a ∷ b ∷ c ∷ 32 ∷ rest = λ rest.
    append_assoc ((ds ++ 46 ∷ []) ++ a ∷ b ∷ c ∷ []) (32 ∷ []) rest ∙ append_assoc (ds ++ 46 ∷ []) (a ∷ b ∷ c ∷ []) (32 ∷ rest) ∙
    append_assoc ds (46 ∷ []) (a ∷ b ∷ c ∷ 32 ∷ rest) in
    record {
      begins = λ rest. let tail = 46 ∷ a ∷ b ∷ c ∷ 32 ∷ rest in ap front (spelling rest) ∙
          decimal_front (ds ++ tail) ds rest a b c (digit_is_no_letter _ (first_digit ds tail some all)) (digit_is _ (first_digit ds tail some all))
          (all_counted ds (a ∷ b ∷ c ∷ 32 ∷ rest) 46 refl all) (taken_front ds tail) (drop_front ds tail)
          (digit_written (part / 100)) (digit_written (part / 10)) (digit_written part) ∙
          ap (λ what. sized what (length ds + 4)) number ∙ ap (λ n. Some (record { what = what.Decimal whole part; size = n })) (sym size);
      no_space = λ rest. ap space_len (spelling rest) ∙ digits_no_space ds (46 ∷ a ∷ b ∷ c ∷ 32 ∷ rest) some all;
    }
