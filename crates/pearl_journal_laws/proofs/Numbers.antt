-- Which digits are a number.
use Rattle.std.proofs.Common.{◌≡◌, ◌≤◌, ◌<◌, ◌^◌, ℕ, arith, List, [], ◌∷◌, Bool, true, false, ◌&&◌, nat_le, nat_lt, refl, ap, sym, subst, ◌∙◌, le-leb}
use Rattle.std.proofs.lemmas.Bool.{lt-ltb, leb-true, ltb-true, false≢true}
use Rattle.std.specs.Prelude.{Option, Some, None, if◌then◌else◌}
use Rattle.std.specs.Char.{is_ascii_digit}
use Rattle.std.specs.List.{AllByRecursion}
use Rattle.std.specs.Str.{all_ascii_digits}
use Rattle.std.specs.Str.Parse.{digits_value}
use Rattle.pearl_rules.specs.Literals.{at_most, decimal_number, number_up_to}
use Rattle.pearl_journal.specs.Words.{limited, number}
use Rattle.pearl_journal_laws.specs.Says.{IsDigit, IsNoNumber, IsNumber}

pub digits_are : (digits : List ℕ) → AllByRecursion IsDigit digits → all_ascii_digits digits ≡ true
digits_are [] are = refl
digits_are (byte ∷ digits) are = rw (le-leb 48 byte are.0.0, le-leb byte 57 are.0.1) (digits_are digits are.1)

pub number_is : (digits : List ℕ) (n : ℕ) → IsNumber digits n → number digits ≡ Some n
number_is [] n is = absurd (is.some refl)
number_is (byte ∷ bytes) n is =
    ap (λ b. if b then limited (digits_value 10 (byte ∷ bytes)) else None) (digits_are (byte ∷ bytes) is.are_digits)
    ∙ ap limited is.value ∙ ap (λ b. if b then Some n else None) (lt-ltb n (2 ^ 63) is.small)

digit_is : (byte : ℕ) (later : Bool) → is_ascii_digit byte && later ≡ true → IsDigit byte × (later ≡ true)
digit_is byte later e = by (nat_le 48 byte) (nat_le byte 57) later refl refl e
  where
    by : (low high rest : Bool) → nat_le 48 byte ≡ low → nat_le byte 57 ≡ high → low && high && rest ≡ true →
        IsDigit byte × (rest ≡ true)
    by true true rest l h e = ((leb-true 48 byte l, leb-true byte 57 h), e)
    by true false rest l h e = absurd (false≢true e)
    by false high rest l h e = absurd (false≢true e)

pub are_digits : (digits : List ℕ) → all_ascii_digits digits ≡ true → AllByRecursion IsDigit digits
are_digits [] e = tt
are_digits (byte ∷ digits) e =
    let h = digit_is byte (all_ascii_digits digits) e in
    (h.0, are_digits digits h.1)

pub no_number : (text : List ℕ) → IsNoNumber text → number text ≡ None
no_number [] none = refl
no_number (byte ∷ bytes) none = by (all_ascii_digits (byte ∷ bytes)) (nat_lt n (2 ^ 63)) refl refl
  where
    n : ℕ
    n = digits_value 10 (byte ∷ bytes)

    by : (are small : Bool) → all_ascii_digits (byte ∷ bytes) ≡ are → nat_lt n (2 ^ 63) ≡ small →
        (if are then (if small then Some n else None) else None) ≡ None
    by false small a s = refl
    by true false a s = refl
    by true true a s =
        absurd (none n (record {
          some = λ e. cc;
          are_digits = are_digits (byte ∷ bytes) a;
          value = refl;
          small = ltb-true n (2 ^ 63) s;
        }))

pub was_number : (digits : List ℕ) (n : ℕ) → number digits ≡ Some n → IsNumber digits n
was_number digits n e = by digits (all_ascii_digits digits) refl e
  where
    below : (bytes : List ℕ) (small : Bool) → nat_lt (digits_value 10 bytes) (2 ^ 63) ≡ small →
        (if small then Some (digits_value 10 bytes) else None) ≡ Some n →
        (digits_value 10 bytes ≡ n) × (digits_value 10 bytes < 2 ^ 63)
    below bytes true s e = (cc, ltb-true (digits_value 10 bytes) (2 ^ 63) s)
    below bytes false s e = let no : ⊥ = cc in absurd no

    by : (bytes : List ℕ) (are : Bool) → all_ascii_digits bytes ≡ are → number bytes ≡ Some n → IsNumber bytes n
    by [] are a e = let no : ⊥ = cc in absurd no
    by (byte ∷ bytes) true a e =
        let all : number (byte ∷ bytes) ≡ limited (digits_value 10 (byte ∷ bytes)) =
        ap (λ b. if b then limited (digits_value 10 (byte ∷ bytes)) else None) a in
        let h = below (byte ∷ bytes) (nat_lt (digits_value 10 (byte ∷ bytes)) (2 ^ 63)) refl (sym all ∙ e) in
        record {
          some = λ e. cc;
          are_digits = are_digits (byte ∷ bytes) a;
          value = h.0;
          small = subst (λ m. m < 2 ^ 63) h.0 h.1;
        }
    by (byte ∷ bytes) false a e =
        let none : number (byte ∷ bytes) ≡ None =
        ap (λ b. if b then limited (digits_value 10 (byte ∷ bytes)) else None) a in
        let no : ⊥ = cc in
        absurd no

-- LIMITS

pub decimal_is : (digits : List ℕ) (n : ℕ) → IsNumber digits n → decimal_number digits ≡ Some n
decimal_is [] n is = absurd (is.some refl)
decimal_is (byte ∷ bytes) n is =
    ap (λ b. if b then Some (digits_value 10 (byte ∷ bytes)) else None) (digits_are (byte ∷ bytes) is.are_digits)
    ∙ ap Some is.value

pub was_decimal : (digits : List ℕ) (n : ℕ) → decimal_number digits ≡ Some n → n < 2 ^ 63 → IsNumber digits n
was_decimal [] n e small = let no : ⊥ = cc in absurd no
was_decimal (byte ∷ bytes) n e small = by (all_ascii_digits (byte ∷ bytes)) refl e
  where
    by : (are : Bool) → all_ascii_digits (byte ∷ bytes) ≡ are →
        (if are then Some (digits_value 10 (byte ∷ bytes)) else None) ≡ Some n → IsNumber (byte ∷ bytes) n
    by true a e =
        record { some = λ e. cc; are_digits = are_digits (byte ∷ bytes) a; value = cc; small = small }
    by false a e = let no : ⊥ = cc in absurd no

pub limit_is : (limit : ℕ) (digits : List ℕ) (n : ℕ) → IsNumber digits n → n ≤ limit →
    number_up_to limit digits ≡ Some n
limit_is limit digits n is low =
    ap (at_most limit) (decimal_is digits n is) ∙ ap (λ b. if b then Some n else None) (le-leb n limit low)

pub was_limit : (limit : ℕ) (digits : List ℕ) (n : ℕ) → limit < 2 ^ 63 → number_up_to limit digits ≡ Some n →
    IsNumber digits n × (n ≤ limit)
was_limit limit digits n small e = by (decimal_number digits) refl e
  where
    by_size : (m : ℕ) (within : Bool) → nat_le m limit ≡ within → (if within then Some m else None) ≡ Some n →
        (m ≡ n) × (n ≤ limit)
    by_size m true w e = let same : m ≡ n = cc in (same, subst (λ k. k ≤ limit) same (leb-true m limit w))
    by_size m false w e = let no : ⊥ = cc in absurd no

    by : (o : Option ℕ) → decimal_number digits ≡ o → at_most limit o ≡ Some n → IsNumber digits n × (n ≤ limit)
    by None d e = let no : ⊥ = cc in absurd no
    by (Some m) d e =
        let h = by_size m (nat_le m limit) refl e in
        let low = h.1 in
        (was_decimal digits n (d ∙ ap Some h.0) (omega (arith, low, small)), low)
