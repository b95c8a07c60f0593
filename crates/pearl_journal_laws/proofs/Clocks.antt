-- A time of day is no number and no length of time, and a number is no length of time.
use Rattle.std.proofs.Common.{◌≡◌, ◌≢◌, ◌≤◌, ◌<◌, ◌+◌, ℕ, ◌*◌, ◌-◌, ◌^◌, ℤ, pos, List, [], ◌∷◌, ◌++◌, ◌⊎◌, inl, inr, Bool, true, false, cond, ◌&&◌, ◌==◌, nat_le, drop, codes, Option, Some, None, option_map, refl, ap, sym, ◌∙◌, subst, arith, add-one}
use Rattle.std.proofs.lemmas.Bool.{eqb-true, ne_eqb, leb-true, false≢true}
use Rattle.std.specs.Prelude.{slice_index, if◌then◌else◌}
use Rattle.std.specs.Char.{is_ascii_digit}
use Rattle.std.specs.List.{AllByRecursion, prefix_len}
use Rattle.std.specs.Str.{all_ascii_digits}
use Rattle.std.specs.Str.Parse.{digits_value}
use Rattle.pearl_rules.specs.Literals.{at_most, behind_blanks, behind_digits, fixed_literal, front_digits, from_amount, from_hours, from_minutes, from_seconds, minus, number_literal, seconds_amount, span_literal, worded}
use Rattle.pearl_journal.specs.Words.{is_blank}
use Rattle.pearl_journal_laws.specs.Says.{IsDigit}
use Rattle.pearl_journal_laws.specs.Times.{IsTimeOfDay}
use Rattle.pearl_journal_laws.proofs.Numbers.{digits_are}

-- COLONS

-- digits, and a colon behind them
pub record IsColoned (bytes : List ℕ) : Type 0 where
  pub first : ℕ
  pub digits : List ℕ
  pub rest : List ℕ
  pub spelled : bytes ≡ first ∷ (digits ++ 58 ∷ rest)
  pub are_digits : all_ascii_digits (first ∷ digits) ≡ true

none-some : {X : Type 0} (x : X) → None ≡ Some x → ⊥
none-some x e = cc

pub coloned : (bytes : List ℕ) (time : ℕ) → IsTimeOfDay bytes time → IsColoned bytes
coloned bytes time is = by is.hour_digits is.hours_are.0.some is.hours_are.0.are_digits is.spelled
  where
    rest : List ℕ
    rest = is.minute_digits ++ 58 ∷ (is.second_digits ++ is.fraction)

    by : (hours : List ℕ) → hours ≢ [] → AllByRecursion IsDigit hours → bytes ≡ hours ++ 58 ∷ rest → IsColoned bytes
    by [] some are spelled = absurd (some refl)
    by (byte ∷ digits) some are spelled =
        record {
          first = byte;
          digits = digits;
          rest = rest;
          spelled = spelled;
          are_digits = digits_are (byte ∷ digits) are;
        }

-- FIRST BYTES

and_first : (a b : Bool) → a && b ≡ true → (a ≡ true) × (b ≡ true)
and_first true b e = (refl, e)
and_first false b e = absurd (false≢true e)

digit_low : (byte : ℕ) → is_ascii_digit byte ≡ true → 48 ≤ byte
digit_low byte e = leb-true 48 byte (and_first (nat_le 48 byte) (nat_le byte 57) e).0

-- a digit is no byte below it
pub not_below : (byte other : ℕ) → is_ascii_digit byte ≡ true → other < 48 → (byte == other) ≡ false
not_below byte other e low =
    let high = digit_low byte e in ne_eqb byte other (λ same. omega (arith, same, low, high))

-- UNITS

-- nothing, or a colon and more
data IsNoUnit : List ℕ → Type 0 where
  Nothing : IsNoUnit []
  Colon : (rest : List ℕ) → IsNoUnit (58 ∷ rest)

no_unit : (letter : ℕ) (word tail : List ℕ) (o : Option ℕ) → (58 == letter) ≡ false → IsNoUnit tail →
    worded is_blank (letter ∷ word) o tail ≡ None
no_unit letter word tail None other is = refl
no_unit letter word _ (Some n) other Nothing = refl
no_unit letter word _ (Some n) other (Colon rest) = rw (other) refl

no_point : (tail : List ℕ) → IsNoUnit tail → (slice_index tail 0 == 46) ≡ false
no_point _ Nothing = refl
no_point _ (Colon rest) = refl

no_seconds : (text : List ℕ) → IsNoUnit (behind_digits text) → seconds_amount is_blank text ≡ None
no_seconds text is =
    rw (no_point (behind_digits text) is)
    (no_unit 83 (codes "EC") (behind_digits text) (option_map (λ n. n * 1000)
    (number_literal (front_digits text))) refl is)

no_hours : (text : List ℕ) → IsNoUnit (behind_digits text) → from_hours is_blank text ≡ None
no_hours text is =
    ap (from_amount is_blank (from_minutes is_blank) text)
    (no_unit 72 (codes "RS") (behind_digits text) (option_map (λ n. n * 3600000)
    (number_literal (front_digits text))) refl is)
    ∙ ap (from_amount is_blank (from_seconds is_blank) text)
    (no_unit 77 (codes "IN") (behind_digits text) (option_map (λ n. n * 60000)
    (number_literal (front_digits text))) refl is)
    ∙ ap (from_amount is_blank (λ rest. None) text) (no_seconds text is)

drop-more : (n byte : ℕ) (bytes : List ℕ) → drop (1 + n) (byte ∷ bytes) ≡ drop n bytes
drop-more n byte bytes = let e : 1 + n ≡ n + 1 = omega arith in rw (e, add-one n) refl

one_less : (byte : ℕ) (bytes : List ℕ) → is_ascii_digit byte ≡ true → behind_digits (byte ∷ bytes) ≡ behind_digits bytes
one_less byte bytes is =
    ap (λ b. drop (cond b (1 + prefix_len is_ascii_digit bytes) 0) (byte ∷ bytes)) is
    ∙ drop-more (prefix_len is_ascii_digit bytes) byte bytes

behind_all : (digits : List ℕ) → all_ascii_digits digits ≡ true → behind_digits digits ≡ []
behind_all [] are = refl
behind_all (byte ∷ digits) are =
    let h = and_first (is_ascii_digit byte) (all_ascii_digits digits) are in
    one_less byte digits h.0 ∙ behind_all digits h.1

behind_front : (digits rest : List ℕ) → all_ascii_digits digits ≡ true → behind_digits (digits ++ 58 ∷ rest) ≡ 58 ∷ rest
behind_front [] rest are = refl
behind_front (byte ∷ digits) rest are =
    let h = and_first (is_ascii_digit byte) (all_ascii_digits digits) are in
    one_less byte (digits ++ 58 ∷ rest) h.0 ∙ behind_front digits rest h.1

not_all : (digits rest : List ℕ) → all_ascii_digits (digits ++ 58 ∷ rest) ≡ false
not_all [] rest = refl
not_all (byte ∷ digits) rest = by (is_ascii_digit byte) (not_all digits rest)
  where
    by : (is : Bool) → all_ascii_digits (digits ++ 58 ∷ rest) ≡ false →
        is && all_ascii_digits (digits ++ 58 ∷ rest) ≡ false
    by true later = later
    by false later = refl

-- TIMES OF DAY

first_digit : (bytes : List ℕ) (is : IsColoned bytes) → is_ascii_digit is.first ≡ true
first_digit bytes is = (and_first (is_ascii_digit is.first) (all_ascii_digits is.digits) is.are_digits).0

pub coloned_begins : (bytes : List ℕ) (other : ℕ) → IsColoned bytes → other < 48 →
    (slice_index bytes 0 == other) ≡ false
coloned_begins bytes other is low =
    ap (λ b. slice_index b 0 == other) is.spelled ∙ not_below is.first other (first_digit bytes is) low

pub coloned_number : (bytes : List ℕ) → IsColoned bytes → fixed_literal is_blank bytes ≡ None
coloned_number bytes is =
    let none : number_literal (is.first ∷ (is.digits ++ 58 ∷ is.rest)) ≡ None =
    ap (λ b. at_most (2 ^ 63 - 1) (if b then Some (digits_value 10 (is.first ∷ (is.digits ++ 58 ∷ is.rest))) else None))
    (not_all (is.first ∷ is.digits) is.rest) in
    rw (coloned_begins bytes 45 is (omega arith)) (ap (λ b. option_map pos (number_literal b)) is.spelled
    ∙ ap (option_map pos) none)

pub coloned_span : (bytes : List ℕ) → IsColoned bytes → span_literal is_blank bytes ≡ None
unfolding span_literal
coloned_span bytes is =
    let behind : behind_digits bytes ≡ 58 ∷ is.rest =
    ap behind_digits is.spelled ∙ behind_front (is.first ∷ is.digits) is.rest is.are_digits in
    let none : from_hours is_blank bytes ≡ None = no_hours bytes (subst IsNoUnit (sym behind) (Colon is.rest)) in
    rw (coloned_begins bytes 45 is (omega arith)) (ap (option_map pos) none)

-- NUMBERS

number_or_time : (text : List ℕ) → (number_literal text ≡ None) ⊎ (from_hours is_blank text ≡ None)
number_or_time [] = inl refl
number_or_time (byte ∷ bytes) = by (all_ascii_digits (byte ∷ bytes)) refl
  where
    by : (are : Bool) → all_ascii_digits (byte ∷ bytes) ≡ are →
        (number_literal (byte ∷ bytes) ≡ None) ⊎ (from_hours is_blank (byte ∷ bytes) ≡ None)
    by true e = inr (no_hours (byte ∷ bytes) (subst IsNoUnit (sym (behind_all (byte ∷ bytes) e)) Nothing))
    by false e = inl (ap (λ b. at_most (2 ^ 63 - 1) (if b then Some (digits_value 10 (byte ∷ bytes)) else None)) e)

-- what is no number or no time isn't either with a sign
signed_or : (sign : ℕ → ℤ) (o p : Option ℕ) (time : ℤ) → (o ≡ None) ⊎ (p ≡ None) → option_map sign p ≡ Some time →
    option_map sign o ≡ None
signed_or sign o p time (inl none) is = ap (option_map sign) none
signed_or sign o p time (inr none) is = absurd (none-some time (sym (ap (option_map sign) none) ∙ is))

pub span_number : (bytes : List ℕ) (time : ℤ) → span_literal is_blank bytes ≡ Some time →
    fixed_literal is_blank bytes ≡ None
unfolding span_literal
span_number bytes time is = by (slice_index bytes 0 == 45) is
  where
    behind : List ℕ
    behind = behind_blanks is_blank (drop 1 bytes)

    by : (negative : Bool) →
        (if negative then option_map minus (from_hours is_blank behind)
        else option_map pos (from_hours is_blank bytes)) ≡ Some time →
        (if negative then option_map minus (number_literal behind) else option_map pos (number_literal bytes)) ≡ None
    by true = signed_or minus (number_literal behind) (from_hours is_blank behind) time (number_or_time behind)
    by false = signed_or pos (number_literal bytes) (from_hours is_blank bytes) time (number_or_time bytes)

-- FIRST BYTES OF NUMBERS AND LENGTHS OF TIME

quote_number : (rest : List ℕ) → fixed_literal is_blank (39 ∷ rest) ≡ None
quote_number rest = refl

quote_span : (rest : List ℕ) → span_literal is_blank (39 ∷ rest) ≡ None
unfolding span_literal
quote_span rest = refl

-- where nothing is read that begins with an apostrophe, what is read begins with none
begins_without : {X : Type 0} (read : List ℕ → Option X) → ((rest : List ℕ) → read (39 ∷ rest) ≡ None) →
    (bytes : List ℕ) (x : X) → read bytes ≡ Some x → (slice_index bytes 0 == 39) ≡ false
begins_without read none [] x is = refl
begins_without {X} read none (byte ∷ rest) x is = by (byte == 39) refl
  where
    by : (quote : Bool) → (byte == 39) ≡ quote → quote ≡ false
    by true e =
        absurd (none-some x (sym (none rest) ∙ ap (λ b. read (b ∷ rest)) (sym (eqb-true byte 39 e)) ∙ is))
    by false e = refl

pub number_begins : (bytes : List ℕ) (n : ℤ) → fixed_literal is_blank bytes ≡ Some n →
    (slice_index bytes 0 == 39) ≡ false
number_begins = begins_without (fixed_literal is_blank) quote_number

pub span_begins : (bytes : List ℕ) (time : ℤ) → span_literal is_blank bytes ≡ Some time →
    (slice_index bytes 0 == 39) ≡ false
span_begins = begins_without (span_literal is_blank) quote_span
