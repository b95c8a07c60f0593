-- What texts are that are read piece by piece.
use Rattle.std.proofs.Common.{◌≡◌, ◌<◌, ◌≤◌, ℕ, zero, suc, ◌+◌, ◌-◌, ◌*◌, ◌^◌, ℤ, List, [], ◌∷◌, Bool, true, false, not, cond, ◌&&◌, length, drop, take, refl, arith, nat_le, nat_lt, sym, ◌∙◌, ap, subst}
use Rattle.std.proofs.lemmas.Bool.{leb-false, le-leb, lt-leb, lt-ltb, le-ltb}
use Rattle.std.proofs.lemmas.Bool.Decides.{nat_tests}
use Rattle.std.proofs.lemmas.Int.{ints, to_z-of_z, fits_signed_from_abs}
use mir.Syntax.{w128}
use mir.Val.{to_z, of_z}
use Rattle.std.proofs.lemmas.List.Splits.{slice_split_first, length-slice_split}
use Rattle.std.proofs.lemmas.List.{take_rest, drop-drop}
use Rattle.std.proofs.Math.Pow.{pow_mono}
use Rattle.std.specs.Prelude.{Option, Some, None, IfSome, if◌then◌else◌, option_map, position, unsigned_abs}
use Rattle.std.specs.Char.{digit_value, is_ascii_digit}
use Rattle.std.specs.List.{slice_split, onto_first, position_or_len}
use Rattle.pearl_value.specs.Conversions.{fits_fixed}
use Rattle.pearl_rules.specs.Literals.{at_most, decimal_number, number_up_to, thousandths, with_point, with_colons}
use Rattle.pearl_rules.specs.Scan.{is_line_end, lines_length, behind_line, if_fits}
use Rattle.pearl_rules.proofs.Offered.{thousandths-below}
use Rattle.pearl_scan.specs.Digits.{signed}

-- DIGITS BEHIND A POINT

digit_below : (byte : ℕ) → is_ascii_digit byte ≡ true → digit_value byte ≤ 9
digit_below byte h = grind (arith, nat_tests)

one_digit : (a : ℕ) → thousandths (a ∷ []) ≡ option_map (λ n. n * 100) (number_up_to 999 (a ∷ []))
one_digit a = by (is_ascii_digit a) refl
  where
    by : (p : Bool) → is_ascii_digit a ≡ p → (if p && true then Some (((0 * 10 + digit_value a) * 10 + 0) * 10 + 0) else None)
        ≡ option_map (λ n. n * 100) (at_most 999 (if p && true then Some (0 * 10 + digit_value a) else None))
    by true e =
        let d = digit_below a e in
        let within : nat_le (0 * 10 + digit_value a) 999 ≡ true = le-leb (0 * 10 + digit_value a) 999 (omega (arith, d)) in
        rw within (ap Some (let f : ((0 * 10 + digit_value a) * 10 + 0) * 10 + 0 ≡ (0 * 10 + digit_value a) * 100 = omega arith in f))
    by false e = refl

two_digits : (a b : ℕ) → thousandths (a ∷ b ∷ []) ≡ option_map (λ n. n * 10) (number_up_to 999 (a ∷ b ∷ []))
two_digits a b = by (is_ascii_digit a) (is_ascii_digit b) refl refl
  where
    value : ℕ
    value = (0 * 10 + digit_value a) * 10 + digit_value b

    by : (p q : Bool) → is_ascii_digit a ≡ p → is_ascii_digit b ≡ q →
        (if p && (q && true) then Some (((0 * 10 + digit_value a) * 10 + digit_value b) * 10 + 0) else None)
        ≡ option_map (λ n. n * 10) (at_most 999 (if p && (q && true) then Some ((0 * 10 + digit_value a) * 10 + digit_value b) else None))
    by true true e f =
        let d = digit_below a e in
        let g = digit_below b f in
        let within : nat_le ((0 * 10 + digit_value a) * 10 + digit_value b) 999 ≡ true = le-leb ((0 * 10 + digit_value a) * 10 + digit_value b) 999 (omega (arith, d, g)) in
        rw within (ap Some (let h : ((0 * 10 + digit_value a) * 10 + digit_value b) * 10 + 0 ≡ ((0 * 10 + digit_value a) * 10 + digit_value b) * 10 = omega arith in h))
    by true false e f = refl
    by false q e f = refl

three_digits : (a b c : ℕ) → thousandths (a ∷ b ∷ c ∷ []) ≡ number_up_to 999 (a ∷ b ∷ c ∷ [])
three_digits a b c = by (is_ascii_digit a) (is_ascii_digit b) (is_ascii_digit c) refl refl refl
  where
    by : (p q r : Bool) → is_ascii_digit a ≡ p → is_ascii_digit b ≡ q → is_ascii_digit c ≡ r →
        (if p && (q && (r && true)) then Some (((0 * 10 + digit_value a) * 10 + digit_value b) * 10 + digit_value c) else None)
        ≡ at_most 999 (if p && (q && (r && true)) then Some (((0 * 10 + digit_value a) * 10 + digit_value b) * 10 + digit_value c) else None)
    by true true true e f g =
        let d = digit_below a e in
        let h = digit_below b f in
        let i = digit_below c g in
        let n = ((0 * 10 + digit_value a) * 10 + digit_value b) * 10 + digit_value c in
        let within : nat_le n 999 ≡ true = le-leb n 999 (omega (arith, d, h, i)) in
        rw within refl
    by true true false e f g = refl
    by true false r e f g = refl
    by false q r e f g = refl

pub no_digits : (digits : List ℕ) → length digits ≤ 3 → number_up_to 999 digits ≡ None → thousandths digits ≡ None
no_digits [] few e = refl
no_digits (a ∷ []) few e = one_digit a ∙ ap (option_map (λ n. n * 100)) e
no_digits (a ∷ b ∷ []) few e = two_digits a b ∙ ap (option_map (λ n. n * 10)) e
no_digits (a ∷ b ∷ c ∷ []) few e = three_digits a b c ∙ e
no_digits (a ∷ b ∷ c ∷ d ∷ digits) few e = absurd (omega (arith, few))

pub too_many : (digits : List ℕ) → 3 < length digits → thousandths digits ≡ None
too_many [] many = refl
too_many (byte ∷ bytes) many = rw (lt-leb (length (byte ∷ bytes)) 3 many) refl

pub one_read : (digits : List ℕ) (n : ℕ) → length digits ≡ 1 → number_up_to 999 digits ≡ Some n → thousandths digits ≡ Some (n * 100)
one_read [] n e h = absurd (omega (arith, e))
one_read (a ∷ []) n e h = one_digit a ∙ ap (option_map (λ n. n * 100)) h
one_read (a ∷ b ∷ digits) n e h = absurd (omega (arith, e))

pub two_read : (digits : List ℕ) (n : ℕ) → length digits ≡ 2 → number_up_to 999 digits ≡ Some n → thousandths digits ≡ Some (n * 10)
two_read [] n e h = absurd (omega (arith, e))
two_read (a ∷ []) n e h = absurd (omega (arith, e))
two_read (a ∷ b ∷ []) n e h = two_digits a b ∙ ap (option_map (λ n. n * 10)) h
two_read (a ∷ b ∷ c ∷ digits) n e h = absurd (omega (arith, e))

pub three_read : (digits : List ℕ) (n : ℕ) → length digits ≤ 3 → (length digits ≡ 1 → ⊥) → (length digits ≡ 2 → ⊥) → number_up_to 999 digits ≡ Some n →
    thousandths digits ≡ Some n
three_read [] n few one two h = absurd (let e : None ≡ Some n = h in cc)
three_read (a ∷ []) n few one two h = absurd (one refl)
three_read (a ∷ b ∷ []) n few one two h = absurd (two refl)
three_read (a ∷ b ∷ c ∷ []) n few one two h = three_digits a b c ∙ h
three_read (a ∷ b ∷ c ∷ d ∷ digits) n few one two h = absurd (omega (arith, few))

pub below_thousand : (digits : List ℕ) (n : ℕ) → thousandths digits ≡ Some n → n < 1000
below_thousand digits n e = subst (λ o. IfSome o (λ n. n < 1000)) e (thousandths-below digits)

-- WHERE TEXTS ARE CUT

no_mark : (test : ℕ → Bool) (text : List ℕ) → length text ≤ position_or_len test text → slice_split test text ≡ text ∷ []
no_mark test [] h = refl
no_mark test (byte ∷ text) h = by (test byte) (position_or_len test text) (no_mark test text) h
  where
    by : (here : Bool) (n : ℕ) → (length text ≤ n → slice_split test text ≡ text ∷ []) → length (byte ∷ text) ≤ cond (not here) (1 + n) 0 →
        cond here ([] ∷ slice_split test text) (onto_first byte (slice_split test text)) ≡ (byte ∷ text) ∷ []
    by true n others h = absurd (omega (arith, h))
    by false n others h = ap (onto_first byte) (others (omega (arith, h)))

pub uncut : (test : ℕ → Bool) (text : List ℕ) (end : ℕ) → end ≡ position_or_len test text → length text ≤ end → slice_split test text ≡ text ∷ []
uncut test text end e h = no_mark test text (omega (arith, e, h))

pub cut : (test : ℕ → Bool) (text : List ℕ) (end : ℕ) → end ≡ position_or_len test text → end < length text →
    slice_split test text ≡ take end text ∷ slice_split test (drop (end + 1) text)
cut test text end e h = rw e (slice_split_first test text 0 (omega (arith, e, h)))

parts_there : (test : ℕ → Bool) (text : List ℕ) → 0 < length (slice_split test text)
parts_there test text = omega (arith, length-slice_split test text)

pub one_point : (hours minutes rest : List ℕ) (parts : List (List ℕ)) → parts ≡ rest ∷ [] → with_point hours minutes parts ≡ with_point hours minutes (rest ∷ [])
one_point hours minutes rest parts e = ap (with_point hours minutes) e

pub more_points : (hours minutes seconds digits more : List ℕ) (test : ℕ → Bool) → with_point hours minutes (seconds ∷ digits ∷ slice_split test more) ≡ None
more_points hours minutes seconds digits more test = by (slice_split test more) (parts_there test more)
  where
    by : (parts : List (List ℕ)) → 0 < length parts → with_point hours minutes (seconds ∷ digits ∷ parts) ≡ None
    by [] h = absurd (omega (arith, h))
    by (part ∷ parts) h = refl

pub more_colons : (hours minutes seconds more : List ℕ) (test : ℕ → Bool) → with_colons (hours ∷ minutes ∷ seconds ∷ slice_split test more) ≡ None
more_colons hours minutes seconds more test = by (slice_split test more) (parts_there test more)
  where
    by : (parts : List (List ℕ)) → 0 < length parts → with_colons (hours ∷ minutes ∷ seconds ∷ parts) ≡ None
    by [] h = absurd (omega (arith, h))
    by (part ∷ parts) h = refl

-- LINE ENDS

lines_step : (count counter : ℕ) (bytes : List ℕ) → counter < count →
    lines_length (count - counter) bytes ≡ behind_line (position is_line_end bytes) (λ used. lines_length (count - (counter + 1)) (drop used bytes))
lines_step count counter bytes h =
    let e : count - counter ≡ suc (count - (counter + 1)) = omega arith in
    ap (λ n. lines_length n bytes) e

pub lines_absent : (count counter end : ℕ) (bytes : List ℕ) → counter < count → end ≡ position_or_len is_line_end bytes → end ≡ length bytes → lines_length (count - counter) bytes ≡ None
lines_absent count counter end bytes h e last =
    let none : nat_lt (position_or_len is_line_end bytes) (length bytes) ≡ false = le-ltb (position_or_len is_line_end bytes) (length bytes) (omega (arith, e, last)) in
    lines_step count counter bytes h
    ∙ ap (λ b. behind_line (cond b (Some (position_or_len is_line_end bytes)) None) (λ used. lines_length (count - (counter + 1)) (drop used bytes))) none

pub lines_present : (count counter end : ℕ) (bytes : List ℕ) → counter < count → end ≡ position_or_len is_line_end bytes → end < length bytes →
    lines_length (count - counter) bytes ≡ option_map (λ n. end + 1 + n) (lines_length (count - (counter + 1)) (drop (end + 1) bytes))
lines_present count counter end bytes h e inside =
    let some : nat_lt (position_or_len is_line_end bytes) (length bytes) ≡ true = lt-ltb (position_or_len is_line_end bytes) (length bytes) (omega (arith, e, inside)) in
    lines_step count counter bytes h
    ∙ ap (λ b. behind_line (cond b (Some (position_or_len is_line_end bytes)) None) (λ used. lines_length (count - (counter + 1)) (drop used bytes))) some
    ∙ ap (λ k. option_map (λ n. k + 1 + n) (lines_length (count - (counter + 1)) (drop (k + 1) bytes))) (sym e)

-- so many bytes before those
abbrev pub added : ℕ → Option ℕ → Option ℕ
added used None = None
added used (Some n) = Some (used + n)

added_twice : (used more : ℕ) (o : Option ℕ) → added used (option_map (λ n. more + n) o) ≡ added (used + more) o
added_twice used more None = refl
added_twice used more (Some n) = ap Some (let e : used + (more + n) ≡ used + more + n = omega arith in e)

module _ (count counter used end : ℕ) (bytes : List ℕ) (goes_on : counter < count)
    (found : end ≡ position_or_len is_line_end (take (length bytes - used) (drop used bytes)))
    (before : added used (lines_length (count - counter) (drop used bytes)) ≡ lines_length count bytes) where
  rest : take (length bytes - used) (drop used bytes) ≡ drop used bytes
  rest = take_rest bytes used

  place : end ≡ position_or_len is_line_end (drop used bytes)
  place = found ∙ ap (position_or_len is_line_end) rest

  -- no further line end
  pub stop_lines : end ≡ length (take (length bytes - used) (drop used bytes)) → None ≡ lines_length count bytes
  stop_lines last =
      ap (added used) (sym (lines_absent count counter end (drop used bytes) goes_on place (last ∙ ap length rest))) ∙ before

  -- behind one more line end
  pub more_lines : end < length (take (length bytes - used) (drop used bytes)) →
      added (used + (end + 1)) (lines_length (count - (counter + 1)) (drop (used + (end + 1)) bytes)) ≡ lines_length count bytes
  more_lines inside =
      let here : end < length (drop used bytes) = omega (arith, inside, ap length rest) in
      let behind : drop (end + 1) (drop used bytes) ≡ drop (used + (end + 1)) bytes = drop-drop (end + 1) used bytes in
      ap (λ t. added (used + (end + 1)) (lines_length (count - (counter + 1)) t)) (sym behind)
      ∙ sym (added_twice used (end + 1) (lines_length (count - (counter + 1)) (drop (end + 1) (drop used bytes))))
      ∙ ap (added used) (sym (lines_present count counter end (drop used bytes) goes_on place here)) ∙ before

-- NUMBERS OF FIXED

abbrev number_limit : ℕ
number_limit = 2 ^ 63

unlimited : (limit : ℕ) (o : Option ℕ) (n : ℕ) → at_most limit o ≡ Some n → o ≡ Some n
unlimited limit None n e = e
unlimited limit (Some m) n e = by (nat_le m limit) e
  where
    by : (b : Bool) → cond b (Some m) None ≡ Some n → Some m ≡ Some n
    by true e = e
    by false e = absurd (none_some e)
      where
        none_some : None ≡ Some n → ⊥
        none_some e = cc

pub read_digits : (limit : ℕ) (digits : List ℕ) (n : ℕ) → number_up_to limit digits ≡ Some n → decimal_number digits ≡ Some n
read_digits limit digits n e = unlimited limit (decimal_number digits) n e

-- a number past 2^63 fits no FIXED
past : (len : ℕ) (is_negative : Bool) (n : ℕ) → len ≤ 63 → 2 ^ 63 < n → fits_fixed len (signed is_negative n) ≡ false
past len true zero few large = absurd (omega (arith, large))
past len true (suc n) few large = let m : 2 ^ len ≤ 2 ^ 63 = pow_mono few in grind (arith, ints, nat_tests)
past len false n few large = let m : 2 ^ len ≤ 2 ^ 63 = pow_mono few in grind (arith, ints, nat_tests)

pub unfit : (len : ℕ) (is_negative : Bool) (digits : List ℕ) → len ≤ 63 → number_up_to (2 ^ 63) digits ≡ None →
    if_fits (fits_fixed len) (option_map (signed is_negative) (decimal_number digits)) ≡ None
unfit len is_negative digits few e = by (decimal_number digits) e
  where
    by : (o : Option ℕ) → at_most (2 ^ 63) o ≡ None → if_fits (fits_fixed len) (option_map (signed is_negative) o) ≡ None
    by None e = refl
    by (Some n) e = either (nat_le n (2 ^ 63)) refl e
      where
        either : (b : Bool) → nat_le n (2 ^ 63) ≡ b → cond b (Some n) None ≡ None → if_fits (fits_fixed len) (Some (signed is_negative n)) ≡ None
        either true h e = absurd (let some : Some n ≡ None = e in cc)
        either false h e = rw (past len is_negative n few (leb-false n (2 ^ 63) h)) refl

-- a signed number of this size passes through 128 bits unchanged
pub through_bits : (is_negative : Bool) (n : ℕ) (value : ℤ) → value ≡ signed is_negative n → n ≤ 2 ^ 63 → to_z w128 (of_z w128 value) ≡ signed is_negative n
through_bits is_negative n value e few =
    ap (λ z. to_z w128 (of_z w128 z)) e ∙ to_z-of_z w128 (signed is_negative n) (fits_signed_from_abs w128 (signed is_negative n) (size is_negative n few))
  where
    size : (b : Bool) (n : ℕ) → n ≤ 2 ^ 63 → unsigned_abs (signed b n) < 2 ^ 127
    size true zero few = omega arith
    size true (suc n) few = omega (arith, few)
    size false n few = omega (arith, few)
