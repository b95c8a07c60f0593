-- Why what PUT writes is read as the same value.
use Rattle.std.proofs.Common.{◌≡◌, ◌<◌, ◌≤◌, ℕ, zero, suc, ◌+◌, ◌-◌, ◌*◌, ◌/◌, ◌%◌, ◌^◌, ℤ, pos, negsuc, List, [], ◌∷◌, ◌++◌, Bool, true, false, not, cond, ◌&&◌, ◌||◌, ◌==◌, length, drop, take, replicate, reverse, refl, arith, nat_le, nat_lt, sym, ◌∙◌, ap, subst, add-one, append_assoc, ◌⊎◌, inl, inr, codes, decimal}
use Rattle.std.proofs.lemmas.Bool.{leb-true, le-leb, le-ltb, ne_eqb, eq-eqb, and_parts}
use Rattle.std.proofs.lemmas.Bool.Decides.{nat_tests}
use Rattle.std.proofs.lemmas.Fmt.{decimal_is_IsNumeral}
use Rattle.std.proofs.lemmas.List.{append-nil, reverse-append, take_all, take-append-le, take_at}
use Rattle.std.proofs.lemmas.List.Elements.{All-from_recursion}
use Rattle.std.proofs.lemmas.List.Splits.{slice_split_at, slice_split_none}
use Rattle.std.proofs.lemmas.Nat.{pow_pos, pow-add, mod_below, mod-pow-add, mod_low, shl-shr, shl_below}
use Rattle.std.proofs.Math.Nat.{mul-zero, zero-mul, mul-suc, add-mul, mul_assoc, add_assoc, mod-eq_of_lt}
use Rattle.std.proofs.Math.Pow.{pow_mono}
use Rattle.std.proofs.lemmas.Str.Parse.{tells_all_ascii_digits, numerals_by_value, digit_from_value}
use Rattle.std.specs.Prelude.{Option, Some, None, if◌then◌else◌, option_map, unsigned_abs, slice_index}
use Rattle.std.specs.Char.{digit_value, is_ascii_digit, is_ascii_lowercase}
use Rattle.std.specs.Fmt.{digit_glyph, signed_decimal}
use Rattle.std.specs.List.{AllByRecursion, slice_split, prefix_len, suffix_len, position_or_len, before_first, list_all}
use Rattle.std.specs.Str.{all_ascii_digits}
use Rattle.std.specs.Str.Parse.{digits_value, digits_value_after, AllDigits, IsNumeral}
use Rattle.pearl_format.specs.Fields.{two_digits, three_digits, seconds_text, clock_text, hours_text, span_text, last_digits, bits_text, digit_count}
use Rattle.pearl_format.proofs.Offered.{counted, length-last_digits}
use Rattle.pearl_rules.specs.Literals.{behind_blanks, before_blanks, bare, decimal_number, at_most, number_up_to, number_literal, signed_number, minus, thousandths, clock_value, with_point, with_colons, clock_literal, worded, whole_amount, decimal_value, decimal_amount, seconds_amount, from_amount, from_seconds, from_minutes, from_hours, span_literal, front_digits, behind_digits, bits_number, bits_within, bits_literal, is_bit_digit}
use Rattle.pearl_rules.specs.Scan.{is_blank, is_line_end, field}

-- BLANKS

drop-more : (n byte : ℕ) (bytes : List ℕ) → drop (1 + n) (byte ∷ bytes) ≡ drop n bytes
drop-more n byte bytes = let e : 1 + n ≡ n + 1 = omega arith in rw (e, add-one n) refl

behind_blanks-gap : (count : ℕ) (text : List ℕ) → behind_blanks is_blank (replicate count 32 ++ text) ≡ behind_blanks is_blank text
behind_blanks-gap zero text = refl
behind_blanks-gap (suc count) text =
    drop-more (prefix_len is_blank (replicate count 32 ++ text)) 32 (replicate count 32 ++ text) ∙ behind_blanks-gap count text

suffix_len-last : (bytes : List ℕ) (byte : ℕ) → suffix_len is_blank (bytes ++ byte ∷ []) ≡ prefix_len is_blank (byte ∷ reverse bytes)
suffix_len-last bytes byte = ap (prefix_len is_blank) (reverse-append bytes (byte ∷ []))

length-last : (bytes : List ℕ) (byte : ℕ) → length (bytes ++ byte ∷ []) ≡ length bytes + 1
length-last [] byte = refl
length-last (b ∷ bytes) byte = let e = length-last bytes byte in omega arith

before_blanks-blank : (bytes : List ℕ) (byte : ℕ) → is_blank byte ≡ true → before_blanks is_blank (bytes ++ byte ∷ []) ≡ before_blanks is_blank bytes
before_blanks-blank bytes byte h =
    let more : prefix_len is_blank (byte ∷ reverse bytes) ≡ 1 + suffix_len is_blank bytes = rw (h) refl in
    let count : suffix_len is_blank (bytes ++ byte ∷ []) ≡ 1 + suffix_len is_blank bytes = suffix_len-last bytes byte ∙ more in
    let left : length (bytes ++ byte ∷ []) - suffix_len is_blank (bytes ++ byte ∷ []) ≡ length bytes - suffix_len is_blank bytes = omega (arith, length-last bytes byte, count) in
    ap (λ n. take n (bytes ++ byte ∷ [])) left
    ∙ take-append-le (length bytes - suffix_len is_blank bytes) bytes (byte ∷ []) (omega arith)

before_blanks-solid : (bytes : List ℕ) (byte : ℕ) → is_blank byte ≡ false → before_blanks is_blank (bytes ++ byte ∷ []) ≡ bytes ++ byte ∷ []
before_blanks-solid bytes byte h =
    let none : prefix_len is_blank (byte ∷ reverse bytes) ≡ 0 = rw (h) refl in
    let count : suffix_len is_blank (bytes ++ byte ∷ []) ≡ 0 = suffix_len-last bytes byte ∙ none in
    take_all (length (bytes ++ byte ∷ []) - suffix_len is_blank (bytes ++ byte ∷ [])) (bytes ++ byte ∷ []) (omega (arith, count))

before_blanks-gap : (text : List ℕ) (count : ℕ) → before_blanks is_blank (text ++ replicate count 32) ≡ before_blanks is_blank text
before_blanks-gap text zero = ap (before_blanks is_blank) (append-nil text)
before_blanks-gap text (suc count) =
    ap (before_blanks is_blank) (sym (append_assoc text (32 ∷ []) (replicate count 32))) ∙ before_blanks-gap (text ++ 32 ∷ []) count ∙ before_blanks-blank text 32 refl

-- a text with no blank at its ends
pub record IsSolid (text : List ℕ) : Type 0 where
  pub first : ℕ
  pub rest : List ℕ
  pub begins : text ≡ first ∷ rest
  pub first_solid : is_blank first ≡ false
  pub front : List ℕ
  pub last : ℕ
  pub ends : text ≡ front ++ last ∷ []
  pub last_solid : is_blank last ≡ false

behind_blanks-first : (first : ℕ) (rest : List ℕ) → is_blank first ≡ false → behind_blanks is_blank (first ∷ rest) ≡ first ∷ rest
behind_blanks-first first rest h = rw h refl

pub bare-right : (count : ℕ) (text : List ℕ) → IsSolid text → bare is_blank (replicate count 32 ++ text) ≡ text
bare-right count text solid =
    ap (before_blanks is_blank) (behind_blanks-gap count text ∙ ap (behind_blanks is_blank) solid.begins ∙ behind_blanks-first solid.first solid.rest solid.first_solid ∙ sym solid.begins ∙ solid.ends)
    ∙ before_blanks-solid solid.front solid.last solid.last_solid ∙ sym solid.ends

pub bare-left : (count : ℕ) (text : List ℕ) → IsSolid text → bare is_blank (text ++ replicate count 32) ≡ text
bare-left count text solid =
    ap (λ t. before_blanks is_blank (behind_blanks is_blank (t ++ replicate count 32))) solid.begins
    ∙ ap (before_blanks is_blank) (behind_blanks-first solid.first (solid.rest ++ replicate count 32) solid.first_solid)
    ∙ before_blanks-gap (solid.first ∷ solid.rest) count ∙ ap (before_blanks is_blank) (sym solid.begins ∙ solid.ends)
    ∙ before_blanks-solid solid.front solid.last solid.last_solid ∙ sym solid.ends

-- a text in which no byte is blank
has_last : (first : ℕ) (rest : List ℕ) → AllByRecursion (λ byte. is_blank byte ≡ false) (first ∷ rest) →
    (front : List ℕ) × (last : ℕ) × (first ∷ rest ≡ front ++ last ∷ []) × (is_blank last ≡ false)
has_last first [] h = ([], first, refl, h.0)
has_last first (next ∷ rest) h = let l = has_last next rest h.1 in (first ∷ l.0, l.1, ap (λ bytes. first ∷ bytes) l.2, l.3)

pub solid_bytes : (text : List ℕ) → 0 < length text → AllByRecursion (λ byte. is_blank byte ≡ false) text → IsSolid text
solid_bytes [] some h = absurd (omega (arith, some))
solid_bytes (first ∷ rest) some h =
    let l = has_last first rest h in
    record { first = first; rest = rest; begins = refl; first_solid = h.0; front = l.0; last = l.1; ends = l.2; last_solid = l.3 }

solid_digits : (text : List ℕ) → AllDigits 10 text → AllByRecursion (λ byte. is_blank byte ≡ false) text
solid_digits [] h = tt
solid_digits (byte ∷ bytes) h = (let r = digit_from_value byte h.0 in grind (arith, nat_tests), solid_digits bytes h.1)

-- NUMBERS

is_digits : (digits : List ℕ) → AllDigits 10 digits → all_ascii_digits digits ≡ true
is_digits digits h = (numerals_by_value (λ ds. all_ascii_digits ds ≡ true) tells_all_ascii_digits).from digits h

decimal_number-numeral : (digits : List ℕ) → IsNumeral 10 digits → decimal_number digits ≡ Some (digits_value 10 digits)
decimal_number-numeral [] h = absurd (omega (arith, h.0))
decimal_number-numeral (byte ∷ bytes) h = rw (is_digits (byte ∷ bytes) h.1) refl

decimal_number-decimal : (n : ℕ) → n < 2 ^ 64 → decimal_number (decimal n) ≡ Some n
decimal_number-decimal n small =
    let is = decimal_is_IsNumeral n small in
    decimal_number-numeral (decimal n) is.0 ∙ ap Some is.1

signed_numeral : (digits : List ℕ) → IsNumeral 10 digits → signed_number digits ≡ option_map pos (decimal_number digits)
signed_numeral [] h = absurd (omega (arith, h.0))
signed_numeral (byte ∷ bytes) h =
    let r = digit_from_value byte h.1.0 in
    let minus : (byte == 45) ≡ false = ne_eqb byte 45 (λ e. omega (arith, r, e)) in
    let plus : (byte == 43) ≡ false = ne_eqb byte 43 (λ e. omega (arith, r, e)) in
    rw (minus, plus) refl

-- a number whose size is below 2^64
pub record FitsInSize (value : ℤ) : Type 0 where
  pub below : unsigned_abs value < 2 ^ 64

pub reads_number : (value : ℤ) → FitsInSize value → signed_number (signed_decimal value) ≡ Some value
reads_number (pos n) fits =
    let is = decimal_is_IsNumeral n fits.below in
    signed_numeral (decimal n) is.0 ∙ ap (option_map pos) (decimal_number-decimal n fits.below)
reads_number (negsuc n) fits = ap (option_map minus) (decimal_number-decimal (suc n) fits.below)

-- DIGITS OF A FIXED COUNT

glyph_value : (d : ℕ) → d < 10 → digit_value (48 + d) ≡ d
glyph_value d small = grind (arith, nat_tests)

glyph_digit : (d : ℕ) → d < 10 → is_ascii_digit (48 + d) ≡ true
glyph_digit d small = grind (arith, nat_tests)

two_decimal : (n : ℕ) → n < 100 → decimal_number (two_digits n) ≡ Some n
two_decimal n small =
    let a = glyph_digit (n / 10) (omega arith) in
    let b = glyph_digit (n % 10) (omega arith) in
    let c = glyph_value (n / 10) (omega arith) in
    let d = glyph_value (n % 10) (omega arith) in
    let e : (0 * 10 + n / 10) * 10 + n % 10 ≡ n = omega arith in
    rw (a, b, c, d) (ap Some e)

two_within : (limit n : ℕ) → n ≤ limit → n < 100 → number_up_to limit (two_digits n) ≡ Some n
two_within limit n within small = ap (at_most limit) (two_decimal n small) ∙ rw (le-leb n limit within) refl

three_decimal : (n : ℕ) → n < 1000 → thousandths (three_digits n) ≡ Some n
three_decimal n small =
    let a = glyph_digit (n / 100) (omega arith) in
    let b = glyph_digit (n % 100 / 10) (omega arith) in
    let c = glyph_digit (n % 100 % 10) (omega arith) in
    let d = glyph_value (n / 100) (omega arith) in
    let e = glyph_value (n % 100 / 10) (omega arith) in
    let f = glyph_value (n % 100 % 10) (omega arith) in
    let g : ((0 * 10 + n / 100) * 10 + n % 100 / 10) * 10 + n % 100 % 10 ≡ n = omega arith in
    rw (a, b, c, d, e, f) (ap Some g)

-- TIMES OF DAY

not_mark : (d mark : ℕ) → d < 10 → (58 ≤ mark) ⊎ (mark < 48) → (48 + d == mark) ≡ false
not_mark d mark small (inl h) = ne_eqb (48 + d) mark (λ e. omega (arith, e, h, small))
not_mark d mark small (inr h) = ne_eqb (48 + d) mark (λ e. omega (arith, e, h, small))

two_apart : (n mark : ℕ) (rest : List ℕ) → n < 100 → (58 ≤ mark) ⊎ (mark < 48) →
    slice_split (λ byte. byte == mark) (two_digits n ++ mark ∷ rest) ≡ two_digits n ∷ slice_split (λ byte. byte == mark) rest
two_apart n mark rest small other =
    slice_split_at (λ byte. byte == mark) (two_digits n) mark rest
    (All-from_recursion (λ byte. (byte == mark) ≡ false) (two_digits n) (not_mark (n / 10) mark (omega arith) other, (not_mark (n % 10) mark (omega arith) other, tt)))
    (eq-eqb mark mark refl)

three_apart : (n mark : ℕ) → n < 1000 → (58 ≤ mark) ⊎ (mark < 48) → slice_split (λ byte. byte == mark) (three_digits n) ≡ three_digits n ∷ []
three_apart n mark small other =
    slice_split_none (λ byte. byte == mark) (three_digits n)
    (All-from_recursion (λ byte. (byte == mark) ≡ false) (three_digits n)
    (not_mark (n / 100) mark (omega arith) other, (not_mark (n % 100 / 10) mark (omega arith) other, (not_mark (n % 100 % 10) mark (omega arith) other, tt))))

-- seconds and thousandths with a point between them have no colon
no_colon : (n part : ℕ) → n < 100 → part < 1000 → slice_split (λ byte. byte == 58) (two_digits n ++ 46 ∷ three_digits part) ≡ (two_digits n ++ 46 ∷ three_digits part) ∷ []
no_colon n part small few =
    let other : (58 ≤ 58) ⊎ (58 < 48) = inl (omega arith) in
    slice_split_none (λ byte. byte == 58) (two_digits n ++ 46 ∷ three_digits part)
    (All-from_recursion (λ byte. (byte == 58) ≡ false) (two_digits n ++ 46 ∷ three_digits part) (
      not_mark (n / 10) 58 (omega arith) other,
      (
        not_mark (n % 10) 58 (omega arith) other,
        (
          refl,
          (not_mark (part / 100) 58 (omega arith) other, (not_mark (part % 100 / 10) 58 (omega arith) other, (not_mark (part % 100 % 10) 58 (omega arith) other, tt))),
        ),
      ),
    ))

clock_parts : (hours minutes seconds part : ℕ) → hours ≤ 23 → minutes ≤ 59 → seconds ≤ 59 → part < 1000 →
    clock_literal (two_digits hours ++ 58 ∷ (two_digits minutes ++ 58 ∷ (two_digits seconds ++ 46 ∷ three_digits part)))
    ≡ Some (((hours * 60 + minutes) * 60 + seconds) * 1000 + part)
unfolding clock_literal
clock_parts hours minutes seconds part h m s p =
    let colon : (58 ≤ 58) ⊎ (58 < 48) = inl (omega arith) in
    let point : (58 ≤ 46) ⊎ (46 < 48) = inr (omega arith) in
    let a = two_apart hours 58 (two_digits minutes ++ 58 ∷ (two_digits seconds ++ 46 ∷ three_digits part)) (omega arith) colon in
    let b = two_apart minutes 58 (two_digits seconds ++ 46 ∷ three_digits part) (omega arith) colon in
    let c = no_colon seconds part (omega arith) p in
    let d = two_apart seconds 46 (three_digits part) (omega arith) point in
    let e = three_apart part 46 p point in
    ap with_colons (a ∙ ap (λ parts. two_digits hours ∷ parts) (b ∙ ap (λ parts. two_digits minutes ∷ parts) c))
    ∙ ap (with_point (two_digits hours) (two_digits minutes)) (d ∙ ap (λ parts. two_digits seconds ∷ parts) e)
    ∙ parts_value (number_up_to 23 (two_digits hours)) (number_up_to 59 (two_digits minutes)) (number_up_to 59 (two_digits seconds)) (thousandths (three_digits part))
    (two_within 23 hours h (omega arith)) (two_within 59 minutes m (omega arith)) (two_within 59 seconds s (omega arith)) (three_decimal part p)
  where
    parts_value : (a b c d : Option ℕ) → a ≡ Some hours → b ≡ Some minutes → c ≡ Some seconds → d ≡ Some part →
        clock_value a b c d ≡ Some (((hours * 60 + minutes) * 60 + seconds) * 1000 + part)
    parts_value a b c d e f g h = rw (e, f, g, h) refl

-- a time of day is read as it is written with its thousandths
pub reads_clock : (width time : ℕ) → 12 ≤ width → time < 86400000 → clock_literal (clock_text width time) ≡ Some time
reads_clock width time wide small =
    let whole : ((time / 3600000 * 60 + time / 60000 % 60) * 60 + time / 1000 % 60) * 1000 + time % 1000 ≡ time = omega arith in
    let long : clock_text width time ≡ seconds_text time ++ codes "." ++ three_digits (time % 1000) =
    ap (λ b. if b then seconds_text time ++ codes "." ++ three_digits (time % 1000) else seconds_text time) (le-leb 12 width wide) in
    ap clock_literal long ∙ clock_parts (time / 3600000) (time / 60000 % 60) (time / 1000 % 60) (time % 1000) (omega arith) (omega arith) (omega arith) (omega arith)
    ∙ ap Some whole

-- LENGTHS OF TIME

take-more : (n byte : ℕ) (bytes : List ℕ) → take (1 + n) (byte ∷ bytes) ≡ byte ∷ take n bytes
take-more n byte bytes = let e : 1 + n ≡ n + 1 = omega arith in rw (e, add-one n) refl

-- digits that another byte follows
front-digits : (digits : List ℕ) (next : ℕ) (rest : List ℕ) → all_ascii_digits digits ≡ true → is_ascii_digit next ≡ false → front_digits (digits ++ next ∷ rest) ≡ digits
front-digits [] next rest h e = rw e refl
front-digits (byte ∷ digits) next rest h e =
    let p = and_parts (is_ascii_digit byte) (all_ascii_digits digits) h in
    rw (p.0) (take-more (prefix_len is_ascii_digit (digits ++ next ∷ rest)) byte (digits ++ next ∷ rest) ∙ ap (λ bytes. byte ∷ bytes) (front-digits digits next rest p.1 e))

behind-digits : (digits : List ℕ) (next : ℕ) (rest : List ℕ) → all_ascii_digits digits ≡ true → is_ascii_digit next ≡ false → behind_digits (digits ++ next ∷ rest) ≡ next ∷ rest
behind-digits [] next rest h e = rw e refl
behind-digits (byte ∷ digits) next rest h e =
    let p = and_parts (is_ascii_digit byte) (all_ascii_digits digits) h in
    rw (p.0) (drop-more (prefix_len is_ascii_digit (digits ++ next ∷ rest)) byte (digits ++ next ∷ rest) ∙ behind-digits digits next rest p.1 e)

two_are_digits : (n : ℕ) → n < 100 → all_ascii_digits (two_digits n) ≡ true
two_are_digits n small =
    let a = glyph_digit (n / 10) (omega arith) in
    let b = glyph_digit (n % 10) (omega arith) in
    rw (a, b) refl

three_are_digits : (n : ℕ) → n < 1000 → all_ascii_digits (three_digits n) ≡ true
three_are_digits n small =
    let a = glyph_digit (n / 100) (omega arith) in
    let b = glyph_digit (n % 100 / 10) (omega arith) in
    let c = glyph_digit (n % 100 % 10) (omega arith) in
    rw (a, b, c) refl

-- digits, a blank and a word of three letters
worded_hours : (n : ℕ) (rest : List ℕ) → worded is_blank (codes "HRS") (Some n) (32 ∷ 72 ∷ 82 ∷ 83 ∷ rest) ≡ Some (record { milliseconds = n; rest = rest })
worded_hours n rest = refl

worded_minutes : (n : ℕ) (rest : List ℕ) → worded is_blank (codes "MIN") (Some n) (32 ∷ 77 ∷ 73 ∷ 78 ∷ rest) ≡ Some (record { milliseconds = n; rest = rest })
worded_minutes n rest = refl

worded_seconds : (n : ℕ) (rest : List ℕ) → worded is_blank (codes "SEC") (Some n) (32 ∷ 83 ∷ 69 ∷ 67 ∷ rest) ≡ Some (record { milliseconds = n; rest = rest })
worded_seconds n rest = refl

module _ (digits : List ℕ) (n : ℕ) (are : all_ascii_digits digits ≡ true) (value : decimal_number digits ≡ Some n) (small : n < 2 ^ 63) where
  literal : number_literal digits ≡ Some n
  literal = ap (at_most (2 ^ 63 - 1)) value ∙ rw (le-leb n (2 ^ 63 - 1) (omega arith)) refl

  some_hours : (rest : List ℕ) → whole_amount is_blank (codes "HRS") 3600000 (digits ++ 32 ∷ 72 ∷ 82 ∷ 83 ∷ rest) ≡ Some (record { milliseconds = n * 3600000; rest = rest })
  some_hours rest =
      let front = front-digits digits 32 (72 ∷ 82 ∷ 83 ∷ rest) are refl in
      let back = behind-digits digits 32 (72 ∷ 82 ∷ 83 ∷ rest) are refl in
      ap (λ d. worded is_blank (codes "HRS") (option_map (λ n. n * 3600000) (number_literal d)) (behind_digits (digits ++ 32 ∷ 72 ∷ 82 ∷ 83 ∷ rest))) front
      ∙ ap (λ b. worded is_blank (codes "HRS") (option_map (λ n. n * 3600000) (number_literal digits)) b) back
      ∙ ap (λ o. worded is_blank (codes "HRS") (option_map (λ n. n * 3600000) o) (32 ∷ 72 ∷ 82 ∷ 83 ∷ rest)) literal

  some_minutes : (rest : List ℕ) → whole_amount is_blank (codes "MIN") 60000 (digits ++ 32 ∷ 77 ∷ 73 ∷ 78 ∷ rest) ≡ Some (record { milliseconds = n * 60000; rest = rest })
  some_minutes rest =
      let front = front-digits digits 32 (77 ∷ 73 ∷ 78 ∷ rest) are refl in
      let back = behind-digits digits 32 (77 ∷ 73 ∷ 78 ∷ rest) are refl in
      ap (λ d. worded is_blank (codes "MIN") (option_map (λ n. n * 60000) (number_literal d)) (behind_digits (digits ++ 32 ∷ 77 ∷ 73 ∷ 78 ∷ rest))) front
      ∙ ap (λ b. worded is_blank (codes "MIN") (option_map (λ n. n * 60000) (number_literal digits)) b) back
      ∙ ap (λ o. worded is_blank (codes "MIN") (option_map (λ n. n * 60000) o) (32 ∷ 77 ∷ 73 ∷ 78 ∷ rest)) literal

  some_seconds : (part : ℕ) → part < 1000 →
      seconds_amount is_blank (digits ++ 46 ∷ (three_digits part ++ codes " SEC")) ≡ Some (record { milliseconds = n * 1000 + part; rest = [] })
  some_seconds part few =
      let after : List ℕ = three_digits part ++ codes " SEC" in
      let front = front-digits digits 46 after are refl in
      let back = behind-digits digits 46 after are refl in
      let front' = front-digits (three_digits part) 32 (83 ∷ 69 ∷ 67 ∷ []) (three_are_digits part few) refl in
      let back' = behind-digits (three_digits part) 32 (83 ∷ 69 ∷ 67 ∷ []) (three_are_digits part few) refl in
      ap (λ b. if slice_index b 0 == 46 then decimal_amount is_blank (front_digits (digits ++ 46 ∷ after)) (drop 1 b) else whole_amount is_blank (codes "SEC") 1000 (digits ++ 46 ∷ after)) back
      ∙ ap (λ d. decimal_amount is_blank d after) front
      ∙ ap (λ d. worded is_blank (codes "SEC") (decimal_value (number_literal digits) (thousandths d)) (behind_digits after)) front'
      ∙ ap (λ b. worded is_blank (codes "SEC") (decimal_value (number_literal digits) (thousandths (three_digits part))) b) back'
      ∙ ap (λ o. worded is_blank (codes "SEC") (decimal_value o (thousandths (three_digits part))) (codes " SEC")) literal
      ∙ ap (λ o. worded is_blank (codes "SEC") (decimal_value (Some n) o) (codes " SEC")) (three_decimal part few)

-- a text that begins with a digit loses no blanks in front
digit_first : (n : ℕ) (rest : List ℕ) → n < 100 → behind_blanks is_blank (two_digits n ++ rest) ≡ two_digits n ++ rest
digit_first n rest small = behind_blanks-first (48 + n / 10) ((48 + n % 10) ∷ rest) (ne_eqb (48 + n / 10) 32 (λ e. omega (arith, e)))

spelled : (hours minutes seconds part : ℕ) → hours < 2 ^ 63 → minutes < 100 → seconds < 100 → part < 1000 →
    from_hours is_blank (decimal hours ++ 32 ∷ 72 ∷ 82 ∷ 83 ∷ 32 ∷ (two_digits minutes ++ 32 ∷ 77 ∷ 73 ∷ 78 ∷ 32 ∷ (two_digits seconds ++ 46 ∷ (three_digits part ++ codes " SEC"))))
    ≡ Some (hours * 3600000 + (minutes * 60000 + (seconds * 1000 + part + 0)))
spelled hours minutes seconds part h m s p =
    let is = decimal_is_IsNumeral hours (omega arith) in
    let tail : List ℕ = two_digits seconds ++ 46 ∷ (three_digits part ++ codes " SEC") in
    let middle : List ℕ = two_digits minutes ++ 32 ∷ 77 ∷ 73 ∷ 78 ∷ 32 ∷ tail in
    let text : List ℕ = decimal hours ++ 32 ∷ 72 ∷ 82 ∷ 83 ∷ 32 ∷ middle in
    let a = some_hours (decimal hours) hours (is_digits (decimal hours) is.0.1) (decimal_number-decimal hours (omega arith)) h (32 ∷ middle) in
    let b = some_minutes (two_digits minutes) minutes (two_are_digits minutes m) (two_decimal minutes m) (omega arith) (32 ∷ tail) in
    let c = some_seconds (two_digits seconds) seconds (two_are_digits seconds s) (two_decimal seconds s) (omega arith) part p in
    let last : from_seconds is_blank tail ≡ Some (seconds * 1000 + part + 0) = ap (from_amount is_blank (λ rest. None) tail) c in
    let second : from_minutes is_blank middle ≡ Some (minutes * 60000 + (seconds * 1000 + part + 0)) =
    ap (from_amount is_blank (from_seconds is_blank) middle) b
    ∙ ap (λ t. option_map (λ n. minutes * 60000 + n) (from_seconds is_blank t)) (digit_first seconds (46 ∷ (three_digits part ++ codes " SEC")) s)
    ∙ ap (option_map (λ n. minutes * 60000 + n)) last in
    ap (from_amount is_blank (from_minutes is_blank) text) a
    ∙ ap (λ t. option_map (λ n. hours * 3600000 + n) (from_minutes is_blank t)) (digit_first minutes (32 ∷ 77 ∷ 73 ∷ 78 ∷ 32 ∷ tail) m)
    ∙ ap (option_map (λ n. hours * 3600000 + n)) second

-- the pieces of the text, joined the other way round
joined : (a m s t : List ℕ) →
    a ++ codes " HRS " ++ m ++ codes " MIN " ++ s ++ codes "." ++ t ++ codes " SEC"
    ≡ a ++ 32 ∷ 72 ∷ 82 ∷ 83 ∷ 32 ∷ (m ++ 32 ∷ 77 ∷ 73 ∷ 78 ∷ 32 ∷ (s ++ 46 ∷ (t ++ codes " SEC")))
joined a m s t = simp append_assoc refl

reads_hours : (n : ℕ) → n < 2 ^ 64 → from_hours is_blank (hours_text n) ≡ Some n
reads_hours n small =
    let whole : n / 3600000 * 3600000 + (n / 60000 % 60 * 60000 + (n / 1000 % 60 * 1000 + n % 1000 + 0)) ≡ n = omega arith in
    ap (from_hours is_blank) (joined (decimal (n / 3600000)) (two_digits (n / 60000 % 60)) (two_digits (n / 1000 % 60)) (three_digits (n % 1000)))
    ∙ spelled (n / 3600000) (n / 60000 % 60) (n / 1000 % 60) (n % 1000) (omega arith) (omega arith) (omega arith) (omega arith) ∙ ap Some whole

-- a text that begins with a digit
first_digit : (n : ℕ) → n < 2 ^ 64 → (c : ℕ) × (rest : List ℕ) × (decimal n ≡ c ∷ rest) × (48 ≤ c) × (c ≤ 57)
first_digit n small = by (decimal n) (decimal_is_IsNumeral n small).0
  where
    by : (digits : List ℕ) → IsNumeral 10 digits → (c : ℕ) × (rest : List ℕ) × (digits ≡ c ∷ rest) × (48 ≤ c) × (c ≤ 57)
    by [] is = absurd (omega (arith, is.0))
    by (c ∷ rest) is = let r = digit_from_value c is.1.0 in (c, rest, refl, omega (arith, r), omega (arith, r))

abbrev hours_tail : ℕ → List ℕ → List ℕ
hours_tail n hours =
    hours ++ codes " HRS " ++ two_digits (n / 60000 % 60) ++ codes " MIN " ++ two_digits (n / 1000 % 60) ++ codes "." ++ three_digits (n % 1000)

hours_solid : (n : ℕ) → n < 2 ^ 64 → IsSolid (hours_text n)
hours_solid n small =
    let f = first_digit (n / 3600000) (omega arith) in
    record {
      first = f.0;
      rest = hours_tail n f.1 ++ codes " SEC";
      begins = ap (λ d. hours_tail n d ++ codes " SEC") f.2;
      first_solid = ne_eqb f.0 32 (λ e. omega (arith, e, f.3));
      front = hours_tail n (decimal (n / 3600000)) ++ 32 ∷ 83 ∷ 69 ∷ [];
      last = 67;
      ends = sym (append_assoc (hours_tail n (decimal (n / 3600000))) (32 ∷ 83 ∷ 69 ∷ []) (67 ∷ []));
      last_solid = refl;
    }

pub span_solid : (value : ℤ) → FitsInSize value → IsSolid (span_text value)
span_solid (pos n) fits = hours_solid n fits.below
span_solid (negsuc n) fits =
    let s = hours_solid (suc n) fits.below in
    record { first = 45; rest = hours_text (suc n); begins = refl; first_solid = refl; front = 45 ∷ s.front; last = s.last; ends = ap (λ t. 45 ∷ t) s.ends; last_solid = s.last_solid }

pub reads_span : (value : ℤ) → FitsInSize value → span_literal is_blank (span_text value) ≡ Some value
unfolding span_literal
reads_span (pos n) fits =
    let f = first_digit (n / 3600000) (let small = fits.below in omega (arith, small)) in
    let first : slice_index (hours_text n) 0 ≡ f.0 = ap (λ d. slice_index (hours_tail n d ++ codes " SEC") 0) f.2 in
    let plain : (slice_index (hours_text n) 0 == 45) ≡ false = ne_eqb (slice_index (hours_text n) 0) 45 (λ e. omega (arith, e, first, f.3)) in
    rw plain (ap (option_map pos) (reads_hours n fits.below))
reads_span (negsuc n) fits =
    let s = hours_solid (suc n) fits.below in
    ap (λ t. option_map minus (from_hours is_blank t)) (ap (behind_blanks is_blank) s.begins ∙ behind_blanks-first s.first s.rest s.first_solid ∙ sym s.begins)
    ∙ ap (option_map minus) (reads_hours (suc n) fits.below)

-- BITS

bit_glyph : (group d : ℕ) → group ≤ 4 → d < 2 ^ group → is_bit_digit group (digit_glyph true d) ≡ true
bit_glyph group d few small =
    let most : 2 ^ group ≤ 16 = pow_mono few in
    by (2 ^ group) most small
  where
    by : (n : ℕ) → n ≤ 16 → d < n → (nat_lt (digit_value (digit_glyph true d)) n && not (is_ascii_lowercase (digit_glyph true d))) ≡ true
    by n most small = grind (arith, nat_tests)

bit_glyph_value : (d : ℕ) → d < 16 → digit_value (digit_glyph true d) ≡ d
bit_glyph_value d small = grind (arith, nat_tests)

bit_glyph_solid : (d : ℕ) → d < 16 → is_blank (digit_glyph true d) ≡ false
bit_glyph_solid d small = grind (arith, nat_tests)

bit_below : (group value : ℕ) → group ≤ 4 → value % 2 ^ group < 16
bit_below group value few =
    let most : 2 ^ group ≤ 16 = pow_mono few in
    let below : value % 2 ^ group < 2 ^ group = mod_below value (2 ^ group) (pow_pos group) in
    omega (arith, most, below)

bits_are_digits : (group count value : ℕ) → group ≤ 4 → list_all (is_bit_digit group) (last_digits group count value) ≡ true
bits_are_digits group zero value few = refl
bits_are_digits group (suc count) value few =
    let first = bit_glyph group (value / 2 ^ (group * count) % 2 ^ group) few (mod_below (value / 2 ^ (group * count)) (2 ^ group) (pow_pos group)) in
    rw (first, bits_are_digits group count value few) refl

pub bits_solid : (group count value : ℕ) → group ≤ 4 → AllByRecursion (λ byte. is_blank byte ≡ false) (last_digits group count value)
bits_solid group zero value few = tt
bits_solid group (suc count) value few =
    (bit_glyph_solid (value / 2 ^ (group * count) % 2 ^ group) (bit_below group (value / 2 ^ (group * count)) few), bits_solid group count value few)

bits_value : (group count before value : ℕ) → group ≤ 4 →
    digits_value_after (2 ^ group) before (last_digits group count value) ≡ before * 2 ^ (group * count) + value % 2 ^ (group * count)
bits_value group zero before value few =
    let e : group * 0 ≡ 0 = mul-zero group in
    let f : value % 1 ≡ 0 = omega arith in
    rw (e, f) (let g : before ≡ before * 1 + 0 = omega arith in g)
bits_value group (suc count) before value few =
    let q = 2 ^ group in
    let p = 2 ^ (group * count) in
    let d = value / p % q in
    let glyph = bit_glyph_value d (bit_below group (value / p) few) in
    let e : group * suc count ≡ group + group * count = (let f = mul-suc group count in omega (arith, f)) in
    let wide : 2 ^ (group * suc count) ≡ q * p = ap (λ n. 2 ^ n) e ∙ pow-add 2 group (group * count) in
    let high : value % 2 ^ (group * suc count) ≡ d * p + value % p = ap (λ n. value % 2 ^ n) e ∙ mod-pow-add value group (group * count) in
    ap (λ n. digits_value_after q (before * q + n) (last_digits group count value)) glyph ∙ bits_value group count (before * q + d) value few
    ∙ ap (λ n. n + value % p) (add-mul (before * q) d p ∙ ap (λ n. n + d * p) (mul_assoc before q p))
    ∙ add_assoc (before * (q * p)) (d * p) (value % p) ∙ ap (λ n. before * (q * p) + n) (sym high) ∙ ap (λ n. before * n + value % 2 ^ (group * suc count)) (sym wide)

bits_read : (group count value : ℕ) → group ≤ 4 → 0 < count → value < 2 ^ (group * count) → bits_number group (last_digits group count value) ≡ Some value
bits_read group zero value few some small = absurd (omega (arith, some))
bits_read group (suc count) value few some small =
    let all = bits_are_digits group (suc count) value few in
    let whole = bits_value group (suc count) 0 value few in
    let e : 0 * 2 ^ (group * suc count) ≡ 0 = zero-mul (2 ^ (group * suc count)) in
    let f : value % 2 ^ (group * suc count) ≡ value = mod-eq_of_lt small in
    ap (λ b. if b then Some (digits_value (2 ^ group) (last_digits group (suc count) value)) else None) all
    ∙ ap Some (whole ∙ ap (λ n. n + value % 2 ^ (group * suc count)) e ∙ ap (λ n. 0 + n) f ∙ (let g : 0 + value ≡ value = omega arith in g))

-- a BIT is read as it is written
within_back : (len count value : ℕ) → len ≤ count → bits_within len count (Some (value * 2 ^ (count - len))) ≡ Some value
within_back len count value enough = by (nat_le count len) refl
  where
    by : (short : Bool) → nat_le count len ≡ short →
        (if short then Some (value * 2 ^ (count - len) * 2 ^ (len - count)) else (if value * 2 ^ (count - len) % 2 ^ (count - len) == 0 then Some (value * 2 ^ (count - len) / 2 ^ (count - len)) else None))
        ≡ Some value
    by true e =
        let up : count - len ≡ 0 = omega (arith, leb-true count len e) in
        let down : len - count ≡ 0 = omega (arith, leb-true count len e, enough) in
        rw (up, down) (ap Some (let g : value * 1 * 1 ≡ value = omega arith in g))
    by false e =
        let plain : value * 2 ^ (count - len) ≡ value * 2 ^ (count - len) + 0 = omega arith in
        let zeros : value * 2 ^ (count - len) % 2 ^ (count - len) ≡ 0 = ap (λ n. n % 2 ^ (count - len)) plain ∙ mod_low value (count - len) 0 (pow_pos (count - len)) in
        rw (zeros, shl-shr value (count - len)) refl

pub some_digits : (group count len : ℕ) → 0 < len → len ≤ group * count → 0 < count
some_digits group zero len some enough = absurd (let e : group * 0 ≡ 0 = mul-zero group in omega (arith, e, some, enough))
some_digits group (suc count) len some enough = omega arith

pub reads_bits : (group len value : ℕ) → 0 < group → group ≤ 4 → 0 < len → value < 2 ^ len → bits_literal group len (bits_text group len value) ≡ Some value
reads_bits group len value some few long small =
    let count = digit_count group len in
    let is = counted group len some few in
    let wide = value * 2 ^ (group * count - len) in
    let room : len + (group * count - len) ≡ group * count = (let e = is.enough in omega (arith, e)) in
    let below : wide < 2 ^ (group * count) = subst (λ n. wide < 2 ^ n) room (shl_below value len (group * count - len) small) in
    let more : 0 < count = some_digits group count len long is.enough in
    ap (λ n. bits_within len (group * n) (bits_number group (last_digits group count wide))) (length-last_digits group count wide)
    ∙ ap (bits_within len (group * count)) (bits_read group count wide few more below) ∙ within_back len (group * count) value is.enough

-- FIELDS

abbrev pub Unbroken : List ℕ → Type 0
Unbroken text = AllByRecursion (λ byte. is_line_end byte ≡ false) text

pub unbroken-append : (a b : List ℕ) → Unbroken a → Unbroken b → Unbroken (a ++ b)
unbroken-append [] b h k = k
unbroken-append (byte ∷ a) b h k = (h.0, unbroken-append a b h.1 k)

pub unbroken-blanks : (count : ℕ) → Unbroken (replicate count 32)
unbroken-blanks zero = tt
unbroken-blanks (suc count) = (refl, unbroken-blanks count)

unbroken-digits : (digits : List ℕ) → AllDigits 10 digits → Unbroken digits
unbroken-digits [] h = tt
unbroken-digits (byte ∷ bytes) h = (let r = digit_from_value byte h.0 in ne_eqb byte 10 (λ e. omega (arith, r, e)), unbroken-digits bytes h.1)

unbroken-decimal : (n : ℕ) → n < 2 ^ 64 → Unbroken (decimal n)
unbroken-decimal n small = unbroken-digits (decimal n) (decimal_is_IsNumeral n small).0.1

glyph_unbroken : (d : ℕ) → is_line_end (48 + d) ≡ false
glyph_unbroken d = ne_eqb (48 + d) 10 (λ e. omega (arith, e))

unbroken-two : (n : ℕ) → Unbroken (two_digits n)
unbroken-two n = (glyph_unbroken (n / 10), (glyph_unbroken (n % 10), tt))

unbroken-three : (n : ℕ) → Unbroken (three_digits n)
unbroken-three n = (glyph_unbroken (n / 100), unbroken-two (n % 100))

pub unbroken-number : (value : ℤ) → FitsInSize value → Unbroken (signed_decimal value)
unbroken-number (pos n) fits = unbroken-decimal n fits.below
unbroken-number (negsuc n) fits = (refl, unbroken-decimal (suc n) fits.below)

pub unbroken-clock : (width time : ℕ) → 12 ≤ width → Unbroken (clock_text width time)
unbroken-clock width time wide =
    subst (λ b. Unbroken (if b then seconds_text time ++ codes "." ++ three_digits (time % 1000) else seconds_text time)) (sym (le-leb 12 width wide))
    (unbroken-append (seconds_text time ++ codes ".") (three_digits (time % 1000))
    (unbroken-append (seconds_text time) (codes ".")
    (unbroken-append (two_digits (time / 3600000) ++ codes ":" ++ two_digits (time / 60000 % 60) ++ codes ":") (two_digits (time / 1000 % 60))
    (unbroken-append (two_digits (time / 3600000) ++ codes ":" ++ two_digits (time / 60000 % 60)) (codes ":")
    (unbroken-append (two_digits (time / 3600000) ++ codes ":") (two_digits (time / 60000 % 60))
    (unbroken-append (two_digits (time / 3600000)) (codes ":") (unbroken-two (time / 3600000)) (refl, tt)) (unbroken-two (time / 60000 % 60)))
    (refl, tt)) (unbroken-two (time / 1000 % 60)))
    (refl, tt)) (unbroken-three (time % 1000)))

unbroken-hours : (n : ℕ) → n < 2 ^ 64 → Unbroken (hours_text n)
unbroken-hours n small =
    let h = decimal (n / 3600000) in
    let a = unbroken-append h (codes " HRS ") (unbroken-decimal (n / 3600000) (omega arith)) (refl, (refl, (refl, (refl, (refl, tt))))) in
    let b = unbroken-append (h ++ codes " HRS ") (two_digits (n / 60000 % 60)) a (unbroken-two (n / 60000 % 60)) in
    let c = unbroken-append (h ++ codes " HRS " ++ two_digits (n / 60000 % 60)) (codes " MIN ") b (refl, (refl, (refl, (refl, (refl, tt))))) in
    let d = unbroken-append (h ++ codes " HRS " ++ two_digits (n / 60000 % 60) ++ codes " MIN ") (two_digits (n / 1000 % 60)) c (unbroken-two (n / 1000 % 60)) in
    let e = unbroken-append (h ++ codes " HRS " ++ two_digits (n / 60000 % 60) ++ codes " MIN " ++ two_digits (n / 1000 % 60)) (codes ".") d (refl, tt) in
    let f = unbroken-append (h ++ codes " HRS " ++ two_digits (n / 60000 % 60) ++ codes " MIN " ++ two_digits (n / 1000 % 60) ++ codes ".") (three_digits (n % 1000)) e (unbroken-three (n % 1000)) in
    unbroken-append (hours_tail n h) (codes " SEC") f (refl, (refl, (refl, (refl, tt))))

pub unbroken-span : (value : ℤ) → FitsInSize value → Unbroken (span_text value)
unbroken-span (pos n) fits = unbroken-hours n fits.below
unbroken-span (negsuc n) fits = (refl, unbroken-hours (suc n) fits.below)

bit_glyph_unbroken : (d : ℕ) → is_line_end (digit_glyph true d) ≡ false
bit_glyph_unbroken d = by (nat_lt d 10)
  where
    by : (b : Bool) → is_line_end (cond b (48 + d) (55 + d)) ≡ false
    by true = ne_eqb (48 + d) 10 (λ e. omega (arith, e))
    by false = ne_eqb (55 + d) 10 (λ e. omega (arith, e))

pub unbroken-bits : (group count value : ℕ) → Unbroken (last_digits group count value)
unbroken-bits group zero value = tt
unbroken-bits group (suc count) value = (bit_glyph_unbroken (value / 2 ^ (group * count) % 2 ^ group), unbroken-bits group count value)

whole_line : (text : List ℕ) → Unbroken text → before_first is_line_end text ≡ text
whole_line [] h = refl
whole_line (byte ∷ text) h =
    rw (h.0) (take-more (position_or_len is_line_end text) byte text ∙ ap (λ bytes. byte ∷ bytes) (whole_line text h.1))

-- a text without line ends is the field of its length
pub field_of : (width : ℕ) (text rest : List ℕ) → length text ≡ width → Unbroken text → field width (text ++ rest) ≡ Some text
field_of width text rest long h =
    let near : take width (text ++ rest) ≡ text = take_at text rest width long in
    let line : before_first is_line_end text ≡ text = whole_line text h in
    let full : (nat_lt (length text) (length text) || length text == width) ≡ true = rw (le-ltb (length text) (length text) (omega arith), eq-eqb (length text) width long) refl in
    ap (λ t. if nat_lt (length (before_first is_line_end t)) (length t) || length t == width then Some (before_first is_line_end t) else None) near
    ∙ ap (λ t. if nat_lt (length t) (length text) || length text == width then Some t else None) line
    ∙ ap (λ b. if b then Some text else None) full

-- TEXTS WITHOUT BLANKS

pub number_solid : (value : ℤ) → FitsInSize value → IsSolid (signed_decimal value)
number_solid (pos n) fits =
    let is = (decimal_is_IsNumeral n fits.below).0 in
    solid_bytes (decimal n) is.0 (solid_digits (decimal n) is.1)
number_solid (negsuc n) fits =
    let is = (decimal_is_IsNumeral (suc n) fits.below).0 in
    solid_bytes (45 ∷ decimal (suc n)) (omega arith) (refl, solid_digits (decimal (suc n)) is.1)

glyph_solid : (d : ℕ) → is_blank (48 + d) ≡ false
glyph_solid d = ne_eqb (48 + d) 32 (λ e. omega (arith, e))

abbrev NoBlanks : List ℕ → Type 0
NoBlanks text = AllByRecursion (λ byte. is_blank byte ≡ false) text

pub clock_solid : (width time : ℕ) → 12 ≤ width → time < 86400000 → IsSolid (clock_text width time)
clock_solid width time wide small =
    subst (λ b. IsSolid (if b then seconds_text time ++ codes "." ++ three_digits (time % 1000) else seconds_text time)) (sym (le-leb 12 width wide))
    (solid_bytes (seconds_text time ++ codes "." ++ three_digits (time % 1000)) (omega arith) (
      glyph_solid (time / 3600000 / 10),
      (
        glyph_solid (time / 3600000 % 10),
        (
          refl,
          (
            glyph_solid (time / 60000 % 60 / 10),
            (
              glyph_solid (time / 60000 % 60 % 10),
              (
                refl,
                (
                  glyph_solid (time / 1000 % 60 / 10),
                  (
                    glyph_solid (time / 1000 % 60 % 10),
                    (
                      refl,
                      (glyph_solid (time % 1000 / 100), (glyph_solid (time % 1000 % 100 / 10), (glyph_solid (time % 1000 % 100 % 10), tt))),
                    ),
                  ),
                ),
              ),
            ),
          ),
        ),
      ),
    ))
