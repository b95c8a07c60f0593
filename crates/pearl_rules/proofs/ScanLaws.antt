-- Why what GET gets is of its targets' kinds.
use Rattle.std.proofs.Common.{◌≡◌, ℕ, zero, suc, ◌+◌, ◌-◌, ◌*◌, ◌/◌, ◌%◌, ◌^◌, ◌<◌, ◌≤◌, ℤ, Bool, true, false, not, cond, ◌&&◌, ◌||◌, ◌==◌, nat_le, nat_lt, List, [], ◌∷◌, ◌++◌, Option, Some, None, IfSome, length, drop, take, replicate, option_map, refl, sym, ap, ◌∙◌, subst, inl, inr, arith, add-one, length-append}
use Rattle.std.specs.List.{AllByRecursion, AllZip, before_first, position_or_len, list_all, slice_split}
use Rattle.std.specs.Char.{digit_value, is_ascii_lowercase}
use Rattle.std.specs.Str.{all_ascii_digits}
use Rattle.std.specs.Str.Parse.{digits_value, AllDigits}
use Rattle.std.proofs.lemmas.Str.Parse.{tells_all_ascii_digits, numerals_by_value}
use native.Mathlib.Numerals.{unary_clauses}
use Rattle.std.proofs.Math.Nat.{mul-suc, pow-suc}
use Rattle.std.proofs.lemmas.Bool.{false≢true, leb-true, leb-false, ltb-true}
use Rattle.std.proofs.lemmas.Int.{ints}
use Rattle.std.proofs.lemmas.Int.Digits.{digits_value-lt}
use Rattle.std.proofs.lemmas.List.{length-take, length-replicate, take-append-drop}
use Rattle.std.proofs.lemmas.List.Elements.{All-append, All-replicate, All-take, All-from_recursion}
use Rattle.std.proofs.lemmas.Nat.{shl_below, shr_below, pow-add}
use Rattle.pearl_value.specs.declared.kind.Kind.{Kind}
use Rattle.pearl_value.specs.declared.kind.Kind.TheVariants as kind
use Rattle.pearl_value.specs.declared.cell.Cell.{Cell}
use Rattle.pearl_value.specs.declared.cell.Cell.TheVariants.{Fixed, Bits, Chars, Clock, Span}
use Rattle.pearl_value.specs.Kinds.{IsKind}
use Rattle.pearl_value.specs.WellFormed.{IsLetter, IsValueOf, FitsSpan}
use Rattle.pearl_value.specs.Arithmetic.{fits_span}
use Rattle.pearl_value.specs.Conversions.{fits_fixed}
use Rattle.pearl_format.specs.declared.item.ItemCode.{ItemCode}
use Rattle.pearl_format.specs.declared.item.ItemCode.TheVariants.{A, B1, B2, B3, B4, F, T, D, X, Skip}
use Rattle.pearl_format.specs.declared.item.Item.{Item}
use Rattle.pearl_format.specs.Bytes.{IsTextByte}
use Rattle.pearl_format.specs.Fields.{cut_field}
use Rattle.pearl_format.specs.Items.{data_here, SuitsItem, Suits, width_over, skip_count}
use Rattle.pearl_rules.specs.Literals.{at_most, decimal_number, number_up_to, thousandths, clock_value, clock_of, with_point, with_colons, clock_literal, span_literal, bits_number, bits_within, bits_literal, is_bit_digit, bare, signed_number}
use Rattle.pearl_rules.specs.Scan.{Scanned, Short, Bad, Got, is_line_end, is_blank, field, lines_length, if_fits, field_value, good_or_bad, if_complete, if_skipped, scan_item, behind, followed_by, scan}

-- BYTES

abbrev Letters : List ℕ → Type 0
Letters text = AllByRecursion IsLetter text

abbrev Typed : List ℕ → Type 0
Typed bytes = AllByRecursion IsTextByte bytes

letter_of : (byte : ℕ) → IsTextByte byte → is_line_end byte ≡ false → IsLetter byte
letter_of byte (inl e) h = absurd (false≢true (sym h ∙ ap is_line_end e))
letter_of byte (inr l) h = l

take-more : (n byte : ℕ) (bytes : List ℕ) → take (1 + n) (byte ∷ bytes) ≡ byte ∷ take n bytes
take-more n byte bytes = let e : 1 + n ≡ n + 1 = omega arith in rw (e, add-one n) refl

before_letters : (bytes : List ℕ) → Typed bytes → Letters (before_first is_line_end bytes)
before_letters [] typed = tt
before_letters (byte ∷ bytes) typed = by (before_letters bytes typed.1) (is_line_end byte) refl
  where
    by : Letters (before_first is_line_end bytes) → (ends : Bool) → is_line_end byte ≡ ends →
        Letters (take (cond (not ends) (1 + position_or_len is_line_end bytes) 0) (byte ∷ bytes))
    by others true e = tt
    by others false e = rw (take-more (position_or_len is_line_end bytes) byte bytes) (letter_of byte typed.0 e, others)

take-typed : (n : ℕ) (bytes : List ℕ) → Typed bytes → Typed (take n bytes)
take-typed zero bytes typed = tt
take-typed (suc n) [] typed = tt
take-typed (suc n) (byte ∷ bytes) typed = (typed.0, take-typed n bytes typed.1)

drop-typed : (n : ℕ) (bytes : List ℕ) → Typed bytes → Typed (drop n bytes)
drop-typed zero bytes typed = typed
drop-typed (suc n) [] typed = tt
drop-typed (suc n) (byte ∷ bytes) typed = drop-typed n bytes typed.1

-- a field has no line end
field_letters : (width : ℕ) (bytes : List ℕ) → Typed bytes → IfSome (field width bytes) Letters
field_letters width bytes typed =
    let near = take width bytes in
    let text = before_first is_line_end near in
    by (nat_lt (length text) (length near) || length near == width)
  where
    by : (complete : Bool) → IfSome (cond complete (Some (before_first is_line_end (take width bytes))) None) Letters
    by true = before_letters (take width bytes) (take-typed width bytes typed)
    by false = tt

-- VALUES

mapped : {X Y : Type 0} (P : X → Type 0) (Q : Y → Type 0) (f : X → Y) (o : Option X) → ((x : X) → P x → Q (f x)) → IfSome o P → IfSome (option_map f o) Q
mapped P Q f None of h = tt
mapped P Q f (Some x) of h = of x h

fitting : {X : Type 0} (fits : X → Bool) (o : Option X) → IfSome (if_fits fits o) (λ x. fits x ≡ true)
fitting fits None = tt
fitting fits (Some x) = by (fits x) refl
  where
    by : (b : Bool) → fits x ≡ b → IfSome (cond b (Some x) None) (λ x. fits x ≡ true)
    by true e = e
    by false e = tt

length-cut : (len : ℕ) (text : List ℕ) → length (cut_field len text) ≡ len
length-cut len text = omega (arith, length-append (take len text) (replicate (len - length text) 32), length-take len text, length-replicate {A = ℕ} (len - length text) 32)

letters_value : (len : ℕ) (text : List ℕ) → IsKind (kind.Chars len) → Letters text → IsValueOf (kind.Chars len) (Chars (record { items = cut_field len text }))
letters_value len text is letters =
    let e : length (cut_field len text) ≡ len = length-cut len text in
    record {
      is_value = (
        subst (λ n. IsKind (kind.Chars n)) (sym e) is,
        All-append IsLetter (take len text) (replicate (len - length text) 32) (All-take IsLetter len text (All-from_recursion IsLetter text letters))
            (All-replicate IsLetter (len - length text) 32 (omega arith, omega arith)),
      );
      same_kind = ap kind.Chars e;
    }

-- digits of so many bits spell a number of so many bits in all
pub bit_digits : (group : ℕ) (digits : List ℕ) → list_all (is_bit_digit group) digits ≡ true → AllDigits (2 ^ group) digits
bit_digits group [] h = tt
bit_digits group (byte ∷ bytes) h =
    by (nat_lt (digit_value byte) (2 ^ group)) (not (is_ascii_lowercase byte)) (list_all (is_bit_digit group) bytes) refl (bit_digits group bytes) h
  where
    by : (low capital rest : Bool) → nat_lt (digit_value byte) (2 ^ group) ≡ low → (rest ≡ true → AllDigits (2 ^ group) bytes) →
        (low && capital) && rest ≡ true → (digit_value byte < 2 ^ group) × AllDigits (2 ^ group) bytes
    by true true true e others h = (ltb-true (digit_value byte) (2 ^ group) e, others refl)
    by true true false e others h = absurd (false≢true h)
    by true false rest e others h = absurd (false≢true h)
    by false capital rest e others h = absurd (false≢true h)

pub pow_pow : (group count : ℕ) → (2 ^ group) ^ count ≡ 2 ^ (group * count)
pow_pow group zero = simp unary_clauses refl
pow_pow group (suc count) =
    let e : group * suc count ≡ group * count + group = omega (arith, mul-suc group count) in
    pow-suc (2 ^ group) count ∙ ap (λ n. n * 2 ^ group) (pow_pow group count) ∙ sym (pow-add 2 (group * count) group) ∙ ap (λ n. 2 ^ n) (sym e)

pub bits_number-below : (group : ℕ) (digits : List ℕ) → IfSome (bits_number group digits) (λ n. n < 2 ^ (group * length digits))
bits_number-below group [] = tt
bits_number-below group (byte ∷ bytes) = by (list_all (is_bit_digit group) (byte ∷ bytes)) refl
  where
    digits : List ℕ
    digits = byte ∷ bytes

    by : (b : Bool) → list_all (is_bit_digit group) (byte ∷ bytes) ≡ b →
        IfSome (cond b (Some (digits_value (2 ^ group) (byte ∷ bytes))) None) (λ n. n < 2 ^ (group * length (byte ∷ bytes)))
    by true e = subst (λ n. digits_value (2 ^ group) (byte ∷ bytes) < n) (pow_pow group (length (byte ∷ bytes)))
        (digits_value-lt (2 ^ group) (byte ∷ bytes) (bit_digits group (byte ∷ bytes) e))
    by false e = tt

bits_within-below : (len count : ℕ) (o : Option ℕ) → IfSome o (λ n. n < 2 ^ count) → IfSome (bits_within len count o) (λ n. n < 2 ^ len)
bits_within-below len count None h = tt
bits_within-below len count (Some value) h = by (nat_le count len) (value % 2 ^ (count - len) == 0) refl
  where
    by : (short zeros : Bool) → nat_le count len ≡ short →
        IfSome (cond short (Some (value * 2 ^ (len - count))) (cond zeros (Some (value / 2 ^ (count - len))) None)) (λ n. n < 2 ^ len)
    by true zeros e =
        let all : count + (len - count) ≡ len = omega (arith, leb-true count len e) in
        subst (λ n. value * 2 ^ (len - count) < 2 ^ n) all (shl_below value count (len - count) h)
    by false true e =
        let all : len + (count - len) ≡ count = omega (arith, leb-false count len e) in
        shr_below value len (count - len) (subst (λ n. value < 2 ^ n) (sym all) h)
    by false false e = tt

bits_value : (group len : ℕ) (text : List ℕ) → IsKind (kind.Bits len) → IfSome (option_map (Bits len) (bits_literal group len text)) (IsValueOf (kind.Bits len))
bits_value group len text is =
    mapped (λ n. n < 2 ^ len) (IsValueOf (kind.Bits len)) (Bits len) (bits_literal group len text) (λ n below. record { is_value = (is, below); same_kind = refl })
    (bits_within-below len (group * length text) (bits_number group text) (bits_number-below group text))

-- a time of day comes before the end of the day
at_most-below : (limit : ℕ) (o : Option ℕ) → IfSome (at_most limit o) (λ n. n ≤ limit)
at_most-below limit None = tt
at_most-below limit (Some n) = by (nat_le n limit) refl
  where
    by : (b : Bool) → nat_le n limit ≡ b → IfSome (cond b (Some n) None) (λ n. n ≤ limit)
    by true e = leb-true n limit e
    by false e = tt

decimal_digits : (digits : List ℕ) → all_ascii_digits digits ≡ true → AllDigits 10 digits
decimal_digits digits h = (numerals_by_value (λ ds. all_ascii_digits ds ≡ true) tells_all_ascii_digits).to digits h

decimal_number-below : (digits : List ℕ) → IfSome (decimal_number digits) (λ n. n < 10 ^ length digits)
decimal_number-below [] = tt
decimal_number-below (byte ∷ bytes) = by (all_ascii_digits (byte ∷ bytes)) refl
  where
    by : (b : Bool) → all_ascii_digits (byte ∷ bytes) ≡ b →
        IfSome (cond b (Some (digits_value 10 (byte ∷ bytes))) None) (λ n. n < 10 ^ length (byte ∷ bytes))
    by true e = digits_value-lt 10 (byte ∷ bytes) (decimal_digits (byte ∷ bytes) e)
    by false e = tt

pub thousandths-below : (digits : List ℕ) → IfSome (thousandths digits) (λ n. n < 1000)
thousandths-below [] = tt
thousandths-below (byte ∷ bytes) = by (nat_le (length (byte ∷ bytes)) 3) refl
  where
    by : (b : Bool) → nat_le (length (byte ∷ bytes)) 3 ≡ b →
        IfSome (cond b (decimal_number ((byte ∷ bytes) ++ replicate (3 - length (byte ∷ bytes)) 48)) None) (λ n. n < 1000)
    by true e =
        let filled = (byte ∷ bytes) ++ replicate (3 - length (byte ∷ bytes)) 48 in
        let three : length filled ≡ 3 = omega (
          arith,
          length-append (byte ∷ bytes) (replicate (3 - length (byte ∷ bytes)) 48),
          length-replicate {A = ℕ} (3 - length (byte ∷ bytes)) 48,
          leb-true (length (byte ∷ bytes)) 3 e,
        ) in
        subst (λ k. IfSome (decimal_number filled) (λ n. n < 10 ^ k)) three (decimal_number-below filled)
    by false e = tt

clock_value-below : (hours minutes seconds part : Option ℕ) → IfSome hours (λ n. n ≤ 23) → IfSome minutes (λ n. n ≤ 59) → IfSome seconds (λ n. n ≤ 59) →
    IfSome part (λ n. n < 1000) → IfSome (clock_value hours minutes seconds part) (λ n. n < 86400000)
clock_value-below (Some h) (Some m) (Some s) (Some p) a b c d = omega arith
clock_value-below None m s p a b c d = tt
clock_value-below (Some h) None s p a b c d = tt
clock_value-below (Some h) (Some m) None p a b c d = tt
clock_value-below (Some h) (Some m) (Some s) None a b c d = tt

clock_of-below : (hours minutes seconds : List ℕ) (part : Option ℕ) → IfSome part (λ n. n < 1000) →
    IfSome (clock_of hours minutes seconds part) (λ n. n < 86400000)
clock_of-below hours minutes seconds part h =
    clock_value-below (number_up_to 23 hours) (number_up_to 59 minutes) (number_up_to 59 seconds) part (at_most-below 23 (decimal_number hours))
    (at_most-below 59 (decimal_number minutes)) (at_most-below 59 (decimal_number seconds)) h

with_point-below : (hours minutes : List ℕ) (parts : List (List ℕ)) → IfSome (with_point hours minutes parts) (λ n. n < 86400000)
with_point-below hours minutes [] = tt
with_point-below hours minutes (seconds ∷ []) = clock_of-below hours minutes seconds (Some 0) (omega arith)
with_point-below hours minutes (seconds ∷ digits ∷ []) = clock_of-below hours minutes seconds (thousandths digits) (thousandths-below digits)
with_point-below hours minutes (seconds ∷ digits ∷ more ∷ parts) = tt

with_colons-below : (parts : List (List ℕ)) → IfSome (with_colons parts) (λ n. n < 86400000)
with_colons-below [] = tt
with_colons-below (hours ∷ []) = tt
with_colons-below (hours ∷ minutes ∷ []) = tt
with_colons-below (hours ∷ minutes ∷ seconds ∷ []) = with_point-below hours minutes (slice_split (λ byte. byte == 46) seconds)
with_colons-below (hours ∷ minutes ∷ seconds ∷ more ∷ parts) = tt

pub clock_below : (text : List ℕ) → IfSome (clock_literal text) (λ n. n < 86400000)
unfolding clock_literal
clock_below text = with_colons-below (slice_split (λ byte. byte == 58) text)

fixed_value : (len : ℕ) (o : Option ℤ) → IsKind (kind.Fixed len) → IfSome (option_map (Fixed len) (if_fits (fits_fixed len) o)) (IsValueOf (kind.Fixed len))
fixed_value len o is =
    mapped (λ value. fits_fixed len value ≡ true) (IsValueOf (kind.Fixed len)) (Fixed len) (if_fits (fits_fixed len) o)
    (λ value e. record { is_value = (is, record { low = grind (arith, ints); high = grind (arith, ints) }); same_kind = refl }) (fitting (fits_fixed len) o)

span_value : (o : Option ℤ) → IfSome (option_map Span (if_fits fits_span o)) (IsValueOf kind.Span)
span_value o =
    mapped (λ value. fits_span value ≡ true) (IsValueOf kind.Span) Span (if_fits fits_span o)
    (λ value e. record { is_value = in_range value e; same_kind = refl }) (fitting fits_span o)
  where
    in_range : (value : ℤ) → fits_span value ≡ true → FitsSpan value
    in_range value e = record { low = grind (arith, ints); high = grind (arith, ints) }

field_value-of : (code : ItemCode) (own : Kind) (text : List ℕ) → IsKind own → Letters text → IfSome (field_value code own text) (IsValueOf own)
field_value-of A (kind.Chars len) text is letters = letters_value len text is letters
field_value-of B1 (kind.Bits len) text is letters = bits_value 1 len (bare is_blank text) is
field_value-of B2 (kind.Bits len) text is letters = bits_value 2 len (bare is_blank text) is
field_value-of B3 (kind.Bits len) text is letters = bits_value 3 len (bare is_blank text) is
field_value-of B4 (kind.Bits len) text is letters = bits_value 4 len (bare is_blank text) is
field_value-of F (kind.Fixed len) text is letters = fixed_value len (signed_number (bare is_blank text)) is
field_value-of T kind.Clock text is letters =
    mapped (λ n. n < 86400000) (IsValueOf kind.Clock) Clock (clock_literal (bare is_blank text)) (λ n below. record { is_value = below; same_kind = refl })
    (clock_below (bare is_blank text))
field_value-of D kind.Span text is letters = span_value (span_literal is_blank (bare is_blank text))
field_value-of code own text is letters = tt

-- ITEMS

abbrev Fine : List Kind → Scanned → Type 0
Fine kinds Short = Unit {0}
Fine kinds (Bad used) = Unit {0}
Fine kinds (Got used values) = AllZip IsValueOf kinds values

skipped_fine : (o : Option ℕ) → Fine [] (if_skipped o)
skipped_fine None = tt
skipped_fine (Some used) = tt

good_fine : (kinds : List Kind) (used : ℕ) (o : Option (List Cell)) → IfSome o (AllZip IsValueOf kinds) → Fine kinds (good_or_bad used o)
good_fine kinds used None h = tt
good_fine kinds used (Some values) h = h

complete_fine : (kinds : List Kind) (o : Option (List ℕ)) (read : List ℕ → Option (List Cell)) → IfSome o Letters →
    ((text : List ℕ) → Letters text → IfSome (read text) (AllZip IsValueOf kinds)) → Fine kinds (if_complete o read)
complete_fine kinds None read h each = tt
complete_fine kinds (Some text) read h each = good_fine kinds (length text) (read text) (each text h)

-- one field for a target
one_fine : (code : ItemCode) (own : Kind) (width : ℕ) (bytes : List ℕ) → IsKind own → Typed bytes →
    Fine (own ∷ []) (if_complete (field width bytes) (λ text. option_map (λ value. value ∷ []) (field_value code own text)))
one_fine code own width bytes is typed =
    complete_fine (own ∷ []) (field width bytes) (λ text. option_map (λ value. value ∷ []) (field_value code own text)) (field_letters width bytes typed)
    (λ text letters. mapped (IsValueOf own) (AllZip IsValueOf (own ∷ [])) (λ value. value ∷ []) (field_value code own text) (λ value h. (h, tt))
    (field_value-of code own text is letters))

module _ (width : ℕ) (bytes : List ℕ) (rest : List Kind → Type 0) (typed : Typed bytes) where
  item_fine : (code : ItemCode) (kinds : List Kind) → SuitsItem code width kinds rest → AllByRecursion IsKind kinds →
      Fine (take (data_here code) kinds) (scan_item code width kinds bytes)
  item_fine Skip kinds suits are = skipped_fine (lines_length (skip_count width) bytes)
  item_fine X kinds suits are =
      complete_fine [] (field (skip_count width) bytes) (λ text. Some []) (field_letters (skip_count width) bytes typed) (λ text letters. tt)
  item_fine A [] suits are = absurd suits
  item_fine A (own ∷ kinds) suits are = one_fine A own (width_over A width (own ∷ kinds)) bytes are.0 typed
  item_fine B1 [] suits are = absurd suits
  item_fine B1 (own ∷ kinds) suits are = one_fine B1 own (width_over B1 width (own ∷ kinds)) bytes are.0 typed
  item_fine B2 [] suits are = absurd suits
  item_fine B2 (own ∷ kinds) suits are = one_fine B2 own (width_over B2 width (own ∷ kinds)) bytes are.0 typed
  item_fine B3 [] suits are = absurd suits
  item_fine B3 (own ∷ kinds) suits are = one_fine B3 own (width_over B3 width (own ∷ kinds)) bytes are.0 typed
  item_fine B4 [] suits are = absurd suits
  item_fine B4 (own ∷ kinds) suits are = one_fine B4 own (width_over B4 width (own ∷ kinds)) bytes are.0 typed
  item_fine F [] suits are = absurd suits
  item_fine F (own ∷ kinds) suits are = one_fine F own (width_over F width (own ∷ kinds)) bytes are.0 typed
  item_fine T [] suits are = absurd suits
  item_fine T (own ∷ kinds) suits are = one_fine T own (width_over T width (own ∷ kinds)) bytes are.0 typed
  item_fine D [] suits are = absurd suits
  item_fine D (own ∷ kinds) suits are = one_fine D own (width_over D width (own ∷ kinds)) bytes are.0 typed

-- what an item leaves suits the items behind it
pub rest_suits : (code : ItemCode) (width : ℕ) (kinds : List Kind) (rest : List Kind → Type 0) → SuitsItem code width kinds rest → rest (drop (data_here code) kinds)
rest_suits X width kinds rest suits = suits
rest_suits Skip width kinds rest suits = suits
rest_suits A width [] rest suits = absurd suits
rest_suits A width (own ∷ kinds) rest suits = suits.1
rest_suits B1 width [] rest suits = absurd suits
rest_suits B1 width (own ∷ kinds) rest suits = suits.1
rest_suits B2 width [] rest suits = absurd suits
rest_suits B2 width (own ∷ kinds) rest suits = suits.1
rest_suits B3 width [] rest suits = absurd suits
rest_suits B3 width (own ∷ kinds) rest suits = suits.1
rest_suits B4 width [] rest suits = absurd suits
rest_suits B4 width (own ∷ kinds) rest suits = suits.1
rest_suits F width [] rest suits = absurd suits
rest_suits F width (own ∷ kinds) rest suits = suits.1
rest_suits T width [] rest suits = absurd suits
rest_suits T width (own ∷ kinds) rest suits = suits.1
rest_suits D width [] rest suits = absurd suits
rest_suits D width (own ∷ kinds) rest suits = suits.1

AllZip-append : (kinds more : List Kind) (values others : List Cell) → AllZip IsValueOf kinds values → AllZip IsValueOf more others →
    AllZip IsValueOf (kinds ++ more) (values ++ others)
AllZip-append [] more [] others h k = k
AllZip-append [] more (value ∷ values) others h k = absurd h
AllZip-append (own ∷ kinds) more [] others h k = absurd h
AllZip-append (own ∷ kinds) more (value ∷ values) others h k = (h.0, AllZip-append kinds more values others h.1 k)

behind_fine : (kinds more : List Kind) (used : ℕ) (values : List Cell) (later : Scanned) → AllZip IsValueOf kinds values → Fine more later →
    Fine (kinds ++ more) (behind used values later)
behind_fine kinds more used values Short h k = tt
behind_fine kinds more used values (Bad also) h k = tt
behind_fine kinds more used values (Got also others) h k = AllZip-append kinds more values others h k

followed_fine : (kinds more : List Kind) (first : Scanned) (later : ℕ → Scanned) → Fine kinds first → ((used : ℕ) → Fine more (later used)) →
    Fine (kinds ++ more) (followed_by first later)
followed_fine kinds more Short later h each = tt
followed_fine kinds more (Bad used) later h each = tt
followed_fine kinds more (Got used values) later h each = behind_fine kinds more used values (later used) h (each used)

drop-kinds : (n : ℕ) (kinds : List Kind) → AllByRecursion IsKind kinds → AllByRecursion IsKind (drop n kinds)
drop-kinds zero kinds are = are
drop-kinds (suc n) [] are = tt
drop-kinds (suc n) (own ∷ kinds) are = drop-kinds n kinds are.1

scan_fine : (items : List Item) (kinds : List Kind) (bytes : List ℕ) → Suits items kinds → AllByRecursion IsKind kinds → Typed bytes → Fine kinds (scan items kinds bytes)
unfolding scan
scan_fine [] [] bytes suits are typed = tt
scan_fine [] (own ∷ kinds) bytes suits are typed = absurd suits
scan_fine (item ∷ items) kinds bytes suits are typed =
    let n = data_here item.code in
    subst (λ all. Fine all (scan (item ∷ items) kinds bytes)) (take-append-drop n kinds)
    (followed_fine (take n kinds) (drop n kinds) (scan_item item.code item.width kinds bytes) (λ used. scan items (drop n kinds) (drop used bytes))
    (item_fine item.width bytes (λ rest. Suits items rest) typed item.code kinds suits are)
    (λ used. scan_fine items (drop n kinds) (drop used bytes) (rest_suits item.code item.width kinds (λ rest. Suits items rest) suits)
    (drop-kinds n kinds are) (drop-typed used bytes typed)))

-- from bytes of texts and line ends come values of the kinds that the items suit, one for each
pub reads_values : (items : List Item) (kinds : List Kind) (bytes : List ℕ) (used : ℕ) (values : List Cell) → Suits items kinds →
    AllByRecursion IsKind kinds → AllByRecursion IsTextByte bytes → scan items kinds bytes ≡ Got used values → AllZip IsValueOf kinds values
reads_values items kinds bytes used values suits are typed e = subst (Fine kinds) e (scan_fine items kinds bytes suits are typed)
