-- Why a format reads what it wrote.
use Rattle.std.proofs.Common.{◌≡◌, ◌<◌, ◌≤◌, ℕ, zero, suc, ◌+◌, ◌-◌, ◌*◌, ◌^◌, ℤ, pos, negsuc, ◌≤ℤ◌, List, [], ◌∷◌, ◌++◌, Bool, true, false, cond, length, drop, take, map, replicate, refl, arith, nat_le, nat_lt, sym, ◌∙◌, ap, subst, append_assoc, length-append}
use Rattle.std.proofs.lemmas.Bool.{leb-true, lt-ltb}
use Rattle.std.proofs.lemmas.Bool.Decides.{nat_tests}
use Rattle.std.proofs.lemmas.Int.{ints}
use Rattle.std.proofs.lemmas.Option.{none-some, same_Some}
use Rattle.std.proofs.lemmas.List.{length-replicate, take-append-drop, drop-map, drop_at}
use Rattle.std.proofs.Math.Pow.{pow_mono}
use Rattle.std.specs.Prelude.{Option, Some, None, if◌then◌else◌, option_map, unsigned_abs}
use Rattle.std.specs.Fmt.{signed_decimal}
use Rattle.std.specs.List.{AllByRecursion}
use Rattle.pearl_value.specs.declared.cell.Cell.{Cell}
use Rattle.pearl_value.specs.declared.cell.Cell.TheVariants.{Fixed, Bits, Clock, Span}
use Rattle.pearl_value.specs.Cells.{kind_of, FitsFixed}
use Rattle.pearl_value.specs.Arithmetic.{fits_span}
use Rattle.pearl_value.specs.Conversions.{fits_fixed}
use Rattle.pearl_value.specs.WellFormed.{IsValue, FitsSpan}
use Rattle.pearl_format.specs.declared.item.ItemCode.{ItemCode}
use Rattle.pearl_format.specs.declared.item.ItemCode.TheVariants.{A, B1, B2, B3, B4, F, T, D, X, Skip}
use Rattle.pearl_format.specs.Fields.{width_or, right_field, left_field, bits_text, clock_text, span_text, digit_count}
use Rattle.pearl_format.specs.Items.{data_here, skip_count, Suits}
use Rattle.pearl_format.specs.Parts.{own_text, bits_item}
use Rattle.pearl_format.specs.Texts.{joined_text, text_of}
use Rattle.pearl_format.proofs.Offered.{counted, length-last_digits}
use Rattle.pearl_rules.specs.Literals.{bare, signed_number, bits_literal, clock_literal, span_literal}
use Rattle.pearl_rules.specs.Scan.{Got, is_blank, field, lines_length, behind_line, if_fits, good_or_bad, if_complete, if_skipped, scan_item, behind, followed_by, scan}
use Rattle.pearl_rules.proofs.Offered.{rest_suits}
use Rattle.pearl_scan.specs.Laws.{WritesAll, ReadsWhatIsWritten}
use Rattle.pearl_scan.proofs.Written.{IsSolid, bare-right, bare-left, solid_bytes, bits_solid, number_solid, clock_solid, span_solid, FitsInSize, reads_number, reads_clock, reads_span, reads_bits, field_of, Unbroken, unbroken-append, unbroken-blanks, unbroken-number, unbroken-clock, unbroken-span, unbroken-bits, some_digits}

-- what stands in a field of its width, on the right or on the left
record Stands (width : ℕ) (own text : List ℕ) : Type 0 where
  long : length text ≡ width
  unbroken : Unbroken text
  bare_is : bare is_blank text ≡ own

right_stands : (width : ℕ) (own text : List ℕ) → IsSolid own → Unbroken own → right_field width own ≡ Some text → Stands width own text
right_stands width own text solid whole e = by (nat_le (length own) width) refl e
  where
    by : (fits : Bool) → nat_le (length own) width ≡ fits → cond fits (Some (replicate (width - length own) 32 ++ own)) None ≡ Some text → Stands width own text
    by true fits e =
        let is : replicate (width - length own) 32 ++ own ≡ text = same_Some _ _ e in
        subst (Stands width own) is (record {
          long = omega (arith, length-append (replicate (width - length own) 32) own, length-replicate {A = ℕ} (width - length own) 32, leb-true (length own) width fits);
          unbroken = unbroken-append (replicate (width - length own) 32) own (unbroken-blanks (width - length own)) whole;
          bare_is = bare-right (width - length own) own solid;
        })
    by false fits e = absurd (none-some text e)

left_stands : (width : ℕ) (own text : List ℕ) → IsSolid own → Unbroken own → left_field width own ≡ Some text → Stands width own text
left_stands width own text solid whole e = by (nat_le (length own) width) refl e
  where
    by : (fits : Bool) → nat_le (length own) width ≡ fits → cond fits (Some (own ++ replicate (width - length own) 32)) None ≡ Some text → Stands width own text
    by true fits e =
        let is : own ++ replicate (width - length own) 32 ≡ text = same_Some _ _ e in
        subst (Stands width own) is (record {
          long = omega (arith, length-append own (replicate (width - length own) 32), length-replicate {A = ℕ} (width - length own) 32, leb-true (length own) width fits);
          unbroken = unbroken-append own (replicate (width - length own) 32) whole (unbroken-blanks (width - length own));
          bare_is = bare-left (width - length own) own solid;
        })
    by false fits e = absurd (none-some text e)

-- such a text is found, and read as is said
found_in : (width : ℕ) (own text rest : List ℕ) (read : List ℕ → Option (List Cell)) (value : Cell) → Stands width own text → read text ≡ Some (value ∷ []) →
    if_complete (field width (text ++ rest)) read ≡ Got (length text) (value ∷ [])
found_in width own text rest read value stands e =
    ap (λ o. if_complete o read) (field_of width text rest stands.long stands.unbroken) ∙ ap (good_or_bad (length text)) e

-- BITS

bits_back : (code : ItemCode) (group len value width : ℕ) (vs : List Cell) (text rest : List ℕ) → 0 < group → group ≤ 4 → IsValue (Bits len value) →
    bits_item group width (Bits len value ∷ vs) ≡ Some text →
    if_complete (field (width_or width (digit_count group len)) (text ++ rest)) (λ t. option_map (λ x. x ∷ []) (option_map (Bits len) (bits_literal group len (bare is_blank t))))
    ≡ Got (length text) (Bits len value ∷ [])
bits_back code group len value width vs text rest some few is e =
    let own = bits_text group len value in
    let count = digit_count group len in
    let long : length own ≡ count = length-last_digits group count (value * 2 ^ (group * count - len)) in
    let there : 0 < count = some_digits group count len is.0.0 (counted group len some few).enough in
    let solid = solid_bytes own (omega (arith, long, there)) (bits_solid group count (value * 2 ^ (group * count - len)) few) in
    let stands = left_stands (width_or width (length own)) own text solid (unbroken-bits group count (value * 2 ^ (group * count - len))) e in
    let read : option_map (λ x. x ∷ []) (option_map (Bits len) (bits_literal group len (bare is_blank text))) ≡ Some (Bits len value ∷ []) =
    ap (λ t. option_map (λ x. x ∷ []) (option_map (Bits len) (bits_literal group len t))) stands.bare_is
    ∙ ap (λ o. option_map (λ x. x ∷ []) (option_map (Bits len) o)) (reads_bits group len value some few is.0.0 is.1) in
    ap (λ n. if_complete (field (width_or width n) (text ++ rest)) (λ t. option_map (λ x. x ∷ []) (option_map (Bits len) (bits_literal group len (bare is_blank t))))) (sym long)
    ∙ found_in (width_or width (length own)) own text rest (λ t. option_map (λ x. x ∷ []) (option_map (Bits len) (bits_literal group len (bare is_blank t)))) (Bits len value) stands read

-- NUMBERS, TIMES OF DAY, LENGTHS OF TIME

fixed_size : (len : ℕ) (value : ℤ) → len ≤ 63 → FitsFixed len value → FitsInSize value
fixed_size len value few fits =
    let most : 2 ^ len ≤ 2 ^ 63 = pow_mono few in
    record { below = size value fits.low fits.high }
  where
    size : (z : ℤ) → negsuc (2 ^ len - 1) ≤ℤ z → z ≤ℤ pos (2 ^ len - 1) → unsigned_abs z < 2 ^ 64
    size z low high = let most : 2 ^ len ≤ 2 ^ 63 = pow_mono few in grind (arith, ints)

fixed_fits : (len : ℕ) (value : ℤ) → FitsFixed len value → fits_fixed len value ≡ true
fixed_fits len value fits = let low = fits.low in let high = fits.high in grind (arith, ints)

number_back : (len width : ℕ) (value : ℤ) (text rest : List ℕ) → IsValue (Fixed len value) → right_field width (signed_decimal value) ≡ Some text →
    if_complete (field width (text ++ rest)) (λ t. option_map (λ x. x ∷ []) (option_map (Fixed len) (if_fits (fits_fixed len) (signed_number (bare is_blank t)))))
    ≡ Got (length text) (Fixed len value ∷ [])
number_back len width value text rest is e =
    let size = fixed_size len value is.0.1 is.1 in
    let stands = right_stands width (signed_decimal value) text (number_solid value size) (unbroken-number value size) e in
    let read : option_map (λ x. x ∷ []) (option_map (Fixed len) (if_fits (fits_fixed len) (signed_number (bare is_blank text)))) ≡ Some (Fixed len value ∷ []) =
    ap (λ t. option_map (λ x. x ∷ []) (option_map (Fixed len) (if_fits (fits_fixed len) (signed_number t)))) stands.bare_is
    ∙ ap (λ o. option_map (λ x. x ∷ []) (option_map (Fixed len) (if_fits (fits_fixed len) o))) (reads_number value size)
    ∙ ap (λ b. option_map (λ x. x ∷ []) (option_map (Fixed len) (if b then Some value else None))) (fixed_fits len value is.1) in
    found_in width (signed_decimal value) text rest (λ t. option_map (λ x. x ∷ []) (option_map (Fixed len) (if_fits (fits_fixed len) (signed_number (bare is_blank t))))) (Fixed len value) stands read

clock_back : (width time : ℕ) (text rest : List ℕ) → 12 ≤ width → time < 86400000 → right_field width (clock_text width time) ≡ Some text →
    if_complete (field width (text ++ rest)) (λ t. option_map (λ x. x ∷ []) (option_map Clock (clock_literal (bare is_blank t)))) ≡ Got (length text) (Clock time ∷ [])
clock_back width time text rest wide small e =
    let stands = right_stands width (clock_text width time) text (clock_solid width time wide small) (unbroken-clock width time wide) e in
    let read : option_map (λ x. x ∷ []) (option_map Clock (clock_literal (bare is_blank text))) ≡ Some (Clock time ∷ []) =
    ap (λ t. option_map (λ x. x ∷ []) (option_map Clock (clock_literal t))) stands.bare_is
    ∙ ap (λ o. option_map (λ x. x ∷ []) (option_map Clock o)) (reads_clock width time wide small) in
    found_in width (clock_text width time) text rest (λ t. option_map (λ x. x ∷ []) (option_map Clock (clock_literal (bare is_blank t)))) (Clock time) stands read

span_size : (value : ℤ) → FitsSpan value → FitsInSize value
span_size value fits = record { below = (let low = fits.low in let high = fits.high in grind (arith, ints)) }

span_fits : (value : ℤ) → FitsSpan value → fits_span value ≡ true
span_fits value fits = let low = fits.low in let high = fits.high in grind (arith, ints, nat_tests)

span_back : (width : ℕ) (value : ℤ) (text rest : List ℕ) → FitsSpan value → right_field width (span_text value) ≡ Some text →
    if_complete (field width (text ++ rest)) (λ t. option_map (λ x. x ∷ []) (option_map Span (if_fits fits_span (span_literal is_blank (bare is_blank t)))))
    ≡ Got (length text) (Span value ∷ [])
span_back width value text rest fits e =
    let size = span_size value fits in
    let stands = right_stands width (span_text value) text (span_solid value size) (unbroken-span value size) e in
    let read : option_map (λ x. x ∷ []) (option_map Span (if_fits fits_span (span_literal is_blank (bare is_blank text)))) ≡ Some (Span value ∷ []) =
    ap (λ t. option_map (λ x. x ∷ []) (option_map Span (if_fits fits_span (span_literal is_blank t)))) stands.bare_is
    ∙ ap (λ o. option_map (λ x. x ∷ []) (option_map Span (if_fits fits_span o))) (reads_span value size)
    ∙ ap (λ b. option_map (λ x. x ∷ []) (option_map Span (if b then Some value else None))) (span_fits value fits) in
    found_in width (span_text value) text rest (λ t. option_map (λ x. x ∷ []) (option_map Span (if_fits fits_span (span_literal is_blank (bare is_blank t))))) (Span value) stands read

-- BLANKS AND LINE ENDS

lines_back : (count : ℕ) (rest : List ℕ) → lines_length count (replicate count 10 ++ rest) ≡ Some count
lines_back zero rest = refl
lines_back (suc count) rest =
    let some : nat_lt 0 (length (10 ∷ (replicate count 10 ++ rest))) ≡ true = lt-ltb 0 (length (10 ∷ (replicate count 10 ++ rest))) (omega arith) in
    ap (λ b. behind_line (cond b (Some 0) None) (λ used. lines_length count (drop used (10 ∷ (replicate count 10 ++ rest))))) some
    ∙ ap (option_map (λ n. 0 + 1 + n)) (lines_back count rest) ∙ ap Some (let e : 0 + 1 + count ≡ suc count = omega arith in e)

-- ITEM BY ITEM

blanks_back : (count : ℕ) (text rest : List ℕ) → Some (replicate count 32) ≡ Some text → if_complete (field count (text ++ rest)) (λ t. Some []) ≡ Got (length text) []
blanks_back count text rest e =
    let is : replicate count 32 ≡ text = same_Some _ _ e in
    subst (λ t. if_complete (field count (t ++ rest)) (λ t. Some []) ≡ Got (length t) []) is
    (ap (λ o. if_complete o (λ t. Some [])) (field_of count (replicate count 32) rest (length-replicate {A = ℕ} count 32) (unbroken-blanks count)))

skip_back : (count : ℕ) (text rest : List ℕ) → Some (replicate count 10) ≡ Some text → if_skipped (lines_length count (text ++ rest)) ≡ Got (length text) []
skip_back count text rest e =
    let is : replicate count 10 ≡ text = same_Some _ _ e in
    subst (λ t. if_skipped (lines_length count (t ++ rest)) ≡ Got (length t) []) is
    (ap if_skipped (lines_back count rest) ∙ ap (λ n. Got n []) (sym (length-replicate {A = ℕ} count 10)))

item_back : (code : ItemCode) (width : ℕ) (values : List Cell) (text rest : List ℕ) → WritesAll code width → AllByRecursion IsValue values →
    own_text code width values ≡ Some text → scan_item code width (map kind_of values) (text ++ rest) ≡ Got (length text) (take (data_here code) values)
item_back X width values text rest whole are e = blanks_back (skip_count width) text rest e
item_back Skip width values text rest whole are e = skip_back (skip_count width) text rest e
item_back A width values text rest whole are e = absurd whole
item_back B1 width (Bits len value ∷ vs) text rest whole are e = bits_back B1 1 len value width vs text rest (omega arith) (omega arith) are.0 e
item_back B2 width (Bits len value ∷ vs) text rest whole are e = bits_back B2 2 len value width vs text rest (omega arith) (omega arith) are.0 e
item_back B3 width (Bits len value ∷ vs) text rest whole are e = bits_back B3 3 len value width vs text rest (omega arith) (omega arith) are.0 e
item_back B4 width (Bits len value ∷ vs) text rest whole are e = bits_back B4 4 len value width vs text rest (omega arith) (omega arith) are.0 e
item_back F width (Fixed len value ∷ vs) text rest whole are e = number_back len width value text rest are.0 e
item_back T width (Clock time ∷ vs) text rest whole are e = clock_back width time text rest whole are.0 e
item_back D width (Span value ∷ vs) text rest whole are e = span_back width value text rest are.0 e
item_back code width values text rest whole are e = absurd (none-some text e)

-- ITEMS

record Cut (a b : Option (List ℕ)) (text : List ℕ) : Type 0 where
  first : List ℕ
  later : List ℕ
  first_is : a ≡ Some first
  later_is : b ≡ Some later
  whole : text ≡ first ++ later

cut_text : (a b : Option (List ℕ)) (text : List ℕ) → joined_text a b ≡ Some text → Cut a b text
cut_text None b text e = absurd (none-some text e)
cut_text (Some x) None text e = absurd (none-some text e)
cut_text (Some x) (Some y) text e = record { first = x; later = y; first_is = refl; later_is = refl; whole = sym (same_Some _ _ e) }

drop-values : (n : ℕ) (values : List Cell) → AllByRecursion IsValue values → AllByRecursion IsValue (drop n values)
drop-values zero values are = are
drop-values (suc n) [] are = tt
drop-values (suc n) (value ∷ values) are = drop-values n values are.1

nothing_left : (values : List Cell) → Suits [] (map kind_of values) → values ≡ []
nothing_left [] suits = refl
nothing_left (value ∷ values) suits = absurd suits

pub reads_what_is_written : ReadsWhatIsWritten
unfolding scan
reads_what_is_written [] values text rest suits whole are e =
    let none : [] ≡ text = same_Some _ _ e in
    let left : values ≡ [] = nothing_left values suits in
    ap (λ t. Got (length t) []) none ∙ ap (Got (length text)) (sym left)
reads_what_is_written (item ∷ items) values text rest suits whole are e =
    let n = data_here item.code in
    let kinds = map kind_of values in
    let c = cut_text (own_text item.code item.width values) (text_of items (drop n values)) text e in
    let kinds-left : map kind_of (drop n values) ≡ drop n kinds = sym (drop-map kind_of n values) in
    let suits' : Suits items (map kind_of (drop n values)) =
    subst (λ ks. Suits items ks) (sym kinds-left) (rest_suits item.code item.width kinds (λ ks. Suits items ks) suits) in
    let others = reads_what_is_written items (drop n values) c.later rest suits' whole.1 (drop-values n values are) c.later_is in
    let bytes : text ++ rest ≡ c.first ++ (c.later ++ rest) = ap (λ t. t ++ rest) c.whole ∙ append_assoc c.first c.later rest in
    let here = item_back item.code item.width values c.first (c.later ++ rest) whole.0 are c.first_is in
    ap (scan (item ∷ items) kinds) bytes
    ∙ ap (λ s. followed_by s (λ used. scan items (drop n kinds) (drop used (c.first ++ (c.later ++ rest))))) here
    ∙ ap (λ bs. behind (length c.first) (take n values) (scan items (drop n kinds) bs)) (drop_at c.first (c.later ++ rest) (length c.first) refl)
    ∙ ap (λ ks. behind (length c.first) (take n values) (scan items ks (c.later ++ rest))) (sym kinds-left)
    ∙ ap (behind (length c.first) (take n values)) others
    ∙ ap (Got (length c.first + length c.later)) (take-append-drop n values)
    ∙ ap (λ k. Got k values) (sym (ap length c.whole ∙ length-append c.first c.later))
