-- Which bytes a text has.
use Rattle.std.proofs.Common.{◌≡◌, ℕ, zero, suc, ◌+◌, ◌-◌, ◌*◌, ◌/◌, ◌%◌, ◌^◌, ◌≤◌, ◌<◌, ℤ, pos, negsuc, Bool, true, false, cond, nat_le, nat_lt, nat_eq, List, [], ◌∷◌, ◌++◌, Option, Some, None, IfSome, All, codes, decimal, length, drop, take, replicate, refl, subst, inl, inr, arith}
use Rattle.std.specs.List.{AllByRecursion}
use Rattle.std.specs.Fmt.{digits, digits_onto, digit_glyph, signed_decimal}
use Rattle.std.proofs.lemmas.List.Elements.{All-nil, All-append, All-replicate, All-take, All-weaker, All-from_recursion}
use Rattle.pearl_value.specs.declared.cell.Cell.{Cell}
use Rattle.pearl_value.specs.declared.cell.Cell.TheVariants.{Fixed, Bits, Chars, Clock, Span, Ref}
use Rattle.pearl_value.specs.WellFormed.{IsLetter, IsValue}
use Rattle.pearl_format.specs.declared.item.ItemCode.{ItemCode}
use Rattle.pearl_format.specs.declared.item.ItemCode.TheVariants.{A, B1, B2, B3, B4, F, T, D, X, Skip}
use Rattle.pearl_format.specs.declared.item.Item.{Item}
use Rattle.pearl_format.specs.Bytes.{IsTextByte}
use Rattle.pearl_format.specs.Items.{skip_count, data_here}
use Rattle.pearl_format.specs.Fields.{width_or, right_field, left_field, bits_text, last_digits, digit_count, two_digits, three_digits, seconds_text, clock_text, hours_text, span_text}
use Rattle.pearl_format.specs.Parts.{own_text, letters_item, bits_item, number_item, clock_item, span_item}
use Rattle.pearl_format.specs.Texts.{joined_text, text_of}
use Rattle.pearl_format.proofs.Texts.{from_empty}

-- a text whose bytes are 10 or from 32 to 126
abbrev pub IsText : List ℕ → Type 0
IsText text = All IsTextByte text

text-append : (a b : List ℕ) → IsText a → IsText b → IsText (a ++ b)
text-append a b p q = All-append IsTextByte a b p q

blanks : (count : ℕ) → IsText (replicate count 32)
blanks count = All-replicate IsTextByte count 32 (inr (omega arith, omega arith))

-- decimal digits
glyph_text : (d : ℕ) → d < 10 → IsTextByte (digit_glyph false d)
glyph_text d small = by (nat_lt d 10)
  where
    by : (b : Bool) → IsTextByte (cond b (48 + d) (87 + d))
    by true = inr (omega arith, omega arith)
    by false = inr (omega arith, omega arith)

digits_onto_text : (k n : ℕ) (acc : List ℕ) → IsText acc → IsText (digits_onto k 10 false n acc)
digits_onto_text zero n acc h = h
digits_onto_text (suc k) n acc h =
    let more = text-append (digit_glyph false (n % 10) ∷ []) acc (All-replicate IsTextByte 1 _ (glyph_text (n % 10) (omega arith))) h in
    either (nat_eq (n / 10) 0) _ _ more (digits_onto_text k (n / 10) _ more)
  where
    either : (b : Bool) (xs ys : List ℕ) → IsText xs → IsText ys → IsText (cond b xs ys)
    either true xs ys p q = p
    either false xs ys p q = q

decimal_text : (n : ℕ) → IsText (decimal n)
unfolding digits
decimal_text n = digits_onto_text 64 n [] (All-nil IsTextByte)

minus : IsText (codes "-")
minus = All-from_recursion IsTextByte (codes "-") (inr (omega arith, omega arith), tt)

signed_decimal_text : (value : ℤ) → IsText (signed_decimal value)
signed_decimal_text (pos n) = decimal_text n
signed_decimal_text (negsuc n) = text-append (codes "-") (decimal (suc n)) minus (decimal_text (suc n))

two_text : (n : ℕ) → n < 100 → IsText (two_digits n)
two_text n small = All-from_recursion IsTextByte (two_digits n) (inr (omega arith, omega arith), (inr (omega arith, omega arith), tt))

three_text : (n : ℕ) → n < 1000 → IsText (three_digits n)
three_text n small = text-append ((48 + n / 100) ∷ []) (two_digits (n % 100)) (All-from_recursion IsTextByte ((48 + n / 100) ∷ []) (inr (omega arith, omega arith), tt)) (two_text (n % 100) (omega arith))

colon : IsText (codes ":")
colon = All-from_recursion IsTextByte (codes ":") (inr (omega arith, omega arith), tt)

point : IsText (codes ".")
point = All-from_recursion IsTextByte (codes ".") (inr (omega arith, omega arith), tt)

hrs : IsText (codes " HRS ")
hrs = All-from_recursion IsTextByte (codes " HRS ")
    (inr (omega arith, omega arith), (inr (omega arith, omega arith), (inr (omega arith, omega arith), (inr (omega arith, omega arith), (inr (omega arith, omega arith), tt)))))

min_word : IsText (codes " MIN ")
min_word = All-from_recursion IsTextByte (codes " MIN ")
    (inr (omega arith, omega arith), (inr (omega arith, omega arith), (inr (omega arith, omega arith), (inr (omega arith, omega arith), (inr (omega arith, omega arith), tt)))))

sec : IsText (codes " SEC")
sec = All-from_recursion IsTextByte (codes " SEC")
    (inr (omega arith, omega arith), (inr (omega arith, omega arith), (inr (omega arith, omega arith), (inr (omega arith, omega arith), tt))))

seconds_printable : (time : ℕ) → time < 86400000 → IsText (seconds_text time)
seconds_printable time small =
    let hours = two_digits (time / 3600000) in
    let minutes = two_digits (time / 60000 % 60) in
    let a = text-append hours (codes ":") (two_text (time / 3600000) (omega arith)) colon in
    let b = text-append (hours ++ codes ":") minutes a (two_text (time / 60000 % 60) (omega arith)) in
    let c = text-append (hours ++ codes ":" ++ minutes) (codes ":") b colon in
    text-append (hours ++ codes ":" ++ minutes ++ codes ":") (two_digits (time / 1000 % 60)) c (two_text (time / 1000 % 60) (omega arith))

clock_printable : (width time : ℕ) → time < 86400000 → IsText (clock_text width time)
clock_printable width time small = by (nat_le 12 width)
  where
    by : (b : Bool) → IsText (cond b (seconds_text time ++ codes "." ++ three_digits (time % 1000)) (seconds_text time))
    by true = text-append (seconds_text time ++ codes ".") (three_digits (time % 1000)) (text-append (seconds_text time) (codes ".") (seconds_printable time small) point) (three_text (time % 1000) (omega arith))
    by false = seconds_printable time small

hours_printable : (n : ℕ) → IsText (hours_text n)
hours_printable n =
    let hours = decimal (n / 3600000) ++ codes " HRS " in
    let minutes = hours ++ two_digits (n / 60000 % 60) in
    let seconds = minutes ++ codes " MIN " ++ two_digits (n / 1000 % 60) in
    let millis = seconds ++ codes "." ++ three_digits (n % 1000) in
    let a : IsText minutes = text-append hours (two_digits (n / 60000 % 60)) (text-append (decimal (n / 3600000)) (codes " HRS ") (decimal_text (n / 3600000)) hrs)
    (two_text (n / 60000 % 60) (omega arith)) in
    let b : IsText seconds = text-append (minutes ++ codes " MIN ") (two_digits (n / 1000 % 60)) (text-append minutes (codes " MIN ") a min_word) (two_text (n / 1000 % 60) (omega arith)) in
    let c : IsText millis = text-append (seconds ++ codes ".") (three_digits (n % 1000)) (text-append seconds (codes ".") b point) (three_text (n % 1000) (omega arith)) in
    text-append millis (codes " SEC") c sec

span_printable : (time : ℤ) → IsText (span_text time)
span_printable (pos n) = hours_printable n
span_printable (negsuc n) = text-append (codes "-") (hours_text (suc n)) minus (hours_printable (suc n))

-- digits of at most four bits
bit_glyph_text : (d : ℕ) → d < 16 → IsTextByte (digit_glyph true d)
bit_glyph_text d small = by (nat_lt d 10)
  where
    by : (b : Bool) → IsTextByte (cond b (48 + d) (55 + d))
    by true = inr (omega arith, omega arith)
    by false = inr (omega arith, omega arith)

bit_digit : (group value : ℕ) → group ≤ 4 → value % 2 ^ group < 16
bit_digit zero value few = omega arith
bit_digit (suc zero) value few = omega arith
bit_digit (suc (suc zero)) value few = omega arith
bit_digit (suc (suc (suc zero))) value few = omega arith
bit_digit (suc (suc (suc (suc zero)))) value few = omega arith
bit_digit (suc (suc (suc (suc (suc group))))) value few = absurd (omega (arith, few))

digits_printable : (group count value : ℕ) → group ≤ 4 → IsText (last_digits group count value)
digits_printable group zero value few = All-nil IsTextByte
digits_printable group (suc count) value few =
    text-append (digit_glyph true (value / 2 ^ (group * count) % 2 ^ group) ∷ []) (last_digits group count value)
    (All-replicate IsTextByte 1 _ (bit_glyph_text _ (bit_digit group (value / 2 ^ (group * count)) few))) (digits_printable group count value few)

right-printable : (width : ℕ) (text : List ℕ) → IsText text → IfSome (right_field width text) IsText
right-printable width text h = by (nat_le (length text) width)
  where
    by : (b : Bool) → IfSome (cond b (Some (replicate (width - length text) 32 ++ text)) None) IsText
    by true = text-append (replicate (width - length text) 32) text (blanks (width - length text)) h
    by false = tt

left-printable : (width : ℕ) (text : List ℕ) → IsText text → IfSome (left_field width text) IsText
left-printable width text h = by (nat_le (length text) width)
  where
    by : (b : Bool) → IfSome (cond b (Some (text ++ replicate (width - length text) 32)) None) IsText
    by true = text-append text (replicate (width - length text) 32) h (blanks (width - length text))
    by false = tt

letters-printable : (width : ℕ) (values : List Cell) → AllByRecursion IsValue values → IfSome (letters_item width values) IsText
letters-printable width [] are = tt
letters-printable width (Fixed len value ∷ values) are = tt
letters-printable width (Bits len value ∷ values) are = tt
letters-printable width (Chars text ∷ values) are =
    let own = width_or width (length text.items) in
    let plain : IsText text.items = All-weaker IsLetter IsTextByte (λ byte letter. inr letter) text.items are.0.1 in
    text-append (take own text.items) (replicate (own - length text.items) 32) (All-take IsTextByte own text.items plain) (blanks (own - length text.items))
letters-printable width (Clock time ∷ values) are = tt
letters-printable width (Span time ∷ values) are = tt
letters-printable width (Ref of place ∷ values) are = tt

bits-printable : (group width : ℕ) (values : List Cell) → group ≤ 4 → IfSome (bits_item group width values) IsText
bits-printable group width [] few = tt
bits-printable group width (Fixed len value ∷ values) few = tt
bits-printable group width (Bits len value ∷ values) few =
    left-printable (width_or width (length (bits_text group len value))) (bits_text group len value) (digits_printable group (digit_count group len) _ few)
bits-printable group width (Chars text ∷ values) few = tt
bits-printable group width (Clock time ∷ values) few = tt
bits-printable group width (Span time ∷ values) few = tt
bits-printable group width (Ref of place ∷ values) few = tt

number-printable : (width : ℕ) (values : List Cell) → IfSome (number_item width values) IsText
number-printable width [] = tt
number-printable width (Fixed len value ∷ values) = right-printable width (signed_decimal value) (signed_decimal_text value)
number-printable width (Bits len value ∷ values) = tt
number-printable width (Chars text ∷ values) = tt
number-printable width (Clock time ∷ values) = tt
number-printable width (Span time ∷ values) = tt
number-printable width (Ref of place ∷ values) = tt

clock-printable : (width : ℕ) (values : List Cell) → AllByRecursion IsValue values → IfSome (clock_item width values) IsText
clock-printable width [] are = tt
clock-printable width (Fixed len value ∷ values) are = tt
clock-printable width (Bits len value ∷ values) are = tt
clock-printable width (Chars text ∷ values) are = tt
clock-printable width (Clock time ∷ values) are = right-printable width (clock_text width time) (clock_printable width time are.0)
clock-printable width (Span time ∷ values) are = tt
clock-printable width (Ref of place ∷ values) are = tt

span-printable : (width : ℕ) (values : List Cell) → IfSome (span_item width values) IsText
span-printable width [] = tt
span-printable width (Fixed len value ∷ values) = tt
span-printable width (Bits len value ∷ values) = tt
span-printable width (Chars text ∷ values) = tt
span-printable width (Clock time ∷ values) = tt
span-printable width (Span time ∷ values) = right-printable width (span_text time) (span_printable time)
span-printable width (Ref of place ∷ values) = tt

own_text-printable : (code : ItemCode) (width : ℕ) (values : List Cell) → AllByRecursion IsValue values → IfSome (own_text code width values) IsText
own_text-printable A width values are = letters-printable width values are
own_text-printable B1 width values are = bits-printable 1 width values (omega arith)
own_text-printable B2 width values are = bits-printable 2 width values (omega arith)
own_text-printable B3 width values are = bits-printable 3 width values (omega arith)
own_text-printable B4 width values are = bits-printable 4 width values (omega arith)
own_text-printable F width values are = number-printable width values
own_text-printable T width values are = clock-printable width values are
own_text-printable D width values are = span-printable width values
own_text-printable X width values are = blanks (skip_count width)
own_text-printable Skip width values are = All-replicate IsTextByte (skip_count width) 10 (inl refl)

joined-printable : (a b : Option (List ℕ)) → IfSome a IsText → IfSome b IsText → IfSome (joined_text a b) IsText
joined-printable None b p q = tt
joined-printable (Some a) None p q = tt
joined-printable (Some a) (Some b) p q = text-append a b p q

left_values : (n : ℕ) (values : List Cell) → AllByRecursion IsValue values → AllByRecursion IsValue (drop n values)
left_values zero values are = are
left_values (suc n) [] are = tt
left_values (suc n) (value ∷ values) are = left_values n values are.1

-- the text of values has bytes of texts alone
text_of-printable : (items : List Item) (values : List Cell) → AllByRecursion IsValue values → IfSome (text_of items values) IsText
text_of-printable [] values are = All-nil IsTextByte
text_of-printable (item ∷ items) values are =
    joined-printable (own_text item.code item.width values) (text_of items (drop (data_here item.code) values))
    (own_text-printable item.code item.width values are) (text_of-printable items (drop (data_here item.code) values) (left_values (data_here item.code) values are))

-- the same of a text that began empty
pub put_text-printable : (items : List Item) (values : List Cell) (before text : List ℕ) → before ≡ [] →
    joined_text (Some before) (text_of items values) ≡ Some text → AllByRecursion IsValue values → All IsTextByte text
put_text-printable items values before text empty e are =
    let P : Option (List ℕ) → Type 0 = λ o. IfSome o IsText in
    subst P (from_empty items values before text empty e) (text_of-printable items values are)
