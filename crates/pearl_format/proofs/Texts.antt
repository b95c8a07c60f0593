-- How long the text of an item is, and the text of all items.
use Rattle.std.proofs.Common.{◌≡◌, ℕ, ◌+◌, ◌-◌, ◌≤◌, Bool, true, false, cond, nat_le, List, [], ◌∷◌, ◌++◌, Option, Some, None, IfSome, length, drop, take, map, replicate, refl, sym, ap, ◌∙◌, subst, arith, append_assoc, length-append}
use Rattle.std.specs.List.{drop-map}
use Rattle.std.proofs.lemmas.List.{length-replicate, length-take}
use Rattle.std.proofs.lemmas.Bool.Decides.{nat_tests}
use Rattle.std.specs.Fmt.{signed_decimal}
use Rattle.pearl_value.specs.declared.cell.Cell.{Cell}
use Rattle.pearl_value.specs.declared.cell.Cell.TheVariants.{Fixed, Bits, Chars, Clock, Span, Ref}
use Rattle.pearl_value.specs.Cells.{kind_of}
use Rattle.pearl_format.specs.declared.item.ItemCode.{ItemCode}
use Rattle.pearl_format.specs.declared.item.ItemCode.TheVariants.{A, B1, B2, B3, B4, F, T, D, X, Skip}
use Rattle.pearl_format.specs.declared.item.Item.{Item}
use Rattle.pearl_format.specs.Items.{skip_count, data_here, letters_width, bits_width, width_over, text_width}
use Rattle.pearl_format.specs.Fields.{width_or, right_field, left_field, cut_field, bits_text, digit_count, clock_text, span_text}
use Rattle.pearl_format.specs.Parts.{own_text, letters_item, bits_item, number_item, clock_item, span_item}
use Rattle.pearl_format.specs.Texts.{joined_text, text_of}
use Rattle.pearl_format.proofs.Digits.{length-last_digits}

pub joined_text-assoc : (a b c : Option (List ℕ)) → joined_text a (joined_text b c) ≡ joined_text (joined_text a b) c
joined_text-assoc None b c = refl
joined_text-assoc (Some a) None c = refl
joined_text-assoc (Some a) (Some b) None = refl
joined_text-assoc (Some a) (Some b) (Some c) = ap Some (sym (append_assoc a b c))

pub joined_text-nil : (a : Option (List ℕ)) → joined_text (Some []) a ≡ a
joined_text-nil None = refl
joined_text-nil (Some a) = refl

-- a text that is at most so long
abbrev pub IsWithin : ℕ → List ℕ → Type 0
IsWithin width text = length text ≤ width

within-joined : (m n : ℕ) (a b : Option (List ℕ)) → IfSome a (IsWithin m) → IfSome b (IsWithin n) → IfSome (joined_text a b) (IsWithin (m + n))
within-joined m n None b p q = tt
within-joined m n (Some a) None p q = tt
within-joined m n (Some a) (Some b) p q = let long : length (a ++ b) ≡ length a + length b = length-append a b in omega (arith, long, p, q)

within-copies : (count byte : ℕ) → length (replicate count byte) ≤ count
within-copies count byte = omega (arith, length-replicate {A = ℕ} count byte)

within-right : (width : ℕ) (text : List ℕ) → IfSome (right_field width text) (IsWithin width)
within-right width text = by (nat_le (length text) width) (grind (arith, nat_tests))
  where
    by : (b : Bool) → (b ≡ true → length text ≤ width) → IfSome (cond b (Some (replicate (width - length text) 32 ++ text)) None) (IsWithin width)
    by true le = omega (arith, le refl, length-append (replicate (width - length text) 32) text, length-replicate {A = ℕ} (width - length text) 32)
    by false le = tt

within-left : (width : ℕ) (text : List ℕ) → IfSome (left_field width text) (IsWithin width)
within-left width text = by (nat_le (length text) width) (grind (arith, nat_tests))
  where
    by : (b : Bool) → (b ≡ true → length text ≤ width) → IfSome (cond b (Some (text ++ replicate (width - length text) 32)) None) (IsWithin width)
    by true le = omega (arith, le refl, length-append text (replicate (width - length text) 32), length-replicate {A = ℕ} (width - length text) 32)
    by false le = tt

within-cut : (width : ℕ) (text : List ℕ) → length (cut_field width text) ≤ width
within-cut width text =
    omega (arith, length-append (take width text) (replicate (width - length text) 32), length-take width text, length-replicate {A = ℕ} (width - length text) 32)

-- A
letters-within : (width : ℕ) (values : List Cell) → IfSome (letters_item width values) (IsWithin (letters_width width (map kind_of values)))
letters-within width [] = tt
letters-within width (Fixed len value ∷ values) = tt
letters-within width (Bits len value ∷ values) = tt
letters-within width (Chars text ∷ values) = within-cut (width_or width (length text.items)) text.items
letters-within width (Clock time ∷ values) = tt
letters-within width (Span time ∷ values) = tt
letters-within width (Ref of place ∷ values) = tt

-- B1 to B4
bits-within : (group width : ℕ) (values : List Cell) → IfSome (bits_item group width values) (IsWithin (bits_width group width (map kind_of values)))
bits-within group width [] = tt
bits-within group width (Fixed len value ∷ values) = tt
bits-within group width (Bits len value ∷ values) =
    subst (λ own. IfSome (bits_item group width (Bits len value ∷ values)) (IsWithin (width_or width own)))
    (length-last_digits group (digit_count group len) _)
    (within-left (width_or width (length (bits_text group len value))) (bits_text group len value))
bits-within group width (Chars text ∷ values) = tt
bits-within group width (Clock time ∷ values) = tt
bits-within group width (Span time ∷ values) = tt
bits-within group width (Ref of place ∷ values) = tt

-- F
number-within : (width : ℕ) (values : List Cell) → IfSome (number_item width values) (IsWithin width)
number-within width [] = tt
number-within width (Fixed len value ∷ values) = within-right width (signed_decimal value)
number-within width (Bits len value ∷ values) = tt
number-within width (Chars text ∷ values) = tt
number-within width (Clock time ∷ values) = tt
number-within width (Span time ∷ values) = tt
number-within width (Ref of place ∷ values) = tt

-- T
clock-within : (width : ℕ) (values : List Cell) → IfSome (clock_item width values) (IsWithin width)
clock-within width [] = tt
clock-within width (Fixed len value ∷ values) = tt
clock-within width (Bits len value ∷ values) = tt
clock-within width (Chars text ∷ values) = tt
clock-within width (Clock time ∷ values) = within-right width (clock_text width time)
clock-within width (Span time ∷ values) = tt
clock-within width (Ref of place ∷ values) = tt

-- D
span-within : (width : ℕ) (values : List Cell) → IfSome (span_item width values) (IsWithin width)
span-within width [] = tt
span-within width (Fixed len value ∷ values) = tt
span-within width (Bits len value ∷ values) = tt
span-within width (Chars text ∷ values) = tt
span-within width (Clock time ∷ values) = tt
span-within width (Span time ∷ values) = within-right width (span_text time)
span-within width (Ref of place ∷ values) = tt

-- one item's text has at most its width
pub own_text-within : (code : ItemCode) (width : ℕ) (values : List Cell) → IfSome (own_text code width values) (IsWithin (width_over code width (map kind_of values)))
own_text-within A width values = letters-within width values
own_text-within B1 width values = bits-within 1 width values
own_text-within B2 width values = bits-within 2 width values
own_text-within B3 width values = bits-within 3 width values
own_text-within B4 width values = bits-within 4 width values
own_text-within F width values = number-within width values
own_text-within T width values = clock-within width values
own_text-within D width values = span-within width values
own_text-within X width values = within-copies (skip_count width) 32
own_text-within Skip width values = within-copies (skip_count width) 10

-- the text of all items has at most the sum of their widths
pub text_of-within : (items : List Item) (values : List Cell) → IfSome (text_of items values) (IsWithin (text_width items (map kind_of values)))
text_of-within [] values = omega arith
text_of-within (item ∷ items) values =
    let rest = text_of-within items (drop (data_here item.code) values) in
    let same : map kind_of (drop (data_here item.code) values) ≡ drop (data_here item.code) (map kind_of values) = sym (drop-map kind_of (data_here item.code) values) in
    within-joined (width_over item.code item.width (map kind_of values)) _ (own_text item.code item.width values) (text_of items (drop (data_here item.code) values))
    (own_text-within item.code item.width values)
    (subst (λ kinds. IfSome (text_of items (drop (data_here item.code) values)) (IsWithin (text_width items kinds))) same rest)

some-within : (width : ℕ) (o : Option (List ℕ)) (text : List ℕ) → IfSome o (IsWithin width) → o ≡ Some text → length text ≤ width
some-within width o text h e = let P : Option (List ℕ) → Type 0 = λ o. IfSome o (IsWithin width) in subst P e h

pub own_text-is_within : (code : ItemCode) (width : ℕ) (values : List Cell) (text : List ℕ) → own_text code width values ≡ Some text → length text ≤ width_over code width (map kind_of values)
own_text-is_within code width values text e = some-within (width_over code width (map kind_of values)) (own_text code width values) text (own_text-within code width values) e

-- a text that began empty
pub from_empty : (items : List Item) (values : List Cell) (before text : List ℕ) → before ≡ [] →
    joined_text (Some before) (text_of items values) ≡ Some text → text_of items values ≡ Some text
from_empty items values before text empty e =
    sym (joined_text-nil (text_of items values)) ∙ ap (λ (front : List ℕ). joined_text (Some front) (text_of items values)) (sym empty) ∙ e

-- the same is within the sum of the widths
pub put_text-is_within : (items : List Item) (values : List Cell) (before text : List ℕ) → before ≡ [] →
    joined_text (Some before) (text_of items values) ≡ Some text → length text ≤ text_width items (map kind_of values)
put_text-is_within items values before text empty e =
    some-within (text_width items (map kind_of values)) (text_of items values) text (text_of-within items values) (from_empty items values before text empty e)
