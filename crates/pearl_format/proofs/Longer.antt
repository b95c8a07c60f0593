-- That an item has no text exactly where its value's text is longer than its width.
use Rattle.std.proofs.Common.{◌≡◌, ℕ, zero, suc, ◌-◌, ◌%◌, ◌≤◌, ◌<◌, ◌⊎◌, inl, inr, Bool, true, false, cond, nat_le, List, [], ◌∷◌, ◌++◌, Option, Some, None, length, drop, map, replicate, codes, refl, sym, ◌∙◌, subst, arith}
use Rattle.std.specs.List.{AllByRecursion, drop-map}
use Rattle.std.specs.Fmt.{signed_decimal}
use Rattle.std.proofs.lemmas.Bool.Decides.{nat_tests}
use Rattle.pearl_value.specs.declared.cell.Cell.{Cell}
use Rattle.pearl_value.specs.declared.cell.Cell.TheVariants.{Fixed, Bits, Chars, Clock, Span, Ref}
use Rattle.pearl_value.specs.declared.kind.Kind.{Kind}
use Rattle.pearl_value.specs.Cells.{kind_of}
use Rattle.pearl_value.specs.WellFormed.{IsValue}
use Rattle.pearl_format.specs.declared.item.ItemCode.{ItemCode}
use Rattle.pearl_format.specs.declared.item.ItemCode.TheVariants.{A, B1, B2, B3, B4, F, T, D, X, Skip}
use Rattle.pearl_format.specs.declared.item.Item.{Item}
use Rattle.pearl_format.specs.Items.{data_here, TakesKind, SuitsItem, Suits}
use Rattle.pearl_format.specs.Fields.{width_or, right_field, left_field, bits_text, digit_count, three_digits, seconds_text, clock_text, span_text}
use Rattle.pearl_format.specs.Parts.{own_text}
use Rattle.pearl_format.specs.Texts.{joined_text, text_of}
use Rattle.pearl_format.specs.Longer.{IsLonger, IsFirstLonger, IsSomeLonger}
use Rattle.pearl_format.proofs.Digits.{length-last_digits}

abbrev HasText : Option (List ℕ) → Type 0
HasText None = ⊥
HasText (Some text) = Unit {0}

-- either there is a text and the cause for none doesn't hold, or there is none and the cause holds
abbrev Settled : Option (List ℕ) → Type 0 → Type 0
Settled text cause = (HasText text × (cause → ⊥)) ⊎ ((text ≡ None) × cause)

settled_joined : (a b : Option (List ℕ)) (p q : Type 0) → Settled a p → Settled b q → Settled (joined_text a b) (p ⊎ q)
settled_joined None b p q (inl h) later = absurd h.0
settled_joined None b p q (inr h) later = inr (refl, inl h.1)
settled_joined (Some a) None p q (inl h) (inl k) = absurd k.0
settled_joined (Some a) None p q (inl h) (inr k) = inr (refl, inr k.1)
settled_joined (Some a) (Some b) p q (inl h) (inl k) = inl (tt, λ cause. elim cause [ inl x ↦ h.1 x | inr y ↦ k.1 y ])
settled_joined (Some a) (Some b) p q (inl h) (inr k) = cc
settled_joined (Some a) b p q (inr h) later = cc

settled_right : (width : ℕ) (text : List ℕ) → Settled (right_field width text) (width < length text)
settled_right width text = by (nat_le (length text) width) (grind (arith, nat_tests)) (grind (arith, nat_tests))
  where
    by : (b : Bool) → (b ≡ true → length text ≤ width) → (b ≡ false → width < length text) →
        Settled (cond b (Some (replicate (width - length text) 32 ++ text)) None) (width < length text)
    by true le lt = inl (tt, λ far. absurd (omega (arith, far, le refl)))
    by false le lt = inr (refl, lt refl)

settled_left : (width : ℕ) (text : List ℕ) → Settled (left_field width text) (width < length text)
settled_left width text = by (nat_le (length text) width) (grind (arith, nat_tests)) (grind (arith, nat_tests))
  where
    by : (b : Bool) → (b ≡ true → length text ≤ width) → (b ≡ false → width < length text) →
        Settled (cond b (Some (text ++ replicate (width - length text) 32)) None) (width < length text)
    by true le lt = inl (tt, λ far. absurd (omega (arith, far, le refl)))
    by false le lt = inr (refl, lt refl)

-- B: with a width, its digits may be more than that
settled_bits : (group width len value : ℕ) →
    Settled (left_field (width_or width (length (bits_text group len value))) (bits_text group len value)) ((0 < width) × (width < digit_count group len))
settled_bits group zero len value =
    let text = bits_text group len value in
    elim (settled_left (length text) text) [
      | inl h ↦ inl (h.0, λ far. absurd (omega (arith, far.0)))
      | inr h ↦ absurd (omega (arith, h.1))
    ]
settled_bits group (suc width) len value =
    let text = bits_text group len value in
    let long : length text ≡ digit_count group len = length-last_digits group (digit_count group len) _ in
    elim (settled_left (suc width) text) [
      | inl h ↦ inl (h.0, λ far. h.1 (omega (arith, long, far.1)))
      | inr h ↦ inr (h.0, (omega arith, omega (arith, long, h.1)))
    ]

-- T: its text is never longer than its width
clock_length : (width time : ℕ) → 8 ≤ width → length (clock_text width time) ≤ width
clock_length width time wide = by (nat_le 12 width) (grind (arith, nat_tests))
  where
    by : (b : Bool) → (b ≡ true → 12 ≤ width) → length (cond b (seconds_text time ++ codes "." ++ three_digits (time % 1000)) (seconds_text time)) ≤ width
    by true le = le refl
    by false le = wide

settled_clock : (width time : ℕ) → 8 ≤ width → Settled (right_field width (clock_text width time)) ⊥
settled_clock width time wide =
    elim (settled_right width (clock_text width time)) [
      | inl h ↦ inl (h.0, λ never. never)
      | inr h ↦ absurd (omega (arith, h.1, clock_length width time wide))
    ]

settled_value : (code : ItemCode) (width : ℕ) (value : Cell) (values : List Cell) → TakesKind code width (kind_of value) → IsValue value → data_here code ≡ 1 →
    Settled (own_text code width (value ∷ values)) (IsLonger code width value)
settled_value A width (Fixed len value) values takes are taken = absurd takes
settled_value A width (Bits len value) values takes are taken = absurd takes
settled_value A width (Chars text) values takes are taken = inl (tt, λ never. never)
settled_value A width (Clock time) values takes are taken = absurd takes
settled_value A width (Span time) values takes are taken = absurd takes
settled_value A width (Ref of place) values takes are taken = absurd are
settled_value B1 width (Fixed len value) values takes are taken = absurd takes
settled_value B1 width (Bits len value) values takes are taken = settled_bits 1 width len value
settled_value B1 width (Chars text) values takes are taken = absurd takes
settled_value B1 width (Clock time) values takes are taken = absurd takes
settled_value B1 width (Span time) values takes are taken = absurd takes
settled_value B1 width (Ref of place) values takes are taken = absurd are
settled_value B2 width (Fixed len value) values takes are taken = absurd takes
settled_value B2 width (Bits len value) values takes are taken = settled_bits 2 width len value
settled_value B2 width (Chars text) values takes are taken = absurd takes
settled_value B2 width (Clock time) values takes are taken = absurd takes
settled_value B2 width (Span time) values takes are taken = absurd takes
settled_value B2 width (Ref of place) values takes are taken = absurd are
settled_value B3 width (Fixed len value) values takes are taken = absurd takes
settled_value B3 width (Bits len value) values takes are taken = settled_bits 3 width len value
settled_value B3 width (Chars text) values takes are taken = absurd takes
settled_value B3 width (Clock time) values takes are taken = absurd takes
settled_value B3 width (Span time) values takes are taken = absurd takes
settled_value B3 width (Ref of place) values takes are taken = absurd are
settled_value B4 width (Fixed len value) values takes are taken = absurd takes
settled_value B4 width (Bits len value) values takes are taken = settled_bits 4 width len value
settled_value B4 width (Chars text) values takes are taken = absurd takes
settled_value B4 width (Clock time) values takes are taken = absurd takes
settled_value B4 width (Span time) values takes are taken = absurd takes
settled_value B4 width (Ref of place) values takes are taken = absurd are
settled_value F width (Fixed len value) values takes are taken = settled_right width (signed_decimal value)
settled_value F width (Bits len value) values takes are taken = absurd takes
settled_value F width (Chars text) values takes are taken = absurd takes
settled_value F width (Clock time) values takes are taken = absurd takes
settled_value F width (Span time) values takes are taken = absurd takes
settled_value F width (Ref of place) values takes are taken = absurd are
settled_value T width (Fixed len value) values takes are taken = absurd takes
settled_value T width (Bits len value) values takes are taken = absurd takes
settled_value T width (Chars text) values takes are taken = absurd takes
settled_value T width (Clock time) values takes are taken = settled_clock width time takes
settled_value T width (Span time) values takes are taken = absurd takes
settled_value T width (Ref of place) values takes are taken = absurd are
settled_value D width (Fixed len value) values takes are taken = absurd takes
settled_value D width (Bits len value) values takes are taken = absurd takes
settled_value D width (Chars text) values takes are taken = absurd takes
settled_value D width (Clock time) values takes are taken = absurd takes
settled_value D width (Span time) values takes are taken = settled_right width (span_text time)
settled_value D width (Ref of place) values takes are taken = absurd are
settled_value X width value values takes are taken = cc
settled_value Skip width value values takes are taken = cc

-- an item over the values that are left
settled_data : (code : ItemCode) (width : ℕ) (values : List Cell) (rest : List Kind → Type 0) → SuitsItem code width (map kind_of values) rest → AllByRecursion IsValue values →
    Settled (own_text code width values) (IsFirstLonger code width values) × rest (drop (data_here code) (map kind_of values))
settled_data A width [] rest suits are = absurd suits
settled_data A width (value ∷ values) rest suits are = (settled_value A width value values suits.0 are.0 refl, suits.1)
settled_data B1 width [] rest suits are = absurd suits
settled_data B1 width (value ∷ values) rest suits are = (settled_value B1 width value values suits.0 are.0 refl, suits.1)
settled_data B2 width [] rest suits are = absurd suits
settled_data B2 width (value ∷ values) rest suits are = (settled_value B2 width value values suits.0 are.0 refl, suits.1)
settled_data B3 width [] rest suits are = absurd suits
settled_data B3 width (value ∷ values) rest suits are = (settled_value B3 width value values suits.0 are.0 refl, suits.1)
settled_data B4 width [] rest suits are = absurd suits
settled_data B4 width (value ∷ values) rest suits are = (settled_value B4 width value values suits.0 are.0 refl, suits.1)
settled_data F width [] rest suits are = absurd suits
settled_data F width (value ∷ values) rest suits are = (settled_value F width value values suits.0 are.0 refl, suits.1)
settled_data T width [] rest suits are = absurd suits
settled_data T width (value ∷ values) rest suits are = (settled_value T width value values suits.0 are.0 refl, suits.1)
settled_data D width [] rest suits are = absurd suits
settled_data D width (value ∷ values) rest suits are = (settled_value D width value values suits.0 are.0 refl, suits.1)
settled_data X width values rest suits are = (inl (tt, λ never. never), suits)
settled_data Skip width values rest suits are = (inl (tt, λ never. never), suits)

left_values : (n : ℕ) (values : List Cell) → AllByRecursion IsValue values → AllByRecursion IsValue (drop n values)
left_values zero values are = are
left_values (suc n) [] are = tt
left_values (suc n) (value ∷ values) are = left_values n values are.1

pub settled : (items : List Item) (values : List Cell) → Suits items (map kind_of values) → AllByRecursion IsValue values →
    Settled (text_of items values) (IsSomeLonger items values)
settled [] values suits are = inl (tt, λ never. never)
settled (item ∷ items) values suits are =
    let here = settled_data item.code item.width values (λ rest. Suits items rest) suits are in
    let suit : Suits items (map kind_of (drop (data_here item.code) values)) = subst (Suits items) (drop-map kind_of (data_here item.code) values) here.1 in
    settled_joined _ _ _ _ here.0 (settled items (drop (data_here item.code) values) suit (left_values (data_here item.code) values are))

-- so there is a text exactly where no item's text is too long
pub not_longer : (items : List Item) (values : List Cell) (text : List ℕ) → Suits items (map kind_of values) → AllByRecursion IsValue values →
    text_of items values ≡ Some text → IsSomeLonger items values → ⊥
not_longer items values text suits are e far =
    elim (settled items values suits are) [
      | inl h ↦ h.1 far
      | inr h ↦ (let none : Some text ≡ None = sym e ∙ h.0 in cc)
    ]

pub longer : (items : List Item) (values : List Cell) → Suits items (map kind_of values) → AllByRecursion IsValue values →
    text_of items values ≡ None → IsSomeLonger items values
longer items values suits are e =
    elim (settled items values suits are) [
      | inl h ↦ absurd (subst (λ text. HasText text) e h.0)
      | inr h ↦ h.1
    ]
