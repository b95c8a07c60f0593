-- Which kinds a constant fits: it fits all slots where it fits the least lengths among them.
use Rattle.std.proofs.Common.{◌≡◌, ℕ, zero, suc, ◌+◌, ◌-◌, ◌<◌, ◌≤◌, ◌^◌, ⊎_elim, min, pos, negsuc, neg_ℤ, int_le, Bool, true, false, cond, ◌&&◌, ◌||◌, not, nat_le, nat_lt, List, [], ◌∷◌, length, Option, Some, None, refl, sym, ap, ◌∙◌, arith}
use Rattle.std.proofs.Math.Nat.{pow-le-pow_right}
use Rattle.std.proofs.lemmas.Nat.{pow_pos}
use Rattle.std.proofs.lemmas.Bool.{cases_lt, le-leb, leb-true, lt-ltb, le-ltb, ltb-true}
use Rattle.std.proofs.lemmas.Bool.Decides.{nat_tests}
use Rattle.std.specs.List.{list_all}
use Rattle.pearl_value.specs.declared.kind.Kind.{Kind}
use Rattle.pearl_value.specs.declared.kind.Kind.TheVariants as kind
use Rattle.pearl_value.specs.Conversions.{fits_fixed}
use Rattle.pearl_tree.specs.declared.literal.Sign.{Sign}
use Rattle.pearl_tree.specs.declared.literal.Sign.TheVariants.{Plus, Minus}
use Rattle.pearl_tree.specs.declared.typing.Sort.{Sort}
use Rattle.pearl_tree.specs.declared.typing.Sort.TheVariants.{Fixed, Bit, Char}
use Rattle.pearl_tree.specs.ShownLiterals.{ShownLiteral, OfNumber, OfBits, OfText, OfClock, OfDuration, ShownConst}
use Rattle.pearl_names.specs.declared.kinds.Kinds.{Kinds}
use Rattle.pearl_scope.specs.Constants.{signed, fits_kind}
use Rattle.pearl_scope.specs.Filling.{end_of_fixed, fits_length, fits_if}
use Rattle.pearl_names.specs.Durations.{is_too_long}
use Rattle.pearl_names.specs.Lengths.{kind_of_length}
use Rattle.pearl_names.specs.Kinds.{least, one_kind, joined_kinds, kinds_among}

-- the range of FIXED by natural numbers
abbrev fits_plain : ℕ → Option Sign → ℕ → Bool
fits_plain len (Some Minus) value = nat_le value (2 ^ len)
fits_plain len sign value = nat_lt value (2 ^ len)

power : (len : ℕ) → 2 ^ len - 1 + 1 ≡ 2 ^ len
power len = let h : zero < 2 ^ len = pow_pos len in omega (arith, h)

least_fits : (n value : ℕ) → (int_le (negsuc n) (neg_ℤ (pos value)) && int_le (neg_ℤ (pos value)) (pos n)) ≡ nat_le value (n + 1)
least_fits n zero = grind (arith, nat_tests)
least_fits n (suc value) = grind (arith, nat_tests)

greatest_fits : (n value : ℕ) → (int_le (negsuc n) (pos value) && int_le (pos value) (pos n)) ≡ nat_lt value (n + 1)
greatest_fits n value = grind (arith, nat_tests)

pub plain_fits : (len : ℕ) (sign : Option Sign) (value : ℕ) → fits_fixed len (signed sign value) ≡ fits_plain len sign value
plain_fits len (Some Minus) value = least_fits (2 ^ len - 1) value ∙ ap (nat_le value) (power len)
plain_fits len (Some Plus) value = greatest_fits (2 ^ len - 1) value ∙ ap (nat_lt value) (power len)
plain_fits len None value = greatest_fits (2 ^ len - 1) value ∙ ap (nat_lt value) (power len)

-- numbers of 64 bits are below the end of all longer lengths
beyond : (len value : ℕ) → value < 2 ^ 64 → 64 ≤ len → value < 2 ^ len
beyond len value h k = let two : zero < 2 = omega arith in let more : 2 ^ 64 ≤ 2 ^ len = pow-le-pow_right two k in omega (arith, h, more)

pub end_le : (len value : ℕ) → value < 2 ^ 64 → nat_le value (end_of_fixed len) ≡ nat_le value (2 ^ len)
end_le len value h = ⊎_elim (λ k. ap (λ b. nat_le value (cond b (2 ^ len) (2 ^ 64))) (lt-ltb len 64 k)) (λ k. past k) (cases_lt len 64)
  where
    past : 64 ≤ len → nat_le value (end_of_fixed len) ≡ nat_le value (2 ^ len)
    past k =
        ap (λ b. nat_le value (cond b (2 ^ len) (2 ^ 64))) (le-ltb len 64 k)
        ∙ le-leb value (2 ^ 64) (omega (arith, h))
        ∙ sym (le-leb value (2 ^ len) (let m : _ = beyond len value h k in omega (arith, m)))

pub end_lt : (len value : ℕ) → value < 2 ^ 64 → nat_lt value (end_of_fixed len) ≡ nat_lt value (2 ^ len)
end_lt len value h = ⊎_elim (λ k. ap (λ b. nat_lt value (cond b (2 ^ len) (2 ^ 64))) (lt-ltb len 64 k)) (λ k. past k) (cases_lt len 64)
  where
    past : 64 ≤ len → nat_lt value (end_of_fixed len) ≡ nat_lt value (2 ^ len)
    past k =
        ap (λ b. nat_lt value (cond b (2 ^ len) (2 ^ 64))) (le-ltb len 64 k)
        ∙ lt-ltb value (2 ^ 64) h
        ∙ sym (lt-ltb value (2 ^ len) (beyond len value h k))

-- what holds of a length holds of greater ones
Rises : (ℕ → Bool) → Type 0
Rises p = (a b : ℕ) → a ≤ b → p a ≡ true → p b ≡ true

both_rise : (p : ℕ → Bool) → Rises p → (a b : ℕ) → p (min a b) ≡ (p a && p b)
unfolding Rises
both_rise p rises a b = ⊎_elim (λ h. below h) (λ h. above h) (cases_lt a b)
  where
    both : (x y : Bool) → (x ≡ true → y ≡ true) → x ≡ (x && y)
    both true y h = sym (h refl)
    both false y h = refl

    and_swap : (x y : Bool) → (x && y) ≡ (y && x)
    and_swap true true = refl
    and_swap true false = refl
    and_swap false true = refl
    and_swap false false = refl

    below : a < b → p (min a b) ≡ (p a && p b)
    below h = let e : min a b ≡ a = omega (arith, h) in ap p e ∙ both (p a) (p b) (rises a b (omega (arith, h)))

    above : b ≤ a → p (min a b) ≡ (p a && p b)
    above h = let e : min a b ≡ b = omega (arith, h) in ap p e ∙ both (p b) (p a) (rises b a h) ∙ and_swap (p b) (p a)

le_rises : (n : ℕ) → Rises (λ len. nat_le n len)
unfolding Rises
le_rises n a b h k = let l : n ≤ a = grind (arith, nat_tests, k) in le-leb n b (omega (arith, l, h))

same_rises : (x : Bool) → Rises (λ len. x)
unfolding Rises
same_rises x a b h k = k

fixed_rises : (sign : Option Sign) (value : ℕ) → Rises (λ len. fits_fixed len (signed sign value))
unfolding Rises
fixed_rises sign value a b h k = plain_fits b sign value ∙ by sign (sym (plain_fits a sign value) ∙ k)
  where
    more : 2 ^ a ≤ 2 ^ b
    more = let two : zero < 2 = omega arith in pow-le-pow_right two h

    below : nat_lt value (2 ^ a) ≡ true → nat_lt value (2 ^ b) ≡ true
    below less = let l : value < 2 ^ a = ltb-true value (2 ^ a) less in lt-ltb value (2 ^ b) (omega (arith, l, more))

    by : (s : Option Sign) → fits_plain a s value ≡ true → fits_plain b s value ≡ true
    by (Some Minus) less = let l : value ≤ 2 ^ a = leb-true value (2 ^ a) less in le-leb value (2 ^ b) (omega (arith, l, more))
    by (Some Plus) less = below less
    by None less = below less

-- so a constant fits a length where it fits a smaller one
fixed_length_rises : (sign : Option Sign) (literal : ShownLiteral) (place : ℕ) → Rises (λ len. fits_kind (record { sign = sign; literal = literal; place = place }) (kind.Fixed len))
fixed_length_rises sign (OfNumber number) place = fixed_rises sign number.value
fixed_length_rises sign (OfBits len value at) place = same_rises false
fixed_length_rises sign (OfText text at) place = same_rises false
fixed_length_rises sign (OfClock milliseconds at) place = same_rises false
fixed_length_rises sign (OfDuration duration) place = same_rises (is_too_long duration)

bits_length_rises : (sign : Option Sign) (literal : ShownLiteral) (place : ℕ) → Rises (λ len. fits_kind (record { sign = sign; literal = literal; place = place }) (kind.Bits len))
bits_length_rises sign (OfNumber number) place = same_rises false
bits_length_rises sign (OfBits len value at) place = le_rises len
bits_length_rises sign (OfText text at) place = same_rises false
bits_length_rises sign (OfClock milliseconds at) place = same_rises false
bits_length_rises sign (OfDuration duration) place = same_rises (is_too_long duration)

chars_length_rises : (sign : Option Sign) (literal : ShownLiteral) (place : ℕ) → Rises (λ len. fits_kind (record { sign = sign; literal = literal; place = place }) (kind.Chars len))
chars_length_rises sign (OfNumber number) place = same_rises false
chars_length_rises sign (OfBits len value at) place = same_rises false
chars_length_rises sign (OfText text at) place = le_rises (length text)
chars_length_rises sign (OfClock milliseconds at) place = same_rises false
chars_length_rises sign (OfDuration duration) place = same_rises (is_too_long duration)

and_true : (x : Bool) → x ≡ (x && true)
and_true true = refl
and_true false = refl

length_joined : (c : ShownConst) (sort : Sort) → Rises (λ len. fits_kind c (kind_of_length sort len)) → (a : ℕ) (b : Option ℕ) →
    fits_length c sort (least (Some a) b) ≡ (fits_kind c (kind_of_length sort a) && fits_length c sort b)
length_joined c sort rises a None = and_true (fits_kind c (kind_of_length sort a))
length_joined c sort rises a (Some b) = both_rise (λ len. fits_kind c (kind_of_length sort len)) rises a b

-- where a constant fits the least lengths of these kinds
abbrev pub fits_all : ShownConst → Kinds → Bool
fits_all c kinds =
    (((fits_length c Fixed kinds.fixed && fits_length c Bit kinds.bits) && fits_length c Char kinds.chars) && fits_if c kinds.clock kind.Clock) && fits_if c kinds.span kind.Span

second : (p a b c d e : Bool) → ((((a && (p && b)) && c) && d) && e) ≡ (p && ((((a && b) && c) && d) && e))
second true a b c d e = refl
second false true b c d e = refl
second false false b c d e = refl

first : (p a b c d e : Bool) → (((((p && a) && b) && c) && d) && e) ≡ (p && ((((a && b) && c) && d) && e))
first true a b c d e = refl
first false a b c d e = refl

third : (p a c d e : Bool) → (((a && (p && c)) && d) && e) ≡ (p && (((a && c) && d) && e))
third true a c d e = refl
third false true c d e = refl
third false false c d e = refl

asked : (p k : Bool) → p ≡ (p && (not k || p))
asked true true = refl
asked true false = refl
asked false k = refl

fourth : (p a d e : Bool) → ((a && (p && d)) && e) ≡ (p && ((a && d) && e))
fourth true a d e = refl
fourth false true d e = refl
fourth false false d e = refl

fifth : (p a e : Bool) → (a && (p && e)) ≡ (p && (a && e))
fifth true a e = refl
fifth false true e = refl
fifth false false e = refl

fits_more : (c : ShownConst) (k : Kind) (ks : Kinds) → fits_all c (joined_kinds (one_kind k) ks) ≡ (fits_kind c k && fits_all c ks)
fits_more c (kind.Fixed len) ks =
    ap (λ x. (((x && fits_length c Bit ks.bits) && fits_length c Char ks.chars) && fits_if c ks.clock kind.Clock) && fits_if c ks.span kind.Span)
    (length_joined c Fixed (fixed_length_rises c.sign c.literal c.place) len ks.fixed)
    ∙ first (fits_kind c (kind.Fixed len)) (fits_length c Fixed ks.fixed) (fits_length c Bit ks.bits) (fits_length c Char ks.chars) (fits_if c ks.clock kind.Clock) (fits_if c ks.span kind.Span)
fits_more c (kind.Bits len) ks =
    ap (λ x. (((fits_length c Fixed ks.fixed && x) && fits_length c Char ks.chars) && fits_if c ks.clock kind.Clock) && fits_if c ks.span kind.Span)
    (length_joined c Bit (bits_length_rises c.sign c.literal c.place) len ks.bits)
    ∙ second (fits_kind c (kind.Bits len)) (fits_length c Fixed ks.fixed) (fits_length c Bit ks.bits) (fits_length c Char ks.chars) (fits_if c ks.clock kind.Clock) (fits_if c ks.span kind.Span)
fits_more c (kind.Chars len) ks =
    ap (λ x. (((fits_length c Fixed ks.fixed && fits_length c Bit ks.bits) && x) && fits_if c ks.clock kind.Clock) && fits_if c ks.span kind.Span)
    (length_joined c Char (chars_length_rises c.sign c.literal c.place) len ks.chars)
    ∙ third (fits_kind c (kind.Chars len)) (fits_length c Fixed ks.fixed && fits_length c Bit ks.bits) (fits_length c Char ks.chars) (fits_if c ks.clock kind.Clock) (fits_if c ks.span kind.Span)
fits_more c kind.Clock ks =
    ap (λ x. (((fits_length c Fixed ks.fixed && fits_length c Bit ks.bits) && fits_length c Char ks.chars) && x) && fits_if c ks.span kind.Span) (asked (fits_kind c kind.Clock) ks.clock)
    ∙ fourth (fits_kind c kind.Clock) ((fits_length c Fixed ks.fixed && fits_length c Bit ks.bits) && fits_length c Char ks.chars) (fits_if c ks.clock kind.Clock) (fits_if c ks.span kind.Span)
fits_more c kind.Span ks =
    ap (λ x. (((fits_length c Fixed ks.fixed && fits_length c Bit ks.bits) && fits_length c Char ks.chars) && fits_if c ks.clock kind.Clock) && x) (asked (fits_kind c kind.Span) ks.span)
    ∙ fifth (fits_kind c kind.Span) (((fits_length c Fixed ks.fixed && fits_length c Bit ks.bits) && fits_length c Char ks.chars) && fits_if c ks.clock kind.Clock) (fits_if c ks.span kind.Span)

pub fits_among : (c : ShownConst) (slots : List Kind) → fits_all c (kinds_among slots) ≡ list_all (fits_kind c) slots
fits_among c [] = refl
fits_among c (k ∷ slots) = fits_more c k (kinds_among slots) ∙ ap (λ b. fits_kind c k && b) (fits_among c slots)
