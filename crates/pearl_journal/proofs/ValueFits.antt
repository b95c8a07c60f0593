-- What a literal gives fits where it comes in.
use Rattle.std.proofs.Common.{◌≡◌, ◌<◌, ◌≤◌, ◌-◌, ◌*◌, ◌^◌, ℕ, suc, ℤ, pos, List, [], ◌∷◌, Bool, true, false, negsuc, w64, length, refl, sym, subst, arith, nat_le}
use Rattle.std.proofs.lemmas.Bool.{false≢true, leb-true}
use Rattle.std.proofs.Math.Nat.{mul-suc, pow-le-pow_right}
use Rattle.std.proofs.lemmas.Int.{ints}
use Rattle.std.proofs.lemmas.List.Elements.{All-from_recursion}
use Rattle.std.specs.Prelude.{FitsSigned, Option, Some, None, IfSome, option_map, option_and_then, drop, slice_index, ◌==◌, codes, bytes_eq, if◌then◌else◌}
use Rattle.std.specs.Option.{option_or}
use Rattle.std.specs.List.{after_first, before_first}
use Rattle.pearl_value.specs.declared.kind.Kind.{Kind}
use Rattle.pearl_value.specs.declared.kind.Kind.TheVariants as kind
use Rattle.pearl_value.specs.declared.cell.Cell.{Cell}
use Rattle.pearl_value.specs.declared.cell.Cell.TheVariants.{Fixed, Bits, Chars, Clock, Span}
use Rattle.pearl_value.specs.Arithmetic.{fits_span}
use Rattle.pearl_value.specs.Blanks.{filled_to, widened}
use Rattle.pearl_value.specs.Cells.{FitsFixed}
use Rattle.pearl_value.specs.Conversions.{fits_fixed}
use Rattle.pearl_value.specs.WellFormed.{IsLetter, IsValue}
use Rattle.pearl_rules.specs.Entries.{Becomes, ComesInAt}
use Rattle.pearl_rules.specs.Literals.{bits_number, clock_literal, fixed_literal, number_literal, span_literal, decimal_number, at_most, behind_blanks, minus}
use Rattle.pearl_rules.proofs.Offered.{bits_number-below, clock_below}
use Rattle.pearl_journal.specs.declared.literals.Literal.{Literal}
use Rattle.pearl_journal.specs.declared.literals.Literal.TheVariants.{Value, TooLong}
use Rattle.pearl_journal.specs.Words.{is_blank}
use Rattle.pearl_journal.specs.Texts.{is_apostrophe, text_literal}
use Rattle.pearl_journal.specs.Values.{digit_width, bits_of, bits_literal, fixed_cell, text_cell, span_value, literal, may_come_in, coming_in}
use Rattle.pearl_journal.proofs.TextFits.{IsText, text_literal-text}

mapped : {X Y : Type 0} (P : X → Type 0) (Q : Y → Type 0) (f : X → Y) (o : Option X) → ((x : X) → P x → Q (f x)) → IfSome o P → IfSome (option_map f o) Q
mapped P Q f None of h = tt
mapped P Q f (Some x) of h = of x h

always : {X : Type 0} (P : X → Type 0) (o : Option X) → ((x : X) → P x) → IfSome o P
always P None h = tt
always P (Some x) h = h x

text_cell-value : (text : List ℕ) → IsText text → IsValue (text_cell text)
text_cell-value text is = ((is.some, is.is_short.short), All-from_recursion IsLetter text is.is_short.printed)

bits_of-if : (few : Bool) (len : ℕ) (o : Option ℕ) → (few ≡ true → 0 < len × len ≤ 64) → IfSome o (λ n. n < 2 ^ len) →
    IfSome (if few then option_map (Bits len) o else None) IsValue
bits_of-if true len o is below = mapped (λ n. n < 2 ^ len) IsValue (Bits len) o (λ n h. (is refl, h)) below
bits_of-if false len o is below = tt

some_bits : (group count : ℕ) → 0 < group → 0 < group * suc count
some_bits group count some = omega (arith, mul-suc group count)

bits_of-value : (group : ℕ) (digits : List ℕ) → 0 < group → IfSome (bits_of group digits) IsValue
bits_of-value group [] some = by (nat_le (group * 0) 64)
  where
    by : (few : Bool) → IfSome (if few then option_map (Bits (group * 0)) None else None) IsValue
    by true = tt
    by false = tt
bits_of-value group (byte ∷ bytes) some =
    let len = group * length (byte ∷ bytes) in
    bits_of-if (nat_le len 64) len (bits_number group (byte ∷ bytes)) (λ few. (some_bits group (length bytes) some, leb-true len 64 few))
    (bits_number-below group (byte ∷ bytes))

if_is : (test : Bool) (o p : Option ℕ) (P : ℕ → Type 0) → IfSome o P → IfSome p P → IfSome (if test then o else p) P
if_is true o p P h k = h
if_is false o p P h k = k

digit_width-some : (word : List ℕ) → IfSome (digit_width word) (λ group. 0 < group)
digit_width-some word =
    let P : ℕ → Type 0 = λ group. 0 < group in
    let fours = if bytes_eq word (codes "B4") then Some 4 else None in
    let threes = if bytes_eq word (codes "B3") then Some 3 else fours in
    let twos = if bytes_eq word (codes "B2") then Some 2 else threes in
    let ones = if bytes_eq word (codes "B1") then Some 1 else twos in
    if_is (bytes_eq word (codes "B")) (Some 1) ones P (omega arith) (
    if_is (bytes_eq word (codes "B1")) (Some 1) twos P (omega arith) (
    if_is (bytes_eq word (codes "B2")) (Some 2) threes P (omega arith) (
    if_is (bytes_eq word (codes "B3")) (Some 3) fours P (omega arith) (
    if_is (bytes_eq word (codes "B4")) (Some 4) None P (omega arith) tt))))

bits_by : (o : Option ℕ) (digits : List ℕ) → IfSome o (λ group. 0 < group) → IfSome (option_and_then (λ group. bits_of group digits) o) IsValue
bits_by None digits h = tt
bits_by (Some group) digits h = bits_of-value group digits h

bits_literal-value : (text : List ℕ) → IfSome (bits_literal text) IsValue
bits_literal-value text = by (is_apostrophe (slice_index text 0))
  where
    inner : List ℕ
    inner = drop 1 text

    width : Option ℕ
    width = digit_width (after_first is_apostrophe inner)

    by : (begins : Bool) → IfSome (if begins then option_and_then (λ group. bits_of group (before_first is_apostrophe inner)) width else None) IsValue
    by true = bits_by width (before_first is_apostrophe inner) (digit_width-some (after_first is_apostrophe inner))
    by false = tt

at_most-limit : (limit : ℕ) (o : Option ℕ) → IfSome (at_most limit o) (λ n. n ≤ limit)
at_most-limit limit None = tt
at_most-limit limit (Some n) = by (nat_le n limit) refl
  where
    by : (within : Bool) → nat_le n limit ≡ within → IfSome (if within then Some n else None) (λ n. n ≤ limit)
    by true e = leb-true n limit e
    by false e = tt

pos_fits : (n : ℕ) → n ≤ 2 ^ 63 - 1 → FitsFixed 63 (pos n)
pos_fits n h = record { low = grind (arith, ints); high = grind (arith, ints) }

minus_fits : (n : ℕ) → n ≤ 2 ^ 63 - 1 → FitsFixed 63 (minus n)
minus_fits n h = record { low = grind (arith, ints); high = grind (arith, ints) }

fixed_literal-fits : (text : List ℕ) → IfSome (fixed_literal is_blank text) (FitsFixed 63)
fixed_literal-fits text = by (slice_index text 0 == 45)
  where
    by : (is_minus : Bool) → IfSome (if is_minus then option_map minus (number_literal (behind_blanks is_blank (drop 1 text))) else option_map pos (number_literal text)) (FitsFixed 63)
    by true =
        mapped (λ n. n ≤ 2 ^ 63 - 1) (FitsFixed 63) minus (number_literal (behind_blanks is_blank (drop 1 text))) minus_fits
        (at_most-limit (2 ^ 63 - 1) (decimal_number (behind_blanks is_blank (drop 1 text))))
    by false = mapped (λ n. n ≤ 2 ^ 63 - 1) (FitsFixed 63) pos (number_literal text) pos_fits (at_most-limit (2 ^ 63 - 1) (decimal_number text))

fixed_cell-value : (value : ℤ) → FitsFixed 63 value → IsValue (fixed_cell value)
fixed_cell-value value fits = by (fits_fixed 31 value) refl
  where
    by : (short : Bool) → fits_fixed 31 value ≡ short → IsValue (Fixed (if short then 31 else 63) value)
    by true e = ((omega arith, omega arith), record { low = grind (arith, ints); high = grind (arith, ints) })
    by false e = ((omega arith, omega arith), fits)

-- what a literal spells is a value
abbrev pub LiteralIs : Literal → Type 0
LiteralIs (Value x) = IsValue x
LiteralIs TooLong = Unit {0}

either : {X : Type 0} (o p : Option X) (P : X → Type 0) → IfSome o P → IfSome p P → IfSome (option_or o p) P
either None p P h k = k
either (Some x) p P h k = h

span_value-is : (value : ℤ) → LiteralIs (span_value value)
span_value-is value = by (fits_span value) refl
  where
    by : (fits : Bool) → fits_span value ≡ fits → LiteralIs (if fits then Value (Span value) else TooLong)
    by true e = record { low = grind (arith, ints); high = grind (arith, ints) }
    by false e = tt

pub literal-is : (text : List ℕ) → IfSome (literal text) LiteralIs
literal-is text =
    let bits = option_map Value (bits_literal text) in
    let texts = option_map (λ t. Value (text_cell t)) (text_literal text) in
    let clocks = option_map (λ time. Value (Clock time)) (clock_literal text) in
    let numbers = option_map (λ n. Value (fixed_cell n)) (fixed_literal is_blank text) in
    let spans = option_map span_value (span_literal is_blank text) in
    either bits (option_or texts (option_or clocks (option_or numbers spans))) LiteralIs
    (mapped IsValue LiteralIs Value (bits_literal text) (λ x h. h) (bits_literal-value text)) (
    either texts (option_or clocks (option_or numbers spans)) LiteralIs
    (mapped IsText LiteralIs (λ t. Value (text_cell t)) (text_literal text) text_cell-value (text_literal-text text)) (
    either clocks (option_or numbers spans) LiteralIs
    (mapped (λ n. n < 86400000) LiteralIs (λ time. Value (Clock time)) (clock_literal text) (λ n h. h) (clock_below text)) (
    either numbers spans LiteralIs
    (mapped (FitsFixed 63) LiteralIs (λ n. Value (fixed_cell n)) (fixed_literal is_blank text) fixed_cell-value (fixed_literal-fits text))
    (mapped (λ value. Unit {0}) LiteralIs span_value (span_literal is_blank text) (λ value h. span_value-is value)
    (always (λ value. Unit {0}) (span_literal is_blank text) (λ value. tt))))))

-- COMING IN

may_become : (of : Kind) (x : Cell) → IsValue x → may_come_in of x ≡ true → Becomes of x
may_become (kind.Fixed to) (Fixed len value) is h =
    record { is_value = is; suits = tt; becomes = Fixed to value; converts = rw (h) refl }
may_become (kind.Bits to) (Bits len value) is h =
    record { is_value = is; suits = leb-true len to h; becomes = Bits to (widened len value to); converts = rw (h) refl }
may_become (kind.Chars to) (Chars text) is h =
    record { is_value = is; suits = leb-true (length text.items) to h; becomes = Chars (record { items = filled_to to text.items }); converts = rw (h) refl }
may_become kind.Clock (Clock time) is h = record { is_value = is; suits = tt; becomes = Clock time; converts = refl }
may_become kind.Span (Span time) is h = record { is_value = is; suits = tt; becomes = Span time; converts = refl }
may_become of x is h = absurd (false≢true h)

pub coming_in-fits : (of : Option Kind) (spelled : Literal) → LiteralIs spelled → (x : Cell) → coming_in of spelled ≡ Some x → ComesInAt of x
coming_in-fits None spelled is x e = cc
coming_in-fits (Some of) TooLong is x e = cc
coming_in-fits (Some of) (Value y) is x e = by (may_come_in of y) refl e
  where
    by : (may : Bool) → may_come_in of y ≡ may → (if may then Some y else None) ≡ Some x → Becomes of x
    by true h e = let same : y ≡ x = cc in subst (Becomes of) same (may_become of y is h)
    by false h e = cc

-- every number of 64 bits has at most 63 binary digits and a sign
signed_fits : (value : ℤ) → FitsSigned w64 value → FitsFixed 63 value
signed_fits (pos n) h = let k : n < 2 ^ 63 = h.sfits in pos_fits n (omega (arith, k))
signed_fits (negsuc n) h = let k : n < 2 ^ 63 = h.sfits in record { low = grind (arith, ints); high = grind (arith, ints) }

wide_fits : (len : ℕ) (value : ℤ) → 63 ≤ len → FitsFixed 63 value → fits_fixed len value ≡ true
wide_fits len value wide fits =
    let more : 2 ^ 63 ≤ 2 ^ len = pow-le-pow_right (omega arith) wide in
    let low = fits.low in let high = fits.high in grind (arith, ints)

pub signed_wide : (len : ℕ) (value : ℤ) → 63 ≤ len → FitsSigned w64 value → true ≡ fits_fixed len value
signed_wide len value wide h = sym (wide_fits len value wide (signed_fits value h))
