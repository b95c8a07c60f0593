-- Kinds and literals that are spelled are in their ranges, and those in range are spelled.
use Rattle.std.proofs.Common.{◌≡◌, ℕ, ◌≤◌, ◌<◌, ◌-◌, ◌^◌, Bool, true, false, List, [], ◌∷◌, length, Option, Some, None, ℤ, pos, negsuc, ◌≤ℤ◌, T, eqb, refl, sym, ap, subst, ◌∙◌, arith}
use Rattle.std.specs.Prelude.{◌&&◌, nat_le, int_le}
use Rattle.std.proofs.lemmas.Bool.{leb-true, le-leb, eqb-true}
use Rattle.std.proofs.lemmas.Int.{ints}
use Rattle.std.proofs.lemmas.Nat.{pow_pos}
use Rattle.std.proofs.Math.Pow.{pow_mono}
use Rattle.std.proofs.lemmas.List.Elements.{All-from_recursion, recursion_from_All}
use Rattle.std.specs.List.{AllByRecursion}
use Rattle.pearl_value.specs.declared.kind.Kind.{Kind}
use Rattle.pearl_value.specs.declared.kind.Kind.TheVariants.{Fixed, Bits, Chars, Clock, Span}
use Rattle.pearl_value.specs.declared.cell.Cell.{Cell}
use Rattle.pearl_value.specs.declared.cell.Cell.TheVariants as cells
use Rattle.pearl_value.specs.Kinds.{IsKind}
use Rattle.pearl_value.specs.WellFormed.{IsLetter, IsValue, IsValueOf}
use Rattle.pearl_value.specs.Cells.{kind_of}
use Rattle.pearl_fields.specs.Codec.{byte_in, signed_in, within, within_signed, zigzag, rolled_fit}
use Rattle.pearl_fields.proofs.Offered.{zigzag_again}
use Rattle.pearl_object.specs.Kinds.{same_kind, suits, kind}
use Rattle.pearl_object.specs.Literals.{literal, literal_kind, value_of}

-- ---- tests

pub both_true : (a b : Bool) → (a && b) ≡ true → (a ≡ true) × (b ≡ true)
both_true true b h = (refl, h)
both_true false b h = absurd cc

pub within_is : (low high n : ℕ) → within low high n ≡ true → (low ≤ n) × (n ≤ high)
within_is low high n h =
    let t = both_true (nat_le low n) (nat_le n high) h in (leb-true low n t.0, leb-true n high t.1)

pub is_within : (low high n : ℕ) → low ≤ n → n ≤ high → within low high n ≡ true
is_within low high n l h = rw (le-leb low n l, le-leb n high h) refl

signed_is : (low high n : ℤ) → within_signed low high n ≡ true → (low ≤ℤ n) × (n ≤ℤ high)
signed_is low high n h =
    let t = both_true (int_le low n) (int_le n high) h in (record { le = subst T (sym t.0) tt }, record { le = subst T (sym t.1) tt })

holds : (b : Bool) → T b → b ≡ true
holds true t = refl
holds false t = elim t [ ]

is_signed : (low high n : ℤ) → low ≤ℤ n → n ≤ℤ high → within_signed low high n ≡ true
is_signed low high n l h = rw (holds (int_le low n) l.le, holds (int_le n high) h.le) refl

-- a number within 63 bits and a sign is spelled
pub signed_fits : (low high n : ℤ) → negsuc (2 ^ 63 - 1) ≤ℤ low → high ≤ℤ pos (2 ^ 63 - 1) → low ≤ℤ n → n ≤ℤ high → (signed_in low high).fits n
signed_fits low high n least most l h = ((zigzag_few n (omega (arith, ints, least, l)) (omega (arith, ints, most, h)), zigzag_again n), is_signed low high n l h)
  where
    zigzag_few : (n : ℤ) → negsuc (2 ^ 63 - 1) ≤ℤ n → n ≤ℤ pos (2 ^ 63 - 1) → zigzag n < 2 ^ 64
    zigzag_few (pos k) l h = omega (arith, ints, h)
    zigzag_few (negsuc k) l h = omega (arith, ints, l)

-- ---- kinds

pub kind_is : (wanted : Option Kind) (k : Kind) → (kind wanted).fits k → IsKind k
unfolding kind
kind_is wanted (Fixed len) h = within_is 1 63 len h.1.0.0.1
kind_is wanted (Bits len) h = within_is 1 64 len h.1.0.0.1
kind_is wanted (Chars len) h = within_is 1 255 len h.1.0.0.1
kind_is wanted Clock h = tt
kind_is wanted Span h = tt

pub kind_fits : (wanted : Option Kind) (k : Kind) → suits wanted k ≡ true → IsKind k → (kind wanted).fits k
unfolding kind
kind_fits wanted (Fixed len) s h = (((omega arith, refl), refl), (((omega (arith, h.1), is_within 1 63 len h.0 h.1), refl), s))
kind_fits wanted (Bits len) s h = (((omega arith, refl), refl), (((omega (arith, h.1), is_within 1 64 len h.0 h.1), refl), s))
kind_fits wanted (Chars len) s h = (((omega arith, refl), refl), (((omega (arith, h.1), is_within 1 255 len h.0 h.1), refl), s))
kind_fits wanted Clock s h = (((omega arith, refl), s), refl)
kind_fits wanted Span s h = (((omega arith, refl), s), refl)

pub plain_kind_fits : (k : Kind) → IsKind k → (kind None).fits k
plain_kind_fits k h = kind_fits None k refl h

pub eqb_same : (n : ℕ) → eqb n n ≡ true
eqb_same n = grind arith

pow_some : (len : ℕ) → 0 < 2 ^ len
pow_some len = pow_pos len

same_kind_as : (k l : Kind) → same_kind k l ≡ true → l ≡ k
same_kind_as (Fixed m) (Fixed n) h = ap Fixed (sym (eqb-true m n h))
same_kind_as (Bits m) (Bits n) h = ap Bits (sym (eqb-true m n h))
same_kind_as (Chars m) (Chars n) h = ap Chars (sym (eqb-true m n h))
same_kind_as Clock Clock h = refl
same_kind_as Span Span h = refl
same_kind_as _ _ h = absurd cc

-- ---- literals

-- each byte of a text is in its range, and the other way round
letters_are : (bytes : List ℕ) → rolled_fit (λ (s : Unit {0}). byte_in 32 126) (λ s b. s) tt bytes → AllByRecursion IsLetter bytes
letters_are [] h = tt
letters_are (b ∷ bytes) h = (within_is 32 126 b h.0.1, letters_are bytes h.1)

letters_fit : (bytes : List ℕ) → AllByRecursion IsLetter bytes → rolled_fit (λ (s : Unit {0}). byte_in 32 126) (λ s b. s) tt bytes
letters_fit [] h = tt
letters_fit (b ∷ bytes) h = ((omega (arith, h.0.1), is_within 32 126 b h.0.0 h.0.1), letters_fit bytes h.1)

pub literal_is : (wanted : Option Kind) (x : Cell) → (literal wanted).fits x → IsValue x
unfolding literal value_of
literal_is wanted (cells.Fixed len value) h =
    let s = signed_is _ _ value h.1.0.1 in (kind_is wanted (Fixed len) h.0, record { low = s.0; high = s.1 })
literal_is wanted (cells.Bits len value) h =
    let t = within_is 0 (2 ^ len - 1) value h.1.0.1 in
    let some : 0 < 2 ^ len = pow_some len in (kind_is wanted (Bits len) h.0, omega (arith, t.1, some))
literal_is wanted (cells.Chars text) h =
    (kind_is wanted (Chars (length text.items)) h.0, All-from_recursion IsLetter text.items (letters_are text.items h.1.0.1))
literal_is wanted (cells.Clock time) h = let t = within_is 0 86399999 time h.1.0.1 in omega (arith, t.1)
literal_is wanted (cells.Span value) h = let s = signed_is _ _ value h.1.0.1 in record { low = s.0; high = s.1 }
literal_is wanted (cells.Ref of place) h = absurd (let k : (kind wanted).fits (Chars 0) = h.0 in let none = kind_is wanted (Chars 0) k in omega (arith, none.0))

-- the kind that is wanted is that of the literal
wanted_kind : (w k : Kind) → (kind (Some w)).fits k → k ≡ w
unfolding kind
wanted_kind w (Fixed len) h = same_kind_as w (Fixed len) h.1.1
wanted_kind w (Bits len) h = same_kind_as w (Bits len) h.1.1
wanted_kind w (Chars len) h = same_kind_as w (Chars len) h.1.1
wanted_kind w Clock h = same_kind_as w Clock h.0.1
wanted_kind w Span h = same_kind_as w Span h.0.1

kind_of_value : (x : Cell) → IsValue x → kind_of x ≡ literal_kind x
kind_of_value (cells.Fixed len value) h = refl
kind_of_value (cells.Bits len value) h = refl
kind_of_value (cells.Chars text) h = refl
kind_of_value (cells.Clock time) h = refl
kind_of_value (cells.Span value) h = refl
kind_of_value (cells.Ref of place) h = absurd h

literal_key : (wanted : Option Kind) (x : Cell) → (literal wanted).fits x → (kind wanted).fits (literal_kind x)
unfolding literal
literal_key wanted x h = h.0

pub constant_is : (w : Kind) (x : Cell) → (literal (Some w)).fits x → IsValueOf w x
constant_is w x h =
    let is = literal_is (Some w) x h in
    record { is_value = is; same_kind = kind_of_value x is ∙ wanted_kind w (literal_kind x) (literal_key (Some w) x h) }

suits_itself : (k : Kind) → same_kind k k ≡ true
suits_itself (Fixed len) = eqb_same len
suits_itself (Bits len) = eqb_same len
suits_itself (Chars len) = eqb_same len
suits_itself Clock = refl
suits_itself Span = refl

pow_63 : (len : ℕ) → len ≤ 63 → 2 ^ len ≤ 2 ^ 63
pow_63 len few = pow_mono few

pub literal_fits : (wanted : Option Kind) (x : Cell) → IsValue x → suits wanted (literal_kind x) ≡ true → (literal wanted).fits x
unfolding literal value_of
literal_fits wanted (cells.Fixed len value) h s =
    let most = pow_63 len h.0.1 in
    (kind_fits wanted (Fixed len) s h.0, (signed_fits (negsuc (2 ^ len - 1)) (pos (2 ^ len - 1)) value (omega (arith, ints, most)) (omega (arith, ints, most)) h.1.low h.1.high, refl))
literal_fits wanted (cells.Bits len value) h s =
    let few : 2 ^ len ≤ 2 ^ 64 = pow_mono h.0.1 in
    (kind_fits wanted (Bits len) s h.0, ((omega (arith, h.1, few), is_within 0 (2 ^ len - 1) value (omega arith) (omega (arith, h.1))), refl))
literal_fits wanted (cells.Chars text) h s =
    (kind_fits wanted (Chars (length text.items)) s h.0, ((refl, letters_fit text.items (recursion_from_All IsLetter text.items h.1)), refl))
literal_fits wanted (cells.Clock time) h s =
    (kind_fits wanted Clock s tt, ((omega (arith, h), is_within 0 86399999 time (omega arith) (omega (arith, h))), refl))
literal_fits wanted (cells.Span value) h s =
    (kind_fits wanted Span s tt, (signed_fits (negsuc (2 ^ 40 - 1)) (pos (2 ^ 40)) value (omega (arith, ints)) (omega (arith, ints)) h.low h.high, refl))
literal_fits wanted (cells.Ref of place) h s = absurd h

pub constant_fits : (w : Kind) (x : Cell) → IsValueOf w x → (literal (Some w)).fits x
constant_fits w x h =
    let same : literal_kind x ≡ w = sym (kind_of_value x h.is_value) ∙ h.same_kind in
    literal_fits (Some w) x h.is_value (ap (same_kind w) same ∙ suits_itself w)
