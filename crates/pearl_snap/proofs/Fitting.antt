-- Numbers, kinds, values and lists that are in range have a spelling.
use Rattle.std.proofs.Common.{◌≡◌, ℕ, suc, ◌+◌, ◌-◌, ◌%◌, ◌≤◌, ◌<◌, ◌^◌, Bool, true, false, List, [], ◌∷◌, length, Option, Some, None, ℤ, pos, negsuc, ◌≤ℤ◌, T, refl, ap, arith}
use Rattle.std.specs.Prelude.{int_le, IfSome}
use Rattle.std.proofs.lemmas.Bool.{le-leb}
use Rattle.std.proofs.lemmas.Int.{ints}
use Rattle.std.proofs.Math.Pow.{pow_mono}
use Rattle.std.proofs.lemmas.List.Elements.{recursion_from_All}
use Rattle.std.specs.List.{AllByRecursion}
use Rattle.pearl_value.specs.declared.kind.Kind.{Kind}
use Rattle.pearl_value.specs.declared.kind.Kind.TheVariants.{Fixed, Bits, Chars, Clock, Span}
use Rattle.pearl_value.specs.declared.cell.Cell.{Cell}
use Rattle.pearl_value.specs.declared.cell.Cell.TheVariants as cells
use Rattle.pearl_value.specs.Kinds.{IsKind}
use Rattle.pearl_value.specs.Cells.{kind_of}
use Rattle.pearl_value.specs.WellFormed.{IsLetter, IsValue}
use Rattle.pearl_fields.specs.Codec.{Codec, byte_in, signed_in, within, within_signed, zigzag, rolled_fit, counted}
use Rattle.pearl_fields.proofs.Offered.{zigzag_again}
use Rattle.pearl_object.specs.Kinds.{kind}
use Rattle.pearl_object.specs.Literals.{literal, value_of}
use Rattle.pearl_snap.specs.declared.states.Free.{Free}
use Rattle.pearl_snap.specs.Lists.{free, each_in, before, maybe_number}

-- ---- numbers

pub is_within : (low high n : ℕ) → low ≤ n → n ≤ high → within low high n ≡ true
is_within low high n l h = rw (le-leb low n l, le-leb n high h) refl

holds : (b : Bool) → T b → b ≡ true
holds true t = refl
holds false t = elim t [ ]

is_signed : (low high n : ℤ) → low ≤ℤ n → n ≤ℤ high → within_signed low high n ≡ true
is_signed low high n l h = rw (holds (int_le low n) l.le, holds (int_le n high) h.le) refl

-- a number within 63 bits and a sign is spelled
signed_fits : (low high n : ℤ) → negsuc (2 ^ 63 - 1) ≤ℤ low → high ≤ℤ pos (2 ^ 63 - 1) → low ≤ℤ n → n ≤ℤ high → (signed_in low high).fits n
signed_fits low high n least most l h = ((zigzag_few n (omega (arith, ints, least, l)) (omega (arith, ints, most, h)), zigzag_again n), is_signed low high n l h)
  where
    zigzag_few : (n : ℤ) → negsuc (2 ^ 63 - 1) ≤ℤ n → n ≤ℤ pos (2 ^ 63 - 1) → zigzag n < 2 ^ 64
    zigzag_few (pos k) l h = omega (arith, ints, h)
    zigzag_few (negsuc k) l h = omega (arith, ints, l)

-- a number that may be missing, which is below 2^64 - 1
pub maybe_fits : (v : Option ℕ) → IfSome v (λ n. n < 2 ^ 64 - 1) → maybe_number.fits v
unfolding maybe_number
maybe_fits None h = (omega arith, refl)
maybe_fits (Some n) h =
    let is : (n + 1) % 2 ^ 64 ≡ suc n = omega (arith, h) in
    (omega (arith, h), ap before is)

-- ---- kinds and values

pub kind_fits : (k : Kind) → IsKind k → (kind None).fits k
unfolding kind
kind_fits (Fixed len) h = (((omega arith, refl), refl), (((omega (arith, h.1), is_within 1 63 len h.0 h.1), refl), refl))
kind_fits (Bits len) h = (((omega arith, refl), refl), (((omega (arith, h.1), is_within 1 64 len h.0 h.1), refl), refl))
kind_fits (Chars len) h = (((omega arith, refl), refl), (((omega (arith, h.1), is_within 1 255 len h.0 h.1), refl), refl))
kind_fits Clock h = (((omega arith, refl), refl), refl)
kind_fits Span h = (((omega arith, refl), refl), refl)

letters_fit : (bytes : List ℕ) → AllByRecursion IsLetter bytes → rolled_fit (λ (s : Unit {0}). byte_in 32 126) (λ s b. s) tt bytes
letters_fit [] h = tt
letters_fit (b ∷ bytes) h = ((omega (arith, h.0.1), is_within 32 126 b h.0.0 h.0.1), letters_fit bytes h.1)

pow_63 : (len : ℕ) → len ≤ 63 → 2 ^ len ≤ 2 ^ 63
pow_63 len few = pow_mono few

pub value_fits : (x : Cell) → IsValue x → (literal None).fits x
unfolding literal value_of
value_fits (cells.Fixed len value) h =
    let most = pow_63 len h.0.1 in
    (kind_fits (Fixed len) h.0, (signed_fits (negsuc (2 ^ len - 1)) (pos (2 ^ len - 1)) value (omega (arith, ints, most)) (omega (arith, ints, most)) h.1.low h.1.high, refl))
value_fits (cells.Bits len value) h =
    let few : 2 ^ len ≤ 2 ^ 64 = pow_mono h.0.1 in
    (kind_fits (Bits len) h.0, ((omega (arith, h.1, few), is_within 0 (2 ^ len - 1) value (omega arith) (omega (arith, h.1))), refl))
value_fits (cells.Chars text) h =
    (kind_fits (Chars (length text.items)) h.0, ((refl, letters_fit text.items (recursion_from_All IsLetter text.items h.1)), refl))
value_fits (cells.Clock time) h = (kind_fits Clock tt, ((omega (arith, h), is_within 0 86399999 time (omega arith) (omega (arith, h))), refl))
value_fits (cells.Span value) h =
    (kind_fits Span tt, (signed_fits (negsuc (2 ^ 40 - 1)) (pos (2 ^ 40)) value (omega (arith, ints)) (omega (arith, ints)) h.low h.high, refl))
value_fits (cells.Ref of place) h = absurd h

-- the kind of a value is one
pub kind_stands : (x : Cell) → IsValue x → IsKind (kind_of x)
kind_stands (cells.Fixed len value) h = h.0
kind_stands (cells.Bits len value) h = h.0
kind_stands (cells.Chars text) h = h.0
kind_stands (cells.Clock time) h = tt
kind_stands (cells.Span value) h = tt
kind_stands (cells.Ref of place) h = absurd h

-- ---- lists

pub counted_fits : {S X : Type 0} (high : ℕ) (spelled : X → List ℕ) (c : S → Codec X) (next : S → X → S) (s : S) (xs : List X) → high < 2 ^ 64 → length xs ≤ high → rolled_fit c next s xs → (counted 0 high spelled c next s).fits xs
counted_fits high spelled c next s xs small few fit = (((omega (arith, few, small), is_within 0 high (length xs) (omega arith) few), (refl, fit)), refl)

module _ {X : Type 0} (c : Codec X) (P : X → Type 0) (fit : (x : X) → P x → c.fits x) where
  all_fit : (xs : List X) → AllByRecursion P xs → rolled_fit (λ (s : Free). c) (λ s x. s) free xs
  all_fit [] h = tt
  all_fit (x ∷ xs) h = (fit x h.0, all_fit xs h.1)

  pub each_fits : (high : ℕ) (xs : List X) → high < 2 ^ 64 → length xs ≤ high → AllByRecursion P xs → (each_in 0 high c).fits xs
  each_fits high xs small few h = counted_fits high c.bytes (λ (s : Free). c) (λ s x. s) free xs small few (all_fit xs h)
