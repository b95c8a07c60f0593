-- What becomes of the bits of words when one word is written, and where the first bit that is set is.
use Rattle.std.proofs.Common.{◌≡◌, ◌≢◌, ℕ, zero, suc, ◌+◌, ◌-◌, ◌*◌, ◌/◌, ◌%◌, ◌^◌, ◌<◌, ◌≤◌, inl, inr, List, [], ◌∷◌, length, get_or, set, bit_and, bit_or, w64, refl, sym, ap, ◌∙◌, arith, nat_eq, eqb-true, eq-eqb, get_or-set_same, get_or-set_other}
use Rattle.std.specs.Prelude.{IsTrue, ◌↔◌, Option, Some, None, MatchOption}
use Rattle.std.specs.Int.{bit_at, bit_not, trailing_zeros}
use Rattle.std.proofs.lemmas.Bool.{cases_eq, cases_lt}
use Rattle.std.proofs.lemmas.Nat.Bits.{shr_and_one, bit_at-lt, bit_at-zero, bit_at-trailing_zeros, bit_at_set_same, bit_at_set_other, bit_at_clear_same, bit_at_clear_other, bit_at_above}
use Rattle.std.proofs.lemmas.Nat.{shr-shr}
use Rattle.std.proofs.Math.Nat.{div-le_self}
use Rattle.pearl_bits.specs.Bits.{bit, Changes, IsFirst, NoneIsSet}

get_or_default : (words : List ℕ) (i d e : ℕ) → i < length words → get_or words i d ≡ get_or words i e
get_or_default [] i d e there = let no : ⊥ = omega (arith, there) in absurd no
get_or_default (x ∷ words) zero d e there = refl
get_or_default (x ∷ words) (suc i) d e there = get_or_default words i d e (omega (arith, there))

-- a bit is 0 or 1
pub bit_small : (words : List ℕ) (i : ℕ) → bit words i < 2
unfolding bit
bit_small words i = bit_at-lt (get_or words (i / 64) 0) (i % 64)

module _ (words : List ℕ) (i : ℕ) (there : i / 64 < length words) where
  -- a word that keeps its other bits keeps all other bits
  changes : (word b : ℕ) → bit_at word (i % 64) ≡ b →
      ((k : ℕ) → k < 64 → k ≢ i % 64 → bit_at word k ≡ bit_at (get_or words (i / 64) 0) k) → Changes words (set words (i / 64) word) i b
  unfolding bit
  changes word b is kept = record {
    this = ap (λ n. bit_at n (i % 64)) (get_or-set_same words (i / 64) word 0 there) ∙ is;
    others = λ j differs.
        elim (cases_eq (j / 64) (i / 64)) [
          | inl same ↦ rw (same, get_or-set_same words (i / 64) word 0 there) (kept (j % 64) (omega arith) (λ index. differs (omega arith)))
          | inr apart ↦ ap (λ n. bit_at n (j % 64)) (get_or-set_other words (i / 64) (j / 64) word 0 apart)
        ];
  }

  here : (word : ℕ) → word ≡ get_or words (i / 64) word → word ≡ get_or words (i / 64) 0
  here word is = is ∙ get_or_default words (i / 64) word 0 there

  pub raised : (word : ℕ) → word ≡ get_or words (i / 64) word → Changes words (set words (i / 64) (bit_or word (1 * 2 ^ (i % 64) % 2 ^ 64))) i 1
  raised word is =
      let index : i % 64 < 64 = omega arith in
      changes _ 1 (bit_at_set_same w64 word (i % 64) index) (λ k below differs. bit_at_set_other w64 word (i % 64) index k differs ∙ ap (λ n. bit_at n k) (here word is))

  pub lowered : (word : ℕ) → word ≡ get_or words (i / 64) word → Changes words (set words (i / 64) (bit_and word (bit_not w64 (1 * 2 ^ (i % 64) % 2 ^ 64)))) i 0
  lowered word is =
      let index : i % 64 < 64 = omega arith in
      changes _ 0 (bit_at_clear_same w64 word (i % 64) index) (λ k below differs. bit_at_clear_other w64 word (i % 64) index k below differs ∙ ap (λ n. bit_at n k) (here word is))

-- the bits of one word
in_word : (words : List ℕ) (place k : ℕ) → k < 64 → bit words (place * 64 + k) ≡ bit_at (get_or words place 0) k
unfolding bit
in_word words place k small =
    let at : (place * 64 + k) / 64 ≡ place = omega arith in
    let index : (place * 64 + k) % 64 ≡ k = omega arith in
    rw (at, index) refl

-- a word that is 0 has no bit set
pub word_empty : (words : List ℕ) (start place : ℕ) → get_or words place 0 ≡ 0 → NoneIsSet words start (place * 64) → NoneIsSet words start ((place + 1) * 64)
word_empty words start place none before j from to =
    elim (cases_lt j (place * 64)) [
      | inl lower ↦ before j from lower
      | inr here ↦
          let k : ℕ = j - place * 64 in
          let is : place * 64 + k ≡ j = omega arith in
          ap (bit words) (sym is) ∙ (in_word words place k (omega arith) ∙ (ap (λ n. bit_at n k) none ∙ bit_at-zero k))
    ]

-- the first bit of the first word that isn't 0
pub word_first : (words : List ℕ) (first place last : ℕ) → 0 < get_or words place 0 → get_or words place 0 < 2 ^ 64 → first ≤ place → place < last →
    NoneIsSet words (first * 64) (place * 64) → IsFirst words (first * 64) (last * 64) (place * 64 + trailing_zeros w64 (get_or words place 0))
word_first words first place last some fits from to before =
    let word = get_or words place 0 in
    let lowest = bit_at-trailing_zeros w64 word some fits in
    record {
      from = omega (arith, from, lowest.0);
      before = omega (arith, to, lowest.0);
      set = in_word words place (trailing_zeros w64 word) lowest.0 ∙ lowest.1;
      least = λ j from below.
          elim (cases_lt j (place * 64)) [
            | inl lower ↦ before j from lower
            | inr here ↦
                let k : ℕ = j - place * 64 in
                let is : place * 64 + k ≡ j = omega arith in
                ap (bit words) (sym is) ∙ (in_word words place k (omega (arith, lowest.0, below, here)) ∙ lowest.2 k (omega (arith, below, here)))
          ];
    }

-- the test of a bit
pub tested : (words : List ℕ) (i : ℕ) → IsTrue (nat_eq (bit_and (get_or words (i / 64) 0 / 2 ^ (i % 64)) 1) 1) ↔ (bit words i ≡ 1)
unfolding bit
tested words i =
    let is = shr_and_one (get_or words (i / 64) 0) (i % 64) in
    (λ t. sym is ∙ eqb-true _ 1 t, λ e. eq-eqb _ 1 (is ∙ e))

-- FROM A BIT ON

-- the bits of a word that is moved
moved : (words : List ℕ) (i k : ℕ) → i % 64 + k < 64 → bit words (i + k) ≡ bit_at (get_or words (i / 64) 0 / 2 ^ (i % 64)) k
unfolding bit
moved words i k small =
    let at : (i + k) / 64 ≡ i / 64 = omega arith in
    let index : (i + k) % 64 ≡ i % 64 + k = omega arith in
    rw (at, index) (ap (λ n. n % 2) (sym (shr-shr (get_or words (i / 64) 0) (i % 64) k)))

-- above the word that is moved nothing comes in
moved_high : (word i k : ℕ) → word < 2 ^ 64 → i < 64 → 64 ≤ i + k → bit_at (word / 2 ^ i) k ≡ 0
moved_high word i k fits small high =
    ap (λ n. n % 2) (shr-shr word i k) ∙ bit_at_above word 64 (i + k) fits high

moved_lowest : (word i : ℕ) → word < 2 ^ 64 → i < 64 → 0 < word / 2 ^ i →
    (i + trailing_zeros w64 (word / 2 ^ i) < 64) × (bit_at (word / 2 ^ i) (trailing_zeros w64 (word / 2 ^ i)) ≡ 1) × ((k : ℕ) → k < trailing_zeros w64 (word / 2 ^ i) → bit_at (word / 2 ^ i) k ≡ 0)
moved_lowest word i fits small some =
    let lowest = bit_at-trailing_zeros w64 (word / 2 ^ i) some (le_trans-lt word i fits) in (
      elim (cases_lt (i + trailing_zeros w64 (word / 2 ^ i)) 64) [
        | inl less ↦ less
        | inr high ↦ let no = moved_high word i (trailing_zeros w64 (word / 2 ^ i)) fits small high in absurd (omega (arith, no, lowest.1))
      ],
      lowest.1,
      lowest.2,
    )
  where
    le_trans-lt : (word i : ℕ) → word < 2 ^ 64 → word / 2 ^ i < 2 ^ 64
    le_trans-lt word i fits = omega (arith, div-le_self word (2 ^ i), fits)

pub from_word : (words : List ℕ) (i last : ℕ) → get_or words (i / 64) 0 < 2 ^ 64 → i / 64 < last → 0 < get_or words (i / 64) 0 / 2 ^ (i % 64) →
    IsFirst words i (last * 64) (i + trailing_zeros w64 (get_or words (i / 64) 0 / 2 ^ (i % 64)))
from_word words i last fits to some =
    let word : ℕ = get_or words (i / 64) 0 in
    let k : ℕ = trailing_zeros w64 (word / 2 ^ (i % 64)) in
    let lowest = moved_lowest word (i % 64) fits (omega arith) some in
    record {
      from = omega arith;
      before = omega (arith, to, lowest.0);
      set = moved words i k lowest.0 ∙ lowest.1;
      least = λ j from below.
          let is : i + (j - i) ≡ j = omega arith in
          ap (bit words) (sym is) ∙ (moved words i (j - i) (omega (arith, lowest.0, below, from)) ∙ lowest.2 (j - i) (omega (arith, below, from)));
    }

-- no bit is set in what is left of a word
rest_empty : (words : List ℕ) (i j : ℕ) → get_or words (i / 64) 0 / 2 ^ (i % 64) ≡ 0 → i ≤ j → j < (i / 64 + 1) * 64 → bit words j ≡ 0
rest_empty words i j none from before =
    let is : i + (j - i) ≡ j = omega arith in
    ap (bit words) (sym is) ∙ (moved words i (j - i) (omega (arith, before, from)) ∙ (ap (λ n. bit_at n (j - i)) none ∙ bit_at-zero (j - i)))

pub from_next : (words : List ℕ) (i last : ℕ) (o : Option ℕ) → get_or words (i / 64) 0 / 2 ^ (i % 64) ≡ 0 →
    MatchOption o (NoneIsSet words ((i / 64 + 1) * 64) (last * 64)) (IsFirst words ((i / 64 + 1) * 64) (last * 64)) → MatchOption o (NoneIsSet words i (last * 64)) (IsFirst words i (last * 64))
from_next words i last None none rest = λ j from before.
    elim (cases_lt j ((i / 64 + 1) * 64)) [ inl near ↦ rest_empty words i j none from near | inr later ↦ rest j later before ]
from_next words i last (Some t) none first =
    record {
      from = omega (arith, first.from);
      before = first.before;
      set = first.set;
      least = λ j from before.
          elim (cases_lt j ((i / 64 + 1) * 64)) [ inl near ↦ rest_empty words i j none from near | inr later ↦ first.least j later before ];
    }
