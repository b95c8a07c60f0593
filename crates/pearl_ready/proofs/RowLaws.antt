-- What becomes of the rows when a task comes or goes, and that the first bits tell the task that acts next.
use Rattle.std.proofs.Common.{◌≡◌, ◌≢◌, ℕ, zero, suc, ◌+◌, ◌-◌, ◌*◌, ◌/◌, ◌%◌, ◌<◌, ◌≤◌, ◌⊎◌, inl, inr, List, [], ◌∷◌, Option, Some, None, length, get_or, set, replicate, refl, sym, ap, ap₂, subst, ◌∙◌, arith, length-set, get_or-set_same, get_or-set_other}
use Rattle.std.specs.Prelude.{MatchOption, IsSome}
use Rattle.std.specs.Int.{bit_at}
use Rattle.std.proofs.lemmas.Bool.{cases_eq, cases_lt}
use Rattle.std.proofs.lemmas.List.{get_or_past, get_or-replicate, length-replicate}
use Rattle.std.proofs.lemmas.Nat.Bits.{bit_at-zero}
use Rattle.std.proofs.lemmas.Option.{none-some, same_Some, slice_get_within, get_or_from_slice_get}
use Rattle.pearl_bits.specs.Bits.{bit, Changes, IsFirst, NoneIsSet}
use Rattle.pearl_ready.specs.Best.{Set, Has, IsEmpty, IsBest}
use Rattle.pearl_ready.specs.Rows.{Holds, AreRows, IsLowered, IsChoice}

-- the two ways to say that a task is in the set
pub has : (tasks : Set) (t p : ℕ) → Holds tasks t p → Has tasks t p
has [] t p is = absurd (none-some p is)
has (x ∷ tasks) zero p is = ap Some is
has (x ∷ tasks) (suc t) p is = has tasks t p is

pub holds : (tasks : Set) (t p : ℕ) → Has tasks t p → Holds tasks t p
holds tasks t p is = get_or_from_slice_get tasks t (Some p) None is

within : (tasks : Set) (t p : ℕ) → Holds tasks t p → t < length tasks
within tasks t p is = slice_get_within tasks t (Some p) (has tasks t p is)

-- where a task's bit of a number's row is
place_is : (p t q u : ℕ) → t < 256 → u < 256 → p * 256 + t ≡ q * 256 + u → (p ≡ q) × (t ≡ u)
place_is p t q u a b e = (omega arith, omega arith)

-- THE START

no_bit : (n i : ℕ) → bit (replicate n 0) i ≡ 0
unfolding bit
no_bit n i = elim (cases_lt (i / 64) n) [
  | inl less ↦ ap (λ word. bit_at word (i % 64)) (get_or-replicate n (i / 64) 0 0 less) ∙ bit_at-zero (i % 64)
  | inr past ↦ ap (λ word. bit_at word (i % 64)) (get_or_past (replicate n 0) (i / 64) 0 (omega (arith, past, length-replicate {A = ℕ} n 0))) ∙ bit_at-zero (i % 64)
]

none_holds : (n t p : ℕ) → Holds (replicate n None) t p → ⊥
none_holds zero t p is = none-some p is
none_holds (suc n) zero p is = none-some p is
none_holds (suc n) (suc t) p is = none_holds n t p is

pub rows_of_none : (n : ℕ) → n ≤ 200 → AreRows (replicate n None) (replicate 1024 0) (replicate 4 0)
rows_of_none n few = record {
  few = omega (arith, few, length-replicate {A = Option ℕ} n None);
  words = length-replicate {A = ℕ} 1024 0;
  four = length-replicate {A = ℕ} 4 0;
  small = λ t p is. absurd (none_holds n t p is);
  member = λ t p is. absurd (none_holds n t p is);
  number = λ t p is. absurd (none_holds n t p is);
  real = λ t p low is. let no = no_bit 1024 (p * 256 + t) in absurd (omega (arith, is, no));
  used = λ p is. let no = no_bit 4 p in absurd (omega (arith, is, no));
}

-- CHANGES

module _ (tasks : Set) (rows numbers : List ℕ) (are : AreRows tasks rows numbers) where
  -- a task comes, that isn't in the set
  pub rows_with : (t p : ℕ) (rows' numbers' : List ℕ) → t < length tasks → p < 256 → get_or tasks t None ≡ None → length rows' ≡ length rows → length numbers' ≡ length numbers →
      Changes rows rows' (p * 256 + t) 1 → Changes numbers numbers' p 1 → AreRows (set tasks t (Some p)) rows' numbers'
  rows_with t p rows' numbers' there low out as_many as_many' row number =
      let few = are.few in
      record {
        few = omega (arith, length-set tasks t (Some p), few);
        words = as_many ∙ are.words;
        four = as_many' ∙ are.four;
        small = λ u q is. go u q is (cases_eq u t);
        member = λ u q is. elim (cases_eq u t) [
          | inl same ↦ let e = this u q same is in ap₂ (λ q u. bit rows' (q * 256 + u)) (sym e) same ∙ row.this
          | inr differs ↦ let old = other u q differs is in
              row.others (q * 256 + u) (λ e. differs (place_is q u p t (omega (arith, are.small u q old)) (omega (arith, there, few)) e).1) ∙ are.member u q old
        ];
        number = λ u q is. elim (cases_eq q p) [
          | inl same ↦ ap (bit numbers') same ∙ number.this
          | inr differs ↦ number.others q differs ∙ elim (cases_eq u t) [
            | inl same ↦ absurd (differs (sym (this u q same is)))
            | inr apart ↦ are.number u q (other u q apart is)
          ]
        ];
        real = λ u q low' is. elim (cases_eq u t) [
          | inl same ↦ elim (cases_eq q p) [
            | inl same' ↦ ap (λ u. get_or (set tasks t (Some p)) u None) same ∙ (get_or-set_same tasks t (Some p) None there ∙ ap Some (sym same'))
            | inr differs ↦ absurd (none-some q (sym out ∙ (ap (λ u. get_or tasks u None) (sym same) ∙
                are.real u q low' (sym (row.others (q * 256 + u) (λ e. differs (place_is q u p t low' (omega (arith, there, few)) e).0)) ∙ is))))
          ]
          | inr apart ↦ get_or-set_other tasks t u (Some p) None apart ∙
              are.real u q low' (sym (row.others (q * 256 + u) (λ e. apart (place_is q u p t low' (omega (arith, there, few)) e).1)) ∙ is)
        ];
        used = λ q is. elim (cases_eq q p) [
          | inl same ↦ (t, get_or-set_same tasks t (Some p) None there ∙ ap Some (sym same))
          | inr differs ↦
              let found = are.used q (sym (number.others q differs) ∙ is) in
              (found.0, get_or-set_other tasks t found.0 (Some p) None (λ e. none-some q (sym out ∙ (ap (λ u. get_or tasks u None) (sym e) ∙ found.1))) ∙ found.1)
        ];
      }
    where
      this : (u q : ℕ) → u ≡ t → Holds (set tasks t (Some p)) u q → p ≡ q
      this u q same is = same_Some p q (sym (get_or-set_same tasks t (Some p) None there) ∙ (ap (λ u. get_or (set tasks t (Some p)) u None) (sym same) ∙ is))

      other : (u q : ℕ) → u ≢ t → Holds (set tasks t (Some p)) u q → Holds tasks u q
      other u q differs is = sym (get_or-set_other tasks t u (Some p) None differs) ∙ is

      go : (u q : ℕ) → Holds (set tasks t (Some p)) u q → (u ≡ t) ⊎ (u ≢ t) → (u < 200) × (q < 256)
      go u q is (inl same) = let e = this u q same is in let few = are.few in (omega (arith, same, there, few), omega (arith, e, low))
      go u q is (inr differs) = are.small u q (other u q differs is)

  -- a task goes, and its number's bit with the last one of that number
  pub rows_without : (t p : ℕ) (rows' numbers' : List ℕ) → Holds tasks t p → length rows' ≡ length rows → length numbers' ≡ length numbers →
      Changes rows rows' (p * 256 + t) 0 → IsLowered rows' p numbers numbers' →
      AreRows (set tasks t None) rows' numbers'
  rows_without t p rows' numbers' there as_many as_many' row number = record {
    few = omega (arith, length-set tasks t None, are.few);
    words = as_many ∙ are.words;
    four = as_many' ∙ are.four;
    small = λ u q is. are.small u q (old u q is);
    member = kept;
    number = λ u q is. elim number [
      | inl gone ↦ elim (cases_eq q p) [
        | inl same ↦
            let set_ = kept u q is in
            let no = gone.1 (q * 256 + u) (omega (arith, same)) (omega (arith, same, are.small u q (old u q is))) in
            absurd (omega (arith, set_, no))
        | inr differs ↦ gone.0.others q differs ∙ are.number u q (old u q is)
      ]
      | inr stays ↦ ap (λ numbers. bit numbers q) stays.0 ∙ are.number u q (old u q is)
    ];
    real = real;
    used = λ q is. elim number [
      | inl gone ↦ elim (cases_eq q p) [
        | inl same ↦ let no = ap (bit numbers') same ∙ gone.0.this in absurd (omega (arith, is, no))
        | inr differs ↦
            let found = are.used q (sym (gone.0.others q differs) ∙ is) in
            (found.0, get_or-set_other tasks t found.0 None None (λ e. differs (same_Some q p (sym found.1 ∙ (ap (λ u. get_or tasks u None) e ∙ there)))) ∙ found.1)
      ]
      | inr stays ↦ elim (cases_eq q p) [
        | inl is_p ↦
            let i : ℕ = stays.1.0 in
            let u : ℕ = i - p * 256 in
            let at : p * 256 + u ≡ i = omega (arith, stays.1.1.from) in
            (u, subst (λ q. Holds (set tasks t None) u q) (sym is_p) (real u p (omega (arith, stays.1.1.before, stays.1.1.from)) (ap (bit rows') at ∙ stays.1.1.set)))
        | inr differs ↦
            let found = are.used q (ap (λ numbers. bit numbers q) (sym stays.0) ∙ is) in
            (found.0, get_or-set_other tasks t found.0 None None (λ e. differs (same_Some q p (sym found.1 ∙ (ap (λ u. get_or tasks u None) e ∙ there)))) ∙ found.1)
      ]
    ];
  }
    where
      inside : t < length tasks
      inside = within tasks t p there

      apart : (u q : ℕ) → Holds (set tasks t None) u q → u ≢ t
      apart u q is e = none-some q (sym (get_or-set_same tasks t None None inside) ∙ (ap (λ u. get_or (set tasks t None) u None) (sym e) ∙ is))

      old : (u q : ℕ) → Holds (set tasks t None) u q → Holds tasks u q
      old u q is = sym (get_or-set_other tasks t u None None (apart u q is)) ∙ is

      kept : (u q : ℕ) → Holds (set tasks t None) u q → bit rows' (q * 256 + u) ≡ 1
      kept u q is =
          let small = are.small u q (old u q is) in
          let few = are.small t p there in
          row.others (q * 256 + u) (λ e. apart u q is (place_is q u p t (omega (arith, small)) (omega (arith, few)) e).1) ∙ are.member u q (old u q is)

      real : (u q : ℕ) → u < 256 → bit rows' (q * 256 + u) ≡ 1 → Holds (set tasks t None) u q
      real u q low is = elim (cases_eq (q * 256 + u) (p * 256 + t)) [
        | inl same ↦ let no = ap (bit rows') same ∙ row.this in absurd (omega (arith, is, no))
        | inr differs ↦
            let was = are.real u q low (sym (row.others (q * 256 + u) differs) ∙ is) in
            get_or-set_other tasks t u None None (λ e. differs (ap₂ (λ q u. q * 256 + u)
            (same_Some q p (sym was ∙ (ap (λ u. get_or tasks u None) e ∙ there))) e)) ∙ was
      ]

  -- WHO IS NEXT

  -- no number has a bit: nobody is in the set
  pub nobody : NoneIsSet numbers 0 256 → IsEmpty tasks
  nobody none t p is =
      let there = holds tasks t p is in
      let set_ = are.number t p there in
      let no = none p (omega arith) (are.small t p there).1 in
      omega (arith, set_, no)

  module _ (p : ℕ) (first : IsFirst numbers 0 256 p) where
    -- nobody has a smaller number
    urgent : (u q : ℕ) → Has tasks u q → p ≤ q
    urgent u q is = elim (cases_lt q p) [
      | inl less ↦
          let set_ = are.number u q (holds tasks u q is) in
          let no = first.least q (omega arith) less in
          absurd (omega (arith, set_, no))
      | inr up ↦ up
    ]

    -- the first in the row, where the one that acted last isn't in it
    pub first_is_best : (last : Option ℕ) (i : ℕ) → IsFirst rows (p * 256) (p * 256 + 256) i → ((u : ℕ) → last ≡ Some u → Has tasks u p → ⊥) → IsBest last tasks (i - p * 256)
    first_is_best last i is another =
        let t : ℕ = i - p * 256 in
        let at : p * 256 + t ≡ i = omega (arith, is.from) in
        record {
          priority = p;
          there = has tasks t p (are.real t p (omega (arith, is.before, is.from)) (ap (bit rows) at ∙ is.set));
          urgent = urgent;
          first = inr (λ u had. (λ e. another u e had, before u had (cases_lt u t)));
        }
      where
        before : (u : ℕ) → Has tasks u p → (u < i - p * 256) ⊎ (i - p * 256 ≤ u) → i - p * 256 ≤ u
        before u had (inl less) =
            let set_ = are.member u p (holds tasks u p had) in
            let no = is.least (p * 256 + u) (omega arith) (omega (arith, less)) in
            absurd (omega (arith, set_, no))
        before u had (inr up) = up

    -- the one that acted last, or the first in the row
    pub choice_is_best : (last : Option ℕ) (i t : ℕ) → IsFirst rows (p * 256) (p * 256 + 256) i → IsChoice rows p last i t → IsBest last tasks t
    choice_is_best last i t is (inl h) = record { priority = p; there = has tasks t p (are.real t p h.1 h.2); urgent = urgent; first = inl h.0 }
    choice_is_best last i t is (inr h) = subst (IsBest last tasks) (sym h.0) (first_is_best last i is (λ u e had.
        let there = holds tasks u p had in h.1 u e (omega (arith, are.small u p there)) (are.member u p there)))

    -- a number's row isn't empty where the number's bit is set
    pub somebody : NoneIsSet rows (p * 256) (p * 256 + 256) → ⊥
    somebody none =
        let found = are.used p first.set in
        let set_ = are.member found.0 p found.1 in
        let no = none (p * 256 + found.0) (omega arith) (omega (arith, are.small found.0 p found.1)) in
        omega (arith, set_, no)

-- the four words of a number's row
pub row_first : (rows : List ℕ) (p i : ℕ) → IsFirst rows (p * 4 * 64) ((p * 4 + 4) * 64) i → IsFirst rows (p * 256) (p * 256 + 256) i
row_first rows p i is = record {
  from = omega (arith, is.from);
  before = omega (arith, is.before);
  set = is.set;
  least = λ j from before. is.least j (omega (arith, from)) before;
}

pub row_none : (rows : List ℕ) (p : ℕ) → NoneIsSet rows (p * 4 * 64) ((p * 4 + 4) * 64) → NoneIsSet rows (p * 256) (p * 256 + 256)
row_none rows p none j from before = none j (omega (arith, from)) (omega (arith, before))

-- a row that isn't empty has a first bit
pub row_some : (rows : List ℕ) (p : ℕ) (o : Option ℕ) → MatchOption o (NoneIsSet rows (p * 4 * 64) ((p * 4 + 4) * 64)) (IsFirst rows (p * 4 * 64) ((p * 4 + 4) * 64)) →
    (NoneIsSet rows (p * 256) (p * 256 + 256) → ⊥) → IsSome o
row_some rows p None none not = absurd (not (row_none rows p none))
row_some rows p (Some i) first not = refl
