-- What becomes of the rows when a key comes to a place or goes, and that the first bits tell the first keys and places.
use Rattle.std.proofs.Common.{◌≡◌, ◌≢◌, ℕ, zero, suc, ◌+◌, ◌-◌, ◌*◌, ◌/◌, ◌%◌, ◌<◌, ◌≤◌, ◌⊎◌, inl, inr, List, Option, Some, None, length, get_or, set, replicate, sym, ap, ap₂, subst, ◌∙◌, arith, length-set, get_or-set_same, get_or-set_other}
use Rattle.std.specs.Prelude.{MatchOption, option_map}
use Rattle.std.specs.Int.{bit_at}
use Rattle.std.proofs.lemmas.Bool.{cases_eq, cases_lt}
use Rattle.std.proofs.lemmas.List.{get_or_past, get_or-replicate, length-replicate}
use Rattle.std.proofs.lemmas.Nat.Bits.{bit_at-zero}
use Rattle.std.proofs.lemmas.Option.{none-some, same_Some}
use Rattle.pearl_bits.specs.Bits.{bit, Changes, IsFirst, NoneIsSet}
use Rattle.pearl_timer.specs.Places.{place_of, IsEmpty, IsNextIn, NoneIsIn, IsFirstPlace, AreRows, IsLowered}

abbrev Holds : List (Option ℕ) → ℕ → ℕ → Type 0
Holds places t p = place_of places t ≡ Some p

within : (places : List (Option ℕ)) (t p : ℕ) → Holds places t p → t < length places
within places t p is = elim (cases_lt t (length places)) [
  | inl less ↦ less
  | inr past ↦ absurd (none-some p (sym (get_or_past places t None past) ∙ is))
]

-- where a task's bit of a number's row is
place_is : (p t q u : ℕ) → t < 448 → u < 448 → p * 448 + t ≡ q * 448 + u → (p ≡ q) × (t ≡ u)
place_is p t q u a b e = (omega arith, omega arith)

-- THE START

no_bit : (n i : ℕ) → bit (replicate n 0) i ≡ 0
unfolding bit
no_bit n i = elim (cases_lt (i / 64) n) [
  | inl less ↦ ap (λ word. bit_at word (i % 64)) (get_or-replicate n (i / 64) 0 0 less) ∙ bit_at-zero (i % 64)
  | inr past ↦ ap (λ word. bit_at word (i % 64)) (get_or_past (replicate n 0) (i / 64) 0 (omega (arith, past, length-replicate {A = ℕ} n 0))) ∙ bit_at-zero (i % 64)
]

none_holds : (n t p : ℕ) → Holds (replicate n None) t p → ⊥
none_holds zero t p is = none-some p is
none_holds (suc n) zero p is = none-some p is
none_holds (suc n) (suc t) p is = none_holds n t p is

pub rows_of_none : (n : ℕ) → n ≤ 448 → AreRows (replicate n None) (replicate 3143 0) (replicate 8 0)
rows_of_none n few = record {
  few = omega (arith, few, length-replicate {A = Option ℕ} n None);
  words = length-replicate {A = ℕ} 3143 0;
  eight = length-replicate {A = ℕ} 8 0;
  small = λ t p is. absurd (none_holds n t p is);
  member = λ t p is. absurd (none_holds n t p is);
  place = λ t p is. absurd (none_holds n t p is);
  real = λ t p low is. let no = no_bit 3143 (p * 448 + t) in absurd (omega (arith, is, no));
  taken = λ p is. let no = no_bit 8 p in absurd (omega (arith, is, no));
}

-- CHANGES

module _ (places : List (Option ℕ)) (rows used : List ℕ) (are : AreRows places rows used) where
  -- a task comes, that isn't in the set
  pub rows_with : (t p : ℕ) (rows' used' : List ℕ) → t < length places → p < 449 → get_or places t None ≡ None → length rows' ≡ length rows → length used' ≡ length used →
      Changes rows rows' (p * 448 + t) 1 → Changes used used' p 1 → AreRows (set places t (Some p)) rows' used'
  rows_with t p rows' used' there low out as_many as_many' row number =
      let few = are.few in
      record {
        few = omega (arith, length-set places t (Some p), few);
        words = as_many ∙ are.words;
        eight = as_many' ∙ are.eight;
        small = λ u q is. go u q is (cases_eq u t);
        member = λ u q is. elim (cases_eq u t) [
          | inl same ↦ let e = this u q same is in ap₂ (λ q u. bit rows' (q * 448 + u)) (sym e) same ∙ row.this
          | inr differs ↦ let old = other u q differs is in
              row.others (q * 448 + u) (λ e. differs (place_is q u p t (omega (arith, are.small u q old)) (omega (arith, there, few)) e).1) ∙ are.member u q old
        ];
        place = λ u q is. elim (cases_eq q p) [
          | inl same ↦ ap (bit used') same ∙ number.this
          | inr differs ↦ number.others q differs ∙ elim (cases_eq u t) [
            | inl same ↦ absurd (differs (sym (this u q same is)))
            | inr apart ↦ are.place u q (other u q apart is)
          ]
        ];
        real = λ u q low' is. elim (cases_eq u t) [
          | inl same ↦ elim (cases_eq q p) [
            | inl same' ↦ ap (λ u. get_or (set places t (Some p)) u None) same ∙ (get_or-set_same places t (Some p) None there ∙ ap Some (sym same'))
            | inr differs ↦ absurd (none-some q (sym out ∙ (ap (λ u. get_or places u None) (sym same) ∙
                are.real u q low' (sym (row.others (q * 448 + u) (λ e. differs (place_is q u p t low' (omega (arith, there, few)) e).0)) ∙ is))))
          ]
          | inr apart ↦ get_or-set_other places t u (Some p) None apart ∙
              are.real u q low' (sym (row.others (q * 448 + u) (λ e. apart (place_is q u p t low' (omega (arith, there, few)) e).1)) ∙ is)
        ];
        taken = λ q is. elim (cases_eq q p) [
          | inl same ↦ (t, get_or-set_same places t (Some p) None there ∙ ap Some (sym same))
          | inr differs ↦
              let found = are.taken q (sym (number.others q differs) ∙ is) in
              (found.0, get_or-set_other places t found.0 (Some p) None (λ e. none-some q (sym out ∙ (ap (λ u. get_or places u None) (sym e) ∙ found.1))) ∙ found.1)
        ];
      }
    where
      this : (u q : ℕ) → u ≡ t → Holds (set places t (Some p)) u q → p ≡ q
      this u q same is = same_Some p q (sym (get_or-set_same places t (Some p) None there) ∙ (ap (λ u. get_or (set places t (Some p)) u None) (sym same) ∙ is))

      other : (u q : ℕ) → u ≢ t → Holds (set places t (Some p)) u q → Holds places u q
      other u q differs is = sym (get_or-set_other places t u (Some p) None differs) ∙ is

      go : (u q : ℕ) → Holds (set places t (Some p)) u q → (u ≡ t) ⊎ (u ≢ t) → (u < 448) × (q < 449)
      go u q is (inl same) = let e = this u q same is in let few = are.few in (omega (arith, same, there, few), omega (arith, e, low))
      go u q is (inr differs) = are.small u q (other u q differs is)

  -- a task goes, and its number's bit with the last one of that number
  pub rows_without : (t p : ℕ) (rows' used' : List ℕ) → Holds places t p → length rows' ≡ length rows → length used' ≡ length used →
      Changes rows rows' (p * 448 + t) 0 → IsLowered rows' p used used' →
      AreRows (set places t None) rows' used'
  rows_without t p rows' used' there as_many as_many' row number = record {
    few = omega (arith, length-set places t None, are.few);
    words = as_many ∙ are.words;
    eight = as_many' ∙ are.eight;
    small = λ u q is. are.small u q (old u q is);
    member = kept;
    place = λ u q is. elim number [
      | inl gone ↦ elim (cases_eq q p) [
        | inl same ↦
            let set_ = kept u q is in
            let no = gone.1 (q * 448 + u) (omega (arith, same)) (omega (arith, same, are.small u q (old u q is))) in
            absurd (omega (arith, set_, no))
        | inr differs ↦ gone.0.others q differs ∙ are.place u q (old u q is)
      ]
      | inr stays ↦ ap (λ used. bit used q) stays.0 ∙ are.place u q (old u q is)
    ];
    real = real;
    taken = λ q is. elim number [
      | inl gone ↦ elim (cases_eq q p) [
        | inl same ↦ let no = ap (bit used') same ∙ gone.0.this in absurd (omega (arith, is, no))
        | inr differs ↦
            let found = are.taken q (sym (gone.0.others q differs) ∙ is) in
            (found.0, get_or-set_other places t found.0 None None (λ e. differs (same_Some q p (sym found.1 ∙ (ap (λ u. get_or places u None) e ∙ there)))) ∙ found.1)
      ]
      | inr stays ↦ elim (cases_eq q p) [
        | inl is_p ↦
            let i : ℕ = stays.1.0 in
            let u : ℕ = i - p * 448 in
            let at : p * 448 + u ≡ i = omega (arith, stays.1.1.from) in
            (u, subst (λ q. Holds (set places t None) u q) (sym is_p) (real u p (omega (arith, stays.1.1.before, stays.1.1.from)) (ap (bit rows') at ∙ stays.1.1.set)))
        | inr differs ↦
            let found = are.taken q (ap (λ used. bit used q) (sym stays.0) ∙ is) in
            (found.0, get_or-set_other places t found.0 None None (λ e. differs (same_Some q p (sym found.1 ∙ (ap (λ u. get_or places u None) e ∙ there)))) ∙ found.1)
      ]
    ];
  }
    where
      inside : t < length places
      inside = within places t p there

      apart : (u q : ℕ) → Holds (set places t None) u q → u ≢ t
      apart u q is e = none-some q (sym (get_or-set_same places t None None inside) ∙ (ap (λ u. get_or (set places t None) u None) (sym e) ∙ is))

      old : (u q : ℕ) → Holds (set places t None) u q → Holds places u q
      old u q is = sym (get_or-set_other places t u None None (apart u q is)) ∙ is

      kept : (u q : ℕ) → Holds (set places t None) u q → bit rows' (q * 448 + u) ≡ 1
      kept u q is =
          let small = are.small u q (old u q is) in
          let few = are.small t p there in
          row.others (q * 448 + u) (λ e. apart u q is (place_is q u p t (omega (arith, small)) (omega (arith, few)) e).1) ∙ are.member u q (old u q is)

      real : (u q : ℕ) → u < 448 → bit rows' (q * 448 + u) ≡ 1 → Holds (set places t None) u q
      real u q low is = elim (cases_eq (q * 448 + u) (p * 448 + t)) [
        | inl same ↦ let no = ap (bit rows') same ∙ row.this in absurd (omega (arith, is, no))
        | inr differs ↦
            let was = are.real u q low (sym (row.others (q * 448 + u) differs) ∙ is) in
            get_or-set_other places t u None None (λ e. differs (ap₂ (λ q u. q * 448 + u)
            (same_Some q p (sym was ∙ (ap (λ u. get_or places u None) e ∙ there))) e)) ∙ was
      ]

  -- THE FIRST ONES

  -- the first key in a place
  pub next_is : (p start : ℕ) (o : Option ℕ) → start ≤ 448 → MatchOption o (NoneIsSet rows (p * 448 + start) (p * 448 + 448)) (IsFirst rows (p * 448 + start) (p * 448 + 448)) →
      MatchOption (option_map (λ i. i - p * 448) o) (NoneIsIn places p start) (IsNextIn places p start)
  next_is p start None small none = λ t from is.
      let set_ = are.member t p is in
      let no = none (p * 448 + t) (omega (arith, from)) (omega (arith, are.small t p is)) in
      omega (arith, set_, no)
  next_is p start (Some i) small first =
      let t : ℕ = i - p * 448 in
      let at : p * 448 + t ≡ i = omega (arith, first.from) in
      record {
        here = are.real t p (omega (arith, first.before, first.from)) (ap (bit rows) at ∙ first.set);
        from = omega (arith, first.from);
        small = omega (arith, first.before, first.from);
        first = λ u from before is.
            let set_ = are.member u p is in
            let no = first.least (p * 448 + u) (omega (arith, from)) (omega (arith, before)) in
            omega (arith, set_, no);
      }

  -- the first place that has a key
  pub first_place_is : (o : Option ℕ) → MatchOption o (NoneIsSet used 0 448) (IsFirst used 0 448) → MatchOption o ((p : ℕ) → p < 448 → IsEmpty places p) (IsFirstPlace places)
  first_place_is None none = λ p small t is.
      let set_ = are.place t p is in
      let no = none p (omega arith) small in
      omega (arith, set_, no)
  first_place_is (Some p) first = record {
    within = first.before;
    has = are.taken p first.set;
    first = λ q before t is.
        let set_ = are.place t q is in
        let no = first.least q (omega arith) before in
        omega (arith, set_, no);
  }

-- the seven words of a place's row
pub row_is : (rows : List ℕ) (p start : ℕ) (o : Option ℕ) → MatchOption o (NoneIsSet rows (p * 448 + start) ((p * 7 + 7) * 64)) (IsFirst rows (p * 448 + start) ((p * 7 + 7) * 64)) →
    MatchOption o (NoneIsSet rows (p * 448 + start) (p * 448 + 448)) (IsFirst rows (p * 448 + start) (p * 448 + 448))
row_is rows p start o is = let e : (p * 7 + 7) * 64 ≡ p * 448 + 448 = omega arith in subst (λ n. MatchOption o (NoneIsSet rows (p * 448 + start) n) (IsFirst rows (p * 448 + start) n)) e is
