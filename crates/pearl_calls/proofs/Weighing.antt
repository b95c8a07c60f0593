-- Weights are told up to a limit, and those of procedures are found in the order of their numbers.
use Rattle.std.proofs.Common.{◌≡◌, ℕ, zero, suc, ◌+◌, ◌-◌, ◌^◌, ◌<◌, ◌≤◌, max, min, true, nat_eq, nat_lt, List, [], ◌∷◌, ◌++◌, length, map, take, set, get_or, Option, Some, None, refl, sym, ap, ◌∙◌, subst, arith, true≢false, eq-eqb, eqb-true, append-nil}
use Rattle.std.specs.Prelude.{slice_get}
use Rattle.std.specs.List.{list_any, filter_map, cons_option}
use Rattle.std.proofs.lemmas.Bool.{ltb-true, lt-ltb}
use Rattle.std.proofs.lemmas.List.{length-set, get_or-set_same, get_or-set_other, take_more, same_lists, get_or_default, length-map}
use Rattle.std.proofs.lemmas.List.Elements.{filter_map-append}
use Rattle.std.proofs.lemmas.Option.{slice_get-get_or}
use Rattle.pearl_calls.proofs.Adding.{add_up}
use Rattle.pearl_calls.proofs.Closing.{take_length}
use Rattle.pearl_calls.proofs.Following.{none_calls_back, callees_first, only_procedures}
use Rattle.pearl_calls.proofs.Rows.{stands_at}
use Rattle.pearl_calls.proofs.Truths.{by_case, or_left, or_right}
use Rattle.pearl_calls.proofs.Waiting.{stands_split}
use Rattle.pearl_calls.specs.Callers.{Caller, callees, callees_of}
use Rattle.pearl_calls.specs.Cycles.{SomeCallsItself}
use Rattle.pearl_calls.specs.Numberings.{IsNumbering}
use Rattle.pearl_calls.specs.Weights.{called, greatest, whole_weight, capped, weights_of}

capped_sum : (a b limit : ℕ) → min (a + b) limit ≡ min (a + min b limit) limit
capped_sum a b limit = omega arith

capped_most : (a b limit : ℕ) → min (max a b) limit ≡ max (min a limit) (min b limit)
capped_most a b limit = omega arith

there : (xs : List Caller) (i : ℕ) → i < length xs → (caller : Caller) × (slice_get xs i ≡ Some caller)
there [] i less = absurd (omega (arith, less))
there (x ∷ xs) zero less = (x, refl)
there (x ∷ xs) (suc i) less = there xs i (omega (arith, less))

pub past : {X : Type 0} (xs : List X) (i : ℕ) → length xs ≤ i → slice_get xs i ≡ None
past [] i more = refl
past (x ∷ xs) zero more = absurd (omega (arith, more))
past (x ∷ xs) (suc i) more = past xs i (omega (arith, more))

module _ (procedures : List Caller) where
  abbrev told : Caller → ℕ
  told caller = capped (whole_weight procedures caller)

  abbrev told_of : Option Caller → ℕ
  told_of None = 0
  told_of (Some caller) = told caller

  -- this weight of a procedure has been found
  abbrev pub IsFound : List ℕ → ℕ → Type 0
  IsFound weights number = get_or weights number 0 ≡ told_of (slice_get procedures number)

  told_most : (callers : List Caller) → capped (greatest (map (whole_weight procedures) callers)) ≡ greatest (map told callers)
  told_most [] = omega arith
  told_most (x ∷ callers) =
      capped_most (whole_weight procedures x) (greatest (map (whole_weight procedures) callers)) (2 ^ 32 - 1) ∙
      ap (λ n. max (told x) n) (told_most callers)

  module _ (weights : List ℕ) (long : length weights ≡ length procedures) where
    same_callees : (numbers : List ℕ) → ((number : ℕ) → list_any (nat_eq number) numbers ≡ true → number < length procedures → IsFound weights number) →
        greatest (filter_map (slice_get weights) numbers) ≡ greatest (map told (filter_map (slice_get procedures) numbers))
    same_callees [] found = refl
    same_callees (x ∷ numbers) found =
        let rest = same_callees numbers (λ number h. found number (or_right (nat_eq number x) (list_any (nat_eq number) numbers) h)) in
        by_case _ (nat_lt x (length procedures))
        (λ t.
        let less : x < length procedures = ltb-true x (length procedures) t in
        let procedure = there procedures x less in
        let weight : slice_get weights x ≡ Some (told procedure.0) =
        slice_get-get_or weights x 0 (omega (arith, less, long)) ∙
        ap (λ n. Some n) (found x (or_left (nat_eq x x) (list_any (nat_eq x) numbers) (eq-eqb x x refl)) less ∙ ap told_of procedure.1) in
        ap (λ o. greatest (cons_option o (filter_map (slice_get weights) numbers))) weight ∙
        ap (λ n. max (told procedure.0) n) rest ∙
        sym (ap (λ o. greatest (map told (cons_option o (filter_map (slice_get procedures) numbers)))) procedure.1))
        (λ f.
        let more : length procedures ≤ x = omega (arith, λ (u : x < length procedures). true≢false (sym (lt-ltb x (length procedures) u) ∙ f)) in
        ap (λ o. greatest (cons_option o (filter_map (slice_get weights) numbers))) (past weights x (omega (arith, more, long))) ∙ rest ∙
        sym (ap (λ o. greatest (map told (cons_option o (filter_map (slice_get procedures) numbers)))) (past procedures x more)))

    told_sum : (SomeCallsItself procedures → ⊥) → (caller : Caller) →
        ((number : ℕ) → list_any (nat_eq number) caller.calls ≡ true → number < length procedures → IsFound weights number) →
        capped (caller.own + greatest (filter_map (slice_get weights) caller.calls)) ≡ told caller
    told_sum quiet caller found =
        ap (λ n. capped (caller.own + n)) (same_callees caller.calls found ∙ sym (told_most (called procedures caller))) ∙
        sym (capped_sum caller.own (greatest (map (whole_weight procedures) (called procedures caller))) (2 ^ 32 - 1)) ∙
        sym (ap capped (add_up procedures quiet caller))

  pub record Weighed (numbered weights : List ℕ) : Type 0 where
    pub counted : length weights ≡ length procedures
    pub weighed : (number : ℕ) → list_any (nat_eq number) numbered ≡ true → IsFound weights number

  told_at : (xs : List Caller) (i : ℕ) → i < length xs → get_or (map told xs) i 0 ≡ told_of (slice_get xs i)
  told_at [] i less = absurd (omega (arith, less))
  told_at (x ∷ xs) zero less = refl
  told_at (x ∷ xs) (suc i) less = told_at xs i (omega (arith, less))

  module _ (order : List ℕ) (numbering : IsNumbering procedures order) where
    pub first_weighed : (weights : List ℕ) → length weights ≡ length procedures → Weighed (take 0 order) weights
    first_weighed weights long = record { counted = long; weighed = λ number h. absurd (true≢false (sym h)) }

    next_weighed : (k : ℕ) (weights : List ℕ) (p weight : ℕ) (caller : Caller) → k < length order → p ≡ get_or order k 0 →
        slice_get procedures p ≡ Some caller → Weighed (take k order) weights →
        weight ≡ capped (caller.own + greatest (filter_map (slice_get weights) caller.calls)) → Weighed (take (k + 1) order) (set weights p weight)
    next_weighed k weights p weight caller less e is h v =
        let inside : p < length procedures = by_case _ (nat_lt p (length procedures)) (λ t. ltb-true p (length procedures) t)
        (λ f. let more : length procedures ≤ p = omega (arith, λ (u : p < length procedures). true≢false (sym (lt-ltb p (length procedures) u) ∙ f)) in
        let none : slice_get procedures p ≡ None = past procedures p more in
        absurd (let both : Some caller ≡ None = sym is ∙ none in cc)) in
        let right : weight ≡ told caller = v ∙ told_sum weights h.counted (none_calls_back procedures order numbering) caller
        (λ number member within. h.weighed number (callees_first procedures order k number numbering less within
        (subst (λ z. list_any (nat_eq number) (callees procedures z) ≡ true) e
        (subst (λ o. list_any (nat_eq number) (callees_of o) ≡ true) (sym is) member)))) in
        record {
          counted = length-set weights p weight ∙ h.counted;
          weighed = λ number member. by_case _ (nat_eq number p)
              (λ same.
              let here : number ≡ p = eqb-true number p same in
              subst (λ z. IsFound (set weights p weight) z) (sym here)
              (get_or-set_same weights p weight 0 (omega (arith, inside, h.counted)) ∙ right ∙ sym (ap told_of is)))
              (λ apart.
              get_or-set_other weights p number weight 0 (λ u. true≢false (sym (eq-eqb number p u) ∙ apart)) ∙
              h.weighed number (stands_split number (take k order) p
              (subst (λ z. list_any (nat_eq number) z ≡ true) (take_more order k 0 less ∙ ap (λ z. take k order ++ z ∷ []) (sym e)) member) apart));
        }

    pub one_weighed : (k : ℕ) (weights : List ℕ) (p weight : ℕ) (caller : Caller) → k < length order → p ≡ get_or order k 0 →
        slice_get procedures p ≡ Some caller → Weighed (take k order) weights →
        weight ≡ capped (caller.own + greatest (filter_map (slice_get weights) caller.calls)) → Weighed (take (k + 1) order) (set weights p weight)
    one_weighed = next_weighed

    pub all_weighed : (weights : List ℕ) → Weighed (take (length order) order) weights → weights ≡ weights_of procedures
    all_weighed weights h =
        same_lists weights (weights_of procedures) (h.counted ∙ sym (length-map procedures told))
        (λ k d less.
        let within : k < length procedures = omega (arith, less, h.counted) in
        let within_told : k < length (weights_of procedures) = omega (arith, within, length-map procedures told) in
        get_or_default weights k d 0 less ∙
        h.weighed k (subst (λ z. list_any (nat_eq k) z ≡ true) (sym (take_length order)) (numbering.whole k within)) ∙
        sym (told_at procedures k within) ∙
        get_or_default (weights_of procedures) k 0 d within_told)

    pub weighs : (caller : Caller) (weights : List ℕ) → weights ≡ weights_of procedures →
        capped (caller.own + greatest (filter_map (slice_get weights) caller.calls)) ≡ capped (whole_weight procedures caller)
    weighs caller weights e =
        told_sum weights (ap (λ xs. length xs) e ∙ length-map procedures told) (none_calls_back procedures order numbering) caller
        (λ number member within. ap (λ xs. get_or xs number 0) e ∙ told_at procedures number within)

    -- a procedure of the order is there
    pub is_there : (k : ℕ) → k < length order → get_or order k 0 < length procedures
    is_there k less = only_procedures procedures order (get_or order k 0) numbering (stands_at order k less)

greatest_last : (numbers : List ℕ) (last : ℕ) → greatest (numbers ++ last ∷ []) ≡ max (greatest numbers) last
greatest_last [] last = omega arith
greatest_last (x ∷ numbers) last = omega (arith, greatest_last numbers last)

found_last : (weights numbers : List ℕ) (last : ℕ) →
    filter_map (slice_get weights) (numbers ++ last ∷ []) ≡ filter_map (slice_get weights) numbers ++ cons_option (slice_get weights last) []
found_last weights numbers last = filter_map-append (slice_get weights) numbers (last ∷ [])

-- the greatest weight that is called, with one call more
pub most_some : (weights numbers : List ℕ) (k weight : ℕ) → k < length numbers → slice_get weights (get_or numbers k 0) ≡ Some weight →
    greatest (filter_map (slice_get weights) (take (k + 1) numbers)) ≡ max (greatest (filter_map (slice_get weights) (take k numbers))) weight
most_some weights numbers k weight less e =
    ap (λ z. greatest (filter_map (slice_get weights) z)) (take_more numbers k 0 less) ∙
    ap greatest (found_last weights (take k numbers) (get_or numbers k 0)) ∙
    ap (λ o. greatest (filter_map (slice_get weights) (take k numbers) ++ cons_option o [])) e ∙
    greatest_last (filter_map (slice_get weights) (take k numbers)) weight

pub most_none : (weights numbers : List ℕ) (k : ℕ) → k < length numbers → slice_get weights (get_or numbers k 0) ≡ None →
    greatest (filter_map (slice_get weights) (take (k + 1) numbers)) ≡ greatest (filter_map (slice_get weights) (take k numbers))
most_none weights numbers k less e =
    ap (λ z. greatest (filter_map (slice_get weights) z)) (take_more numbers k 0 less) ∙
    ap greatest (found_last weights (take k numbers) (get_or numbers k 0)) ∙
    ap (λ o. greatest (filter_map (slice_get weights) (take k numbers) ++ cons_option o [])) e ∙
    ap greatest (append-nil (filter_map (slice_get weights) (take k numbers)))
