-- Lists of lists that stand in vectors, and steps of the loops that count.
use Rattle.std.proofs.Common.{◌≡◌, ℕ, zero, suc, ◌+◌, ◌<◌, ◌≤◌, Bool, true, false, ◌&&◌, if◌then◌else◌, nat_eq, nat_lt, List, [], ◌∷◌, ◌++◌, length, map, take, set, get_or, Some, Result, Ok, Err, OnErr, Vec, IsPermutation, refl, sym, ap, ◌∙◌, subst, arith, true≢false, eq-eqb, eqb-true}
use Rattle.std.specs.Prelude.{slice_get}
use Rattle.std.specs.List.{list_any}
use Rattle.std.proofs.lemmas.Bool.{ltb-true, lt-ltb}
use Rattle.std.proofs.lemmas.List.{map-set, length-map, length-set, get_or-map, get_or_default, get_or-set_same, get_or-set_other, take_more}
use Rattle.std.proofs.lemmas.Option.{slice_get-get_or}
use Rattle.std.proofs.Math.Seq.{map-set_same}
use Rattle.pearl_calls.proofs.Truths.{by_case, or_left, or_right, is_false}
use Rattle.pearl_calls.proofs.Waiting.{times_permuted, stands_split}
use Rattle.pearl_calls.specs.Callers.{Caller, callees}
use Rattle.pearl_calls.specs.Marks.{one_if, times, open_among, is_closed}
use Rattle.pearl_calls.specs.Numberings.{waits}

pub on_err : {T E P : Type 0} (r : Result T E) → P → OnErr r P
on_err (Ok x) p = tt
on_err (Err e) p = p

-- a row that isn't changed, and one that has a number more
pub row_kept : {Z : Type 0} (rows : List (Vec ℕ Z)) (i : ℕ) (new old : Vec ℕ Z) → old ≡ get_or rows i old → new.items ≡ old.items →
    map (λ (row : Vec ℕ Z). row.items) (set rows i new) ≡ map (λ (row : Vec ℕ Z). row.items) rows
row_kept {Z} rows i new old e f =
    let items : Vec ℕ Z → List ℕ = λ row. row.items in
    map-set_same items rows i new old (f ∙ ap items e)

pub row_more : {Z : Type 0} (rows : List (Vec ℕ Z)) (i : ℕ) (new old : Vec ℕ Z) (x : ℕ) → i < length (map (λ (row : Vec ℕ Z). row.items) rows) →
    old ≡ get_or rows i old → new.items ≡ old.items ++ x ∷ [] →
    map (λ (row : Vec ℕ Z). row.items) (set rows i new) ≡
    set (map (λ (row : Vec ℕ Z). row.items) rows) i (get_or (map (λ (row : Vec ℕ Z). row.items) rows) i [] ++ x ∷ [])
row_more {Z} rows i new old x less e f =
    let items : Vec ℕ Z → List ℕ = λ row. row.items in
    let inside : i < length rows = omega (arith, less, length-map rows items) in
    let before : get_or (map items rows) i [] ≡ old.items = get_or-map items rows i old [] inside ∙ sym (ap items e) in
    map-set items rows i new ∙ ap (λ z. set (map items rows) i z) (f ∙ ap (λ z. z ++ x ∷ []) (sym before))

pub rows_length : {Z : Type 0} (rows : List (Vec ℕ Z)) → length (map (λ (row : Vec ℕ Z). row.items) rows) ≡ length rows
rows_length {Z} rows = length-map rows (λ (row : Vec ℕ Z). row.items)

pub callees_at : (procedures : List Caller) (k : ℕ) (caller : Caller) → k < length procedures → caller ≡ get_or procedures k caller →
    caller.calls ≡ callees procedures k
callees_at [] k caller less e = absurd (omega (arith, less))
callees_at (x ∷ procedures) zero caller less e = ap (λ (c : Caller). c.calls) e
callees_at (x ∷ procedures) (suc k) caller less e = callees_at procedures k caller (omega (arith, less)) e

pub caller_at : (procedures : List Caller) (k : ℕ) (caller : Caller) → k < length procedures → caller ≡ get_or procedures k caller →
    slice_get procedures k ≡ Some caller
caller_at [] k caller less e = absurd (omega (arith, less))
caller_at (x ∷ procedures) zero caller less e = ap (λ c. Some c) (sym e)
caller_at (x ∷ procedures) (suc k) caller less e = caller_at procedures k caller (omega (arith, less)) e

-- an element stands in its list
pub stands_at : (numbers : List ℕ) (k : ℕ) → k < length numbers → list_any (nat_eq (get_or numbers k 0)) numbers ≡ true
stands_at [] k less = absurd (omega (arith, less))
stands_at (x ∷ numbers) zero less = or_left (nat_eq x x) (list_any (nat_eq x) numbers) (eq-eqb x x refl)
stands_at (x ∷ numbers) (suc k) less =
    or_right (nat_eq (get_or numbers k 0) x) (list_any (nat_eq (get_or numbers k 0)) numbers) (stands_at numbers k (omega (arith, less)))

-- a mark as it is read
pub read_mark : (marks : List Bool) (i : ℕ) (mark : Bool) → i < length marks → mark ≡ get_or marks i mark → mark ≡ get_or marks i false
read_mark marks i mark less e = e ∙ get_or_default marks i mark false less

and_true : (b : Bool) → (b && true) ≡ b
and_true true = refl
and_true false = refl

-- one call more that is open, and one that isn't
open_more : (procedures : List Caller) (numbers : List ℕ) (k : ℕ) → k < length numbers →
    open_among procedures [] (take (k + 1) numbers) ≡
    open_among procedures [] (take k numbers) + one_if (nat_lt (get_or numbers k 0) (length procedures))
open_more procedures [] k less = absurd (omega (arith, less))
open_more procedures (x ∷ numbers) zero less =
    let here : one_if (waits procedures [] x) ≡ one_if (nat_lt x (length procedures)) = ap one_if (and_true (nat_lt x (length procedures))) in
    omega (arith, here)
open_more procedures (x ∷ numbers) (suc k) less =
    let e : suc k + 1 ≡ suc (k + 1) = omega arith in
    rw e (omega (arith, open_more procedures numbers k (omega (arith, less))))

pub is_open : (procedures : List Caller) (numbers : List ℕ) (k count : ℕ) → k < length numbers →
    count ≡ open_among procedures [] (take k numbers) → get_or numbers k 0 < length procedures →
    count + 1 ≡ open_among procedures [] (take (k + 1) numbers)
is_open procedures numbers k count less e within =
    let one : one_if (nat_lt (get_or numbers k 0) (length procedures)) ≡ 1 = ap one_if (lt-ltb (get_or numbers k 0) (length procedures) within) in
    omega (arith, e, one, open_more procedures numbers k less)

pub is_not_open : (procedures : List Caller) (numbers : List ℕ) (k count : ℕ) → k < length numbers →
    count ≡ open_among procedures [] (take k numbers) → length procedures ≤ get_or numbers k 0 →
    count ≡ open_among procedures [] (take (k + 1) numbers)
is_not_open procedures numbers k count less e beyond =
    let none : one_if (nat_lt (get_or numbers k 0) (length procedures)) ≡ 0 = ap one_if (is_false (nat_lt (get_or numbers k 0) (length procedures))
    (λ t. let within : get_or numbers k 0 < length procedures = ltb-true (get_or numbers k 0) (length procedures) t in absurd (omega (arith, within, beyond)))) in
    omega (arith, e, none, open_more procedures numbers k less)

-- what is ready of the first procedures
abbrev pub ReadyBelow : (open_calls ready : List ℕ) → ℕ → Type 0
ReadyBelow open_calls ready k = (i : ℕ) → times i ready ≡ (if nat_lt i k then one_if (is_closed open_calls i) else 0)

below_more : (b : Bool) (i k : ℕ) → nat_eq i k ≡ b → (n : ℕ) →
    (if nat_lt i (k + 1) then n else 0) ≡ (if nat_lt i k then n else 0) + (if b then n else 0)
below_more b i k e n = by_cases (nat_lt i (k + 1)) (nat_lt i k) b refl refl e
  where
    by_cases : (c a b : Bool) → nat_lt i (k + 1) ≡ c → nat_lt i k ≡ a → nat_eq i k ≡ b →
        (if c then n else 0) ≡ (if a then n else 0) + (if b then n else 0)
    by_cases c true true p q r = let less : i < k = ltb-true i k q in let same : i ≡ k = eqb-true i k r in absurd (omega (arith, less, same))
    by_cases true true false p q r = omega arith
    by_cases false true false p q r = let less : i < k = ltb-true i k q in
        absurd (true≢false (sym (lt-ltb i (k + 1) (omega (arith, less))) ∙ p))
    by_cases true false true p q r = omega arith
    by_cases false false true p q r = let same : i ≡ k = eqb-true i k r in
        absurd (true≢false (sym (lt-ltb i (k + 1) (omega (arith, same))) ∙ p))
    by_cases true false false p q r =
        let less : i < k + 1 = ltb-true i (k + 1) p in
        let not_less : i < k → ⊥ = λ u. true≢false (sym (lt-ltb i k u) ∙ q) in
        let not_same : i ≡ k → ⊥ = λ u. true≢false (sym (eq-eqb i k u) ∙ r) in
        absurd (omega (arith, less, not_less, not_same))
    by_cases false false false p q r = refl

pub one_ready : (open_calls ready now : List ℕ) (k : ℕ) → ReadyBelow open_calls ready k → get_or open_calls k 0 ≡ 0 →
    IsPermutation (k ∷ ready) now → ReadyBelow open_calls now (k + 1)
one_ready open_calls ready now k h closed added i =
    let more : times i now ≡ one_if (nat_eq i k) + times i ready = times_permuted i (k ∷ ready) now added in
    by_case _ (nat_eq i k)
    (λ t.
    let one : one_if (nat_eq i k) ≡ 1 = ap one_if t in
    let is : one_if (is_closed open_calls i) ≡ 1 = ap (λ z. one_if (is_closed open_calls z)) (eqb-true i k t) ∙ ap one_if (eq-eqb (get_or open_calls k 0) 0 closed) in
    let step : (if nat_lt i (k + 1) then one_if (is_closed open_calls i) else 0) ≡
    (if nat_lt i k then one_if (is_closed open_calls i) else 0) + one_if (is_closed open_calls i) = below_more true i k t (one_if (is_closed open_calls i)) in
    omega (arith, more, one, is, step, h i))
    (λ f.
    let none : one_if (nat_eq i k) ≡ 0 = ap one_if f in
    let step : (if nat_lt i (k + 1) then one_if (is_closed open_calls i) else 0) ≡
    (if nat_lt i k then one_if (is_closed open_calls i) else 0) + 0 = below_more false i k f (one_if (is_closed open_calls i)) in
    omega (arith, more, none, step, h i))

pub none_ready : (open_calls ready : List ℕ) (k : ℕ) → ReadyBelow open_calls ready k → 0 < get_or open_calls k 0 → ReadyBelow open_calls ready (k + 1)
none_ready open_calls ready k h some i = by_case _ (nat_eq i k)
    (λ t.
    let is : one_if (is_closed open_calls i) ≡ 0 = ap (λ z. one_if (is_closed open_calls z)) (eqb-true i k t) ∙
    ap one_if (is_false (is_closed open_calls k) (λ u. let e : get_or open_calls k 0 ≡ 0 = eqb-true (get_or open_calls k 0) 0 u in omega (arith, e, some))) in
    let step : (if nat_lt i (k + 1) then one_if (is_closed open_calls i) else 0) ≡
    (if nat_lt i k then one_if (is_closed open_calls i) else 0) + one_if (is_closed open_calls i) = below_more true i k t (one_if (is_closed open_calls i)) in
    omega (arith, is, step, h i))
    (λ f.
    let step : (if nat_lt i (k + 1) then one_if (is_closed open_calls i) else 0) ≡
    (if nat_lt i k then one_if (is_closed open_calls i) else 0) + 0 = below_more false i k f (one_if (is_closed open_calls i)) in
    omega (arith, step, h i))

-- places in an order that are known so far
pub record Placed (order numbers : List ℕ) (k count : ℕ) : Type 0 where
  pub counted : length numbers ≡ count
  pub placed : (p : ℕ) → list_any (nat_eq p) (take k order) ≡ true → slice_get order (get_or numbers p 0) ≡ Some p

pub none_placed : (order numbers : List ℕ) (count : ℕ) → length numbers ≡ count → Placed order numbers 0 count
none_placed order numbers count long = record { counted = long; placed = λ p h. absurd (true≢false (sym h)) }

pub one_placed : (order numbers : List ℕ) (k count : ℕ) → Placed order numbers k count → k < length order → get_or order k 0 < count →
    Placed order (set numbers (get_or order k 0) k) (k + 1) count
one_placed order numbers k count h less within =
    let x : ℕ = get_or order k 0 in
    record {
      counted = length-set numbers x k ∙ h.counted;
      placed = λ p member. by_case _ (nat_eq p x)
          (λ t.
          let e : p ≡ x = eqb-true p x t in
          subst (λ z. slice_get order (get_or (set numbers x k) z 0) ≡ Some z) (sym e)
          (ap (λ z. slice_get order z) (get_or-set_same numbers x k 0 (omega (arith, within, h.counted))) ∙ slice_get-get_or order k 0 less))
          (λ f.
          ap (λ z. slice_get order z) (get_or-set_other numbers x p k 0 (λ u. true≢false (sym (eq-eqb p x u) ∙ f))) ∙
          h.placed p (stands_split p (take k order) x (subst (λ z. list_any (nat_eq p) z ≡ true) (take_more order k 0 less) member) f));
    }
