-- Which calls have been added and closed so far.
use Rattle.std.proofs.Common.{◌≡◌, ℕ, zero, suc, ◌+◌, ◌-◌, ◌<◌, ◌≤◌, Bool, true, false, if◌then◌else◌, nat_eq, nat_lt, List, [], ◌∷◌, ◌++◌, length, take, set, get_or, refl, sym, ap, ◌∙◌, arith, true≢false, eq-eqb, eqb-true, IsPermutation}
use Rattle.std.proofs.lemmas.Bool.{ltb-true, lt-ltb}
use Rattle.std.proofs.lemmas.List.{length-set, get_or-set_same, get_or-set_other, get_or_past}
use Rattle.pearl_calls.proofs.Truths.{by_case, is_false}
use Rattle.pearl_calls.proofs.Waiting.{times_push, times_more, times_part, times_permuted}
use Rattle.pearl_calls.specs.Callers.{Caller, callees}
use Rattle.pearl_calls.specs.Marks.{one_if, times, is_closed, AreCallersOf}

-- a procedure has been added to those that call these
pub record Added (caller : ℕ) (calls : List ℕ) (old now : List (List ℕ)) : Type 0 where
  pub same_length : length now ≡ length old
  pub added : (callee other : ℕ) → callee < length old →
      times other (get_or now callee []) ≡ times other (get_or old callee []) + (if nat_eq other caller then times callee calls else 0)

pub none_added : (caller : ℕ) (calls : List ℕ) (old : List (List ℕ)) → Added caller (take 0 calls) old old
none_added caller calls old = record {
  same_length = refl;
  added = λ callee other less. adds_none (nat_eq other caller) (times other (get_or old callee [])) (times callee (take 0 calls)) refl;
}
  where
    adds_none : (b : Bool) (n m : ℕ) → m ≡ 0 → n ≡ n + (if b then m else 0)
    adds_none true n m e = omega (arith, e)
    adds_none false n m e = omega arith

-- one more call counts at its callee alone
chosen_more : (other caller callee : ℕ) (calls : List ℕ) (k : ℕ) → k < length calls →
    (if nat_eq other caller then times callee (take (k + 1) calls) else 0) ≡
    (if nat_eq other caller then times callee (take k calls) else 0) +
    (if nat_eq callee (get_or calls k 0) then one_if (nat_eq other caller) else 0)
chosen_more other caller callee calls k less = by_cases (nat_eq other caller) (nat_eq callee (get_or calls k 0)) refl
  where
    by_cases : (a b : Bool) → nat_eq callee (get_or calls k 0) ≡ b →
        (if a then times callee (take (k + 1) calls) else 0) ≡ (if a then times callee (take k calls) else 0) + (if b then one_if a else 0)
    by_cases true true e = let one : one_if (nat_eq callee (get_or calls k 0)) ≡ 1 = ap one_if e in omega (arith, one, times_more callee calls k less)
    by_cases true false e = let none : one_if (nat_eq callee (get_or calls k 0)) ≡ 0 = ap one_if e in omega (arith, none, times_more callee calls k less)
    by_cases false true e = refl
    by_cases false false e = refl

pub one_added : (caller : ℕ) (calls : List ℕ) (k : ℕ) (old now : List (List ℕ)) → k < length calls → Added caller (take k calls) old now →
    get_or calls k 0 < length now →
    Added caller (take (k + 1) calls) old (set now (get_or calls k 0) (get_or now (get_or calls k 0) [] ++ caller ∷ []))
one_added caller calls k old now less h within =
    let x : ℕ = get_or calls k 0 in
    let list : List ℕ = get_or now (get_or calls k 0) [] ++ caller ∷ [] in
    record {
      same_length = length-set now x list ∙ h.same_length;
      added = λ callee other below. by_case _ (nat_eq callee x)
          (λ same.
          let e : callee ≡ x = eqb-true callee x same in
          let here : get_or (set now x list) callee [] ≡ list = ap (λ z. get_or (set now x list) z []) e ∙ get_or-set_same now x list [] within in
          let more : times other (get_or (set now x list) callee []) ≡ times other (get_or now x []) + one_if (nat_eq other caller) =
          ap (λ z. times other z) here ∙ times_push other caller (get_or now x []) in
          let before : times other (get_or now x []) ≡ times other (get_or old callee []) + (if nat_eq other caller then times callee (take k calls) else 0) =
          ap (λ z. times other (get_or now z [])) (sym e) ∙ h.added callee other below in
          let one : (if nat_eq callee x then one_if (nat_eq other caller) else 0) ≡ one_if (nat_eq other caller) =
          ap (λ b. if b then one_if (nat_eq other caller) else 0) same in
          omega (arith, more, before, one, chosen_more other caller callee calls k less))
          (λ apart.
          let here : times other (get_or (set now x list) callee []) ≡ times other (get_or now callee []) =
          ap (λ z. times other z) (get_or-set_other now x callee list [] (λ e. true≢false (sym (eq-eqb callee x e) ∙ apart))) in
          let none : (if nat_eq callee x then one_if (nat_eq other caller) else 0) ≡ 0 = ap (λ b. if b then one_if (nat_eq other caller) else 0) apart in
          omega (arith, here, none, h.added callee other below, chosen_more other caller callee calls k less));
    }

pub not_added : (caller : ℕ) (calls : List ℕ) (k : ℕ) (old now : List (List ℕ)) → k < length calls → Added caller (take k calls) old now →
    length now ≤ get_or calls k 0 → Added caller (take (k + 1) calls) old now
not_added caller calls k old now less h beyond = record {
  same_length = h.same_length;
  added = λ callee other below.
      let apart : nat_eq callee (get_or calls k 0) ≡ false = is_false (nat_eq callee (get_or calls k 0))
      (λ t. let e : callee ≡ get_or calls k 0 = eqb-true callee (get_or calls k 0) t in absurd (omega (arith, e, below, beyond, h.same_length))) in
      let none : (if nat_eq callee (get_or calls k 0) then one_if (nat_eq other caller) else 0) ≡ 0 =
      ap (λ b. if b then one_if (nat_eq other caller) else 0) apart in
      omega (arith, none, h.added callee other below, chosen_more other caller callee calls k less);
}

pub take_length : {X : Type 0} (xs : List X) → take (length xs) xs ≡ xs
take_length [] = refl
take_length (x ∷ xs) = ap (λ z. x ∷ z) (take_length xs)

-- the first procedures have been added
pub record Collected (procedures : List Caller) (k : ℕ) (calling : List (List ℕ)) : Type 0 where
  pub counted : length calling ≡ length procedures
  pub collected : (callee caller : ℕ) → callee < length procedures →
      times caller (get_or calling callee []) ≡ (if nat_lt caller k then times callee (callees procedures caller) else 0)

pub none_collected : (procedures : List Caller) (calling : List (List ℕ)) → length calling ≡ length procedures →
    ((callee : ℕ) → get_or calling callee [] ≡ []) → Collected procedures 0 calling
none_collected procedures calling long none = record {
  counted = long;
  collected = λ callee caller less.
      let out : nat_lt caller 0 ≡ false = is_false (nat_lt caller 0) (λ t. let e : caller < 0 = ltb-true caller 0 t in omega (arith, e)) in
      ap (λ z. times caller z) (none callee) ∙ sym (ap (λ b. if b then times callee (callees procedures caller) else 0) out);
}

pub one_collected : (procedures : List Caller) (k : ℕ) (calling now : List (List ℕ)) (calls : List ℕ) → Collected procedures k calling →
    calls ≡ callees procedures k → Added k calls calling now → Collected procedures (k + 1) now
one_collected procedures k calling now calls h e step = record {
  counted = step.same_length ∙ h.counted;
  collected = λ callee caller less.
      let more = step.added callee caller (omega (arith, less, h.counted)) in
      let before = h.collected callee caller less in
      more ∙ ap (λ n. n + (if nat_eq caller k then times callee calls else 0)) before ∙
      by_cases callee caller (nat_lt caller k) (nat_eq caller k) (nat_lt caller (k + 1)) refl refl refl;
}
  where
    by_cases : (callee caller : ℕ) (a b c : Bool) → nat_lt caller k ≡ a → nat_eq caller k ≡ b → nat_lt caller (k + 1) ≡ c →
        (if a then times callee (callees procedures caller) else 0) + (if b then times callee calls else 0) ≡
        (if c then times callee (callees procedures caller) else 0)
    by_cases callee caller true true c p q r = let less : caller < k = ltb-true caller k p in let same : caller ≡ k = eqb-true caller k q in absurd (omega (arith, less, same))
    by_cases callee caller true false true p q r = omega arith
    by_cases callee caller true false false p q r = let less : caller < k = ltb-true caller k p in
        absurd (true≢false (sym (lt-ltb caller (k + 1) (omega (arith, less))) ∙ r))
    by_cases callee caller false true true p q r =
        let same : times callee calls ≡ times callee (callees procedures caller) =
        ap (λ z. times callee z) (e ∙ ap (λ z. callees procedures z) (sym (eqb-true caller k q))) in omega (arith, same)
    by_cases callee caller false true false p q r = let same : caller ≡ k = eqb-true caller k q in
        absurd (true≢false (sym (lt-ltb caller (k + 1) (omega (arith, same))) ∙ r))
    by_cases callee caller false false true p q r =
        let less : caller < k + 1 = ltb-true caller (k + 1) r in
        let not_less : caller < k → ⊥ = λ u. true≢false (sym (lt-ltb caller k u) ∙ p) in
        let not_same : caller ≡ k → ⊥ = λ u. true≢false (sym (eq-eqb caller k u) ∙ q) in
        absurd (omega (arith, less, not_less, not_same))
    by_cases callee caller false false false p q r = refl

pub all_collected : (procedures : List Caller) (calling : List (List ℕ)) → Collected procedures (length procedures) calling → AreCallersOf procedures calling
all_collected procedures calling h callee caller less = h.collected callee caller less ∙ by_case _ (nat_lt caller (length procedures))
    (λ t. ap (λ b. if b then times callee (callees procedures caller) else 0) t)
    (λ f.
    let beyond : length procedures ≤ caller = omega (arith, λ (u : caller < length procedures). true≢false (sym (lt-ltb caller (length procedures) u) ∙ f)) in
    ap (λ b. if b then times callee (callees procedures caller) else 0) f ∙ sym (none_called procedures caller callee beyond))
  where
    none_called : (xs : List Caller) (i p : ℕ) → length xs ≤ i → times p (callees xs i) ≡ 0
    none_called [] i p more = refl
    none_called (x ∷ xs) zero p more = absurd (omega (arith, more))
    none_called (x ∷ xs) (suc i) p more = none_called xs i p (omega (arith, more))

-- so many procedures are ready, and so many calls closed
pub record Closed (calling old now ready_old ready_now : List ℕ) : Type 0 where
  pub same_length : length now ≡ length old
  pub closed : (i : ℕ) → get_or now i 0 + times i calling ≡ get_or old i 0
  pub ready : (i : ℕ) → times i ready_now + one_if (is_closed old i) ≡ times i ready_old + one_if (is_closed now i)

pub none_closed : (calling old ready : List ℕ) → Closed (take 0 calling) old old ready ready
none_closed calling old ready = record { same_length = refl; closed = λ i. omega arith; ready = λ i. refl }

module _ (calling old now ready_old ready_now : List ℕ) (k : ℕ) (less : k < length calling)
    (enough : (i : ℕ) → times i calling ≤ get_or old i 0) (h : Closed (take k calling) old now ready_old ready_now) where
  abbrev x : ℕ
  x = get_or calling k 0

  pub some_open : 0 < get_or now x 0
  some_open =
      let one : one_if (nat_eq x x) ≡ 1 = ap one_if (eq-eqb x x refl) in
      omega (arith, one, times_more x calling k less, times_part x (k + 1) calling, enough x, h.closed x)

  pub is_inside : x < length now
  is_inside = by_case _ (nat_lt x (length now)) (λ t. ltb-true x (length now) t)
      (λ f. absurd (
      let past : get_or now x 0 ≡ 0 = get_or_past now x 0 (omega (arith, λ (u : x < length now). true≢false (sym (lt-ltb x (length now) u) ∙ f))) in
      omega (arith, past, some_open)))

  abbrev left : List ℕ
  left = set now x (get_or now x 0 - 1)

  left_at : (i : ℕ) → get_or left i 0 + one_if (nat_eq i x) ≡ get_or now i 0
  left_at i = by_case _ (nat_eq i x)
      (λ same.
      let e : i ≡ x = eqb-true i x same in
      let one : one_if (nat_eq i x) ≡ 1 = ap one_if same in
      let here : get_or left i 0 ≡ get_or now x 0 - 1 = ap (λ z. get_or left z 0) e ∙ get_or-set_same now x (get_or now x 0 - 1) 0 is_inside in
      let there : get_or now i 0 ≡ get_or now x 0 = ap (λ z. get_or now z 0) e in
      omega (arith, one, here, there, some_open))
      (λ apart.
      let none : one_if (nat_eq i x) ≡ 0 = ap one_if apart in
      let here : get_or left i 0 ≡ get_or now i 0 = get_or-set_other now x i (get_or now x 0 - 1) 0 (λ e. true≢false (sym (eq-eqb i x e) ∙ apart)) in
      omega (arith, none, here))

  closed_at : (i : ℕ) → get_or left i 0 + times i (take (k + 1) calling) ≡ get_or old i 0
  closed_at i = omega (arith, left_at i, h.closed i, times_more i calling k less)

  not_closed : is_closed now x ≡ false
  not_closed = is_false (is_closed now x) (λ t. let e : get_or now x 0 ≡ 0 = eqb-true (get_or now x 0) 0 t in omega (arith, e, some_open))

  same_closed : (i : ℕ) → nat_eq i x ≡ false → is_closed left i ≡ is_closed now i
  same_closed i apart = ap (λ n. nat_eq n 0) (get_or-set_other now x i (get_or now x 0 - 1) 0 (λ e. true≢false (sym (eq-eqb i x e) ∙ apart)))

  closed_here : is_closed left x ≡ nat_eq (get_or now x 0 - 1) 0
  closed_here = ap (λ n. nat_eq n 0) (get_or-set_same now x (get_or now x 0 - 1) 0 is_inside)

  pub last_closed : (ready_next : List ℕ) → get_or now x 0 - 1 ≡ 0 → IsPermutation (x ∷ ready_now) ready_next →
      Closed (take (k + 1) calling) old left ready_old ready_next
  last_closed ready_next none added = record {
    same_length = length-set now x (get_or now x 0 - 1) ∙ h.same_length;
    closed = closed_at;
    ready = λ i.
        let more : times i ready_next ≡ one_if (nat_eq i x) + times i ready_now = times_permuted i (x ∷ ready_now) ready_next added in
        by_case _ (nat_eq i x)
        (λ same.
        let e : i ≡ x = eqb-true i x same in
        let one : one_if (nat_eq i x) ≡ 1 = ap one_if same in
        let before : one_if (is_closed now i) ≡ 0 = ap (λ z. one_if (is_closed now z)) e ∙ ap one_if not_closed in
        let behind : one_if (is_closed left i) ≡ 1 = ap (λ z. one_if (is_closed left z)) e ∙ ap one_if (closed_here ∙ eq-eqb (get_or now x 0 - 1) 0 none) in
        omega (arith, more, one, before, behind, h.ready i))
        (λ apart.
        let nothing : one_if (nat_eq i x) ≡ 0 = ap one_if apart in
        let same : one_if (is_closed left i) ≡ one_if (is_closed now i) = ap one_if (same_closed i apart) in
        omega (arith, more, nothing, same, h.ready i));
  }

  pub one_closed : 0 < get_or now x 0 - 1 → Closed (take (k + 1) calling) old left ready_old ready_now
  one_closed some = record {
    same_length = length-set now x (get_or now x 0 - 1) ∙ h.same_length;
    closed = closed_at;
    ready = λ i. by_case _ (nat_eq i x)
        (λ same.
        let e : i ≡ x = eqb-true i x same in
        let before : one_if (is_closed now i) ≡ 0 = ap (λ z. one_if (is_closed now z)) e ∙ ap one_if not_closed in
        let still : nat_eq (get_or now x 0 - 1) 0 ≡ false = is_false (nat_eq (get_or now x 0 - 1) 0)
        (λ t. let e : get_or now x 0 - 1 ≡ 0 = eqb-true (get_or now x 0 - 1) 0 t in omega (arith, e, some)) in
        let behind : one_if (is_closed left i) ≡ 0 = ap (λ z. one_if (is_closed left z)) e ∙ ap one_if (closed_here ∙ still) in
        omega (arith, before, behind, h.ready i))
        (λ apart.
        let same : one_if (is_closed left i) ≡ one_if (is_closed now i) = ap one_if (same_closed i apart) in
        omega (arith, same, h.ready i));
  }
