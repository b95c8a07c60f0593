-- Counts of open calls, and the procedures that wait for numbers.
use Rattle.std.proofs.Common.{◌≡◌, ℕ, zero, suc, ◌+◌, ◌<◌, ◌≤◌, Bool, true, false, not, if◌then◌else◌, nat_eq, nat_lt, List, [], ◌∷◌, ◌++◌, length, map, take, get_or, refl, sym, ap, ◌∙◌, subst, arith, true≢false, eq-eqb, eqb-true, All, IsPermutation}
use Rattle.std.proofs.lemmas.Bool.{ltb-true, lt-ltb}
use Rattle.std.proofs.lemmas.List.{get_or_past}
use Rattle.std.proofs.lemmas.List.Elements.{recursion_from_All}
use Rattle.std.proofs.lemmas.List.Recursion.{is_sum_by}
use Rattle.std.proofs.lemmas.List.Sorted.{sum_by-IsPermutation}
use Rattle.std.specs.List.{list_any, AllByRecursion}
use Rattle.pearl_calls.proofs.Following.{stands_last, stands_not, waits_below, waits_out, waits_if, ready_waits, ready_open, one_next}
use Rattle.pearl_calls.proofs.Truths.{by_case, or_left, or_right, or_rest, nor_left, nor_right, true_not, both, is_false}
use Rattle.pearl_calls.proofs.Turns.{some_turns}
use Rattle.pearl_calls.specs.Callers.{Caller, callees}
use Rattle.pearl_calls.specs.Cycles.{SomeCallsItself}
use Rattle.pearl_calls.specs.Marks.{one_if, times, open_among, is_closed}
use Rattle.pearl_calls.specs.Numberings.{waits, is_ready, GetsNext, GetNext, IsNumbering}

pub times_push : (n last : ℕ) (numbers : List ℕ) → times n (numbers ++ last ∷ []) ≡ times n numbers + one_if (nat_eq n last)
times_push n last [] = omega arith
times_push n last (x ∷ numbers) = omega (arith, times_push n last numbers)

pub times_more : (n : ℕ) (numbers : List ℕ) (k : ℕ) → k < length numbers →
    times n (take (k + 1) numbers) ≡ times n (take k numbers) + one_if (nat_eq n (get_or numbers k 0))
times_more n [] k less = absurd (omega (arith, less))
times_more n (x ∷ numbers) zero less = omega arith
times_more n (x ∷ numbers) (suc k) less =
    let rest = times_more n numbers k (omega (arith, less)) in
    let e : suc k + 1 ≡ suc (k + 1) = omega arith in
    rw e (omega (arith, rest))

pub times_part : (n k : ℕ) (numbers : List ℕ) → times n (take k numbers) ≤ times n numbers
times_part n zero numbers = omega arith
times_part n (suc k) [] = omega arith
times_part n (suc k) (x ∷ numbers) = omega (arith, times_part n k numbers)

pub none_stands : (n : ℕ) (numbers : List ℕ) → times n numbers ≡ 0 → list_any (nat_eq n) numbers ≡ false
none_stands n [] h = refl
none_stands n (x ∷ numbers) h = by_case _ (nat_eq n x)
    (λ same. let one : one_if (nat_eq n x) ≡ 1 = ap one_if same in absurd (omega (arith, h, one)))
    (λ other. let none : one_if (nat_eq n x) ≡ 0 = ap one_if other in
    is_false (list_any (nat_eq n) (x ∷ numbers)) (λ t. true≢false (sym (or_rest (nat_eq n x) (list_any (nat_eq n) numbers) other t) ∙
    none_stands n numbers (omega (arith, h, none)))))

pub stands_none : (n : ℕ) (numbers : List ℕ) → list_any (nat_eq n) numbers ≡ false → times n numbers ≡ 0
stands_none n [] h = refl
stands_none n (x ∷ numbers) h =
    let none : one_if (nat_eq n x) ≡ 0 = ap one_if (nor_left (nat_eq n x) (list_any (nat_eq n) numbers) h) in
    omega (arith, none, stands_none n numbers (nor_right (nat_eq n x) (list_any (nat_eq n) numbers) h))

-- what stands in a list with one more at its end, and isn't that one, stands in the list
pub stands_split : (n : ℕ) (numbers : List ℕ) (last : ℕ) → list_any (nat_eq n) (numbers ++ last ∷ []) ≡ true → nat_eq n last ≡ false →
    list_any (nat_eq n) numbers ≡ true
stands_split n numbers last h apart = by_case _ (list_any (nat_eq n) numbers) (λ t. t)
    (λ f. absurd (true≢false (sym h ∙ stands_not n numbers last f apart)))

pub some_stands : (n : ℕ) (numbers : List ℕ) → 0 < times n numbers → list_any (nat_eq n) numbers ≡ true
some_stands n numbers h = by_case _ (list_any (nat_eq n) numbers) (λ t. t) (λ f. absurd (omega (arith, h, stands_none n numbers f)))

pub times_permuted : (n : ℕ) (xs ys : List ℕ) → IsPermutation xs ys → times n ys ≡ times n xs
times_permuted n xs ys h =
    is_sum_by (times n) (λ x. one_if (nat_eq n x)) refl (λ x rest. refl) ys ∙
    sum_by-IsPermutation (λ x. one_if (nat_eq n x)) xs ys h ∙
    sym (is_sum_by (times n) (λ x. one_if (nat_eq n x)) refl (λ x rest. refl) xs)

all_of : (least n : ℕ) (numbers : List ℕ) → AllByRecursion (λ x. least ≤ x) numbers → list_any (nat_eq n) numbers ≡ true → least ≤ n
all_of least n [] all h = absurd (true≢false (sym h))
all_of least n (x ∷ numbers) all h = by_case _ (nat_eq n x)
    (λ same. subst (λ z. least ≤ z) (sym (eqb-true n x same)) all.0)
    (λ other. all_of least n numbers all.1 (or_rest (nat_eq n x) (list_any (nat_eq n) numbers) other h))

is_one : (b : Bool) → 0 < one_if b → b ≡ true
is_one true h = refl
is_one false h = absurd (omega (arith, h))

is_none : (b : Bool) → one_if b ≡ 0 → b ≡ false
is_none true h = absurd (omega (arith, h))
is_none false h = refl

at_most_one : (b : Bool) → one_if b ≤ 1
at_most_one true = omega arith
at_most_one false = omega arith

other_way : (a b : ℕ) → nat_eq a b ≡ false → nat_eq b a ≡ false
other_way a b h = is_false (nat_eq b a) (λ t. true≢false (sym (eq-eqb a b (sym (eqb-true b a t))) ∙ h))

module _ (procedures : List Caller) where
  -- a procedure waits no longer where it gets a number, and the others wait as before
  waits_no_more : (numbered : List ℕ) (p c : ℕ) → waits procedures numbered p ≡ true →
      one_if (waits procedures numbered c) ≡ one_if (waits procedures (numbered ++ p ∷ []) c) + one_if (nat_eq p c)
  waits_no_more numbered p c h = by_case _ (nat_eq p c)
      (λ same.
      let e : p ≡ c = eqb-true p c same in
      let before : one_if (waits procedures numbered c) ≡ 1 = ap one_if (subst (λ z. waits procedures numbered z ≡ true) e h) in
      let behind : one_if (waits procedures (numbered ++ p ∷ []) c) ≡ 0 = ap one_if (is_false (waits procedures (numbered ++ p ∷ []) c)
      (λ t. true≢false (sym (subst (λ z. list_any (nat_eq z) (numbered ++ p ∷ []) ≡ true) e (stands_last p numbered)) ∙
      waits_out procedures (numbered ++ p ∷ []) c t))) in
      let one : one_if (nat_eq p c) ≡ 1 = ap one_if same in
      omega (arith, before, behind, one))
      (λ apart.
      let none : one_if (nat_eq p c) ≡ 0 = ap one_if apart in
      by_case _ (waits procedures numbered c)
      (λ t.
      let before : one_if (waits procedures numbered c) ≡ 1 = ap one_if t in
      let behind : one_if (waits procedures (numbered ++ p ∷ []) c) ≡ 1 = ap one_if (waits_if procedures (numbered ++ p ∷ []) c
      (waits_below procedures numbered c t) (stands_not c numbered p (waits_out procedures numbered c t) (other_way p c apart))) in
      omega (arith, before, behind, none))
      (λ f.
      let before : one_if (waits procedures numbered c) ≡ 0 = ap one_if f in
      let behind : one_if (waits procedures (numbered ++ p ∷ []) c) ≡ 0 = ap one_if (is_false (waits procedures (numbered ++ p ∷ []) c)
      (λ t. true≢false (
      sym (waits_if procedures numbered c (waits_below procedures (numbered ++ p ∷ []) c t)
      (none_before c numbered p (waits_out procedures (numbered ++ p ∷ []) c t))) ∙ f))) in
      omega (arith, before, behind, none)))
    where
      none_before : (c : ℕ) (xs : List ℕ) (p : ℕ) → list_any (nat_eq c) (xs ++ p ∷ []) ≡ false → list_any (nat_eq c) xs ≡ false
      none_before c xs p out =
          none_stands c xs (let e : times c (xs ++ p ∷ []) ≡ times c xs + one_if (nat_eq c p) = times_push c p xs in
          omega (arith, e, stands_none c (xs ++ p ∷ []) out))

  pub open_split : (numbered : List ℕ) (p : ℕ) → waits procedures numbered p ≡ true → (numbers : List ℕ) →
      open_among procedures numbered numbers ≡ open_among procedures (numbered ++ p ∷ []) numbers + times p numbers
  open_split numbered p h [] = refl
  open_split numbered p h (c ∷ numbers) = omega (arith, waits_no_more numbered p c h, open_split numbered p h numbers)

  none_open : (numbered numbers : List ℕ) → open_among procedures numbered numbers ≡ 0 → list_any (waits procedures numbered) numbers ≡ false
  none_open numbered [] h = refl
  none_open numbered (c ∷ numbers) h =
      let rest = none_open numbered numbers (omega (arith, h)) in
      let quiet : waits procedures numbered c ≡ false = is_none (waits procedures numbered c) (omega (arith, h)) in
      is_false (list_any (waits procedures numbered) (c ∷ numbers))
      (λ t. true≢false (sym (or_rest (waits procedures numbered c) (list_any (waits procedures numbered) numbers) quiet t) ∙ rest))

  open_none : (numbered numbers : List ℕ) → list_any (waits procedures numbered) numbers ≡ false → open_among procedures numbered numbers ≡ 0
  open_none numbered [] h = refl
  open_none numbered (c ∷ numbers) h =
      let here : one_if (waits procedures numbered c) ≡ 0 =
      ap one_if (nor_left (waits procedures numbered c) (list_any (waits procedures numbered) numbers) h) in
      omega (arith, here, open_none numbered numbers (nor_right (waits procedures numbered c) (list_any (waits procedures numbered) numbers) h))

  -- how many of the first procedures wait
  abbrev pub waiting : (numbered : List ℕ) → ℕ → ℕ
  waiting numbered zero = 0
  waiting numbered (suc k) = one_if (waits procedures numbered k) + waiting numbered k

  no_more_wait : (numbered : List ℕ) (p : ℕ) → waits procedures numbered p ≡ true → (k : ℕ) → waiting (numbered ++ p ∷ []) k ≤ waiting numbered k
  no_more_wait numbered p h zero = omega arith
  no_more_wait numbered p h (suc k) = omega (arith, waits_no_more numbered p k h, no_more_wait numbered p h k)

  fewer_wait : (numbered : List ℕ) (p : ℕ) → waits procedures numbered p ≡ true → (k : ℕ) → p < k → waiting (numbered ++ p ∷ []) k < waiting numbered k
  fewer_wait numbered p h zero less = absurd (omega (arith, less))
  fewer_wait numbered p h (suc k) less = by_case _ (nat_eq p k)
      (λ same. let one : one_if (nat_eq p k) ≡ 1 = ap one_if same in
      omega (arith, one, waits_no_more numbered p k h, no_more_wait numbered p h k))
      (λ apart.
      let differs : p ≡ k → ⊥ = λ e. true≢false (sym (eq-eqb p k e) ∙ apart) in
      omega (arith, waits_no_more numbered p k h, fewer_wait numbered p h k (omega (arith, less, differs))))

  -- what holds while procedures get numbers
  pub record Between (order open_calls ready : List ℕ) : Type 0 where
    pub by_rule : GetNext procedures [] order
    pub counted : length open_calls ≡ length procedures
    pub counts : (i : ℕ) → i < length procedures → get_or open_calls i 0 ≡ open_among procedures order (callees procedures i)
    -- what has no open call is ready or has a number, and nothing else is or has
    pub once : (i : ℕ) → i < length procedures → times i ready + times i order ≡ one_if (is_closed open_calls i)
    pub only : (i : ℕ) → length procedures ≤ i → times i ready + times i order ≡ 0

  counted_at : (xs : List Caller) (i : ℕ) → i < length xs →
      get_or (map (λ (caller : Caller). open_among procedures [] caller.calls) xs) i 0 ≡ open_among procedures [] (callees xs i)
  counted_at [] i less = absurd (omega (arith, less))
  counted_at (x ∷ xs) zero less = refl
  counted_at (x ∷ xs) (suc i) less = counted_at xs i (omega (arith, less))

  length_counts : (xs : List Caller) → length (map (λ (caller : Caller). open_among procedures [] caller.calls) xs) ≡ length xs
  length_counts [] = refl
  length_counts (x ∷ xs) = ap (λ n. suc n) (length_counts xs)

  pub at_first : (open_calls ready : List ℕ) → open_calls ≡ map (λ (caller : Caller). open_among procedures [] caller.calls) procedures →
      ((i : ℕ) → times i ready ≡ (if nat_lt i (length open_calls) then one_if (is_closed open_calls i) else 0)) → Between [] open_calls ready
  at_first open_calls ready e h =
      let long : length open_calls ≡ length procedures = ap (λ xs. length xs) e ∙ length_counts procedures in
      record {
        by_rule = tt;
        counted = long;
        counts = λ i less. ap (λ xs. get_or xs i 0) e ∙ counted_at procedures i less;
        once = λ i less.
            let inside : nat_lt i (length open_calls) ≡ true = lt-ltb i (length open_calls) (omega (arith, less, long)) in
            let chosen : times i ready ≡ one_if (is_closed open_calls i) = h i ∙ ap (λ b. if b then one_if (is_closed open_calls i) else 0) inside in
            omega (arith, chosen);
        only = λ i more.
            let outside : nat_lt i (length open_calls) ≡ false = is_false (nat_lt i (length open_calls))
            (λ t. let less : i < length open_calls = ltb-true i (length open_calls) t in absurd (omega (arith, less, more, long))) in
            let chosen : times i ready ≡ 0 = h i ∙ ap (λ b. if b then one_if (is_closed open_calls i) else 0) outside in
            omega (arith, chosen);
      }

  module _ (order open_calls ready : List ℕ) (between : Between order open_calls ready) where
    -- what is taken is the first that is ready
    module _ (p : ℕ) (rest : List ℕ) (taken : IsPermutation ready (p ∷ rest)) (least : All (λ q. p ≤ q) ready) where
      once_ready : (i : ℕ) → times i ready ≡ one_if (nat_eq i p) + times i rest
      once_ready i = sym (times_permuted i ready (p ∷ rest) taken)

      is_there : 0 < times p ready
      is_there = let one : one_if (nat_eq p p) ≡ 1 = ap one_if (eq-eqb p p refl) in omega (arith, once_ready p, one)

      pub within : p < length procedures
      within = by_case _ (nat_lt p (length procedures)) (λ t. ltb-true p (length procedures) t)
          (λ f. absurd (
          let more : length procedures ≤ p = omega (arith, λ (less : p < length procedures). true≢false (sym (lt-ltb p (length procedures) less) ∙ f)) in
          omega (arith, is_there, between.only p more)))

      closed : is_closed open_calls p ≡ true
      closed = is_one (is_closed open_calls p) (omega (arith, is_there, between.once p within))

      pub waits_here : waits procedures order p ≡ true
      waits_here = waits_if procedures order p within
          (none_stands p order (omega (arith, is_there, between.once p within, at_most_one (is_closed open_calls p))))

      pub gets_next : GetsNext procedures order p
      gets_next =
          let quiet : open_among procedures order (callees procedures p) ≡ 0 =
          sym (between.counts p within) ∙ eqb-true (get_or open_calls p 0) 0 closed in
          record {
            ready = both (waits procedures order p) (not (list_any (waits procedures order) (callees procedures p))) waits_here
                (true_not (list_any (waits procedures order) (callees procedures p)) (none_open order (callees procedures p) quiet));
            first = λ q less. is_false (is_ready procedures order q) (λ t.
                let waiting_q = ready_waits procedures order q t in
                let inside_q = waits_below procedures order q waiting_q in
                let none_q = stands_none q order (waits_out procedures order q waiting_q) in
                let zero_q : get_or open_calls q 0 ≡ 0 =
                between.counts q inside_q ∙ open_none order (callees procedures q) (ready_open procedures order q t) in
                let one_q : one_if (is_closed open_calls q) ≡ 1 = ap one_if (eq-eqb (get_or open_calls q 0) 0 zero_q) in
                let there : list_any (nat_eq q) ready ≡ true = some_stands q ready (omega (arith, between.once q inside_q, none_q, one_q)) in
                let behind : p ≤ q = all_of p q ready (recursion_from_All (λ x. p ≤ x) ready least) there in
                omega (arith, less, behind));
          }

      -- no more calls are closed than there are
      pub enough : (calling : List ℕ) → ((i : ℕ) → times i calling ≡ times p (callees procedures i)) → (i : ℕ) → times i calling ≤ get_or open_calls i 0
      enough calling callers i = by_case _ (nat_lt i (length procedures))
          (λ t. omega (arith, callers i, between.counts i (ltb-true i (length procedures) t), open_split order p waits_here (callees procedures i)))
          (λ f. let none : times p (callees procedures i) ≡ 0 = none_called procedures i p
          (omega (arith, λ (less : i < length procedures). true≢false (sym (lt-ltb i (length procedures) less) ∙ f))) in
          omega (arith, callers i, none))
        where
          none_called : (xs : List Caller) (i p : ℕ) → length xs ≤ i → times p (callees xs i) ≡ 0
          none_called [] i p more = refl
          none_called (x ∷ xs) zero p more = absurd (omega (arith, more))
          none_called (x ∷ xs) (suc i) p more = none_called xs i p (omega (arith, more))

      pub next_between : (calling closing ready_now : List ℕ) → ((i : ℕ) → times i calling ≡ times p (callees procedures i)) →
          length closing ≡ length open_calls →
          ((i : ℕ) → get_or closing i 0 + times i calling ≡ get_or open_calls i 0) →
          ((i : ℕ) → times i ready_now + one_if (is_closed open_calls i) ≡ times i rest + one_if (is_closed closing i)) →
          Between (order ++ p ∷ []) closing ready_now
      next_between calling closing ready_now callers long closes readies = record {
        by_rule = one_next procedures order [] p between.by_rule gets_next;
        counted = long ∙ between.counted;
        counts = λ i less. omega (arith, callers i, closes i, between.counts i less, open_split order p waits_here (callees procedures i));
        once = λ i less. omega (arith, readies i, once_ready i, between.once i less, times_push i p order);
        only = λ i more.
            let past : get_or open_calls i 0 ≡ 0 = get_or_past open_calls i 0 (omega (arith, more, between.counted)) in
            let past_now : get_or closing i 0 ≡ 0 = get_or_past closing i 0 (omega (arith, more, between.counted, long)) in
            let one : one_if (is_closed open_calls i) ≡ 1 = ap one_if (eq-eqb (get_or open_calls i 0) 0 past) in
            let one_now : one_if (is_closed closing i) ≡ 1 = ap one_if (eq-eqb (get_or closing i 0) 0 past_now) in
            omega (arith, one, one_now, readies i, once_ready i, between.only i more, times_push i p order);
      }

      pub falls : waiting (order ++ p ∷ []) (length procedures) < waiting order (length procedures)
      falls = fewer_wait order p waits_here (length procedures) within

    pub all_numbered : ready ≡ [] → ((i : ℕ) → get_or open_calls i 0 ≡ 0) → IsNumbering procedures order
    all_numbered e closed = record {
      by_rule = between.by_rule;
      whole = λ i less.
          let none : times i ready ≡ 0 = ap (λ xs. times i xs) e in
          let one : one_if (is_closed open_calls i) ≡ 1 = ap one_if (eq-eqb (get_or open_calls i 0) 0 (closed i)) in
          some_stands i order (omega (arith, none, one, between.once i less));
    }

    -- the first of these that waits
    abbrev first_waiting : List ℕ → ℕ
    first_waiting [] = 0
    first_waiting (c ∷ numbers) = if waits procedures order c then c else first_waiting numbers

    found_waiting : (numbers : List ℕ) → list_any (waits procedures order) numbers ≡ true →
        (list_any (nat_eq (first_waiting numbers)) numbers ≡ true) × (waits procedures order (first_waiting numbers) ≡ true)
    found_waiting [] h = absurd (true≢false (sym h))
    found_waiting (c ∷ numbers) h = by_case _ (waits procedures order c)
        (λ t.
        let e : first_waiting (c ∷ numbers) ≡ c = ap (λ b. if b then c else first_waiting numbers) t in (
          subst (λ z. list_any (nat_eq z) (c ∷ numbers) ≡ true) (sym e) (or_left (nat_eq c c) (list_any (nat_eq c) numbers) (eq-eqb c c refl)),
          subst (λ z. waits procedures order z ≡ true) (sym e) t,
        ))
        (λ f.
        let e : first_waiting (c ∷ numbers) ≡ first_waiting numbers = ap (λ b. if b then c else first_waiting numbers) f in
        let found = found_waiting numbers (or_rest (waits procedures order c) (list_any (waits procedures order) numbers) f h) in (
          subst (λ z. list_any (nat_eq z) (c ∷ numbers) ≡ true) (sym e)
              (or_right (nat_eq (first_waiting numbers) c) (list_any (nat_eq (first_waiting numbers)) numbers) found.0),
          subst (λ z. waits procedures order z ≡ true) (sym e) found.1,
        ))

    still_open : ready ≡ [] → (i : ℕ) → waits procedures order i ≡ true → list_any (waits procedures order) (callees procedures i) ≡ true
    still_open e i h = by_case _ (list_any (waits procedures order) (callees procedures i)) (λ t. t)
        (λ f. absurd (
        let inside = waits_below procedures order i h in
        let none : times i ready ≡ 0 = ap (λ xs. times i xs) e in
        let out = stands_none i order (waits_out procedures order i h) in
        let closed : get_or open_calls i 0 ≡ 0 = between.counts i inside ∙ open_none order (callees procedures i) f in
        let one : one_if (is_closed open_calls i) ≡ 1 = ap one_if (eq-eqb (get_or open_calls i 0) 0 closed) in
        omega (arith, none, out, one, between.once i inside)))

    pub turns : ready ≡ [] → (i : ℕ) → 0 < get_or open_calls i 0 → SomeCallsItself procedures
    turns e i some =
        let inside : i < length procedures = by_case _ (nat_lt i (length procedures)) (λ t. ltb-true i (length procedures) t)
        (λ f. absurd (
        let more : length procedures ≤ i = omega (arith, λ (less : i < length procedures). true≢false (sym (lt-ltb i (length procedures) less) ∙ f)) in
        let past : get_or open_calls i 0 ≡ 0 = get_or_past open_calls i 0 (omega (arith, more, between.counted)) in
        omega (arith, past, some))) in
        let not_closed : is_closed open_calls i ≡ false = is_false (is_closed open_calls i)
        (λ t. let e : get_or open_calls i 0 ≡ 0 = eqb-true (get_or open_calls i 0) 0 t in absurd (omega (arith, e, some))) in
        let zero_ : one_if (is_closed open_calls i) ≡ 0 = ap one_if not_closed in
        let waits_i = waits_if procedures order i inside (none_stands i order (omega (arith, zero_, between.once i inside))) in
        some_turns procedures (waits procedures order) (λ number. first_waiting (callees procedures number))
        (record {
          goes_on = λ number h. (found_waiting (callees procedures number) (still_open e number h)).0;
          stays = λ number h. (found_waiting (callees procedures number) (still_open e number h)).1;
        }) i waits_i
