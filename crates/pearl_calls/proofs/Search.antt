-- What a search for calls has marked so far.
use Rattle.std.proofs.Common.{◌≡◌, ℕ, zero, suc, ◌+◌, ◌<◌, Bool, true, false, not, nat_eq, nat_lt, List, [], ◌∷◌, ◌++◌, length, take, set, replicate, get_or, refl, sym, ap, ◌∙◌, subst, arith, true≢false, eq-eqb, eqb-true}
use Rattle.std.proofs.lemmas.Bool.{ltb-true, lt-ltb}
use Rattle.std.proofs.lemmas.List.{length-set, length_push, length-replicate, get_or-set_same, get_or-set_other, get_or_past, get_or-replicate, take_more}
use Rattle.std.specs.List.{list_any}
use Rattle.pearl_calls.proofs.Following.{stands_more, stands_last}
use Rattle.pearl_calls.proofs.Truths.{by_case, is_false}
use Rattle.pearl_calls.proofs.Waiting.{stands_split}
use Rattle.pearl_calls.proofs.Ways.{inside, cycles}
use Rattle.pearl_calls.specs.Callers.{Caller, callees, calls}
use Rattle.pearl_calls.specs.Cycles.{calls_itself, IsWay}
use Rattle.pearl_calls.specs.Marks.{one_if, is_marked, unmarked, MarksCallees}

pub none_unmarked : (numbers : List ℕ) (marks : List Bool) (pending : List ℕ) → MarksCallees (take 0 numbers) marks marks pending pending
none_unmarked numbers marks pending = record {
  same_length = refl;
  kept = λ n h. h;
  pending = λ n h. h;
  all = λ n h less. absurd (true≢false (sym h));
  only = λ n h u. absurd (true≢false (sym u ∙ h));
  beside = λ n h u. absurd (true≢false (sym h ∙ u));
  work = refl;
}

one_less : (marks : List Bool) (i : ℕ) → i < length marks → get_or marks i false ≡ false → unmarked (set marks i true) + 1 ≡ unmarked marks
one_less [] i less h = absurd (omega (arith, less))
one_less (m ∷ marks) zero less h = let one : one_if (not m) ≡ 1 = ap (λ b. one_if (not b)) h in omega (arith, one)
one_less (m ∷ marks) (suc i) less h = omega (arith, one_less marks i (omega (arith, less)) h)

-- a mark that is made
made_here : (marks : List Bool) (i : ℕ) → i < length marks → is_marked (set marks i true) i ≡ true
made_here marks i less = get_or-set_same marks i true false less

made_other : (marks : List Bool) (i j : ℕ) → nat_eq j i ≡ false → is_marked (set marks i true) j ≡ is_marked marks j
made_other marks i j apart = get_or-set_other marks i j true false (λ e. true≢false (sym (eq-eqb j i e) ∙ apart))

made_kept : (marks : List Bool) (i j : ℕ) → i < length marks → is_marked marks j ≡ true → is_marked (set marks i true) j ≡ true
made_kept marks i j less h = by_case _ (nat_eq j i)
    (λ same. subst (λ z. is_marked (set marks i true) z ≡ true) (sym (eqb-true j i same)) (made_here marks i less))
    (λ apart. made_other marks i j apart ∙ h)

module _ (numbers : List ℕ) (k : ℕ) (less : k < length numbers) (old now : List Bool) (before after : List ℕ)
    (marks : MarksCallees (take k numbers) old now before after) where
  abbrev x : ℕ
  x = get_or numbers k 0

  in_front : (n : ℕ) → list_any (nat_eq n) (take k numbers) ≡ true → list_any (nat_eq n) (take (k + 1) numbers) ≡ true
  in_front n h = subst (λ z. list_any (nat_eq n) z ≡ true) (sym (take_more numbers k 0 less)) (stands_more n (take k numbers) x h)

  in_last : (n : ℕ) → nat_eq n x ≡ true → list_any (nat_eq n) (take (k + 1) numbers) ≡ true
  in_last n same = subst (λ z. list_any (nat_eq n) z ≡ true) (sym (take_more numbers k 0 less))
      (subst (λ z. list_any (nat_eq z) (take k numbers ++ x ∷ []) ≡ true) (sym (eqb-true n x same)) (stands_last x (take k numbers)))

  in_either : (n : ℕ) → list_any (nat_eq n) (take (k + 1) numbers) ≡ true → nat_eq n x ≡ false → list_any (nat_eq n) (take k numbers) ≡ true
  in_either n h apart = stands_split n (take k numbers) x (subst (λ z. list_any (nat_eq n) z ≡ true) (take_more numbers k 0 less) h) apart

  pub marked_already : (x < length now → is_marked now x ≡ true) → MarksCallees (take (k + 1) numbers) old now before after
  marked_already already = record {
    same_length = marks.same_length;
    kept = marks.kept;
    pending = marks.pending;
    all = λ n h within. by_case _ (nat_eq n x)
        (λ same. subst (λ z. is_marked now z ≡ true) (sym (eqb-true n x same)) (already (
        let e : n ≡ x = eqb-true n x same in omega (arith, e, within, marks.same_length))))
        (λ apart. marks.all n (in_either n h apart) within);
    only = λ n h u. let found = marks.only n h u in (in_front n found.0, found.1);
    beside = marks.beside;
    work = marks.work;
  }

  pub newly_marked : x < length now → is_marked now x ≡ false → MarksCallees (take (k + 1) numbers) old (set now x true) before (after ++ x ∷ [])
  newly_marked within fresh = record {
    same_length = length-set now x true ∙ marks.same_length;
    kept = λ n h. made_kept now x n within (marks.kept n h);
    pending = λ n h. stands_more n after x (marks.pending n h);
    all = λ n h below. by_case _ (nat_eq n x)
        (λ same. subst (λ z. is_marked (set now x true) z ≡ true) (sym (eqb-true n x same)) (made_here now x within))
        (λ apart. made_kept now x n within (marks.all n (in_either n h apart) below));
    only = λ n h u. by_case _ (nat_eq n x)
        (λ same. (in_last n same, subst (λ z. list_any (nat_eq z) (after ++ x ∷ []) ≡ true) (sym (eqb-true n x same)) (stands_last x after)))
        (λ apart. let found = marks.only n h (sym (made_other now x n apart) ∙ u) in (in_front n found.0, stands_more n after x found.1));
    beside = λ n h u. by_case _ (nat_eq n x)
        (λ same. subst (λ z. is_marked (set now x true) z ≡ true) (sym (eqb-true n x same)) (made_here now x within))
        (λ apart. made_kept now x n within (marks.beside n (stands_split n after x h apart) u));
    work = omega (arith, one_less now x within fresh, length_push after x, marks.work);
  }

pub all_marked : (numbers : List ℕ) (old now : List Bool) (before after : List ℕ) → MarksCallees (take (length numbers) numbers) old now before after →
    MarksCallees numbers old now before after
all_marked numbers old now before after h = subst (λ z. MarksCallees z old now before after) (take_length numbers) h
  where
    take_length : (xs : List ℕ) → take (length xs) xs ≡ xs
    take_length [] = refl
    take_length (x ∷ xs) = ap (λ z. x ∷ z) (take_length xs)

module _ (procedures : List Caller) (start : ℕ) where
  pub record Searches (marks : List Bool) (pending : List ℕ) : Type 0 where
    pub counted : length marks ≡ length procedures
    pub come_to : (i : ℕ) → is_marked marks i ≡ true → (through : List ℕ) × IsWay procedures start through i
    pub marked : (i : ℕ) → list_any (nat_eq i) pending ≡ true → is_marked marks i ≡ true
    pub from_start : (c : ℕ) → calls procedures start c ≡ true → c < length procedures → is_marked marks c ≡ true
    pub gone_on : (i c : ℕ) → is_marked marks i ≡ true → list_any (nat_eq i) pending ≡ false → calls procedures i c ≡ true →
        c < length procedures → is_marked marks c ≡ true

  none_marked : (n i : ℕ) → is_marked (replicate n false) i ≡ false
  none_marked n i = by_case _ (nat_lt i n) (λ t. get_or-replicate n i false false (ltb-true i n t))
      (λ f. get_or_past (replicate n false) i false (omega (
        arith,
        length-replicate n false,
        λ (less : i < n). true≢false (sym (lt-ltb i n less) ∙ f),
      )))

  pub begins : (marks : List Bool) (pending : List ℕ) →
      MarksCallees (callees procedures start) (replicate (length procedures) false) marks [] pending → Searches marks pending
  begins marks pending h =
      let n : ℕ = length procedures in
      record {
        counted = h.same_length ∙ length-replicate n false;
        come_to = λ i is. ([], (h.only i (none_marked n i) is).0);
        marked = λ i is. h.beside i is refl;
        from_start = λ c called within. h.all c called (omega (arith, within, length-replicate n false));
        gone_on = λ i c is out called within. absurd (true≢false (sym (h.only i (none_marked n i) is).1 ∙ out));
      }

  one_further : (through : List ℕ) (from at to : ℕ) → IsWay procedures from through at → calls procedures at to ≡ true →
      IsWay procedures from (through ++ at ∷ []) to
  one_further [] from at to way last = (way, last)
  one_further (next ∷ through) from at to way last = (way.0, one_further through next at to way.1 last)

  pub goes_on : (marks new : List Bool) (pending rest after : List ℕ) (p : ℕ) → Searches marks pending → pending ≡ rest ++ p ∷ [] →
      MarksCallees (callees procedures p) marks new rest after → Searches new after
  goes_on marks new pending rest after p now e h =
      let taken : is_marked marks p ≡ true = now.marked p (subst (λ z. list_any (nat_eq p) z ≡ true) (sym e) (stands_last p rest)) in
      record {
        counted = h.same_length ∙ now.counted;
        come_to = λ i is. by_case _ (is_marked marks i) (λ t. now.come_to i t)
            (λ f. let way = now.come_to p taken in (way.0 ++ p ∷ [], one_further way.0 start p i way.1 (h.only i f is).0));
        marked = λ i is. by_case _ (list_any (nat_eq i) rest)
            (λ t. h.kept i (now.marked i (subst (λ z. list_any (nat_eq i) z ≡ true) (sym e) (stands_more i rest p t))))
            (λ f. h.beside i is f);
        from_start = λ c called within. h.kept c (now.from_start c called within);
        gone_on = λ i c is out called within. by_case _ (is_marked marks i)
            (λ t. by_case _ (nat_eq i p)
            (λ same. h.all c (subst (λ z. calls procedures z c ≡ true) (eqb-true i p same) called) (omega (arith, within, now.counted)))
            (λ apart. h.kept c (now.gone_on i c t
            (is_false (list_any (nat_eq i) pending) (λ u. true≢false (
            sym (h.pending i (stands_split i rest p (subst (λ z. list_any (nat_eq i) z ≡ true) e u) apart)) ∙ out)))
            called within)))
            (λ f. absurd (true≢false (sym (h.only i f is).1 ∙ out)));
      }

  reached : (marks : List Bool) → Searches marks [] → (through : List ℕ) (from to : ℕ) → is_marked marks from ≡ true →
      IsWay procedures from through to → to < length procedures → is_marked marks to ≡ true
  reached marks h [] from to is way within = h.gone_on from to is refl way within
  reached marks h (next ∷ []) from to is way within =
      reached marks h [] next to (h.gone_on from next is refl way.0 (inside procedures next to way.1)) way.1 within
  reached marks h (next ∷ (after ∷ through)) from to is way within =
      reached marks h (after ∷ through) next to (h.gone_on from next is refl way.0 (inside procedures next after way.1.0)) way.1 within

  reached_first : (marks : List Bool) → Searches marks [] → (through : List ℕ) → IsWay procedures start through start → is_marked marks start ≡ true
  reached_first marks h [] way = h.from_start start way (inside procedures start start way)
  reached_first marks h (next ∷ []) way =
      reached marks h [] next start (h.from_start next way.0 (inside procedures next start way.1)) way.1 (inside procedures start next way.0)
  reached_first marks h (next ∷ (after ∷ through)) way =
      reached marks h (after ∷ through) next start (h.from_start next way.0 (inside procedures next after way.1.0)) way.1
      (inside procedures start next way.0)

  same_tests : (a b : Bool) → (a ≡ true → b ≡ true) → (b ≡ true → a ≡ true) → a ≡ b
  same_tests true b f g = sym (f refl)
  same_tests false true f g = g refl
  same_tests false false f g = refl

  pub ended : (marks : List Bool) → Searches marks [] → is_marked marks start ≡ calls_itself procedures start
  ended marks h = same_tests (is_marked marks start) (calls_itself procedures start)
      (λ is. (cycles procedures start).1 (h.come_to start is))
      (λ is. let way = (cycles procedures start).0 is in reached_first marks h way.0 way.1)
