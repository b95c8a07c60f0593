-- What the rule of numbers says: it leaves no choice, numbers each procedure once, and callees before those that call them.
use Rattle.std.proofs.Common.{◌≡◌, ℕ, zero, suc, ◌<◌, Bool, true, false, not, nat_eq, nat_lt, List, [], ◌∷◌, ◌++◌, length, take, get_or, refl, sym, ap, ◌∙◌, subst, arith, true≢false, eq-eqb, eqb-true, append_assoc, append-nil}
use Rattle.std.proofs.lemmas.Bool.{ltb-true, lt-ltb}
use Rattle.std.proofs.lemmas.List.Folds.{list_any-append}
use Rattle.std.specs.List.{list_any}
use Rattle.pearl_calls.proofs.Truths.{by_case, or_left, or_right, or_rest, and_left, and_right, not_true, true_not, both, is_false}
use Rattle.pearl_calls.proofs.Ways.{some_test, inside}
use Rattle.pearl_calls.specs.Callers.{Caller, callees, calls}
use Rattle.pearl_calls.specs.Cycles.{IsWay, SomeCallsItself}
use Rattle.pearl_calls.specs.Marks.{one_if, times}
use Rattle.pearl_calls.specs.Numberings.{waits, is_ready, GetsNext, GetNext, IsNumbering}

abbrev stands : ℕ → List ℕ → Bool
stands number numbers = list_any (nat_eq number) numbers

pub stands_more : (number : ℕ) (numbers : List ℕ) (last : ℕ) → stands number numbers ≡ true → stands number (numbers ++ last ∷ []) ≡ true
stands_more number numbers last h =
    list_any-append (nat_eq number) numbers (last ∷ []) ∙ or_left (stands number numbers) (stands number (last ∷ [])) h

pub stands_last : (number : ℕ) (numbers : List ℕ) → stands number (numbers ++ number ∷ []) ≡ true
stands_last number numbers =
    list_any-append (nat_eq number) numbers (number ∷ []) ∙
    or_right (stands number numbers) (stands number (number ∷ [])) (or_left (nat_eq number number) false (eq-eqb number number refl))

pub stands_not : (number : ℕ) (numbers : List ℕ) (last : ℕ) → stands number numbers ≡ false → nat_eq number last ≡ false →
    stands number (numbers ++ last ∷ []) ≡ false
stands_not number numbers last h u = is_false (stands number (numbers ++ last ∷ []))
    (λ t. true≢false (sym (or_rest (nat_eq number last) false u
    (or_rest (stands number numbers) (stands number (last ∷ [])) h (sym (list_any-append (nat_eq number) numbers (last ∷ [])) ∙ t)))))

module _ (procedures : List Caller) where
  pub waits_below : (numbered : List ℕ) (p : ℕ) → waits procedures numbered p ≡ true → p < length procedures
  waits_below numbered p h =
      ltb-true p (length procedures) (and_left (nat_lt p (length procedures)) (not (stands p numbered)) h)

  pub waits_out : (numbered : List ℕ) (p : ℕ) → waits procedures numbered p ≡ true → stands p numbered ≡ false
  waits_out numbered p h =
      not_true (stands p numbered) (and_right (nat_lt p (length procedures)) (not (stands p numbered)) h)

  pub waits_if : (numbered : List ℕ) (p : ℕ) → p < length procedures → stands p numbered ≡ false → waits procedures numbered p ≡ true
  waits_if numbered p less out =
      both (nat_lt p (length procedures)) (not (stands p numbered)) (lt-ltb p (length procedures) less) (true_not (stands p numbered) out)

  pub ready_waits : (numbered : List ℕ) (p : ℕ) → is_ready procedures numbered p ≡ true → waits procedures numbered p ≡ true
  ready_waits numbered p h =
      and_left (waits procedures numbered p) (not (list_any (waits procedures numbered) (callees procedures p))) h

  pub ready_open : (numbered : List ℕ) (p : ℕ) → is_ready procedures numbered p ≡ true →
      list_any (waits procedures numbered) (callees procedures p) ≡ false
  ready_open numbered p h = not_true (list_any (waits procedures numbered) (callees procedures p))
      (and_right (waits procedures numbered p) (not (list_any (waits procedures numbered) (callees procedures p))) h)

  -- what a ready procedure calls has a number
  ready_callee : (numbered : List ℕ) (p callee : ℕ) → is_ready procedures numbered p ≡ true → callee < length procedures →
      calls procedures p callee ≡ true → stands callee numbered ≡ true
  ready_callee numbered p callee ready less h = by_case _ (stands callee numbered) (λ t. t)
      (λ out. absurd (true≢false (
      sym (some_test (waits procedures numbered) callee (callees procedures p) h (waits_if numbered callee less out)) ∙
      ready_open numbered p ready)))

  -- each of these calls one of these
  abbrev pub GoesOn : (ℕ → Bool) → Type 0
  GoesOn among = (number : ℕ) → among number ≡ true → (next : ℕ) × ((calls procedures number next ≡ true) × (among next ≡ true))

  untouched : (among : ℕ → Bool) → GoesOn among → (order numbered : List ℕ) → GetNext procedures numbered order →
      ((number : ℕ) → among number ≡ true → stands number numbered ≡ false) →
      (number : ℕ) → among number ≡ true → stands number (numbered ++ order) ≡ false
  untouched among goes [] numbered next out number is = subst (λ z. stands number z ≡ false) (sym (append-nil numbered)) (out number is)
  untouched among goes (p ∷ order) numbered next out number is =
      subst (λ z. stands number z ≡ false) (append_assoc numbered (p ∷ []) order)
      (untouched among goes order (numbered ++ p ∷ []) next.1 (λ other is_other. stands_not other numbered p (out other is_other)
      (is_false (nat_eq other p) (λ same.
      let step = goes other is_other in
      let beyond = goes step.0 step.1.1 in
      let ready : is_ready procedures numbered other ≡ true =
      subst (λ z. is_ready procedures numbered z ≡ true) (sym (eqb-true other p same)) next.0.ready in
      true≢false (
      sym (ready_callee numbered other step.0 ready (inside procedures step.0 beyond.0 beyond.1.0) step.1.0) ∙
      out step.0 step.1.1)))) number is)

  on_way : (through : List ℕ) (from to : ℕ) → IsWay procedures from through to → (number : ℕ) → stands number (from ∷ through) ≡ true →
      (next : ℕ) × ((calls procedures number next ≡ true) × (stands next (to ∷ through) ≡ true))
  on_way [] from to way number h = by_case _ (nat_eq number from)
      (λ same. (
        to,
        (
          subst (λ z. calls procedures z to ≡ true) (sym (eqb-true number from same)) way,
          or_left (nat_eq to to) false (eq-eqb to to refl),
        ),
      ))
      (λ other. absurd (true≢false (sym (or_rest (nat_eq number from) false other h))))
  on_way (step ∷ through) from to way number h = by_case _ (nat_eq number from)
      (λ same. (
        step,
        (
          subst (λ z. calls procedures z step ≡ true) (sym (eqb-true number from same)) way.0,
          or_right (nat_eq step to) (stands step (step ∷ through)) (or_left (nat_eq step step) (stands step through) (eq-eqb step step refl)),
        ),
      ))
      (λ other.
      let found = on_way through step to way.1 number (or_rest (nat_eq number from) (stands number (step ∷ through)) other h) in (
        found.0,
        (
          found.1.0,
          by_case _ (nat_eq found.0 to)
              (λ last. or_left (nat_eq found.0 to) (stands found.0 (step ∷ through)) last)
              (λ no_. or_right (nat_eq found.0 to) (stands found.0 (step ∷ through))
              (or_right (nat_eq found.0 step) (stands found.0 through) (or_rest (nat_eq found.0 to) (stands found.0 through) no_ found.1.1))),
        ),
      ))

  pub none_calls_back : (order : List ℕ) → IsNumbering procedures order → SomeCallsItself procedures → ⊥
  none_calls_back order is some =
      let number : ℕ = some.0 in let through : List ℕ = some.1.0 in
      let here : stands number (number ∷ through) ≡ true = or_left (nat_eq number number) (stands number through) (eq-eqb number number refl) in
      let goes = on_way through number number some.1.1 in
      let first = goes number here in
      let less : number < length procedures = inside procedures number first.0 first.1.0 in
      true≢false (sym (is.whole number less) ∙
      untouched (λ i. stands i (number ∷ through)) goes order [] is.by_rule (λ i h. refl) number here)

  same_next : (numbered : List ℕ) (p q : ℕ) → GetsNext procedures numbered p → GetsNext procedures numbered q → p ≡ q
  same_next numbered p q one other =
      let not_less : p < q → ⊥ = λ h. true≢false (sym one.ready ∙ other.first p h) in
      let not_more : q < p → ⊥ = λ h. true≢false (sym other.ready ∙ one.first q h) in
      omega (arith, not_less, not_more)

  done : (numbered : List ℕ) (p : ℕ) → GetsNext procedures numbered p →
      ((q : ℕ) → q < length procedures → stands q (numbered ++ []) ≡ true) → ⊥
  done numbered p next all =
      let waiting = ready_waits numbered p next.ready in
      true≢false (
      sym (subst (λ z. stands p z ≡ true) (append-nil numbered) (all p (waits_below numbered p waiting))) ∙ waits_out numbered p waiting)

  agree : (one other numbered : List ℕ) → GetNext procedures numbered one → GetNext procedures numbered other →
      ((q : ℕ) → q < length procedures → stands q (numbered ++ one) ≡ true) →
      ((q : ℕ) → q < length procedures → stands q (numbered ++ other) ≡ true) → one ≡ other
  agree [] [] numbered a b all_one all_other = refl
  agree [] (q ∷ other) numbered a b all_one all_other = absurd (done numbered q b.0 all_one)
  agree (p ∷ one) [] numbered a b all_one all_other = absurd (done numbered p a.0 all_other)
  agree (p ∷ one) (q ∷ other) numbered a b all_one all_other =
      let same : p ≡ q = same_next numbered p q a.0 b.0 in
      let rest : one ≡ other = agree one other (numbered ++ p ∷ []) a.1
      (subst (λ z. GetNext procedures (numbered ++ z ∷ []) other) (sym same) b.1)
      (λ n less. subst (λ z. stands n z ≡ true) (sym (append_assoc numbered (p ∷ []) one)) (all_one n less))
      (λ n less. subst (λ z. stands n z ≡ true) (sym (append_assoc numbered (p ∷ []) other))
      (subst (λ z. stands n (numbered ++ z ∷ other) ≡ true) (sym same) (all_other n less))) in
      cc

  none_again : (order numbered : List ℕ) → GetNext procedures numbered order → (i : ℕ) → stands i numbered ≡ true → times i order ≡ 0
  none_again [] numbered next i h = refl
  none_again (p ∷ order) numbered next i h =
      let rest = none_again order (numbered ++ p ∷ []) next.1 i (stands_more i numbered p h) in
      let apart : nat_eq i p ≡ false = is_false (nat_eq i p) (λ same. true≢false (
      sym (subst (λ z. stands z numbered ≡ true) (eqb-true i p same) h) ∙ waits_out numbered p (ready_waits numbered p next.0.ready))) in
      let here : one_if (nat_eq i p) ≡ 0 = ap one_if apart in
      omega (arith, rest, here)

  once : (order numbered : List ℕ) → GetNext procedures numbered order → (i : ℕ) → stands i order ≡ true → times i order ≡ 1
  once [] numbered next i h = absurd (true≢false (sym h))
  once (p ∷ order) numbered next i h = by_case _ (nat_eq i p)
      (λ same.
      let here : one_if (nat_eq i p) ≡ 1 = ap one_if same in
      let rest = none_again order (numbered ++ p ∷ []) next.1 i
      (subst (λ z. stands z (numbered ++ p ∷ []) ≡ true) (sym (eqb-true i p same)) (stands_last p numbered)) in
      omega (arith, rest, here))
      (λ other.
      let here : one_if (nat_eq i p) ≡ 0 = ap one_if other in
      let rest = once order (numbered ++ p ∷ []) next.1 i (or_rest (nat_eq i p) (stands i order) other h) in
      omega (arith, rest, here))

  pub all_below : (order numbered : List ℕ) → GetNext procedures numbered order → (i : ℕ) → stands i order ≡ true → i < length procedures
  all_below [] numbered next i h = absurd (true≢false (sym h))
  all_below (p ∷ order) numbered next i h = by_case _ (nat_eq i p)
      (λ same. subst (λ z. z < length procedures) (sym (eqb-true i p same)) (waits_below numbered p (ready_waits numbered p next.0.ready)))
      (λ other. all_below order (numbered ++ p ∷ []) next.1 i (or_rest (nat_eq i p) (stands i order) other h))

  comes_first : (order numbered : List ℕ) → GetNext procedures numbered order → (k callee : ℕ) → k < length order → callee < length procedures →
      calls procedures (get_or order k 0) callee ≡ true → stands callee (numbered ++ take k order) ≡ true
  comes_first [] numbered next k callee less there h = absurd (omega (arith, less))
  comes_first (p ∷ order) numbered next zero callee less there h =
      subst (λ z. stands callee z ≡ true) (sym (append-nil numbered)) (ready_callee numbered p callee next.0.ready there h)
  comes_first (p ∷ order) numbered next (suc k) callee less there h =
      subst (λ z. stands callee z ≡ true) (append_assoc numbered (p ∷ []) (take k order))
      (comes_first order (numbered ++ p ∷ []) next.1 k callee (omega (arith, less)) there h)

  -- one more procedure gets the next number
  pub one_next : (order numbered : List ℕ) (p : ℕ) → GetNext procedures numbered order → GetsNext procedures (numbered ++ order) p →
      GetNext procedures numbered (order ++ p ∷ [])
  one_next [] numbered p next gets = (subst (λ z. GetsNext procedures z p) (append-nil numbered) gets, tt)
  one_next (q ∷ order) numbered p next gets = (
    next.0,
    one_next order (numbered ++ q ∷ []) p next.1
        (subst (λ z. GetsNext procedures z p) (sym (append_assoc numbered (q ∷ []) order)) gets),
  )

pub agrees : (procedures : List Caller) (one other : List ℕ) → IsNumbering procedures one → IsNumbering procedures other → one ≡ other
agrees procedures one other a b = agree procedures one other [] a.by_rule b.by_rule a.whole b.whole

pub each_once : (procedures : List Caller) (order : List ℕ) (number : ℕ) → IsNumbering procedures order → number < length procedures →
    times number order ≡ 1
each_once procedures order number is less = once procedures order [] is.by_rule number (is.whole number less)

pub only_procedures : (procedures : List Caller) (order : List ℕ) (number : ℕ) → IsNumbering procedures order →
    list_any (nat_eq number) order ≡ true → number < length procedures
only_procedures procedures order number is h = all_below procedures order [] is.by_rule number h

pub callees_first : (procedures : List Caller) (order : List ℕ) (number callee : ℕ) → IsNumbering procedures order →
    number < length order → callee < length procedures → calls procedures (get_or order number 0) callee ≡ true →
    list_any (nat_eq callee) (take number order) ≡ true
callees_first procedures order number callee is less there h = comes_first procedures order [] is.by_rule number callee less there h
