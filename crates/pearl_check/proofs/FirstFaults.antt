-- The first fault is the head of the list in order.
use Rattle.std.proofs.Common.{◌≡◌, ◌⊎◌, inl, inr, zero, suc, ◌≤◌, Bool, true, false, ◌&&◌, ◌==◌, nat_lt, if◌then◌else◌, List, [], ◌∷◌, Some, refl, sym, ap, subst, arith, eq-eqb, eqb-true}
use Rattle.std.proofs.lemmas.Bool.{ltb-true, ltb-false}
use Rattle.std.specs.Prelude.{AllPairs, Contains, slice_get}
use Rattle.pearl_tree.specs.declared.fault.RuleFault.{RuleFault}
use Rattle.pearl_tree.specs.Faults.{IsBefore, ListFaults}
use Rattle.pearl_calls.proofs.Offered.{by_case, or_rest, nor_left, nor_right, and_left, and_right, nand}
use Rattle.pearl_check.specs.Rules.{is_before, earlier, first}

here : (x : RuleFault) (xs : List RuleFault) → Contains (x ∷ xs) x
here x xs = (zero, omega arith, refl)

there : (x f : RuleFault) (xs : List RuleFault) → Contains xs f → Contains (x ∷ xs) f
there x f xs (k, inside, is) = (suc k, omega (arith, inside), is)

where_is : (x f : RuleFault) (xs : List RuleFault) → Contains (x ∷ xs) f → (x ≡ f) ⊎ Contains xs f
where_is x f xs (zero, inside, is) = inl is
where_is x f xs (suc k, inside, is) = inr (k, omega (arith, inside), is)

no_member : (f : RuleFault) → Contains [] f → ⊥
no_member f (k, inside, is) = omega (arith, inside)

turns : (a b : RuleFault) → IsBefore a b → IsBefore b a → ⊥
turns a b (inl less) (inl more) = omega (arith, less, more)
turns a b (inl less) (inr more) = omega (arith, less, more.0)
turns a b (inr less) (inl more) = omega (arith, less.0, more)
turns a b (inr less) (inr more) = omega (arith, less.1, more.1)

before_of : (a b : RuleFault) → is_before a b ≡ true → IsBefore a b
before_of a b h = by_case _ (nat_lt a.place b.place)
    (λ less. inl (ltb-true a.place b.place less))
    (λ other. let both = or_rest (nat_lt a.place b.place) ((a.place == b.place) && nat_lt a.rule b.rule) other h in
    inr (
      eqb-true a.place b.place (and_left (a.place == b.place) (nat_lt a.rule b.rule) both),
      ltb-true a.rule b.rule (and_right (a.place == b.place) (nat_lt a.rule b.rule) both),
    ))

-- the places of one that isn't before
record Behind (a b : RuleFault) : Type 0 where
  place : b.place ≤ a.place
  rule : a.place ≡ b.place → b.rule ≤ a.rule

behind_of : (a b : RuleFault) → is_before a b ≡ false → Behind a b
behind_of a b h = record {
  place = ltb-false a.place b.place (nor_left (nat_lt a.place b.place) ((a.place == b.place) && nat_lt a.rule b.rule) h);
  rule = λ same. ltb-false a.rule b.rule
      (nand (a.place == b.place) (nat_lt a.rule b.rule)
      (nor_right (nat_lt a.place b.place) ((a.place == b.place) && nat_lt a.rule b.rule) h) (eq-eqb a.place b.place same));
}

-- what is before the first of two is before the second, which isn't before the first
passes : (g x m : RuleFault) → IsBefore g x → Behind m x → IsBefore g m
passes g x m (inl less) behind = inl (omega (arith, less, behind.place))
passes g x m (inr less) behind = by_case _ (nat_lt g.place m.place)
    (λ lower. inl (ltb-true g.place m.place lower))
    (λ other. let same : m.place ≡ x.place = omega (arith, less.0, behind.place, ltb-false g.place m.place other) in
    inr (omega (arith, less.0, same), omega (arith, less.1, behind.rule same)))

record IsLeast (xs : List RuleFault) (f : RuleFault) : Type 0 where
  inside : Contains xs f
  least : (g : RuleFault) → Contains xs g → IsBefore g f → ⊥

least_of_two : (x m : RuleFault) (xs : List RuleFault) (b : Bool) → is_before m x ≡ b → IsLeast xs m → IsLeast (x ∷ xs) (if b then m else x)
least_of_two x m xs true h before = record {
  inside = there x m xs before.inside;
  least = λ g member less. elim (where_is x g xs member) [
    | inl same ↦ turns x m (subst (λ z. IsBefore z m) (sym same) less) (before_of m x h)
    | inr later ↦ before.least g later less
  ];
}
least_of_two x m xs false h before = record {
  inside = here x xs;
  least = λ g member less. elim (where_is x g xs member) [
    | inl same ↦ turns x x (subst (λ z. IsBefore z x) (sym same) less) (subst (λ z. IsBefore z x) (sym same) less)
    | inr later ↦ before.least g later (passes g x m less (behind_of m x h))
  ];
}

least : (x : RuleFault) (xs : List RuleFault) → IsLeast (x ∷ xs) (earlier x (first xs))
least x [] = record {
  inside = here x [];
  least = λ g member less. elim (where_is x g [] member) [
    | inl same ↦ turns x x (subst (λ z. IsBefore z x) (sym same) less) (subst (λ z. IsBefore z x) (sym same) less)
    | inr later ↦ no_member g later
  ];
}
least x (y ∷ ys) = least_of_two x (earlier y (first ys)) (y ∷ ys) (is_before (earlier y (first ys)) x) refl (least y ys)

before : (x f : RuleFault) (xs : List RuleFault) → AllPairs IsBefore (x ∷ xs) → Contains xs f → IsBefore x f
before x f xs rising (k, inside, is) = subst (λ g. IsBefore x g) is (rising zero (suc k) f (omega arith) (omega (arith, inside)))

pub told : (broken faults : List RuleFault) → ListFaults broken faults → first broken ≡ slice_get faults 0
told [] [] h = refl
told [] (f ∷ fs) h = absurd (no_member f ((h.exact f).0 (here f fs)))
told (x ∷ xs) [] h = absurd (no_member x ((h.exact x).1 (here x xs)))
told (x ∷ xs) (f ∷ fs) h =
    let one = least x xs in
    ap Some (elim (where_is f (earlier x (first xs)) fs ((h.exact (earlier x (first xs))).1 one.inside)) [
      | inl same ↦ sym same
      | inr later ↦ absurd (one.least f ((h.exact f).0 (here f fs)) (before f (earlier x (first xs)) fs h.rising later))
    ])
