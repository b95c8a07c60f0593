-- What is broken has one list in order.
use Rattle.std.proofs.Common.{◌≡◌, ◌⊎◌, inl, inr, zero, suc, List, [], ◌∷◌, refl, sym, subst, arith, ◌∙◌}
use Rattle.std.specs.Prelude.{AllPairs, Contains}
use Rattle.pearl_tree.specs.declared.fault.RuleFault.{RuleFault}
use Rattle.pearl_tree.specs.Faults.{IsBefore, ListFaults}
use Rattle.pearl_tree.specs.Laws.{HasOneFaultList}

turns : (a b : RuleFault) → IsBefore a b → IsBefore b a → ⊥
turns a b (inl less) (inl more) = omega (arith, less, more)
turns a b (inl less) (inr more) = omega (arith, less, more.0)
turns a b (inr less) (inl more) = omega (arith, less.0, more)
turns a b (inr less) (inr more) = omega (arith, less.1, more.1)

here : (x : RuleFault) (xs : List RuleFault) → Contains (x ∷ xs) x
here x xs = (zero, omega arith, refl)

there : (x f : RuleFault) (xs : List RuleFault) → Contains xs f → Contains (x ∷ xs) f
there x f xs (k, inside, is) = (suc k, omega (arith, inside), is)

where_is : (x f : RuleFault) (xs : List RuleFault) → Contains (x ∷ xs) f → (x ≡ f) ⊎ Contains xs f
where_is x f xs (zero, inside, is) = inl is
where_is x f xs (suc k, inside, is) = inr (k, omega (arith, inside), is)

no_member : (f : RuleFault) → Contains [] f → ⊥
no_member f (k, inside, is) = omega (arith, inside)

before : (x f : RuleFault) (xs : List RuleFault) → AllPairs IsBefore (x ∷ xs) → Contains xs f → IsBefore x f
before x f xs rising (k, inside, is) = subst (λ g. IsBefore x g) is (rising zero (suc k) f (omega arith) (omega (arith, inside)))

behind : (x : RuleFault) (xs : List RuleFault) → AllPairs IsBefore (x ∷ xs) → AllPairs IsBefore xs
behind x xs rising i j d less inside = rising (suc i) (suc j) d (omega (arith, less)) (omega (arith, inside))

-- a member of a rising list is not the one before it
not_first : (x f : RuleFault) (xs : List RuleFault) → AllPairs IsBefore (x ∷ xs) → Contains xs f → x ≡ f → ⊥
not_first x f xs rising inside e =
    let again : IsBefore f f = subst (λ g. IsBefore g f) e (before x f xs rising inside) in turns f f again again

-- the first of both are the same
firsts : (broken : List RuleFault) (x y : RuleFault) (xs ys : List RuleFault) → ListFaults broken (x ∷ xs) → ListFaults broken (y ∷ ys) → x ≡ y
firsts broken x y xs ys a b =
    elim (where_is y x ys ((b.exact x).1 ((a.exact x).0 (here x xs)))) [
      | inl e ↦ sym e
      | inr later ↦ elim (where_is x y xs ((a.exact y).1 ((b.exact y).0 (here y ys)))) [
        | inl e ↦ e
        | inr after ↦ absurd (turns x y (before x y xs a.rising after) (before y x ys b.rising later))
      ]
    ]

-- a later one of the first list is a later one of the second
stays : (broken : List RuleFault) (x y f : RuleFault) (xs ys : List RuleFault) → ListFaults broken (x ∷ xs) → ListFaults broken (y ∷ ys) → x ≡ y →
    Contains xs f → Contains ys f
stays broken x y f xs ys a b same inside =
    elim (where_is y f ys ((b.exact f).1 ((a.exact f).0 (there x f xs inside)))) [
      | inl e ↦ absurd (not_first x f xs a.rising inside (same ∙ e))
      | inr later ↦ later
    ]

lists_agree : (broken : List RuleFault) (faults others : List RuleFault) → ListFaults broken faults → ListFaults broken others → faults ≡ others
lists_agree broken [] [] a b = refl
lists_agree broken [] (y ∷ ys) a b = absurd (no_member y ((a.exact y).1 ((b.exact y).0 (here y ys))))
lists_agree broken (x ∷ xs) [] a b = absurd (no_member x ((b.exact x).1 ((a.exact x).0 (here x xs))))
lists_agree broken (x ∷ xs) (y ∷ ys) a b =
    let same : x ≡ y = firsts broken x y xs ys a b in
    let rest : xs ≡ ys = lists_agree xs xs ys
    (record { rising = behind x xs a.rising; exact = λ f. (λ h. h, λ h. h) })
    (record {
      rising = behind y ys b.rising;
      exact = λ f. (λ h. stays broken y x f ys xs b a (sym same) h, λ h. stays broken x y f xs ys a b same h);
    }) in
    λ i. same i ∷ rest i

pub one_list : HasOneFaultList
one_list broken faults others a b = lists_agree broken faults others a b
