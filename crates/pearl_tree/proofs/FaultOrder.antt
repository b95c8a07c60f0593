-- Faults in order: sorted, and each once.
use Rattle.std.proofs.Common.{◌≡◌, ◌<◌, ◌==◌, ◌&&◌, inl, inr, true, List, [], ◌∷◌, refl, arith, ◌∙◌}
use Rattle.std.specs.Prelude.{AllPairs}
use Rattle.std.specs.declared.cmp.Ordering.{Ordering}
use Rattle.std.specs.declared.cmp.Ordering.TheVariants.{Less, Equal, Greater}
use Rattle.std.specs.Cmp.{IsTotalOrder, IsEquivalence, unsigned_ties}
use Rattle.std.proofs.lemmas.Bool.Decides.{nat_tests}
use Rattle.std.specs.Ordering.{MatchOrdering, nat_cmp, ordering_then, eq_by_cmp, is_eq}
use Rattle.std.specs.List.{AllByRecursion, All}
use Rattle.std.specs.List.Sorted.{IsStrictlySortedBy}
use Rattle.std.proofs.lemmas.Cmp.{nat_cmp_total, on_total, then_total, ranked, on_equiv, and_equiv, nat_eq_equiv}
use Rattle.std.proofs.lemmas.List.Kept.{AllPairs-cons}
use Rattle.std.proofs.lemmas.List.Elements.{All-nil, All-cons}
use Rattle.pearl_tree.specs.declared.fault.RuleFault.{RuleFault}
use Rattle.pearl_tree.specs.Faults.{IsBefore}

abbrev pub order : RuleFault → RuleFault → Ordering
order x y = ordering_then (nat_cmp x.place y.place) (nat_cmp x.rule y.rule)

pub total : IsTotalOrder order
total = then_total (on_total (λ (x : RuleFault). x.place) nat_cmp_total) (on_total (λ (x : RuleFault). x.rule) nat_cmp_total)

both : (a b : Ordering) → (is_eq a && is_eq b) ≡ is_eq (ordering_then a b)
both Less b = refl
both Equal b = refl
both Greater b = refl

-- equal faults are those that the order does not tell apart
pub ties : (x y : RuleFault) → (x.place == y.place && x.rule == y.rule) ≡ eq_by_cmp order x y
ties x y =
    (λ i. unsigned_ties x.place y.place i && unsigned_ties x.rule y.rule i) ∙ both (nat_cmp x.place y.place) (nat_cmp x.rule y.rule)

before : (x y : RuleFault) → order x y ≡ Less → IsBefore x y
before x y less = by (nat_cmp x.place y.place) (ranked x.place y.place (nat_cmp x.place y.place) refl) (nat_cmp x.rule y.rule)
    (ranked x.rule y.rule (nat_cmp x.rule y.rule) refl) less
  where
    by : (a : Ordering) → MatchOrdering a (x.place < y.place) (x.place ≡ y.place) (y.place < x.place) → (b : Ordering) →
        MatchOrdering b (x.rule < y.rule) (x.rule ≡ y.rule) (y.rule < x.rule) → ordering_then a b ≡ Less → IsBefore x y
    by Less h b g e = inl h
    by Equal h Less g e = inr (h, g)
    by Equal h Equal g e = absurd (cc)
    by Equal h Greater g e = absurd (cc)
    by Greater h b g e = absurd (cc)

-- a strictly sorted list rises
pub rising : (xs : List RuleFault) → IsStrictlySortedBy order xs → AllPairs IsBefore xs
unfolding IsStrictlySortedBy
rising [] h = λ i j d less inside. absurd (omega arith)
rising (x ∷ xs) h = AllPairs-cons IsBefore x xs (behind xs h.0) (rising xs h.1)
  where
    behind : (ys : List RuleFault) → AllByRecursion (λ y. order x y ≡ Less) ys → All (IsBefore x) ys
    behind [] g = All-nil (IsBefore x)
    behind (y ∷ ys) g = All-cons (IsBefore x) y ys (before x y g.0) (behind ys g.1)

pub same_equiv : IsEquivalence (λ (x y : RuleFault). x.place == y.place && x.rule == y.rule)
same_equiv = and_equiv (on_equiv (λ (x : RuleFault). x.place) nat_eq_equiv) (on_equiv (λ (x : RuleFault). x.rule) nat_eq_equiv)

pub same_fault : (x y : RuleFault) → (x.place == y.place && x.rule == y.rule) ≡ true → x ≡ y
same_fault x y e =
    let place : x.place ≡ y.place = grind (arith, nat_tests) in
    let rule : x.rule ≡ y.rule = grind (arith, nat_tests) in
    λ i. record { place = place i; rule = rule i }
