-- The best task of the set is the one that the rules pick.
use Rattle.std.proofs.Common.{◌≡◌, ℕ, zero, suc, ◌<◌, ◌≤◌, List, Bool, true, false, Option, Some, None, length, nat_lt}
use Rattle.std.proofs.Common.{true≢false, nat_eq, ◌||◌, ◌&&◌, option_map, cond, refl, sym, ap, ap₂, subst, ◌∙◌, arith}
use Rattle.std.specs.Option.{option_eq}
use Rattle.std.proofs.lemmas.Option.{slice_get_within}
use Rattle.pearl_rules.specs.Core.{Core}
use Rattle.pearl_rules.specs.Pick.{is_eligible, is_as_urgent, can_turn, priority_of, is_last_of, goes_before, better_if}
use Rattle.pearl_rules.specs.Pick.{better, pick_first, pick}
use Rattle.pearl_ready.specs.Best as set
use Rattle.pearl_rules.proofs.Offered.{picked, eligible_within}
use Rattle.pearl_kernel.specs.Kept.{Kept, offered}
use Rattle.pearl_kernel.specs.Eligible.{entry, number_if, IsSetOf}

-- the best task so far, with its priority number, is the one that is picked so far
abbrev IsSame : Core → Option (ℕ × ℕ) → Option ℕ → Type 0
IsSame core None None = Unit {0}
IsSame core None (Some t) = ⊥
IsSame core (Some best) None = ⊥
IsSame core (Some best) (Some t) = (best.0 ≡ t) × (best.1 ≡ priority_of core t)

same_last : (last : Option ℕ) (t : ℕ) → set.is_last last t ≡ is_last_of last t
same_last None t = refl
same_last (Some u) t = refl

same_order : (core : Core) (t u p : ℕ) → p ≡ priority_of core u →
    set.goes_before core.last (t, priority_of core t) (u, p) ≡ goes_before core t u
same_order core t u p e =
    ap (λ x. nat_lt (priority_of core t) x || (nat_eq (priority_of core t) x && set.is_last core.last t)) e
    ∙ ap (λ b. nat_lt (priority_of core t) (priority_of core u) ||
    (nat_eq (priority_of core t) (priority_of core u) && b)) (same_last core.last t)

same_better : (core : Core) (best : Option (ℕ × ℕ)) (picked : Option ℕ) (t : ℕ) → IsSame core best picked →
    IsSame core (Some (set.better core.last best (t, priority_of core t))) (better core picked t true)
same_better core None None t same = (refl, refl)
same_better core None (Some u) t same = absurd same
same_better core (Some best) None t same = absurd same
same_better core (Some best) (Some u) t same =
    by_order (set.goes_before core.last (t, priority_of core t) best) (goes_before core t u)
    (ap (λ x. set.goes_before core.last (t, priority_of core t) (x, best.1)) same.0 ∙ same_order core t u best.1 same.1)
  where
    by_order : (b c : Bool) → b ≡ c → IsSame core (Some (cond b (t, priority_of core t) best)) (better_if c t u)
    by_order true true e = (refl, refl)
    by_order true false e = absurd cc
    by_order false true e = absurd cc
    by_order false false e = same

same_tried : (core : Core) (best : Option (ℕ × ℕ)) (picked : Option ℕ) (t : ℕ) (eligible : Bool) →
    IsSame core best picked →
    IsSame core (set.tried core.last best t (Some (number_if eligible (priority_of core t))))
    (better core picked t eligible)
same_tried core best picked t true same = same_better core best picked t same
same_tried core best picked t false same = same

module _ (k : Kept) (ready : List (Option ℕ)) (is : IsSetOf k ready) where
  same_first : (n : ℕ) → n ≤ length k.core.tasks →
      IsSame k.core (set.best_first k.core.last ready n) (pick_first k.core (offered k) n)
  same_first zero within = tt
  same_first (suc n) within =
      let best = set.best_first k.core.last ready n in
      let picked = pick_first k.core (offered k) n in
      subst (λ e. IsSame k.core (set.tried k.core.last best n e)
      (better k.core picked n (is_eligible k.core (offered k) n)))
      (sym (is.each n (omega arith)))
      (same_tried k.core best picked n (is_eligible k.core (offered k) n) (same_first n (omega arith)))

  pub best-picked : set.best_of k.core.last ready ≡ pick k.core (offered k)
  best-picked =
      ap (λ n. option_map (λ best. best.0) (set.best_first k.core.last ready n)) is.size
      ∙ by_same (set.best_first k.core.last ready (length k.core.tasks)) (pick k.core (offered k))
      (same_first (length k.core.tasks) (omega arith))
    where
      by_same : (best : Option (ℕ × ℕ)) (picked : Option ℕ) → IsSame k.core best picked →
          option_map (λ b. b.0) best ≡ picked
      by_same None None same = refl
      by_same None (Some t) same = absurd same
      by_same (Some b) None same = absurd same
      by_same (Some b) (Some t) same = ap (λ x. Some x) same.0

pub best-found : (k : Kept) (ready : List (Option ℕ)) (last result : Option ℕ) → IsSetOf k ready → last ≡ k.core.last →
    result ≡ set.best_of last ready → result ≡ pick k.core (offered k)
best-found k ready last result is same found = found ∙ ap (λ l. set.best_of l ready) same ∙ best-picked k ready is

-- it is there
pub best-there : (k : Kept) (ready : List (Option ℕ)) (last : Option ℕ) (t : ℕ) → IsSetOf k ready →
    set.IsBest last ready t → t < length k.core.tasks
best-there k ready last t is best = subst (λ n. t < n) is.size
    (slice_get_within ready t (Some best.priority) best.there)

-- WHOSE TURN IT CAN BE

pub can-turn-is : (k : Kept) (t best : ℕ) (e b : Option ℕ) → pick k.core (offered k) ≡ Some best → e ≡ entry k t →
    b ≡ entry k best →
    (e ≡ None → ⊥) → option_eq nat_eq e b ≡ can_turn k.core (offered k) t
can-turn-is k t best e b is mine its there =
    by_tests (is_eligible k.core (offered k) t) (is_eligible k.core (offered k) best) refl mine
    (sym (picked k.core (offered k) best is).eligible) its
    ∙ ap (λ p. is_eligible k.core (offered k) t && is_as_urgent k.core p t) (sym is)
  where
    by_tests : (x y : Bool) → is_eligible k.core (offered k) t ≡ x → e ≡ number_if x (priority_of k.core t) → true ≡ y →
        b ≡ number_if y (priority_of k.core best) →
        option_eq nat_eq e b ≡ (x && nat_eq (priority_of k.core t) (priority_of k.core best))
    by_tests false y h m o i = absurd (there m)
    by_tests true false h m o i = absurd cc
    by_tests true true h m o i = ap₂ (λ p q. option_eq nat_eq p q) m i

-- a task that can have its turn is one
pub turn-there : (k : Kept) (t : ℕ) (b : Bool) → b ≡ can_turn k.core (offered k) t → b ≡ true → t < length k.core.tasks
turn-there k t b is e =
    eligible_within k.core (offered k) t (first (is_eligible k.core (offered k) t) (is_as_urgent k.core (pick k.core (offered k)) t) (sym is ∙ e))
  where
    first : (x y : Bool) → (x && y) ≡ true → x ≡ true
    first true y e = refl
    first false y e = absurd (true≢false (sym e))
