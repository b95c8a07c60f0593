-- What one step of a machine does, and how steps follow one another.
use Rattle.std.proofs.Common.{◌≡◌, ℕ, zero, suc, ◌+◌, List, [], ◌∷◌, Option, Some, None, slice_set, refl, sym, ap}
use Rattle.std.proofs.Common.{subst, ◌∙◌, add-zero, zero-add, arith}
use Rattle.std.proofs.lemmas.Option.{none-some, same_Some}
use Rattle.pearl_rules.specs.declared.action.Action.{Action}
use Rattle.pearl_rules.specs.Runs.{Coming, kept_at, Engine, Running, Machine, machine_next, unsettled_from, unsettled}
use Rattle.pearl_rules.specs.Runs.{stepped, machine_mark_by, machine_step_by, machine_step, machine_after}

-- an unsettled task takes one instruction
pub step_silent : {S : Type 0} (engine : Engine S) (m : Machine S) (u : ℕ) (stack : S) → unsettled m ≡ Some (u, stack) →
    machine_step engine m ≡ record m { running = slice_set m.running u (Some (stepped stack (engine.step u stack))) }
unfolding machine_step
step_silent engine m u stack e = ap (λ x. machine_step_by engine m x) e

-- where nothing is unsettled a mark is made
pub step_mark : {S : Type 0} (engine : Engine S) (m : Machine S) (coming : Option Coming) → unsettled m ≡ None →
    machine_next m ≡ coming → machine_step engine m ≡ machine_mark_by engine m coming
unfolding machine_step
step_mark engine m coming e next = ap (λ x. machine_step_by engine m x) e ∙ ap (λ x. machine_mark_by engine m x) next

-- one step and then n are one more than n
pub after_first : {S : Type 0} (engine : Engine S) (m : Machine S) (n : ℕ) →
    machine_after engine (machine_step engine m) n ≡ machine_after engine m (suc n)
after_first engine m zero = refl
after_first engine m (suc n) = ap (machine_step engine) (after_first engine m n)

-- ---- the unsettled task

-- it stands at its place
record Found {S : Type 0} (t : ℕ) (xs : List (Option (Running S))) (u : ℕ) (stack : S) : Type 0 where
  place : ℕ
  number : u ≡ t + place
  here : kept_at xs place ≡ Some (record { stack = stack; offer = None })

found_later : {S : Type 0} (t : ℕ) (x : Option (Running S)) (xs : List (Option (Running S))) (u : ℕ) (stack : S) →
    Found (t + 1) xs u stack → Found t (x ∷ xs) u stack
found_later t x xs u stack found =
    let number = found.number in record { place = suc found.place; number = omega (arith, number); here = found.here }

found_first : {S : Type 0} (t : ℕ) (here : S) (offer : Option Action) (xs : List (Option (Running S))) (u : ℕ)
    (stack : S) → (unsettled_from (t + 1) xs ≡ Some (u, stack) → Found (t + 1) xs u stack) →
    unsettled_from t (Some (record { stack = here; offer = offer }) ∷ xs) ≡ Some (u, stack) →
    Found t (Some (record { stack = here; offer = offer }) ∷ xs) u stack
found_first t here None xs u stack go e =
    let same = same_Some (t, here) (u, stack) e in
    record {
      place = 0;
      number = sym (ap (λ p. p.0) same) ∙ sym (add-zero t);
      here = ap (λ p. Some (record { stack = p.1; offer = None })) same;
    }
found_first t here (Some action) xs u stack go e =
    found_later t (Some (record { stack = here; offer = Some action })) xs u stack (go e)

found_from : {S : Type 0} (t : ℕ) (xs : List (Option (Running S))) (u : ℕ) (stack : S) →
    unsettled_from t xs ≡ Some (u, stack) → Found t xs u stack
found_from t [] u stack e = absurd (none-some (u, stack) e)
found_from t (None ∷ xs) u stack e = found_later t None xs u stack (found_from (t + 1) xs u stack e)
found_from t (Some running ∷ xs) u stack e =
    found_first t running.stack running.offer xs u stack (λ h. found_from (t + 1) xs u stack h) e

pub found : {S : Type 0} (m : Machine S) (u : ℕ) (stack : S) → unsettled m ≡ Some (u, stack) →
    kept_at m.running u ≡ Some (record { stack = stack; offer = None })
found m u stack e =
    let f = found_from 0 m.running u stack e in
    subst (λ i. kept_at m.running i ≡ Some (record { stack = stack; offer = None }))
    (sym (f.number ∙ zero-add f.place)) f.here
