-- What a machine's step is, and that a run which has ended stays where it is.
use Rattle.std.proofs.Common.{◌≡◌, ℕ, zero, suc, ◌+◌, ◌-◌, ◌<◌, ◌≤◌, ◌⊎◌, inl, inr, Option, None, refl, sym, ap}
use Rattle.std.proofs.Common.{◌∙◌, add-zero, add-suc, arith}
use Rattle.std.proofs.lemmas.Bool.{cases_lt}
use Rattle.pearl_rules.specs.Runs.{Coming, Engine, Machine, machine_next, machine_mark_by, machine_step_by}
use Rattle.pearl_rules.specs.Runs.{machine_step, machine_after, unsettled}
use Rattle.pearl_run_laws.specs.GoingOn.{EndsAfter}

module _ {S : Type 0} (engine : Engine S) where
  -- a step, by what is unsettled
  pub step_by : (m : Machine S) (x : Option (ℕ × S)) → unsettled m ≡ x →
      machine_step engine m ≡ machine_step_by engine m x
  unfolding machine_step
  step_by m x is = ap (λ y. machine_step_by engine m y) is

  -- a step, by the mark that comes next where nothing is unsettled
  pub step_mark : (m : Machine S) (coming : Option Coming) → unsettled m ≡ None → machine_next m ≡ coming →
      machine_step engine m ≡ machine_mark_by engine m coming
  step_mark m coming settled next = step_by m None settled ∙ ap (λ y. machine_mark_by engine m y) next

  -- steps after steps
  pub after_after : (m : Machine S) (j k : ℕ) →
      machine_after engine m (j + k) ≡ machine_after engine (machine_after engine m j) k
  after_after m j zero = ap (λ i. machine_after engine m i) (add-zero j)
  after_after m j (suc k) =
      ap (λ i. machine_after engine m i) (add-suc j k) ∙ ap (λ x. machine_step engine x) (after_after m j k)

  -- a run that has ended stays where it is
  stays : (m : Machine S) (n : ℕ) → EndsAfter engine m n → (k : ℕ) →
      machine_after engine (machine_after engine m n) k ≡ machine_after engine m n
  stays m n ends zero = refl
  stays m n ends (suc k) =
      ap (λ x. machine_step engine x) (stays m n ends k)
      ∙ step_mark (machine_after engine m n) None ends.settled ends.no_mark

  stays_to : (m : Machine S) (n k : ℕ) → n ≤ k → EndsAfter engine m n →
      machine_after engine m k ≡ machine_after engine m n
  stays_to m n k later ends =
      let same : k ≡ n + (k - n) = omega arith in
      ap (λ i. machine_after engine m i) same ∙ after_after m n (k - n) ∙ stays m n ends (k - n)

  pub ends_once : (m : Machine S) (n k : ℕ) → EndsAfter engine m n → EndsAfter engine m k →
      machine_after engine m n ≡ machine_after engine m k
  ends_once m n k ends also = by_order (cases_lt n k)
    where
      by_order : (n < k) ⊎ (k ≤ n) → machine_after engine m n ≡ machine_after engine m k
      by_order (inl less) = sym (stays_to m n k (omega arith) ends)
      by_order (inr up) = stays_to m k n up also
