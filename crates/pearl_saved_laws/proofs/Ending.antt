-- From a state in order a machine comes to its end: each mark leaves fewer marks, each other step less to do.
use Rattle.std.proofs.Common.{◌≡◌, ℕ, zero, suc, ◌+◌, ◌<◌, List, [], ◌∷◌, Option, Some, None, slice_set, refl, sym, ap}
use Rattle.std.proofs.Common.{subst, add-zero, zero-add, arith}
use Rattle.pearl_rules.specs.declared.action.Action.{Action}
use Rattle.pearl_rules.specs.declared.setup.Setup.{Setup}
use Rattle.pearl_rules.specs.Core.{Core}
use Rattle.pearl_rules.specs.Pick.{pick}
use Rattle.pearl_rules.specs.Runs.{Coming, kept_at, Stepped, Silent, Offers, Engine, Running, Machine, machine_offers}
use Rattle.pearl_rules.specs.Runs.{machine_next, unsettled, stepped, machine_step, machine_after}
use Rattle.pearl_saved_laws.proofs.Marks.{marks_left, next_takes}
use Rattle.pearl_saved_laws.proofs.Sound.{Sound, Keeps, Fine, silent_good, marked_good}
use Rattle.pearl_saved_laws.proofs.Steps.{step_silent, after_first, found}

-- the machine is at its end after so many steps
pub record EndsAt {S : Type 0} (engine : Engine S) (m : Machine S) : Type 0 where
  pub steps : ℕ
  pub settled : unsettled (machine_after engine m steps) ≡ None
  pub no_mark : machine_next (machine_after engine m steps) ≡ None

-- and so it is one step before
ends_before : {S : Type 0} (engine : Engine S) (m : Machine S) → EndsAt engine (machine_step engine m) → EndsAt engine m
ends_before engine m end = record {
  steps = suc end.steps;
  settled = subst (λ x. unsettled x ≡ None) (after_first engine m end.steps) end.settled;
  no_mark = subst (λ x. machine_next x ≡ None) (after_first engine m end.steps) end.no_mark;
}

module _ (setup : Setup) {S : Type 0} (engine : Engine S) (Here : ℕ → S → Type 0) (weight : ℕ → S → ℕ)
    (sound : Sound setup engine Here weight) (P : Core → Type 0) (keeps : Keeps setup P) where
  abbrev Ready : Machine S → Type 0
  Ready m = Fine setup engine Here weight sound P keeps m

  -- ---- what is still to be done before the next mark

  abbrev owed_by : ℕ → S → Option Action → ℕ
  owed_by t stack None = suc (weight t stack)
  owed_by t stack (Some action) = 0

  abbrev owed : ℕ → Option (Running S) → ℕ
  owed t None = 0
  owed t (Some running) = owed_by t running.stack running.offer

  -- what all tasks owe, the first having the number t
  abbrev debt_from : ℕ → List (Option (Running S)) → ℕ
  debt_from t [] = 0
  debt_from t (x ∷ xs) = owed t x + debt_from (t + 1) xs

  abbrev debt : Machine S → ℕ
  debt m = debt_from 0 m.running

  -- where one task owes less, all owe less
  debt_falls : (t : ℕ) (xs : List (Option (Running S))) (i : ℕ) (x : Option (Running S)) →
      owed (t + i) x < owed (t + i) (kept_at xs i) → debt_from t (slice_set xs i x) < debt_from t xs
  debt_falls t [] i x less = let h : owed (t + i) x < 0 = less in omega (arith, h)
  debt_falls t (y ∷ xs) zero x less =
      let h = subst (λ u. owed u x < owed u y) (add-zero t) less in omega (arith, h)
  debt_falls t (y ∷ xs) (suc i) x less =
      let e : t + suc i ≡ (t + 1) + i = omega arith in
      let h = debt_falls (t + 1) xs i x (subst (λ u. owed u x < owed u (kept_at xs i)) e less) in
      omega (arith, h)

  owed_falls : (t : ℕ) (stack : S) → Here t stack → (done : Stepped S) → engine.step t stack ≡ done →
      owed t (Some (stepped stack done)) < suc (weight t stack)
  owed_falls t stack here (Silent after) e = let h = sound.falls t stack after here e in omega (arith, h)
  owed_falls t stack here (Offers action) e = omega arith

  debt_step : (m : Machine S) → Ready m → (u : ℕ) (stack : S) → unsettled m ≡ Some (u, stack) →
      debt (machine_step engine m) < debt m
  debt_step m ready u stack e =
      let at = found m u stack e in
      let here = (ready.stand u (record { stack = stack; offer = None }) at).here in
      let next = Some (stepped stack (engine.step u stack)) in
      let less : owed u next < owed u (kept_at m.running u) =
      subst (λ y. owed u next < owed u y) (sym at) (owed_falls u stack here (engine.step u stack) refl) in
      let fewer = debt_falls 0 m.running u next
      (subst (λ v. owed v next < owed v (kept_at m.running u)) (sym (zero-add u)) less) in
      subst (λ (x : Machine S). debt x < debt m) (sym (step_silent engine m u stack e)) fewer

  -- ---- the end

  -- from each state that has fewer marks left than these it comes to its end
  abbrev AllEnd : ℕ → Type 0
  AllEnd marks = (m : Machine S) → Ready m → marks_left m.entries < marks → EndsAt engine m

  -- and so it does from one that has as many left, whatever it owes
  settles : (marks : ℕ) → AllEnd marks → (owes : ℕ) (m : Machine S) → Ready m → marks_left m.entries < suc marks →
      debt m < owes → EndsAt engine m
  settles marks later zero m ready fewer less = let no : ⊥ = omega (arith, less) in absurd no
  settles marks later (suc owes) m ready fewer less =
      by_unsettled (settles marks later owes) (unsettled m) refl
    where
      by_next : unsettled m ≡ None → (coming : Option Coming) → machine_next m ≡ coming → EndsAt engine m
      by_next e None next = record { steps = 0; settled = e; no_mark = next }
      by_next e (Some coming) next =
          let after = marked_good setup engine Here weight sound P keeps m ready coming e next in
          let takes = next_takes setup (pick m.core (machine_offers m)) m.entries coming ready.fits next in
          let one = takes.fewer in
          let left : marks_left (machine_step engine m).entries ≡ marks_left coming.rest = ap marks_left after.left in
          ends_before engine m (later (machine_step engine m) after.good (omega (arith, one, left, fewer)))

      by_unsettled : ((n : Machine S) → Ready n → marks_left n.entries < suc marks → debt n < owes → EndsAt engine n) →
          (x : Option (ℕ × S)) → unsettled m ≡ x → EndsAt engine m
      by_unsettled go None e = by_next e (machine_next m) refl
      by_unsettled go (Some x) e =
          let same : (machine_step engine m).entries ≡ m.entries = ap (λ (n : Machine S). n.entries)
          (step_silent engine m x.0 x.1 e) in
          let falls = debt_step m ready x.0 x.1 e in
          ends_before engine m (go (machine_step engine m)
          (silent_good setup engine Here weight sound P keeps m ready x.0 x.1 e)
          (subst (λ es. marks_left es < suc marks) (sym same) fewer) (omega (arith, falls, less)))

  all_end : (marks : ℕ) → AllEnd marks
  all_end zero m ready fewer = let no : ⊥ = omega (arith, fewer) in absurd no
  all_end (suc marks) m ready fewer = settles marks (all_end marks) (suc (debt m)) m ready fewer (omega arith)

  pub ends : (m : Machine S) → Ready m → EndsAt engine m
  ends m ready = all_end (suc (marks_left m.entries)) m ready (omega arith)
