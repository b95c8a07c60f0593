-- What each step of a machine keeps, whatever code it executes: exactly the active tasks have a stack, and what one has
-- offered is what its next instruction offers.
use Rattle.std.proofs.Common.{◌≡◌, ◌⊎◌, inl, inr, ℕ, zero, suc, ◌+◌, List, [], ◌∷◌, Option, Some, None, slice_set, refl, sym, ap, subst, ◌∙◌, add-zero, zero-add, arith}
use Rattle.std.specs.Prelude.{is_some}
use Rattle.std.proofs.lemmas.Option.{none-some, same_Some}
use Rattle.pearl_rules.specs.declared.action.Action.{Action}
use Rattle.pearl_rules.specs.declared.entry.Entry.{Entry}
use Rattle.pearl_rules.specs.declared.setup.Setup.{Setup}
use Rattle.pearl_rules.specs.Core.{Core, is_active, opening}
use Rattle.pearl_rules.specs.Devices.{arrived}
use Rattle.pearl_rules.specs.Effect.{Reply, Hears, Ends, effect}
use Rattle.pearl_rules.specs.Pick.{turned, showing}
use Rattle.pearl_rules.specs.Plans.{millisecond}
use Rattle.pearl_rules.specs.Runs.{Mark, Acts, Turns, Tells, Passes, Arrives, Coming, dropped, kept_at, Stepped, Silent, Offers, Engine, Running, Machine, machine_offers, machine_next, unsettled_from, unsettled, stepped, answered, fresh, machine_settled, machine_does, machine_acts, machine_mark, machine_mark_by, machine_step_by, machine_step, machine_start, machine_after, machine_run}
use Rattle.pearl_instructions_laws.proofs.Places.{set_is, dropped_is, set_filled, refreshed_filled, refreshed_from}

-- WHOSE INSTRUCTION COMES NEXT

-- the unsettled task with its place
record Found {S : Type 0} (t : ℕ) (xs : List (Option (Running S))) (u : ℕ) (stack : S) : Type 0 where
  place : ℕ
  number : u ≡ t + place
  kept : kept_at xs place ≡ Some (record { stack = stack; offer = None })

later : {S : Type 0} (t : ℕ) (x : Option (Running S)) (xs : List (Option (Running S))) (u : ℕ) (stack : S) →
    Found (t + 1) xs u stack → Found t (x ∷ xs) u stack
later t x xs u stack found =
    let number = found.number in record { place = suc found.place; number = omega (arith, number); kept = found.kept }

first : {S : Type 0} (t : ℕ) (here : S) (offer : Option Action) (xs : List (Option (Running S))) (u : ℕ) (stack : S) →
    (unsettled_from (t + 1) xs ≡ Some (u, stack) → Found (t + 1) xs u stack) →
    unsettled_from t (Some (record { stack = here; offer = offer }) ∷ xs) ≡ Some (u, stack) →
    Found t (Some (record { stack = here; offer = offer }) ∷ xs) u stack
first t here None xs u stack go e =
    let same = same_Some (t, here) (u, stack) e in
    record {
      place = 0;
      number = sym (ap (λ p. p.0) same) ∙ sym (add-zero t);
      kept = ap (λ p. Some (record { stack = p.1; offer = None })) same;
    }
first t here (Some action) xs u stack go e =
    later t (Some (record { stack = here; offer = Some action })) xs u stack (go e)

found_from : {S : Type 0} (t : ℕ) (xs : List (Option (Running S))) (u : ℕ) (stack : S) →
    unsettled_from t xs ≡ Some (u, stack) → Found t xs u stack
found_from t [] u stack e = absurd (none-some (u, stack) e)
found_from t (None ∷ xs) u stack e = later t None xs u stack (found_from (t + 1) xs u stack e)
found_from t (Some running ∷ xs) u stack e =
    first t running.stack running.offer xs u stack (λ h. found_from (t + 1) xs u stack h) e

-- it is at the place that is its number
pub next_is : {S : Type 0} (m : Machine S) (u : ℕ) (stack : S) → unsettled m ≡ Some (u, stack) →
    kept_at m.running u ≡ Some (record { stack = stack; offer = None })
next_is m u stack e =
    let found = found_from 0 m.running u stack e in
    subst (λ i. kept_at m.running i ≡ Some (record { stack = stack; offer = None }))
    (sym (found.number ∙ zero-add found.place)) found.kept

module _ {S : Type 0} (engine : Engine S) where
  -- what was offered is what the next instruction offers
  abbrev Honest : List (Option (Running S)) → Type 0
  Honest xs = (t : ℕ) (running : Running S) (action : Action) → kept_at xs t ≡ Some running →
      running.offer ≡ Some action → engine.step t running.stack ≡ Offers action

  -- exactly the active tasks have a stack, and what one has offered is what its next instruction offers
  pub record Keeps (m : Machine S) : Type 0 where
    pub filled : (t : ℕ) → is_some (kept_at m.running t) ≡ is_active m.core t
    pub honest : Honest m.running

  settles : (core : Core) (xs : List (Option (Running S))) (rest : List Entry) → Honest xs →
      Keeps (machine_settled engine core xs rest)
  settles core xs rest honest = record {
    filled = λ t. refreshed_filled (fresh engine) core.tasks xs t;
    honest = λ t running action e offered.
        by t running action offered (refreshed_from (fresh engine) core.tasks xs t running e);
  }
    where
      by : (t : ℕ) (running : Running S) (action : Action) → running.offer ≡ Some action →
          (running ≡ fresh engine (0 + t)) ⊎ (kept_at xs t ≡ Some running) → engine.step t running.stack ≡ Offers action
      by t running action offered (inl anew) =
          absurd (none-some action (sym (ap (λ (r : Running S). r.offer) anew) ∙ offered))
      by t running action offered (inr before) = honest t running action before offered

  ended_honest : (ts : List ℕ) (xs : List (Option (Running S))) → Honest xs → Honest (dropped ts xs)
  ended_honest ts xs honest t running action e offered = honest t running action (dropped_is ts xs t running e) offered

  answered_honest : (xs : List (Option (Running S))) (u : ℕ) (stack : S) (reply : Reply) → Honest xs →
      Honest (answered engine xs u stack reply)
  answered_honest xs u stack (Hears answer) honest t running action e offered =
      by (set_is xs u (Some (record { stack = engine.answer u stack answer; offer = None })) t running e)
    where
      by : ((t ≡ u) × (Some (record { stack = engine.answer u stack answer; offer = None }) ≡ Some running))
          ⊎ (kept_at xs t ≡ Some running) → engine.step t running.stack ≡ Offers action
      by (inl here) =
          let same = same_Some (record { stack = engine.answer u stack answer; offer = None }) running here.1 in
          absurd (none-some action (ap (λ (r : Running S). r.offer) same ∙ offered))
      by (inr there) = honest t running action there offered
  answered_honest xs u stack Ends honest t running action e offered = by (set_is xs u None t running e)
    where
      by : ((t ≡ u) × (None ≡ Some running)) ⊎ (kept_at xs t ≡ Some running) →
          engine.step t running.stack ≡ Offers action
      by (inl here) = absurd (none-some running here.1)
      by (inr there) = honest t running action there offered

  does_keep : (m : Machine S) (t : ℕ) (rest : List Entry) (stack : S) (offer : Option Action) → Keeps m →
      Keeps (machine_does engine m t rest stack offer)
  does_keep m t rest stack None keeps = keeps
  does_keep m t rest stack (Some action) keeps =
      let done = effect m.core t action in
      settles done.core (answered engine (dropped done.ended m.running) t stack done.reply) rest
      (answered_honest (dropped done.ended m.running) t stack done.reply
      (ended_honest done.ended m.running keeps.honest))

  acts_keep : (m : Machine S) (t : ℕ) (rest : List Entry) (x : Option (Running S)) → Keeps m →
      Keeps (machine_acts engine m t rest x)
  acts_keep m t rest None keeps = keeps
  acts_keep m t rest (Some running) keeps = does_keep m t rest running.stack running.offer keeps

  mark_keeps : (m : Machine S) (mark : Mark) (rest : List Entry) → Keeps m → Keeps (machine_mark engine m mark rest)
  mark_keeps m (Acts t) rest keeps = acts_keep m t rest (kept_at m.running t) keeps
  mark_keeps m (Turns t) rest keeps = settles (turned m.core (machine_offers m) t) m.running rest keeps.honest
  mark_keeps m Tells rest keeps = settles (showing m.core (machine_offers m)) m.running rest keeps.honest
  mark_keeps m Passes rest keeps = settles (millisecond m.core) m.running rest keeps.honest
  mark_keeps m (Arrives entry) rest keeps = settles (arrived m.core entry) m.running rest keeps.honest

  coming_keeps : (m : Machine S) (coming : Option Coming) → Keeps m → Keeps (machine_mark_by engine m coming)
  coming_keeps m None keeps = keeps
  coming_keeps m (Some coming) keeps = mark_keeps m coming.mark coming.rest keeps

  -- what an instruction makes of a stack
  step_honest : (u : ℕ) (stack : S) (step : Stepped S) → engine.step u stack ≡ step → (action : Action) →
      (stepped stack step).offer ≡ Some action → engine.step u (stepped stack step).stack ≡ Offers action
  step_honest u stack (Silent after) e action offered = absurd (none-some action offered)
  step_honest u stack (Offers other) e action offered = e ∙ ap Offers (same_Some other action offered)

  instruction_keeps : (m : Machine S) (u : ℕ) (stack : S) → unsettled m ≡ Some (u, stack) → Keeps m →
      Keeps (record m { running = slice_set m.running u (Some (stepped stack (engine.step u stack))) })
  instruction_keeps m u stack e keeps = record {
    filled = λ t. set_filled m.running u (record { stack = stack; offer = None }) (stepped stack (engine.step u stack))
        (next_is m u stack e) t ∙ keeps.filled t;
    honest = λ t running action at offered. by t running action offered
        (set_is m.running u (Some (stepped stack (engine.step u stack))) t running at);
  }
    where
      by : (t : ℕ) (running : Running S) (action : Action) → running.offer ≡ Some action →
          ((t ≡ u) × (Some (stepped stack (engine.step u stack)) ≡ Some running))
          ⊎ (kept_at m.running t ≡ Some running) → engine.step t running.stack ≡ Offers action
      by t running action offered (inl here) =
          let same = same_Some (stepped stack (engine.step u stack)) running here.1 in
          subst (λ i. engine.step i running.stack ≡ Offers action) (sym here.0)
          (subst (λ (r : Running S). engine.step u r.stack ≡ Offers action) same
          (step_honest u stack (engine.step u stack) refl action (ap (λ (r : Running S). r.offer) same ∙ offered)))
      by t running action offered (inr there) = keeps.honest t running action there offered

  step_by_keeps : (m : Machine S) (next : Option (ℕ × S)) → unsettled m ≡ next → Keeps m →
      Keeps (machine_step_by engine m next)
  step_by_keeps m (Some x) e keeps = instruction_keeps m x.0 x.1 e keeps
  step_by_keeps m None e keeps = coming_keeps m (machine_next m) keeps

  step_keeps : (m : Machine S) → Keeps m → Keeps (machine_step engine m)
  unfolding machine_step
  step_keeps m keeps = step_by_keeps m (unsettled m) refl keeps

  after_keeps : (m : Machine S) (n : ℕ) → Keeps m → Keeps (machine_after engine m n)
  after_keeps m zero keeps = keeps
  after_keeps m (suc n) keeps = step_keeps (machine_after engine m n) (after_keeps m n keeps)

  -- after any number of steps
  pub run_keeps : (setup : Setup) (es : List Entry) (n : ℕ) → Keeps (machine_run engine setup es n)
  run_keeps setup es n =
      after_keeps (machine_start engine setup es) n
      (settles (opening setup) [] es (λ t running action e offered. absurd (none-some running e)))
