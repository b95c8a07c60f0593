-- Steps of a machine whose first unsettled task goes on.
use Rattle.std.proofs.Common.{◌≡◌, ℕ, zero, suc, ◌+◌, ◌<◌, List, [], ◌∷◌, Option, Some, None, slice_set, refl, sym, ap, subst, ◌∙◌, add-zero, add-suc, zero-add, arith}
use Rattle.std.proofs.lemmas.Option.{none-some}
use Rattle.pearl_rules.specs.declared.action.Action.{Action}
use Rattle.pearl_rules.specs.Runs.{Engine, Running, Machine, Coming, stepped, kept_at, unsettled, unsettled_from, unsettled_here, machine_next, machine_mark_by, machine_step, machine_step_by, machine_after}
use Rattle.pearl_stack.specs.Frames.{Frame}
use Rattle.pearl_instructions.specs.declared.object.Parts.{Parts as Object}
use Rattle.pearl_instructions.specs.Rows.{row}
use Rattle.pearl_instructions.specs.Engines.{engine, stepped_by}
use Rattle.pearl_silent.specs.Settling.{Silently}
use Rattle.pearl_solo.specs.Settling.{Settles}
use Rattle.pearl_machine.proofs.Listed.{set_twice, kept_here, kept_elsewhere, kept_same, kept_there}

-- steps after steps
pub after-add : {S : Type 0} (e : Engine S) (m : Machine S) (a b : ℕ) → machine_after e (machine_after e m a) b ≡ machine_after e m (a + b)
after-add e m a zero = rw add-zero refl
after-add e m a (suc b) = rw add-suc (ap (machine_step e) (after-add e m a b))

-- what the next step is
pub step_of_task : {S : Type 0} (e : Engine S) (m : Machine S) (t : ℕ) (stack : S) → unsettled m ≡ Some (t, stack) →
    machine_step e m ≡ record m { running = slice_set m.running t (Some (stepped stack (e.step t stack))) }
unfolding machine_step
step_of_task e m t stack first = ap (machine_step_by e m) first

pub step_of_mark : {S : Type 0} (e : Engine S) (m : Machine S) (coming : Option Coming) → unsettled m ≡ None → machine_next m ≡ coming →
    machine_step e m ≡ machine_mark_by e m coming
unfolding machine_step
step_of_mark e m coming settled next = ap (machine_step_by e m) settled ∙ ap (machine_mark_by e m) next

-- a task is not active, or it has offered an action
abbrev pub HasOffered : {S : Type 0} → Option (Running S) → Type 0
HasOffered None = Unit {0}
HasOffered (Some running) = (action : Action) × (running.offer ≡ Some action)

-- such a task is passed over
passed : {S : Type 0} (t : ℕ) (x : Option (Running S)) (later : Option (ℕ × S)) → HasOffered x → unsettled_here t x later ≡ later
passed t None later offered = refl
passed {S} t (Some running) later (action, e) =
    ap (λ offer. let r : Running S = record { stack = running.stack; offer = offer } in unsettled_here t (Some r) later) e

pub none_unsettled : {S : Type 0} (b : ℕ) (xs : List (Option (Running S))) → ((u : ℕ) → HasOffered (kept_at xs u)) → unsettled_from b xs ≡ None
none_unsettled b [] all = refl
none_unsettled b (x ∷ xs) all = passed b x (unsettled_from (b + 1) xs) (all 0) ∙ none_unsettled (b + 1) xs (λ u. all (suc u))

pub first_unsettled : {S : Type 0} (b : ℕ) (xs : List (Option (Running S))) (t : ℕ) (stack : S) →
    ((u : ℕ) → u < t → HasOffered (kept_at xs u)) → kept_at xs t ≡ Some (record { stack = stack; offer = None }) →
    unsettled_from b xs ≡ Some (b + t, stack)
first_unsettled b [] t stack before here = absurd (none-some _ here)
first_unsettled b (x ∷ xs) zero stack before here =
    ap (λ y. unsettled_here b y (unsettled_from (b + 1) xs)) here ∙ ap (λ n. Some (n, stack)) (sym (add-zero b))
first_unsettled b (x ∷ xs) (suc t) stack before here =
    let e : (b + 1) + t ≡ b + suc t = omega arith in
    passed b x (unsettled_from (b + 1) xs) (before 0 (omega arith))
    ∙ (first_unsettled (b + 1) xs t stack (λ u less. before (suc u) (omega arith)) here ∙ ap (λ n. Some (n, stack)) e)

-- where nothing is unsettled each has offered
pub all_offered : {S : Type 0} (b : ℕ) (xs : List (Option (Running S))) → unsettled_from b xs ≡ None → (u : ℕ) → HasOffered (kept_at xs u)
all_offered b [] e u = tt
all_offered b (x ∷ xs) e u = by_place u (at_first b x (unsettled_from (b + 1) xs) e) (λ later v. all_offered (b + 1) xs later v)
  where
    at_first : {S : Type 0} (b : ℕ) (x : Option (Running S)) (later : Option (ℕ × S)) → unsettled_here b x later ≡ None → HasOffered x × (later ≡ None)
    at_first b None later e = (tt, e)
    at_first {S} b (Some running) later e = by_offer running.offer refl
      where
        by_offer : (offer : Option Action) → running.offer ≡ offer → HasOffered (Some running) × (later ≡ None)
        by_offer (Some action) is =
            ((action, is), sym (ap (λ x. let r : Running S = record { stack = running.stack; offer = x } in unsettled_here b (Some r) later) is) ∙ e)
        by_offer None is =
            absurd (none-some _ (sym e ∙ ap (λ x. let r : Running S = record { stack = running.stack; offer = x } in unsettled_here b (Some r) later) is))

    by_place : (u : ℕ) → HasOffered x × (unsettled_from (b + 1) xs ≡ None) → (unsettled_from (b + 1) xs ≡ None → (v : ℕ) → HasOffered (kept_at xs v)) →
        HasOffered (kept_at (x ∷ xs) u)
    by_place zero both others = both.0
    by_place (suc u) both others = others both.1 u

module _ (o : Object) (m : Machine (List Frame)) (t : ℕ) (frames : List Frame)
    (before : (u : ℕ) → u < t → HasOffered (kept_at m.running u)) (here : kept_at m.running t ≡ Some (record { stack = frames; offer = None })) where
  -- the same machine with the task standing elsewhere
  abbrev pub standing : List Frame → Option Action → Machine (List Frame)
  standing stack offer = record m { running = slice_set m.running t (Some (record { stack = stack; offer = offer })) }

  still_first : (stack : List Frame) → unsettled (standing stack None) ≡ Some (t, stack)
  still_first stack =
      first_unsettled 0 (slice_set m.running t (Some (record { stack = stack; offer = None }))) t stack
      (λ u less. subst (λ x. HasOffered x) (sym (kept_elsewhere m.running t u _ (λ e. let no : ⊥ = omega arith in no))) (before u less))
      (kept_here m.running t _ (kept_there m.running t _ here))
      ∙ ap (λ n. Some (n, stack)) (zero-add t)

  one_step : (stack : List Frame) → machine_step (engine o) (standing stack None)
      ≡ record m { running = slice_set m.running t (Some (stepped stack (stepped_by (row o stack)))) }
  one_step stack = step_of_task (engine o) (standing stack None) t stack (still_first stack)
      ∙ ap (λ xs. let n : Machine (List Frame) = record m { running = xs } in n) (set_twice m.running t _ _)

  at_first : standing frames None ≡ m
  at_first = ap (λ xs. let n : Machine (List Frame) = record m { running = xs } in n) (kept_same m.running t _ here)

  silent_steps : (after : List Frame) (n : ℕ) → Silently o n frames after → machine_after (engine o) m n ≡ standing after None
  silent_steps after zero e = sym at_first ∙ ap (λ stack. standing stack None) e
  silent_steps after (suc n) s =
      ap (machine_step (engine o)) (silent_steps s.0 n s.1) ∙ (one_step s.0
      ∙ ap (λ x. let n : Machine (List Frame) = record m { running = slice_set m.running t (Some (stepped s.0 (stepped_by x))) } in n) s.2)

  -- one instruction
  pub first_step : machine_step (engine o) m ≡ record m { running = slice_set m.running t (Some (stepped frames (stepped_by (row o frames)))) }
  first_step = ap (machine_step (engine o)) (sym at_first) ∙ one_step frames

  -- all instructions up to the next action
  pub settle_steps : (after : List Frame) (action : Action) (s : Settles o frames after action) →
      machine_after (engine o) m (suc s.rows) ≡ standing after (Some action)
  settle_steps after action s =
      ap (machine_step (engine o)) (silent_steps after s.rows s.silent) ∙ (one_step after
      ∙ ap (λ x. let n : Machine (List Frame) = record m { running = slice_set m.running t (Some (stepped after (stepped_by x))) } in n) s.offers)
