-- The machine settles: the instructions that the unsettled tasks still owe become fewer with each step that is no mark.
use Rattle.std.proofs.Common.{◌≡◌, ◌≢◌, ℕ, zero, suc, ◌+◌, ◌*◌, ◌<◌, ◌≤◌, List, [], ◌∷◌, Option, Some, None, length, slice_set, refl, sym, ap, subst, ◌∙◌, add-zero, zero-add, suc-mul, arith}
use Rattle.pearl_rules.specs.declared.action.Action.{Action}
use Rattle.pearl_rules.specs.declared.action.Answer.{Answer}
use Rattle.pearl_rules.specs.declared.setup.Setup.{Setup}
use Rattle.pearl_rules.specs.Runs.{Coming, kept_at, Supplier, Source, source_next, source_after, Stepped, Silent, Offers, Engine, Running, Machine, machine_next, unsettled, stepped, machine_step, machine_after, marked_after}
use Rattle.pearl_rules.specs.Faithful.{Alone, Soon}
use Rattle.pearl_rules.proofs.KeptLaws.{Both, AllAt}
use Rattle.pearl_rules.proofs.Simulation.{Here, Simulates, at_place, found, step_silent, marks_silent, marks_mark, sim_next, sim_after}

module _ (setup : Setup) (offer : Supplier) (S : Type 0) (engine : Engine S) (Stands : ℕ → List Answer → S → Type 0) (weight : ℕ → S → ℕ) (rows : ℕ)
    (alone : Alone setup offer engine Stands) (soon : Soon (length setup.tasks) engine Stands weight rows) where
  -- what a task owes that has offered nothing yet
  abbrev owed_by : ℕ → S → Option Action → ℕ
  owed_by t stack None = suc (weight t stack)
  owed_by t stack (Some action) = 0

  -- what a task owes
  abbrev owed : ℕ → Option (Running S) → ℕ
  owed t None = 0
  owed t (Some running) = owed_by t running.stack running.offer

  -- what all tasks owe, the first having the number t
  abbrev debt_from : ℕ → List (Option (Running S)) → ℕ
  debt_from t [] = 0
  debt_from t (x ∷ xs) = owed t x + debt_from (t + 1) xs

  -- what the machine owes
  abbrev debt : Machine S → ℕ
  debt m = debt_from 0 m.running

  -- a task whose weight is below `rows` owes no more than that
  owed_within_by : (t : ℕ) (stack : S) (offered : Option Action) → weight t stack < rows → owed_by t stack offered ≤ rows
  owed_within_by t stack None h = h
  owed_within_by t stack (Some action) h = omega arith

  -- no task that stands where its answers lead owes more than `rows`
  owed_within : (t : ℕ) (x : Option (List Answer)) (y : Option (Running S)) → Both (List Answer) (Running S) (Here setup engine Stands) t x y → owed t y ≤ rows
  owed_within t None None b = omega arith
  owed_within t None (Some running) b = absurd b
  owed_within t (Some heard) None b = absurd b
  owed_within t (Some heard) (Some running) b =
      owed_within_by t running.stack running.offer (soon.bounded t heard running.stack b.there b.stands)

  -- all tasks together owe no more than `rows` for each
  debt_within : (t : ℕ) (xs : List (Option (List Answer))) (ys : List (Option (Running S))) →
      AllAt (List Answer) (Running S) (Here setup engine Stands) t xs ys → debt_from t ys ≤ length ys * rows
  debt_within t [] [] all = omega arith
  debt_within t [] (y ∷ ys) all = absurd all
  debt_within t (x ∷ xs) [] all = absurd all
  debt_within t (x ∷ xs) (y ∷ ys) all =
      let first = owed_within t x y all.0 in
      let rest = debt_within (t + 1) xs ys all.1 in
      let product : suc (length ys) * rows ≡ length ys * rows + rows = omega arith in
      omega arith

  -- where one task owes less, all owe less
  debt_falls : (t : ℕ) (xs : List (Option (Running S))) (i : ℕ) (x : Option (Running S)) → owed (t + i) x < owed (t + i) (kept_at xs i) →
      debt_from t (slice_set xs i x) < debt_from t xs
  debt_falls t [] i x less = let h : owed (t + i) x < 0 = less in omega arith
  debt_falls t (y ∷ xs) zero x less =
      let h = subst (λ u. owed u x < owed u y) (add-zero t) less in omega arith
  debt_falls t (y ∷ xs) (suc i) x less =
      let e : t + suc i ≡ (t + 1) + i = omega arith in
      let h = debt_falls (t + 1) xs i x (subst (λ u. owed u x < owed u (kept_at xs i)) e less) in
      omega arith

  -- an instruction is owed less
  owed_falls : (t : ℕ) (x : Option (List Answer)) (stack : S) →
      Both (List Answer) (Running S) (Here setup engine Stands) t x (Some (record { stack = stack; offer = None })) →
      owed t (Some (stepped stack (engine.step t stack))) < suc (weight t stack)
  owed_falls t None stack b = absurd b
  owed_falls t (Some heard) stack b = go (engine.step t stack) refl
    where
      go : (done : Stepped S) → engine.step t stack ≡ done → owed t (Some (stepped stack done)) < suc (weight t stack)
      go (Silent after) e = let h = soon.falls t heard stack after b.there b.stands e in omega arith
      go (Offers action) e = omega arith

  -- a step of an unsettled task
  debt_step : (m : Machine S) (s : Source) → Simulates setup engine Stands m s → (u : ℕ) (stack : S) → unsettled m ≡ Some (u, stack) →
      debt (machine_step engine m) < debt m
  debt_step m s sim u stack e =
      let here = at_place setup offer S engine Stands alone s.heard m.running sim.all u in
      let at = found m u stack e in
      let before = subst (λ y. Both (List Answer) (Running S) (Here setup engine Stands) u (kept_at s.heard u) y) at here in
      let x = Some (stepped stack (engine.step u stack)) in
      let less : owed u x < owed u (kept_at m.running u) =
      subst (λ y. owed u x < owed u y) (sym at) (owed_falls u (kept_at s.heard u) stack before) in
      let fewer = debt_falls 0 m.running u x (subst (λ v. owed v x < owed v (kept_at m.running u)) (sym (zero-add u)) less) in
      subst (λ k. debt k < debt m) (sym (step_silent engine m u stack e)) fewer

  -- a later place of the run, with nothing unsettled and no mark on the way
  record Settles (start : Machine S) (n room : ℕ) : Type 0 where
    at : ℕ
    within : at ≤ n + room
    none : unsettled (machine_after engine start at) ≡ None
    no_mark : marked_after engine start at ≡ marked_after engine start n

  -- a machine that owes no more than `room` settles within as many steps
  settles : (from : Source) (start : Machine S) → Simulates setup engine Stands start from → (room n : ℕ) →
      debt (machine_after engine start n) ≤ room → Settles start n room
  settles from start sim zero n owes = by_unsettled (unsettled (machine_after engine start n)) refl
    where
      by_unsettled : (x : Option (ℕ × S)) → unsettled (machine_after engine start n) ≡ x → Settles start n zero
      by_unsettled None e = record { at = n; within = omega arith; none = e; no_mark = refl }
      by_unsettled (Some x) e =
          let here = sim_after setup offer S engine Stands alone from start sim n in
          let less = debt_step (machine_after engine start n) (source_after offer from (marked_after engine start n)) here x.0 x.1 e in
          let no : ⊥ = omega arith in
          absurd no
  settles from start sim (suc room) n owes = by_unsettled (unsettled (machine_after engine start n)) refl (λ h. settles from start sim room (suc n) h)
    where
      by_unsettled : (x : Option (ℕ × S)) → unsettled (machine_after engine start n) ≡ x →
          (debt (machine_after engine start (suc n)) ≤ room → Settles start (suc n) room) → Settles start n (suc room)
      by_unsettled None e later = record { at = n; within = omega arith; none = e; no_mark = refl }
      by_unsettled (Some x) e later =
          let here = sim_after setup offer S engine Stands alone from start sim n in
          let less = debt_step (machine_after engine start n) (source_after offer from (marked_after engine start n)) here x.0 x.1 e in
          let s = later (omega arith) in
          let none = marks_silent (machine_after engine start n) x e in
          let bound = s.within in
          record {
            at = s.at;
            within = omega arith;
            none = s.none;
            no_mark = s.no_mark ∙ (ap (λ k. marked_after engine start n + k) none ∙ add-zero (marked_after engine start n));
          }

  -- where so many steps are made with so many marks
  pub record Reaches (start : Machine S) (m room : ℕ) : Type 0 where
    pub at : ℕ
    pub within : at ≤ room
    pub made : marked_after engine start at ≡ m

  -- the same with nothing unsettled
  pub record SettledWith (start : Machine S) (m room : ℕ) : Type 0 where
    pub at : ℕ
    pub within : at ≤ room
    pub made : marked_after engine start at ≡ m
    pub none : unsettled (machine_after engine start at) ≡ None

  -- after its last mark the machine settles
  pub settled_with : (from : Source) (start : Machine S) → Simulates setup engine Stands start from → (m room : ℕ) → Reaches start m room →
      SettledWith start m (room + length setup.tasks * rows)
  settled_with from start sim m room r =
      let here = sim_after setup offer S engine Stands alone from start sim r.at in
      let places = here.places in
      let owes : debt (machine_after engine start r.at) ≤ length setup.tasks * rows =
      subst (λ c. debt (machine_after engine start r.at) ≤ c * rows) places
      (debt_within 0 (source_after offer from (marked_after engine start r.at)).heard (machine_after engine start r.at).running here.all) in
      let s = settles from start sim (length setup.tasks * rows) r.at owes in
      let first = r.within in
      let then = s.within in
      record { at = s.at; within = omega arith; made = s.no_mark ∙ r.made; none = s.none }

  -- where m marks come the machine makes them
  pub reaches : (from : Source) (start : Machine S) → Simulates setup engine Stands start from → (m : ℕ) →
      ((k : ℕ) → k < m → source_next offer (source_after offer from k) ≢ None) → Reaches start m (m * (length setup.tasks * rows + 1))
  reaches from start sim zero comes = record { at = 0; within = omega arith; made = refl }
  reaches from start sim (suc m) comes = go (reaches from start sim m (λ k h. comes k (omega arith)))
    where
      settled_next : (at : ℕ) → unsettled (machine_after engine start at) ≡ None → marked_after engine start at ≡ m →
          machine_next (machine_after engine start at) ≢ None
      settled_next at none made e =
          let here = sim_after setup offer S engine Stands alone from start sim at in
          let same = sim_next setup offer S engine Stands alone (machine_after engine start at) (source_after offer from (marked_after engine start at)) here none in
          comes m (omega arith) (subst (λ j. source_next offer (source_after offer from j) ≡ None) made (sym same ∙ e))

      by_next : (at : ℕ) → unsettled (machine_after engine start at) ≡ None → marked_after engine start at ≡ m →
          (coming : Option Coming) → machine_next (machine_after engine start at) ≡ coming → marked_after engine start (suc at) ≡ suc m
      by_next at none made None e = absurd (settled_next at none made e)
      by_next at none made (Some coming) e =
          let one = marks_mark (machine_after engine start at) (Some coming) none e in
          let more : marked_after engine start (suc at) ≡ marked_after engine start at + 1 = ap (λ k. marked_after engine start at + k) one in
          omega arith

      go : Reaches start m (m * (length setup.tasks * rows + 1)) → Reaches start (suc m) (suc m * (length setup.tasks * rows + 1))
      go r =
          let s = settled_with from start sim m (m * (length setup.tasks * rows + 1)) r in
          let bound = s.within in
          let product : suc m * (length setup.tasks * rows + 1) ≡ m * (length setup.tasks * rows + 1) + (length setup.tasks * rows + 1) = suc-mul m (length setup.tasks * rows + 1) in
          record {
            at = suc s.at;
            within = omega arith;
            made = by_next s.at s.none s.made (machine_next (machine_after engine start s.at)) refl;
          }
