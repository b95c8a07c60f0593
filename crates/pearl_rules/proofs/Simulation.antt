-- The machine goes the way of the source: step by step the same core, the same entries, and each task at the same place.
use Rattle.std.proofs.Common.{◌≡◌, ℕ, zero, suc, ◌+◌, ◌<◌, List, [], ◌∷◌, ◌++◌, Bool, true, false, Option, Some, None, length, map, slice_set, refl, sym, ap, ap₂, subst, ◌∙◌, length-set, add-zero, add-one, zero-add, arith}
use Rattle.std.specs.List.{AllByRecursion}
use Rattle.std.proofs.Math.Path.{fun_ext}
use Rattle.std.proofs.lemmas.Option.{none-some, same_Some}
use Rattle.std.proofs.lemmas.List.{length-map}
use Rattle.pearl_value.specs.WellFormed.{IsValue}
use Rattle.pearl_rules.specs.declared.action.Action.{Action}
use Rattle.pearl_rules.specs.declared.action.Answer.{Answer}
use Rattle.pearl_rules.specs.declared.entry.Entry.{Entry}
use Rattle.pearl_rules.specs.declared.entry.Entry.TheVariants.{Run, Tick, Pass, Turn, State}
use Rattle.pearl_rules.specs.declared.setup.Setup.{Setup}
use Rattle.pearl_rules.specs.Core.{Core, first_row}
use Rattle.pearl_value.specs.Devices.{IsDevice}
use Rattle.pearl_rules.specs.Slots.{HasKinds}
use Rattle.pearl_rules.specs.Entries.{IsFitting, AreFitting}
use Rattle.pearl_rules.specs.Pick.{pick, turned, showing, last_if, can_turn}
use Rattle.pearl_rules.specs.Plans.{millisecond}
use Rattle.pearl_rules.specs.Devices.{arrived}
use Rattle.pearl_rules.specs.Effect.{Reply, Hears, Ends, effect}
use Rattle.pearl_rules.specs.Runs.{Mark, Acts, Turns, Tells, Passes, Arrives, Coming, next_of_run, next_of_tick, next_of_pass, next_mark, dropped, kept_at, mapped, Supplier, Source, source_offers, source_next, heard_more, source_settled, source_acts, source_mark, source_step_by, source_step, source_start, source_after, Stepped, Silent, Offers, Engine, Running, Machine, offer_of, machine_offers, machine_next, unsettled_here, unsettled_from, unsettled, stepped, answered, fresh, machine_settled, machine_does, machine_acts, machine_mark, machine_mark_by, machine_step_by, machine_step, machine_start, machine_after, count_if, marks_by, marks_in_step, marked_after}
use Rattle.pearl_rules.specs.Faithful.{Alone}
use Rattle.pearl_rules.proofs.PickLaws.{turned-is}
use Rattle.pearl_rules.proofs.EffectLaws.{effect-length, opening-kinds, effect-kinds, effect-answers, millisecond-length, millisecond-kinds, arrived-length, arrived-kinds}
use Rattle.pearl_rules.proofs.KeptLaws.{refreshed-length, Both, AllAt, at_at, set_at, set_right, dropped_at, refreshed_at}

-- an active task is there, its code stands where its answers lead, and what it has offered is what its next instruction offers
pub record Here (setup : Setup) {S : Type 0} (engine : Engine S) (Stands : ℕ → List Answer → S → Type 0) (t : ℕ) (heard : List Answer) (running : Running S) : Type 0 where
  pub there : t < length setup.tasks
  pub stands : Stands t heard running.stack
  pub offered : (action : Action) → running.offer ≡ Some action → engine.step t running.stack ≡ Offers action

-- a machine and a source's state that go together
pub record Simulates (setup : Setup) {S : Type 0} (engine : Engine S) (Stands : ℕ → List Answer → S → Type 0) (m : Machine S) (s : Source) : Type 0 where
  pub same_core : m.core ≡ s.core
  pub same_entries : m.entries ≡ s.entries
  pub all : AllAt (List Answer) (Running S) (Here setup engine Stands) 0 s.heard m.running
  pub kinds : HasKinds setup m.core
  pub tasks : length m.core.tasks ≡ length setup.tasks
  pub places : length m.running ≡ length setup.tasks
  pub fits : AreFitting setup s.entries

-- WHAT REMAINS OF FITTING ENTRIES

-- what comes in by a mark fits
abbrev pub FitsMark : Setup → Mark → Type 0
FitsMark setup (Arrives entry) = IsFitting setup entry
FitsMark setup mark = Unit {0}

-- a mark and what remains after it fit
pub record FitsAfter (setup : Setup) (coming : Coming) : Type 0 where
  pub mark : FitsMark setup coming.mark
  pub rest : AreFitting setup coming.rest

-- of fitting entries a fitting mark comes, and fitting entries remain
pub fits_after : (setup : Setup) (picked : Option ℕ) (es : List Entry) (coming : Coming) → AreFitting setup es → next_mark picked es ≡ Some coming →
    FitsAfter setup coming
fits_after setup picked [] coming fits e = absurd (none-some coming e)
fits_after setup picked (Run n ∷ es) coming fits e = by_pick picked n fits.0 (next_mark picked es) (fits_after setup picked es coming fits.1) e
  where
    by_pick : (chosen : Option ℕ) (n : ℕ) → IsFitting setup (Run n) → (later : Option Coming) → (later ≡ Some coming → FitsAfter setup coming) →
        next_of_run chosen n es later ≡ Some coming → FitsAfter setup coming
    by_pick None n first later go h = go h
    by_pick (Some t) zero first later go h = go h
    by_pick (Some t) (suc n) first later go h =
        let less = first.1 in
        subst (FitsAfter setup) (same_Some (record { mark = Acts t; rest = Run n ∷ es }) coming h)
        (record { mark = tt; rest = ((first.0, omega arith), fits.1) })
fits_after setup picked (Tick n ∷ es) coming fits e = by_number n fits.0 (next_mark picked es) (fits_after setup picked es coming fits.1) e
  where
    by_number : (n : ℕ) → IsFitting setup (Tick n) → (later : Option Coming) → (later ≡ Some coming → FitsAfter setup coming) →
        next_of_tick n es later ≡ Some coming → FitsAfter setup coming
    by_number zero first later go h = go h
    by_number (suc n) first later go h =
        let less = first.1 in
        subst (FitsAfter setup) (same_Some (record { mark = Passes; rest = Tick n ∷ es }) coming h)
        (record { mark = tt; rest = ((first.0, omega arith), fits.1) })
fits_after setup picked (Pass times picks ∷ es) coming fits e =
    by_number times fits.0 (next_mark picked es) (fits_after setup picked es coming fits.1) e
  where
    by_number : (n : ℕ) → IsFitting setup (Pass n picks) → (later : Option Coming) → (later ≡ Some coming → FitsAfter setup coming) →
        next_of_pass n picks es later ≡ Some coming → FitsAfter setup coming
    by_number zero first later go h = go h
    by_number (suc n) first later go h =
        let less = first.1.0 in
        subst (FitsAfter setup) (same_Some (record { mark = Passes; rest = Run picks ∷ Pass n picks ∷ es }) coming h)
        (record { mark = tt; rest = ((first.0, first.1.1), ((first.0, (omega arith, first.1.1)), fits.1)) })
fits_after setup picked (Turn t ∷ es) coming fits e =
    subst (FitsAfter setup) (same_Some (record { mark = Turns t; rest = es }) coming e) (record { mark = tt; rest = fits.1 })
fits_after setup picked (State ∷ es) coming fits e =
    subst (FitsAfter setup) (same_Some (record { mark = Tells; rest = es }) coming e) (record { mark = tt; rest = fits.1 })
fits_after setup picked (entry ∷ es) coming fits e =
    subst (FitsAfter setup) (same_Some (record { mark = Arrives entry; rest = es }) coming e) (record { mark = fits.0; rest = fits.1 })

-- WHERE THE MACHINE IS UNSETTLED

-- what is here has offered
abbrev pub Settled : {S : Type 0} → Option (Running S) → Type 0
Settled None = Unit {0}
Settled (Some running) = (action : Action) × (running.offer ≡ Some action)

-- a task that isn't the unsettled one has offered
settled_by : {S : Type 0} (t : ℕ) (stack : S) (offered : Option Action) (later : Option (ℕ × S)) →
    unsettled_here t (Some (record { stack = stack; offer = offered })) later ≡ None → (action : Action) × (offered ≡ Some action)
settled_by t stack None later e = absurd (none-some (t, stack) (sym e))
settled_by t stack (Some action) later e = (action, refl)

-- the same of what is kept
settled_here : {S : Type 0} (t : ℕ) (x : Option (Running S)) (later : Option (ℕ × S)) → unsettled_here t x later ≡ None → Settled x
settled_here t None later e = tt
settled_here t (Some running) later e = settled_by t running.stack running.offer later e

-- and no later task is unsettled
settled_later_by : {S : Type 0} (t : ℕ) (stack : S) (offered : Option Action) (later : Option (ℕ × S)) →
    unsettled_here t (Some (record { stack = stack; offer = offered })) later ≡ None → later ≡ None
settled_later_by t stack None later e = absurd (none-some (t, stack) (sym e))
settled_later_by t stack (Some action) later e = e

-- the same of what is kept
settled_later : {S : Type 0} (t : ℕ) (x : Option (Running S)) (later : Option (ℕ × S)) → unsettled_here t x later ≡ None → later ≡ None
settled_later t None later e = e
settled_later t (Some running) later e = settled_later_by t running.stack running.offer later e

-- where nothing is unsettled every active task has offered
settled_at : {S : Type 0} (t : ℕ) (xs : List (Option (Running S))) → unsettled_from t xs ≡ None → (i : ℕ) → Settled (kept_at xs i)
settled_at t [] e i = tt
settled_at t (x ∷ xs) e zero = settled_here t x (unsettled_from (t + 1) xs) e
settled_at t (x ∷ xs) e (suc i) = settled_at (t + 1) xs (settled_later t x (unsettled_from (t + 1) xs) e) i

-- the unsettled task with its place
record Found {S : Type 0} (t : ℕ) (xs : List (Option (Running S))) (u : ℕ) (stack : S) : Type 0 where
  place : ℕ
  is_place : u ≡ t + place
  is_here : kept_at xs place ≡ Some (record { stack = stack; offer = None })

-- a place in the rest of the list is one further in the list
found_later : {S : Type 0} (t : ℕ) (x : Option (Running S)) (xs : List (Option (Running S))) (u : ℕ) (stack : S) →
    Found (t + 1) xs u stack → Found t (x ∷ xs) u stack
found_later t x xs u stack found = let e = found.is_place in record { place = suc found.place; is_place = omega arith; is_here = found.is_here }

-- the unsettled task is this one, or a later one
found_by : {S : Type 0} (t : ℕ) (here : S) (offered : Option Action) (xs : List (Option (Running S))) (u : ℕ) (stack : S) →
    (unsettled_from (t + 1) xs ≡ Some (u, stack) → Found (t + 1) xs u stack) →
    unsettled_here t (Some (record { stack = here; offer = offered })) (unsettled_from (t + 1) xs) ≡ Some (u, stack) →
    Found t (Some (record { stack = here; offer = offered }) ∷ xs) u stack
found_by t here None xs u stack later e =
    let same = same_Some (t, here) (u, stack) e in
    record { place = 0; is_place = sym (ap (λ p. p.0) same) ∙ sym (add-zero t); is_here = ap (λ p. Some (record { stack = p.1; offer = None })) same }
found_by t here (Some action) xs u stack later e = found_later t (Some (record { stack = here; offer = Some action })) xs u stack (later e)

-- the same of what is kept
found_here : {S : Type 0} (t : ℕ) (x : Option (Running S)) (xs : List (Option (Running S))) (u : ℕ) (stack : S) →
    (unsettled_from (t + 1) xs ≡ Some (u, stack) → Found (t + 1) xs u stack) →
    unsettled_here t x (unsettled_from (t + 1) xs) ≡ Some (u, stack) → Found t (x ∷ xs) u stack
found_here t None xs u stack later e = found_later t None xs u stack (later e)
found_here t (Some running) xs u stack later e = found_by t running.stack running.offer xs u stack later e

-- the unsettled task has a place
found_from : {S : Type 0} (t : ℕ) (xs : List (Option (Running S))) (u : ℕ) (stack : S) → unsettled_from t xs ≡ Some (u, stack) → Found t xs u stack
found_from t [] u stack e = absurd (none-some (u, stack) e)
found_from t (x ∷ xs) u stack e = found_here t x xs u stack (λ h. found_from (t + 1) xs u stack h) e

-- the unsettled task is at the place that is its number
pub found : {S : Type 0} (m : Machine S) (u : ℕ) (stack : S) → unsettled m ≡ Some (u, stack) →
    kept_at m.running u ≡ Some (record { stack = stack; offer = None })
found m u stack e =
    let f = found_from 0 m.running u stack e in
    subst (λ i. kept_at m.running i ≡ Some (record { stack = stack; offer = None })) (sym (f.is_place ∙ zero-add f.place)) f.is_here

-- WHAT ONE STEP DOES

-- an unsettled task takes one instruction
pub step_silent : {S : Type 0} (engine : Engine S) (m : Machine S) (u : ℕ) (stack : S) → unsettled m ≡ Some (u, stack) →
    machine_step engine m ≡ record m { running = slice_set m.running u (Some (stepped stack (engine.step u stack))) }
unfolding machine_step
step_silent engine m u stack e = ap (λ x. machine_step_by engine m x) e

-- where nothing is unsettled a mark is made
pub step_mark : {S : Type 0} (engine : Engine S) (m : Machine S) (coming : Option Coming) → unsettled m ≡ None → machine_next m ≡ coming →
    machine_step engine m ≡ machine_mark_by engine m coming
unfolding machine_step
step_mark engine m coming e next = ap (λ x. machine_step_by engine m x) e ∙ ap (λ x. machine_mark_by engine m x) next

-- the source's step at the mark that comes
pub step_source : (offer : Supplier) (s : Source) (coming : Option Coming) → source_next offer s ≡ coming → source_step offer s ≡ source_step_by offer s coming
unfolding source_step
step_source offer s coming next = ap (λ x. source_step_by offer s x) next

-- an instruction is no mark
pub marks_silent : {S : Type 0} (m : Machine S) (x : ℕ × S) → unsettled m ≡ Some x → marks_in_step m ≡ 0
marks_silent m x e = ap (λ u. marks_by m u) e

-- where nothing is unsettled the step is a mark, if one comes
pub marks_mark : {S : Type 0} (m : Machine S) (coming : Option Coming) → unsettled m ≡ None → machine_next m ≡ coming → marks_in_step m ≡ count_if coming
marks_mark m coming e next = ap (λ u. marks_by m u) e ∙ ap (λ c. count_if c) next

module _ (setup : Setup) (offer : Supplier) (S : Type 0) (engine : Engine S) (Stands : ℕ → List Answer → S → Type 0) (alone : Alone setup offer engine Stands) where
  -- one task on both sides
  abbrev pub BothHere : ℕ → Option (List Answer) → Option (Running S) → Type 0
  BothHere = Both (List Answer) (Running S) (Here setup engine Stands)

  -- all tasks on both sides
  abbrev pub AllHere : List (Option (List Answer)) → List (Option (Running S)) → Type 0
  AllHere heard running = AllAt (List Answer) (Running S) (Here setup engine Stands) 0 heard running

  -- a task's place
  pub at_place : (heard : List (Option (List Answer))) (running : List (Option (Running S))) → AllHere heard running → (t : ℕ) →
      BothHere t (kept_at heard t) (kept_at running t)
  at_place heard running all t =
      subst (λ u. BothHere u (kept_at heard t) (kept_at running t)) (zero-add t) (at_at (List Answer) (Running S) (Here setup engine Stands) 0 heard running all t)

  -- a place that is written on both sides
  set_place : (heard : List (Option (List Answer))) (running : List (Option (Running S))) → AllHere heard running → (t : ℕ)
      (x : Option (List Answer)) (y : Option (Running S)) → BothHere t x y → AllHere (slice_set heard t x) (slice_set running t y)
  set_place heard running all t x y b =
      set_at (List Answer) (Running S) (Here setup engine Stands) 0 heard running all t x y (subst (λ u. BothHere u x y) (sym (zero-add t)) b)

  -- a place where the code alone goes on
  set_code : (heard : List (Option (List Answer))) (running : List (Option (Running S))) → AllHere heard running → (t : ℕ)
      (y : Option (Running S)) → BothHere t (kept_at heard t) y → AllHere heard (slice_set running t y)
  set_code heard running all t y b =
      set_right (List Answer) (Running S) (Here setup engine Stands) 0 heard running all t y (subst (λ u. BothHere u (kept_at heard t) y) (sym (zero-add t)) b)

  -- what the machine's task has offered is what the source's task does next
  pub same_offer : (t : ℕ) (x : Option (List Answer)) (y : Option (Running S)) → BothHere t x y → (action : Action) → offer_of y ≡ Some action →
      mapped (offer t) x ≡ Some action
  same_offer t None None b action e = absurd (none-some action e)
  same_offer t None (Some running) b action e = absurd b
  same_offer t (Some heard) None b action e = absurd b
  same_offer t (Some heard) (Some running) b action e =
      ap Some (sym (alone.offers t heard running.stack action b.stands (b.offered action e)))

  -- where the task has offered both sides have the same offer
  settled_offer : (t : ℕ) (x : Option (List Answer)) (y : Option (Running S)) → BothHere t x y → Settled y → offer_of y ≡ mapped (offer t) x
  settled_offer t None None b settled = refl
  settled_offer t None (Some running) b settled = absurd b
  settled_offer t (Some heard) None b settled = absurd b
  settled_offer t (Some heard) (Some running) b settled =
      settled.1 ∙ sym (same_offer t (Some heard) (Some running) b settled.0 settled.1)

  -- one instruction leads on, or shows the offer
  stepped_here : (t : ℕ) (x : Option (List Answer)) (stack : S) → BothHere t x (Some (record { stack = stack; offer = None })) →
      BothHere t x (Some (stepped stack (engine.step t stack)))
  stepped_here t None stack b = absurd b
  stepped_here t (Some heard) stack b = go (engine.step t stack) refl
    where
      go : (done : Stepped S) → engine.step t stack ≡ done → Here setup engine Stands t heard (stepped stack done)
      go (Silent after) e = record { there = b.there; stands = alone.goes t heard stack after b.stands e; offered = λ action h. absurd (none-some action h) }
      go (Offers action) e = record { there = b.there; stands = b.stands; offered = λ other h. e ∙ ap Offers (same_Some action other h) }

  -- what a task hears leads both sides to the same place
  replied : (heard : List (Option (List Answer))) (running : List (Option (Running S))) → AllHere heard running → (t : ℕ) (so_far : List Answer)
      (stack : S) (action : Action) → t < length setup.tasks → Stands t so_far stack → engine.step t stack ≡ Offers action → (core : Core) → HasKinds setup core →
      (reply : Reply) → (effect core t action).reply ≡ reply → AllHere (heard_more heard t so_far reply) (answered engine running t stack reply)
  replied heard running all t so_far stack action there stands offers core kinds (Hears answer) e =
      set_place heard running all t (Some (so_far ++ answer ∷ [])) (Some (record { stack = engine.answer t stack answer; offer = None }))
      (record {
        there = there;
        stands = alone.answered t so_far stack action answer stands offers
            (effect-answers setup core t action answer kinds (alone.fits t so_far stack action stands offers) e);
        offered = λ other h. absurd (none-some other h);
      })
  replied heard running all t so_far stack action there stands offers core kinds Ends e = set_place heard running all t None None tt

  -- a task that begins stands at its beginning
  begun : (u : ℕ) → u < length setup.tasks → Here setup engine Stands u [] (fresh engine u)
  begun u there = record { there = there; stands = alone.begins u there; offered = λ action h. absurd (none-some action h) }

  -- the two go together
  abbrev pub Sim : Machine S → Source → Type 0
  Sim m s = Simulates setup engine Stands m s

  -- one instruction of an unsettled task is no mark
  sim_silent : (m : Machine S) (s : Source) → Sim m s → (u : ℕ) (stack : S) → unsettled m ≡ Some (u, stack) → Sim (machine_step engine m) s
  sim_silent m s sim u stack e =
      let here = at_place s.heard m.running sim.all u in
      let before = subst (λ y. BothHere u (kept_at s.heard u) y) (found m u stack e) here in
      let next = Some (stepped stack (engine.step u stack)) in
      let after : Sim (record m { running = slice_set m.running u next }) s = record {
        same_core = sim.same_core;
        same_entries = sim.same_entries;
        all = set_code s.heard m.running sim.all u next (stepped_here u (kept_at s.heard u) stack before);
        kinds = sim.kinds;
        tasks = sim.tasks;
        places = length-set m.running u next ∙ sim.places;
        fits = sim.fits;
      } in
      subst (λ x. Sim x s) (sym (step_silent engine m u stack e)) after

  -- where nothing is unsettled the offers are the same
  pub sim_offers : (m : Machine S) (s : Source) → Sim m s → unsettled m ≡ None → (t : ℕ) → machine_offers m t ≡ source_offers offer s t
  sim_offers m s sim e t =
      settled_offer t (kept_at s.heard t) (kept_at m.running t) (at_place s.heard m.running sim.all t) (settled_at 0 m.running e t)

  -- and so is the next mark
  pub sim_next : (m : Machine S) (s : Source) → Sim m s → unsettled m ≡ None → machine_next m ≡ source_next offer s
  sim_next m s sim e =
      ap₂ (λ core entries. next_mark (pick core (machine_offers m)) entries) sim.same_core sim.same_entries
      ∙ ap (λ o. next_mark (pick s.core o) s.entries) (fun_ext (sim_offers m s sim e))

  -- the same effect on both sides
  sim_done : (m : Machine S) (s : Source) → Sim m s → (t : ℕ) (rest : List Entry) → AreFitting setup rest →
      (so_far : List Answer) (stack : S) (action : Action) →
      t < length setup.tasks → Stands t so_far stack → engine.step t stack ≡ Offers action →
      Sim (machine_does engine m t rest stack (Some action)) (source_acts offer s t rest (Some so_far))
  sim_done m s sim t rest fits so_far stack action there stands offers =
      let done = effect m.core t action in
      let same : done ≡ effect s.core t (offer t so_far) =
      ap₂ (λ core a. effect core t a) sim.same_core (alone.offers t so_far stack action stands offers) in
      let kept = effect-length m.core t action ∙ sim.tasks in
      let after : Sim (machine_settled engine done.core (answered engine (dropped done.ended m.running) t stack done.reply) rest)
      (source_settled done.core (heard_more (dropped done.ended s.heard) t so_far done.reply) rest) = record {
        same_core = refl;
        same_entries = refl;
        all = refreshed_at (List Answer) (Running S) (Here setup engine Stands) (λ u. []) (fresh engine) 0 done.core.tasks
            (λ u less. begun u (omega (arith, less, kept)))
            (heard_more (dropped done.ended s.heard) t so_far done.reply) (answered engine (dropped done.ended m.running) t stack done.reply)
            (replied (dropped done.ended s.heard) (dropped done.ended m.running)
            (dropped_at (List Answer) (Running S) (Here setup engine Stands) done.ended 0 s.heard m.running sim.all)
            t so_far stack action there stands offers m.core sim.kinds done.reply refl);
        kinds = effect-kinds setup m.core t action sim.kinds (alone.fits t so_far stack action stands offers);
        tasks = kept;
        places = refreshed-length (fresh engine) 0 done.core.tasks (answered engine (dropped done.ended m.running) t stack done.reply) ∙ kept;
        fits = fits;
      } in
      subst (λ d. Sim (machine_settled engine done.core (answered engine (dropped done.ended m.running) t stack done.reply) rest)
      (source_settled d.core (heard_more (dropped d.ended s.heard) t so_far d.reply) rest)) same after

  -- one action on both sides
  sim_acts : (m : Machine S) (s : Source) → Sim m s → (t : ℕ) (rest : List Entry) → AreFitting setup rest →
      (x : Option (List Answer)) (y : Option (Running S)) →
      BothHere t x y → Settled y → Sim (machine_acts engine m t rest y) (source_acts offer s t rest x)
  sim_acts m s sim t rest fits None None b settled = sim
  sim_acts m s sim t rest fits None (Some running) b settled = absurd b
  sim_acts m s sim t rest fits (Some so_far) None b settled = absurd b
  sim_acts m s sim t rest fits (Some so_far) (Some running) b settled =
      subst (λ o. Sim (machine_does engine m t rest running.stack o) (source_acts offer s t rest (Some so_far))) (sym settled.1)
      (sim_done m s sim t rest fits so_far running.stack settled.0 b.there b.stands (b.offered settled.0 settled.1))

  -- where a mark keeps the kinds and the number of tasks, both sides have the same core after it, and what they kept
  sim_settled : (m : Machine S) (s : Source) → Sim m s → (core other : Core) → core ≡ other → length core.tasks ≡ length setup.tasks → HasKinds setup core →
      (rest : List Entry) → AreFitting setup rest → Sim (machine_settled engine core m.running rest) (source_settled other s.heard rest)
  sim_settled m s sim core other same kept kinds rest fits =
      let after : Sim (machine_settled engine core m.running rest) (source_settled core s.heard rest) = record {
        same_core = refl;
        same_entries = refl;
        all = refreshed_at (List Answer) (Running S) (Here setup engine Stands) (λ u. []) (fresh engine) 0 core.tasks
            (λ u less. begun u (omega (arith, less, kept))) s.heard m.running sim.all;
        kinds = kinds;
        tasks = kept;
        places = refreshed-length (fresh engine) 0 core.tasks m.running ∙ kept;
        fits = fits;
      } in
      subst (λ c. Sim (machine_settled engine core m.running rest) (source_settled c s.heard rest)) same after

  -- who acted last and what was told is nothing that has a kind
  turned_kinds : (m : Machine S) (s : Source) → Sim m s → (t : ℕ) → HasKinds setup (turned m.core (machine_offers m) t)
  turned_kinds m s sim t = by_test (can_turn m.core (machine_offers m) t)
    where
      by_test : (can : Bool) → HasKinds setup (last_if can m.core t)
      by_test true = record { slots = sim.kinds.slots; channels = sim.kinds.channels; formats = sim.kinds.formats }
      by_test false = sim.kinds

  -- one mark on both sides
  sim_mark : (m : Machine S) (s : Source) → Sim m s → unsettled m ≡ None → (mark : Mark) (rest : List Entry) → FitsMark setup mark → AreFitting setup rest →
      Sim (machine_mark engine m mark rest) (source_mark offer s mark rest)
  sim_mark m s sim e (Acts t) rest fit fits =
      sim_acts m s sim t rest fits (kept_at s.heard t) (kept_at m.running t) (at_place s.heard m.running sim.all t) (settled_at 0 m.running e t)
  sim_mark m s sim e (Turns t) rest fit fits =
      sim_settled m s sim (turned m.core (machine_offers m) t) (turned s.core (source_offers offer s) t)
      (ap₂ (λ core o. turned core o t) sim.same_core (fun_ext (sim_offers m s sim e)))
      (ap (λ core. length core.tasks) (turned-is m.core (machine_offers m) t) ∙ sim.tasks) (turned_kinds m s sim t) rest fits
  sim_mark m s sim e Tells rest fit fits =
      sim_settled m s sim (showing m.core (machine_offers m)) (showing s.core (source_offers offer s))
      (ap₂ (λ core o. showing core o) sim.same_core (fun_ext (sim_offers m s sim e))) sim.tasks
      (record { slots = sim.kinds.slots; channels = sim.kinds.channels; formats = sim.kinds.formats }) rest fits
  sim_mark m s sim e Passes rest fit fits =
      sim_settled m s sim (millisecond m.core) (millisecond s.core) (ap (λ core. millisecond core) sim.same_core)
      (millisecond-length m.core ∙ sim.tasks) (millisecond-kinds setup m.core sim.kinds) rest fits
  sim_mark m s sim e (Arrives entry) rest fit fits =
      sim_settled m s sim (arrived m.core entry) (arrived s.core entry) (ap (λ core. arrived core entry) sim.same_core)
      (arrived-length m.core entry ∙ sim.tasks) (arrived-kinds setup m.core entry sim.kinds fit) rest fits

  -- the next mark on both sides, if one comes
  sim_coming : (m : Machine S) (s : Source) → Sim m s → unsettled m ≡ None → (coming : Option Coming) → source_next offer s ≡ coming →
      Sim (machine_mark_by engine m coming) (source_step_by offer s coming)
  sim_coming m s sim e None next = sim
  sim_coming m s sim e (Some coming) next =
      let after = fits_after setup (pick s.core (source_offers offer s)) s.entries coming sim.fits next in
      sim_mark m s sim e coming.mark coming.rest after.mark after.rest

  -- one machine step, the source making as many marks
  sim_step : (start : Source) (k : ℕ) (m : Machine S) → Sim m (source_after offer start k) →
      Sim (machine_step engine m) (source_after offer start (k + marks_in_step m))
  sim_step start k m sim = by_unsettled (unsettled m) refl
    where
      here : Source
      here = source_after offer start k

      by_next : unsettled m ≡ None → (coming : Option Coming) → machine_next m ≡ coming →
          Sim (machine_step engine m) (source_after offer start (k + marks_in_step m))
      by_next e None next =
          let same : k ≡ k + marks_in_step m = sym (add-zero k) ∙ ap (λ x. k + x) (sym (marks_mark m None e next)) in
          subst (λ x. Sim x (source_after offer start (k + marks_in_step m))) (sym (step_mark engine m None e next))
          (subst (λ j. Sim m (source_after offer start j)) same sim)
      by_next e (Some coming) next =
          let same : suc k ≡ k + marks_in_step m = sym (add-one k) ∙ ap (λ x. k + x) (sym (marks_mark m (Some coming) e next)) in
          let comes : source_next offer here ≡ Some coming = sym (sim_next m here sim e) ∙ next in
          let source = step_source offer here (Some coming) comes in
          subst (λ j. Sim (machine_step engine m) (source_after offer start j)) same
          (subst (λ x. Sim x (source_step offer here)) (sym (step_mark engine m (Some coming) e next))
          (subst (λ s. Sim (machine_mark_by engine m (Some coming)) s) (sym source) (sim_coming m here sim e (Some coming) comes)))

      by_unsettled : (x : Option (ℕ × S)) → unsettled m ≡ x → Sim (machine_step engine m) (source_after offer start (k + marks_in_step m))
      by_unsettled None e = by_next e (machine_next m) refl
      by_unsettled (Some x) e =
          let same : k ≡ k + marks_in_step m = sym (add-zero k) ∙ ap (λ j. k + j) (sym (marks_silent m x e)) in
          subst (λ j. Sim (machine_step engine m) (source_after offer start j)) same (sim_silent m here sim x.0 x.1 e)

  -- whole runs
  pub sim_after : (start : Source) (m : Machine S) → Sim m start → (n : ℕ) → Sim (machine_after engine m n) (source_after offer start (marked_after engine m n))
  sim_after start m sim zero = sim
  sim_after start m sim (suc n) = sim_step start (marked_after engine m n) (machine_after engine m n) (sim_after start m sim n)

  -- at the start
  pub sim_start : AllByRecursion IsValue setup.slots → AllByRecursion IsDevice setup.devices → (es : List Entry) → AreFitting setup es →
      Sim (machine_start engine setup es) (source_start setup es)
  sim_start slots devices es fits =
      let kept : length (map first_row setup.tasks) ≡ length setup.tasks = length-map setup.tasks first_row in
      record {
        same_core = refl;
        same_entries = refl;
        all = refreshed_at (List Answer) (Running S) (Here setup engine Stands) (λ u. []) (fresh engine) 0 (map first_row setup.tasks)
            (λ u less. begun u (omega (arith, less, kept))) [] [] tt;
        kinds = opening-kinds setup slots devices;
        tasks = kept;
        places = refreshed-length (fresh engine) 0 (map first_row setup.tasks) [] ∙ kept;
        fits = fits;
      }
