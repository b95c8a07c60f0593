-- What each step of a machine keeps, from whatever state it goes on: each task's code stands where its own leads.
use Rattle.std.proofs.Common.{◌≡◌, ◌⊎◌, inl, inr, ℕ, zero, suc, ◌+◌, ◌<◌, List, [], Bool, true, false, Option, Some}
use Rattle.std.proofs.Common.{None, length, slice_set, refl, sym, ap, subst, ◌∙◌, zero-add, length-set}
use Rattle.std.specs.List.{AllZip}
use Rattle.std.proofs.lemmas.Bool.{false≢true}
use Rattle.std.proofs.lemmas.Option.{none-some, same_Some}
use Rattle.pearl_rules.specs.declared.action.Action.{Action}
use Rattle.pearl_rules.specs.declared.action.Answer.{Answer}
use Rattle.pearl_rules.specs.declared.entry.Entry.{Entry}
use Rattle.pearl_rules.specs.declared.row.Mode.{Mode}
use Rattle.pearl_rules.specs.declared.row.Mode.TheVariants.{Dormant, Active}
use Rattle.pearl_rules.specs.declared.row.TaskRow.{TaskRow}
use Rattle.pearl_rules.specs.declared.setup.Setup.{Setup}
use Rattle.pearl_rules.specs.Core.{Core, Report, row_of, is_active, is_active_mode, is_active_row}
use Rattle.pearl_rules.specs.Devices.{arrived}
use Rattle.pearl_rules.specs.Effect.{Reply, Hears, Ends, effect}
use Rattle.pearl_rules.specs.Entries.{IsFitting, AreFitting}
use Rattle.pearl_rules.specs.Pick.{Offered, is_possible, is_ready, is_ready_row, pick, turned, showing}
use Rattle.pearl_rules.specs.Plans.{millisecond}
use Rattle.pearl_rules.specs.Runs.{Mark, Acts, Turns, Tells, Passes, Arrives, Coming, refreshed, dropped, kept_at}
use Rattle.pearl_rules.specs.Runs.{Stepped, Silent, Offers, Engine, Running, Machine, offer_of, machine_offers}
use Rattle.pearl_rules.specs.Runs.{machine_next, unsettled, stepped, answered, fresh, machine_settled, machine_does}
use Rattle.pearl_rules.specs.Runs.{machine_acts, machine_mark, machine_step, machine_after}
use Rattle.pearl_rules.specs.Slots.{Suits, Fits, IsLike, IsChannelOf, HasKinds}
use Rattle.pearl_rules.proofs.Offered.{eligible_within, picked, turned-is, effect-length, millisecond-length}
use Rattle.pearl_rules.proofs.Offered.{arrived-length, effect-kinds, millisecond-kinds, arrived-kinds, effect-answers}
use Rattle.pearl_saved_laws.proofs.Marks.{FitsMark, next_takes}
use Rattle.pearl_saved_laws.proofs.Places.{set_is, dropped_is, refreshed_long, Left, refreshed_is}
use Rattle.pearl_saved_laws.proofs.Steps.{step_silent, step_mark, found}

-- Code that begins where it may stand, goes on so, and offers what fits the tables; a weight falls at each instruction
-- that offers nothing.
pub record Sound (setup : Setup) {S : Type 0} (engine : Engine S) (Here : ℕ → S → Type 0)
    (weight : ℕ → S → ℕ) : Type 0 where
  pub begins : (t : ℕ) → t < length setup.tasks → Here t (engine.begin t)
  pub goes : (t : ℕ) (stack after : S) → Here t stack → engine.step t stack ≡ Silent after → Here t after
  pub fits : (t : ℕ) (stack : S) (action : Action) → Here t stack → engine.step t stack ≡ Offers action →
      Fits setup action
  pub answered : (t : ℕ) (stack : S) (action : Action) (answer : Answer) → Here t stack →
      engine.step t stack ≡ Offers action → Suits setup t action answer → Here t (engine.answer t stack answer)
  pub falls : (t : ℕ) (stack after : S) → Here t stack → engine.step t stack ≡ Silent after →
      weight t after < weight t stack

-- each mark keeps P
pub record Keeps (setup : Setup) (P : Core → Type 0) : Type 0 where
  pub acts : (core : Core) (own : ℕ) (action : Action) → own < length core.tasks → is_active core own ≡ true →
      Fits setup action → P core → P (effect core own action).core
  pub turns : (core : Core) (offers : Offered) (t : ℕ) → P core → P (turned core offers t)
  pub tells : (core : Core) (told : List (ℕ × Report)) → P core → P (record core { told = told })
  pub passes : (core : Core) → P core → P (millisecond core)
  pub arrives : (core : Core) (entry : Entry) → IsFitting setup entry → P core → P (arrived core entry)

-- a task's code stands at its own, and what it has offered is what comes next
pub record Stands {S : Type 0} (engine : Engine S) (Here : ℕ → S → Type 0) (t : ℕ) (running : Running S) : Type 0 where
  pub here : Here t running.stack
  pub offers : (action : Action) → running.offer ≡ Some action → engine.step t running.stack ≡ Offers action

abbrev pub AllStand : {S : Type 0} → Engine S → (ℕ → S → Type 0) → List (Option (Running S)) → Type 0
AllStand {S} engine Here xs = (t : ℕ) (running : Running S) → kept_at xs t ≡ Some running → Stands engine Here t running

-- a state of a machine in order
pub record Good (setup : Setup) {S : Type 0} (engine : Engine S) (Here : ℕ → S → Type 0) (P : Core → Type 0)
    (m : Machine S) : Type 0 where
  pub core : P m.core
  pub kinds : HasKinds setup m.core
  pub tasks : length m.core.tasks ≡ length setup.tasks
  pub places : length m.running ≡ length setup.tasks
  pub stand : AllStand engine Here m.running
  pub fits : AreFitting setup m.entries

-- ---- who is picked

ready_active : (mode : Mode) (possible : Bool) → is_ready mode possible ≡ true → is_active_mode mode ≡ true
ready_active Dormant possible e = absurd (false≢true e)
ready_active (Active priority suspended) possible e = refl

ready_active_row : (row : Option TaskRow) (possible : Bool) → is_ready_row row possible ≡ true →
    is_active_row row ≡ true
ready_active_row None possible e = absurd (false≢true e)
ready_active_row (Some row) possible e = ready_active row.mode possible e

not_ready : (mode : Mode) → is_ready mode false ≡ true → ⊥
not_ready Dormant e = false≢true e
not_ready (Active priority true) e = false≢true e
not_ready (Active priority false) e = false≢true e

not_ready_row : (row : Option TaskRow) → is_ready_row row false ≡ true → ⊥
not_ready_row None e = false≢true e
not_ready_row (Some row) e = not_ready row.mode e

-- who has offered nothing can't act
needs_offer : (core : Core) (row : Option TaskRow) (offer : Option Action) →
    is_ready_row row (is_possible core offer) ≡ true → offer ≡ None → ⊥
needs_offer core row offer able none =
    not_ready_row row (subst (λ x. is_ready_row row (is_possible core x) ≡ true) none able)

module _ (setup : Setup) {S : Type 0} (engine : Engine S) (Here : ℕ → S → Type 0) (weight : ℕ → S → ℕ)
    (sound : Sound setup engine Here weight) (P : Core → Type 0) (keeps : Keeps setup P) where
  abbrev All : List (Option (Running S)) → Type 0
  All xs = AllStand engine Here xs

  abbrev pub Fine : Machine S → Type 0
  Fine m = Good setup engine Here P m

  -- ---- where tasks stand

  begun : (t : ℕ) → t < length setup.tasks → Stands engine Here t (fresh engine t)
  begun t there = record { here = sound.begins t there; offers = λ action e. absurd (none-some action e) }

  settled_stand : (core : Core) (xs : List (Option (Running S))) → length core.tasks ≡ length setup.tasks → All xs →
      All (refreshed (fresh engine) 0 core.tasks xs)
  settled_stand core xs many all t running e = by left.is
    where
      left : Left (fresh engine (0 + t)) (kept_at xs t) (length core.tasks) t running
      left = refreshed_is (fresh engine) 0 core.tasks xs t running e

      there : t < length setup.tasks
      there = subst (λ n. t < n) many left.there

      by : (running ≡ fresh engine (0 + t)) ⊎ (kept_at xs t ≡ Some running) → Stands engine Here t running
      by (inl anew) = subst (Stands engine Here t) (sym (anew ∙ ap (fresh engine) (zero-add t))) (begun t there)
      by (inr before) = all t running before

  dropped_stand : (ended : List ℕ) (xs : List (Option (Running S))) → All xs → All (dropped ended xs)
  dropped_stand ended xs all t running e = all t running (dropped_is ended xs t running e)

  set_stand : (xs : List (Option (Running S))) (u : ℕ) (x : Option (Running S)) → All xs →
      ((running : Running S) → x ≡ Some running → Stands engine Here u running) → All (slice_set xs u x)
  set_stand xs u x all new t running e = by (set_is xs u x t running e)
    where
      by : ((t ≡ u) × (x ≡ Some running)) ⊎ (kept_at xs t ≡ Some running) → Stands engine Here t running
      by (inl here) = subst (λ n. Stands engine Here n running) (sym here.0) (new running here.1)
      by (inr there) = all t running there

  answered_stand : (core : Core) → HasKinds setup core → (t : ℕ) (stack : S) (action : Action) → Here t stack →
      engine.step t stack ≡ Offers action → (reply : Reply) → (effect core t action).reply ≡ reply →
      (xs : List (Option (Running S))) → All xs → All (answered engine xs t stack reply)
  answered_stand core kinds t stack action here offers (Hears answer) e xs all =
      let next : Running S = record { stack = engine.answer t stack answer; offer = None } in
      set_stand xs t (Some next) all
      (λ running same. subst (Stands engine Here t) (same_Some next running same) (record {
        here = sound.answered t stack action answer here offers
            (effect-answers setup core t action answer kinds (sound.fits t stack action here offers) e);
        offers = λ other h. absurd (none-some other h);
      }))
  answered_stand core kinds t stack action here offers Ends e xs all =
      set_stand xs t None all (λ running none. absurd (none-some running none))

  stepped_stand : (t : ℕ) (stack : S) → Here t stack → (done : Stepped S) → engine.step t stack ≡ done →
      Stands engine Here t (stepped stack done)
  stepped_stand t stack here (Silent after) e =
      record { here = sound.goes t stack after here e; offers = λ action h. absurd (none-some action h) }
  stepped_stand t stack here (Offers action) e =
      record { here = here; offers = λ other h. e ∙ ap Offers (same_Some action other h) }

  -- ---- a mark

  -- what a mark leaves is in order, and these entries are left
  pub record Leaves (rest : List Entry) (m : Machine S) : Type 0 where
    pub good : Fine m
    pub left : m.entries ≡ rest

  settled_good : (core : Core) (xs : List (Option (Running S))) (rest : List Entry) → P core → HasKinds setup core →
      length core.tasks ≡ length setup.tasks → All xs → AreFitting setup rest →
      Leaves rest (machine_settled engine core xs rest)
  settled_good core xs rest p kinds many all fits = record {
    good = record {
      core = p;
      kinds = kinds;
      tasks = many;
      places = refreshed_long (fresh engine) 0 core.tasks xs ∙ many;
      stand = settled_stand core xs many all;
      fits = fits;
    };
    left = refl;
  }

  does_good : (m : Machine S) → Fine m → (t : ℕ) (rest : List Entry) (running : Running S) (action : Action) →
      t < length m.core.tasks → is_active m.core t ≡ true → Stands engine Here t running → running.offer ≡ Some action →
      AreFitting setup rest → Leaves rest (machine_does engine m t rest running.stack (Some action))
  does_good m good t rest running action there active stands offered fits =
      let done = effect m.core t action in
      let step = stands.offers action offered in
      let fit = sound.fits t running.stack action stands.here step in
      settled_good done.core (answered engine (dropped done.ended m.running) t running.stack done.reply) rest
      (keeps.acts m.core t action there active fit good.core) (effect-kinds setup m.core t action good.kinds fit)
      (effect-length m.core t action ∙ good.tasks)
      (answered_stand m.core good.kinds t running.stack action stands.here step done.reply refl
      (dropped done.ended m.running)
      (dropped_stand done.ended m.running good.stand)) fits

  acts_good : (m : Machine S) → Fine m → (t : ℕ) (rest : List Entry) → pick m.core (machine_offers m) ≡ Some t →
      AreFitting setup rest → (x : Option (Running S)) → kept_at m.running t ≡ x →
      Leaves rest (machine_acts engine m t rest x)
  acts_good m good t rest chosen fits x at = by x at
    where
      able : is_ready_row (row_of m.core t) (is_possible m.core (machine_offers m t)) ≡ true
      able = (picked m.core (machine_offers m) t chosen).eligible

      by_offer : (running : Running S) → kept_at m.running t ≡ Some running → (offer : Option Action) →
          running.offer ≡ offer → Leaves rest (machine_does engine m t rest running.stack offer)
      by_offer running here None none =
          absurd (needs_offer m.core (row_of m.core t) (machine_offers m t) able (ap offer_of here ∙ none))
      by_offer running here (Some action) offered =
          does_good m good t rest running action (eligible_within m.core (machine_offers m) t able)
          (ready_active_row (row_of m.core t) (is_possible m.core (machine_offers m t)) able)
          (good.stand t running here) offered fits

      by : (x : Option (Running S)) → kept_at m.running t ≡ x → Leaves rest (machine_acts engine m t rest x)
      by None none = absurd (needs_offer m.core (row_of m.core t) (machine_offers m t) able (ap offer_of none))
      by (Some running) here = by_offer running here running.offer refl

  turned_kinds : (core : Core) (offers : Offered) (t : ℕ) → HasKinds setup core → HasKinds setup (turned core offers t)
  turned_kinds core offers t has =
      let is = turned-is core offers t in
      record {
        slots = subst (λ slots. AllZip IsLike setup.slots slots) (sym (ap (λ c. c.slots) is)) has.slots;
        channels = subst (λ channels. AllZip IsChannelOf setup.devices channels)
            (sym (ap (λ c. c.channels) is)) has.channels;
        formats = ap (λ c. c.formats) is ∙ has.formats;
      }

  mark_good : (m : Machine S) → Fine m → (mark : Mark) (rest : List Entry) →
      ((t : ℕ) → mark ≡ Acts t → pick m.core (machine_offers m) ≡ Some t) → FitsMark setup mark →
      AreFitting setup rest → Leaves rest (machine_mark engine m mark rest)
  mark_good m good (Acts t) rest chosen fit fits =
      acts_good m good t rest (chosen t refl) fits (kept_at m.running t) refl
  mark_good m good (Turns t) rest chosen fit fits =
      settled_good (turned m.core (machine_offers m) t) m.running rest
      (keeps.turns m.core (machine_offers m) t good.core)
      (turned_kinds m.core (machine_offers m) t good.kinds)
      (ap (λ (core : Core). length core.tasks) (turned-is m.core (machine_offers m) t) ∙ good.tasks) good.stand fits
  mark_good m good Tells rest chosen fit fits =
      let core = showing m.core (machine_offers m) in
      settled_good core m.running rest (keeps.tells m.core core.told good.core)
      (record { slots = good.kinds.slots; channels = good.kinds.channels; formats = good.kinds.formats })
      good.tasks good.stand fits
  mark_good m good Passes rest chosen fit fits =
      settled_good (millisecond m.core) m.running rest (keeps.passes m.core good.core)
      (millisecond-kinds setup m.core good.kinds)
      (millisecond-length m.core ∙ good.tasks) good.stand fits
  mark_good m good (Arrives entry) rest chosen fit fits =
      settled_good (arrived m.core entry) m.running rest (keeps.arrives m.core entry fit good.core)
      (arrived-kinds setup m.core entry good.kinds fit) (arrived-length m.core entry ∙ good.tasks) good.stand fits

  -- ---- a step

  pub silent_good : (m : Machine S) → Fine m → (u : ℕ) (stack : S) → unsettled m ≡ Some (u, stack) →
      Fine (machine_step engine m)
  silent_good m good u stack e =
      let next = stepped stack (engine.step u stack) in
      let here = (good.stand u (record { stack = stack; offer = None }) (found m u stack e)).here in
      subst Fine (sym (step_silent engine m u stack e)) (record {
        core = good.core;
        kinds = good.kinds;
        tasks = good.tasks;
        places = length-set m.running u (Some next) ∙ good.places;
        stand = set_stand m.running u (Some next) good.stand (λ running same.
            subst (Stands engine Here u) (same_Some next running same)
            (stepped_stand u stack here (engine.step u stack) refl));
        fits = good.fits;
      })

  pub marked_good : (m : Machine S) → Fine m → (coming : Coming) → unsettled m ≡ None → machine_next m ≡ Some coming →
      Leaves coming.rest (machine_step engine m)
  marked_good m good coming e next =
      let takes = next_takes setup (pick m.core (machine_offers m)) m.entries coming good.fits next in
      subst (Leaves coming.rest) (sym (step_mark engine m (Some coming) e next))
      (mark_good m good coming.mark coming.rest takes.chosen takes.mark takes.rest)

  pub step_good : (m : Machine S) → Fine m → Fine (machine_step engine m)
  step_good m good = by_unsettled (unsettled m) refl
    where
      by_next : unsettled m ≡ None → (coming : Option Coming) → machine_next m ≡ coming → Fine (machine_step engine m)
      by_next e None next = subst Fine (sym (step_mark engine m None e next)) good
      by_next e (Some coming) next = (marked_good m good coming e next).good

      by_unsettled : (x : Option (ℕ × S)) → unsettled m ≡ x → Fine (machine_step engine m)
      by_unsettled None e = by_next e (machine_next m) refl
      by_unsettled (Some x) e = silent_good m good x.0 x.1 e

  pub after_good : (m : Machine S) → Fine m → (n : ℕ) → Fine (machine_after engine m n)
  after_good m good zero = good
  after_good m good (suc n) = step_good (machine_after engine m n) (after_good m good n)

  -- at its start a run is in order
  pub start_good : (core : Core) (es : List Entry) → P core → HasKinds setup core →
      length core.tasks ≡ length setup.tasks → AreFitting setup es → Fine (machine_settled engine core [] es)
  start_good core es p kinds many fits =
      (settled_good core [] es p kinds many (λ t running e. absurd (none-some running e)) fits).good
