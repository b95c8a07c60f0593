-- What every action, every turn, every millisecond and whatever comes in keeps holds of each core of a whole run.
use Rattle.std.proofs.Common.{◌≡◌, ℕ, zero, suc, ◌+◌, ◌<◌, ◌≤◌, List, Bool, true, Option, Some, None, length, map, refl, sym, ap, subst, ◌∙◌, arith}
use Rattle.std.specs.List.{AllByRecursion, AllZip}
use Rattle.std.proofs.lemmas.Bool.{false≢true}
use Rattle.pearl_rules.specs.declared.action.Action.{Action}
use Rattle.pearl_rules.specs.declared.action.Answer.{Answer}
use Rattle.pearl_rules.specs.declared.entry.Entry.{Entry}
use Rattle.pearl_rules.specs.declared.row.Mode.{Mode}
use Rattle.pearl_rules.specs.declared.row.Mode.TheVariants.{Dormant, Active}
use Rattle.pearl_rules.specs.declared.row.TaskRow.{TaskRow}
use Rattle.pearl_rules.specs.declared.setup.Setup.{Setup}
use Rattle.pearl_rules.specs.Core.{Core, Report, row_of, declared_of, is_active_mode, is_active_row, is_active, opening}
use Rattle.pearl_rules.specs.Tables.{IsSetup}
use Rattle.pearl_rules.specs.Slots.{Fits, IsLike, IsChannelOf, IsUrgentRow, HasKinds, HasCounts, HasUrgencies, HasPlans, HasEnds, HasTimes, HasLast}
use Rattle.pearl_rules.specs.Entries.{last_moment_of_all, IsFitting, AreFitting}
use Rattle.pearl_rules.specs.Pick.{Offered, is_possible, is_ready, is_ready_row, pick, turned}
use Rattle.pearl_rules.specs.Plans.{millisecond}
use Rattle.pearl_rules.specs.Devices.{arrived}
use Rattle.pearl_rules.specs.Effect.{effect}
use Rattle.pearl_rules.specs.Runs.{Mark, Acts, Turns, Tells, Passes, Arrives, Coming, kept_at, Supplier, Source, Engine, Running, Machine, machine_offers, machine_next, unsettled, machine_does, machine_acts, machine_mark, machine_step, machine_start, machine_after, machine_run, marked_after, source_start, source_after, source_run}
use Rattle.pearl_rules.specs.Faithful.{IsFaithful, Alone}
use Rattle.pearl_rules.specs.Laws.{Comes, IsCoreOf}
use Rattle.pearl_rules.proofs.PickLaws.{eligible_within, picked, turned-is}
use Rattle.pearl_rules.proofs.EffectLaws.{leaves, millisecond-leaves, opening-kinds, effect-kinds, millisecond-kinds, arrived-kinds}
use Rattle.pearl_rules.proofs.CountLaws.{effect-counts, turned-counts, millisecond-counts, arrived-counts}
use Rattle.pearl_rules.proofs.UrgencyLaws.{opening-declared, opening-urgencies, opening-plans, effect-urgencies, effect-plans}
use Rattle.pearl_rules.proofs.UrgencyLaws.{turned-plans, millisecond-urgencies, millisecond-plans, arrived-declared, arrived-moment}
use Rattle.pearl_rules.proofs.UrgencyLaws.{arrived-urgencies, arrived-plans}
use Rattle.pearl_rules.proofs.EndingPlans.{opening-ends, effect-plan_ends, turned-plan_ends, millisecond-plan_ends, arrived-plan_ends}
use Rattle.pearl_rules.proofs.TimeLaws.{opening-times, effect-times, turned-times, millisecond-times, arrived-times}
use Rattle.pearl_rules.proofs.ActedLaws.{effect-last, turned-last, millisecond-last, arrived-last}
use Rattle.pearl_rules.proofs.Simulation.{Simulates, BothHere, at_place, FitsMark, fits_after, step_silent, step_mark, sim_after, sim_start}
use Rattle.pearl_rules.proofs.RunLaws.{next_takes}

-- each mark keeps P: an action that fits the tables of an active task, a turn, that something is told, a millisecond, an entry that fits
record Keeps (setup : Setup) (P : Core → Type 0) : Type 0 where
  acts : (core : Core) (own : ℕ) (action : Action) → own < length core.tasks → is_active core own ≡ true → Fits setup action → P core →
      P (effect core own action).core
  turns : (core : Core) (offers : Offered) (t : ℕ) → P core → P (turned core offers t)
  tells : (core : Core) (told : List (ℕ × Report)) → P core → P (record core { told = told })
  passes : (core : Core) → P core → P (millisecond core)
  arrives : (core : Core) (entry : Entry) → IsFitting setup entry → P core → P (arrived core entry)

-- WHOLE RUNS

-- a task that is picked is active
ready_active : (mode : Mode) (possible : Bool) → is_ready mode possible ≡ true → is_active_mode mode ≡ true
ready_active Dormant possible e = absurd (false≢true e)
ready_active (Active priority suspended) possible e = refl

ready_active_row : (row : Option TaskRow) (possible : Bool) → is_ready_row row possible ≡ true → is_active_row row ≡ true
ready_active_row None possible e = absurd (false≢true e)
ready_active_row (Some row) possible e = ready_active row.mode possible e

module _ (setup : Setup) (offer : Supplier) (S : Type 0) (engine : Engine S) (Stands : ℕ → List Answer → S → Type 0) (alone : Alone setup offer engine Stands)
    (P : Core → Type 0) (keeps : Keeps setup P) where
  abbrev Sim : Machine S → Source → Type 0
  Sim m s = Simulates setup engine Stands m s

  -- an action that a task has offered fits the tables
  offered_fits : (t : ℕ) (x : Option (List Answer)) (running : Running S) → BothHere setup offer S engine Stands alone t x (Some running) →
      (action : Action) → running.offer ≡ Some action → Fits setup action
  offered_fits t None running b action e = absurd b
  offered_fits t (Some heard) running b action e = alone.fits t heard running.stack action b.stands (b.offered action e)

  acts-keep : (m : Machine S) (s : Source) → Sim m s → (t : ℕ) (rest : List Entry) → pick m.core (machine_offers m) ≡ Some t → P m.core →
      (y : Option (Running S)) → kept_at m.running t ≡ y → P (machine_acts engine m t rest y).core
  acts-keep m s sim t rest chosen p None at = p
  acts-keep m s sim t rest chosen p (Some running) at = by_offer running.offer refl
    where
      able : is_ready_row (row_of m.core t) (is_possible m.core (machine_offers m t)) ≡ true
      able = (picked m.core (machine_offers m) t chosen).eligible

      here : BothHere setup offer S engine Stands alone t (kept_at s.heard t) (Some running)
      here = subst (λ y. BothHere setup offer S engine Stands alone t (kept_at s.heard t) y) at
          (at_place setup offer S engine Stands alone s.heard m.running sim.all t)

      by_offer : (o : Option Action) → running.offer ≡ o → P (machine_does engine m t rest running.stack o).core
      by_offer None e = p
      by_offer (Some action) e =
          keeps.acts m.core t action (eligible_within m.core (machine_offers m) t able)
          (ready_active_row (row_of m.core t) (is_possible m.core (machine_offers m t)) able)
          (offered_fits t (kept_at s.heard t) running here action e) p

  -- one mark
  mark-keeps : (m : Machine S) (s : Source) → Sim m s → (coming : Coming) → machine_next m ≡ Some coming → P m.core →
      P (machine_mark engine m coming.mark coming.rest).core
  mark-keeps m s sim coming next p = by_mark coming.mark refl
    where
      chosen : (t : ℕ) → coming.mark ≡ Acts t → pick m.core (machine_offers m) ≡ Some t
      chosen = (next_takes (pick m.core (machine_offers m)) m.entries coming next).is_chosen

      fits : (entry : Entry) → coming.mark ≡ Arrives entry → IsFitting setup entry
      fits entry is =
          subst (λ mark. FitsMark setup mark) is
          (fits_after setup (pick m.core (machine_offers m)) m.entries coming
          (subst (λ es. AreFitting setup es) (sym sim.same_entries) sim.fits) next).mark

      by_mark : (mark : Mark) → coming.mark ≡ mark → P (machine_mark engine m mark coming.rest).core
      by_mark (Acts t) is = acts-keep m s sim t coming.rest (chosen t is) p (kept_at m.running t) refl
      by_mark (Turns t) is = keeps.turns m.core (machine_offers m) t p
      by_mark Tells is = keeps.tells m.core _ p
      by_mark Passes is = keeps.passes m.core p
      by_mark (Arrives entry) is = keeps.arrives m.core entry (fits entry is) p

  -- one step
  step-keeps : (m : Machine S) (s : Source) → Sim m s → P m.core → P (machine_step engine m).core
  step-keeps m s sim p = by_unsettled (unsettled m) refl
    where
      by_next : unsettled m ≡ None → (coming : Option Coming) → machine_next m ≡ coming → P (machine_step engine m).core
      by_next e None next = subst (λ (x : Machine S). P x.core) (sym (step_mark engine m None e next)) p
      by_next e (Some coming) next =
          subst (λ (x : Machine S). P x.core) (sym (step_mark engine m (Some coming) e next)) (mark-keeps m s sim coming next p)

      by_unsettled : (x : Option (ℕ × S)) → unsettled m ≡ x → P (machine_step engine m).core
      by_unsettled None e = by_next e (machine_next m) refl
      by_unsettled (Some x) e = subst (λ (y : Machine S). P y.core) (sym (step_silent engine m x.0 x.1 e)) p

  -- any number of steps
  steps-keep : (start : Source) (m : Machine S) → Sim m start → P m.core → (n : ℕ) → P (machine_after engine m n).core
  steps-keep start m sim p zero = p
  steps-keep start m sim p (suc n) =
      step-keeps (machine_after engine m n) (source_after offer start (marked_after engine m n))
      (sim_after setup offer S engine Stands alone start m sim n) (steps-keep start m sim p n)

  run-keeps : IsSetup setup → (es : List Entry) → AreFitting setup es → P (opening setup) → (n : ℕ) → P (machine_run engine setup es n).core
  run-keeps is es fits p n =
      steps-keep (source_start setup es) (machine_start engine setup es)
      (sim_start setup offer S engine Stands alone is.slots is.devices es fits) p n

-- WHAT IS KEPT

module _ (setup : Setup) where
  kinds-kept : Keeps setup (HasKinds setup)
  kinds-kept = record {
    acts = λ core own action there active fits has. effect-kinds setup core own action has fits;
    turns = λ core offers t has. turned_kinds core offers t has;
    tells = λ core told has. record { slots = has.slots; channels = has.channels; formats = has.formats };
    passes = λ core has. millisecond-kinds setup core has;
    arrives = λ core entry fits has. arrived-kinds setup core entry has fits;
  }
    where
      turned_kinds : (core : Core) (offers : Offered) (t : ℕ) → HasKinds setup core → HasKinds setup (turned core offers t)
      turned_kinds core offers t has =
          let is = turned-is core offers t in
          record {
            slots = subst (λ slots. AllZip IsLike setup.slots slots) (sym (ap (λ c. c.slots) is)) has.slots;
            channels = subst (λ channels. AllZip IsChannelOf setup.devices channels) (sym (ap (λ c. c.channels) is)) has.channels;
            formats = ap (λ c. c.formats) is ∙ has.formats;
          }

  counts-kept : Keeps setup (HasCounts setup)
  counts-kept = record {
    acts = λ core own action there active fits has. effect-counts setup core own action has fits;
    turns = λ core offers t has. turned-counts setup core offers t has;
    tells = λ core told has. record { as_many = has.as_many; small = has.small };
    passes = λ core has. millisecond-counts setup core has;
    arrives = λ core entry fits has. arrived-counts setup core entry has;
  }

  abbrev IsDeclared : Core → Type 0
  IsDeclared core = map declared_of core.tasks ≡ map (λ task. task.priority) setup.tasks

  declared-kept : Keeps setup IsDeclared
  declared-kept = record {
    acts = λ core own action there active fits same. (leaves core own action).declared ∙ same;
    turns = λ core offers t same. ap (λ c. map declared_of c.tasks) (turned-is core offers t) ∙ same;
    tells = λ core told same. same;
    passes = λ core same. (millisecond-leaves core).declared ∙ same;
    arrives = λ core entry fits same. arrived-declared core entry ∙ same;
  }

  urgent-kept : Keeps setup HasUrgencies
  urgent-kept = record {
    acts = λ core own action there active fits has. effect-urgencies setup core own action has fits;
    turns = λ core offers t has.
        subst (λ rows. AllByRecursion IsUrgentRow rows) (sym (ap (λ c. c.tasks) (turned-is core offers t))) has;
    tells = λ core told has. has;
    passes = λ core has. millisecond-urgencies core has;
    arrives = λ core entry fits has. arrived-urgencies core entry has;
  }

  plans-kept : Keeps setup (HasPlans setup)
  plans-kept = record {
    acts = λ core own action there active fits has. effect-plans setup core own action has fits;
    turns = λ core offers t has. turned-plans setup core offers t has;
    tells = λ core told has. record { plans = has.plans; clock = has.clock };
    passes = λ core has. millisecond-plans setup core has;
    arrives = λ core entry fits has. arrived-plans setup core entry has fits;
  }

  ends-kept : Keeps setup HasEnds
  ends-kept = record {
    acts = λ core own action there active fits has. effect-plan_ends setup core own action has fits;
    turns = λ core offers t has. turned-plan_ends core offers t has;
    tells = λ core told has. has;
    passes = λ core has. millisecond-plan_ends core has;
    arrives = λ core entry fits has. arrived-plan_ends core entry has;
  }

  last-kept : Keeps setup HasLast
  last-kept = record {
    acts = λ core own action there active fits has. effect-last core own action there;
    turns = λ core offers t has. turned-last core offers t has;
    tells = λ core told has. has;
    passes = λ core has. millisecond-last core has;
    arrives = λ core entry fits has. arrived-last core entry has;
  }

  -- up to the last moment that there is
  abbrev TimedUpTo : Core → Type 0
  TimedUpTo core = core.moment ≤ last_moment_of_all → HasTimes setup core

  times-kept : Keeps setup TimedUpTo
  times-kept = record {
    acts = λ core own action there active fits has near.
        effect-times setup core own action active (has (subst (λ m. m ≤ last_moment_of_all) (leaves core own action).moment near)) fits;
    turns = λ core offers t has near.
        turned-times setup core offers t (has (subst (λ m. m ≤ last_moment_of_all) (ap (λ c. c.moment) (turned-is core offers t)) near));
    tells = λ core told has near. let timed = has near in
        record { moment = timed.moment; lawful = record { plans = timed.lawful.plans; clock = timed.lawful.clock }; rows = timed.rows };
    passes = λ core has near.
        let next : core.moment + 1 ≤ last_moment_of_all = subst (λ m. m ≤ last_moment_of_all) (millisecond-leaves core).moment near in
        millisecond-times setup core next (has (omega (arith, next)));
    arrives = λ core entry fits has near.
        arrived-times setup core entry (has (subst (λ m. m ≤ last_moment_of_all) (arrived-moment core entry) near)) fits;
  }

-- after any number of machine steps
pub cores_of : (offer : Supplier) {S : Type 0} (engine : Engine S) (Stands : ℕ → List Answer → S → Type 0) (setup : Setup) →
    IsSetup setup → Alone setup offer engine Stands → (es : List Entry) → AreFitting setup es → (n : ℕ) →
    IsCoreOf setup (machine_run engine setup es n).core
cores_of offer {S} engine Stands setup is alone es fits n = record {
  kinds = run-keeps setup offer S engine Stands alone (HasKinds setup) (kinds-kept setup) is es fits (opening-kinds setup is.slots is.devices) n;
  counts = run-keeps setup offer S engine Stands alone (HasCounts setup) (counts-kept setup) is es fits
      (record { as_many = refl; small = is.semaphores }) n;
  declared = run-keeps setup offer S engine Stands alone (IsDeclared setup) (declared-kept setup) is es fits (opening-declared setup.tasks) n;
  urgent = run-keeps setup offer S engine Stands alone HasUrgencies (urgent-kept setup) is es fits (opening-urgencies setup.tasks is.tasks) n;
  plans = run-keeps setup offer S engine Stands alone (HasPlans setup) (plans-kept setup) is es fits (opening-plans setup) n;
  ends = run-keeps setup offer S engine Stands alone HasEnds (ends-kept setup) is es fits (opening-ends setup) n;
  last = run-keeps setup offer S engine Stands alone HasLast (last-kept setup) is es fits tt n;
  times = run-keeps setup offer S engine Stands alone (TimedUpTo setup) (times-kept setup) is es fits (λ near. opening-times setup) n;
}

-- and so after any number of the source's marks that come
pub source_cores_of : (offer : Supplier) {S : Type 0} (engine : Engine S) (Stands : ℕ → List Answer → S → Type 0) (setup : Setup) (count rows : ℕ) →
    IsSetup setup → Alone setup offer engine Stands → IsFaithful offer engine setup count rows → (es : List Entry) → AreFitting setup es →
    (m : ℕ) → Comes offer setup es m → IsCoreOf setup (source_run offer setup es m).core
source_cores_of offer {S} engine Stands setup count rows is alone faithful es fits m comes =
    let made = faithful.goes_on es fits m comes in
    subst (λ k. IsCoreOf setup (source_run offer setup es k).core) made.2
    (subst (IsCoreOf setup) (faithful.same_core es fits made.0) (cores_of offer engine Stands setup is alone es fits made.0))
