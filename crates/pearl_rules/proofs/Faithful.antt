-- What holds of one task at a time is enough for a whole run.
use Rattle.std.proofs.Common.{◌≡◌, ℕ, Option, None, Some, ◌+◌, ◌*◌, ◌<◌, ◌≤◌, List, length, sym, subst, ◌∙◌, arith}
use Rattle.std.proofs.lemmas.Option.{none-some, same_Some}
use Rattle.std.specs.List.{AllByRecursion}
use Rattle.pearl_value.specs.WellFormed.{IsValue}
use Rattle.pearl_rules.specs.declared.action.Answer.{Answer}
use Rattle.pearl_rules.specs.declared.entry.Entry.{Entry}
use Rattle.pearl_rules.specs.declared.setup.Setup.{Setup}
use Rattle.pearl_value.specs.Devices.{IsDevice}
use Rattle.pearl_rules.specs.Slots.{HasKinds}
use Rattle.pearl_rules.specs.Entries.{AreFitting}
use Rattle.pearl_rules.specs.Runs.{Supplier, Engine, Running, kept_at, machine_start, machine_run, source_start, source_next, source_run, marked}
use Rattle.pearl_rules.specs.Faithful.{IsFaithful, Alone, Soon}
use Rattle.pearl_rules.specs.Laws.{EndsSoon, Comes}
use Rattle.pearl_rules.proofs.Simulation.{Here, Simulates, at_place, same_offer, sim_offers, sim_next, sim_after, sim_start}
use Rattle.pearl_rules.proofs.KeptLaws.{Both}
use Rattle.pearl_rules.proofs.Settling.{Reaches, reaches, settled_with}

-- code that stands where each task's answers lead, and that offers soon, runs as the source's rules say
pub faithful : (offer : Supplier) {S : Type 0} (engine : Engine S) (Stands : ℕ → List Answer → S → Type 0) (weight : ℕ → S → ℕ)
    (setup : Setup) (rows : ℕ) → AllByRecursion IsValue setup.slots → AllByRecursion IsDevice setup.devices → Alone setup offer engine Stands →
    Soon (length setup.tasks) engine Stands weight rows → IsFaithful offer engine setup (length setup.tasks) rows
faithful offer {S} engine Stands weight setup rows slots devices alone soon = record {
  same_core = λ es fits n. (sim es fits n).same_core;
  same_entries = λ es fits n. (sim es fits n).same_entries;
  same_offers = λ es fits n t action e. same_offer setup offer S engine Stands alone t (kept_at (source_run offer setup es (marked engine setup es n)).heard t)
      (kept_at (machine_run engine setup es n).running t)
      (at_place setup offer S engine Stands alone (source_run offer setup es (marked engine setup es n)).heard (machine_run engine setup es n).running (sim es fits n).all t) action e;
  all_offers = λ es fits n none t. sim_offers setup offer S engine Stands alone (machine_run engine setup es n)
      (source_run offer setup es (marked engine setup es n)) (sim es fits n) none t;
  goes_on = λ es fits m comes. goes es m (reaches setup offer S engine Stands weight rows alone soon (source_start setup es) (machine_start engine setup es) (first es fits) m comes);
}
  where
    first : (es : List Entry) → AreFitting setup es → Simulates setup engine Stands (machine_start engine setup es) (source_start setup es)
    first es fits = sim_start setup offer S engine Stands alone slots devices es fits

    sim : (es : List Entry) → AreFitting setup es → (n : ℕ) →
        Simulates setup engine Stands (machine_run engine setup es n) (source_run offer setup es (marked engine setup es n))
    sim es fits n = sim_after setup offer S engine Stands alone (source_start setup es) (machine_start engine setup es) (first es fits) n

    goes : (es : List Entry) (m : ℕ) → Reaches setup offer S engine Stands weight rows alone soon (machine_start engine setup es) m (m * (length setup.tasks * rows + 1)) →
        (n : ℕ) × (n ≤ (m + 1) * (length setup.tasks * rows + 1)) × (marked engine setup es n ≡ m)
    goes es m r = let within = r.within in (r.at, omega arith, r.made)

-- and where the source's run ends, the machine comes to its end
pub ends_soon : (offer : Supplier) {S : Type 0} (engine : Engine S) (Stands : ℕ → List Answer → S → Type 0) (weight : ℕ → S → ℕ)
    (setup : Setup) (rows : ℕ) → AllByRecursion IsValue setup.slots → AllByRecursion IsDevice setup.devices → Alone setup offer engine Stands →
    Soon (length setup.tasks) engine Stands weight rows → (es : List Entry) → AreFitting setup es → (m : ℕ) →
    Comes offer setup es m → source_next offer (source_run offer setup es m) ≡ None → EndsSoon engine setup es m ((m + 1) * (length setup.tasks * rows + 1))
ends_soon offer {S} engine Stands weight setup rows slots devices alone soon es fits m comes none =
    let first = sim_start setup offer S engine Stands alone slots devices es fits in
    let s = settled_with setup offer S engine Stands weight rows alone soon (source_start setup es) (machine_start engine setup es) first m
    (m * (length setup.tasks * rows + 1))
    (reaches setup offer S engine Stands weight rows alone soon (source_start setup es) (machine_start engine setup es) first m comes) in
    let here = sim_after setup offer S engine Stands alone (source_start setup es) (machine_start engine setup es) first s.at in
    let same = sim_next setup offer S engine Stands alone (machine_run engine setup es s.at) (source_run offer setup es (marked engine setup es s.at)) here s.none in
    let bound = s.within in
    record {
      at = s.at;
      within = omega arith;
      made = s.made;
      has_ended = record {
        settled = s.none;
        no_mark = same ∙ subst (λ j. source_next offer (source_run offer setup es j) ≡ None) (sym s.made) none;
      };
    }

-- values have their kinds after any number of steps
pub has_kinds : (offer : Supplier) {S : Type 0} (engine : Engine S) (Stands : ℕ → List Answer → S → Type 0) (setup : Setup) →
    AllByRecursion IsValue setup.slots → AllByRecursion IsDevice setup.devices → Alone setup offer engine Stands →
    (es : List Entry) → AreFitting setup es → (n : ℕ) → HasKinds setup (machine_run engine setup es n).core
has_kinds offer {S} engine Stands setup slots devices alone es fits n =
    (sim_after setup offer S engine Stands alone (source_start setup es) (machine_start engine setup es)
    (sim_start setup offer S engine Stands alone slots devices es fits) n).kinds

-- an active task is one of the tables', and its code stands where its answers lead, after any number of steps
pub stands_at : (offer : Supplier) {S : Type 0} (engine : Engine S) (Stands : ℕ → List Answer → S → Type 0) (setup : Setup) →
    AllByRecursion IsValue setup.slots → AllByRecursion IsDevice setup.devices → Alone setup offer engine Stands →
    (es : List Entry) → AreFitting setup es → (n t : ℕ) (running : Running S) → kept_at (machine_run engine setup es n).running t ≡ Some running →
    (heard : List Answer) × (t < length setup.tasks) × Stands t heard running.stack
stands_at offer {S} engine Stands setup slots devices alone es fits n t running is =
    let m = machine_run engine setup es n in
    let s = source_run offer setup es (marked engine setup es n) in
    let sim = sim_after setup offer S engine Stands alone (source_start setup es) (machine_start engine setup es)
    (sim_start setup offer S engine Stands alone slots devices es fits) n in
    by (kept_at s.heard t) (kept_at m.running t) (at_place setup offer S engine Stands alone s.heard m.running sim.all t) is
  where
    by : (x : Option (List Answer)) (y : Option (Running S)) → Both (List Answer) (Running S) (Here setup engine Stands) t x y → y ≡ Some running →
        (heard : List Answer) × (t < length setup.tasks) × Stands t heard running.stack
    by None None b e = absurd (none-some running e)
    by None (Some y) b e = absurd b
    by (Some heard) None b e = absurd b
    by (Some heard) (Some y) b e =
        let same : y ≡ running = same_Some y running e in (heard, b.there, subst (λ (r : Running S). Stands t heard r.stack) same b.stands)
