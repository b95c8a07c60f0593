-- When a machine's code means what the source's task rules say, and what of one task is enough for it.
use Rattle.std.specs.Prelude.{◌≡◌, ◌≢◌, ℕ, ◌+◌, ◌*◌, ◌<◌, ◌≤◌, List, [], ◌∷◌, ◌++◌, Some, None, length}
use Rattle.pearl_rules.specs.declared.action.Action.{Action}
use Rattle.pearl_rules.specs.declared.action.Answer.{Answer}
use Rattle.pearl_rules.specs.declared.entry.Entry.{Entry}
use Rattle.pearl_rules.specs.declared.setup.Setup.{Setup}
use Rattle.pearl_rules.specs.Slots.{Suits, Fits}
use Rattle.pearl_rules.specs.Entries.{AreFitting}
use Rattle.pearl_rules.specs.Runs.{Supplier, Engine, Silent, Offers, source_run, source_next, source_offers, machine_run, machine_offers, marked, unsettled}

-- The code runs as the source's rules say: for every list of fitting entries and every number of machine steps, after the same marks.
-- `rows` bounds the instructions from one action to the next, `count` is the number of tasks.
pub record IsFaithful (offer : Supplier) {S : Type 0} (engine : Engine S) (setup : Setup) (count rows : ℕ) : Type 0 where
  -- the core is the same, and so is what remains of the journal
  pub same_core : (es : List Entry) → AreFitting setup es → (n : ℕ) →
      (machine_run engine setup es n).core ≡ (source_run offer setup es (marked engine setup es n)).core
  pub same_entries : (es : List Entry) → AreFitting setup es → (n : ℕ) →
      (machine_run engine setup es n).entries ≡ (source_run offer setup es (marked engine setup es n)).entries
  -- an action that the machine has offered is what the source's task does next
  pub same_offers : (es : List Entry) → AreFitting setup es → (n t : ℕ) (action : Action) →
      machine_offers (machine_run engine setup es n) t ≡ Some action →
      source_offers offer (source_run offer setup es (marked engine setup es n)) t ≡ Some action
  -- where every active task has offered, all offers are the source's
  pub all_offers : (es : List Entry) → AreFitting setup es → (n : ℕ) → unsettled (machine_run engine setup es n) ≡ None → (t : ℕ) →
      machine_offers (machine_run engine setup es n) t ≡ source_offers offer (source_run offer setup es (marked engine setup es n)) t
  -- the machine goes on: where m marks come, it has made them within this many steps
  pub goes_on : (es : List Entry) → AreFitting setup es → (m : ℕ) →
      ((k : ℕ) → k < m → source_next offer (source_run offer setup es k) ≢ None) →
      (n : ℕ) × (n ≤ (m + 1) * (count * rows + 1)) × (marked engine setup es n ≡ m)

-- `Stands t heard stack`: this is where the code of task t is after these answers since its start. Each task that is there begins so.
-- Then it offers what the source offers, that action fits the tables, and an answer that suits it leads to where the code is after it.
pub record Alone (setup : Setup) (offer : Supplier) {S : Type 0} (engine : Engine S) (Stands : ℕ → List Answer → S → Type 0) : Type 0 where
  pub begins : (t : ℕ) → t < length setup.tasks → Stands t [] (engine.begin t)
  pub goes : (t : ℕ) (heard : List Answer) (stack after : S) → Stands t heard stack → engine.step t stack ≡ Silent after → Stands t heard after
  pub offers : (t : ℕ) (heard : List Answer) (stack : S) (action : Action) → Stands t heard stack → engine.step t stack ≡ Offers action →
      action ≡ offer t heard
  pub fits : (t : ℕ) (heard : List Answer) (stack : S) (action : Action) → Stands t heard stack → engine.step t stack ≡ Offers action →
      Fits setup action
  pub answered : (t : ℕ) (heard : List Answer) (stack : S) (action : Action) (answer : Answer) →
      Stands t heard stack → engine.step t stack ≡ Offers action → Suits setup t action answer →
      Stands t (heard ++ answer ∷ []) (engine.answer t stack answer)

-- From where the code of one of `count` tasks stands it offers an action within `rows` instructions: a weight falls at each silent one.
pub record Soon (count : ℕ) {S : Type 0} (engine : Engine S) (Stands : ℕ → List Answer → S → Type 0) (weight : ℕ → S → ℕ) (rows : ℕ) : Type 0 where
  pub bounded : (t : ℕ) (heard : List Answer) (stack : S) → t < count → Stands t heard stack → weight t stack < rows
  pub falls : (t : ℕ) (heard : List Answer) (stack after : S) → t < count → Stands t heard stack → engine.step t stack ≡ Silent after →
      weight t after < weight t stack
