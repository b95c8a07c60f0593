-- What it is that two lists of entries make the same run, which tasks have heard something, and that a mark is one
-- action of a task.
use Rattle.std.specs.Prelude.{◌≡◌, ◌≢◌, ◌↔◌, ℕ, zero, suc, List, [], ◌∷◌, ◌++◌, false, Some, None, IsTrue, Contains}
use Rattle.pearl_rules.specs.declared.action.Answer.{Answer}
use Rattle.pearl_rules.specs.declared.entry.Entry.{Entry}
use Rattle.pearl_rules.specs.declared.entry.Entry.TheVariants.{Run, Tick}
use Rattle.pearl_rules.specs.Core.{is_active}
use Rattle.pearl_rules.specs.Effect.{Hears, effect}
use Rattle.pearl_rules.specs.Runs.{kept_at, Supplier, Source, source_next, source_step, source_after}

-- whatever the tasks do next, from any state the runs over both have after each number of marks the same core and the
-- same answers, and come to their end after as many
pub record RunAlike (es others : List Entry) : Type 0 where
  pub core : (offer : Supplier) (s : Source) (k : ℕ) →
      (source_after offer (record s { entries = es }) k).core
      ≡ (source_after offer (record s { entries = others }) k).core
  pub heard : (offer : Supplier) (s : Source) (k : ℕ) →
      (source_after offer (record s { entries = es }) k).heard
      ≡ (source_after offer (record s { entries = others }) k).heard
  pub ends : (offer : Supplier) (s : Source) (k : ℕ) →
      (source_next offer (source_after offer (record s { entries = es }) k) ≡ None)
      ↔ (source_next offer (source_after offer (record s { entries = others }) k) ≡ None)

-- so many times a millisecond and then so many picks
abbrev pub turns_of : (times picks : ℕ) → List Entry
turns_of zero picks = []
turns_of (suc times) picks = Tick 1 ∷ Run picks ∷ turns_of times picks

-- exactly the active tasks have heard something, be it no answers yet: nothing is kept of any other
pub record HearsWhereActive (s : Source) : Type 0 where
  pub dormant : (t : ℕ) → is_active s.core t ≡ false → kept_at s.heard t ≡ None
  pub active : (t : ℕ) → IsTrue (is_active s.core t) → kept_at s.heard t ≢ None

-- A task that was active has heard the same. One of which nothing was kept and that is active now has heard no answers,
-- and nothing is kept of one that is dormant now.
pub record KeepsHeard (before after : Source) : Type 0 where
  pub same : (t : ℕ) (answers : List Answer) → IsTrue (is_active before.core t) →
      kept_at before.heard t ≡ Some answers → kept_at after.heard t ≡ Some answers
  pub started : (t : ℕ) → kept_at before.heard t ≡ None → IsTrue (is_active after.core t) →
      kept_at after.heard t ≡ Some []
  pub dormant : (t : ℕ) → is_active after.core t ≡ false → kept_at after.heard t ≡ None

-- The next mark is the action that this task does after exactly the answers that it has heard. Its effect is the core
-- then, and the answer that it hears is its newest. Any other that didn't end and is active then has heard the same.
-- One that ended, or of which nothing was kept, and that is active then has heard no answers, and nothing is kept of one
-- that is dormant then.
pub record DoesOneAction (offer : Supplier) (s : Source) (task : ℕ) : Type 0 where
  pub before : List Answer
  pub heard : kept_at s.heard task ≡ Some before
  pub changes : (source_step offer s).core ≡ (effect s.core task (offer task before)).core
  pub hears : (answer : Answer) → (effect s.core task (offer task before)).reply ≡ Hears answer →
      kept_at (source_step offer s).heard task ≡ Some (before ++ answer ∷ [])
  pub others : (u : ℕ) (answers : List Answer) → u ≢ task →
      (Contains (effect s.core task (offer task before)).ended u → ⊥) →
      kept_at s.heard u ≡ Some answers → IsTrue (is_active (source_step offer s).core u) →
      kept_at (source_step offer s).heard u ≡ Some answers
  pub anew : (u : ℕ) → Contains (effect s.core task (offer task before)).ended u →
      IsTrue (is_active (source_step offer s).core u) → kept_at (source_step offer s).heard u ≡ Some []
  pub started : (u : ℕ) → kept_at s.heard u ≡ None → IsTrue (is_active (source_step offer s).core u) →
      kept_at (source_step offer s).heard u ≡ Some []
  pub dormant : (u : ℕ) → is_active (source_step offer s).core u ≡ false → kept_at (source_step offer s).heard u ≡ None
