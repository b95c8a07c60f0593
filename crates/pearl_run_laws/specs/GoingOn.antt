-- When a run has ended, from which state it goes on over further entries, and when two states stand alike.
use Rattle.std.specs.Prelude.{◌≡◌, ℕ, List, [], Option, None}
use Rattle.pearl_rules.specs.declared.entry.Entry.{Entry}
use Rattle.pearl_rules.specs.Core.{Report, told_before}
use Rattle.pearl_rules.specs.Runs.{Mark, mapped, Engine, Machine, machine_after, machine_next, unsettled}

-- the same state, with these entries to come
abbrev pub over : {S : Type 0} → Machine S → List Entry → Machine S
over m es = record m { entries = es }

-- the same state that has told nothing, with these entries to come: from here a run goes on
abbrev pub gone_on : {S : Type 0} → Machine S → List Entry → Machine S
gone_on m es = record { core = record m.core { told = [] }; running = m.running; entries = es }

-- after so many steps from m the run has ended: nothing is unsettled and no mark comes
pub record EndsAfter {S : Type 0} (engine : Engine S) (m : Machine S) (n : ℕ) : Type 0 where
  pub settled : unsettled (machine_after engine m n) ≡ None
  pub no_mark : machine_next (machine_after engine m n) ≡ None

-- which mark comes next
abbrev pub next_of : {S : Type 0} → Machine S → Option Mark
next_of m = mapped (λ coming. coming.mark) (machine_next m)

-- two states stand alike, but that the second has told this before: the same core, each task with the same stack and
-- the same offer, and the same mark comes next
pub record StandAlike {S : Type 0} (before : List (ℕ × Report)) (a b : Machine S) : Type 0 where
  pub core : b.core ≡ told_before before a.core
  pub running : b.running ≡ a.running
  pub next : next_of b ≡ next_of a

-- each state of a run that goes on from one state is a state of the whole run, but that this has told before what
-- that one has told
abbrev pub GoesOnFrom : {S : Type 0} → Engine S → (last whole : Machine S) → List Entry → Type 0
GoesOnFrom engine last whole more = (k : ℕ) →
    (j : ℕ) × StandAlike last.core.told (machine_after engine (gone_on last more) k) (machine_after engine whole j)
