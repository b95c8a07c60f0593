-- One mark of a run, and what each active task does behind it.
use Rattle.std.specs.Prelude.{◌≡◌, ◌≢◌, ℕ, suc, ◌<◌, List, [], ◌∷◌, ◌++◌, Option, Some, None}
use Rattle.pearl_rules.specs.declared.entry.Entry.{Entry}
use Rattle.pearl_rules.specs.Core.{Report}
use Rattle.pearl_rules.specs.Runs.{Mark, machine_after, next_mark, unsettled}
use Rattle.pearl_instructions.specs.Engines.{engine}
use Rattle.pearl_machine.specs.Seen.{Seen, Handles, at, picked}

-- Over these entries a mark comes next, and each active task has offered its action: the first step from where the old
-- machine stands makes it, with this told before. Behind it come so many instructions, each of a task that has offered
-- nothing, and no other mark. They lead to where the new machine stands, with those entries left, and this is told on the
-- way.
pub record MakesOne (old new : Seen) (told before : List (ℕ × Report)) (entries left : List Entry) : Type 0 where
  pub offered : unsettled old.state ≡ None
  pub mark : Mark
  pub comes : next_mark (picked old) entries ≡ Some (record { mark = mark; rest = left })
  pub settling : ℕ
  pub is : machine_after (engine old.object) (at old before entries) (suc settling) ≡ at new (before ++ told) left
  pub each : (i : ℕ) → i < settling → unsettled (machine_after (engine old.object) (at old before entries) (suc i)) ≢ None

-- such instructions alone, and no mark
pub record MakesNone (old new : Seen) (before : List (ℕ × Report)) (entries : List Entry) : Type 0 where
  pub settling : ℕ
  pub is : machine_after (engine old.object) (at old before entries) settling ≡ at new before entries
  pub each : (i : ℕ) → i < settling → unsettled (machine_after (engine old.object) (at old before entries) i) ≢ None

-- Where each active task has offered its action, an entry makes a mark and no other behind it, and a machine has handled
-- it. Then the run over whatever entries, of which that mark comes next, makes it and leads to where the machine stands.
abbrev pub MakesWhatComes : Type 0
MakesWhatComes =
    (old new : Seen) (entry : Entry) (mark : Mark) (over : List Entry) (told : List (ℕ × Report)) → unsettled old.state ≡ None →
    next_mark (picked old) (entry ∷ []) ≡ Some (record { mark = mark; rest = over }) → ((other : Option ℕ) → next_mark other over ≡ None) →
    Handles old (entry ∷ []) [] new told → (before : List (ℕ × Report)) (entries left : List Entry) →
    next_mark (picked old) entries ≡ Some (record { mark = mark; rest = left }) → MakesOne old new told before entries left

-- Where a machine has handled no entry, no mark is made.
abbrev pub SettlesAlone : Type 0
SettlesAlone = (old new : Seen) → Handles old [] [] new [] → (before : List (ℕ × Report)) (entries : List Entry) → MakesNone old new before entries
