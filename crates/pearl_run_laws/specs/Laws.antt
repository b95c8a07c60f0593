-- What holds of runs that go on, over any engine whose stacks are of one type.
use Rattle.std.specs.Prelude.{◌≡◌, ℕ, ◌+◌, List, [], ◌∷◌, ◌++◌}
use Rattle.pearl_rules.specs.declared.entry.Entry.{Entry}
use Rattle.pearl_rules.specs.Entries.{time_in}
use Rattle.pearl_rules.specs.Runs.{Engine, Machine, machine_after}
use Rattle.pearl_run_laws.specs.GoingOn.{over, EndsAfter, StandAlike, GoesOnFrom}
use Rattle.pearl_run_laws.specs.Parts.{IsParted}

-- a run over some entries that has ended goes on over more as the run over all of them does
abbrev pub RunsGoOn : Type 0 → Type 0
RunsGoOn S = (engine : Engine S) (m : Machine S) (es more : List Entry) (n : ℕ) → EndsAfter engine (over m es) n →
    GoesOnFrom engine (machine_after engine (over m es) n) (over m (es ++ more)) more

-- a run has one last state
abbrev pub RunsEndOnce : Type 0 → Type 0
RunsEndOnce S = (engine : Engine S) (m : Machine S) (n k : ℕ) → EndsAfter engine m n → EndsAfter engine m k →
    machine_after engine m n ≡ machine_after engine m k

-- at its end a run has come as much later as its entries let time pass
abbrev pub MomentsCome : Type 0 → Type 0
MomentsCome S = (engine : Engine S) (m : Machine S) (es : List Entry) (n : ℕ) → EndsAfter engine (over m es) n →
    (machine_after engine (over m es) n).core.moment ≡ m.core.moment + time_in es

-- an entry and its two parts make the same run, step by step
abbrev pub EntriesPart : Type 0 → Type 0
EntriesPart S = (engine : Engine S) (m : Machine S) (before after : List Entry) (one : Entry) (parts : List Entry) →
    IsParted one parts → (n : ℕ) → StandAlike [] (machine_after engine (over m (before ++ one ∷ after)) n)
    (machine_after engine (over m (before ++ (parts ++ after))) n)
