-- Which entries of one mark make the marks of some entries.
use Rattle.std.specs.Prelude.{◌≡◌, ℕ, List, [], ◌∷◌, Option, Some, None}
use Rattle.pearl_rules.specs.declared.entry.Entry.{Entry}
use Rattle.pearl_rules.specs.declared.entry.Entry.TheVariants.{Run, Tick, Turn, State}
use Rattle.pearl_rules.specs.Runs.{Mark, Acts, Turns, Tells, Passes, Arrives, Coming}

-- the entry that makes a mark alone
abbrev pub alone : Mark → Entry
alone (Acts task) = Run 1
alone (Turns task) = Turn task
alone Tells = State
alone Passes = Tick 1
alone (Arrives entry) = entry

-- Where a mark comes, the entry that makes it alone is given, and then what remains after it is left; else nothing is given, and
-- the same is left as before.
abbrev pub Gives : Option Coming → Option Entry → (before left : List Entry) → Type 0
Gives None None before left = left ≡ before
Gives None (Some entry) before left = ⊥
Gives (Some coming) None before left = ⊥
Gives (Some coming) (Some entry) before left = (entry ≡ alone coming.mark) × (left ≡ coming.rest)

-- so many picks and then an entry, either of which may be missing
abbrev pub picks_before : Option ℕ → Option Entry → List Entry
picks_before None None = []
picks_before None (Some entry) = entry ∷ []
picks_before (Some picks) None = Run picks ∷ []
picks_before (Some picks) (Some entry) = Run picks ∷ entry ∷ []
