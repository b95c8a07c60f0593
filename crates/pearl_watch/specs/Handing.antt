-- How a machine runs to which the entries are handed over mark by mark.
use Rattle.std.specs.Prelude.{◌≡◌, ℕ, zero, suc, List, [], ◌∷◌, ◌++◌, Option, Some, None}
use Rattle.pearl_rules.specs.declared.entry.Entry.{Entry}
use Rattle.pearl_rules.specs.Pick.{pick}
use Rattle.pearl_rules.specs.Runs.{Mark, Coming, next_mark, Engine, Machine, machine_offers, unsettled, machine_step}
use Rattle.pearl_watch.specs.Marks.{alone}

-- the machine with these entries in place of its own
abbrev pub with_entries : {S : Type 0} → Machine S → List Entry → Machine S
with_entries m es = record m { entries = es }

-- a machine, and the entries that are left to be handed over
pub record Handing (S : Type 0) : Type 0 where
  pub machine : Machine S
  pub left : List Entry

-- where a mark comes, the machine has the entry that makes it alone, and makes it; what remains is left
abbrev pub handed : {S : Type 0} → Engine S → Handing S → Option Coming → Handing S
handed engine h None = h
handed engine h (Some coming) =
    record { machine = machine_step engine (with_entries h.machine (alone coming.mark ∷ [])); left = coming.rest }

abbrev pub handing_by : {S : Type 0} → Engine S → Handing S → Option (ℕ × S) → Handing S
handing_by engine h (Some task) = record h { machine = machine_step engine h.machine }
handing_by engine h None = handed engine h (next_mark (pick h.machine.core (machine_offers h.machine)) h.left)

-- an instruction of a task that has offered nothing; where each has offered, the next mark
abbrev pub handing_step : {S : Type 0} → Engine S → Handing S → Handing S
handing_step engine h = handing_by engine h (unsettled h.machine)

abbrev pub handing_after : {S : Type 0} → Engine S → Handing S → ℕ → Handing S
handing_after engine h zero = h
handing_after engine h (suc n) = handing_step engine (handing_after engine h n)

-- the machine that has all at once what is left to be handed over
abbrev pub at_once : {S : Type 0} → Handing S → Machine S
at_once h = with_entries h.machine h.left

-- the next mark of some entries and of more behind them, where these are the next marks of each alone
abbrev pub with_more : Option Coming → List Entry → Option Coming → Option Coming
with_more None more later = later
with_more (Some coming) more later = Some (record { mark = coming.mark; rest = coming.rest ++ more })

-- the entry makes this mark where this task is picked, and no other behind it, whichever task is picked then
pub record IsAlone (picked : Option ℕ) (mark : Mark) (entry : Entry) : Type 0 where
  pub left : List Entry
  pub comes : next_mark picked (entry ∷ []) ≡ Some (record { mark = mark; rest = left })
  pub last : (other : Option ℕ) → next_mark other left ≡ None
