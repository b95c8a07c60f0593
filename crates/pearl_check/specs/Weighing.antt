-- Which lists in memory hold the tasks and procedures of a module, each with its place, its calls and its own weight.
use Rattle.std.specs.Prelude.{◌≡◌, ℕ, Bool, false, nat_lt, List, map, Option, Some, None}
use Rattle.pearl_calls.specs.Callers.{Caller}
use Rattle.pearl_tree.specs.declared.fault.RuleFault.{RuleFault}
use Rattle.pearl_names.specs.Counts.{cut}
use Rattle.pearl_check.specs.declared.callers.Weighed.{Weighed as HeldWeighed}
use Rattle.pearl_check.specs.Calls.{Weighed}

-- the own weight is cut off at 2^31
abbrev pub cut_caller : Caller → Caller
cut_caller caller = record { own = cut caller.own; calls = caller.calls }

abbrev pub place_of : Weighed → ℕ
place_of weighed = weighed.name.place

abbrev pub held_caller : Weighed → Caller
held_caller weighed = cut_caller weighed.caller

pub record HoldsWeighed (held : HeldWeighed) (of : List Weighed) : Type 0 where
  pub places : held.places.items ≡ map place_of of
  pub callers : held.callers.items ≡ map held_caller of

-- what is told already comes before this place
abbrev pub comes_before : Option RuleFault → ℕ → Bool
comes_before None place = false
comes_before (Some fault) place = nat_lt fault.place place
