-- Which semaphores the request of each task names, and which tasks wait for one of some.
use Rattle.std.specs.Prelude.{ℕ, List, [], Option, Some, None, IsTrue, map}
use Rattle.pearl_rules.specs.declared.action.Action.{Action}
use Rattle.pearl_rules.specs.declared.action.Action.TheVariants.{Request}
use Rattle.pearl_sema.specs.Waiting.{names, Waits}

abbrev pub requested_by : Action → List ℕ
requested_by (Request list) = list.items
requested_by other = []

-- the semaphores that an offer waits for; none where it is no request
abbrev pub requested : Option Action → List ℕ
requested None = []
requested (Some action) = requested_by action

-- those of each task's offer
abbrev pub requests : List (Option Action) → List (List ℕ)
requests offers = map requested offers

-- the task waits for a semaphore that the list names
pub record WaitsForOne (offers : List (Option Action)) (list : List ℕ) (t : ℕ) : Type 0 where
  pub semaphore : ℕ
  pub named : IsTrue (names list semaphore)
  pub waits : Waits (requests offers) semaphore t
