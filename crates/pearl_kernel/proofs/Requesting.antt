-- The semaphores that requests name: how they are kept, and what they decide.
use Rattle.std.proofs.Common.{◌≡◌, ℕ, ◌<◌, ◌≤◌, ◌-◌, ◌+◌, ◌⊎◌, inl, inr, List, [], ◌∷◌, Bool, true, false, ◌&&◌, ◌||◌}
use Rattle.std.proofs.Common.{zero, suc, Option, Some, None, cond, replicate, length, slice_get, slice_set, slice_index_or, nat_lt, nat_eq}
use Rattle.std.proofs.Common.{refl, sym, ap, ap₂, ◌∙◌, arith, eq-eqb}
use Rattle.std.specs.Prelude.{option_map}
use Rattle.std.specs.List.{IsDistinct}
use Rattle.std.proofs.lemmas.Bool.{cases_lt, false≢true, true≢false}
use Rattle.std.proofs.lemmas.List.{get_or_past, length-map, map-set}
use Rattle.pearl_rules.specs.declared.action.Action.{Action}
use Rattle.pearl_rules.specs.declared.action.Action.TheVariants.{Request}
use Rattle.pearl_rules.specs.Core.{Core}
use Rattle.pearl_rules.specs.Runs.{kept_at}
use Rattle.pearl_rules.specs.Counts.{count_or_zero, count_at, all_free, lowered, raised}
use Rattle.pearl_sema.specs.Waiting.{AreThere, names, Waits}
use Rattle.pearl_sema.proofs.Offered.{lowers_just_these, raises_just_these}
use Rattle.pearl_kernel.specs.Names.{Names}
use Rattle.pearl_kernel.specs.Requests.{requested_by, requested, requests}

-- HOW THEY ARE KEPT

pub requests-length : (offers : List (Option Action)) → length (requests offers) ≡ length offers
requests-length offers = length-map offers requested

pub requests-set : (offers : List (Option Action)) (task : ℕ) (offer : Option Action) →
    requests (slice_set offers task offer) ≡ slice_set (requests offers) task (requested offer)
requests-set offers task offer = map-set requested offers task offer

-- at the start nothing is offered
pub requests-opening : (n : ℕ) → requests (replicate n None) ≡ replicate n []
requests-opening zero = refl
requests-opening (suc n) = ap (λ lists. [] ∷ lists) (requests-opening n)

-- what a request names is there
pub request-there : (core : Core) (action : Action) → Names core action → AreThere core.counts (requested_by action)
unfolding IsDistinct
request-there core (Request list) is = is
request-there core other is = record { there = tt; distinct = tt }

-- a task waits for what its request names
requests_at : (offers : List (Option Action)) (t : ℕ) → slice_index_or (requests offers) t [] ≡ requested (kept_at offers t)
requests_at [] t = refl
requests_at (offer ∷ offers) zero = refl
requests_at (offer ∷ offers) (suc t) = requests_at offers t

pub requests-named : (offers : List (Option Action)) (semaphore t : ℕ) →
    names (requested (kept_at offers t)) semaphore ≡ true → Waits (requests offers) semaphore t
requests-named offers semaphore t named = ap (λ list. names list semaphore) (requests_at offers t) ∙ named

-- a task that waits is there
pub waits-there : (offers : List (Option Action)) (semaphore t : ℕ) → Waits (requests offers) semaphore t →
    t < length offers
waits-there offers semaphore t waits = by_place (cases_lt t (length offers))
  where
    by_place : (t < length offers) ⊎ (length offers ≤ t) → t < length offers
    by_place (inl within) = within
    by_place (inr past) = absurd (false≢true (ap (λ list. names list semaphore)
        (sym (get_or_past (requests offers) t [] (omega (arith, past, requests-length offers)))) ∙ waits))

-- WHAT THEY DECIDE

or_right : (a b : Bool) → b ≡ true → (a || b) ≡ true
or_right true b is = refl
or_right false b is = is

-- the same counts of all that a list names
pub free-same : (old new list : List ℕ) →
    ((semaphore : ℕ) → names list semaphore ≡ true → count_at new semaphore ≡ count_at old semaphore) →
    all_free new list ≡ all_free old list
free-same old new [] same = refl
free-same old new (s ∷ list) same = ap₂ (λ n b. nat_lt 0 n && b)
    (same s (ap (λ b. b || names list s) (eq-eqb s s refl)))
    (free-same old new list (λ u named. same u (or_right (nat_eq s u) (names list u) named)))

-- a count that isn't changed
unnamed : (change : ℕ → ℕ) (named : Bool) (count : Option ℕ) → named ≡ false →
    count_or_zero (option_map (λ n. cond named (change n) n) count) ≡ count_or_zero count
unnamed change false None out = refl
unnamed change false (Some n) out = refl
unnamed change true count out = absurd (true≢false out)

pub lowered-others : (counts list : List ℕ) → IsDistinct nat_eq list → (semaphore : ℕ) → names list semaphore ≡ false →
    count_at (lowered counts list) semaphore ≡ count_at counts semaphore
lowered-others counts list distinct semaphore out = ap count_or_zero (lowers_just_these counts list distinct semaphore)
    ∙ unnamed (λ n. n - 1) (names list semaphore) (slice_get counts semaphore) out

pub raised-others : (counts list : List ℕ) → IsDistinct nat_eq list → (semaphore : ℕ) → names list semaphore ≡ false →
    count_at (raised counts list) semaphore ≡ count_at counts semaphore
raised-others counts list distinct semaphore out = ap count_or_zero (raises_just_these counts list distinct semaphore)
    ∙ unnamed (λ n. n + 1) (names list semaphore) (slice_get counts semaphore) out
