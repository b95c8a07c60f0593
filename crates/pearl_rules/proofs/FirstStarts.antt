-- What a run tells at its start: the starts of the MAIN tasks, and nothing else.
use Rattle.std.proofs.Common.{◌≡◌, ℕ, zero, suc, ◌+◌, ◌<◌, ◌≤◌, ◌⊎◌, inl, inr, List, [], ◌∷◌, Bool, true, false, Some, slice_get, refl, sym, ap, subst, ◌∙◌, add-zero, zero-add, arith}
use Rattle.std.specs.List.{Contains}
use Rattle.std.proofs.lemmas.Option.{none-some, same_Some}
use Rattle.pearl_rules.specs.declared.event.Event.TheVariants as event
use Rattle.pearl_rules.specs.declared.setup.TaskEntry.{TaskEntry}
use Rattle.pearl_rules.specs.Core.{Report, Happened, first_events_if, first_events}
use Rattle.pearl_rules.specs.Laws.{AreFirstStarts}
use Rattle.pearl_rules.proofs.Places.{here, there, where_is, no_member}

-- the start of a task
abbrev start_of : ℕ → ℕ → ℕ × Report
start_of t priority = (0, Happened (event.Start t priority))

-- each MAIN task's start is told; the first task has the number k
each_told : (k : ℕ) (tasks : List TaskEntry) (i : ℕ) (task : TaskEntry) → slice_get tasks i ≡ Some task → task.main ≡ true →
    Contains (first_events k tasks) (start_of (k + i) task.priority)
each_told k [] i task at main = absurd (none-some task at)
each_told k (first ∷ tasks) zero task at main =
    let same : first ≡ task = same_Some first task at in
    subst (λ n. Contains (first_events k (first ∷ tasks)) (start_of n task.priority)) (sym (add-zero k))
    (subst (λ (x : TaskEntry). Contains (first_events_if x.main k x.priority (first_events (k + 1) tasks)) (start_of k task.priority)) (sym same)
    (subst (λ b. Contains (first_events_if b k task.priority (first_events (k + 1) tasks)) (start_of k task.priority)) (sym main)
    (here (start_of k task.priority) (first_events (k + 1) tasks))))
each_told k (first ∷ tasks) (suc i) task at main =
    let same : (k + 1) + i ≡ k + suc i = omega arith in
    by_main first.main (subst (λ n. Contains (first_events (k + 1) tasks) (start_of n task.priority)) same (each_told (k + 1) tasks i task at main))
  where
    by_main : (b : Bool) → Contains (first_events (k + 1) tasks) (start_of (k + suc i) task.priority) →
        Contains (first_events_if b k first.priority (first_events (k + 1) tasks)) (start_of (k + suc i) task.priority)
    by_main true later = there (start_of k first.priority) (start_of (k + suc i) task.priority) (first_events (k + 1) tasks) later
    by_main false later = later

-- what is told is the start of a MAIN task
record IsStartFrom (k : ℕ) (tasks : List TaskEntry) (x : ℕ × Report) : Type 0 where
  place : ℕ
  task : TaskEntry
  declared : slice_get tasks place ≡ Some task
  main : task.main ≡ true
  starts : x ≡ start_of (k + place) task.priority

later_start : (k : ℕ) (first : TaskEntry) (tasks : List TaskEntry) (x : ℕ × Report) → IsStartFrom (k + 1) tasks x → IsStartFrom k (first ∷ tasks) x
later_start k first tasks x is =
    let same : (k + 1) + is.place ≡ k + suc is.place = omega arith in
    record {
      place = suc is.place;
      task = is.task;
      declared = is.declared;
      main = is.main;
      starts = is.starts ∙ ap (λ n. start_of n is.task.priority) same;
    }

only_told : (k : ℕ) (tasks : List TaskEntry) (x : ℕ × Report) → Contains (first_events k tasks) x → IsStartFrom k tasks x
only_told k [] x inside = absurd (no_member x inside)
only_told k (first ∷ tasks) x inside = by_main first.main refl inside (only_told (k + 1) tasks x)
  where
    by_main : (b : Bool) → first.main ≡ b → Contains (first_events_if b k first.priority (first_events (k + 1) tasks)) x →
        (Contains (first_events (k + 1) tasks) x → IsStartFrom (k + 1) tasks x) → IsStartFrom k (first ∷ tasks) x
    by_main true main within rest = by_place (where_is (start_of k first.priority) x (first_events (k + 1) tasks) within)
      where
        by_place : (start_of k first.priority ≡ x) ⊎ Contains (first_events (k + 1) tasks) x → IsStartFrom k (first ∷ tasks) x
        by_place (inl same) = record {
          place = 0;
          task = first;
          declared = refl;
          main = main;
          starts = sym same ∙ ap (λ n. start_of n first.priority) (sym (add-zero k));
        }
        by_place (inr later) = later_start k first tasks x (rest later)
    by_main false main within rest = later_start k first tasks x (rest within)

-- the task that a start names
same_start : (t u p q : ℕ) → start_of t p ≡ start_of u q → t ≡ u
same_start t u p q e = let same = ap (λ (x : ℕ × Report). x.1) e in cc

-- what stands at a place is in the list
stands_in : {X : Type 0} (xs : List X) (i : ℕ) (x : X) → slice_get xs i ≡ Some x → Contains xs x
stands_in [] i x at = absurd (none-some x at)
stands_in (first ∷ xs) zero x at = subst (λ y. Contains (first ∷ xs) y) (same_Some first x at) (here first xs)
stands_in (first ∷ xs) (suc i) x at = there first x xs (stands_in xs i x at)

-- no start from here on names an earlier task
from_here : (k : ℕ) (tasks : List TaskEntry) (j u q : ℕ) → slice_get (first_events k tasks) j ≡ Some (start_of u q) → k ≤ u
from_here k tasks j u q at =
    let is = only_told k tasks (start_of u q) (stands_in (first_events k tasks) j (start_of u q) at) in
    let same = same_start u (k + is.place) q is.task.priority is.starts in
    omega (arith, same)

rising : (k : ℕ) (tasks : List TaskEntry) (i j t u p q : ℕ) → i < j → slice_get (first_events k tasks) i ≡ Some (start_of t p) →
    slice_get (first_events k tasks) j ≡ Some (start_of u q) → t < u
rising k [] i j t u p q less at behind = absurd (none-some (start_of t p) at)
rising k (first ∷ tasks) i j t u p q less at behind = by_main first.main at behind (rising (k + 1) tasks)
  where
    by_main : (b : Bool) → slice_get (first_events_if b k first.priority (first_events (k + 1) tasks)) i ≡ Some (start_of t p) →
        slice_get (first_events_if b k first.priority (first_events (k + 1) tasks)) j ≡ Some (start_of u q) →
        ((i j t u p q : ℕ) → i < j → slice_get (first_events (k + 1) tasks) i ≡ Some (start_of t p) →
        slice_get (first_events (k + 1) tasks) j ≡ Some (start_of u q) → t < u) → t < u
    by_main false here behind rest = rest i j t u p q less here behind
    by_main true here behind rest = by_places i j less here behind
      where
        by_places : (i j : ℕ) → i < j → slice_get (start_of k first.priority ∷ first_events (k + 1) tasks) i ≡ Some (start_of t p) →
            slice_get (start_of k first.priority ∷ first_events (k + 1) tasks) j ≡ Some (start_of u q) → t < u
        by_places zero zero below x y = let no : ⊥ = omega (arith, below) in absurd no
        by_places (suc i) zero below x y = let no : ⊥ = omega (arith, below) in absurd no
        by_places zero (suc j) below x y =
            let same = same_start k t first.priority p (same_Some (start_of k first.priority) (start_of t p) x) in
            let above = from_here (k + 1) tasks j u q y in
            omega (arith, same, above)
        by_places (suc i) (suc j) below x y = rest i j t u p q (omega (arith, below)) x y

pub first_starts : (tasks : List TaskEntry) → AreFirstStarts tasks (first_events 0 tasks)
first_starts tasks = record {
  each = λ t task at main. subst (λ n. Contains (first_events 0 tasks) (start_of n task.priority)) (zero-add t) (each_told 0 tasks t task at main);
  only = λ x inside. let is = only_told 0 tasks x inside in (
    is.place,
    record {
      task = is.task;
      declared = is.declared;
      main = is.main;
      starts = is.starts ∙ ap (λ n. start_of n is.task.priority) (zero-add is.place);
    },
  );
  in_order = λ i j t u p q less at behind. rising 0 tasks i j t u p q less at behind;
}
