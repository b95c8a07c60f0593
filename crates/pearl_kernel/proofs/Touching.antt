-- What each action touches besides its own task.
use Rattle.std.proofs.Common.{◌≡◌, ◌≢◌, ℕ, ◌<◌, List, [], Bool, true, false, Option, Some, None, length, slice_get, slice_set}
use Rattle.std.proofs.Common.{refl, sym, subst, ap, ◌∙◌}
use Rattle.std.proofs.lemmas.Bool.{true≢false}
use Rattle.pearl_rules.specs.declared.action.Start.{Start}
use Rattle.pearl_rules.specs.declared.action.Repeat.{Repeat}
use Rattle.pearl_rules.specs.declared.event.Event.{Event}
use Rattle.pearl_rules.specs.declared.row.TaskRow.{TaskRow}
use Rattle.pearl_rules.specs.Core.{Core, Switch, row_of, with_row}
use Rattle.pearl_rules.specs.Counts.{count_at, lowered, raised}
use Rattle.pearl_rules.specs.Devices.{channel_of, with_channel}
use Rattle.pearl_rules.specs.Effect.{ended_with, ending, activated, continues, resuming}
use Rattle.pearl_rules.specs.Plans.{on_row, with_mark}
use Rattle.pearl_rules.specs.Runs.{kept_at}
use Rattle.pearl_rules.proofs.Offered.{ended-other, ended-rest}
use Rattle.pearl_kernel.specs.declared.changes.Changed.{Changed}
use Rattle.pearl_kernel.specs.declared.changes.Changed.TheVariants.{Nothing}
use Rattle.pearl_kernel.specs.Kept.{Kept, after}
use Rattle.pearl_kernel.specs.Channels.{HasSwitch}
use Rattle.pearl_kernel.specs.Changes.{ChangesOnly, Stirs}
use Rattle.pearl_kernel.specs.Touched.{Reach, Own, Other, Waiters, After, reach_of, KeepsOthers, IsThere, touched_if, Leaves}
use Rattle.pearl_sema.specs.Waiting.{AreThere, names}
use Rattle.pearl_kernel.proofs.Places.{get-other, kept-other}
use Rattle.pearl_kernel.proofs.OneTask as one
use Rattle.pearl_kernel.proofs.Entries.{unchanged, unmoved-row}
use Rattle.pearl_kernel.proofs.Requesting.{lowered-others, raised-others}
use Rattle.pearl_kernel.proofs.Changing.{same_but, closed, switch-changes}

-- NO ROW AND NO OFFER CHANGES

pub leaves-stirred : (own : ℕ) (k new : Kept) (list : List ℕ) (changed : Option Changed) → new.offers ≡ k.offers →
    Stirs k.core new.core changed → Leaves own k new (reach_of list (touched_if changed))
leaves-stirred own k new list None offers stirs = record {
  only = stirs.1;
  kept = tt;
  others = λ t other far. (ap (λ rows. slice_get rows t) stirs.0, ap (λ xs. kept_at xs t) offers);
  there = tt;
}
leaves-stirred own k new list (Some changed) offers stirs = record {
  only = stirs.1;
  kept = tt;
  others = λ t other far. (unmoved-row k.core new.core new changed t stirs.0 far, ap (λ xs. kept_at xs t) offers);
  there = tt;
}

pub leaves-quiet : (own : ℕ) (k : Kept) {new mid : Kept} → new ≡ mid → mid.core.tasks ≡ k.core.tasks →
    mid.offers ≡ k.offers → mid.core.counts ≡ k.core.counts → mid.core.channels ≡ k.core.channels →
    mid.core.formats ≡ k.core.formats → Leaves own k new Own
leaves-quiet own k is tasks offers counts channels formats =
    subst (λ (x : Kept). Leaves own k x Own) (sym is) (leaves-stirred own k _ [] None offers
    (tasks, same_but Nothing k.core k.core _ (unchanged k.core) counts channels formats))

-- counts change, and no others than these
pub leaves-counts : (own : ℕ) (k new : Kept) (counts : List ℕ) (list : List ℕ) →
    ((semaphore : ℕ) → names list semaphore ≡ false → count_at counts semaphore ≡ count_at k.core.counts semaphore) →
    new ≡ record k { core = record k.core { counts = counts } } → Leaves own k new (Waiters list)
leaves-counts own k new counts list kept is = subst (λ (x : Kept). Leaves own k x (Waiters list)) (sym is) (record {
  only = record { counts = λ e. absurd (true≢false e); bytes = λ d e. refl; values = λ d e. refl; formats = refl };
  kept = kept;
  others = λ t other far. (refl, refl);
  there = tt;
})

pub leaves-lowered : (own : ℕ) (k new : Kept) (list : List ℕ) → AreThere k.core.counts list →
    new ≡ record k { core = record k.core { counts = lowered k.core.counts list } } →
    Leaves own k new (Waiters list)
leaves-lowered own k new list there is = leaves-counts own k new (lowered k.core.counts list) list
    (lowered-others k.core.counts list there.distinct) is

pub leaves-raised : (own : ℕ) (k new : Kept) (list : List ℕ) → AreThere k.core.counts list →
    new ≡ record k { core = record k.core { counts = raised k.core.counts list } } →
    Leaves own k new (Waiters list)
leaves-raised own k new list there is = leaves-counts own k new (raised k.core.counts list) list
    (raised-others k.core.counts list there.distinct) is

pub leaves-switch : (own : ℕ) (k new : Kept) (d : ℕ) (enabled : Bool) → HasSwitch (channel_of k.core d) →
    new ≡ record k { core = with_channel k.core d (Switch enabled) } → Leaves own k new Own
leaves-switch own k new d enabled switch is = subst (λ (x : Kept). Leaves own k x Own) (sym is) (record {
  only = switch-changes k.core d enabled switch;
  kept = tt;
  others = λ t other far. (refl, refl);
  there = tt;
})

-- ANOTHER TASK'S ROW

abbrev pub IsRowOf : Core → ℕ → Core → Type 0
IsRowOf old t core = row_of core t ≡ row_of old t

pub row_closed : (old : Core) (u t : ℕ) → t ≢ u → one.Closed (IsRowOf old t) u
row_closed old u t other = record {
  row = λ core change is. by_row core change is (row_of core u);
  tell = λ core e of is. is;
}
  where
    by_row : (core : Core) (change : TaskRow → TaskRow) → IsRowOf old t core → (row : Option TaskRow) →
        IsRowOf old t (on_row row core (λ r. with_row core u (change r)))
    by_row core change is None = is
    by_row core change is (Some row) = get-other core.tasks u t (change row) other ∙ is

-- nothing but this task's row, and what is told of the task
abbrev Alters : ℕ → Core → Core → Type 1
Alters u old core = (P : Core → Type 0) → one.Closed P u → P old → P core

leaves_own : (own : ℕ) (k : Kept) (core : Core) → Alters own k.core core → Leaves own k (record k { core = core }) Own
leaves_own own k core alters = record {
  only = alters (ChangesOnly Nothing k.core) (closed Nothing k.core own) (unchanged k.core);
  kept = tt;
  others = λ t other far. (alters (IsRowOf k.core t) (row_closed k.core own t other) refl, refl);
  there = tt;
}

leaves_other : (own u : ℕ) (k : Kept) (core : Core) → u < length k.core.tasks → Alters u k.core core →
    Leaves own k (record k { core = core }) (Other u)
leaves_other own u k core there alters = record {
  only = alters (ChangesOnly Nothing k.core) (closed Nothing k.core u) (unchanged k.core);
  kept = tt;
  others = λ t other far. (alters (IsRowOf k.core t) (row_closed k.core u t far) refl, refl);
  there = there;
}

module _ (own : ℕ) (k new : Kept) where
  pub leaves-resumed : (start : Start) → new ≡ record k { core = resuming k.core own start } → Leaves own k new Own
  leaves-resumed start is = subst (λ (x : Kept). Leaves own k x Own) (sym is)
      (leaves_own own k (resuming k.core own start) (λ P p. one.resuming-kept P own p k.core start))

  module _ (u : ℕ) (there : u < length k.core.tasks) where
    of_other : (core : Core) → Alters u k.core core → new ≡ record k { core = core } → Leaves own k new (Other u)
    of_other core alters is = subst (λ (x : Kept). Leaves own k x (Other u)) (sym is)
        (leaves_other own u k core there alters)

    pub leaves-activated : (start : Start) (repeat : Repeat) (priority : ℕ) →
        new ≡ record k { core = activated k.core u start repeat priority } → Leaves own k new (Other u)
    leaves-activated start repeat priority is = of_other (activated k.core u start repeat priority)
        (λ P p. one.activated-kept P u p k.core start repeat priority) is

    pub leaves-continued : (start : Start) → new ≡ record k { core = continues k.core u start } →
        Leaves own k new (Other u)
    leaves-continued start is =
        of_other (continues k.core u start) (λ P p. one.continues-kept P u p k.core start) is

    pub leaves-suspended : new ≡ record k { core = with_mark k.core u true } → Leaves own k new (Other u)
    leaves-suspended is = of_other (with_mark k.core u true) (λ P p. one.mark-kept P u p k.core true) is

    pub leaves-row : (row : TaskRow) → new ≡ record k { core = with_row k.core u row } → Leaves own k new (Other u)
    leaves-row row is = subst (λ (x : Kept). Leaves own k x (Other u)) (sym is) (record {
      only = same_but Nothing k.core k.core (with_row k.core u row) (unchanged k.core) refl refl refl;
      kept = tt;
      others = λ t other far. (get-other k.core.tasks u t row far, refl);
      there = there;
    })

-- A TASK ENDS

-- it may be active again
ended_only : (changed : Changed) (old core : Core) (u : ℕ) (e : Event) → ChangesOnly changed old core →
    ChangesOnly changed old (ended_with core u e)
ended_only changed old core u e only =
    let rest = ended-rest core u e in
    same_but changed old core (ended_with core u e) only (ap (λ (x : Core). x.counts) rest)
    (ap (λ (x : Core). x.channels) rest) (ap (λ (x : Core). x.formats) rest)

ended_others : (k : Kept) (u t : ℕ) (e : Event) → t ≢ u →
    (row_of (ended_with k.core u e) t ≡ row_of k.core t) × (kept_at (slice_set k.offers u None) t ≡ kept_at k.offers t)
ended_others k u t e far = (ended-other k.core u t e far, kept-other k.offers u t None far)

-- from outside
pub leaves-ended : (own u : ℕ) (k new : Kept) (e : Event) → u < length k.core.tasks →
    new ≡ after k (ending k.core u e) → Leaves own k new (Other u)
leaves-ended own u k new e there is = subst (λ (x : Kept). Leaves own k x (Other u)) (sym is) (record {
  only = ended_only Nothing k.core k.core u e (unchanged k.core);
  kept = tt;
  others = λ t other far. ended_others k u t e far;
  there = there;
})

-- a task that is dormant stays so
pub leaves-dormant : (own u : ℕ) (k new : Kept) → u < length k.core.tasks → new ≡ k → Leaves own k new (Other u)
leaves-dormant own u k new there is = subst (λ (x : Kept). Leaves own k x (Other u)) (sym is) (record {
  only = unchanged k.core;
  kept = tt;
  others = λ t other far. (refl, refl);
  there = there;
})

-- after what waits at a device may have changed
pub leaves-broken_off : (own : ℕ) (k mid new : Kept) (list : List ℕ) (changed : Option Changed) (e : Event) →
    mid.offers ≡ k.offers → Stirs k.core mid.core changed → new ≡ after mid (ending mid.core own e) →
    Leaves own k new (reach_of list (touched_if changed))
leaves-broken_off own k mid new list None e offers stirs is = subst (λ (x : Kept). Leaves own k x Own) (sym is) (record {
  only = ended_only Nothing k.core mid.core own e stirs.1;
  kept = tt;
  others = λ t other far.
      let left = ended_others mid own t e other in
      (left.0 ∙ ap (λ rows. slice_get rows t) stirs.0, left.1 ∙ ap (λ xs. kept_at xs t) offers);
  there = tt;
})
leaves-broken_off own k mid new list (Some changed) e offers stirs is =
    subst (λ (x : Kept). Leaves own k x (After changed)) (sym is) (record {
      only = ended_only changed k.core mid.core own e stirs.1;
      kept = tt;
      others = λ t other far.
          let left = ended_others mid own t e other in (
            left.0 ∙ unmoved-row k.core mid.core (after mid (ending mid.core own e)) changed t stirs.0 far,
            left.1 ∙ ap (λ xs. kept_at xs t) offers,
          );
      there = tt;
    })

-- AN ACTION

-- who acted last was noted before
pub leaves-last : (own : ℕ) (k mid new : Kept) (last : Option ℕ) (touched : Reach) →
    mid ≡ record k { core = record k.core { last = last } } → Leaves own mid new touched → Leaves own k new touched
leaves-last own k mid new last touched is leaves =
    let of : Leaves own (record k { core = record k.core { last = last } }) new touched =
    subst (λ (x : Kept). Leaves own x new touched) is leaves in
    record {
      only = record {
        counts = of.only.counts;
        bytes = of.only.bytes;
        values = of.only.values;
        formats = of.only.formats;
      };
      kept = kept_last touched of.kept;
      others = of.others;
      there = there_last touched of.there;
    }
  where
    kept_last : (touched : Reach) → KeepsOthers touched (record k.core { last = last }) new.core →
        KeepsOthers touched k.core new.core
    kept_last Own kept = tt
    kept_last (Other task) kept = tt
    kept_last (Waiters list) kept = kept
    kept_last (After changed) kept = tt

    there_last : (touched : Reach) → IsThere (record k.core { last = last }) touched → IsThere k.core touched
    there_last Own there = tt
    there_last (Other task) there = there
    there_last (Waiters list) there = tt
    there_last (After changed) there = tt
