-- Handed over mark by mark or all at once, the entries make the same run.
use Rattle.std.proofs.Common.{◌≡◌, ℕ, zero, suc, List, [], ◌∷◌, ◌++◌, true, false, Option, Some, None, IsTrue, refl, ap, subst, ◌∙◌}
use Rattle.std.proofs.lemmas.Option.{none-some, same_Some}
use Rattle.pearl_rules.specs.declared.action.Action.{Action}
use Rattle.pearl_rules.specs.declared.entry.Entry.{Entry}
use Rattle.pearl_rules.specs.declared.entry.Entry.TheVariants.{Clock, Run, Tick, Pass, Irpt, Chars, Line, Value, Turn, State}
use Rattle.pearl_rules.specs.declared.row.Mode.{Mode}
use Rattle.pearl_rules.specs.declared.row.Mode.TheVariants.{Dormant, Active}
use Rattle.pearl_rules.specs.declared.row.TaskRow.{TaskRow}
use Rattle.pearl_rules.specs.Core.{Core, row_of}
use Rattle.pearl_rules.specs.Pick.{Offered, is_ready, is_ready_row, is_possible, pick}
use Rattle.pearl_rules.specs.Runs.{Mark, Acts, Turns, Tells, Passes, Arrives, Coming, next_of_run, next_of_tick, next_of_pass, next_mark, kept_at, Engine, Running, Machine, offer_of, machine_offers, machine_does, machine_acts, machine_mark, machine_mark_by, machine_step_by, machine_step, machine_after, unsettled}
use Rattle.pearl_rules.proofs.Offered.{picked}
use Rattle.pearl_watch.specs.Marks.{alone}
use Rattle.pearl_watch.specs.Handing.{with_entries, Handing, handed, handing_by, handing_step, handing_after, at_once, with_more, IsAlone}

-- what is left of the entry that made a mark alone
abbrev leftover : Mark → List Entry
leftover (Acts task) = Run 0 ∷ []
leftover (Turns task) = []
leftover Tells = []
leftover Passes = Tick 0 ∷ []
leftover (Arrives entry) = []

nothing-left : (mark : Mark) (picked : Option ℕ) → next_mark picked (leftover mark) ≡ None
nothing-left (Acts task) None = refl
nothing-left (Acts task) (Some t) = refl
nothing-left (Turns task) picked = refl
nothing-left Tells picked = refl
nothing-left Passes picked = refl
nothing-left (Arrives entry) picked = refl

-- the entry that makes a mark alone makes it
abbrev Comes : Option ℕ → Coming → Type 0
Comes picked coming = next_mark picked (alone coming.mark ∷ []) ≡ Some (record { mark = coming.mark; rest = leftover coming.mark })

along : (picked : Option ℕ) (one other : Coming) → Comes picked one → Some one ≡ Some other → Comes picked other
along picked one other comes e = subst (Comes picked) (same_Some one other e) comes

comes_alone : (picked : Option ℕ) (es : List Entry) (coming : Coming) → next_mark picked es ≡ Some coming → Comes picked coming
comes_alone picked [] coming e = absurd (none-some coming e)
comes_alone picked (Run n ∷ es) coming e = by_pick picked n (next_mark picked es) (λ h. comes_alone picked es coming h) e
  where
    by_pick : (picked : Option ℕ) (n : ℕ) (later : Option Coming) → (later ≡ Some coming → Comes picked coming) →
        next_of_run picked n es later ≡ Some coming → Comes picked coming
    by_pick None n later go h = go h
    by_pick (Some t) zero later go h = go h
    by_pick (Some t) (suc n) later go h = along (Some t) (record { mark = Acts t; rest = Run n ∷ es }) coming refl h
comes_alone picked (Tick n ∷ es) coming e = by_number n (next_mark picked es) (comes_alone picked es coming) e
  where
    by_number : (n : ℕ) (later : Option Coming) → (later ≡ Some coming → Comes picked coming) → next_of_tick n es later ≡ Some coming → Comes picked coming
    by_number zero later go h = go h
    by_number (suc n) later go h = along picked (record { mark = Passes; rest = Tick n ∷ es }) coming refl h
comes_alone picked (Pass times picks ∷ es) coming e = by_number times (next_mark picked es) (comes_alone picked es coming) e
  where
    by_number : (n : ℕ) (later : Option Coming) → (later ≡ Some coming → Comes picked coming) → next_of_pass n picks es later ≡ Some coming → Comes picked coming
    by_number zero later go h = go h
    by_number (suc n) later go h = along picked (record { mark = Passes; rest = Run picks ∷ Pass n picks ∷ es }) coming refl h
comes_alone picked (Turn t ∷ es) coming e = along picked (record { mark = Turns t; rest = es }) coming refl e
comes_alone picked (State ∷ es) coming e = along picked (record { mark = Tells; rest = es }) coming refl e
comes_alone picked (Clock time ∷ es) coming e = along picked (record { mark = Arrives (Clock time); rest = es }) coming refl e
comes_alone picked (Irpt device ∷ es) coming e = along picked (record { mark = Arrives (Irpt device); rest = es }) coming refl e
comes_alone picked (Chars device text ∷ es) coming e = along picked (record { mark = Arrives (Chars device text); rest = es }) coming refl e
comes_alone picked (Line device text ∷ es) coming e = along picked (record { mark = Arrives (Line device text); rest = es }) coming refl e
comes_alone picked (Value device value ∷ es) coming e = along picked (record { mark = Arrives (Value device value); rest = es }) coming refl e

pub is_alone : (picked : Option ℕ) (es : List Entry) (coming : Coming) → next_mark picked es ≡ Some coming → IsAlone picked coming.mark (alone coming.mark)
is_alone picked es coming e = record { left = leftover coming.mark; comes = comes_alone picked es coming e; last = nothing-left coming.mark }

-- the entries behind others wait until no mark of those comes
pub comes_behind : (picked : Option ℕ) (es more : List Entry) →
    next_mark picked (es ++ more) ≡ with_more (next_mark picked es) more (next_mark picked more)
comes_behind picked [] more = refl
comes_behind picked (Run n ∷ es) more = by_pick picked n (next_mark picked es) (next_mark picked (es ++ more)) (comes_behind picked es more)
  where
    by_pick : (chosen : Option ℕ) (n : ℕ) (own all : Option Coming) → all ≡ with_more own more (next_mark picked more) →
        next_of_run chosen n (es ++ more) all ≡ with_more (next_of_run chosen n es own) more (next_mark picked more)
    by_pick None n own all e = e
    by_pick (Some t) zero own all e = e
    by_pick (Some t) (suc n) own all e = refl
comes_behind picked (Tick n ∷ es) more = by_number n (next_mark picked es) (next_mark picked (es ++ more)) (comes_behind picked es more)
  where
    by_number : (n : ℕ) (own all : Option Coming) → all ≡ with_more own more (next_mark picked more) →
        next_of_tick n (es ++ more) all ≡ with_more (next_of_tick n es own) more (next_mark picked more)
    by_number zero own all e = e
    by_number (suc n) own all e = refl
comes_behind picked (Pass times picks ∷ es) more = by_number times (next_mark picked es) (next_mark picked (es ++ more)) (comes_behind picked es more)
  where
    by_number : (n : ℕ) (own all : Option Coming) → all ≡ with_more own more (next_mark picked more) →
        next_of_pass n picks (es ++ more) all ≡ with_more (next_of_pass n picks es own) more (next_mark picked more)
    by_number zero own all e = e
    by_number (suc n) own all e = refl
comes_behind picked (Turn t ∷ es) more = refl
comes_behind picked (State ∷ es) more = refl
comes_behind picked (Clock time ∷ es) more = refl
comes_behind picked (Irpt device ∷ es) more = refl
comes_behind picked (Chars device text ∷ es) more = refl
comes_behind picked (Line device text ∷ es) more = refl
comes_behind picked (Value device value ∷ es) more = refl

-- a task that is picked has offered
has_offered : (core : Core) (offers : Offered) (t : ℕ) → pick core offers ≡ Some t → offers t ≡ None → ⊥
has_offered core offers t e none = by_row (row_of core t) (offers t) none (picked core offers t e).eligible
  where
    by_mode : (mode : Mode) (offer : Option Action) → offer ≡ None → IsTrue (is_ready mode (is_possible core offer)) → ⊥
    by_mode Dormant offer none ready = cc
    by_mode (Active priority true) offer none ready = cc
    by_mode (Active priority false) None none ready = cc
    by_mode (Active priority false) (Some action) none ready = cc

    by_row : (row : Option TaskRow) (offer : Option Action) → offer ≡ None → IsTrue (is_ready_row row (is_possible core offer)) → ⊥
    by_row None offer none ready = cc
    by_row (Some row) offer none ready = by_mode row.mode offer none ready

-- the task that acts is the one that was picked
acts_picked : (picked : Option ℕ) (coming : Coming) (t : ℕ) → Comes picked coming → coming.mark ≡ Acts t → picked ≡ Some t
acts_picked picked coming t comes e =
    by_pick picked (subst (λ mark. next_mark picked (alone mark ∷ []) ≡ Some (record { mark = mark; rest = leftover mark })) e comes)
  where
    same_task : (u : ℕ) → Acts u ≡ Acts t → u ≡ t
    same_task u same = cc

    by_pick : (picked : Option ℕ) → next_mark picked (Run 1 ∷ []) ≡ Some (record { mark = Acts t; rest = Run 0 ∷ [] }) → picked ≡ Some t
    by_pick None h = absurd (none-some (record { mark = Acts t; rest = Run 0 ∷ [] }) h)
    by_pick (Some u) h =
        ap Some (same_task u (ap (λ c. c.mark) (same_Some (record { mark = Acts u; rest = Run 0 ∷ [] }) (record { mark = Acts t; rest = Run 0 ∷ [] }) h)))

module _ {S : Type 0} (engine : Engine S) where
  -- a mark is made alike, whatever entries the machine has, where a task that acts has offered
  makes : (m : Machine S) (before after left rest : List Entry) (mark : Mark) → ((t : ℕ) → mark ≡ Acts t → machine_offers m t ≡ None → ⊥) →
      with_entries (machine_mark engine (with_entries m before) mark after) rest ≡ machine_mark engine (with_entries m left) mark rest
  makes m before after left rest (Turns t) offered = refl
  makes m before after left rest Tells offered = refl
  makes m before after left rest Passes offered = refl
  makes m before after left rest (Arrives entry) offered = refl
  makes m before after left rest (Acts t) offered = by_kept (kept_at m.running t) (offered t refl)
    where
      by_offer : (running : Running S) (offer : Option Action) → (offer ≡ None → ⊥) →
          with_entries (machine_does engine (with_entries m before) t after running.stack offer) rest
          ≡ machine_does engine (with_entries m left) t rest running.stack offer
      by_offer running None some = absurd (some refl)
      by_offer running (Some action) some = refl

      by_kept : (kept : Option (Running S)) → (offer_of kept ≡ None → ⊥) →
          with_entries (machine_acts engine (with_entries m before) t after kept) rest ≡ machine_acts engine (with_entries m left) t rest kept
      by_kept None some = absurd (some refl)
      by_kept (Some running) some = by_offer running running.offer some

  -- the entry that makes the next mark alone makes it as it comes
  by_next : (h : Handing S) → unsettled h.machine ≡ None → (next : Option Coming) →
      next_mark (pick h.machine.core (machine_offers h.machine)) h.left ≡ next → at_once (handed engine h next) ≡ machine_mark_by engine (at_once h) next
  unfolding machine_step
  by_next h settled None e = refl
  by_next h settled (Some coming) e =
      let comes : Comes (pick h.machine.core (machine_offers h.machine)) coming = comes_alone (pick h.machine.core (machine_offers h.machine)) h.left coming e in
      ap (λ u. with_entries (machine_step_by engine (with_entries h.machine (alone coming.mark ∷ [])) u) coming.rest) settled
      ∙ ap (λ c. with_entries (machine_mark_by engine (with_entries h.machine (alone coming.mark ∷ [])) c) coming.rest) comes
      ∙ makes h.machine (alone coming.mark ∷ []) (leftover coming.mark) h.left coming.rest coming.mark
      (λ t acts none. has_offered h.machine.core (machine_offers h.machine) t
      (acts_picked (pick h.machine.core (machine_offers h.machine)) coming t comes acts) none)

  by_task : (h : Handing S) (task : Option (ℕ × S)) → unsettled h.machine ≡ task → at_once (handing_by engine h task) ≡ machine_step_by engine (at_once h) task
  unfolding machine_step
  by_task h (Some (t, stack)) e = ap (λ u. with_entries (machine_step_by engine h.machine u) h.left) e
  by_task h None e = by_next h e (next_mark (pick h.machine.core (machine_offers h.machine)) h.left) refl

  one_step : (h : Handing S) → at_once (handing_step engine h) ≡ machine_step engine (at_once h)
  unfolding machine_step
  one_step h = by_task h (unsettled h.machine) refl

  pub same_run : (h : Handing S) (n : ℕ) → at_once (handing_after engine h n) ≡ machine_after engine (at_once h) n
  same_run h zero = refl
  same_run h (suc n) = one_step (handing_after engine h n) ∙ ap (machine_step engine) (same_run h n)
