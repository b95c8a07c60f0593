-- The end of a run, and runs over a journal's first entries.
use Rattle.std.proofs.Common.{◌≡◌, ◌≢◌, ℕ, zero, suc, ◌+◌, ◌-◌, ◌<◌, ◌≤◌, ◌⊎◌, inl, inr, List, [], ◌∷◌, ◌++◌, Option, Some, None, refl, sym, ap, ap₂, subst, ◌∙◌, add-zero, add-suc, arith}
use Rattle.std.proofs.Math.Path.{fun_ext}
use Rattle.std.proofs.lemmas.Bool.{cases_lt}
use Rattle.std.proofs.lemmas.Option.{none-some, same_Some}
use Rattle.pearl_rules.specs.declared.action.Action.{Action}
use Rattle.pearl_rules.specs.declared.action.Answer.{Answer}
use Rattle.pearl_rules.specs.declared.entry.Entry.{Entry}
use Rattle.pearl_rules.specs.declared.entry.Entry.TheVariants.{Run, Tick, Pass, Turn, State}
use Rattle.pearl_rules.specs.declared.setup.Setup.{Setup}
use Rattle.pearl_rules.specs.Entries.{AreFitting}
use Rattle.pearl_rules.specs.Pick.{pick}
use Rattle.pearl_rules.specs.Runs.{Mark, Acts, Turns, Tells, Passes, Arrives, Coming, next_of_run, next_of_tick, next_of_pass, next_mark, kept_at, Supplier, Source, source_offers, source_next, source_acts, source_mark, source_step, source_start, source_after, source_run, Engine, Running, Machine, machine_offers, machine_next, machine_does, machine_acts, machine_mark, machine_step, machine_run, marks_in_step, marked, unsettled, told_at_end}
use Rattle.pearl_rules.specs.Faithful.{IsFaithful}
use Rattle.pearl_rules.specs.Laws.{HasEnded, EndsAlike, Comes, IsBeforeEnd, with_more, machine_with_more}
use Rattle.pearl_rules.proofs.Simulation.{step_silent, step_mark, step_source, marks_silent, marks_mark}

-- where the machine is at its end, so is the source, and both tell the same
pub ends_alike : (offer : Supplier) {S : Type 0} (engine : Engine S) (setup : Setup) (count rows : ℕ) → IsFaithful offer engine setup count rows →
    (es : List Entry) → AreFitting setup es → (n : ℕ) → HasEnded engine setup es n → EndsAlike offer engine setup es n
ends_alike offer engine setup count rows faithful es fits n has_ended = record {
  ended = sym same_next ∙ has_ended.no_mark;
  same_told = ap₂ (λ core o. told_at_end core o) (faithful.same_core es fits n) same_offers;
  same_moment = ap (λ core. core.moment) (faithful.same_core es fits n);
}
  where
    source : Source
    source = source_run offer setup es (marked engine setup es n)

    same_offers : machine_offers (machine_run engine setup es n) ≡ source_offers offer source
    same_offers = fun_ext (faithful.all_offers es fits n has_ended.settled)

    same_next : machine_next (machine_run engine setup es n) ≡ source_next offer source
    same_next =
        ap₂ (λ core entries. next_mark (pick core (machine_offers (machine_run engine setup es n))) entries) (faithful.same_core es fits n) (faithful.same_entries es fits n)
        ∙ ap (λ o. next_mark (pick source.core o) source.entries) same_offers

-- where no mark comes a step changes nothing
stays_one : (offer : Supplier) (s : Source) → source_next offer s ≡ None → source_step offer s ≡ s
stays_one offer s e = step_source offer s None e

-- a run that is at its end stays there
stays : (offer : Supplier) (s : Source) (m : ℕ) → source_next offer (source_after offer s m) ≡ None → (k : ℕ) →
    source_after offer s (m + k) ≡ source_after offer s m
stays offer s m e zero = ap (λ j. source_after offer s j) (add-zero m)
stays offer s m e (suc k) =
    let before = stays offer s m e k in
    ap (λ j. source_after offer s j) (add-suc m k) ∙ ap (λ x. source_step offer x) before ∙ stays_one offer (source_after offer s m) e

-- the same for any later number of marks
pub stays_to : (offer : Supplier) (s : Source) (m n : ℕ) → m ≤ n → source_next offer (source_after offer s m) ≡ None →
    source_after offer s n ≡ source_after offer s m
stays_to offer s m n h e =
    let same : n ≡ m + (n - m) = omega arith in
    ap (λ j. source_after offer s j) same ∙ stays offer s m e (n - m)

-- a run has one last state
pub one_end : (offer : Supplier) (setup : Setup) (es : List Entry) (m n : ℕ) → source_next offer (source_run offer setup es m) ≡ None →
    source_next offer (source_run offer setup es n) ≡ None → source_run offer setup es m ≡ source_run offer setup es n
one_end offer setup es m n e f = by_order (cases_lt m n)
  where
    by_order : (m < n) ⊎ (n ≤ m) → source_run offer setup es m ≡ source_run offer setup es n
    by_order (inl less) = sym (stays_to offer (source_start setup es) m n (omega arith) e)
    by_order (inr up) = stays_to offer (source_start setup es) n m up f

-- where a mark comes after m marks, each of the marks before came
pub came : (offer : Supplier) (setup : Setup) (es : List Entry) (m : ℕ) → source_next offer (source_run offer setup es m) ≢ None →
    Comes offer setup es (suc m)
came offer setup es m next k h e =
    next (subst (λ s. source_next offer s ≡ None) (sym (stays_to offer (source_start setup es) k m (omega arith) e)) e)

-- the number of marks after which a run is at its end for the first time
pub record FirstEnd (offer : Supplier) (setup : Setup) (es : List Entry) (m : ℕ) : Type 0 where
  pub at : ℕ
  pub within : at ≤ m
  pub comes : Comes offer setup es at
  pub same : source_run offer setup es at ≡ source_run offer setup es m

-- a run that is at its end came there by marks alone
pub first_end : (offer : Supplier) (setup : Setup) (es : List Entry) (m : ℕ) → FirstEnd offer setup es m
first_end offer setup es zero = record { at = 0; within = omega arith; comes = λ k h. let no : ⊥ = omega arith in absurd no; same = refl }
first_end offer setup es (suc m) = by_next (first_end offer setup es m) (source_next offer (source_run offer setup es m)) refl
  where
    by_next : FirstEnd offer setup es m → (coming : Option Coming) → source_next offer (source_run offer setup es m) ≡ coming → FirstEnd offer setup es (suc m)
    by_next first None e =
        let h = first.within in
        record { at = first.at; within = omega arith; comes = first.comes; same = first.same ∙ sym (stays_one offer (source_run offer setup es m) e) }
    by_next first (Some coming) e =
        record { at = suc m; within = omega arith; comes = came offer setup es m (λ none. none-some coming (sym none ∙ e)); same = refl }

-- more entries after the first ones leave the next mark as it is, where one comes
pub next-more : (picked : Option ℕ) (es more : List Entry) (coming : Coming) → next_mark picked es ≡ Some coming →
    next_mark picked (es ++ more) ≡ Some (record { mark = coming.mark; rest = coming.rest ++ more })
next-more picked [] more coming e = absurd (none-some coming e)
next-more picked (Run n ∷ es) more coming e = by_pick picked n (next_mark picked es) (next_mark picked (es ++ more)) (next-more picked es more coming) e
  where
    by_pick : (chosen : Option ℕ) (n : ℕ) (later longer : Option Coming) →
        (later ≡ Some coming → longer ≡ Some (record { mark = coming.mark; rest = coming.rest ++ more })) → next_of_run chosen n es later ≡ Some coming →
        next_of_run chosen n (es ++ more) longer ≡ Some (record { mark = coming.mark; rest = coming.rest ++ more })
    by_pick None n later longer go h = go h
    by_pick (Some t) zero later longer go h = go h
    by_pick (Some t) (suc n) later longer go h =
        ap (λ c. Some (record { mark = c.mark; rest = c.rest ++ more })) (same_Some (record { mark = Acts t; rest = Run n ∷ es }) coming h)
next-more picked (Tick n ∷ es) more coming e = by_number n (next_mark picked es) (next_mark picked (es ++ more)) (next-more picked es more coming) e
  where
    by_number : (n : ℕ) (later longer : Option Coming) →
        (later ≡ Some coming → longer ≡ Some (record { mark = coming.mark; rest = coming.rest ++ more })) → next_of_tick n es later ≡ Some coming →
        next_of_tick n (es ++ more) longer ≡ Some (record { mark = coming.mark; rest = coming.rest ++ more })
    by_number zero later longer go h = go h
    by_number (suc n) later longer go h =
        ap (λ c. Some (record { mark = c.mark; rest = c.rest ++ more })) (same_Some (record { mark = Passes; rest = Tick n ∷ es }) coming h)
next-more picked (Pass times picks ∷ es) more coming e =
    by_number times (next_mark picked es) (next_mark picked (es ++ more)) (next-more picked es more coming) e
  where
    by_number : (n : ℕ) (later longer : Option Coming) →
        (later ≡ Some coming → longer ≡ Some (record { mark = coming.mark; rest = coming.rest ++ more })) → next_of_pass n picks es later ≡ Some coming →
        next_of_pass n picks (es ++ more) longer ≡ Some (record { mark = coming.mark; rest = coming.rest ++ more })
    by_number zero later longer go h = go h
    by_number (suc n) later longer go h =
        ap (λ c. Some (record { mark = c.mark; rest = c.rest ++ more }))
        (same_Some (record { mark = Passes; rest = Run picks ∷ Pass n picks ∷ es }) coming h)
next-more picked (Turn t ∷ es) more coming e =
    ap (λ c. Some (record { mark = c.mark; rest = c.rest ++ more })) (same_Some (record { mark = Turns t; rest = es }) coming e)
next-more picked (State ∷ es) more coming e =
    ap (λ c. Some (record { mark = c.mark; rest = c.rest ++ more })) (same_Some (record { mark = Tells; rest = es }) coming e)
next-more picked (entry ∷ es) more coming e =
    ap (λ c. Some (record { mark = c.mark; rest = c.rest ++ more })) (same_Some (record { mark = Arrives entry; rest = es }) coming e)

-- first entries of which no mark comes leave the next mark to those after them
pub next-none : (picked : Option ℕ) (es more : List Entry) → next_mark picked es ≡ None → next_mark picked (es ++ more) ≡ next_mark picked more
next-none picked [] more e = refl
next-none picked (Run n ∷ es) more e = by_pick picked n (next_mark picked es) (next_mark picked (es ++ more)) (next-none picked es more) e
  where
    by_pick : (chosen : Option ℕ) (n : ℕ) (later longer : Option Coming) → (later ≡ None → longer ≡ next_mark picked more) →
        next_of_run chosen n es later ≡ None → next_of_run chosen n (es ++ more) longer ≡ next_mark picked more
    by_pick None n later longer go h = go h
    by_pick (Some t) zero later longer go h = go h
    by_pick (Some t) (suc n) later longer go h = absurd (none-some (record { mark = Acts t; rest = Run n ∷ es }) (sym h))
next-none picked (Tick n ∷ es) more e = by_number n (next_mark picked es) (next_mark picked (es ++ more)) (next-none picked es more) e
  where
    by_number : (n : ℕ) (later longer : Option Coming) → (later ≡ None → longer ≡ next_mark picked more) →
        next_of_tick n es later ≡ None → next_of_tick n (es ++ more) longer ≡ next_mark picked more
    by_number zero later longer go h = go h
    by_number (suc n) later longer go h = absurd (none-some (record { mark = Passes; rest = Tick n ∷ es }) (sym h))
next-none picked (Pass times picks ∷ es) more e =
    by_number times (next_mark picked es) (next_mark picked (es ++ more)) (next-none picked es more) e
  where
    by_number : (n : ℕ) (later longer : Option Coming) → (later ≡ None → longer ≡ next_mark picked more) →
        next_of_pass n picks es later ≡ None → next_of_pass n picks (es ++ more) longer ≡ next_mark picked more
    by_number zero later longer go h = go h
    by_number (suc n) later longer go h = absurd (none-some (record { mark = Passes; rest = Run picks ∷ Pass n picks ∷ es }) (sym h))
next-none picked (Turn t ∷ es) more e = absurd (none-some (record { mark = Turns t; rest = es }) (sym e))
next-none picked (State ∷ es) more e = absurd (none-some (record { mark = Tells; rest = es }) (sym e))
next-none picked (entry ∷ es) more e = absurd (none-some (record { mark = Arrives entry; rest = es }) (sym e))

-- a task's action is done alike before more entries
acts-more : (offer : Supplier) (s : Source) (more : List Entry) (t : ℕ) (rest : List Entry) (heard : Option (List Answer)) →
    source_acts offer (with_more s more) t (rest ++ more) heard ≡ with_more (source_acts offer s t rest heard) more
acts-more offer s more t rest None = refl
acts-more offer s more t rest (Some so_far) = refl

-- and so is a mark
mark-more : (offer : Supplier) (s : Source) (more : List Entry) (mark : Mark) (rest : List Entry) →
    source_mark offer (with_more s more) mark (rest ++ more) ≡ with_more (source_mark offer s mark rest) more
mark-more offer s more (Acts t) rest = acts-more offer s more t rest (kept_at s.heard t)
mark-more offer s more (Turns t) rest = refl
mark-more offer s more Tells rest = refl
mark-more offer s more Passes rest = refl
mark-more offer s more (Arrives entry) rest = refl

-- a mark that comes is made alike before more entries
step-more : (offer : Supplier) (s : Source) (more : List Entry) → source_next offer s ≢ None →
    source_step offer (with_more s more) ≡ with_more (source_step offer s) more
step-more offer s more next = by_next (source_next offer s) refl
  where
    by_next : (coming : Option Coming) → source_next offer s ≡ coming → source_step offer (with_more s more) ≡ with_more (source_step offer s) more
    by_next None e = absurd (next e)
    by_next (Some coming) e =
        let longer = next-more (pick s.core (source_offers offer s)) s.entries more coming e in
        step_source offer (with_more s more) (Some (record { mark = coming.mark; rest = coming.rest ++ more })) longer
        ∙ mark-more offer s more coming.mark coming.rest
        ∙ ap (λ x. with_more x more) (sym (step_source offer s (Some coming) e))

-- the run over a journal begins with the run over its first entries, for as long as marks come of those
pub goes_alike : (offer : Supplier) (setup : Setup) (es more : List Entry) (m : ℕ) → Comes offer setup es m →
    source_run offer setup (es ++ more) m ≡ with_more (source_run offer setup es m) more
goes_alike offer setup es more zero comes = refl
goes_alike offer setup es more (suc m) comes =
    ap (λ s. source_step offer s) (goes_alike offer setup es more m (λ k h. comes k (omega arith)))
    ∙ step-more offer (source_run offer setup es m) more (comes m (omega arith))

-- the machine does a task's action alike before more entries
does-more : {S : Type 0} (engine : Engine S) (m : Machine S) (more : List Entry) (t : ℕ) (rest : List Entry) (stack : S) (offered : Option Action) →
    machine_does engine (machine_with_more m more) t (rest ++ more) stack offered ≡ machine_with_more (machine_does engine m t rest stack offered) more
does-more engine m more t rest stack None = refl
does-more engine m more t rest stack (Some action) = refl

-- whatever the task has offered
machine_acts-more : {S : Type 0} (engine : Engine S) (m : Machine S) (more : List Entry) (t : ℕ) (rest : List Entry) (running : Option (Running S)) →
    machine_acts engine (machine_with_more m more) t (rest ++ more) running ≡ machine_with_more (machine_acts engine m t rest running) more
machine_acts-more engine m more t rest None = refl
machine_acts-more engine m more t rest (Some running) = does-more engine m more t rest running.stack running.offer

-- and so is a mark
machine_mark-more : {S : Type 0} (engine : Engine S) (m : Machine S) (more : List Entry) (mark : Mark) (rest : List Entry) →
    machine_mark engine (machine_with_more m more) mark (rest ++ more) ≡ machine_with_more (machine_mark engine m mark rest) more
machine_mark-more engine m more (Acts t) rest = machine_acts-more engine m more t rest (kept_at m.running t)
machine_mark-more engine m more (Turns t) rest = refl
machine_mark-more engine m more Tells rest = refl
machine_mark-more engine m more Passes rest = refl
machine_mark-more engine m more (Arrives entry) rest = refl

-- a machine's step before its end, with more entries to come: the same step, and the same count of marks
record StepsAlike {S : Type 0} (engine : Engine S) (m : Machine S) (more : List Entry) : Type 0 where
  same_step : machine_step engine (machine_with_more m more) ≡ machine_with_more (machine_step engine m) more
  same_marks : marks_in_step (machine_with_more m more) ≡ marks_in_step m

machine_step-more : {S : Type 0} (engine : Engine S) (m : Machine S) (more : List Entry) → (unsettled m ≡ None → machine_next m ≡ None → ⊥) →
    StepsAlike engine m more
machine_step-more {S} engine m more before = by_unsettled (unsettled m) refl
  where
    by_next : unsettled m ≡ None → (coming : Option Coming) → machine_next m ≡ coming → StepsAlike engine m more
    by_next e None next = absurd (before e next)
    by_next e (Some coming) next =
        let longer = next-more (pick m.core (machine_offers m)) m.entries more coming next in
        let later : Coming = record { mark = coming.mark; rest = coming.rest ++ more } in
        record {
          same_step = step_mark engine (machine_with_more m more) (Some later) e longer
              ∙ machine_mark-more engine m more coming.mark coming.rest
              ∙ ap (λ x. machine_with_more x more) (sym (step_mark engine m (Some coming) e next));
          same_marks = marks_mark (machine_with_more m more) (Some later) e longer ∙ sym (marks_mark m (Some coming) e next);
        }

    by_unsettled : (x : Option (ℕ × S)) → unsettled m ≡ x → StepsAlike engine m more
    by_unsettled None e = by_next e (machine_next m) refl
    by_unsettled (Some x) e = record {
      same_step = step_silent engine (machine_with_more m more) x.0 x.1 e ∙ ap (λ y. machine_with_more y more) (sym (step_silent engine m x.0 x.1 e));
      same_marks = marks_silent (machine_with_more m more) x e ∙ sym (marks_silent m x e);
    }

-- the machine's run over a journal begins with the run over its first entries, until that is at its end
pub machine_goes_alike : {S : Type 0} (engine : Engine S) (setup : Setup) (es more : List Entry) (n : ℕ) → IsBeforeEnd engine setup es n →
    machine_run engine setup (es ++ more) n ≡ machine_with_more (machine_run engine setup es n) more
machine_goes_alike engine setup es more zero before = refl
machine_goes_alike engine setup es more (suc n) before =
    ap (λ m. machine_step engine m) (machine_goes_alike engine setup es more n (λ k h. before k (omega arith)))
    ∙ (machine_step-more engine (machine_run engine setup es n) more (λ e f. before n (omega arith) (record { settled = e; no_mark = f }))).same_step

-- with the same count of marks
pub marked_alike : {S : Type 0} (engine : Engine S) (setup : Setup) (es more : List Entry) (n : ℕ) → IsBeforeEnd engine setup es n →
    marked engine setup (es ++ more) n ≡ marked engine setup es n
marked_alike engine setup es more zero before = refl
marked_alike engine setup es more (suc n) before =
    let fewer : IsBeforeEnd engine setup es n = λ k h. before k (omega arith) in
    let same = ap (λ m. marks_in_step m) (machine_goes_alike engine setup es more n fewer)
    ∙ (machine_step-more engine (machine_run engine setup es n) more (λ e f. before n (omega arith) (record { settled = e; no_mark = f }))).same_marks in
    ap₂ (λ j k. j + k) (marked_alike engine setup es more n fewer) same
