-- One mark of a machine, and the instructions behind it, whatever entries come.
use Rattle.std.proofs.Common.{◌≡◌, ◌≢◌, ℕ, zero, suc, ◌-◌, ◌<◌, ◌≤◌, ◌⊎◌, inl, inr, List, [], ◌∷◌, ◌++◌, true, false, Option, Some, None, IsTrue, refl, sym, ap, subst, ◌∙◌, append-nil, arith}
use Rattle.std.proofs.lemmas.Bool.{cases_lt}
use Rattle.std.proofs.lemmas.Option.{none-some, same_Some}
use Rattle.pearl_rules.specs.declared.action.Action.{Action}
use Rattle.pearl_rules.specs.declared.entry.Entry.{Entry}
use Rattle.pearl_rules.specs.declared.entry.Entry.TheVariants.{Clock, Run, Tick, Pass, Irpt, Chars, Line, Value, Turn, State}
use Rattle.pearl_rules.specs.declared.row.Mode.{Mode}
use Rattle.pearl_rules.specs.declared.row.Mode.TheVariants.{Dormant, Active}
use Rattle.pearl_rules.specs.declared.row.TaskRow.{TaskRow}
use Rattle.pearl_rules.specs.Core.{Core, Report, row_of}
use Rattle.pearl_rules.specs.Pick.{Offered, is_ready, is_ready_row, is_possible, pick}
use Rattle.pearl_rules.specs.Runs.{Mark, Acts, Turns, Tells, Passes, Arrives, Coming, Running, Machine, offer_of, kept_at, next_mark, machine_offers, machine_does, machine_acts, machine_mark, machine_step, machine_after, unsettled}
use Rattle.pearl_rules.proofs.Offered.{picked as picked-task}
use Rattle.pearl_stack.specs.Frames.{Frame}
use Rattle.pearl_instructions.specs.declared.object.Parts.{Parts as Object}
use Rattle.pearl_instructions.specs.Engines.{engine}
use Rattle.pearl_machine.specs.Seen.{Seen, Goes, Handles, at, picked}
use Rattle.pearl_machine.specs.Marked.{MakesOne, MakesNone}
use Rattle.pearl_machine.proofs.Going.{picked_told}
use Rattle.pearl_machine.proofs.Steps.{step_of_task, step_of_mark}

-- INSTRUCTIONS ALONE

abbrev with_entries : Machine (List Frame) → List Entry → Machine (List Frame)
with_entries m es = record m { entries = es }

-- instructions alone lead from one machine to the other
record GoesSilently (o : Object) (from to : Machine (List Frame)) : Type 0 where
  steps : ℕ
  is : machine_after (engine o) from steps ≡ to
  each : (i : ℕ) → i < steps → unsettled (machine_after (engine o) from i) ≢ None

-- one more of them
one_more : (o : Object) (from to next : Machine (List Frame)) (task : ℕ × List Frame) → GoesSilently o from to → unsettled to ≡ Some task →
    machine_step (engine o) to ≡ next → GoesSilently o from next
one_more o from to next task goes first step = record {
  steps = suc goes.steps;
  is = ap (machine_step (engine o)) goes.is ∙ step;
  each = λ i less. by_place i less (cases_lt i goes.steps);
}
  where
    by_place : (i : ℕ) → i < suc goes.steps → (i < goes.steps) ⊎ (goes.steps ≤ i) → unsettled (machine_after (engine o) from i) ≢ None
    by_place i less (inl before) = goes.each i before
    by_place i less (inr last) = λ none.
        let e : i ≡ goes.steps = omega (arith, less, last) in
        none-some task (sym none ∙ (ap (λ n. unsettled (machine_after (engine o) from n)) e ∙ (ap unsettled goes.is ∙ first)))

-- Where no mark comes of the entries that a machine has, it makes instructions alone, and the same ones with other entries.
module _ (o : Object) (m : Machine (List Frame)) (none : (p : Option ℕ) → next_mark p m.entries ≡ None) (es : List Entry) where
  record Stays (n : ℕ) : Type 0 where
    goes : GoesSilently o (with_entries m es) (with_entries (machine_after (engine o) m n) es)
    same : (machine_after (engine o) m n).entries ≡ m.entries

  -- after one step more
  stays_on : (n : ℕ) → Stays n → Stays (suc n)
  stays_on n so_far = by_task (unsettled here) refl
    where
      here : Machine (List Frame)
      here = machine_after (engine o) m n

      by_task : (task : Option (ℕ × List Frame)) → unsettled here ≡ task → Stays (suc n)
      by_task (Some (t, stack)) is =
          let step = step_of_task (engine o) here t stack is in
          record {
            goes = one_more o (with_entries m es) (with_entries here es) _ (t, stack) so_far.goes is
                (step_of_task (engine o) (with_entries here es) t stack is ∙ sym (ap (λ x. with_entries x es) step));
            same = ap (λ (x : Machine (List Frame)). x.entries) step ∙ so_far.same;
          }
      by_task None is =
          let who = pick here.core (machine_offers here) in
          let step : machine_step (engine o) here ≡ here = step_of_mark (engine o) here None is (ap (next_mark who) so_far.same ∙ none who) in
          record {
            goes = subst (λ x. GoesSilently o (with_entries m es) (with_entries x es)) (sym step) so_far.goes;
            same = ap (λ (x : Machine (List Frame)). x.entries) step ∙ so_far.same;
          }

  beside : (n : ℕ) → Stays n
  beside zero = record { goes = record { steps = 0; is = refl; each = λ i less. absurd (omega (arith, less)) }; same = refl }
  beside (suc n) = stays_on n (beside n)

some_then : (n : ℕ) → (n ≡ 0 → ⊥) → n ≡ suc (n - 1)
some_then zero some = absurd (some refl)
some_then (suc n) some = omega arith

-- a step and then steps
first_then : (o : Object) (m : Machine (List Frame)) (n : ℕ) → machine_after (engine o) m (suc n) ≡ machine_after (engine o) (machine_step (engine o) m) n
first_then o m zero = refl
first_then o m (suc n) = ap (machine_step (engine o)) (first_then o m n)

-- A MARK

-- the task of an action is picked
abbrev IsPicked : Option ℕ → Mark → Type 0
IsPicked p (Acts t) = p ≡ Some t
IsPicked p other = Unit {0}

made : (p : Option ℕ) (one other : Coming) → IsPicked p one.mark → Some one ≡ Some other → IsPicked p other.mark
made p one other is e = subst (λ c. IsPicked p c.mark) (same_Some one other e) is

picks : (p : Option ℕ) (entry : Entry) (coming : Coming) → next_mark p (entry ∷ []) ≡ Some coming → IsPicked p coming.mark
picks p (Run n) coming e = by_pick p n e
  where
    by_pick : (p : Option ℕ) (n : ℕ) → next_mark p (Run n ∷ []) ≡ Some coming → IsPicked p coming.mark
    by_pick None n h = absurd (none-some coming h)
    by_pick (Some t) zero h = absurd (none-some coming h)
    by_pick (Some t) (suc n) h = made (Some t) (record { mark = Acts t; rest = Run n ∷ [] }) coming refl h
picks p (Tick n) coming e = by_number n e
  where
    by_number : (n : ℕ) → next_mark p (Tick n ∷ []) ≡ Some coming → IsPicked p coming.mark
    by_number zero h = absurd (none-some coming h)
    by_number (suc n) h = made p (record { mark = Passes; rest = Tick n ∷ [] }) coming tt h
picks p (Pass times runs) coming e = by_number times e
  where
    by_number : (n : ℕ) → next_mark p (Pass n runs ∷ []) ≡ Some coming → IsPicked p coming.mark
    by_number zero h = absurd (none-some coming h)
    by_number (suc n) h = made p (record { mark = Passes; rest = Run runs ∷ Pass n runs ∷ [] }) coming tt h
picks p (Turn t) coming e = made p (record { mark = Turns t; rest = [] }) coming tt e
picks p State coming e = made p (record { mark = Tells; rest = [] }) coming tt e
picks p (Clock time) coming e = made p (record { mark = Arrives (Clock time); rest = [] }) coming tt e
picks p (Irpt device) coming e = made p (record { mark = Arrives (Irpt device); rest = [] }) coming tt e
picks p (Chars device text) coming e = made p (record { mark = Arrives (Chars device text); rest = [] }) coming tt e
picks p (Line device text) coming e = made p (record { mark = Arrives (Line device text); rest = [] }) coming tt e
picks p (Value device x) coming e = made p (record { mark = Arrives (Value device x); rest = [] }) coming tt e

-- a task that is picked has offered
has_offered : (core : Core) (offers : Offered) (t : ℕ) → pick core offers ≡ Some t → offers t ≡ None → ⊥
has_offered core offers t e none = by_row (row_of core t) (offers t) none (picked-task core offers t e).eligible
  where
    by_mode : (mode : Mode) (offer : Option Action) → offer ≡ None → IsTrue (is_ready mode (is_possible core offer)) → ⊥
    by_mode Dormant offer none ready = cc
    by_mode (Active priority true) offer none ready = cc
    by_mode (Active priority false) None none ready = cc
    by_mode (Active priority false) (Some action) none ready = cc

    by_row : (row : Option TaskRow) (offer : Option Action) → offer ≡ None → IsTrue (is_ready_row row (is_possible core offer)) → ⊥
    by_row None offer none ready = cc
    by_row (Some row) offer none ready = by_mode row.mode offer none ready

-- a mark is made alike, whatever entries come
alike : (o : Object) (m : Machine (List Frame)) (mark : Mark) → IsPicked (pick m.core (machine_offers m)) mark → (es rest : List Entry) →
    machine_mark (engine o) (with_entries m es) mark rest ≡ with_entries (machine_mark (engine o) m mark []) rest
alike o m (Turns t) is es rest = refl
alike o m Tells is es rest = refl
alike o m Passes is es rest = refl
alike o m (Arrives entry) is es rest = refl
alike o m (Acts t) is es rest = by_kept (kept_at m.running t) (has_offered m.core (machine_offers m) t is)
  where
    by_offer : (running : Running (List Frame)) (offer : Option Action) → (offer ≡ None → ⊥) →
        machine_does (engine o) (with_entries m es) t rest running.stack offer ≡ with_entries (machine_does (engine o) m t [] running.stack offer) rest
    by_offer running None some = absurd (some refl)
    by_offer running (Some action) some = refl

    by_kept : (kept : Option (Running (List Frame))) → (offer_of kept ≡ None → ⊥) →
        machine_acts (engine o) (with_entries m es) t rest kept ≡ with_entries (machine_acts (engine o) m t [] kept) rest
    by_kept None some = absurd (some refl)
    by_kept (Some running) some = by_offer running running.offer some

-- AN ENTRY OF ONE MARK

module _ (old new : Seen) (entry : Entry) (mark : Mark) (over : List Entry) (told : List (ℕ × Report)) (settled : unsettled old.state ≡ None)
    (comes : next_mark (picked old) (entry ∷ []) ≡ Some (record { mark = mark; rest = over })) (last : (other : Option ℕ) → next_mark other over ≡ None)
    (handles : Handles old (entry ∷ []) [] new told) (before : List (ℕ × Report)) where
  -- the mark, where these entries come and those are left
  step_is : (es rest : List Entry) → next_mark (picked old) es ≡ Some (record { mark = mark; rest = rest }) →
      machine_step (engine old.object) (at old before es) ≡ with_entries (machine_mark (engine old.object) (at old before []) mark []) rest
  step_is es rest next =
      step_of_mark (engine old.object) (at old before es) (Some (record { mark = mark; rest = rest })) settled
      (ap (λ p. next_mark p es) (picked_told old before) ∙ next)
      ∙ alike old.object (at old before []) mark
      (subst (λ p. IsPicked p mark) (sym (picked_told old before)) (picks (picked old) entry (record { mark = mark; rest = over }) comes)) es rest

  goes : Goes old before (entry ∷ []) [] new told
  goes = handles before (entry ∷ []) [] (λ p known. refl)

  -- the mark is one of the steps
  some_steps : goes.steps ≡ 0 → ⊥
  some_steps e =
      let same : at old before (entry ∷ []) ≡ at new (before ++ told) goes.left =
      ap (λ n. machine_after (engine old.object) (at old before (entry ∷ [])) n) (sym e) ∙ goes.is in
      let who : picked new ≡ picked old =
      sym (picked_told new (before ++ told)) ∙ (sym (ap (λ (m : Machine (List Frame)). pick m.core (machine_offers m)) same) ∙ picked_told old before) in
      none-some _ (sym (goes.same (picked new) (λ e. refl)) ∙ (ap (next_mark (picked new)) (sym (ap (λ (m : Machine (List Frame)). m.entries) same))
      ∙ (ap (λ p. next_mark p (entry ∷ [])) who ∙ comes)))

  pub makes_one : (entries left : List Entry) → next_mark (picked old) entries ≡ Some (record { mark = mark; rest = left }) →
      MakesOne old new told before entries left
  makes_one entries left next =
      let marked = machine_mark (engine old.object) (at old before []) mark [] in
      let n : ℕ = goes.steps - 1 in
      let count : goes.steps ≡ suc n = some_then goes.steps some_steps in
      let after : machine_after (engine old.object) (with_entries marked over) n ≡ at new (before ++ told) goes.left =
      ap (λ m. machine_after (engine old.object) m n) (sym (step_is (entry ∷ []) over comes))
      ∙ (sym (first_then old.object (at old before (entry ∷ [])) n)
      ∙ (ap (λ k. machine_after (engine old.object) (at old before (entry ∷ [])) k) (sym count) ∙ goes.is)) in
      let silent = (beside old.object (with_entries marked over) last left n).goes in
      let first = step_is entries left next in
      record {
        offered = settled;
        mark = mark;
        comes = next;
        settling = silent.steps;
        is = first_then old.object (at old before entries) silent.steps
            ∙ (ap (λ m. machine_after (engine old.object) m silent.steps) first ∙ (silent.is ∙ ap (λ m. with_entries m left) after));
        each = λ i less none. silent.each i less
            (sym (ap (λ m. unsettled (machine_after (engine old.object) m i)) first) ∙ (sym (ap unsettled (first_then old.object (at old before entries) i)) ∙ none));
      }

-- no entry
pub makes_none : (old new : Seen) → Handles old [] [] new [] → (before : List (ℕ × Report)) (entries : List Entry) → MakesNone old new before entries
makes_none old new handles before entries =
    let goes = handles before [] [] (λ p known. refl) in
    let silent = (beside old.object (at old before []) (λ p. refl) entries goes.steps).goes in
    record {
      settling = silent.steps;
      is = silent.is ∙ (ap (λ m. with_entries m entries) goes.is ∙ ap (λ told. at new told entries) (append-nil before));
      each = silent.each;
    }
