-- Every run comes to an end, and what was told stays told.
use Rattle.std.proofs.Common.{◌≡◌, ℕ, zero, suc, ◌+◌, ◌-◌, ◌*◌, ◌<◌, ◌≤◌, ◌⊎◌, inl, inr, List, [], ◌∷◌, ◌++◌, true, false, Option, Some, None, IsTrue, refl, sym, ap, subst, ◌∙◌, add-zero, add-suc, zero-add, suc-mul, append-nil, append_assoc, arith}
use Rattle.std.proofs.lemmas.Bool.{cases_lt}
use Rattle.std.proofs.lemmas.Option.{none-some, same_Some}
use Rattle.pearl_rules.specs.declared.action.Answer.{Answer}
use Rattle.pearl_rules.specs.declared.entry.Entry.{Entry}
use Rattle.pearl_rules.specs.declared.entry.Entry.TheVariants.{Run, Tick, Pass, Turn, State}
use Rattle.pearl_rules.specs.declared.row.Mode.{Mode}
use Rattle.pearl_rules.specs.declared.row.Mode.TheVariants.{Dormant, Active}
use Rattle.pearl_rules.specs.declared.row.TaskRow.{TaskRow}
use Rattle.pearl_rules.specs.declared.setup.Setup.{Setup}
use Rattle.pearl_rules.specs.Core.{Report, first_events, row_of}
use Rattle.pearl_rules.specs.Pick.{is_possible, is_ready, is_ready_row, pick, states}
use Rattle.pearl_rules.specs.Runs.{Mark, Acts, Turns, Tells, Passes, Arrives, Coming, next_of_run, next_of_tick, next_of_pass, next_mark, kept_at, mapped, Supplier, Source, source_offers, source_next, source_acts, source_mark, source_step_by, source_step, source_start, source_after, source_run}
use Rattle.pearl_rules.specs.Laws.{EndsTelling}
use Rattle.pearl_rules.proofs.PickLaws.{picked, turned-is}
use Rattle.pearl_rules.proofs.EffectLaws.{effect-told, millisecond-told, arrived-told}
use Rattle.pearl_rules.proofs.Simulation.{step_source}
use Rattle.pearl_rules.proofs.EndLaws.{stays_to}

-- EVERY RUN ENDS

-- how many marks the entries ask for
abbrev pub marks_left : List Entry → ℕ
marks_left [] = 0
marks_left (Run n ∷ es) = n + marks_left es
marks_left (Tick n ∷ es) = n + marks_left es
marks_left (Pass times picks ∷ es) = times * suc picks + marks_left es
marks_left (entry ∷ es) = suc (marks_left es)

-- the mark that comes leaves fewer, and where a task acts it is the picked one
pub record Takes (chosen : Option ℕ) (es : List Entry) (coming : Coming) : Type 0 where
  pub is_chosen : (t : ℕ) → coming.mark ≡ Acts t → chosen ≡ Some t
  pub fewer : marks_left coming.rest < marks_left es

-- a mark of the later entries leaves fewer of all
takes_later : (chosen : Option ℕ) (first : Entry) (es : List Entry) (coming : Coming) → Takes chosen es coming → Takes chosen (first ∷ es) coming
takes_later chosen (Run n) es coming takes = let fewer = takes.fewer in record { is_chosen = takes.is_chosen; fewer = omega arith }
takes_later chosen (Tick n) es coming takes = let fewer = takes.fewer in record { is_chosen = takes.is_chosen; fewer = omega arith }
takes_later chosen (Pass times picks) es coming takes =
    let fewer = takes.fewer in
    let before : marks_left es ≤ times * suc picks + marks_left es = omega arith in
    record { is_chosen = takes.is_chosen; fewer = omega (arith, fewer, before) }
takes_later chosen first es coming takes = let fewer = takes.fewer in record { is_chosen = takes.is_chosen; fewer = omega arith }

-- a task acts by a mark of its own
same_task : (t u : ℕ) → Acts t ≡ Acts u → t ≡ u
same_task t u e = cc

-- each mark leaves fewer
pub next_takes : (chosen : Option ℕ) (es : List Entry) (coming : Coming) → next_mark chosen es ≡ Some coming → Takes chosen es coming
next_takes chosen [] coming e = absurd (none-some coming e)
next_takes chosen (Run n ∷ es) coming e = by_pick chosen n (next_mark chosen es) (λ h. next_takes chosen es coming h) e
  where
    by_pick : (picked : Option ℕ) (n : ℕ) (later : Option Coming) → (later ≡ Some coming → Takes picked es coming) →
        next_of_run picked n es later ≡ Some coming → Takes picked (Run n ∷ es) coming
    by_pick None n later go h = takes_later None (Run n) es coming (go h)
    by_pick (Some t) zero later go h = takes_later (Some t) (Run zero) es coming (go h)
    by_pick (Some t) (suc n) later go h =
        subst (λ c. Takes (Some t) (Run (suc n) ∷ es) c) (same_Some (record { mark = Acts t; rest = Run n ∷ es }) coming h)
        (record { is_chosen = λ u same. ap Some (same_task t u same); fewer = omega arith })
next_takes chosen (Tick n ∷ es) coming e = by_number n (next_mark chosen es) (next_takes chosen es coming) e
  where
    by_number : (n : ℕ) (later : Option Coming) → (later ≡ Some coming → Takes chosen es coming) → next_of_tick n es later ≡ Some coming →
        Takes chosen (Tick n ∷ es) coming
    by_number zero later go h = takes_later chosen (Tick zero) es coming (go h)
    by_number (suc n) later go h =
        subst (λ c. Takes chosen (Tick (suc n) ∷ es) c) (same_Some (record { mark = Passes; rest = Tick n ∷ es }) coming h)
        (record { is_chosen = λ u same. let no : ⊥ = cc in absurd no; fewer = omega arith })
next_takes chosen (Pass times picks ∷ es) coming e = by_number times (next_mark chosen es) (next_takes chosen es coming) e
  where
    by_number : (n : ℕ) (later : Option Coming) → (later ≡ Some coming → Takes chosen es coming) → next_of_pass n picks es later ≡ Some coming →
        Takes chosen (Pass n picks ∷ es) coming
    by_number zero later go h = takes_later chosen (Pass zero picks) es coming (go h)
    by_number (suc n) later go h =
        let product : suc n * suc picks ≡ n * suc picks + suc picks = suc-mul n (suc picks) in
        subst (λ c. Takes chosen (Pass (suc n) picks ∷ es) c) (same_Some (record { mark = Passes; rest = Run picks ∷ Pass n picks ∷ es }) coming h)
        (record { is_chosen = λ u same. let no : ⊥ = cc in absurd no; fewer = omega arith })
next_takes chosen (Turn t ∷ es) coming e =
    subst (λ c. Takes chosen (Turn t ∷ es) c) (same_Some (record { mark = Turns t; rest = es }) coming e)
    (record { is_chosen = λ u same. let no : ⊥ = cc in absurd no; fewer = omega arith })
next_takes chosen (State ∷ es) coming e =
    subst (λ c. Takes chosen (State ∷ es) c) (same_Some (record { mark = Tells; rest = es }) coming e)
    (record { is_chosen = λ u same. let no : ⊥ = cc in absurd no; fewer = omega arith })
next_takes chosen (entry ∷ es) coming e =
    subst (λ c. Takes chosen (entry ∷ es) c) (same_Some (record { mark = Arrives entry; rest = es }) coming e)
    (record { is_chosen = λ u same. let no : ⊥ = cc in absurd no; fewer = omega arith })

-- a task whose action can't be done now isn't ready
not_ready : (mode : Mode) → IsTrue (is_ready mode false) → ⊥
not_ready Dormant h = cc
not_ready (Active priority true) h = cc
not_ready (Active priority false) h = cc

-- the same of its row
not_ready_row : (row : Option TaskRow) → IsTrue (is_ready_row row false) → ⊥
not_ready_row None h = cc
not_ready_row (Some row) h = not_ready row.mode h

-- an eligible task acts, so that the entries after its mark are what remains
acts-entries : (offer : Supplier) (s : Source) (t : ℕ) (rest : List Entry) (heard : Option (List Answer)) →
    IsTrue (is_ready_row (row_of s.core t) (is_possible s.core (mapped (offer t) heard))) → (source_acts offer s t rest heard).entries ≡ rest
acts-entries offer s t rest None ready = absurd (not_ready_row (row_of s.core t) ready)
acts-entries offer s t rest (Some so_far) ready = refl

-- after a mark the entries after it are what remains
pub step-entries : (offer : Supplier) (s : Source) (coming : Coming) → source_next offer s ≡ Some coming → (source_step offer s).entries ≡ coming.rest
step-entries offer s coming e = ap (λ x. x.entries) (step_source offer s (Some coming) e) ∙ by_mark coming.mark refl
  where
    takes : Takes (pick s.core (source_offers offer s)) s.entries coming
    takes = next_takes (pick s.core (source_offers offer s)) s.entries coming e

    by_mark : (mark : Mark) → coming.mark ≡ mark → (source_mark offer s mark coming.rest).entries ≡ coming.rest
    by_mark (Acts t) is =
        acts-entries offer s t coming.rest (kept_at s.heard t) (picked s.core (source_offers offer s) t (takes.is_chosen t is)).eligible
    by_mark (Turns t) is = refl
    by_mark Tells is = refl
    by_mark Passes is = refl
    by_mark (Arrives entry) is = refl

-- and they ask for fewer marks
step_fewer : (offer : Supplier) (s : Source) (coming : Coming) → source_next offer s ≡ Some coming →
    marks_left (source_step offer s).entries < marks_left s.entries
step_fewer offer s coming e =
    subst (λ es. marks_left es < marks_left s.entries) (sym (step-entries offer s coming e))
    (next_takes (pick s.core (source_offers offer s)) s.entries coming e).fewer

-- a run that is at an end
abbrev End : Supplier → Source → Type 0
End offer s = (m : ℕ) × (source_next offer (source_after offer s m) ≡ None)

-- after m marks there was an end, or m marks fewer remain
ends_or_falls : (offer : Supplier) (s : Source) (m : ℕ) → End offer s ⊎ (marks_left (source_after offer s m).entries + m ≤ marks_left s.entries)
ends_or_falls offer s zero = inr (omega arith)
ends_or_falls offer s (suc m) = by_before (ends_or_falls offer s m)
  where
    here : Source
    here = source_after offer s m

    by_next : marks_left here.entries + m ≤ marks_left s.entries → (coming : Option Coming) → source_next offer here ≡ coming →
        End offer s ⊎ (marks_left (source_step offer here).entries + suc m ≤ marks_left s.entries)
    by_next falls None e = inl (m, e)
    by_next falls (Some coming) e = let fewer = step_fewer offer here coming e in inr (omega arith)

    by_before : End offer s ⊎ (marks_left here.entries + m ≤ marks_left s.entries) →
        End offer s ⊎ (marks_left (source_step offer here).entries + suc m ≤ marks_left s.entries)
    by_before (inl end) = inl end
    by_before (inr falls) = by_next falls (source_next offer here) refl

-- every run over a journal's entries ends
pub source_ends : (offer : Supplier) (setup : Setup) (es : List Entry) → (m : ℕ) × (source_next offer (source_run offer setup es m) ≡ None)
source_ends offer setup es = by_fall (ends_or_falls offer (source_start setup es) (suc (marks_left es)))
  where
    by_fall : End offer (source_start setup es) ⊎ (marks_left (source_run offer setup es (suc (marks_left es))).entries + suc (marks_left es) ≤ marks_left es) →
        End offer (source_start setup es)
    by_fall (inl end) = end
    by_fall (inr falls) = absurd (omega arith)

-- WHAT WAS TOLD STAYS

-- what `after` has told begins with what `before` has told
abbrev TellsOn : Source → Source → Type 0
TellsOn before after = (more : List (ℕ × Report)) × (after.core.told ≡ before.core.told ++ more)

-- where nothing changed nothing more was told
tells_same : (s : Source) → TellsOn s s
tells_same s = ([], sym (append-nil s.core.told))

-- one after the other
tells_both : (s : Source) (t : Source) (u : Source) → TellsOn s t → TellsOn t u → TellsOn s u
tells_both s t u first second =
    (first.0 ++ second.0, second.1 ∙ ap (λ told. told ++ second.0) first.1 ∙ append_assoc s.core.told first.0 second.0)

-- a task's action tells after what was told
acts_tell : (offer : Supplier) (s : Source) (t : ℕ) (rest : List Entry) (heard : Option (List Answer)) → TellsOn s (source_acts offer s t rest heard)
acts_tell offer s t rest None = tells_same s
acts_tell offer s t rest (Some so_far) = effect-told s.core t (offer t so_far)

-- and so does a mark
mark_tells : (offer : Supplier) (s : Source) (mark : Mark) (rest : List Entry) → TellsOn s (source_mark offer s mark rest)
mark_tells offer s (Acts t) rest = acts_tell offer s t rest (kept_at s.heard t)
mark_tells offer s (Turns t) rest = ([], ap (λ core. core.told) (turned-is s.core (source_offers offer s) t) ∙ sym (append-nil s.core.told))
mark_tells offer s Tells rest = (states s.core (source_offers offer s), refl)
mark_tells offer s Passes rest = millisecond-told s.core
mark_tells offer s (Arrives entry) rest = arrived-told s.core entry

-- and a step, with a mark or without
step_tells : (offer : Supplier) (s : Source) → TellsOn s (source_step offer s)
step_tells offer s = subst (λ after. TellsOn s after) (sym (step_source offer s (source_next offer s) refl)) (by_next (source_next offer s))
  where
    by_next : (coming : Option Coming) → TellsOn s (source_step_by offer s coming)
    by_next None = tells_same s
    by_next (Some coming) = mark_tells offer s coming.mark coming.rest

-- and any number of steps
after_tells : (offer : Supplier) (s : Source) (m k : ℕ) → TellsOn (source_after offer s m) (source_after offer s (m + k))
after_tells offer s m zero = subst (λ j. TellsOn (source_after offer s m) (source_after offer s j)) (sym (add-zero m)) (tells_same (source_after offer s m))
after_tells offer s m (suc k) =
    subst (λ j. TellsOn (source_after offer s m) (source_after offer s j)) (sym (add-suc m k))
    (tells_both (source_after offer s m) (source_after offer s (m + k)) (source_step offer (source_after offer s (m + k)))
    (after_tells offer s m k) (step_tells offer (source_after offer s (m + k))))

-- later marks only tell more
pub tells_more : (offer : Supplier) (setup : Setup) (es : List Entry) (m k : ℕ) →
    (more : List (ℕ × Report)) × ((source_run offer setup es (m + k)).core.told ≡ (source_run offer setup es m).core.told ++ more)
tells_more offer setup es m k = after_tells offer (source_start setup es) m k

-- a run comes to an end at which all that was told after any number of marks stands first
pub last_tells : (offer : Supplier) (setup : Setup) (es : List Entry) (m : ℕ) → EndsTelling offer setup es m
last_tells offer setup es m = by_order (cases_lt end.0 m)
  where
    end : (n : ℕ) × (source_next offer (source_run offer setup es n) ≡ None)
    end = source_ends offer setup es

    by_order : (end.0 < m) ⊎ (m ≤ end.0) → EndsTelling offer setup es m
    by_order (inl before) =
        let same = stays_to offer (source_start setup es) end.0 m (omega arith) end.1 in
        record {
          last = end.0;
          no_mark = end.1;
          more = [];
          told = ap (λ s. s.core.told) (sym same) ∙ sym (append-nil (source_run offer setup es m).core.told);
        }
    by_order (inr up) =
        let same : m + (end.0 - m) ≡ end.0 = omega arith in
        let on = subst (λ n. TellsOn (source_run offer setup es m) (source_run offer setup es n)) same (tells_more offer setup es m (end.0 - m)) in
        record { last = end.0; no_mark = end.1; more = on.0; told = on.1 }

-- HOW A RUN OPENS

-- at its start a run has told the starts of the MAIN tasks
pub opens_at_start : (offer : Supplier) (setup : Setup) (es : List Entry) → (source_run offer setup es 0).core.told ≡ first_events 0 setup.tasks
opens_at_start offer setup es = refl

-- and whatever it has told later begins with those
pub opens_with : (offer : Supplier) (setup : Setup) (es : List Entry) (m : ℕ) →
    (more : List (ℕ × Report)) × ((source_run offer setup es m).core.told ≡ first_events 0 setup.tasks ++ more)
opens_with offer setup es m = subst (λ n. TellsOn (source_start setup es) (source_run offer setup es n)) (zero-add m) (tells_more offer setup es 0 m)
