-- The time that passes in a run is the time in its entries, and entries that fit one after the other lead past no moment but the last.
use Rattle.std.proofs.Common.{◌≡◌, ◌≢◌, ℕ, zero, suc, ◌+◌, ◌≤◌, List, [], ◌∷◌, ◌++◌, Bool, true, false, Option, Some, None, refl, sym, ap, subst, ◌∙◌, add-zero, zero-add, arith}
use Rattle.std.proofs.lemmas.Bool.{true≢false}
use Rattle.std.proofs.lemmas.Option.{none-some, same_Some}
use Rattle.arrayvec.specs.ArrayVec.{ArrayVec}
use Rattle.pearl_rules.specs.declared.action.Answer.{Answer}
use Rattle.pearl_rules.specs.declared.entry.Entry.{Entry}
use Rattle.pearl_rules.specs.declared.entry.Entry.TheVariants.{Clock, Run, Tick, Pass, Chars, Turn, State}
use Rattle.pearl_rules.specs.declared.setup.Setup.{Setup}
use Rattle.pearl_rules.specs.Entries.{last_moment_of_all, EntryFits, AreFitting, moment_after, FitFrom, FitInTurn, time_in}
use Rattle.pearl_rules.specs.Pick.{pick}
use Rattle.pearl_rules.specs.Runs.{Mark, Acts, Turns, Tells, Passes, Arrives, Coming, next_of_run, next_of_tick, next_of_pass, next_mark, kept_at, Supplier, Source, source_offers, source_next, source_acts, source_mark, source_step, source_run}
use Rattle.pearl_rules.proofs.EffectLaws.{leaves, millisecond-leaves}
use Rattle.pearl_rules.proofs.PickLaws.{turned-is}
use Rattle.pearl_rules.proofs.UrgencyLaws.{arrived-moment}
use Rattle.pearl_rules.proofs.Simulation.{step_source}
use Rattle.pearl_rules.proofs.RunLaws.{step-entries}

-- THE TIME IN ENTRIES

-- how many milliseconds pass by a mark
abbrev passing : Mark → ℕ
passing Passes = 1
passing mark = 0

-- the time in the entries is that which passes by the next mark and that in the others
abbrev SplitsTime : List Entry → Coming → Type 0
SplitsTime es coming = time_in es ≡ passing coming.mark + time_in coming.rest

next_time : (picked : Option ℕ) (es : List Entry) (coming : Coming) → next_mark picked es ≡ Some coming → SplitsTime es coming
next_time picked [] coming e = absurd (none-some coming e)
next_time picked (Run n ∷ es) coming e = by_pick picked n (next_mark picked es) (next_time picked es coming) e
  where
    by_pick : (chosen : Option ℕ) (n : ℕ) (later : Option Coming) → (later ≡ Some coming → SplitsTime es coming) →
        next_of_run chosen n es later ≡ Some coming → SplitsTime (Run n ∷ es) coming
    by_pick None n later go h = go h
    by_pick (Some t) zero later go h = go h
    by_pick (Some t) (suc n) later go h =
        subst (SplitsTime (Run (suc n) ∷ es)) (same_Some (record { mark = Acts t; rest = Run n ∷ es }) coming h) (sym (zero-add (time_in es)))
next_time picked (Tick n ∷ es) coming e = by_number n (next_mark picked es) (next_time picked es coming) e
  where
    by_number : (n : ℕ) (later : Option Coming) → (later ≡ Some coming → SplitsTime es coming) → next_of_tick n es later ≡ Some coming →
        SplitsTime (Tick n ∷ es) coming
    by_number zero later go h = zero-add (time_in es) ∙ go h
    by_number (suc n) later go h =
        subst (SplitsTime (Tick (suc n) ∷ es)) (same_Some (record { mark = Passes; rest = Tick n ∷ es }) coming h)
        (let one : suc n + time_in es ≡ 1 + (n + time_in es) = omega arith in one)
next_time picked (Pass times picks ∷ es) coming e = by_number times (next_mark picked es) (next_time picked es coming) e
  where
    by_number : (n : ℕ) (later : Option Coming) → (later ≡ Some coming → SplitsTime es coming) → next_of_pass n picks es later ≡ Some coming →
        SplitsTime (Pass n picks ∷ es) coming
    by_number zero later go h = zero-add (time_in es) ∙ go h
    by_number (suc n) later go h =
        subst (SplitsTime (Pass (suc n) picks ∷ es)) (same_Some (record { mark = Passes; rest = Run picks ∷ Pass n picks ∷ es }) coming h)
        (let one : suc n + time_in es ≡ 1 + (n + time_in es) = omega arith in one)
next_time picked (Turn t ∷ es) coming e =
    subst (SplitsTime (Turn t ∷ es)) (same_Some (record { mark = Turns t; rest = es }) coming e) (sym (zero-add (time_in es)))
next_time picked (State ∷ es) coming e =
    subst (SplitsTime (State ∷ es)) (same_Some (record { mark = Tells; rest = es }) coming e) (sym (zero-add (time_in es)))
next_time picked (entry ∷ es) coming e =
    subst (SplitsTime (entry ∷ es)) (same_Some (record { mark = Arrives entry; rest = es }) coming e) (sym (zero-add (time_in es)))

-- where no mark comes no time is left
none_time : (picked : Option ℕ) (es : List Entry) → next_mark picked es ≡ None → time_in es ≡ 0
none_time picked [] e = refl
none_time picked (Run n ∷ es) e = by_pick picked n (next_mark picked es) (none_time picked es) e
  where
    by_pick : (chosen : Option ℕ) (n : ℕ) (later : Option Coming) → (later ≡ None → time_in es ≡ 0) → next_of_run chosen n es later ≡ None →
        time_in es ≡ 0
    by_pick None n later go h = go h
    by_pick (Some t) zero later go h = go h
    by_pick (Some t) (suc n) later go h = absurd (none-some (record { mark = Acts t; rest = Run n ∷ es }) (sym h))
none_time picked (Tick n ∷ es) e = by_number n (next_mark picked es) (none_time picked es) e
  where
    by_number : (n : ℕ) (later : Option Coming) → (later ≡ None → time_in es ≡ 0) → next_of_tick n es later ≡ None → n + time_in es ≡ 0
    by_number zero later go h = zero-add (time_in es) ∙ go h
    by_number (suc n) later go h = absurd (none-some (record { mark = Passes; rest = Tick n ∷ es }) (sym h))
none_time picked (Pass times picks ∷ es) e = by_number times (next_mark picked es) (none_time picked es) e
  where
    by_number : (n : ℕ) (later : Option Coming) → (later ≡ None → time_in es ≡ 0) → next_of_pass n picks es later ≡ None → n + time_in es ≡ 0
    by_number zero later go h = zero-add (time_in es) ∙ go h
    by_number (suc n) later go h = absurd (none-some (record { mark = Passes; rest = Run picks ∷ Pass n picks ∷ es }) (sym h))
none_time picked (Turn t ∷ es) e = absurd (none-some (record { mark = Turns t; rest = es }) (sym e))
none_time picked (State ∷ es) e = absurd (none-some (record { mark = Tells; rest = es }) (sym e))
none_time picked (entry ∷ es) e = absurd (none-some (record { mark = Arrives entry; rest = es }) (sym e))

-- THE TIME OF A RUN

mark_moment : (offer : Supplier) (s : Source) (mark : Mark) (rest : List Entry) →
    (source_mark offer s mark rest).core.moment ≡ s.core.moment + passing mark
mark_moment offer s (Acts t) rest = by_heard (kept_at s.heard t)
  where
    by_heard : (o : Option (List Answer)) → (source_acts offer s t rest o).core.moment ≡ s.core.moment + 0
    by_heard None = sym (add-zero s.core.moment)
    by_heard (Some heard) = (leaves s.core t (offer t heard)).moment ∙ sym (add-zero s.core.moment)
mark_moment offer s (Turns t) rest = ap (λ c. c.moment) (turned-is s.core (source_offers offer s) t) ∙ sym (add-zero s.core.moment)
mark_moment offer s Tells rest = sym (add-zero s.core.moment)
mark_moment offer s Passes rest = (millisecond-leaves s.core).moment
mark_moment offer s (Arrives entry) rest = arrived-moment s.core entry ∙ sym (add-zero s.core.moment)

-- the moment and the time that is left
abbrev due : Source → ℕ
due s = s.core.moment + time_in s.entries

step_due : (offer : Supplier) (s : Source) → due (source_step offer s) ≡ due s
step_due offer s = by_next (source_next offer s) refl
  where
    by_next : (coming : Option Coming) → source_next offer s ≡ coming → due (source_step offer s) ≡ due s
    by_next None e = ap due (step_source offer s None e)
    by_next (Some coming) e =
        let moment : (source_step offer s).core.moment ≡ s.core.moment + passing coming.mark =
        ap (λ x. x.core.moment) (step_source offer s (Some coming) e) ∙ mark_moment offer s coming.mark coming.rest in
        let left : time_in (source_step offer s).entries ≡ time_in coming.rest = ap time_in (step-entries offer s coming e) in
        let before = next_time (pick s.core (source_offers offer s)) s.entries coming e in
        omega (arith, moment, left, before)

pub run_due : (offer : Supplier) (setup : Setup) (es : List Entry) (m : ℕ) →
    (source_run offer setup es m).core.moment + time_in (source_run offer setup es m).entries ≡ time_in es
run_due offer setup es zero = zero-add (time_in es)
run_due offer setup es (suc m) = step_due offer (source_run offer setup es m) ∙ run_due offer setup es m

pub ended_time : (offer : Supplier) (setup : Setup) (es : List Entry) (m : ℕ) → source_next offer (source_run offer setup es m) ≡ None →
    (source_run offer setup es m).core.moment ≡ time_in es
ended_time offer setup es m none =
    let s = source_run offer setup es m in
    let left = none_time (pick s.core (source_offers offer s)) s.entries none in
    let all = run_due offer setup es m in
    omega (arith, left, all)

-- ENTRIES THAT FIT ONE AFTER THE OTHER

fit_each : (setup : Setup) (is_first : Bool) (moment : ℕ) (es : List Entry) → FitFrom setup is_first moment es → AreFitting setup es
fit_each setup is_first moment [] fit = tt
fit_each setup is_first moment (entry ∷ es) fit = ((moment, fit.1), fit_each setup false (moment_after moment entry) es fit.2)

pub turn_fits : (setup : Setup) (es : List Entry) → FitInTurn setup es → AreFitting setup es
turn_fits setup es fit = fit_each setup true 0 es fit

-- no moment but the last is passed
after_time : (moment : ℕ) (entry : Entry) (es : List Entry) → moment_after moment entry + time_in es ≡ moment + time_in (entry ∷ es)
after_time moment (Tick n) es = let same : (moment + n) + time_in es ≡ moment + (n + time_in es) = omega arith in same
after_time moment (Pass times picks) es = let same : (moment + times) + time_in es ≡ moment + (times + time_in es) = omega arith in same
after_time moment entry es = refl

fits_near : (setup : Setup) (moment : ℕ) (entry : Entry) → EntryFits setup moment entry → moment ≤ last_moment_of_all →
    moment_after moment entry ≤ last_moment_of_all
fits_near setup moment (Tick n) fits near = fits
fits_near setup moment (Pass times picks) fits near = fits.0
fits_near setup moment entry fits near = near

time_from : (setup : Setup) (is_first : Bool) (moment : ℕ) (es : List Entry) → FitFrom setup is_first moment es → moment ≤ last_moment_of_all →
    moment + time_in es ≤ last_moment_of_all
time_from setup is_first moment [] fit near = omega (arith, near)
time_from setup is_first moment (entry ∷ es) fit near =
    subst (λ n. n ≤ last_moment_of_all) (after_time moment entry es)
    (time_from setup false (moment_after moment entry) es fit.2 (fits_near setup moment entry fit.1 near))

pub turn_time : (setup : Setup) (es : List Entry) → FitInTurn setup es → time_in es ≤ last_moment_of_all
turn_time setup es fit = let most = time_from setup true 0 es fit (omega arith) in omega (arith, most)

pub turn_moments : (offer : Supplier) (setup : Setup) (es : List Entry) (m : ℕ) → FitInTurn setup es →
    (source_run offer setup es m).core.moment ≤ last_moment_of_all
turn_moments offer setup es m fit = let all = run_due offer setup es m in let most = turn_time setup es fit in omega (arith, all, most)

-- the clock is set first
no_clock : (setup : Setup) (moment : ℕ) (front : List Entry) (time : ℕ) (rest : List Entry) → FitFrom setup false moment (front ++ Clock time ∷ rest) → ⊥
no_clock setup moment [] time rest fit = true≢false (sym fit.0)
no_clock setup moment (entry ∷ front) time rest fit = no_clock setup (moment_after moment entry) front time rest fit.2

pub turn_clock : (setup : Setup) (front : List Entry) (time : ℕ) (rest : List Entry) → FitInTurn setup (front ++ Clock time ∷ rest) → front ≡ []
turn_clock setup [] time rest fit = refl
turn_clock setup (entry ∷ front) time rest fit = absurd (no_clock setup (moment_after 0 entry) front time rest fit.2)

-- bytes come
some_bytes : (setup : Setup) (is_first : Bool) (moment : ℕ) (front : List Entry) (device : ℕ) (text : ArrayVec ℕ) (rest : List Entry) →
    FitFrom setup is_first moment (front ++ Chars device text ∷ rest) → text.items ≢ []
some_bytes setup is_first moment [] device text rest fit = fit.0
some_bytes setup is_first moment (entry ∷ front) device text rest fit = some_bytes setup false (moment_after moment entry) front device text rest fit.2

pub turn_bytes : (setup : Setup) (front : List Entry) (device : ℕ) (text : ArrayVec ℕ) (rest : List Entry) →
    FitInTurn setup (front ++ Chars device text ∷ rest) → text.items ≢ []
turn_bytes setup front device text rest fit = some_bytes setup true 0 front device text rest fit
