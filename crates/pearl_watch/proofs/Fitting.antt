-- Entries of one mark fit where those fit that they are cut from, and fewer marks are left behind each.
use Rattle.std.proofs.Common.{◌≡◌, ℕ, zero, suc, ◌+◌, ◌*◌, ◌<◌, ◌^◌, List, [], ◌∷◌, Option, Some, None, refl, sym, subst, arith}
use Rattle.std.proofs.lemmas.Option.{none-some, same_Some}
use Rattle.pearl_rules.specs.declared.entry.Entry.{Entry}
use Rattle.pearl_rules.specs.declared.entry.Entry.TheVariants.{Clock, Run, Tick, Pass, Irpt, Chars, Line, Value, Turn, State}
use Rattle.pearl_rules.specs.declared.setup.Setup.{Setup}
use Rattle.pearl_rules.specs.Entries.{EntryFits, moment_after, time_in}
use Rattle.pearl_rules.specs.Runs.{Acts, Turns, Tells, Passes, Arrives, Coming, next_of_run, next_of_tick, next_of_pass, next_mark}
use Rattle.pearl_watch.specs.Marks.{alone}

-- each of these entries fits at the moment to which those before it lead
abbrev pub FitOn : Setup → (moment : ℕ) → List Entry → Type 0
FitOn setup moment [] = Unit {0}
FitOn setup moment (entry ∷ es) = EntryFits setup moment entry × FitOn setup (moment_after moment entry) es

-- the most marks that these entries make
abbrev pub most_marks : List Entry → ℕ
most_marks [] = 0
most_marks (Run n ∷ es) = n + most_marks es
most_marks (Tick n ∷ es) = n + most_marks es
most_marks (Pass times picks ∷ es) = times * suc picks + most_marks es
most_marks (entry ∷ es) = suc (most_marks es)

-- The entry that makes the next mark alone fits, and leads to the moment at which those behind it fit; they make fewer marks, and the
-- time is the same.
pub record Cuts (setup : Setup) (moment : ℕ) (es : List Entry) (coming : Coming) : Type 0 where
  pub fits : EntryFits setup moment (alone coming.mark)
  pub rest : FitOn setup (moment_after moment (alone coming.mark)) coming.rest
  pub fewer : most_marks coming.rest < most_marks es
  pub time : moment_after moment (alone coming.mark) + time_in coming.rest ≡ moment + time_in es

along : (setup : Setup) (moment : ℕ) (es : List Entry) (one other : Coming) → Cuts setup moment es one → Some one ≡ Some other → Cuts setup moment es other
along setup moment es one other cuts e = subst (Cuts setup moment es) (same_Some one other e) cuts

pub cuts : (setup : Setup) (moment : ℕ) (picked : Option ℕ) (es : List Entry) (coming : Coming) → FitOn setup moment es → next_mark picked es ≡ Some coming →
    Cuts setup moment es coming
cuts setup moment picked [] coming fit e = absurd (none-some coming e)
cuts setup moment picked (Run n ∷ es) coming fit e = by_pick picked n (next_mark picked es) fit.0 (λ h. cuts setup moment picked es coming fit.1 h) e
  where
    dropped : (n : ℕ) → Cuts setup moment es coming → Cuts setup moment (Run n ∷ es) coming
    dropped n c = record { fits = c.fits; rest = c.rest; fewer = let less = c.fewer in omega (arith, less); time = c.time }

    by_pick : (picked : Option ℕ) (n : ℕ) (later : Option Coming) → n < 2 ^ 63 → (later ≡ Some coming → Cuts setup moment es coming) →
        next_of_run picked n es later ≡ Some coming → Cuts setup moment (Run n ∷ es) coming
    by_pick None n later few go h = dropped n (go h)
    by_pick (Some t) zero later few go h = dropped zero (go h)
    by_pick (Some t) (suc n) later few go h =
        along setup moment (Run (suc n) ∷ es) (record { mark = Acts t; rest = Run n ∷ es }) coming
        (record { fits = omega arith; rest = (omega (arith, few), fit.1); fewer = omega arith; time = refl }) h
cuts setup moment picked (Tick n ∷ es) coming fit e = by_number n (next_mark picked es) fit (λ again h. cuts setup moment picked es coming again h) e
  where
    by_number : (n : ℕ) (later : Option Coming) → FitOn setup moment (Tick n ∷ es) → (FitOn setup moment es → later ≡ Some coming → Cuts setup moment es coming) →
        next_of_tick n es later ≡ Some coming → Cuts setup moment (Tick n ∷ es) coming
    by_number zero later fit go h =
        let c = go (subst (λ m. FitOn setup m es) (omega arith) fit.1) h in
        record { fits = c.fits; rest = c.rest; fewer = let less = c.fewer in omega (arith, less); time = let same = c.time in omega (arith, same) }
    by_number (suc n) later fit go h =
        let late = fit.0 in
        along setup moment (Tick (suc n) ∷ es) (record { mark = Passes; rest = Tick n ∷ es }) coming
        (record {
          fits = omega (arith, late);
          rest = (omega (arith, late), subst (λ m. FitOn setup m es) (omega arith) fit.1);
          fewer = omega arith;
          time = omega arith;
        }) h
cuts setup moment picked (Pass times picks ∷ es) coming fit e = by_number times (next_mark picked es) fit (λ again h. cuts setup moment picked es coming again h) e
  where
    by_number : (n : ℕ) (later : Option Coming) → FitOn setup moment (Pass n picks ∷ es) → (FitOn setup moment es → later ≡ Some coming → Cuts setup moment es coming) →
        next_of_pass n picks es later ≡ Some coming → Cuts setup moment (Pass n picks ∷ es) coming
    by_number zero later fit go h =
        let c = go (subst (λ m. FitOn setup m es) (omega arith) fit.1) h in
        record { fits = c.fits; rest = c.rest; fewer = let less = c.fewer in omega (arith, less); time = let same = c.time in omega (arith, same) }
    by_number (suc n) later fit go h =
        let late = fit.0.0 in
        let few = fit.0.1 in
        along setup moment (Pass (suc n) picks ∷ es) (record { mark = Passes; rest = Run picks ∷ Pass n picks ∷ es }) coming
        (record {
          fits = omega (arith, late);
          rest = (few, ((omega (arith, late), few), subst (λ m. FitOn setup m es) (omega arith) fit.1));
          fewer = omega arith;
          time = omega arith;
        }) h
cuts setup moment picked (Turn t ∷ es) coming fit e =
    along setup moment (Turn t ∷ es) (record { mark = Turns t; rest = es }) coming (record { fits = fit.0; rest = fit.1; fewer = omega arith; time = refl }) e
cuts setup moment picked (State ∷ es) coming fit e =
    along setup moment (State ∷ es) (record { mark = Tells; rest = es }) coming (record { fits = fit.0; rest = fit.1; fewer = omega arith; time = refl }) e
cuts setup moment picked (Clock time ∷ es) coming fit e =
    along setup moment (Clock time ∷ es) (record { mark = Arrives (Clock time); rest = es }) coming (record { fits = fit.0; rest = fit.1; fewer = omega arith; time = refl }) e
cuts setup moment picked (Irpt device ∷ es) coming fit e =
    along setup moment (Irpt device ∷ es) (record { mark = Arrives (Irpt device); rest = es }) coming (record { fits = fit.0; rest = fit.1; fewer = omega arith; time = refl }) e
cuts setup moment picked (Chars device text ∷ es) coming fit e =
    along setup moment (Chars device text ∷ es) (record { mark = Arrives (Chars device text); rest = es }) coming (record { fits = fit.0; rest = fit.1; fewer = omega arith; time = refl }) e
cuts setup moment picked (Line device text ∷ es) coming fit e =
    along setup moment (Line device text ∷ es) (record { mark = Arrives (Line device text); rest = es }) coming (record { fits = fit.0; rest = fit.1; fewer = omega arith; time = refl }) e
cuts setup moment picked (Value device value ∷ es) coming fit e =
    along setup moment (Value device value ∷ es) (record { mark = Arrives (Value device value); rest = es }) coming (record { fits = fit.0; rest = fit.1; fewer = omega arith; time = refl }) e

-- no time is left where no mark comes
pub no_time : (picked : Option ℕ) (es : List Entry) → next_mark picked es ≡ None → time_in es ≡ 0
no_time picked [] e = refl
no_time picked (Run n ∷ es) e = by_pick picked n (next_mark picked es) (no_time picked es) e
  where
    by_pick : (picked : Option ℕ) (n : ℕ) (later : Option Coming) → (later ≡ None → time_in es ≡ 0) → next_of_run picked n es later ≡ None → time_in es ≡ 0
    by_pick None n later go h = go h
    by_pick (Some t) zero later go h = go h
    by_pick (Some t) (suc n) later go h = absurd (none-some _ (sym h))
no_time picked (Tick n ∷ es) e = by_number n (next_mark picked es) (no_time picked es) e
  where
    by_number : (n : ℕ) (later : Option Coming) → (later ≡ None → time_in es ≡ 0) → next_of_tick n es later ≡ None → n + time_in es ≡ 0
    by_number zero later go h = let none = go h in omega (arith, none)
    by_number (suc n) later go h = absurd (none-some _ (sym h))
no_time picked (Pass times picks ∷ es) e = by_number times (next_mark picked es) (no_time picked es) e
  where
    by_number : (n : ℕ) (later : Option Coming) → (later ≡ None → time_in es ≡ 0) → next_of_pass n picks es later ≡ None → n + time_in es ≡ 0
    by_number zero later go h = let none = go h in omega (arith, none)
    by_number (suc n) later go h = absurd (none-some _ (sym h))
no_time picked (Turn t ∷ es) e = absurd (none-some _ (sym e))
no_time picked (State ∷ es) e = absurd (none-some _ (sym e))
no_time picked (Clock time ∷ es) e = absurd (none-some _ (sym e))
no_time picked (Irpt device ∷ es) e = absurd (none-some _ (sym e))
no_time picked (Chars device text ∷ es) e = absurd (none-some _ (sym e))
no_time picked (Line device text ∷ es) e = absurd (none-some _ (sym e))
no_time picked (Value device value ∷ es) e = absurd (none-some _ (sym e))

-- the moment behind an entry, by the time that it lets pass
pub moment_of : (moment : ℕ) (entry : Entry) → moment_after moment entry ≡ moment + time_in (entry ∷ [])
moment_of moment (Tick n) = omega arith
moment_of moment (Pass times picks) = omega arith
moment_of moment (Run n) = omega arith
moment_of moment (Turn t) = omega arith
moment_of moment State = omega arith
moment_of moment (Clock time) = omega arith
moment_of moment (Irpt device) = omega arith
moment_of moment (Chars device text) = omega arith
moment_of moment (Line device text) = omega arith
moment_of moment (Value device value) = omega arith
