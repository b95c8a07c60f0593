-- Which marks come of a journal's entries, and what the marks of time and of what comes in do.
use Rattle.std.proofs.Common.{◌≡◌, ℕ, zero, suc, ◌+◌, List, ◌∷◌, Option, Some, None, refl, ap, subst, ◌∙◌, add-one, zero-add, arith}
use Rattle.pearl_rules.specs.declared.action.Answer.{Answer}
use Rattle.pearl_rules.specs.declared.entry.Entry.{Entry}
use Rattle.pearl_rules.specs.declared.entry.Entry.TheVariants.{Run, Tick, Pass, Clock, Irpt, Chars, Line, Value}
use Rattle.pearl_rules.specs.Plans.{millisecond}
use Rattle.pearl_rules.specs.Devices.{arrived}
use Rattle.pearl_rules.specs.Effect.{effect}
use Rattle.pearl_rules.specs.Pick.{pick, turned, showing}
use Rattle.pearl_rules.specs.Runs.{Acts, Turns, Tells, Passes, Arrives, Coming, next_mark, kept_at, Supplier, Source, source_offers, source_next, source_acts, source_mark, source_step, source_after}
use Rattle.pearl_rules.specs.Laws.{ComesIn, passed}
use Rattle.pearl_rules.proofs.Simulation.{step_source}
use Rattle.pearl_rules.proofs.RunLaws.{step-entries}

-- WHICH MARK COMES

-- the picked task acts
pub run_acts : (t n : ℕ) (rest : List Entry) → next_mark (Some t) (Run (n + 1) ∷ rest) ≡ Some (record { mark = Acts t; rest = Run n ∷ rest })
run_acts t n rest = ap (λ k. next_mark (Some t) (Run k ∷ rest)) (add-one n)

-- no pick is left
pub no_run : (picked : Option ℕ) (rest : List Entry) → next_mark picked (Run 0 ∷ rest) ≡ next_mark picked rest
no_run None rest = refl
no_run (Some t) rest = refl

-- a millisecond passes
pub tick_passes : (picked : Option ℕ) (n : ℕ) (rest : List Entry) →
    next_mark picked (Tick (n + 1) ∷ rest) ≡ Some (record { mark = Passes; rest = Tick n ∷ rest })
tick_passes picked n rest = ap (λ k. next_mark picked (Tick k ∷ rest)) (add-one n)

-- likewise for `pass`
pub pass_passes : (picked : Option ℕ) (times picks : ℕ) (rest : List Entry) →
    next_mark picked (Pass (times + 1) picks ∷ rest) ≡ Some (record { mark = Passes; rest = Run picks ∷ Pass times picks ∷ rest })
pass_passes picked times picks rest = ap (λ k. next_mark picked (Pass k picks ∷ rest)) (add-one times)

-- what comes in is one mark
pub one_mark : (picked : Option ℕ) (entry : Entry) (rest : List Entry) → ComesIn entry →
    next_mark picked (entry ∷ rest) ≡ Some (record { mark = Arrives entry; rest = rest })
one_mark picked (Clock time) rest comes = refl
one_mark picked (Irpt device) rest comes = refl
one_mark picked (Chars device text) rest comes = refl
one_mark picked (Line device text) rest comes = refl
one_mark picked (Value device x) rest comes = refl
one_mark picked entry rest comes = absurd comes

-- WHAT A MARK DOES

-- an action of a task that has heard these answers
pub step-acts : (offer : Supplier) (s : Source) (coming : Coming) (t : ℕ) (heard : List Answer) → source_next offer s ≡ Some coming →
    coming.mark ≡ Acts t → kept_at s.heard t ≡ Some heard → (source_step offer s).core ≡ (effect s.core t (offer t heard)).core
step-acts offer s coming t heard e is so_far =
    ap (λ x. x.core) (step_source offer s (Some coming) e)
    ∙ ap (λ mark. (source_mark offer s mark coming.rest).core) is
    ∙ ap (λ o. (source_acts offer s t coming.rest o).core) so_far

-- a turn
pub step-turns : (offer : Supplier) (s : Source) (coming : Coming) (t : ℕ) → source_next offer s ≡ Some coming → coming.mark ≡ Turns t →
    (source_step offer s).core ≡ turned s.core (source_offers offer s) t
step-turns offer s coming t e is =
    ap (λ x. x.core) (step_source offer s (Some coming) e) ∙ ap (λ mark. (source_mark offer s mark coming.rest).core) is

-- that the states are told
pub step-tells : (offer : Supplier) (s : Source) (coming : Coming) → source_next offer s ≡ Some coming → coming.mark ≡ Tells →
    (source_step offer s).core ≡ showing s.core (source_offers offer s)
step-tells offer s coming e is =
    ap (λ x. x.core) (step_source offer s (Some coming) e) ∙ ap (λ mark. (source_mark offer s mark coming.rest).core) is

-- a millisecond
pub step-passes : (offer : Supplier) (s : Source) (coming : Coming) → source_next offer s ≡ Some coming → coming.mark ≡ Passes →
    (source_step offer s).core ≡ millisecond s.core
step-passes offer s coming e is =
    ap (λ x. x.core) (step_source offer s (Some coming) e) ∙ ap (λ mark. (source_mark offer s mark coming.rest).core) is

-- what comes in
pub step-arrives : (offer : Supplier) (s : Source) (coming : Coming) (entry : Entry) → source_next offer s ≡ Some coming → coming.mark ≡ Arrives entry →
    (source_step offer s).core ≡ arrived s.core entry
step-arrives offer s coming entry e is =
    ap (λ x. x.core) (step_source offer s (Some coming) e) ∙ ap (λ mark. (source_mark offer s mark coming.rest).core) is

-- a state whose next entry is so many milliseconds
record Ticks (offer : Supplier) (s : Source) (n more : ℕ) (rest : List Entry) : Type 0 where
  core : (source_after offer s n).core ≡ passed n s.core
  entries : (source_after offer s n).entries ≡ Tick more ∷ rest

-- milliseconds pass one by one
ticks : (offer : Supplier) (s : Source) (n more : ℕ) (rest : List Entry) → s.entries ≡ Tick (n + more) ∷ rest → Ticks offer s n more rest
ticks offer s zero more rest e = record { core = refl; entries = subst (λ k. s.entries ≡ Tick k ∷ rest) (zero-add more) e }
ticks offer s (suc n) more rest e =
    let same : suc n + more ≡ n + suc more = omega arith in
    let before = ticks offer s n (suc more) rest (subst (λ k. s.entries ≡ Tick k ∷ rest) same e) in
    let here = source_after offer s n in
    let coming : Coming = record { mark = Passes; rest = Tick more ∷ rest } in
    let next : source_next offer here ≡ Some coming = ap (λ es. next_mark (pick here.core (source_offers offer here)) es) before.entries in
    record {
      core = step-passes offer here coming next refl ∙ ap (λ core. millisecond core) before.core;
      entries = step-entries offer here coming next;
    }

pub ticks_pass : (offer : Supplier) (s : Source) (n more : ℕ) (rest : List Entry) → s.entries ≡ Tick (n + more) ∷ rest →
    (source_after offer s n).core ≡ passed n s.core
ticks_pass offer s n more rest e = (ticks offer s n more rest e).core

pub ticks_leave : (offer : Supplier) (s : Source) (n more : ℕ) (rest : List Entry) → s.entries ≡ Tick (n + more) ∷ rest →
    (source_after offer s n).entries ≡ Tick more ∷ rest
ticks_leave offer s n more rest e = (ticks offer s n more rest e).entries
