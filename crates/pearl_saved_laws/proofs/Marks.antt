-- What the next mark of some entries leaves of them.
use Rattle.std.proofs.Common.{◌≡◌, ℕ, zero, suc, ◌+◌, ◌*◌, ◌<◌, ◌≤◌, List, [], ◌∷◌, Option, Some, None, ap, subst}
use Rattle.std.proofs.Common.{suc-mul, arith}
use Rattle.std.proofs.lemmas.Option.{none-some, same_Some}
use Rattle.pearl_rules.specs.declared.entry.Entry.{Entry}
use Rattle.pearl_rules.specs.declared.entry.Entry.TheVariants.{Run, Tick, Pass, Turn, State}
use Rattle.pearl_rules.specs.declared.setup.Setup.{Setup}
use Rattle.pearl_rules.specs.Entries.{IsFitting, AreFitting}
use Rattle.pearl_rules.specs.Runs.{Mark, Acts, Turns, Tells, Passes, Arrives, Coming, next_of_run, next_of_tick}
use Rattle.pearl_rules.specs.Runs.{next_of_pass, next_mark}

-- how many marks the entries ask for
abbrev pub marks_left : List Entry → ℕ
marks_left [] = 0
marks_left (Run n ∷ es) = n + marks_left es
marks_left (Tick n ∷ es) = n + marks_left es
marks_left (Pass times picks ∷ es) = times * suc picks + marks_left es
marks_left (entry ∷ es) = suc (marks_left es)

-- what comes in by a mark fits
abbrev pub FitsMark : Setup → Mark → Type 0
FitsMark setup (Arrives entry) = IsFitting setup entry
FitsMark setup mark = Unit {0}

-- the mark that comes fits, and so does what it leaves, which asks for fewer; where a task acts it is the picked one
pub record Takes (setup : Setup) (picked : Option ℕ) (es : List Entry) (coming : Coming) : Type 0 where
  pub chosen : (t : ℕ) → coming.mark ≡ Acts t → picked ≡ Some t
  pub fewer : marks_left coming.rest < marks_left es
  pub mark : FitsMark setup coming.mark
  pub rest : AreFitting setup coming.rest

-- a mark of the later entries leaves fewer of all
later : (setup : Setup) (picked : Option ℕ) (first : Entry) (es : List Entry) (coming : Coming) →
    Takes setup picked es coming → Takes setup picked (first ∷ es) coming
later setup picked first es coming takes = record {
  chosen = takes.chosen;
  fewer = less first (marks_left coming.rest) takes.fewer;
  mark = takes.mark;
  rest = takes.rest;
}
  where
    less : (first : Entry) (n : ℕ) → n < marks_left es → n < marks_left (first ∷ es)
    less (Run k) n h = omega (arith, h)
    less (Tick k) n h = omega (arith, h)
    less (Pass times picks) n h =
        let before : marks_left es ≤ times * suc picks + marks_left es = omega arith in omega (arith, h, before)
    less first n h = omega (arith, h)

same_task : (t u : ℕ) → Acts t ≡ Acts u → t ≡ u
same_task t u e = cc

-- a mark at which no task acts
alone : (setup : Setup) (picked : Option ℕ) (first : Entry) (es rest : List Entry) (mark : Mark) (coming : Coming) →
    ((t : ℕ) → mark ≡ Acts t → ⊥) → marks_left rest < marks_left (first ∷ es) → FitsMark setup mark →
    AreFitting setup rest →
    Some (record { mark = mark; rest = rest }) ≡ Some coming → Takes setup picked (first ∷ es) coming
alone setup picked first es rest mark coming idle fewer fits fit e =
    subst (Takes setup picked (first ∷ es)) (same_Some (record { mark = mark; rest = rest }) coming e)
    (record { chosen = λ t is. absurd (idle t is); fewer = fewer; mark = fits; rest = fit })

run_takes : (setup : Setup) (picked : Option ℕ) (n : ℕ) (es : List Entry) (coming : Coming) (next : Option Coming) →
    IsFitting setup (Run n) → AreFitting setup es → (next ≡ Some coming → Takes setup picked es coming) →
    next_of_run picked n es next ≡ Some coming → Takes setup picked (Run n ∷ es) coming
run_takes setup None n es coming next first fit go e = later setup None (Run n) es coming (go e)
run_takes setup (Some t) zero es coming next first fit go e = later setup (Some t) (Run zero) es coming (go e)
run_takes setup (Some t) (suc n) es coming next first fit go e =
    let less = first.1 in
    subst (Takes setup (Some t) (Run (suc n) ∷ es)) (same_Some (record { mark = Acts t; rest = Run n ∷ es }) coming e)
    (record {
      chosen = λ u same. ap Some (same_task t u same);
      fewer = omega arith;
      mark = tt;
      rest = ((first.0, omega (arith, less)), fit);
    })

tick_takes : (setup : Setup) (picked : Option ℕ) (n : ℕ) (es : List Entry) (coming : Coming) (next : Option Coming) →
    IsFitting setup (Tick n) → AreFitting setup es → (next ≡ Some coming → Takes setup picked es coming) →
    next_of_tick n es next ≡ Some coming → Takes setup picked (Tick n ∷ es) coming
tick_takes setup picked zero es coming next first fit go e = later setup picked (Tick zero) es coming (go e)
tick_takes setup picked (suc n) es coming next first fit go e =
    let less = first.1 in
    alone setup picked (Tick (suc n)) es (Tick n ∷ es) Passes coming (λ t is. cc) (omega arith) tt
    ((first.0, omega (arith, less)), fit) e

pass_takes : (setup : Setup) (picked : Option ℕ) (n picks : ℕ) (es : List Entry) (coming : Coming)
    (next : Option Coming) →
    IsFitting setup (Pass n picks) → AreFitting setup es → (next ≡ Some coming → Takes setup picked es coming) →
    next_of_pass n picks es next ≡ Some coming → Takes setup picked (Pass n picks ∷ es) coming
pass_takes setup picked zero picks es coming next first fit go e = later setup picked (Pass zero picks) es coming (go e)
pass_takes setup picked (suc n) picks es coming next first fit go e =
    let less = first.1.0 in
    let product : suc n * suc picks ≡ n * suc picks + suc picks = suc-mul n (suc picks) in
    alone setup picked (Pass (suc n) picks) es (Run picks ∷ Pass n picks ∷ es) Passes coming (λ t is. cc)
    (omega (arith, product)) tt
    ((first.0, first.1.1), ((first.0, (omega (arith, less), first.1.1)), fit)) e

pub next_takes : (setup : Setup) (picked : Option ℕ) (es : List Entry) (coming : Coming) → AreFitting setup es →
    next_mark picked es ≡ Some coming → Takes setup picked es coming
next_takes setup picked [] coming fit e = absurd (none-some coming e)
next_takes setup picked (Run n ∷ es) coming fit e =
    run_takes setup picked n es coming (next_mark picked es) fit.0 fit.1 (next_takes setup picked es coming fit.1) e
next_takes setup picked (Tick n ∷ es) coming fit e =
    tick_takes setup picked n es coming (next_mark picked es) fit.0 fit.1 (next_takes setup picked es coming fit.1) e
next_takes setup picked (Pass times picks ∷ es) coming fit e =
    pass_takes setup picked times picks es coming (next_mark picked es) fit.0 fit.1
    (next_takes setup picked es coming fit.1) e
next_takes setup picked (Turn t ∷ es) coming fit e =
    alone setup picked (Turn t) es es (Turns t) coming (λ u is. cc) (omega arith) tt fit.1 e
next_takes setup picked (State ∷ es) coming fit e =
    alone setup picked State es es Tells coming (λ u is. cc) (omega arith) tt fit.1 e
next_takes setup picked (entry ∷ es) coming fit e =
    alone setup picked entry es es (Arrives entry) coming (λ u is. cc) (omega arith) fit.0 fit.1 e
