-- The stack of a task stays one.
use Rattle.std.proofs.Common.{◌≡◌, ◌⊎◌, inl, inr, ℕ, zero, suc, ◌+◌, ◌<◌, ◌≤◌, List, [], ◌∷◌, Option, Some, None, length, map, slice_get, refl, sym, ap, ◌∙◌, subst, arith, Bool, true, false, ltb-true, ltb-false}
use Rattle.std.specs.Prelude.{nat_lt, option_and_then}
use Rattle.std.proofs.lemmas.List.{length-map, length-append}
use Rattle.std.proofs.lemmas.Option.{slice_get_past}
use Rattle.pearl_rules.specs.declared.action.Action.{Action}
use Rattle.pearl_rules.specs.declared.action.Answer.{Answer}
use Rattle.pearl_rules.specs.Runs as runs
use Rattle.pearl_stack.specs.Frames.{Frame}
use Rattle.pearl_instructions.specs.declared.instr.Instr.{Instr}
use Rattle.pearl_instructions.specs.declared.object.Code.{Code}
use Rattle.pearl_instructions.specs.declared.object.Procedure.{Procedure}
use Rattle.pearl_instructions.specs.declared.object.Task.{Task}
use Rattle.pearl_instructions.specs.declared.object.Parts.{Parts as Object}
use Rattle.pearl_instructions.specs.Lawful.{IsObject}
use Rattle.pearl_instructions.specs.Laws as instructions
use Rattle.pearl_instructions.specs.Objects.{routines, routine_at}
use Rattle.pearl_instructions.specs.Owned.{IsOfTask, Moves, Afterwards}
use Rattle.pearl_instructions.specs.Rows.{lowest, instr_at, act, row, fresh_cells, after, begun}
use Rattle.pearl_instructions.specs.Stacks.{task_of, Goes}
use Rattle.pearl_instructions.specs.Steps.{Step, Silent, Offers, Missing, given}
use Rattle.pearl_instructions.specs.Valid.{IsValid}
use Rattle.pearl_instructions.specs.Engines.{stepped_by}
use Rattle.pearl_instructions.specs.Owners.{IsStackOf, StandsIn}
use Rattle.pearl_instructions.specs.RunLaws.{Begins, GoesOn, GoesOnAfter, OffersWhatIsThere}

-- what a step is, by what the engine makes of it
pub silent_is : (step : Step) (frames : List Frame) → stepped_by step ≡ runs.Silent frames → (step ≡ Silent frames) ⊎ ((step ≡ Missing) × (frames ≡ []))
silent_is (Silent frames) other e = let same : frames ≡ other = cc in inl (ap Silent same)
silent_is (Offers action go) other e = cc
silent_is Missing other e = let same : [] ≡ other = cc in inr (refl, sym same)

pub offers_is : (step : Step) (action : Action) → stepped_by step ≡ runs.Offers action → (go : Answer → List Frame) × (step ≡ Offers action go)
offers_is (Silent frames) action e = cc
offers_is (Offers offered go) action e = let same : offered ≡ action = cc in (go, ap (λ a. Offers a go) same)
offers_is Missing action e = cc

-- the routine of a task, or none behind the last
behind_all : (o : Object) (t : ℕ) → length o.tasks ≤ t → routine_at o (length o.procedures + t) ≡ None
behind_all o t past =
    let ps = length-map o.procedures (λ p. p.code) in
    let ts = length-map o.tasks (λ t. t.code) in
    let all = length-append (map (λ (p : Procedure). p.code) o.procedures) (map (λ (t : Task). t.code) o.tasks) in
    slice_get_past (routines o) (length o.procedures + t) (omega (arith, past, ps, ts, all))

missing_at : (o : Object) (r : ℕ) → routine_at o r ≡ None → row o (begun o r) ≡ Missing
missing_at o r none =
    let frame : Frame = record { routine = r; place = 0; cells = fresh_cells (routine_at o r); operands = [] } in
    ap (λ x. given (option_and_then (λ (c : Code). slice_get c.instructions 0) x) (λ instr. act o instr frame [])) none

own_number : (o : Object) (t : ℕ) → task_of o (begun o (length o.procedures + t)) ≡ t
own_number o t = omega arith

there_is : {A : Type 0} (xs : List A) (n : ℕ) → n < length xs → (x : A) × (slice_get xs n ≡ Some x)
there_is [] n less = absurd (omega (arith, less))
there_is (x ∷ xs) zero less = (x, refl)
there_is (x ∷ xs) (suc n) less = there_is xs n (omega (arith, less))

pub task_there : (o : Object) (t : ℕ) → t < length o.tasks → (code : Code) × (routine_at o (length o.procedures + t) ≡ Some code)
task_there o t less =
    let ps = length-map o.procedures (λ p. p.code) in
    let ts = length-map o.tasks (λ t. t.code) in
    let all = length-append (map (λ (p : Procedure). p.code) o.procedures) (map (λ (t : Task). t.code) o.tasks) in
    there_is (routines o) (length o.procedures + t) (omega (arith, less, ps, ts, all))

pub begins : instructions.Begins → Begins
begins law o t valid lawful = by (nat_lt t (length o.tasks)) refl
  where
    by : (b : Bool) → nat_lt t (length o.tasks) ≡ b → StandsIn o t (begun o (length o.procedures + t))
    by true e =
        let code = task_there o t (ltb-true t (length o.tasks) e) in
        inl (record { stack = law o (length o.procedures + t) code.0 valid lawful (omega arith) code.1; task = own_number o t })
    by false e =
        let past : length o.tasks ≤ t = ltb-false t (length o.tasks) e in
        inr (record { past = past; missing = missing_at o (length o.procedures + t) (behind_all o t past) })

-- the number of the task that a stack is of
number_of : (o : Object) (t : ℕ) (f : Frame) (lower : List Frame) → IsOfTask o t (f ∷ lower) → lowest f lower ≡ length o.procedures + t
number_of o t f [] h = h
number_of o t f (g ∷ lower) h = number_of o t g lower h

pub task_is : (o : Object) (t : ℕ) (frames : List Frame) → IsOfTask o t frames → task_of o frames ≡ t
task_is o t [] h = absurd h
task_is o t (f ∷ lower) h = let lowest = number_of o t f lower h in omega (arith, lowest)

weaker : (o : Object) (t : ℕ) (step : Step) (P Q : List Frame → Type 0) → ((frames : List Frame) → P frames → Q frames) → Afterwards o t P step → Afterwards o t Q step
weaker o t (Silent frames) P Q so h = so frames h
weaker o t (Offers action go) P Q so h = λ answer suits. so (go answer) (h answer suits)
weaker o t Missing P Q so h = tt

-- a row leaves a stack of the same task
pub keeps : instructions.KeepsTask → (o : Object) (t : ℕ) (frames : List Frame) → IsOfTask o t frames → Afterwards o t (IsOfTask o t) (row o frames)
keeps law o t [] h = absurd h
keeps law o t (f ∷ lower) h = by (instr_at o f) refl
  where
    by : (found : Option Instr) → instr_at o f ≡ found → Afterwards o t (IsOfTask o t) (row o (f ∷ lower))
    by None e = subst (λ x. Afterwards o t (IsOfTask o t) (given x (λ instr. act o instr f lower))) (sym e) tt
    by (Some instr) e =
        weaker o t (row o (f ∷ lower)) (λ next. Moves instr f lower next × IsOfTask o t next) (IsOfTask o t) (λ next both. both.1) (law o t f lower instr h e)

-- where the row of a task's stack leads
record Leading (o : Object) (t : ℕ) (step : Step) : Type 0 where
  goes : Goes o t step
  stays : Afterwards o t (IsOfTask o t) step

leading : instructions.Leads → instructions.HasTask → instructions.KeepsTask → (o : Object) (t : ℕ) (frames : List Frame) (step : Step) → IsValid o → IsObject o →
    IsStackOf o t frames → row o frames ≡ step → Leading o t step
leading leads has law o t frames step valid lawful s e = record {
  goes = subst (Goes o t) e (subst (λ n. Goes o n (row o frames)) s.task (leads o valid lawful frames s.stack));
  stays = subst (Afterwards o t (IsOfTask o t)) e (keeps law o t frames (subst (λ n. IsOfTask o n frames) s.task (has o frames s.stack).1));
}

pub goes_on : instructions.Leads → instructions.HasTask → instructions.KeepsTask → GoesOn
goes_on leads has law o t frames next valid lawful (inl s) e = by (silent_is (row o frames) next e)
  where
    by : (row o frames ≡ Silent next) ⊎ ((row o frames ≡ Missing) × (next ≡ [])) → StandsIn o t next
    by (inl same) =
        let l = leading leads has law o t frames (Silent next) valid lawful s same in
        inl (record { stack = l.goes; task = task_is o t next l.stays })
    by (inr none) = absurd (subst (Goes o (task_of o frames)) none.0 (leads o valid lawful frames s.stack))
goes_on leads has law o t frames next valid lawful (inr none) e =
    let same : runs.Silent [] ≡ runs.Silent next = ap stepped_by (sym none.missing) ∙ e in
    let empty : [] ≡ next = cc in
    inr (record { past = none.past; missing = subst (λ left. row o left ≡ Missing) empty refl })

pub goes_on_after : instructions.Leads → instructions.HasTask → instructions.KeepsTask → GoesOnAfter
goes_on_after leads has law o t frames action answer valid lawful (inl s) e suits =
    let offer = offers_is (row o frames) action e in
    let l = leading leads has law o t frames (Offers action offer.0) valid lawful s offer.1 in
    subst (λ step. StandsIn o t (after step answer)) (sym offer.1)
    (inl (record { stack = l.goes answer suits; task = task_is o t (offer.0 answer) (l.stays answer suits) }))
goes_on_after leads has law o t frames action answer valid lawful (inr none) e suits =
    let no : runs.Silent [] ≡ runs.Offers action = ap stepped_by (sym none.missing) ∙ e in cc

pub offers_there : instructions.OffersWhatIsThere → OffersWhatIsThere
offers_there law o t frames action valid lawful (inl s) e =
    let offer = offers_is (row o frames) action e in law o valid lawful frames s.stack action offer.0 offer.1
offers_there law o t frames action valid lawful (inr none) e =
    let no : runs.Silent [] ≡ runs.Offers action = ap stepped_by (sym none.missing) ∙ e in cc
