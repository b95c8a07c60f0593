-- What tasks have heard: what a mark keeps of it, and that exactly the active ones have heard something.
use Rattle.std.proofs.Common.{◌≡◌, ◌≢◌, ℕ, zero, suc, ◌+◌, List, [], ◌∷◌, ◌++◌, Bool, true, false, IsTrue, Option, Some, None, slice_get, slice_set, option_map, refl, sym, ap, subst, ◌∙◌}
use Rattle.std.proofs.lemmas.Bool.{true≢false}
use Rattle.std.proofs.lemmas.Option.{slice_get-map}
use Rattle.pearl_rules.specs.declared.action.Answer.{Answer}
use Rattle.pearl_rules.specs.declared.entry.Entry.{Entry}
use Rattle.pearl_rules.specs.declared.entry.Entry.TheVariants.{Turn, State}
use Rattle.pearl_rules.specs.declared.row.TaskRow.{TaskRow}
use Rattle.pearl_rules.specs.declared.setup.Setup.{Setup}
use Rattle.pearl_rules.specs.declared.setup.TaskEntry.{TaskEntry}
use Rattle.pearl_rules.specs.Core.{Core, row_of, first_mode, first_row, is_active_mode, is_active_row, is_active, opening}
use Rattle.pearl_rules.specs.Effect.{Reply, Hears, Ends, effect}
use Rattle.pearl_rules.specs.Pick.{turned, showing, last_if, can_turn}
use Rattle.pearl_rules.specs.Plans.{millisecond}
use Rattle.pearl_rules.specs.Devices.{arrived}
use Rattle.pearl_rules.specs.Runs.{Mark, Acts, Turns, Tells, Passes, Arrives, Coming, kept, refreshed, dropped, flattened, kept_at, Supplier, Source, source_offers, source_next, heard_more, source_settled, source_acts, source_mark, source_step_by, source_step, source_start, source_after, source_run}
use Rattle.pearl_rules.proofs.Offered.{no_member, set-same, set-other, millisecond-lasts, arrived-lasts, stays_empty, begins_afresh}
use Rattle.pearl_rules.proofs.Offered.{step_source}
use Rattle.pearl_rules_laws.specs.Runs.{HearsWhereActive, KeepsHeard}
use Rattle.pearl_rules_laws.proofs.Marks.{turn_marks, state_marks}

-- ONE PLACE OF WHAT WAS HEARD

-- an active task has a row
record RowOf (rows : List TaskRow) (t : ℕ) : Type 0 where
  row : TaskRow
  at : slice_get rows t ≡ Some row
  active : IsTrue (is_active_mode row.mode)

row_there : (rows : List TaskRow) (t : ℕ) → IsTrue (is_active_row (slice_get rows t)) → RowOf rows t
row_there rows t active = by_row (slice_get rows t) refl active
  where
    by_row : (o : Option TaskRow) → slice_get rows t ≡ o → IsTrue (is_active_row o) → RowOf rows t
    by_row None at is = absurd (true≢false (sym is))
    by_row (Some row) at is = record { row = row; at = at; active = is }

-- what is kept of an active task stays
pub kept_stays : (rows : List TaskRow) (xs : List (Option (List Answer))) (t : ℕ) (answers : List Answer) →
    IsTrue (is_active_row (slice_get rows t)) → kept_at xs t ≡ Some answers → kept_at (refreshed (λ u. []) 0 rows xs) t
    ≡ Some answers
kept_stays rows xs t answers active is =
    let there = row_there rows t active in
    (begins_afresh (λ u. []) rows [] xs t there.row there.at).same there.active (no_member t) answers is

-- of one of which nothing is kept nothing was heard
pub kept_anew : (rows : List TaskRow) (xs : List (Option (List Answer))) (t : ℕ) →
    IsTrue (is_active_row (slice_get rows t)) → kept_at xs t ≡ None → kept_at (refreshed (λ u. []) 0 rows xs) t
    ≡ Some []
kept_anew rows xs t active is =
    let there = row_there rows t active in
    (begins_afresh (λ u. []) rows [] xs t there.row there.at).anew there.active is

-- a place that is there is written
pub kept_set : (xs : List (Option (List Answer))) (t : ℕ) (before after : List Answer) → kept_at xs t ≡ Some before →
    kept_at (slice_set xs t (Some after)) t ≡ Some after
kept_set xs t before after is = by_place (slice_get xs t) refl is
  where
    by_place : (o : Option (Option (List Answer))) → slice_get xs t ≡ o → flattened o ≡ Some before →
        kept_at (slice_set xs t (Some after)) t ≡ Some after
    by_place None at e = let no : ⊥ = cc in absurd no
    by_place (Some old) at e = ap flattened (set-same xs t old (Some after) at)

-- another place isn't
pub heard_other : (xs : List (Option (List Answer))) (t u : ℕ) (before : List Answer) (reply : Reply) → u ≢ t →
    kept_at (heard_more xs t before reply) u ≡ kept_at xs u
heard_other xs t u before (Hears answer) differ = ap flattened (set-other xs t u (Some (before ++ answer ∷ [])) differ)
heard_other xs t u before Ends differ = ap flattened (set-other xs t u None differ)

-- of a dormant task nothing is kept
pub kept_none : (t : ℕ) (rows : List TaskRow) (xs : List (Option (List Answer))) (i : ℕ) →
    is_active_row (slice_get rows i) ≡ false → kept_at (refreshed (λ u. []) t rows xs) i ≡ None
kept_none t [] xs i not = refl
kept_none t (row ∷ rows) [] zero not = ap (λ b. kept b [] None) not
kept_none t (row ∷ rows) (x ∷ xs) zero not = ap (λ b. kept b [] x) not
kept_none t (row ∷ rows) [] (suc i) not = kept_none (t + 1) rows [] i not
kept_none t (row ∷ rows) (x ∷ xs) (suc i) not = kept_none (t + 1) rows xs i not

-- a place of which nothing is kept stays so where others are emptied, and where the task that acts hears its answer
pub heard_none : (heard : List (Option (List Answer))) (ended : List ℕ) (t u : ℕ) (before : List Answer) →
    (reply : Reply) → kept_at heard t ≡ Some before → kept_at heard u ≡ None →
    kept_at (heard_more (dropped ended heard) t before reply) u ≡ None
heard_none heard ended t u before reply here is =
    heard_other (dropped ended heard) t u before reply differ ∙ stays_empty ended heard u is
  where
    differ : u ≢ t
    differ same = let no : ⊥ = cc in no

-- ANY MARK

module _ (core : Core) (heard : List (Option (List Answer))) (entries : List Entry) where
  abbrev Settled : Source
  Settled = source_settled core heard entries

  settled_active : (t : ℕ) → IsTrue (is_active core t) → kept_at Settled.heard t ≢ None
  settled_active t active = by_kept (kept_at heard t) refl
    where
      by_kept : (o : Option (List Answer)) → kept_at heard t ≡ o → kept_at Settled.heard t ≢ None
      by_kept None is none = let there = kept_anew core.tasks heard t active is in let no : ⊥ = cc in no
      by_kept (Some answers) is none =
          let there = kept_stays core.tasks heard t answers active is in let no : ⊥ = cc in no

  settled_hears : HearsWhereActive Settled
  settled_hears = record { dormant = λ t not. kept_none 0 core.tasks heard t not; active = settled_active }

-- no task is active and not
not_both : (b : Bool) → b ≡ false → IsTrue b → ⊥
not_both b not is = true≢false (sym is ∙ not)

module _ (offer : Supplier) (s : Source) (fits : HearsWhereActive s) where
  -- exactly the active tasks have heard something after it, and one that it makes active no answers
  record Goes (after : Source) : Type 0 where
    hears : HearsWhereActive after
    started : (t : ℕ) → is_active s.core t ≡ false → IsTrue (is_active after.core t) → kept_at after.heard t ≡ Some []

  stays_here : Goes s
  stays_here = record { hears = fits; started = λ t not is. absurd (not_both (is_active s.core t) not is) }

  settles : (core : Core) (heard : List (Option (List Answer))) (rest : List Entry) →
      ((t : ℕ) → kept_at s.heard t ≡ None → kept_at heard t ≡ None) → Goes (source_settled core heard rest)
  settles core heard rest none = record {
    hears = settled_hears core heard rest;
    started = λ t not is. kept_anew core.tasks heard t is (none t (fits.dormant t not));
  }

  goes_by_mark : (mark : Mark) (rest : List Entry) → Goes (source_mark offer s mark rest)
  goes_by_mark (Acts t) rest = by_heard (kept_at s.heard t) refl
    where
      by_heard : (o : Option (List Answer)) → kept_at s.heard t ≡ o → Goes (source_acts offer s t rest o)
      by_heard None is = stays_here
      by_heard (Some before) is =
          let done = effect s.core t (offer t before) in
          settles done.core (heard_more (dropped done.ended s.heard) t before done.reply) rest
          (λ u none. heard_none s.heard done.ended t u before done.reply is none)
  goes_by_mark (Turns t) rest = settles (turned s.core (source_offers offer s) t) s.heard rest (λ u is. is)
  goes_by_mark Tells rest = settles (showing s.core (source_offers offer s)) s.heard rest (λ u is. is)
  goes_by_mark Passes rest = settles (millisecond s.core) s.heard rest (λ u is. is)
  goes_by_mark (Arrives entry) rest = settles (arrived s.core entry) s.heard rest (λ u is. is)

  goes_by : (coming : Option Coming) → Goes (source_step_by offer s coming)
  goes_by None = stays_here
  goes_by (Some coming) = goes_by_mark coming.mark coming.rest

  goes : Goes (source_step offer s)
  goes = subst Goes (sym (step_source offer s (source_next offer s) refl)) (goes_by (source_next offer s))

-- RUNS

hears_after : (offer : Supplier) (s : Source) → HearsWhereActive s → (m : ℕ) → HearsWhereActive (source_after offer s m)
hears_after offer s hears zero = hears
hears_after offer s hears (suc m) = (goes offer (source_after offer s m) (hears_after offer s hears m)).hears

pub run_hears : (offer : Supplier) (setup : Setup) (es : List Entry) (m : ℕ) →
    HearsWhereActive (source_run offer setup es m)
run_hears offer setup es m =
    hears_after offer (source_start setup es) (settled_hears (opening setup) [] es) m

pub run_starts : (offer : Supplier) (setup : Setup) (es : List Entry) (m t : ℕ) →
    is_active (source_run offer setup es m).core t ≡ false →
    IsTrue (is_active (source_step offer (source_run offer setup es m)).core t) →
    kept_at (source_step offer (source_run offer setup es m)).heard t ≡ Some []
run_starts offer setup es m t not is =
    (goes offer (source_run offer setup es m) (run_hears offer setup es m)).started t not is

-- the row of a task at the start
opens_at : (setup : Setup) (t : ℕ) → row_of (opening setup) t ≡ option_map first_row (slice_get setup.tasks t)
opens_at setup t = slice_get-map first_row setup.tasks t

pub main_hears : (setup : Setup) (es : List Entry) (t : ℕ) (task : TaskEntry) → slice_get setup.tasks t ≡ Some task →
    task.main ≡ true → kept_at (source_start setup es).heard t ≡ Some []
main_hears setup es t task at main = kept_anew (opening setup).tasks [] t active refl
  where
    active : IsTrue (is_active (opening setup) t)
    active =
        ap is_active_row (opens_at setup t ∙ ap (λ o. option_map first_row o) at)
        ∙ ap (λ b. is_active_mode (first_mode b task.priority)) main

pub other_hears : (setup : Setup) (es : List Entry) (t : ℕ) →
    ((task : TaskEntry) → slice_get setup.tasks t ≡ Some task → task.main ≡ false) →
    kept_at (source_start setup es).heard t ≡ None
other_hears setup es t other =
    kept_none 0 (opening setup).tasks [] t
    (ap is_active_row (opens_at setup t) ∙ by_task (slice_get setup.tasks t) refl)
  where
    by_task : (o : Option TaskEntry) → slice_get setup.tasks t ≡ o → is_active_row (option_map first_row o) ≡ false
    by_task None at = refl
    by_task (Some task) at = ap (λ b. is_active_mode (first_mode b task.priority)) (other task at)

-- MARKS AT WHICH NO TASK ENDS

-- no task becomes dormant
keeps : (before after : Source) (core : Core) (rest : List Entry) → after ≡ source_settled core before.heard rest →
    ((t : ℕ) → IsTrue (is_active before.core t) → IsTrue (is_active core t)) → KeepsHeard before after
keeps before after core rest is lasts =
    subst (KeepsHeard before) (sym is)
    (record {
      same = λ t answers active heard. kept_stays core.tasks before.heard t answers (lasts t active) heard;
      started = λ t none active. kept_anew core.tasks before.heard t active none;
      dormant = λ t not. kept_none 0 core.tasks before.heard t not;
    })

pub pass_keeps : (offer : Supplier) (s : Source) (rest : List Entry) →
    source_next offer s ≡ Some (record { mark = Passes; rest = rest }) → KeepsHeard s (source_step offer s)
pass_keeps offer s rest comes =
    keeps s (source_step offer s) (millisecond s.core) rest
    (step_source offer s (Some (record { mark = Passes; rest = rest })) comes) (millisecond-lasts s.core)

pub arrival_keeps : (offer : Supplier) (s : Source) (entry : Entry) (rest : List Entry) →
    source_next offer s ≡ Some (record { mark = Arrives entry; rest = rest }) → KeepsHeard s (source_step offer s)
arrival_keeps offer s entry rest comes =
    keeps s (source_step offer s) (arrived s.core entry) rest
    (step_source offer s (Some (record { mark = Arrives entry; rest = rest })) comes) (arrived-lasts s.core entry)

-- the same tasks are active
all_same : (s after : Source) (core : Core) (rest : List Entry) → HearsWhereActive s → core.tasks ≡ s.core.tasks →
    after ≡ source_settled core s.heard rest → (t : ℕ) → kept_at after.heard t ≡ kept_at s.heard t
all_same s after core rest hears tasks is t =
    ap (λ x. kept_at x.heard t) is
    ∙ ap (λ rows. kept_at (refreshed (λ u. []) 0 rows s.heard) t) tasks
    ∙ by_active (is_active s.core t) refl
  where
    -- what is kept of the same rows
    again : List (Option (List Answer))
    again = refreshed (λ u. []) 0 s.core.tasks s.heard

    by_kept : (o : Option (List Answer)) → kept_at s.heard t ≡ o → IsTrue (is_active s.core t) →
        kept_at again t ≡ kept_at s.heard t
    by_kept None none active = absurd (hears.active t active none)
    by_kept (Some answers) heard active = kept_stays s.core.tasks s.heard t answers active heard ∙ sym heard

    by_active : (b : Bool) → is_active s.core t ≡ b → kept_at again t ≡ kept_at s.heard t
    by_active true active = by_kept (kept_at s.heard t) refl active
    by_active false not = kept_none 0 s.core.tasks s.heard t not ∙ sym (hears.dormant t not)

pub turn_hears : (offer : Supplier) (s : Source) (t : ℕ) (rest : List Entry) → s.entries ≡ Turn t ∷ rest →
    HearsWhereActive s → (u : ℕ) → kept_at (source_step offer s).heard u ≡ kept_at s.heard u
turn_hears offer s t rest here hears u =
    all_same s (source_step offer s) (turned s.core (source_offers offer s) t) rest hears
    (by_test (can_turn s.core (source_offers offer s) t))
    (step_source offer s (Some (record { mark = Turns t; rest = rest })) (turn_marks offer s t rest here)) u
  where
    by_test : (b : Bool) → (last_if b s.core t).tasks ≡ s.core.tasks
    by_test true = refl
    by_test false = refl

pub state_hears : (offer : Supplier) (s : Source) (rest : List Entry) → s.entries ≡ State ∷ rest →
    HearsWhereActive s → (u : ℕ) → kept_at (source_step offer s).heard u ≡ kept_at s.heard u
state_hears offer s rest here hears u =
    all_same s (source_step offer s) (showing s.core (source_offers offer s)) rest hears refl
    (step_source offer s (Some (record { mark = Tells; rest = rest })) (state_marks offer s rest here)) u
