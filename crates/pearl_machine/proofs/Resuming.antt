-- The machine that goes on from what was saved.
use Rattle.std.proofs.Common.{◌≡◌, inr, ℕ, zero, suc, ◌+◌, ◌<◌, ◌≤◌, List, [], ◌∷◌, Bool, true, false, ◌&&◌, Option, Some, None, length, replicate, slice_get, refl, sym, ap, ap₂, subst, ◌∙◌, arith}
use Rattle.std.specs.Prelude.{map}
use Rattle.std.specs.List.{AllByRecursion}
use Rattle.std.proofs.lemmas.Bool.{true≢false}
use Rattle.std.proofs.lemmas.List.{length-map}
use Rattle.std.proofs.lemmas.Option.{none-some, slice_get_past}
use Rattle.pearl_rules.specs.declared.action.Action.{Action}
use Rattle.pearl_rules.specs.declared.row.TaskRow.{TaskRow}
use Rattle.pearl_rules.specs.declared.setup.Setup.{Setup}
use Rattle.pearl_rules.specs.Core.{Core, is_active, is_active_mode, is_active_row}
use Rattle.pearl_rules.specs.Runs.{Machine, Running, kept_at}
use Rattle.pearl_stack.specs.Frames.{Frame}
use Rattle.pearl_instructions.specs.declared.object.Parts.{Parts as Object}
use Rattle.pearl_instructions.specs.Lawful.{IsObject}
use Rattle.pearl_instructions.specs.Valid.{IsValid}
use Rattle.pearl_instructions.specs.Owners as owners
use Rattle.pearl_instructions.specs.Setups.{setup_of, entry_of}
use Rattle.pearl_records.specs.declared.record.Standing.{Standing}
use Rattle.pearl_records.specs.declared.record.Standing.TheVariants.{Dormant, Active}
use Rattle.pearl_records.specs.declared.record.TaskRecord.{TaskRecord}
use Rattle.pearl_records.specs.Records.{mode_in, made_row, rows_made, core_made}
use Rattle.pearl_records.specs.States.{HasParts, AllEnd, IsRecord}
use Rattle.pearl_saved.specs.declared.saved.FrameRecord.{FrameRecord}
use Rattle.pearl_saved.specs.declared.saved.Saved.{Saved}
use Rattle.pearl_saved.specs.Laws.{FramesAreOfAStack}
use Rattle.pearl_saved.specs.Rules.{HasStack, HasStacks, AllRefer, IsMachineState}
use Rattle.pearl_saved.specs.Stacks.{frames_made}
use Rattle.pearl_kernel.specs.Kept.{Kept, IsLawful, is_silent, is_unsettled}
use Rattle.pearl_machine.specs.declared.part.Part.{Part}
use Rattle.pearl_machine.specs.Parts.{HasMemories, frames_if, stack_in, is_going, shown, start_of, running_of}
use Rattle.pearl_machine.specs.Ready.{Stands, AllStand, IsReady, untold, seen_of}
use Rattle.pearl_machine.specs.Seen.{Seen}
use Rattle.pearl_machine.specs.Resumed.{running_made, all_made, resumed, is_standing, IsFilled, AreFilled}
use Rattle.pearl_machine.proofs.Loading.{none_at}
use Rattle.pearl_machine.proofs.Members.{table_is, all_to, stack_of, as_many}
use Rattle.pearl_machine.proofs.ReadyLaws.{told_past}

-- ---- rows

made_long : (declared : List ℕ) (rows : List TaskRecord) → length declared ≡ length rows → length (rows_made declared rows) ≡ length rows
made_long [] [] same = refl
made_long [] (row ∷ rows) same = absurd (omega (arith, same))
made_long (d ∷ declared) [] same = absurd (omega (arith, same))
made_long (d ∷ declared) (row ∷ rows) same = ap suc (made_long declared rows (omega (arith, same)))

mode_is : (standing : Standing) → is_active_mode (mode_in standing) ≡ is_standing standing
mode_is Dormant = refl
mode_is (Active priority suspended kept) = refl

made_active : (declared : List ℕ) (rows : List TaskRecord) → length declared ≡ length rows → (t : ℕ) (row : TaskRecord) → slice_get rows t ≡ Some row
    → is_active_row (slice_get (rows_made declared rows) t) ≡ is_standing row.standing
made_active [] [] same t row e = absurd cc
made_active [] (r ∷ rows) same t row e = absurd (omega (arith, same))
made_active (d ∷ declared) [] same t row e = absurd cc
made_active (d ∷ declared) (r ∷ rows) same zero row e = let first : r ≡ row = cc in mode_is r.standing ∙ ap (λ (x : TaskRecord). is_standing x.standing) first
made_active (d ∷ declared) (r ∷ rows) same (suc t) row e = made_active declared rows (omega (arith, same)) t row e

-- what stands at a place of what is made
pub record MadeAt (rows : List TaskRecord) (stacks : List (List FrameRecord)) (t : ℕ) (x : Option (Running (List Frame))) : Type 0 where
  pub row : TaskRecord
  pub frames : List FrameRecord
  pub there : slice_get rows t ≡ Some row
  pub beside : slice_get stacks t ≡ Some frames
  pub is : running_made row.standing frames ≡ x

pub made_at : (rows : List TaskRecord) (stacks : List (List FrameRecord)) (t : ℕ) (x : Option (Running (List Frame))) → slice_get (all_made rows stacks) t ≡ Some x → MadeAt rows stacks t x
made_at [] stacks t x e = absurd cc
made_at (row ∷ rows) [] t x e = absurd cc
made_at (row ∷ rows) (frames ∷ stacks) zero x e =
    let first : running_made row.standing frames ≡ x = cc in record { row = row; frames = frames; there = refl; beside = refl; is = first }
made_at (row ∷ rows) (frames ∷ stacks) (suc t) x e =
    let r = made_at rows stacks t x e in record { row = r.row; frames = r.frames; there = r.there; beside = r.beside; is = r.is }

pub all_made_long : (rows : List TaskRecord) (stacks : List (List FrameRecord)) → length rows ≡ length stacks → length (all_made rows stacks) ≡ length rows
all_made_long [] stacks same = refl
all_made_long (row ∷ rows) [] same = absurd (omega (arith, same))
all_made_long (row ∷ rows) (frames ∷ stacks) same = ap suc (all_made_long rows stacks (omega (arith, same)))

kept_of : {X : Type 0} (xs : List (Option X)) (t : ℕ) (x : X) → kept_at xs t ≡ Some x → slice_get xs t ≡ Some (Some x)
kept_of [] t x e = absurd cc
kept_of (y ∷ xs) zero x e = let same : y ≡ Some x = e in ap Some same
kept_of (y ∷ xs) (suc t) x e = kept_of xs t x e

shows : (standing : Standing) (frames : List FrameRecord) (active : Bool) (start : List Frame) (offer : Option Action) (part : Part) → active ≡ is_standing standing
    → offer ≡ None → IsFilled standing frames part → shown active start offer (Some part) ≡ running_made standing frames
shows Dormant frames active start offer part a o h = ap (λ b. shown b start offer (Some part)) a
shows (Active priority suspended kept) frames active start offer part a o h =
    ap₂ (λ b x. shown b start x (Some part)) a o
    ∙ ap₂ (λ going fs. let r : Option (Running (List Frame)) = Some (record { stack = frames_if going start fs; offer = None }) in r) h.0 h.1

under_way : (standing : Standing) (frames : List FrameRecord) (part : Part) → IsFilled standing frames part → part.going ≡ true → is_standing standing ≡ true
under_way Dormant frames part h e = absurd (true≢false (sym e ∙ h))
under_way (Active priority suspended kept) frames part h e = refl

-- a place beyond one list is beyond another that is as long
both_there : {X Y : Type 0} (xs : List X) (ys : List Y) (t : ℕ) (x : X) → length xs ≡ length ys → slice_get xs t ≡ Some x → slice_get ys t ≡ None → ⊥
both_there [] ys t x same e f = absurd cc
both_there (z ∷ xs) [] t x same e f = absurd (omega (arith, same))
both_there (z ∷ xs) (y ∷ ys) zero x same e f = absurd cc
both_there (z ∷ xs) (y ∷ ys) (suc t) x same e f = both_there xs ys t x (omega (arith, same)) e f

past_all : {X Y : Type 0} (xs : List X) (ys : List Y) (t : ℕ) → length xs ≡ length ys → slice_get ys t ≡ None → length xs ≤ t
past_all [] ys t same e = omega arith
past_all (x ∷ xs) [] t same e = absurd (omega (arith, same))
past_all (x ∷ xs) (y ∷ ys) zero same e = absurd cc
past_all (x ∷ xs) (y ∷ ys) (suc t) same e = let more = past_all xs ys t (omega (arith, same)) e in omega (arith, more)

module _ (o : Object) (s : Saved) (state : IsMachineState o s) (lawful : IsObject o) where
  abbrev rows : List TaskRecord
  rows = s.core.tasks

  abbrev declared : List ℕ
  declared = map (λ task. task.priority) (setup_of o).tasks

  abbrev core : Core
  core = core_made (setup_of o) s.core

  abbrev offers : List (Option Action)
  offers = replicate (length (setup_of o).tasks) None

  abbrev k : Kept
  k = record { core = core; offers = offers }

  parts_are : HasParts (setup_of o) s.core
  parts_are = state 2

  stacks_are : HasStacks o 0 rows s.stacks
  stacks_are = state 5

  refer : AllByRecursion (AllRefer o []) s.stacks
  refer = state 6

  pub as_many_rows : length rows ≡ length o.tasks
  as_many_rows = parts_are.tasks ∙ length-map o.tasks entry_of

  as_declared : length declared ≡ length rows
  as_declared = length-map (setup_of o).tasks (λ task. task.priority) ∙ sym parts_are.tasks

  long : length core.tasks ≡ length rows
  long = made_long declared rows as_declared

  active_at : (t : ℕ) (row : TaskRecord) → slice_get rows t ≡ Some row → is_active core t ≡ is_standing row.standing
  active_at t row e = made_active declared rows as_declared t row e

  -- the stack of an active task is its own
  own_at : FramesAreOfAStack → (t : ℕ) (standing : Standing) (frames : List FrameRecord) (running : Running (List Frame)) → HasStack o t standing frames → AllRefer o [] frames
      → running_made standing frames ≡ Some running → Stands o t running
  own_at law t Dormant frames running h well e = absurd (none-some running e)
  own_at law t (Active priority suspended kept) frames running h well e =
      let r : Running (List Frame) = record { stack = frames_made frames; offer = None } in
      let same : r ≡ running = cc in
      subst (Stands o t) same (record { own = (law o t frames h well).0; offers = λ action none. absurd (none-some action none) })

  all_stand : FramesAreOfAStack → AllStand o (all_made rows s.stacks)
  all_stand law t running e =
      let m = made_at rows s.stacks t (Some running) (kept_of (all_made rows s.stacks) t running e) in
      own_at law t m.row.standing m.frames running (stack_of o rows s.stacks stacks_are t m.row m.frames m.there m.beside) (all_to (AllRefer o []) s.stacks t m.frames refer m.beside) m.is

  module _ (parts : List Part) (each : length parts ≡ length o.tasks) (are : AreFilled rows s.stacks parts) where
    running_is : running_of o core offers parts ≡ all_made rows s.stacks
    running_is = table_is (length core.tasks) (λ t. shown (is_active core t) (start_of o t) (kept_at offers t) (slice_get parts t)) (all_made rows s.stacks)
        (long ∙ sym (all_made_long rows s.stacks (as_many o 0 rows s.stacks stacks_are)))
        (λ t x e. let m = made_at rows s.stacks t x e in let f = are t m.row m.frames m.there m.beside in
        ap (λ p. shown (is_active core t) (start_of o t) (kept_at offers t) p) f.1
        ∙ shows m.row.standing m.frames (is_active core t) (start_of o t) (kept_at offers t) f.0 (active_at t m.row m.there) (none_at (length (setup_of o).tasks) t) f.2
        ∙ m.is)

    going_unsettled : (t : ℕ) → is_going (slice_get parts t) ≡ true → is_unsettled k t ≡ true
    going_unsettled t e = by_row (slice_get rows t) refl
      where
        silent : (active : Bool) → active ≡ true → (active && is_silent (kept_at offers t)) ≡ true
        silent active a = ap₂ (λ b x. b && is_silent x) a (none_at (length (setup_of o).tasks) t)

        by_stack : (row : TaskRecord) → slice_get rows t ≡ Some row → (x : Option (List FrameRecord)) → slice_get s.stacks t ≡ x → is_unsettled k t ≡ true
        by_stack row there None f = absurd (both_there rows s.stacks t row (as_many o 0 rows s.stacks stacks_are) there f)
        by_stack row there (Some frames) f =
            let p = are t row frames there f in
            silent (is_active core t) (active_at t row there ∙ under_way row.standing frames p.0 p.2 (sym (ap is_going p.1) ∙ e))

        by_row : (x : Option TaskRecord) → slice_get rows t ≡ x → is_unsettled k t ≡ true
        by_row None none = absurd (true≢false (sym e ∙ ap is_going (slice_get_past parts t (past_all parts rows t (each ∙ sym as_many_rows) none))))
        by_row (Some row) there = by_stack row there (slice_get s.stacks t) refl

    module _ (due : ℕ) (past : due ≡ length core.tasks) where
      pub resumes : seen_of o k parts due ≡ resumed o s
      resumes =
          ap₂ (λ told xs. let n : Seen = record { object = o; state = record { core = record core { told = told }; running = xs; entries = [] } } in n)
          (told_past k due (omega (arith, past))) running_is

      pub ready_again : FramesAreOfAStack → IsValid o → HasMemories o parts → IsLawful (setup_of o) k → IsReady o (setup_of o) k parts due
      ready_again law valid memory holds = record {
        valid = valid;
        object = lawful;
        tables = refl;
        lawful = holds;
        each = each ∙ sym (long ∙ as_many_rows);
        memory = memory;
        going = going_unsettled;
        stand = subst (AllStand o) (sym running_is) (all_stand law);
        owes = inr (omega (arith, past));
      }

-- ---- over the tables that were made

module _ (o : Object) (s : Saved) (state : IsMachineState o s) (lawful : IsObject o) (parts : List Part) (each : length parts ≡ length o.tasks)
    (are : AreFilled s.core.tasks s.stacks parts) (setup : Setup) (tables : setup ≡ setup_of o) (k : Kept)
    (made : k ≡ record { core = core_made setup s.core; offers = replicate (length setup.tasks) None }) (due : ℕ) (all : due ≡ length k.core.tasks) where
  abbrev first : Setup → Kept
  first t = record { core = core_made t s.core; offers = replicate (length t.tasks) None }

  same : k ≡ first (setup_of o)
  same = made ∙ ap first tables

  past : due ≡ length (first (setup_of o)).core.tasks
  past = all ∙ ap (λ (x : Kept). length x.core.tasks) same

  pub resumes_from : seen_of o k parts due ≡ resumed o s
  resumes_from = ap (λ x. seen_of o x parts due) same ∙ resumes o s state lawful parts each are due past

  pub ready_from : FramesAreOfAStack → IsValid o → HasMemories o parts → IsLawful setup k → IsReady o setup k parts due
  ready_from law valid memory holds =
      let there : IsLawful (setup_of o) (first (setup_of o)) = subst (λ t. IsLawful t (first (setup_of o))) tables (subst (IsLawful setup) same holds) in
      subst (λ t. IsReady o t k parts due) (sym tables)
      (subst (λ x. IsReady o (setup_of o) x parts due) (sym same) (ready_again o s state lawful parts each are due past law valid memory there))

pub record_is : (o : Object) (s : Saved) → IsMachineState o s → AllEnd s.core → IsRecord (setup_of o) s.core
record_is o s state ends = record { parts = state 2; numbers = state 3; spans = state 4; ends = ends }
