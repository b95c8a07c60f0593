-- What is saved of a machine whose active tasks have all offered their actions.
use Rattle.std.proofs.Common.{◌≡◌, ℕ, zero, suc, ◌+◌, ◌<◌, ◌≤◌, List, [], ◌∷◌, Bool, true, false, ◌&&◌, Option, Some, None, length, slice_get, refl, sym, ap, ap₂, subst, ◌∙◌, arith}
use Rattle.std.specs.Prelude.{map, option_map}
use Rattle.std.specs.List.{AllByRecursion}
use Rattle.std.proofs.lemmas.Bool.{true≢false}
use Rattle.std.proofs.lemmas.List.{length-map}
use Rattle.std.proofs.lemmas.Option.{none-some, slice_get-map}
use Rattle.pearl_rules.specs.declared.action.Action.{Action}
use Rattle.pearl_rules.specs.declared.row.Mode.{Mode}
use Rattle.pearl_rules.specs.declared.row.Mode.TheVariants as mode
use Rattle.pearl_rules.specs.declared.row.TaskRow.{TaskRow}
use Rattle.pearl_rules.specs.Core.{Core, is_active, is_active_row}
use Rattle.pearl_rules.specs.declared.setup.Setup.{Setup}
use Rattle.pearl_rules.specs.Runs.{Machine, Running, kept_at, unsettled}
use Rattle.pearl_stack.specs.Frames.{Frame}
use Rattle.pearl_instructions.specs.declared.object.Parts.{Parts as Object}
use Rattle.pearl_instructions.specs.Valid.{IsValid}
use Rattle.pearl_instructions.specs.Setups.{setup_of}
use Rattle.pearl_records.specs.declared.record.CoreRecord.{CoreRecord}
use Rattle.pearl_records.specs.declared.record.Standing.{Standing}
use Rattle.pearl_records.specs.declared.record.Standing.TheVariants.{Dormant, Active}
use Rattle.pearl_records.specs.declared.record.TaskRecord.{TaskRecord}
use Rattle.pearl_records.specs.Records.{standing_record, row_record, record_of, core_made, untold}
use Rattle.pearl_records.specs.States.{AllEnd, IsRecord}
use Rattle.pearl_saved.specs.declared.saved.FrameRecord.{FrameRecord}
use Rattle.pearl_saved.specs.declared.saved.Saved.{Saved}
use Rattle.pearl_saved.specs.Laws.{StacksKeepRules, StacksComeBack}
use Rattle.pearl_saved.specs.Rules.{HasStack, HasStacks, AllRefer, Rule, IsMachineState}
use Rattle.pearl_saved.specs.Stacks.{stack_record, frames_made}
use Rattle.pearl_kernel.specs.Kept.{Kept, IsLawful, AllSettled, is_silent, is_unsettled}
use Rattle.pearl_machine.specs.declared.part.Part.{Part}
use Rattle.pearl_machine.specs.Parts.{frames_if, stack_in, is_going, shown, start_of, table, running_of}
use Rattle.pearl_machine.specs.Ready.{Stands, AllStand, IsReady, seen_of}
use Rattle.pearl_machine.specs.Ready as ready
use Rattle.pearl_machine.specs.Seen.{Seen}
use Rattle.pearl_machine.specs.Resumed.{frames_in, saved_of, running_made, all_made, resumed, unoffered, before_offers, saved_frames, stacks_of}
use Rattle.pearl_machine.proofs.Calls.{all_settled}
use Rattle.pearl_machine.proofs.Members.{table_is, table_mapped, all_from, stacks_from}
use Rattle.pearl_machine.proofs.Places.{running_at}
use Rattle.pearl_machine.proofs.Resuming.{made_at, all_made_long}

-- ---- what stands at a place

record StackAt (rows : List TaskRecord) (parts : List Part) (t : ℕ) (x : List FrameRecord) : Type 0 where
  row : TaskRecord
  part : Part
  there : slice_get rows t ≡ Some row
  beside : slice_get parts t ≡ Some part
  is : saved_frames row.standing part.stack.frames ≡ x

stack_of_at : (rows : List TaskRecord) (parts : List Part) (t : ℕ) (x : List FrameRecord) → slice_get (stacks_of rows parts) t ≡ Some x → StackAt rows parts t x
stack_of_at [] parts t x e = absurd cc
stack_of_at (row ∷ rows) [] t x e = absurd cc
stack_of_at (row ∷ rows) (part ∷ parts) zero x e =
    let first : saved_frames row.standing part.stack.frames ≡ x = cc in record { row = row; part = part; there = refl; beside = refl; is = first }
stack_of_at (row ∷ rows) (part ∷ parts) (suc t) x e =
    let r = stack_of_at rows parts t x e in record { row = r.row; part = r.part; there = r.there; beside = r.beside; is = r.is }

stacks_long : (rows : List TaskRecord) (parts : List Part) → length rows ≡ length parts → length rows ≡ length (stacks_of rows parts)
stacks_long [] parts same = refl
stacks_long (row ∷ rows) [] same = absurd (omega (arith, same))
stacks_long (row ∷ rows) (part ∷ parts) same = ap suc (stacks_long rows parts (omega (arith, same)))

record RowAt (tasks : List TaskRow) (t : ℕ) (row : TaskRecord) : Type 0 where
  task : TaskRow
  there : slice_get tasks t ≡ Some task
  is : row_record task ≡ row

row_at : (tasks : List TaskRow) (t : ℕ) (row : TaskRecord) → slice_get (map row_record tasks) t ≡ Some row → RowAt tasks t row
row_at [] t row e = absurd cc
row_at (task ∷ tasks) zero row e = let first : row_record task ≡ row = cc in record { task = task; there = refl; is = first }
row_at (task ∷ tasks) (suc t) row e = let r = row_at tasks t row e in record { task = r.task; there = r.there; is = r.is }

same_some : {X : Type 0} (x y : X) → Some x ≡ Some y → x ≡ y
same_some x y e = cc

-- ---- one task: nothing is kept of a dormant one, and an active one has offered its action

-- what is recorded of a task that stands so, beside what is kept of it
record Shows (standing : Standing) (frames : List Frame) (kept : Option (Running (List Frame))) : Type 0 where
  saved : saved_frames standing frames ≡ frames_in kept
  again : running_made standing (saved_frames standing frames) ≡ option_map unoffered kept

shows : StacksComeBack → (m : Mode) (kept : _) (start : List Frame) (offer : Option Action) (part : Part) → (active : Bool) → active ≡ is_active_row (Some (record { mode = m; declared = 0; kept = kept; continuation = None; activation = None }))
    → (active && is_silent offer) ≡ false → Shows (standing_record m kept) part.stack.frames (shown active start offer (Some part))
shows law mode.Dormant kept start offer part active a settled =
    subst (λ b. Shows Dormant part.stack.frames (shown b start offer (Some part))) (sym a) (record { saved = refl; again = refl })
shows law (mode.Active priority suspended) kept start None part active a settled = absurd (true≢false (sym (ap (λ b. b && true) a) ∙ settled))
shows law (mode.Active priority suspended) kept start (Some action) part active a settled =
    subst (λ b. Shows (standing_record (mode.Active priority suspended) kept) part.stack.frames (shown b start (Some action) (Some part))) (sym a) (record {
      saved = refl;
      again = ap (λ fs. let r : Option (Running (List Frame)) = Some (record { stack = fs; offer = None }) in r) (law part.stack.frames);
    })

module _ (o : Object) (setup : _) (k : Kept) (parts : List Part) (due : ℕ) (r : IsReady o setup k parts due) (settled : AllSettled k)
    (stacks : StacksKeepRules) (back : StacksComeBack) where
  abbrev rows : List TaskRecord
  rows = map row_record k.core.tasks

  abbrev running : List (Option (Running (List Frame)))
  running = running_of o k.core k.offers parts

  as_many_rows : length rows ≡ length parts
  as_many_rows = length-map k.core.tasks row_record ∙ sym r.each

  abbrev here : ℕ → Option (Running (List Frame))
  here t = shown (is_active k.core t) (start_of o t) (kept_at k.offers t) (slice_get parts t)

  shows_at : (t : ℕ) (row : TaskRecord) (part : Part) → slice_get rows t ≡ Some row → slice_get parts t ≡ Some part → Shows row.standing part.stack.frames (here t)
  shows_at t row part e f =
      let at = row_at k.core.tasks t row e in
      subst (λ p. Shows row.standing part.stack.frames (shown (is_active k.core t) (start_of o t) (kept_at k.offers t) p)) (sym f)
      (subst (λ x. Shows x.standing part.stack.frames (shown (is_active k.core t) (start_of o t) (kept_at k.offers t) (Some part))) at.is
      (shows back at.task.mode at.task.kept (start_of o t) (kept_at k.offers t) part (is_active k.core t) (ap is_active_row at.there) (settled t)))

  stacks_are : stacks_of rows parts ≡ map frames_in running
  stacks_are =
      sym (table_mapped frames_in (length k.core.tasks) here
      ∙ table_is (length k.core.tasks) (λ t. frames_in (here t)) (stacks_of rows parts) (sym (length-map k.core.tasks row_record) ∙ stacks_long rows parts as_many_rows)
      (λ t x e. let s = stack_of_at rows parts t x e in sym (shows_at t s.row s.part s.there s.beside).saved ∙ s.is))

  -- what is saved
  pub saved_is : (s : Saved) → s.core ≡ record_of k.core → s.stacks ≡ stacks_of s.core.tasks parts → s ≡ saved_of (seen_of o k parts due).state
  saved_is s core frames =
      ap₂ (λ c fs. let x : Saved = record { core = c; stacks = fs } in x) core (frames ∙ (ap (λ (c : CoreRecord). stacks_of c.tasks parts) core ∙ stacks_are))

  -- it comes back
  made_again : all_made rows (stacks_of rows parts) ≡ map (option_map unoffered) running
  made_again =
      sym (table_mapped (option_map unoffered) (length k.core.tasks) here
      ∙ table_is (length k.core.tasks) (λ t. option_map unoffered (here t)) (all_made rows (stacks_of rows parts))
      (sym (length-map k.core.tasks row_record) ∙ sym (all_made_long rows (stacks_of rows parts) (stacks_long rows parts as_many_rows)))
      (λ t x e. let m = made_at rows (stacks_of rows parts) t x e in let s = stack_of_at rows parts t m.frames m.beside in
      let one : s.row ≡ m.row = same_some s.row m.row (sym s.there ∙ m.there) in
      sym (shows_at t s.row s.part s.there s.beside).again
      ∙ ap (running_made s.row.standing) s.is
      ∙ ap (λ (row : TaskRecord). running_made row.standing m.frames) one
      ∙ m.is))

  pub comes_again : (s : Saved) → s.core ≡ record_of k.core → s.stacks ≡ stacks_of s.core.tasks parts → core_made (setup_of o) s.core ≡ untold k.core
      → ready.untold k due ≡ [] → resumed o s ≡ before_offers (seen_of o k parts due)
  comes_again s core frames made taken =
      ap₂ (λ c xs. let x : Seen = record { object = o; state = record { core = c; running = xs; entries = [] } } in x)
      (made ∙ ap (λ told. let c : Core = record k.core { told = told } in c) (sym taken))
      (ap₂ (λ (c : CoreRecord) fs. all_made c.tasks fs) core (frames ∙ ap (λ (c : CoreRecord). stacks_of c.tasks parts) core) ∙ made_again)

  -- ---- a run can go on from it

  record Keeps (t : ℕ) (row : TaskRecord) (frames : List FrameRecord) : Type 0 where
    stack : HasStack o t row.standing frames
    refer : AllRefer o [] frames

  own : (t : ℕ) (running : Running (List Frame)) → here t ≡ Some running → Stands o t running
  own t running e = r.stand t running (running_at o k.core k.offers parts t ∙ e)

  keeps_one : (t : ℕ) (row : TaskRecord) (frames : List Frame) (kept : Option (Running (List Frame))) → here t ≡ kept → Shows row.standing frames kept → Keeps t row (saved_frames row.standing frames)
  keeps_one t row frames kept e s = by_standing row.standing refl
    where
      by_standing : (standing : Standing) → row.standing ≡ standing → Keeps t row (saved_frames row.standing frames)
      by_standing Dormant is =
          subst (λ (x : Standing). Keeps t row (saved_frames x frames)) (sym is) (record { stack = subst (λ (x : Standing). HasStack o t x []) (sym is) refl; refer = tt })
      by_standing (Active priority suspended starts) is = by_kept kept e (subst (λ (x : Standing). Shows x frames kept) is s)
        where
          by_kept : (x : Option (Running (List Frame))) → here t ≡ x → Shows (Active priority suspended starts) frames x → Keeps t row (saved_frames row.standing frames)
          by_kept None e s = let none = s.again in absurd cc
          by_kept (Some running) e s =
              let law = stacks o t running.stack (own t running e).own in
              let same : stack_record frames ≡ stack_record running.stack = s.saved in
              subst (λ (x : Standing). Keeps t row (saved_frames x frames)) (sym is) (record {
                stack = subst (λ (x : Standing). HasStack o t x (stack_record frames)) (sym is) (subst (λ fs. HasStack o t (Active priority suspended starts) fs) (sym same) law.0);
                refer = subst (AllRefer o []) (sym same) law.1;
              })

  keeps_at : (t : ℕ) (row : TaskRecord) (frames : List FrameRecord) → slice_get rows t ≡ Some row → slice_get (stacks_of rows parts) t ≡ Some frames → Keeps t row frames
  keeps_at t row frames e f =
      let s = stack_of_at rows parts t frames f in
      let one : s.row ≡ row = same_some s.row row (sym s.there ∙ e) in
      subst (λ (x : TaskRecord). Keeps t x frames) one
      (subst (Keeps t s.row) s.is (keeps_one t s.row s.part.stack.frames (here t) refl (shows_at t s.row s.part s.there s.beside)))

  have_stacks : HasStacks o 0 rows (stacks_of rows parts)
  have_stacks = stacks_from o 0 rows (stacks_of rows parts) (stacks_long rows parts as_many_rows) (λ t row frames e f.
      let same : t ≡ 0 + t = omega arith in subst (λ n. HasStack o n row.standing frames) same (keeps_at t row frames e f).stack)

  all_refer : AllByRecursion (AllRefer o []) (stacks_of rows parts)
  all_refer = all_from (AllRefer o []) (stacks_of rows parts) (λ t frames e.
      let s = stack_of_at rows parts t frames e in (keeps_at t s.row frames s.there e).refer)

  pub is_state : (s : Saved) → s.core ≡ record_of k.core → s.stacks ≡ stacks_of s.core.tasks parts → IsRecord (setup_of o) s.core → IsMachineState o s
  is_state s core frames holds = rules
    where
      together : HasStacks o 0 s.core.tasks s.stacks × AllByRecursion (AllRefer o []) s.stacks
      together =
          subst (λ (fs : List (List FrameRecord)). HasStacks o 0 s.core.tasks fs × AllByRecursion (AllRefer o []) fs) (sym frames)
          (subst (λ (c : CoreRecord). HasStacks o 0 c.tasks (stacks_of c.tasks parts) × AllByRecursion (AllRefer o []) (stacks_of c.tasks parts)) (sym core) (have_stacks, all_refer))

      rules : (n : ℕ) → Rule o s n
      rules zero = tt
      rules (suc zero) = r.valid
      rules (suc (suc zero)) = holds.parts
      rules (suc (suc (suc zero))) = holds.numbers
      rules (suc (suc (suc (suc zero)))) = holds.spans
      rules (suc (suc (suc (suc (suc zero))))) = together.0
      rules (suc (suc (suc (suc (suc (suc zero)))))) = together.1
      rules (suc (suc (suc (suc (suc (suc (suc n))))))) = tt

-- ---- from what is seen of the machine

module _ (o : Object) (setup : _) (k : Kept) (parts : List Part) (due : ℕ) (r : IsReady o setup k parts due) (s : Seen) (is : seen_of o k parts due ≡ s)
    (quiet : unsettled s.state ≡ None) (stacks : StacksKeepRules) (back : StacksComeBack) (saved : Saved) (core : saved.core ≡ record_of k.core)
    (frames : saved.stacks ≡ stacks_of saved.core.tasks parts) (lawful : (setup : Setup) → IsLawful setup k → IsRecord setup saved.core × (core_made setup saved.core ≡ untold k.core)) where
  settled : AllSettled k
  settled = all_settled o setup k parts due r s is quiet

  object : o ≡ s.object
  object = ap (λ (x : Seen). x.object) is

  pub saved_call : saved ≡ saved_of s.state
  saved_call = saved_is o setup k parts due r settled stacks back saved core frames ∙ ap (λ (x : Seen). saved_of x.state) is

  pub state_call : IsMachineState s.object saved
  state_call = subst (λ x. IsMachineState x saved) object (is_state o setup k parts due r settled stacks back saved core frames (lawful (setup_of o) r.lawful).0)

  pub ends_call : AllEnd saved.core
  ends_call = (lawful (setup_of o) r.lawful).0.ends

  pub again_call : s.state.core.told ≡ [] → resumed s.object saved ≡ before_offers s
  again_call taken =
      ap (λ x. resumed x saved) (sym object)
      ∙ comes_again o setup k parts due r settled stacks back saved core frames (lawful (setup_of o) r.lawful).1 (ap (λ (x : Seen). x.state.core.told) is ∙ taken)
      ∙ ap before_offers is
