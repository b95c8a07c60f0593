-- A state of an object is spelled, where no series of it lasts up to 2^64 - 1.
use Rattle.std.proofs.Common.{◌≡◌, ℕ, zero, suc, ◌+◌, ◌-◌, ◌≤◌, ◌<◌, ◌^◌, Bool, true, false, List, [], ◌∷◌, ◌++◌, length, inl, inr, Option, Some, None, refl, sym, ap, subst, ◌∙◌, arith, length-append}
use Rattle.std.specs.Prelude.{drop, map, reverse, slice_get, option_and_then, IfSome}
use Rattle.std.proofs.lemmas.Option.{slice_get_cases, slice_get_within}
use Rattle.std.proofs.lemmas.List.{length-map}
use Rattle.std.specs.List.{AllByRecursion, AllZip}
use Rattle.pearl_value.specs.declared.kind.Kind.{Kind}
use Rattle.pearl_value.specs.declared.kind.CellKind.{CellKind}
use Rattle.pearl_value.specs.declared.cell.Cell.{Cell}
use Rattle.pearl_value.specs.Cells.{kind_of}
use Rattle.pearl_value.specs.Kinds.{IsKind}
use Rattle.pearl_value.specs.Counts.{IsPreset}
use Rattle.pearl_value.specs.WellFormed.{IsTyped, IsValue, IsValueOf}
use Rattle.pearl_fields.specs.Codec.{rolled_fit, number}
use Rattle.pearl_rules.specs.Slots.{IsUrgency}
use Rattle.pearl_rules.specs.Tables.{IsInterrupt}
use Rattle.pearl_instructions.specs.declared.object.Leaf.{Leaf}
use Rattle.pearl_instructions.specs.declared.object.Code.{Code}
use Rattle.pearl_instructions.specs.declared.object.Parts.{Parts as Object}
use Rattle.pearl_instructions.specs.Objects.{routine_at}
use Rattle.pearl_instructions.specs.Setups.{entry_of, setup_of}
use Rattle.pearl_instructions.specs.Lawful.{IsLeaf, IsObject}
use Rattle.pearl_instructions.specs.declared.instr.Instr.TheVariants.{Call}
use Rattle.pearl_instructions.specs.Valid.{shape_before, IsValid}
use Rattle.pearl_object.specs.Literals.{literal}
use Rattle.pearl_object.specs.Operands.{flag}
use Rattle.pearl_snap.specs.declared.states.Free.{Free}
use Rattle.pearl_snap.specs.declared.states.CellRoom.{CellRoom}
use Rattle.pearl_records.specs.declared.record.Standing.{Standing}
use Rattle.pearl_records.specs.declared.record.Standing.TheVariants.{Dormant, Active}
use Rattle.pearl_records.specs.declared.record.EndRecord.{EndRecord}
use Rattle.pearl_records.specs.declared.record.EndRecord.TheVariants.{Never, Until, During}
use Rattle.pearl_records.specs.declared.record.SeriesRecord.{SeriesRecord}
use Rattle.pearl_records.specs.declared.record.PlanRecord.{PlanRecord}
use Rattle.pearl_records.specs.declared.record.ActivationRecord.{ActivationRecord}
use Rattle.pearl_records.specs.declared.record.TaskRecord.{TaskRecord}
use Rattle.pearl_saved.specs.declared.saved.Target.{Target}
use Rattle.pearl_saved.specs.declared.saved.Target.TheVariants.{Slot, Own}
use Rattle.pearl_saved.specs.declared.saved.SavedCell.{SavedCell}
use Rattle.pearl_saved.specs.declared.saved.SavedCell.TheVariants.{Value, Variable, Array}
use Rattle.pearl_saved.specs.declared.saved.FrameRecord.{FrameRecord}
use Rattle.pearl_saved.specs.declared.saved.Saved.{Saved}
use Rattle.pearl_snap.specs.Lists.{free, any_byte}
use Rattle.pearl_snap.specs.Cells.{target, reference, cell}
use Rattle.pearl_snap.specs.Plans.{end, series, maybe_series, plan, continuation, started, activation}
use Rattle.pearl_snap.specs.Tasks.{frame, all_cells, after_frame, frames as frames_part, acting, task as task_part}
use Rattle.pearl_snap.specs.States.{tasks_of, rows_of, stacks_of, typed, values, saved_fields, made_saved, saved}
use Rattle.pearl_records.specs.States.{HasNumbers, HasSpans, WaitsTyped, WaitsOf, IsUrgent, HasUrgencies, IsEnd, IsSeries, IsPlan, IsPlanned}
use Rattle.pearl_saved.specs.Rules.{kind_held, AreOf, IsHeld, Stands, IsStackOf, HasStack, HasStacks, value_kind, own_kind, Names, RefersWell, AllRefer, IsMachineState}
use Rattle.pearl_snap.specs.Parts.{HasParts}
use Rattle.pearl_records.specs.States.{EndsSooner, EndSooner, AllEnd}
use Rattle.pearl_snap.proofs.Fitting.{maybe_fits, kind_fits, value_fits, kind_stands, counted_fits, each_fits}
use Rattle.pearl_snap.proofs.Sorts.{slots_few, slot_few, zip_length, few_of_sort, few_inputs}
use Rattle.pearl_snap.proofs.Tables.{parts_alike}
use Rattle.pearl_saved.proofs.Offered.{used, used_all, frames_few}
use Rattle.pearl_snap.proofs.Asking.{turned}
use Rattle.pearl_snap.proofs.References.{back_all}

-- ---- plans

end_fits : (e : EndRecord) → IsEnd e → end.fits e
unfolding end
end_fits Never h = ((omega arith, refl), refl)
end_fits (Until time) h = ((omega arith, refl), (omega (arith, h), refl))
end_fits (During time) h = ((omega arith, refl), (omega (arith, h), refl))

series_fits : (s : SeriesRecord) → IsSeries s → IfSome s.last (λ last. last < 2 ^ 64 - 1) → series.fits s
unfolding series
series_fits s h last = ((omega (arith, h.0), (omega (arith, h.1), maybe_fits s.last last)), refl)

maybe_series_fits : (s : Option SeriesRecord) → IfSome s IsSeries → IfSome s (λ x. IfSome x.last (λ last. last < 2 ^ 64 - 1)) → maybe_series.fits s
unfolding maybe_series
maybe_series_fits None h last = ((omega arith, refl), refl)
maybe_series_fits (Some s) h last = ((omega arith, refl), (series_fits s h last, refl))

module _ (o : Object) (lawful : IsObject o) where
  when_fits : (when : Option ℕ) → IfSome when (λ interrupt. IsInterrupt (slice_get o.devices interrupt)) → IfSome when (λ n. n < 2 ^ 64 - 1)
  when_fits None h = tt
  when_fits (Some n) h = elim (slice_get_cases o.devices n).1 [
    | inl w ↦ (let less = w.1 in let few = lawful.few_devices in omega (arith, less, few))
    | inr none ↦ absurd (subst IsInterrupt none.1 h)
  ]

  plan_fits : (p : PlanRecord) → IsPlan (setup_of o) p → EndsSooner p → plan.fits p
  unfolding plan
  plan_fits p h ends =
      let after = h.after in
      let period = h.period in
      ((maybe_fits p.when (when_fits p.when h.when), (omega (arith, after), (omega (arith, period), (end_fits p.end h.end, maybe_series_fits p.series h.series ends)))), refl)

  continuation_fits : (p : Option PlanRecord) → IfSome p (IsPlan (setup_of o)) → IfSome p EndsSooner → continuation.fits p
  unfolding continuation
  continuation_fits None h ends = ((omega arith, refl), refl)
  continuation_fits (Some p) h ends = ((omega arith, refl), (plan_fits p h ends, refl))

  started_fits : (a : ActivationRecord) → IsPlan (setup_of o) a.plan → IsUrgency a.priority → EndsSooner a.plan → started.fits a
  unfolding started
  started_fits a h urgent ends = ((plan_fits a.plan h ends, (omega (arith, urgent.1), refl)), refl)

  activation_fits : (a : Option ActivationRecord) → IfSome a (λ start. IsPlan (setup_of o) start.plan) → IfSome a (λ start. IsUrgency start.priority) → IfSome a (λ start. EndsSooner start.plan) → activation.fits a
  unfolding activation
  activation_fits None h urgent ends = ((omega arith, refl), refl)
  activation_fits (Some a) h urgent ends = ((omega arith, refl), (started_fits a h urgent ends, refl))

-- ---- what a reference leads to

-- no more cells in a frame than a stack may have, and what they hold is held well
record IsGood (f : FrameRecord) : Type 0 where
  cells : AllByRecursion IsHeld f.cells
  few : length f.cells ≤ 4096

record IsTarget (n c : ℕ) (kind : Kind) : Type 0 where
  frame : n < 2 ^ 64
  cell : c < 2 ^ 64
  of : IsKind kind

held_kind : (x : SavedCell) (kind : Kind) → IsHeld x → value_kind x ≡ Some kind → IsKind kind
held_kind (Value x) kind h e = let same : kind_of x ≡ kind = cc in subst IsKind same (kind_stands x h)
held_kind (Variable reference) kind h e = absurd cc
held_kind (Array array) kind h e = absurd cc

cell_found : (cells : List SavedCell) (c : ℕ) (kind : Kind) → AllByRecursion IsHeld cells → option_and_then value_kind (slice_get cells c) ≡ Some kind → (c < length cells) × IsKind kind
cell_found [] c kind h e = absurd cc
cell_found (x ∷ cells) zero kind h e = (omega arith, held_kind x kind h.0 e)
cell_found (x ∷ cells) (suc c) kind h e = let r = cell_found cells c kind h.1 e in (omega (arith, r.0), r.1)

record Found (frames : List FrameRecord) (n c : ℕ) (kind : Kind) : Type 0 where
  frame : n < length frames
  cell : c < 4097
  of : IsKind kind

own_found : (frames : List FrameRecord) (n c : ℕ) (kind : Kind) → AllByRecursion IsGood frames → own_kind frames n c ≡ Some kind → Found frames n c kind
own_found [] n c kind h e = absurd cc
own_found (f ∷ frames) zero c kind h e =
    let r = cell_found f.cells c kind h.0.cells e in
    let few = h.0.few in
    record { frame = omega arith; cell = omega (arith, r.0, few); of = r.1 }
own_found (f ∷ frames) (suc n) c kind h e =
    let r = own_found frames n c kind h.1 e in
    let less = r.frame in
    record { frame = omega (arith, less); cell = r.cell; of = r.of }

kind_of_leaf : (leaves : List Leaf) (v : ℕ) (leaf : Leaf) → AllByRecursion IsLeaf leaves → slice_get leaves v ≡ Some leaf → IsKind leaf.kind
kind_of_leaf [] v leaf h e = absurd cc
kind_of_leaf (first ∷ leaves) zero leaf h e = let same : first ≡ leaf = cc in subst (λ l. IsKind l.kind) same h.0.kind
kind_of_leaf (first ∷ leaves) (suc v) leaf h e = kind_of_leaf leaves v leaf h.1 e

-- ---- cells

module _ (o : Object) (lawful : IsObject o) where
  module _ (lower : List FrameRecord) (good : AllByRecursion IsGood lower) (few : length lower ≤ 1000) where
    target_fits : (t : Target) (kind : Kind) → Names o lower kind t 1 → target.fits t × IsKind kind
    unfolding target
    target_fits (Slot slot) kind h =
        let all = slot_few o lawful h.number h.leaf h.there in
        let up = h.up_to in
        (((omega arith, refl), (omega (arith, all, up), refl)), subst IsKind h.of (kind_of_leaf o.leaves h.number h.leaf lawful.leaves h.there))
    target_fits (Own n c) kind h =
        let zero_more : c + 0 ≡ c = omega arith in
        let r = own_found lower n c kind good (subst (λ d. own_kind lower n d ≡ Some kind) zero_more (h 0 (omega arith))) in
        let frame = r.frame in
        let cell = r.cell in
        (((omega arith, refl), ((omega (arith, frame, few), omega (arith, cell)), refl)), r.of)

    cell_fits : (x : SavedCell) (k : CellKind) → kind_held x ≡ Some k → IsHeld x → RefersWell o lower x → cell.fits x
    unfolding cell reference
    cell_fits (Value x) k e held h = ((omega arith, refl), (value_fits x held, refl))
    cell_fits (Variable r) k e held h =
        let t = target_fits r.target r.kind h in ((omega arith, refl), (((kind_fits r.kind t.1, t.0), refl), refl))
    cell_fits (Array array) k e held h = absurd cc

    cells_fit : (kinds : List CellKind) (xs : List SavedCell) → AreOf kinds xs → AllByRecursion IsHeld xs → AllByRecursion (RefersWell o lower) xs → rolled_fit (λ (s : Free). cell) (λ s x. s) free xs
    cells_fit kinds [] e held h = tt
    cells_fit [] (x ∷ xs) e held h = absurd cc
    cells_fit (k ∷ kinds) (x ∷ xs) e held h =
        let one : kind_held x ≡ Some k = cc in
        let more : map kind_held xs ≡ map Some kinds = cc in
        (cell_fits x k one held.0 h.0, cells_fit kinds xs more held.1 h.1)

-- ---- frames

-- no routine has more instructions than can be counted
abbrev pub AreCounted : Object → Type 0
AreCounted o = (r : ℕ) (code : Code) → routine_at o r ≡ Some code → length code.instructions < 2 ^ 64

-- a frame of a routine, somewhere in its code
record IsFrame (o : Object) (f : FrameRecord) : Type 0 where
  code : Code
  shape : List CellKind
  routine : routine_at o f.routine ≡ Some code
  place : f.place < length code.instructions
  stands : Stands code shape f

standing_frames : (o : Object) (routine : ℕ) (frames : List FrameRecord) → IsStackOf o routine frames → AllByRecursion (IsFrame o) frames
standing_frames o routine [] h = absurd h
standing_frames o routine (f ∷ []) h =
    (record { code = h.1.code; shape = shape_before o f.routine h.1.code f.place; routine = h.1.routine; place = h.1.place; stands = h.1.stands }, tt)
standing_frames o routine (f ∷ above ∷ more) h =
    let call = h.1 in (
      record {
        code = call.code;
        shape = drop call.callee.params (shape_before o f.routine call.code f.place);
        routine = call.routine;
        place = slice_get_within call.code.instructions f.place (Call above.routine) call.place;
        stands = call.stands;
      },
      standing_frames o above.routine (above ∷ more) h.2,
    )

routine_few : (o : Object) → IsObject o → (r : ℕ) (code : Code) → routine_at o r ≡ Some code → r < 2 ^ 64
routine_few o h r code e =
    let procedures = map (λ p. p.code) o.procedures in
    let tasks = map (λ t. t.code) o.tasks in
    let less = slice_get_within (procedures ++ tasks) r code e in
    let few = h.few_procedures in
    let some = h.few_tasks in
    omega (arith, less, length-append procedures tasks, length-map o.procedures (λ p. p.code), length-map o.tasks (λ t. t.code), few, some)

good_frame : (o : Object) (f : FrameRecord) → IsFrame o f → length f.cells ≤ 4096 → IsGood f
good_frame o f h few = record { cells = (back_all IsHeld f.cells f.operands h.stands.values).0; few = few }

put_last : {X : Type 0} (P : X → Type 0) (xs : List X) (x : X) → AllByRecursion P xs → P x → AllByRecursion P (xs ++ x ∷ [])
put_last P [] x h p = (p, tt)
put_last P (y ∷ xs) x h p = (h.0, put_last P xs x h.1 p)

module _ (o : Object) (lawful : IsObject o) (counted : AreCounted o) where
  frame_fits : (lower : List FrameRecord) → AllByRecursion IsGood lower → length lower < 1000 → (room : CellRoom) (f : FrameRecord) → IsFrame o f → length f.cells + length f.operands ≤ room.left → room.left ≤ 4096
      → AllByRecursion (RefersWell o lower) f.cells → AllByRecursion (RefersWell o (lower ++ f ∷ [])) f.operands → (frame room).fits f
  unfolding frame
  frame_fits lower good few room f h less small cells operands =
      let held = back_all IsHeld f.cells f.operands h.stands.values in
      let own = lower ++ f ∷ [] in
      let own_good = put_last IsGood lower f good (good_frame o f h (omega (arith, less, small))) in
      let own_few : length own ≤ 1000 = omega (arith, few, length-append lower (f ∷ [])) in
      let many = counted f.routine h.code h.routine in
      let place = h.place in
      let on = (turned h.shape f.operands).1 h.stands.operands in
      let some : length lower ≤ 1000 = omega (arith, few) in (
        (
          routine_few o lawful f.routine h.code h.routine,
          (
            omega (arith, place, many),
            (
              counted_fits room.left cell.bytes (λ (s : Free). cell) (λ s x. s) free f.cells (omega (arith, small)) (omega (arith, less)) (cells_fit o lawful lower good some h.code.cells f.cells h.stands.cells held.0 cells),
              counted_fits (room.left - length f.cells) cell.bytes (λ (s : Free). cell) (λ s x. s) free f.operands (omega (arith, small)) (omega (arith, less)) (cells_fit o lawful own own_good own_few (reverse h.shape) f.operands on held.1 operands),
            ),
          ),
        ),
        refl,
      )

  frames_roll : (lower more : List FrameRecord) → AllByRecursion IsGood lower → length lower + length more ≤ 1000 → AllByRecursion (IsFrame o) more → AllRefer o lower more
      → (room : CellRoom) → used more ≤ room.left → room.left ≤ 4096 → rolled_fit frame after_frame room more
  frames_roll lower [] good few stand refer room less small = tt
  frames_roll lower (f ∷ more) good few stand refer room less small = (
    frame_fits lower good (omega (arith, few)) room f stand.0 (omega (arith, less)) small refer.0 refer.1,
    frames_roll (lower ++ f ∷ []) more (put_last IsGood lower f good (good_frame o f stand.0 (omega (arith, less, small)))) (omega (arith, few, length-append lower (f ∷ []))) stand.1 refer.2
        (after_frame room f) (omega (arith, less)) (omega (arith, small)),
  )

  module _ (valid : IsValid o) where
    stack_fits : (routine : ℕ) (stack : List FrameRecord) → IsStackOf o routine stack → AllRefer o [] stack → frames_part.fits stack
    stack_fits routine stack h refer =
        let few = frames_few o valid routine stack h in
        let procedures = lawful.few_procedures in
        counted_fits 201 (frame all_cells).bytes frame after_frame all_cells stack (omega arith) (omega (arith, few, procedures))
        (frames_roll [] stack tt (omega (arith, few, procedures)) (standing_frames o routine stack h) refer all_cells (used_all o valid routine stack h) (omega arith))

    -- ---- tasks

    priority_fits : (p : ℕ) → IsUrgency p → any_byte.fits p
    priority_fits p h = (omega (arith, h.1), refl)

    acting_fits : (priority : ℕ) (kept : List ℕ) (on : Option PlanRecord) (starts : Option ActivationRecord) (stack : List FrameRecord) → IsUrgency priority × AllByRecursion IsUrgency kept × (length kept ≤ 3)
        → continuation.fits on → activation.fits starts → frames_part.fits stack → acting.fits (priority, (kept, (on, (starts, stack))))
    unfolding acting
    acting_fits priority kept on starts stack h c a f =
        (priority_fits priority h.0, (each_fits any_byte IsUrgency priority_fits 3 kept (omega arith) h.2 h.1, (c, (a, f))))

    task_fits : (t : ℕ) (standing : Standing) (on : Option PlanRecord) (starts : Option ActivationRecord) (stack : List FrameRecord) → IsUrgent standing → HasStack o t standing stack → AllRefer o [] stack
        → continuation.fits on → activation.fits starts → task_part.fits (record { row = record { standing = standing; continuation = on; activation = starts }; frames = stack })
    unfolding task_part
    task_fits t Dormant on starts stack urgent h refer c a =
        ((omega arith, refl), ((c, a), ap (λ fs. record { row = record { standing = Dormant; continuation = on; activation = starts }; frames = fs }) (sym h)))
    task_fits t (Active priority false kept) on starts stack urgent h refer c a =
        ((omega arith, refl), (acting_fits priority kept on starts stack urgent c a (stack_fits (length o.procedures + t) stack h refer), refl))
    task_fits t (Active priority true kept) on starts stack urgent h refer c a =
        ((omega arith, refl), (acting_fits priority kept on starts stack urgent c a (stack_fits (length o.procedures + t) stack h refer), refl))

    row_fits : (t : ℕ) (row : TaskRecord) (stack : List FrameRecord) → HasUrgencies row → IsPlanned (setup_of o) row → EndSooner row → HasStack o t row.standing stack → AllRefer o [] stack → task_part.fits (record { row = row; frames = stack })
    row_fits t row stack urgent planned ends h refer =
        task_fits t row.standing row.continuation row.activation stack urgent.0 h refer
        (continuation_fits o lawful row.continuation planned.goes_on ends.0) (activation_fits o lawful row.activation planned.starts urgent.1 ends.1)

    rows_fit : (t : ℕ) (rows : List TaskRecord) (stacks : List (List FrameRecord)) → AllByRecursion HasUrgencies rows → AllByRecursion (IsPlanned (setup_of o)) rows → AllByRecursion EndSooner rows → HasStacks o t rows stacks → AllByRecursion (AllRefer o []) stacks
        → rolled_fit (λ (s : Free). task_part) (λ s x. s) free (tasks_of rows stacks)
    rows_fit t [] [] urgent planned ends h refer = tt
    rows_fit t [] (stack ∷ stacks) urgent planned ends h refer = absurd h
    rows_fit t (row ∷ rows) [] urgent planned ends h refer = absurd h
    rows_fit t (row ∷ rows) (stack ∷ stacks) urgent planned ends h refer =
        (row_fits t row stack urgent.0 planned.0 ends.0 h.0 refer.0, rows_fit (t + 1) rows stacks urgent.1 planned.1 ends.1 h.1 refer.1)

-- ---- states

module _ (o : Object) where
  record Together (rows : List TaskRecord) (stacks : List (List FrameRecord)) : Type 0 where
    rows_are : rows_of (tasks_of rows stacks) ≡ rows
    stacks_are : stacks_of (tasks_of rows stacks) ≡ stacks
    many : length (tasks_of rows stacks) ≡ length rows

  together : (t : ℕ) (rows : List TaskRecord) (stacks : List (List FrameRecord)) → HasStacks o t rows stacks → Together rows stacks
  together t [] [] h = record { rows_are = refl; stacks_are = refl; many = refl }
  together t [] (stack ∷ stacks) h = absurd h
  together t (row ∷ rows) [] h = absurd h
  together t (row ∷ rows) (stack ∷ stacks) h =
      let r = together (t + 1) rows stacks h.1 in
      record { rows_are = ap (λ xs. row ∷ xs) r.rows_are; stacks_are = ap (λ xs. stack ∷ xs) r.stacks_are; many = ap suc r.many }

put_back : (s : Saved) → rows_of (tasks_of s.core.tasks s.stacks) ≡ s.core.tasks → stacks_of (tasks_of s.core.tasks s.stacks) ≡ s.stacks → made_saved (saved_fields s) ≡ s
put_back s rows stacks =
    ap (λ r. record { core = record s.core { tasks = r }; stacks = stacks_of (tasks_of s.core.tasks s.stacks) }) rows
    ∙ ap (λ z. record { core = s.core; stacks = z }) stacks

values_of : (kinds : List Kind) (xs : List Cell) → AllZip IsValueOf kinds xs → AllByRecursion IsValue xs
values_of [] [] h = tt
values_of [] (x ∷ xs) h = absurd h
values_of (k ∷ kinds) [] h = absurd h
values_of (k ∷ kinds) (x ∷ xs) h = (h.0.is_value, values_of kinds xs h.1)

abbrev Waits : List Cell → Type 0
Waits pending = AllByRecursion IsValue pending × (length pending ≤ 256)

pending_values : (kind : Kind) (xs : List Cell) → AllByRecursion (IsValueOf kind) xs → AllByRecursion IsValue xs
pending_values kind [] h = tt
pending_values kind (x ∷ xs) h = (h.0.is_value, pending_values kind xs h.1)

waiting : (kinds : List Kind) (xs : List (List Cell)) → AllZip WaitsOf kinds xs → AllByRecursion Waits xs
waiting [] [] h = tt
waiting [] (x ∷ xs) h = absurd h
waiting (k ∷ kinds) [] h = absurd h
waiting (k ∷ kinds) (x ∷ xs) h = ((pending_values k x h.0.0, h.0.1), waiting kinds xs h.1)

typed_fits : (b : ℕ) → IsTyped b → any_byte.fits b
typed_fits b (inl e) = (omega (arith, e), refl)
typed_fits b (inr h) = (omega (arith, h.1), refl)

typed_list_fits : (pending : List ℕ) → WaitsTyped pending → typed.fits pending
typed_list_fits pending h = each_fits any_byte IsTyped typed_fits 4096 pending (omega arith) h.1 h.0

values_fit : (pending : List Cell) → Waits pending → values.fits pending
values_fit pending h = each_fits (literal None) IsValue value_fits 256 pending (omega arith) h.1 h.0

abbrev Any : {X : Type 0} → X → Type 0
Any x = Unit {0}

any_all : {X : Type 0} (xs : List X) → AllByRecursion Any xs
any_all [] = tt
any_all (x ∷ xs) = (tt, any_all xs)

flag_fits : (b : Bool) → flag.fits b
unfolding flag
flag_fits true = ((omega arith, refl), refl)
flag_fits false = ((omega arith, refl), refl)

pub state_fits : (o : Object) (s : Saved) → IsObject o → AreCounted o → IsMachineState o s → AllEnd s.core → saved.fits s
unfolding saved
state_fits o s lawful counted is ends =
    let c = s.core in
    let valid : IsValid o = is 1 in
    let parts : HasParts o c = (parts_alike o c lawful).0 (is 2) in
    let numbers : HasNumbers (setup_of o) c = is 3 in
    let plans : HasSpans (setup_of o) c = is 4 in
    let stand : HasStacks o 0 c.tasks s.stacks = is 5 in
    let refer : AllByRecursion (AllRefer o []) s.stacks = is 6 in
    let pairs = together o 0 c.tasks s.stacks stand in
    let moment = numbers.moment in
    let clock = numbers.clock in
    let many = pairs.many in
    let tasks = parts.tasks in
    let few = lawful.few_tasks in
    let counts = parts.as_many_counts in
    let semaphores = lawful.few_semaphores in
    let switches = parts.switches in
    let terminals = parts.as_many_terminals in (
      (
        omega (arith, moment),
        (
          omega (arith, clock),
          (
            maybe_fits c.last (last_fits c.last (last_task c.last numbers.last) few),
            (
              each_fits (literal None) IsValue value_fits 65536 c.slots (omega arith) (omega (arith, slots_few o lawful, zip_length IsValueOf _ c.slots parts.slots)) (values_of _ c.slots parts.slots),
              (
                each_fits number IsPreset (λ n h. omega (arith, h)) 1000 c.counts (omega arith) (omega (arith, counts, semaphores)) parts.counts,
                (
                  each_fits flag Any (λ b h. flag_fits b) 99 c.switches (omega arith) (omega (arith, switches, few_of_sort o 0 lawful)) (any_all c.switches),
                  (
                    each_fits typed WaitsTyped typed_list_fits 99 c.terminals (omega arith) (omega (arith, terminals, few_of_sort o 1 lawful)) parts.terminals,
                    (
                      each_fits values Waits values_fit 99 c.inputs (omega arith) (omega (arith, few_inputs o lawful, zip_length WaitsOf _ c.inputs parts.inputs)) (waiting _ c.inputs parts.inputs),
                      counted_fits 200 task_part.bytes (λ (s : Free). task_part) (λ s x. s) free (tasks_of c.tasks s.stacks) (omega arith) (omega (arith, many, tasks, few))
                          (rows_fit o lawful counted valid 0 c.tasks s.stacks numbers.priorities plans ends stand refer),
                    ),
                  ),
                ),
              ),
            ),
          ),
        ),
      ),
      put_back s pairs.rows_are pairs.stacks_are,
    )
  where
    last_task : (last : Option ℕ) → IfSome last (λ task. task < length (map entry_of o.tasks)) → IfSome last (λ task. task < length o.tasks)
    last_task None h = tt
    last_task (Some n) h = omega (arith, h, length-map o.tasks entry_of)

    last_fits : (last : Option ℕ) → IfSome last (λ task. task < length o.tasks) → length o.tasks ≤ 200 → IfSome last (λ n. n < 2 ^ 64 - 1)
    last_fits None h few = tt
    last_fits (Some n) h few = omega (arith, h, few)
