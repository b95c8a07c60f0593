-- A stack of a valid object stands at an instruction, and what a step leaves is again such a stack.
use Rattle.std.proofs.Common.{◌≡◌, ℕ, zero, suc, ◌+◌, ◌<◌, ◌≤◌, List, [], ◌∷◌, ◌++◌, Option, Some, None, length, map, slice_get, refl, sym, ap, ◌∙◌, subst, arith, Bool, true, false, eqb, eq-eqb}
use Rattle.std.specs.Prelude.{IsSome, option_map, option_and_then}
use Rattle.std.specs.List.{AllByRecursion, AllZip}
use Rattle.std.proofs.lemmas.Option.{same_Some}
use Rattle.pearl_value.specs.declared.kind.CellKind.{CellKind}
use Rattle.pearl_value.specs.declared.kind.CellKind.TheVariants.{Plain, RefTo}
use Rattle.pearl_value.specs.declared.cell.Cell.{Cell}
use Rattle.pearl_value.specs.declared.cell.Cell.TheVariants.{Fixed, Bits, Chars, Clock, Span, Ref}
use Rattle.pearl_stack.specs.declared.stack.Frame as size
use Rattle.pearl_stack.specs.Frames.{Frame, Stack, frame_at, sizes, used}
use Rattle.pearl_instructions.specs.declared.instr.Instr.{Instr}
use Rattle.pearl_instructions.specs.declared.object.Code.{Code}
use Rattle.pearl_instructions.specs.declared.object.Parts.{Parts as Object}
use Rattle.pearl_instructions.specs.Objects.{routines, routine_at}
use Rattle.pearl_instructions.specs.Kinds.{v3, v4, v5, shape_after}
use Rattle.pearl_instructions.specs.Lawful.{IsInstr, IsProcedure, IsTask, IsObject}
use Rattle.pearl_instructions.specs.Named.{v1}
use Rattle.pearl_instructions.specs.Operands.{Shape, asked, v2}
use Rattle.pearl_instructions.specs.Owned.{IsOfTask, Moves, Afterwards}
use Rattle.pearl_instructions.specs.Rows.{row, act, instr_at}
use Rattle.pearl_instructions.specs.Stacks.{routines_of, Suits, IsStack, Goes, task_of, depth_or_none, room}
use Rattle.pearl_instructions.specs.Steps.{Step, Silent, Offers, Missing, given}
use Rattle.pearl_instructions.specs.Valid.{keep, shape_before, judged, judged_at, unsound_in, v6, v7, v8, v10, v11, v12, IsValid}
use Rattle.pearl_silent.specs.Steps.{Stepped}
use Rattle.pearl_silent.specs.Steps.{GoesOn, Halts}
use Rattle.pearl_silent.specs.Known.{Known}
use Rattle.pearl_silent.specs.Steps.{Does, Applies, IsFormed, IsSizes, IsHere}
use Rattle.pearl_silent.specs.Standing.{act_on, instr_of, StandsAt}
use Rattle.pearl_silent.proofs.Filling.{all_given}
use Rattle.pearl_silent.proofs.Tops.{has_next}

-- the row is that of the instruction
pub row_is : (o : Object) (frames : List Frame) (instr : Instr) → instr_of o frames ≡ Some instr → row o frames ≡ act_on o instr frames
row_is o [] instr e = refl
row_is o (f ∷ lower) instr e = ap (λ i. given i (λ instr. act o instr f lower)) e

-- a task states the same depth, whatever its frames are

pub room_of_task : (o : Object) (task : ℕ) (frames : List Frame) → IsOfTask o task frames → room o frames ≡ depth_or_none (routine_at o (length o.procedures + task))
room_of_task o task [] never = absurd never
room_of_task o task (f ∷ []) of = ap (λ r. depth_or_none (routine_at o r)) of
room_of_task o task (f ∷ g ∷ lower) of = room_of_task o task (g ∷ lower) of

abbrev Stays : Object → ℕ → Step → Type 0
Stays o own step = Afterwards o own (IsOfTask o own) step

only_task : (o : Object) (own : ℕ) (P : List Frame → Type 0) (step : Step) → Afterwards o own (λ next. P next × IsOfTask o own next) step → Stays o own step
only_task o own P (Silent frames) h = h.1
only_task o own P (Offers action go) h = λ answer suits. (h answer suits).1
only_task o own P Missing h = tt

some_instr : (o : Object) (f : Frame) (lower : List Frame) (i : Option Instr) → instr_at o f ≡ i → Goes o (task_of o (f ∷ lower)) (row o (f ∷ lower)) →
    (instr : Instr) × (instr_at o f ≡ Some instr)
some_instr o f lower None e goes =
    absurd (subst (Goes o (task_of o (f ∷ lower))) (ap (λ i. given i (λ instr. act o instr f lower)) e) goes)
some_instr o f lower (Some instr) e goes = (instr, e)

pub row_stays : Known → (o : Object) → IsValid o → IsObject o → (frames : List Frame) → IsStack o frames → Stays o (task_of o frames) (row o frames)
row_stays k o v w [] never = absurd never
row_stays k o v w (f ∷ lower) t =
    let own : ℕ = task_of o (f ∷ lower) in
    let instr = some_instr o f lower (instr_at o f) refl (k.leads o v w (f ∷ lower) t) in
    only_task o own (Moves instr.0 f lower) (row o (f ∷ lower)) (k.stays o own f lower instr.0 (k.task o (f ∷ lower) t).1 instr.1)

pub task_is : (o : Object) (task : ℕ) (frames : List Frame) → IsOfTask o task frames → task_of o frames ≡ task
task_is o task [] never = absurd never
task_is o task (f ∷ []) of = omega (arith, of)
task_is o task (f ∷ g ∷ lower) of = task_is o task (g ∷ lower) of

pub same_room : Known → (o : Object) (frames next : List Frame) → IsStack o frames → IsOfTask o (task_of o frames) next → room o next ≡ room o frames
same_room k o frames next t of = room_of_task o (task_of o frames) next of ∙ sym (room_of_task o (task_of o frames) frames (k.task o frames t).1)

-- there is a row, and memory for what it leaves

ready_by : Known → (o : Object) (v : IsValid o) (frames : List Frame) (most : ℕ) (step : Step) → IsStack o frames → room o frames ≤ most →
    Goes o (task_of o frames) step → Stays o (task_of o frames) step → Applies step most
ready_by k o v frames most Missing t less goes stays = goes
ready_by k o v frames most (Offers action go) t less goes stays = tt
ready_by k o v frames most (Silent next) t less goes stays =
    let deep : used next ≤ room o next = k.depth o v next goes in
    let same = same_room k o frames next t stays in
    omega (arith, deep, same, less)

pub row_ready : Known → (o : Object) → IsValid o → IsObject o → (frames : List Frame) (most : ℕ) → IsStack o frames → room o frames ≤ most → Applies (row o frames) most
row_ready k o v w frames most t less = ready_by k o v frames most (row o frames) t less (k.leads o v w frames t) (row_stays k o v w frames t)

-- what a step leaves is a stack of the object, with memory

kept_by : Known → (o : Object) (old now : Stack) (step : Step) (result : Stepped) → IsStack o old.frames → room o old.frames ≤ old.room →
    Goes o (task_of o old.frames) step → Stays o (task_of o old.frames) step → Does step old now result → IsStack o now.frames × (room o now.frames ≤ now.room)
kept_by k o old now step GoesOn t less goes stays does =
    let next : Goes o (task_of o old.frames) (Silent now.frames) = subst (Goes o (task_of o old.frames)) does.0 goes in
    let of : Stays o (task_of o old.frames) (Silent now.frames) = subst (Stays o (task_of o old.frames)) does.0 stays in
    let same = same_room k o old.frames now.frames t of in
    (next, omega (arith, same, does.1, less))
kept_by k o old now step (Halts action) t less goes stays does =
    subst (λ (s : Stack). IsStack o s.frames × (room o s.frames ≤ s.room)) (sym does.2) (t, less)

pub kept : Known → (o : Object) (old now : Stack) (result : Stepped) → IsValid o → IsObject o → IsStack o old.frames → room o old.frames ≤ old.room →
    Does (row o old.frames) old now result → IsStack o now.frames × (room o now.frames ≤ now.room)
kept k o old now result v w t less does =
    kept_by k o old now (row o old.frames) result t less (k.leads o v w old.frames t) (row_stays k o v w old.frames t) does

-- the stack stays that of its task

same_by : (o : Object) (old now : Stack) (step : Step) (result : Stepped) → Stays o (task_of o old.frames) step → Does step old now result → task_of o now.frames ≡ task_of o old.frames
same_by o old now step GoesOn stays does = task_is o (task_of o old.frames) now.frames (subst (Stays o (task_of o old.frames)) does.0 stays)
same_by o old now step (Halts action) stays does = ap (λ (s : Stack). task_of o s.frames) does.2

pub same_task : Known → (o : Object) (old now : Stack) (result : Stepped) → IsValid o → IsObject o → IsStack o old.frames → Does (row o old.frames) old now result →
    task_of o now.frames ≡ task_of o old.frames
same_task k o old now result v w t does = same_by o old now (row o old.frames) result (row_stays k o v w old.frames t) does

-- cells and operands are values or references

formed : (o : Object) (rs : List ℕ) (k : CellKind) (x : Cell) → Suits o rs k x → IsFormed x
formed o rs (Plain of) (Fixed len n) is = is.is_value
formed o rs (Plain of) (Bits len n) is = is.is_value
formed o rs (Plain of) (Chars text) is = is.is_value
formed o rs (Plain of) (Clock time) is = is.is_value
formed o rs (Plain of) (Span time) is = is.is_value
formed o rs (Plain of) (Ref kind place) is = tt
formed o rs (RefTo of) (Ref kind place) is = tt
formed o rs (RefTo of) (Fixed len n) is = absurd is
formed o rs (RefTo of) (Bits len n) is = absurd is
formed o rs (RefTo of) (Chars text) is = absurd is
formed o rs (RefTo of) (Clock time) is = absurd is
formed o rs (RefTo of) (Span time) is = absurd is

all_formed : (o : Object) (rs : List ℕ) (ks : List CellKind) (xs : List Cell) → AllZip (Suits o rs) ks xs → AllByRecursion IsFormed xs
all_formed o rs [] [] z = tt
all_formed o rs [] (x ∷ xs) z = absurd z
all_formed o rs (k ∷ ks) [] z = absurd z
all_formed o rs (k ∷ ks) (x ∷ xs) z = (formed o rs k x z.0, all_formed o rs ks xs z.1)

-- what the rules say of the instruction

pub keeps : (b : Bool) (rule : ℕ) (more : Option ℕ) → keep b rule more ≡ None → (b ≡ true) × (more ≡ None)
keeps true rule more e = (refl, e)
keeps false rule more e = cc

rules : (o : Object) (r : ℕ) (code : Code) (i : ℕ) (instr : Instr) (s : Shape) → judged o r code i instr s ≡ None → (v1 o code instr ≡ true) × (v12 o code instr s ≡ true)
rules o r code i instr s e =
    let a = keeps (v1 o code instr) 1 _ e in
    let b = keeps (v2 (asked o r instr) s) 2 _ a.1 in
    let c = keeps (v3 instr s) 3 _ b.1 in
    let d = keeps (v4 o code instr s) 4 _ c.1 in
    let f = keeps (v5 o code instr) 5 _ d.1 in
    let g = keeps (v6 o r code i instr (shape_after o r code instr s)) 6 _ f.1 in
    let h = keeps (v7 code i instr) 7 _ g.1 in
    let j = keeps (v8 o r instr) 8 _ h.1 in
    let k = keeps (v10 o r instr s) 10 _ j.1 in
    let l = keeps (v11 o code instr s) 11 _ k.1 in
    let m = keeps (v12 o code instr s) 12 _ l.1 in
    (a.0, m.0)

rules_at : (o : Object) (r : ℕ) (code : Code) (i : ℕ) (instr : Instr) → IsValid o → routine_at o r ≡ Some code → slice_get code.instructions i ≡ Some instr →
    (v1 o code instr ≡ true) × (v12 o code instr (shape_before o r code i) ≡ true)
rules_at o r code i instr v e h =
    let a : judged_at o r code i (slice_get code.instructions i) ≡ None = ap (λ x. unsound_in o r x i) (sym e) ∙ v.sound r i in
    let b : judged_at o r code i (Some instr) ≡ None = ap (judged_at o r code i) (sym h) ∙ a in
    rules o r code i instr (shape_before o r code i) b

-- each routine's code is lawful

all_front : {A : Type 0} (P : A → Type 0) (xs ys : List A) → AllByRecursion P xs → AllByRecursion P ys → AllByRecursion P (xs ++ ys)
all_front P [] ys a b = b
all_front P (x ∷ xs) ys a b = (a.0, all_front P xs ys a.1 b)

all_mapped : {A B : Type 0} (P : A → Type 0) (Q : B → Type 0) (f : A → B) (xs : List A) → ((x : A) → P x → Q (f x)) → AllByRecursion P xs → AllByRecursion Q (map f xs)
all_mapped P Q f [] h a = tt
all_mapped P Q f (x ∷ xs) h a = (h x a.0, all_mapped P Q f xs h a.1)

instructions_are : (o : Object) (r : ℕ) (code : Code) → IsObject o → routine_at o r ≡ Some code → AllByRecursion IsInstr code.instructions
instructions_are o r code w e = all_given (λ code. AllByRecursion IsInstr code.instructions) (routines o) r code
    (all_front (λ code. AllByRecursion IsInstr code.instructions) (map (λ p. p.code) o.procedures) (map (λ t. t.code) o.tasks)
    (all_mapped IsProcedure (λ code. AllByRecursion IsInstr code.instructions) (λ p. p.code) o.procedures (λ p is. is.code.instructions) w.procedures)
    (all_mapped IsTask (λ code. AllByRecursion IsInstr code.instructions) (λ t. t.code) o.tasks (λ t is. is.code.instructions) w.tasks)) e

-- the top frame, by its number

pub frame_there : (o : Object) (frames : List Frame) (n : ℕ) → IsStack o frames → suc n ≡ length frames → IsSome (frame_at frames n)
frame_there o [] n never e = absurd never
frame_there o (f ∷ lower) n t e =
    let same : eqb n (length lower) ≡ true = eq-eqb n (length lower) (omega (arith, e)) in
    rw same refl

pub top_sizes : (o : Object) (frames : List Frame) (n : ℕ) (here : size.Frame) → IsStack o frames → suc n ≡ length frames →
    option_map sizes (frame_at frames n) ≡ Some here → IsSizes here frames
top_sizes o [] n here never e h = absurd never
top_sizes o (f ∷ lower) n here t e h =
    let same : eqb n (length lower) ≡ true = eq-eqb n (length lower) (omega (arith, e)) in
    sym (same_Some (sizes f) here (rw same at h))

pub frames_some : (o : Object) (frames : List Frame) → IsStack o frames → 0 < length frames
frames_some o [] never = absurd never
frames_some o (f ∷ lower) t = omega arith

-- the instruction at which the top frame is

abbrev pub read_at : Object → size.Frame → Option Instr
read_at o here = option_and_then (λ code. slice_get code.instructions here.instruction) (routine_at o here.routine)

pub read_is : (o : Object) (frames : List Frame) (here : size.Frame) → IsSizes here frames → read_at o here ≡ instr_of o frames
read_is o [] here never = absurd never
read_is o (f ∷ lower) here is = ap (read_at o) is

some_at : {A : Type 0} (xs : List A) (n : ℕ) → n < length xs → IsSome (slice_get xs n)
some_at [] n h = absurd (omega (arith, h))
some_at (x ∷ xs) zero h = refl
some_at (x ∷ xs) (suc n) h = some_at xs n (omega (arith, h))

pub instr_there : (o : Object) (frames : List Frame) → IsStack o frames → IsSome (instr_of o frames)
instr_there o [] never = absurd never
instr_there o (f ∷ lower) t =
    subst (λ c. IsSome (option_and_then (λ (code : Code). slice_get code.instructions f.place) c)) (sym t.routine) (some_at t.code.instructions f.place t.place)

-- it stands there

on_frames : Known → (o : Object) → IsValid o → IsObject o → (frames : List Frame) (most : ℕ) (instr : Instr) (here : size.Frame) → IsStack o frames → room o frames ≤ most →
    IsHere here frames → instr_of o frames ≡ Some instr → StandsAt o instr here (record { frames = frames; room = most; most = 0 })
on_frames k o v w [] most instr here never less sizes there = absurd never
on_frames k o v w (f ∷ lower) most instr here t less sizes there =
    let e : row o (f ∷ lower) ≡ act_on o instr (f ∷ lower) = row_is o (f ∷ lower) instr there in
    let at : slice_get t.code.instructions f.place ≡ Some instr =
    ap (option_and_then (λ (code : Code). slice_get code.instructions f.place)) (sym t.routine) ∙ there in
    let kept = rules_at o f.routine t.code f.place instr v t.routine at in
    record {
      lawful = w;
      stack = t;
      sizes = sizes;
      next = has_next here (f ∷ lower) sizes;
      ready = subst (λ r. Applies r most) e (row_ready k o v w (f ∷ lower) most t less);
      operands = all_formed o (f.routine ∷ routines_of lower) (shape_before o f.routine t.code f.place) f.operands t.stands.operands;
      cells = all_formed o (routines_of lower) t.code.cells f.cells t.stands.cells;
      offers = λ action go is. k.offers o v w (f ∷ lower) t action go (e ∙ is);
      literal = all_given IsInstr t.code.instructions f.place instr (instructions_are o f.routine t.code w t.routine) at;
      code = t.code;
      kinds = shape_before o f.routine t.code f.place;
      suits = t.stands.operands;
      named = kept.0;
      limits = kept.1;
    }

pub stands : Known → (o : Object) (s : Stack) (instr : Instr) (here : size.Frame) → IsValid o → IsObject o → IsStack o s.frames → room o s.frames ≤ s.room →
    IsHere here s.frames → instr_of o s.frames ≡ Some instr → StandsAt o instr here s
stands k o s instr here v w t less sizes there =
    let h = on_frames k o v w s.frames s.room instr here t less sizes there in
    record {
      lawful = h.lawful;
      stack = h.stack;
      sizes = h.sizes;
      next = h.next;
      ready = h.ready;
      operands = h.operands;
      cells = h.cells;
      offers = h.offers;
      literal = h.literal;
      code = h.code;
      kinds = h.kinds;
      suits = h.suits;
      named = h.named;
      limits = h.limits;
    }
