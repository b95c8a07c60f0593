-- The stacks of a machine that goes on from what was saved, which are filled one after the other; and those of one that is saved.
use Rattle.std.proofs.Common.{◌≡◌, inl, inr, ℕ, zero, suc, ◌+◌, ◌<◌, ◌≤◌, List, [], ◌∷◌, ◌++◌, Bool, true, false, Option, Some, None, length, take, slice_get, slice_set, refl, sym, ap, ap₂, subst, ◌∙◌, arith, length-set}
use Rattle.std.proofs.lemmas.Bool.{cases_eq, cases_lt}
use Rattle.std.proofs.lemmas.List.{take_all}
use Rattle.std.specs.List.{AllByRecursion}
use Rattle.pearl_instructions.specs.declared.object.Parts.{Parts as Object}
use Rattle.pearl_records.specs.declared.record.Standing.{Standing}
use Rattle.pearl_records.specs.declared.record.Standing.TheVariants.{Dormant, Active}
use Rattle.pearl_records.specs.declared.record.TaskRecord.{TaskRecord}
use Rattle.pearl_saved.specs.declared.saved.FrameRecord.{FrameRecord}
use Rattle.pearl_saved.proofs.Offered.{more_taken}
use Rattle.pearl_machine.specs.declared.part.Part.{Part}
use Rattle.pearl_machine.specs.Parts.{HasMemory, HasMemories, stack_in, is_going}
use Rattle.pearl_machine.specs.Resumed.{saved_frames, stacks_of, filled, IsFilled}
use Rattle.pearl_machine.proofs.Listed.{get_here, get_elsewhere}
use Rattle.pearl_machine.proofs.Owned.{memory_back}

-- ---- those that are filled

abbrev FilledAt : Standing → List FrameRecord → Option Part → Type 0
FilledAt standing frames x = (part : Part) × (x ≡ Some part) × IsFilled standing frames part

-- the first so many are filled, and the others have no frame and aren't under way
pub record Filled (o : Object) (rows : List TaskRecord) (stacks : List (List FrameRecord)) (n : ℕ) (parts : List Part) : Type 0 where
  pub each : length parts ≡ length o.tasks
  pub memory : HasMemories o parts
  pub before : (t : ℕ) → t < n → (row : TaskRecord) (frames : List FrameRecord) → slice_get rows t ≡ Some row → slice_get stacks t ≡ Some frames → FilledAt row.standing frames (slice_get parts t)
  pub rest : (t : ℕ) → n ≤ t → (is_going (slice_get parts t) ≡ false) × ((stack_in (slice_get parts t)).frames ≡ [])

filled_memory : (o : Object) (t : ℕ) (standing : Standing) (frames : List FrameRecord) (part : Part) → HasMemory o t part → HasMemory o t (filled standing frames part)
filled_memory o t Dormant frames part h = h
filled_memory o t (Active priority suspended kept) frames part h = record { room_is = h.room_is; most = h.most }

is_filled : (standing : Standing) (frames : List FrameRecord) (part : Part) → part.going ≡ false → IsFilled standing frames (filled standing frames part)
is_filled Dormant frames part h = h
is_filled (Active priority suspended kept) frames part h = (refl, refl)

same_of : {X : Type 0} (a : Option X) (x y : X) → a ≡ Some x → a ≡ Some y → x ≡ y
same_of a x y e f = let two : Some x ≡ Some y = sym e ∙ f in cc

below : (t n : ℕ) → t ≤ n → (n ≡ t → ⊥) → t < n
below t n le other = elim (cases_lt t n) [
  | inl less ↦ less
  | inr more ↦ absurd (other (omega (arith, le, more)))
]

pub one_filled : (o : Object) (rows : List TaskRecord) (stacks : List (List FrameRecord)) (n : ℕ) (parts : List Part) (part : Part) (row : TaskRecord) (frames : List FrameRecord)
    → Filled o rows stacks n parts → n < length parts → slice_get parts n ≡ Some part → slice_get rows n ≡ Some row → slice_get stacks n ≡ Some frames
    → Filled o rows stacks (n + 1) (slice_set parts n (filled row.standing frames part))
one_filled o rows stacks n parts part row frames f less at there beside = record {
  each = length-set parts n next ∙ f.each;
  memory = memory_back o parts n next f.memory (filled_memory o n row.standing frames part (f.memory n part at));
  before = λ t small r fs e g. elim (cases_eq n t) [
    | inl same ↦ here t same r fs e g
    | inr other ↦ subst (FilledAt r.standing fs) (sym (get_elsewhere parts n t next other)) (f.before t (below t n (omega (arith, small)) other) r fs e g)
  ];
  rest = λ t large. let other : n ≡ t → ⊥ = λ e. absurd (omega (arith, e, large)) in
      subst (λ x. (is_going x ≡ false) × ((stack_in x).frames ≡ [])) (sym (get_elsewhere parts n t next other)) (f.rest t (omega (arith, large)));
}
  where
    next : Part
    next = filled row.standing frames part

    here : (t : ℕ) → n ≡ t → (r : TaskRecord) (fs : List FrameRecord) → slice_get rows t ≡ Some r → slice_get stacks t ≡ Some fs → FilledAt r.standing fs (slice_get (slice_set parts n next) t)
    here t same r fs e g =
        let one : row ≡ r = same_of (slice_get rows n) row r there (ap (slice_get rows) same ∙ e) in
        let two : frames ≡ fs = same_of (slice_get stacks n) frames fs beside (ap (slice_get stacks) same ∙ g) in
        let still : part.going ≡ false = ap is_going (sym at) ∙ (f.rest n (omega arith)).0 in
        subst (λ (x : TaskRecord). FilledAt x.standing fs (slice_get (slice_set parts n next) t)) one
        (subst (λ fs. FilledAt row.standing fs (slice_get (slice_set parts n next) t)) two
        (next, sym (ap (slice_get (slice_set parts n next)) same) ∙ get_here parts n next less, is_filled row.standing frames part still))

-- ---- those that are saved

pub stack_there : (rows : List TaskRecord) (parts : List Part) (t : ℕ) (row : TaskRecord) (part : Part) → slice_get rows t ≡ Some row → slice_get parts t ≡ Some part
    → slice_get (stacks_of rows parts) t ≡ Some (saved_frames row.standing part.stack.frames)
stack_there [] parts t row part e f = absurd cc
stack_there (r ∷ rows) [] t row part e f = absurd cc
stack_there (r ∷ rows) (p ∷ parts) zero row part e f =
    let one : r ≡ row = cc in
    let two : p ≡ part = cc in
    ap₂ (λ (x : TaskRecord) (y : Part). Some (saved_frames x.standing y.stack.frames)) one two
stack_there (r ∷ rows) (p ∷ parts) (suc t) row part e f = stack_there rows parts t row part e f

pub stacks_more : (rows : List TaskRecord) (parts : List Part) (t : ℕ) (row : TaskRecord) (part : Part) → slice_get rows t ≡ Some row → slice_get parts t ≡ Some part
    → take (t + 1) (stacks_of rows parts) ≡ take t (stacks_of rows parts) ++ saved_frames row.standing part.stack.frames ∷ []
stacks_more rows parts t row part e f = more_taken (stacks_of rows parts) t (saved_frames row.standing part.stack.frames) (stack_there rows parts t row part e f)

long : (rows : List TaskRecord) (parts : List Part) → length (stacks_of rows parts) ≤ length rows
long [] parts = omega arith
long (r ∷ rows) [] = omega arith
long (r ∷ rows) (p ∷ parts) = let more = long rows parts in omega (arith, more)

pub all_stacks : (rows : List TaskRecord) (parts : List Part) (n : ℕ) → length rows ≤ n → take n (stacks_of rows parts) ≡ stacks_of rows parts
all_stacks rows parts n enough = let short = long rows parts in take_all n (stacks_of rows parts) (omega (arith, enough, short))
