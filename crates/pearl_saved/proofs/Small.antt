-- What frames that keep N5 and N6 name has small numbers, and there is room for them where there is for their routine.
use Rattle.std.proofs.Common.{◌≡◌, inl, inr, ℕ, zero, suc, ◌+◌, ◌-◌, ◌≤◌, ◌<◌, ◌^◌, Bool, true, false, List, [], ◌∷◌, ◌++◌, length, Option, Some, refl, sym, ap, subst, ◌∙◌, arith, length-append}
use Rattle.std.specs.Prelude.{map, reverse, slice_get, take, option_and_then, sum_by, if◌then◌else◌, nat_lt, drop}
use Rattle.std.proofs.lemmas.Bool.{cases_lt, le-ltb}
use Rattle.std.proofs.lemmas.List.{length-map, length-reverse, reverse-append, map-append}
use Rattle.std.proofs.lemmas.List.Sums.{sum_by-cons}
use Rattle.std.proofs.lemmas.Option.{slice_get_within}
use Rattle.std.specs.List.{AllByRecursion}
use Rattle.pearl_value.specs.declared.kind.Kind.{Kind}
use Rattle.pearl_stack.specs.Frames as stack
use Rattle.pearl_stack.specs.Frames.{Frame}
use Rattle.pearl_instructions.specs.declared.object.Leaf.{Leaf}
use Rattle.pearl_instructions.specs.declared.object.Code.{Code}
use Rattle.pearl_instructions.specs.declared.object.Parts.{Parts as Object}
use Rattle.pearl_instructions.specs.Lawful.{IsObject}
use Rattle.pearl_instructions.specs.Objects.{routine_at, slot_kind}
use Rattle.pearl_instructions.specs.Rows.{begun}
use Rattle.pearl_instructions.specs.Stacks.{room, depth_or_none}
use Rattle.pearl_instructions.specs.Valid.{IsValid}
use Rattle.pearl_saved.specs.declared.saved.Target.{Target}
use Rattle.pearl_saved.specs.declared.saved.Target.TheVariants.{Slot, Own}
use Rattle.pearl_saved.specs.declared.saved.SavedCell.{SavedCell}
use Rattle.pearl_saved.specs.declared.saved.SavedCell.TheVariants.{Value, Variable, Array}
use Rattle.pearl_saved.specs.declared.saved.FrameRecord.{FrameRecord}
use Rattle.pearl_saved.specs.Filling.{IsSmallTarget, IsSmallCell, IsSmallFrame}
use Rattle.pearl_saved.specs.Rules.{IsStackOf, value_kind, own_kind, Names, RefersWell, AllRefer}
use Rattle.pearl_saved.specs.Stacks.{cell_made, frame_made, frames_made}
use Rattle.pearl_saved.proofs.Depths.{used, used_few, used_all, frames_few}
use Rattle.pearl_saved.proofs.Forth.{slot_there}

-- ---- how many cells and operands

used_joined : (xs ys : List Frame) → stack.used (xs ++ ys) ≡ stack.used xs + stack.used ys
used_joined [] ys = omega arith
used_joined (f ∷ xs) ys = omega (arith, used_joined xs ys)

pub used_same : (frames : List FrameRecord) → stack.used (frames_made frames) ≡ used frames
used_same [] = refl
used_same (f ∷ frames) =
    let turned : frames_made (f ∷ frames) ≡ frames_made frames ++ frame_made f ∷ [] = ap (map frame_made) (reverse-append (f ∷ []) frames) ∙ map-append frame_made (reverse frames) (f ∷ []) in
    let both = used_joined (frames_made frames) (frame_made f ∷ []) in
    omega (arith, ap stack.used turned, both, used_same frames, length-map f.cells cell_made, length-map (reverse f.operands) cell_made, length-reverse f.operands)

upto : (frames : List FrameRecord) (i : ℕ) (f : FrameRecord) → slice_get frames i ≡ Some f → used (take i frames) + (length f.cells + length f.operands) ≤ used frames
upto [] i f e = absurd cc
upto (x ∷ frames) zero f e = let same : x ≡ f = cc in omega (arith, ap (λ (y : FrameRecord). length y.cells) same, ap (λ (y : FrameRecord). length y.operands) same)
upto (x ∷ frames) (suc i) f e = let more = upto frames i f e in omega (arith, more)

-- one frame more has room where all have
pub room_for : (frames : List FrameRecord) (i : ℕ) (f : FrameRecord) → slice_get frames i ≡ Some f
    → stack.used (frame_made f ∷ frames_made (take i frames)) ≤ stack.used (frames_made frames)
room_for frames i f e =
    let few = upto frames i f e in
    omega (arith, few, used_same frames, used_same (take i frames), length-map f.cells cell_made, length-map (reverse f.operands) cell_made, length-reverse f.operands)

pub as_many : (frames : List FrameRecord) → length (frames_made frames) ≡ length frames
as_many frames = length-map (reverse frames) frame_made ∙ length-reverse frames

-- ---- numbers

slot_below : (leaves : List Leaf) (slot : ℕ) (kind : Kind) → slot_kind leaves slot ≡ Some kind → slot < sum_by (λ leaf. leaf.slots) leaves
slot_below [] slot kind e = absurd cc
slot_below (leaf ∷ leaves) slot kind e =
    let all = sum_by-cons (λ l. l.slots) leaf leaves in
    elim (cases_lt slot leaf.slots) [
      | inl less ↦ omega (arith, less, all)
      | inr more ↦
          let later : slot_kind leaves (slot - leaf.slots) ≡ Some kind =
          sym (ap (λ b. if b then Some leaf.kind else slot_kind leaves (slot - leaf.slots)) (le-ltb slot leaf.slots more)) ∙ e in
          let less = slot_below leaves (slot - leaf.slots) kind later in
          omega (arith, more, less, all)
    ]

cell_below : (cells : List SavedCell) (c : ℕ) (kind : Kind) → option_and_then value_kind (slice_get cells c) ≡ Some kind → c < length cells
cell_below [] c kind e = absurd cc
cell_below (x ∷ cells) zero kind e = omega arith
cell_below (x ∷ cells) (suc c) kind e = let less = cell_below cells c kind e in omega (arith, less)

record Below (frames : List FrameRecord) (n c : ℕ) : Type 0 where
  frame : n < length frames
  cell : c < used frames

own_below : (frames : List FrameRecord) (n c : ℕ) (kind : Kind) → own_kind frames n c ≡ Some kind → Below frames n c
own_below [] n c kind e = absurd cc
own_below (f ∷ frames) zero c kind e = let less = cell_below f.cells c kind e in record { frame = omega arith; cell = omega (arith, less) }
own_below (f ∷ frames) (suc n) c kind e =
    let r = own_below frames n c kind e in
    let frame = r.frame in
    let cell = r.cell in
    record { frame = omega (arith, frame); cell = omega (arith, cell) }

module _ (o : Object) (lawful : IsObject o) where
  small_target : (lower : List FrameRecord) → length lower ≤ 4096 → used lower ≤ 4096 → (kind : Kind) (t : Target) → Names o lower kind t 1 → IsSmallTarget t
  small_target lower long few kind (Slot slot) h =
      let below = slot_below o.leaves slot h.leaf.kind (slot_there o.leaves h.number h.leaf slot h.there h.from h.up_to) in
      let slots = lawful.few_slots in
      omega (arith, below, slots)
  small_target lower long few kind (Own n c) h =
      let same : c + 0 ≡ c = omega arith in
      let r = own_below lower n c kind (sym (ap (own_kind lower n) same) ∙ h 0 (omega arith)) in
      let frame = r.frame in
      let cell = r.cell in
      (omega (arith, frame, long), omega (arith, cell, few))

  small_cell : (lower : List FrameRecord) → length lower ≤ 4096 → used lower ≤ 4096 → (x : SavedCell) → RefersWell o lower x → IsSmallCell x
  small_cell lower long few (Value x) h = tt
  small_cell lower long few (Variable reference) h = small_target lower long few reference.kind reference.target h
  small_cell lower long few (Array array) h = tt

  small_cells : (lower : List FrameRecord) → length lower ≤ 4096 → used lower ≤ 4096 → (xs : List SavedCell) → AllByRecursion (RefersWell o lower) xs → AllByRecursion IsSmallCell xs
  small_cells lower long few [] h = tt
  small_cells lower long few (x ∷ xs) h = (small_cell lower long few x h.0, small_cells lower long few xs h.1)

  used_more : (xs : List FrameRecord) (f : FrameRecord) → used (xs ++ f ∷ []) ≡ used xs + (length f.cells + length f.operands)
  used_more [] f = omega arith
  used_more (x ∷ xs) f = omega (arith, used_more xs f)

  routine_below : (r : ℕ) (code : Code) → routine_at o r ≡ Some code → r < 2 ^ 32
  routine_below r code e =
      let procedures = map (λ p. p.code) o.procedures in
      let tasks = map (λ t. t.code) o.tasks in
      let less = slice_get_within (procedures ++ tasks) r code e in
      let few = lawful.few_procedures in
      let some = lawful.few_tasks in
      omega (arith, less, length-append procedures tasks, length-map o.procedures (λ p. p.code), length-map o.tasks (λ t. t.code), few, some)

  small_frame : (lower : List FrameRecord) (f : FrameRecord) → length lower < 4096 → used lower + (length f.cells + length f.operands) ≤ 4096 → (code : Code) → routine_at o f.routine ≡ Some code
      → AllByRecursion (RefersWell o lower) f.cells → AllByRecursion (RefersWell o (lower ++ f ∷ [])) f.operands → IsSmallFrame f
  small_frame lower f long few code is cells operands =
      let own = lower ++ f ∷ [] in
      record {
        routine = routine_below f.routine code is;
        few = omega (arith, few);
        cells = small_cells lower (omega (arith, long)) (omega (arith, few)) f.cells cells;
        operands = small_cells own (omega (arith, long, length-append lower (f ∷ []))) (omega (arith, few, used_more lower f)) f.operands operands;
      }

  all_small : (lower : List FrameRecord) (routine : ℕ) (frames : List FrameRecord) → length lower + length frames ≤ 4096 → used lower + used frames ≤ 4096 → IsStackOf o routine frames
      → AllRefer o lower frames → AllByRecursion IsSmallFrame frames
  all_small lower routine [] long few is refers = tt
  all_small lower routine (f ∷ []) long few is refers =
      (small_frame lower f (omega (arith, long)) (omega (arith, few)) is.1.code is.1.routine refers.0 refers.1, tt)
  all_small lower routine (f ∷ above ∷ more) long few is refers = (
    small_frame lower f (omega (arith, long)) (omega (arith, few)) is.1.code is.1.routine refers.0 refers.1,
    all_small (lower ++ f ∷ []) above.routine (above ∷ more) (omega (arith, long, length-append lower (f ∷ []))) (omega (arith, few, used_more lower f)) is.2 refers.2,
  )

  module _ (valid : IsValid o) (routine : ℕ) (frames : List FrameRecord) (is : IsStackOf o routine frames) where
    pub few_frames : length frames ≤ length o.procedures + 1
    few_frames = frames_few o valid routine frames is

    pub are_small : AllRefer o [] frames → AllByRecursion IsSmallFrame frames
    are_small refers =
        let few = few_frames in
        let procedures = lawful.few_procedures in
        let all = used_all o valid routine frames is in
        all_small [] routine frames (omega (arith, few, procedures)) (omega (arith, all)) is refers

    record Routine : Type 0 where
      code : Code
      there : routine_at o routine ≡ Some code

    of_routine : (frames : List FrameRecord) → IsStackOf o routine frames → Routine
    of_routine [] is = absurd is
    of_routine (f ∷ []) is = record { code = is.1.code; there = ap (routine_at o) (sym is.0) ∙ is.1.routine }
    of_routine (f ∷ above ∷ more) is = record { code = is.1.code; there = ap (routine_at o) (sym is.0) ∙ is.1.routine }

    pub has_room : stack.used (frames_made frames) ≤ room o (begun o routine)
    has_room =
        let r = of_routine frames is in
        let depth : room o (begun o routine) ≡ r.code.depth = ap depth_or_none r.there in
        let few = used_few o valid routine frames is r.code r.there in
        omega (arith, used_same frames, depth, few)
