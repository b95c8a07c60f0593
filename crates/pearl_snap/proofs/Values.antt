-- What a state that fits its spelling holds in its slots, its inputs and its frames is values.
use Rattle.std.proofs.Common.{◌≡◌, ℕ, ◌≤◌, ◌<◌, ◌-◌, ◌^◌, Bool, true, false, List, [], ◌∷◌, ◌++◌, length, None, ℤ, ◌≤ℤ◌, T, refl, sym, ap, subst, arith}
use Rattle.std.specs.Prelude.{◌&&◌, nat_le, int_le}
use Rattle.std.proofs.lemmas.Bool.{leb-true}
use Rattle.std.proofs.lemmas.Nat.{pow_pos}
use Rattle.std.proofs.lemmas.List.Elements.{All-from_recursion}
use Rattle.std.specs.List.{AllByRecursion}
use Rattle.pearl_value.specs.declared.kind.Kind.{Kind}
use Rattle.pearl_value.specs.declared.kind.Kind.TheVariants.{Fixed, Bits, Chars, Clock, Span}
use Rattle.pearl_value.specs.declared.cell.Cell.{Cell}
use Rattle.pearl_value.specs.declared.cell.Cell.TheVariants as cells
use Rattle.pearl_value.specs.Kinds.{IsKind}
use Rattle.pearl_value.specs.WellFormed.{IsLetter, IsValue}
use Rattle.pearl_fields.specs.Codec.{Codec, byte_in, within, within_signed, rolled_fit, arm_at}
use Rattle.pearl_object.specs.Kinds.{kind}
use Rattle.pearl_object.specs.Literals.{literal, value_of}
use Rattle.pearl_snap.specs.declared.states.Free.{Free}
use Rattle.pearl_snap.specs.declared.states.CellRoom.{CellRoom}
use Rattle.pearl_snap.specs.declared.states.SavedTask.{SavedTask}
use Rattle.pearl_records.specs.declared.record.Standing.{Standing}
use Rattle.pearl_records.specs.declared.record.Standing.TheVariants.{Dormant, Active}
use Rattle.pearl_saved.specs.declared.saved.SavedCell.{SavedCell}
use Rattle.pearl_saved.specs.declared.saved.SavedCell.TheVariants.{Value, Variable, Array}
use Rattle.pearl_saved.specs.declared.saved.FrameRecord.{FrameRecord}
use Rattle.pearl_saved.specs.declared.saved.Saved.{Saved}
use Rattle.pearl_snap.specs.Lists.{free, each_in}
use Rattle.pearl_snap.specs.Cells.{cell}
use Rattle.pearl_snap.specs.Tasks.{frame, after_frame, all_cells, standing_tag, task_arms, acting, task}
use Rattle.pearl_snap.specs.States.{stacks_of, tasks_of, saved}
use Rattle.pearl_saved.specs.Rules.{IsHeld, HoldsHeld}
use Rattle.pearl_snap.specs.Parts.{HoldsValues, FramesHold}

both_true : (a b : Bool) → (a && b) ≡ true → (a ≡ true) × (b ≡ true)
both_true true b h = (refl, h)
both_true false b h = absurd cc

within_is : (low high n : ℕ) → within low high n ≡ true → (low ≤ n) × (n ≤ high)
within_is low high n h =
    let t = both_true (nat_le low n) (nat_le n high) h in (leb-true low n t.0, leb-true n high t.1)

signed_is : (low high n : ℤ) → within_signed low high n ≡ true → (low ≤ℤ n) × (n ≤ℤ high)
signed_is low high n h =
    let t = both_true (int_le low n) (int_le n high) h in (record { le = subst T (sym t.0) tt }, record { le = subst T (sym t.1) tt })

kind_is : (k : Kind) → (kind None).fits k → IsKind k
unfolding kind
kind_is (Fixed len) h = within_is 1 63 len h.1.0.0.1
kind_is (Bits len) h = within_is 1 64 len h.1.0.0.1
kind_is (Chars len) h = within_is 1 255 len h.1.0.0.1
kind_is Clock h = tt
kind_is Span h = tt

letters_are : (bytes : List ℕ) → rolled_fit (λ (s : Unit {0}). byte_in 32 126) (λ s b. s) tt bytes → AllByRecursion IsLetter bytes
letters_are [] h = tt
letters_are (b ∷ bytes) h = (within_is 32 126 b h.0.1, letters_are bytes h.1)

literal_is : (x : Cell) → (literal None).fits x → IsValue x
unfolding literal value_of
literal_is (cells.Fixed len value) h =
    let s = signed_is _ _ value h.1.0.1 in (kind_is (Fixed len) h.0, record { low = s.0; high = s.1 })
literal_is (cells.Bits len value) h =
    let t = within_is 0 (2 ^ len - 1) value h.1.0.1 in
    let some : 0 < 2 ^ len = pow_pos len in (kind_is (Bits len) h.0, omega (arith, t.1, some))
literal_is (cells.Chars text) h =
    (kind_is (Chars (length text.items)) h.0, All-from_recursion IsLetter text.items (letters_are text.items h.1.0.1))
literal_is (cells.Clock time) h = let t = within_is 0 86399999 time h.1.0.1 in omega (arith, t.1)
literal_is (cells.Span value) h = let s = signed_is _ _ value h.1.0.1 in record { low = s.0; high = s.1 }
literal_is (cells.Ref of place) h = absurd (let none = kind_is (Chars 0) h.0 in omega (arith, none.0))

-- ---- lists

module _ {X : Type 0} (c : Codec X) (P : X → Type 0) (each : (x : X) → c.fits x → P x) where
  all_are : (xs : List X) → rolled_fit (λ (s : Free). c) (λ s x. s) free xs → AllByRecursion P xs
  all_are [] h = tt
  all_are (x ∷ xs) h = (each x h.0, all_are xs h.1)

  pub list_is : (low high : ℕ) (xs : List X) → (each_in low high c).fits xs → AllByRecursion P xs
  list_is low high xs h = all_are xs h.0.1.1

pub values_held : (s : Saved) → saved.fits s → HoldsValues s.core
unfolding saved
values_held s h = record {
  slots = list_is (literal None) IsValue literal_is 0 65536 s.core.slots h.0.1.1.1.0;
  inputs = list_is (each_in 0 256 (literal None)) (AllByRecursion IsValue) (list_is (literal None) IsValue literal_is 0 256) 0 99 s.core.inputs h.0.1.1.1.1.1.1.1.0;
}

-- ---- frames

held_is : (x : SavedCell) → cell.fits x → IsHeld x
unfolding cell
held_is (Value x) h = literal_is x h.1.0
held_is (Variable reference) h = tt
held_is (Array array) h = tt

both_are : {X : Type 0} (P : X → Type 0) (xs ys : List X) → AllByRecursion P xs → AllByRecursion P ys → AllByRecursion P (xs ++ ys)
both_are P [] ys h k = k
both_are P (x ∷ xs) ys h k = (h.0, both_are P xs ys h.1 k)

frame_is : (room : CellRoom) (f : FrameRecord) → (frame room).fits f → HoldsHeld f
unfolding frame
frame_is room f h =
    both_are IsHeld f.cells f.operands (list_is cell IsHeld held_is _ _ f.cells h.0.1.1.0) (list_is cell IsHeld held_is _ _ f.operands h.0.1.1.1)

frames_are : (room : CellRoom) (fs : List FrameRecord) → rolled_fit frame after_frame room fs → AllByRecursion HoldsHeld fs
frames_are room [] h = tt
frames_are room (f ∷ fs) h = (frame_is room f h.0, frames_are (after_frame room f) fs h.1)

stack_is : (t : SavedTask) (s : Standing) → (arm_at task_arms (standing_tag s)).fits t → AllByRecursion HoldsHeld t.frames
unfolding acting
stack_is t Dormant h = subst (λ u. AllByRecursion HoldsHeld u.frames) h.1 tt
stack_is t (Active priority false kept) h = frames_are all_cells t.frames h.0.1.1.1.1.0.1.1
stack_is t (Active priority true kept) h = frames_are all_cells t.frames h.0.1.1.1.1.0.1.1

task_is : (t : SavedTask) → task.fits t → AllByRecursion HoldsHeld t.frames
unfolding task
task_is t h = stack_is t t.row.standing h.1

stacks_are : (tasks : List SavedTask) → AllByRecursion (λ t. AllByRecursion HoldsHeld t.frames) tasks → FramesHold (stacks_of tasks)
stacks_are [] h = tt
stacks_are (t ∷ tasks) h = (h.0, stacks_are tasks h.1)

pub frames_held : (s : Saved) → saved.fits s → FramesHold s.stacks
unfolding saved
frames_held s h =
    let tasks = tasks_of s.core.tasks s.stacks in
    subst FramesHold (ap (λ t. t.stacks) h.1)
    (stacks_are tasks (list_is task (λ t. AllByRecursion HoldsHeld t.frames) task_is 0 200 tasks h.0.1.1.1.1.1.1.1.1))
