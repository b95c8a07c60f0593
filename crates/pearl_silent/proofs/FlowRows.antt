-- The rows of jumps, where they apply.
use Rattle.std.proofs.Common.{◌≡◌, ◌≢◌, ℕ, ◌+◌, List, [], ◌∷◌, Option, Some, None, drop, slice_get, refl, ap, ◌∙◌}
use Rattle.std.specs.Prelude.{if◌then◌else◌, ◌==◌, unwrap_or}
use Rattle.std.proofs.lemmas.Option.{same_Some}
use Rattle.pearl_value.specs.declared.cell.Cell.{Cell}
use Rattle.pearl_value.specs.declared.cell.Cell.TheVariants.{Fixed, Bits, Chars, Clock, Span, Ref}
use Rattle.pearl_stack.specs.Frames.{Frame, top_operands, place_of, popped, moved}
use Rattle.pearl_instructions.specs.Steps as step
use Rattle.pearl_instructions.specs.Steps.{Step, Silent, needed, at}
use Rattle.pearl_instructions.specs.Flow.{goes, jump_zero, goes_or_on, target_of, branch}
use Rattle.pearl_silent.specs.Steps.{on_top, Applies, is_zero, target_for}
use Rattle.pearl_silent.proofs.Applied.{needed_true}

pub jump_is : (frames : List Frame) (i : ℕ) → frames ≢ [] → on_top (λ f lower. goes i f lower f.operands) frames ≡ Silent (moved i frames)
jump_is [] i some = absurd (some refl)
jump_is (f ∷ lower) i some = refl

jump_zero_by : (f : Frame) (lower : List Frame) (i room : ℕ) (left : List Cell) (x : Cell) → Applies (jump_zero i f lower left x) room →
    jump_zero i f lower left x ≡ Silent (at (if is_zero x then i else f.place + 1) f left ∷ lower)
jump_zero_by f lower i room left (Bits len value) a = let long = needed_true (len == 1) _ room a in rw long.0 refl
jump_zero_by f lower i room left (Fixed len n) a = absurd a
jump_zero_by f lower i room left (Chars text) a = absurd a
jump_zero_by f lower i room left (Clock time) a = absurd a
jump_zero_by f lower i room left (Span time) a = absurd a
jump_zero_by f lower i room left (Ref kind place) a = absurd a

jump_zero_at : (f : Frame) (lower : List Frame) (i room : ℕ) (xs : List Cell) (x : Cell) → Applies (step.popped xs (λ b left. jump_zero i f lower left b)) room →
    slice_get xs 0 ≡ Some x → step.popped xs (λ b left. jump_zero i f lower left b) ≡ Silent (at (if is_zero x then i else f.place + 1) f (drop 1 xs) ∷ lower)
jump_zero_at f lower i room [] x a e = absurd a
jump_zero_at f lower i room (y ∷ left) x a e =
    jump_zero_by f lower i room left y a ∙ ap (λ x. Silent (at (if is_zero x then i else f.place + 1) f left ∷ lower)) (same_Some y x e)

pub jump_zero_is : (frames : List Frame) (i room : ℕ) (x : Cell) →
    Applies (on_top (λ f lower. step.popped f.operands (λ b left. jump_zero i f lower left b)) frames) room → slice_get (top_operands frames) 0 ≡ Some x →
    on_top (λ f lower. step.popped f.operands (λ b left. jump_zero i f lower left b)) frames ≡ Silent (moved (if is_zero x then i else place_of frames + 1) (popped frames))
jump_zero_is [] i room x a e = absurd a
jump_zero_is (f ∷ lower) i room x a e = jump_zero_at f lower i room f.operands x a e

on_or : (f : Frame) (lower : List Frame) (left : List Cell) (o : Option ℕ) → goes_or_on o f lower left ≡ Silent (at (unwrap_or o (f.place + 1)) f left ∷ lower)
on_or f lower left None = refl
on_or f lower left (Some i) = refl

case_by : (f : Frame) (lower : List Frame) (targets : List ℕ) (room : ℕ) (left : List Cell) (x : Cell) → Applies (branch targets f lower left x) room →
    branch targets f lower left x ≡ Silent (at (unwrap_or (target_for targets x) (f.place + 1)) f left ∷ lower)
case_by f lower targets room left (Fixed len n) a = on_or f lower left (target_of targets n)
case_by f lower targets room left (Bits len n) a = absurd a
case_by f lower targets room left (Chars text) a = absurd a
case_by f lower targets room left (Clock time) a = absurd a
case_by f lower targets room left (Span time) a = absurd a
case_by f lower targets room left (Ref kind place) a = absurd a

case_at : (f : Frame) (lower : List Frame) (targets : List ℕ) (room : ℕ) (xs : List Cell) (x : Cell) → Applies (step.popped xs (λ x left. branch targets f lower left x)) room →
    slice_get xs 0 ≡ Some x →
    step.popped xs (λ x left. branch targets f lower left x) ≡ Silent (at (unwrap_or (target_for targets x) (f.place + 1)) f (drop 1 xs) ∷ lower)
case_at f lower targets room [] x a e = absurd a
case_at f lower targets room (y ∷ left) x a e =
    case_by f lower targets room left y a ∙ ap (λ x. Silent (at (unwrap_or (target_for targets x) (f.place + 1)) f left ∷ lower)) (same_Some y x e)

pub case_is : (frames : List Frame) (targets : List ℕ) (room : ℕ) (x : Cell) →
    Applies (on_top (λ f lower. step.popped f.operands (λ x left. branch targets f lower left x)) frames) room → slice_get (top_operands frames) 0 ≡ Some x →
    on_top (λ f lower. step.popped f.operands (λ x left. branch targets f lower left x)) frames
    ≡ Silent (moved (unwrap_or (target_for targets x) (place_of frames + 1)) (popped frames))
case_is [] targets room x a e = absurd a
case_is (f ∷ lower) targets room x a e = case_at f lower targets room f.operands x a e
