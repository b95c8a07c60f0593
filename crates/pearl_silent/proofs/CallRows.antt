-- Calls and the way back.
use Rattle.std.proofs.Common.{◌≡◌, ◌≢◌, ℕ, suc, ◌-◌, ◌<◌, ◌≤◌, List, [], ◌∷◌, ◌++◌, Option, Some, None, length, take, drop, map, reverse, replicate, slice_get, refl, sym, ap, ◌∙◌, arith, true, false, eqb, eq-eqb, ne_eqb, length-take-le}
use Rattle.std.specs.Prelude.{IsSome, option_map}
use Rattle.std.proofs.lemmas.Option.{same_Some}
use Rattle.std.proofs.lemmas.List.{length-reverse}
use Rattle.std.proofs.Math.Seq.{take-append_seam}
use Rattle.pearl_value.specs.declared.kind.Kind.{Kind}
use Rattle.pearl_value.specs.declared.cell.Cell.{Cell}
use Rattle.pearl_stack.specs.declared.stack.Frame as size
use Rattle.pearl_stack.specs.Frames.{Frame, top_operands, unset, frame_at, sizes, place_of, pushed, entered}
use Rattle.pearl_instructions.specs.declared.object.Procedure.{Procedure}
use Rattle.pearl_instructions.specs.Steps as step
use Rattle.pearl_instructions.specs.Steps.{Step, Silent, leaves}
use Rattle.pearl_instructions.specs.Flow as flow
use Rattle.pearl_instructions.specs.Flow.{returned, returns, called}
use Rattle.pearl_silent.specs.Steps.{on_top, next_of, Applies, top_cells, with_cells}
use Rattle.pearl_silent.proofs.Applied.{popped_some}

-- a frame under the top one
returned_under : (lower : List Frame) (results : List Cell) (room : ℕ) → Applies (returned lower results) room → 0 < length lower
returned_under [] results room a = absurd a
returned_under (g ∷ lower) results room a = omega arith

returns_under : (f : Frame) (lower : List Frame) (result : Option Kind) (room : ℕ) → Applies (returns result f lower) room → 0 < length lower
returns_under f lower None room a = returned_under lower [] room a
returns_under f lower (Some kind) room a = let some = popped_some f.operands _ room a in returned_under lower (some.0 ∷ []) room some.3

pub caller_there : (frames : List Frame) (result : Option Kind) (room : ℕ) → Applies (on_top (λ f lower. returns result f lower) frames) room → 1 < length frames
caller_there [] result room a = absurd a
caller_there (f ∷ lower) result room a = let under = returns_under f lower result room a in omega (arith, under)

pub frame_under : (frames : List Frame) (n : ℕ) → suc (suc n) ≡ length frames → (g : Frame) × (frame_at frames n ≡ Some g) × (g.place ≡ place_of (drop 1 frames))
frame_under [] n e = cc
frame_under (f ∷ []) n e = absurd (omega (arith, e))
frame_under (f ∷ g ∷ lower) n e =
    let one : eqb n (length (g ∷ lower)) ≡ false = ne_eqb n (length (g ∷ lower)) (λ h. absurd (omega (arith, e, h))) in
    let two : eqb n (length lower) ≡ true = eq-eqb n (length lower) (omega (arith, e)) in
    (g, rw (one, two) refl, refl)

pub frame_some : (frames : List Frame) (n : ℕ) → suc (suc n) ≡ length frames → IsSome (frame_at frames n)
frame_some frames n e = let at = frame_under frames n e in rw at.1 refl

pub frame_place : (frames : List Frame) (n : ℕ) (size : size.Frame) → suc (suc n) ≡ length frames → option_map sizes (frame_at frames n) ≡ Some size → size.instruction ≡ place_of (drop 1 frames)
frame_place frames n size e h =
    let at = frame_under frames n e in
    let same : Some (sizes at.0) ≡ Some size = ap (λ o. option_map sizes o) (sym at.1) ∙ h in
    sym (ap (λ s. s.instruction) (same_Some (sizes at.0) size same)) ∙ at.2

pub back_is : (frames : List Frame) (room : ℕ) → Applies (on_top (λ f lower. returns None f lower) frames) room →
    on_top (λ f lower. returns None f lower) frames ≡ Silent (next_of (drop 1 frames))
back_is [] room a = absurd a
back_is (f ∷ []) room a = absurd a
back_is (f ∷ g ∷ lower) room a = refl

returned_with : (f g : Frame) (lower : List Frame) (x : Cell) (xs : List Cell) → slice_get xs 0 ≡ Some x →
    step.popped xs (λ x left. returned (g ∷ lower) (x ∷ [])) ≡ leaves g lower (x ∷ g.operands)
returned_with f g lower x [] e = cc
returned_with f g lower x (y ∷ left) e = ap (λ x. leaves g lower (x ∷ g.operands)) (same_Some y x e)

popped_none : (xs : List Cell) (room : ℕ) → Applies (step.popped xs (λ x left. returned [] (x ∷ []))) room → ⊥
popped_none [] room a = a
popped_none (x ∷ xs) room a = a

pub back_with_is : (frames : List Frame) (room : ℕ) (kind : Kind) (x : Cell) → Applies (on_top (λ f lower. returns (Some kind) f lower) frames) room →
    slice_get (top_operands frames) 0 ≡ Some x → on_top (λ f lower. returns (Some kind) f lower) frames ≡ Silent (next_of (pushed x (drop 1 frames)))
back_with_is [] room kind x a h = absurd a
back_with_is (f ∷ []) room kind x a h = absurd (popped_none f.operands room a)
back_with_is (f ∷ g ∷ lower) room kind x a h = returned_with f g lower x f.operands h

result_on : (f : Frame) (lower : List Frame) (room : ℕ) (kind : Kind) (xs : List Cell) → Applies (step.popped xs (λ x left. returned lower (x ∷ []))) room → (x : Cell) × (slice_get xs 0 ≡ Some x)
result_on f lower room kind [] a = absurd a
result_on f lower room kind (x ∷ xs) a = (x, refl)

pub result_there : (frames : List Frame) (room : ℕ) (kind : Kind) → Applies (on_top (λ f lower. returns (Some kind) f lower) frames) room →
    (x : Cell) × (slice_get (top_operands frames) 0 ≡ Some x)
result_there [] room kind a = absurd a
result_there (f ∷ lower) room kind a = result_on f lower room kind f.operands a

pub under_some : (frames : List Frame) → 1 < length frames → drop 1 frames ≢ []
under_some [] less = absurd (omega (arith, less))
under_some (f ∷ []) less = absurd (omega (arith, less))
under_some (f ∷ g ∷ lower) less = λ e. cc

-- a procedure's frame

pub called_is : (p : ℕ) (callee : Procedure) (frames : List Frame) (n : ℕ) → callee.params ≤ length (top_operands frames) → n ≡ length callee.code.cells →
    with_cells (take callee.params (top_cells (entered p callee.params n frames)) ++ map flow.fresh (drop callee.params callee.code.cells)) (entered p callee.params n frames)
    ≡ called p callee frames (top_operands frames)
called_is p callee frames n there e =
    let args : List Cell = reverse (take callee.params (top_operands frames)) in
    let rest : List Cell = replicate (n - callee.params) unset in
    let long : length args ≡ callee.params = length-reverse (take callee.params (top_operands frames)) ∙ length-take-le callee.params (top_operands frames) there in
    let front : take callee.params (args ++ rest) ≡ args = ap (λ k. take k (args ++ rest)) (sym long) ∙ take-append_seam args rest in
    ap (λ xs. with_cells (xs ++ map flow.fresh (drop callee.params callee.code.cells)) (entered p callee.params n frames)) front
