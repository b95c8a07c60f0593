-- The test of a loop.
use Rattle.std.proofs.Common.{◌≡◌, ℕ, ◌+◌, List, [], ◌∷◌, Option, Some, None, Ok, slice_get, refl, sym, ap, ◌∙◌, subst}
use Rattle.std.specs.Prelude.{ℤ, IsSome, Bool, true, false, not, if◌then◌else◌, option_and_then}
use Rattle.pearl_value.specs.declared.cell.Cell.{Cell}
use Rattle.pearl_value.specs.declared.cell.Cell.TheVariants.{Fixed, Bits, Chars, Clock, Span, Ref}
use Rattle.pearl_stack.specs.Frames.{Frame}
use Rattle.pearl_instructions.specs.Steps.{Step, leaves}
use Rattle.pearl_instructions.specs.Flow.{loop_cells, is_past, within_loop}
use Rattle.pearl_instructions.specs.Operators.{number_of}
use Rattle.pearl_silent.specs.Steps.{on_top, top_cells, made_on}
use Rattle.pearl_silent.specs.Numbers.{HasLoop, are_past}

number_there : (o : Option Cell) → IsSome (option_and_then number_of o) → IsSome o
number_there None some = some
number_there (Some x) some = refl

pub loop_there : (frames : List Frame) (c : ℕ) → HasLoop c frames →
    IsSome (slice_get (top_cells frames) c) × IsSome (slice_get (top_cells frames) (c + 1)) × IsSome (slice_get (top_cells frames) (c + 2))
loop_there frames c h = (
  number_there (slice_get (top_cells frames) c) h.control,
  number_there (slice_get (top_cells frames) (c + 1)) h.step,
  number_there (slice_get (top_cells frames) (c + 2)) h.limit,
)

fixed_is : (x : Cell) → IsSome (number_of x) → (len : ℕ) × (n : ℤ) × (x ≡ Fixed len n)
fixed_is (Fixed len n) some = (len, n, refl)
fixed_is (Bits len n) some = cc
fixed_is (Chars text) some = cc
fixed_is (Clock time) some = cc
fixed_is (Span time) some = cc
fixed_is (Ref kind place) some = cc

pub fixed_at : (o : Option Cell) (x : Cell) → IsSome (option_and_then number_of o) → o ≡ Some x → (len : ℕ) × (n : ℤ) × (x ≡ Fixed len n)
fixed_at o x some e = fixed_is x (subst (λ o. IsSome (option_and_then number_of o)) e some)

pub loop_is : (f : Frame) (c l m n : ℕ) (control step limit : ℤ) (go : ℕ → ℤ → ℤ → ℤ → Step) → slice_get f.cells c ≡ Some (Fixed l control) →
    slice_get f.cells (c + 1) ≡ Some (Fixed m step) → slice_get f.cells (c + 2) ≡ Some (Fixed n limit) → loop_cells f c go ≡ go l control step limit
loop_is f c l m n control step limit go d e h = rw (d, e, h) refl

-- the BIT that tells whether a loop goes on
pub not_if : (past told : Bool) → past ≡ told → Bits 1 (if told then 0 else 1) ≡ Bits 1 (if not past then 1 else 0)
not_if true told e = ap (λ b. Bits 1 (if b then 0 else 1)) (sym e)
not_if false told e = ap (λ b. Bits 1 (if b then 0 else 1)) (sym e)

past_is : (x y z : Cell) (l m n : ℕ) (control step limit : ℤ) → x ≡ Fixed l control → y ≡ Fixed m step → z ≡ Fixed n limit → is_past control step limit ≡ are_past x y z
past_is x y z l m n control step limit d e h = rw (d, e, h) refl

pub within_is : (frames : List Frame) (c : ℕ) (x y z : Cell) → HasLoop c frames → slice_get (top_cells frames) c ≡ Some x → slice_get (top_cells frames) (c + 1) ≡ Some y →
    slice_get (top_cells frames) (c + 2) ≡ Some z →
    on_top (λ f lower. within_loop c f lower) frames ≡ made_on 0 (Ok (Bits 1 (if are_past x y z then 0 else 1))) frames
within_is [] c x y z has d e h = cc
within_is (f ∷ lower) c x y z has d e h =
    let one = fixed_at (slice_get f.cells c) x has.control d in
    let two = fixed_at (slice_get f.cells (c + 1)) y has.step e in
    let three = fixed_at (slice_get f.cells (c + 2)) z has.limit h in
    loop_is f c one.0 two.0 three.0 one.1 two.1 three.1
    (λ len control step limit. leaves f lower (Bits 1 (if is_past control step limit then 0 else 1) ∷ f.operands))
    (d ∙ ap Some one.2) (e ∙ ap Some two.2) (h ∙ ap Some three.2)
    ∙ ap (λ b. leaves f lower (Bits 1 (if b then 0 else 1) ∷ f.operands)) (past_is x y z one.0 two.0 three.0 one.1 two.1 three.1 one.2 two.2 three.2)
