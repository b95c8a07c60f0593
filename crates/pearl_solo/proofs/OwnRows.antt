-- The lowest frame.
use Rattle.std.proofs.Common.{◌≡◌, ◌≢◌, List, [], ◌∷◌, Some, length, refl, sym, ap, ◌∙◌, arith, eqb, false, ne_eqb}
use Rattle.std.specs.Prelude.{IsSome, option_map}
use Rattle.std.proofs.lemmas.Option.{same_Some}
use Rattle.pearl_stack.specs.declared.stack.Frame as size
use Rattle.pearl_stack.specs.Frames.{Frame, frame_at, sizes}
use Rattle.pearl_instructions.specs.Rows.{lowest}
use Rattle.pearl_solo.specs.Owners.{lowest_of}

lowest_at : (f : Frame) (lower : List Frame) → (g : Frame) × (frame_at (f ∷ lower) 0 ≡ Some g) × (g.routine ≡ lowest f lower)
lowest_at f [] = (f, refl, refl)
lowest_at f (g ∷ lower) =
    let more = lowest_at g lower in
    let t : eqb 0 (length (g ∷ lower)) ≡ false = ne_eqb 0 (length (g ∷ lower)) (λ e. absurd (omega (arith, e))) in
    (more.0, rw t more.1, more.2)

pub lowest_there : (frames : List Frame) → frames ≢ [] → IsSome (frame_at frames 0)
lowest_there [] some = absurd (some refl)
lowest_there (f ∷ lower) some = let at = lowest_at f lower in rw at.1 refl

pub lowest_routine : (frames : List Frame) (size : size.Frame) → frames ≢ [] → option_map sizes (frame_at frames 0) ≡ Some size → size.routine ≡ lowest_of frames
lowest_routine [] size some e = absurd (some refl)
lowest_routine (f ∷ lower) size some e =
    let at = lowest_at f lower in
    let same : Some (sizes at.0) ≡ Some size = ap (λ o. option_map sizes o) (sym at.1) ∙ e in
    sym (ap (λ s. s.routine) (same_Some (sizes at.0) size same)) ∙ at.2
