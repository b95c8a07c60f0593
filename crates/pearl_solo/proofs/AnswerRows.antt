-- The stack after an answer.
use Rattle.std.proofs.Common.{◌≡◌, ◌+◌, List, [], ◌∷◌, ℕ, ap}
use Rattle.pearl_value.specs.declared.cell.Cell.{Cell}
use Rattle.pearl_stack.specs.declared.stack.Frame as size
use Rattle.pearl_stack.specs.Frames.{Frame, pushed, moved, without}
use Rattle.pearl_silent.specs.Steps.{IsSizes}
use Rattle.pearl_solo.specs.Answered.{gone_on, gone_on_with}

pub gone_on_is : (frames : List Frame) (here : size.Frame) (n : ℕ) → IsSizes here frames → moved (here.instruction + 1) (without n frames) ≡ gone_on n frames
gone_on_is [] here n never = absurd never
gone_on_is (f ∷ lower) here n is = ap (λ h. moved (h.instruction + 1) (without n (f ∷ lower))) is

pub gone_on_with_is : (frames : List Frame) (here : size.Frame) (n : ℕ) (x : Cell) → IsSizes here frames →
    moved (here.instruction + 1) (pushed x (without n frames)) ≡ gone_on_with n x frames
gone_on_with_is [] here n x never = absurd never
gone_on_with_is (f ∷ lower) here n x is = ap (λ h. moved (h.instruction + 1) (pushed x (without n (f ∷ lower)))) is
