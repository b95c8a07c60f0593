-- The sizes of a top frame, behind whose instruction another one can stand.
use Rattle.std.proofs.Common.{◌≡◌, ◌<◌, ◌+◌, ◌^◌, List, [], ◌∷◌, sym, subst}
use Rattle.pearl_stack.specs.declared.stack.Frame as size
use Rattle.pearl_stack.specs.Frames.{Frame}
use Rattle.pearl_silent.specs.Steps.{IsSizes, IsHere, HasNext}

pub here_next : (here : size.Frame) (frames : List Frame) → IsSizes here frames → HasNext frames → IsHere here frames
here_next here [] top goes = absurd top
here_next here (f ∷ lower) top goes = record { top = top; next = subst (λ (h : size.Frame). h.instruction + 1 < 2 ^ 64) (sym top) goes.next }

pub next_here : (here : size.Frame) (frames : List Frame) → IsSizes here frames → here.instruction + 1 < 2 ^ 64 → HasNext frames
next_here here [] top next = absurd top
next_here here (f ∷ lower) top next = record { some = λ e. cc; next = subst (λ (h : size.Frame). h.instruction + 1 < 2 ^ 64) top next }
