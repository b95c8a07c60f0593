-- Lists that rise strictly.
use Rattle.std.specs.Prelude.{Bool, true, ◌&&◌, List, [], ◌∷◌}

-- each of the list comes before the next, and this one before the first
abbrev pub rises_from : {X : Type 0} → (X → X → Bool) → X → List X → Bool
rises_from before x [] = true
rises_from before x (y ∷ ys) = before x y && rises_from before y ys

-- each comes before the next
abbrev pub rises : {X : Type 0} → (X → X → Bool) → List X → Bool
rises before [] = true
rises before (x ∷ xs) = rises_from before x xs
