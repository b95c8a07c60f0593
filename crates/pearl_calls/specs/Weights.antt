-- What a task or procedure weighs: its own weight, and the greatest weight of a procedure that it calls.
use Rattle.std.specs.Prelude.{ℕ, zero, suc, ◌+◌, ◌-◌, ◌^◌, max, min, List, [], ◌∷◌, length, map, slice_get}
use Rattle.std.specs.List.{filter_map}
use Rattle.pearl_calls.specs.Callers.{Caller}

abbrev pub greatest : List ℕ → ℕ
greatest [] = 0
greatest (n ∷ rest) = max n (greatest rest)

-- the procedures that are called, each as often as it is
abbrev pub called : List Caller → Caller → List Caller
called procedures caller = filter_map (slice_get procedures) caller.calls

-- the weight of one that calls at most so deep
abbrev pub weight : (depth : ℕ) → List Caller → Caller → ℕ
weight zero procedures caller = caller.own
weight (suc depth) procedures caller = caller.own + greatest (map (weight depth procedures) (called procedures caller))

-- where no procedure calls itself, none calls deeper than there are procedures
abbrev pub whole_weight : List Caller → Caller → ℕ
whole_weight procedures caller = weight (length procedures) procedures caller

-- a weight as it is told: up to the greatest number of 32 bits
abbrev pub capped : ℕ → ℕ
capped n = min n (2 ^ 32 - 1)

abbrev pub weights_of : List Caller → List ℕ
weights_of procedures = map (λ caller. capped (whole_weight procedures caller)) procedures
