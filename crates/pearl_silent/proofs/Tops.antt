-- The top frame of a stack, by its number and by its sizes.
use Rattle.std.proofs.Common.{◌≡◌, ◌≢◌, ℕ, zero, suc, ◌+◌, ◌<◌, ◌≤◌, List, [], ◌∷◌, length, drop, slice_get, refl, sym, ap, ◌∙◌, subst, arith, true, eqb, eq-eqb}
use Rattle.std.specs.Prelude.{IsSome}
use Rattle.pearl_value.specs.declared.cell.Cell.{Cell}
use Rattle.pearl_stack.specs.declared.stack.Frame as size
use Rattle.pearl_stack.specs.Frames.{Frame, Stack, cell_at, top_operands, used, without, pushed, popped, with_cell}
use Rattle.pearl_silent.specs.Steps.{IsSizes, IsHere, HasNext, sizes_of, top_cells, with_top_cell, with_cells}

pub top_some : (here : size.Frame) (frames : List Frame) → IsSizes here frames → frames ≢ []
top_some here [] never = absurd never
top_some here (f ∷ lower) is = λ e. cc

pub frames_more : (here : size.Frame) (frames : List Frame) → IsSizes here frames → 0 < length frames
frames_more here [] never = absurd never
frames_more here (f ∷ lower) is = omega arith

pub long_some : (frames : List Frame) → 1 < length frames → frames ≢ []
long_some [] less = absurd (omega (arith, less))
long_some (f ∷ lower) less = λ e. cc

-- the next instruction

pub has_next : (here : size.Frame) (frames : List Frame) → IsHere here frames → HasNext frames
has_next here [] is = absurd is.top
has_next here (f ∷ lower) is = record { some = λ e. cc; next = omega (arith, ap (λ h. h.instruction) is.top, is.next) }

pub sized : (frames : List Frame) → HasNext frames → IsHere (sizes_of frames) frames
sized [] next = absurd (next.some refl)
sized (f ∷ lower) next = record { top = refl; next = next.next }

pub next_pushed : (x : Cell) (frames : List Frame) → HasNext frames → HasNext (pushed x frames)
next_pushed x [] next = absurd (next.some refl)
next_pushed x (f ∷ lower) next = record { some = λ e. cc; next = next.next }

pub next_without : (n : ℕ) (frames : List Frame) → HasNext frames → HasNext (without n frames)
next_without n [] next = absurd (next.some refl)
next_without n (f ∷ lower) next = record { some = λ e. cc; next = next.next }

pub next_with_cell : (c : ℕ) (x : Cell) (frames : List Frame) → HasNext frames → HasNext (with_top_cell c x frames)
next_with_cell c x [] next = absurd (next.some refl)
next_with_cell c x (f ∷ lower) next = record { some = λ e. cc; next = next.next }

pub next_with_cells : (cells : List Cell) (frames : List Frame) → HasNext frames → HasNext (with_cells cells frames)
next_with_cells cells [] next = absurd (next.some refl)
next_with_cells cells (f ∷ lower) next = record { some = λ e. cc; next = next.next }

pub next_at : (s t : Stack) → s ≡ t → HasNext t.frames → HasNext s.frames
next_at s t e next = subst (λ (s : Stack). HasNext s.frames) (sym e) next

pub top_count : (here : size.Frame) (frames : List Frame) → IsSizes here frames → here.operands ≡ length (top_operands frames)
top_count here [] never = absurd never
top_count here (f ∷ lower) is = ap (λ h. h.operands) is

pub cells_count : (here : size.Frame) (frames : List Frame) → IsSizes here frames → here.cells ≡ length (top_cells frames)
cells_count here [] never = absurd never
cells_count here (f ∷ lower) is = ap (λ h. h.cells) is

-- cells

pub some_within : (xs : List Cell) (c : ℕ) → IsSome (slice_get xs c) → c < length xs
some_within [] c some = cc
some_within (x ∷ xs) zero some = omega arith
some_within (x ∷ xs) (suc c) some = let less = some_within xs c some in omega (arith, less)

pub own_small : (frames : List Frame) (c : ℕ) → IsSome (slice_get (top_cells frames) c) → c < used frames
own_small [] c some = cc
own_small (f ∷ lower) c some = let less = some_within f.cells c some in omega (arith, less)

pub cells_small : (frames : List Frame) → length (top_cells frames) ≤ used frames
cells_small [] = omega arith
cells_small (f ∷ lower) = omega arith

pub within_some : (xs : List Cell) (c : ℕ) → c < length xs → IsSome (slice_get xs c)
within_some [] c less = absurd (omega (arith, less))
within_some (x ∷ xs) zero less = refl
within_some (x ∷ xs) (suc c) less = within_some xs c (omega (arith, less))

pub own_cell_at : (frames : List Frame) (n c : ℕ) → suc n ≡ length frames → cell_at frames n c ≡ slice_get (top_cells frames) c
own_cell_at [] n c e = cc
own_cell_at (f ∷ lower) n c e =
    let t : eqb n (length lower) ≡ true = eq-eqb n (length lower) (omega (arith, e)) in
    rw t refl

pub own_cell_set : (frames : List Frame) (n c : ℕ) (x : Cell) → suc n ≡ length frames → with_cell frames n c x ≡ with_top_cell c x frames
own_cell_set [] n c x e = cc
own_cell_set (f ∷ lower) n c x e =
    let t : eqb n (length lower) ≡ true = eq-eqb n (length lower) (omega (arith, e)) in
    rw t refl

pub cells_more : (frames : List Frame) (c : ℕ) → IsSome (slice_get (top_cells frames) c) → 0 < length frames
cells_more [] c some = cc
cells_more (f ∷ lower) c some = omega arith

-- operands

drop_more : (n : ℕ) (xs : List Cell) → drop 1 (drop n xs) ≡ drop (suc n) xs
drop_more zero [] = refl
drop_more zero (x ∷ xs) = refl
drop_more (suc n) [] = refl
drop_more (suc n) (x ∷ xs) = drop_more n xs

pub without_more : (n : ℕ) (frames : List Frame) → popped (without n frames) ≡ without (n + 1) frames
without_more n [] = refl
without_more n (f ∷ lower) =
    let e : suc n ≡ n + 1 = omega arith in
    ap (λ xs. record f { operands = xs } ∷ lower) (drop_more n f.operands ∙ ap (λ k. drop k f.operands) e)

pub without_none : (frames : List Frame) → without 0 frames ≡ frames
without_none [] = refl
without_none (f ∷ lower) = refl

some_left : (n : ℕ) (xs : List Cell) → n < length xs → drop n xs ≢ []
some_left n [] less = absurd (omega (arith, less))
some_left zero (x ∷ xs) less = λ e. cc
some_left (suc n) (x ∷ xs) less = some_left n xs (omega (arith, less))

pub operands_left : (n : ℕ) (frames : List Frame) → n < length (top_operands frames) → top_operands (without n frames) ≢ []
operands_left n [] less = absurd (omega (arith, less))
operands_left n (f ∷ lower) less = some_left n f.operands less

pub without_some : (n : ℕ) (frames : List Frame) → frames ≢ [] → without n frames ≢ []
without_some n [] some = absurd (some refl)
without_some n (f ∷ lower) some = λ e. cc

pub pushed_some : (x : Cell) (frames : List Frame) → frames ≢ [] → pushed x frames ≢ []
pushed_some x [] some = absurd (some refl)
pushed_some x (f ∷ lower) some = λ e. cc

pub operands_some : (frames : List Frame) (n : ℕ) → n < length (top_operands frames) → top_operands frames ≢ []
operands_some frames n less = λ e. absurd (omega (arith, less, ap length e))

pub operands_fewer : (frames : List Frame) → length (top_operands frames) ≤ length (top_operands (popped frames)) + 1
operands_fewer [] = omega arith
operands_fewer (f ∷ lower) = fewer f.operands
  where
    fewer : (xs : List Cell) → length xs ≤ length (drop 1 xs) + 1
    fewer [] = omega arith
    fewer (x ∷ xs) = omega arith

pub cells_stay : (n : ℕ) (frames : List Frame) → top_cells (without n frames) ≡ top_cells frames
cells_stay n [] = refl
cells_stay n (f ∷ lower) = refl

pub with_some : (c : ℕ) (x : Cell) (frames : List Frame) → frames ≢ [] → with_top_cell c x frames ≢ []
with_some c x [] some = absurd (some refl)
with_some c x (f ∷ lower) some = λ e. cc

pub cells_some : (cells : List Cell) (frames : List Frame) → frames ≢ [] → with_cells cells frames ≢ []
cells_some cells [] some = absurd (some refl)
cells_some cells (f ∷ lower) some = λ e. cc

pub without_long : (n : ℕ) (frames : List Frame) → length (without n frames) ≡ length frames
without_long n [] = refl
without_long n (f ∷ lower) = refl

pub left_under : (c : ℕ) (x : Cell) (n : ℕ) (frames : List Frame) → n < length (top_operands frames) → n ≤ length (top_operands (popped (with_top_cell c x frames)))
left_under c x n [] less = absurd (omega (arith, less))
left_under c x n (f ∷ lower) less = let fewer = operands_fewer (f ∷ lower) in omega (arith, fewer, less)
