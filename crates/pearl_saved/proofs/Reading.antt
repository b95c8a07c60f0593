-- How a stack is read and filled, place by place.
use Rattle.std.proofs.Common.{◌≡◌, inl, inr, ℕ, zero, suc, ◌+◌, ◌-◌, ◌<◌, ◌≤◌, Bool, true, false, List, [], ◌∷◌, ◌++◌, length, take, drop, Option, Some, None, slice_get, slice_set, refl, sym, ap, ap₂, subst, ◌∙◌, arith}
use Rattle.std.specs.Prelude.{cond, eqb, IsSome, map, reverse, option_map, option_and_then, replicate}
use Rattle.std.proofs.lemmas.Bool.{cases_eq, eq-eqb, ne_eqb}
use Rattle.std.proofs.lemmas.List.{length-map, length-reverse, length-replicate, reverse-append, map-append, append-nil}
use Rattle.std.proofs.lemmas.Option.{slice_get-map}
use Rattle.std.specs.List.{AllByRecursion}
use Rattle.pearl_value.specs.declared.cell.Cell.{Cell}
use Rattle.pearl_stack.specs.Frames.{Frame, Stack, frame_at, cell_at, operand_at, top_operands, pushed, moved, without, with_cell, entered, used, unset}
use Rattle.pearl_stack.specs.Laws.{all_pushed}
use Rattle.pearl_saved.specs.declared.saved.SavedCell.{SavedCell}
use Rattle.pearl_saved.specs.declared.saved.FrameRecord.{FrameRecord}
use Rattle.pearl_saved.specs.Filling.{cells_in, operands_in, top_cells, with_cells}
use Rattle.pearl_saved.specs.Stacks.{frame_record, stack_record, cell_made, frame_made, frames_made}
use Rattle.pearl_saved.proofs.Turned.{map_reversed, at_end, not_at_end}

-- ---- lists

pub some_at : {X : Type 0} (xs : List X) (i : ℕ) → i < length xs → IsSome (slice_get xs i)
some_at [] i less = absurd (omega (arith, less))
some_at (x ∷ xs) zero less = refl
some_at (x ∷ xs) (suc i) less = some_at xs i (omega (arith, less))

one_more : {X : Type 0} (xs : List X) (i : ℕ) (x : X) → slice_get xs i ≡ Some x → take (suc i) xs ≡ take i xs ++ x ∷ []
one_more [] i x e = absurd cc
one_more (y ∷ xs) zero x e = let same : y ≡ x = cc in ap (λ z. z ∷ []) same
one_more (y ∷ xs) (suc i) x e = ap (λ zs. y ∷ zs) (one_more xs i x e)

pub more_taken : {X : Type 0} (xs : List X) (i : ℕ) (x : X) → slice_get xs i ≡ Some x → take (i + 1) xs ≡ take i xs ++ x ∷ []
more_taken xs i x e = let next : i + 1 ≡ suc i = omega arith in ap (λ n. take n xs) next ∙ one_more xs i x e

pub more_mapped : {X Y : Type 0} (f : X → Y) (xs : List X) (i : ℕ) (x : X) → slice_get xs i ≡ Some x → map f (take (i + 1) xs) ≡ map f (take i xs) ++ f x ∷ []
more_mapped f xs i x e = ap (map f) (more_taken xs i x e) ∙ map-append f (take i xs) (x ∷ [])

-- ---- a stack is read

chosen : {X : Type 0} (a b : Bool) (x y : X) → a ≡ b → cond a x y ≡ cond b x y
chosen a b x y e = ap (λ c. cond c x y) e

pub at_turned : (frames : List Frame) (n : ℕ) → frame_at frames n ≡ slice_get (reverse frames) n
at_turned [] n = refl
at_turned (f ∷ below) n =
    let turned : reverse (f ∷ below) ≡ reverse below ++ f ∷ [] = reverse-append (f ∷ []) below in
    elim (cases_eq n (length below)) [
      | inl e ↦
          chosen (eqb n (length below)) true (Some f) (frame_at below n) (eq-eqb n (length below) e)
          ∙ sym (ap (λ fs. slice_get fs n) turned ∙ (ap (slice_get (reverse below ++ f ∷ [])) (e ∙ sym (length-reverse below)) ∙ at_end (reverse below) f))
      | inr other ↦
          chosen (eqb n (length below)) false (Some f) (frame_at below n) (ne_eqb n (length below) other)
          ∙ at_turned below n
          ∙ sym (ap (λ fs. slice_get fs n) turned ∙ not_at_end (reverse below) f n (λ e. other (e ∙ length-reverse below)))
    ]

pub frame_there : (frames : List Frame) (n : ℕ) → n < length frames → IsSome (frame_at frames n)
frame_there frames n less = subst IsSome (sym (at_turned frames n)) (some_at (reverse frames) n (omega (arith, less, length-reverse frames)))

pub recorded_at : (frames : List Frame) (n : ℕ) → option_map frame_record (frame_at frames n) ≡ slice_get (stack_record frames) n
recorded_at frames n = ap (option_map frame_record) (at_turned frames n) ∙ sym (slice_get-map frame_record (reverse frames) n)

pub record_long : (frames : List Frame) → length (stack_record frames) ≡ length frames
record_long frames = length-map (reverse frames) frame_record ∙ length-reverse frames

pub cells_at : (f : Option Frame) (c : ℕ) → option_and_then (λ (f : Frame). slice_get f.cells c) f ≡ slice_get (cells_in f) c
cells_at None c = refl
cells_at (Some f) c = refl

pub operands_at : (f : Option Frame) (at : ℕ) → option_and_then (λ (f : Frame). slice_get (reverse f.operands) at) f ≡ slice_get (operands_in f) at
operands_at None at = refl
operands_at (Some f) at = refl

pub cell_there : (frames : List Frame) (n c : ℕ) → c < length (cells_in (frame_at frames n)) → IsSome (cell_at frames n c)
cell_there frames n c less = subst IsSome (sym (cells_at (frame_at frames n) c)) (some_at (cells_in (frame_at frames n)) c less)

pub operand_there : (frames : List Frame) (n at : ℕ) → at < length (operands_in (frame_at frames n)) → IsSome (operand_at frames n at)
operand_there frames n at less = subst IsSome (sym (operands_at (frame_at frames n) at)) (some_at (operands_in (frame_at frames n)) at less)

-- ---- the cells of the top frame are written

pub same_cells : (frames : List Frame) → with_cells (top_cells frames) frames ≡ frames
same_cells [] = refl
same_cells (f ∷ lower) = refl

pub cells_set : (xs : List Cell) (frames : List Frame) (top c : ℕ) (x : Cell) → top + 1 ≡ length frames → with_cell (with_cells xs frames) top c x ≡ with_cells (slice_set xs c x) frames
cells_set xs [] top c x e = absurd (omega (arith, e))
cells_set xs (f ∷ lower) top c x e =
    let g : Frame = record f { cells = xs } in
    let at : top ≡ length lower = omega (arith, e) in
    let h : Frame = record f { cells = slice_set xs c x } in
    chosen (eqb top (length lower)) true (h ∷ lower) (g ∷ with_cell lower top c x) (eq-eqb top (length lower) at)

pub top_there : (xs : List Cell) (frames : List Frame) (top c : ℕ) → top + 1 ≡ length frames → c < length xs → IsSome (cell_at (with_cells xs frames) top c)
top_there xs [] top c e less = absurd (omega (arith, e))
top_there xs (f ∷ lower) top c e less =
    let at : top ≡ length lower = omega (arith, e) in
    let g : Frame = record f { cells = xs } in
    subst IsSome (sym (ap (λ b. option_and_then (λ (f : Frame). slice_get f.cells c) (cond b (Some g) (frame_at lower top))) (eq-eqb top (length lower) at))) (some_at xs c less)

pub as_many_frames : (xs : List Cell) (frames : List Frame) → length (with_cells xs frames) ≡ length frames
as_many_frames xs [] = refl
as_many_frames xs (f ∷ lower) = refl

-- so many cells are written, and the others are as they were
one_written : (f : SavedCell → Cell) (cells : List SavedCell) (old : List Cell) (c : ℕ) (x : SavedCell) → length old ≡ length cells → slice_get cells c ≡ Some x
    → slice_set (map f (take c cells) ++ drop c old) c (f x) ≡ map f (take (suc c) cells) ++ drop (suc c) old
one_written f [] old c x same e = absurd cc
one_written f (y ∷ cells) [] c x same e = absurd (omega (arith, same))
one_written f (y ∷ cells) (z ∷ old) zero x same e = let first : y ≡ x = cc in ap (λ v. f v ∷ old) (sym first)
one_written f (y ∷ cells) (z ∷ old) (suc c) x same e = ap (λ xs. f y ∷ xs) (one_written f cells old c x (omega (arith, same)) e)

pub one_more_written : (f : SavedCell → Cell) (cells : List SavedCell) (old : List Cell) (c : ℕ) (x : SavedCell) → length old ≡ length cells → slice_get cells c ≡ Some x
    → slice_set (map f (take c cells) ++ drop c old) c (f x) ≡ map f (take (c + 1) cells) ++ drop (c + 1) old
one_more_written f cells old c x same e =
    let next : suc c ≡ c + 1 = omega arith in
    one_written f cells old c x same e ∙ ap (λ n. map f (take n cells) ++ drop n old) next

pub some_written : (f : SavedCell → Cell) (cells : List SavedCell) (old : List Cell) (c : ℕ) → length old ≡ length cells → length (map f (take c cells) ++ drop c old) ≡ length cells
some_written f [] [] zero same = refl
some_written f [] [] (suc c) same = refl
some_written f [] (z ∷ old) c same = absurd (omega (arith, same))
some_written f (y ∷ cells) [] c same = absurd (omega (arith, same))
some_written f (y ∷ cells) (z ∷ old) zero same = omega (arith, same)
some_written f (y ∷ cells) (z ∷ old) (suc c) same = ap suc (some_written f cells old c (omega (arith, same)))

-- ---- operands are pushed

pub pushed_more : (xs : List Cell) (x : Cell) (frames : List Frame) → all_pushed (xs ++ x ∷ []) frames ≡ pushed x (all_pushed xs frames)
pushed_more [] x frames = refl
pushed_more (y ∷ xs) x frames = pushed_more xs x (pushed y frames)

pub pushed_long : (xs : List Cell) (frames : List Frame) → length (all_pushed xs frames) ≡ length frames
pushed_long [] frames = refl
pushed_long (x ∷ xs) [] = pushed_long xs []
pushed_long (x ∷ xs) (f ∷ lower) = pushed_long xs (record f { operands = x ∷ f.operands } ∷ lower)

pub pushed_used : (xs : List Cell) (frames : List Frame) → 0 < length frames → used (all_pushed xs frames) ≡ used frames + length xs
pushed_used [] frames some = omega arith
pushed_used (x ∷ xs) [] some = absurd (omega (arith, some))
pushed_used (x ∷ xs) (f ∷ lower) some =
    let more = pushed_used xs (record f { operands = x ∷ f.operands } ∷ lower) (omega arith) in omega (arith, more)

-- operands that are pushed lie the other way round
moved_over : (front : List Cell) (x : Cell) (ys : List Cell) → (front ++ x ∷ []) ++ ys ≡ front ++ x ∷ ys
moved_over [] x ys = refl
moved_over (a ∷ front) x ys = ap (λ zs. a ∷ zs) (moved_over front x ys)

turned_on : (xs ys : List Cell) (f : Frame) (lower : List Frame) → all_pushed xs (record f { operands = ys } ∷ lower) ≡ record f { operands = reverse xs ++ ys } ∷ lower
turned_on [] ys f lower = refl
turned_on (x ∷ xs) ys f lower =
    turned_on xs (x ∷ ys) f lower
    ∙ ap (λ zs. record f { operands = zs } ∷ lower) (sym (ap (λ zs. zs ++ ys) (reverse-append (x ∷ []) xs) ∙ moved_over (reverse xs) x ys))

-- ---- a frame is put on

none_without : (frames : List Frame) → without 0 frames ≡ frames
none_without [] = refl
none_without (f ∷ lower) = refl

none_taken : (xs ys : List Cell) → reverse (take 0 xs) ++ ys ≡ ys
none_taken [] ys = refl
none_taken (x ∷ xs) ys = refl

pub entered_is : (routine n : ℕ) (frames : List Frame) → entered routine 0 n frames ≡ record { routine = routine; place = 0; cells = replicate n unset; operands = [] } ∷ frames
entered_is routine n frames =
    let same : n - 0 ≡ n = omega arith in
    ap₂ (λ xs fs. let f : Frame = record { routine = routine; place = 0; cells = xs; operands = [] } in f ∷ fs)
    (ap (λ m. reverse (take 0 (top_operands frames)) ++ replicate m unset) same ∙ none_taken (top_operands frames) (replicate n unset)) (none_without frames)

pub put_is : (f : FrameRecord) (frames : List Frame)
    → all_pushed (map cell_made f.operands) (moved f.place (with_cells (map cell_made f.cells) (entered f.routine 0 (length f.cells) frames))) ≡ frame_made f ∷ frames
put_is f frames =
    let bare : Frame = record { routine = f.routine; place = f.place; cells = map cell_made f.cells; operands = [] } in
    ap (λ fs. all_pushed (map cell_made f.operands) (moved f.place (with_cells (map cell_made f.cells) fs))) (entered_is f.routine (length f.cells) frames)
    ∙ turned_on (map cell_made f.operands) [] bare frames
    ∙ ap (λ zs. record bare { operands = zs } ∷ frames) (append-nil (reverse (map cell_made f.operands)) ∙ sym (map_reversed cell_made f.operands))

pub put_more : (frames : List FrameRecord) (f : FrameRecord) → frames_made (frames ++ f ∷ []) ≡ frame_made f ∷ frames_made frames
put_more frames f = ap (map frame_made) (reverse-append frames (f ∷ []))

-- a frame that is put on step by step
pub put_chain : (f : FrameRecord) (cells operands : List SavedCell) (s0 s1 s2 s3 s4 : Stack) → cells ≡ f.cells → operands ≡ f.operands
    → s1 ≡ record s0 { frames = entered f.routine 0 (length cells) s0.frames }
    → s2 ≡ record s1 { frames = with_cells (map cell_made cells) s1.frames }
    → s3 ≡ record s2 { frames = moved f.place s2.frames }
    → s4 ≡ record s3 { frames = all_pushed (map cell_made operands) s3.frames }
    → s4 ≡ record s0 { frames = frame_made f ∷ s0.frames }
put_chain f cells operands s0 s1 s2 s3 s4 same_cells same_operands e1 e2 e3 e4 =
    let xs = map cell_made cells in
    let ys = map cell_made operands in
    e4
    ∙ ap (λ (s : Stack). record s { frames = all_pushed ys s.frames }) e3
    ∙ ap (λ (s : Stack). record s { frames = all_pushed ys (moved f.place s.frames) }) e2
    ∙ ap (λ (s : Stack). record s { frames = all_pushed ys (moved f.place (with_cells xs s.frames)) }) e1
    ∙ ap (λ fs. record s0 { frames = fs })
    (ap₂ (λ cs os. all_pushed (map cell_made os) (moved f.place (with_cells (map cell_made cs) (entered f.routine 0 (length cs) s0.frames)))) same_cells same_operands
    ∙ put_is f s0.frames)
