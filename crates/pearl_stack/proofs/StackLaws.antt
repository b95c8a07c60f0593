-- Laws of the definitions of a stack.
use Rattle.std.proofs.Common.{◌≡◌, ◌≢◌, ◌↔◌, ℕ, zero, suc, ◌+◌, ◌-◌, ◌<◌, ◌≤◌, List, [], ◌∷◌, ◌++◌, Option, Some, None, length, take, drop, reverse, replicate, get_or, slice_set, refl, sym, ap, ◌∙◌, subst, arith, Bool, true, false, cond, eqb, eq-eqb, ne_eqb, inl, inr, append_assoc, length-append, length-drop, length-take-le, length-set, take_at}
use Rattle.std.specs.Prelude.{IsSome, option_map, option_and_then, slice_get}
use Rattle.std.proofs.lemmas.List.{reverse-append, reverse-reverse, length-reverse, length-replicate, get_or-reverse, drop_at}
use Rattle.std.proofs.lemmas.Bool.{cases_eq}
use Rattle.std.proofs.lemmas.Option.{same_Some, slice_get-get_or}
use Rattle.pearl_value.specs.declared.cell.Cell.{Cell}
use Rattle.pearl_stack.specs.declared.stack.Frame as size
use Rattle.pearl_stack.specs.Frames.{Frame, frame_at, operand_at, sizes, top_operands, used, unset, pushed, popped, moved, with_cell, entered}
use Rattle.pearl_stack.specs.Laws.{NumbersFrames, NumbersValues, ReadsFromTheTop, PopsThePushed, all_pushed, PassesArguments, WritesOneCell, CountsValues}

-- the numbers of frames

some_of : (f : Frame) (below : List Frame) (n : ℕ) → (n < length below → IsSome (frame_at below n)) → n < length (f ∷ below) → IsSome (frame_at (f ∷ below) n)
some_of f below n more less = elim (cases_eq n (length below)) [
  | inl e ↦ (let t : eqb n (length below) ≡ true = eq-eqb n (length below) e in subst (λ b. IsSome (cond b (Some f) (frame_at below n))) (sym t) refl)
  | inr d ↦ (let t : eqb n (length below) ≡ false = ne_eqb n (length below) d in
      subst (λ b. IsSome (cond b (Some f) (frame_at below n))) (sym t) (more (omega (arith, less, d))))
]

frame_some : (frames : List Frame) (n : ℕ) → n < length frames → IsSome (frame_at frames n)
frame_some [] n less = absurd (omega (arith, less))
frame_some (f ∷ below) n less = some_of f below n (frame_some below n) less

within_of : (f : Frame) (below : List Frame) (n : ℕ) → (IsSome (frame_at below n) → n < length below) → IsSome (frame_at (f ∷ below) n) → n < length (f ∷ below)
within_of f below n more some = elim (cases_eq n (length below)) [
  | inl e ↦ omega (arith, e)
  | inr d ↦ (let t : eqb n (length below) ≡ false = ne_eqb n (length below) d in
      let less = more (subst (λ b. IsSome (cond b (Some f) (frame_at below n))) t some) in omega (arith, less))
]

frame_within : (frames : List Frame) (n : ℕ) → IsSome (frame_at frames n) → n < length frames
frame_within [] n some = cc
frame_within (f ∷ below) n some = within_of f below n (frame_within below n) some

pub numbers_frames : NumbersFrames
numbers_frames = λ frames n. (frame_within frames n, frame_some frames n)

slice_some : (xs : List Cell) (i : ℕ) → i < length xs → IsSome (slice_get xs i)
slice_some [] i less = absurd (omega (arith, less))
slice_some (x ∷ xs) zero less = refl
slice_some (x ∷ xs) (suc i) less = slice_some xs i (omega (arith, less))

slice_within : (xs : List Cell) (i : ℕ) → IsSome (slice_get xs i) → i < length xs
slice_within [] i some = cc
slice_within (x ∷ xs) zero some = omega arith
slice_within (x ∷ xs) (suc i) some = let less = slice_within xs i some in omega (arith, less)

values_of : (o : Option Frame) (i : ℕ) (size : size.Frame) → option_map sizes o ≡ Some size →
    (IsSome (option_and_then (λ f. slice_get f.cells i) o) ↔ (i < size.cells)) × (IsSome (option_and_then (λ f. slice_get (reverse f.operands) i) o) ↔ (i < size.operands))
values_of None i size e = cc
values_of (Some f) i size e =
    let same : sizes f ≡ size = same_Some (sizes f) size e in
    let cells : length f.cells ≡ size.cells = ap (λ s. s.cells) same in
    let operands : length f.operands ≡ size.operands = ap (λ s. s.operands) same in
    let long = length-reverse f.operands in (
      (λ some. let less = slice_within f.cells i some in omega (arith, less, cells), λ less. slice_some f.cells i (omega (arith, less, cells))),
      (
        λ some. let less = slice_within (reverse f.operands) i some in omega (arith, less, operands, long),
        λ less. slice_some (reverse f.operands) i (omega (arith, less, operands, long)),
      ),
    )

pub numbers_values : NumbersValues
numbers_values = λ frames n i size e. let both = values_of (frame_at frames n) i size e in record { cells = both.0; operands = both.1 }

pub reads_from_the_top : ReadsFromTheTop
reads_from_the_top = λ f below n less. reads f below n (get_or f.operands n unset) less
  where
    reads : (f : Frame) (below : List Frame) (n : ℕ) (d : Cell) → n < length f.operands →
        operand_at (f ∷ below) (length below) (length f.operands - 1 - n) ≡ slice_get f.operands n
    reads f below n d less =
        let xs : List Cell = f.operands in
        let i : ℕ = length xs - 1 - n in
        let t : eqb (length below) (length below) ≡ true = eq-eqb (length below) (length below) refl in
        let long : length (reverse xs) ≡ length xs = length-reverse xs in
        let back : get_or (reverse xs) i d ≡ get_or xs (length xs - 1 - i) d = get_or-reverse xs i d (omega (arith, less)) in
        let same : length xs - 1 - i ≡ n = omega (arith, less) in
        ap (λ b. option_and_then (λ (f : Frame). slice_get (reverse f.operands) i) (cond b (Some f) (frame_at below (length below)))) t
        ∙ (slice_get-get_or (reverse xs) i d (omega (arith, less, long))
        ∙ (ap Some (back ∙ ap (λ k. get_or xs k d) same) ∙ sym (slice_get-get_or xs n d less)))

-- operands and arguments

pub pops_the_pushed : PopsThePushed
pops_the_pushed = λ x frames some. pops x frames some
  where
    pops : (x : Cell) (frames : List Frame) → frames ≢ [] → (slice_get (top_operands (pushed x frames)) 0 ≡ Some x) × (popped (pushed x frames) ≡ frames)
    pops x [] some = absurd (some refl)
    pops x (f ∷ below) some = (refl, refl)

pushed_on : (xs : List Cell) (f : Frame) (below : List Frame) → all_pushed xs (f ∷ below) ≡ record f { operands = reverse xs ++ f.operands } ∷ below
pushed_on [] f below = refl
pushed_on (x ∷ xs) f below =
    let back : reverse (x ∷ xs) ≡ reverse xs ++ x ∷ [] = reverse-append (x ∷ []) xs in
    let one : reverse (x ∷ xs) ++ f.operands ≡ reverse xs ++ (x ∷ f.operands) = ap (λ ys. ys ++ f.operands) back ∙ append_assoc (reverse xs) (x ∷ []) f.operands in
    pushed_on xs (record f { operands = x ∷ f.operands }) below ∙ ap (λ ys. record f { operands = ys } ∷ below) (sym one)

pub passes_arguments : PassesArguments
passes_arguments = λ xs routine cells frames some. passes xs routine cells frames some
  where
    passes : (xs : List Cell) (routine cells : ℕ) (frames : List Frame) → frames ≢ [] →
        entered routine (length xs) cells (all_pushed xs frames)
        ≡ record { routine = routine; place = 0; cells = xs ++ replicate (cells - length xs) unset; operands = [] } ∷ frames
    passes xs routine cells [] some = absurd (some refl)
    passes xs routine cells (f ∷ below) some =
        let zs : List Cell = replicate (cells - length xs) unset in
        let args : take (length xs) (reverse xs ++ f.operands) ≡ reverse xs = take_at (reverse xs) f.operands (length xs) (length-reverse xs) in
        let left : drop (length xs) (reverse xs ++ f.operands) ≡ f.operands = drop_at (reverse xs) f.operands (length xs) (length-reverse xs) in
        let firsts : reverse (take (length xs) (reverse xs ++ f.operands)) ≡ xs = ap reverse args ∙ reverse-reverse xs in
        ap (entered routine (length xs) cells) (pushed_on xs f below)
        ∙ (ap (λ ys. record { routine = routine; place = 0; cells = ys ++ zs; operands = [] } ∷ record f { operands = drop (length xs) (reverse xs ++ f.operands) } ∷ below) firsts
        ∙ ap (λ ys. record { routine = routine; place = 0; cells = xs ++ zs; operands = [] } ∷ record f { operands = ys } ∷ below) left)

-- cells

abbrev with_one : ℕ → ℕ → Cell → ℕ → Frame → Frame
with_one n c x m f = cond (eqb n m) (record f { cells = slice_set f.cells c x }) f

frames_stay : (frames : List Frame) (n c : ℕ) (x : Cell) → length (with_cell frames n c x) ≡ length frames
frames_stay [] n c x = refl
frames_stay (f ∷ below) n c x = by_test (eqb n (length below)) (frames_stay below n c x)
  where
    by_test : (b : Bool) → length (with_cell below n c x) ≡ length below →
        length (cond b (record f { cells = slice_set f.cells c x } ∷ below) (f ∷ with_cell below n c x)) ≡ suc (length below)
    by_test true more = refl
    by_test false more = ap suc more

map_same : (n c : ℕ) (x : Cell) (m : ℕ) (o : Option Frame) → eqb n m ≡ false → option_map (with_one n c x m) o ≡ o
map_same n c x m None t = refl
map_same n c x m (Some f) t = ap (λ b. Some (cond b (record f { cells = slice_set f.cells c x }) f)) t

at_top : (f : Frame) (below : List Frame) (n c : ℕ) (x : Cell) (m : ℕ) → n ≡ length below → frame_at (with_cell (f ∷ below) n c x) m ≡ option_map (with_one n c x m) (frame_at (f ∷ below) m)
at_top f below n c x m at =
    let t : eqb n (length below) ≡ true = eq-eqb n (length below) at in
    elim (cases_eq m (length below)) [
      | inl e ↦ (let u : eqb m (length below) ≡ true = eq-eqb m (length below) e in let s : eqb n m ≡ true = eq-eqb n m (at ∙ sym e) in rw (t, u, s) refl)
      | inr d ↦ (let u : eqb m (length below) ≡ false = ne_eqb m (length below) d in let s : eqb n m ≡ false = ne_eqb n m (λ e. d (sym e ∙ at)) in
          let same = map_same n c x m (frame_at below m) s in rw (t, u) (sym same))
    ]

lower : (f : Frame) (below : List Frame) (n c : ℕ) (x : Cell) (m : ℕ) → n ≢ length below →
    frame_at (with_cell below n c x) m ≡ option_map (with_one n c x m) (frame_at below m) →
    frame_at (with_cell (f ∷ below) n c x) m ≡ option_map (with_one n c x m) (frame_at (f ∷ below) m)
lower f below n c x m off more =
    let t : eqb n (length below) ≡ false = ne_eqb n (length below) off in
    let long = frames_stay below n c x in
    elim (cases_eq m (length below)) [
      | inl e ↦ (let u : eqb m (length below) ≡ true = eq-eqb m (length below) e in let s : eqb n m ≡ false = ne_eqb n m (λ e2. off (e2 ∙ e)) in rw (t, long, u, s) refl)
      | inr d ↦ (let u : eqb m (length below) ≡ false = ne_eqb m (length below) d in rw (t, long, u) more)
    ]

writes : (frames : List Frame) (n c : ℕ) (x : Cell) (m : ℕ) → frame_at (with_cell frames n c x) m ≡ option_map (with_one n c x m) (frame_at frames m)
writes [] n c x m = refl
writes (f ∷ below) n c x m = elim (cases_eq n (length below)) [ inl e ↦ at_top f below n c x m e | inr d ↦ lower f below n c x m d (writes below n c x m) ]

pub writes_one_cell : WritesOneCell
writes_one_cell = λ frames n c x m. writes frames n c x m

-- how many cells and operands there are

by_push : (x : Cell) (frames : List Frame) → frames ≢ [] → used (pushed x frames) ≡ used frames + 1
by_push x [] some = absurd (some refl)
by_push x (f ∷ below) some = omega arith

by_pop : (frames : List Frame) → top_operands frames ≢ [] → used (popped frames) + 1 ≡ used frames
by_pop [] some = absurd (some refl)
by_pop (f ∷ below) some = let long = length-drop 1 f.operands in omega (arith, long, one f.operands some)
  where
    one : (xs : List Cell) → xs ≢ [] → 1 ≤ length xs
    one [] some = absurd (some refl)
    one (x ∷ xs) some = omega arith

by_go : (place : ℕ) (frames : List Frame) → used (moved place frames) ≡ used frames
by_go place [] = refl
by_go place (f ∷ below) = refl

by_set_cell : (frames : List Frame) (n c : ℕ) (x : Cell) → used (with_cell frames n c x) ≡ used frames
by_set_cell [] n c x = refl
by_set_cell (f ∷ below) n c x = by_test (eqb n (length below)) (by_set_cell below n c x)
  where
    by_test : (b : Bool) → used (with_cell below n c x) ≡ used below →
        used (cond b (record f { cells = slice_set f.cells c x } ∷ below) (f ∷ with_cell below n c x)) ≡ used (f ∷ below)
    by_test true more = ap (λ k. k + length f.operands + used below) (length-set f.cells c x)
    by_test false more = ap (λ k. length f.cells + length f.operands + k) more

by_enter : (routine params cells : ℕ) (frames : List Frame) → params ≤ length (top_operands frames) → params ≤ cells →
    used (entered routine params cells frames) ≡ used frames + (cells - params)
by_enter routine params cells [] less fits =
    let zs : List Cell = replicate (cells - params) unset in
    let wide : length zs ≡ cells - params = length-replicate (cells - params) unset in
    let none : params ≡ 0 = omega (arith, less) in
    let xs : List Cell = [] in
    let args : length (reverse (take params xs)) ≡ 0 = ap (λ n. length (reverse (take n xs))) none in
    let all = length-append (reverse (take params xs)) zs in
    omega (arith, wide, args, all)
by_enter routine params cells (f ∷ below) less fits =
    let zs : List Cell = replicate (cells - params) unset in
    let wide : length zs ≡ cells - params = length-replicate (cells - params) unset in
    let args : length (reverse (take params f.operands)) ≡ params = length-reverse (take params f.operands) ∙ length-take-le params f.operands less in
    let all = length-append (reverse (take params f.operands)) zs in
    let left = length-drop params f.operands in
    omega (arith, wide, args, all, left, less)

pub counts_values : CountsValues
counts_values = record { by_push = by_push; by_pop = by_pop; by_go = by_go; by_set_cell = by_set_cell; by_enter = by_enter }
