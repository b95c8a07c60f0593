-- What a cell of a frame holds is the same for the code and in meaning, and so is what is written there.
use Rattle.std.proofs.Common.{◌≡◌, ℕ, List, [], ◌∷◌, length, map, Some, slice_get, refl, ap, arith, Bool, true, false, eq-eqb}
use Rattle.std.specs.Prelude.{◌==◌, if◌then◌else◌, option_and_then}
use Rattle.std.specs.List.{AllZip}
use Rattle.pearl_value.specs.declared.cell.Cell.{Cell}
use Rattle.pearl_stack.specs.Frames as stack_frames
use Rattle.pearl_stack.specs.Frames.{Frame}
use Rattle.pearl_instructions.specs.declared.object.Parts.{Parts as Object}
use Rattle.pearl_meaning.specs.Frames as meaning
use Rattle.pearl_meaning.specs.Frames.{Store}
use Rattle.pearl_gen_expr.specs.Contexts.{Standing, Context, stack, HasCells, IsStoreOf}

-- there are as many frames as there are routines
zipped : (o : Object) (callers : List Standing) (frames : List (List Cell)) → AllZip (HasCells o) (map (λ (caller : Standing). caller.routine) callers) frames →
    length callers ≡ length frames
zipped o [] [] all = refl
zipped o [] (cells ∷ more) all = absurd all
zipped o (caller ∷ callers) [] all = absurd all
zipped o (caller ∷ callers) (cells ∷ more) all = let same = zipped o callers more all.1 in omega (arith, same)

pub callers_are : (o : Object) (c : Context) (task : ℕ) (cells : List Cell) (more : List (List Cell)) → IsStoreOf o c (record { task = task; frames = cells ∷ more }) →
    length c.callers ≡ length more
callers_are o c task cells more is = zipped o c.callers more is.cells.1

pub stack_long : (callers : List Standing) (frames : List (List Cell)) → length callers ≡ length frames → length (stack callers frames) ≡ length frames
stack_long [] [] same = refl
stack_long [] (cells ∷ more) same = absurd (omega (arith, same))
stack_long (caller ∷ callers) [] same = refl
stack_long (caller ∷ callers) (cells ∷ more) same = let long = stack_long callers more (omega (arith, same)) in omega (arith, long)

-- READING

cell_in : (f : Frame) (lower : List Frame) (cells : List Cell) (more : List (List Cell)) (n cell : ℕ) (test other : Bool) → f.cells ≡ cells → test ≡ other →
    stack_frames.cell_at lower n cell ≡ meaning.cell_at more n cell →
    option_and_then (λ (f : Frame). slice_get f.cells cell) (if test then Some f else stack_frames.frame_at lower n)
    ≡ option_and_then (λ (frame : List Cell). slice_get frame cell) (if other then Some cells else meaning.frame_at more n)
cell_in f lower cells more n cell true true of same below = ap (λ cells. slice_get cells cell) of
cell_in f lower cells more n cell true false of same below = cc
cell_in f lower cells more n cell false true of same below = cc
cell_in f lower cells more n cell false false of same below = below

pub cell_is : (callers : List Standing) (frames : List (List Cell)) (n cell : ℕ) → length callers ≡ length frames →
    stack_frames.cell_at (stack callers frames) n cell ≡ meaning.cell_at frames n cell
cell_is [] [] n cell same = refl
cell_is [] (cells ∷ more) n cell same = absurd (omega (arith, same))
cell_is (caller ∷ callers) [] n cell same = refl
cell_is (caller ∷ callers) (cells ∷ more) n cell same =
    let less : length callers ≡ length more = omega (arith, same) in
    cell_in (record { routine = caller.routine; place = caller.place; cells = cells; operands = caller.operands }) (stack callers more) cells more n cell
    (n == length (stack callers more)) (n == length more) refl (ap (λ long. n == long) (stack_long callers more less)) (cell_is callers more n cell less)

top_in : (cells : List Cell) (more : List (List Cell)) (cell : ℕ) (test : Bool) → test ≡ true →
    option_and_then (λ (frame : List Cell). slice_get frame cell) (if test then Some cells else meaning.frame_at more (length more)) ≡ slice_get cells cell
top_in cells more cell true e = refl
top_in cells more cell false e = cc

-- a cell of the routine at work
pub own_is : (cells : List Cell) (more : List (List Cell)) (cell : ℕ) → meaning.cell_at (cells ∷ more) (length more) cell ≡ slice_get cells cell
own_is cells more cell = top_in cells more cell (length more == length more) (eq-eqb (length more) (length more) refl)
