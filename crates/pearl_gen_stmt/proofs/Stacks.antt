-- Each stack of an object is that of a context with a store.
use Rattle.std.specs.Prelude.{◌≡◌, ℕ, ◌≤◌, List, [], ◌∷◌, length, map, Some}
use Rattle.std.specs.List.{AllZip}
use Rattle.std.proofs.Common.{refl, sym, ap, subst, arith}
use Rattle.pearl_value.specs.declared.cell.Cell.{Cell}
use Rattle.pearl_stack.specs.Frames.{Frame}
use Rattle.pearl_instructions.specs.declared.object.Code.{Code}
use Rattle.pearl_instructions.specs.declared.object.Parts.{Parts as Object}
use Rattle.pearl_instructions.specs.Objects.{routine_at}
use Rattle.pearl_instructions.specs.Operands.{Shape}
use Rattle.pearl_instructions.specs.Rows as rows
use Rattle.pearl_instructions.specs.Stacks.{cells_or_none, Stands, Below, task_of}
use Rattle.pearl_meaning.specs.Frames.{Store}
use Rattle.pearl_gen_expr.specs.Contexts.{Standing, stack, Context, lowest, HasCells}
use Rattle.pearl_gen_stmt.specs.Arriving.{StacksStand}

abbrev caller_of : Frame → Standing
caller_of f = record { routine = f.routine; place = f.place; operands = f.operands }

abbrev callers_of : List Frame → List Standing
callers_of frames = map caller_of frames

abbrev cells_of : List Frame → List (List Cell)
cells_of frames = map (λ (f : Frame). f.cells) frames

stack_is : (frames : List Frame) → frames ≡ stack (callers_of frames) (cells_of frames)
stack_is [] = refl
stack_is (f ∷ lower) = ap (λ lower. f ∷ lower) (stack_is lower)

as_many : {X Y : Type 0} (P : X → Y → Type 0) (xs : List X) (ys : List Y) → AllZip P xs ys → length xs ≡ length ys
as_many P [] [] all = refl
as_many P [] (y ∷ ys) all = absurd all
as_many P (x ∷ xs) [] all = absurd all
as_many P (x ∷ xs) (y ∷ ys) all = let same = as_many P xs ys all.1 in omega (arith, same)

module _ (o : Object) where
  has_cells : (f : Frame) (code : Code) (shape : Shape) (rs : List ℕ) → routine_at o f.routine ≡ Some code →
      Stands o code f shape rs → HasCells o f.routine f.cells
  has_cells f code shape rs is stands =
      let same = as_many _ code.cells f.cells stands.cells in
      subst (λ found. length (cells_or_none found) ≤ length f.cells) (sym is) (omega (arith, same))

  all_have : (p : ℕ) (lower : List Frame) → Below o p lower →
      AllZip (HasCells o) (map (λ (caller : Standing). caller.routine) (callers_of lower)) (cells_of lower)
  all_have p [] below = tt
  all_have p (g ∷ lower) below =
      (has_cells g below.0.code _ _ below.0.routine below.0.stands, all_have g.routine lower below.1)

  lowest_is : (f : Frame) (lower : List Frame) → rows.lowest f lower ≡ lowest f.routine (callers_of lower)
  lowest_is f [] = refl
  lowest_is f (g ∷ lower) = lowest_is g lower

  -- the lowest routine is a task's
  is_tasks : (p : ℕ) (lower : List Frame) → Below o p lower → length o.procedures ≤ lowest p (callers_of lower)
  is_tasks p [] below = below
  is_tasks p (g ∷ lower) below = is_tasks g.routine lower below.1

pub stacks_stand : StacksStand
stacks_stand o [] is = absurd is
stacks_stand o (f ∷ lower) is =
    let c : Context = record { routine = f.routine; callers = callers_of lower } in
    let store : Store = record { task = task_of o (f ∷ lower); frames = cells_of (f ∷ lower) } in
    let low = lowest_is o f lower in let more = is_tasks o f.routine lower is.below in (
      c,
      f.place,
      f.operands,
      store,
      stack_is (f ∷ lower),
      record {
        cells = (has_cells o f is.code _ _ is.routine is.stands, all_have o f.routine lower is.below);
        task = omega (arith, low, more);
      },
    )
