-- What is there where a row applies.
use Rattle.std.proofs.Common.{◌≡◌, ℕ, ◌<◌, List, [], ◌∷◌, Option, Some, None, length, refl, ap, arith, Bool, true, false}
use Rattle.std.specs.Prelude.{◌&&◌, option_and_then}
use Rattle.pearl_value.specs.declared.cell.Cell.{Cell}
use Rattle.pearl_stack.specs.Frames.{Frame, top_operands}
use Rattle.pearl_instructions.specs.Steps.{Step, given, needed, popped}
use Rattle.pearl_silent.specs.Steps.{on_top, Applies}

pub given_some : {A : Type 0} (o : Option A) (go : A → Step) (room : ℕ) → Applies (given o go) room → (x : A) × (o ≡ Some x) × Applies (go x) room
given_some None go room a = absurd a
given_some (Some x) go room a = (x, refl, a)

pub needed_true : (b : Bool) (step : Step) (room : ℕ) → Applies (needed b step) room → (b ≡ true) × Applies step room
needed_true false step room a = absurd a
needed_true true step room a = (refl, a)

pub popped_some : (xs : List Cell) (go : Cell → List Cell → Step) (room : ℕ) → Applies (popped xs go) room → (x : Cell) × (left : List Cell) × (xs ≡ x ∷ left) × Applies (go x left) room
popped_some [] go room a = absurd a
popped_some (x ∷ left) go room a = (x, left, refl, a)

-- one operand is taken off
pub one_there : (frames : List Frame) (go : Frame → List Frame → Cell → List Cell → Step) (room : ℕ) → Applies (on_top (λ f lower. popped f.operands (go f lower)) frames) room →
    0 < length (top_operands frames)
one_there [] go room a = absurd a
one_there (f ∷ lower) go room a = let is = popped_some f.operands _ room a in omega (arith, ap length is.2)

-- two operands are taken off
pub two_there : (frames : List Frame) (go : Frame → List Frame → Cell → Cell → List Cell → Step) (room : ℕ) →
    Applies (on_top (λ f lower. popped f.operands (λ y more. popped more (go f lower y))) frames) room → 1 < length (top_operands frames)
two_there [] go room a = absurd a
two_there (f ∷ lower) go room a =
    let is = popped_some f.operands _ room a in
    let more = popped_some is.1 _ room is.3 in
    omega (arith, ap length is.2, ap length more.2)

pub and_then_some : {A B : Type 0} (o : Option A) (go : A → Option B) (y : B) → option_and_then go o ≡ Some y → (x : A) × (o ≡ Some x) × (go x ≡ Some y)
and_then_some None go y e = cc
and_then_some (Some x) go y e = (x, refl, e)

pub and_true : (a b : Bool) → a && b ≡ true → (a ≡ true) × (b ≡ true)
and_true true b e = (refl, e)
and_true false b e = cc
