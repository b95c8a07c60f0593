-- Lists by their places.
use Rattle.std.proofs.Common.{◌≡◌, ℕ, zero, suc, ◌+◌, ◌<◌, ◌≤◌, List, [], ◌∷◌, Option, Some, None, length, slice_get, refl, sym, ap, ap₂, subst, ◌∙◌, arith}
use Rattle.std.specs.Prelude.{map}
use Rattle.std.specs.List.{AllByRecursion}
use Rattle.pearl_instructions.specs.declared.object.Parts.{Parts as Object}
use Rattle.pearl_records.specs.declared.record.TaskRecord.{TaskRecord}
use Rattle.pearl_saved.specs.declared.saved.FrameRecord.{FrameRecord}
use Rattle.pearl_saved.specs.Rules.{HasStack, HasStacks}
use Rattle.pearl_machine.specs.Parts.{table}

-- a list that is made place by place
pub table_is : {X : Type 0} (n : ℕ) (f : ℕ → X) (xs : List X) → n ≡ length xs → ((i : ℕ) (x : X) → slice_get xs i ≡ Some x → f i ≡ x) → table n f ≡ xs
table_is zero f [] long each = refl
table_is zero f (x ∷ xs) long each = absurd (omega (arith, long))
table_is (suc n) f [] long each = absurd (omega (arith, long))
table_is (suc n) f (x ∷ xs) long each =
    ap₂ (λ y ys. y ∷ ys) (each 0 x refl) (table_is n (λ i. f (suc i)) xs (omega (arith, long)) (λ i y e. each (suc i) y e))

pub table_mapped : {X Y : Type 0} (g : X → Y) (n : ℕ) (f : ℕ → X) → map g (table n f) ≡ table n (λ i. g (f i))
table_mapped g zero f = refl
table_mapped g (suc n) f = ap (λ ys. g (f 0) ∷ ys) (table_mapped g n (λ i. f (suc i)))

pub all_from : {X : Type 0} (P : X → Type 0) (xs : List X) → ((i : ℕ) (x : X) → slice_get xs i ≡ Some x → P x) → AllByRecursion P xs
all_from P [] each = tt
all_from P (x ∷ xs) each = (each 0 x refl, all_from P xs (λ i y e. each (suc i) y e))

pub all_to : {X : Type 0} (P : X → Type 0) (xs : List X) (i : ℕ) (x : X) → AllByRecursion P xs → slice_get xs i ≡ Some x → P x
all_to P [] i x h e = absurd cc
all_to P (y ∷ xs) zero x h e = let same : y ≡ x = cc in subst P same h.0
all_to P (y ∷ xs) (suc i) x h e = all_to P xs i x h.1 e

-- the stack of each task
module _ (o : Object) where
  stack_at : (b : ℕ) (rows : List TaskRecord) (stacks : List (List FrameRecord)) → HasStacks o b rows stacks → (t : ℕ) (row : TaskRecord) (frames : List FrameRecord)
      → slice_get rows t ≡ Some row → slice_get stacks t ≡ Some frames → HasStack o (b + t) row.standing frames
  stack_at b [] stacks h t row frames e f = absurd cc
  stack_at b (r ∷ rows) [] h t row frames e f = absurd h
  stack_at b (r ∷ rows) (s ∷ stacks) h zero row frames e f =
      let first : r ≡ row = cc in
      let second : s ≡ frames = cc in
      let same : b ≡ b + 0 = omega arith in
      subst (λ n. HasStack o n row.standing frames) same (subst (λ fs. HasStack o b row.standing fs) second (subst (λ x. HasStack o b x.standing s) first h.0))
  stack_at b (r ∷ rows) (s ∷ stacks) h (suc t) row frames e f =
      let same : (b + 1) + t ≡ b + suc t = omega arith in
      subst (λ n. HasStack o n row.standing frames) same (stack_at (b + 1) rows stacks h.1 t row frames e f)

  pub stack_of : (rows : List TaskRecord) (stacks : List (List FrameRecord)) → HasStacks o 0 rows stacks → (t : ℕ) (row : TaskRecord) (frames : List FrameRecord)
      → slice_get rows t ≡ Some row → slice_get stacks t ≡ Some frames → HasStack o t row.standing frames
  stack_of rows stacks h t row frames e f =
      let same : 0 + t ≡ t = omega arith in subst (λ n. HasStack o n row.standing frames) same (stack_at 0 rows stacks h t row frames e f)

  pub as_many : (b : ℕ) (rows : List TaskRecord) (stacks : List (List FrameRecord)) → HasStacks o b rows stacks → length rows ≡ length stacks
  as_many b [] [] h = refl
  as_many b [] (s ∷ stacks) h = absurd h
  as_many b (r ∷ rows) [] h = absurd h
  as_many b (r ∷ rows) (s ∷ stacks) h = ap suc (as_many (b + 1) rows stacks h.1)

  pub stacks_from : (b : ℕ) (rows : List TaskRecord) (stacks : List (List FrameRecord)) → length rows ≡ length stacks
      → ((t : ℕ) (row : TaskRecord) (frames : List FrameRecord) → slice_get rows t ≡ Some row → slice_get stacks t ≡ Some frames → HasStack o (b + t) row.standing frames)
      → HasStacks o b rows stacks
  stacks_from b [] [] long each = tt
  stacks_from b [] (s ∷ stacks) long each = absurd (omega (arith, long))
  stacks_from b (r ∷ rows) [] long each = absurd (omega (arith, long))
  stacks_from b (r ∷ rows) (s ∷ stacks) long each =
      let same : b + 0 ≡ b = omega arith in (
        subst (λ n. HasStack o n r.standing s) same (each 0 r s refl refl),
        stacks_from (b + 1) rows stacks (omega (arith, long)) (λ t row frames e f.
            let next : b + suc t ≡ (b + 1) + t = omega arith in subst (λ n. HasStack o n row.standing frames) next (each (suc t) row frames e f)),
      )
