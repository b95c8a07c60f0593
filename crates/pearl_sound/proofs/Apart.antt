-- Two names of the module don't name the same.
use Rattle.std.specs.Prelude.{◌≡◌, ℕ, zero, suc, ◌+◌, ◌≤◌, ◌<◌, List, [], ◌∷◌, take, Some, slice_get}
use Rattle.std.specs.List.{sum_by}
use Rattle.std.proofs.Common.{refl, ap, ◌∙◌, sym, subst, arith}
use Rattle.std.proofs.lemmas.List.Sums.{sum_by-cons}
use Rattle.std.proofs.lemmas.Option.{none-some}
use Rattle.pearl_names.specs.declared.scope.SortedName.{SortedName}
use Rattle.pearl_names.specs.Tables.{Sense, Variable, Semaphore, Task, Procedure}
use Rattle.pearl_system.specs.declared.device.SpecifiedDevice.{SpecifiedDevice}
use Rattle.pearl_resolve.specs.Numbers.{Before, behind, module_number, module_numbers}
use Rattle.pearl_check.specs.Sizes.{procedure_count}
use Rattle.pearl_sound.specs.Laws.{AreApart, procedures_before}
use Rattle.pearl_sound.proofs.SoundParts.{some_one}

record IsBehind (before later : Before) : Type 0 where
  pub leaves : before.leaves ≤ later.leaves
  pub semaphores : before.semaphores ≤ later.semaphores
  pub tasks : before.tasks ≤ later.tasks
  pub procedures : before.procedures ≤ later.procedures

itself : (before : Before) → IsBehind before before
itself before = record { leaves = omega arith; semaphores = omega arith; tasks = omega arith; procedures = omega arith }

steps : (before : Before) (sense : Sense) → IsBehind before (behind before sense)
steps before Semaphore = record { leaves = omega arith; semaphores = omega arith; tasks = omega arith; procedures = omega arith }
steps before sense = record { leaves = omega arith; semaphores = omega arith; tasks = omega arith; procedures = omega arith }

follows : {a b c : Before} → IsBehind a b → IsBehind b c → IsBehind a c
follows one two = record {
  leaves = let x = one.leaves in let y = two.leaves in omega (arith, x, y);
  semaphores = let x = one.semaphores in let y = two.semaphores in omega (arith, x, y);
  tasks = let x = one.tasks in let y = two.tasks in omega (arith, x, y);
  procedures = let x = one.procedures in let y = two.procedures in omega (arith, x, y);
}

-- one name more
one_more : (before : Before) (head : Sense) (rest : List Sense) (j : ℕ) →
    procedures_before (behind before head) rest j ≡ procedures_before before (head ∷ rest) (suc j)
one_more before head rest j = by head (sum_by-cons procedure_count head (take j rest))
  where
    by : (sense : Sense) → sum_by procedure_count (sense ∷ take j rest) ≡ procedure_count sense + sum_by procedure_count (take j rest) →
        procedures_before (behind before sense) rest j ≡ procedures_before before (sense ∷ rest) (suc j)
    by (Procedure parameters result) sum = omega (arith, sum)
    by sense sum = omega (arith, sum)

module _ (devices : List SpecifiedDevice) (numbers : List ℕ) where
  -- what stood before a name
  there : (before : Before) (entries : List SortedName) (senses : List Sense) (j number : ℕ) (sense : Sense) →
      slice_get senses j ≡ Some sense → slice_get (module_numbers devices numbers before entries senses) j ≡ Some number →
      (at : Before) × (entry : SortedName) × (module_number devices numbers at entry sense ≡ number) × IsBehind before at ×
      (at.procedures ≡ procedures_before before senses j)
  there before [] [] j number sense is has = absurd (none-some number has)
  there before [] (head ∷ rest) j number sense is has = absurd (none-some number has)
  there before (entry ∷ entries) [] j number sense is has = absurd (none-some number has)
  there before (entry ∷ entries) (head ∷ rest) zero number sense is has = (
    before,
    entry,
    ap (module_number devices numbers before entry) (sym (some_one is)) ∙ some_one has,
    itself before,
    omega arith,
  )
  there before (entry ∷ entries) (head ∷ rest) (suc j) number sense is has =
      let found = there (behind before head) entries rest j number sense is has in
      (found.0, found.1, found.2, follows (steps before head) found.3, found.4 ∙ one_more before head rest j)

  apart : (before at : Before) (entry other : SortedName) (one two : Sense) → IsBehind (behind before one) at →
      AreApart numbers before.procedures at.procedures one two (module_number devices numbers before entry one) (module_number devices numbers at other two)
  apart before at entry other (Variable form inv) (Variable next also) later = later.leaves
  apart before at entry other Semaphore Semaphore later = let a = later.semaphores in omega (arith, a)
  apart before at entry other Task Task later = let a = later.tasks in omega (arith, a)
  apart before at entry other (Procedure parameters result) (Procedure others gives) later =
      ((let a = later.procedures in omega (arith, a)), refl, refl)
  apart before at entry other one two later = tt

  pub numbers_apart : (before : Before) (entries : List SortedName) (senses : List Sense) (i j first second : ℕ) (one two : Sense) → i < j →
      slice_get senses i ≡ Some one → slice_get (module_numbers devices numbers before entries senses) i ≡ Some first →
      slice_get senses j ≡ Some two → slice_get (module_numbers devices numbers before entries senses) j ≡ Some second →
      AreApart numbers (procedures_before before senses i) (procedures_before before senses j) one two first second
  numbers_apart before [] [] i j first second one two less is has other at = absurd (none-some first has)
  numbers_apart before [] (head ∷ rest) i j first second one two less is has other at = absurd (none-some first has)
  numbers_apart before (entry ∷ entries) [] i j first second one two less is has other at = absurd (none-some first has)
  numbers_apart before (entry ∷ entries) (head ∷ rest) i zero first second one two less is has other at = absurd (omega (arith, less))
  numbers_apart before (entry ∷ entries) (head ∷ rest) zero (suc j) first second one two less is has other at =
      let found = there (behind before head) entries rest j second two other at in
      let p = procedures_before before (head ∷ rest) 0 in
      let q = procedures_before before (head ∷ rest) (suc j) in
      let none : before.procedures ≡ p = omega arith in
      subst (λ sense. AreApart numbers p q sense two first second) (some_one is)
      (subst (λ number. AreApart numbers p q head two number second) (some_one has)
      (subst (λ number. AreApart numbers p q head two (module_number devices numbers before entry head) number) found.2
      (subst (λ here. AreApart numbers here q head two (module_number devices numbers before entry head) (module_number devices numbers found.0 found.1 two)) none
      (subst (λ there. AreApart numbers before.procedures there head two (module_number devices numbers before entry head) (module_number devices numbers found.0 found.1 two))
      (found.4 ∙ one_more before head rest j) (apart before found.0 entry found.1 head two found.3)))))
  numbers_apart before (entry ∷ entries) (head ∷ rest) (suc i) (suc j) first second one two less is has other at =
      subst (λ p. AreApart numbers p (procedures_before before (head ∷ rest) (suc j)) one two first second) (one_more before head rest i)
      (subst (λ q. AreApart numbers (procedures_before (behind before head) rest i) q one two first second) (one_more before head rest j)
      (numbers_apart (behind before head) entries rest i j first second one two (omega (arith, less)) is has other at))
