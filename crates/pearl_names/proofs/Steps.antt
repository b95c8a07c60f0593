-- Look-ups of lengths by steps.
use Rattle.std.proofs.Common.{◌≡◌, ℕ, zero, suc, ◌-◌, ◌<◌, ◌≤◌, Bool, true, false, cond, ◌&&◌, nat_le, List, [], ◌∷◌, ◌++◌, length, take, get_or, refl, sym, ap, subst, ◌∙◌, arith}
use Rattle.std.proofs.lemmas.Bool.{leb-true}
use Rattle.std.proofs.lemmas.List.{length-take-le, get_or-take}
use Rattle.std.proofs.lemmas.List.Sorted.{IsNonDecreasingBy-take, IsNonDecreasingBy-push}
use Rattle.std.specs.List.{AllWithin}
use Rattle.std.specs.List.Sorted.{IsNonDecreasingBy}
use Rattle.pearl_tree.specs.declared.typing.Sort.{Sort}
use Rattle.pearl_names.specs.declared.length.DefaultLength.{DefaultLength}
use Rattle.pearl_names.specs.declared.length.Step.{Step}
use Rattle.pearl_names.specs.Lengths.{is_same_sort, first_length, holds_at, last_length, length_at}
use Rattle.pearl_names.specs.Steps.{last_step, HasSteps}

last_step-append : (len : ℕ) (xs ys : List Step) (place : ℕ) → last_step len (xs ++ ys) place ≡ last_step (last_step len xs place) ys place
last_step-append len [] ys place = refl
last_step-append len (x ∷ xs) ys place = last_step-append (cond (nat_le x.place place) x.len len) xs ys place

last_length-append : (len : ℕ) (xs : List DefaultLength) (x : DefaultLength) (sort : Sort) (place : ℕ) →
    last_length len (xs ++ x ∷ []) sort place ≡ cond (holds_at x sort place) x.len (last_length len xs sort place)
last_length-append len [] x sort place = refl
last_length-append len (y ∷ xs) x sort place = last_length-append (cond (holds_at y sort place) y.len len) xs x sort place

abbrev pub is_at : ℕ → Step → Bool
is_at place step = nat_le step.place place

-- the length at a place, where so many steps stand at or before it
abbrev pub picked : ℕ → List Step → ℕ → ℕ
picked len steps zero = len
picked len steps (suc i) = (get_or steps i (record { place = 0; len = 0 })).len

pub picked_at : (steps : List Step) (i len place : ℕ) → AllWithin (λ s. is_at place s ≡ true) steps 0 i → AllWithin (λ s. is_at place s ≡ false) steps i (length steps) →
    i ≤ length steps → last_step len steps place ≡ picked len steps i
picked_at [] zero len place before behind within = refl
picked_at [] (suc i) len place before behind within = absurd (omega (arith, within))
picked_at (x ∷ xs) zero len place before behind within =
    ap (λ b. last_step (cond b x.len len) xs place) (behind 0 x (omega arith) (omega arith))
    ∙ picked_at xs zero len place (λ k d a b. absurd (omega (arith, b))) (λ k d a b. behind (suc k) d (omega arith) (omega (arith, b))) (omega arith)
picked_at (x ∷ xs) (suc i) len place before behind within =
    ap (λ b. last_step (cond b x.len len) xs place) (before 0 x (omega arith) (omega arith))
    ∙ picked_at xs i x.len place (λ k d a b. before (suc k) d (omega arith) (omega (arith, b))) (λ k d a b. behind (suc k) d (omega (arith, a)) (omega (arith, b)))
    (omega (arith, within))
    ∙ same i
  where
    same : (j : ℕ) → picked x.len xs j ≡ picked len (x ∷ xs) (suc j)
    same zero = refl
    same (suc j) = refl

le_false : (a b c : ℕ) → nat_le a b ≡ false → nat_le b c ≡ false → nat_le a c ≡ false
le_false a b c h k = by (nat_le a c) refl
  where
    by : (t : Bool) → nat_le a c ≡ t → nat_le a c ≡ false
    by true e = grind (arith, h, k, e)
    by false e = e

-- the steps behind a place tell nothing before it
pub kept_steps : (steps : List Step) (k len place at : ℕ) → AllWithin (λ s. is_at place s ≡ false) steps k (length steps) → nat_le place at ≡ false →
    last_step len (take k steps) at ≡ last_step len steps at
kept_steps [] zero len place at behind h = refl
kept_steps [] (suc k) len place at behind h = refl
kept_steps (x ∷ xs) zero len place at behind h =
    kept_steps xs zero len place at (λ j d a b. behind (suc j) d (omega arith) (omega (arith, b))) h
    ∙ ap (λ b. last_step (cond b x.len len) xs at) (sym (le_false x.place place at (behind 0 x (omega arith) (omega arith)) h))
kept_steps (x ∷ xs) (suc k) len place at behind h =
    kept_steps xs k (cond (nat_le x.place at) x.len len) place at (λ j d a b. behind (suc j) d (omega (arith, a)) (omega (arith, b))) h

module _ (old : List Step) (k : ℕ) (step : Step) (rising : IsNonDecreasingBy (λ (s : Step). s.place) old) (within : k ≤ length old)
    (before : AllWithin (λ s. is_at step.place s ≡ true) old 0 k) (behind : AllWithin (λ s. is_at step.place s ≡ false) old k (length old)) where
  pub still_rising : (new : List Step) → new ≡ take k old ++ step ∷ [] → IsNonDecreasingBy (λ (s : Step). s.place) new
  still_rising new is =
      subst (IsNonDecreasingBy (λ (s : Step). s.place)) (sym is)
      (IsNonDecreasingBy-push (λ (s : Step). s.place) (take k old) step (IsNonDecreasingBy-take (λ (s : Step). s.place) k old rising) last)
    where
      last : (d : Step) → 0 < length (take k old) → (get_or (take k old) (length (take k old) - 1) d).place ≤ step.place
      last d some =
          let short : length (take k old) ≡ k = length-take-le k old within in
          let h : length (take k old) - 1 < k = omega (arith, some, short) in
          leb-true _ _ (ap (is_at step.place) (get_or-take k old (length (take k old) - 1) d h) ∙ before _ d (omega arith) h)

  pub still_tells : (new : List Step) → new ≡ take k old ++ step ∷ [] → (len place : ℕ) →
      last_step len new place ≡ cond (nat_le step.place place) step.len (last_step len old place)
  still_tells new is len place =
      ap (λ l. last_step len l place) is ∙ last_step-append len (take k old) (step ∷ []) place ∙ by (nat_le step.place place) refl
    where
      by : (b : Bool) → nat_le step.place place ≡ b → cond b step.len (last_step len (take k old) place) ≡ cond b step.len (last_step len old place)
      by true h = refl
      by false h = kept_steps old k len step.place place behind h

pub no_steps : (sort : Sort) (steps : List Step) → steps ≡ [] → HasSteps [] sort steps
no_steps sort steps none = record {
  rising = subst (IsNonDecreasingBy (λ (s : Step). s.place)) (sym none) (λ i j d a b. absurd (omega (arith, b)));
  tells = λ place. ap (λ l. last_step (first_length sort) l place) none;
}

-- a length of this sort is set
pub one_step : (lengths : List DefaultLength) (x : DefaultLength) (sort : Sort) (old new : List Step) → HasSteps lengths sort old →
    is_same_sort x.sort sort ≡ true → IsNonDecreasingBy (λ (s : Step). s.place) new →
    ((len place : ℕ) → last_step len new place ≡ cond (nat_le x.place place) x.len (last_step len old place)) → HasSteps (lengths ++ x ∷ []) sort new
one_step lengths x sort old new so same rising tells = record {
  rising = rising;
  tells = λ place. tells (first_length sort) place ∙ ap (cond (nat_le x.place place) x.len) (so.tells place)
      ∙ ap (λ b. cond (b && nat_le x.place place) x.len (length_at lengths sort place)) (sym same)
      ∙ sym (last_length-append (first_length sort) lengths x sort place);
}

-- one of another sort is
pub other_step : (lengths : List DefaultLength) (x : DefaultLength) (sort : Sort) (old : List Step) → HasSteps lengths sort old →
    is_same_sort x.sort sort ≡ false → HasSteps (lengths ++ x ∷ []) sort old
other_step lengths x sort old so other = record {
  rising = so.rising;
  tells = λ place. so.tells place
      ∙ ap (λ b. cond (b && nat_le x.place place) x.len (length_at lengths sort place)) (sym other)
      ∙ sym (last_length-append (first_length sort) lengths x sort place);
}

pub picked_last : (steps : List Step) (i len : ℕ) → 0 < i → (get_or steps (i - 1) (record { place = 0; len = 0 })).len ≡ picked len steps i
picked_last steps zero len h = absurd (omega (arith, h))
picked_last steps (suc i) len h = ap (λ j. (get_or steps j (record { place = 0; len = 0 })).len) (let e : suc i - 1 ≡ i = omega arith in e)
