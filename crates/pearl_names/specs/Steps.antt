-- The lengths of one sort, as steps by which they are looked up: of places that don't fall, so that the last step at or
-- before a place is found by halves.
use Rattle.std.specs.Prelude.{◌≡◌, ℕ, nat_le, if◌then◌else◌, List, [], ◌∷◌}
use Rattle.std.specs.List.Sorted.{IsNonDecreasingBy}
use Rattle.pearl_tree.specs.declared.typing.Sort.{Sort}
use Rattle.pearl_tree.specs.declared.typing.Sort.TheVariants.{Fixed, Bit, Char}
use Rattle.pearl_names.specs.declared.length.DefaultLength.{DefaultLength}
use Rattle.pearl_names.specs.declared.length.Step.{Step}
use Rattle.pearl_names.specs.Lengths.{first_length, length_at}

-- the length of the last step at or before a place, or else this one
abbrev pub last_step : ℕ → List Step → ℕ → ℕ
last_step len [] place = len
last_step len (step ∷ rest) place = last_step (if nat_le step.place place then step.len else len) rest place

-- the steps tell the lengths of a sort among these
pub record HasSteps (lengths : List DefaultLength) (sort : Sort) (steps : List Step) : Type 0 where
  pub rising : IsNonDecreasingBy (λ (step : Step). step.place) steps
  pub tells : (place : ℕ) → last_step (first_length sort) steps place ≡ length_at lengths sort place

pub record HasAllSteps (lengths : List DefaultLength) (fixed bit char : List Step) : Type 0 where
  pub fixed_so : HasSteps lengths Fixed fixed
  pub bit_so : HasSteps lengths Bit bit
  pub char_so : HasSteps lengths Char char
