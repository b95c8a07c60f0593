-- The first of a scope's names that has a text, and the names that repeat one before them.
use Rattle.std.specs.Prelude.{◌≡◌, ℕ, suc, ◌<◌, ◌^◌, if◌then◌else◌, List, [], ◌∷◌, length, map, Option, Some, None, option_map}
use Rattle.std.specs.Str.{bytes_eq}
use Rattle.std.specs.Map.{lookup}
use Rattle.arrayvec.specs.ArrayVec.{ArrayVec}
use Rattle.pearl_tree.specs.declared.fault.RuleFault.{RuleFault}
use Rattle.pearl_tree.specs.declared.rule.TheConstants as rule
use Rattle.pearl_tree.specs.Names.{name_text, repeats}
use Rattle.pearl_names.specs.declared.scope.SortedName.{SortedName}

-- the number of the first of these names that has the text
abbrev pub first_index : List SortedName → List ℕ → Option ℕ
first_index [] text = None
first_index (entry ∷ rest) text =
    if bytes_eq text (name_text entry.name) then Some 0 else option_map suc (first_index rest text)

-- the number that a map from texts has at a text
abbrev pub number_of : List (ArrayVec ℕ × ℕ) → List ℕ → Option ℕ
number_of entries text = lookup (λ key. bytes_eq text key.items) entries

abbrev pub or_else : {X : Type 0} → Option X → Option X → Option X
or_else None other = other
or_else (Some x) other = Some x

-- a text is put into a map where it is not there
abbrev pub HasNoted : List (ArrayVec ℕ × ℕ) → List ℕ → ℕ → List (ArrayVec ℕ × ℕ) → Type 0
HasNoted old text number new =
    (q : List ℕ) → number_of new q ≡ or_else (number_of old q) (if bytes_eq q text then Some number else None)

-- a map from texts to the numbers of the first names that have them
pub record IsIndex (names : List SortedName) (entries : List (ArrayVec ℕ × ℕ)) : Type 0 where
  pub finds : (text : List ℕ) → number_of entries text ≡ first_index names text
  pub few : length names < 2 ^ 32

-- the names that have the text of one before, as rule S1 tells them
unfoldable pub repeated : List SortedName → List RuleFault
repeated names = repeats rule.S1 [] (map (λ entry. entry.name) names)

-- what a scope keeps beside its names: the first of each text, and the repeats
pub record HasNames (names : List SortedName) (entries : List (ArrayVec ℕ × ℕ)) (faults : List RuleFault) : Type 0 where
  pub index : IsIndex names entries
  pub repeats : faults ≡ repeated names
