-- What a name stands for and of what sort it is, entry by entry.
use Rattle.std.proofs.Common.{◌≡◌, ◌+◌, ℕ, zero, suc, List, [], ◌∷◌, slice_get, Option, Some, None, option_map, is_none, refl}
use Rattle.std.specs.Option.{option_and_then}
use Rattle.pearl_tree.specs.ShownModules.{ShownTree}
use Rattle.pearl_names.specs.declared.meaning.Found.{Found}
use Rattle.pearl_names.specs.declared.scope.View.{View}
use Rattle.pearl_names.specs.Found.{found_from, names_in, sort_at, sort_from}
use Rattle.pearl_names.specs.Known.{Known, known_of}
use Rattle.pearl_names.specs.Scopes.{Entry, Scope, scopes_of}
use Rattle.pearl_names.specs.Sorts.{sorted_names, names_of_scopes}
use Rattle.pearl_names.specs.Tables.{senses_of, senses_in, sense_at, sense_from, table_of}

same_entry : (known : Known) (number : ℕ) (entries : List Entry) (entry : ℕ) →
    is_none (slice_get (senses_of known number entries) entry) ≡ is_none (option_map (λ name. name.sort) (slice_get (sorted_names entries) entry))
unfolding sorted_names
same_entry known number [] entry = refl
same_entry known number (first ∷ rest) zero = refl
same_entry known number (first ∷ rest) (suc entry) = same_entry known number rest entry

same_scope : (known : Known) (number : ℕ) (scopes : List Scope) (scope entry : ℕ) →
    is_none (option_and_then (λ names. slice_get names entry) (slice_get (senses_in known number scopes) scope)) ≡
    is_none (option_map (λ name. name.sort) (slice_get (names_in (slice_get (names_of_scopes scopes) scope)) entry))
unfolding names_of_scopes
same_scope known number [] scope entry = refl
same_scope known number (first ∷ rest) zero entry = same_entry known number first.entries entry
same_scope known number (first ∷ rest) (suc scope) entry = same_scope known (number + 1) rest scope entry

pub undeclared : (tree : ShownTree) (view : View) (text : List ℕ) → is_none (sense_from (table_of tree) view text) ≡
    is_none (sort_from (names_of_scopes (scopes_of tree)) view text)
undeclared tree view text = by (found_from (names_of_scopes (scopes_of tree)) view text)
  where
    by : (found : Option Found) → is_none (option_and_then (sense_at (table_of tree).senses) found) ≡
        is_none (option_and_then (sort_at (names_of_scopes (scopes_of tree))) found)
    by None = refl
    by (Some found) = same_scope (known_of tree) 0 (scopes_of tree) found.scope found.entry
