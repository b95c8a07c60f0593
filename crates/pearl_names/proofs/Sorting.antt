-- The names of scopes whose declarations stand one after the other.
use Rattle.std.proofs.Common.{◌≡◌, ℕ, ◌+◌, ◌<◌, get_or, take, List, [], ◌∷◌, ◌++◌, refl, sym, ap, ◌∙◌, length}
use Rattle.std.proofs.lemmas.List.{map-append}
use Rattle.pearl_tree.specs.declared.name.Name.{Name}
use Rattle.pearl_names.specs.declared.group.Group.{Group}
use Rattle.pearl_names.specs.declared.group.ScopeGroups.{ScopeGroups}
use Rattle.pearl_names.specs.declared.scope.SortedName.{SortedName}
use Rattle.pearl_names.specs.Groups.{group_entries, entries_in, shown_scope, scopes_in_list}
use Rattle.pearl_names.specs.ScopeNames.{ScopeNames}
use Rattle.pearl_names.specs.Scopes.{Meaning, Entry, Scope, entries_as}
use Rattle.pearl_names.specs.Sorts.{sort_of, sorted_name, sorted_names, names_as, scope_names, names_of_scopes}
use Rattle.pearl_names.proofs.Collecting.{entries_in-append, entries_in-one, scopes_in_list-append, scopes_in_list-one}
use Rattle.pearl_names.proofs.Lists.{one_taken}

pub sorted_names-nil : sorted_names [] ≡ []
unfolding sorted_names
sorted_names-nil = refl

pub sorted_names-cons : (entry : Entry) (rest : List Entry) → sorted_names (entry ∷ rest) ≡ sorted_name entry ∷ sorted_names rest
unfolding sorted_names
sorted_names-cons entry rest = refl

pub sorted_names-append : (entries rest : List Entry) → sorted_names (entries ++ rest) ≡ sorted_names entries ++ sorted_names rest
unfolding sorted_names
sorted_names-append entries rest = map-append sorted_name entries rest

-- the names that a declaration declares are of its sort
pub sorted_names-as : (meaning : Meaning) (names : List Name) → sorted_names (entries_as meaning names) ≡ names_as (sort_of meaning) names
unfolding sorted_names
sorted_names-as meaning [] = refl
sorted_names-as meaning (name ∷ names) = ap (λ t. record { name = name; sort = sort_of meaning } ∷ t) (sorted_names-as meaning names)

pub names_of_scopes-nil : names_of_scopes [] ≡ []
unfolding names_of_scopes
names_of_scopes-nil = refl

pub names_of_scopes-append : (scopes rest : List Scope) → names_of_scopes (scopes ++ rest) ≡ names_of_scopes scopes ++ names_of_scopes rest
unfolding names_of_scopes
names_of_scopes-append scopes rest = map-append scope_names scopes rest

pub names_of_scopes-cons : (scope : Scope) (rest : List Scope) → names_of_scopes (scope ∷ rest) ≡ scope_names scope ∷ names_of_scopes rest
unfolding names_of_scopes
names_of_scopes-cons scope rest = refl

-- one group more
pub sorted_more : (a b : List SortedName) (xs : List Group) (i : ℕ) (x : Group) → i < length xs → x ≡ get_or xs i x →
    a ≡ sorted_names (entries_in (take i xs)) → b ≡ a ++ sorted_names (group_entries x) → b ≡ sorted_names (entries_in (take (i + 1) xs))
sorted_more a b xs i x inside is one two =
    two ∙ ap (λ t. t ++ sorted_names (group_entries x)) one
    ∙ sym (sorted_names-append (entries_in (take i xs)) (group_entries x))
    ∙ ap (λ t. sorted_names (entries_in (take i xs) ++ t)) (sym (entries_in-one x))
    ∙ ap sorted_names (sym (entries_in-append (take i xs) (x ∷ [])))
    ∙ ap (λ l. sorted_names (entries_in l)) (sym (one_taken xs i x inside is))

-- one scope more
pub named_more : (a b : List ScopeNames) (xs : List ScopeGroups) (i : ℕ) (x : ScopeGroups) (name : ScopeNames) → i < length xs → x ≡ get_or xs i x →
    a ≡ names_of_scopes (scopes_in_list (take i xs)) → name ≡ scope_names (shown_scope x) → b ≡ a ++ name ∷ [] →
    b ≡ names_of_scopes (scopes_in_list (take (i + 1) xs))
named_more a b xs i x name inside is one named two =
    two ∙ (λ j. one j ++ named j ∷ [])
    ∙ ap (λ t. names_of_scopes (scopes_in_list (take i xs)) ++ t) (sym (names_of_scopes-cons (shown_scope x) [] ∙ ap (λ t. scope_names (shown_scope x) ∷ t) names_of_scopes-nil))
    ∙ sym (names_of_scopes-append (scopes_in_list (take i xs)) (shown_scope x ∷ []))
    ∙ ap (λ t. names_of_scopes (scopes_in_list (take i xs) ++ t)) (sym (scopes_in_list-one x))
    ∙ ap names_of_scopes (sym (scopes_in_list-append (take i xs) (x ∷ [])))
    ∙ ap (λ l. names_of_scopes (scopes_in_list l)) (sym (one_taken xs i x inside is))

pub ruleset name_steps = (sorted_names-nil, sorted_names-cons, sorted_names-append, sorted_names-as, names_of_scopes-nil, names_of_scopes-append, names_of_scopes-cons)
