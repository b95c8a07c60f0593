-- What holds of every subject, and of the kinds and names in it.
use Rattle.std.specs.Prelude.{◌≡◌, ℕ, List, [], Some}
use Rattle.std.specs.Option.{is_none}
use Rattle.pearl_value.specs.declared.kind.Kind.{Kind}
use Rattle.pearl_tree.specs.ShownModules.{ShownTree}
use Rattle.pearl_names.specs.declared.scope.View.{View}
use Rattle.pearl_names.specs.Found.{sort_from}
use Rattle.pearl_names.specs.Scopes.{scopes_of}
use Rattle.pearl_names.specs.Sorts.{names_of_scopes}
use Rattle.pearl_names.specs.Tables.{Table, table_of, sense_from}
use Rattle.pearl_check_expr.specs.Standings.{Judged}
use Rattle.pearl_check_expr.specs.Subjects.{ShownSubject, subject_judged}

abbrev pub HasNoFault : Judged → Type 0
HasNoFault judged = (kind : Kind) → judged.kind ≡ Some kind → judged.faults ≡ []

-- what has a kind has no fault
abbrev pub KindsHaveNoFault : Type 0
KindsHaveNoFault = (table : Table) (scope : ℕ) (subject : ShownSubject) → HasNoFault (subject_judged table scope subject)

-- S2 asks for the sort of a name and the rules on expressions ask for its sense: to both the same names are undeclared
abbrev pub NamesWithoutASenseAreUndeclared : Type 0
NamesWithoutASenseAreUndeclared =
    (tree : ShownTree) (view : View) (text : List ℕ) → is_none (sense_from (table_of tree) view text) ≡
    is_none (sort_from (names_of_scopes (scopes_of tree)) view text)
