-- Which procedures names call, by their numbers.
use Rattle.std.specs.Prelude.{ℕ, List, [], ◌∷◌, map, filter, filter_map}
use Rattle.std.specs.List.{flat_map}
use Rattle.pearl_tree.specs.declared.name.Name.{Name}
use Rattle.pearl_tree.specs.ShownModules.{ShownDecl, OfProc}
use Rattle.pearl_names.specs.declared.scope.SortedName.{SortedName}
use Rattle.pearl_names.specs.declared.scope.View.{View}
use Rattle.pearl_names.specs.Tables.{Table}
use Rattle.pearl_check_expr.specs.Subjects.{ShownSubject, OfCallStatement}
use Rattle.pearl_scope.specs.Placed.{Placed}
use Rattle.pearl_check.specs.Asked.{Asked, asked_at}
use Rattle.pearl_check.specs.Calls.{called_by, number_of}
use Rattle.pearl_check.specs.Views.{seen, is_procedure_sense}

abbrev pub names_in : List SortedName → List Name
names_in entries = map (λ entry. entry.name) entries

-- the procedure that this declares, if it does
abbrev pub procedures_in : ShownDecl → List Name
procedures_in (OfProc name params returns body place) = name ∷ []
procedures_in decl = []

-- of these names, seen from there, those of procedures
abbrev pub calls_seen : Table → (procedures : List Name) → View → List Name → List ℕ
calls_seen table procedures view names =
    filter_map (number_of procedures) (filter (λ name. is_procedure_sense (seen table view name)) names)

-- the name of a call statement
abbrev pub called_name : ShownSubject → List Name
called_name (OfCallStatement name arguments) = name ∷ []
called_name subject = []

abbrev pub calls_of_part : Table → (procedures : List Name) → Asked → List ℕ
calls_of_part table procedures asked = filter_map (number_of procedures) (called_by table asked)

abbrev pub calls_of_place : Table → (procedures : List Name) → Placed → List ℕ
calls_of_place table procedures place = flat_map (calls_of_part table procedures) (asked_at place)
