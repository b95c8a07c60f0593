-- The procedures that lists of names call, and the number of a name among procedures.
use Rattle.std.proofs.Common.{◌≡◌, ℕ, suc, List, [], ◌∷◌, ◌++◌, Some, refl, ap, ◌∙◌, filter_map, option_map, if◌then◌else◌}
use Rattle.std.proofs.lemmas.List.{map-append}
use Rattle.std.proofs.lemmas.List.Elements.{filter-append, filter_map-append}
use Rattle.std.specs.List.{flat_map}
use Rattle.std.specs.Str.{bytes_eq}
use Rattle.pearl_tree.specs.declared.name.Name.{Name}
use Rattle.pearl_tree.specs.Names.{name_text}
use Rattle.pearl_names.specs.declared.scope.SortedName.{SortedName}
use Rattle.pearl_names.specs.declared.scope.View.{View}
use Rattle.pearl_names.specs.declared.scope.View.TheVariants.{Within}
use Rattle.pearl_names.specs.FirstNames.{first_index}
use Rattle.pearl_names.specs.Tables.{Table}
use Rattle.pearl_check_expr.specs.Subjects.{ShownSubject, OfValue, OfWhile, OfTarget, OfCallStatement}
use Rattle.pearl_check.specs.declared.asked.Role.{Role}
use Rattle.pearl_check.specs.Asked.{Subject}
use Rattle.pearl_check.specs.Calls.{number_of, referred, subject_pieces}
use Rattle.pearl_check.specs.Calling.{names_in, calls_seen, called_name, calls_of_part}
use Rattle.pearl_check.specs.Pieces.{exprs_pieces}
use Rattle.pearl_check.specs.Views.{seen, view_of, is_procedure_sense}

pub finds : (entries : List SortedName) (name : Name) → first_index entries (name_text name) ≡ number_of (names_in entries) name
finds [] name = refl
finds (entry ∷ rest) name =
    ap (λ n. if bytes_eq (name_text name) (name_text entry.name) then Some 0 else option_map suc n) (finds rest name)

pub names_in-append : (a b : List SortedName) → names_in (a ++ b) ≡ names_in a ++ names_in b
names_in-append a b = map-append _ a b

pub calls_seen-append : (table : Table) (procedures : List Name) (view : View) (a b : List Name) →
    calls_seen table procedures view (a ++ b) ≡ calls_seen table procedures view a ++ calls_seen table procedures view b
calls_seen-append table procedures view a b =
    ap (filter_map (number_of procedures)) (filter-append (λ name. is_procedure_sense (seen table view name)) a b)
    ∙ filter_map-append (number_of procedures) _ _

-- the name of a call statement comes before what its expressions call
pub part_calls : (table : Table) (procedures : List Name) (role : Role) (scope : ℕ) (subject : ShownSubject) →
    calls_of_part table procedures (Subject role scope subject) ≡
    calls_seen table procedures (view_of scope subject) (called_name subject) ++
    calls_seen table procedures (view_of scope subject) (flat_map referred (subject_pieces subject))
part_calls table procedures role scope (OfValue expr) = refl
part_calls table procedures role scope (OfWhile expr) = refl
part_calls table procedures role scope (OfTarget target) = refl
part_calls table procedures role scope (OfCallStatement name arguments) =
    calls_seen-append table procedures (Within scope) (name ∷ []) (flat_map referred (exprs_pieces arguments))

pub calls_seen-nil : (table : Table) (procedures : List Name) (view : View) → calls_seen table procedures view [] ≡ []
calls_seen-nil table procedures view = refl

pub ruleset call_steps = (names_in-append, calls_seen-append, calls_seen-nil)
