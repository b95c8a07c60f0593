-- Which kinds and names are seen from a statement. A kind is missing where a rule is broken in the expression, or in the
-- declaration of a name that stands in it.
use Rattle.std.specs.Prelude.{ℕ, Bool, true, false, Option, Some}
use Rattle.pearl_value.specs.declared.kind.Kind.{Kind}
use Rattle.pearl_tree.specs.declared.name.Name.{Name}
use Rattle.pearl_tree.specs.Names.{name_text}
use Rattle.pearl_tree.specs.ShownExpressions.{ShownExpr, ShownRef}
use Rattle.pearl_names.specs.declared.scope.View.{View}
use Rattle.pearl_names.specs.declared.scope.View.TheVariants.{Within, WhileOf}
use Rattle.pearl_names.specs.Tables.{Sense, Procedure, Semaphore, Table, sense_from}
use Rattle.pearl_check_expr.specs.Judged.{judged, judged_variable, expr_place}
use Rattle.pearl_check_expr.specs.Subjects.{ShownSubject, OfValue, OfWhile, OfTarget, OfCallStatement, subject_judged}

-- what a name stands for
abbrev pub seen : Table → View → Name → Option Sense
seen table view name = sense_from table view (name_text name)

abbrev pub value_kind : Table → ℕ → ShownExpr → Option Kind
value_kind table scope expr = (judged table (Within scope) expr).kind

abbrev pub target_kind : Table → ℕ → ShownRef → Option Kind
target_kind table scope reference = (judged_variable table (Within scope) reference).kind

abbrev pub subject_kind : Table → ℕ → ShownSubject → Option Kind
subject_kind table scope subject = (subject_judged table scope subject).kind

-- from where the names of a subject are seen
abbrev pub view_of : ℕ → ShownSubject → View
view_of scope (OfWhile expr) = WhileOf scope
view_of scope subject = Within scope

-- where it begins
abbrev pub subject_place : ShownSubject → ℕ
subject_place (OfValue expr) = expr_place expr
subject_place (OfWhile expr) = expr_place expr
subject_place (OfTarget reference) = reference.place
subject_place (OfCallStatement name arguments) = name.place

abbrev pub is_semaphore : Option Sense → Bool
is_semaphore (Some Semaphore) = true
is_semaphore sense = false

abbrev pub is_procedure_sense : Option Sense → Bool
is_procedure_sense (Some (Procedure parameters result)) = true
is_procedure_sense sense = false
