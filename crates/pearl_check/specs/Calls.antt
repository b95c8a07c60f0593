-- Which procedures a task or procedure calls, and which call themselves. Each call in the text counts, also one that is
-- never made: in the subscripts behind LWB or UPB.
use Rattle.std.specs.Prelude.{ℕ, suc, ◌+◌, if◌then◌else◌, List, [], ◌∷◌, ◌++◌, Option, Some, None, option_map, map, filter, filter_map}
use Rattle.std.specs.List.{flat_map}
use Rattle.std.specs.Str.{bytes_eq}
use Rattle.pearl_tree.specs.declared.fault.RuleFault.{RuleFault}
use Rattle.pearl_tree.specs.declared.name.Name.{Name}
use Rattle.pearl_tree.specs.declared.rule.TheConstants as rule
use Rattle.pearl_tree.specs.Faults.{fault_if}
use Rattle.pearl_tree.specs.Names.{name_text}
use Rattle.pearl_names.specs.Tables.{Table}
use Rattle.pearl_calls.specs.Callers.{Caller}
use Rattle.pearl_calls.specs.Cycles.{calls_itself}
use Rattle.pearl_check_expr.specs.Subjects.{ShownSubject, OfValue, OfWhile, OfTarget, OfCallStatement}
use Rattle.pearl_check.specs.Asked.{Asked, Subject, Named, asked_at}
use Rattle.pearl_check.specs.Pieces.{Piece, Reference, Other, expr_pieces, exprs_pieces, selectors_pieces}
use Rattle.pearl_check.specs.Routines.{Routine, statements_of}
use Rattle.pearl_check.specs.Views.{seen, view_of, is_procedure_sense}

-- what the expressions of a subject are made of; the names of a target and of a called statement stand outside them
abbrev pub subject_pieces : ShownSubject → List Piece
subject_pieces (OfValue expr) = expr_pieces expr
subject_pieces (OfWhile expr) = expr_pieces expr
subject_pieces (OfTarget target) = selectors_pieces target.selectors
subject_pieces (OfCallStatement name arguments) = exprs_pieces arguments

abbrev pub asked_pieces : Asked → List Piece
asked_pieces (Subject role scope subject) = subject_pieces subject
asked_pieces (Named role scope name) = []

abbrev pub referred : Piece → List Name
referred (Reference name) = name ∷ []
referred Other = []

-- the names that may be those of called procedures
abbrev pub callable : ShownSubject → List Name
callable (OfCallStatement name arguments) = name ∷ flat_map referred (exprs_pieces arguments)
callable subject = flat_map referred (subject_pieces subject)

abbrev pub called_by : Table → Asked → List Name
called_by table (Subject role scope subject) =
    filter (λ name. is_procedure_sense (seen table (view_of scope subject) name)) (callable subject)
called_by table (Named role scope name) = []

-- of procedures with one name, the first is called
abbrev pub number_of : List Name → Name → Option ℕ
number_of [] name = None
number_of (procedure ∷ rest) name =
    if bytes_eq (name_text name) (name_text procedure) then Some 0 else option_map suc (number_of rest name)

abbrev pub calls_of : Table → (procedures : List Name) → Routine → List ℕ
calls_of table procedures routine =
    filter_map (number_of procedures) (flat_map (λ place. flat_map (called_by table) (asked_at place)) (statements_of routine))

-- a task or procedure, with what it weighs itself and the procedures that it calls, by their numbers
pub record Weighed : Type 0 where
  pub name : Name
  pub caller : Caller

abbrev pub callers_of : List Weighed → List Caller
callers_of procedures = map (λ (weighed : Weighed). weighed.caller) procedures

abbrev pub cycles_from : (number : ℕ) → (all : List Caller) → List Weighed → List RuleFault
cycles_from number all [] = []
cycles_from number all (procedure ∷ procedures) =
    fault_if (calls_itself all number) procedure.name.place rule.S28 ++ cycles_from (number + 1) all procedures

-- S28: a procedure calls itself, directly or through others
abbrev pub s28 : List Weighed → List RuleFault
s28 procedures = cycles_from 0 (callers_of procedures) procedures
