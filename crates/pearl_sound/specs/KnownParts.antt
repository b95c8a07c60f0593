-- When what a statement asks for is known: each subject has a kind, and each name a sense. When its names are. And which
-- statements are asked.
use Rattle.std.specs.Prelude.{◌≡◌, ℕ, ◌<◌, true, List, length, Option, Some, None}
use Rattle.std.specs.List.{AllByRecursion}
use Rattle.pearl_value.specs.declared.kind.Kind.{Kind}
use Rattle.pearl_tree.specs.declared.typing.Basic.{Basic}
use Rattle.pearl_tree.specs.ShownStatements.{ShownStmt, OfIf, OfCase, OfRepeat, OfBegin, OfOnSemas, OfPut, OfGet}
use Rattle.pearl_tree.specs.ShownModules.{ShownTree}
use Rattle.pearl_names.specs.declared.length.DefaultLength.{DefaultLength}
use Rattle.pearl_names.specs.declared.scope.View.TheVariants.{Within, WhileOf}
use Rattle.pearl_names.specs.Lengths.{kind_of_basic}
use Rattle.pearl_names.specs.Tables.{Sense, BasicDation, Table}
use Rattle.pearl_scope.specs.Placed.{Placed}
use Rattle.pearl_check_expr.specs.Judged.{called}
use Rattle.pearl_check_expr.specs.Senses.{Callee, callee_of}
use Rattle.pearl_check_expr.specs.Subjects.{ShownSubject, OfValue, OfWhile, OfTarget, OfCallStatement}
use Rattle.pearl_check.specs.Asked.{Asked, Subject, Named}
use Rattle.pearl_check.specs.Routines.{RoutineSort, Task, Procedure, Routine, routines_of, statements_of}
use Rattle.pearl_check.specs.Views.{seen, subject_kind}
use Rattle.pearl_resolve.specs.Resolve.{result_kind}
use Rattle.pearl_sound.specs.SoundNames.{HasLiterals, SelectorsHaveLiterals, HaveLiterals}
use Rattle.pearl_sound.specs.KnownNames.{IsNamed, HasNames, SelectorsHaveNames, HaveNames}

abbrev pub HasItsLiterals : List DefaultLength → ShownSubject → Type 0
HasItsLiterals lengths (OfValue expr) = HasLiterals lengths expr
HasItsLiterals lengths (OfWhile expr) = HasLiterals lengths expr
HasItsLiterals lengths (OfTarget target) = SelectorsHaveLiterals lengths target.selectors
HasItsLiterals lengths (OfCallStatement name arguments) = HaveLiterals lengths arguments

-- a call statement needs no kind, but a procedure that its arguments suit
abbrev pub HasItsKind : Table → ℕ → ShownSubject → Type 0
HasItsKind table scope (OfCallStatement name arguments) =
    (callee : Callee) × (callee_of (seen table (Within scope) name) ≡ Some callee) ×
    ((called table (Within scope) name callee arguments).well ≡ true)
HasItsKind table scope subject = (kind : Kind) × (subject_kind table scope subject ≡ Some kind)

abbrev pub IsKnownSense : Sense → Type 0
IsKnownSense (BasicDation direction known) = (kind : Kind) × (known ≡ Some kind)
IsKnownSense sense = Unit {0}

abbrev pub IsKnown : Table → Asked → Type 0
IsKnown table (Subject role scope subject) = HasItsKind table scope subject × HasItsLiterals table.lengths subject
IsKnown table (Named role scope name) = (sense : Sense) × (seen table (Within scope) name ≡ Some sense) × IsKnownSense sense

-- all names and literals of a subject are known
abbrev pub SubjectHasNames : Table → ℕ → ShownSubject → Type 0
SubjectHasNames table scope (OfValue expr) = HasNames table (Within scope) expr
SubjectHasNames table scope (OfWhile expr) = HasNames table (WhileOf scope) expr
SubjectHasNames table scope (OfTarget target) =
    IsNamed table (Within scope) target.name × SelectorsHaveNames table (Within scope) target.selectors
SubjectHasNames table scope (OfCallStatement name arguments) =
    IsNamed table (Within scope) name × HaveNames table (Within scope) arguments

abbrev pub HasItsNames : Table → Asked → Type 0
HasItsNames table (Subject role scope subject) = SubjectHasNames table scope subject
HasItsNames table (Named role scope name) = IsNamed table (Within scope) name

abbrev pub AskedLiterals : List DefaultLength → Asked → Type 0
AskedLiterals lengths (Subject role scope subject) = HasItsLiterals lengths subject
AskedLiterals lengths (Named role scope name) = Unit {0}

-- no statement within, no semaphores, and no format
abbrev pub IsSimple : ShownStmt → Type 0
IsSimple (OfIf condition statements rest place) = ⊥
IsSimple (OfCase selector alternatives rest place) = ⊥
IsSimple (OfRepeat control begin step end condition declarations statements body_place place) = ⊥
IsSimple (OfBegin declarations statements body_place place) = ⊥
IsSimple (OfOnSemas word names place) = ⊥
IsSimple (OfPut values dation formats place) = ⊥
IsSimple (OfGet targets dation formats place) = ⊥
IsSimple statement = Unit {0}

-- REQUEST and RELEASE name a semaphore
abbrev pub NamesSome : ShownStmt → Type 0
NamesSome (OfOnSemas word names place) = 0 < length names
NamesSome statement = Unit {0}

-- each REQUEST and RELEASE of a module names a semaphore
abbrev pub NamesSemaphores : ShownTree → Type 0
NamesSemaphores tree =
    AllByRecursion (λ (routine : Routine). AllByRecursion (λ (place : Placed). NamesSome place.statement) (statements_of routine)) (routines_of tree)

abbrev pub HasResult : List DefaultLength → Option Basic → Type 0
HasResult lengths None = Unit {0}
HasResult lengths (Some basic) = (kind : Kind) × (kind_of_basic lengths basic ≡ Some kind)

-- what a routine of this sort returns
abbrev pub Returns : List DefaultLength → RoutineSort → Option (Option Kind) → Type 0
Returns lengths (Task head) returns = returns ≡ None
Returns lengths (Procedure result) returns = (returns ≡ Some (result_kind lengths result)) × HasResult lengths result
