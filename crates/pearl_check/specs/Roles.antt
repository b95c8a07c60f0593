-- The rules on each part that a statement asks for: that an expression has a kind of its role, that a target may be
-- changed, and that a name is of the right sort.
use Rattle.std.specs.Prelude.{ℕ, ◌==◌, Bool, true, false, not, List, [], ◌++◌, Option, Some, None}
use Rattle.pearl_value.specs.declared.kind.Kind.{Kind}
use Rattle.pearl_value.specs.declared.kind.Kind.TheVariants as kind
use Rattle.pearl_tree.specs.declared.fault.RuleFault.{RuleFault}
use Rattle.pearl_tree.specs.declared.rule.TheConstants as rule
use Rattle.pearl_tree.specs.Faults.{fault_if}
use Rattle.pearl_names.specs.declared.scope.View.TheVariants.{Within}
use Rattle.pearl_names.specs.Tables.{Sense, Semaphore, Interrupt, AlphicDation, BasicDation, Table}
use Rattle.pearl_names.specs.Tables as sense
use Rattle.pearl_check_expr.specs.Senses.{is_fixed}
use Rattle.pearl_check_expr.specs.Subjects.{ShownSubject, OfTarget, subject_judged}
use Rattle.pearl_check.specs.declared.asked.Role.{Role}
use Rattle.pearl_check.specs.declared.asked.Role.TheVariants.{Plain, Condition, Count, Moment, Lapse, Priority}
use Rattle.pearl_check.specs.declared.asked.NameRole.{NameRole}
use Rattle.pearl_check.specs.declared.asked.NameRole.TheVariants as name_role
use Rattle.pearl_check.specs.Asked.{Asked, Subject, Named}
use Rattle.pearl_check.specs.Views.{seen, subject_kind, subject_place}

-- a value of this kind may stand in this role
abbrev pub is_for_role : Role → Kind → Bool
is_for_role Plain kind = true
is_for_role Condition (kind.Bits len) = len == 1
is_for_role Count (kind.Fixed len) = true
is_for_role Moment kind.Clock = true
is_for_role Lapse kind.Span = true
is_for_role Priority (kind.Fixed len) = true
is_for_role role kind = false

abbrev pub is_unfit : Role → Option Kind → Bool
is_unfit role None = false
is_unfit role (Some kind) = not (is_for_role role kind)

-- S23: a condition isn't BIT(1), or a value of CASE, FROM, BY or TO isn't FIXED
abbrev pub s23_in : Role → Option Kind → (place : ℕ) → List RuleFault
s23_in Condition kind place = fault_if (is_unfit Condition kind) place rule.S23
s23_in Count kind place = fault_if (is_unfit Count kind) place rule.S23
s23_in role kind place = []

abbrev pub s23 : Table → Asked → List RuleFault
s23 table (Subject role scope subject) = s23_in role (subject_kind table scope subject) (subject_place subject)
s23 table (Named role scope name) = []

-- S25: a target is INV or a control variable
abbrev pub s25_in : Table → (scope : ℕ) → ShownSubject → List RuleFault
s25_in table scope (OfTarget reference) =
    fault_if (is_fixed (seen table (Within scope) reference.name)) reference.place rule.S25
s25_in table scope subject = []

abbrev pub s25 : Table → Asked → List RuleFault
s25 table (Subject role scope subject) = s25_in table scope subject
s25 table (Named role scope name) = []

-- S29: a value of AT or UNTIL isn't CLOCK, one of AFTER, ALL or DURING isn't DURATION, or one of PRIO isn't FIXED
abbrev pub s29_in : Role → Option Kind → (place : ℕ) → List RuleFault
s29_in Moment kind place = fault_if (is_unfit Moment kind) place rule.S29
s29_in Lapse kind place = fault_if (is_unfit Lapse kind) place rule.S29
s29_in Priority kind place = fault_if (is_unfit Priority kind) place rule.S29
s29_in role kind place = []

abbrev pub s29 : Table → Asked → List RuleFault
s29 table (Subject role scope subject) = s29_in role (subject_kind table scope subject) (subject_place subject)
s29 table (Named role scope name) = []

-- what sort of name this is that may stand by itself
abbrev pub role_of : Sense → Option NameRole
role_of sense.Task = Some name_role.Task
role_of Semaphore = Some name_role.Semaphore
role_of Interrupt = Some name_role.Interrupt
role_of (AlphicDation direction) = Some name_role.Dation
role_of (BasicDation direction kind) = Some name_role.Dation
role_of other = None

abbrev pub is_role : NameRole → Option NameRole → Bool
is_role name_role.Task (Some name_role.Task) = true
is_role name_role.Semaphore (Some name_role.Semaphore) = true
is_role name_role.Interrupt (Some name_role.Interrupt) = true
is_role name_role.Dation (Some name_role.Dation) = true
is_role role other = false

abbrev pub is_misnamed : NameRole → Option Sense → Bool
is_misnamed role None = false
is_misnamed role (Some sense) = not (is_role role (role_of sense))

-- S15 to S22 in an expression, a target or a call; S16: a name that stands by itself is of another sort than is needed
abbrev pub part_faults : Table → Asked → List RuleFault
part_faults table (Subject role scope subject) = (subject_judged table scope subject).faults
part_faults table (Named role scope name) =
    fault_if (is_misnamed role (seen table (Within scope) name)) name.place rule.S16

abbrev pub role_faults : Table → Asked → List RuleFault
role_faults table asked = s23 table asked ++ (s25 table asked ++ s29 table asked)

-- all that is broken at it
abbrev pub asked_faults : Table → Asked → List RuleFault
asked_faults table asked = part_faults table asked ++ role_faults table asked
