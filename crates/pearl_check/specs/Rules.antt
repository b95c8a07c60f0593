-- All rules that a module breaks, and the first of them: what is told of a module that is refused.
use Rattle.std.specs.Prelude.{ℕ, ◌==◌, Bool, ◌&&◌, ◌||◌, not, nat_le, nat_lt, if◌then◌else◌, List, [], ◌∷◌, ◌++◌, Option, Some, None}
use Rattle.std.specs.List.{flat_map}
use Rattle.pearl_tree.specs.declared.fault.RuleFault.{RuleFault}
use Rattle.pearl_tree.specs.declared.rule.TheConstants as rule
use Rattle.pearl_tree.specs.declared.declaration.Prio.{Prio}
use Rattle.pearl_tree.specs.declared.tree.TaskHead.{TaskHead}
use Rattle.pearl_tree.specs.declared.tree.TaskHead.TheVariants.{PrioFirst, MainFirst}
use Rattle.pearl_tree.specs.Faults.{fault_if}
use Rattle.pearl_tree.specs.ShownModules.{ShownTree}
use Rattle.pearl_scope.specs.Placed.{Placed}
use Rattle.pearl_scope.specs.Rules as names
use Rattle.pearl_names.specs.Tables.{Table, table_of}
use Rattle.pearl_system.specs.Rules as devices
use Rattle.pearl_check.specs.declared.limit.TheConstants as limit
use Rattle.pearl_check.specs.Asked.{asked_at}
use Rattle.pearl_check.specs.Calls.{Weighed, s28}
use Rattle.pearl_check.specs.Dations.{s32}
use Rattle.pearl_check.specs.Formats.{s33}
use Rattle.pearl_check.specs.Roles.{asked_faults}
use Rattle.pearl_check.specs.Routines.{RoutineSort, Task, Procedure, Routine, routines_of, statements_of}
use Rattle.pearl_check.specs.Sizes.{Declared, declared_in, weighed_procedures, weighed_tasks, counted_sizes, weights}
use Rattle.pearl_check.specs.Statements.{s24, s26, s27, s31}

abbrev pub is_priority : ℕ → Bool
is_priority number = nat_le 1 number && nat_le number limit.PRIORITY_MAX

abbrev pub unfit_priority : Prio → List RuleFault
unfit_priority prio = fault_if (not (is_priority prio.number.value)) prio.number.place rule.S30

abbrev pub head_faults : TaskHead → List RuleFault
head_faults (PrioFirst None main) = []
head_faults (PrioFirst (Some prio) main) = unfit_priority prio
head_faults (MainFirst prio) = unfit_priority prio

-- S30: a declared priority is 0, or above the greatest one
abbrev pub s30 : RoutineSort → List RuleFault
s30 (Task head) = head_faults head
s30 (Procedure returns) = []

-- S24, S26, S27 and S31 to S33: what a statement breaks as a whole, in a routine of this sort
abbrev pub own_faults : Table → RoutineSort → Placed → List RuleFault
own_faults table sort place =
    s24 table place.spot.scope place.statement ++
    (s26 place.spot.in_loop place.statement ++
    (s27 table place.spot.scope sort place.statement ++
    (s31 table place.spot.scope place.statement ++
    (s32 table place.spot.scope place.statement ++ s33 table place.spot.scope place.statement))))

-- with S15 to S22, S23, S25 and S29 of what it asks for, and without the statements within it
abbrev pub statement_faults : Table → RoutineSort → Placed → List RuleFault
statement_faults table sort place = flat_map (asked_faults table) (asked_at place) ++ own_faults table sort place

abbrev pub routine_faults : Table → Routine → List RuleFault
routine_faults table routine = s30 routine.sort ++ flat_map (statement_faults table routine.sort) (statements_of routine)

-- the rules S15 to S27 and S29 to S33 that the tasks and procedures of a module break
abbrev pub statements_broken : Table → ShownTree → List RuleFault
statements_broken table tree = flat_map (routine_faults table) (routines_of tree)

abbrev pub whole_faults : List Declared → (procedures tasks : List Weighed) → List RuleFault
whole_faults declared procedures tasks =
    counted_sizes declared ++ (s28 procedures ++ weights (s28 procedures) procedures tasks)

abbrev pub module_faults : Table → ShownTree → List RuleFault
module_faults table tree =
    whole_faults (declared_in table) (weighed_procedures table (routines_of tree)) (weighed_tasks table (routines_of tree))

-- the rules S28 and S34, of the module as a whole
abbrev pub whole_broken : ShownTree → List RuleFault
whole_broken tree = module_faults (table_of tree) tree

-- the rules S1 to S34 that a module breaks, in no order and perhaps more than once
abbrev pub all_broken : ShownTree → List RuleFault
all_broken tree = names.broken tree ++ (devices.broken tree ++ (statements_broken (table_of tree) tree ++ whole_broken tree))

abbrev pub is_before : RuleFault → RuleFault → Bool
is_before a b = nat_lt a.place b.place || ((a.place == b.place) && nat_lt a.rule b.rule)

abbrev pub earlier : RuleFault → Option RuleFault → RuleFault
earlier fault None = fault
earlier fault (Some other) = if is_before other fault then other else fault

abbrev pub earlier_of : Option RuleFault → Option RuleFault → Option RuleFault
earlier_of None other = other
earlier_of (Some fault) other = Some (earlier fault other)

-- the first by place, and of several at one place that with the smallest number
abbrev pub first : List RuleFault → Option RuleFault
first [] = None
first (fault ∷ rest) = earlier_of (Some fault) (first rest)
