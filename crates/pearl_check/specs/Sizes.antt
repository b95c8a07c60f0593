-- The sizes of a module, and the weights of its tasks and procedures.
use Rattle.std.specs.Prelude.{ℕ, ◌+◌, ◌*◌, Bool, false, ◌&&◌, ◌||◌, nat_le, nat_lt, if◌then◌else◌, List, [], ◌∷◌, ◌++◌, length, map, take, drop, Option, is_some, unwrap_or, slice_get, filter}
use Rattle.std.specs.List.{list_any, flat_map, sum_by}
use Rattle.pearl_tree.specs.declared.fault.RuleFault.{RuleFault}
use Rattle.pearl_tree.specs.declared.name.Name.{Name}
use Rattle.pearl_tree.specs.declared.rule.TheConstants as rule
use Rattle.pearl_tree.specs.Faults.{fault_if}
use Rattle.pearl_tree.specs.Names.{name_text}
use Rattle.pearl_tree.specs.ShownStatements.{ShownStmt, OfRepeat, OfGet}
use Rattle.pearl_names.specs.Counts.{bytes_behind}
use Rattle.pearl_names.specs.Layout.{Leaf, slots_of}
use Rattle.pearl_scope.specs.Placed.{Placed}
use Rattle.pearl_names.specs.Found.{names_in}
use Rattle.pearl_names.specs.declared.scope.SortedName.{SortedName}
use Rattle.pearl_names.specs.Tables.{Form, Sense, Variable, OwnParameter, Semaphore, Task, Procedure, Table, leaves_in}
use Rattle.pearl_check.specs.declared.limit.TheConstants.{TASKS_MAX, PROCEDURES_MAX, SEMAPHORES_MAX, SLOTS_MAX, LEAF_NAME_MAX, CELLS_MAX}
use Rattle.pearl_check.specs.Asked.{asked_at}
use Rattle.pearl_calls.specs.Callers.{Caller}
use Rattle.pearl_calls.specs.Weights.{greatest, whole_weight}
use Rattle.pearl_check.specs.Calls.{Weighed, callers_of, asked_pieces, calls_of}
use Rattle.pearl_check.specs.Routines.{Routine, statements_of, scopes_in_routine, is_procedure, is_task}

-- a name that the module declares, also one that is declared again
pub record Declared : Type 0 where
  pub name : Name
  pub sense : Sense

abbrev pub with_senses : List SortedName → List Sense → List Declared
with_senses (entry ∷ entries) (sense ∷ senses) = record { name = entry.name; sense = sense } ∷ with_senses entries senses
with_senses entries senses = []

-- the names of the module's own scope, in order
abbrev pub declared_in : Table → List Declared
declared_in table = with_senses (names_in (slice_get table.names 0)) (unwrap_or (slice_get table.senses 0) [])

abbrev pub slots_in : Option Form → ℕ
slots_in form = length (slots_of (leaves_in form))

-- what a name adds to each size
abbrev pub task_count : Sense → ℕ
task_count Task = 1
task_count sense = 0

abbrev pub procedure_count : Sense → ℕ
procedure_count (Procedure parameters result) = 1
procedure_count sense = 0

abbrev pub semaphore_count : Sense → ℕ
semaphore_count Semaphore = 1
semaphore_count sense = 0

abbrev pub slot_count : Sense → ℕ
slot_count (Variable form inv) = slots_in form
slot_count sense = 0

-- what they add to a size, all together
abbrev pub size_of : (Sense → ℕ) → List Declared → ℕ
size_of added declared = sum_by (λ (one : Declared). added one.sense) declared

-- at the name with which a size passes its limit, where so much comes before
abbrev pub passed : (size : Sense → ℕ) → (limit before : ℕ) → List Declared → List RuleFault
passed size limit before [] = []
passed size limit before (declared ∷ rest) =
    fault_if (nat_le before limit && nat_lt limit (before + size declared.sense)) declared.name.place rule.S34 ++
    passed size limit (before + size declared.sense) rest

-- the bytes in the name of a leaf: those of the variable and of its fields, with a point before each field
abbrev pub bytes_in_name : Name → Leaf → ℕ
bytes_in_name name leaf = length (name_text name) + bytes_behind leaf

abbrev pub has_long_leaf : Name → Sense → Bool
has_long_leaf name (Variable form inv) = list_any (λ leaf. nat_lt LEAF_NAME_MAX (bytes_in_name name leaf)) (leaves_in form)
has_long_leaf name sense = false

abbrev pub long_leaf_fault : Declared → List RuleFault
long_leaf_fault declared = fault_if (has_long_leaf declared.name declared.sense) declared.name.place rule.S34

-- S34: a size is passed
abbrev pub counted_sizes : List Declared → List RuleFault
counted_sizes declared =
    passed task_count TASKS_MAX 0 declared ++
    (passed procedure_count PROCEDURES_MAX 0 declared ++
    (passed semaphore_count SEMAPHORES_MAX 0 declared ++
    (passed slot_count SLOTS_MAX 0 declared ++ flat_map long_leaf_fault declared)))

-- the cells of a parameter, and of the slots of a variable
abbrev pub cells : Sense → ℕ
cells (Variable form inv) = slots_in form
cells (OwnParameter parameter) = 1
cells sense = 0

abbrev pub has_counter : {X Y : Type 0} → Option X → (begin step end : Option Y) → Bool
has_counter control begin step end = is_some control || (is_some begin || (is_some step || is_some end))

-- the cells of a loop with FOR, FROM, BY or TO: control, step and limit; and of the targets of a GET
abbrev pub hidden_cells : ShownStmt → ℕ
hidden_cells (OfRepeat control begin step end condition declarations statements body_place place) =
    if has_counter control begin step end then 3 else 0
hidden_cells (OfGet targets dation formats place) = 2 * length targets
hidden_cells statement = 0

-- what a statement needs beside the cells, apart from those within it
abbrev pub need : Placed → ℕ
need place = 2 + length (flat_map asked_pieces (asked_at place))

-- of all of them, 2 where there is none
abbrev pub greatest_need : List Placed → ℕ
greatest_need places = greatest (2 ∷ map need places)

abbrev pub all_hidden : List Placed → ℕ
all_hidden places = sum_by (λ (place : Placed). hidden_cells place.statement) places

abbrev pub cells_of : Table → Routine → ℕ
cells_of table routine =
    sum_by (sum_by cells) (take (scopes_in_routine routine) (drop routine.scope table.senses)) +
    all_hidden (statements_of routine)

-- of a body that is the scope of this number
abbrev pub caller_of : Table → (procedures : List Name) → Routine → Caller
caller_of table procedures routine = record {
  own = cells_of table routine + greatest_need (statements_of routine);
  calls = calls_of table procedures routine;
}

abbrev pub weighed_of : Table → (procedures : List Name) → Routine → Weighed
weighed_of table procedures routine = record { name = routine.name; caller = caller_of table procedures routine }

abbrev pub overweight : List Caller → Weighed → List RuleFault
overweight procedures weighed =
    fault_if (nat_lt CELLS_MAX (whole_weight procedures weighed.caller)) weighed.name.place rule.S34

-- S34: a weight is above the limit. Weights are asked only where S28 isn't broken.
abbrev pub weights : (cycles : List RuleFault) → (procedures tasks : List Weighed) → List RuleFault
weights [] procedures tasks =
    flat_map (overweight (callers_of procedures)) procedures ++ flat_map (overweight (callers_of procedures)) tasks
weights (cycle ∷ cycles) procedures tasks = []

abbrev pub procedure_names : List Routine → List Name
procedure_names routines = map (λ (routine : Routine). routine.name) (filter is_procedure routines)

abbrev pub weighed_procedures : Table → List Routine → List Weighed
weighed_procedures table routines = map (weighed_of table (procedure_names routines)) (filter is_procedure routines)

abbrev pub weighed_tasks : Table → List Routine → List Weighed
weighed_tasks table routines = map (weighed_of table (procedure_names routines)) (filter is_task routines)
