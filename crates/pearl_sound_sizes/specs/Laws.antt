-- What holds of the numbers of procedures, of sizes and of tasks in the program of a module.
use Rattle.std.specs.Prelude.{◌≡◌, ℕ, ◌≤◌, ◌<◌, List, [], length, filter, Some, None, unwrap_or, slice_get}
use Rattle.std.specs.List.{AllByRecursion, AllZip, sum_by}
use Rattle.pearl_tree.specs.declared.tree.Tree.{Tree}
use Rattle.pearl_tree.specs.Lawful.{IsLawful}
use Rattle.pearl_tree.specs.ShownModules.{ShownTree, shown_tree}
use Rattle.pearl_tree.specs.Tokens.{IsId}
use Rattle.pearl_names.specs.Tables.{table_of}
use Rattle.pearl_scope.specs.Rules as names
use Rattle.pearl_system.specs.declared.device.SpecifiedDevice.{SpecifiedDevice}
use Rattle.pearl_system.specs.Devices.{device_key, IsDevice}
use Rattle.pearl_system.specs.Rising.{Lists}
use Rattle.pearl_calls.specs.Callers.{Caller}
use Rattle.pearl_calls.specs.Cycles.{SomeCallsItself}
use Rattle.pearl_calls.specs.Numberings.{IsNumbering}
use Rattle.pearl_calls.specs.Weights.{whole_weight}
use Rattle.pearl_check.specs.declared.callers.Weighed.{Weighed as HeldWeighed}
use Rattle.pearl_check.specs.Calls.{Weighed}
use Rattle.pearl_check.specs.Checks.{sizes_of}
use Rattle.pearl_check.specs.Routines.{Routine, is_procedure, is_task, routines_of}
use Rattle.pearl_check.specs.Rules.{all_broken}
use Rattle.pearl_check.specs.Sizes.{cells_of, weighed_procedures, weighed_tasks}
use Rattle.pearl_check.specs.Weighing.{HoldsWeighed}
use Rattle.pearl_program.specs.PlainPrograms.{PlainLeaf, PlainRoutine, PlainProcedure, PlainTask, PlainProg}
use Rattle.pearl_value.specs.Devices as device_list
use Rattle.pearl_value.specs.Counts.{IsPreset}
use Rattle.pearl_format.specs.Items.{IsFormat}
use Rattle.pearl_value.specs.Devices.{AreRising}
use Rattle.pearl_program.specs.Sound.{IsLeaf, IsRoutine, IsProcedure, CallSmaller, HasSizes, IsSound}
use Rattle.pearl_program.specs.Weights.{weight, weights_of}
use Rattle.pearl_resolve.specs.Numbers.{first}
use Rattle.pearl_resolve.specs.Resolve.{procedures_in, numbered_of}
use Rattle.pearl_sound_sizes.specs.ByRule.{program, module_callers, calls_in, AreByRule}

-- the procedures that are held in memory have the module's calls
abbrev pub HeldCallersHaveTheirCalls : Type 0
HeldCallersHaveTheirCalls = (tree : ShownTree) (held : HeldWeighed) →
    HoldsWeighed held (weighed_procedures (table_of tree) (routines_of tree)) → calls_in held.callers.items ≡ calls_in (module_callers tree)

-- where no static rule is broken, none of them calls itself, directly or through others
abbrev pub NoneCallsItself : Type 0
NoneCallsItself = (tree : ShownTree) (callers : List Caller) → all_broken tree ≡ [] →
    calls_in callers ≡ calls_in (module_callers tree) → SomeCallsItself callers → ⊥

-- what is read off a numbering, the number of each procedure in turn, are the numbers by the rule
abbrev pub NumbersAreReadOff : Type 0
NumbersAreReadOff = (tree : ShownTree) (callers : List Caller) (order numbers : List ℕ) →
    calls_in callers ≡ calls_in (module_callers tree) → IsNumbering callers order → length numbers ≡ length callers →
    ((procedure number : ℕ) → slice_get numbers procedure ≡ Some number → slice_get order number ≡ Some procedure) →
    AreByRule tree numbers

-- there are as many numbers by the rule as procedures
abbrev pub NumbersAreWhole : Type 0
NumbersAreWhole = (tree : ShownTree) (devices : List SpecifiedDevice) (numbers : List ℕ) → AreByRule tree numbers →
    length numbers ≡ length (procedures_in (numbered_of (table_of tree) devices numbers tree) first tree.declarations)

-- where a module breaks no static rule, and its procedures have the numbers by the rule, each calls smaller ones alone
abbrev pub ProceduresCallSmaller : Type 0
ProceduresCallSmaller = (tree : ShownTree) (devices : List SpecifiedDevice) (numbers : List ℕ) → all_broken tree ≡ [] →
    AreByRule tree numbers → CallSmaller 0 (program tree devices numbers).procedures

-- a routine has as many cells as the rule counts, two for each target of a GET and three for each loop that counts among them
abbrev pub HasCells : ShownTree → PlainRoutine → Routine → Type 0
HasCells tree plain routine = length plain.cells ≡ cells_of (table_of tree) routine

pub record HasCountedCells (tree : ShownTree) (devices : List SpecifiedDevice) (numbers : List ℕ) : Type 0 where
  pub procedures : AllZip (λ (procedure : PlainProcedure) routine. HasCells tree procedure.routine routine)
      (procedures_in (numbered_of (table_of tree) devices numbers tree) first tree.declarations) (filter is_procedure (routines_of tree))
  pub tasks : AllZip (λ (task : PlainTask) routine. HasCells tree task.routine routine)
      (program tree devices numbers).tasks (filter is_task (routines_of tree))

abbrev pub CellsAreCounted : Type 0
CellsAreCounted = (tree : ShownTree) (devices : List SpecifiedDevice) (numbers : List ℕ) → HasCountedCells tree devices numbers

-- no weight is more than the rule says. It may be less, since the rule counts LWB and UPB with the name behind them as two
-- values, as TRY, and the calls in the subscripts there as calls.
pub record WeighsNoMore (tree : ShownTree) (devices : List SpecifiedDevice) (numbers : List ℕ) : Type 0 where
  pub procedures : (procedure number : ℕ) (weighed : Weighed) → slice_get numbers procedure ≡ Some number →
      slice_get (weighed_procedures (table_of tree) (routines_of tree)) procedure ≡ Some weighed →
      unwrap_or (slice_get (weights_of (program tree devices numbers).procedures) number) 0 ≤
      whole_weight (module_callers tree) weighed.caller
  pub tasks : AllZip (λ (task : PlainTask) (weighed : Weighed).
      weight (weights_of (program tree devices numbers).procedures) task.routine ≤
      whole_weight (module_callers tree) weighed.caller)
      (program tree devices numbers).tasks (weighed_tasks (table_of tree) (routines_of tree))

abbrev pub WeightsAreNoMore : Type 0
WeightsAreNoMore = (tree : ShownTree) (devices : List SpecifiedDevice) (numbers : List ℕ) → all_broken tree ≡ [] → AreByRule tree numbers →
    WeighsNoMore tree devices numbers

-- where a module breaks no static rule, all sizes and weights are within their limits
abbrev pub SizesAreWithin : Type 0
SizesAreWithin = (tree : ShownTree) (devices : List SpecifiedDevice) (numbers : List ℕ) → all_broken tree ≡ [] →
    Lists device_key (IsDevice tree) devices → AreByRule tree numbers → HasSizes (program tree devices numbers)

-- the sizes that are told of a module are those of its program
pub record HasToldSizes (tree : ShownTree) (devices : List SpecifiedDevice) (numbers : List ℕ) : Type 0 where
  pub tasks : (sizes_of tree).tasks ≡ length (program tree devices numbers).tasks
  pub procedures : (sizes_of tree).procedures ≡ length (program tree devices numbers).procedures
  pub slots : (sizes_of tree).slots ≡ sum_by (λ (leaf : PlainLeaf). leaf.values.count) (program tree devices numbers).leaves

abbrev pub SizesAreTold : Type 0
SizesAreTold = (tree : ShownTree) (devices : List SpecifiedDevice) (numbers : List ℕ) → names.broken tree ≡ [] → AreByRule tree numbers →
    HasToldSizes tree devices numbers

-- where a module breaks no static rule, each task has a priority from 1 to 255
abbrev pub TasksAreUrgent : Type 0
TasksAreUrgent = (tree : ShownTree) (devices : List SpecifiedDevice) (numbers : List ℕ) → all_broken tree ≡ [] →
    AllByRecursion (λ (task : PlainTask). (0 < task.priority) × (task.priority ≤ 255)) (program tree devices numbers).tasks

-- the tasks of a lawful tree have ids as names
abbrev pub TasksAreNamed : Type 0
TasksAreNamed = (tree : Tree) (devices : List SpecifiedDevice) (numbers : List ℕ) → IsLawful tree →
    AllByRecursion (λ (task : PlainTask). IsId task.name)
    (program (shown_tree tree) devices numbers).tasks

-- what else is asked of a sound program
pub record RestIsSound (p : PlainProg) : Type 0 where
  pub leaves : AllByRecursion IsLeaf p.leaves
  pub semaphores : AllByRecursion IsPreset p.semaphores
  pub devices : AllByRecursion device_list.IsDevice p.devices
  pub rising : AreRising p.devices
  pub formats : AllByRecursion IsFormat p.formats
  pub procedures : AllByRecursion (IsProcedure p) p.procedures
  pub tasks : AllByRecursion (λ (task : PlainTask). IsRoutine p 0 None task.routine) p.tasks

-- where the tree is lawful and breaks no static rule, and procedures have the numbers by the rule, nothing else is left to ask
abbrev pub RestMakesSound : Type 0
RestMakesSound = (tree : Tree) (devices : List SpecifiedDevice) (numbers : List ℕ) → IsLawful tree → all_broken (shown_tree tree) ≡ [] →
    Lists device_key (IsDevice (shown_tree tree)) devices → AreByRule (shown_tree tree) numbers →
    RestIsSound (program (shown_tree tree) devices numbers) → IsSound (program (shown_tree tree) devices numbers)
