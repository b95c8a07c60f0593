-- The tasks of a module: their priorities, and their names.
use Rattle.std.specs.Prelude.{◌≡◌, ℕ, ◌≤◌, ◌<◌, nat_le, not, List, [], ◌∷◌, map, filter, Some, None, All}
use Rattle.std.specs.List.{AllByRecursion, AllZip}
use Rattle.std.proofs.Common.{ap, ◌∙◌, sym, arith}
use Rattle.std.proofs.lemmas.Bool.{leb-true}
use Rattle.std.proofs.lemmas.List.Elements.{All-head, All-tail}
use Rattle.pearl_tree.specs.declared.declaration.Prio.{Prio}
use Rattle.pearl_tree.specs.declared.rule.TheConstants as rule
use Rattle.pearl_tree.specs.declared.tree.Decl.{Decl}
use Rattle.pearl_tree.specs.declared.tree.Decl.TheVariants as decl
use Rattle.pearl_tree.specs.declared.tree.TaskHead.{TaskHead}
use Rattle.pearl_tree.specs.declared.tree.TaskHead.TheVariants.{PrioFirst, MainFirst}
use Rattle.pearl_tree.specs.Lawful.{IsLawfulDecl}
use Rattle.pearl_tree.specs.ShownModules.{ShownTree, shown_decl}
use Rattle.pearl_tree.specs.Tokens.{IsId}
use Rattle.pearl_names.specs.Tables.{table_of}
use Rattle.pearl_system.specs.declared.device.SpecifiedDevice.{SpecifiedDevice}
use Rattle.pearl_check.specs.Routines.{Routine, is_task, routines_of}
use Rattle.pearl_check.specs.Rules.{is_priority, unfit_priority, head_faults, s30}
use Rattle.pearl_program.specs.PlainPrograms.{PlainTask}
use Rattle.pearl_resolve.specs.Numbers.{At, after_decl, first}
use Rattle.pearl_resolve.specs.Expressions.{Numbered}
use Rattle.pearl_resolve.specs.Resolve.{priority_of, decl_tasks, tasks_in, numbered_of, resolve}
use Rattle.pearl_sound_sizes.proofs.Basics.{not_broken, really, both, all_append, all_filtered}
use Rattle.pearl_sound_sizes.proofs.Kept.{IsKept}
use Rattle.pearl_sound_sizes.proofs.Routines.{IsTaskOf, tasks_alike}

-- priorities
abbrev IsUrgent : ℕ → Type 0
IsUrgent priority = (0 < priority) × (priority ≤ 255)

prio_fits : (prio : Prio) → unfit_priority prio ≡ [] → IsUrgent prio.number.value
prio_fits prio none =
    let value = prio.number.value in
    let parts = both (nat_le 1 value) (nat_le value 255) (really (is_priority value) (not_broken (not (is_priority value)) prio.number.place rule.S30 none)) in
    let low = leb-true 1 value parts.0 in
    (omega (arith, low), leb-true value 255 parts.1)

head_fits : (head : TaskHead) → head_faults head ≡ [] → IsUrgent (priority_of head)
head_fits (PrioFirst None main) none = (omega arith, omega arith)
head_fits (PrioFirst (Some prio) main) none = prio_fits prio none
head_fits (MainFirst prio) none = prio_fits prio none

task_urgent : (tree : ShownTree) (numbered : Numbered) (task : PlainTask) (routine : Routine) → IsTaskOf numbered task routine → IsKept tree routine →
    IsUrgent task.priority
task_urgent tree numbered task routine of kept =
    let fits = head_fits of.head (ap s30 (sym of.sort) ∙ kept.head) in
    let low = fits.0 in
    let high = fits.1 in
    let same = of.priority in
    (omega (arith, low, same), omega (arith, high, same))

all_urgent : (tree : ShownTree) (numbered : Numbered) (tasks : List PlainTask) (routines : List Routine) → AllZip (IsTaskOf numbered) tasks routines →
    AllByRecursion (IsKept tree) routines → AllByRecursion (λ (task : PlainTask). (0 < task.priority) × (task.priority ≤ 255)) tasks
all_urgent tree numbered [] [] alike kept = tt
all_urgent tree numbered (task ∷ tasks) (routine ∷ routines) alike kept =
    (task_urgent tree numbered task routine alike.0 kept.0, all_urgent tree numbered tasks routines alike.1 kept.1)
all_urgent tree numbered [] (routine ∷ routines) alike kept = absurd alike
all_urgent tree numbered (task ∷ tasks) [] alike kept = absurd alike

pub tasks_urgent : (tree : ShownTree) (devices : List SpecifiedDevice) (numbers : List ℕ) → AllByRecursion (IsKept tree) (routines_of tree) →
    AllByRecursion (λ (task : PlainTask). (0 < task.priority) × (task.priority ≤ 255)) (resolve (table_of tree) devices numbers tree).tasks
tasks_urgent tree devices numbers kept =
    let numbered = numbered_of (table_of tree) devices numbers tree in
    all_urgent tree numbered (tasks_in numbered first tree.declarations) (filter is_task (routines_of tree)) (tasks_alike numbered first tree.declarations)
    (all_filtered (IsKept tree) is_task (routines_of tree) kept)

-- names
abbrev IsNamedTask : PlainTask → Type 0
IsNamedTask task = IsId task.name

decl_named : (numbered : Numbered) (at : At) (one : Decl) → IsLawfulDecl one → AllByRecursion IsNamedTask (decl_tasks numbered at (shown_decl one))
decl_named numbered at (decl.Task name head body place) lawful = (lawful.0, tt)
decl_named numbered at part lawful = tt

pub tasks_named : (numbered : Numbered) (at : At) (decls : List Decl) → All IsLawfulDecl decls →
    AllByRecursion (λ (task : PlainTask). IsId task.name) (tasks_in numbered at (map shown_decl decls))
tasks_named numbered at [] lawful = tt
tasks_named numbered at (one ∷ rest) lawful =
    let past = after_decl numbered.table at (shown_decl one) in
    all_append IsNamedTask (decl_tasks numbered at (shown_decl one)) (tasks_in numbered past (map shown_decl rest))
    (decl_named numbered at one (All-head IsLawfulDecl one rest lawful)) (tasks_named numbered past rest (All-tail IsLawfulDecl one rest lawful))
