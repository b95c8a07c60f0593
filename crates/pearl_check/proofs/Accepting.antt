-- A module of which nothing is told breaks no rule, and its sizes aren't cut off.
use Rattle.std.proofs.Common.{◌≡◌, ℕ, ◌≤◌, ◌<◌, ◌^◌, true, false, List, [], ◌∷◌, ◌++◌, Some, None, is_some, length, refl, ap, ◌∙◌, true≢false, arith}
use Rattle.pearl_tree.specs.declared.fault.RuleFault.{RuleFault}
use Rattle.pearl_tree.specs.ShownModules.{ShownTree}
use Rattle.pearl_names.specs.Counts.{cut}
use Rattle.pearl_names.specs.Tables.{Sense, table_of}
use Rattle.pearl_scope.specs.Rules as names
use Rattle.pearl_system.specs.Rules as devices
use Rattle.pearl_check.specs.Calls.{s28}
use Rattle.pearl_check.specs.Checks.{sizes_of}
use Rattle.pearl_check.specs.Routines.{routines_of}
use Rattle.pearl_check.specs.Rules.{all_broken, first, statements_broken, whole_broken}
use Rattle.pearl_check.specs.Sizes.{Declared, declared_in, weighed_procedures, size_of, task_count, procedure_count, semaphore_count, slot_count, passed, counted_sizes}
use Rattle.pearl_check.specs.SizeSorts.{cut_sizes, sizes_in}
use Rattle.pearl_check.proofs.Limits.{within_limit}

pub none_broken : (faults : List RuleFault) → first faults ≡ None → faults ≡ []
none_broken [] none = refl
none_broken (fault ∷ rest) none = absurd (true≢false (ap is_some none))

none_left : {X : Type 0} (xs ys : List X) → xs ++ ys ≡ [] → xs ≡ []
none_left [] ys none = refl
none_left (x ∷ xs) ys none = let e = ap length none in absurd (omega (arith, e))

none_right : {X : Type 0} (xs ys : List X) → xs ++ ys ≡ [] → ys ≡ []
none_right [] ys none = none
none_right (x ∷ xs) ys none = let e = ap length none in absurd (omega (arith, e))

counted_none : (tree : ShownTree) → all_broken tree ≡ [] → counted_sizes (declared_in (table_of tree)) ≡ []
counted_none tree none =
    let behind_names = none_right (names.broken tree) _ none in
    let behind_devices = none_right (devices.broken tree) _ behind_names in
    let whole = none_right (statements_broken (table_of tree) tree) (whole_broken tree) behind_devices in
    none_left (counted_sizes (declared_in (table_of tree))) _ whole

-- of all rules S28 isn't broken either
pub none_cycles : (tree : ShownTree) → all_broken tree ≡ [] → s28 (weighed_procedures (table_of tree) (routines_of tree)) ≡ []
none_cycles tree none =
    let behind_names = none_right (names.broken tree) _ none in
    let behind_devices = none_right (devices.broken tree) _ behind_names in
    let whole = none_right (statements_broken (table_of tree) tree) (whole_broken tree) behind_devices in
    let cycles = none_right (counted_sizes (declared_in (table_of tree))) _ whole in
    none_left (s28 (weighed_procedures (table_of tree) (routines_of tree))) _ cycles

whole : (added : Sense → ℕ) (limit : ℕ) (declared : List Declared) → limit < 2 ^ 31 → passed added limit 0 declared ≡ [] →
    cut (size_of added declared) ≡ size_of added declared
whole added limit declared small none = let within = within_limit added limit declared none in omega (arith, within, small)

sizes_whole : (declared : List Declared) → counted_sizes declared ≡ [] → cut_sizes (sizes_in declared) ≡ sizes_in declared
sizes_whole declared none =
    let tasks = whole task_count 200 declared (omega arith) (none_left (passed task_count 200 0 declared) _ none) in
    let behind_tasks = none_right (passed task_count 200 0 declared) _ none in
    let procedures = whole procedure_count 200 declared (omega arith) (none_left (passed procedure_count 200 0 declared) _ behind_tasks) in
    let behind_procedures = none_right (passed procedure_count 200 0 declared) _ behind_tasks in
    let behind_semaphores = none_right (passed semaphore_count 1000 0 declared) _ behind_procedures in
    let slots = whole slot_count 65536 declared (omega arith) (none_left (passed slot_count 65536 0 declared) _ behind_semaphores) in
    λ i. record { tasks = tasks i; procedures = procedures i; slots = slots i }

-- the sizes of an accepted module are exact
pub exact_sizes : (tree : ShownTree) → all_broken tree ≡ [] → cut_sizes (sizes_of tree) ≡ sizes_of tree
exact_sizes tree none = sizes_whole (declared_in (table_of tree)) (counted_none tree none)
