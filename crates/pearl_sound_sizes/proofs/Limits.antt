-- Where neither S28 nor S34 is broken, sizes and weights are within their limits, and no procedure calls itself.
use Rattle.std.specs.Prelude.{◌≡◌, ℕ, zero, suc, ◌+◌, ◌≤◌, ◌<◌, nat_lt, false, List, [], ◌∷◌, ◌++◌, length}
use Rattle.std.specs.List.{AllByRecursion, flat_map}
use Rattle.std.proofs.Common.{ap, ◌∙◌, sym, subst, arith, true≢false}
use Rattle.std.proofs.lemmas.Bool.{ltb-false}
use Rattle.std.proofs.lemmas.List.{length-map}
use Rattle.pearl_tree.specs.declared.rule.TheConstants as rule
use Rattle.pearl_tree.specs.Faults.{fault_if}
use Rattle.pearl_tree.specs.ShownModules.{ShownTree}
use Rattle.pearl_names.specs.Tables.{table_of}
use Rattle.pearl_calls.specs.Callers.{Caller}
use Rattle.pearl_calls.specs.Cycles.{calls_itself, IsWay, CallsItself, SomeCallsItself}
use Rattle.pearl_calls.specs.Weights.{whole_weight}
use Rattle.pearl_calls.proofs.Offered.{cycles, inside}
use Rattle.pearl_check.specs.Calls.{Weighed, callers_of, cycles_from, s28}
use Rattle.pearl_check.specs.Routines.{routines_of}
use Rattle.pearl_check.specs.Rules.{whole_broken}
use Rattle.pearl_check.specs.Sizes.{declared_in, size_of, passed, task_count, procedure_count, semaphore_count, slot_count, long_leaf_fault, counted_sizes, overweight, weights, weighed_procedures, weighed_tasks}
use Rattle.pearl_check.proofs.Offered.{within_limit}
use Rattle.pearl_sound_sizes.specs.ByRule.{module_callers}
use Rattle.pearl_sound_sizes.proofs.Basics.{left_none, right_none, not_broken, each_none, all_as}

-- no procedure from this number on calls itself
none_from : (number : ℕ) (all : List Caller) (procedures : List Weighed) → cycles_from number all procedures ≡ [] → (i : ℕ) → i < length procedures →
    calls_itself all (number + i) ≡ false
none_from number all [] none i less = absurd (omega (arith, less))
none_from number all (procedure ∷ rest) none zero less =
    let same : number + 0 ≡ number = omega arith in
    ap (calls_itself all) same ∙
    not_broken (calls_itself all number) procedure.name.place rule.S28
    (left_none (fault_if (calls_itself all number) procedure.name.place rule.S28) (cycles_from (number + 1) all rest) none)
none_from number all (procedure ∷ rest) none (suc i) less =
    let same : number + suc i ≡ number + 1 + i = omega arith in
    ap (calls_itself all) same ∙
    none_from (number + 1) all rest (right_none (fault_if (calls_itself all number) procedure.name.place rule.S28) (cycles_from (number + 1) all rest) none)
    i (omega (arith, less))

way_begins : (procedures : List Caller) (from : ℕ) (through : List ℕ) (to : ℕ) → IsWay procedures from through to → from < length procedures
way_begins procedures from [] to way = inside procedures from to way
way_begins procedures from (next ∷ through) to way = inside procedures from next way.0

no_cycles : (procedures : List Weighed) → s28 procedures ≡ [] → SomeCallsItself (callers_of procedures) → ⊥
no_cycles procedures none some =
    let all = callers_of procedures in
    let number = some.0 in
    let back : CallsItself all number = some.1 in
    let less = way_begins all number back.0 number back.1 in
    let count = length-map procedures (λ (weighed : Weighed). weighed.caller) in
    let same : 0 + number ≡ number = omega arith in
    let not = none_from 0 all procedures none number (omega (arith, less, count)) in
    true≢false (sym ((cycles all number).1 back) ∙ ap (calls_itself all) (sym same) ∙ not)

abbrev IsLight : List Caller → Weighed → Type 0
IsLight callers weighed = whole_weight callers weighed.caller ≤ 4096

light : (callers : List Caller) (weighed : Weighed) → overweight callers weighed ≡ [] → IsLight callers weighed
light callers weighed none =
    ltb-false 4096 (whole_weight callers weighed.caller)
    (not_broken (nat_lt 4096 (whole_weight callers weighed.caller)) weighed.name.place rule.S34 none)

all_light : (callers : List Caller) (list : List Weighed) → flat_map (overweight callers) list ≡ [] → AllByRecursion (IsLight callers) list
all_light callers list none =
    all_as (λ weighed. overweight callers weighed ≡ []) (IsLight callers) (λ weighed is. light callers weighed is) list
    (each_none (overweight callers) list none)

-- what S28 and S34 leave
pub record HasLimits (tree : ShownTree) : Type 0 where
  pub tasks : size_of task_count (declared_in (table_of tree)) ≤ 200
  pub procedures : size_of procedure_count (declared_in (table_of tree)) ≤ 200
  pub semaphores : size_of semaphore_count (declared_in (table_of tree)) ≤ 1000
  pub slots : size_of slot_count (declared_in (table_of tree)) ≤ 65536
  pub none_back : SomeCallsItself (module_callers tree) → ⊥
  pub procedure_weights : AllByRecursion (λ (weighed : Weighed). whole_weight (module_callers tree) weighed.caller ≤ 4096)
      (weighed_procedures (table_of tree) (routines_of tree))
  pub task_weights : AllByRecursion (λ (weighed : Weighed). whole_weight (module_callers tree) weighed.caller ≤ 4096)
      (weighed_tasks (table_of tree) (routines_of tree))

pub limits_kept : (tree : ShownTree) → whole_broken tree ≡ [] → HasLimits tree
limits_kept tree none =
    let table = table_of tree in
    let declared = declared_in table in
    let procedures = weighed_procedures table (routines_of tree) in
    let tasks = weighed_tasks table (routines_of tree) in
    let sizes = left_none (counted_sizes declared) (s28 procedures ++ weights (s28 procedures) procedures tasks) none in
    let others = right_none (counted_sizes declared) (s28 procedures ++ weights (s28 procedures) procedures tasks) none in
    let cycles_none = left_none (s28 procedures) (weights (s28 procedures) procedures tasks) others in
    let weights_none = subst (λ cycles. weights cycles procedures tasks ≡ []) cycles_none
    (right_none (s28 procedures) (weights (s28 procedures) procedures tasks) others) in
    let of_tasks = passed task_count 200 0 declared in
    let of_procedures = passed procedure_count 200 0 declared in
    let of_semaphores = passed semaphore_count 1000 0 declared in
    let of_slots = passed slot_count 65536 0 declared in
    let long = flat_map long_leaf_fault declared in
    let second = right_none of_tasks (of_procedures ++ (of_semaphores ++ (of_slots ++ long))) sizes in
    let third = right_none of_procedures (of_semaphores ++ (of_slots ++ long)) second in
    let fourth = right_none of_semaphores (of_slots ++ long) third in
    let callers = callers_of procedures in
    record {
      tasks = within_limit task_count 200 declared (left_none of_tasks (of_procedures ++ (of_semaphores ++ (of_slots ++ long))) sizes);
      procedures = within_limit procedure_count 200 declared (left_none of_procedures (of_semaphores ++ (of_slots ++ long)) second);
      semaphores = within_limit semaphore_count 1000 declared (left_none of_semaphores (of_slots ++ long) third);
      slots = within_limit slot_count 65536 declared (left_none of_slots long fourth);
      none_back = no_cycles procedures cycles_none;
      procedure_weights = all_light callers procedures (left_none (flat_map (overweight callers) procedures) (flat_map (overweight callers) tasks) weights_none);
      task_weights = all_light callers tasks (right_none (flat_map (overweight callers) procedures) (flat_map (overweight callers) tasks) weights_none);
    }
