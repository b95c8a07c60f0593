-- A module's procedures by their numbers: each calls smaller ones alone, and weighs no more than the rule says.
use Rattle.std.specs.Prelude.{◌≡◌, ℕ, zero, suc, ◌+◌, ◌≤◌, ◌<◌, max, nat_eq, Bool, true, false, if◌then◌else◌, List, [], ◌∷◌, ◌++◌, length, map, take, filter, filter_map, Option, Some, None, option_map, unwrap_or, slice_get}
use Rattle.std.specs.List.{AllByRecursion, AllZip, IsDistinct, list_any, cons_option}
use Rattle.std.specs.Str.{bytes_eq}
use Rattle.std.proofs.Common.{refl, ap, ◌∙◌, sym, subst, arith}
use Rattle.std.proofs.lemmas.Bool.{eqb-true}
use Rattle.std.proofs.lemmas.List.{length-map}
use Rattle.std.proofs.lemmas.Option.{none-some, slice_get-map, slice_get_within, get_or_from_slice_get}
use Rattle.pearl_tree.specs.declared.name.Name.{Name}
use Rattle.pearl_tree.specs.Names.{name_text}
use Rattle.pearl_tree.specs.ShownModules.{ShownTree}
use Rattle.pearl_names.specs.Tables.{Table, table_of}
use Rattle.pearl_system.specs.declared.device.SpecifiedDevice.{SpecifiedDevice}
use Rattle.pearl_calls.specs.Callers.{Caller, callees_of, callees, calls}
use Rattle.pearl_calls.specs.Weights.{called, greatest, whole_weight}
use Rattle.pearl_calls.proofs.Offered.{add_up, callees_first}
use Rattle.pearl_check.specs.Calls.{Weighed, calls_of, number_of}
use Rattle.pearl_check.specs.Routines.{Routine, is_procedure, is_task, routines_of}
use Rattle.pearl_check.specs.Sizes.{caller_of, weighed_of, procedure_names, weighed_procedures, weighed_tasks}
use Rattle.pearl_program.specs.PlainPrograms.{PlainRoutine, PlainProcedure, PlainTask}
use Rattle.pearl_program.specs.Sound.{CallSmaller}
use Rattle.pearl_program.specs.Weights.{greatest_of_all, weight, weights_behind, weights_of}
use Rattle.pearl_program.specs.Weights as program
use Rattle.pearl_resolve.specs.Numbers.{first}
use Rattle.pearl_resolve.specs.Expressions.{Numbered}
use Rattle.pearl_resolve.specs.Resolve.{tasks_in, procedures_in, numbered_of, resolve}
use Rattle.pearl_sound_sizes.specs.ByRule.{module_callers, calls_in, AreByRule}
use Rattle.pearl_sound_sizes.proofs.Basics.{some_one, all_as, all_filtered, all_at, alike_length, alike_at}
use Rattle.pearl_sound_sizes.proofs.Bounds.{routine_has_cells, routine_needs, IsWithin, routine_calls}
use Rattle.pearl_sound_sizes.proofs.ByNumber.{something, among, placed, numbers_below, numbers_differ, numbers_whole, order_differs, any_passes, each_passes, same_place, AllFrom, all_numbered, count_numbered}
use Rattle.pearl_sound_sizes.proofs.Kept.{IsKept}
use Rattle.pearl_sound_sizes.proofs.Limits.{HasLimits}
use Rattle.pearl_sound_sizes.proofs.Routines.{IsOf, IsProcedureOf, IsTaskOf, procedures_alike, tasks_alike}

-- what stands in the first part of a list
record IsTaken (xs : List ℕ) (n m x : ℕ) : Type 0 where
  pub there : slice_get xs m ≡ Some x
  pub less : m < n

from_taken : (xs : List ℕ) (n m x : ℕ) → slice_get (take n xs) m ≡ Some x → IsTaken xs n m x
from_taken xs zero m x is = absurd (none-some x is)
from_taken [] (suc n) m x is = absurd (none-some x is)
from_taken (y ∷ xs) (suc n) zero x is = record { there = is; less = omega arith }
from_taken (y ∷ xs) (suc n) (suc m) x is =
    let more = from_taken xs n m x is in record { there = more.there; less = let a = more.less in omega (arith, a) }

-- procedures that have the same calls
pub calls_at : (callers : List Caller) (k : ℕ) → callees callers k ≡ unwrap_or (slice_get (calls_in callers) k) []
calls_at callers k =
    by (slice_get callers k) ∙ ap (λ found. unwrap_or found []) (sym (slice_get-map (λ (caller : Caller). caller.calls) callers k))
  where
    by : (found : Option Caller) → callees_of found ≡ unwrap_or (option_map (λ (caller : Caller). caller.calls) found) []
    by None = refl
    by (Some caller) = refl

-- a name that calls has a number among the procedures
later_within : (found : Option ℕ) (n j : ℕ) → ((k : ℕ) → found ≡ Some k → k < n) → option_map suc found ≡ Some j → j < suc n
later_within None n j more is = absurd (none-some j is)
later_within (Some k) n j more is = let a = more k refl in let b = some_one is in omega (arith, a, b)

number_within : (names : List Name) (name : Name) (j : ℕ) → number_of names name ≡ Some j → j < length names
number_within [] name j is = absurd (none-some j is)
number_within (procedure ∷ rest) name j is =
    by (bytes_eq (name_text name) (name_text procedure)) is (λ k at. number_within rest name k at)
  where
    by : (test : Bool) → (if test then Some 0 else option_map suc (number_of rest name)) ≡ Some j →
        ((k : ℕ) → number_of rest name ≡ Some k → k < length rest) → j < suc (length rest)
    by true is more = let a = some_one is in omega (arith, a)
    by false is more = later_within (number_of rest name) (length rest) j more is

calls_within : (names : List Name) (list : List Name) → AllByRecursion (λ j. j < length names) (filter_map (number_of names) list)
calls_within names [] = tt
calls_within names (name ∷ rest) = by (number_of names name) refl (calls_within names rest)
  where
    by : (found : Option ℕ) → number_of names name ≡ found → AllByRecursion (λ j. j < length names) (filter_map (number_of names) rest) →
        AllByRecursion (λ j. j < length names) (cons_option found (filter_map (number_of names) rest))
    by None is more = more
    by (Some j) is more = (number_within names name j is, more)

-- one weight more
value_last : (before : List ℕ) (last i limit : ℕ) → unwrap_or (slice_get before i) 0 ≤ limit → (i ≡ length before → last ≤ limit) →
    unwrap_or (slice_get (before ++ last ∷ []) i) 0 ≤ limit
value_last [] last zero limit own more = more refl
value_last [] last (suc i) limit own more = omega arith
value_last (w ∷ before) last zero limit own more = own
value_last (w ∷ before) last (suc i) limit own more = value_last before last i limit own (λ same. more (ap suc same))

all_last : (P : ℕ → Type 0) (xs : List ℕ) (x : ℕ) → AllByRecursion P xs → P x → AllByRecursion P (xs ++ x ∷ [])
all_last P [] x all is = (is, tt)
all_last P (y ∷ xs) x all is = (all.0, all_last P xs x all.1 is)

smaller_from : (n : ℕ) (procedures : List PlainProcedure) →
    AllFrom (λ n (procedure : PlainProcedure). greatest_of_all program.calls procedure.routine.body ≤ n) n procedures → CallSmaller n procedures
smaller_from n [] all = tt
smaller_from n (procedure ∷ rest) all = (all.0, smaller_from (n + 1) rest all.1)

module _ (tree : ShownTree) (devices : List SpecifiedDevice) (numbers : List ℕ) (by_rule : AreByRule tree numbers) where
  abbrev table : Table
  table = table_of tree

  abbrev numbered : Numbered
  numbered = numbered_of table devices numbers tree

  abbrev routines : List Routine
  routines = filter is_procedure (routines_of tree)

  abbrev names : List Name
  names = procedure_names (routines_of tree)

  abbrev procedures : List PlainProcedure
  procedures = procedures_in numbered first tree.declarations

  abbrev callers : List Caller
  callers = module_callers tree

  alike : AllZip (IsProcedureOf numbered) procedures routines
  alike = procedures_alike numbered first tree.declarations

  as_many_names : length names ≡ length routines
  as_many_names = length-map routines (λ (routine : Routine). routine.name)

  as_many_callers : length callers ≡ length routines
  as_many_callers =
      length-map (map (weighed_of table names) routines) (λ (weighed : Weighed). weighed.caller) ∙ length-map routines (weighed_of table names)

  same_length : length by_rule.callers ≡ length callers
  same_length =
      sym (length-map by_rule.callers (λ (caller : Caller). caller.calls)) ∙
      ap (λ (rows : List (List ℕ)). length rows) by_rule.calls ∙ length-map callers (λ (caller : Caller). caller.calls)

  pub whole : length numbers ≡ length procedures
  whole =
      let a = numbers_whole by_rule.callers by_rule.order numbers by_rule.numbering by_rule.are in
      let b = same_length in
      let c = as_many_callers in
      let d = alike_length (IsProcedureOf numbered) procedures routines alike in
      omega (arith, a, b, c, d)

  below : AllByRecursion (λ number. number < length numbers) numbers
  below = numbers_below by_rule.callers by_rule.order numbers by_rule.numbering by_rule.are

  differ : IsDistinct nat_eq numbers
  differ = numbers_differ by_rule.callers by_rule.order numbers by_rule.numbering by_rule.are

  pub count : length (resolve table devices numbers tree).procedures ≡ length numbers
  count = count_numbered numbers procedures whole below differ

  caller_there : (k : ℕ) (routine : Routine) → slice_get routines k ≡ Some routine → slice_get callers k ≡ Some (caller_of table names routine)
  caller_there k routine there =
      slice_get-map (λ (weighed : Weighed). weighed.caller) (map (weighed_of table names) routines) k ∙
      ap (option_map (λ (weighed : Weighed). weighed.caller)) (slice_get-map (weighed_of table names) routines k ∙ ap (option_map (weighed_of table names)) there)

  -- a procedure that is called has a smaller number
  callee_smaller : (k n : ℕ) (routine : Routine) → slice_get numbers k ≡ Some n → slice_get routines k ≡ Some routine →
      (i j : ℕ) → slice_get (calls_of table names routine) i ≡ Some j → j < length names → unwrap_or (slice_get numbers j) 0 + 1 ≤ n
  callee_smaller k n routine is there i j called less =
      let order = by_rule.order in
      let at = placed by_rule.callers order numbers by_rule.numbering by_rule.are k n is in
      let same = calls_at by_rule.callers k ∙ ap (λ rows. unwrap_or (slice_get rows k) []) by_rule.calls ∙ sym (calls_at callers k) ∙
      ap callees_of (caller_there k routine there) in
      let calls_it = ap (list_any (nat_eq j)) same ∙ among (calls_of table names routine) i j called in
      let a = as_many_names in
      let b = as_many_callers in
      let c = same_length in
      let d = whole in
      let e = alike_length (IsProcedureOf numbered) procedures routines alike in
      let comes = callees_first by_rule.callers order n j by_rule.numbering (slice_get_within order n k at) (omega (arith, less, a, b, c))
      (ap (λ p. calls by_rule.callers p j) (get_or_from_slice_get order n k 0 at) ∙ calls_it) in
      let found = any_passes (nat_eq j) (take n order) comes in
      let taken = from_taken order n found.index found.number found.there in
      let own = something numbers j (omega (arith, less, a, d, e)) in
      let here = placed by_rule.callers order numbers by_rule.numbering by_rule.are j own.thing own.is in
      let equal = same_place order found.index own.thing j (order_differs by_rule.callers order by_rule.numbering)
      (taken.there ∙ ap (λ x. Some x) (sym (eqb-true j found.number found.passes))) here in
      let lower = taken.less in
      let value = ap (λ found. unwrap_or found 0) own.is in
      omega (arith, equal, lower, value)

  module _ (kept : AllByRecursion (IsKept tree) (routines_of tree)) where
    -- the number of what is called, and 1
    procedure_smaller : (k n : ℕ) (procedure : PlainProcedure) → slice_get numbers k ≡ Some n → slice_get procedures k ≡ Some procedure →
        greatest_of_all program.calls procedure.routine.body ≤ n
    procedure_smaller k n procedure is there =
        let own = alike_at (IsProcedureOf numbered) procedures routines k procedure alike there in
        let routine = own.other in
        let routine_kept = all_at (IsKept tree) routines k routine (all_filtered (IsKept tree) is_procedure (routines_of tree) kept) own.there in
        let inner = calls_within names _ in
        routine_calls tree devices numbers (λ procedure. procedure + 1) n procedure.routine routine own.suits routine_kept.calls
        (each_passes (IsWithin tree devices numbers (λ procedure. procedure + 1) n) (calls_of table names routine)
        (λ i j at. callee_smaller k n routine is own.there i j at (all_at (λ j. j < length names) (calls_of table names routine) i j inner at)))

    pub call_smaller : CallSmaller 0 (resolve table devices numbers tree).procedures
    call_smaller =
        smaller_from 0 (resolve table devices numbers tree).procedures
        (all_numbered numbers procedures whole below differ
        (λ n (procedure : PlainProcedure). greatest_of_all program.calls procedure.routine.body ≤ n) procedure_smaller)

    module _ (limits : HasLimits tree) where
      -- these weights, at the numbers of procedures, are no more than the rule says
      abbrev AreBounded : List ℕ → Type 0
      AreBounded before = (j : ℕ) (caller : Caller) → slice_get callers j ≡ Some caller →
          unwrap_or (slice_get before (unwrap_or (slice_get numbers j) 0)) 0 ≤ whole_weight callers caller

      abbrev value : List ℕ → ℕ → ℕ
      value before j = unwrap_or (slice_get before (unwrap_or (slice_get numbers j) 0)) 0

      callees_bounded : (before : List ℕ) → AreBounded before → (list : List ℕ) → AllByRecursion (λ j. j < length names) list →
          AllByRecursion (λ j. value before j ≤ greatest (map (whole_weight callers) (filter_map (slice_get callers) list))) list
      callees_bounded before bounded [] inner = tt
      callees_bounded before bounded (j ∷ rest) inner =
          let a = as_many_names in
          let b = as_many_callers in
          let less = inner.0 in
          let own = something callers j (omega (arith, less, a, b)) in
          let all = greatest (map (whole_weight callers) (filter_map (slice_get callers) (j ∷ rest))) in
          let behind = greatest (map (whole_weight callers) (filter_map (slice_get callers) rest)) in
          let same : all ≡ max (whole_weight callers own.thing) behind =
          ap (λ found. greatest (map (whole_weight callers) (cons_option found (filter_map (slice_get callers) rest)))) own.is in
          let c = bounded j own.thing own.is in (
            omega (arith, same, c),
            all_as (λ j. value before j ≤ behind) (λ j. value before j ≤ all) (λ j d. omega (arith, same, d)) rest
                (callees_bounded before bounded rest inner.1),
          )

      -- a routine weighs no more than the rule says
      routine_weight : (before : List ℕ) → AreBounded before → (plain : PlainRoutine) (routine : Routine) → IsOf numbered plain routine →
          IsKept tree routine → weight before plain ≤ whole_weight callers (caller_of table names routine)
      routine_weight before bounded plain routine of routine_kept =
          let caller = caller_of table names routine in
          let call : ℕ → ℕ = λ procedure. unwrap_or (slice_get before procedure) 0 in
          let limit = greatest (map (whole_weight callers) (called callers caller)) in
          let a = routine_has_cells numbered plain routine of in
          let b = routine_needs numbered plain routine of in
          let c = routine_calls tree devices numbers call limit plain routine of routine_kept.calls
          (callees_bounded before bounded (calls_of table names routine) (calls_within names _)) in
          let d = add_up callers limits.none_back caller in
          omega (arith, a, b, c, d)

      abbrev Weighs : ℕ → PlainProcedure → Type 0
      Weighs n procedure = (before : List ℕ) → length before ≡ n → AreBounded before →
          (weight before procedure.routine ≤ 4096) × AreBounded (before ++ weight before procedure.routine ∷ [])

      procedure_weighs : (k n : ℕ) (procedure : PlainProcedure) → slice_get numbers k ≡ Some n → slice_get procedures k ≡ Some procedure → Weighs n procedure
      procedure_weighs k n procedure is there before count bounded =
          let own = alike_at (IsProcedureOf numbered) procedures routines k procedure alike there in
          let routine = own.other in
          let routine_kept = all_at (IsKept tree) routines k routine (all_filtered (IsKept tree) is_procedure (routines_of tree) kept) own.there in
          let weighs = routine_weight before bounded procedure.routine routine own.suits routine_kept in
          let light = all_at (λ (weighed : Weighed). whole_weight callers weighed.caller ≤ 4096) (weighed_procedures table (routines_of tree)) k
          (weighed_of table names routine) limits.procedure_weights
          (slice_get-map (weighed_of table names) routines k ∙ ap (option_map (weighed_of table names)) own.there) in (
            omega (arith, weighs, light),
            λ j caller at. value_last before (weight before procedure.routine) (unwrap_or (slice_get numbers j) 0) (whole_weight callers caller)
                (bounded j caller at)
                (λ same. own_weight j caller at same (caller_there k routine own.there) weighs),
          )
        where
          own_weight : (j : ℕ) (caller : Caller) → slice_get callers j ≡ Some caller → unwrap_or (slice_get numbers j) 0 ≡ length before →
              {own : Caller} → slice_get callers k ≡ Some own → weight before procedure.routine ≤ whole_weight callers own →
              weight before procedure.routine ≤ whole_weight callers caller
          own_weight j caller at same here weighs =
              let a = as_many_callers in
              let b = whole in
              let c = alike_length (IsProcedureOf numbered) procedures routines alike in
              let less = slice_get_within callers j caller at in
              let mine = something numbers j (omega (arith, a, b, c, less)) in
              let given : mine.thing ≡ n = sym (ap (λ found. unwrap_or found 0) mine.is) ∙ same ∙ count in
              let one = placed by_rule.callers by_rule.order numbers by_rule.numbering by_rule.are j n (mine.is ∙ ap (λ x. Some x) given) in
              let other = placed by_rule.callers by_rule.order numbers by_rule.numbering by_rule.are k n is in
              let place : k ≡ j = some_one (sym other ∙ one) in
              subst (λ own. weight before procedure.routine ≤ whole_weight callers own) (some_one (sym here ∙ ap (slice_get callers) place ∙ at)) weighs

      weights_from : (n : ℕ) (list : List PlainProcedure) (before : List ℕ) → length before ≡ n → AreBounded before →
          AllByRecursion (λ w. w ≤ 4096) before → AllFrom Weighs n list →
          AllByRecursion (λ w. w ≤ 4096) (weights_behind before list) × AreBounded (weights_behind before list)
      weights_from n [] before count bounded low all = (low, bounded)
      weights_from n (procedure ∷ rest) before count bounded low all =
          let own = all.0 before count bounded in
          let last = weight before procedure.routine in
          weights_from (n + 1) rest (before ++ last ∷ []) (one_more before last n count) own.1 (all_last (λ w. w ≤ 4096) before last low own.0) all.1
        where
          one_more : (before : List ℕ) (last n : ℕ) → length before ≡ n → length (before ++ last ∷ []) ≡ n + 1
          one_more [] last n same = omega (arith, same)
          one_more (w ∷ before) last zero same = absurd (omega (arith, same))
          one_more (w ∷ before) last (suc n) same = let a = one_more before last n (omega (arith, same)) in omega (arith, a)

      all_weights : AllByRecursion (λ w. w ≤ 4096) (weights_of (resolve table devices numbers tree).procedures) ×
          AreBounded (weights_of (resolve table devices numbers tree).procedures)
      all_weights =
          weights_from 0 (resolve table devices numbers tree).procedures [] refl (λ j caller at. omega arith) tt
          (all_numbered numbers procedures whole below differ Weighs procedure_weighs)

      pub procedure_weights : AllByRecursion (λ w. w ≤ 4096) (weights_of (resolve table devices numbers tree).procedures)
      procedure_weights = all_weights.0

      -- the weights of tasks against those that the rule says
      abbrev TaskWeighsNoMore : PlainTask → Weighed → Type 0
      TaskWeighsNoMore task weighed =
          weight (weights_of (resolve table devices numbers tree).procedures) task.routine ≤ whole_weight callers weighed.caller

      tasks_weigh : (tasks : List PlainTask) (list : List Routine) → AllZip (IsTaskOf numbered) tasks list → AllByRecursion (IsKept tree) list →
          AllZip TaskWeighsNoMore tasks (map (weighed_of table names) list)
      tasks_weigh [] [] of all = tt
      tasks_weigh (task ∷ tasks) (routine ∷ list) of all = (
        routine_weight (weights_of (resolve table devices numbers tree).procedures) all_weights.1 task.routine routine of.0.own all.0,
        tasks_weigh tasks list of.1 all.1,
      )
      tasks_weigh [] (routine ∷ list) of all = absurd of
      tasks_weigh (task ∷ tasks) [] of all = absurd of

      pub tasks_weigh_no_more : AllZip (λ (task : PlainTask) (weighed : Weighed).
          weight (weights_of (resolve table devices numbers tree).procedures) task.routine ≤ whole_weight callers weighed.caller)
          (resolve table devices numbers tree).tasks (weighed_tasks table (routines_of tree))
      tasks_weigh_no_more =
          tasks_weigh (tasks_in numbered first tree.declarations) (filter is_task (routines_of tree)) (tasks_alike numbered first tree.declarations)
          (all_filtered (IsKept tree) is_task (routines_of tree) kept)

      pub procedures_weigh_no_more : (k number : ℕ) (weighed : Weighed) → slice_get numbers k ≡ Some number →
          slice_get (weighed_procedures table (routines_of tree)) k ≡ Some weighed →
          unwrap_or (slice_get (weights_of (resolve table devices numbers tree).procedures) number) 0 ≤ whole_weight callers weighed.caller
      procedures_weigh_no_more k number weighed is there =
          subst (λ n. unwrap_or (slice_get (weights_of (resolve table devices numbers tree).procedures) n) 0 ≤ whole_weight callers weighed.caller)
          (ap (λ found. unwrap_or found 0) is)
          (all_weights.1 k weighed.caller
          (slice_get-map (λ (weighed : Weighed). weighed.caller) (weighed_procedures table (routines_of tree)) k ∙
          ap (option_map (λ (weighed : Weighed). weighed.caller)) there))

      all_light : (tasks : List PlainTask) (list : List Weighed) → AllZip TaskWeighsNoMore tasks list →
          AllByRecursion (λ (weighed : Weighed). whole_weight callers weighed.caller ≤ 4096) list →
          AllByRecursion (λ (task : PlainTask). weight (weights_of (resolve table devices numbers tree).procedures) task.routine ≤ 4096) tasks
      all_light [] [] all low = tt
      all_light (task ∷ tasks) (weighed ∷ list) all low =
          let own = all.0 in let light = low.0 in (omega (arith, own, light), all_light tasks list all.1 low.1)
      all_light [] (weighed ∷ list) all low = absurd all
      all_light (task ∷ tasks) [] all low = absurd all

      pub task_weights : AllByRecursion (λ (task : PlainTask). weight (weights_of (resolve table devices numbers tree).procedures) task.routine ≤ 4096)
          (resolve table devices numbers tree).tasks
      task_weights =
          all_light (resolve table devices numbers tree).tasks (weighed_tasks table (routines_of tree)) tasks_weigh_no_more limits.task_weights
