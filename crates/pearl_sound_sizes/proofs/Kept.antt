-- In a module that breaks no rule: no rule is broken in any routine, each call statement names a procedure, no procedure calls
-- itself, and sizes and weights are within their limits.
use Rattle.std.specs.Prelude.{◌≡◌, ℕ, zero, suc, ◌+◌, true, false, List, [], ◌∷◌, ◌++◌, map, Option, Some, None, option_map, is_none, slice_get}
use Rattle.std.specs.Option.{option_and_then}
use Rattle.std.specs.List.{AllByRecursion, flat_map}
use Rattle.std.proofs.Common.{refl, ap, ◌∙◌, subst, true≢false}
use Rattle.std.proofs.lemmas.Option.{none-some}
use Rattle.pearl_tree.specs.declared.fault.RuleFault.{RuleFault}
use Rattle.pearl_tree.specs.declared.name.Name.{Name}
use Rattle.pearl_tree.specs.declared.rule.TheConstants as rule
use Rattle.pearl_tree.specs.Faults.{fault_if}
use Rattle.pearl_tree.specs.Names.{name_text}
use Rattle.pearl_tree.specs.ShownExpressions.{ShownExpr, ShownExprs, ShownRef}
use Rattle.pearl_tree.specs.ShownStatements as shown
use Rattle.pearl_tree.specs.ShownStatements.{ShownPeriod, ShownStart, ShownOnce, ShownStmt}
use Rattle.pearl_tree.specs.ShownModules.{ShownTree}
use Rattle.pearl_names.specs.declared.meaning.Found.{Found}
use Rattle.pearl_names.specs.declared.scope.SortedName.{SortedName}
use Rattle.pearl_names.specs.declared.scope.View.{View}
use Rattle.pearl_names.specs.declared.scope.View.TheVariants.{Within}
use Rattle.pearl_names.specs.Found.{names_in, found_from, sort_at, sort_from}
use Rattle.pearl_names.specs.Known.{Known, known_of}
use Rattle.pearl_names.specs.Scopes.{Entry, Scope, scopes_of}
use Rattle.pearl_names.specs.Sorts.{sorted_name, sorted_names, scope_names, names_of_scopes}
use Rattle.pearl_names.specs.Tables.{Sense, Semaphore, Task, Procedure, Table, sense_of, senses_in, sense_at, sense_from, table_of}
use Rattle.pearl_scope.specs.Parts.{Used, parts_of}
use Rattle.pearl_scope.specs.Placed.{Placed, parts_at}
use Rattle.pearl_scope.specs.Rules.{s1, part_faults, faults_in}
use Rattle.pearl_scope.specs.Rules as names
use Rattle.pearl_system.specs.Rules as devices
use Rattle.pearl_check_expr.specs.Judged.{judged_all}
use Rattle.pearl_check_expr.specs.Senses.{callee_of}
use Rattle.pearl_check_expr.specs.Standings.{faults_of}
use Rattle.pearl_check_expr.specs.Subjects.{OfWhile, OfCallStatement, called_or_not}
use Rattle.pearl_check.specs.declared.asked.Role.{Role}
use Rattle.pearl_check.specs.declared.asked.Role.TheVariants.{Plain, Condition, Count, Lapse, Priority}
use Rattle.pearl_check.specs.declared.asked.NameRole.{NameRole}
use Rattle.pearl_check.specs.declared.asked.NameRole.TheVariants as name_role
use Rattle.pearl_check.specs.Asked as asking
use Rattle.pearl_check.specs.Asked.{Asked, Subject, Named, value, value_if, target, as_exprs, asked_at, stmt_asked, start_asked, period_asked, once_asked, period_end_asked}
use Rattle.pearl_check.specs.Roles.{asked_faults, role_faults}
use Rattle.pearl_check.specs.Roles as roles
use Rattle.pearl_check.specs.Routines.{Routine, routines_of, statements_of}
use Rattle.pearl_check.specs.Rules.{s30, own_faults, statement_faults, routine_faults, statements_broken, whole_broken, all_broken}
use Rattle.pearl_check.specs.Views.{seen, is_procedure_sense}
use Rattle.pearl_sound.proofs.Offered.{IsUnbroken, AreUnbroken, all_unbroken, decls_hold}
use Rattle.pearl_sound_sizes.proofs.Basics.{all_append, left_none, right_none, not_broken}

-- what is asked for, where a call statement names a procedure
abbrev pub CallsProcedure : Table → Asked → Type 0
CallsProcedure table (Subject role scope (OfCallStatement name arguments)) = is_procedure_sense (seen table (Within scope) name) ≡ true
CallsProcedure table asked = Unit {0}

abbrev pub CallKept : Table → ℕ → ShownStmt → Type 0
CallKept table scope (shown.OfCall call name arguments place) = is_procedure_sense (seen table (Within scope) name) ≡ true
CallKept table scope statement = Unit {0}

abbrev pub AllCall : Table → List Asked → Type 0
AllCall table asked = AllByRecursion (CallsProcedure table) asked

module _ (table : Table) where
  value_if_calls : (role : Role) (scope : ℕ) (e : Option ShownExpr) → AllCall table (value_if role scope e)
  value_if_calls role scope None = tt
  value_if_calls role scope (Some e) = (tt, tt)

  while_calls : (next : ℕ) (e : Option ShownExpr) → AllCall table (asking.if_there (λ expr. Subject Condition next (OfWhile expr) ∷ []) e)
  while_calls next None = tt
  while_calls next (Some e) = (tt, tt)

  period_calls : (scope : ℕ) (period : ShownPeriod) → AllCall table (period_asked scope period)
  period_calls scope period = (tt, by period.end)
    where
      by : (end : Option shown.ShownPeriodEnd) → AllCall table (asking.if_there (period_end_asked scope) end)
      by None = tt
      by (Some (shown.OfUntil time place)) = (tt, tt)
      by (Some (shown.OfDuring duration place)) = (tt, tt)

  period_if_calls : (scope : ℕ) (period : Option ShownPeriod) → AllCall table (asking.if_there (period_asked scope) period)
  period_if_calls scope None = tt
  period_if_calls scope (Some period) = period_calls scope period

  start_calls : (scope : ℕ) (start : Option ShownStart) → AllCall table (asking.if_there (start_asked scope) start)
  start_calls scope None = tt
  start_calls scope (Some (shown.OfAt time period place)) = (tt, period_if_calls scope period)
  start_calls scope (Some (shown.OfAfter duration period place)) = (tt, period_if_calls scope period)
  start_calls scope (Some (shown.OfWhen interrupt delay period place)) = (
    tt,
    all_append (CallsProcedure table) (value_if Lapse scope delay) (asking.if_there (period_asked scope) period)
        (value_if_calls Lapse scope delay) (period_if_calls scope period),
  )
  start_calls scope (Some (shown.OfAll period)) = period_calls scope period

  once_calls : (scope : ℕ) (once : ShownOnce) → AllCall table (once_asked scope once)
  once_calls scope (shown.OnceAt time place) = (tt, tt)
  once_calls scope other = (tt, tt)

  once_if_calls : (scope : ℕ) (once : Option ShownOnce) → AllCall table (asking.if_there (once_asked scope) once)
  once_if_calls scope None = tt
  once_if_calls scope (Some once) = once_calls scope once

  names_call : (role : NameRole) (scope : ℕ) (list : List Name) → AllCall table (map (Named role scope) list)
  names_call role scope [] = tt
  names_call role scope (name ∷ rest) = (tt, names_call role scope rest)

  task_calls : (scope : ℕ) (task : Option Name) → AllCall table (asking.if_there (λ name. Named name_role.Task scope name ∷ []) task)
  task_calls scope None = tt
  task_calls scope (Some name) = (tt, tt)

  values_call : (scope : ℕ) (values : List ShownExpr) (rest : List Asked) → AllCall table rest → AllCall table (map (value Plain scope) values ++ rest)
  values_call scope [] rest all = all
  values_call scope (e ∷ values) rest all = (tt, values_call scope values rest all)

  targets_call : (scope : ℕ) (targets : List ShownRef) (rest : List Asked) → AllCall table rest → AllCall table (map (target scope) targets ++ rest)
  targets_call scope [] rest all = all
  targets_call scope (reference ∷ targets) rest all = (tt, targets_call scope targets rest all)

  stmt_calls : (scope next : ℕ) (s : ShownStmt) → CallKept table scope s → AllCall table (stmt_asked scope next s)
  stmt_calls scope next (shown.OfAssign reference e place) kept = (tt, (tt, tt))
  stmt_calls scope next (shown.OfCall call name arguments place) kept = (kept, tt)
  stmt_calls scope next (shown.OfIf condition statements rest place) kept = (tt, tt)
  stmt_calls scope next (shown.OfCase selector alternatives rest place) kept = (tt, tt)
  stmt_calls scope next (shown.OfRepeat control begin step end condition declarations statements body_place place) kept =
      let inner = asking.if_there (λ expr. Subject Condition next (OfWhile expr) ∷ []) condition in
      all_append (CallsProcedure table) (value_if Count scope begin) (value_if Count scope step ++ (value_if Count scope end ++ inner))
      (value_if_calls Count scope begin)
      (all_append (CallsProcedure table) (value_if Count scope step) (value_if Count scope end ++ inner) (value_if_calls Count scope step)
      (all_append (CallsProcedure table) (value_if Count scope end) inner (value_if_calls Count scope end) (while_calls next condition)))
  stmt_calls scope next (shown.OfReturn e place) kept = value_if_calls Plain scope e
  stmt_calls scope next (shown.OfActivate start task priority place) kept =
      all_append (CallsProcedure table) (asking.if_there (start_asked scope) start) (Named name_role.Task scope task ∷ value_if Priority scope priority)
      (start_calls scope start) (tt, value_if_calls Priority scope priority)
  stmt_calls scope next (shown.OfContinue once task place) kept =
      all_append (CallsProcedure table) (asking.if_there (once_asked scope) once) (Named name_role.Task scope task ∷ []) (once_if_calls scope once) (tt, tt)
  stmt_calls scope next (shown.OfResume once place) kept = once_calls scope once
  stmt_calls scope next (shown.OfOnTask word task place) kept = task_calls scope task
  stmt_calls scope next (shown.OfOnSemas word list place) kept = names_call name_role.Semaphore scope list
  stmt_calls scope next (shown.OfOnInterrupt word name place) kept = (tt, tt)
  stmt_calls scope next (shown.OfPut values dation formats place) kept = values_call scope values (Named name_role.Dation scope dation ∷ []) (tt, tt)
  stmt_calls scope next (shown.OfGet targets dation formats place) kept = targets_call scope targets (Named name_role.Dation scope dation ∷ []) (tt, tt)
  stmt_calls scope next (shown.OfSend e dation place) kept = (tt, (tt, tt))
  stmt_calls scope next (shown.OfTake reference dation place) kept = (tt, (tt, tt))
  stmt_calls scope next statement kept = tt

-- a name that is declared has a sense
abbrev IsThere : {X : Type 0} → Option X → Type 0
IsThere {X} found = (x : X) × (found ≡ Some x)

other_mapped : {X Y Z : Type 0} (f : X → Y) (g : X → Z) (xs : List X) (j : ℕ) (y : Y) → slice_get (map f xs) j ≡ Some y →
    IsThere (slice_get (map g xs) j)
other_mapped f g [] j y is = absurd (none-some y is)
other_mapped f g (x ∷ xs) zero y is = (g x, refl)
other_mapped f g (x ∷ xs) (suc j) y is = other_mapped f g xs j y is

sense_there : (known : Known) (n : ℕ) (list : List Scope) (i j : ℕ) (entry : SortedName) →
    slice_get (names_in (slice_get (map scope_names list) i)) j ≡ Some entry →
    IsThere (option_and_then (λ senses. slice_get senses j) (slice_get (senses_in known n list) i))
unfolding sorted_names
sense_there known n [] i j entry is = absurd (none-some entry is)
sense_there known n (scope ∷ rest) zero j entry is =
    other_mapped sorted_name (λ (entry : Entry). sense_of known n entry.meaning) scope.entries j entry is
sense_there known n (scope ∷ rest) (suc i) j entry is = sense_there known (n + 1) rest i j entry is

found_sense : (tree : ShownTree) (found : Found) (entry : SortedName) → slice_get (names_in (slice_get (known_of tree).scopes found.scope)) found.entry ≡ Some entry →
    IsThere (sense_at (table_of tree).senses found)
unfolding names_of_scopes
found_sense tree found entry is = sense_there (known_of tree) 0 (scopes_of tree) found.scope found.entry entry is

mapped_there : {X Y : Type 0} (f : X → Y) (x : Option X) → is_none (option_map f x) ≡ false → IsThere x
mapped_there f None there = absurd (true≢false there)
mapped_there f (Some x) there = (x, refl)

name_there : (tree : ShownTree) (view : View) (name : Name) → IsUnbroken (known_of tree) (Used view name) → IsThere (sense_from (table_of tree) view (name_text name))
name_there tree view name kept =
    by (found_from (known_of tree).scopes view (name_text name))
    (not_broken (is_none (sort_from (known_of tree).scopes view (name_text name))) name.place rule.S2
    (left_none (fault_if (is_none (sort_from (known_of tree).scopes view (name_text name))) name.place rule.S2) [] kept))
  where
    by : (found : Option Found) → is_none (option_and_then (sort_at (known_of tree).scopes) found) ≡ false →
        IsThere (option_and_then (sense_at (table_of tree).senses) found)
    by None there = absurd (true≢false there)
    by (Some found) there =
        let entry = mapped_there (λ (entry : SortedName). entry.sort) (slice_get (names_in (slice_get (known_of tree).scopes found.scope)) found.entry) there in
        found_sense tree found entry.0 entry.1

-- S16 isn't broken at a name that is called
not_uncalled : (parts : List RuleFault) (place : ℕ) → parts ++ fault_if true place rule.S16 ≡ [] → ⊥
not_uncalled parts place none = true≢false (not_broken true place rule.S16 (right_none parts (fault_if true place rule.S16) none))

call_sense : (table : Table) (view : View) (name : Name) (exprs : ShownExprs) (sense : Sense) →
    (called_or_not table view name exprs (Some sense) (callee_of (Some sense))).faults ≡ [] → is_procedure_sense (Some sense) ≡ true
call_sense table view name exprs (Procedure parameters result) none = refl
call_sense table view name exprs sense none = absurd (not_uncalled (faults_of (judged_all table view exprs)) name.place none)

module _ (tree : ShownTree) where
  abbrev table : Table
  table = table_of tree

  abbrev known : Known
  known = known_of tree

  call_kept : (types : ℕ) (place : Placed) → AreUnbroken known (parts_at types place) → flat_map (asked_faults table) (asked_at place) ≡ [] →
      CallKept table place.spot.scope place.statement
  call_kept types place kept none = of place.statement kept none
    where
      placed_as : ShownStmt → Placed
      placed_as s = record { spot = place.spot; next = place.next; statement = s }

      of : (s : ShownStmt) → AreUnbroken known (parts_at types (record { spot = place.spot; next = place.next; statement = s })) →
          flat_map (asked_faults table) (stmt_asked place.spot.scope place.next s) ≡ [] → CallKept table place.spot.scope s
      of (shown.OfCall call name arguments at) kept none =
          let view = Within place.spot.scope in
          let sense = name_there tree view name kept.0 in
          let asked = Subject Plain place.spot.scope (OfCallStatement name (as_exprs arguments)) in
          let own = left_none (roles.part_faults table asked) (role_faults table asked) (left_none (asked_faults table asked) [] none) in
          let judged = subst (λ sense. (called_or_not table view name (as_exprs arguments) sense (callee_of sense)).faults ≡ []) sense.1 own in
          ap is_procedure_sense sense.1 ∙ call_sense table view name (as_exprs arguments) sense.0 judged
      of statement kept none = tt

  -- each statement whose parts are unbroken
  abbrev HasCalls : Placed → Type 0
  HasCalls place = AllCall table (asked_at place)

  abbrev IsNamed : Placed → Type 0
  IsNamed place = flat_map (asked_faults table) (asked_at place) ≡ [] → HasCalls place

  place_named : (types : ℕ) (place : Placed) → AreUnbroken known (parts_at types place) → IsNamed place
  place_named types place kept none =
      stmt_calls table place.spot.scope place.next place.statement (call_kept types place kept none)

  abbrev RoutineIsNamed : Routine → Type 0
  RoutineIsNamed routine = AllByRecursion IsNamed (statements_of routine)

  -- a routine in which no rule is broken
  pub record IsKept (routine : Routine) : Type 0 where
    pub head : s30 routine.sort ≡ []
    pub calls : AllByRecursion HasCalls (statements_of routine)

  places_kept : (places : List Placed) (routine : Routine) → AllByRecursion IsNamed places → flat_map (statement_faults table routine.sort) places ≡ [] →
      AllByRecursion HasCalls places
  places_kept [] routine named none = tt
  places_kept (place ∷ rest) routine named none =
      let asked = flat_map (asked_faults table) (asked_at place) in
      let own = own_faults table routine.sort place in (
        named.0 (left_none asked own (left_none (asked ++ own) (flat_map (statement_faults table routine.sort) rest) none)),
        places_kept rest routine named.1 (right_none (asked ++ own) (flat_map (statement_faults table routine.sort) rest) none),
      )

  routines_kept : (routines : List Routine) → AllByRecursion RoutineIsNamed routines → flat_map (routine_faults table) routines ≡ [] →
      AllByRecursion IsKept routines
  routines_kept [] named none = tt
  routines_kept (routine ∷ rest) named none =
      let own = left_none (routine_faults table routine) (flat_map (routine_faults table) rest) none in
      let head = s30 routine.sort in
      let statements = flat_map (statement_faults table routine.sort) (statements_of routine) in (
        record { head = left_none head statements own; calls = places_kept (statements_of routine) routine named.0 (right_none head statements own) },
        routines_kept rest named.1 (right_none (routine_faults table routine) (flat_map (routine_faults table) rest) none),
      )

  -- where no rule is broken
  module _ (none : all_broken tree ≡ []) where
    abbrev others : List RuleFault
    others = devices.broken tree ++ (statements_broken table tree ++ whole_broken tree)

    pub no_name_broken : names.broken tree ≡ []
    no_name_broken = left_none (names.broken tree) others none

    pub no_device_broken : devices.broken tree ≡ []
    no_device_broken =
        left_none (devices.broken tree) (statements_broken table tree ++ whole_broken tree) (right_none (names.broken tree) others none)

    behind : statements_broken table tree ++ whole_broken tree ≡ []
    behind = right_none (devices.broken tree) (statements_broken table tree ++ whole_broken tree) (right_none (names.broken tree) others none)

    pub no_whole_broken : whole_broken tree ≡ []
    no_whole_broken = right_none (statements_broken table tree) (whole_broken tree) behind

    pub all_kept : AllByRecursion IsKept (routines_of tree)
    all_kept =
        let parts = all_unbroken known (parts_of tree)
        (right_none (flat_map s1 known.scopes) (faults_in known (parts_of tree)) no_name_broken) in
        routines_kept (routines_of tree) (decls_hold known IsNamed place_named 0 1 tree.declarations parts)
        (left_none (statements_broken table tree) (whole_broken tree) behind)
