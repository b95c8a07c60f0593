-- Where no rule on names and types is broken, the names of expressions and of what statements ask for are known.
use Rattle.std.specs.Prelude.{◌≡◌, ℕ, zero, suc, ◌+◌, false, if◌then◌else◌, List, [], ◌∷◌, ◌++◌, map, Option, Some, None, option_map, unwrap_or, slice_get, is_none}
use Rattle.std.specs.Option.{option_and_then}
use Rattle.std.specs.List.{AllByRecursion, flat_map}
use Rattle.std.proofs.Common.{refl, ap, ◌∙◌, true≢false}
use Rattle.std.proofs.lemmas.Option.{none-some}
use Rattle.pearl_value.specs.declared.kind.Kind.TheVariants as kind
use Rattle.pearl_tree.specs.declared.rule.TheConstants as rule
use Rattle.pearl_tree.specs.declared.name.Name.{Name}
use Rattle.pearl_tree.specs.Names.{name_text}
use Rattle.pearl_tree.specs.Durations.{place_of_duration}
use Rattle.pearl_tree.specs.ShownLiterals.{ShownLiteral, OfDuration}
use Rattle.pearl_tree.specs.ShownExpressions.{ShownExpr, OfOperand, OfDyadic, ShownPrimary, OfLiteral, OfRef, OfGroup, OfNow, OfTry, OfLimit, ShownSelectors, NoSelectors, MoreSelectors, ShownSelector, OfSubscripts, OfComponent, ShownExprs, NoExprs, MoreExprs, ShownRef}
use Rattle.pearl_tree.specs.ShownStatements as shown
use Rattle.pearl_tree.specs.ShownStatements.{ShownPeriodEnd, ShownPeriod, ShownStart, ShownOnce, ShownStmt}
use Rattle.pearl_tree.specs.ShownModules.{ShownTree}
use Rattle.pearl_names.specs.declared.meaning.Found.{Found}
use Rattle.pearl_names.specs.declared.scope.SortedName.{SortedName}
use Rattle.pearl_names.specs.declared.scope.View.{View}
use Rattle.pearl_names.specs.declared.scope.View.TheVariants.{Within, WhileOf}
use Rattle.pearl_names.specs.Durations.{is_too_long}
use Rattle.pearl_names.specs.Found.{names_in, found_from, sort_at, sort_from}
use Rattle.pearl_names.specs.Known.{Known, known_of}
use Rattle.pearl_names.specs.Scopes.{Entry, Scope, scopes_of}
use Rattle.pearl_names.specs.Sorts.{sorted_name, scope_names, sorted_names, names_of_scopes}
use Rattle.pearl_names.specs.Tables.{Sense, Table, senses_in, sense_of, sense_at, table_of}
use Rattle.pearl_scope.specs.Parts.{Used, literal_parts, expr_parts, primary_parts, selectors_parts, selector_parts, exprs_parts, ref_parts, parts_if, period_end_parts, period_parts, start_parts, once_parts, name_part, loop_parts, body_decl_parts}
use Rattle.pearl_scope.specs.Placed.{Placed, parts_at}
use Rattle.pearl_scope.specs.Rules.{faults_in, broken}
use Rattle.pearl_check_expr.specs.Literals.{literal_kind}
use Rattle.pearl_check_expr.specs.Subjects.{OfWhile}
use Rattle.pearl_check.specs.declared.asked.Role.{Role}
use Rattle.pearl_check.specs.declared.asked.Role.TheVariants.{Plain, Condition, Count, Lapse, Priority}
use Rattle.pearl_check.specs.declared.asked.NameRole.TheVariants as name_role
use Rattle.pearl_check.specs.Asked as asking
use Rattle.pearl_check.specs.Asked.{Asked, Subject, Named, as_exprs, asked_at, start_asked, period_asked, once_asked, period_end_asked}
use Rattle.pearl_sound.specs.KnownNames.{IsThereIn, IsComplete, IsNamed, HasNames, PrimaryHasNames, SelectorsHaveNames, SelectorHasNames, HaveNames}
use Rattle.pearl_sound.specs.KnownParts.{HasItsNames}
use Rattle.pearl_sound.proofs.ByNumber.{all_at}
use Rattle.pearl_sound.proofs.CompleteForms.{IsUnbroken, AreUnbroken, all_unbroken, first_kept}
use Rattle.pearl_sound.proofs.CompleteSenses.{senses_complete}
use Rattle.pearl_sound.proofs.SimpleStatements.{split_all}
use Rattle.pearl_sound.proofs.SoundForms.{all_append}

-- a scope has as many senses as names
other_mapped : {X Y Z : Type 0} (f : X → Y) (g : X → Z) (xs : List X) (j : ℕ) (y : Y) → slice_get (map f xs) j ≡ Some y →
    IsThereIn (slice_get (map g xs) j)
other_mapped f g [] j y is = absurd (none-some y is)
other_mapped f g (x ∷ xs) zero y is = (g x, refl)
other_mapped f g (x ∷ xs) (suc j) y is = other_mapped f g xs j y is

sense_there : (known : Known) (n : ℕ) (list : List Scope) (i j : ℕ) (entry : SortedName) →
    slice_get (names_in (slice_get (map scope_names list) i)) j ≡ Some entry →
    IsThereIn (option_and_then (λ senses. slice_get senses j) (slice_get (senses_in known n list) i))
unfolding sorted_names
sense_there known n [] i j entry is = absurd (none-some entry is)
sense_there known n (scope ∷ rest) zero j entry is =
    other_mapped sorted_name (λ (entry : Entry). sense_of known n entry.meaning) scope.entries j entry is
sense_there known n (scope ∷ rest) (suc i) j entry is = sense_there known (n + 1) rest i j entry is

found_sense : (tree : ShownTree) (found : Found) (entry : SortedName) → slice_get (names_in (slice_get (known_of tree).scopes found.scope)) found.entry ≡ Some entry →
    IsThereIn (sense_at (table_of tree).senses found)
unfolding names_of_scopes
found_sense tree found entry is = sense_there (known_of tree) 0 (scopes_of tree) found.scope found.entry entry is

among_senses : (senses : Option (List Sense)) (j : ℕ) (sense : Sense) → option_and_then (λ senses. slice_get senses j) senses ≡ Some sense →
    slice_get (unwrap_or senses []) j ≡ Some sense
among_senses None j sense is = absurd (none-some sense is)
among_senses (Some senses) j sense is = is

mapped_there : {X Y : Type 0} (f : X → Y) (x : Option X) → is_none (option_map f x) ≡ false → IsThereIn x
mapped_there f None there = absurd (true≢false there)
mapped_there f (Some x) there = (x, refl)

module _ (tree : ShownTree) (none : broken tree ≡ []) where
  abbrev known : Known
  known = known_of tree

  abbrev table : Table
  table = table_of tree

  pub name_known : (view : View) (name : Name) → IsUnbroken known (Used view name) → IsNamed table view name
  name_known view name kept =
      by (found_from known.scopes view (name_text name)) refl
      (first_kept (is_none (sort_from known.scopes view (name_text name))) name.place rule.S2 [] kept)
    where
      by : (found : Option Found) → found_from known.scopes view (name_text name) ≡ found → is_none (option_and_then (sort_at known.scopes) found) ≡ false →
          IsNamed table view name
      by None is there = absurd (true≢false there)
      by (Some found) is there =
          let entry = mapped_there (λ (entry : SortedName). entry.sort) (slice_get (names_in (slice_get known.scopes found.scope)) found.entry) there in
          let sense = found_sense tree found entry.0 entry.1 in (
            sense.0,
            ap (option_and_then (sense_at table.senses)) is ∙ sense.1,
            all_at IsComplete (unwrap_or (slice_get table.senses found.scope) []) found.entry sense.0 (senses_complete tree none found.scope)
                (among_senses (slice_get table.senses found.scope) found.entry sense.0 sense.1),
          )

  literal_known : (part : ShownLiteral) → AreUnbroken known (literal_parts part) → IsThereIn (literal_kind table.lengths part)
  literal_known (OfDuration duration) kept = (
    kind.Span,
    ap (λ test. if test then None else Some kind.Span) (first_kept (is_too_long duration) (place_of_duration duration) rule.S4 [] kept.0),
  )
  literal_known other kept = (_, refl)

  module _ (view : View) where
    mutual
      pub names_known : (e : ShownExpr) → AreUnbroken known (expr_parts view e) → HasNames table view e
      names_known (OfOperand monadics part place) kept = primary_named part kept
      names_known (OfDyadic left dyadic right place) kept =
          let split = split_all (IsUnbroken known) (expr_parts view left) (expr_parts view right) kept in
          (names_known left split.0, names_known right split.1)

      primary_named : (part : ShownPrimary) → AreUnbroken known (primary_parts view part) → PrimaryHasNames table view part
      primary_named (OfLiteral part) kept = literal_known part kept
      primary_named (OfRef name selectors place) kept = (name_known view name kept.0, selectors_named selectors kept.1)
      primary_named (OfGroup inner place) kept = names_known inner kept
      primary_named (OfNow place) kept = tt
      primary_named (OfTry name place) kept = name_known view name kept.0
      primary_named (OfLimit dimension side name selectors ref_place place) kept = (name_known view name kept.0, selectors_named selectors kept.1)

      pub selectors_named : (selectors : ShownSelectors) → AreUnbroken known (selectors_parts view selectors) → SelectorsHaveNames table view selectors
      selectors_named NoSelectors kept = tt
      selectors_named (MoreSelectors selector rest) kept =
          let split = split_all (IsUnbroken known) (selector_parts view selector) (selectors_parts view rest) kept in
          (selector_named selector split.0, selectors_named rest split.1)

      selector_named : (selector : ShownSelector) → AreUnbroken known (selector_parts view selector) → SelectorHasNames table view selector
      selector_named (OfSubscripts exprs place) kept = exprs_named exprs kept
      selector_named (OfComponent name place) kept = tt

      exprs_named : (exprs : ShownExprs) → AreUnbroken known (exprs_parts view exprs) → HaveNames table view exprs
      exprs_named NoExprs kept = tt
      exprs_named (MoreExprs e rest) kept =
          let split = split_all (IsUnbroken known) (expr_parts view e) (exprs_parts view rest) kept in
          (names_known e split.0, exprs_named rest split.1)

    arguments_named : (exprs : List ShownExpr) → AreUnbroken known (flat_map (expr_parts view) exprs) → HaveNames table view (as_exprs exprs)
    arguments_named [] kept = tt
    arguments_named (e ∷ rest) kept =
        let split = split_all (IsUnbroken known) (expr_parts view e) (flat_map (expr_parts view) rest) kept in
        (names_known e split.0, arguments_named rest split.1)

  -- what a statement asks for
  abbrev AreNamed : List Asked → Type 0
  AreNamed asked = AllByRecursion (HasItsNames table) asked

  module _ (scope : ℕ) where
    abbrev here : View
    here = Within scope

    if_value : (role : Role) (e : Option ShownExpr) → AreUnbroken known (parts_if (expr_parts here) e) → AreNamed (asking.value_if role scope e)
    if_value role None kept = tt
    if_value role (Some e) kept = (names_known here e kept, tt)

    if_end : (end : Option ShownPeriodEnd) → AreUnbroken known (parts_if (period_end_parts here) end) →
        AreNamed (asking.if_there (period_end_asked scope) end)
    if_end None kept = tt
    if_end (Some (shown.OfUntil time place)) kept = (names_known here time kept, tt)
    if_end (Some (shown.OfDuring duration place)) kept = (names_known here duration kept, tt)

    period_named : (period : ShownPeriod) → AreUnbroken known (period_parts here period) → AreNamed (period_asked scope period)
    period_named period kept =
        let split = split_all (IsUnbroken known) (expr_parts here period.duration) (parts_if (period_end_parts here) period.end) kept in
        (names_known here period.duration split.0, if_end period.end split.1)

    if_period : (period : Option ShownPeriod) → AreUnbroken known (parts_if (period_parts here) period) →
        AreNamed (asking.if_there (period_asked scope) period)
    if_period None kept = tt
    if_period (Some period) kept = period_named period kept

    if_start : (start : Option ShownStart) → AreUnbroken known (parts_if (start_parts here) start) →
        AreNamed (asking.if_there (start_asked scope) start)
    if_start None kept = tt
    if_start (Some (shown.OfAt time period place)) kept =
        let split = split_all (IsUnbroken known) (expr_parts here time) (parts_if (period_parts here) period) kept in
        (names_known here time split.0, if_period period split.1)
    if_start (Some (shown.OfAfter duration period place)) kept =
        let split = split_all (IsUnbroken known) (expr_parts here duration) (parts_if (period_parts here) period) kept in
        (names_known here duration split.0, if_period period split.1)
    if_start (Some (shown.OfWhen interrupt after period place)) kept =
        let split = split_all (IsUnbroken known) (parts_if (expr_parts here) after) (parts_if (period_parts here) period) kept.1 in (
          name_known here interrupt kept.0,
          all_append (HasItsNames table) (asking.value_if Lapse scope after) (asking.if_there (period_asked scope) period) (if_value Lapse after split.0)
              (if_period period split.1),
        )
    if_start (Some (shown.OfAll period)) kept = period_named period kept

    once_named : (once : ShownOnce) → AreUnbroken known (once_parts here once) → AreNamed (once_asked scope once)
    once_named (shown.OnceAt time place) kept = (names_known here time kept, tt)
    once_named (shown.OnceAfter duration place) kept = (names_known here duration kept, tt)
    once_named (shown.OnceWhen interrupt place) kept = (name_known here interrupt kept.0, tt)

    if_once : (once : Option ShownOnce) → AreUnbroken known (parts_if (once_parts here) once) → AreNamed (asking.if_there (once_asked scope) once)
    if_once None kept = tt
    if_once (Some once) kept = once_named once kept

    if_task : (task : Option Name) → AreUnbroken known (parts_if (name_part here) task) →
        AreNamed (asking.if_there (λ name. Named name_role.Task scope name ∷ []) task)
    if_task None kept = tt
    if_task (Some name) kept = (name_known here name kept.0, tt)

    semaphores_named : (names : List Name) → AreUnbroken known (map (Used here) names) → AreNamed (map (Named name_role.Semaphore scope) names)
    semaphores_named [] kept = tt
    semaphores_named (name ∷ names) kept = (name_known here name kept.0, semaphores_named names kept.1)

    target_named : (target : ShownRef) → AreUnbroken known (ref_parts here target) → HasItsNames table (asking.target scope target)
    target_named target kept = (name_known here target.name kept.0, selectors_named here target.selectors kept.1)

    values_named : (values : List ShownExpr) → AreUnbroken known (flat_map (expr_parts here) values) → AreNamed (map (asking.value Plain scope) values)
    values_named [] kept = tt
    values_named (e ∷ rest) kept =
        let split = split_all (IsUnbroken known) (expr_parts here e) (flat_map (expr_parts here) rest) kept in
        (names_known here e split.0, values_named rest split.1)

    targets_named : (targets : List ShownRef) → AreUnbroken known (flat_map (ref_parts here) targets) → AreNamed (map (asking.target scope) targets)
    targets_named [] kept = tt
    targets_named (target ∷ rest) kept =
        let split = split_all (IsUnbroken known) (ref_parts here target) (flat_map (ref_parts here) rest) kept in
        (target_named target split.0, targets_named rest split.1)

    dation_named : (dation : Name) → AreUnbroken known (Used here dation ∷ []) → AreNamed (Named name_role.Dation scope dation ∷ [])
    dation_named dation kept = (name_known here dation kept.0, tt)

    while_named : (next : ℕ) (condition : Option ShownExpr) → AreUnbroken known (parts_if (expr_parts (WhileOf next)) condition) →
        AreNamed (asking.if_there (λ expr. Subject Condition next (OfWhile expr) ∷ []) condition)
    while_named next None kept = tt
    while_named next (Some e) kept = (names_known (WhileOf next) e kept, tt)

    loop_named : (next : ℕ) (begin step end condition : Option ShownExpr) → AreUnbroken known (loop_parts scope next begin step end condition) →
        AreNamed (asking.loop_asked scope next begin step end condition)
    loop_named next begin step end condition kept =
        let last = parts_if (expr_parts (WhileOf next)) condition in
        let one = split_all (IsUnbroken known) (parts_if (expr_parts here) begin) (parts_if (expr_parts here) step ++ (parts_if (expr_parts here) end ++ last)) kept in
        let two = split_all (IsUnbroken known) (parts_if (expr_parts here) step) (parts_if (expr_parts here) end ++ last) one.1 in
        let three = split_all (IsUnbroken known) (parts_if (expr_parts here) end) last two.1 in
        let whiles = asking.if_there (λ expr. Subject Condition next (OfWhile expr) ∷ []) condition in
        all_append (HasItsNames table) (asking.value_if Count scope begin)
        (asking.value_if Count scope step ++ (asking.value_if Count scope end ++ whiles)) (if_value Count begin one.0)
        (all_append (HasItsNames table) (asking.value_if Count scope step) (asking.value_if Count scope end ++ whiles) (if_value Count step two.0)
        (all_append (HasItsNames table) (asking.value_if Count scope end) whiles (if_value Count end three.0) (while_named next condition three.1)))

  pub asked_named : (types : ℕ) (place : Placed) → AreUnbroken known (parts_at types place) → AreNamed (asked_at place)
  asked_named types place kept = of place.statement kept
    where
      of : (s : ShownStmt) → AreUnbroken known (parts_at types (record { spot = place.spot; next = place.next; statement = s })) →
          AreNamed (asking.stmt_asked place.spot.scope place.next s)
      of (shown.OfEmpty at) kept = tt
      of (shown.OfAssign target e at) kept =
          let scope = place.spot.scope in
          let split = split_all (IsUnbroken known) (ref_parts (Within scope) target) (expr_parts (Within scope) e) kept in
          (target_named scope target split.0, (names_known (Within scope) e split.1, tt))
      of (shown.OfCall call name arguments at) kept =
          ((name_known (Within place.spot.scope) name kept.0, arguments_named (Within place.spot.scope) arguments kept.1), tt)
      of (shown.OfIf condition statements rest at) kept = (names_known (Within place.spot.scope) condition kept, tt)
      of (shown.OfCase selector alternatives rest at) kept = (names_known (Within place.spot.scope) selector kept, tt)
      of (shown.OfRepeat control begin step end condition declarations statements body_place at) kept =
          let split = split_all (IsUnbroken known) (loop_parts place.spot.scope place.next begin step end condition)
          (flat_map (body_decl_parts place.next types) declarations) kept in
          loop_named place.spot.scope place.next begin step end condition split.0
      of (shown.OfBegin declarations statements body_place at) kept = tt
      of (shown.OfExit at) kept = tt
      of (shown.OfReturn e at) kept = if_value place.spot.scope Plain e kept
      of (shown.OfActivate start task priority at) kept =
          let scope = place.spot.scope in
          let split = split_all (IsUnbroken known) (parts_if (start_parts (Within scope)) start)
          (Used (Within scope) task ∷ parts_if (expr_parts (Within scope)) priority) kept in
          all_append (HasItsNames table) (asking.if_there (start_asked scope) start) (Named name_role.Task scope task ∷ asking.value_if Priority scope priority)
          (if_start scope start split.0) (name_known (Within scope) task split.1.0, if_value scope Priority priority split.1.1)
      of (shown.OfContinue once task at) kept =
          let scope = place.spot.scope in
          let split = split_all (IsUnbroken known) (parts_if (once_parts (Within scope)) once) (Used (Within scope) task ∷ []) kept in
          all_append (HasItsNames table) (asking.if_there (once_asked scope) once) (Named name_role.Task scope task ∷ [])
          (if_once scope once split.0) (name_known (Within scope) task split.1.0, tt)
      of (shown.OfResume once at) kept = once_named place.spot.scope once kept
      of (shown.OfOnTask word task at) kept = if_task place.spot.scope task kept
      of (shown.OfOnSemas word names at) kept = semaphores_named place.spot.scope names kept
      of (shown.OfOnInterrupt word name at) kept = (name_known (Within place.spot.scope) name kept.0, tt)
      of (shown.OfPut values dation formats at) kept =
          let scope = place.spot.scope in
          let split = split_all (IsUnbroken known) (flat_map (expr_parts (Within scope)) values) (Used (Within scope) dation ∷ []) kept in
          all_append (HasItsNames table) (map (asking.value Plain scope) values) (Named name_role.Dation scope dation ∷ [])
          (values_named scope values split.0) (dation_named scope dation split.1)
      of (shown.OfGet targets dation formats at) kept =
          let scope = place.spot.scope in
          let split = split_all (IsUnbroken known) (flat_map (ref_parts (Within scope)) targets) (Used (Within scope) dation ∷ []) kept in
          all_append (HasItsNames table) (map (asking.target scope) targets) (Named name_role.Dation scope dation ∷ [])
          (targets_named scope targets split.0) (dation_named scope dation split.1)
      of (shown.OfSend e dation at) kept =
          let scope = place.spot.scope in
          let split = split_all (IsUnbroken known) (expr_parts (Within scope) e) (Used (Within scope) dation ∷ []) kept in
          (names_known (Within scope) e split.0, dation_named scope dation split.1)
      of (shown.OfTake target dation at) kept =
          let scope = place.spot.scope in
          let split = split_all (IsUnbroken known) (ref_parts (Within scope) target) (Used (Within scope) dation ∷ []) kept in
          (target_named scope target split.0, dation_named scope dation split.1)

pub all_names_known : (tree : ShownTree) → broken tree ≡ [] →
    ((view : View) (e : ShownExpr) → faults_in (known_of tree) (expr_parts view e) ≡ [] → HasNames (table_of tree) view e) ×
    ((types : ℕ) (place : Placed) → faults_in (known_of tree) (parts_at types place) ≡ [] → AllByRecursion (HasItsNames (table_of tree)) (asked_at place))
all_names_known tree none = (
  λ view e kept. names_known tree none view e (all_unbroken (known_of tree) (expr_parts view e) kept),
  λ types place kept. asked_named tree none types place (all_unbroken (known_of tree) (parts_at types place) kept),
)
