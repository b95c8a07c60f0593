-- A statement that has all that it needs, with all statements within it, becomes a sound one.
use Rattle.std.specs.Prelude.{◌≡◌, ℕ, Bool, true, false, if◌then◌else◌, [], ◌∷◌, ◌++◌, Option, Some, None, option_map}
use Rattle.std.specs.List.{flat_map}
use Rattle.std.proofs.Common.{refl, ap, sym, subst, true≢false}
use Rattle.std.proofs.lemmas.Bool.{eqb-true}
use Rattle.pearl_value.specs.declared.kind.Kind.{Kind}
use Rattle.pearl_value.specs.declared.kind.Kind.TheVariants.{Fixed, Bits}
use Rattle.pearl_tree.specs.ShownExpressions.{ShownExpr}
use Rattle.pearl_tree.specs.ShownStatements as shown
use Rattle.pearl_tree.specs.ShownStatements.{ShownStmt, ShownStmts, ShownBranches, ShownOtherwise}
use Rattle.pearl_names.specs.declared.scope.View.TheVariants.{Within, WhileOf}
use Rattle.pearl_scope.specs.declared.places.Spot.{Spot}
use Rattle.pearl_scope.specs.Placed.{Placed}
use Rattle.pearl_check_expr.specs.Judged.{expr_place}
use Rattle.pearl_check_expr.specs.Subjects.{OfValue, OfWhile}
use Rattle.pearl_check.specs.declared.asked.Role.TheVariants.{Condition, Count}
use Rattle.pearl_check.specs.Asked as asking
use Rattle.pearl_check.specs.Asked.{Subject, asked_at}
use Rattle.pearl_check.specs.Roles.{is_for_role, s23_in, s29_in, asked_faults, part_faults, role_faults}
use Rattle.pearl_check.specs.Routines.{RoutineSort}
use Rattle.pearl_check.specs.Rules.{own_faults}
use Rattle.pearl_program.specs.PlainExpressions.{PlainExpr}
use Rattle.pearl_program.specs.PlainStatements.{PlainStmts, NoStmts, MoreStmts}
use Rattle.pearl_program.specs.Typing.{Around, HasKind, IsFixed}
use Rattle.pearl_program.specs.SoundStatements.{IsIf, IsCounter, IsCondition, within, AreStmts, AreBranches}
use Rattle.pearl_resolve.specs.Numbers.{At, counts, loop_cells, entered, after, after_all, after_branches}
use Rattle.pearl_resolve.specs.Expressions.{Numbered, resolve_expr}
use Rattle.pearl_resolve.specs.Statements.{value_in, counter_in, declared_renewals, joined, resolve_stmt, resolve_all, resolve_branches, resolve_otherwise}
use Rattle.pearl_sound.specs.KnownParts.{IsSimple}
use Rattle.pearl_sound.specs.Ready.{IsReady, HasCounter, placed, Stands, AllStand, BranchesStand, OtherwiseStands}
use Rattle.pearl_sound.specs.SoundNames.{LeadValues, LeadNames}
use Rattle.pearl_sound.proofs.SemaphoreLists.{semaphore_statement_sound}
use Rattle.pearl_sound.proofs.SimpleStatements.{left_none, right_none, split_all, IsKept, AreKept, all_kept, fits_role, value_sound, statement_sound}
use Rattle.pearl_sound.proofs.SoundExpressions.{expr_sound}
use Rattle.pearl_sound.proofs.TextTransfers.{put_sound, get_sound}

condition_kind : (kind : Kind) → is_for_role Condition kind ≡ true → kind ≡ Bits 1
condition_kind (Bits len) is = ap Bits (eqb-true len 1 is)
condition_kind kind is = absurd (true≢false (sym is))

count_kind : (kind : Kind) → is_for_role Count kind ≡ true → (len : ℕ) × (kind ≡ Fixed len)
count_kind (Fixed len) is = (len, refl)
count_kind kind is = absurd (true≢false (sym is))

pub joined_sound : (around : Around) (one two : PlainStmts) → AreStmts around one → AreStmts around two → AreStmts around (joined one two)
joined_sound around NoStmts two first second = second
joined_sound around (MoreStmts s rest) two first second = (first.0, joined_sound around rest two first.1 second)

counter_sound : (around : Around) (cell : ℕ) (begin step last : Option PlainExpr) (counting : Bool) → HasCounter around cell counting →
    IsIf (IsFixed around) begin → IsIf (IsFixed around) step → IsIf (IsFixed around) last →
    IsIf (IsCounter around) (if counting then Some (record { cell = cell; begin = begin; step = step; end = last }) else None)
counter_sound around cell begin step last true cells one two three = record { cells = cells; begin = one; step = two; end = three }
counter_sound around cell begin step last false cells one two three = tt

-- what a statement asks for is kept
ready_kept : {numbered : Numbered} {sort : RoutineSort} {around : Around} (place : Placed) → IsReady numbered sort around place →
    AreKept numbered.table (asked_at place)
ready_kept {numbered = numbered} {sort = sort} place ready =
    all_kept numbered.table (asked_at place) ready.known
    (left_none (flat_map (asked_faults numbered.table) (asked_at place)) (own_faults numbered.table sort place) ready.none)

module _ (numbered : Numbered) (scope : ℕ) (around : Around) (lead : LeadNames numbered (Within scope) around) where
  condition_sound : (e : ShownExpr) → IsKept numbered.table (Subject Condition scope (OfValue e)) → IsCondition around (value_in numbered scope e)
  condition_sound e kept =
      let value = value_sound numbered scope around lead Condition e kept in
      subst (λ kind. HasKind around (value_in numbered scope e) kind) (condition_kind value.kind value.fits) value.has

  count_sound : (e : ShownExpr) → IsKept numbered.table (Subject Count scope (OfValue e)) → IsFixed around (value_in numbered scope e)
  count_sound e kept =
      let value = value_sound numbered scope around lead Count e kept in
      let fixed = count_kind value.kind value.fits in
      (fixed.0, subst (λ kind. HasKind around (value_in numbered scope e) kind) fixed.1 value.has)

  if_count : (e : Option ShownExpr) → AreKept numbered.table (asking.value_if Count scope e) →
      IsIf (IsFixed around) (option_map (value_in numbered scope) e)
  if_count None kept = tt
  if_count (Some e) kept = count_sound e kept.0

-- WHILE sees the names of its loop's body
while_sound : (numbered : Numbered) (next : ℕ) (inner : Around) → LeadValues numbered (WhileOf next) inner → (condition : Option ShownExpr) →
    AreKept numbered.table (asking.if_there (λ expr. Subject Condition next (OfWhile expr) ∷ []) condition) →
    IsIf (IsCondition inner) (option_map (resolve_expr numbered (WhileOf next)) condition)
while_sound numbered next inner lead None kept = tt
while_sound numbered next inner lead (Some e) kept =
    let table = numbered.table in
    let first = kept.0 in
    let known = first.known.0 in
    let faults = right_none (part_faults table (Subject Condition next (OfWhile e))) (role_faults table (Subject Condition next (OfWhile e))) first.none in
    let fits = fits_role Condition known.0 (expr_place e) []
    (subst (λ kind. s23_in Condition kind (expr_place e) ++ ([] ++ s29_in Condition kind (expr_place e)) ≡ []) known.1 faults) in
    subst (λ kind. HasKind inner (resolve_expr numbered (WhileOf next) e) kind) (condition_kind known.0 fits)
    (expr_sound numbered (WhileOf next) inner lead e first.known.1 known.0 known.1)

module _ (numbered : Numbered) (sort : RoutineSort) where
  simple : (around : Around) (spot : Spot) (at : At) (s : ShownStmt) → IsSimple s → IsReady numbered sort around (placed spot at s) →
      AreStmts around (resolve_stmt numbered spot.scope at s)
  simple around spot at s is ready =
      statement_sound numbered sort (placed spot at s) at around ready.lead refl is ready.returns ready.in_loop ready.known ready.none

  mutual
    pub stands_sound : (around : Around) (spot : Spot) (at : At) (s : ShownStmt) → Stands numbered sort around spot at s →
        AreStmts around (resolve_stmt numbered spot.scope at s)
    stands_sound around spot at (shown.OfIf condition statements otherwise place) stands =
        let ready = stands.0 in
        let kept = ready_kept (placed spot at (shown.OfIf condition statements otherwise place)) ready in (
          (
            condition_sound numbered spot.scope around ready.lead condition kept.0,
            all_sound around spot at statements stands.1,
            otherwise_sound around spot (after_all numbered.table at statements) otherwise stands.2,
          ),
          tt,
        )
    stands_sound around spot at (shown.OfCase selector alternatives otherwise place) stands =
        let ready = stands.0 in
        let kept = ready_kept (placed spot at (shown.OfCase selector alternatives otherwise place)) ready in (
          (
            count_sound numbered spot.scope around ready.lead selector kept.0,
            branches_sound around spot at alternatives stands.1,
            otherwise_sound around spot (after_branches numbered.table at alternatives) otherwise stands.2,
          ),
          tt,
        )
    stands_sound around spot at (shown.OfRepeat control begin step last condition declarations statements body_place place) stands =
        let ready = stands.0 in
        let table = numbered.table in
        let scope = spot.scope in
        let counter = counter_in numbered scope at control begin step last in
        let inner = within around counter in
        let kept = ready_kept (placed spot at (shown.OfRepeat control begin step last condition declarations statements body_place place)) ready in
        let whiles = asking.if_there (λ expr. Subject Condition at.next (OfWhile expr) ∷ []) condition in
        let one = split_all (IsKept table) (asking.value_if Count scope begin) (asking.value_if Count scope step ++ (asking.value_if Count scope last ++ whiles)) kept in
        let two = split_all (IsKept table) (asking.value_if Count scope step) (asking.value_if Count scope last ++ whiles) one.1 in
        let three = split_all (IsKept table) (asking.value_if Count scope last) whiles two.1 in (
          (
            counter_sound around at.cell (option_map (value_in numbered scope) begin) (option_map (value_in numbered scope) step)
                (option_map (value_in numbered scope) last) (counts control begin step last) stands.1
                (if_count numbered scope around ready.lead begin one.0) (if_count numbered scope around ready.lead step two.0)
                (if_count numbered scope around ready.lead last three.0),
            while_sound numbered at.next inner stands.2 condition three.1,
            joined_sound inner (declared_renewals numbered at.next declarations)
                (resolve_all numbered at.next (entered table (loop_cells control begin step last) at) statements) stands.3
                (all_sound inner (record { scope = at.next; in_loop = true }) (entered table (loop_cells control begin step last) at) statements stands.4),
          ),
          tt,
        )
    stands_sound around spot at (shown.OfBegin declarations statements body_place place) stands =
        joined_sound around (declared_renewals numbered at.next declarations) (resolve_all numbered at.next (entered numbered.table 0 at) statements) stands.0
        (all_sound around (record { scope = at.next; in_loop = spot.in_loop }) (entered numbered.table 0 at) statements stands.1)
    stands_sound around spot at (shown.OfOnSemas word names place) stands =
        let ready = stands.0 in
        semaphore_statement_sound numbered sort (placed spot at (shown.OfOnSemas word names place)) at around ready.lead stands.1 word names place refl stands.2
        ready.known ready.none
    stands_sound around spot at (shown.OfPut values dation formats place) stands =
        let ready = stands.0 in
        put_sound numbered sort (placed spot at (shown.OfPut values dation formats place)) at around ready.lead values dation formats place refl stands.1
        ready.known ready.none
    stands_sound around spot at (shown.OfGet targets dation formats place) stands =
        let ready = stands.0 in
        get_sound numbered sort (placed spot at (shown.OfGet targets dation formats place)) at around ready.lead targets dation formats place refl stands.1
        stands.2 ready.known ready.none
    stands_sound around spot at (shown.OfEmpty place) stands = tt
    stands_sound around spot at statement stands = simple around spot at statement tt stands

    pub all_sound : (around : Around) (spot : Spot) (at : At) (statements : ShownStmts) → AllStand numbered sort around spot at statements →
        AreStmts around (resolve_all numbered spot.scope at statements)
    all_sound around spot at shown.NoStmts stands = tt
    all_sound around spot at (shown.MoreStmts s rest) stands =
        joined_sound around (resolve_stmt numbered spot.scope at s) (resolve_all numbered spot.scope (after numbered.table at s) rest)
        (stands_sound around spot at s stands.0) (all_sound around spot (after numbered.table at s) rest stands.1)

    branches_sound : (around : Around) (spot : Spot) (at : At) (branches : ShownBranches) → BranchesStand numbered sort around spot at branches →
        AreBranches around (resolve_branches numbered spot.scope at branches)
    branches_sound around spot at shown.NoBranches stands = tt
    branches_sound around spot at (shown.MoreBranches statements place rest) stands =
        (all_sound around spot at statements stands.0, branches_sound around spot (after_all numbered.table at statements) rest stands.1)

    otherwise_sound : (around : Around) (spot : Spot) (at : At) (otherwise : ShownOtherwise) → OtherwiseStands numbered sort around spot at otherwise →
        AreStmts around (resolve_otherwise numbered spot.scope at otherwise)
    otherwise_sound around spot at shown.NoOtherwise stands = tt
    otherwise_sound around spot at (shown.OfOtherwise statements place) stands = all_sound around spot at statements stands
