-- A statement that has none within it and breaks no rule becomes a sound one.
use Rattle.std.specs.Prelude.{◌≡◌, ℕ, Bool, true, false, not, ◌||◌, List, [], ◌∷◌, ◌++◌, length, Option, Some, None, option_map}
use Rattle.std.specs.List.{AllByRecursion, flat_map}
use Rattle.std.proofs.Common.{refl, ap, ◌∙◌, sym, subst, arith, true≢false}
use Rattle.pearl_value.specs.declared.kind.Kind.{Kind}
use Rattle.pearl_value.specs.declared.kind.Kind.TheVariants.{Fixed, Clock, Span}
use Rattle.pearl_value.specs.Conversions.{SuitsKind, suits_kind}
use Rattle.pearl_tree.specs.declared.fault.RuleFault.{RuleFault}
use Rattle.pearl_tree.specs.declared.name.Name.{Name}
use Rattle.pearl_value.specs.declared.device.Direction.{Direction}
use Rattle.pearl_value.specs.declared.device.Direction.TheVariants.{In, Out, InOut}
use Rattle.pearl_tree.specs.declared.statement.TaskWord.{TaskWord}
use Rattle.pearl_tree.specs.declared.statement.TaskWord.TheVariants.{Suspend}
use Rattle.pearl_tree.specs.declared.statement.InterruptWord.{InterruptWord}
use Rattle.pearl_tree.specs.declared.statement.InterruptWord.TheVariants.{Enable}
use Rattle.pearl_tree.specs.declared.rule.TheConstants as rule
use Rattle.pearl_tree.specs.Faults.{fault_if}
use Rattle.pearl_tree.specs.ShownExpressions.{ShownExpr, MoreExprs, ShownRef}
use Rattle.pearl_tree.specs.ShownStatements as shown
use Rattle.pearl_tree.specs.ShownStatements.{ShownPeriodEnd, ShownPeriod, ShownStart, ShownOnce, ShownStmt}
use Rattle.pearl_names.specs.declared.scope.View.TheVariants.{Within}
use Rattle.pearl_names.specs.Tables.{Sense, Interrupt, AlphicDation, BasicDation, Procedure, Table}
use Rattle.pearl_names.specs.Tables as sense
use Rattle.pearl_scope.specs.Placed.{Placed}
use Rattle.pearl_system.specs.Rules.{is_in, is_out}
use Rattle.pearl_program.specs.PlainExpressions.{PlainExpr, PlainVariable}
use Rattle.pearl_check_expr.specs.Senses.{is_fixed}
use Rattle.pearl_check_expr.specs.Judged.{misfits, expr_place}
use Rattle.pearl_check_expr.specs.Subjects.{OfValue, OfTarget, OfCallStatement}
use Rattle.pearl_value.proofs.Offered.{suits_both}
use Rattle.pearl_check.specs.declared.asked.Role.{Role}
use Rattle.pearl_check.specs.declared.asked.Role.TheVariants.{Plain, Condition, Count, Moment, Lapse, Priority}
use Rattle.pearl_check.specs.declared.asked.NameRole.{NameRole}
use Rattle.pearl_check.specs.declared.asked.NameRole.TheVariants as name_role
use Rattle.pearl_check.specs.Asked as asking
use Rattle.pearl_check.specs.Asked.{Asked, Subject, Named, as_exprs, asked_at, start_asked, period_asked, once_asked, period_end_asked}
use Rattle.pearl_check.specs.Dations.{s32, takes_no_send, gives_no_take}
use Rattle.pearl_check.specs.Formats.{s33}
use Rattle.pearl_check.specs.Roles.{is_for_role, s23_in, s29_in, is_role, role_of, is_misnamed, asked_faults, part_faults, role_faults}
use Rattle.pearl_check.specs.Routines.{RoutineSort, Task}
use Rattle.pearl_check.specs.Routines as routine
use Rattle.pearl_check.specs.Rules.{own_faults, statement_faults}
use Rattle.pearl_check.specs.Statements.{s24, s26, s27, s31, is_misplaced_return}
use Rattle.pearl_check.specs.Views.{seen, value_kind, target_kind}
use Rattle.pearl_program.specs.Typing.{Around, HasKind, IsVariable, IsFixed}
use Rattle.pearl_program.specs.SoundStatements.{IsIf, IsCall, IsReturn, IsTaskNumber, IsInterrupt, IsMoment, IsLapse, IsPeriodEnd, IsPeriod, IsStart, IsOnce, IsSend, IsTake, AreStmts}
use Rattle.pearl_resolve.specs.Numbers.{At}
use Rattle.pearl_resolve.specs.Expressions.{Numbered, meant, number_of, params_of, resolve_arguments, resolve_variable}
use Rattle.pearl_resolve.specs.Statements.{value_in, listed, or_no_params, period_end_in, period_in, when_in, start_in_if, period_of_if, once_in, on_task, on_interrupt, alone, resolve_stmt}
use Rattle.pearl_resolve.specs.Resolve.{kind_or_short}
use Rattle.pearl_sound.specs.KnownParts.{IsKnownSense, IsKnown, IsSimple, Returns}
use Rattle.pearl_sound.specs.SoundNames.{LeadNames}
use Rattle.pearl_sound.proofs.SoundExpressions.{expr_sound, target_sound, call_sound}
use Rattle.pearl_sound.proofs.SoundParts.{no_control, same_params, params_of_callee}

-- lists without faults
pub left_none : (xs ys : List RuleFault) → xs ++ ys ≡ [] → xs ≡ []
left_none [] ys none = refl
left_none (x ∷ xs) ys none = let more = ap (λ (faults : List RuleFault). length faults) none in absurd (omega (arith, more))

pub right_none : (xs ys : List RuleFault) → xs ++ ys ≡ [] → ys ≡ []
right_none [] ys none = none
right_none (x ∷ xs) ys none = let more = ap (λ (faults : List RuleFault). length faults) none in absurd (omega (arith, more))

pub not_broken : (broken : Bool) (place of : ℕ) → fault_if broken place of ≡ [] → broken ≡ false
not_broken true place of none = let more = ap (λ (faults : List RuleFault). length faults) none in absurd (omega (arith, more))
not_broken false place of none = refl

pub really : (b : Bool) → not b ≡ false → b ≡ true
really true is = refl
really false is = absurd (true≢false is)

pub split_all : {X : Type 0} (P : X → Type 0) (xs ys : List X) → AllByRecursion P (xs ++ ys) → AllByRecursion P xs × AllByRecursion P ys
split_all P [] ys all = (tt, all)
split_all P (x ∷ xs) ys all = let more = split_all P xs ys all.1 in ((all.0, more.0), more.1)

-- what is known and breaks no rule
pub record IsKept (table : Table) (asked : Asked) : Type 0 where
  pub known : IsKnown table asked
  pub none : asked_faults table asked ≡ []

abbrev pub AreKept : Table → List Asked → Type 0
AreKept table asked = AllByRecursion (IsKept table) asked

pub all_kept : (table : Table) (asked : List Asked) → AllByRecursion (IsKnown table) asked → flat_map (asked_faults table) asked ≡ [] → AreKept table asked
all_kept table [] known none = tt
all_kept table (first ∷ rest) known none = (
  record { known = known.0; none = left_none (asked_faults table first) (flat_map (asked_faults table) rest) none },
  all_kept table rest known.1 (right_none (asked_faults table first) (flat_map (asked_faults table) rest) none),
)

-- roles
pub fits_role : (role : Role) (kind : Kind) (place : ℕ) (middle : List RuleFault) →
    s23_in role (Some kind) place ++ (middle ++ s29_in role (Some kind) place) ≡ [] → is_for_role role kind ≡ true
fits_role Plain kind place middle none = refl
fits_role Condition kind place middle none =
    really (is_for_role Condition kind) (not_broken (not (is_for_role Condition kind)) place rule.S23
    (left_none (fault_if (not (is_for_role Condition kind)) place rule.S23) (middle ++ []) none))
fits_role Count kind place middle none =
    really (is_for_role Count kind) (not_broken (not (is_for_role Count kind)) place rule.S23
    (left_none (fault_if (not (is_for_role Count kind)) place rule.S23) (middle ++ []) none))
fits_role other kind place middle none =
    really (is_for_role other kind) (not_broken (not (is_for_role other kind)) place rule.S29
    (right_none middle (fault_if (not (is_for_role other kind)) place rule.S29) none))

moment_kind : (kind : Kind) → is_for_role Moment kind ≡ true → kind ≡ Clock
moment_kind Clock is = refl
moment_kind kind is = absurd (true≢false (sym is))

lapse_kind : (kind : Kind) → is_for_role Lapse kind ≡ true → kind ≡ Span
lapse_kind Span is = refl
lapse_kind kind is = absurd (true≢false (sym is))

fixed_kind : (kind : Kind) → is_for_role Priority kind ≡ true → (len : ℕ) × (kind ≡ Fixed len)
fixed_kind (Fixed len) is = (len, refl)
fixed_kind kind is = absurd (true≢false (sym is))

task_sense : (of : Sense) → is_role name_role.Task (role_of of) ≡ true → of ≡ sense.Task
task_sense sense.Task is = refl
task_sense of is = absurd (true≢false (sym is))

interrupt_sense : (of : Sense) → is_role name_role.Interrupt (role_of of) ≡ true → of ≡ Interrupt
interrupt_sense Interrupt is = refl
interrupt_sense of is = absurd (true≢false (sym is))

suits : (from to : Kind) → misfits (Some from) (Some to) ≡ false → SuitsKind from to
suits from to is = (suits_both from to).0 (really (suits_kind from to) is)

same_listed : (exprs : List ShownExpr) → as_exprs exprs ≡ listed exprs
same_listed [] = refl
same_listed (e ∷ rest) = ap (λ more. MoreExprs e more) (same_listed rest)

module _ (numbered : Numbered) (scope : ℕ) (around : Around) (lead : LeadNames numbered (Within scope) around) where
  abbrev table : Table
  table = numbered.table

  pub record HasRole (role : Role) (e : ShownExpr) : Type 0 where
    pub kind : Kind
    pub is : value_kind table scope e ≡ Some kind
    pub has : HasKind around (value_in numbered scope e) kind
    pub fits : is_for_role role kind ≡ true

  pub value_sound : (role : Role) (e : ShownExpr) → IsKept table (Subject role scope (OfValue e)) → HasRole role e
  value_sound role e kept =
      let known = kept.known.0 in
      let faults = right_none (part_faults table (Subject role scope (OfValue e))) (role_faults table (Subject role scope (OfValue e))) kept.none in
      record {
        kind = known.0;
        is = known.1;
        has = expr_sound numbered (Within scope) around lead.values e kept.known.1 known.0 known.1;
        fits = fits_role role known.0 (expr_place e) []
            (subst (λ kind. s23_in role kind (expr_place e) ++ ([] ++ s29_in role kind (expr_place e)) ≡ []) known.1 faults);
      }

  moment_sound : (e : ShownExpr) → IsKept table (Subject Moment scope (OfValue e)) → IsMoment around (value_in numbered scope e)
  moment_sound e kept =
      let value = value_sound Moment e kept in subst (λ kind. HasKind around (value_in numbered scope e) kind) (moment_kind value.kind value.fits) value.has

  lapse_sound : (e : ShownExpr) → IsKept table (Subject Lapse scope (OfValue e)) → IsLapse around (value_in numbered scope e)
  lapse_sound e kept =
      let value = value_sound Lapse e kept in subst (λ kind. HasKind around (value_in numbered scope e) kind) (lapse_kind value.kind value.fits) value.has

  priority_sound : (e : ShownExpr) → IsKept table (Subject Priority scope (OfValue e)) → IsFixed around (value_in numbered scope e)
  priority_sound e kept =
      let value = value_sound Priority e kept in
      let fixed = fixed_kind value.kind value.fits in
      (fixed.0, subst (λ kind. HasKind around (value_in numbered scope e) kind) fixed.1 value.has)

  pub record HasTarget (target : ShownRef) : Type 0 where
    pub kind : Kind
    pub is : target_kind table scope target ≡ Some kind
    pub variable : IsVariable around (resolve_variable numbered (Within scope) target) kind

  pub target_kept : (target : ShownRef) → IsKept table (Subject Plain scope (OfTarget target)) → HasTarget target
  target_kept target kept =
      let known = kept.known.0 in
      let faults = right_none (part_faults table (Subject Plain scope (OfTarget target))) (role_faults table (Subject Plain scope (OfTarget target))) kept.none in
      let free = not_broken (is_fixed (seen table (Within scope) target.name)) target.place rule.S25
      (left_none (fault_if (is_fixed (seen table (Within scope) target.name)) target.place rule.S25) [] faults) in
      record {
        kind = known.0;
        is = known.1;
        variable = target_sound numbered (Within scope) around lead.values target kept.known.1 (no_control (seen table (Within scope) target.name) free) known.0 known.1;
      }

  pub named_role : (role : NameRole) (name : Name) (kept : IsKept table (Named role scope name)) → is_role role (role_of kept.known.0) ≡ true
  named_role role name kept =
      let known = kept.known in
      really (is_role role (role_of known.0)) (ap (is_misnamed role) (sym known.1) ∙
      not_broken (is_misnamed role (seen table (Within scope) name)) name.place rule.S16
      (left_none (fault_if (is_misnamed role (seen table (Within scope) name)) name.place rule.S16) [] kept.none))

  task_sound : (name : Name) → IsKept table (Named name_role.Task scope name) → IsTaskNumber around (number_of numbered (Within scope) name)
  task_sound name kept =
      lead.tasks name (kept.known.1 ∙ ap Some (task_sense kept.known.0 (named_role name_role.Task name kept)))

  interrupt_sound : (name : Name) → IsKept table (Named name_role.Interrupt scope name) → IsInterrupt around (number_of numbered (Within scope) name)
  interrupt_sound name kept =
      lead.interrupts name (kept.known.1 ∙ ap Some (interrupt_sense kept.known.0 (named_role name_role.Interrupt name kept)))

  -- when
  end_sound : (end : Option ShownPeriodEnd) → AreKept table (asking.if_there (period_end_asked scope) end) →
      IsIf (IsPeriodEnd around) (option_map (period_end_in numbered scope) end)
  end_sound None kept = tt
  end_sound (Some (shown.OfUntil time place)) kept = moment_sound time kept.0
  end_sound (Some (shown.OfDuring duration place)) kept = lapse_sound duration kept.0

  period_sound : (period : ShownPeriod) → AreKept table (period_asked scope period) → IsPeriod around (period_in numbered scope period)
  period_sound period kept = (lapse_sound period.duration kept.0, end_sound period.end kept.1)

  if_period : (period : Option ShownPeriod) → AreKept table (asking.if_there (period_asked scope) period) →
      IsIf (IsPeriod around) (option_map (period_in numbered scope) period)
  if_period None kept = tt
  if_period (Some period) kept = period_sound period kept

  when_sound : (interrupt : Name) (after : Option ShownExpr) → IsKept table (Named name_role.Interrupt scope interrupt) →
      AreKept table (asking.value_if Lapse scope after) →
      IsStart around (when_in (number_of numbered (Within scope) interrupt) (option_map (value_in numbered scope) after))
  when_sound interrupt None kept lapse = interrupt_sound interrupt kept
  when_sound interrupt (Some e) kept lapse = (interrupt_sound interrupt kept, lapse_sound e lapse.0)

  start_sound : (start : Option ShownStart) → AreKept table (asking.if_there (start_asked scope) start) →
      IsIf (IsStart around) (start_in_if numbered scope start) × IsIf (IsPeriod around) (option_map (period_in numbered scope) (period_of_if start))
  start_sound None kept = (tt, tt)
  start_sound (Some (shown.OfAt time period place)) kept = (moment_sound time kept.0, if_period period kept.1)
  start_sound (Some (shown.OfAfter duration period place)) kept = (lapse_sound duration kept.0, if_period period kept.1)
  start_sound (Some (shown.OfWhen interrupt after period place)) kept =
      let parts = split_all (IsKept table) (asking.value_if Lapse scope after) (asking.if_there (period_asked scope) period) kept.1 in
      (when_sound interrupt after kept.0 parts.0, if_period period parts.1)
  start_sound (Some (shown.OfAll period)) kept = (tt, period_sound period kept)

  once_sound : (once : ShownOnce) → AreKept table (once_asked scope once) → IsOnce around (once_in numbered scope once)
  once_sound (shown.OnceAt time place) kept = moment_sound time kept.0
  once_sound (shown.OnceAfter duration place) kept = lapse_sound duration kept.0
  once_sound (shown.OnceWhen interrupt place) kept = interrupt_sound interrupt kept.0

  if_once : (once : Option ShownOnce) → AreKept table (asking.if_there (once_asked scope) once) → IsIf (IsOnce around) (option_map (once_in numbered scope) once)
  if_once None kept = tt
  if_once (Some once) kept = once_sound once kept

  if_priority : (priority : Option ShownExpr) → AreKept table (asking.value_if Priority scope priority) →
      IsIf (IsFixed around) (option_map (value_in numbered scope) priority)
  if_priority None kept = tt
  if_priority (Some e) kept = priority_sound e kept.0

  if_task : (task : Option Name) → AreKept table (asking.if_there (λ name. Named name_role.Task scope name ∷ []) task) →
      IsIf (IsTaskNumber around) (option_map (number_of numbered (Within scope)) task)
  if_task None kept = tt
  if_task (Some name) kept = task_sound name kept.0

  on_task_sound : (word : TaskWord) (task : Option ℕ) → IsIf (IsTaskNumber around) task → AreStmts around (alone (on_task word task))
  on_task_sound Suspend task is = (is, tt)
  on_task_sound other task is = (is, tt)

  on_interrupt_sound : (word : InterruptWord) (interrupt : ℕ) → IsInterrupt around interrupt → AreStmts around (alone (on_interrupt word interrupt))
  on_interrupt_sound Enable interrupt is = (is, tt)
  on_interrupt_sound other interrupt is = (is, tt)

  call_kept : (name : Name) (arguments : List ShownExpr) → IsKept table (Subject Plain scope (OfCallStatement name (as_exprs arguments))) →
      IsCall around (number_of numbered (Within scope) name)
      (resolve_arguments numbered (Within scope) (or_no_params (params_of (meant numbered (Within scope) name))) (listed arguments))
  call_kept name arguments kept =
      let known = kept.known.0 in
      let same = same_params numbered (Within scope) name ∙ ap params_of_callee known.1 in
      subst (λ exprs. IsCall around (number_of numbered (Within scope) name)
      (resolve_arguments numbered (Within scope) (or_no_params (params_of (meant numbered (Within scope) name))) exprs)) (same_listed arguments)
      (subst (λ parameters. IsCall around (number_of numbered (Within scope) name)
      (resolve_arguments numbered (Within scope) (or_no_params parameters) (as_exprs arguments))) (sym same)
      (call_sound numbered (Within scope) around lead.values name known.0 (as_exprs arguments) kept.known.1 known.1 known.2))

  return_sound : (sort : RoutineSort) (value : Option ShownExpr) → Returns table.lengths sort around.returns →
      is_misplaced_return table scope sort value ≡ false → AreKept table (asking.value_if Plain scope value) →
      IsReturn around around.returns (option_map (value_in numbered scope) value)
  return_sound (Task head) value returns is kept = absurd (true≢false is)
  return_sound (routine.Procedure None) None returns is kept =
      subst (λ given. IsReturn around given None) (sym returns.0) tt
  return_sound (routine.Procedure None) (Some e) returns is kept = absurd (true≢false is)
  return_sound (routine.Procedure (Some basic)) None returns is kept = absurd (true≢false is)
  return_sound (routine.Procedure (Some basic)) (Some e) returns is kept =
      let value = value_sound Plain e kept.0 in
      let result = returns.1 in
      let given : around.returns ≡ Some (Some result.0) = returns.0 ∙ ap (λ known. Some (Some (kind_or_short known))) result.1 in
      subst (λ given. IsReturn around given (Some (value_in numbered scope e))) (sym given) (
        value.kind,
        value.has,
        suits value.kind result.0
            ((λ i. misfits (sym value.is i) (sym result.1 i)) ∙ is),
      )

  -- transfers of single values
  basic_send : (name : Name) (direction : Direction) (kind from : Kind) → seen table (Within scope) name ≡ Some (BasicDation direction (Some kind)) →
      (is_in direction || misfits (Some from) (Some kind)) ≡ false → (e : PlainExpr) → HasKind around e from →
      IsSend around e (number_of numbered (Within scope) name)
  basic_send name In kind from is none e has = absurd (true≢false none)
  basic_send name Out kind from is none e has = (kind, lead.channels name Out kind is, (from, has, suits from kind none))
  basic_send name InOut kind from is none e has = absurd (lead.channels name InOut kind is)

  send_sound : (name : Name) (of : Sense) → seen table (Within scope) name ≡ Some of → IsKnownSense of → is_role name_role.Dation (role_of of) ≡ true →
      (from : Kind) → takes_no_send (Some from) (Some of) ≡ false → (e : PlainExpr) → HasKind around e from →
      IsSend around e (number_of numbered (Within scope) name)
  send_sound name (BasicDation direction given) is known named from none e has =
      basic_send name direction known.0 from (is ∙ ap (λ k. Some (BasicDation direction k)) known.1)
      (ap (λ k. is_in direction || misfits (Some from) k) (sym known.1) ∙ none) e has
  send_sound name (AlphicDation direction) is known named from none e has = absurd (true≢false none)
  send_sound name of is known named from none e has = absurd (true≢false (sym named))

  basic_take : (name : Name) (direction : Direction) (kind to : Kind) → seen table (Within scope) name ≡ Some (BasicDation direction (Some kind)) →
      (is_out direction || misfits (Some kind) (Some to)) ≡ false → (variable : PlainVariable) → IsVariable around variable to →
      IsTake around variable (number_of numbered (Within scope) name)
  basic_take name Out kind to is none variable has = absurd (true≢false none)
  basic_take name In kind to is none variable has = (kind, to, lead.channels name In kind is, has, suits kind to none)
  basic_take name InOut kind to is none variable has = absurd (lead.channels name InOut kind is)

  take_sound : (name : Name) (of : Sense) → seen table (Within scope) name ≡ Some of → IsKnownSense of → is_role name_role.Dation (role_of of) ≡ true →
      (to : Kind) → gives_no_take (Some to) (Some of) ≡ false → (variable : PlainVariable) → IsVariable around variable to →
      IsTake around variable (number_of numbered (Within scope) name)
  take_sound name (BasicDation direction given) is known named to none variable has =
      basic_take name direction known.0 to (is ∙ ap (λ k. Some (BasicDation direction k)) known.1)
      (ap (λ k. is_out direction || misfits k (Some to)) (sym known.1) ∙ none) variable has
  take_sound name (AlphicDation direction) is known named to none variable has = absurd (true≢false none)
  take_sound name of is known named to none variable has = absurd (true≢false (sym named))

  pub simple_sound : (sort : RoutineSort) (in_loop : Bool) (at : At) (s : ShownStmt) → IsSimple s → Returns table.lengths sort around.returns → in_loop ≡ around.in_loop →
      AreKept table (asking.stmt_asked scope at.next s) → s24 table scope s ≡ [] → s26 in_loop s ≡ [] → s27 table scope sort s ≡ [] →
      s32 table scope s ≡ [] → AreStmts around (resolve_stmt numbered scope at s)
  simple_sound sort in_loop at (shown.OfEmpty place) simple returns same kept suit exit back carry = tt
  simple_sound sort in_loop at (shown.OfAssign target value place) simple returns same kept suit exit back carry =
      let to = target_kept target kept.0 in
      let from = value_sound Plain value kept.1.0 in (
        (
          to.kind,
          to.variable,
          (
            from.kind,
            from.has,
            suits from.kind to.kind ((λ i. misfits (sym from.is i) (sym to.is i)) ∙
                not_broken (misfits (value_kind table scope value) (target_kind table scope target)) target.place rule.S24 suit),
          ),
        ),
        tt,
      )
  simple_sound sort in_loop at (shown.OfCall call name arguments place) simple returns same kept suit exit back carry = (call_kept name arguments kept.0, tt)
  simple_sound sort in_loop at (shown.OfExit place) simple returns same kept suit exit back carry =
      (sym same ∙ really in_loop (not_broken (not in_loop) place rule.S26 exit), tt)
  simple_sound sort in_loop at (shown.OfReturn value place) simple returns same kept suit exit back carry =
      (return_sound sort value returns (not_broken (is_misplaced_return table scope sort value) place rule.S27 back) kept, tt)
  simple_sound sort in_loop at (shown.OfActivate start task priority place) simple returns same kept suit exit back carry =
      let parts = split_all (IsKept table) (asking.if_there (start_asked scope) start)
      (Named name_role.Task scope task ∷ asking.value_if Priority scope priority) kept in
      let starts = start_sound start parts.0 in
      (record { named = task_sound task parts.1.0; starts = starts.0; repeats = starts.1; urgent = if_priority priority parts.1.1 }, tt)
  simple_sound sort in_loop at (shown.OfContinue once task place) simple returns same kept suit exit back carry =
      let parts = split_all (IsKept table) (asking.if_there (once_asked scope) once) (Named name_role.Task scope task ∷ []) kept in
      ((task_sound task parts.1.0, if_once once parts.0), tt)
  simple_sound sort in_loop at (shown.OfResume once place) simple returns same kept suit exit back carry = (once_sound once kept, tt)
  simple_sound sort in_loop at (shown.OfOnTask word task place) simple returns same kept suit exit back carry =
      on_task_sound word (option_map (number_of numbered (Within scope)) task) (if_task task kept)
  simple_sound sort in_loop at (shown.OfOnInterrupt word name place) simple returns same kept suit exit back carry =
      on_interrupt_sound word (number_of numbered (Within scope) name) (interrupt_sound name kept.0)
  simple_sound sort in_loop at (shown.OfSend value dation place) simple returns same kept suit exit back carry =
      let from = value_sound Plain value kept.0 in
      let name = kept.1.0 in (
        send_sound dation name.known.0 name.known.1 name.known.2 (named_role name_role.Dation dation name) from.kind
            ((λ i. takes_no_send (sym from.is i) (sym name.known.1 i)) ∙
            not_broken (takes_no_send (value_kind table scope value) (seen table (Within scope) dation)) dation.place rule.S32 carry)
            (value_in numbered scope value) from.has,
        tt,
      )
  simple_sound sort in_loop at (shown.OfTake target dation place) simple returns same kept suit exit back carry =
      let to = target_kept target kept.0 in
      let name = kept.1.0 in (
        take_sound dation name.known.0 name.known.1 name.known.2 (named_role name_role.Dation dation name) to.kind
            ((λ i. gives_no_take (sym to.is i) (sym name.known.1 i)) ∙
            not_broken (gives_no_take (target_kind table scope target) (seen table (Within scope) dation)) dation.place rule.S32 carry)
            (resolve_variable numbered (Within scope) target) to.variable,
        tt,
      )
  simple_sound sort in_loop at statement simple returns same kept suit exit back carry = absurd simple

pub statement_sound : (numbered : Numbered) (sort : RoutineSort) (place : Placed) (at : At) (around : Around) →
    LeadNames numbered (Within place.spot.scope) around → at.next ≡ place.next → IsSimple place.statement →
    Returns numbered.table.lengths sort around.returns → place.spot.in_loop ≡ around.in_loop →
    AllByRecursion (IsKnown numbered.table) (asked_at place) → statement_faults numbered.table sort place ≡ [] →
    AreStmts around (resolve_stmt numbered place.spot.scope at place.statement)
statement_sound numbered sort place at around lead next simple returns same known none =
    let table = numbered.table in
    let scope = place.spot.scope in
    let s = place.statement in
    let asked = flat_map (asked_faults table) (asked_at place) in
    let own = right_none asked (own_faults table sort place) none in
    let behind_s24 = right_none (s24 table scope s) (s26 place.spot.in_loop s ++ (s27 table scope sort s ++ (s31 table scope s ++ (s32 table scope s ++ s33 table scope s)))) own in
    let behind_s26 = right_none (s26 place.spot.in_loop s) (s27 table scope sort s ++ (s31 table scope s ++ (s32 table scope s ++ s33 table scope s))) behind_s24 in
    let behind_s27 = right_none (s27 table scope sort s) (s31 table scope s ++ (s32 table scope s ++ s33 table scope s)) behind_s26 in
    let behind_s31 = right_none (s31 table scope s) (s32 table scope s ++ s33 table scope s) behind_s27 in
    simple_sound numbered scope around lead sort place.spot.in_loop at s simple returns same
    (subst (λ n. AreKept table (asking.stmt_asked scope n s)) (sym next) (all_kept table (asked_at place) known (left_none asked (own_faults table sort place) none)))
    (left_none (s24 table scope s) (s26 place.spot.in_loop s ++ (s27 table scope sort s ++ (s31 table scope s ++ (s32 table scope s ++ s33 table scope s)))) own)
    (left_none (s26 place.spot.in_loop s) (s27 table scope sort s ++ (s31 table scope s ++ (s32 table scope s ++ s33 table scope s))) behind_s24)
    (left_none (s27 table scope sort s) (s31 table scope s ++ (s32 table scope s ++ s33 table scope s)) behind_s26)
    (left_none (s32 table scope s) (s33 table scope s) behind_s31)
