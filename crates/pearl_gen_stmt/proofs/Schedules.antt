-- ACTIVATE, CONTINUE and RESUME: their code does what they mean.
use Rattle.std.specs.Prelude.{◌≡◌, ℕ, ◌+◌, pos, ℤ, int_le, ◌&&◌, Bool, true, false, if◌then◌else◌, unsigned_abs, List, [], ◌∷◌, ◌++◌, length, Option, Some, None, option_map}
use Rattle.std.proofs.Common.{refl, sym, subst, ap, ◌∙◌, arith, append_assoc, append-nil}
use Rattle.std.proofs.lemmas.List.{length-append}
use Rattle.pearl_value.specs.declared.kind.Kind.{Kind}
use Rattle.pearl_value.specs.declared.cell.Cell.{Cell}
use Rattle.pearl_value.specs.declared.cell.Cell.TheVariants.{Fixed, Clock, Span}
use Rattle.pearl_value.specs.declared.trap.Trap.TheVariants.{Range}
use Rattle.pearl_rules.specs.declared.action.Action.{Action}
use Rattle.pearl_rules.specs.declared.action.Action.TheVariants as action
use Rattle.pearl_rules.specs.declared.action.Answer.{Answer}
use Rattle.pearl_rules.specs.declared.action.Start.{Start}
use Rattle.pearl_rules.specs.declared.action.Start.TheVariants.{Free, At, After, When, WhenAfter}
use Rattle.pearl_rules.specs.declared.action.Repeat.{Repeat}
use Rattle.pearl_rules.specs.declared.action.Repeat.TheVariants.{Once, All, Until, During}
use Rattle.pearl_stack.specs.Frames.{Frame}
use Rattle.pearl_program.specs.PlainExpressions.{PlainExpr}
use Rattle.pearl_program.specs.PlainStatements.{PlainPeriodEnd, OfUntil, OfDuring, PlainPeriod, PlainStart, OfAt, OfAfter, OfWhen, OfWhenAfter, PlainOnce, OnceAt, OnceAfter, OnceWhen}
use Rattle.pearl_instructions.specs.declared.schedule.OnceForm.{OnceForm}
use Rattle.pearl_instructions.specs.declared.schedule.StartForm.{StartForm}
use Rattle.pearl_instructions.specs.declared.schedule.StartForm.TheVariants as start
use Rattle.pearl_instructions.specs.declared.schedule.RepeatForm.{RepeatForm}
use Rattle.pearl_instructions.specs.declared.schedule.RepeatForm.TheVariants as again
use Rattle.pearl_instructions.specs.declared.instr.Instr.TheVariants as instr
use Rattle.pearl_instructions.specs.declared.object.Parts.{Parts as Object}
use Rattle.pearl_instructions.specs.Steps.{Step, Silent, Offers, Missing, traps}
use Rattle.pearl_instructions.specs.Steps as steps
use Rattle.pearl_instructions.specs.Offers.{as_start, start_or_free, start_kinds, repeat_kinds, activation_count, started, repeated, with_priority, activate}
use Rattle.pearl_meaning.specs.Frames.{Store}
use Rattle.pearl_meaning.specs.Evaluation.{Outcome, Value, Needs, Fails, Does, gives, on_value, bind}
use Rattle.pearl_meaning.specs.Setting.{Setting}
use Rattle.pearl_meaning.specs.Variables.{number_of}
use Rattle.pearl_meaning.specs.Values.{eval}
use Rattle.pearl_meaning.specs.Loops.{Flow, Normal}
use Rattle.pearl_meaning.specs.Schedules.{acts, moment_of, lapse_of, lapse, start_of, once_of, with_end, repeat_of, priority_of, is_start, is_repeat, is_priority, acts_if, activates, continues, resumes}
use Rattle.pearl_meaning.proofs.Offered.{Alike}
use Rattle.pearl_gen_expr.specs.Contexts.{stack, Context, at, IsStoreOf, pushed}
use Rattle.pearl_gen_expr.specs.Carrying.{End, Carries}
use Rattle.pearl_gen_expr.specs.ExprCode.{code_of, ExprAt}
use Rattle.pearl_gen_expr.specs.Ends.{on_top, ways}
use Rattle.pearl_gen_expr.proofs.Offered.{frame_at, RowMeets, bind_carries, instr_carries, same_carries, missing_meets}
use Rattle.pearl_gen_expr.proofs.Offered.{stops_meets}
use Rattle.pearl_gen_stmt.specs.StmtCode.{WhenAt, LaterAt, MaybeLaterAt, PeriodEndAt, PeriodAt, PriorityAt, ActivateAt, ContinueAt, ResumeAt}
use Rattle.pearl_gen_stmt.proofs.Single.{asked_meets}
use Rattle.pearl_gen_stmt.proofs.Flows.{normal_carries}
use Rattle.pearl_gen_stmt.proofs.Transfers.{taken_pushed}

-- WHAT VALUES SAY

-- the start that these values say, the first of them having been pushed first
abbrev when_of : StartForm → List Cell → Start
when_of start.Free values = Free
when_of start.At [] = Free
when_of start.At (x ∷ values) = At (moment_of x)
when_of start.After [] = Free
when_of start.After (x ∷ values) = After (lapse_of x)
when_of (start.When interrupt) values = When interrupt
when_of (start.WhenAfter interrupt) [] = Free
when_of (start.WhenAfter interrupt) (x ∷ values) = WhenAfter interrupt (lapse_of x)

abbrev how_of : RepeatForm → List Cell → Repeat
how_of again.Once values = Once
how_of again.All [] = Once
how_of again.All (x ∷ values) = All (lapse_of x)
how_of again.Until (x ∷ y ∷ values) = Until (lapse_of x) (moment_of y)
how_of again.Until values = Once
how_of again.During (x ∷ y ∷ values) = During (lapse_of x) (lapse_of y)
how_of again.During values = Once

abbrev urgent_of : Bool → List Cell → Option ℤ
urgent_of false values = None
urgent_of true [] = None
urgent_of true (x ∷ values) = Some (number_of x)

-- how many values a priority takes
abbrev priority_count : Bool → ℕ
priority_count given = if given then 1 else 0

-- THE ROWS

-- whatever holds where there is no row, where a value is out of its range, and where all goes on
module _ (Q : Step → Type 0) (lost : Q Missing) (f : Frame) (lower : List Frame) where
  lasting_case : (test : Bool) (step : Step) → (test ≡ true → Q step) → (test ≡ false → Q (traps Range f lower)) → Q (if test then step else traps Range f lower)
  lasting_case true step on out = on refl
  lasting_case false step on out = out refl

  start_case : (form : StartForm) (values more : List Cell) (go : Start → List Cell → Step) → length values ≡ length (start_kinds form) →
      (is_start (when_of form values) ≡ true → Q (go (when_of form values) more)) → (is_start (when_of form values) ≡ false → Q (traps Range f lower)) →
      Q (started form (values ++ more) f lower go)
  start_case start.Free [] more go long on out = on refl
  start_case start.Free (x ∷ values) more go long on out = absurd (omega (arith, long))
  start_case start.At [] more go long on out = absurd (omega (arith, long))
  start_case start.At (Clock time ∷ []) more go long on out = on refl
  start_case start.At (x ∷ []) more go long on out = lost
  start_case start.At (x ∷ y ∷ values) more go long on out = absurd (omega (arith, long))
  start_case start.After [] more go long on out = absurd (omega (arith, long))
  start_case start.After (Span time ∷ []) more go long on out = lasting_case (int_le (pos 0) time) (go (After time) more) on out
  start_case start.After (x ∷ []) more go long on out = lost
  start_case start.After (x ∷ y ∷ values) more go long on out = absurd (omega (arith, long))
  start_case (start.When interrupt) [] more go long on out = on refl
  start_case (start.When interrupt) (x ∷ values) more go long on out = absurd (omega (arith, long))
  start_case (start.WhenAfter interrupt) [] more go long on out = absurd (omega (arith, long))
  start_case (start.WhenAfter interrupt) (Span time ∷ []) more go long on out = lasting_case (int_le (pos 0) time) (go (WhenAfter interrupt time) more) on out
  start_case (start.WhenAfter interrupt) (x ∷ []) more go long on out = lost
  start_case (start.WhenAfter interrupt) (x ∷ y ∷ values) more go long on out = absurd (omega (arith, long))

  twice_case : (one two : Bool) (step : Step) → ((one && two) ≡ true → Q step) → ((one && two) ≡ false → Q (traps Range f lower)) →
      Q (if one then (if two then step else traps Range f lower) else traps Range f lower)
  twice_case true two step on out = lasting_case two step on out
  twice_case false two step on out = out refl

  repeat_case : (form : RepeatForm) (values more : List Cell) (go : Repeat → List Cell → Step) → length values ≡ length (repeat_kinds form) →
      (is_repeat (how_of form values) ≡ true → Q (go (how_of form values) more)) → (is_repeat (how_of form values) ≡ false → Q (traps Range f lower)) →
      Q (repeated form (values ++ more) f lower go)
  repeat_case again.Once [] more go long on out = on refl
  repeat_case again.Once (x ∷ values) more go long on out = absurd (omega (arith, long))
  repeat_case again.All [] more go long on out = absurd (omega (arith, long))
  repeat_case again.All (Span period ∷ []) more go long on out = lasting_case (int_le (pos 1) period) (go (All period) more) on out
  repeat_case again.All (x ∷ []) more go long on out = lost
  repeat_case again.All (x ∷ y ∷ values) more go long on out = absurd (omega (arith, long))
  repeat_case again.Until [] more go long on out = absurd (omega (arith, long))
  repeat_case again.Until (x ∷ []) more go long on out = absurd (omega (arith, long))
  repeat_case again.Until (Span period ∷ Clock end ∷ []) more go long on out = lasting_case (int_le (pos 1) period) (go (Until period end) more) on out
  repeat_case again.Until (x ∷ y ∷ []) more go long on out = lost
  repeat_case again.Until (x ∷ y ∷ z ∷ values) more go long on out = absurd (omega (arith, long))
  repeat_case again.During [] more go long on out = absurd (omega (arith, long))
  repeat_case again.During (x ∷ []) more go long on out = absurd (omega (arith, long))
  repeat_case again.During (Span period ∷ Span time ∷ []) more go long on out =
      twice_case (int_le (pos 1) period) (int_le (pos 0) time) (go (During period time) more) on out
  repeat_case again.During (x ∷ y ∷ []) more go long on out = lost
  repeat_case again.During (x ∷ y ∷ z ∷ values) more go long on out = absurd (omega (arith, long))

  priority_case : (given : Bool) (values : List Cell) (go : Option ℕ → Step) → length values ≡ priority_count given →
      (is_priority (urgent_of given values) ≡ true → Q (go (option_map unsigned_abs (urgent_of given values)))) → (is_priority (urgent_of given values) ≡ false → Q (traps Range f lower)) →
      Q (with_priority given values f lower go)
  priority_case false values go long on out = on refl
  priority_case true [] go long on out = absurd (omega (arith, long))
  priority_case true (Fixed len value ∷ values) go long on out = lasting_case (int_le (pos 1) value && int_le value (pos 255)) (go (Some (unsigned_abs value))) on out
  priority_case true (x ∷ values) go long on out = lost

-- VALUES ONE AFTER ANOTHER

told_of : {X A B Y : Type 0} (first : Does X) (one : X → A) (two : A → B) (on : B → Does Y) →
    Alike (bind first (λ x. on (two (one x)))) (bind (bind (bind first (λ x. gives (one x))) (λ t. gives (two t))) on)
told_of first one two on = record { same = λ store rest. each (first store rest) }
  where
    each : (m : Outcome _) → on_value m (λ x. on (two (one x))) ≡ on_value (on_value (on_value m (λ x. gives (one x))) (λ t. gives (two t))) on
    each (Value x store rest) = refl
    each (Needs action) = refl
    each (Fails trap) = refl

told : {X A Y : Type 0} (first : Does X) (one : X → A) (on : A → Does Y) → Alike (bind first (λ x. on (one x))) (bind (bind first (λ x. gives (one x))) on)
told first one on = record { same = λ store rest. each (first store rest) }
  where
    each : (m : Outcome _) → on_value m (λ x. on (one x)) ≡ on_value (on_value m (λ x. gives (one x))) on
    each (Value x store rest) = refl
    each (Needs action) = refl
    each (Fails trap) = refl

-- two of them
told_of_two : {X Y A B Z W : Type 0} (first : Does X) (second : Does Y) (one : X → A) (two : Y → B) (both : A → B → Z) (on : Z → Does W) →
    Alike (bind first (λ x. bind second (λ y. on (both (one x) (two y)))))
    (bind (bind (bind first (λ x. gives (one x))) (λ p. bind (bind second (λ y. gives (two y))) (λ t. gives (both p t)))) on)
told_of_two first second one two both on = record { same = λ store rest. outer (first store rest) }
  where
    inner : (p : _) (m : Outcome _) → on_value m (λ y. on (both p (two y))) ≡ on_value (on_value (on_value m (λ y. gives (two y))) (λ t. gives (both p t))) on
    inner p (Value y store rest) = refl
    inner p (Needs action) = refl
    inner p (Fails trap) = refl

    outer : (m : Outcome _) → on_value m (λ x. bind second (λ y. on (both (one x) (two y))))
        ≡ on_value (on_value (on_value m (λ x. gives (one x))) (λ p. bind (bind second (λ y. gives (two y))) (λ t. gives (both p t)))) on
    outer (Value x store rest) = inner (one x) (second store rest)
    outer (Needs action) = refl
    outer (Fails trap) = refl

module _ (o : Object) (c : Context) (setting : Setting) (Fine : PlainExpr → Type 0) (values : (e : PlainExpr) (from to : ℕ) (operands : List Cell) → Fine e →
    ExprAt setting.program (code_of o c.routine) from e to → Carries o c (on_top c to operands) (at c from operands) (eval setting e)) where
  alike_does : {X : Type 0} (end : End X) (from : Store → List Frame) (does other : Does X) → Alike does other → Carries o c end from does → Carries o c end from other
  alike_does end from does other alike carries = same_carries o c end from does other (λ store rest. alike.same store rest) carries

  value_then : {A B Y : Type 0} (end : End Y) (from to : ℕ) (e : PlainExpr) (operands : List Cell) (one : Cell → A) (two : A → B) (on : B → Does Y) → Fine e →
      ExprAt setting.program (code_of o c.routine) from e to → ((x : Cell) → Carries o c end (at c to (x ∷ operands)) (on (two (one x)))) →
      Carries o c end (at c from operands) (bind (bind (bind (eval setting e) (λ x. gives (one x))) (λ t. gives (two t))) on)
  value_then end from to e operands one two on fine code carries =
      alike_does end (at c from operands) (bind (eval setting e) (λ x. on (two (one x)))) (bind (bind (bind (eval setting e) (λ x. gives (one x))) (λ t. gives (two t))) on)
      (told_of (eval setting e) one two on)
      (bind_carries o c (on_top c to operands) end (at c from operands) (eval setting e) (λ x. on (two (one x))) (values e from to operands fine code) (λ x of. carries x))

  -- THE START

  abbrev pub FineStart : Option PlainStart → Type 0
  FineStart None = Unit {0}
  FineStart (Some (OfAt time)) = Fine time
  FineStart (Some (OfAfter duration)) = Fine duration
  FineStart (Some (OfWhen interrupt)) = Unit {0}
  FineStart (Some (OfWhenAfter interrupt duration)) = Fine duration

  -- what follows a start whose values lie on the operands
  abbrev StartThen : {X : Type 0} (end : End X) (to : ℕ) (operands : List Cell) (on : Start → Does X) → StartForm → Type 0
  StartThen end to operands on form = (xs : List Cell) → length xs ≡ length (start_kinds form) → Carries o c end (at c to (pushed xs operands)) (on (when_of form xs))

  when_carries : {X : Type 0} (end : End X) (from to : ℕ) (begin : Option PlainStart) (form : StartForm) (operands : List Cell) (on : Start → Does X) → FineStart begin →
      WhenAt setting (code_of o c.routine) from begin form to → StartThen end to operands on form → Carries o c end (at c from operands) (bind (start_of setting begin) on)
  when_carries end from to None form operands on fine code carries =
      let all : StartThen end to operands on start.Free = subst (StartThen end to operands on) code.0 carries in
      subst (λ place. Carries o c end (at c place operands) (on Free)) code.1 (all [] refl)
  when_carries end from to (Some (OfAt time)) form operands on fine code carries =
      let all : StartThen end to operands on start.At = subst (StartThen end to operands on) code.0 carries in
      value_then end from to time operands moment_of (λ t. At t) on fine code.1 (λ x. all (x ∷ []) refl)
  when_carries end from to (Some (OfAfter duration)) form operands on fine code carries =
      let all : StartThen end to operands on start.After = subst (StartThen end to operands on) code.0 carries in
      value_then end from to duration operands lapse_of (λ d. After d) on fine code.1 (λ x. all (x ∷ []) refl)
  when_carries end from to (Some (OfWhen interrupt)) form operands on fine code carries =
      let all : StartThen end to operands on (start.When interrupt) = subst (StartThen end to operands on) code.0 carries in
      subst (λ place. Carries o c end (at c place operands) (on (When interrupt))) code.1 (all [] refl)
  when_carries end from to (Some (OfWhenAfter interrupt duration)) form operands on fine code carries =
      let all : StartThen end to operands on (start.WhenAfter interrupt) = subst (StartThen end to operands on) code.0 carries in
      value_then end from to duration operands lapse_of (λ d. WhenAfter interrupt d) on fine code.1 (λ x. all (x ∷ []) refl)

  abbrev pub FineOnce : PlainOnce → Type 0
  FineOnce (OnceAt time) = Fine time
  FineOnce (OnceAfter duration) = Fine duration
  FineOnce (OnceWhen interrupt) = Unit {0}

  later_carries : {X : Type 0} (end : End X) (from to : ℕ) (later : PlainOnce) (form : OnceForm) (operands : List Cell) (on : Start → Does X) → FineOnce later →
      LaterAt setting (code_of o c.routine) from later form to → StartThen end to operands on (as_start form) → Carries o c end (at c from operands) (bind (once_of setting (Some later)) on)
  later_carries end from to (OnceAt time) form operands on fine code carries =
      let all : StartThen end to operands on start.At = subst (λ form. StartThen end to operands on (as_start form)) code.0 carries in
      value_then end from to time operands moment_of (λ t. At t) on fine code.1 (λ x. all (x ∷ []) refl)
  later_carries end from to (OnceAfter duration) form operands on fine code carries =
      let all : StartThen end to operands on start.After = subst (λ form. StartThen end to operands on (as_start form)) code.0 carries in
      value_then end from to duration operands lapse_of (λ d. After d) on fine code.1 (λ x. all (x ∷ []) refl)
  later_carries end from to (OnceWhen interrupt) form operands on fine code carries =
      let all : StartThen end to operands on (start.When interrupt) = subst (λ form. StartThen end to operands on (as_start form)) code.0 carries in
      subst (λ place. Carries o c end (at c place operands) (on (When interrupt))) code.1 (all [] refl)

  abbrev pub FineLater : Option PlainOnce → Type 0
  FineLater None = Unit {0}
  FineLater (Some later) = FineOnce later

  maybe_carries : {X : Type 0} (end : End X) (from to : ℕ) (later : Option PlainOnce) (form : Option OnceForm) (operands : List Cell) (on : Start → Does X) → FineLater later →
      MaybeLaterAt setting (code_of o c.routine) from later form to → StartThen end to operands on (start_or_free form) → Carries o c end (at c from operands) (bind (once_of setting later) on)
  maybe_carries end from to None form operands on fine code carries =
      let all : StartThen end to operands on start.Free = subst (λ form. StartThen end to operands on (start_or_free form)) code.0 carries in
      subst (λ place. Carries o c end (at c place operands) (on Free)) code.1 (all [] refl)
  maybe_carries end from to (Some later) form operands on fine code carries =
      later_carries end from to later code.0 operands on fine code.2 (subst (λ form. StartThen end to operands on (start_or_free form)) code.1 carries)

  -- ALL, AND PRIO

  abbrev pub FinePeriodEnd : Option PlainPeriodEnd → Type 0
  FinePeriodEnd None = Unit {0}
  FinePeriodEnd (Some (OfUntil time)) = Fine time
  FinePeriodEnd (Some (OfDuring duration)) = Fine duration

  abbrev pub FinePeriod : Option PlainPeriod → Type 0
  FinePeriod None = Unit {0}
  FinePeriod (Some period) = Fine period.duration × FinePeriodEnd period.end

  abbrev RepeatThen : {X : Type 0} (end : End X) (to : ℕ) (operands : List Cell) (on : Repeat → Does X) → RepeatForm → Type 0
  RepeatThen end to operands on form = (xs : List Cell) → length xs ≡ length (repeat_kinds form) → Carries o c end (at c to (pushed xs operands)) (on (how_of form xs))

  ended_carries : {X : Type 0} (end : End X) (from middle to : ℕ) (duration : PlainExpr) (last : Option PlainPeriodEnd) (form : RepeatForm) (operands : List Cell) (on : Repeat → Does X) →
      Fine duration → FinePeriodEnd last → ExprAt setting.program (code_of o c.routine) from duration middle → PeriodEndAt setting (code_of o c.routine) middle last form to →
      RepeatThen end to operands on form → Carries o c end (at c from operands) (bind (bind (lapse setting duration) (λ p. with_end setting last p)) on)
  ended_carries end from middle to duration None form operands on one two code more carries =
      let all : RepeatThen end to operands on again.All = subst (RepeatThen end to operands on) more.0 carries in
      value_then end from middle duration operands lapse_of (λ p. All p) on one code
      (λ x. subst (λ place. Carries o c end (at c place (x ∷ operands)) (on (All (lapse_of x)))) more.1 (all (x ∷ []) refl))
  ended_carries end from middle to duration (Some (OfUntil time)) form operands on one two code more carries =
      let all : RepeatThen end to operands on again.Until = subst (RepeatThen end to operands on) more.0 carries in
      alike_does end (at c from operands) (bind (eval setting duration) (λ x. bind (eval setting time) (λ y. on (Until (lapse_of x) (moment_of y)))))
      (bind (bind (lapse setting duration) (λ p. with_end setting (Some (OfUntil time)) p)) on)
      (told_of_two (eval setting duration) (eval setting time) lapse_of moment_of (λ p t. Until p t) on)
      (bind_carries o c (on_top c middle operands) end (at c from operands) (eval setting duration) (λ x. bind (eval setting time) (λ y. on (Until (lapse_of x) (moment_of y))))
      (values duration from middle operands one code) (λ x of.
      bind_carries o c (on_top c to (x ∷ operands)) end (at c middle (x ∷ operands)) (eval setting time) (λ y. on (Until (lapse_of x) (moment_of y)))
      (values time middle to (x ∷ operands) two more.1) (λ y of. all (x ∷ y ∷ []) refl)))
  ended_carries end from middle to duration (Some (OfDuring lasting)) form operands on one two code more carries =
      let all : RepeatThen end to operands on again.During = subst (RepeatThen end to operands on) more.0 carries in
      alike_does end (at c from operands) (bind (eval setting duration) (λ x. bind (eval setting lasting) (λ y. on (During (lapse_of x) (lapse_of y)))))
      (bind (bind (lapse setting duration) (λ p. with_end setting (Some (OfDuring lasting)) p)) on)
      (told_of_two (eval setting duration) (eval setting lasting) lapse_of lapse_of (λ p t. During p t) on)
      (bind_carries o c (on_top c middle operands) end (at c from operands) (eval setting duration) (λ x. bind (eval setting lasting) (λ y. on (During (lapse_of x) (lapse_of y))))
      (values duration from middle operands one code) (λ x of.
      bind_carries o c (on_top c to (x ∷ operands)) end (at c middle (x ∷ operands)) (eval setting lasting) (λ y. on (During (lapse_of x) (lapse_of y)))
      (values lasting middle to (x ∷ operands) two more.1) (λ y of. all (x ∷ y ∷ []) refl)))

  period_carries : {X : Type 0} (end : End X) (from to : ℕ) (period : Option PlainPeriod) (form : RepeatForm) (operands : List Cell) (on : Repeat → Does X) → FinePeriod period →
      PeriodAt setting (code_of o c.routine) from period form to → RepeatThen end to operands on form → Carries o c end (at c from operands) (bind (repeat_of setting period) on)
  period_carries end from to None form operands on fine code carries =
      let all : RepeatThen end to operands on again.Once = subst (RepeatThen end to operands on) code.0 carries in
      subst (λ place. Carries o c end (at c place operands) (on Once)) code.1 (all [] refl)
  period_carries end from to (Some period) form operands on fine code carries =
      ended_carries end from code.0 to period.duration period.end form operands on fine.0 fine.1 code.1 code.2 carries

  abbrev pub FinePriority : Option PlainExpr → Type 0
  FinePriority None = Unit {0}
  FinePriority (Some e) = Fine e

  abbrev PriorityThen : {X : Type 0} (end : End X) (to : ℕ) (operands : List Cell) (on : Option ℤ → Does X) → Bool → Type 0
  PriorityThen end to operands on given = (xs : List Cell) → length xs ≡ priority_count given → Carries o c end (at c to (pushed xs operands)) (on (urgent_of given xs))

  urgent_carries : {X : Type 0} (end : End X) (from to : ℕ) (priority : Option PlainExpr) (given : Bool) (operands : List Cell) (on : Option ℤ → Does X) → FinePriority priority →
      PriorityAt setting (code_of o c.routine) from priority given to → PriorityThen end to operands on given → Carries o c end (at c from operands) (bind (priority_of setting priority) on)
  urgent_carries end from to None given operands on fine code carries =
      let all : PriorityThen end to operands on false = subst (PriorityThen end to operands on) code.0 carries in
      subst (λ place. Carries o c end (at c place operands) (on None)) code.1 (all [] refl)
  urgent_carries end from to (Some e) given operands on fine code carries =
      let all : PriorityThen end to operands on true = subst (PriorityThen end to operands on) code.0 carries in
      alike_does end (at c from operands) (bind (eval setting e) (λ x. on (Some (number_of x)))) (bind (priority_of setting (Some e)) on)
      (told (eval setting e) (λ x. Some (number_of x)) on)
      (bind_carries o c (on_top c to operands) end (at c from operands) (eval setting e) (λ x. on (Some (number_of x))) (values e from to operands fine code.1) (λ x of. all (x ∷ []) refl))

-- THE STATEMENTS

pushed_more : (xs ys operands : List Cell) → pushed ys (pushed xs operands) ≡ pushed (xs ++ ys) operands
pushed_more [] ys operands = refl
pushed_more (x ∷ xs) ys operands = pushed_more xs ys (x ∷ operands)

all_true : (one two three : Bool) → one ≡ true → two ≡ true → three ≡ true → (one && two && three) ≡ true
all_true one two three a b d = rw (a, b, d) refl

first_false : (one two three : Bool) → one ≡ false → (one && two && three) ≡ false
first_false one two three a = rw a refl

second_false : (one two three : Bool) → one ≡ true → two ≡ false → (one && two && three) ≡ false
second_false one two three a b = rw (a, b) refl

third_false : (one two three : Bool) → one ≡ true → two ≡ true → three ≡ false → (one && two && three) ≡ false
third_false one two three a b d = rw (a, b, d) refl

module _ (o : Object) (c : Context) (place to leave : ℕ) (returns : Option Kind) (next_is : to ≡ place + 1) where
  abbrev end : End Flow
  end = ways c to leave returns

  -- a value is out of its range
  out_meets : (offered : Action) (test : Bool) (operands cells : List Cell) (more : List (List Cell)) (task : ℕ) (rest : List Answer) → test ≡ false →
      let f = frame_at c place operands cells in let lower = stack c.callers more in
      RowMeets o c end (f ∷ lower) (traps Range f lower) rest (acts_if test offered (record { task = task; frames = cells ∷ more }) rest)
  out_meets offered test operands cells more task rest e =
      let f = frame_at c place operands cells in let lower = stack c.callers more in
      subst (λ test. RowMeets o c end (f ∷ lower) (traps Range f lower) rest (acts_if test offered (record { task = task; frames = cells ∷ more }) rest)) (sym e)
      (stops_meets o c end (f ∷ lower) Range rest)

  -- all are in their ranges
  in_meets : (offered : Action) (test : Bool) (operands cells : List Cell) (more : List (List Cell)) (task : ℕ) (rest : List Answer) →
      IsStoreOf o c (record { task = task; frames = cells ∷ more }) → test ≡ true →
      let f = frame_at c place operands cells in let lower = stack c.callers more in
      RowMeets o c end (f ∷ lower) (steps.acts offered f lower []) rest (acts_if test offered (record { task = task; frames = cells ∷ more }) rest)
  in_meets offered test operands cells more task rest of e =
      let f = frame_at c place operands cells in let lower = stack c.callers more in let store : Store = record { task = task; frames = cells ∷ more } in
      subst (λ test. RowMeets o c end (f ∷ lower) (steps.acts offered f lower []) rest (acts_if test offered store rest)) (sym e)
      (subst (λ next. RowMeets o c end (f ∷ lower) (Offers offered (λ answer. frame_at c next [] cells ∷ lower)) rest (acts offered store rest)) next_is
      (asked_meets o c end (f ∷ lower) offered (λ answer. frame_at c to [] cells ∷ lower) store (λ answer. gives Normal) rest
      (λ answer left. (normal_carries o c to leave returns).over store left of)))

  -- a start by itself
  starts_meets : (form : StartForm) (xs : List Cell) (act_on : Start → Action) (operands cells : List Cell) (more : List (List Cell)) (task : ℕ) (rest : List Answer) →
      length xs ≡ length (start_kinds form) → operands ≡ pushed xs [] → IsStoreOf o c (record { task = task; frames = cells ∷ more }) →
      let f = frame_at c place operands cells in let lower = stack c.callers more in
      RowMeets o c end (f ∷ lower) (steps.taken (length (start_kinds form)) operands (λ values left. started form values f lower (λ when rest. steps.acts (act_on when) f lower left))) rest
      (acts_if (is_start (when_of form xs)) (act_on (when_of form xs)) (record { task = task; frames = cells ∷ more }) rest)
  starts_meets form xs act_on operands cells more task rest long is of =
      let f = frame_at c place operands cells in let lower = stack c.callers more in let store : Store = record { task = task; frames = cells ∷ more } in
      let when = when_of form xs in let m = acts_if (is_start when) (act_on when) store rest in
      let go : List Cell → List Cell → Step = λ values left. started form values f lower (λ when rest. steps.acts (act_on when) f lower left) in
      let row_is : steps.taken (length (start_kinds form)) operands go ≡ go (xs ++ []) [] =
      ap (λ operands. steps.taken (length (start_kinds form)) operands go) is ∙ taken_pushed (length (start_kinds form)) xs [] go (sym long) ∙ ap (λ xs. go xs []) (sym (append-nil xs)) in
      subst (λ step. RowMeets o c end (f ∷ lower) step rest m) (sym row_is)
      (start_case (λ step. RowMeets o c end (f ∷ lower) step rest m) (missing_meets o c end (f ∷ lower) rest m) f lower form xs [] (λ when rest. steps.acts (act_on when) f lower []) long
      (λ e. in_meets (act_on when) (is_start when) operands cells more task rest of e) (λ e. out_meets (act_on when) (is_start when) operands cells more task rest e))

  -- a start, a repetition and a priority
  activate_meets : (task_number : ℕ) (form : StartForm) (how : RepeatForm) (given : Bool) (ws ps us : List Cell) (operands cells : List Cell) (more : List (List Cell)) (task : ℕ) (rest : List Answer) →
      length ws ≡ length (start_kinds form) → length ps ≡ length (repeat_kinds how) → length us ≡ priority_count given →
      operands ≡ pushed us (pushed ps (pushed ws [])) → IsStoreOf o c (record { task = task; frames = cells ∷ more }) →
      let f = frame_at c place operands cells in let lower = stack c.callers more in
      RowMeets o c end (f ∷ lower) (activate (record { task = task_number; start = form; repeat = how; priority = given }) f lower) rest
      (acts_if (is_start (when_of form ws) && is_repeat (how_of how ps) && is_priority (urgent_of given us))
      (action.Activate task_number (when_of form ws) (how_of how ps) (option_map unsigned_abs (urgent_of given us))) (record { task = task; frames = cells ∷ more }) rest)
  activate_meets number form how given ws ps us operands cells more task rest one two three is of =
      let f = frame_at c place operands cells in let lower = stack c.callers more in let store : Store = record { task = task; frames = cells ∷ more } in
      let when = when_of form ws in let repeating = how_of how ps in let urgent = urgent_of given us in
      let offered : Action = action.Activate number when repeating (option_map unsigned_abs urgent) in
      let test = is_start when && is_repeat repeating && is_priority urgent in
      let m = acts_if test offered store rest in
      let last : List Cell → Start → Repeat → Option ℕ → Step = λ left when how priority. steps.acts (action.Activate number when how priority) f lower left in
      let go : List Cell → List Cell → Step = λ values left. started form values f lower (λ when more.
      repeated how more f lower (λ how rest. with_priority given rest f lower (last left when how))) in
      let all = ws ++ (ps ++ us) in
      let count = activation_count (record { task = number; start = form; repeat = how; priority = given }) in
      let lengths = length-append ws (ps ++ us) in let lengths_behind = length-append ps us in
      let count_is : count ≡ length all = omega (arith, one, two, three, lengths, lengths_behind) in
      let lie : operands ≡ pushed all [] = is ∙ ap (λ below. pushed us below) (pushed_more ws ps []) ∙ pushed_more (ws ++ ps) us [] ∙ ap (λ xs. pushed xs []) (append_assoc ws ps us) in
      let row_is : steps.taken count operands go ≡ go all [] = ap (λ operands. steps.taken count operands go) lie ∙ taken_pushed count all [] go count_is in
      let lost = missing_meets o c end (f ∷ lower) rest m in
      subst (λ step. RowMeets o c end (f ∷ lower) step rest m) (sym row_is)
      (start_case (λ step. RowMeets o c end (f ∷ lower) step rest m) lost f lower form ws (ps ++ us)
      (λ when more. repeated how more f lower (λ how rest. with_priority given rest f lower (last [] when how))) one
      (λ e. repeat_case (λ step. RowMeets o c end (f ∷ lower) step rest m) lost f lower how ps us
      (λ how rest. with_priority given rest f lower (last [] when how)) two
      (λ e2. priority_case (λ step. RowMeets o c end (f ∷ lower) step rest m) lost f lower given us (last [] when repeating) three
      (λ e3. in_meets offered test operands cells more task rest of (all_true (is_start when) (is_repeat repeating) (is_priority urgent) e e2 e3))
      (λ e3. out_meets offered test operands cells more task rest (third_false (is_start when) (is_repeat repeating) (is_priority urgent) e e2 e3)))
      (λ e2. out_meets offered test operands cells more task rest (second_false (is_start when) (is_repeat repeating) (is_priority urgent) e e2)))
      (λ e. out_meets offered test operands cells more task rest (first_false (is_start when) (is_repeat repeating) (is_priority urgent) e)))

module _ (o : Object) (c : Context) (setting : Setting) (Fine : PlainExpr → Type 0) (values : (e : PlainExpr) (from to : ℕ) (operands : List Cell) → Fine e →
    ExprAt setting.program (code_of o c.routine) from e to → Carries o c (on_top c to operands) (at c from operands) (eval setting e)) (from to leave : ℕ) where
  abbrev end_of : End Flow
  end_of = ways c to leave setting.result

  pub activates_carries : (task : ℕ) (begin : Option PlainStart) (period : Option PlainPeriod) (priority : Option PlainExpr) →
      FineStart o c setting Fine values begin → FinePeriod o c setting Fine values period → FinePriority o c setting Fine values priority →
      ActivateAt setting (code_of o c.routine) from task begin period priority to → Carries o c end_of (at c from []) (activates setting task begin period priority)
  activates_carries task begin period priority one two three code =
      let form = code.0 in let how = code.1 in let given = code.2 in let begun = code.3 in let repeated_to = code.4 in let place = code.5 in
      when_carries o c setting Fine values end_of from begun begin form [] (λ when. bind (repeat_of setting period) (λ how. bind (priority_of setting priority) (λ urgent.
      acts_if (is_start when && is_repeat how && is_priority urgent) (action.Activate task when how (option_map unsigned_abs urgent))))) one code.6 (λ ws long.
      period_carries o c setting Fine values end_of begun repeated_to period how (pushed ws []) (λ how. bind (priority_of setting priority) (λ urgent.
      acts_if (is_start (when_of form ws) && is_repeat how && is_priority urgent) (action.Activate task (when_of form ws) how (option_map unsigned_abs urgent)))) two code.7 (λ ps longer.
      urgent_carries o c setting Fine values end_of repeated_to place priority given (pushed ps (pushed ws [])) (λ urgent.
      acts_if (is_start (when_of form ws) && is_repeat (how_of how ps) && is_priority urgent) (action.Activate task (when_of form ws) (how_of how ps) (option_map unsigned_abs urgent))) three code.8 (λ us longest.
      let operands = pushed us (pushed ps (pushed ws [])) in
      let test = is_start (when_of form ws) && is_repeat (how_of how ps) && is_priority (urgent_of given us) in
      let does = acts_if test (action.Activate task (when_of form ws) (how_of how ps) (option_map unsigned_abs (urgent_of given us))) in
      instr_carries o c end_of place operands (instr.Activate (record { task = task; start = form; repeat = how; priority = given })) does code.9 (λ own cells more rest of.
      activate_meets o c place to leave setting.result code.10 task form how given ws ps us operands cells more own rest long longer longest refl of))))

  pub continues_carries : (task : ℕ) (later : Option PlainOnce) → FineLater o c setting Fine values later → ContinueAt setting (code_of o c.routine) from task later to →
      Carries o c end_of (at c from []) (continues setting task later)
  continues_carries task later fine code =
      let form = code.0 in let place = code.1 in
      maybe_carries o c setting Fine values end_of from place later form [] (λ when. acts_if (is_start when) (action.Continue task when)) fine code.2 (λ ws long.
      let does = acts_if (is_start (when_of (start_or_free form) ws)) (action.Continue task (when_of (start_or_free form) ws)) in
      instr_carries o c end_of place (pushed ws []) (instr.Continue (record { task = task; once = form })) does code.3 (λ own cells more rest of.
      starts_meets o c place to leave setting.result code.4 (start_or_free form) ws (λ when. action.Continue task when) (pushed ws []) cells more own rest long refl of))

  pub resumes_carries : (later : PlainOnce) → FineOnce o c setting Fine values later → ResumeAt setting (code_of o c.routine) from later to →
      Carries o c end_of (at c from []) (resumes setting later)
  resumes_carries later fine code =
      let form = code.0 in let place = code.1 in
      later_carries o c setting Fine values end_of from place later form [] (λ when. acts_if (is_start when) (action.Resume when)) fine code.2 (λ ws long.
      let does = acts_if (is_start (when_of (as_start form) ws)) (action.Resume (when_of (as_start form) ws)) in
      instr_carries o c end_of place (pushed ws []) (instr.Resume form) does code.3 (λ own cells more rest of.
      starts_meets o c place to leave setting.result code.4 (as_start form) ws (λ when. action.Resume when) (pushed ws []) cells more own rest long refl of))
