-- No rule of the validator fails in ACTIVATE, CONTINUE and RESUME.
use Rattle.std.proofs.Common.{◌≡◌, ℕ, ◌+◌, ◌<◌, ◌≤◌, Bool, true, List, [], ◌∷◌, ◌++◌, Option, Some, None, slice_get, length, map, refl, sym, ap, ◌∙◌, subst, arith}
use Rattle.std.proofs.lemmas.List.{length-map}
use Rattle.pearl_value.specs.declared.kind.Kind.{Kind}
use Rattle.pearl_value.specs.declared.kind.Kind.TheVariants as kind_
use Rattle.pearl_value.specs.declared.kind.CellKind.TheVariants.{Plain}
use Rattle.pearl_value.specs.declared.device.Device.{Device}
use Rattle.pearl_value.specs.declared.device.Device.TheVariants.{Interrupt, Terminal, Input, Output}
use Rattle.pearl_program.specs.PlainExpressions.{PlainExpr}
use Rattle.pearl_program.specs.PlainStatements.{PlainPeriodEnd, OfUntil, OfDuring, PlainPeriod, PlainStart, OfAt, OfAfter, OfWhen, OfWhenAfter, PlainOnce, OnceAt, OnceAfter, OnceWhen}
use Rattle.pearl_program.specs.Typing.{Around, HasKind}
use Rattle.pearl_program.specs.Weights.{Sizes, values, of_expr, of_if}
use Rattle.pearl_meaning.specs.ProgramRuns.{entry_of}
use Rattle.pearl_gen_expr.specs.Tables.{code_entry}
use Rattle.pearl_meaning.specs.Setting.{Setting}
use Rattle.pearl_instructions.specs.declared.instr.Instr.{Instr}
use Rattle.pearl_instructions.specs.declared.object.Code.{Code}
use Rattle.pearl_instructions.specs.declared.object.Parts.{Parts as Object}
use Rattle.pearl_instructions.specs.Operands.{Shape}
use Rattle.pearl_gen_expr.specs.ExprCode.{ExprAt}
use Rattle.pearl_gen_expr.specs.Shapes.{Keeps, handed}
use Rattle.pearl_gen_expr.proofs.Offered.{some_values, both_keep, handed_length, then_one}
use Rattle.pearl_faithful.proofs.StatementsStand.{Stands, devices_there}
use Rattle.pearl_faithful.proofs.Quiet.{stays, IsWhole}
use Rattle.pearl_faithful.proofs.Small.{IsSmall, left, right}
use Rattle.pearl_faithful.proofs.Kept.{expr_keep}
use Rattle.pearl_program.specs.Typing.{IsFixed}
use Rattle.pearl_program.specs.SoundStatements.{IsIf, IsInterruptDevice, IsInterrupt, IsStart, IsPeriod, IsPeriodEnd, IsOnce, IsActivate}
use Rattle.pearl_program.specs.Weights.{of_start, of_once, of_period, of_period_end}
use Rattle.pearl_instructions.specs.declared.schedule.OnceForm.{OnceForm}
use Rattle.pearl_instructions.specs.declared.schedule.StartForm.{StartForm}
use Rattle.pearl_instructions.specs.declared.schedule.RepeatForm.{RepeatForm}
use Rattle.pearl_instructions.specs.Offers.{as_start, start_or_free, start_kinds, repeat_kinds}
use Rattle.pearl_instructions.specs.Named.{is_interrupt, names_interrupt}
use Rattle.pearl_gen_stmt.specs.StmtCode.{WhenAt, LaterAt, MaybeLaterAt, PeriodEndAt, PeriodAt, PriorityAt, ActivateAt, ContinueAt, ResumeAt}
use Rattle.pearl_faithful.proofs.TakingValues.{handed_both, urgent_shape, activate_keeps, continue_keeps, resume_keeps}

pub interrupt_is : (found : Option Device) → IsInterruptDevice found → is_interrupt found ≡ true
interrupt_is (Some (Interrupt number)) is = refl
interrupt_is (Some (Terminal number direction)) is = absurd is
interrupt_is (Some (Input number of)) is = absurd is
interrupt_is (Some (Output number of)) is = absurd is
interrupt_is None is = absurd is

mapped_both : (one two : List Kind) → map Plain (one ++ two) ≡ map Plain one ++ map Plain two
mapped_both [] two = refl
mapped_both (kind ∷ one) two = ap (λ rest. Plain kind ∷ rest) (mapped_both one two)

module _ (o : Object) (r : ℕ) (code : Code) (setting : Setting) (below most need : ℕ) (whole : IsWhole o code) (room : length code.cells + (need + 2) + most ≤ code.depth)
    (around : Around) (stands : Stands o r code setting around below) where
  abbrev instrs : List Instr
  instrs = code.instructions

  abbrev Fit : (Sizes → ℕ) → Type 0
  Fit of = IsSmall o below most need of

  abbrev Goes : (from to : ℕ) (before after : Shape) → Type 0
  Goes from to before after = Keeps o r code from to before after

  expr : (e : PlainExpr) (kind : Kind) (from to : ℕ) (s : Shape) → HasKind around e kind → Fit (λ z. of_expr z e) → length s + of_expr values e ≤ need + 2 →
      ExprAt setting.program instrs from e to → Goes from to s (Plain kind ∷ s)
  expr = expr_keep o r code setting below most need whole room around stands

  -- an interrupt of the program is one of the object
  pub interrupt_there : (number : ℕ) → IsInterrupt around number → is_interrupt (slice_get o.devices number) ≡ true
  interrupt_there number is =
      ap is_interrupt (devices_there o r code setting around below stands number) ∙ interrupt_is (slice_get around.devices number) is

  -- values of these kinds are pushed, at most so many
  abbrev Plans : (from to n : ℕ) (s : Shape) → List Kind → Type 0
  Plans from to n s kinds = Goes from to s (handed (map Plain kinds) s) × (length kinds ≤ n)

  single : (e : PlainExpr) (kind : Kind) (from to : ℕ) (s : Shape) → HasKind around e kind → Fit (λ z. of_expr z e) → length s + of_expr values e ≤ need + 2 →
      ExprAt setting.program instrs from e to → Plans from to (of_expr values e) s (kind ∷ [])
  single e kind from to s typed small fits is = let some = some_values e in (expr e kind from to s typed small fits is, omega (arith, some))

  when_keep : (start : Option PlainStart) (form : StartForm) (from to : ℕ) → IsIf (IsStart around) start → Fit (λ z. of_if z (of_start z) start) → WhenAt setting instrs from start form to →
      Plans from to (of_if values (of_start values) start) [] (start_kinds form) × (names_interrupt o form ≡ true)
  when_keep start form from to typed small is = by start typed small is
    where
      by : (start : Option PlainStart) → IsIf (IsStart around) start → Fit (λ z. of_if z (of_start z) start) → WhenAt setting instrs from start form to →
          Plans from to (of_if values (of_start values) start) [] (start_kinds form) × (names_interrupt o form ≡ true)
      by None typed small is =
          subst (λ form. Plans from to 0 [] (start_kinds form) × (names_interrupt o form ≡ true)) (sym is.0) ((stays o r code from to [] is.1, omega arith), refl)
      by (Some (OfAt time)) typed small is = let few = small.2 in
          subst (λ form. Plans from to (of_expr values time) [] (start_kinds form) × (names_interrupt o form ≡ true)) (sym is.0) (single time kind_.Clock from to [] typed small (omega (arith, few)) is.1, refl)
      by (Some (OfAfter duration)) typed small is = let few = small.2 in
          subst (λ form. Plans from to (of_expr values duration) [] (start_kinds form) × (names_interrupt o form ≡ true)) (sym is.0) (single duration kind_.Span from to [] typed small (omega (arith, few)) is.1, refl)
      by (Some (OfWhen interrupt)) typed small is =
          subst (λ form. Plans from to 0 [] (start_kinds form) × (names_interrupt o form ≡ true)) (sym is.0) ((stays o r code from to [] is.1, omega arith), interrupt_there interrupt typed)
      by (Some (OfWhenAfter interrupt duration)) typed small is = let few = small.2 in
          subst (λ form. Plans from to (of_expr values duration) [] (start_kinds form) × (names_interrupt o form ≡ true)) (sym is.0)
          (single duration kind_.Span from to [] typed.1 small (omega (arith, few)) is.1, interrupt_there interrupt typed.0)

  later_keep : (later : PlainOnce) (form : OnceForm) (from to : ℕ) → IsOnce around later → Fit (λ z. of_once z later) → LaterAt setting instrs from later form to →
      Plans from to (of_once values later) [] (start_kinds (as_start form)) × (names_interrupt o (as_start form) ≡ true)
  later_keep (OnceAt time) form from to typed small is = let few = small.2 in
      subst (λ form. Plans from to (of_expr values time) [] (start_kinds (as_start form)) × (names_interrupt o (as_start form) ≡ true)) (sym is.0)
      (single time kind_.Clock from to [] typed small (omega (arith, few)) is.1, refl)
  later_keep (OnceAfter duration) form from to typed small is = let few = small.2 in
      subst (λ form. Plans from to (of_expr values duration) [] (start_kinds (as_start form)) × (names_interrupt o (as_start form) ≡ true)) (sym is.0)
      (single duration kind_.Span from to [] typed small (omega (arith, few)) is.1, refl)
  later_keep (OnceWhen interrupt) form from to typed small is =
      subst (λ form. Plans from to 0 [] (start_kinds (as_start form)) × (names_interrupt o (as_start form) ≡ true)) (sym is.0) ((stays o r code from to [] is.1, omega arith), interrupt_there interrupt typed)

  maybe_later_keep : (later : Option PlainOnce) (form : Option OnceForm) (from to : ℕ) → IsIf (IsOnce around) later → Fit (λ z. of_if z (of_once z) later) → MaybeLaterAt setting instrs from later form to →
      Plans from to (of_if values (of_once values) later) [] (start_kinds (start_or_free form)) × (names_interrupt o (start_or_free form) ≡ true)
  maybe_later_keep None form from to typed small is =
      subst (λ form. Plans from to 0 [] (start_kinds (start_or_free form)) × (names_interrupt o (start_or_free form) ≡ true)) (sym is.0) ((stays o r code from to [] is.1, omega arith), refl)
  maybe_later_keep (Some later) form from to typed small is =
      subst (λ form. Plans from to (of_once values later) [] (start_kinds (start_or_free form)) × (names_interrupt o (start_or_free form) ≡ true)) (sym is.1) (later_keep later is.0 from to typed small is.2)

  -- the duration of a repetition lies there already
  period_end_keep : (end : Option PlainPeriodEnd) (form : RepeatForm) (from to : ℕ) (s : Shape) → IsIf (IsPeriodEnd around) end → Fit (λ z. of_if z (of_period_end z) end) →
      length s + 1 + of_if values (of_period_end values) end ≤ need + 2 → PeriodEndAt setting instrs from end form to →
      Goes from to (Plain kind_.Span ∷ s) (handed (map Plain (repeat_kinds form)) s) × (length (repeat_kinds form) ≤ 1 + of_if values (of_period_end values) end)
  period_end_keep None form from to s typed small fits is =
      subst (λ form. Goes from to (Plain kind_.Span ∷ s) (handed (map Plain (repeat_kinds form)) s) × (length (repeat_kinds form) ≤ 1)) (sym is.0) (stays o r code from to (Plain kind_.Span ∷ s) is.1, omega arith)
  period_end_keep (Some (OfUntil time)) form from to s typed small fits is = let some = some_values time in
      subst (λ form. Goes from to (Plain kind_.Span ∷ s) (handed (map Plain (repeat_kinds form)) s) × (length (repeat_kinds form) ≤ 1 + of_expr values time)) (sym is.0)
      (expr time kind_.Clock from to (Plain kind_.Span ∷ s) typed small (omega (arith, fits)) is.1, omega (arith, some))
  period_end_keep (Some (OfDuring duration)) form from to s typed small fits is = let some = some_values duration in
      subst (λ form. Goes from to (Plain kind_.Span ∷ s) (handed (map Plain (repeat_kinds form)) s) × (length (repeat_kinds form) ≤ 1 + of_expr values duration)) (sym is.0)
      (expr duration kind_.Span from to (Plain kind_.Span ∷ s) typed small (omega (arith, fits)) is.1, omega (arith, some))

  period_keep : (period : Option PlainPeriod) (form : RepeatForm) (from to : ℕ) (s : Shape) → IsIf (IsPeriod around) period → Fit (λ z. of_if z (of_period z) period) →
      length s + of_if values (of_period values) period ≤ need + 2 → PeriodAt setting instrs from period form to → Plans from to (of_if values (of_period values) period) s (repeat_kinds form)
  period_keep None form from to s typed small fits is = subst (λ form. Plans from to 0 s (repeat_kinds form)) (sym is.0) (stays o r code from to s is.1, omega arith)
  period_keep (Some period) form from to s typed small fits is =
      let some = some_values period.duration in
      let rest = period_end_keep period.end form is.0 to s typed.1 (right o below most need (λ z. of_expr z period.duration) (λ z. of_if z (of_period_end z) period.end) small) (omega (arith, fits, some)) is.2 in
      let few = rest.1 in (
        both_keep o r code from is.0 to s (Plain kind_.Span ∷ s) (handed (map Plain (repeat_kinds form)) s)
            (expr period.duration kind_.Span from is.0 s typed.0 (left o below most need (λ z. of_expr z period.duration) (λ z. of_if z (of_period_end z) period.end) small) (omega (arith, fits)) is.1) rest.0,
        omega (arith, few, some),
      )

  -- a priority is pushed where one is given
  priority_keep : (e : Option PlainExpr) (given : Bool) (from to : ℕ) (s : Shape) → IsIf (IsFixed around) e → Fit (λ z. of_if z (of_expr z) e) → length s + of_if values (of_expr values) e ≤ need + 2 →
      PriorityAt setting instrs from e given to → (len : ℕ) × Goes from to s (urgent_shape given len s) × (length (urgent_shape given len s) ≤ length s + of_if values (of_expr values) e)
  priority_keep None given from to s typed small fits is =
      subst (λ given. (len : ℕ) × Goes from to s (urgent_shape given len s) × (length (urgent_shape given len s) ≤ length s + 0)) (sym is.0) (0, stays o r code from to s is.1, omega arith)
  priority_keep (Some e) given from to s typed small fits is = let some = some_values e in
      subst (λ given. (len : ℕ) × Goes from to s (urgent_shape given len s) × (length (urgent_shape given len s) ≤ length s + of_expr values e)) (sym is.0)
      (typed.0, expr e (kind_.Fixed typed.0) from to s typed.1 small fits is.1, omega (arith, some))

  long : (kinds : List Kind) (s : Shape) → length (handed (map Plain kinds) s) ≡ length kinds + length s
  long kinds s = let all = handed_length (map Plain kinds) s in let same = length-map kinds Plain in omega (arith, all, same)

  pub task_there : (task : ℕ) → task < around.tasks → task < length o.tasks
  task_there task less =
      let one = ap length stands.placed.tables.tasks in
      let two = length-map o.tasks code_entry in
      let three = length-map setting.program.tasks entry_of in
      let four = stands.tasks in
      omega (arith, less, one, two, three, four)

  pub activate_keep : (task : ℕ) (start : Option PlainStart) (period : Option PlainPeriod) (priority : Option PlainExpr) (from to : ℕ) → IsActivate around task start period priority →
      Fit (λ z. z.both (of_if z (of_start z) start) (z.both (of_if z (of_period z) period) (of_if z (of_expr z) priority))) → ActivateAt setting instrs from task start period priority to →
      Goes from to [] []
  activate_keep task start period priority from to typed small is =
      let f : Sizes → ℕ = λ z. of_if z (of_start z) start in
      let g : Sizes → ℕ = λ z. of_if z (of_period z) period in
      let h : Sizes → ℕ = λ z. of_if z (of_expr z) priority in
      let rest = right o below most need f (λ z. z.both (g z) (h z)) small in
      let sizes = small.2 in
      let begun = when_keep start is.0 from is.3 typed.starts (left o below most need f (λ z. z.both (g z) (h z)) small) is.6 in
      let one = begun.0.1 in
      let s = handed (map Plain (start_kinds is.0)) [] in
      let long_one = long (start_kinds is.0) [] in
      let again = period_keep period is.1 is.3 is.4 s typed.repeats (left o below most need g h rest) (omega (arith, sizes, one, long_one)) is.7 in
      let two = again.1 in
      let t = handed (map Plain (start_kinds is.0 ++ repeat_kinds is.1)) [] in
      let same : handed (map Plain (repeat_kinds is.1)) s ≡ t =
      sym (handed_both (map Plain (start_kinds is.0)) (map Plain (repeat_kinds is.1)) []) ∙ ap (λ kinds. handed kinds []) (sym (mapped_both (start_kinds is.0) (repeat_kinds is.1))) in
      let long_two : length t ≡ length (repeat_kinds is.1) + length s = ap length (sym same) ∙ long (repeat_kinds is.1) s in
      let urgent = priority_keep priority is.2 is.4 is.5 t typed.urgent (right o below most need g h rest) (omega (arith, sizes, one, two, long_one, long_two)) is.8 in
      let three = urgent.2 in
      let last : Goes is.5 (is.5 + 1) (urgent_shape is.2 urgent.0 t) [] =
      activate_keeps o r code whole is.5 (record { task = task; start = is.0; repeat = is.1; priority = is.2 }) urgent.0 is.9 (task_there task typed.named) begun.1
      (omega (arith, room, sizes, one, two, three, long_one, long_two)) in
      then_one o r code from is.5 to [] (urgent_shape is.2 urgent.0 t) [] is.10
      (both_keep o r code from is.4 is.5 [] t (urgent_shape is.2 urgent.0 t)
      (both_keep o r code from is.3 is.4 [] s t begun.0.0 (subst (λ after. Goes is.3 is.4 s after) same again.0)) urgent.1) last

  pub continue_keep : (task : ℕ) (later : Option PlainOnce) (from to : ℕ) → task < around.tasks → IsIf (IsOnce around) later → Fit (λ z. of_if z (of_once z) later) →
      ContinueAt setting instrs from task later to → Goes from to [] []
  continue_keep task later from to named typed small is =
      let sizes = small.2 in
      let plans = maybe_later_keep later is.0 from is.1 typed small is.2 in
      let few = plans.0.1 in
      let s = handed (map Plain (start_kinds (start_or_free is.0))) [] in
      let all = long (start_kinds (start_or_free is.0)) [] in
      then_one o r code from is.1 to [] s [] is.4 plans.0.0
      (continue_keeps o r code whole is.1 (record { task = task; once = is.0 }) is.3 (task_there task named) plans.1 (omega (arith, room, sizes, few, all)))

  pub resume_keep : (later : PlainOnce) (from to : ℕ) → IsOnce around later → Fit (λ z. of_once z later) → ResumeAt setting instrs from later to → Goes from to [] []
  resume_keep later from to typed small is =
      let sizes = small.2 in
      let plans = later_keep later is.0 from is.1 typed small is.2 in
      let few = plans.0.1 in
      let s = handed (map Plain (start_kinds (as_start is.0))) [] in
      let all = long (start_kinds (as_start is.0)) [] in
      then_one o r code from is.1 to [] s [] is.4 plans.0.0 (resume_keeps o r code whole is.1 is.0 is.3 plans.1 (omega (arith, room, sizes, few, all)))
