-- Part behind part: the code of what is done to tasks, and of when.
use Rattle.std.proofs.Common.{◌≡◌, ℕ, Bool, List, [], ◌∷◌, ◌++◌, length, Option, Some, refl, ap, ◌∙◌}
use Rattle.pearl_program.specs.PlainExpressions.{PlainExpr}
use Rattle.pearl_program.specs.PlainStatements.{PlainStart, PlainOnce, PlainPeriod}
use Rattle.pearl_meaning.specs.Setting.{Setting}
use Rattle.pearl_instructions.specs.declared.schedule.OnceForm.{OnceForm}
use Rattle.pearl_instructions.specs.declared.schedule.StartForm.{StartForm}
use Rattle.pearl_instructions.specs.declared.schedule.RepeatForm.{RepeatForm}
use Rattle.pearl_instructions.specs.declared.instr.Activation.{Activation}
use Rattle.pearl_instructions.specs.declared.instr.Continuation.{Continuation}
use Rattle.pearl_instructions.specs.declared.instr.Instr.{Instr}
use Rattle.pearl_instructions.specs.declared.instr.Instr.TheVariants as instr
use Rattle.pearl_gen_expr.specs.ExprCode.{ExprAt}
use Rattle.pearl_gen_expr.specs.Emitting.{Extends, EmitsExpr}
use Rattle.pearl_gen_expr.proofs.Offered.{one_longer}
use Rattle.pearl_gen_stmt.specs.StmtCode.{WhenAt, LaterAt, MaybeLaterAt, PeriodEndAt, PeriodAt, PriorityAt, ActivateAt, ContinueAt, ResumeAt}
use Rattle.pearl_gen_stmt.specs.Emission.{Adds}
use Rattle.pearl_gen_stmt.proofs.Adding.{stays_on, stays_one, last_stays}
use Rattle.pearl_gen_stmt.proofs.Keeping.{kept_expr}

module _ (setting : Setting) (old one : List Instr) where
  pub expr_adds : (e : PlainExpr) → EmitsExpr setting.program e old one → Adds (λ code from to. ExprAt setting.program code from e to) old one
  expr_adds e is final stays = kept_expr setting.program one final stays e (length old) (length one) is

  pub period_adds : (two : List Instr) (period : PlainPeriod) (form : RepeatForm) → EmitsExpr setting.program period.duration old one → Extends one two →
      Adds (λ code from to. PeriodEndAt setting code from period.end form to) one two → Adds (λ code from to. PeriodAt setting code from (Some period) form to) old two
  period_adds two period form is kept ends final stays = (length one, expr_adds period.duration is final (stays_on one two final kept stays), ends final stays)

  pub activate_adds : (two three four : List Instr) (task : ℕ) (begin : Option PlainStart) (period : Option PlainPeriod) (priority : Option PlainExpr)
      (form : StartForm) (how : RepeatForm) (given : Bool) (box : Activation) → Adds (λ code from to. WhenAt setting code from begin form to) old one →
      Extends one two → Adds (λ code from to. PeriodAt setting code from period how to) one two → Extends two three →
      Adds (λ code from to. PriorityAt setting code from priority given to) two three → box ≡ record { task = task; start = form; repeat = how; priority = given } →
      four ≡ three ++ instr.Activate box ∷ [] → Adds (λ code from to. ActivateAt setting code from task begin period priority to) old four
  activate_adds two three four task begin period priority form how given box when kept repeats more urgent same last final stays =
      let next = instr.Activate (record { task = task; start = form; repeat = how; priority = given }) in
      let last : four ≡ three ++ next ∷ [] = last ∙ ap (λ a. three ++ instr.Activate a ∷ []) same in
      let third = stays_one three four next last final stays in
      let second = stays_on two three final more third in (
        form,
        how,
        given,
        length one,
        length two,
        length three,
        when final (stays_on one two final kept second),
        repeats final second,
        urgent final third,
        last_stays three four next last final stays refl,
        one_longer three four next last,
      )

  pub continue_adds : (two : List Instr) (task : ℕ) (later : Option PlainOnce) (form : Option OnceForm) (box : Continuation) →
      Adds (λ code from to. MaybeLaterAt setting code from later form to) old one → box ≡ record { task = task; once = form } →
      two ≡ one ++ instr.Continue box ∷ [] → Adds (λ code from to. ContinueAt setting code from task later to) old two
  continue_adds two task later form box when same last final stays =
      let next = instr.Continue (record { task = task; once = form }) in
      let last : two ≡ one ++ next ∷ [] = last ∙ ap (λ c. one ++ instr.Continue c ∷ []) same in (
        form,
        length one,
        when final (stays_one one two next last final stays),
        last_stays one two next last final stays refl,
        one_longer one two next last,
      )

  pub resume_adds : (two : List Instr) (later : PlainOnce) (form : OnceForm) → Adds (λ code from to. LaterAt setting code from later form to) old one →
      two ≡ one ++ instr.Resume form ∷ [] → Adds (λ code from to. ResumeAt setting code from later to) old two
  resume_adds two later form when last final stays = (
    form,
    length one,
    when final (stays_one one two (instr.Resume form) last final stays),
    last_stays one two (instr.Resume form) last final stays refl,
    one_longer one two (instr.Resume form) last,
  )
