use Rattle.std.proofs.Common.{◌≡◌, IfOk, sym, subst, ap, ◌∙◌}
use Rattle.pearl_program.specs.declared.statement.If.{If}
use Rattle.pearl_program.specs.declared.statement.Case.{Case}
use Rattle.pearl_program.specs.declared.statement.Repeat.{Repeat}
use Rattle.pearl_program.specs.PlainStatements.{plain_stmt}
use Rattle.pearl_program.specs.Weights.{greatest}
use Rattle.pearl_gen_stmt.specs.Emission.{plain_if, plain_case, plain_repeat}
use Rattle.pearl_gen_stmt.proofs.Offered.{if_plain, case_plain, repeat_plain}
use Rattle.pearl_generate.specs.Needs.{need_of}
use Rattle.pearl_generate.proofs.statement.«+statement».Goals as goal

pub stmt_need-returns-in-If : goal.stmt_need-returns-in-If
stmt_need-returns-in-If t c =
    let weights = c.args.weights.now in
    subst (λ s. IfOk c.if_need.result (λ need. need ≡ need_of weights (λ sizes. greatest sizes s))) (sym (ap plain_stmt c.in-If.is ∙ if_plain c.in-If.part))
    (subst (λ (part : If). IfOk c.if_need.result (λ need. need ≡ need_of weights (λ sizes. greatest sizes (plain_if part)))) c.deref-in-If.ensures c.if_need.ensures)

pub stmt_need-returns-in-Case : goal.stmt_need-returns-in-Case
stmt_need-returns-in-Case t c =
    let weights = c.args.weights.now in
    subst (λ s. IfOk c.case_need.result (λ need. need ≡ need_of weights (λ sizes. greatest sizes s))) (sym (ap plain_stmt c.in-Case.is ∙ case_plain c.in-Case.part))
    (subst (λ (part : Case). IfOk c.case_need.result (λ need. need ≡ need_of weights (λ sizes. greatest sizes (plain_case part)))) c.deref-in-Case.ensures c.case_need.ensures)

pub stmt_need-returns-in-Repeat : goal.stmt_need-returns-in-Repeat
stmt_need-returns-in-Repeat t c =
    let weights = c.args.weights.now in
    subst (λ s. IfOk c.repeat_need.result (λ need. need ≡ need_of weights (λ sizes. greatest sizes s))) (sym (ap plain_stmt c.in-Repeat.is ∙ repeat_plain c.in-Repeat.part))
    (subst (λ (part : Repeat). IfOk c.repeat_need.result (λ need. need ≡ need_of weights (λ sizes. greatest sizes (plain_repeat part)))) c.deref-in-Repeat.ensures c.repeat_need.ensures)
