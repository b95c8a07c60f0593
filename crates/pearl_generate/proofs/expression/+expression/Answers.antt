use Rattle.std.proofs.Common.{◌≡◌, IfOk, sym, subst, ap, ◌∙◌}
use Rattle.pearl_program.specs.declared.expression.Variable.{Variable}
use Rattle.pearl_program.specs.declared.expression.Call.{Call}
use Rattle.pearl_program.specs.PlainExpressions.{plain_expr, plain_argument, plain_variable, plain_arguments}
use Rattle.pearl_program.specs.Weights.{of_expr, of_variable, of_argument}
use Rattle.pearl_gen_expr.proofs.Offered.{read_plain, call_plain, ident_plain}
use Rattle.pearl_generate.specs.Needs.{need_of, of_call}
use Rattle.pearl_generate.proofs.Sums.{value_beside}
use Rattle.pearl_generate.proofs.expression.«+expression».Goals as goal

pub argument_need-returns-in_ok-subscripts-in-Ident : goal.argument_need-returns-in_ok-subscripts-in-Ident
argument_need-returns-in_ok-subscripts-in-Ident t c =
    let weights = c.args.weights.now in let v = c.in-Ident.variable in
    subst (λ a. IfOk c.with.result (λ need. need ≡ need_of weights (λ sizes. of_argument sizes a))) (sym (ap plain_argument c.in-Ident.is ∙ ident_plain v))
    (value_beside weights c.in_ok-subscripts-in-Ident.subscripts c.with.result (λ sizes. of_variable sizes (plain_variable v))
    c.in_ok-subscripts-in-Ident.ensures c.with.ensures)

pub expr_need-returns-in_ok-subscripts-in-Read : goal.expr_need-returns-in_ok-subscripts-in-Read
expr_need-returns-in_ok-subscripts-in-Read t c =
    let weights = c.args.weights.now in let inner = c.in_ok-subscripts-in-Read.subscripts in let v = c.in-Read.variable.value in
    subst (λ e. IfOk c.with.result (λ need. need ≡ need_of weights (λ sizes. of_expr sizes e))) (sym (ap plain_expr c.in-Read.is ∙ read_plain c.in-Read.variable))
    (value_beside weights inner c.with.result (λ sizes. of_variable sizes (plain_variable v))
    (subst (λ (v : Variable). inner ≡ need_of weights (λ sizes. of_variable sizes (plain_variable v))) c.deref.ensures c.in_ok-subscripts-in-Read.ensures)
    c.with.ensures)

pub expr_need-returns-in_ok-called-in-Call : goal.expr_need-returns-in_ok-called-in-Call
expr_need-returns-in_ok-called-in-Call t c =
    let weights = c.args.weights.now in let inner = c.in_ok-called-in-Call.called in let call = c.in-Call.call.value in
    subst (λ e. IfOk c.with-in-Call.result (λ need. need ≡ need_of weights (λ sizes. of_expr sizes e)))
    (sym (ap plain_expr c.in-Call.is ∙ call_plain c.in-Call.call))
    (value_beside weights inner c.with-in-Call.result (of_call call.procedure (plain_arguments call.arguments.items))
    (subst (λ (call : Call). inner ≡ need_of weights (of_call call.procedure (plain_arguments call.arguments.items))) c.deref-in-Call.ensures
    c.in_ok-called-in-Call.ensures)
    c.with-in-Call.ensures)
