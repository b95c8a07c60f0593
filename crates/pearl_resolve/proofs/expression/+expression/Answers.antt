use Rattle.std.proofs.Common.{◌≡◌, map, sym, ap, ◌∙◌}
use Rattle.pearl_tree.specs.declared.expression.Ref.{Ref}
use Rattle.pearl_tree.specs.ShownExpressions.{shown_expr, shown_primary, shown_selector, shown_expr_list, shown_ref}
use Rattle.pearl_names.specs.Holding.{parameter_of}
use Rattle.pearl_check_expr.proofs.Offered.{subscripts_shown, ref_shown, limit_shown}
use Rattle.pearl_names.proofs.Offered.{all_taken}
use Rattle.pearl_program.specs.PlainExpressions.{plain_argument}
use Rattle.pearl_resolve.specs.Expressions.{first_arguments, handed, joined_exprs, limit_of, resolve_expr, resolve_exprs, resolve_primary, resolve_arguments, step, walked}
use Rattle.pearl_resolve.specs.Holding.{is_ident_at, parameters_in}
use Rattle.pearl_resolve.proofs.Loops.{exprs_more, exprs_all, arguments_more, arguments_all, along_more}
use Rattle.pearl_resolve.proofs.expression.«+expression».Goals as goal

pub resolve_primary-returns-in_ok-e-in-Ref : goal.resolve_primary-returns-in_ok-e-in-Ref
resolve_primary-returns-in_ok-e-in-Ref t c = λ of holds.
    c.in_ok-e-in-Ref.ensures of holds ∙ sym (ap (λ p. resolve_primary of c.args.view (shown_primary p)) c.in-Ref.is ∙ ap (resolve_primary of c.args.view) (ref_shown c.in-Ref.reference))

pub resolve_primary-returns-in_ok-e-in-Limit : goal.resolve_primary-returns-in_ok-e-in-Limit
resolve_primary-returns-in_ok-e-in-Limit t c = λ of holds.
    let array = c.in-Limit.array in
    c.in_ok-e-in-Limit.ensures of holds
    ∙ ap (λ (a : Ref). limit_of c.in-Limit.dimension c.in-Limit.side (walked of c.args.view (shown_ref a))) c.deref-in-Limit.ensures
    ∙ sym (ap (λ p. resolve_primary of c.args.view (shown_primary p)) c.in-Limit.is
    ∙ ap (resolve_primary of c.args.view) (limit_shown c.in-Limit.dimension c.in-Limit.side array c.in-Limit.place))

pub add_exprs-loop-expr-preserved : goal.add_exprs-loop-expr-preserved
add_exprs-loop-expr-preserved t c = λ of holds.
    rw c.in_ok-push.ensures.items (exprs_more of c.args.view c.args.exprs.now _ c.expr-item.result c.in_ok-e.e c.loop-expr.expr-index _
    c.loop-expr-test.true c.expr-item.is (c.in_ok-e.ensures of holds) (c.loop-expr.invariant of holds))

pub add_exprs-returns : goal.add_exprs-returns
add_exprs-returns t c = λ of holds.
    exprs_all of c.args.view c.args.exprs.now _ c.loop-expr.expr-index _ c.loop-expr-test.false (c.loop-expr.invariant of holds)

pub resolve_arguments-loop-index-preserved : goal.resolve_arguments-loop-index-preserved
resolve_arguments-loop-index-preserved t c = λ of holds.
    let parameters = map parameter_of c.args.parameters.now in
    let x = c.index-exprs-index.result in
    let made : plain_argument c.handed.result ≡ handed (is_ident_at parameters c.loop-index.index) (resolve_expr of c.args.view (shown_expr x)) =
    c.handed.ensures ∙ (λ i. handed (c.is_ident.ensures i) (c.in_ok-e.ensures of holds i)) in
    rw c.in_ok-push.ensures.items (arguments_more of c.args.view parameters c.args.exprs.now _ x c.handed.result c.loop-index.index _
    c.loop-index-test.true c.index-exprs-index.is made (c.loop-index.invariant of holds))

pub resolve_arguments-returns : goal.resolve_arguments-returns
resolve_arguments-returns t c = λ of holds.
    arguments_all of c.args.view (map parameter_of c.args.parameters.now) c.args.exprs.now _ c.loop-index.index _ c.loop-index-test.false (c.loop-index.invariant of holds)

pub go_along-loop-selector-preserved : goal.go_along-loop-selector-preserved
go_along-loop-selector-preserved t c = λ of holds from walks.
    let xs = c.args.selectors.now in
    let i = c.loop-selector.selector-index in
    rw (along_more of c.args.view from xs i c.selector-item.result c.loop-selector-test.true c.selector-item.is)
    (c.in_ok-step.ensures of holds _ (c.loop-selector.invariant of holds from walks))

pub go_along-returns : goal.go_along-returns
go_along-returns t c = λ of holds from walks.
    rw (← all_taken c.args.selectors.now c.loop-selector.selector-index c.loop-selector-test.false) (c.loop-selector.invariant of holds from walks)

pub first_arguments-returns-in_ok-arguments-in-Subscripts : goal.first_arguments-returns-in_ok-arguments-in-Subscripts
first_arguments-returns-in_ok-arguments-in-Subscripts t c = λ of holds.
    let view = c.args.view in
    let parameters = parameters_in c.args.signature.now in
    c.in_ok-arguments-in-Subscripts.ensures of holds
    ∙ (λ i. resolve_arguments of view (map parameter_of (c.as_slice-parameters.ensures.value i)) (shown_expr_list (c.as_slice-exprs.ensures i)))
    ∙ sym (ap (λ s. first_arguments of view parameters (shown_selector s)) c.in-Subscripts.is
    ∙ ap (first_arguments of view parameters) (subscripts_shown c.in-Subscripts.subscripts c.in-Subscripts.place))

pub step-returns-in_ok-add_exprs-in-Subscripts : goal.step-returns-in_ok-add_exprs-in-Subscripts
step-returns-in_ok-add_exprs-in-Subscripts t c = λ of holds from walks.
    let view = c.args.view in
    let e : step of view from (shown_selector c.args.selector.now) ≡
    record from { subscripts = joined_exprs from.subscripts (resolve_exprs of view (shown_expr_list c.as_slice-exprs.result.now)) } =
    ap (λ s. step of view from (shown_selector s)) c.in-Subscripts.is
    ∙ ap (step of view from) (subscripts_shown c.in-Subscripts.subscripts c.in-Subscripts.place)
    ∙ ap (λ xs. record from { subscripts = joined_exprs from.subscripts (resolve_exprs of view (shown_expr_list xs)) }) (sym c.as_slice-exprs.ensures) in
    rw e (record {
      target = walks.target;
      part = walks.part;
      bounds = walks.bounds;
      subscripts = c.in_ok-add_exprs-in-Subscripts.ensures of holds
          ∙ ap (λ s. joined_exprs s (resolve_exprs of view (shown_expr_list c.as_slice-exprs.result.now))) walks.subscripts;
    })
