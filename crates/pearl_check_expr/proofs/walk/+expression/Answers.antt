use Rattle.std.proofs.Common.{◌≡◌, ◌+◌, ◌++◌, [], ◌∷◌, sym, subst, ap, ◌∙◌, refl, append-nil, take, map, length, slice_get, option_map, arith}
use Rattle.std.proofs.lemmas.List.{length-take-le}
use Rattle.pearl_tree.specs.declared.expression.Ref.{Ref}
use Rattle.pearl_tree.specs.ShownExpressions.{shown_expr, shown_primary, shown_selector, shown_expr_list, shown_selector_list, shown_ref}
use Rattle.pearl_tree.specs.ShownLiterals.{shown_literal}
use Rattle.pearl_names.specs.Holding.{parameter_of}
use Rattle.pearl_names.specs.Tables.{sense_from}
use Rattle.pearl_names.proofs.Offered.{one_taken, all_taken}
use Rattle.pearl_check_expr.specs.Standings.{walked_on, behind, variable_start, faults_of, subscripted}
use Rattle.pearl_check_expr.specs.Literals.{literal_kind}
use Rattle.pearl_check_expr.specs.Judged.{judged, judged_primary, judged_ref, along, step, judged_all, beyond, beyond_one, first_applied, arguments, argument_of, called, judged_limit}
use Rattle.pearl_check_expr.specs.Answers.{IsJudged, IsWalked, callee_in}
use Rattle.pearl_check_expr.proofs.Shown.{subscripts_shown, ref_shown, limit_shown}
use Rattle.pearl_check_expr.proofs.Walking.{AreKnown, along_push, along_from, all_length, all_push, beyond_push, arguments_push}
use Rattle.pearl_check_expr.proofs.Judging.{two_added, monadics_judged, known_more, arguments_more, called_so, element_so, walked_more}
use Rattle.pearl_check_expr.proofs.walk.«+expression».Goals as goal

pub judge-returns-in_ok-kind-in-Operand-2 : goal.judge-returns-in_ok-kind-in-Operand-2
judge-returns-in_ok-kind-in-Operand-2 t c = λ table holds.
    rw (c.in-Operand.is) (monadics_judged c.in-Operand.operand.monadics.items.items
    (judged_primary table c.args.view (shown_primary c.in-Operand.operand.primary)) _ _ _ _ _ (c.in_ok-kind-in-Operand.ensures table holds)
    (rw (← c.as_slice.ensures) c.in_ok-kind-in-Operand-2.ensures))

pub judge_all-loop-expr-preserved : goal.judge_all-loop-expr-preserved
judge_all-loop-expr-preserved t c = λ table holds.
    let xs = c.args.exprs.now in
    let x = c.expr-item.result in
    let i = c.loop-expr.expr-index in
    let e : judged_all table c.args.view (shown_expr_list (take (i + 1) xs)) ≡
    judged_all table c.args.view (shown_expr_list (take i xs)) ++ judged table c.args.view (shown_expr x) ∷ [] =
    ap (λ l. judged_all table c.args.view (shown_expr_list l)) (one_taken xs i x c.loop-expr-test.true c.expr-item.is) ∙ all_push table c.args.view (take i xs) x in
    let more = known_more _ _ _ _ _ _ (judged table c.args.view (shown_expr x)) c.in_ok-kind.kind (c.loop-expr.invariant table holds) (c.in_ok-kind.ensures table holds) in
    rw (e, c.is_fixed_or_unknown-fixed.ensures, c.is_some-known.ensures) more

pub judge_all-returns : goal.judge_all-returns
judge_all-returns t c = λ table holds.
    let known = subst (λ l. AreKnown c.loop-expr.fixed c.loop-expr.known c.args.found.now.items c.loop-expr.found.items (judged_all table c.args.view (shown_expr_list l)))
    (all_taken c.args.exprs.now c.loop-expr.expr-index c.loop-expr-test.false) (c.loop-expr.invariant table holds) in
    record {
      whole = record { count = sym (all_length table c.args.view c.args.exprs.now); fixed = known.fixed_ones; known = known.known_ones };
      added = known.added;
    }

pub judge_arguments-returns : goal.judge_arguments-returns
judge_arguments-returns t c = λ table holds.
    rw c.as_slice-parameters.ensures.value (called_so table c.args.view c.args.name.now c.args.signature.now c.args.exprs.now _ _ _ _ _
    refl (rw (← c.as_slice-parameters.ensures.value) c.in_ok-tell_if.ensures) (rw c.as_slice-parameters.ensures.value at (c.in_ok-well.ensures table holds)))

pub judge_beyond-loop-selector-preserved : goal.judge_beyond-loop-selector-preserved
judge_beyond-loop-selector-preserved t c = λ table holds.
    let xs = c.args.selectors.now in
    let x = c.selector-item.result in
    let i = c.loop-selector.selector-index in
    let e : beyond table c.args.view c.args.name.now (shown_selector_list (take (i + 1) xs)) ≡
    beyond table c.args.view c.args.name.now (shown_selector_list (take i xs)) ++ beyond_one table c.args.view c.args.name.now (shown_selector x) =
    ap (λ l. beyond table c.args.view c.args.name.now (shown_selector_list l)) (one_taken xs i x c.loop-selector-test.true c.selector-item.is)
    ∙ beyond_push table c.args.view c.args.name.now (take i xs) x in
    rw e (two_added _ _ _ _ _ (c.loop-selector.invariant table holds) (c.in_ok-judge_beyond_one.ensures table holds))

pub judge_beyond_one-returns-in_ok-judge_all-in-Subscripts : goal.judge_beyond_one-returns-in_ok-judge_all-in-Subscripts
judge_beyond_one-returns-in_ok-judge_all-in-Subscripts t c = λ table holds.
    let view = c.args.view in
    let name = c.args.name.now in
    let e : beyond_one table view name (shown_selector c.args.selector.now) ≡
    record { place = name.place; rule = 17 } ∷ faults_of (judged_all table view (shown_expr_list c.as_slice.result.now)) =
    ap (λ s. beyond_one table view name (shown_selector s)) c.in-Subscripts.is
    ∙ ap (beyond_one table view name) (subscripts_shown c.in-Subscripts.subscripts c.in-Subscripts.place)
    ∙ ap (λ xs. record { place = name.place; rule = 17 } ∷ faults_of (judged_all table view (shown_expr_list xs))) (sym c.as_slice.ensures) in
    rw e (two_added _ _ _ (record { place = name.place; rule = 17 } ∷ []) _ c.in_ok-tell-in-Subscripts.ensures (c.in_ok-judge_all-in-Subscripts.ensures table holds).added)

pub judge_each-loop-index-preserved : goal.judge_each-loop-index-preserved
judge_each-loop-index-preserved t c = λ table holds.
    let view = c.args.view in
    let parameters = map parameter_of c.args.parameters.now in
    let xs = c.args.exprs.now in
    let x = c.index-exprs-index.result in
    let i = c.loop-index.index in
    let at : slice_get parameters (length (take i xs)) ≡ option_map parameter_of c.parameter_at-parameter.result =
    ap (slice_get parameters) (length-take-le i xs (omega arith)) ∙ sym c.parameter_at-parameter.ensures in
    let e : arguments table view parameters (shown_expr_list (take (i + 1) xs)) ≡
    arguments table view parameters (shown_expr_list (take i xs)) ++
    argument_of table view (option_map parameter_of c.parameter_at-parameter.result) (shown_expr x) (judged table view (shown_expr x)) ∷ [] =
    ap (λ l. arguments table view parameters (shown_expr_list l)) (one_taken xs i x c.loop-index-test.true c.index-exprs-index.is)
    ∙ arguments_push table view parameters (take i xs) x
    ∙ ap (λ p. arguments table view parameters (shown_expr_list (take i xs)) ++ argument_of table view p (shown_expr x) (judged table view (shown_expr x)) ∷ []) at in
    rw e (arguments_more _ _ _ _ _ _ _ (c.loop-index.invariant table holds) (c.in_ok-well.ensures table holds))

pub judge_first-returns-in_ok-well-in-Subscripts : goal.judge_first-returns-in_ok-well-in-Subscripts
judge_first-returns-in_ok-well-in-Subscripts t c = λ table holds.
    let view = c.args.view in
    let name = c.args.name.now in
    let callee = callee_in c.args.signature.now in
    let e : first_applied table view name callee (shown_selector c.args.first.now) ≡ called table view name callee (shown_expr_list c.as_slice-exprs.result.now) =
    ap (λ s. first_applied table view name callee (shown_selector s)) c.in-Subscripts.is
    ∙ ap (first_applied table view name callee) (subscripts_shown c.in-Subscripts.subscripts c.in-Subscripts.place)
    ∙ ap (λ xs. called table view name callee (shown_expr_list xs)) (sym c.as_slice-exprs.ensures) in
    rw e (c.in_ok-well-in-Subscripts.ensures table holds)

pub judge_primary-returns-in-Literal : goal.judge_primary-returns-in-Literal
judge_primary-returns-in-Literal t c = λ table holds.
    rw c.in-Literal.is (record {
      same = c.literal_kind.ensures ∙ ap (λ l. literal_kind l (shown_literal c.in-Literal.literal)) (c.lengths.ensures ∙ holds.lengths);
      added = sym (append-nil _);
    })

pub judge_primary-returns-in_ok-kind-in-Ref : goal.judge_primary-returns-in_ok-kind-in-Ref
judge_primary-returns-in_ok-kind-in-Ref t c = λ table holds.
    let e : judged_primary table c.args.view (shown_primary c.args.primary.now) ≡ judged_ref table c.args.view (shown_ref c.in-Ref.reference) =
    ap (λ p. judged_primary table c.args.view (shown_primary p)) c.in-Ref.is ∙ ap (judged_primary table c.args.view) (ref_shown c.in-Ref.reference) in
    rw e (c.in_ok-kind-in-Ref.ensures table holds)

pub judge_primary-returns-in_ok-kind-in-Limit : goal.judge_primary-returns-in_ok-kind-in-Limit
judge_primary-returns-in_ok-kind-in-Limit t c = λ table holds.
    let view = c.args.view in
    let array = c.in-Limit.array in
    let e : judged_primary table view (shown_primary c.args.primary.now) ≡ judged_limit table view c.in-Limit.dimension (shown_ref array.value) =
    ap (λ p. judged_primary table view (shown_primary p)) c.in-Limit.is ∙ ap (judged_primary table view) (limit_shown c.in-Limit.dimension c.in-Limit.side array c.in-Limit.place) in
    rw e (subst (λ (of : Ref). IsJudged c.in_ok-kind-in-Limit.kind c.args.found.now.items c.judge_limit.new.found.items (judged_limit table view c.in-Limit.dimension (shown_ref of)))
    c.deref-in-Limit.ensures (c.in_ok-kind-in-Limit.ensures table holds))

pub step-returns-in_ok-element-in-Subscripts : goal.step-returns-in_ok-element-in-Subscripts
step-returns-in_ok-element-in-Subscripts t c = λ table holds from stands.
    let view = c.args.view in
    let name = c.args.name.now in
    let all = c.in_ok-all-in-Subscripts.ensures table holds in
    let e : step table view name from (shown_selector c.args.selector.now) ≡ subscripted name from (judged_all table view (shown_expr_list c.as_slice.result.now)) =
    ap (λ s. step table view name from (shown_selector s)) c.in-Subscripts.is
    ∙ ap (step table view name from) (subscripts_shown c.in-Subscripts.subscripts c.in-Subscripts.place)
    ∙ ap (λ xs. subscripted name from (judged_all table view (shown_expr_list xs))) (sym c.as_slice.ensures) in
    rw e (element_so name _ from _ _ _ _ _ _ all (c.in_ok-element-in-Subscripts.ensures c.args.table.now.forms.items from _ stands all.whole))

pub walk-loop-selector-preserved : goal.walk-loop-selector-preserved
walk-loop-selector-preserved t c = λ table holds from stands.
    let xs = c.args.selectors.now in
    let x = c.selector-item.result in
    let i = c.loop-selector.selector-index in
    let before = along table c.args.view c.args.name.now (walked_on from []) (shown_selector_list (take i xs)) in
    let walked = c.loop-selector.invariant table holds from stands in
    let e : along table c.args.view c.args.name.now (walked_on from []) (shown_selector_list (take (i + 1) xs)) ≡
    behind before.faults (step table c.args.view c.args.name.now before.standing (shown_selector x)) =
    ap (λ l. along table c.args.view c.args.name.now (walked_on from []) (shown_selector_list l)) (one_taken xs i x c.loop-selector-test.true c.selector-item.is)
    ∙ along_push table c.args.view c.args.name.now (walked_on from []) (take i xs) x in
    rw e (walked_more _ _ _ before _ _ _ _ walked (c.in_ok-standing.ensures table holds before.standing walked.stands))

pub walk-returns : goal.walk-returns
walk-returns t c = λ table holds from stands.
    rw (← all_taken c.args.selectors.now c.loop-selector.selector-index c.loop-selector-test.false) (c.loop-selector.invariant table holds from stands)

pub walk_ref-returns : goal.walk_ref-returns
walk_ref-returns t c = λ table holds.
    let reference = c.args.reference.now in
    let start = variable_start reference.name (sense_from table c.args.view reference.name.text.items) in
    let first = c.in_ok-standing.ensures c.args.table.now.forms.items (sense_from table c.args.view reference.name.text.items) (c.sense_from.ensures table holds) in
    let second = subst (λ xs. IsWalked c.args.table.now.forms.items c.in_ok-standing-2.standing c.start.new.found.items c.walk.new.found.items
    (along table c.args.view reference.name (walked_on start.standing []) (shown_selector_list xs))) c.as_slice-selectors.ensures
    (c.in_ok-standing-2.ensures table holds start.standing first.stands) in
    rw (along_from table c.args.view reference.name start reference.selectors.items.items) (walked_more _ _ _ start _ _ _ _ first second)
