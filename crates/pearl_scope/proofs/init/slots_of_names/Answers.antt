use Rattle.std.proofs.Common.{◌≡◌, ◌-◌, ◌<◌, ◌≤◌, ◌++◌, length, vec_len, sym, subst, ap, ◌∙◌, arith}
use Rattle.pearl_scope.proofs.Filled.{Repeats, repeats_more, repeats_enough}
use Rattle.pearl_scope.proofs.init.slots_of_names.Goals as goal

pub returns-then-len-most : goal.returns-then-len-most
returns-then-len-most c = λ slots lists whole.
    let known : vec_len c.loop-left.runs ≡ length c.loop-left.runs.items = omega (arith, c.loop-left.runs.ok.0) in
    let enough : c.args.most ≤ length c.loop-left.runs.items = subst (λ n. c.args.most ≤ n) (c.len.ensures ∙ known) c.if-len-most.true in
    repeats_enough c.args.names c.loop-left.left _ c.loop-left.behind c.args.whole slots c.args.most (c.loop-left.invariant slots lists whole) c.loop-left-test.true enough whole c.joined_kinds-behind.ensures

pub loop-left-preserved : goal.loop-left-preserved
loop-left-preserved c = λ slots lists whole.
    let known : vec_len c.loop-left.runs ≡ length c.loop-left.runs.items = omega (arith, c.loop-left.runs.ok.0) in
    let few : length c.loop-left.runs.items < c.args.most = subst (λ n. n < c.args.most) (c.len.ensures ∙ known) c.if-len-most.false in
    subst (λ l. Repeats c.args.names (c.loop-left.left - 1) l c.args.one.now.behind slots c.args.most)
    (sym (c.in_ok-extend_from_slice.ensures.items ∙ ap (λ l. c.loop-left.runs.items ++ l) c.as_slice.ensures.value))
    (repeats_more c.args.names c.loop-left.left c.loop-left.runs.items c.loop-left.behind slots c.args.most c.args.one.now (c.loop-left.invariant slots lists whole) c.loop-left-test.true few lists)
