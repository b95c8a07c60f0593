use Rattle.std.proofs.Common.{◌≡◌, suc, ◌+◌, ◌≤◌, ◌++◌, ◌∷◌, length, drop, ap, subst, ◌∙◌, arith}
use Rattle.std.proofs.lemmas.List.{drop_all}
use Rattle.pearl_resolve.specs.Numbers.{own_numbers}
use Rattle.pearl_resolve.proofs.Numbering.{NumberedSo, next_held, held_length, numbered_more, numbered_all}
use Rattle.pearl_resolve.proofs.numbers.add_own_numbers.Goals as goal

pub loop-sense-preserved : goal.loop-sense-preserved
loop-sense-preserved c = λ of holds.
    let forms = c.args.forms.now in
    let i = c.loop-sense.sense-index in
    let all = c.args.into.now.items ++ own_numbers c.args.control c.args.cell of in
    let n = next_held forms c.args.senses.now of i c.sense-item.result c.loop-sense-test.true c.sense-item.is holds in
    let next : suc i ≡ i + 1 = omega arith in
    let before = subst (λ l. NumberedSo c.loop-sense.into.items all c.args.control c.loop-sense.next c.args.cell l of)
    (n.left ∙ ap (λ k. n.sense ∷ drop k of) next) (c.loop-sense.invariant of holds) in
    rw c.in_ok-push.ensures.items (numbered_more _ all c.args.control c.loop-sense.next c.args.cell _ _ _ n.sense (drop (i + 1) of) of
    (c.own_number.ensures forms n.sense n.holds) (c.in_ok-count.ensures n.sense n.holds) c.in_ok-next.ensures before)

pub returns-clause-cell : goal.returns-clause-cell
returns-clause-cell c = λ of holds.
    let all = c.args.into.now.items ++ own_numbers c.args.control c.args.cell of in
    let past : length of ≤ c.loop-sense.sense-index = subst (λ n. n ≤ c.loop-sense.sense-index) (held_length c.args.forms.now c.args.senses.now of holds) c.loop-sense-test.false in
    (numbered_all c.loop-sense.into.items all c.args.control c.loop-sense.next c.args.cell of
    (subst (λ l. NumberedSo c.loop-sense.into.items all c.args.control c.loop-sense.next c.args.cell l of) (drop_all c.loop-sense.sense-index of past) (c.loop-sense.invariant of holds))).1

pub returns-clause-numbers : goal.returns-clause-numbers
returns-clause-numbers c = λ of holds.
    let all = c.args.into.now.items ++ own_numbers c.args.control c.args.cell of in
    let past : length of ≤ c.loop-sense.sense-index = subst (λ n. n ≤ c.loop-sense.sense-index) (held_length c.args.forms.now c.args.senses.now of holds) c.loop-sense-test.false in
    (numbered_all c.loop-sense.into.items all c.args.control c.loop-sense.next c.args.cell of
    (subst (λ l. NumberedSo c.loop-sense.into.items all c.args.control c.loop-sense.next c.args.cell l of) (drop_all c.loop-sense.sense-index of past) (c.loop-sense.invariant of holds))).0
