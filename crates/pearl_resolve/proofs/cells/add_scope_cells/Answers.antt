use Rattle.std.proofs.Common.{◌≡◌, suc, ◌+◌, ◌≤◌, ◌++◌, ◌∷◌, length, drop, ap, refl, sym, subst, ◌∙◌, arith}
use Rattle.std.specs.List.{sum_by}
use Rattle.std.proofs.lemmas.List.{drop_all}
use Rattle.pearl_names.specs.Holding.{HoldsSense}
use Rattle.pearl_resolve.specs.Cells.{scope_cells}
use Rattle.pearl_resolve.specs.Laying.{cells_of_sense}
use Rattle.pearl_resolve.specs.Numbers.{senses_at}
use Rattle.pearl_resolve.proofs.Numbering.{next_held, held_length}
use Rattle.pearl_resolve.proofs.ScopeCells.{CellsSo, cells_more, cells_all}
use Rattle.pearl_resolve.proofs.cells.add_scope_cells.Goals as goal

pub loop-sense-init : goal.loop-sense-init
loop-sense-init c = λ t holds. record { cells = refl; counted = omega arith }

pub loop-sense-preserved : goal.loop-sense-preserved
loop-sense-preserved c = λ t holds.
    let of = senses_at t c.args.scope in
    let i = c.loop-sense.sense-index in
    let all = c.args.into.now.items ++ scope_cells t c.args.scope in
    let total = sum_by cells_of_sense of in
    let n = next_held c.args.table.now.forms.items c.senses_in-senses.result.now of i c.sense-item.result c.loop-sense-test.true c.sense-item.is (c.senses_in-senses.ensures t holds) in
    let held = subst (λ f. HoldsSense f c.sense-item.result n.sense) (sym c.forms-forms.ensures) n.holds in
    let next : suc i ≡ i + 1 = omega arith in
    let before = subst (λ l. CellsSo c.loop-sense.into.items all c.loop-sense.count total l)
    (n.left ∙ ap (λ k. n.sense ∷ drop k of) next) (c.loop-sense.invariant t holds) in
    cells_more c.loop-sense.into.items _ all c.loop-sense.count _ _ total n.sense (drop (i + 1) of) before
    (c.in_ok-own.ensures.cells n.sense held) (c.in_ok-own.ensures.count n.sense held) c.in_ok-count.ensures

pub returns-clause-count : goal.returns-clause-count
returns-clause-count c = λ t holds.
    let of = senses_at t c.args.scope in
    let i = c.loop-sense.sense-index in
    let all = c.args.into.now.items ++ scope_cells t c.args.scope in
    let total = sum_by cells_of_sense of in
    let past : length of ≤ i = subst (λ n. n ≤ i) (held_length c.args.table.now.forms.items c.senses_in-senses.result.now of (c.senses_in-senses.ensures t holds)) c.loop-sense-test.false in
    (cells_all c.loop-sense.into.items all c.loop-sense.count total
    (subst (λ l. CellsSo c.loop-sense.into.items all c.loop-sense.count total l) (drop_all i of past) (c.loop-sense.invariant t holds))).1

pub returns-clause-cells : goal.returns-clause-cells
returns-clause-cells c = λ t holds.
    let of = senses_at t c.args.scope in
    let i = c.loop-sense.sense-index in
    let all = c.args.into.now.items ++ scope_cells t c.args.scope in
    let total = sum_by cells_of_sense of in
    let past : length of ≤ i = subst (λ n. n ≤ i) (held_length c.args.table.now.forms.items c.senses_in-senses.result.now of (c.senses_in-senses.ensures t holds)) c.loop-sense-test.false in
    (cells_all c.loop-sense.into.items all c.loop-sense.count total
    (subst (λ l. CellsSo c.loop-sense.into.items all c.loop-sense.count total l) (drop_all i of past) (c.loop-sense.invariant t holds))).0
