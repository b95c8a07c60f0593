use Rattle.std.proofs.Common.{◌≡◌, subst}
use Rattle.std.proofs.lemmas.List.{drop_all}
use Rattle.pearl_tree.specs.declared.statement.Begin.{Begin}
use Rattle.pearl_tree.specs.declared.statement.Case as case_
use Rattle.pearl_tree.specs.declared.statement.Case.{out-Case}
use Rattle.pearl_tree.specs.declared.statement.If as if_
use Rattle.pearl_tree.specs.declared.statement.If.{out-If}
use Rattle.pearl_tree.specs.declared.statement.Repeat.{Repeat}
use Rattle.pearl_tree.specs.ShownStatements.{shown_stmt}
use Rattle.pearl_names.specs.Listed.{stmts_shown, branches_shown, otherwise_shown}
use Rattle.pearl_resolve.specs.Holding.{GoesPast, at_in, numbers_held}
use Rattle.pearl_resolve.specs.Numbers.{loop_cells, after_all, after_branches, after_otherwise, numbers_in_all, numbers_in_branches, numbers_in_otherwise}
use Rattle.pearl_resolve.proofs.Numbering.{Past, PastBranches, BodyPast, past_more, past_all, branches_more, branches_all, if_past, case_past, repeat_past, begin_past}
use Rattle.pearl_resolve.proofs.PlainNodes.{one_left}
use Rattle.pearl_resolve.proofs.numbers.«+statement».Goals as goal

pub number_stmt-returns-in_ok-at-in-If-2 : goal.number_stmt-returns-in_ok-at-in-If-2
number_stmt-returns-in_ok-at-in-If-2 t c = λ table holds.
    let here = at_in c.args.at in
    let old = numbers_held c.args.into.now.items in
    let mid = numbers_held c.number_stmts.new.into.items in
    let new = numbers_held c.number_otherwise.new.into.items in
    let first = at_in c.in_ok-at-in-If.at in
    let second = at_in c.in_ok-at-in-If-2.at in
    rw c.in-If.is (if_past table c.in-If.part here first second old mid new
    (subst (λ (p : if_.If). GoesPast first old mid (after_all table here (stmts_shown (out-If p).statements.items.items)) (numbers_in_all table here (stmts_shown (out-If p).statements.items.items)))
    c.deref.ensures (c.in_ok-at-in-If.ensures table holds))
    (subst (λ (p : if_.If). GoesPast second mid new (after_otherwise table first (otherwise_shown (out-If p).otherwise)) (numbers_in_otherwise table first (otherwise_shown (out-If p).otherwise)))
    c.deref-in-If.ensures (c.in_ok-at-in-If-2.ensures table holds)))

pub number_stmt-returns-in_ok-at-in-Case-2 : goal.number_stmt-returns-in_ok-at-in-Case-2
number_stmt-returns-in_ok-at-in-Case-2 t c = λ table holds.
    let here = at_in c.args.at in
    let old = numbers_held c.args.into.now.items in
    let mid = numbers_held c.number_branches.new.into.items in
    let new = numbers_held c.number_otherwise-in-Case.new.into.items in
    let first = at_in c.in_ok-at-in-Case.at in
    let second = at_in c.in_ok-at-in-Case-2.at in
    rw c.in-Case.is (case_past table c.in-Case.part here first second old mid new
    (subst (λ (p : case_.Case). GoesPast first old mid (after_branches table here (branches_shown (out-Case p).alternatives.items.items)) (numbers_in_branches table here (branches_shown (out-Case p).alternatives.items.items)))
    c.deref-in-Case.ensures (c.in_ok-at-in-Case.ensures table holds))
    (subst (λ (p : case_.Case). GoesPast second mid new (after_otherwise table first (otherwise_shown (out-Case p).otherwise)) (numbers_in_otherwise table first (otherwise_shown (out-Case p).otherwise)))
    c.deref-in-Case-2.ensures (c.in_ok-at-in-Case-2.ensures table holds)))

pub number_stmts-loop-stmt-preserved : goal.number_stmts-loop-stmt-preserved
number_stmts-loop-stmt-preserved t c = λ table holds.
    let xs = c.args.stmts.now.items.items in
    let left = one_left xs c.loop-stmt.stmt-index c.stmt-item.result (rw c.as_slice-stmt-items.ensures at c.loop-stmt-test.true) (rw c.as_slice-stmt-items.ensures at c.stmt-item.is) in
    let before = subst (λ l. Past table (at_in c.loop-stmt.here) (at_in c.args.at) (numbers_held c.loop-stmt.into.items) (numbers_held c.args.into.now.items) (stmts_shown l) (stmts_shown xs)) left
    (c.loop-stmt.invariant table holds) in
    past_more table _ _ _ _ _ _ (shown_stmt c.stmt-item.result) _ _ before (c.in_ok-here.ensures table holds)

pub number_stmts-returns : goal.number_stmts-returns
number_stmts-returns t c = λ table holds.
    let xs = c.args.stmts.now.items.items in
    let none = drop_all c.loop-stmt.stmt-index xs (rw c.as_slice-stmt-items.ensures at c.loop-stmt-test.false) in
    past_all table _ _ _ _ _ (subst (λ l. Past table (at_in c.loop-stmt.here) (at_in c.args.at) (numbers_held c.loop-stmt.into.items) (numbers_held c.args.into.now.items) (stmts_shown l) (stmts_shown xs)) none
    (c.loop-stmt.invariant table holds))

pub number_branches-loop-branch-preserved : goal.number_branches-loop-branch-preserved
number_branches-loop-branch-preserved t c = λ table holds.
    let xs = c.args.branches.now.items.items in
    let left = one_left xs c.loop-branch.branch-index c.branch-item.result (rw c.as_slice-branch-items.ensures at c.loop-branch-test.true) (rw c.as_slice-branch-items.ensures at c.branch-item.is) in
    let before = subst (λ l. PastBranches table (at_in c.loop-branch.here) (at_in c.args.at) (numbers_held c.loop-branch.into.items) (numbers_held c.args.into.now.items) (branches_shown l) (branches_shown xs)) left
    (c.loop-branch.invariant table holds) in
    branches_more table _ _ _ _ _ _ (stmts_shown c.branch-item.result.statements.items.items) _ _ _ before (c.in_ok-here.ensures table holds)

pub number_branches-returns : goal.number_branches-returns
number_branches-returns t c = λ table holds.
    let xs = c.args.branches.now.items.items in
    let none = drop_all c.loop-branch.branch-index xs (rw c.as_slice-branch-items.ensures at c.loop-branch-test.false) in
    branches_all table _ _ _ _ _ (subst (λ l. PastBranches table (at_in c.loop-branch.here) (at_in c.args.at) (numbers_held c.loop-branch.into.items) (numbers_held c.args.into.now.items) (branches_shown l) (branches_shown xs)) none
    (c.loop-branch.invariant table holds))

pub number_stmt-returns-in_ok-at-in-Repeat : goal.number_stmt-returns-in_ok-at-in-Repeat
number_stmt-returns-in_ok-at-in-Repeat t c = λ table holds.
    let here = at_in c.args.at in
    let box = c.in-Repeat.part in
    let new = numbers_held c.number_body.new.into.items in
    rw c.in-Repeat.is (repeat_past table box here (at_in c.in_ok-at-in-Repeat.at) (numbers_held c.args.into.now.items) new c.loop_cells.result
    (subst (λ (p : Repeat). c.loop_cells.result ≡ loop_cells p.control p.begin p.step p.end) c.deref-in-Repeat.ensures c.loop_cells.ensures)
    (subst (λ (p : Repeat). BodyPast table c.loop_cells.result here (stmts_shown p.body.statements.items.items) (at_in c.in_ok-at-in-Repeat.at) (numbers_held c.args.into.now.items) new)
    c.deref-in-Repeat-2.ensures (c.in_ok-at-in-Repeat.ensures table holds)))

pub number_stmt-returns-in_ok-at-in-Begin : goal.number_stmt-returns-in_ok-at-in-Begin
number_stmt-returns-in_ok-at-in-Begin t c = λ table holds.
    let here = at_in c.args.at in
    let new = numbers_held c.number_body-in-Begin.new.into.items in
    rw c.in-Begin.is (begin_past table c.in-Begin.part here (at_in c.in_ok-at-in-Begin.at) (numbers_held c.args.into.now.items) new
    (subst (λ (p : Begin). BodyPast table 0 here (stmts_shown p.body.statements.items.items) (at_in c.in_ok-at-in-Begin.at) (numbers_held c.args.into.now.items) new)
    c.deref-in-Begin.ensures (c.in_ok-at-in-Begin.ensures table holds)))
