use Rattle.std.proofs.Common.{◌++◌, List, length, map, option_map, refl, sym, ap, subst, ◌∙◌, append-nil}
use Rattle.std.proofs.lemmas.List.{drop_all, length-map}
use Rattle.pearl_tree.specs.declared.statement.BodyDecl.{BodyDecl}
use Rattle.pearl_tree.specs.declared.statement.Case.{out-Case}
use Rattle.pearl_tree.specs.declared.statement.Get.{Get}
use Rattle.pearl_tree.specs.declared.statement.If.{out-If}
use Rattle.pearl_tree.specs.declared.typing.Sort.TheVariants as sort
use Rattle.pearl_tree.specs.ShownExpressions.{shown_expr, shown_ref}
use Rattle.pearl_tree.specs.ShownStatements.{shown_body_decl, shown_stmt}
use Rattle.pearl_names.specs.Lengths.{length_at}
use Rattle.pearl_names.specs.Listed.{branches_shown, otherwise_shown, stmts_shown}
use Rattle.pearl_names.proofs.Offered.{begin_shown, case_shown, if_shown, repeat_shown}
use Rattle.pearl_program.specs.PlainStatements.{plain_stmts, plain_branches}
use Rattle.pearl_resolve.specs.Cells as cells_of
use Rattle.pearl_resolve.specs.Holding.{at_in}
use Rattle.pearl_resolve.specs.Parts.{shown_activate, shown_assign, shown_begin, shown_call, shown_case, shown_continue, shown_get, shown_if, shown_on_interrupt, shown_on_semaphores, shown_on_task, shown_put, shown_repeat, shown_resume, shown_return, shown_send, shown_take}
use Rattle.pearl_resolve.specs.Statements as spec
use Rattle.pearl_resolve.proofs.Numbering.{counts_shown, loop_cells_shown}
use Rattle.pearl_resolve.proofs.PlainNodes.{one_left}
use Rattle.pearl_resolve.proofs.Adding.{ok_added, ok_kept, ok_shown}
use Rattle.pearl_resolve.proofs.Resolving.{Going, GoingBranches, body_added, branches_all, branches_more, case_added, entered_is, from_no_branches, from_none, going_all, going_more, if_added, none_added, repeat_added}
use Rattle.pearl_resolve.proofs.statements.«+statement».Goals as goal

pub add_stmt-returns-in-If : goal.add_stmt-returns-in-If
add_stmt-returns-in-If t c = ok_shown c.args.numbered.now c.args.scope c.args.at _ _ _ _ _ _ _
    (ap shown_stmt c.in-If.is ∙ if_shown c.in-If.part ∙ ap shown_if (sym c.deref.ensures)) c.add_if.ensures

pub add_stmt-returns-in-Case : goal.add_stmt-returns-in-Case
add_stmt-returns-in-Case t c = ok_shown c.args.numbered.now c.args.scope c.args.at _ _ _ _ _ _ _
    (ap shown_stmt c.in-Case.is ∙ case_shown c.in-Case.part ∙ ap shown_case (sym c.deref-in-Case.ensures)) c.add_case.ensures

pub add_stmt-returns-in-Repeat : goal.add_stmt-returns-in-Repeat
add_stmt-returns-in-Repeat t c = ok_shown c.args.numbered.now c.args.scope c.args.at _ _ _ _ _ _ _
    (ap shown_stmt c.in-Repeat.is ∙ repeat_shown c.in-Repeat.part ∙ ap shown_repeat (sym c.deref-in-Repeat.ensures)) c.add_repeat.ensures

pub add_stmt-returns-in-Begin : goal.add_stmt-returns-in-Begin
add_stmt-returns-in-Begin t c = ok_shown c.args.numbered.now c.args.scope c.args.at _ _ _ _ _ _ _
    (ap shown_stmt c.in-Begin.is ∙ begin_shown c.in-Begin.part ∙ ap shown_begin (sym c.deref-in-Begin.ensures)) c.add_body.ensures

pub add_stmt-returns-in-Put : goal.add_stmt-returns-in-Put
add_stmt-returns-in-Put t c = ok_kept c.args.numbered.now c.args.scope c.args.at c.args.cells.now.items c.args.into.now.items _ _ _ c.add_put.result
    (ap shown_stmt c.in-Put.is ∙ ap shown_put (sym c.deref-in-Put.ensures)) c.add_put.ensures

pub add_stmt-returns-in-Get : goal.add_stmt-returns-in-Get
add_stmt-returns-in-Get t c = ok_shown c.args.numbered.now c.args.scope c.args.at _ _ _ _ _ _ _
    (ap shown_stmt c.in-Get.is ∙ ap shown_get (sym c.deref-in-Get.ensures)) c.add_get.ensures

pub add_stmt-returns-in-Empty : goal.add_stmt-returns-in-Empty
add_stmt-returns-in-Empty t c = λ of holds. rw c.in-Empty.is (none_added (at_in c.args.at) c.args.cells.now.items c.args.into.now.items)

pub add_stmt-returns-in-Exit : goal.add_stmt-returns-in-Exit
add_stmt-returns-in-Exit t c = ok_added c.args.numbered.now c.args.scope c.args.at c.args.cells.now.items c.args.into.now.items
    c.add_made-in-Exit.new.into.items _ _ _ c.add_made-in-Exit.result (ap shown_stmt c.in-Exit.is) (λ of. refl) (λ of. refl) (λ of holds at. refl) c.add_made-in-Exit.ensures

pub add_stmt-returns-in-Assign : goal.add_stmt-returns-in-Assign
add_stmt-returns-in-Assign t c = ok_added c.args.numbered.now c.args.scope c.args.at c.args.cells.now.items c.args.into.now.items
    c.add_made.new.into.items _ (shown_assign c.deref-in-Assign.result.now) _ c.add_made.result
    (ap shown_stmt c.in-Assign.is ∙ ap shown_assign (sym c.deref-in-Assign.ensures)) (λ of. refl) (λ of. refl) c.assign.ensures c.add_made.ensures

pub add_stmt-returns-in-Call : goal.add_stmt-returns-in-Call
add_stmt-returns-in-Call t c = ok_added c.args.numbered.now c.args.scope c.args.at c.args.cells.now.items c.args.into.now.items
    c.add_made-in-Call.new.into.items _ (shown_call c.deref-in-Call.result.now) _ c.add_made-in-Call.result
    (ap shown_stmt c.in-Call.is ∙ ap shown_call (sym c.deref-in-Call.ensures)) (λ of. refl) (λ of. refl) c.call_of.ensures c.add_made-in-Call.ensures

pub add_stmt-returns-in-Return : goal.add_stmt-returns-in-Return
add_stmt-returns-in-Return t c = ok_added c.args.numbered.now c.args.scope c.args.at c.args.cells.now.items c.args.into.now.items
    c.add_made-in-Return.new.into.items _ (shown_return c.deref-in-Return.result.now) _ c.add_made-in-Return.result
    (ap shown_stmt c.in-Return.is ∙ ap shown_return (sym c.deref-in-Return.ensures)) (λ of. refl) (λ of. refl) c.return_of.ensures c.add_made-in-Return.ensures

pub add_stmt-returns-in-Activate : goal.add_stmt-returns-in-Activate
add_stmt-returns-in-Activate t c = ok_added c.args.numbered.now c.args.scope c.args.at c.args.cells.now.items c.args.into.now.items
    c.add_made-in-Activate.new.into.items _ (shown_activate c.deref-in-Activate.result.now) _ c.add_made-in-Activate.result
    (ap shown_stmt c.in-Activate.is ∙ ap shown_activate (sym c.deref-in-Activate.ensures)) (λ of. refl) (λ of. refl) c.activate.ensures c.add_made-in-Activate.ensures

pub add_stmt-returns-in-Continue : goal.add_stmt-returns-in-Continue
add_stmt-returns-in-Continue t c = ok_added c.args.numbered.now c.args.scope c.args.at c.args.cells.now.items c.args.into.now.items
    c.add_made-in-Continue.new.into.items _ (shown_continue c.deref-in-Continue.result.now) _ c.add_made-in-Continue.result
    (ap shown_stmt c.in-Continue.is ∙ ap shown_continue (sym c.deref-in-Continue.ensures)) (λ of. refl) (λ of. refl) c.continue_of.ensures c.add_made-in-Continue.ensures

pub add_stmt-returns-in-Resume : goal.add_stmt-returns-in-Resume
add_stmt-returns-in-Resume t c = ok_added c.args.numbered.now c.args.scope c.args.at c.args.cells.now.items c.args.into.now.items
    c.add_made-in-Resume.new.into.items _ (shown_resume c.deref-in-Resume.result.now) _ c.add_made-in-Resume.result
    (ap shown_stmt c.in-Resume.is ∙ ap shown_resume (sym c.deref-in-Resume.ensures)) (λ of. refl) (λ of. refl) c.resume.ensures c.add_made-in-Resume.ensures

pub add_stmt-returns-in-OnTask : goal.add_stmt-returns-in-OnTask
add_stmt-returns-in-OnTask t c = ok_added c.args.numbered.now c.args.scope c.args.at c.args.cells.now.items c.args.into.now.items
    c.add_made-in-OnTask.new.into.items _ (shown_on_task c.deref-in-OnTask.result.now) _ c.add_made-in-OnTask.result
    (ap shown_stmt c.in-OnTask.is ∙ ap shown_on_task (sym c.deref-in-OnTask.ensures)) (λ of. refl) (λ of. refl) c.on_task.ensures c.add_made-in-OnTask.ensures

pub add_stmt-returns-in-OnSemas : goal.add_stmt-returns-in-OnSemas
add_stmt-returns-in-OnSemas t c = ok_added c.args.numbered.now c.args.scope c.args.at c.args.cells.now.items c.args.into.now.items
    c.add_made-in-OnSemas.new.into.items _ (shown_on_semaphores c.deref-in-OnSemas.result.now) _ c.add_made-in-OnSemas.result
    (ap shown_stmt c.in-OnSemas.is ∙ ap shown_on_semaphores (sym c.deref-in-OnSemas.ensures)) (λ of. refl) (λ of. refl) c.on_semaphores.ensures c.add_made-in-OnSemas.ensures

pub add_stmt-returns-in-OnInterrupt : goal.add_stmt-returns-in-OnInterrupt
add_stmt-returns-in-OnInterrupt t c = ok_added c.args.numbered.now c.args.scope c.args.at c.args.cells.now.items c.args.into.now.items
    c.add_made-in-OnInterrupt.new.into.items _ (shown_on_interrupt c.deref-in-OnInterrupt.result.now) _ c.add_made-in-OnInterrupt.result
    (ap shown_stmt c.in-OnInterrupt.is ∙ ap shown_on_interrupt (sym c.deref-in-OnInterrupt.ensures)) (λ of. refl) (λ of. refl) c.on_interrupt.ensures c.add_made-in-OnInterrupt.ensures

pub add_stmt-returns-in-Send : goal.add_stmt-returns-in-Send
add_stmt-returns-in-Send t c = ok_added c.args.numbered.now c.args.scope c.args.at c.args.cells.now.items c.args.into.now.items
    c.add_made-in-Send.new.into.items _ (shown_send c.deref-in-Send.result.now) _ c.add_made-in-Send.result
    (ap shown_stmt c.in-Send.is ∙ ap shown_send (sym c.deref-in-Send.ensures)) (λ of. refl) (λ of. refl) c.send.ensures c.add_made-in-Send.ensures

pub add_stmt-returns-in-Take : goal.add_stmt-returns-in-Take
add_stmt-returns-in-Take t c = ok_added c.args.numbered.now c.args.scope c.args.at c.args.cells.now.items c.args.into.now.items
    c.add_made-in-Take.new.into.items _ (shown_take c.deref-in-Take.result.now) _ c.add_made-in-Take.result
    (ap shown_stmt c.in-Take.is ∙ ap shown_take (sym c.deref-in-Take.ensures)) (λ of. refl) (λ of. refl) c.take.ensures c.add_made-in-Take.ensures

pub add_if-returns : goal.add_if-returns
add_if-returns t c = λ of holds.
    let p = out-If c.args.part.now in
    if_added of c.args.scope (at_in c.args.at) (at_in c.in_ok-at.at) (at_in c.in_ok-at-2.at) _ _ _ c.args.into.now.items _ _ _ _ _
    (shown_expr p.condition) (stmts_shown p.statements.items.items) (otherwise_shown p.otherwise) p.place
    (c.in_ok-condition.ensures of holds)
    (from_none _ _ c.new-statements.ensures.items (c.in_ok-at.ensures of holds))
    (from_none _ _ c.new-otherwise.ensures.items (c.in_ok-at-2.ensures of holds))
    c.in_ok-made.ensures c.in_ok-push.ensures.items

pub add_case-returns : goal.add_case-returns
add_case-returns t c = λ of holds.
    let p = out-Case c.args.part.now in
    case_added of c.args.scope (at_in c.args.at) (at_in c.in_ok-at.at) (at_in c.in_ok-at-2.at) _ _ _ c.args.into.now.items _ _ _ _ _
    (shown_expr p.selector) (branches_shown p.alternatives.items.items) (otherwise_shown p.otherwise) p.place
    (c.in_ok-selector.ensures of holds)
    (from_no_branches _ _ c.new-alternatives.ensures.items (c.in_ok-at.ensures of holds))
    (from_none _ _ c.new-otherwise.ensures.items (c.in_ok-at-2.ensures of holds))
    c.in_ok-made.ensures c.in_ok-push.ensures.items

pub add_repeat-returns : goal.add_repeat-returns
add_repeat-returns t c = λ of holds.
    let p = c.args.part.now in
    repeat_added of c.loop_cells-hidden.result (at_in c.args.at) c.args.scope (at_in c.in_ok-at.at) c.args.cells.now.items _ _ c.args.into.now.items _ _ _ _ _
    p.control (option_map shown_expr p.begin) (option_map shown_expr p.step) (option_map shown_expr p.end) (option_map shown_expr p.condition)
    (map shown_body_decl p.body.declarations.items.items) (stmts_shown p.body.statements.items.items) p.body.place p.place
    (c.loop_cells-hidden.ensures ∙ loop_cells_shown p.control p.begin p.step p.end)
    (c.in_ok-counter.ensures of holds) (c.in_ok-condition.ensures of holds)
    (c.in_ok-add_counter_cells.ensures
    ∙ (λ i. c.args.cells.now.items ++ cells_of.counter_cells (counts_shown p.control p.begin p.step p.end i)
    (length_at ((c.lengths.ensures ∙ holds.table.lengths) i) sort.Fixed p.place)))
    (from_none _ _ c.new-statements.ensures.items (c.in_ok-at.ensures of holds))
    c.in_ok-made.ensures c.in_ok-push.ensures.items

pub add_body-returns : goal.add_body-returns
add_body-returns t c = λ of holds.
    let body = c.args.body.now in
    let next = c.args.at.next in
    body_added of c.args.hidden (at_in c.args.at) (at_in c.in_ok-inner.inner) (at_in c.in_ok-at.at) c.args.cells.now.items _ _ (plain_stmts c.args.into.now.items) _ _
    (map shown_body_decl body.declarations.items.items) (stmts_shown body.statements.items.items)
    (c.in_ok-own.ensures.cells of.table holds.table)
    (c.in_ok-add_renewals.ensures of holds
    ∙ ap (λ (l : List BodyDecl). spec.joined (plain_stmts c.args.into.now.items) (spec.declared_renewals of next (map shown_body_decl l))) c.as_slice.ensures)
    (entered_is of.table c.args.hidden _ (at_in c.args.at) _ c.in_ok-inner.ensures (c.in_ok-own.ensures.count of.table holds.table))
    (c.in_ok-at.ensures of holds)

pub add_stmts-loop-stmt-init : goal.add_stmts-loop-stmt-init
add_stmts-loop-stmt-init t c = λ of holds. record { goes = refl; adds = refl; makes = refl }

pub add_stmts-loop-stmt-preserved : goal.add_stmts-loop-stmt-preserved
add_stmts-loop-stmt-preserved t c = λ of holds.
    let scope = c.args.scope in
    let xs = c.args.stmts.now.items.items in
    let left = one_left xs c.loop-stmt.stmt-index c.stmt-item.result (rw c.as_slice-stmt-items.ensures at c.loop-stmt-test.true) (rw c.as_slice-stmt-items.ensures at c.stmt-item.is) in
    let before = subst (λ l. Going of scope (at_in c.loop-stmt.here) (at_in c.args.at) c.loop-stmt.cells.items c.args.cells.now.items
    (plain_stmts c.loop-stmt.into.items) (plain_stmts c.args.into.now.items) (stmts_shown l) (stmts_shown xs)) left (c.loop-stmt.invariant of holds) in
    going_more of scope _ _ _ _ _ _ _ _ _ (shown_stmt c.stmt-item.result) _ _ before (c.in_ok-here.ensures of holds)

pub add_stmts-returns : goal.add_stmts-returns
add_stmts-returns t c = λ of holds.
    let scope = c.args.scope in
    let xs = c.args.stmts.now.items.items in
    let none = drop_all c.loop-stmt.stmt-index xs (rw c.as_slice-stmt-items.ensures at c.loop-stmt-test.false) in
    going_all of scope _ _ _ _ _ _ _ (subst (λ l. Going of scope (at_in c.loop-stmt.here) (at_in c.args.at) c.loop-stmt.cells.items c.args.cells.now.items
    (plain_stmts c.loop-stmt.into.items) (plain_stmts c.args.into.now.items) (stmts_shown l) (stmts_shown xs)) none (c.loop-stmt.invariant of holds))

pub add_branches-loop-branch-init : goal.add_branches-loop-branch-init
add_branches-loop-branch-init t c = λ of holds. record { goes = refl; adds = refl; makes = refl }

pub add_branches-loop-branch-preserved : goal.add_branches-loop-branch-preserved
add_branches-loop-branch-preserved t c = λ of holds.
    let scope = c.args.scope in
    let xs = c.args.branches.now.items.items in
    let left = one_left xs c.loop-branch.branch-index c.branch-item.result (rw c.as_slice-branch-items.ensures at c.loop-branch-test.true) (rw c.as_slice-branch-items.ensures at c.branch-item.is) in
    let before = subst (λ l. GoingBranches of scope (at_in c.loop-branch.here) (at_in c.args.at) c.loop-branch.cells.items c.args.cells.now.items
    (plain_branches c.loop-branch.into.items) (plain_branches c.args.into.now.items) (branches_shown l) (branches_shown xs)) left (c.loop-branch.invariant of holds) in
    branches_more of scope _ _ _ _ _ _ c.loop-branch.into.items _ _ _ (stmts_shown c.branch-item.result.statements.items.items) _ _ _ before
    c.in_ok-push.ensures.items (from_none _ _ c.new-statements.ensures.items (c.in_ok-here.ensures of holds))

pub add_branches-returns : goal.add_branches-returns
add_branches-returns t c = λ of holds.
    let scope = c.args.scope in
    let xs = c.args.branches.now.items.items in
    let none = drop_all c.loop-branch.branch-index xs (rw c.as_slice-branch-items.ensures at c.loop-branch-test.false) in
    branches_all of scope _ _ _ _ _ _ _ (subst (λ l. GoingBranches of scope (at_in c.loop-branch.here) (at_in c.args.at) c.loop-branch.cells.items c.args.cells.now.items
    (plain_branches c.loop-branch.into.items) (plain_branches c.args.into.now.items) (branches_shown l) (branches_shown xs)) none (c.loop-branch.invariant of holds))

pub add_otherwise-returns-in_ok-at-in-Some : goal.add_otherwise-returns-in_ok-at-in-Some
add_otherwise-returns-in_ok-at-in-Some t c = λ of holds. rw c.in-Some.is (c.in_ok-at-in-Some.ensures of holds)

pub add_otherwise-returns-in-None : goal.add_otherwise-returns-in-None
add_otherwise-returns-in-None t c = λ of holds. rw c.in-None.is (none_added (at_in c.args.at) c.args.cells.now.items c.args.into.now.items)
