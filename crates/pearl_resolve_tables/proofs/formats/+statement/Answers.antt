use Rattle.std.proofs.Common.{◌≡◌, List, ◌++◌, refl, subst}
use Rattle.pearl_tree.specs.declared.statement.Begin.{Begin}
use Rattle.pearl_tree.specs.declared.statement.Case as case_
use Rattle.pearl_tree.specs.declared.statement.Case.{out-Case}
use Rattle.pearl_tree.specs.declared.statement.If as if_
use Rattle.pearl_tree.specs.declared.statement.If.{out-If}
use Rattle.pearl_tree.specs.declared.statement.Repeat.{Repeat}
use Rattle.pearl_tree.specs.declared.statement.Stmt.{Stmt}
use Rattle.pearl_tree.specs.declared.statement.Branch.{Branch}
use Rattle.pearl_tree.specs.ShownStatements.{shown_stmt}
use Rattle.pearl_names.specs.Listed.{stmts_shown, branches_shown, otherwise_shown}
use Rattle.pearl_resolve_tables.specs.Formats.{formats_in, formats_in_all, formats_in_branches, formats_in_otherwise}
use Rattle.pearl_resolve_tables.proofs.Making.{made_more, made_all}
use Rattle.pearl_resolve_tables.proofs.Formatting.{if_formats, case_formats, repeat_formats, begin_formats}
use Rattle.pearl_resolve_tables.proofs.formats.«+statement».Goals as goal

pub add_stmt-returns-in_ok-add_otherwise-in-If : goal.add_stmt-returns-in_ok-add_otherwise-in-If
add_stmt-returns-in_ok-add_otherwise-in-If t c =
    let old = c.args.into.now.items in
    let mid = c.add_stmts.new.into.items in
    let new = c.add_otherwise.new.into.items in
    rw c.in-If.is (if_formats c.in-If.part old mid new
    (subst (λ (p : if_.If). mid ≡ old ++ formats_in_all (stmts_shown (out-If p).statements.items.items)) c.deref.ensures c.in_ok-add_stmts-in-If.ensures)
    (subst (λ (p : if_.If). new ≡ mid ++ formats_in_otherwise (otherwise_shown (out-If p).otherwise)) c.deref-in-If.ensures c.in_ok-add_otherwise-in-If.ensures))

pub add_stmt-returns-in_ok-add_otherwise-in-Case : goal.add_stmt-returns-in_ok-add_otherwise-in-Case
add_stmt-returns-in_ok-add_otherwise-in-Case t c =
    let old = c.args.into.now.items in
    let mid = c.add_branches.new.into.items in
    let new = c.add_otherwise-in-Case.new.into.items in
    rw c.in-Case.is (case_formats c.in-Case.part old mid new
    (subst (λ (p : case_.Case). mid ≡ old ++ formats_in_branches (branches_shown (out-Case p).alternatives.items.items)) c.deref-in-Case.ensures c.in_ok-add_branches-in-Case.ensures)
    (subst (λ (p : case_.Case). new ≡ mid ++ formats_in_otherwise (otherwise_shown (out-Case p).otherwise)) c.deref-in-Case-2.ensures c.in_ok-add_otherwise-in-Case.ensures))

pub add_stmt-returns-in_ok-add_stmts-in-Repeat : goal.add_stmt-returns-in_ok-add_stmts-in-Repeat
add_stmt-returns-in_ok-add_stmts-in-Repeat t c =
    let old = c.args.into.now.items in
    let new = c.add_stmts-in-Repeat.new.into.items in
    rw c.in-Repeat.is (repeat_formats c.in-Repeat.part old new
    (subst (λ (p : Repeat). new ≡ old ++ formats_in_all (stmts_shown p.body.statements.items.items)) c.deref-in-Repeat.ensures c.in_ok-add_stmts-in-Repeat.ensures))

pub add_stmt-returns-in_ok-add_stmts-in-Begin : goal.add_stmt-returns-in_ok-add_stmts-in-Begin
add_stmt-returns-in_ok-add_stmts-in-Begin t c =
    let old = c.args.into.now.items in
    let new = c.add_stmts-in-Begin.new.into.items in
    rw c.in-Begin.is (begin_formats c.in-Begin.part old new
    (subst (λ (p : Begin). new ≡ old ++ formats_in_all (stmts_shown p.body.statements.items.items)) c.deref-in-Begin.ensures c.in_ok-add_stmts-in-Begin.ensures))

pub add_stmts-loop-stmt-preserved : goal.add_stmts-loop-stmt-preserved
add_stmts-loop-stmt-preserved t c =
    let xs = c.args.stmts.now.items.items in
    made_more (λ (l : List Stmt). formats_in_all (stmts_shown l)) (λ (x : Stmt). formats_in (shown_stmt x)) (λ x rest. refl) xs c.loop-stmt.stmt-index c.stmt-item.result
    c.loop-stmt.into.items c.add_stmt.new.into.items _ (rw c.as_slice-stmt-items.ensures at c.loop-stmt-test.true) (rw c.as_slice-stmt-items.ensures at c.stmt-item.is)
    c.in_ok-add_stmt.ensures c.loop-stmt.invariant

pub add_stmts-returns : goal.add_stmts-returns
add_stmts-returns t c =
    let xs = c.args.stmts.now.items.items in
    made_all (λ (l : List Stmt). formats_in_all (stmts_shown l)) refl xs c.loop-stmt.stmt-index c.loop-stmt.into.items _
    (rw c.as_slice-stmt-items.ensures at c.loop-stmt-test.false) c.loop-stmt.invariant

pub add_branches-loop-branch-preserved : goal.add_branches-loop-branch-preserved
add_branches-loop-branch-preserved t c =
    let xs = c.args.branches.now.items.items in
    made_more (λ (l : List Branch). formats_in_branches (branches_shown l)) (λ (x : Branch). formats_in_all (stmts_shown x.statements.items.items)) (λ x rest. refl) xs c.loop-branch.branch-index
    c.branch-item.result c.loop-branch.into.items c.add_stmts.new.into.items _ (rw c.as_slice-branch-items.ensures at c.loop-branch-test.true)
    (rw c.as_slice-branch-items.ensures at c.branch-item.is) c.in_ok-add_stmts.ensures c.loop-branch.invariant

pub add_branches-returns : goal.add_branches-returns
add_branches-returns t c =
    let xs = c.args.branches.now.items.items in
    made_all (λ (l : List Branch). formats_in_branches (branches_shown l)) refl xs c.loop-branch.branch-index c.loop-branch.into.items _
    (rw c.as_slice-branch-items.ensures at c.loop-branch-test.false) c.loop-branch.invariant
