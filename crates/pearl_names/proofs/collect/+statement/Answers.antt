use Rattle.std.proofs.Common.{◌≡◌, ◌+◌, ◌++◌, [], map, length, ap, subst, sym, ◌∙◌}
use Rattle.std.specs.Result.{OnOk}
use Rattle.pearl_tree.specs.declared.statement.Begin.{Begin}
use Rattle.pearl_tree.specs.declared.statement.Case as case_
use Rattle.pearl_tree.specs.declared.statement.Case.{out-Case}
use Rattle.pearl_tree.specs.declared.statement.If as if_
use Rattle.pearl_tree.specs.declared.statement.If.{out-If}
use Rattle.pearl_tree.specs.declared.statement.Repeat.{Repeat}
use Rattle.pearl_tree.specs.ShownStatements.{shown_body_decl, shown_stmt}
use Rattle.pearl_names.specs.Groups.{entries_in, scopes_in_list, body_scopes}
use Rattle.pearl_names.specs.Listed.{stmts_shown, branches_shown, otherwise_shown}
use Rattle.pearl_names.specs.Scopes.{scopes_in_all, scopes_in_branches, stmt_scopes, all_scopes, branch_scopes, otherwise_scopes, control_entries}
use Rattle.pearl_names.proofs.StatementRows.{if_shown, case_shown, repeat_shown, begin_shown}
use Rattle.pearl_names.proofs.Collecting.{adds_scopes, length-all_scopes, length-branch_scopes, one_more_stmt, one_more_branch, entries_in-nil}
use Rattle.pearl_names.proofs.collect.«+statement».Goals as goal

pub collect_stmts-loop-stmt-preserved : goal.collect_stmts-loop-stmt-preserved
collect_stmts-loop-stmt-preserved t c =
    one_more_stmt _ _ _ _ _ _ c.as_slice-stmt-items.result.now _ c.stmt-item.result c.as_slice-stmt-items.ensures
    c.loop-stmt-test.true c.stmt-item.is c.loop-stmt.invariant c.in_ok-collect_stmt.ensures

pub collect_branches-loop-branch-preserved : goal.collect_branches-loop-branch-preserved
collect_branches-loop-branch-preserved t c =
    one_more_branch _ _ _ _ _ _ c.as_slice-branch-items.result.now _ c.branch-item.result c.as_slice-branch-items.ensures
    c.loop-branch-test.true c.branch-item.is c.loop-branch.invariant c.in_ok-collect_stmts.ensures

pub collect_stmt-returns-in_ok-collect_otherwise-in-If : goal.collect_stmt-returns-in_ok-collect_otherwise-in-If
collect_stmt-returns-in_ok-collect_otherwise-in-If t c =
    let box = c.in-If.part in
    let part = out-If box.value in
    let types = c.args.types in
    let scope = c.args.scope in
    let before = scopes_in_list c.args.scopes.now.items in
    let between = scopes_in_list c.collect_stmts.new.scopes.items in
    let n = length before in
    let inner = stmts_shown part.statements.items.items in
    let e : stmt_scopes types scope n (shown_stmt c.args.stmt.now) ≡
    all_scopes types scope n inner ++ otherwise_scopes types scope (n + scopes_in_all inner) (otherwise_shown part.otherwise) =
    ap (λ s. stmt_scopes types scope n (shown_stmt s)) c.in-If.is
    ∙ ap (λ s. stmt_scopes types scope n s) (if_shown box) in
    let first = subst (λ (p : if_.If). between ≡ before ++ all_scopes types scope n (stmts_shown (out-If p).statements.items.items))
    c.deref.ensures c.in_ok-collect_stmts-in-If.ensures in
    let second = subst (λ (p : if_.If). scopes_in_list c.collect_otherwise.new.scopes.items ≡ between ++ otherwise_scopes types scope (length between) (otherwise_shown (out-If p).otherwise))
    c.deref-in-If.ensures c.in_ok-collect_otherwise-in-If.ensures in
    rw e (adds_scopes _ _ _ (scopes_in_all inner) (all_scopes types scope n inner)
    (λ m. otherwise_scopes types scope m (otherwise_shown part.otherwise)) (length-all_scopes types scope n inner) first second)

pub collect_stmt-returns-in_ok-collect_otherwise-in-Case : goal.collect_stmt-returns-in_ok-collect_otherwise-in-Case
collect_stmt-returns-in_ok-collect_otherwise-in-Case t c =
    let box = c.in-Case.part in
    let part = out-Case box.value in
    let types = c.args.types in
    let scope = c.args.scope in
    let before = scopes_in_list c.args.scopes.now.items in
    let between = scopes_in_list c.collect_branches.new.scopes.items in
    let n = length before in
    let inner = branches_shown part.alternatives.items.items in
    let e : stmt_scopes types scope n (shown_stmt c.args.stmt.now) ≡
    branch_scopes types scope n inner ++ otherwise_scopes types scope (n + scopes_in_branches inner) (otherwise_shown part.otherwise) =
    ap (λ s. stmt_scopes types scope n (shown_stmt s)) c.in-Case.is
    ∙ ap (λ s. stmt_scopes types scope n s) (case_shown box) in
    let first = subst (λ (p : case_.Case). between ≡ before ++ branch_scopes types scope n (branches_shown (out-Case p).alternatives.items.items))
    c.deref-in-Case.ensures c.in_ok-collect_branches-in-Case.ensures in
    let second = subst (λ (p : case_.Case). scopes_in_list c.collect_otherwise-in-Case.new.scopes.items ≡ between ++ otherwise_scopes types scope (length between) (otherwise_shown (out-Case p).otherwise))
    c.deref-in-Case-2.ensures c.in_ok-collect_otherwise-in-Case.ensures in
    rw e (adds_scopes _ _ _ (scopes_in_branches inner) (branch_scopes types scope n inner)
    (λ m. otherwise_scopes types scope m (otherwise_shown part.otherwise)) (length-branch_scopes types scope n inner) first second)

pub collect_stmt-returns-in-Repeat : goal.collect_stmt-returns-in-Repeat
collect_stmt-returns-in-Repeat t c =
    let box = c.in-Repeat.part in
    let x = box.value in
    let types = c.args.types in
    let scope = c.args.scope in
    let before = scopes_in_list c.args.scopes.now.items in
    let n = length before in
    let e : stmt_scopes types scope n (shown_stmt c.args.stmt.now) ≡
    body_scopes types scope n (control_entries x.place x.control) (map shown_body_decl x.body.declarations.items.items)
    (stmts_shown x.body.statements.items.items) =
    ap (λ s. stmt_scopes types scope n (shown_stmt s)) c.in-Repeat.is ∙ ap (stmt_scopes types scope n) (repeat_shown box) in
    rw e (subst (λ (p : Repeat). OnOk c.collect_loop.result (scopes_in_list c.collect_loop.new.scopes.items ≡ before ++
    body_scopes types scope n (control_entries p.place p.control) (map shown_body_decl p.body.declarations.items.items)
    (stmts_shown p.body.statements.items.items))) c.deref-in-Repeat.ensures c.collect_loop.ensures)

pub collect_stmt-returns-in-Begin : goal.collect_stmt-returns-in-Begin
collect_stmt-returns-in-Begin t c =
    let box = c.in-Begin.part in
    let x = box.value in
    let types = c.args.types in
    let scope = c.args.scope in
    let before = scopes_in_list c.args.scopes.now.items in
    let n = length before in
    let none : entries_in c.new.result.items ≡ [] = ap entries_in c.new.ensures.items ∙ entries_in-nil in
    let e : stmt_scopes types scope n (shown_stmt c.args.stmt.now) ≡
    body_scopes types scope n (entries_in c.new.result.items) (map shown_body_decl x.body.declarations.items.items)
    (stmts_shown x.body.statements.items.items) =
    ap (λ s. stmt_scopes types scope n (shown_stmt s)) c.in-Begin.is ∙ ap (stmt_scopes types scope n) (begin_shown box)
    ∙ ap (λ entries. body_scopes types scope n entries (map shown_body_decl x.body.declarations.items.items) (stmts_shown x.body.statements.items.items))
    (sym none) in
    rw e (subst (λ (p : Begin). OnOk c.collect_body.result (scopes_in_list c.collect_body.new.scopes.items ≡ before ++
    body_scopes types scope n (entries_in c.new.result.items) (map shown_body_decl p.body.declarations.items.items) (stmts_shown p.body.statements.items.items)))
    c.deref-in-Begin.ensures c.collect_body.ensures)
