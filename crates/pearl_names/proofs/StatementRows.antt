-- What statements with statements within them show, told by the lists that their fields hold.
use Rattle.std.proofs.Common.{◌≡◌, refl, sym, ap, ◌∙◌, map, option_map, Box, Global}
use mathlib.Core.Former.{Count}
use Rattle.pearl_tree.specs.declared.statement.Stmt.{Stmt, If', Case', Repeat', Begin', Row_of-Stmt, end_of-Stmt, more_of-Stmt, items-the_row-Stmt, items_shown-the_row-Stmt-0, items_hidden-the_row-Stmt-0}
use Rattle.pearl_tree.specs.declared.statement.Stmt as stmt
use Rattle.pearl_tree.specs.declared.statement.Repeat.{Repeat}
use Rattle.pearl_tree.specs.declared.statement.Begin.{Begin}
use Rattle.pearl_tree.specs.declared.statement.If as if_
use Rattle.pearl_tree.specs.declared.statement.If.{out-If, outs-If', Held-Case-otherwise, None', Some', view-Case-otherwise}
use Rattle.pearl_tree.specs.declared.statement.Case as case_
use Rattle.pearl_tree.specs.declared.statement.Case.{out-Case, outs-Case', Row_of-Branch, end_of-Branch, more_of-Branch, items-the_row-Branch, items_shown-the_row-Branch-1}
use Rattle.pearl_tree.specs.ShownExpressions.{shown_expr}
use Rattle.pearl_tree.specs.ShownStatements.{OfIf, OfCase, OfRepeat, OfBegin, MoreStmts, MoreBranches, OfOtherwise, shown_stmt, shown_stmts, shown_branches, shown_otherwise, shown_body_decl}
use Rattle.pearl_names.specs.Listed.{stmts_shown, branches_shown, otherwise_shown}

stmts_list : (n : _) (row : Row_of-Stmt n) → shown_stmts row ≡ stmts_shown (items-the_row-Stmt n row)
stmts_list _ end_of-Stmt = refl
stmts_list _ (more_of-Stmt statement rest) = ap (λ t. MoreStmts (shown_stmt statement) t) (stmts_list _ rest)

abbrev statements_of : Stmt → (n : Count) × Row_of-Stmt n
statements_of (If' _ (if_.If' _ _ row _ _)) = (_, row)
statements_of (Repeat' _ _ _ _ _ _ _ _ row _ _) = (_, row)
statements_of (Begin' _ _ _ row _ _) = (_, row)
statements_of _ = (_, end_of-Stmt)

otherwise_list : (otherwise : Held-Case-otherwise) → shown_otherwise otherwise ≡ otherwise_shown (view-Case-otherwise otherwise)
otherwise_list None' = refl
otherwise_list (Some' shape row place) =
    ap (λ t. OfOtherwise t place) (stmts_list _ row ∙ ap stmts_shown (sym (items_shown-the_row-Stmt-0 shape row)))

branches_list : (n : _) (row : Row_of-Branch n) → shown_branches row ≡ branches_shown (items-the_row-Branch n row)
branches_list _ end_of-Branch = refl
branches_list _ (more_of-Branch shape row place rest) =
    λ i. MoreBranches ((stmts_list _ row ∙ ap stmts_shown (sym (items_shown-the_row-Stmt-0 shape row))) i) place (branches_list _ rest i)

shown_if : (q : _) (part : if_.If) →
    shown_stmt (If' q part) ≡
    OfIf (shown_expr (out-If part).condition) (stmts_shown (out-If part).statements.items.items) (otherwise_shown (out-If part).otherwise) (out-If part).place
shown_if q (if_.If' condition shape row otherwise place) =
    rw (outs-If' condition shape row otherwise place) (
    λ i. OfIf (shown_expr condition)
    ((stmts_list _ row ∙ ap stmts_shown (sym (items_shown-the_row-Stmt-0 shape row))) i) (otherwise_list otherwise i) place)

pub if_shown : (box : Box if_.If Global) →
    shown_stmt (stmt.If box) ≡
    OfIf (shown_expr (out-If box.value).condition) (stmts_shown (out-If box.value).statements.items.items) (otherwise_shown (out-If box.value).otherwise)
    (out-If box.value).place
if_shown box = shown_if (record { ptr = box.ptr; alloc = box.alloc; value = tt }) box.value

shown_case : (q : _) (part : case_.Case) →
    shown_stmt (Case' q part) ≡
    OfCase (shown_expr (out-Case part).selector) (branches_shown (out-Case part).alternatives.items.items) (otherwise_shown (out-Case part).otherwise)
    (out-Case part).place
shown_case q (case_.Case' selector shape row otherwise place) =
    rw (outs-Case' selector shape row otherwise place) (
    λ i. OfCase (shown_expr selector)
    ((branches_list _ row ∙ ap branches_shown (sym (items_shown-the_row-Branch-1 shape row))) i) (otherwise_list otherwise i) place)

pub case_shown : (box : Box case_.Case Global) →
    shown_stmt (stmt.Case box) ≡
    OfCase (shown_expr (out-Case box.value).selector) (branches_shown (out-Case box.value).alternatives.items.items)
    (otherwise_shown (out-Case box.value).otherwise) (out-Case box.value).place
case_shown box = shown_case (record { ptr = box.ptr; alloc = box.alloc; value = tt }) box.value

pub repeat_shown : (box : Box Repeat Global) →
    shown_stmt (stmt.Repeat box) ≡
    OfRepeat box.value.control (option_map shown_expr box.value.begin) (option_map shown_expr box.value.step) (option_map shown_expr box.value.end)
    (option_map shown_expr box.value.condition) (map shown_body_decl box.value.body.declarations.items.items)
    (stmts_shown box.value.body.statements.items.items) box.value.body.place box.value.place
repeat_shown box =
    let row = statements_of (stmt.Repeat box) in
    let part = box.value in
    ap (λ t. OfRepeat part.control (option_map shown_expr part.begin) (option_map shown_expr part.step) (option_map shown_expr part.end)
    (option_map shown_expr part.condition) (map shown_body_decl part.body.declarations.items.items) t part.body.place part.place)
    (stmts_list row.0 row.1 ∙ ap stmts_shown (items_hidden-the_row-Stmt-0 part.body.statements.items))

pub begin_shown : (box : Box Begin Global) →
    shown_stmt (stmt.Begin box) ≡
    OfBegin (map shown_body_decl box.value.body.declarations.items.items) (stmts_shown box.value.body.statements.items.items) box.value.body.place box.value.place
begin_shown box =
    let row = statements_of (stmt.Begin box) in
    let part = box.value in
    ap (λ t. OfBegin (map shown_body_decl part.body.declarations.items.items) t part.body.place part.place)
    (stmts_list row.0 row.1 ∙ ap stmts_shown (items_hidden-the_row-Stmt-0 part.body.statements.items))
