-- What statements with statements within them say, told by the lists that their fields hold.
use Rattle.std.proofs.Common.{◌≡◌, refl, sym, ap, ◌∙◌, option_map, Box, Global}
use mathlib.Core.Former.{Count}
use Rattle.pearl_program.specs.declared.statement.Stmt.{Stmt, Row_of-Stmt, end_of-Stmt, more_of-Stmt, items-the_row-Stmt, items_shown-the_row-Stmt-0, items_hidden-the_row-Stmt-0}
use Rattle.pearl_program.specs.declared.statement.Stmt as stmt
use Rattle.pearl_program.specs.declared.statement.If.{If}
use Rattle.pearl_program.specs.declared.statement.Repeat.{Repeat}
use Rattle.pearl_program.specs.declared.statement.Case as case_
use Rattle.pearl_program.specs.declared.statement.Case.{out-Case, outs-Case', Row_of-Branch, end_of-Branch, more_of-Branch, items-the_row-Branch, items_shown-the_row-Branch-1}
use Rattle.pearl_program.specs.PlainExpressions.{plain_expr}
use Rattle.pearl_program.specs.PlainStatements.{OfIf, OfCase, OfRepeat, MoreStmts, MoreBranches, plain_counter, plain_stmt, plain_stmts, plain_stmt_row, plain_branch_row, plain_branches}

stmts_plain : (n : _) (row : Row_of-Stmt n) → plain_stmt_row row ≡ plain_stmts (items-the_row-Stmt n row)
stmts_plain _ end_of-Stmt = refl
stmts_plain _ (more_of-Stmt s rest) = ap (λ t. MoreStmts (plain_stmt s) t) (stmts_plain _ rest)

branches_plain : (n : _) (row : Row_of-Branch n) → plain_branch_row row ≡ plain_branches (items-the_row-Branch n row)
branches_plain _ end_of-Branch = refl
branches_plain _ (more_of-Branch shape row rest) =
    λ i. MoreBranches ((stmts_plain _ row ∙ ap plain_stmts (sym (items_shown-the_row-Stmt-0 shape row))) i) (branches_plain _ rest i)

abbrev first_of : Stmt → (n : Count) × Row_of-Stmt n
first_of (stmt.If' _ _ _ row _ _) = (_, row)
first_of (stmt.Repeat' _ _ _ _ row) = (_, row)
first_of _ = (_, end_of-Stmt)

abbrev second_of : Stmt → (n : Count) × Row_of-Stmt n
second_of (stmt.If' _ _ _ _ _ row) = (_, row)
second_of _ = (_, end_of-Stmt)

pub if_plain : (box : Box If Global) →
    plain_stmt (stmt.If box) ≡ OfIf (plain_expr box.value.condition) (plain_stmts box.value.statements.items) (plain_stmts box.value.otherwise.items)
if_plain box =
    let one = first_of (stmt.If box) in
    let two = second_of (stmt.If box) in
    λ i. OfIf (plain_expr box.value.condition)
    ((stmts_plain one.0 one.1 ∙ ap plain_stmts (items_hidden-the_row-Stmt-0 box.value.statements)) i)
    ((stmts_plain two.0 two.1 ∙ ap plain_stmts (items_hidden-the_row-Stmt-0 box.value.otherwise)) i)

pub repeat_plain : (box : Box Repeat Global) →
    plain_stmt (stmt.Repeat box) ≡
    OfRepeat (option_map plain_counter box.value.counter) (option_map plain_expr box.value.condition) (plain_stmts box.value.statements.items)
repeat_plain box =
    let row = first_of (stmt.Repeat box) in
    ap (λ t. OfRepeat (option_map plain_counter box.value.counter) (option_map plain_expr box.value.condition) t)
    (stmts_plain row.0 row.1 ∙ ap plain_stmts (items_hidden-the_row-Stmt-0 box.value.statements))

plain_case : (q : _) (part : case_.Case) →
    plain_stmt (stmt.Case' q part) ≡
    OfCase (plain_expr (out-Case part).selector) (plain_branches (out-Case part).alternatives.items) (plain_stmts (out-Case part).otherwise.items)
plain_case q (case_.Case' selector shape row other otherwise) =
    rw (outs-Case' selector shape row other otherwise) (
    λ i. OfCase (plain_expr selector)
    ((branches_plain _ row ∙ ap plain_branches (sym (items_shown-the_row-Branch-1 shape row))) i)
    ((stmts_plain _ otherwise ∙ ap plain_stmts (sym (items_shown-the_row-Stmt-0 other otherwise))) i))

pub case_plain : (box : Box case_.Case Global) →
    plain_stmt (stmt.Case box) ≡
    OfCase (plain_expr (out-Case box.value).selector) (plain_branches (out-Case box.value).alternatives.items) (plain_stmts (out-Case box.value).otherwise.items)
case_plain box = plain_case (record { ptr = box.ptr; alloc = box.alloc; value = tt }) box.value
