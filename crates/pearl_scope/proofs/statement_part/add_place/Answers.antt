use Rattle.std.proofs.Common.{◌≡◌, ◌++◌, subst, ap, ◌∙◌, map, option_map}
use Rattle.std.specs.List.{flat_map}
use Rattle.std.specs.Result.{OnOk}
use Rattle.pearl_tree.specs.declared.statement.Begin.{Begin}
use Rattle.pearl_tree.specs.declared.statement.Case as case_
use Rattle.pearl_tree.specs.declared.statement.Case.{out-Case}
use Rattle.pearl_tree.specs.declared.statement.If as if_
use Rattle.pearl_tree.specs.declared.statement.If.{out-If}
use Rattle.pearl_tree.specs.declared.statement.Repeat.{Repeat}
use Rattle.pearl_tree.specs.ShownExpressions.{shown_expr}
use Rattle.pearl_tree.specs.ShownStatements.{ShownStmt, shown_stmt, shown_body_decl}
use Rattle.pearl_names.specs.declared.scope.View.TheVariants.{Within}
use Rattle.pearl_scope.specs.Parts.{expr_parts, loop_parts, body_decl_parts}
use Rattle.pearl_scope.specs.PartLists.{parts_in}
use Rattle.pearl_scope.specs.Placed.{placed_at, parts_at}
use Rattle.pearl_names.proofs.Offered.{if_shown, case_shown, repeat_shown, begin_shown}
use Rattle.pearl_scope.proofs.statement_part.add_place.Goals as goal

pub returns-in-If : goal.returns-in-If
returns-in-If c =
    let place = c.args.place.now in
    let box = c.in-If.part in
    let view = Within place.spot.scope in
    let e : parts_at c.args.types (placed_at place) ≡ expr_parts view (shown_expr (out-If box.value).condition) =
    ap (λ (s : ShownStmt). parts_at c.args.types (record { spot = place.spot; next = place.next; statement = s })) (ap shown_stmt c.in-If.is ∙ if_shown box) in
    rw e (subst (λ (p : if_.If). OnOk c.add_expr.result (parts_in c.add_expr.new.parts.items ≡ parts_in c.args.parts.now.items ++ expr_parts view (shown_expr (out-If p).condition)))
    c.deref.ensures c.add_expr.ensures)

pub returns-in-Case : goal.returns-in-Case
returns-in-Case c =
    let place = c.args.place.now in
    let box = c.in-Case.part in
    let view = Within place.spot.scope in
    let e : parts_at c.args.types (placed_at place) ≡ expr_parts view (shown_expr (out-Case box.value).selector) =
    ap (λ (s : ShownStmt). parts_at c.args.types (record { spot = place.spot; next = place.next; statement = s })) (ap shown_stmt c.in-Case.is ∙ case_shown box) in
    rw e (subst (λ (p : case_.Case). OnOk c.add_expr-in-Case.result (parts_in c.add_expr-in-Case.new.parts.items ≡ parts_in c.args.parts.now.items ++ expr_parts view (shown_expr (out-Case p).selector)))
    c.deref-in-Case.ensures c.add_expr-in-Case.ensures)

pub returns-in-Repeat : goal.returns-in-Repeat
returns-in-Repeat c =
    let place = c.args.place.now in
    let x = c.in-Repeat.part.value in
    let tells = λ (p : Repeat). loop_parts place.spot.scope place.next (option_map shown_expr p.begin) (option_map shown_expr p.step)
    (option_map shown_expr p.end) (option_map shown_expr p.condition) ++ flat_map (body_decl_parts place.next c.args.types) (map shown_body_decl p.body.declarations.items.items) in
    let e : parts_at c.args.types (placed_at place) ≡ tells x =
    ap (λ (s : ShownStmt). parts_at c.args.types (record { spot = place.spot; next = place.next; statement = s })) (ap shown_stmt c.in-Repeat.is ∙ repeat_shown c.in-Repeat.part) in
    rw e (subst (λ (p : Repeat). OnOk c.add_loop.result (parts_in c.add_loop.new.parts.items ≡ parts_in c.args.parts.now.items ++ tells p))
    c.deref-in-Repeat.ensures c.add_loop.ensures)

pub returns-in-Begin : goal.returns-in-Begin
returns-in-Begin c =
    let place = c.args.place.now in
    let x = c.in-Begin.part.value in
    let tells = λ (p : Begin). flat_map (body_decl_parts place.next c.args.types) (map shown_body_decl p.body.declarations.items.items) in
    let e : parts_at c.args.types (placed_at place) ≡ tells x =
    ap (λ (s : ShownStmt). parts_at c.args.types (record { spot = place.spot; next = place.next; statement = s })) (ap shown_stmt c.in-Begin.is ∙ begin_shown c.in-Begin.part) in
    let same = c.as_slice.ensures ∙ ap (λ (p : Begin). p.body.declarations.items.items) c.deref-in-Begin.ensures in
    rw e (subst (λ xs. OnOk c.add_body_declarations.result (parts_in c.add_body_declarations.new.parts.items ≡
    parts_in c.args.parts.now.items ++ flat_map (body_decl_parts place.next c.args.types) (map shown_body_decl xs))) same c.add_body_declarations.ensures)
