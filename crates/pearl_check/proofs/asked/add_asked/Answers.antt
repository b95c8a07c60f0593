use Rattle.std.proofs.Common.{◌≡◌, ◌++◌, ◌∷◌, [], subst, ap, ◌∙◌, option_map}
use Rattle.std.specs.Result.{OnOk}
use Rattle.pearl_tree.specs.declared.statement.Case as case_
use Rattle.pearl_tree.specs.declared.statement.Case.{out-Case}
use Rattle.pearl_tree.specs.declared.statement.If as if_
use Rattle.pearl_tree.specs.declared.statement.If.{out-If}
use Rattle.pearl_tree.specs.declared.statement.Repeat.{Repeat}
use Rattle.pearl_tree.specs.ShownExpressions.{shown_expr}
use Rattle.pearl_tree.specs.ShownStatements.{ShownStmt, shown_stmt}
use Rattle.pearl_names.proofs.Offered.{if_shown, case_shown, repeat_shown}
use Rattle.pearl_scope.specs.Placed.{placed_at}
use Rattle.pearl_check.specs.declared.asked.Role.TheVariants.{Condition, Count}
use Rattle.pearl_check.specs.Asked.{value, loop_asked, asked_at, asked_in}
use Rattle.pearl_check.proofs.asked.add_asked.Goals as goal

pub returns-in-If : goal.returns-in-If
returns-in-If c =
    let place = c.args.place.now in
    let box = c.in-If.part in
    let e : asked_at (placed_at place) ≡ value Condition place.spot.scope (shown_expr (out-If box.value).condition) ∷ [] =
    ap (λ (s : ShownStmt). asked_at (record { spot = place.spot; next = place.next; statement = s })) (ap shown_stmt c.in-If.is ∙ if_shown box) in
    rw e (subst (λ (p : if_.If). OnOk c.ask_value.result (asked_in c.ask_value.new.asked.items ≡ asked_in c.args.asked.now.items ++ value Condition place.spot.scope (shown_expr (out-If p).condition) ∷ []))
    c.deref.ensures c.ask_value.ensures)

pub returns-in-Case : goal.returns-in-Case
returns-in-Case c =
    let place = c.args.place.now in
    let box = c.in-Case.part in
    let e : asked_at (placed_at place) ≡ value Count place.spot.scope (shown_expr (out-Case box.value).selector) ∷ [] =
    ap (λ (s : ShownStmt). asked_at (record { spot = place.spot; next = place.next; statement = s })) (ap shown_stmt c.in-Case.is ∙ case_shown box) in
    rw e (subst (λ (p : case_.Case). OnOk c.ask_value-in-Case.result (asked_in c.ask_value-in-Case.new.asked.items ≡ asked_in c.args.asked.now.items ++ value Count place.spot.scope (shown_expr (out-Case p).selector) ∷ []))
    c.deref-in-Case.ensures c.ask_value-in-Case.ensures)

pub returns-in-Repeat : goal.returns-in-Repeat
returns-in-Repeat c =
    let place = c.args.place.now in
    let x = c.in-Repeat.part.value in
    let tells = λ (p : Repeat). loop_asked place.spot.scope place.next (option_map shown_expr p.begin) (option_map shown_expr p.step)
    (option_map shown_expr p.end) (option_map shown_expr p.condition) in
    let e : asked_at (placed_at place) ≡ tells x =
    ap (λ (s : ShownStmt). asked_at (record { spot = place.spot; next = place.next; statement = s })) (ap shown_stmt c.in-Repeat.is ∙ repeat_shown c.in-Repeat.part) in
    rw e (subst (λ (p : Repeat). OnOk c.ask_loop.result (asked_in c.ask_loop.new.asked.items ≡ asked_in c.args.asked.now.items ++ tells p))
    c.deref-in-Repeat.ensures c.ask_loop.ensures)
