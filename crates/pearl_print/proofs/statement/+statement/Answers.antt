use Rattle.std.proofs.Common.{◌≡◌, ◌++◌, subst, ap, ◌∙◌}
use Rattle.std.specs.List.{flat_map}
use Rattle.std.specs.Result.{OnOk}
use Rattle.pearl_tree.specs.declared.statement.Begin.{Begin}
use Rattle.pearl_tree.specs.declared.statement.Case as case_
use Rattle.pearl_tree.specs.declared.statement.Case.{out-Case}
use Rattle.pearl_tree.specs.declared.statement.If as if_
use Rattle.pearl_tree.specs.declared.statement.If.{out-If}
use Rattle.pearl_tree.specs.declared.statement.Repeat.{Repeat}
use Rattle.pearl_tree.specs.declared.symbol.TheConstants as s
use Rattle.pearl_tree.specs.declared.word_code.TheConstants as w
use Rattle.pearl_print.specs.Lists.{word, symbol, maybe}
use Rattle.pearl_print.specs.Schedules.{after_tokens}
use Rattle.pearl_print.specs.Spelled.{text_of_tokens}
use Rattle.pearl_print.specs.Statements.{stmt_tokens, branch_tokens, loop_tokens, block_tokens}
use Rattle.pearl_print.proofs.Texts.{adds, adds_other}
use Rattle.pearl_print.proofs.StatementRows.{if_shown, case_shown, repeat_shown, begin_shown}
use Rattle.pearl_print.proofs.statement.«+statement».Goals as goal

pub put_stmt-returns-in_ok-put_ended-in-If : goal.put_stmt-returns-in_ok-put_ended-in-If
put_stmt-returns-in_ok-put_ended-in-If t c =
    let part = c.in-If.part.value in
    let e : stmt_tokens c.args.stmt.now ≡
    after_tokens w.IF (out-If part).condition ++ word w.THEN ++ flat_map stmt_tokens (out-If part).statements.items.items ++
    maybe (branch_tokens w.ELSE) (out-If part).otherwise ++ (word w.FIN ++ symbol s.SEMICOLON) =
    ap stmt_tokens c.in-If.is ∙ if_shown c.in-If.part in
    let condition = adds_other (λ (p : if_.If). after_tokens w.IF (out-If p).condition) _ _ c.deref-in-If.result.now part c.deref-in-If.ensures c.in_ok-put_after-in-If.ensures in
    let statements = adds_other (λ (p : if_.If). flat_map stmt_tokens (out-If p).statements.items.items) _ _ c.deref-in-If-2.result.now part c.deref-in-If-2.ensures c.in_ok-put_stmts-in-If.ensures in
    let otherwise = adds_other (λ (p : if_.If). maybe (branch_tokens w.ELSE) (out-If p).otherwise) _ _ c.deref-in-If-3.result.now part c.deref-in-If-3.ensures c.in_ok-put_otherwise-in-If.ensures in
    rw e (adds _ _ _ _ _ (adds _ _ _ _ _ (adds _ _ _ _ _ (adds _ _ _ _ _ condition c.in_ok-put_word-in-If.ensures) statements) otherwise)
    c.in_ok-put_ended-in-If.ensures)

pub put_stmt-returns-in_ok-put_ended-in-Case : goal.put_stmt-returns-in_ok-put_ended-in-Case
put_stmt-returns-in_ok-put_ended-in-Case t c =
    let part = c.in-Case.part.value in
    let e : stmt_tokens c.args.stmt.now ≡
    after_tokens w.CASE (out-Case part).selector ++ flat_map (branch_tokens w.ALT) (out-Case part).alternatives.items.items ++
    maybe (branch_tokens w.OUT) (out-Case part).otherwise ++ (word w.FIN ++ symbol s.SEMICOLON) =
    ap stmt_tokens c.in-Case.is ∙ case_shown c.in-Case.part in
    let selector = adds_other (λ (p : case_.Case). after_tokens w.CASE (out-Case p).selector) _ _ c.deref-in-Case.result.now part c.deref-in-Case.ensures c.in_ok-put_after-in-Case.ensures in
    let alternatives = adds_other (λ (p : case_.Case). flat_map (branch_tokens w.ALT) (out-Case p).alternatives.items.items) _ _ c.deref-in-Case-2.result.now part c.deref-in-Case-2.ensures c.in_ok-put_alternatives-in-Case.ensures in
    let otherwise = adds_other (λ (p : case_.Case). maybe (branch_tokens w.OUT) (out-Case p).otherwise) _ _ c.deref-in-Case-3.result.now part c.deref-in-Case-3.ensures c.in_ok-put_otherwise-in-Case.ensures in
    rw e (adds _ _ _ _ _ (adds _ _ _ _ _ (adds _ _ _ _ _ selector alternatives) otherwise) c.in_ok-put_ended-in-Case.ensures)

pub put_stmt-returns-in_ok-put_block-in-Repeat : goal.put_stmt-returns-in_ok-put_block-in-Repeat
put_stmt-returns-in_ok-put_block-in-Repeat t c =
    let part = c.in-Repeat.part.value in
    let e : stmt_tokens c.args.stmt.now ≡ loop_tokens part.control part.begin part.step part.end part.condition ++ block_tokens w.REPEAT part.body =
    ap stmt_tokens c.in-Repeat.is ∙ repeat_shown c.in-Repeat.part in
    let head = adds_other (λ (p : Repeat). loop_tokens p.control p.begin p.step p.end p.condition) _ _ c.deref-in-Repeat.result.now part c.deref-in-Repeat.ensures c.in_ok-put_loop-in-Repeat.ensures in
    let body = adds_other (λ (p : Repeat). block_tokens w.REPEAT p.body) _ _ c.deref-in-Repeat-2.result.now part c.deref-in-Repeat-2.ensures c.in_ok-put_block-in-Repeat.ensures in
    rw e (adds _ _ _ _ _ head body)

pub put_stmt-returns-in-Begin : goal.put_stmt-returns-in-Begin
put_stmt-returns-in-Begin t c =
    let part = c.in-Begin.part.value in
    let e : stmt_tokens c.args.stmt.now ≡ block_tokens w.BEGIN part.body = ap stmt_tokens c.in-Begin.is ∙ begin_shown c.in-Begin.part in
    rw e (subst (λ (p : Begin). OnOk c.put_block-in-Begin.result (c.put_block-in-Begin.new.into.items ≡ c.args.into.now.items ++ text_of_tokens (block_tokens w.BEGIN p.body)))
    c.deref-in-Begin.ensures c.put_block-in-Begin.ensures)
