-- The tokens of statements with statements within them, told by the lists that their fields show.
use Rattle.std.proofs.Common.{◌≡◌, ℕ, ◌++◌, refl, sym, ap, ◌∙◌, Box, Global}
use mathlib.Core.Former.{Count}
use Rattle.std.specs.List.{flat_map}
use Rattle.pearl_tree.specs.declared.statement.Stmt.{Stmt, If', Case', Repeat', Begin', Row_of-Stmt, end_of-Stmt, more_of-Stmt, items-the_row-Stmt, items_shown-the_row-Stmt-0, items_hidden-the_row-Stmt-0}
use Rattle.pearl_tree.specs.declared.statement.Stmt as stmt
use Rattle.pearl_tree.specs.declared.statement.Repeat.{Repeat}
use Rattle.pearl_tree.specs.declared.statement.Begin.{Begin}
use Rattle.pearl_tree.specs.declared.statement.If as if_
use Rattle.pearl_tree.specs.declared.statement.If.{out-If, outs-If', Held-Case-otherwise, None', Some', view-Case-otherwise}
use Rattle.pearl_tree.specs.declared.statement.Case as case_
use Rattle.pearl_tree.specs.declared.statement.Case.{out-Case, outs-Case', Row_of-Branch, end_of-Branch, more_of-Branch, items-the_row-Branch, items_shown-the_row-Branch-1}
use Rattle.pearl_tree.specs.declared.symbol.TheConstants as s
use Rattle.pearl_tree.specs.declared.word_code.TheConstants as w
use Rattle.pearl_print.specs.Lists.{word, symbol, maybe}
use Rattle.pearl_print.specs.Schedules.{after_tokens}
use Rattle.pearl_print.specs.Statements.{body_decl_tokens, loop_tokens, stmt_tokens, stmts_tokens, alternatives_tokens, otherwise_tokens, branch_tokens, block_tokens}

stmts_each : (n : _) (row : Row_of-Stmt n) → stmts_tokens row ≡ flat_map stmt_tokens (items-the_row-Stmt n row)
stmts_each _ end_of-Stmt = refl
stmts_each _ (more_of-Stmt statement rest) = ap (λ t. stmt_tokens statement ++ t) (stmts_each _ rest)

abbrev statements_of : Stmt → (n : Count) × Row_of-Stmt n
statements_of (If' _ (if_.If' _ _ row _ _)) = (_, row)
statements_of (Repeat' _ _ _ _ _ _ _ _ row _ _) = (_, row)
statements_of (Begin' _ _ _ row _ _) = (_, row)
statements_of _ = (_, end_of-Stmt)

-- [ word { stmt } ]
otherwise_maybe : (code : ℕ) (otherwise : Held-Case-otherwise) → otherwise_tokens code otherwise ≡ maybe (branch_tokens code) (view-Case-otherwise otherwise)
otherwise_maybe code None' = refl
otherwise_maybe code (Some' shape row place) =
    ap (λ t. word code ++ t) (stmts_each _ row ∙ ap (λ xs. flat_map stmt_tokens xs) (sym (items_shown-the_row-Stmt-0 shape row)))

alternatives_each : (n : _) (row : Row_of-Branch n) → alternatives_tokens row ≡ flat_map (branch_tokens w.ALT) (items-the_row-Branch n row)
alternatives_each _ end_of-Branch = refl
alternatives_each _ (more_of-Branch shape row place rest) =
    λ i. (word w.ALT ++ (stmts_each _ row ∙ ap (λ xs. flat_map stmt_tokens xs) (sym (items_shown-the_row-Stmt-0 shape row))) i) ++ alternatives_each _ rest i

if_tokens : (q : _) (part : if_.If) →
    stmt_tokens (If' q part) ≡
    after_tokens w.IF (out-If part).condition ++ word w.THEN ++ flat_map stmt_tokens (out-If part).statements.items.items ++
    maybe (branch_tokens w.ELSE) (out-If part).otherwise ++ (word w.FIN ++ symbol s.SEMICOLON)
if_tokens q (if_.If' condition shape row otherwise place) =
    rw (outs-If' condition shape row otherwise place) (
    λ i. after_tokens w.IF condition ++ word w.THEN ++
    (stmts_each _ row ∙ ap (λ xs. flat_map stmt_tokens xs) (sym (items_shown-the_row-Stmt-0 shape row))) i ++
    otherwise_maybe w.ELSE otherwise i ++ (word w.FIN ++ symbol s.SEMICOLON))

-- IF expr THEN { stmt } [ ELSE { stmt } ] FIN ";"
pub if_shown : (box : Box if_.If Global) →
    stmt_tokens (stmt.If box) ≡
    after_tokens w.IF (out-If box.value).condition ++ word w.THEN ++ flat_map stmt_tokens (out-If box.value).statements.items.items ++
    maybe (branch_tokens w.ELSE) (out-If box.value).otherwise ++ (word w.FIN ++ symbol s.SEMICOLON)
if_shown box = if_tokens (record { ptr = box.ptr; alloc = box.alloc; value = tt }) box.value

case_tokens : (q : _) (part : case_.Case) →
    stmt_tokens (Case' q part) ≡
    after_tokens w.CASE (out-Case part).selector ++ flat_map (branch_tokens w.ALT) (out-Case part).alternatives.items.items ++
    maybe (branch_tokens w.OUT) (out-Case part).otherwise ++ (word w.FIN ++ symbol s.SEMICOLON)
case_tokens q (case_.Case' selector shape row otherwise place) =
    rw (outs-Case' selector shape row otherwise place) (
    λ i. after_tokens w.CASE selector ++
    (alternatives_each _ row ∙ ap (λ xs. flat_map (branch_tokens w.ALT) xs) (sym (items_shown-the_row-Branch-1 shape row))) i ++
    otherwise_maybe w.OUT otherwise i ++ (word w.FIN ++ symbol s.SEMICOLON))

-- CASE expr ALT { stmt } { ALT { stmt } } [ OUT { stmt } ] FIN ";"
pub case_shown : (box : Box case_.Case Global) →
    stmt_tokens (stmt.Case box) ≡
    after_tokens w.CASE (out-Case box.value).selector ++ flat_map (branch_tokens w.ALT) (out-Case box.value).alternatives.items.items ++
    maybe (branch_tokens w.OUT) (out-Case box.value).otherwise ++ (word w.FIN ++ symbol s.SEMICOLON)
case_shown box = case_tokens (record { ptr = box.ptr; alloc = box.alloc; value = tt }) box.value

-- REPEAT, and what stands before it
pub repeat_shown : (box : Box Repeat Global) →
    stmt_tokens (stmt.Repeat box) ≡
    loop_tokens box.value.control box.value.begin box.value.step box.value.end box.value.condition ++ block_tokens w.REPEAT box.value.body
repeat_shown box =
    let row = statements_of (stmt.Repeat box) in
    let body = box.value.body in
    ap (λ t. loop_tokens box.value.control box.value.begin box.value.step box.value.end box.value.condition ++
    (word w.REPEAT ++ (flat_map body_decl_tokens body.declarations.items.items ++ t) ++ (word w.END ++ symbol s.SEMICOLON)))
    (stmts_each row.0 row.1 ∙ ap (λ xs. flat_map stmt_tokens xs) (items_hidden-the_row-Stmt-0 body.statements.items))

-- BEGIN body END ";"
pub begin_shown : (box : Box Begin Global) → stmt_tokens (stmt.Begin box) ≡ block_tokens w.BEGIN box.value.body
begin_shown box =
    let row = statements_of (stmt.Begin box) in
    let body = box.value.body in
    ap (λ t. word w.BEGIN ++ (flat_map body_decl_tokens body.declarations.items.items ++ t) ++ (word w.END ++ symbol s.SEMICOLON))
    (stmts_each row.0 row.1 ∙ ap (λ xs. flat_map stmt_tokens xs) (items_hidden-the_row-Stmt-0 body.statements.items))
