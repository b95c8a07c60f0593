-- What a statement with a body spells, told by the lists that its fields show.
use Rattle.std.proofs.Common.{◌≡◌, ℕ, ◌+◌, ◌-◌, ◌<◌, List, refl, sym, ap, ◌∙◌, Box, Global}
use mathlib.Core.Former.{Count}
use Rattle.pearl_tree.specs.declared.statement.Stmt.{Stmt, If', Case', Repeat', Begin', Row_of-Stmt, end_of-Stmt, more_of-Stmt, items-the_row-Stmt, items_shown-the_row-Stmt-0, items_hidden-the_row-Stmt-0}
use Rattle.pearl_tree.specs.declared.statement.Stmt as stmt
use Rattle.pearl_tree.specs.declared.statement.Repeat.{Repeat}
use Rattle.pearl_tree.specs.declared.statement.Begin.{Begin}
use Rattle.pearl_tree.specs.declared.statement.If as if_
use Rattle.pearl_tree.specs.declared.statement.If.{out-If, outs-If', Held-Case-otherwise, None', Some', view-Case-otherwise}
use Rattle.pearl_tree.specs.declared.statement.Case as case_
use Rattle.pearl_tree.specs.declared.statement.Case.{out-Case, outs-Case', Row_of-Branch, end_of-Branch, more_of-Branch, items-the_row-Branch, items_shown-the_row-Branch-1}
use Rattle.pearl_tree.specs.declared.statement.Body.{Body}
use Rattle.pearl_tree.specs.declared.token.Token.{Token}
use Rattle.pearl_tree.specs.Standing.{IsAt, HasWord, HasSymbol, SpellsEach, SpellsSome, SpellsMaybe}
use Rattle.pearl_tree.specs.Statements.{SpellsStmt, SpellsStmts, SpellsAlternatives, SpellsMoreAlternatives, SpellsOtherwise, SpellsBranch, SpellsBody, SpellsBodyDecl, SpellsAfter, SpellsFor}
use Rattle.pearl_tree.specs.declared.symbol.TheConstants as s
use Rattle.pearl_tree.specs.declared.word_code.TheConstants as w

module _ (tokens : List Token) where
  statements_each : (depth from : ℕ) (n : _) (row : Row_of-Stmt n) (to : ℕ) →
      SpellsStmts tokens depth from row to ≡
      SpellsEach (SpellsStmt tokens depth) from (items-the_row-Stmt n row) to
  statements_each depth from _ end_of-Stmt to = refl
  statements_each depth from _ (more_of-Stmt statement rest) to =
      λ i. (m : ℕ) × SpellsStmt tokens depth from statement m × statements_each depth m _ rest to i

  abbrev statements_of : Stmt → (n : Count) × Row_of-Stmt n
  statements_of (If' _ (if_.If' _ _ row _ _)) = (_, row)
  statements_of (Repeat' _ _ _ _ _ _ _ _ row _ _) = (_, row)
  statements_of (Begin' _ _ _ row _ _) = (_, row)
  statements_of _ = (_, end_of-Stmt)

  otherwise_maybe : (depth word from : ℕ) (otherwise : Held-Case-otherwise) (to : ℕ) →
      SpellsOtherwise tokens depth word from otherwise to ≡
      SpellsMaybe (SpellsBranch tokens depth word) from (view-Case-otherwise otherwise) to
  otherwise_maybe depth word from None' to = refl
  otherwise_maybe depth word from (Some' shape row place) to =
      λ i. IsAt tokens from place × HasWord tokens from word ×
      (statements_each depth (from + 1) _ row to ∙
      ap (λ xs. SpellsEach (SpellsStmt tokens depth) (from + 1) xs to) (sym (items_shown-the_row-Stmt-0 shape row))) i

  more_alternatives : (depth from : ℕ) (n : _) (row : Row_of-Branch n) (to : ℕ) →
      SpellsMoreAlternatives tokens depth from row to ≡
      SpellsEach (SpellsBranch tokens depth w.ALT) from (items-the_row-Branch n row) to
  more_alternatives depth from _ end_of-Branch to = refl
  more_alternatives depth from _ (more_of-Branch shape row place rest) to =
      λ i. (m : ℕ) × (IsAt tokens from place × HasWord tokens from w.ALT ×
      (statements_each depth (from + 1) _ row m ∙
      ap (λ xs. SpellsEach (SpellsStmt tokens depth) (from + 1) xs m) (sym (items_shown-the_row-Stmt-0 shape row))) i) ×
      more_alternatives depth m _ rest to i

  alternatives_some : (depth from : ℕ) (n : _) (row : Row_of-Branch n) (to : ℕ) →
      SpellsAlternatives tokens depth from row to ≡
      SpellsSome (SpellsBranch tokens depth w.ALT) from (items-the_row-Branch n row) to
  alternatives_some depth from _ end_of-Branch to = refl
  alternatives_some depth from _ (more_of-Branch shape row place rest) to =
      λ i. (m : ℕ) × (IsAt tokens from place × HasWord tokens from w.ALT ×
      (statements_each depth (from + 1) _ row m ∙
      ap (λ xs. SpellsEach (SpellsStmt tokens depth) (from + 1) xs m) (sym (items_shown-the_row-Stmt-0 shape row))) i) ×
      more_alternatives depth m _ rest to i

  if_spelled : (depth from : ℕ) (q : _) (part : if_.If) (to : ℕ) →
      SpellsStmt tokens depth from (If' q part) to ≡
      ((a : ℕ) × (b : ℕ) × (c : ℕ) × IsAt tokens from (out-If part).place × (0 < depth) ×
      SpellsAfter tokens w.IF from (out-If part).condition a × HasWord tokens a w.THEN ×
      SpellsEach (SpellsStmt tokens (depth - 1)) (a + 1) (out-If part).statements.items.items b ×
      SpellsMaybe (SpellsBranch tokens (depth - 1) w.ELSE) b (out-If part).otherwise c × HasWord tokens c w.FIN ×
      HasSymbol tokens (c + 1) s.SEMICOLON × (to ≡ c + 2))
  if_spelled depth from q (if_.If' condition shape row otherwise place) to =
      rw (outs-If' condition shape row otherwise place) (
      λ i. (a : ℕ) × (b : ℕ) × (c : ℕ) × IsAt tokens from place × (0 < depth) × SpellsAfter tokens w.IF from condition a ×
      HasWord tokens a w.THEN ×
      (statements_each (depth - 1) (a + 1) _ row b ∙
      ap (λ xs. SpellsEach (SpellsStmt tokens (depth - 1)) (a + 1) xs b) (sym (items_shown-the_row-Stmt-0 shape row))) i ×
      otherwise_maybe (depth - 1) w.ELSE b otherwise c i × HasWord tokens c w.FIN ×
      HasSymbol tokens (c + 1) s.SEMICOLON × (to ≡ c + 2))

  -- IF expr THEN { stmt } [ ELSE { stmt } ] FIN ";"
  pub spells_if : (depth from : ℕ) (box : Box if_.If Global) (to : ℕ) →
      SpellsStmt tokens depth from (stmt.If box) to ≡
      ((a : ℕ) × (b : ℕ) × (c : ℕ) × IsAt tokens from (out-If box.value).place × (0 < depth) ×
      SpellsAfter tokens w.IF from (out-If box.value).condition a × HasWord tokens a w.THEN ×
      SpellsEach (SpellsStmt tokens (depth - 1)) (a + 1) (out-If box.value).statements.items.items b ×
      SpellsMaybe (SpellsBranch tokens (depth - 1) w.ELSE) b (out-If box.value).otherwise c × HasWord tokens c w.FIN ×
      HasSymbol tokens (c + 1) s.SEMICOLON × (to ≡ c + 2))
  spells_if depth from box to = if_spelled depth from (record { ptr = box.ptr; alloc = box.alloc; value = tt }) box.value to

  case_spelled : (depth from : ℕ) (q : _) (part : case_.Case) (to : ℕ) →
      SpellsStmt tokens depth from (Case' q part) to ≡
      ((a : ℕ) × (b : ℕ) × (c : ℕ) × IsAt tokens from (out-Case part).place × (0 < depth) ×
      SpellsAfter tokens w.CASE from (out-Case part).selector a ×
      SpellsSome (SpellsBranch tokens (depth - 1) w.ALT) a (out-Case part).alternatives.items.items b ×
      SpellsMaybe (SpellsBranch tokens (depth - 1) w.OUT) b (out-Case part).otherwise c × HasWord tokens c w.FIN ×
      HasSymbol tokens (c + 1) s.SEMICOLON × (to ≡ c + 2))
  case_spelled depth from q (case_.Case' selector shape row otherwise place) to =
      rw (outs-Case' selector shape row otherwise place) (
      λ i. (a : ℕ) × (b : ℕ) × (c : ℕ) × IsAt tokens from place × (0 < depth) × SpellsAfter tokens w.CASE from selector a ×
      (alternatives_some (depth - 1) a _ row b ∙
      ap (λ xs. SpellsSome (SpellsBranch tokens (depth - 1) w.ALT) a xs b) (sym (items_shown-the_row-Branch-1 shape row))) i ×
      otherwise_maybe (depth - 1) w.OUT b otherwise c i × HasWord tokens c w.FIN ×
      HasSymbol tokens (c + 1) s.SEMICOLON × (to ≡ c + 2))

  -- CASE expr ALT { stmt } { ALT { stmt } } [ OUT { stmt } ] FIN ";"
  pub spells_case : (depth from : ℕ) (box : Box case_.Case Global) (to : ℕ) →
      SpellsStmt tokens depth from (stmt.Case box) to ≡
      ((a : ℕ) × (b : ℕ) × (c : ℕ) × IsAt tokens from (out-Case box.value).place × (0 < depth) ×
      SpellsAfter tokens w.CASE from (out-Case box.value).selector a ×
      SpellsSome (SpellsBranch tokens (depth - 1) w.ALT) a (out-Case box.value).alternatives.items.items b ×
      SpellsMaybe (SpellsBranch tokens (depth - 1) w.OUT) b (out-Case box.value).otherwise c × HasWord tokens c w.FIN ×
      HasSymbol tokens (c + 1) s.SEMICOLON × (to ≡ c + 2))
  spells_case depth from box to = case_spelled depth from (record { ptr = box.ptr; alloc = box.alloc; value = tt }) box.value to

  -- a body within a statement
  body_spelled : (depth from : ℕ) (body : Body) (n : _) (row : Row_of-Stmt n) →
      items-the_row-Stmt n row ≡ body.statements.items.items → (to : ℕ) →
      ((m : ℕ) × IsAt tokens from body.place ×
      SpellsEach (SpellsBodyDecl tokens) from body.declarations.items.items m × SpellsStmts tokens depth m row to) ≡
      SpellsBody tokens depth from body to
  body_spelled depth from body n row same to =
      λ i. (m : ℕ) × IsAt tokens from body.place ×
      SpellsEach (SpellsBodyDecl tokens) from body.declarations.items.items m ×
      (statements_each depth m n row to ∙ ap (λ xs. SpellsEach (SpellsStmt tokens depth) m xs to) same) i

  -- BEGIN body END ";"
  pub spells_begin : (depth from : ℕ) (box : Box Begin Global) (to : ℕ) →
      SpellsStmt tokens depth from (stmt.Begin box) to ≡
      ((a : ℕ) × IsAt tokens from box.value.place × (0 < depth) × HasWord tokens from w.BEGIN ×
      SpellsBody tokens (depth - 1) (from + 1) box.value.body a × HasWord tokens a w.END ×
      HasSymbol tokens (a + 1) s.SEMICOLON × (to ≡ a + 2))
  spells_begin depth from box to =
      let row = statements_of (stmt.Begin box) in
      let body = box.value.body in
      λ i. (a : ℕ) × IsAt tokens from box.value.place × (0 < depth) × HasWord tokens from w.BEGIN ×
      body_spelled (depth - 1) (from + 1) body row.0 row.1 (items_hidden-the_row-Stmt-0 body.statements.items) a i ×
      HasWord tokens a w.END × HasSymbol tokens (a + 1) s.SEMICOLON × (to ≡ a + 2)

  -- [ FOR id ] [ FROM expr ] [ BY expr ] [ TO expr ] [ WHILE expr ] REPEAT body END ";"
  pub spells_repeat : (depth from : ℕ) (box : Box Repeat Global) (to : ℕ) →
      SpellsStmt tokens depth from (stmt.Repeat box) to ≡
      ((a : ℕ) × (b : ℕ) × (c : ℕ) × (d : ℕ) × (e : ℕ) × (f : ℕ) × IsAt tokens from box.value.place × (0 < depth) ×
      SpellsMaybe (SpellsFor tokens) from box.value.control a × SpellsMaybe (SpellsAfter tokens w.FROM) a box.value.begin b ×
      SpellsMaybe (SpellsAfter tokens w.BY) b box.value.step c × SpellsMaybe (SpellsAfter tokens w.TO) c box.value.end d ×
      SpellsMaybe (SpellsAfter tokens w.WHILE) d box.value.condition e × HasWord tokens e w.REPEAT ×
      SpellsBody tokens (depth - 1) (e + 1) box.value.body f × HasWord tokens f w.END ×
      HasSymbol tokens (f + 1) s.SEMICOLON × (to ≡ f + 2))
  spells_repeat depth from box to =
      let row = statements_of (stmt.Repeat box) in
      let part = box.value in
      λ i. (a : ℕ) × (b : ℕ) × (c : ℕ) × (d : ℕ) × (e : ℕ) × (f : ℕ) × IsAt tokens from part.place × (0 < depth) ×
      SpellsMaybe (SpellsFor tokens) from part.control a × SpellsMaybe (SpellsAfter tokens w.FROM) a part.begin b ×
      SpellsMaybe (SpellsAfter tokens w.BY) b part.step c × SpellsMaybe (SpellsAfter tokens w.TO) c part.end d ×
      SpellsMaybe (SpellsAfter tokens w.WHILE) d part.condition e × HasWord tokens e w.REPEAT ×
      body_spelled (depth - 1) (e + 1) part.body row.0 row.1 (items_hidden-the_row-Stmt-0 part.body.statements.items) f i ×
      HasWord tokens f w.END × HasSymbol tokens (f + 1) s.SEMICOLON × (to ≡ f + 2)
