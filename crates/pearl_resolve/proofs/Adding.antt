-- What a statement adds behind others, where making it may fail.
use Rattle.std.proofs.Common.{◌≡◌, ℕ, List, [], ◌∷◌, ◌++◌, Result, Ok, Err, IfOk, sym, subst}
use Rattle.pearl_value.specs.declared.kind.CellKind.{CellKind}
use Rattle.pearl_tree.specs.ShownStatements.{ShownStmt}
use Rattle.pearl_program.specs.declared.statement.Stmt.{Stmt}
use Rattle.pearl_program.specs.PlainStatements.{plain_stmts}
use Rattle.pearl_resolve.specs.declared.numbered.NumberedTable.{NumberedTable}
use Rattle.pearl_resolve.specs.declared.numbers.At.{At as HeldAt}
use Rattle.pearl_resolve.specs.Cells.{cells_in}
use Rattle.pearl_resolve.specs.Expressions.{Numbered}
use Rattle.pearl_resolve.specs.Holding.{AddsStmt, BecomesStmt, Resolves, at_in}
use Rattle.pearl_resolve.specs.Numbers.{after}
use Rattle.pearl_resolve.specs.Statements.{joined, resolve_stmt}
use Rattle.pearl_resolve.proofs.Resolving.{added_as}

pub ok_map : {X E : Type 0} (before after : X → Type 0) (result : Result X E) → ((x : X) → before x → after x) → IfOk result before → IfOk result after
ok_map before after (Ok x) step h = step x h
ok_map before after (Err e) step h = tt

module _ (held : NumberedTable) (scope : ℕ) (at : HeldAt) where
  -- a statement that shows something else
  pub ok_shown : {E : Type 0} (cells more : List CellKind) (made new : List Stmt) (s t : ShownStmt) (result : Result HeldAt E) → s ≡ t →
      IfOk result (λ now. AddsStmt held scope at t now cells more made new) → IfOk result (λ now. AddsStmt held scope at s now cells more made new)
  ok_shown cells more made new s t result is h = subst (λ u. IfOk result (λ now. AddsStmt held scope at u now cells more made new)) (sym is) h

  -- one that has no cells, whatever cells stand before it
  pub ok_kept : {E : Type 0} (cells : List CellKind) (made new : List Stmt) (s t : ShownStmt) (result : Result HeldAt E) → s ≡ t →
      IfOk result (λ now. (kept : List CellKind) → AddsStmt held scope at t now kept kept made new) →
      IfOk result (λ now. AddsStmt held scope at s now cells cells made new)
  ok_kept cells made new s t result is h = ok_shown cells cells made new s t result is
      (ok_map (λ now. (kept : List CellKind) → AddsStmt held scope at t now kept kept made new) (λ now. AddsStmt held scope at t now cells cells made new)
      result (λ now added. added cells) h)

  -- one that goes past nothing and has no cells, and becomes one statement
  pub ok_added : {E : Type 0} (cells : List CellKind) (old new : List Stmt) (s t : ShownStmt) (made : Result Stmt E) (result : Result HeldAt E) → s ≡ t →
      ((of : Numbered) → after of.table (at_in at) t ≡ at_in at) → ((of : Numbered) → cells_in of scope (at_in at) t ≡ []) →
      IfOk made (BecomesStmt held scope t) →
      IfOk result (λ now. (x : Stmt) × (made ≡ Ok x) × (now ≡ at) × (new ≡ old ++ x ∷ [])) →
      IfOk result (λ now. AddsStmt held scope at s now cells cells old new)
  ok_added cells old new s t made result is goes adds becomes pushed =
      ok_map (λ now. (x : Stmt) × (made ≡ Ok x) × (now ≡ at) × (new ≡ old ++ x ∷ [])) (λ now. AddsStmt held scope at s now cells cells old new)
      result (λ now p. λ of holds.
      let becomes_one = subst (λ m. IfOk m (BecomesStmt held scope t)) p.1 becomes in
      subst (λ n. Resolves (at_in n) cells cells (plain_stmts new) (after of.table (at_in at) s) (cells_in of scope (at_in at) s)
      (joined (plain_stmts old) (resolve_stmt of scope (at_in at) s))) (sym p.2)
      (added_as of scope (at_in at) cells old new p.0 s t is (goes of) (adds of) p.3 (becomes_one of holds (at_in at)))) pushed
