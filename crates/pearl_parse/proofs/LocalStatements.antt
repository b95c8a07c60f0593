-- Which tokens schedules, statements and bodies depend on: those before their end alone.
use Rattle.std.proofs.Common.{◌≡◌, ℕ, ◌+◌, ◌-◌, ◌<◌, ◌≤◌, List, ◌∙◌, arith}
use Rattle.pearl_tree.specs.declared.name.Name.{Name}
use Rattle.pearl_tree.specs.declared.statement.Body.{Body}
use Rattle.pearl_tree.specs.declared.statement.Stmt.{Stmt, Empty, Assign, Call, If', Case', Repeat', Exit, Begin'}
use Rattle.pearl_tree.specs.declared.statement.Stmt.{Return, Activate, Continue, Resume, OnTask, OnSemas, OnInterrupt}
use Rattle.pearl_tree.specs.declared.statement.Stmt.{Put, Get, Send, Take, Row_of-Stmt, end_of-Stmt, more_of-Stmt}
use Rattle.pearl_tree.specs.declared.statement.If as if_
use Rattle.pearl_tree.specs.declared.statement.If.{Held-Case-otherwise, None', Some'}
use Rattle.pearl_tree.specs.declared.statement.Case as case_
use Rattle.pearl_tree.specs.declared.statement.Case.{Row_of-Branch, end_of-Branch, more_of-Branch}
use Rattle.pearl_tree.specs.declared.token.Token.{Token}
use Rattle.pearl_tree.specs.declared.limit.TheConstants as limit
use Rattle.pearl_tree.specs.Standing.{what_at, place_at, IsName, SpellsMaybe, SpellsEach}
use Rattle.pearl_tree.specs.Expressions.{SpellsWhole}
use Rattle.pearl_tree.specs.Declarations.{SpellsItem}
use Rattle.pearl_tree.specs.Statements.{SpellsAfter, SpellsFor}
use Rattle.pearl_tree.specs.Statements.{SpellsPeriodEnd, SpellsBodyDecl}
use Rattle.pearl_tree.specs.Statements.{SpellsStmt, SpellsStmts, SpellsAlternatives, SpellsMoreAlternatives}
use Rattle.pearl_tree.specs.Statements.{SpellsOtherwise, SpellsBranch, SpellsBody, SpellsWholeBody}
use Rattle.pearl_tree.specs.declared.word_code.TheConstants as w
use Rattle.pearl_parse_expr.specs.Least.{AlikeBefore}
use Rattle.pearl_parse_expr.proofs.Offered as local
use Rattle.pearl_parse_decl.proofs.Offered.{Keeps}
use Rattle.pearl_parse_decl.proofs.Offered as offered
use Rattle.pearl_grammar.proofs.Offered as by_rule

module _ (tokens others : List Token) (k : ℕ) (alike : AlikeBefore tokens others k) where
  what : (j : ℕ) → j < k → what_at others j ≡ what_at tokens j
  what = local.what tokens others k alike

  place : (j : ℕ) → j < k → place_at others j ≡ place_at tokens j
  place = local.place tokens others k alike

  name : (j : ℕ) (x : Name) → j < k → IsName tokens j x → IsName others j x
  name = local.name tokens others k alike

  whole_keeps : Keeps tokens others k 1 SpellsWhole
  whole_keeps = offered.whole_keeps tokens others k alike

  -- ---- parts of statements

  pub after_keeps : (word : ℕ) → Keeps tokens others k 2 (λ tokens. SpellsAfter tokens word)
  after_keeps word from x to h near =
      let part = whole_keeps (from + 1) x to h.1 near in
      (omega (arith, part.0), (what from (omega (arith, part.0)) ∙ h.0, part.1))

  maybe_after : (word : ℕ) → Keeps tokens others k 0 (λ tokens. SpellsMaybe (SpellsAfter tokens word))
  maybe_after word = offered.maybe_keeps tokens others k alike 2 (λ tokens. SpellsAfter tokens word) (after_keeps word)

  pub for_keeps : Keeps tokens others k 2 SpellsFor
  for_keeps from x to h near =
      let below : from + 1 < k = omega (arith, h.2) in
      (omega (arith, h.2), (what from (omega arith) ∙ h.0, name (from + 1) x below h.1, h.2))

  pub period_end_keeps : Keeps tokens others k 2 SpellsPeriodEnd
  period_end_keeps = by_rule.period_end.kept tokens others k alike

  pub body_declaration_keeps : Keeps tokens others k 2 SpellsBodyDecl
  body_declaration_keeps from x to h near =
      let below : h.0 < k = omega (arith, h.5) in
      let list = offered.list_keeps tokens others k alike 2 SpellsItem (offered.item_keeps tokens others k alike)
      (from + 1) x.items.items.items h.0 h.3 (omega arith) in
      let behind : from < h.0 = omega (arith, list.0) in (
        omega (arith, h.5),
        (
          h.0,
          place from (omega arith) ∙ h.1,
          what from (omega arith) ∙ h.2,
          list.1,
          what h.0 below ∙
              h.4,
          h.5,
        ),
      )

  body_declarations : Keeps tokens others k 0 (λ tokens. SpellsEach (SpellsBodyDecl tokens))
  body_declarations = offered.each_keeps tokens others k alike 2 SpellsBodyDecl body_declaration_keeps

  -- ---- statements

  mutual
    pub stmt_keeps : (depth from : ℕ) (x : Stmt) (to : ℕ) → SpellsStmt tokens depth from x to → to ≤ k →
        (from + 1 ≤ to) × SpellsStmt others depth from x to
    stmt_keeps depth from (Empty at) to h near = by_rule.empty_keeps depth tokens others k alike from at to h near
    stmt_keeps depth from (Assign part) to h near = by_rule.assign_keeps depth tokens others k alike from part to h near
    stmt_keeps depth from (Call part) to h near = by_rule.call_keeps depth tokens others k alike from part to h near
    stmt_keeps depth from (If' _ (if_.If' condition _ statements otherwise at)) to h near =
        let below : h.2 + 1 < k = omega (arith, h.11) in
        let other = otherwise_keeps (depth - 1) w.ELSE h.1 otherwise h.2 h.8 (omega arith) in
        let inner = stmts_keep (depth - 1) (h.0 + 1) _ statements h.1 h.7 (omega (arith, other.0)) in
        let head = after_keeps w.IF from condition h.0 h.5 (omega (arith, other.0, inner.0)) in
        let between : (from < h.0) × (h.0 < h.2) = (omega (arith, head.0), omega (arith, inner.0, other.0)) in (
          omega (arith, between, h.11),
          (
            h.0,
            h.1,
            h.2,
            place from (omega (arith, between)) ∙ h.3,
            h.4,
            head.1,
            what h.0 (omega (arith, between)) ∙ h.6,
            inner.1,
            other.1,
            what h.2 (omega arith) ∙ h.9,
            what (h.2 + 1) below ∙ h.10,
            h.11,
          ),
        )
    stmt_keeps depth from (Case' _ (case_.Case' selector _ alternatives otherwise at)) to h near =
        let below : h.2 + 1 < k = omega (arith, h.10) in
        let other = otherwise_keeps (depth - 1) w.OUT h.1 otherwise h.2 h.7 (omega arith) in
        let inner = alternatives_keep (depth - 1) h.0 _ alternatives h.1 h.6 (omega (arith, other.0)) in
        let head = after_keeps w.CASE from selector h.0 h.5 (omega (arith, other.0, inner.0)) in
        let between : from < h.2 = omega (arith, head.0, inner.0, other.0) in (
          omega (arith, h.10),
          (
            h.0,
            h.1,
            h.2,
            place from (omega arith) ∙ h.3,
            h.4,
            head.1,
            inner.1,
            other.1,
            what h.2 (omega arith) ∙ h.8,
            what (h.2 + 1) below ∙ h.9,
            h.10,
          ),
        )
    stmt_keeps depth from (Repeat' _ control begin step end condition declared _ statements body_at at) to h near =
        let below : h.5 + 1 < k = omega (arith, h.17) in
        let inner = stmts_keep (depth - 1) h.14.0 _ statements h.5 h.14.3 (omega arith) in
        let before = body_declarations (h.4 + 1) declared.items.items h.14.0 h.14.2 (omega (arith, inner.0)) in
        let within : h.4 < h.5 = omega (arith, inner.0, before.0) in
        let e = maybe_after w.WHILE h.3 condition h.4 h.12 (omega arith) in
        let d = maybe_after w.TO h.2 end h.3 h.11 (omega (arith, e.0)) in
        let c = maybe_after w.BY h.1 step h.2 h.10 (omega (arith, e.0, d.0)) in
        let b = maybe_after w.FROM h.0 begin h.1 h.9 (omega (arith, e.0, d.0, c.0)) in
        let a = offered.maybe_keeps tokens others k alike 2 SpellsFor for_keeps from control h.0 h.8
        (omega (arith, e.0, d.0, c.0, b.0)) in
        let behind : from ≤ h.4 = omega (arith, a.0, b.0, c.0, d.0, e.0) in (
          omega (arith, h.17),
          (
            h.0,
            h.1,
            h.2,
            h.3,
            h.4,
            h.5,
            place from (omega arith) ∙ h.6,
            h.7,
            a.1,
            b.1,
            c.1,
            d.1,
            e.1,
            what h.4 (omega arith) ∙ h.13,
            (h.14.0, place (h.4 + 1) (omega arith) ∙ h.14.1, before.1, inner.1),
            what h.5 (omega arith) ∙ h.15,
            what (h.5 + 1) below ∙ h.16,
            h.17,
          ),
        )
    stmt_keeps depth from (Exit at) to h near = by_rule.exit_keeps depth tokens others k alike from at to h near
    stmt_keeps depth from (Begin' _ declared _ statements body_at at) to h near =
        let below : h.0 + 1 < k = omega (arith, h.7) in
        let inner = stmts_keep (depth - 1) h.4.0 _ statements h.0 h.4.3 (omega arith) in
        let before = body_declarations (from + 1) declared.items.items h.4.0 h.4.2 (omega (arith, inner.0)) in
        let within : from < h.0 = omega (arith, inner.0, before.0) in (
          omega (arith, h.7),
          (
            h.0,
            place from (omega arith) ∙ h.1,
            h.2,
            what from (omega arith) ∙ h.3,
            (h.4.0, place (from + 1) (omega arith) ∙ h.4.1, before.1, inner.1),
            what h.0 (omega arith) ∙ h.5,
            what (h.0 + 1) below ∙ h.6,
            h.7,
          ),
        )
    stmt_keeps depth from (Return part) to h near = by_rule.return_keeps depth tokens others k alike from part to h near
    stmt_keeps depth from (Activate part) to h near = by_rule.activate_keeps depth tokens others k alike from part to h
        near
    stmt_keeps depth from (Continue part) to h near = by_rule.continue_keeps depth tokens others k alike from part to h
        near
    stmt_keeps depth from (Resume part) to h near = by_rule.resume_keeps depth tokens others k alike from part to h near
    stmt_keeps depth from (OnTask part) to h near = by_rule.on_task_keeps depth tokens others k alike from part to h
        near
    stmt_keeps depth from (OnSemas part) to h near = by_rule.on_semas_keeps depth tokens others k alike from part to h
        near
    stmt_keeps depth from (OnInterrupt part) to h near = by_rule.on_interrupt_keeps depth tokens others k alike from
        part to h near
    stmt_keeps depth from (Put part) to h near = by_rule.put_keeps depth tokens others k alike from part to h near
    stmt_keeps depth from (Get part) to h near = by_rule.get_keeps depth tokens others k alike from part to h near
    stmt_keeps depth from (Send part) to h near = by_rule.send_keeps depth tokens others k alike from part to h near
    stmt_keeps depth from (Take part) to h near = by_rule.take_keeps depth tokens others k alike from part to h near

    stmts_keep : (depth from : ℕ) (n : _) (row : Row_of-Stmt n) (to : ℕ) → SpellsStmts tokens depth from row to →
        to ≤ k →
        (from ≤ to) × SpellsStmts others depth from row to
    stmts_keep depth from _ end_of-Stmt to h near = (omega (arith, h), h)
    stmts_keep depth from _ (more_of-Stmt statement rest) to h near =
        let last = stmts_keep depth h.0 _ rest to h.2 near in
        let first = stmt_keeps depth from statement h.0 h.1 (omega (arith, last.0)) in
        (omega (arith, first.0, last.0), (h.0, first.1, last.1))

    alternatives_keep : (depth from : ℕ) (n : _) (row : Row_of-Branch n) (to : ℕ) →
        SpellsAlternatives tokens depth from row to → to ≤ k →
        (from ≤ to) × SpellsAlternatives others depth from row to
    alternatives_keep depth from _ end_of-Branch to h near = absurd h
    alternatives_keep depth from _ (more_of-Branch _ statements at rest) to h near =
        let last = more_alternatives_keep depth h.0 _ rest to h.2 near in
        let inner = stmts_keep depth (from + 1) _ statements h.0 h.1.2 (omega (arith, last.0)) in
        let below : from < k = omega (arith, last.0, inner.0) in
        (omega (arith, last.0, inner.0), (h.0, (place from below ∙ h.1.0, what from below ∙ h.1.1, inner.1), last.1))

    more_alternatives_keep : (depth from : ℕ) (n : _) (row : Row_of-Branch n) (to : ℕ) →
        SpellsMoreAlternatives tokens depth from row to → to ≤ k →
        (from ≤ to) × SpellsMoreAlternatives others depth from row to
    more_alternatives_keep depth from _ end_of-Branch to h near = (omega (arith, h), h)
    more_alternatives_keep depth from _ (more_of-Branch _ statements at rest) to h near =
        let last = more_alternatives_keep depth h.0 _ rest to h.2 near in
        let inner = stmts_keep depth (from + 1) _ statements h.0 h.1.2 (omega (arith, last.0)) in
        let below : from < k = omega (arith, last.0, inner.0) in
        (omega (arith, last.0, inner.0), (h.0, (place from below ∙ h.1.0, what from below ∙ h.1.1, inner.1), last.1))

    otherwise_keeps : (depth word from : ℕ) (x : Held-Case-otherwise) (to : ℕ) →
        SpellsOtherwise tokens depth word from x to → to ≤ k →
        (from ≤ to) × SpellsOtherwise others depth word from x to
    otherwise_keeps depth word from None' to h near = (omega (arith, h), h)
    otherwise_keeps depth word from (Some' _ statements at) to h near =
        let inner = stmts_keep depth (from + 1) _ statements to h.2 near in
        let below : from < k = omega (arith, inner.0) in
        (omega (arith, inner.0), (place from below ∙ h.0, what from below ∙ h.1, inner.1))

  statements_keep : (depth : ℕ) → Keeps tokens others k 0 (λ tokens. SpellsEach (SpellsStmt tokens depth))
  statements_keep depth = offered.each_keeps tokens others k alike 1 (λ tokens. SpellsStmt tokens depth)
      (stmt_keeps depth)

  pub branch_keeps : (depth word : ℕ) → Keeps tokens others k 1 (λ tokens. SpellsBranch tokens depth word)
  branch_keeps depth word from x to h near =
      let inner = statements_keep depth (from + 1) x.statements.items.items to h.2 near in
      let below : from < k = omega (arith, inner.0) in
      (omega (arith, inner.0), (place from below ∙ h.0, what from below ∙ h.1, inner.1))

  -- a body is read behind a token, and shows where the next one stands
  pub body_keeps : (depth from : ℕ) (x : Body) (to : ℕ) → SpellsBody tokens depth from x to → to < k → (from ≤ to) ×
      SpellsBody others depth from x to
  body_keeps depth from x to h near =
      let inner = statements_keep depth h.0 x.statements.items.items to h.3 (omega arith) in
      let before = body_declarations from x.declarations.items.items h.0 h.2 (omega (arith, inner.0)) in
      let below : from < k = omega (arith, inner.0, before.0) in
      (omega (arith, inner.0, before.0), (h.0, place from below ∙ h.1, before.1, inner.1))

  pub whole_body_keeps : (from : ℕ) (x : Body) (to : ℕ) → SpellsWholeBody tokens from x to → to < k → (from ≤ to) ×
      SpellsWholeBody others from x to
  whole_body_keeps = body_keeps limit.NESTED_MAX
