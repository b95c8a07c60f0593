-- Rows of statements and of branches, told by plain lists.
use Rattle.std.proofs.Common.{◌≡◌, ℕ, ◌+◌, false, List, [], ◌∷◌, Option, Some, None, subst}
use Rattle.pearl_tree.specs.declared.statement.Stmt.{Stmt, Row_of-Stmt, end_of-Stmt, more_of-Stmt, items-the_row-Stmt}
use Rattle.pearl_tree.specs.declared.statement.If.{Held-Case-otherwise, None', Some'}
use Rattle.pearl_tree.specs.declared.statement.Case.{Row_of-Branch, end_of-Branch, more_of-Branch}
use Rattle.pearl_tree.specs.declared.token.Token.{Token}
use Rattle.pearl_tree.specs.Standing.{what_at, SpellsEach}
use Rattle.pearl_tree.specs.Statements.{SpellsStmts, SpellsAlternatives, SpellsMoreAlternatives, SpellsOtherwise}
use Rattle.pearl_tree.specs.declared.word_code.TheConstants as w
use Rattle.pearl_parse_expr.specs.Stops.{is_word}
use Rattle.pearl_parse.specs.Bodies.{SpellsStatements, SpellsHeaded, SpellsOptionalHeaded, SpellsChoices}

module _ (tokens : List Token) (depth : ℕ) where
  pub statements_listed : (from : ℕ) (n : _) (row : Row_of-Stmt n) (to : ℕ) → SpellsStmts tokens depth from row to →
      SpellsStatements depth tokens from (items-the_row-Stmt n row) to
  statements_listed from _ end_of-Stmt to h = h
  statements_listed from _ (more_of-Stmt statement rest) to h = (h.0, h.1, statements_listed h.0 _ rest to h.2)

  more_listed : (from : ℕ) (n : _) (row : Row_of-Branch n) (to : ℕ) → SpellsMoreAlternatives tokens depth from row to →
      (xs : List (List Stmt)) × SpellsEach (SpellsHeaded depth w.ALT tokens) from xs to
  more_listed from _ end_of-Branch to h = ([], h)
  more_listed from _ (more_of-Branch shape row place rest) to h =
      let others = more_listed h.0 _ rest to h.2 in
      (items-the_row-Stmt _ row ∷ others.0, (h.0, (h.1.1, statements_listed (from + 1) _ row h.0 h.1.2), others.1))

  pub choices_listed : (from : ℕ) (n : _) (row : Row_of-Branch n) (to : ℕ) →
      SpellsAlternatives tokens depth from row to →
      (xs : List (List Stmt)) × SpellsChoices depth tokens from xs to
  choices_listed from _ end_of-Branch to h = absurd h
  choices_listed from _ (more_of-Branch shape row place rest) to h =
      let others = more_listed h.0 _ rest to h.2 in
      (items-the_row-Stmt _ row ∷ others.0, (h.0, (h.1.1, statements_listed (from + 1) _ row h.0 h.1.2), others.1))

  pub otherwise_listed : (word from : ℕ) (otherwise : Held-Case-otherwise) (to : ℕ) →
      is_word word (what_at tokens to) ≡ false →
      SpellsOtherwise tokens depth word from otherwise to → (x : Option (List Stmt)) ×
      SpellsOptionalHeaded depth word tokens from x to
  otherwise_listed word from None' to other h =
      (None, (h, subst (λ k. is_word word (what_at tokens k) ≡ false) h other))
  otherwise_listed word from (Some' _ row place) to other h = (
    Some (items-the_row-Stmt _ row),
    (h.1, statements_listed (from + 1) _ row to h.2),
  )
