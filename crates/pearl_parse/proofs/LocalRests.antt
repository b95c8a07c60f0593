-- Which tokens the parts of statements depend on that are read for themselves: those before their end alone.
use Rattle.std.proofs.Common.{◌≡◌, ℕ, ◌<◌, List, ◌∙◌, arith}
use Rattle.pearl_tree.specs.declared.token.Token.{Token}
use Rattle.pearl_tree.specs.Standing.{what_at, SpellsMaybe}
use Rattle.pearl_tree.specs.Statements.{SpellsAfter, SpellsFor, SpellsBodyDecl, SpellsStmt}
use Rattle.pearl_tree.specs.declared.word_code.TheConstants as w
use Rattle.pearl_parse_expr.specs.Least.{AlikeBefore}
use Rattle.pearl_parse_expr.proofs.Offered as local
use Rattle.pearl_parse_decl.proofs.Offered.{Keeps}
use Rattle.pearl_parse_decl.proofs.Offered as offered
use Rattle.pearl_parse.specs.Bodies.{SpellsStatements, SpellsInner, SpellsCondition, SpellsHeads}
use Rattle.pearl_parse.proofs.LocalStatements.{after_keeps, for_keeps, body_declaration_keeps}
use Rattle.pearl_parse.proofs.LocalStatements.{stmt_keeps}

module _ (tokens others : List Token) (k : ℕ) (alike : AlikeBefore tokens others k) where
  what : (j : ℕ) → j < k → what_at others j ≡ what_at tokens j
  what = local.what tokens others k alike

  pub condition_keeps : Keeps tokens others k 3 SpellsCondition
  condition_keeps from x to h near =
      let part = after_keeps tokens others k alike w.IF from x h.0 h.1 (omega (arith, h.3)) in
      (omega (arith, part.0, h.3), (h.0, part.1, what h.0 (omega (arith, h.3)) ∙ h.2, h.3))

  head : (word : ℕ) → Keeps tokens others k 0 (λ tokens. SpellsMaybe (SpellsAfter tokens word))
  head word = offered.maybe_keeps tokens others k alike 2 (λ tokens. SpellsAfter tokens word)
      (after_keeps tokens others k alike word)

  pub heads_keep : Keeps tokens others k 1 SpellsHeads
  heads_keep from x to h near =
      let e = head w.WHILE h.3 x.condition h.4 h.9 (omega (arith, h.11)) in
      let d = head w.TO h.2 x.end h.3 h.8 (omega (arith, h.11, e.0)) in
      let c = head w.BY h.1 x.step h.2 h.7 (omega (arith, h.11, e.0, d.0)) in
      let b = head w.FROM h.0 x.begin h.1 h.6 (omega (arith, h.11, e.0, d.0, c.0)) in
      let a = offered.maybe_keeps tokens others k alike 2 SpellsFor (for_keeps tokens others k alike) from x.control h.0
      h.5 (omega (arith, h.11, e.0, d.0, c.0, b.0)) in (
        omega (arith, a.0, b.0, c.0, d.0, e.0, h.11),
        (h.0, h.1, h.2, h.3, h.4, a.1, b.1, c.1, d.1, e.1, what h.4 (omega (arith, h.11)) ∙ h.10, h.11),
      )

  pub statements_keep : (depth : ℕ) → Keeps tokens others k 0 (SpellsStatements depth)
  statements_keep depth = offered.each_keeps tokens others k alike 1 (λ tokens. SpellsStmt tokens depth)
      (stmt_keeps tokens others k alike depth)

  pub inner_keeps : (depth : ℕ) → Keeps tokens others k 0 (SpellsInner depth)
  inner_keeps depth from x to h near =
      let statements = statements_keep depth h.0 x.1 to h.2 near in
      let before = offered.each_keeps tokens others k alike 2 SpellsBodyDecl
      (body_declaration_keeps tokens others k alike) from x.0 h.0 h.1 (omega (arith, statements.0)) in
      (omega (arith, before.0, statements.0), (h.0, before.1, statements.1))
