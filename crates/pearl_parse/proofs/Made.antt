-- Statements and their parts, made of what their rules say, one token or part after the other.
use Rattle.std.proofs.Common.{◌≡◌, ℕ, zero, suc, ◌<◌, List, [], ◌∷◌, length, Some}
use Rattle.std.proofs.Common.{arith}
use Rattle.pearl_tree.specs.declared.statement.Stmt.{Stmt}
use Rattle.pearl_tree.specs.declared.statement.Stmt as stmt
use Rattle.pearl_tree.specs.declared.token.What.{What}
use Rattle.pearl_tree.specs.declared.token.What.TheVariants as what
use Rattle.pearl_tree.specs.declared.token.Token.{Token}
use Rattle.pearl_tree.specs.Standing.{Spelling, what_at}
use Rattle.pearl_tree.specs.Statements.{SpellsStmt}
use Rattle.pearl_tree.specs.declared.symbol.TheConstants as s
use Rattle.pearl_parse_expr.proofs.Offered.{placed}
use Rattle.pearl_grammar.proofs.Offered.{Rest, Ends, Makes}
use Rattle.pearl_parse.proofs.Comes.{BehindSymbol}

abbrev pub semicolon : Rest
semicolon = BehindSymbol s.SEMICOLON Ends

pub word_within : (others : List Token) (k : ℕ) (token : What) → what_at others k ≡ Some token → k < length others
word_within [] k token h = cc
word_within (x ∷ xs) zero token h = omega arith
word_within (x ∷ xs) (suc k) token h = omega (arith, word_within xs k token h)

-- ---- statements

module _ (depth : ℕ) where
  abbrev Spelled : List Token → Spelling Stmt
  Spelled tokens = SpellsStmt tokens depth

  pub empty_made : Makes Spelled semicolon
  empty_made others from to small h =
      let at = placed others from (what.Symbol s.SEMICOLON) h.0 in (stmt.Empty at.0, (at.1, h.0, h.1))
