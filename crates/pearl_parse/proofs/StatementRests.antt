-- What is left of a statement behind its first token.
use Rattle.std.proofs.Common.{◌≡◌, ℕ, ◌+◌, List}
use Rattle.pearl_tree.specs.declared.statement.Stmt.{Stmt}
use Rattle.pearl_tree.specs.declared.token.Token.{Token}
use Rattle.pearl_tree.specs.Standing.{HasSymbol}
use Rattle.pearl_tree.specs.Statements.{SpellsStmt}
use Rattle.pearl_tree.specs.declared.symbol.TheConstants as s
use Rattle.pearl_grammar.proofs.Offered.{Rest}

abbrev pub Spelled : ℕ → List Token → ℕ → Stmt → ℕ → Type 0
Spelled depth tokens = SpellsStmt tokens depth

abbrev pub exit_rest : Rest
exit_rest others at to = HasSymbol others at s.SEMICOLON × (to ≡ at + 1)
