-- What the grammar determines.
use Rattle.std.specs.Prelude.{◌≡◌, ℕ, List}
use Rattle.pearl_tree.specs.declared.expression.Expr.{Expr}
use Rattle.pearl_tree.specs.declared.fault.RuleFault.{RuleFault}
use Rattle.pearl_tree.specs.declared.token.Token.{Token}
use Rattle.pearl_tree.specs.declared.tree.Tree.{Tree}
use Rattle.pearl_tree.specs.Expressions.{SpellsTerms}
use Rattle.pearl_tree.specs.Faults.{ListFaults}
use Rattle.pearl_tree.specs.Following.{lengthens_expr, HasOneOf, Meet}
use Rattle.pearl_tree.specs.Modules.{Spells}
use Rattle.pearl_tree.specs.Stops.{NoneBegins, IsFirstStop}
use Rattle.pearl_tree.specs.ShownExpressions.{shown_expr}
use Rattle.pearl_tree.specs.ShownModules.{shown_tree}

-- the tokens of a source spell one tree, wherever its parts lie in memory
abbrev pub HasOneTree : Type 0
HasOneTree = (tokens : List Token) (tree other : Tree) → Spells tree tokens → Spells other tokens → shown_tree tree ≡ shown_tree other

-- tokens from one number up to another spell one expression, with one grouping
abbrev pub HasOneExpression : Type 0
HasOneExpression =
    (tokens : List Token) (depth from : ℕ) (expr other : Expr) (to : ℕ) → SpellsTerms tokens depth from expr to →
    SpellsTerms tokens depth from other to → shown_expr expr ≡ shown_expr other

-- expressions that begin at one token end at one, or the shorter one before a token that may lengthen it
abbrev pub ExpressionsMeet : Type 0
ExpressionsMeet =
    (tokens : List Token) (depth from : ℕ) (expr other : Expr) (to end : ℕ) → SpellsTerms tokens depth from expr to →
    SpellsTerms tokens depth from other end → Meet (HasOneOf lengthens_expr tokens) to end

-- tokens have one first stop at most
abbrev pub HasOneStop : Type 0
HasOneStop = (tokens : List Token) (k n : ℕ) → IsFirstStop tokens k → IsFirstStop tokens n → k ≡ n

-- a source whose tokens have a stop has no tree
abbrev pub StopsHaveNoTree : Type 0
StopsHaveNoTree = (tokens : List Token) (k : ℕ) (tree : Tree) → NoneBegins tokens k → Spells tree tokens → ⊥

-- what is broken has one list in order
abbrev pub HasOneFaultList : Type 0
HasOneFaultList =
    (broken faults others : List RuleFault) → ListFaults broken faults → ListFaults broken others → faults ≡ others
