-- Which tokens the parts of statements spell that hold other statements, told by plain lists.
use Rattle.std.specs.Prelude.{◌≡◌, ℕ, ◌+◌, ◌||◌, Bool, false, List, [], ◌∷◌, Option, Some}
use Rattle.pearl_tree.specs.declared.name.Name.{Name}
use Rattle.pearl_tree.specs.declared.expression.Expr.{Expr}
use Rattle.pearl_tree.specs.declared.statement.Stmt.{Stmt}
use Rattle.pearl_tree.specs.declared.statement.BodyDecl.{BodyDecl}
use Rattle.pearl_tree.specs.declared.token.What.{What}
use Rattle.pearl_tree.specs.declared.token.What.TheVariants as what
use Rattle.pearl_tree.specs.declared.token.Token.{Token}
use Rattle.pearl_tree.specs.Standing.{Spelling, IsAt, HasWord, HasSymbol, SpellsEach, SpellsSome, SpellsMaybe}
use Rattle.pearl_tree.specs.Statements.{SpellsStmt, SpellsAfter, SpellsFor, SpellsBodyDecl}
use Rattle.pearl_tree.specs.declared.symbol.TheConstants as s
use Rattle.pearl_tree.specs.declared.word_code.TheConstants as w
use Rattle.pearl_parse_expr.specs.Stops.{is_word}
use Rattle.pearl_parse.specs.declared.loops.Heads.{Heads}
use Rattle.pearl_parse.specs.Stops.{SpellsOptional, begins_statement, is_among}

-- with which tokens a body goes on: DCL, or the first token of a statement
abbrev pub extends_body : Option What → Bool
extends_body token = is_word w.DCL token || begins_statement token

-- with which tokens the alternatives of CASE go on
abbrev pub extends_alternatives : Option What → Bool
extends_alternatives token = is_word w.ALT token || begins_statement token

-- one of these words
abbrev pub is_one : List ℕ → Option What → Bool
is_one words (Some (what.Word code)) = is_among words code
is_one words _ = false

-- the words with which a loop begins
abbrev pub loop_words : List ℕ
loop_words = w.FOR ∷ w.FROM ∷ w.BY ∷ w.TO ∷ w.WHILE ∷ w.REPEAT ∷ []

-- { stmt }
abbrev pub SpellsStatements : ℕ → List Token → Spelling (List Stmt)
SpellsStatements depth tokens = SpellsEach (SpellsStmt tokens depth)

-- word { stmt }
abbrev pub SpellsHeaded : ℕ → ℕ → List Token → Spelling (List Stmt)
SpellsHeaded depth word tokens from statements to =
    HasWord tokens from word × SpellsStatements depth tokens (from + 1) statements to

-- [ word { stmt } ], where the word stands
abbrev pub SpellsOptionalHeaded : ℕ → ℕ → List Token → Spelling (Option (List Stmt))
SpellsOptionalHeaded depth word = SpellsOptional (is_word word) (SpellsHeaded depth word)

-- ALT { stmt } { ALT { stmt } }
abbrev pub SpellsChoices : ℕ → List Token → Spelling (List (List Stmt))
SpellsChoices depth tokens = SpellsSome (SpellsHeaded depth w.ALT tokens)

-- a body: its place, its declarations and its statements
abbrev pub SpellsBlock : ℕ → List Token → Spelling (ℕ × (List BodyDecl × List Stmt))
SpellsBlock depth tokens from block to =
    (m : ℕ) × IsAt tokens from block.0 × SpellsEach (SpellsBodyDecl tokens) from block.1.0 m ×
    SpellsStatements depth tokens m block.1.1 to

-- { DCL item { "," item } ";" } { stmt }: a body without its place, which the token behind an empty one has
abbrev pub SpellsInner : ℕ → List Token → Spelling (List BodyDecl × List Stmt)
SpellsInner depth tokens from inner to =
    (m : ℕ) × SpellsEach (SpellsBodyDecl tokens) from inner.0 m × SpellsStatements depth tokens m inner.1 to

-- word ";"
abbrev pub SpellsClosing : ℕ → List Token → Spelling (Unit {0})
SpellsClosing word tokens from _ to = HasWord tokens from word × HasSymbol tokens (from + 1) s.SEMICOLON ×
    (to ≡ from + 2)

-- IF expr THEN
abbrev pub SpellsCondition : List Token → Spelling Expr
SpellsCondition tokens from condition to =
    (m : ℕ) × SpellsAfter tokens w.IF from condition m × HasWord tokens m w.THEN × (to ≡ m + 1)

-- [ FOR id ], where the word stands
abbrev pub SpellsOptionalFor : List Token → Spelling (Option Name)
SpellsOptionalFor = SpellsOptional (is_word w.FOR) SpellsFor

-- [ FOR id ] [ FROM expr ] [ BY expr ] [ TO expr ] [ WHILE expr ] REPEAT
abbrev pub SpellsHeads : List Token → Spelling Heads
SpellsHeads tokens from heads to =
    (a : ℕ) × (b : ℕ) × (c : ℕ) × (d : ℕ) × (e : ℕ) × SpellsMaybe (SpellsFor tokens) from heads.control a ×
    SpellsMaybe (SpellsAfter tokens w.FROM) a heads.begin b × SpellsMaybe (SpellsAfter tokens w.BY) b heads.step c ×
    SpellsMaybe (SpellsAfter tokens w.TO) c heads.end d × SpellsMaybe (SpellsAfter tokens w.WHILE) d heads.condition e ×
    HasWord tokens e w.REPEAT × (to ≡ e + 1)
