-- Which texts printing leaves as they are, and that what it writes is such a text.
use Rattle.std.specs.Prelude.{◌≡◌, ℕ, ◌-◌, ◌^◌, ◌<◌, List, length}
use Rattle.pearl_tree.specs.declared.token.Token.{Token}
use Rattle.pearl_tree.specs.declared.tree.Tree.{Tree}
use Rattle.pearl_tree.specs.Lawful.{IsLawful}
use Rattle.pearl_tree.specs.Modules.{Spells}
use Rattle.pearl_lex.specs.Lexes.{Lexes}
use Rattle.pearl_print.specs.Modules.{tokens_of}
use Rattle.pearl_print.specs.Reading.{FitsHours}
use Rattle.pearl_print.specs.Spelled.{text_of_tokens}

-- a text has tokens that a tree spells, and it is itself the text of each tree that spells its tokens
pub record IsCanonical (text : List ℕ) : Type 0 where
  pub tokens : List Token
  pub tree : Tree
  pub lexes : Lexes text tokens
  pub spells : Spells tree tokens
  pub again : (others : List Token) (other : Tree) → Lexes text others → Spells other others → text_of_tokens (tokens_of other) ≡ text

-- the text of a lawful tree that spells tokens is canonical, where its hours fit
abbrev pub PrintsAgain : Type 0
PrintsAgain = (tree : Tree) → IsLawful tree → FitsHours tree → (tokens : List Token) → Spells tree tokens → IsCanonical (text_of_tokens (tokens_of tree))

-- the text of a source's tree is canonical, where its hours fit: its tokens spell a tree, and the text of each tree that they spell is
-- this text again. The source is one that the lexer takes, which is shorter than 2^32 - 1 bytes.
abbrev pub SourcePrintsAgain : Type 0
SourcePrintsAgain =
    (source : List ℕ) (tokens : List Token) (tree : Tree) → length source < 2 ^ 32 - 1 → Lexes source tokens → Spells tree tokens
    → FitsHours tree → IsCanonical (text_of_tokens (tokens_of tree))
