-- The way of a source from its bytes to the module that is asked: its tokens and the tree that spells them, or the place where it has none.
use Rattle.std.specs.Prelude.{◌≡◌, ℕ, ◌≤◌, ◌⊎◌, List, length}
use Rattle.pearl_tree.specs.declared.token.Token.{Token}
use Rattle.pearl_tree.specs.declared.tree.Tree.{Tree}
use Rattle.pearl_tree.specs.Modules.{Spells}
use Rattle.pearl_lex.specs.Lexes.{Lexes, IsStuck}
use Rattle.pearl_parse.specs.Refusals.{IsRefusedAt}
use Rattle.pearl_script.specs.declared.refusal.Refusal.TheVariants as refusal
use Rattle.pearl_script.specs.Refusals.{refusal_line}
use Rattle.pearl_top.specs.declared.limits.TheConstants.{SOURCE_LIMIT}
use Rattle.pearl_top.specs.declared.status.Status.{Status}
use Rattle.pearl_top.specs.Reading.{DueAtSource}

-- these bytes, within the limit, have tokens that this tree spells
pub record IsTree (source : List ℕ) (tree : Tree) : Type 0 where
  pub within : length source ≤ SOURCE_LIMIT
  pub tokens : List Token
  pub lexes : Lexes source tokens
  pub spells : Spells tree tokens

-- the bytes have tokens, and the one at this place is the first up to and with which no program begins: some program
-- begins with the tokens before it. The end of the source, which has the place of its length, counts as its last token
pub record HasStop (source : List ℕ) (place : ℕ) : Type 0 where
  pub tokens : List Token
  pub lexes : Lexes source tokens
  pub refused : IsRefusedAt tokens (length source) place

-- these bytes, within the limit, are refused at a place: the first at which no token begins, or that of the first token
-- up to and with which no program begins
pub record IsUnspelled (source bytes : List ℕ) : Type 0 where
  pub within : length source ≤ SOURCE_LIMIT
  pub place : ℕ
  pub fault : IsStuck source place ⊎ HasStop source place
  pub text : bytes ≡ refusal_line (refusal.Syntax place)

-- what is due at a source of which no module is asked: the line of what it lacks
abbrev pub SyntaxDue : List ℕ → Status → List ℕ → Type 0
SyntaxDue source = DueAtSource source (λ bytes. ⊥) (IsUnspelled source) ⊥
