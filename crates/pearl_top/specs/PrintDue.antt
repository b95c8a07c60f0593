-- What is due for a source that is printed: only its tokens and its grammar are asked.
use Rattle.std.specs.Prelude.{◌≡◌, ℕ, List}
use Rattle.pearl_tree.specs.declared.tree.Tree.{Tree}
use Rattle.pearl_print.specs.Modules.{tokens_of}
use Rattle.pearl_print.specs.Spelled.{text_of_tokens}
use Rattle.pearl_top.specs.declared.status.Status.{Status}
use Rattle.pearl_top.specs.Reading.{DueAtSource}
use Rattle.pearl_top.specs.Sources.{IsTree, IsUnspelled}

-- these bytes, within the limit, have tokens that a tree spells, and this is their canonical text
pub record IsPrinted (source bytes : List ℕ) : Type 0 where
  pub tree : Tree
  pub is : IsTree source tree
  pub text : bytes ≡ text_of_tokens (tokens_of tree)

-- what is due at a source that is printed: its text, or a refusal
abbrev pub PrintDue : List ℕ → Type 0 → Status → List ℕ → Type 0
PrintDue source = DueAtSource source (IsPrinted source) (IsUnspelled source)
