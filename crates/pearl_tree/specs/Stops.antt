-- With which first tokens no source begins.
use Rattle.std.specs.Prelude.{◌≡◌, ℕ, ◌<◌, ◌≤◌, List, All}
use Rattle.pearl_tree.specs.declared.token.Token.{Token}
use Rattle.pearl_tree.specs.declared.tree.Tree.{Tree}
use Rattle.pearl_tree.specs.Standing.{what_at}
use Rattle.pearl_tree.specs.Tokens.{IsLawfulWhat}
use Rattle.pearl_tree.specs.Modules.{Spells}

-- the same tokens up to and with number k, places aside, where the end of a source counts as one more token
abbrev pub BeginAlike : List Token → List Token → ℕ → Type 0
BeginAlike tokens others k = (j : ℕ) → j ≤ k → what_at tokens j ≡ what_at others j

-- no source begins with the tokens up to and with number k
abbrev pub NoneBegins : List Token → ℕ → Type 0
NoneBegins tokens k = (tree : Tree) (others : List Token) → BeginAlike tokens others k → Spells tree others → ⊥

-- some source begins with the tokens before number k, and each of its tokens has a spelling
abbrev pub SomeBegins : List Token → ℕ → Type 0
SomeBegins tokens k =
    (tree : Tree) × (others : List Token) × ((j : ℕ) → j < k → what_at tokens j ≡ what_at others j) × All (λ token. IsLawfulWhat token.what) others × Spells tree others

-- the first token up to and with which no source begins
pub record IsFirstStop (tokens : List Token) (k : ℕ) : Type 0 where
  pub none : NoneBegins tokens k
  pub some : SomeBegins tokens k
