-- Why tokens have no tree, and where that is told.
use Rattle.std.specs.Prelude.{◌≡◌, ℕ, ◌<◌, ◌≤◌, List, length, unwrap_or}
use Rattle.pearl_tree.specs.declared.token.Token.{Token}
use Rattle.pearl_tree.specs.declared.tree.Tree.{Tree}
use Rattle.pearl_tree.specs.Modules.{Spells}
use Rattle.pearl_tree.specs.Standing.{place_at, what_at}
use Rattle.pearl_tree.specs.Stops.{NoneBegins, IsFirstStop}
use Rattle.pearl_tree.specs.Tokens.{AreLawful}
use Rattle.pearl_parse_expr.specs.declared.fault.ParseFault.{ParseFault}
use Rattle.pearl_parse_expr.specs.declared.fault.ParseFault.TheVariants as fault

-- the place of a token, or that of the end
abbrev pub place_or_end : List Token → ℕ → ℕ → ℕ
place_or_end tokens end k = unwrap_or (place_at tokens k) end

-- some source begins with the tokens before number k, whatever its other tokens are
abbrev pub Begins : List Token → ℕ → Type 0
Begins tokens k =
    (tree : Tree) × (others : List Token) × ((j : ℕ) → j < k → what_at tokens j ≡ what_at others j) × Spells tree others

-- no source begins with the tokens up to and with the one at this place, and some does with those before it, for which
-- lawful tokens are enough where these are lawful
pub record IsRefusedAt (tokens : List Token) (end place : ℕ) : Type 0 where
  pub token : ℕ
  pub within : token ≤ length tokens
  pub stands : place ≡ place_or_end tokens end token
  pub none : NoneBegins tokens token
  pub begins : Begins tokens token
  pub first : AreLawful tokens → IsFirstStop tokens token

-- what is told where there is no tree
abbrev pub IsRefused : List Token → ℕ → ParseFault → Type 0
IsRefused tokens end fault.NoMemory = Unit {0}
IsRefused tokens end (fault.Refused place) = IsRefusedAt tokens end place
