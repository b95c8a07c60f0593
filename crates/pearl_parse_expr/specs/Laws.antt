-- What holds of stops of expressions.
use Rattle.std.specs.Prelude.{◌≡◌, ℕ, List}
use Rattle.pearl_tree.specs.declared.token.Token.{Token}
use Rattle.pearl_parse_expr.specs.Stops.{IsStop}

-- the expressions that begin at a token have one stop at most
abbrev pub HasOneStop : Type 0
HasOneStop = (tokens : List Token) (from place other : ℕ) → IsStop tokens from place →
    IsStop tokens from other → place ≡ other
