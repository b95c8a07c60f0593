-- Which tokens the parts of calls and returns spell.
use Rattle.std.specs.Prelude.{◌||◌, Bool, List, Option}
use Rattle.pearl_tree.specs.declared.expression.Expr.{Expr}
use Rattle.pearl_tree.specs.declared.token.What.{What}
use Rattle.pearl_tree.specs.declared.token.Token.{Token}
use Rattle.pearl_tree.specs.Standing.{Spelling}
use Rattle.pearl_tree.specs.Statements.{SpellsValue}
use Rattle.pearl_tree.specs.declared.symbol.TheConstants as s
use Rattle.pearl_parse_expr.specs.Stops.{is_symbol}
use Rattle.pearl_parse.specs.Stops.{SpellsOptional}

-- [ "(" expr ")" ], where a bracket begins one
abbrev pub SpellsOptionalValue : List Token → Spelling (Option Expr)
SpellsOptionalValue = SpellsOptional (is_symbol s.LEFT_ROUND) SpellsValue

-- `:=` or `=`
abbrev pub is_becomes : Option What → Bool
is_becomes token = is_symbol s.BECOMES token || is_symbol s.EQUALS_SIGN token
