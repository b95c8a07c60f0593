-- What may follow a part that goes on: a literal, a reference or an expression that ends before one of these tokens may be
-- the beginning of a longer one. No rule has one of them behind a part that it goes on in.
use Rattle.std.specs.Prelude.{◌≡◌, ◌⊎◌, ℕ, ◌<◌, ◌==◌, ◌||◌, Bool, true, false, List, Some, is_some, option_map}
use Rattle.pearl_tree.specs.declared.token.What.{What}
use Rattle.pearl_tree.specs.declared.token.What.TheVariants as what
use Rattle.pearl_tree.specs.declared.token.Token.{Token}
use Rattle.pearl_tree.specs.Standing.{what_at}
use Rattle.pearl_tree.specs.Expressions.{dyad_of}
use Rattle.pearl_tree.specs.declared.symbol.TheConstants as s
use Rattle.pearl_tree.specs.declared.word_code.TheConstants as w

-- behind a literal: a unit, or what a unit stands behind
abbrev pub lengthens_literal : What → Bool
lengthens_literal (what.Number _) = true
lengthens_literal (what.Decimal _ _) = true
lengthens_literal (what.Word code) = (code == w.HRS) || ((code == w.MIN) || (code == w.SEC))
lengthens_literal _ = false

-- behind a ref
abbrev pub lengthens_ref : What → Bool
lengthens_ref (what.Symbol symbol) = (symbol == s.LEFT_ROUND) || (symbol == s.PERIOD)
lengthens_ref _ = false

-- behind an operand: also LWB or UPB, since a number may stand before it
abbrev pub lengthens_operand : What → Bool
lengthens_operand (what.Number _) = true
lengthens_operand (what.Decimal _ _) = true
lengthens_operand (what.Word code) =
    (code == w.HRS) || ((code == w.MIN) || ((code == w.SEC) || ((code == w.LWB) || (code == w.UPB))))
lengthens_operand (what.Symbol symbol) = (symbol == s.LEFT_ROUND) || (symbol == s.PERIOD)
lengthens_operand _ = false

-- behind an expression: also a dyadic operator
abbrev pub lengthens_expr : What → Bool
lengthens_expr what = lengthens_operand what || is_some (dyad_of what)

-- a token that is a monadic operator
abbrev pub is_monadic : What → Bool
is_monadic (what.Symbol symbol) = (symbol == s.PLUS) || (symbol == s.MINUS)
is_monadic (what.Word code) = (code == w.ABS) || ((code == w.SIGN) || (code == w.NOT))
is_monadic _ = false

abbrev pub HasOneOf : (What → Bool) → List Token → ℕ → Type 0
HasOneOf kind tokens k = option_map kind (what_at tokens k) ≡ Some true

-- two parts that begin at the same token end at the same, or the shorter one before a token that lengthens it
abbrev pub Meet : (ℕ → Type 0) → ℕ → ℕ → Type 0
Meet lengthened to end = (to ≡ end) ⊎ (((to < end) × lengthened to) ⊎ ((end < to) × lengthened end))
