-- The tokens of literals, references and expressions.
use Rattle.std.specs.Prelude.{ℕ, ◌/◌, ◌%◌, List, [], ◌∷◌, ◌++◌, Option}
use Rattle.std.specs.List.{flat_map}
use Rattle.pearl_tree.specs.declared.name.Number.{Number}
use Rattle.pearl_tree.specs.declared.literal.Sign.{Sign}
use Rattle.pearl_tree.specs.declared.literal.Sign.TheVariants as sign
use Rattle.pearl_tree.specs.declared.literal.Const.{Const}
use Rattle.pearl_tree.specs.declared.expression.Monadic.{Monadic}
use Rattle.pearl_value.specs.declared.operator.Dyad.{Dyad}
use Rattle.pearl_value.specs.declared.operator.Dyad.TheVariants as dyad
use Rattle.pearl_tree.specs.declared.expression.Dyadic.{Dyadic}
use Rattle.pearl_tree.specs.declared.expression.Expr.{Expr, Operand', Dyadic'}
use Rattle.pearl_tree.specs.declared.expression.Side.{Side}
use Rattle.pearl_tree.specs.declared.expression.Operand.{Operand}
use Rattle.pearl_tree.specs.declared.expression.Primary.{Primary}
use Rattle.pearl_tree.specs.declared.expression.Primary as primary
use Rattle.pearl_tree.specs.declared.expression.Selector.{Selector, Subscripts', Component, Row_of-Expr, end_of-Expr, more_of-Expr}
use Rattle.pearl_tree.specs.declared.expression.Ref.{Ref, Row_of-Selector, end_of-Selector, more_of-Selector}
use Rattle.pearl_tree.specs.declared.token.What.{What}
use Rattle.pearl_tree.specs.declared.token.What.TheVariants as what
use Rattle.pearl_tree.specs.Durations.{milliseconds_of}
use Rattle.pearl_tree.specs.Expressions.{monad_what, side_word}
use Rattle.pearl_tree.specs.ShownLiterals.{ShownLiteral, OfNumber, OfBits, OfText, OfClock, OfDuration, shown_literal}
use Rattle.pearl_tree.specs.declared.symbol.TheConstants as s
use Rattle.pearl_tree.specs.declared.word_code.TheConstants as w
use Rattle.pearl_print.specs.Lists.{word, symbol, name_tokens, number_tokens, maybe}

-- number HRS number MIN decimal SEC, with minutes and seconds below 60
abbrev pub carried : ℕ → List What
carried ms =
    what.Number (ms / 3600000) ∷ word w.HRS ++ what.Number (ms / 60000 % 60) ∷ word w.MIN ++
    what.Decimal (ms / 1000 % 60) (ms % 1000) ∷ word w.SEC

-- literal = number | bits | text | clock | duration
abbrev pub literal_tokens : ShownLiteral → List What
literal_tokens (OfNumber number) = number_tokens number
literal_tokens (OfBits len value place) = what.Bits len value ∷ []
literal_tokens (OfText text place) = what.Text (record { items = text }) ∷ []
literal_tokens (OfClock milliseconds place) = what.Clock milliseconds ∷ []
literal_tokens (OfDuration duration) = carried (milliseconds_of duration)

-- "+" | "-"
abbrev pub sign_tokens : Sign → List What
sign_tokens sign.Plus = symbol s.PLUS
sign_tokens sign.Minus = symbol s.MINUS

-- const = [ "+" | "-" ] literal
abbrev pub const_tokens : Const → List What
const_tokens constant = maybe sign_tokens constant.sign ++ literal_tokens (shown_literal constant.literal)

-- + | - | ABS | SIGN | NOT
abbrev pub monadic_tokens : Monadic → List What
monadic_tokens monadic = monad_what monadic.operator ∷ []

-- the symbol of an operator, or its word where it has none
abbrev pub dyad_what : Dyad → What
dyad_what dyad.Pow = what.Symbol s.POWER
dyad_what dyad.Mul = what.Symbol s.TIMES
dyad_what dyad.Div = what.Symbol s.DIVIDE
dyad_what dyad.Rem = what.Word w.REM
dyad_what dyad.Cat = what.Symbol s.CONCATENATE
dyad_what dyad.Add = what.Symbol s.PLUS
dyad_what dyad.Sub = what.Symbol s.MINUS
dyad_what dyad.Cshift = what.Symbol s.ROTATE
dyad_what dyad.Shift = what.Word w.SHIFT
dyad_what dyad.Lt = what.Symbol s.LESS
dyad_what dyad.Gt = what.Symbol s.GREATER
dyad_what dyad.Le = what.Symbol s.AT_MOST
dyad_what dyad.Ge = what.Symbol s.AT_LEAST
dyad_what dyad.Eq = what.Symbol s.EQUAL
dyad_what dyad.Ne = what.Symbol s.UNEQUAL
dyad_what dyad.And = what.Word w.AND
dyad_what dyad.Or = what.Word w.OR
dyad_what dyad.Exor = what.Word w.EXOR

abbrev pub dyadic_tokens : Dyadic → List What
dyadic_tokens dyadic = dyad_what dyadic.operator ∷ []

abbrev mutual
  -- expr = operand { dyadic operand }, operand = { + | - | ABS | SIGN | NOT } primary
  pub expr_tokens : Expr → List What
  expr_tokens (Operand' monadics part place) = flat_map monadic_tokens monadics.items.items ++ primary_tokens part
  expr_tokens (Dyadic' _ left dyadic _ right place) = expr_tokens left ++ dyadic_tokens dyadic ++ expr_tokens right

  -- primary = literal | ref | "(" expr ")" | NOW | TRY id | [ number ] ( LWB | UPB ) ref
  pub primary_tokens : Primary → List What
  primary_tokens (primary.Literal part) = literal_tokens (shown_literal part)
  primary_tokens (primary.Ref' name _ selectors place) = name_tokens name ++ selectors_tokens selectors
  primary_tokens (primary.Group' _ inner place) = symbol s.LEFT_ROUND ++ expr_tokens inner ++ symbol s.RIGHT_ROUND
  primary_tokens (primary.Now place) = word w.NOW
  primary_tokens (primary.Try name place) = word w.TRY ++ name_tokens name
  primary_tokens (primary.Limit' dimension side _ name _ selectors ref_place place) =
      maybe number_tokens dimension ++ word (side_word side) ++ (name_tokens name ++ selectors_tokens selectors)

  -- { "(" expr { "," expr } ")" | "." id }
  pub selectors_tokens : {n : _} → Row_of-Selector n → List What
  selectors_tokens end_of-Selector = []
  selectors_tokens (more_of-Selector selector rest) = selector_tokens selector ++ selectors_tokens rest

  pub selector_tokens : Selector → List What
  selector_tokens (Subscripts' _ subscripts place) =
      symbol s.LEFT_ROUND ++ subscripts_tokens subscripts ++ symbol s.RIGHT_ROUND
  selector_tokens (Component name place) = symbol s.PERIOD ++ name_tokens name

  -- expr { "," expr }
  pub subscripts_tokens : {n : _} → Row_of-Expr n → List What
  subscripts_tokens end_of-Expr = []
  subscripts_tokens (more_of-Expr first rest) = expr_tokens first ++ more_subscripts_tokens rest

  -- { "," expr }
  pub more_subscripts_tokens : {n : _} → Row_of-Expr n → List What
  more_subscripts_tokens end_of-Expr = []
  more_subscripts_tokens (more_of-Expr next rest) =
      (symbol s.COMMA ++ expr_tokens next) ++ more_subscripts_tokens rest

-- ref = id { "(" expr { "," expr } ")" | "." id }
abbrev pub ref_tokens : Ref → List What
ref_tokens reference = name_tokens reference.name ++ flat_map selector_tokens reference.selectors.items.items

-- operand = { + | - | ABS | SIGN | NOT } primary
abbrev pub operand_tokens : Operand → List What
operand_tokens operand = flat_map monadic_tokens operand.monadics.items.items ++ primary_tokens operand.primary

-- [ number ] ( LWB | UPB ) ref
abbrev pub limit_tokens : Option Number → Side → Ref → List What
limit_tokens dimension side array = maybe number_tokens dimension ++ word (side_word side) ++ ref_tokens array
