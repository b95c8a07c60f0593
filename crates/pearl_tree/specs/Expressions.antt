-- Which tokens a literal, a reference or an expression spells. Each relation goes from the number of a first token to the
-- number of the token after the last one. Every node has the place of its first token.
use Rattle.std.specs.Prelude.{◌≡◌, ℕ, ◌+◌, ◌-◌, ◌<◌, ◌≤◌, ◌==◌, if◌then◌else◌, List, [], ◌∷◌, length, Option, Some, None}
use Rattle.std.specs.Option.{option_and_then}
use Rattle.pearl_tree.specs.declared.name.Number.{Number}
use Rattle.pearl_tree.specs.declared.literal.Secs.{Secs}
use Rattle.pearl_tree.specs.declared.literal.Secs.TheVariants as secs
use Rattle.pearl_tree.specs.declared.literal.Duration.{Duration}
use Rattle.pearl_tree.specs.declared.literal.Duration.TheVariants.{Hours, Minutes, Seconds}
use Rattle.pearl_tree.specs.declared.literal.Literal.{Literal}
use Rattle.pearl_tree.specs.declared.literal.Literal.TheVariants as literal
use Rattle.pearl_tree.specs.declared.literal.Sign.{Sign}
use Rattle.pearl_tree.specs.declared.literal.Sign.TheVariants as sign
use Rattle.pearl_tree.specs.declared.literal.Const.{Const}
use Rattle.pearl_value.specs.declared.operator.Monad.{Monad}
use Rattle.pearl_value.specs.declared.operator.Monad.TheVariants as monad
use Rattle.pearl_tree.specs.declared.expression.Monadic.{Monadic}
use Rattle.pearl_value.specs.declared.operator.Dyad.{Dyad}
use Rattle.pearl_value.specs.declared.operator.Dyad.TheVariants as dyad
use Rattle.pearl_tree.specs.declared.expression.Side.{Side}
use Rattle.pearl_tree.specs.declared.expression.Side.TheVariants.{Lower, Upper}
use Rattle.pearl_tree.specs.declared.expression.Expr.{Expr, Operand', Dyadic'}
use Rattle.pearl_tree.specs.declared.expression.Primary.{Primary}
use Rattle.pearl_tree.specs.declared.expression.Primary as primary
use Rattle.pearl_tree.specs.declared.expression.Selector.{Selector, Subscripts', Component, Row_of-Expr, end_of-Expr, more_of-Expr}
use Rattle.pearl_tree.specs.declared.expression.Ref.{Ref, Row_of-Selector, end_of-Selector, more_of-Selector}
use Rattle.pearl_tree.specs.declared.limit.TheConstants as limit
use Rattle.pearl_tree.specs.declared.token.What.{What}
use Rattle.pearl_tree.specs.declared.token.What.TheVariants as what
use Rattle.pearl_tree.specs.declared.token.Token.{Token}
use Rattle.pearl_tree.specs.Standing.{Spelling, IsAt, HasWord, HasSymbol, IsName, IsNumber, SpellsEach, SpellsMaybe, SpellsNumber, what_at}
use Rattle.pearl_tree.specs.declared.symbol.TheConstants as s
pub use Rattle.pearl_tree.specs.Operators.{rank}
use Rattle.pearl_tree.specs.declared.word_code.TheConstants as w

-- secs = number | decimal
abbrev pub SpellsSecs : List Token → Spelling Secs
SpellsSecs tokens from (secs.Number number) to = SpellsNumber tokens from number to
SpellsSecs tokens from (secs.Decimal whole thousandths place) to =
    (what_at tokens from ≡ Some (what.Decimal whole thousandths)) × IsAt tokens from place × (to ≡ from + 1)

-- secs SEC
abbrev pub SpellsSeconds : List Token → Spelling Secs
SpellsSeconds tokens from part to =
    (m : ℕ) × SpellsSecs tokens from part m × HasWord tokens m w.SEC × (to ≡ m + 1)

-- number MIN
abbrev pub SpellsMinutes : List Token → Spelling Number
SpellsMinutes tokens from number to =
    IsNumber tokens from number × HasWord tokens (from + 1) w.MIN × (to ≡ from + 2)

-- duration = number HRS [ number MIN ] [ secs SEC ] | number MIN [ secs SEC ] | secs SEC
abbrev pub SpellsDuration : List Token → Spelling Duration
SpellsDuration tokens from (Hours hours minutes seconds place) to =
    (m : ℕ) × IsAt tokens from place × IsNumber tokens from hours × HasWord tokens (from + 1) w.HRS ×
    SpellsMaybe (SpellsMinutes tokens) (from + 2) minutes m × SpellsMaybe (SpellsSeconds tokens) m seconds to
SpellsDuration tokens from (Minutes minutes seconds place) to =
    IsAt tokens from place × IsNumber tokens from minutes × HasWord tokens (from + 1) w.MIN ×
    SpellsMaybe (SpellsSeconds tokens) (from + 2) seconds to
SpellsDuration tokens from (Seconds seconds place) to =
    IsAt tokens from place × SpellsSeconds tokens from seconds to

-- literal = number | bits | text | clock | duration
abbrev pub SpellsLiteral : List Token → Spelling Literal
SpellsLiteral tokens from (literal.Number number) to = SpellsNumber tokens from number to
SpellsLiteral tokens from (literal.Bits len value place) to =
    (what_at tokens from ≡ Some (what.Bits len value)) × IsAt tokens from place × (to ≡ from + 1)
SpellsLiteral tokens from (literal.Text text place) to =
    (what_at tokens from ≡ Some (what.Text text.value)) × IsAt tokens from place × (to ≡ from + 1)
SpellsLiteral tokens from (literal.Clock milliseconds place) to =
    (what_at tokens from ≡ Some (what.Clock milliseconds)) × IsAt tokens from place × (to ≡ from + 1)
SpellsLiteral tokens from (literal.Duration duration) to = SpellsDuration tokens from duration.value to

-- "+" | "-"
abbrev pub SpellsSign : List Token → Spelling Sign
SpellsSign tokens from sign.Plus to = HasSymbol tokens from s.PLUS × (to ≡ from + 1)
SpellsSign tokens from sign.Minus to = HasSymbol tokens from s.MINUS × (to ≡ from + 1)

-- const = [ "+" | "-" ] literal
abbrev pub SpellsConst : List Token → Spelling Const
SpellsConst tokens from constant to =
    (m : ℕ) × IsAt tokens from constant.place × SpellsMaybe (SpellsSign tokens) from constant.sign m ×
    SpellsLiteral tokens m constant.literal to

-- + | - | ABS | SIGN | NOT
abbrev pub monad_what : Monad → What
monad_what monad.Plus = what.Symbol s.PLUS
monad_what monad.Minus = what.Symbol s.MINUS
monad_what monad.Abs = what.Word w.ABS
monad_what monad.Sign = what.Word w.SIGN
monad_what monad.Not = what.Word w.NOT

abbrev pub SpellsMonadic : List Token → Spelling Monadic
SpellsMonadic tokens from monadic to =
    (what_at tokens from ≡ Some (monad_what monadic.operator)) × IsAt tokens from monadic.place × (to ≡ from + 1)

-- the dyadic operators that are symbols, and those that are words
abbrev pub dyad_symbols : List (ℕ × Dyad)
dyad_symbols =
    (s.POWER, dyad.Pow) ∷ (s.TIMES, dyad.Mul) ∷ (s.DIVIDE, dyad.Div) ∷ (s.CONCATENATE, dyad.Cat) ∷ (s.PLUS, dyad.Add) ∷
    (s.MINUS, dyad.Sub) ∷ (s.ROTATE, dyad.Cshift) ∷ (s.LESS, dyad.Lt) ∷ (s.GREATER, dyad.Gt) ∷ (s.AT_MOST, dyad.Le) ∷
    (s.AT_LEAST, dyad.Ge) ∷ (s.EQUAL, dyad.Eq) ∷ (s.UNEQUAL, dyad.Ne) ∷ []

abbrev pub dyad_words : List (ℕ × Dyad)
dyad_words =
    (w.REM, dyad.Rem) ∷ (w.CAT, dyad.Cat) ∷ (w.CSHIFT, dyad.Cshift) ∷ (w.SHIFT, dyad.Shift) ∷ (w.LT, dyad.Lt) ∷
    (w.GT, dyad.Gt) ∷ (w.LE, dyad.Le) ∷ (w.GE, dyad.Ge) ∷ (w.EQ, dyad.Eq) ∷ (w.NE, dyad.Ne) ∷ (w.AND, dyad.And) ∷
    (w.OR, dyad.Or) ∷ (w.EXOR, dyad.Exor) ∷ []

abbrev pub dyad_in : List (ℕ × Dyad) → ℕ → Option Dyad
dyad_in [] code = None
dyad_in (row ∷ rows) code = if row.0 == code then Some row.1 else dyad_in rows code

-- the dyadic operator that a token is
abbrev pub dyad_of : What → Option Dyad
dyad_of (what.Symbol symbol) = dyad_in dyad_symbols symbol
dyad_of (what.Word code) = dyad_in dyad_words code
dyad_of _ = None

abbrev pub HasDyad : List Token → ℕ → Dyad → Type 0
HasDyad tokens k operator = option_and_then dyad_of (what_at tokens k) ≡ Some operator

-- the rank of the operator that an expression applies last; 0 for an operand
abbrev pub rank_of : Expr → ℕ
rank_of (Operand' _ _ _) = 0
rank_of (Dyadic' _ _ dyadic _ _ _) = rank dyadic.operator

-- how many dyadic operators stand in an expression outside its brackets
abbrev pub dyad_count : Expr → ℕ
dyad_count (Operand' _ _ _) = 0
dyad_count (Dyadic' _ left _ _ right _) = dyad_count left + dyad_count right + 1

-- LWB | UPB
abbrev pub side_word : Side → ℕ
side_word Lower = w.LWB
side_word Upper = w.UPB

-- `depth` is the number of brackets that may still stand within one another. An expression between two brackets or
-- commas, and a whole one, has at most DYADS_MAX dyadic operators outside further brackets.
abbrev mutual
  -- expr = operand { dyadic operand }, operand = { + | - | ABS | SIGN | NOT } primary. Equal ranks group from the left.
  pub SpellsTerms : List Token → ℕ → ℕ → Expr → ℕ → Type 0
  SpellsTerms tokens depth from (Operand' monadics part place) to =
      (m : ℕ) × IsAt tokens from place × (length monadics.items.items ≤ limit.MONADS_MAX) ×
      SpellsEach (SpellsMonadic tokens) from monadics.items.items m × SpellsPrimary tokens depth m part to
  SpellsTerms tokens depth from (Dyadic' _ left dyadic _ right place) to =
      (m : ℕ) × IsAt tokens from place × SpellsTerms tokens depth from left m ×
      HasDyad tokens m dyadic.operator × IsAt tokens m dyadic.place × SpellsTerms tokens depth (m + 1) right to ×
      (rank_of left ≤ rank dyadic.operator) × (rank_of right < rank dyadic.operator)

  -- primary = literal | ref | "(" expr ")" | NOW | TRY id | [ number ] ( LWB | UPB ) ref
  pub SpellsPrimary : List Token → ℕ → ℕ → Primary → ℕ → Type 0
  SpellsPrimary tokens depth from (primary.Literal part) to = SpellsLiteral tokens from part to
  SpellsPrimary tokens depth from (primary.Ref' name _ selectors place) to =
      IsAt tokens from place × IsName tokens from name × SpellsSelectors tokens depth (from + 1) selectors to
  SpellsPrimary tokens depth from (primary.Group' _ inner place) to =
      (m : ℕ) × IsAt tokens from place × HasSymbol tokens from s.LEFT_ROUND × (0 < depth) ×
      (SpellsTerms tokens (depth - 1) (from + 1) inner m × (dyad_count inner ≤ limit.DYADS_MAX)) ×
      HasSymbol tokens m s.RIGHT_ROUND × (to ≡ m + 1)
  SpellsPrimary tokens depth from (primary.Now place) to =
      IsAt tokens from place × HasWord tokens from w.NOW × (to ≡ from + 1)
  SpellsPrimary tokens depth from (primary.Try name place) to =
      IsAt tokens from place × HasWord tokens from w.TRY × IsName tokens (from + 1) name × (to ≡ from + 2)
  SpellsPrimary tokens depth from (primary.Limit' dimension side _ name _ selectors ref_place place) to =
      (m : ℕ) × IsAt tokens from place × SpellsMaybe (SpellsNumber tokens) from dimension m ×
      HasWord tokens m (side_word side) ×
      (IsAt tokens (m + 1) ref_place × IsName tokens (m + 1) name ×
      SpellsSelectors tokens depth (m + 1 + 1) selectors to)

  -- { "(" expr { "," expr } ")" | "." id }
  pub SpellsSelectors : {n : _} → List Token → ℕ → ℕ → Row_of-Selector n → ℕ → Type 0
  SpellsSelectors tokens depth from end_of-Selector to = to ≡ from
  SpellsSelectors tokens depth from (more_of-Selector selector rest) to =
      (m : ℕ) × SpellsSelector tokens depth from selector m × SpellsSelectors tokens depth m rest to

  pub SpellsSelector : List Token → ℕ → ℕ → Selector → ℕ → Type 0
  SpellsSelector tokens depth from (Subscripts' _ subscripts place) to =
      (m : ℕ) × IsAt tokens from place × HasSymbol tokens from s.LEFT_ROUND × (0 < depth) ×
      SpellsSubscripts tokens (depth - 1) (from + 1) subscripts m × HasSymbol tokens m s.RIGHT_ROUND × (to ≡ m + 1)
  SpellsSelector tokens depth from (Component name place) to =
      IsAt tokens from place × HasSymbol tokens from s.PERIOD × IsName tokens (from + 1) name × (to ≡ from + 2)

  -- expr { "," expr }
  pub SpellsSubscripts : {n : _} → List Token → ℕ → ℕ → Row_of-Expr n → ℕ → Type 0
  SpellsSubscripts tokens depth from end_of-Expr to = ⊥
  SpellsSubscripts tokens depth from (more_of-Expr first rest) to =
      (m : ℕ) × (SpellsTerms tokens depth from first m × (dyad_count first ≤ limit.DYADS_MAX)) ×
      SpellsMoreSubscripts tokens depth m rest to

  -- { "," expr }
  pub SpellsMoreSubscripts : {n : _} → List Token → ℕ → ℕ → Row_of-Expr n → ℕ → Type 0
  SpellsMoreSubscripts tokens depth from end_of-Expr to = to ≡ from
  SpellsMoreSubscripts tokens depth from (more_of-Expr next rest) to =
      (m : ℕ) × HasSymbol tokens from s.COMMA ×
      (SpellsTerms tokens depth (from + 1) next m × (dyad_count next ≤ limit.DYADS_MAX)) ×
      SpellsMoreSubscripts tokens depth m rest to

-- an expression at one bracket level, with at most this many brackets within one another
abbrev pub SpellsExpr : List Token → ℕ → Spelling Expr
SpellsExpr tokens depth from expr to = SpellsTerms tokens depth from expr to × (dyad_count expr ≤ limit.DYADS_MAX)

-- an expression that stands in no other
abbrev pub SpellsWhole : List Token → Spelling Expr
SpellsWhole tokens from expr to = SpellsExpr tokens limit.BRACKETS_MAX from expr to

-- ref = id { "(" expr { "," expr } ")" | "." id }, with at most this many brackets within one another
abbrev pub SpellsRef : List Token → ℕ → Spelling Ref
SpellsRef tokens depth from reference to =
    IsAt tokens from reference.place × IsName tokens from reference.name ×
    SpellsEach (SpellsSelector tokens depth) (from + 1) reference.selectors.items.items to

-- a ref of a statement's own, whose brackets aren't counted: in each expression between them as many may stand within
-- one another as in any other
abbrev pub SpellsOwnRef : List Token → Spelling Ref
SpellsOwnRef tokens from reference to = SpellsRef tokens limit.OWN_BRACKETS_MAX from reference to
