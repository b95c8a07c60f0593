-- What tokens that begin alike have in common: which token goes on with a part, and with which none goes on.
use Rattle.std.specs.Prelude.{if◌then◌else◌, ◌≡◌, ℕ, ◌+◌, slice_get, ◌<◌, ◌≤◌, ◌⊎◌, ◌==◌, ◌||◌, ◌&&◌, ◌-◌, ◌^◌}
use Rattle.std.specs.Prelude.{unwrap_or, Bool, true, false, List, length, Option, Some, None}
use Rattle.pearl_value.specs.declared.operator.Monad.{Monad}
use Rattle.pearl_value.specs.declared.operator.Monad.TheVariants as monad
use Rattle.pearl_tree.specs.declared.token.What.{What}
use Rattle.pearl_tree.specs.declared.token.What.TheVariants as what
use Rattle.pearl_tree.specs.declared.token.Token.{Token}
use Rattle.pearl_tree.specs.declared.limit.TheConstants as limit
use Rattle.pearl_tree.specs.declared.literal.Secs.{Secs}
use Rattle.pearl_tree.specs.declared.expression.Monadic.{Monadic}
use Rattle.pearl_tree.specs.declared.expression.Expr as tree
use Rattle.pearl_tree.specs.declared.expression.Expr.{Expr}
use Rattle.pearl_tree.specs.declared.expression.Operand.{Operand}
use Rattle.pearl_tree.specs.declared.expression.Primary.{Primary}
use Rattle.pearl_tree.specs.declared.expression.Selector.{Selector}
use Rattle.pearl_tree.specs.Standing.{Spelling, SpellsMaybe, SpellsEach, SpellsList, what_at, place_at}
use Rattle.pearl_tree.specs.Expressions.{SpellsSeconds, SpellsMonadic, SpellsTerms, SpellsPrimary, SpellsSelector}
use Rattle.pearl_tree.specs.Expressions.{SpellsExpr, SpellsWhole}
use Rattle.pearl_parse_expr.specs.declared.fault.ParseFault.{ParseFault}
use Rattle.pearl_parse_expr.specs.declared.fault.ParseFault.TheVariants as fault
use Rattle.pearl_parse_expr.specs.declared.reading.Halt.{Halt}
use Rattle.pearl_parse_expr.specs.declared.reading.Halt.TheVariants.{Refused, NoMemory}
use Rattle.pearl_tree.specs.Following.{is_monadic, lengthens_operand, lengthens_expr}
use Rattle.pearl_tree.specs.Stops.{BeginAlike}
use Rattle.pearl_parse_expr.specs.Least.{LawfulFrom}
use Rattle.pearl_tree.specs.declared.symbol.TheConstants as s
use Rattle.pearl_tree.specs.declared.word_code.TheConstants as w

-- a token of this kind; the end is of none
abbrev pub is_one_of : (What → Bool) → Option What → Bool
is_one_of kind None = false
is_one_of kind (Some what) = kind what

-- a token that goes on with an operand that could end before it
abbrev pub extends_operand : Option What → Bool
extends_operand = is_one_of lengthens_operand

-- a token that goes on with monadic operators that could end before it
abbrev pub extends_monadics : Option What → Bool
extends_monadics = is_one_of is_monadic

-- a token that goes on with an expression that could end before it
abbrev pub extends_expression : Option What → Bool
extends_expression = is_one_of lengthens_expr

-- it ends before a token that goes on with it, and before this number
abbrev pub EndsEarly : (Option What → Bool) → List Token → ℕ → ℕ → Type 0
EndsEarly extends tokens end to = (to < end) × (extends (what_at tokens to) ≡ true)

-- `end` is the longest end: however the tokens behind `stop` are replaced, what begins at `from` ends there, or earlier
-- and before a token that goes on with it
abbrev pub IsLongest : {X : Type 0} → (List Token → Spelling X) → (Option What → Bool) → List Token → ℕ → ℕ → ℕ → Type 0
IsLongest {X} spells extends tokens from end stop =
    (others : List Token) → BeginAlike tokens others stop → (x : X) (to : ℕ) → spells others from x to →
    (to ≡ end) ⊎ EndsEarly extends others end to

-- however the tokens behind this one are replaced, none begins at `from`
abbrev pub Stuck : {X : Type 0} → (List Token → Spelling X) → List Token → ℕ → ℕ → Type 0
Stuck {X} spells tokens from stop =
    (others : List Token) → BeginAlike tokens others stop → (x : X) (to : ℕ) → spells others from x to → ⊥

-- what was read is not empty, and was stopped behind it within the tokens
abbrev pub IsAhead : List Token → ℕ → ℕ → ℕ → Type 0
IsAhead tokens from end stop = (from < end) × (end ≤ stop) × (stop ≤ length tokens)

-- what was read may be empty: it ends at `from` or behind it, and was stopped within the tokens, no earlier than at
-- `least_stop`, where what stands before it was stopped
abbrev pub StopsWithin : List Token → ℕ → ℕ → ℕ → ℕ → Type 0
StopsWithin tokens from least_stop end stop =
    (from ≤ end) × (end ≤ stop) × (least_stop ≤ stop) × (stop ≤ length tokens)

-- the number or the decimal that may stand before SEC
abbrev pub is_secs : Option What → Bool
is_secs (Some (what.Number value)) = true
is_secs (Some (what.Decimal whole thousandths)) = true
is_secs _ = false

abbrev pub is_number : Option What → Bool
is_number (Some (what.Number value)) = true
is_number _ = false

abbrev pub is_name : Option What → Bool
is_name (Some (what.Id text)) = true
is_name _ = false

abbrev pub is_word : ℕ → Option What → Bool
is_word word (Some (what.Word code)) = code == word
is_word word _ = false

abbrev pub is_symbol : ℕ → Option What → Bool
is_symbol wanted (Some (what.Symbol symbol)) = symbol == wanted
is_symbol wanted _ = false

-- LWB or UPB
abbrev pub is_side : Option What → Bool
is_side (Some (what.Word code)) = (code == w.LWB) || (code == w.UPB)
is_side _ = false

-- a literal of one token
abbrev pub is_plain : Option What → Bool
is_plain (Some (what.Number value)) = true
is_plain (Some (what.Bits len value)) = true
is_plain (Some (what.Text text)) = true
is_plain (Some (what.Clock milliseconds)) = true
is_plain _ = false

-- the monadic operator that a token is
abbrev pub monad_of : What → Option Monad
monad_of (what.Symbol symbol) =
    if symbol == s.PLUS then Some monad.Plus else (if symbol == s.MINUS then Some monad.Minus else None)
monad_of (what.Word code) =
    if code == w.ABS then Some monad.Abs
    else (if code == w.SIGN then Some monad.Sign else (if code == w.NOT then Some monad.Not else None))
monad_of _ = None

-- { + | - | ABS | SIGN | NOT }, no more than may stand before one primary
abbrev pub SpellsMonadics : List Token → Spelling (List Monadic)
SpellsMonadics tokens from list to =
    (length list ≤ limit.MONADS_MAX) × SpellsEach (SpellsMonadic tokens) from list to

-- a number, and behind it a word
abbrev pub is_counted : ℕ → List Token → ℕ → Bool
is_counted word tokens at = is_number (what_at tokens at) && is_word word (what_at tokens (at + 1))

-- [ secs SEC ]
abbrev pub SpellsMaybeSeconds : List Token → Spelling (Option Secs)
SpellsMaybeSeconds tokens = SpellsMaybe (SpellsSeconds tokens)

-- `end` is the only end: however the tokens behind `stop` are replaced, what begins at `from` ends there
abbrev pub IsOnly : {X : Type 0} → (List Token → Spelling X) → List Token → ℕ → ℕ → ℕ → Type 0
IsOnly {X} spells tokens from end stop =
    (others : List Token) → BeginAlike tokens others stop → (x : X) (to : ℕ) → spells others from x to → to ≡ end

-- nothing was read: for want of memory, or since with this token none begins
abbrev pub IsHalted : {X : Type 0} → (List Token → Spelling X) → List Token → ℕ → Halt → Type 0
IsHalted {X} spells tokens from NoMemory = Unit {0}
IsHalted {X} spells tokens from (Refused stop) =
    Stuck spells tokens from stop × (from ≤ stop) × (stop ≤ length tokens)

-- nothing was read, for want of a token and not of memory: it is told no later than at this number
abbrev pub IsToldBy : ℕ → Halt → Type 0
IsToldBy last NoMemory = ⊥
IsToldBy last (Refused stop) = stop ≤ last

-- the first token of a literal
abbrev pub is_literal : Option What → Bool
is_literal token = is_plain token || is_secs token

-- [ number ] ( LWB | UPB )
abbrev pub begins_limit : List Token → ℕ → Bool
begins_limit tokens from =
    is_side (what_at tokens from) || (is_number (what_at tokens from) && is_side (what_at tokens (from + 1)))

-- part { "," part }, where `extends` goes on with a part that could end before it
abbrev pub by_comma : (Option What → Bool) → Option What → Bool
by_comma extends token = extends token || is_symbol s.COMMA token

-- a token that goes on with expressions between commas that could end before it
abbrev pub extends_list : Option What → Bool
extends_list = by_comma extends_expression

-- { + | - | ABS | SIGN | NOT } primary
abbrev pub SpellsSigned : List Token → ℕ → Spelling Primary
SpellsSigned tokens depth from part to =
    (m : ℕ) × (monadics : List Monadic) × SpellsMonadics tokens from monadics m × SpellsPrimary tokens depth m part to

-- the same, as the operand that it is
abbrev pub SpellsOperand : List Token → ℕ → Spelling Operand
SpellsOperand tokens depth from operand to = SpellsTerms tokens depth from (tree.Operand operand) to

-- id { "(" expr { "," expr } ")" | "." id }, by what follows the id
abbrev pub SpellsNamed : List Token → ℕ → Spelling (List Selector)
SpellsNamed tokens depth from selectors to =
    (is_name (what_at tokens from) ≡ true) × SpellsEach (SpellsSelector tokens depth) (from + 1) selectors to

-- { "(" expr { "," expr } ")" | "." id }
abbrev pub SpellsSelectorsList : List Token → ℕ → Spelling (List Selector)
SpellsSelectorsList tokens depth = SpellsEach (SpellsSelector tokens depth)

-- expr { "," expr }
abbrev pub SpellsSubscriptsList : List Token → ℕ → Spelling (List Expr)
SpellsSubscriptsList tokens depth = SpellsList tokens (SpellsExpr tokens depth)

-- where the token stands; past the end a place that no token has
abbrev pub stop_place : List Token → ℕ → ℕ
stop_place tokens stop = unwrap_or (place_at tokens stop) (2 ^ 32 - 1)

-- no expression that begins at number `from` goes on past number k, whatever tokens stand behind it, and before `from`
abbrev pub NoneGoesOn : List Token → ℕ → ℕ → Type 0
NoneGoesOn tokens from k =
    (expr : Expr) (to : ℕ) (others : List Token) → ((j : ℕ) → from ≤ j → j ≤ k → what_at tokens j ≡ what_at others j) →
    SpellsWhole others from expr to → to ≤ k

-- some expression goes on as far as number k with the tokens from `from` up to it, and lawful ones from there on
abbrev pub SomeGoesOn : List Token → ℕ → ℕ → Type 0
SomeGoesOn tokens from k =
    (expr : Expr) × (to : ℕ) × (others : List Token) ×
    ((j : ℕ) → from ≤ j → j < k → slice_get tokens j ≡ slice_get others j) ×
    SpellsWhole others from expr to × (k ≤ to) × LawfulFrom others k

-- the place of the first token with which, up to and with it, no expression goes on from `from`
pub record IsStop (tokens : List Token) (from place : ℕ) : Type 0 where
  pub token : ℕ
  pub stands : place ≡ stop_place tokens token
  pub on : from ≤ token
  pub none : NoneGoesOn tokens from token
  pub some : SomeGoesOn tokens from token

-- what is told where no expression begins
abbrev pub IsRefused : List Token → ℕ → ParseFault → Type 0
IsRefused tokens from fault.NoMemory = Unit {0}
IsRefused tokens from (fault.Refused place) =
    ((expr : Expr) (to : ℕ) → SpellsWhole tokens from expr to → ⊥) × IsStop tokens from place
