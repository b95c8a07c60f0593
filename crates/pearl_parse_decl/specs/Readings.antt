-- With which tokens a part goes on that could end before them, and what is told of a part that is not read.
use Rattle.std.specs.Prelude.{◌≡◌, ℕ, ◌+◌, ◌≤◌, ◌||◌, Bool, List, length}
use Rattle.std.specs.Prelude.{Option, Some, None, Result, Ok, Err}
use Rattle.pearl_tree.specs.declared.token.What.{What}
use Rattle.pearl_tree.specs.declared.token.Token.{Token}
use Rattle.pearl_tree.specs.Standing.{Spelling}
use Rattle.pearl_tree.specs.declared.symbol.TheConstants as s
use Rattle.pearl_tree.specs.declared.word_code.TheConstants as w
use Rattle.pearl_parse_expr.specs.declared.reading.Halt.{Halt}
use Rattle.pearl_parse_expr.specs.declared.reading.Halt.TheVariants.{Refused, NoMemory}
use Rattle.pearl_parse_expr.specs.Stops.{is_name, is_symbol, is_word}
use Rattle.pearl_parse_expr.specs.declared.reading.Reading.{Reading}
use Rattle.pearl_parse_expr.specs.Least.{AlikeBefore, ReachesIn}
use Rattle.pearl_parse_expr.specs.Reads.{ReadsMaybe}
pub use Rattle.pearl_parse_expr.specs.Stops.{by_comma}
pub use Rattle.pearl_grammar.specs.Reached.{behind, never}

-- a part behind which `"(" number ")"` may stand
abbrev pub by_bracket : Option What → Bool
by_bracket = is_symbol s.LEFT_ROUND

abbrev pub by_colon : Option What → Bool
by_colon = is_symbol s.COLON

-- `+` or `-`
abbrev pub is_sign : Option What → Bool
is_sign token = is_symbol s.PLUS token || is_symbol s.MINUS token

abbrev pub extends_item : Option What → Bool
extends_item token = by_bracket token || is_word w.INIT token

abbrev pub extends_sema : Option What → Bool
extends_sema = is_word w.PRESET

abbrev pub extends_declared : Option What → Bool
extends_declared token = extends_item token || extends_sema token

-- what may stand behind the colon of a device
abbrev pub is_device_word : Option What → Bool
is_device_word token = is_name token || is_word w.INTERRUPT token

-- the id may be CONTROL
abbrev pub extends_spec : Option What → Bool
extends_spec token = by_bracket token || is_name token

abbrev pub extends_param : Option What → Bool
extends_param token = by_bracket token || is_word w.IDENT token

abbrev pub extends_head : Option What → Bool
extends_head token = is_word w.PRIO token || is_word w.MAIN token

-- of a part that may be empty: what is read, all that begins where it does, and what goes on are told alike
abbrev pub ReadsMaybePart : {X : Type 0} → ℕ → (List Token → Spelling X) →
    (Option What → Bool) → List Token → ℕ →
    Result (Reading X) Halt → Type 0
ReadsMaybePart room part extends tokens from result = ReadsMaybe room part part part extends tokens from result

-- what is told of a part that may be missing, as one is told that may not: where this is refused, nothing is read
abbrev pub IsOptional : {X : Type 0} → ℕ → Result (Reading X) Halt → Reading (Option X) → Type 0
IsOptional from (Ok reading) maybe =
    maybe ≡ record { part = Some reading.part; end = reading.end; stop = reading.stop }
IsOptional from (Err (Refused stop)) maybe = maybe ≡ record { part = None; end = from; stop = stop }
IsOptional from (Err NoMemory) maybe = ⊥

-- a part is refused at this token or behind it, or not read for want of memory
abbrev pub IsPast : ℕ → Halt → Type 0
IsPast at NoMemory = Unit {0}
IsPast at (Refused stop) = at ≤ stop

-- a part is not empty, and whether tokens spell it depends on those before its end alone
abbrev pub IsSelfContained : {X : Type 0} → (List Token → Spelling X) → Type 0
IsSelfContained {X} spells =
    (tokens others : List Token) (k : ℕ) → AlikeBefore tokens others k →
    (from : ℕ) (x : X) (to : ℕ) → spells tokens from x to →
    to ≤ k → (from + 1 ≤ to) × spells others from x to

-- wherever a part may begin, a few tokens make one
abbrev pub BeginsAnywhere : {X : Type 0} → (List Token → Spelling X) → Type 0
BeginsAnywhere spells = (tokens : List Token) (from : ℕ) → from ≤ length tokens →
    ReachesIn 9 spells tokens from from
