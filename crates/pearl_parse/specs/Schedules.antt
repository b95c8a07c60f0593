-- Which tokens the parts of scheduled statements spell, where a token that may begin a part does.
use Rattle.std.specs.Prelude.{◌≡◌, ℕ, ◌+◌, ◌||◌, Bool, true, false, List, Option}
use Rattle.pearl_tree.specs.declared.statement.PeriodEnd.{PeriodEnd}
use Rattle.pearl_tree.specs.declared.statement.Period.{Period}
use Rattle.pearl_tree.specs.declared.token.What.{What}
use Rattle.pearl_tree.specs.declared.token.Token.{Token}
use Rattle.pearl_tree.specs.Standing.{Spelling, what_at, IsAt, HasWord, HasSymbol, IsName, SpellsMaybe}
use Rattle.pearl_tree.specs.Statements.{SpellsAfter, SpellsPeriodEnd, SpellsPeriod}
use Rattle.pearl_tree.specs.declared.symbol.TheConstants as s
use Rattle.pearl_tree.specs.declared.word_code.TheConstants as w
use Rattle.pearl_parse_expr.specs.Stops.{extends_expression, is_word}
use Rattle.pearl_parse.specs.Stops.{SpellsOptional}
use Rattle.pearl_parse.specs.declared.tasking.Activation.{Activation}
use Rattle.pearl_parse.specs.declared.tasking.Begun.{Begun}

-- UNTIL or DURING
abbrev pub begins_end : Option What → Bool
begins_end token = is_word w.UNTIL token || is_word w.DURING token

-- [ UNTIL expr | DURING expr ]
abbrev pub SpellsOptionalEnd : List Token → Spelling (Option PeriodEnd)
SpellsOptionalEnd = SpellsOptional begins_end SpellsPeriodEnd

-- ALL expr [ UNTIL expr | DURING expr ], where no token behind the first expression goes on with it
abbrev pub SpellsLongPeriod : List Token → Spelling Period
SpellsLongPeriod tokens from period to =
    (m : ℕ) × IsAt tokens from period.place × SpellsAfter tokens w.ALL from period.duration m ×
    (extends_expression (what_at tokens m) ≡ false) × SpellsOptionalEnd tokens m period.end to

-- [ ALL expr [ UNTIL expr | DURING expr ] ]
abbrev pub SpellsOptionalPeriod : List Token → Spelling (Option Period)
SpellsOptionalPeriod = SpellsOptional (is_word w.ALL) SpellsLongPeriod

-- ACTIVATE id [ PRIO expr ] ";", as it is read
abbrev pub SpellsActivated : List Token → Spelling Activation
SpellsActivated tokens from activation to =
    (m : ℕ) × HasWord tokens from w.ACTIVATE × IsName tokens (from + 1) activation.task ×
    SpellsMaybe (SpellsAfter tokens w.PRIO) (from + 2) activation.priority m × HasSymbol tokens m s.SEMICOLON ×
    (to ≡ m + 1)

-- [ ALL expr [ UNTIL expr | DURING expr ] ] ACTIVATE id [ PRIO expr ] ";", as it is read
abbrev pub SpellsBeginning : List Token → Spelling Begun
SpellsBeginning tokens from begun to =
    (m : ℕ) × SpellsMaybe (SpellsPeriod tokens) from begun.period m × SpellsActivated tokens m begun.activation to

-- AFTER, or AT
abbrev pub time_word : Bool → ℕ
time_word true = w.AFTER
time_word false = w.AT
