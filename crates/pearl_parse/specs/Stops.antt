-- What statements that begin alike have in common: which token goes on with a part, and with which none goes on.
use Rattle.std.specs.Prelude.{◌≡◌, ℕ, ◌==◌, ◌||◌, Bool, true, false, List, [], ◌∷◌, max, Option, Some}
use Rattle.std.specs.Prelude.{None}
use Rattle.pearl_tree.specs.declared.token.What.{What}
use Rattle.pearl_tree.specs.declared.token.What.TheVariants as what
use Rattle.pearl_tree.specs.declared.token.Token.{Token}
use Rattle.pearl_tree.specs.declared.limit.TheConstants as limit
use Rattle.pearl_tree.specs.Standing.{Spelling, what_at, SpellsName, SpellsList}
use Rattle.pearl_parse_expr.specs.declared.reading.Halt.{Halt}
use Rattle.pearl_parse_expr.specs.declared.reading.Halt.TheVariants.{Refused, NoMemory}
use Rattle.pearl_parse_expr.specs.Stops.{SpellsNamed}
use Rattle.pearl_parse.specs.FirstWords.{statement_words}
use Rattle.pearl_parse.specs.declared.transfer.Transfer.{Transfer}
use Rattle.pearl_tree.specs.declared.expression.Selector.{Selector}
use Rattle.pearl_grammar.specs.Rules.{Spells}
use Rattle.pearl_grammar.specs.Statements.{transfer_rule}
use Rattle.pearl_tree.specs.declared.name.Name.{Name}
use Rattle.pearl_tree.specs.declared.symbol.TheConstants as s

-- why a token is not there: it is refused at its number, or at `stop` where that is greater
abbrev pub IsMissing : List Token → (Option What → Bool) → ℕ → ℕ → Halt → Type 0
IsMissing tokens wanted at stop NoMemory = ⊥
IsMissing tokens wanted at stop (Refused k) = (wanted (what_at tokens at) ≡ false) × (k ≡ max stop at)

-- a reference of a statement, by what follows its id
abbrev pub SpellsOwnNamed : List Token → Spelling (List Selector)
SpellsOwnNamed tokens = SpellsNamed tokens limit.OWN_BRACKETS_MAX

-- [ part ], where a token that may begin one does
abbrev pub SpellsOptional : {X : Type 0} → (Option What → Bool) → (List Token → Spelling X) → List Token →
    Spelling (Option X)
SpellsOptional begins spells tokens from None to = (to ≡ from) × (begins (what_at tokens from) ≡ false)
SpellsOptional begins spells tokens from (Some x) to = spells tokens from x to

-- id { "," id }
abbrev pub SpellsNameList : List Token → Spelling (List Name)
SpellsNameList tokens = SpellsList tokens (SpellsName tokens)

-- id BY fmt { "," fmt } ";"
abbrev pub SpellsTransfer : List Token → Spelling Transfer
SpellsTransfer tokens from transfer to =
    Spells transfer_rule tokens from (transfer.dation, (transfer.formats.items, tt)) to

abbrev pub is_among : List ℕ → ℕ → Bool
is_among [] code = false
is_among (word ∷ words) code = (code == word) || is_among words code

-- the first token of a statement
abbrev pub begins_statement : Option What → Bool
begins_statement (Some (what.Symbol symbol)) = symbol == s.SEMICOLON
begins_statement (Some (what.Id _)) = true
begins_statement (Some (what.Word code)) = is_among statement_words code
begins_statement _ = false
