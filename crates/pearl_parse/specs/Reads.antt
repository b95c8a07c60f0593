-- What is known of a statement that is read, or isn't, of a part that is read behind others and is told no earlier than
-- at the token at which they were stopped, and of a list that may be missing in front of a word.
use Rattle.std.specs.Prelude.{◌≡◌, ◌≢◌, ℕ, ◌+◌, ◌≤◌, Bool, true, false, List, length, Option, Vec, OnOk, IfOk, IsOkAnd, IfErr, Result}
use Rattle.pearl_tree.specs.declared.statement.Stmt.{Stmt}
use Rattle.pearl_tree.specs.declared.token.What.{What}
use Rattle.pearl_tree.specs.declared.token.What.TheVariants as what
use Rattle.pearl_tree.specs.declared.token.Token.{Token}
use Rattle.pearl_tree.specs.Standing.{Spelling, what_at, HasWord, HasSymbol, SpellsList}
use Rattle.pearl_tree.specs.Statements.{SpellsMaybeList, SpellsStmt}
use Rattle.pearl_tree.specs.Tokens.{IsLawfulWhat}
use Rattle.pearl_tree.specs.declared.symbol.TheConstants as s
use Rattle.pearl_parse_expr.specs.declared.reading.Halt.{Halt}
use Rattle.pearl_parse_expr.specs.declared.reading.Halt.TheVariants.{NoMemory}
use Rattle.pearl_parse_expr.specs.declared.reading.Reading.{Reading}
use Rattle.pearl_parse_expr.specs.Stops.{IsLongest, IsOnly, StopsWithin, is_word, by_comma}
use Rattle.pearl_parse_expr.specs.Reads.{ReadsOnly, ReadsList}
use Rattle.pearl_grammar.specs.Reached.{IsStopped, HaltsBehind}
use Rattle.pearl_parse.specs.Bodies.{SpellsClosing}
use Rattle.pearl_parse.specs.Reached.{IsLeastBehind}

-- a statement is read, with at most `depth` of those that hold others within one another
abbrev pub ReadsNested : ℕ → List Token → ℕ → Result (Reading Stmt) Halt → Type 0
ReadsNested depth tokens from result = ReadsOnly 24 (λ tokens. SpellsStmt tokens depth) tokens from result

-- a statement that holds no others is read, however many of those that do stand around it
abbrev pub ReadsStatement : List Token → ℕ → Result (Reading Stmt) Halt → Type 0
ReadsStatement tokens from result = (depth : ℕ) → ReadsNested depth tokens from result

-- of a part that has one end, is read behind others and is told no earlier than at `least_stop`: it ends at `first` or
-- behind it, `told` is what the tokens up to there spell of what is read, `part` all that begins where it does, and
-- `some` what goes on as far as the stop
pub record ReadsOnlyBehind {X Y Z : Type 0} (room : ℕ) (told : List Token → Spelling Y) (part : List Token → Spelling X)
    (some : List Token → Spelling Z) (tokens : List Token) (from first least_stop : ℕ)
    (result : Result (Reading Y) Halt) : Type 0 where
  pub spells : IfOk result (λ reading. told tokens from reading.part reading.end)
  pub only : IfOk result (λ reading. IsOnly part tokens from reading.end reading.stop)
  pub bounds : IfOk result (λ reading. StopsWithin tokens first least_stop reading.end reading.stop)
  pub refused : IfErr result (λ halt. IsStopped part tokens from least_stop halt)
  pub least : IsLeastBehind room some tokens from least_stop result

-- the same of a part that a token of `extends` may go on with
pub record ReadsBehind {X Y Z : Type 0} (room : ℕ) (told : List Token → Spelling Y) (part : List Token → Spelling X)
    (some : List Token → Spelling Z) (extends : Option What → Bool) (tokens : List Token) (from first least_stop : ℕ)
    (result : Result (Reading Y) Halt) : Type 0 where
  pub spells : IfOk result (λ reading. told tokens from reading.part reading.end)
  pub longest : IfOk result (λ reading. IsLongest part extends tokens from reading.end reading.stop)
  pub bounds : IfOk result (λ reading. StopsWithin tokens first least_stop reading.end reading.stop)
  pub refused : IfErr result (λ halt. IsStopped part tokens from least_stop halt)
  pub least : IsLeastBehind room some tokens from least_stop result

-- the longest list: `list` is what the tokens up to its end spell, and what goes on as far as the stop, and `part` all
-- that begins where it does
abbrev pub ReadsListBehind : {X Y A : Type 0} → ℕ → (List Token → Spelling (List X)) →
    (List Token → Spelling (List Y)) →
    (Option What → Bool) → List Token → ℕ → ℕ → ℕ → Result (Reading (Vec X A)) Halt → Type 0
ReadsListBehind room list part extends tokens from first least_stop result =
    ReadsBehind room (λ tokens from read to. list tokens from read.items to) part list extends tokens from first
    least_stop result

-- a word and a semicolon close what stands before them, or the one that is missing is told, no earlier than at
-- `least_stop`: some words and semicolons go on as far as there where a spelling means the word
pub record ReadsClosing (word : ℕ) (tokens : List Token) (from least_stop : ℕ)
    (result : Result (Unit {0}) Halt) : Type 0 where
  pub stands : OnOk result (HasWord tokens from word × HasSymbol tokens (from + 1) s.SEMICOLON)
  pub within : OnOk result (from + 2 ≤ length tokens)
  pub refused : IfErr result (λ halt. IsStopped (SpellsClosing word) tokens from least_stop halt)
  pub least : IsLawfulWhat (what.Word word) →
      IfErr result (λ halt. HaltsBehind 8 (SpellsClosing word) tokens from least_stop halt)
  pub memory : IfErr result (λ halt. halt ≢ NoMemory)

-- a list that is missing where this word stands, and elsewhere the longest one
pub record ReadsUnless {X A : Type 0} (word : ℕ) (part : List Token → Spelling X) (extends : Option What → Bool)
    (tokens : List Token) (from : ℕ) (result : Result (Reading (Vec X A)) Halt) : Type 0 where
  pub spells : IfOk result (λ list. SpellsMaybeList tokens (part tokens) from list.part.items list.end)
  pub bounds : IfOk result (λ list. StopsWithin tokens from from list.end list.stop)
  pub none : is_word word (what_at tokens from) ≡ true →
      HasWord tokens from word × IsOkAnd result (λ list. (list.end ≡ from) × (list.stop ≡ from))
  pub some : is_word word (what_at tokens from) ≡ false →
      ReadsList 16 (λ tokens. SpellsList tokens (part tokens)) (by_comma extends) tokens from result
