-- Which statement a first token begins.
use Rattle.std.specs.Prelude.{if◌then◌else◌, ◌≡◌, ℕ, ◌==◌, true, List, [], ◌∷◌, Option, Some, None}
use Rattle.pearl_tree.specs.declared.token.What.{What}
use Rattle.pearl_tree.specs.declared.token.What.TheVariants as what
use Rattle.pearl_tree.specs.declared.token.Token.{Token}
use Rattle.pearl_tree.specs.Standing.{what_at, HasWord, HasSymbol}
use Rattle.pearl_tree.specs.Statements.{task_word, sema_word, interrupt_word}
use Rattle.pearl_tree.specs.declared.symbol.TheConstants as s
use Rattle.pearl_tree.specs.declared.word_code.TheConstants as w
use Rattle.pearl_parse_expr.specs.Stops.{is_name}
use Rattle.pearl_parse.specs.declared.statement.Simple.{Simple}
use Rattle.pearl_parse.specs.declared.statement.Simple.TheVariants as simple
use Rattle.pearl_parse.specs.declared.statement.First.{First}
use Rattle.pearl_parse.specs.declared.statement.First.TheVariants as first
use Rattle.pearl_parse.specs.FirstWords.{first_words}
use Rattle.pearl_parse.specs.Schedules.{time_word}
use Rattle.pearl_parse.specs.Bodies.{is_one, loop_words}

abbrev pub first_in : List (ℕ × First) → ℕ → Option First
first_in [] code = None
first_in (row ∷ rows) code = if code == row.0 then Some row.1 else first_in rows code

-- the statement that a token begins
abbrev pub first_of : What → Option First
first_of (what.Symbol symbol) = if symbol == s.SEMICOLON then Some (first.Simple simple.Empty) else None
first_of (what.Id _) = Some (first.Simple simple.Named)
first_of (what.Word code) = first_in first_words code
first_of _ = None

-- a statement that holds no others begins there
abbrev pub BeginsSimple : List Token → ℕ → Simple → Type 0
BeginsSimple tokens k simple.Empty = HasSymbol tokens k s.SEMICOLON
BeginsSimple tokens k simple.Named = is_name (what_at tokens k) ≡ true
BeginsSimple tokens k simple.Call = HasWord tokens k w.CALL
BeginsSimple tokens k simple.Exit = HasWord tokens k w.EXIT
BeginsSimple tokens k simple.Return = HasWord tokens k w.RETURN
BeginsSimple tokens k (simple.Timed later) = HasWord tokens k (time_word later)
BeginsSimple tokens k simple.When = HasWord tokens k w.WHEN
BeginsSimple tokens k simple.All = HasWord tokens k w.ALL
BeginsSimple tokens k simple.Activate = HasWord tokens k w.ACTIVATE
BeginsSimple tokens k simple.Continue = HasWord tokens k w.CONTINUE
BeginsSimple tokens k (simple.OnTask word) = HasWord tokens k (task_word word)
BeginsSimple tokens k (simple.OnSemas word) = HasWord tokens k (sema_word word)
BeginsSimple tokens k (simple.OnInterrupt word) = HasWord tokens k (interrupt_word word)
BeginsSimple tokens k simple.Put = HasWord tokens k w.PUT
BeginsSimple tokens k simple.Get = HasWord tokens k w.GET
BeginsSimple tokens k simple.Send = HasWord tokens k w.SEND
BeginsSimple tokens k simple.Take = HasWord tokens k w.TAKE

-- the statement begins there
abbrev pub BeginsAs : List Token → ℕ → First → Type 0
BeginsAs tokens k (first.Simple kind) = BeginsSimple tokens k kind
BeginsAs tokens k first.If = HasWord tokens k w.IF
BeginsAs tokens k first.Case = HasWord tokens k w.CASE
BeginsAs tokens k first.Repeat = is_one loop_words (what_at tokens k) ≡ true
BeginsAs tokens k first.Begin = HasWord tokens k w.BEGIN
