-- The words with which statements begin.
use Rattle.std.specs.Prelude.{ℕ, true, false, List, [], ◌∷◌, map}
use Rattle.pearl_tree.specs.declared.statement.TaskWord.TheVariants.{Suspend, Terminate, Prevent}
use Rattle.pearl_tree.specs.declared.statement.SemaWord.TheVariants.{Request, Release}
use Rattle.pearl_tree.specs.declared.statement.InterruptWord.TheVariants.{Enable, Disable, Trigger}
use Rattle.pearl_tree.specs.declared.word_code.TheConstants as w
use Rattle.pearl_parse.specs.declared.statement.Simple.TheVariants as simple
use Rattle.pearl_parse.specs.declared.statement.First.{First}
use Rattle.pearl_parse.specs.declared.statement.First.TheVariants as first

-- each word with which a statement begins, and the statement
abbrev pub first_words : List (ℕ × First)
first_words =
    (w.CALL, first.Simple simple.Call) ∷ (w.IF, first.If) ∷ (w.CASE, first.Case) ∷ (w.FOR, first.Repeat) ∷
    (w.FROM, first.Repeat) ∷ (w.BY, first.Repeat) ∷ (w.TO, first.Repeat) ∷ (w.WHILE, first.Repeat) ∷
    (w.REPEAT, first.Repeat) ∷ (w.EXIT, first.Simple simple.Exit) ∷ (w.BEGIN, first.Begin) ∷
    (w.RETURN, first.Simple simple.Return) ∷ (w.AT, first.Simple (simple.Timed false)) ∷
    (w.AFTER, first.Simple (simple.Timed true)) ∷ (w.WHEN, first.Simple simple.When) ∷ (w.ALL, first.Simple simple.All)
    ∷
    (w.ACTIVATE, first.Simple simple.Activate) ∷ (w.CONTINUE, first.Simple simple.Continue) ∷
    (w.SUSPEND, first.Simple (simple.OnTask Suspend)) ∷ (w.TERMINATE, first.Simple (simple.OnTask Terminate)) ∷
    (w.PREVENT, first.Simple (simple.OnTask Prevent)) ∷ (w.REQUEST, first.Simple (simple.OnSemas Request)) ∷
    (w.RELEASE, first.Simple (simple.OnSemas Release)) ∷ (w.ENABLE, first.Simple (simple.OnInterrupt Enable)) ∷
    (w.DISABLE, first.Simple (simple.OnInterrupt Disable)) ∷ (w.TRIGGER, first.Simple (simple.OnInterrupt Trigger)) ∷
    (w.PUT, first.Simple simple.Put) ∷ (w.GET, first.Simple simple.Get) ∷ (w.SEND, first.Simple simple.Send) ∷
    (w.TAKE, first.Simple simple.Take) ∷ []

abbrev pub statement_words : List ℕ
statement_words = map (λ row. row.0) first_words
