-- Which tokens a statement or a body spells. Each relation goes from the number of a first token to the number of the
-- token after the last one. Every node has the place of its first token.
use Rattle.std.specs.Prelude.{◌≡◌, ℕ, ◌+◌, ◌-◌, ◌<◌, List, [], ◌∷◌, ◌⊎◌}
use Rattle.pearl_tree.specs.declared.name.Name.{Name}
use Rattle.pearl_tree.specs.declared.expression.Expr.{Expr}
use Rattle.pearl_tree.specs.declared.statement.PeriodEnd.{PeriodEnd}
use Rattle.pearl_tree.specs.declared.statement.PeriodEnd.TheVariants.{Until, During}
use Rattle.pearl_tree.specs.declared.statement.Period.{Period}
use Rattle.pearl_tree.specs.declared.statement.Start.{Start}
use Rattle.pearl_tree.specs.declared.statement.Start.TheVariants as start
use Rattle.pearl_tree.specs.declared.statement.Once.{Once}
use Rattle.pearl_tree.specs.declared.statement.Once.TheVariants as once
use Rattle.pearl_tree.specs.declared.statement.TaskWord.{TaskWord}
use Rattle.pearl_tree.specs.declared.statement.TaskWord.TheVariants.{Suspend, Terminate, Prevent}
use Rattle.pearl_tree.specs.declared.statement.SemaWord.{SemaWord}
use Rattle.pearl_tree.specs.declared.statement.SemaWord.TheVariants.{Request, Release}
use Rattle.pearl_tree.specs.declared.statement.InterruptWord.{InterruptWord}
use Rattle.pearl_tree.specs.declared.statement.InterruptWord.TheVariants.{Enable, Disable, Trigger}
use Rattle.pearl_tree.specs.declared.statement.BodyDecl.{BodyDecl}
use Rattle.pearl_tree.specs.declared.statement.Stmt.{Stmt, Empty, Assign, Call, If', Case', Repeat', Exit, Begin', Return, Activate, Continue, Resume, OnTask, OnSemas, OnInterrupt, Put, Get, Send, Take, Row_of-Stmt, end_of-Stmt, more_of-Stmt}
use Rattle.pearl_tree.specs.declared.statement.If as if_
use Rattle.pearl_tree.specs.declared.statement.If.{Held-Case-otherwise, None', Some'}
use Rattle.pearl_tree.specs.declared.statement.Case as case_
use Rattle.pearl_tree.specs.declared.statement.Case.{Row_of-Branch, end_of-Branch, more_of-Branch}
use Rattle.pearl_tree.specs.declared.statement.Body.{Body}
use Rattle.pearl_tree.specs.declared.statement.Branch.{Branch}
use Rattle.pearl_tree.specs.declared.token.Token.{Token}
use Rattle.pearl_tree.specs.declared.limit.TheConstants as limit
use Rattle.pearl_tree.specs.Standing.{Spelling, IsAt, HasWord, HasSymbol, IsName, SpellsName, SpellsFlag, SpellsMaybe, SpellsEach, SpellsList, SpellsMaybeBracketed}
use Rattle.pearl_tree.specs.Expressions.{SpellsWhole, SpellsOwnRef}
use Rattle.pearl_tree.specs.Declarations.{SpellsItem}
use Rattle.pearl_tree.specs.Formats.{SpellsFmt}
use Rattle.pearl_tree.specs.declared.symbol.TheConstants as s
use Rattle.pearl_tree.specs.declared.word_code.TheConstants as w

-- `:=` and `=` mean the same
abbrev pub HasBecomes : List Token → ℕ → Type 0
HasBecomes tokens k = HasSymbol tokens k s.BECOMES ⊎ HasSymbol tokens k s.EQUALS_SIGN

-- word expr
abbrev pub SpellsAfter : List Token → ℕ → Spelling Expr
SpellsAfter tokens word from expr to = HasWord tokens from word × SpellsWhole tokens (from + 1) expr to

-- FOR id
abbrev pub SpellsFor : List Token → Spelling Name
SpellsFor tokens from name to = HasWord tokens from w.FOR × IsName tokens (from + 1) name × (to ≡ from + 2)

-- "(" expr ")"
abbrev pub SpellsValue : List Token → Spelling Expr
SpellsValue tokens from expr to =
    (m : ℕ) × HasSymbol tokens from s.LEFT_ROUND × SpellsWhole tokens (from + 1) expr m ×
    HasSymbol tokens m s.RIGHT_ROUND × (to ≡ m + 1)

-- [ part { "," part } ]
abbrev pub SpellsMaybeList : {X : Type 0} → List Token → Spelling X → Spelling (List X)
SpellsMaybeList tokens spells from [] to = to ≡ from
SpellsMaybeList tokens spells from (x ∷ xs) to = SpellsList tokens spells from (x ∷ xs) to

-- UNTIL expr | DURING expr
abbrev pub SpellsPeriodEnd : List Token → Spelling PeriodEnd
SpellsPeriodEnd tokens from (Until time place) to = IsAt tokens from place × SpellsAfter tokens w.UNTIL from time to
SpellsPeriodEnd tokens from (During duration place) to =
    IsAt tokens from place × SpellsAfter tokens w.DURING from duration to

-- all = ALL expr [ UNTIL expr | DURING expr ]
abbrev pub SpellsPeriod : List Token → Spelling Period
SpellsPeriod tokens from period to =
    (m : ℕ) × IsAt tokens from period.place × SpellsAfter tokens w.ALL from period.duration m ×
    SpellsMaybe (SpellsPeriodEnd tokens) m period.end to

-- start = AT expr [ all ] | AFTER expr [ all ] | WHEN id [ AFTER expr ] [ all ] | all
abbrev pub SpellsStart : List Token → Spelling Start
SpellsStart tokens from (start.At time period place) to =
    (m : ℕ) × IsAt tokens from place × SpellsAfter tokens w.AT from time m ×
    SpellsMaybe (SpellsPeriod tokens) m period to
SpellsStart tokens from (start.After duration period place) to =
    (m : ℕ) × IsAt tokens from place × SpellsAfter tokens w.AFTER from duration m ×
    SpellsMaybe (SpellsPeriod tokens) m period to
SpellsStart tokens from (start.When interrupt after period place) to =
    (m : ℕ) × IsAt tokens from place × HasWord tokens from w.WHEN × IsName tokens (from + 1) interrupt ×
    SpellsMaybe (SpellsAfter tokens w.AFTER) (from + 2) after m × SpellsMaybe (SpellsPeriod tokens) m period to
SpellsStart tokens from (start.All period) to = SpellsPeriod tokens from period to

-- once = AT expr | AFTER expr | WHEN id
abbrev pub SpellsOnce : List Token → Spelling Once
SpellsOnce tokens from (once.At time place) to = IsAt tokens from place × SpellsAfter tokens w.AT from time to
SpellsOnce tokens from (once.After duration place) to =
    IsAt tokens from place × SpellsAfter tokens w.AFTER from duration to
SpellsOnce tokens from (once.When interrupt place) to =
    IsAt tokens from place × HasWord tokens from w.WHEN × IsName tokens (from + 1) interrupt × (to ≡ from + 2)

-- SUSPEND | TERMINATE | PREVENT
abbrev pub task_word : TaskWord → ℕ
task_word Suspend = w.SUSPEND
task_word Terminate = w.TERMINATE
task_word Prevent = w.PREVENT

-- REQUEST | RELEASE
abbrev pub sema_word : SemaWord → ℕ
sema_word Request = w.REQUEST
sema_word Release = w.RELEASE

-- ENABLE | DISABLE | TRIGGER
abbrev pub interrupt_word : InterruptWord → ℕ
interrupt_word Enable = w.ENABLE
interrupt_word Disable = w.DISABLE
interrupt_word Trigger = w.TRIGGER

-- DCL item { "," item } ";"
abbrev pub SpellsBodyDecl : List Token → Spelling BodyDecl
SpellsBodyDecl tokens from declaration to =
    (m : ℕ) × IsAt tokens from declaration.place × HasWord tokens from w.DCL ×
    SpellsList tokens (SpellsItem tokens) (from + 1) declaration.items.items.items m ×
    HasSymbol tokens m s.SEMICOLON × (to ≡ m + 1)

-- `depth` is the number of IF, CASE, REPEAT and BEGIN that may still stand within one another
abbrev mutual
  pub SpellsStmt : List Token → ℕ → ℕ → Stmt → ℕ → Type 0
  -- ";"
  SpellsStmt tokens depth from (Empty place) to =
      IsAt tokens from place × HasSymbol tokens from s.SEMICOLON × (to ≡ from + 1)
  -- ref ":=" expr ";"
  SpellsStmt tokens depth from (Assign part) to =
      (a : ℕ) × (b : ℕ) × IsAt tokens from part.value.place × SpellsOwnRef tokens from part.value.target a × HasBecomes tokens a ×
      SpellsWhole tokens (a + 1) part.value.value b × HasSymbol tokens b s.SEMICOLON × (to ≡ b + 1)
  -- [ CALL ] id [ "(" expr { "," expr } ")" ] ";"
  SpellsStmt tokens depth from (Call part) to =
      (a : ℕ) × (b : ℕ) × IsAt tokens from part.value.place × SpellsFlag tokens w.CALL from part.value.call a × IsName tokens a part.value.name ×
      SpellsMaybeBracketed tokens (SpellsWhole tokens) (a + 1) part.value.arguments.items.items b ×
      HasSymbol tokens b s.SEMICOLON × (to ≡ b + 1)
  -- IF expr THEN { stmt } [ ELSE { stmt } ] FIN ";"
  SpellsStmt tokens depth from (If' _ (if_.If' condition _ statements otherwise place)) to =
      (a : ℕ) × (b : ℕ) × (c : ℕ) × IsAt tokens from place × (0 < depth) × SpellsAfter tokens w.IF from condition a ×
      HasWord tokens a w.THEN × SpellsStmts tokens (depth - 1) (a + 1) statements b ×
      SpellsOtherwise tokens (depth - 1) w.ELSE b otherwise c × HasWord tokens c w.FIN ×
      HasSymbol tokens (c + 1) s.SEMICOLON × (to ≡ c + 2)
  -- CASE expr ALT { stmt } { ALT { stmt } } [ OUT { stmt } ] FIN ";"
  SpellsStmt tokens depth from (Case' _ (case_.Case' selector _ alternatives otherwise place)) to =
      (a : ℕ) × (b : ℕ) × (c : ℕ) × IsAt tokens from place × (0 < depth) × SpellsAfter tokens w.CASE from selector a ×
      SpellsAlternatives tokens (depth - 1) a alternatives b ×
      SpellsOtherwise tokens (depth - 1) w.OUT b otherwise c × HasWord tokens c w.FIN ×
      HasSymbol tokens (c + 1) s.SEMICOLON × (to ≡ c + 2)
  -- [ FOR id ] [ FROM expr ] [ BY expr ] [ TO expr ] [ WHILE expr ] REPEAT body END ";"
  SpellsStmt tokens depth from (Repeat' _ control begin step end condition declarations _ statements body_place place) to =
      (a : ℕ) × (b : ℕ) × (c : ℕ) × (d : ℕ) × (e : ℕ) × (f : ℕ) × IsAt tokens from place × (0 < depth) ×
      SpellsMaybe (SpellsFor tokens) from control a × SpellsMaybe (SpellsAfter tokens w.FROM) a begin b ×
      SpellsMaybe (SpellsAfter tokens w.BY) b step c × SpellsMaybe (SpellsAfter tokens w.TO) c end d ×
      SpellsMaybe (SpellsAfter tokens w.WHILE) d condition e × HasWord tokens e w.REPEAT ×
      ((m : ℕ) × IsAt tokens (e + 1) body_place ×
      SpellsEach (SpellsBodyDecl tokens) (e + 1) declarations.items.items m ×
      SpellsStmts tokens (depth - 1) m statements f) ×
      HasWord tokens f w.END × HasSymbol tokens (f + 1) s.SEMICOLON × (to ≡ f + 2)
  -- EXIT ";"
  SpellsStmt tokens depth from (Exit place) to =
      IsAt tokens from place × HasWord tokens from w.EXIT × HasSymbol tokens (from + 1) s.SEMICOLON × (to ≡ from + 2)
  -- BEGIN body END ";"
  SpellsStmt tokens depth from (Begin' _ declarations _ statements body_place place) to =
      (a : ℕ) × IsAt tokens from place × (0 < depth) × HasWord tokens from w.BEGIN ×
      ((m : ℕ) × IsAt tokens (from + 1) body_place ×
      SpellsEach (SpellsBodyDecl tokens) (from + 1) declarations.items.items m ×
      SpellsStmts tokens (depth - 1) m statements a) ×
      HasWord tokens a w.END × HasSymbol tokens (a + 1) s.SEMICOLON × (to ≡ a + 2)
  -- RETURN [ "(" expr ")" ] ";"
  SpellsStmt tokens depth from (Return part) to =
      (a : ℕ) × IsAt tokens from part.value.place × HasWord tokens from w.RETURN ×
      SpellsMaybe (SpellsValue tokens) (from + 1) part.value.value a × HasSymbol tokens a s.SEMICOLON × (to ≡ a + 1)
  -- [ start ] ACTIVATE id [ PRIO expr ] ";"
  SpellsStmt tokens depth from (Activate part) to =
      (a : ℕ) × (b : ℕ) × IsAt tokens from part.value.place × SpellsMaybe (SpellsStart tokens) from part.value.start a ×
      HasWord tokens a w.ACTIVATE × IsName tokens (a + 1) part.value.task ×
      SpellsMaybe (SpellsAfter tokens w.PRIO) (a + 2) part.value.priority b × HasSymbol tokens b s.SEMICOLON × (to ≡ b + 1)
  -- [ once ] CONTINUE id ";"
  SpellsStmt tokens depth from (Continue part) to =
      (a : ℕ) × IsAt tokens from part.value.place × SpellsMaybe (SpellsOnce tokens) from part.value.once a × HasWord tokens a w.CONTINUE ×
      IsName tokens (a + 1) part.value.task × HasSymbol tokens (a + 2) s.SEMICOLON × (to ≡ a + 3)
  -- once RESUME ";"
  SpellsStmt tokens depth from (Resume part) to =
      (a : ℕ) × IsAt tokens from part.value.place × SpellsOnce tokens from part.value.once a × HasWord tokens a w.RESUME ×
      HasSymbol tokens (a + 1) s.SEMICOLON × (to ≡ a + 2)
  -- ( SUSPEND | TERMINATE | PREVENT ) [ id ] ";"
  SpellsStmt tokens depth from (OnTask part) to =
      (a : ℕ) × IsAt tokens from part.value.place × HasWord tokens from (task_word part.value.word) ×
      SpellsMaybe (SpellsName tokens) (from + 1) part.value.task a × HasSymbol tokens a s.SEMICOLON × (to ≡ a + 1)
  -- ( REQUEST | RELEASE ) id { "," id } ";"
  SpellsStmt tokens depth from (OnSemas part) to =
      (a : ℕ) × IsAt tokens from part.value.place × HasWord tokens from (sema_word part.value.word) ×
      SpellsList tokens (SpellsName tokens) (from + 1) part.value.names.items.items a × HasSymbol tokens a s.SEMICOLON ×
      (to ≡ a + 1)
  -- ( ENABLE | DISABLE | TRIGGER ) id ";"
  SpellsStmt tokens depth from (OnInterrupt part) to =
      IsAt tokens from part.value.place × HasWord tokens from (interrupt_word part.value.word) × IsName tokens (from + 1) part.value.name ×
      HasSymbol tokens (from + 2) s.SEMICOLON × (to ≡ from + 3)
  -- PUT [ expr { "," expr } ] TO id BY fmt { "," fmt } ";"
  SpellsStmt tokens depth from (Put part) to =
      (a : ℕ) × (b : ℕ) × IsAt tokens from part.value.place × HasWord tokens from w.PUT ×
      SpellsMaybeList tokens (SpellsWhole tokens) (from + 1) part.value.values.items.items a × HasWord tokens a w.TO ×
      IsName tokens (a + 1) part.value.dation × HasWord tokens (a + 2) w.BY ×
      SpellsList tokens (SpellsFmt tokens) (a + 3) part.value.formats.items.items b × HasSymbol tokens b s.SEMICOLON × (to ≡ b + 1)
  -- GET [ ref { "," ref } ] FROM id BY fmt { "," fmt } ";"
  SpellsStmt tokens depth from (Get part) to =
      (a : ℕ) × (b : ℕ) × IsAt tokens from part.value.place × HasWord tokens from w.GET ×
      SpellsMaybeList tokens (SpellsOwnRef tokens) (from + 1) part.value.targets.items.items a × HasWord tokens a w.FROM ×
      IsName tokens (a + 1) part.value.dation × HasWord tokens (a + 2) w.BY ×
      SpellsList tokens (SpellsFmt tokens) (a + 3) part.value.formats.items.items b × HasSymbol tokens b s.SEMICOLON × (to ≡ b + 1)
  -- SEND expr TO id ";"
  SpellsStmt tokens depth from (Send part) to =
      (a : ℕ) × IsAt tokens from part.value.place × SpellsAfter tokens w.SEND from part.value.value a × HasWord tokens a w.TO ×
      IsName tokens (a + 1) part.value.dation × HasSymbol tokens (a + 2) s.SEMICOLON × (to ≡ a + 3)
  -- TAKE ref FROM id ";"
  SpellsStmt tokens depth from (Take part) to =
      (a : ℕ) × IsAt tokens from part.value.place × HasWord tokens from w.TAKE × SpellsOwnRef tokens (from + 1) part.value.target a ×
      HasWord tokens a w.FROM × IsName tokens (a + 1) part.value.dation × HasSymbol tokens (a + 2) s.SEMICOLON × (to ≡ a + 3)

  -- { stmt }
  pub SpellsStmts : {n : _} → List Token → ℕ → ℕ → Row_of-Stmt n → ℕ → Type 0
  SpellsStmts tokens depth from end_of-Stmt to = to ≡ from
  SpellsStmts tokens depth from (more_of-Stmt statement rest) to =
      (m : ℕ) × SpellsStmt tokens depth from statement m × SpellsStmts tokens depth m rest to

  -- ALT { stmt } { ALT { stmt } }
  pub SpellsAlternatives : {n : _} → List Token → ℕ → ℕ → Row_of-Branch n → ℕ → Type 0
  SpellsAlternatives tokens depth from end_of-Branch to = ⊥
  SpellsAlternatives tokens depth from (more_of-Branch _ statements place rest) to =
      (m : ℕ) ×
      (IsAt tokens from place × HasWord tokens from w.ALT × SpellsStmts tokens depth (from + 1) statements m) ×
      SpellsMoreAlternatives tokens depth m rest to

  -- { ALT { stmt } }
  pub SpellsMoreAlternatives : {n : _} → List Token → ℕ → ℕ → Row_of-Branch n → ℕ → Type 0
  SpellsMoreAlternatives tokens depth from end_of-Branch to = to ≡ from
  SpellsMoreAlternatives tokens depth from (more_of-Branch _ statements place rest) to =
      (m : ℕ) ×
      (IsAt tokens from place × HasWord tokens from w.ALT × SpellsStmts tokens depth (from + 1) statements m) ×
      SpellsMoreAlternatives tokens depth m rest to

  -- [ word { stmt } ]
  pub SpellsOtherwise : List Token → ℕ → ℕ → ℕ → Held-Case-otherwise → ℕ → Type 0
  SpellsOtherwise tokens depth word from None' to = to ≡ from
  SpellsOtherwise tokens depth word from (Some' _ statements place) to =
      IsAt tokens from place × HasWord tokens from word × SpellsStmts tokens depth (from + 1) statements to

-- one of the words ALT, ELSE and OUT, and { stmt }
abbrev pub SpellsBranch : List Token → ℕ → ℕ → Spelling Branch
SpellsBranch tokens depth word from branch to =
    IsAt tokens from branch.place × HasWord tokens from word ×
    SpellsEach (SpellsStmt tokens depth) (from + 1) branch.statements.items.items to

-- body = { DCL item { "," item } ";" } { stmt }
abbrev pub SpellsBody : List Token → ℕ → Spelling Body
SpellsBody tokens depth from body to =
    (m : ℕ) × IsAt tokens from body.place × SpellsEach (SpellsBodyDecl tokens) from body.declarations.items.items m ×
    SpellsEach (SpellsStmt tokens depth) m body.statements.items.items to

-- the body of a task or procedure
abbrev pub SpellsWholeBody : List Token → Spelling Body
SpellsWholeBody tokens from body to = SpellsBody tokens limit.NESTED_MAX from body to
