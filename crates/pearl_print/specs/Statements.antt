-- The tokens of statements and bodies.
use Rattle.std.specs.Prelude.{ℕ, List, [], ◌++◌, Option}
use Rattle.std.specs.List.{flat_map}
use Rattle.pearl_tree.specs.declared.name.Name.{Name}
use Rattle.pearl_tree.specs.declared.expression.Expr.{Expr}
use Rattle.pearl_tree.specs.declared.statement.BodyDecl.{BodyDecl}
use Rattle.pearl_tree.specs.declared.statement.Stmt.{Stmt, Row_of-Stmt, end_of-Stmt, more_of-Stmt}
use Rattle.pearl_tree.specs.declared.statement.Stmt as stmt
use Rattle.pearl_tree.specs.declared.statement.Assign.{Assign}
use Rattle.pearl_tree.specs.declared.statement.Call.{Call}
use Rattle.pearl_tree.specs.declared.statement.Return.{Return}
use Rattle.pearl_tree.specs.declared.statement.Activate.{Activate}
use Rattle.pearl_tree.specs.declared.statement.Continue.{Continue}
use Rattle.pearl_tree.specs.declared.statement.Resume.{Resume}
use Rattle.pearl_tree.specs.declared.statement.OnTask.{OnTask}
use Rattle.pearl_tree.specs.declared.statement.OnSemas.{OnSemas}
use Rattle.pearl_tree.specs.declared.statement.OnInterrupt.{OnInterrupt}
use Rattle.pearl_tree.specs.declared.statement.Put.{Put}
use Rattle.pearl_tree.specs.declared.statement.Get.{Get}
use Rattle.pearl_tree.specs.declared.statement.Send.{Send}
use Rattle.pearl_tree.specs.declared.statement.Take.{Take}
use Rattle.pearl_tree.specs.declared.statement.If as if_
use Rattle.pearl_tree.specs.declared.statement.If.{Held-Case-otherwise, None', Some'}
use Rattle.pearl_tree.specs.declared.statement.Case as case_
use Rattle.pearl_tree.specs.declared.statement.Case.{Row_of-Branch, end_of-Branch, more_of-Branch}
use Rattle.pearl_tree.specs.declared.statement.Body.{Body}
use Rattle.pearl_tree.specs.declared.statement.Branch.{Branch}
use Rattle.pearl_tree.specs.declared.token.What.{What}
use Rattle.pearl_tree.specs.Statements.{task_word, sema_word, interrupt_word}
use Rattle.pearl_tree.specs.declared.symbol.TheConstants as s
use Rattle.pearl_tree.specs.declared.word_code.TheConstants as w
use Rattle.pearl_print.specs.Lists.{word, symbol, name_tokens, listed, maybe_bracketed, maybe}
use Rattle.pearl_print.specs.Expressions.{expr_tokens, ref_tokens}
use Rattle.pearl_print.specs.Formats.{by_tokens}
use Rattle.pearl_print.specs.Declarations.{item_tokens}
use Rattle.pearl_print.specs.Schedules.{after_tokens, start_tokens, once_tokens}

-- FOR id
abbrev pub for_tokens : Name → List What
for_tokens name = word w.FOR ++ name_tokens name

-- "(" expr ")"
abbrev pub value_tokens : Expr → List What
value_tokens expr = symbol s.LEFT_ROUND ++ expr_tokens expr ++ symbol s.RIGHT_ROUND

-- DCL item { "," item } ";"
abbrev pub body_decl_tokens : BodyDecl → List What
body_decl_tokens declaration =
    word w.DCL ++ listed item_tokens declaration.items.items.items ++ symbol s.SEMICOLON

-- [ FOR id ] [ FROM expr ] [ BY expr ] [ TO expr ] [ WHILE expr ]
abbrev pub loop_tokens : Option Name → Option Expr → Option Expr → Option Expr → Option Expr → List What
loop_tokens control begin step end condition =
    maybe for_tokens control ++ maybe (after_tokens w.FROM) begin ++ maybe (after_tokens w.BY) step ++
    maybe (after_tokens w.TO) end ++ maybe (after_tokens w.WHILE) condition

-- ref ":=" expr ";"
abbrev pub assign_tokens : Assign → List What
assign_tokens part = ref_tokens part.target ++ symbol s.BECOMES ++ expr_tokens part.value ++ symbol s.SEMICOLON

-- CALL id [ "(" expr { "," expr } ")" ] ";"
abbrev pub call_tokens : Call → List What
call_tokens part =
    word w.CALL ++ name_tokens part.name ++ maybe_bracketed expr_tokens part.arguments.items.items ++ symbol s.SEMICOLON

-- RETURN [ "(" expr ")" ] ";"
abbrev pub return_tokens : Return → List What
return_tokens part = word w.RETURN ++ maybe value_tokens part.value ++ symbol s.SEMICOLON

-- [ start ] ACTIVATE id [ PRIO expr ] ";"
abbrev pub activate_tokens : Activate → List What
activate_tokens part =
    maybe start_tokens part.start ++ word w.ACTIVATE ++ name_tokens part.task ++
    maybe (after_tokens w.PRIO) part.priority ++ symbol s.SEMICOLON

-- [ once ] CONTINUE id ";"
abbrev pub continue_tokens : Continue → List What
continue_tokens part = maybe once_tokens part.once ++ word w.CONTINUE ++ name_tokens part.task ++ symbol s.SEMICOLON

-- once RESUME ";"
abbrev pub resume_tokens : Resume → List What
resume_tokens part = once_tokens part.once ++ word w.RESUME ++ symbol s.SEMICOLON

-- ( SUSPEND | TERMINATE | PREVENT ) [ id ] ";"
abbrev pub on_task_tokens : OnTask → List What
on_task_tokens part = word (task_word part.word) ++ maybe name_tokens part.task ++ symbol s.SEMICOLON

-- ( REQUEST | RELEASE ) id { "," id } ";"
abbrev pub on_semas_tokens : OnSemas → List What
on_semas_tokens part = word (sema_word part.word) ++ listed name_tokens part.names.items.items ++ symbol s.SEMICOLON

-- ( ENABLE | DISABLE | TRIGGER ) id ";"
abbrev pub on_interrupt_tokens : OnInterrupt → List What
on_interrupt_tokens part = word (interrupt_word part.word) ++ name_tokens part.name ++ symbol s.SEMICOLON

-- PUT [ expr { "," expr } ] TO id BY fmt { "," fmt } ";"
abbrev pub put_tokens : Put → List What
put_tokens part =
    word w.PUT ++ listed expr_tokens part.values.items.items ++ word w.TO ++ by_tokens part.dation part.formats

-- GET [ ref { "," ref } ] FROM id BY fmt { "," fmt } ";"
abbrev pub get_tokens : Get → List What
get_tokens part =
    word w.GET ++ listed ref_tokens part.targets.items.items ++ word w.FROM ++ by_tokens part.dation part.formats

-- SEND expr TO id ";"
abbrev pub send_tokens : Send → List What
send_tokens part = after_tokens w.SEND part.value ++ word w.TO ++ name_tokens part.dation ++ symbol s.SEMICOLON

-- TAKE ref FROM id ";"
abbrev pub take_tokens : Take → List What
take_tokens part =
    word w.TAKE ++ ref_tokens part.target ++ word w.FROM ++ name_tokens part.dation ++ symbol s.SEMICOLON

abbrev mutual
  pub stmt_tokens : Stmt → List What
  -- ";"
  stmt_tokens (stmt.Empty place) = symbol s.SEMICOLON
  stmt_tokens (stmt.Assign part) = assign_tokens part.value
  stmt_tokens (stmt.Call part) = call_tokens part.value
  -- IF expr THEN { stmt } [ ELSE { stmt } ] FIN ";"
  stmt_tokens (stmt.If' _ (if_.If' condition _ statements otherwise place)) =
      after_tokens w.IF condition ++ word w.THEN ++ stmts_tokens statements ++ otherwise_tokens w.ELSE otherwise ++
      (word w.FIN ++ symbol s.SEMICOLON)
  -- CASE expr ALT { stmt } { ALT { stmt } } [ OUT { stmt } ] FIN ";"
  stmt_tokens (stmt.Case' _ (case_.Case' selector _ alternatives otherwise place)) =
      after_tokens w.CASE selector ++ alternatives_tokens alternatives ++ otherwise_tokens w.OUT otherwise ++
      (word w.FIN ++ symbol s.SEMICOLON)
  -- [ FOR id ] [ FROM expr ] [ BY expr ] [ TO expr ] [ WHILE expr ] REPEAT body END ";"
  stmt_tokens (stmt.Repeat' _ control begin step end condition declarations _ statements body_place place) =
      loop_tokens control begin step end condition ++
      (word w.REPEAT ++ (flat_map body_decl_tokens declarations.items.items ++ stmts_tokens statements) ++
      (word w.END ++ symbol s.SEMICOLON))
  -- EXIT ";"
  stmt_tokens (stmt.Exit place) = word w.EXIT ++ symbol s.SEMICOLON
  -- BEGIN body END ";"
  stmt_tokens (stmt.Begin' _ declarations _ statements body_place place) =
      word w.BEGIN ++ (flat_map body_decl_tokens declarations.items.items ++ stmts_tokens statements) ++
      (word w.END ++ symbol s.SEMICOLON)
  stmt_tokens (stmt.Return part) = return_tokens part.value
  stmt_tokens (stmt.Activate part) = activate_tokens part.value
  stmt_tokens (stmt.Continue part) = continue_tokens part.value
  stmt_tokens (stmt.Resume part) = resume_tokens part.value
  stmt_tokens (stmt.OnTask part) = on_task_tokens part.value
  stmt_tokens (stmt.OnSemas part) = on_semas_tokens part.value
  stmt_tokens (stmt.OnInterrupt part) = on_interrupt_tokens part.value
  stmt_tokens (stmt.Put part) = put_tokens part.value
  stmt_tokens (stmt.Get part) = get_tokens part.value
  stmt_tokens (stmt.Send part) = send_tokens part.value
  stmt_tokens (stmt.Take part) = take_tokens part.value

  -- { stmt }
  pub stmts_tokens : {n : _} → Row_of-Stmt n → List What
  stmts_tokens end_of-Stmt = []
  stmts_tokens (more_of-Stmt statement rest) = stmt_tokens statement ++ stmts_tokens rest

  -- { ALT { stmt } }
  pub alternatives_tokens : {n : _} → Row_of-Branch n → List What
  alternatives_tokens end_of-Branch = []
  alternatives_tokens (more_of-Branch _ statements place rest) =
      (word w.ALT ++ stmts_tokens statements) ++ alternatives_tokens rest

  -- [ word { stmt } ]
  pub otherwise_tokens : ℕ → Held-Case-otherwise → List What
  otherwise_tokens code None' = []
  otherwise_tokens code (Some' _ statements place) = word code ++ stmts_tokens statements

-- one of the words ALT, ELSE and OUT, and { stmt }
abbrev pub branch_tokens : ℕ → Branch → List What
branch_tokens code branch = word code ++ flat_map stmt_tokens branch.statements.items.items

-- body = { DCL item { "," item } ";" } { stmt }
abbrev pub body_tokens : Body → List What
body_tokens body =
    flat_map body_decl_tokens body.declarations.items.items ++ flat_map stmt_tokens body.statements.items.items

-- word body END ";"
abbrev pub block_tokens : ℕ → Body → List What
block_tokens code body = word code ++ body_tokens body ++ (word w.END ++ symbol s.SEMICOLON)
