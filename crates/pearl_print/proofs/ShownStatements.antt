-- The tokens of what statements say, and that they are those of the statements.
use Rattle.std.proofs.Common.{◌≡◌, ℕ, List, [], ◌++◌, map, Option, option_map, refl}
use Rattle.std.specs.List.{flat_map}
use Rattle.pearl_tree.specs.declared.name.Name.{Name}
use Rattle.pearl_tree.specs.declared.format.Fmt.{Fmt}
use Rattle.pearl_tree.specs.declared.expression.Expr.{Expr}
use Rattle.pearl_tree.specs.declared.statement.BodyDecl.{BodyDecl}
use Rattle.pearl_tree.specs.declared.statement.Stmt.{Stmt, Empty, Assign, Call, If', Case', Repeat', Exit, Begin', Return, Activate, Continue, Resume, OnTask, OnSemas, OnInterrupt, Put, Get, Send, Take, Row_of-Stmt, end_of-Stmt, more_of-Stmt}
use Rattle.pearl_tree.specs.declared.statement.If as if_
use Rattle.pearl_tree.specs.declared.statement.If.{Held-Case-otherwise, None', Some'}
use Rattle.pearl_tree.specs.declared.statement.Case as case_
use Rattle.pearl_tree.specs.declared.statement.Case.{Row_of-Branch, end_of-Branch, more_of-Branch}
use Rattle.pearl_tree.specs.declared.token.What.{What}
use Rattle.pearl_tree.specs.Statements.{task_word, sema_word, interrupt_word}
use Rattle.pearl_tree.specs.ShownExpressions.{ShownExpr, shown_expr, shown_ref}
use Rattle.pearl_tree.specs.ShownDeclarations.{shown_item}
use Rattle.pearl_tree.specs.ShownStatements.{shown_start, shown_once, ShownBodyDecl, shown_body_decl, ShownStmt, OfEmpty, OfAssign, OfCall, OfIf, OfCase, OfRepeat, OfExit, OfBegin, OfReturn, OfActivate, OfContinue, OfResume, OfOnTask, OfOnSemas, OfOnInterrupt, OfPut, OfGet, OfSend, OfTake, ShownStmts, NoStmts, MoreStmts, ShownBranches, NoBranches, MoreBranches, ShownOtherwise, NoOtherwise, OfOtherwise, shown_stmt, shown_stmts, shown_branches, shown_otherwise}
use Rattle.pearl_tree.specs.declared.symbol.TheConstants as s
use Rattle.pearl_tree.specs.declared.word_code.TheConstants as w
use Rattle.pearl_print.specs.Lists.{word, symbol, name_tokens, listed, maybe_bracketed, maybe}
use Rattle.pearl_print.specs.Expressions.{expr_tokens, ref_tokens}
use Rattle.pearl_print.specs.Formats.{fmt_tokens, by_tokens}
use Rattle.pearl_print.specs.Declarations.{item_tokens}
use Rattle.pearl_print.specs.Schedules.{after_tokens, start_tokens, once_tokens}
use Rattle.pearl_print.specs.Statements.{for_tokens, value_tokens, body_decl_tokens, loop_tokens, stmt_tokens, stmts_tokens, alternatives_tokens, otherwise_tokens}
use Rattle.pearl_print.proofs.ShownLists.{each_same, listed_same, maybe_bracketed_same, maybe_same}
use Rattle.pearl_print.proofs.ShownExpressions.{said_expr, expr_same, said_ref, ref_same}
use Rattle.pearl_print.proofs.ShownDeclarations.{said_item, item_same}
use Rattle.pearl_print.proofs.ShownSchedules.{said_after, after_same, said_start, start_same, said_once, once_same}

abbrev pub said_value : ShownExpr → List What
said_value expr = symbol s.LEFT_ROUND ++ said_expr expr ++ symbol s.RIGHT_ROUND

value_same : (expr : Expr) → said_value (shown_expr expr) ≡ value_tokens expr
value_same expr = λ i. symbol s.LEFT_ROUND ++ expr_same expr i ++ symbol s.RIGHT_ROUND

abbrev pub said_body_decl : ShownBodyDecl → List What
said_body_decl declaration = word w.DCL ++ listed said_item declaration.items ++ symbol s.SEMICOLON

pub body_decl_same : (declaration : BodyDecl) → said_body_decl (shown_body_decl declaration) ≡ body_decl_tokens declaration
body_decl_same declaration =
    λ i. word w.DCL ++ listed_same shown_item said_item item_tokens item_same declaration.items.items.items i ++ symbol s.SEMICOLON

maybe_after_same : (code : ℕ) (part : Option Expr) → maybe (said_after code) (option_map shown_expr part) ≡ maybe (after_tokens code) part
maybe_after_same code part = maybe_same shown_expr (said_after code) (after_tokens code) (after_same code) part

abbrev pub said_loop : Option Name → Option ShownExpr → Option ShownExpr → Option ShownExpr → Option ShownExpr → List What
said_loop control begin step end condition =
    maybe for_tokens control ++ maybe (said_after w.FROM) begin ++ maybe (said_after w.BY) step ++
    maybe (said_after w.TO) end ++ maybe (said_after w.WHILE) condition

loop_same : (control : Option Name) (begin step end condition : Option Expr) →
    said_loop control (option_map shown_expr begin) (option_map shown_expr step) (option_map shown_expr end) (option_map shown_expr condition) ≡
    loop_tokens control begin step end condition
loop_same control begin step end condition =
    λ i. maybe for_tokens control ++ maybe_after_same w.FROM begin i ++ maybe_after_same w.BY step i ++
    maybe_after_same w.TO end i ++ maybe_after_same w.WHILE condition i

abbrev pub said_by : Name → List Fmt → List What
said_by name formats = name_tokens name ++ word w.BY ++ listed fmt_tokens formats ++ symbol s.SEMICOLON

abbrev mutual
  pub said_stmt : ShownStmt → List What
  said_stmt (OfEmpty place) = symbol s.SEMICOLON
  said_stmt (OfAssign target value place) = said_ref target ++ symbol s.BECOMES ++ said_expr value ++ symbol s.SEMICOLON
  said_stmt (OfCall call name arguments place) =
      word w.CALL ++ name_tokens name ++ maybe_bracketed said_expr arguments ++ symbol s.SEMICOLON
  said_stmt (OfIf condition statements otherwise place) =
      said_after w.IF condition ++ word w.THEN ++ said_stmts statements ++ said_otherwise w.ELSE otherwise ++
      (word w.FIN ++ symbol s.SEMICOLON)
  said_stmt (OfCase selector alternatives otherwise place) =
      said_after w.CASE selector ++ said_alternatives alternatives ++ said_otherwise w.OUT otherwise ++
      (word w.FIN ++ symbol s.SEMICOLON)
  said_stmt (OfRepeat control begin step end condition declarations statements body_place place) =
      said_loop control begin step end condition ++
      (word w.REPEAT ++ (flat_map said_body_decl declarations ++ said_stmts statements) ++
      (word w.END ++ symbol s.SEMICOLON))
  said_stmt (OfExit place) = word w.EXIT ++ symbol s.SEMICOLON
  said_stmt (OfBegin declarations statements body_place place) =
      word w.BEGIN ++ (flat_map said_body_decl declarations ++ said_stmts statements) ++
      (word w.END ++ symbol s.SEMICOLON)
  said_stmt (OfReturn value place) = word w.RETURN ++ maybe said_value value ++ symbol s.SEMICOLON
  said_stmt (OfActivate start task priority place) =
      maybe said_start start ++ word w.ACTIVATE ++ name_tokens task ++ maybe (said_after w.PRIO) priority ++
      symbol s.SEMICOLON
  said_stmt (OfContinue once task place) =
      maybe said_once once ++ word w.CONTINUE ++ name_tokens task ++ symbol s.SEMICOLON
  said_stmt (OfResume once place) = said_once once ++ word w.RESUME ++ symbol s.SEMICOLON
  said_stmt (OfOnTask code task place) = word (task_word code) ++ maybe name_tokens task ++ symbol s.SEMICOLON
  said_stmt (OfOnSemas code names place) = word (sema_word code) ++ listed name_tokens names ++ symbol s.SEMICOLON
  said_stmt (OfOnInterrupt code name place) = word (interrupt_word code) ++ name_tokens name ++ symbol s.SEMICOLON
  said_stmt (OfPut values dation formats place) =
      word w.PUT ++ listed said_expr values ++ word w.TO ++ said_by dation formats
  said_stmt (OfGet targets dation formats place) =
      word w.GET ++ listed said_ref targets ++ word w.FROM ++ said_by dation formats
  said_stmt (OfSend value dation place) =
      said_after w.SEND value ++ word w.TO ++ name_tokens dation ++ symbol s.SEMICOLON
  said_stmt (OfTake target dation place) =
      word w.TAKE ++ said_ref target ++ word w.FROM ++ name_tokens dation ++ symbol s.SEMICOLON

  pub said_stmts : ShownStmts → List What
  said_stmts NoStmts = []
  said_stmts (MoreStmts statement rest) = said_stmt statement ++ said_stmts rest

  pub said_alternatives : ShownBranches → List What
  said_alternatives NoBranches = []
  said_alternatives (MoreBranches statements place rest) = (word w.ALT ++ said_stmts statements) ++ said_alternatives rest

  pub said_otherwise : ℕ → ShownOtherwise → List What
  said_otherwise code NoOtherwise = []
  said_otherwise code (OfOtherwise statements place) = word code ++ said_stmts statements

body_decls_same : (declarations : List BodyDecl) → flat_map said_body_decl (map shown_body_decl declarations) ≡ flat_map body_decl_tokens declarations
body_decls_same declarations = each_same shown_body_decl said_body_decl body_decl_tokens body_decl_same declarations

mutual
  pub stmt_same : (statement : Stmt) → said_stmt (shown_stmt statement) ≡ stmt_tokens statement
  stmt_same (Empty place) = refl
  stmt_same (Assign part) = λ i. ref_same part.value.target i ++ symbol s.BECOMES ++ expr_same part.value.value i ++ symbol s.SEMICOLON
  stmt_same (Call part) =
      λ i. word w.CALL ++ name_tokens part.value.name ++
      maybe_bracketed_same shown_expr said_expr expr_tokens expr_same part.value.arguments.items.items i ++ symbol s.SEMICOLON
  stmt_same (If' _ (if_.If' condition _ statements otherwise place)) =
      λ i. after_same w.IF condition i ++ word w.THEN ++ stmts_same _ statements i ++ otherwise_same w.ELSE otherwise i ++
      (word w.FIN ++ symbol s.SEMICOLON)
  stmt_same (Case' _ (case_.Case' selector _ alternatives otherwise place)) =
      λ i. after_same w.CASE selector i ++ alternatives_same _ alternatives i ++ otherwise_same w.OUT otherwise i ++
      (word w.FIN ++ symbol s.SEMICOLON)
  stmt_same (Repeat' _ control begin step end condition declarations _ statements body_place place) =
      λ i. loop_same control begin step end condition i ++
      (word w.REPEAT ++ (body_decls_same declarations.items.items i ++ stmts_same _ statements i) ++
      (word w.END ++ symbol s.SEMICOLON))
  stmt_same (Exit place) = refl
  stmt_same (Begin' _ declarations _ statements body_place place) =
      λ i. word w.BEGIN ++ (body_decls_same declarations.items.items i ++ stmts_same _ statements i) ++
      (word w.END ++ symbol s.SEMICOLON)
  stmt_same (Return part) =
      λ i. word w.RETURN ++ maybe_same shown_expr said_value value_tokens value_same part.value.value i ++ symbol s.SEMICOLON
  stmt_same (Activate part) =
      λ i. maybe_same shown_start said_start start_tokens start_same part.value.start i ++ word w.ACTIVATE ++ name_tokens part.value.task ++
      maybe_after_same w.PRIO part.value.priority i ++ symbol s.SEMICOLON
  stmt_same (Continue part) =
      λ i. maybe_same shown_once said_once once_tokens once_same part.value.once i ++ word w.CONTINUE ++ name_tokens part.value.task ++ symbol s.SEMICOLON
  stmt_same (Resume part) = λ i. once_same part.value.once i ++ word w.RESUME ++ symbol s.SEMICOLON
  stmt_same (OnTask part) = refl
  stmt_same (OnSemas part) = refl
  stmt_same (OnInterrupt part) = refl
  stmt_same (Put part) =
      λ i. word w.PUT ++ listed_same shown_expr said_expr expr_tokens expr_same part.value.values.items.items i ++ word w.TO ++ by_tokens part.value.dation part.value.formats
  stmt_same (Get part) =
      λ i. word w.GET ++ listed_same shown_ref said_ref ref_tokens ref_same part.value.targets.items.items i ++ word w.FROM ++ by_tokens part.value.dation part.value.formats
  stmt_same (Send part) = λ i. after_same w.SEND part.value.value i ++ word w.TO ++ name_tokens part.value.dation ++ symbol s.SEMICOLON
  stmt_same (Take part) =
      λ i. word w.TAKE ++ ref_same part.value.target i ++ word w.FROM ++ name_tokens part.value.dation ++ symbol s.SEMICOLON

  stmts_same : (n : _) (row : Row_of-Stmt n) → said_stmts (shown_stmts row) ≡ stmts_tokens row
  stmts_same _ end_of-Stmt = refl
  stmts_same _ (more_of-Stmt statement rest) = λ i. stmt_same statement i ++ stmts_same _ rest i

  alternatives_same : (n : _) (row : Row_of-Branch n) → said_alternatives (shown_branches row) ≡ alternatives_tokens row
  alternatives_same _ end_of-Branch = refl
  alternatives_same _ (more_of-Branch _ statements place rest) =
      λ i. (word w.ALT ++ stmts_same _ statements i) ++ alternatives_same _ rest i

  otherwise_same : (code : ℕ) (otherwise : Held-Case-otherwise) → said_otherwise code (shown_otherwise otherwise) ≡ otherwise_tokens code otherwise
  otherwise_same code None' = refl
  otherwise_same code (Some' _ statements place) = λ i. word code ++ stmts_same _ statements i
