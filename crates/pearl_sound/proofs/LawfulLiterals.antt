-- In a lawful tree the literals of all that its statements ask for are values.
use Rattle.std.specs.Prelude.{ℕ, ◌+◌, ◌-◌, true, false, List, [], ◌∷◌, ◌++◌, map, All, Option, Some, None, option_map, IfSome}
use Rattle.std.specs.List.{AllByRecursion}
use Rattle.std.proofs.lemmas.List.Elements.{All-head, All-tail}
use Rattle.pearl_tree.specs.declared.name.Name.{Name}
use Rattle.pearl_tree.specs.declared.expression.Expr.{Expr, Operand', Dyadic'}
use Rattle.pearl_tree.specs.declared.expression.Primary.{Primary}
use Rattle.pearl_tree.specs.declared.expression.Primary as primary
use Rattle.pearl_tree.specs.declared.expression.Selector.{Selector, Subscripts', Component, Row_of-Expr, end_of-Expr, more_of-Expr}
use Rattle.pearl_tree.specs.declared.expression.Ref.{Ref, Row_of-Selector, end_of-Selector, more_of-Selector}
use Rattle.pearl_tree.specs.declared.limit.TheConstants as limit
use Rattle.pearl_tree.specs.declared.statement.PeriodEnd.{PeriodEnd}
use Rattle.pearl_tree.specs.declared.statement.PeriodEnd.TheVariants.{Until, During}
use Rattle.pearl_tree.specs.declared.statement.Period.{Period}
use Rattle.pearl_tree.specs.declared.statement.Start.{Start}
use Rattle.pearl_tree.specs.declared.statement.Start.TheVariants as start
use Rattle.pearl_tree.specs.declared.statement.Once.{Once}
use Rattle.pearl_tree.specs.declared.statement.Once.TheVariants as once
use Rattle.pearl_tree.specs.declared.statement.Stmt.{Stmt, Empty, Assign, Call, If', Case', Repeat', Exit, Begin', Return, Activate, Continue, Resume, OnTask, OnSemas, OnInterrupt, Put, Get, Send, Take, Row_of-Stmt, end_of-Stmt, more_of-Stmt}
use Rattle.pearl_tree.specs.declared.statement.If as if_
use Rattle.pearl_tree.specs.declared.statement.If.{Held-Case-otherwise, None', Some'}
use Rattle.pearl_tree.specs.declared.statement.Case as case_
use Rattle.pearl_tree.specs.declared.statement.Case.{Row_of-Branch, end_of-Branch, more_of-Branch}
use Rattle.pearl_tree.specs.declared.statement.Body.{Body}
use Rattle.pearl_tree.specs.declared.tree.Decl.{Decl}
use Rattle.pearl_tree.specs.declared.tree.Decl.TheVariants as decl
use Rattle.pearl_tree.specs.declared.tree.Tree.{Tree}
use Rattle.pearl_tree.specs.Lawful.{HasLawfulTerms, IsLawfulPrimary, AreLawfulSelectors, IsLawfulSelector, AreLawfulSubscripts, IsLawfulExpr, IsLawfulRef, IsLawfulPeriodEnd, IsLawfulPeriod, IsLawfulStart, IsLawfulOnce, IsLawfulStmt, AreLawfulStmts, AreLawfulBranches, IsLawfulOtherwise, IsLawfulBody, IsLawfulDecl, IsLawful}
use Rattle.pearl_tree.specs.ShownExpressions.{shown_expr, shown_primary, shown_selectors, shown_selector, shown_exprs, shown_selector_list}
use Rattle.pearl_tree.specs.ShownStatements.{shown_period_end, shown_period, shown_start, shown_once, shown_stmt, shown_stmts, shown_branches, shown_otherwise}
use Rattle.pearl_tree.specs.ShownExpressions.{shown_ref}
use Rattle.pearl_tree.specs.ShownModules.{ShownDecl, shown_body, shown_decl, shown_tree}
use Rattle.pearl_names.specs.declared.length.DefaultLength.{DefaultLength}
use Rattle.pearl_names.specs.Lengths.{lengths_set}
use Rattle.pearl_names.specs.Scopes.{as_stmts, scopes_in, scopes_in_all, scopes_in_branches, scopes_in_decl}
use Rattle.pearl_names.specs.Tables.{table_of}
use Rattle.pearl_scope.specs.declared.places.Spot.{Spot}
use Rattle.pearl_scope.specs.Placed.{Placed, placed_stmt, placed_all, placed_branches, placed_otherwise, placed_body}
use Rattle.pearl_check_expr.specs.Subjects.{OfWhile}
use Rattle.pearl_check.specs.declared.asked.Role.{Role}
use Rattle.pearl_check.specs.declared.asked.Role.TheVariants.{Plain, Condition, Count, Lapse, Priority}
use Rattle.pearl_check.specs.declared.asked.NameRole.TheVariants as name_role
use Rattle.pearl_check.specs.Asked as asking
use Rattle.pearl_check.specs.Asked.{Asked, Subject, Named, asked_at}
use Rattle.pearl_check.specs.Routines.{Routine, decl_routines, decls_routines, routines_of, statements_of}
use Rattle.pearl_sound.specs.KnownParts.{AskedLiterals}
use Rattle.pearl_sound.specs.SoundNames.{HasLiterals, PrimaryHasLiterals, SelectorsHaveLiterals, SelectorHasLiterals, HaveLiterals}
use Rattle.pearl_sound.proofs.Literals.{literals}
use Rattle.pearl_sound.proofs.SoundForms.{all_append}

module _ (declarations : List ShownDecl) where
  abbrev lengths : List DefaultLength
  lengths = lengths_set declarations

  mutual
    expr_literals : (depth : ℕ) (expr : Expr) → HasLawfulTerms depth expr → HasLiterals lengths (shown_expr expr)
    expr_literals depth (Operand' monadics part place) h = primary_literals depth part h.1
    expr_literals depth (Dyadic' _ left dyadic _ right place) h = (expr_literals depth left h.0, expr_literals depth right h.1)

    primary_literals : (depth : ℕ) (part : Primary) → IsLawfulPrimary depth part → PrimaryHasLiterals lengths (shown_primary part)
    primary_literals depth (primary.Literal part) h = literals declarations part h
    primary_literals depth (primary.Ref' name _ selectors place) h = selectors_literals depth _ selectors h.1
    primary_literals depth (primary.Group' _ inner place) h = expr_literals (depth - 1) inner h.1.0
    primary_literals depth (primary.Limit' dimension side _ name _ selectors ref_place place) h =
        selectors_literals depth _ selectors h.1.1
    primary_literals depth other h = tt

    selectors_literals : (depth : ℕ) (n : _) (row : Row_of-Selector n) → AreLawfulSelectors depth row →
        SelectorsHaveLiterals lengths (shown_selectors row)
    selectors_literals depth _ end_of-Selector h = tt
    selectors_literals depth _ (more_of-Selector selector rest) h =
        (selector_literals depth selector h.0, selectors_literals depth _ rest h.1)

    selector_literals : (depth : ℕ) (selector : Selector) → IsLawfulSelector depth selector →
        SelectorHasLiterals lengths (shown_selector selector)
    selector_literals depth (Subscripts' _ subscripts place) h = subscripts_literals (depth - 1) _ subscripts h.1
    selector_literals depth (Component name place) h = tt

    subscripts_literals : (depth : ℕ) (n : _) (row : Row_of-Expr n) → AreLawfulSubscripts depth row →
        HaveLiterals lengths (shown_exprs row)
    subscripts_literals depth _ end_of-Expr h = tt
    subscripts_literals depth _ (more_of-Expr expr rest) h = (expr_literals depth expr h.0.0, subscripts_literals depth _ rest h.1)

  whole_literals : (expr : Expr) → IsLawfulExpr expr → HasLiterals lengths (shown_expr expr)
  whole_literals expr h = expr_literals limit.BRACKETS_MAX expr h.0

  arguments_literals : (exprs : List Expr) → All IsLawfulExpr exprs → HaveLiterals lengths (asking.as_exprs (map shown_expr exprs))
  arguments_literals [] h = tt
  arguments_literals (expr ∷ rest) h =
      (whole_literals expr (All-head IsLawfulExpr expr rest h), arguments_literals rest (All-tail IsLawfulExpr expr rest h))

  list_literals : (selectors : List Selector) → All (IsLawfulSelector limit.OWN_BRACKETS_MAX) selectors →
      SelectorsHaveLiterals lengths (shown_selector_list selectors)
  list_literals [] h = tt
  list_literals (selector ∷ rest) h = (
    selector_literals limit.OWN_BRACKETS_MAX selector (All-head (IsLawfulSelector limit.OWN_BRACKETS_MAX) selector rest h),
    list_literals rest (All-tail (IsLawfulSelector limit.OWN_BRACKETS_MAX) selector rest h),
  )

  abbrev AreValues : List Asked → Type 0
  AreValues asked = AllByRecursion (AskedLiterals lengths) asked

  if_literals : (role : Role) (scope : ℕ) (expr : Option Expr) → IfSome expr IsLawfulExpr →
      AreValues (asking.value_if role scope (option_map shown_expr expr))
  if_literals role scope None h = tt
  if_literals role scope (Some expr) h = (whole_literals expr h, tt)

  while_literals : (scope : ℕ) (expr : Option Expr) → IfSome expr IsLawfulExpr →
      AreValues (asking.if_there (λ expr. Subject Condition scope (OfWhile expr) ∷ []) (option_map shown_expr expr))
  while_literals scope None h = tt
  while_literals scope (Some expr) h = (whole_literals expr h, tt)

  ref_literals : (reference : Ref) → IsLawfulRef reference → SelectorsHaveLiterals lengths (shown_ref reference).selectors
  ref_literals reference h = list_literals reference.selectors.items.items h.1

  values_literals : (scope : ℕ) (exprs : List Expr) → All IsLawfulExpr exprs → AreValues (map (asking.value Plain scope) (map shown_expr exprs))
  values_literals scope [] h = tt
  values_literals scope (expr ∷ rest) h =
      (whole_literals expr (All-head IsLawfulExpr expr rest h), values_literals scope rest (All-tail IsLawfulExpr expr rest h))

  targets_literals : (scope : ℕ) (targets : List Ref) → All IsLawfulRef targets → AreValues (map (asking.target scope) (map shown_ref targets))
  targets_literals scope [] h = tt
  targets_literals scope (target ∷ rest) h =
      (ref_literals target (All-head IsLawfulRef target rest h), targets_literals scope rest (All-tail IsLawfulRef target rest h))

  names_literals : (scope : ℕ) (names : List Name) → AreValues (map (Named name_role.Semaphore scope) names)
  names_literals scope [] = tt
  names_literals scope (name ∷ rest) = (tt, names_literals scope rest)

  end_literals : (scope : ℕ) (end : Option PeriodEnd) → IfSome end IsLawfulPeriodEnd →
      AreValues (asking.if_there (asking.period_end_asked scope) (option_map shown_period_end end))
  end_literals scope None h = tt
  end_literals scope (Some (Until time place)) h = (whole_literals time h, tt)
  end_literals scope (Some (During duration place)) h = (whole_literals duration h, tt)

  period_literals : (scope : ℕ) (period : Period) → IsLawfulPeriod period → AreValues (asking.period_asked scope (shown_period period))
  period_literals scope period h = (whole_literals period.duration h.0, end_literals scope period.end h.1)

  if_period : (scope : ℕ) (period : Option Period) → IfSome period IsLawfulPeriod →
      AreValues (asking.if_there (asking.period_asked scope) (option_map shown_period period))
  if_period scope None h = tt
  if_period scope (Some period) h = period_literals scope period h

  start_literals : (scope : ℕ) (begin : Start) → IsLawfulStart begin → AreValues (asking.start_asked scope (shown_start begin))
  start_literals scope (start.At time period place) h = (whole_literals time h.0, if_period scope period h.1)
  start_literals scope (start.After duration period place) h = (whole_literals duration h.0, if_period scope period h.1)
  start_literals scope (start.When interrupt after period place) h = (
    tt,
    all_append (AskedLiterals lengths) (asking.value_if Lapse scope (option_map shown_expr after))
        (asking.if_there (asking.period_asked scope) (option_map shown_period period)) (if_literals Lapse scope after h.1) (if_period scope period h.2),
  )
  start_literals scope (start.All period) h = period_literals scope period h

  if_start : (scope : ℕ) (begin : Option Start) → IfSome begin IsLawfulStart →
      AreValues (asking.if_there (asking.start_asked scope) (option_map shown_start begin))
  if_start scope None h = tt
  if_start scope (Some begin) h = start_literals scope begin h

  once_literals : (scope : ℕ) (part : Once) → IsLawfulOnce part → AreValues (asking.once_asked scope (shown_once part))
  once_literals scope (once.At time place) h = (whole_literals time h, tt)
  once_literals scope (once.After duration place) h = (whole_literals duration h, tt)
  once_literals scope (once.When interrupt place) h = (tt, tt)

  if_once : (scope : ℕ) (part : Option Once) → IfSome part IsLawfulOnce →
      AreValues (asking.if_there (asking.once_asked scope) (option_map shown_once part))
  if_once scope None h = tt
  if_once scope (Some part) h = once_literals scope part h

  task_literals : (scope : ℕ) (task : Option Name) → AreValues (asking.if_there (λ name. Named name_role.Task scope name ∷ []) task)
  task_literals scope None = tt
  task_literals scope (Some name) = (tt, tt)

  abbrev HasItsValues : Placed → Type 0
  HasItsValues place = AreValues (asked_at place)

  abbrev AllValues : List Placed → Type 0
  AllValues places = AllByRecursion HasItsValues places

  mutual
    stmt_literals : (depth : ℕ) (spot : Spot) (next : ℕ) (statement : Stmt) → IsLawfulStmt depth statement →
        AllValues (placed_stmt spot next (shown_stmt statement))
    stmt_literals depth spot next (Empty place) h = (tt, tt)
    stmt_literals depth spot next (Assign part) h =
        ((ref_literals part.value.target h.0, (whole_literals part.value.value h.1, tt)), tt)
    stmt_literals depth spot next (Call part) h = ((arguments_literals part.value.arguments.items.items h.1, tt), tt)
    stmt_literals depth spot next (If' _ (if_.If' condition _ statements otherwise place)) h = (
      (whole_literals condition h.1, tt),
      all_append HasItsValues (placed_all spot next (shown_stmts statements))
          (placed_otherwise spot (next + scopes_in_all (shown_stmts statements)) (shown_otherwise otherwise))
          (stmts_literals (depth - 1) spot next _ statements h.2)
          (otherwise_literals (depth - 1) spot (next + scopes_in_all (shown_stmts statements)) otherwise h.3),
    )
    stmt_literals depth spot next (Case' _ (case_.Case' selector _ alternatives otherwise place)) h = (
      (whole_literals selector h.1, tt),
      all_append HasItsValues (placed_branches spot next (shown_branches alternatives))
          (placed_otherwise spot (next + scopes_in_branches (shown_branches alternatives)) (shown_otherwise otherwise))
          (branches_literals (depth - 1) spot next _ alternatives h.2)
          (otherwise_literals (depth - 1) spot (next + scopes_in_branches (shown_branches alternatives)) otherwise h.3),
    )
    stmt_literals depth spot next (Repeat' _ control begin step end condition declarations _ statements body_place place) h =
        let P = AskedLiterals lengths in
        let scope = spot.scope in
        let whiles = asking.if_there (λ expr. Subject Condition next (OfWhile expr) ∷ []) (option_map shown_expr condition) in
        let ends = asking.value_if Count scope (option_map shown_expr end) in
        let steps = asking.value_if Count scope (option_map shown_expr step) in
        let begins = asking.value_if Count scope (option_map shown_expr begin) in (
          all_append P begins (steps ++ (ends ++ whiles)) (if_literals Count scope begin h.2)
              (all_append P steps (ends ++ whiles) (if_literals Count scope step h.3)
              (all_append P ends whiles (if_literals Count scope end h.4) (while_literals next condition h.5))),
          stmts_literals (depth - 1) (record { scope = next; in_loop = true }) (next + 1) _ statements h.6.1,
        )
    stmt_literals depth spot next (Exit place) h = (tt, tt)
    stmt_literals depth spot next (Begin' _ declarations _ statements body_place place) h =
        (tt, stmts_literals (depth - 1) (record { scope = next; in_loop = spot.in_loop }) (next + 1) _ statements h.1.1)
    stmt_literals depth spot next (Return part) h = (if_literals Plain spot.scope part.value.value h, tt)
    stmt_literals depth spot next (Activate part) h =
        let named = Named name_role.Task spot.scope part.value.task in
        let priority = asking.value_if Priority spot.scope (option_map shown_expr part.value.priority) in (
          all_append (AskedLiterals lengths) (asking.if_there (asking.start_asked spot.scope) (option_map shown_start part.value.start))
              (named ∷ priority) (if_start spot.scope part.value.start h.0) (tt, if_literals Priority spot.scope part.value.priority h.2),
          tt,
        )
    stmt_literals depth spot next (Continue part) h = (
      all_append (AskedLiterals lengths) (asking.if_there (asking.once_asked spot.scope) (option_map shown_once part.value.once))
          (Named name_role.Task spot.scope part.value.task ∷ []) (if_once spot.scope part.value.once h.0) (tt, tt),
      tt,
    )
    stmt_literals depth spot next (Resume part) h = (once_literals spot.scope part.value.once h, tt)
    stmt_literals depth spot next (OnTask part) h = (task_literals spot.scope part.value.task, tt)
    stmt_literals depth spot next (OnSemas part) h = (names_literals spot.scope part.value.names.items.items, tt)
    stmt_literals depth spot next (OnInterrupt part) h = ((tt, tt), tt)
    stmt_literals depth spot next (Put part) h = (
      all_append (AskedLiterals lengths) (map (asking.value Plain spot.scope) (map shown_expr part.value.values.items.items))
          (Named name_role.Dation spot.scope part.value.dation ∷ []) (values_literals spot.scope part.value.values.items.items h.0) (tt, tt),
      tt,
    )
    stmt_literals depth spot next (Get part) h = (
      all_append (AskedLiterals lengths) (map (asking.target spot.scope) (map shown_ref part.value.targets.items.items))
          (Named name_role.Dation spot.scope part.value.dation ∷ []) (targets_literals spot.scope part.value.targets.items.items h.0) (tt, tt),
      tt,
    )
    stmt_literals depth spot next (Send part) h = ((whole_literals part.value.value h.0, (tt, tt)), tt)
    stmt_literals depth spot next (Take part) h = ((ref_literals part.value.target h.0, (tt, tt)), tt)

    stmts_literals : (depth : ℕ) (spot : Spot) (next : ℕ) (n : _) (row : Row_of-Stmt n) → AreLawfulStmts depth row →
        AllValues (placed_all spot next (shown_stmts row))
    stmts_literals depth spot next _ end_of-Stmt h = tt
    stmts_literals depth spot next _ (more_of-Stmt statement rest) h =
        let past = next + scopes_in (shown_stmt statement) in
        all_append HasItsValues (placed_stmt spot next (shown_stmt statement)) (placed_all spot past (shown_stmts rest))
        (stmt_literals depth spot next statement h.0) (stmts_literals depth spot past _ rest h.1)

    branches_literals : (depth : ℕ) (spot : Spot) (next : ℕ) (n : _) (row : Row_of-Branch n) → AreLawfulBranches depth row →
        AllValues (placed_branches spot next (shown_branches row))
    branches_literals depth spot next _ end_of-Branch h = tt
    branches_literals depth spot next _ (more_of-Branch _ statements place rest) h =
        let past = next + scopes_in_all (shown_stmts statements) in
        all_append HasItsValues (placed_all spot next (shown_stmts statements)) (placed_branches spot past (shown_branches rest))
        (stmts_literals depth spot next _ statements h.0) (branches_literals depth spot past _ rest h.1)

    otherwise_literals : (depth : ℕ) (spot : Spot) (next : ℕ) (otherwise : Held-Case-otherwise) → IsLawfulOtherwise depth otherwise →
        AllValues (placed_otherwise spot next (shown_otherwise otherwise))
    otherwise_literals depth spot next None' h = tt
    otherwise_literals depth spot next (Some' _ statements place) h = stmts_literals depth spot next _ statements h

  own_literals : (spot : Spot) (next : ℕ) (statements : List Stmt) → All (IsLawfulStmt limit.NESTED_MAX) statements →
      AllValues (placed_all spot next (as_stmts (map shown_stmt statements)))
  own_literals spot next [] h = tt
  own_literals spot next (statement ∷ rest) h =
      let past = next + scopes_in (shown_stmt statement) in
      all_append HasItsValues (placed_stmt spot next (shown_stmt statement)) (placed_all spot past (as_stmts (map shown_stmt rest)))
      (stmt_literals limit.NESTED_MAX spot next statement (All-head (IsLawfulStmt limit.NESTED_MAX) statement rest h))
      (own_literals spot past rest (All-tail (IsLawfulStmt limit.NESTED_MAX) statement rest h))

  abbrev HasValues : Routine → Type 0
  HasValues routine = AllValues (statements_of routine)

  body_literals : (next : ℕ) (body : Body) → IsLawfulBody body → AllValues (placed_body next (as_stmts (shown_body body).statements))
  body_literals next body h = own_literals (record { scope = next; in_loop = false }) (next + 1) body.statements.items.items h.1

  decl_literals : (next : ℕ) (part : Decl) → IsLawfulDecl part → AllByRecursion HasValues (decl_routines next (shown_decl part))
  decl_literals next (decl.Task name head body place) h = (body_literals next body h.2, tt)
  decl_literals next (decl.Proc name params returns body place) h = (body_literals next body h.3, tt)
  decl_literals next part h = tt

  decls_literals : (next : ℕ) (parts : List Decl) → All IsLawfulDecl parts →
      AllByRecursion HasValues (decls_routines next (map shown_decl parts))
  decls_literals next [] h = tt
  decls_literals next (part ∷ rest) h =
      let past = next + scopes_in_decl (shown_decl part) in
      all_append HasValues (decl_routines next (shown_decl part)) (decls_routines past (map shown_decl rest))
      (decl_literals next part (All-head IsLawfulDecl part rest h)) (decls_literals past rest (All-tail IsLawfulDecl part rest h))

pub statements_literals : (tree : Tree) → IsLawful tree →
    AllByRecursion (λ (routine : Routine).
    AllByRecursion (λ place. AllByRecursion (AskedLiterals (table_of (shown_tree tree)).lengths) (asked_at place)) (statements_of routine))
    (routines_of (shown_tree tree))
statements_literals tree lawful = decls_literals (shown_tree tree).declarations 1 tree.declarations.items.items lawful.declarations
