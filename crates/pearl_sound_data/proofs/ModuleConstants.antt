-- In a lawful tree that keeps the rules on names and types all constants of INIT are values.
use Rattle.std.specs.Prelude.{◌≡◌, ℕ, ◌+◌, true, not, List, [], ◌∷◌, ◌++◌, map, All, option_map}
use Rattle.std.specs.List.{AllByRecursion, flat_map}
use Rattle.std.proofs.Common.{refl, ap}
use Rattle.std.proofs.lemmas.List.Elements.{All-head, All-tail}
use Rattle.pearl_tree.specs.declared.rule.TheConstants as rule
use Rattle.pearl_tree.specs.declared.limit.TheConstants as limit
use Rattle.pearl_tree.specs.declared.literal.Literal.{Literal}
use Rattle.pearl_tree.specs.declared.literal.Literal.TheVariants as literal
use Rattle.pearl_tree.specs.declared.literal.Const.{Const}
use Rattle.pearl_tree.specs.declared.declaration.Item.{Item}
use Rattle.pearl_tree.specs.declared.declaration.Declared.{Declared}
use Rattle.pearl_tree.specs.declared.declaration.Declared.TheVariants as declared
use Rattle.pearl_tree.specs.declared.statement.BodyDecl.{BodyDecl}
use Rattle.pearl_tree.specs.declared.statement.Stmt.{Stmt, If', Case', Repeat', Begin', Row_of-Stmt, end_of-Stmt, more_of-Stmt}
use Rattle.pearl_tree.specs.declared.statement.If as if_
use Rattle.pearl_tree.specs.declared.statement.If.{Held-Case-otherwise, None', Some'}
use Rattle.pearl_tree.specs.declared.statement.Case as case_
use Rattle.pearl_tree.specs.declared.statement.Case.{Row_of-Branch, end_of-Branch, more_of-Branch}
use Rattle.pearl_tree.specs.declared.statement.Body.{Body}
use Rattle.pearl_tree.specs.declared.tree.Decl.{Decl}
use Rattle.pearl_tree.specs.declared.tree.Decl.TheVariants as decl
use Rattle.pearl_tree.specs.declared.tree.Tree.{Tree}
use Rattle.pearl_tree.specs.Lawful.{IsLawfulLiteral, IsLawfulConst, IsLawfulItem, IsLawfulDeclared, IsLawfulBodyDecl, IsLawfulStmt, AreLawfulStmts, AreLawfulBranches, IsLawfulOtherwise, IsLawfulBody, IsLawfulDecl, IsLawful}
use Rattle.pearl_tree.specs.ShownLiterals.{shown_literal, shown_const}
use Rattle.pearl_tree.specs.ShownExpressions.{shown_expr}
use Rattle.pearl_tree.specs.ShownDeclarations.{shown_item, shown_declared, shown_param}
use Rattle.pearl_tree.specs.ShownStatements.{shown_body_decl, shown_stmt, shown_stmts, shown_branches, shown_otherwise}
use Rattle.pearl_tree.specs.ShownModules.{shown_body, shown_decl, shown_tree}
use Rattle.pearl_names.specs.declared.scope.View.TheVariants.{Within}
use Rattle.pearl_names.specs.Durations.{is_too_long}
use Rattle.pearl_names.specs.Known.{Known, known_of}
use Rattle.pearl_names.specs.Scopes.{scopes_in, scopes_in_all, scopes_in_branches, scopes_in_decl, types_in, as_stmts}
use Rattle.pearl_scope.specs.Laws.{has_value}
use Rattle.pearl_scope.specs.Parts.{Bounds, expr_parts, literal_parts, typing_parts, const_parts, item_parts, body_decl_parts, loop_parts, parts_if, basic_parts, stmt_parts, all_parts, branches_parts, otherwise_parts, body_parts, declared_parts, param_parts, decl_parts, decls_parts}
use Rattle.pearl_scope.specs.Rules.{broken}
use Rattle.pearl_sound_data.specs.Constants.{IsInRange, IsConstant, ItemHasConstants, BodyDeclHasConstants, HasConstants, AllHaveConstants, BranchesHaveConstants, OtherwiseHasConstants, BodyHasConstants, DeclaredHasConstants, DeclHasConstants}
use Rattle.pearl_sound_data.proofs.Faults.{no_fault, split_all}
use Rattle.pearl_sound_data.proofs.Unbroken.{IsUnbroken, AreUnbroken, module_unbroken}

in_range : (part : Literal) → IsLawfulLiteral part → IsInRange (shown_literal part)
in_range (literal.Number number) lawful = lawful
in_range other lawful = lawful

valued : (known : Known) (part : Literal) → AreUnbroken known (literal_parts (shown_literal part)) → has_value (shown_literal part) ≡ true
valued known (literal.Duration duration) kept = ap not (no_fault (is_too_long duration.value) _ rule.S4 [] kept.0).0
valued known other kept = refl

constant_is : (known : Known) (constant : Const) → IsLawfulConst constant → AreUnbroken known (const_parts (shown_const constant)) →
    IsConstant (shown_const constant)
constant_is known constant lawful kept =
    record { lawful = in_range constant.literal lawful; valued = valued known constant.literal kept }

constants_are : (known : Known) (constants : List Const) → All IsLawfulConst constants →
    AreUnbroken known (flat_map const_parts (map shown_const constants)) → AllByRecursion IsConstant (map shown_const constants)
constants_are known [] lawful kept = tt
constants_are known (constant ∷ rest) lawful kept =
    let split = split_all (IsUnbroken known) (const_parts (shown_const constant)) (flat_map const_parts (map shown_const rest)) kept in (
      constant_is known constant (All-head IsLawfulConst constant rest lawful) split.0,
      constants_are known rest (All-tail IsLawfulConst constant rest lawful) split.1,
    )

module _ (known : Known) (types : ℕ) where
  item_has : (scope : ℕ) (item : Item) → IsLawfulItem item → AreUnbroken known (item_parts scope types (shown_item item)) →
      ItemHasConstants (shown_item item)
  item_has scope item lawful kept =
      let shown = shown_item item in
      let outer = split_all (IsUnbroken known) (map Bounds shown.bounds) (typing_parts scope types shown.part ++ flat_map const_parts shown.init) kept.1 in
      let inner = split_all (IsUnbroken known) (typing_parts scope types shown.part) (flat_map const_parts shown.init) outer.1 in
      constants_are known item.init.items.items lawful.3 inner.1

  items_have : (scope : ℕ) (items : List Item) → All IsLawfulItem items →
      AreUnbroken known (flat_map (item_parts scope types) (map shown_item items)) → AllByRecursion ItemHasConstants (map shown_item items)
  items_have scope [] lawful kept = tt
  items_have scope (item ∷ rest) lawful kept =
      let split = split_all (IsUnbroken known) (item_parts scope types (shown_item item)) (flat_map (item_parts scope types) (map shown_item rest)) kept in (
        item_has scope item (All-head IsLawfulItem item rest lawful) split.0,
        items_have scope rest (All-tail IsLawfulItem item rest lawful) split.1,
      )

  body_decls_have : (scope : ℕ) (declarations : List BodyDecl) → All IsLawfulBodyDecl declarations →
      AreUnbroken known (flat_map (body_decl_parts scope types) (map shown_body_decl declarations)) →
      AllByRecursion BodyDeclHasConstants (map shown_body_decl declarations)
  body_decls_have scope [] lawful kept = tt
  body_decls_have scope (declaration ∷ rest) lawful kept =
      let split = split_all (IsUnbroken known) (body_decl_parts scope types (shown_body_decl declaration))
      (flat_map (body_decl_parts scope types) (map shown_body_decl rest)) kept in (
        items_have scope declaration.items.items.items (All-head IsLawfulBodyDecl declaration rest lawful) split.0,
        body_decls_have scope rest (All-tail IsLawfulBodyDecl declaration rest lawful) split.1,
      )

  mutual
    stmt_has : (depth scope next : ℕ) (s : Stmt) → IsLawfulStmt depth s → AreUnbroken known (stmt_parts types scope next (shown_stmt s)) →
        HasConstants (shown_stmt s)
    stmt_has depth scope next (If' _ (if_.If' condition _ statements otherwise place)) lawful kept =
        let n = scopes_in_all (shown_stmts statements) in
        let outer = split_all (IsUnbroken known) (expr_parts (Within scope) (shown_expr condition))
        (all_parts types scope next (shown_stmts statements) ++ otherwise_parts types scope (next + n) (shown_otherwise otherwise)) kept in
        let inner = split_all (IsUnbroken known) (all_parts types scope next (shown_stmts statements))
        (otherwise_parts types scope (next + n) (shown_otherwise otherwise)) outer.1 in
        (all_have _ scope next statements lawful.2 inner.0, otherwise_has _ scope (next + n) otherwise lawful.3 inner.1)
    stmt_has depth scope next (Case' _ (case_.Case' selector _ alternatives otherwise place)) lawful kept =
        let n = scopes_in_branches (shown_branches alternatives) in
        let outer = split_all (IsUnbroken known) (expr_parts (Within scope) (shown_expr selector))
        (branches_parts types scope next (shown_branches alternatives) ++ otherwise_parts types scope (next + n) (shown_otherwise otherwise)) kept in
        let inner = split_all (IsUnbroken known) (branches_parts types scope next (shown_branches alternatives))
        (otherwise_parts types scope (next + n) (shown_otherwise otherwise)) outer.1 in
        (branches_have _ scope next alternatives lawful.2 inner.0, otherwise_has _ scope (next + n) otherwise lawful.3 inner.1)
    stmt_has depth scope next (Repeat' _ control begin step end condition declarations _ statements body_place place) lawful kept =
        let own = map shown_body_decl declarations.items.items in
        let outer = split_all (IsUnbroken known) (loop_parts scope next (option_map shown_expr begin) (option_map shown_expr step) (option_map shown_expr end) (option_map shown_expr condition))
        (flat_map (body_decl_parts next types) own ++ all_parts types next (next + 1) (shown_stmts statements)) kept in
        let inner = split_all (IsUnbroken known) (flat_map (body_decl_parts next types) own) (all_parts types next (next + 1) (shown_stmts statements)) outer.1 in
        (body_decls_have next declarations.items.items lawful.6.0 inner.0, all_have _ next (next + 1) statements lawful.6.1 inner.1)
    stmt_has depth scope next (Begin' _ declarations _ statements body_place place) lawful kept =
        let own = map shown_body_decl declarations.items.items in
        let inner = split_all (IsUnbroken known) (flat_map (body_decl_parts next types) own) (all_parts types next (next + 1) (shown_stmts statements)) kept in
        (body_decls_have next declarations.items.items lawful.1.0 inner.0, all_have _ next (next + 1) statements lawful.1.1 inner.1)
    stmt_has depth scope next statement lawful kept = tt

    all_have : {n : _} (depth scope next : ℕ) (row : Row_of-Stmt n) → AreLawfulStmts depth row →
        AreUnbroken known (all_parts types scope next (shown_stmts row)) → AllHaveConstants (shown_stmts row)
    all_have depth scope next end_of-Stmt lawful kept = tt
    all_have depth scope next (more_of-Stmt s rest) lawful kept =
        let n = scopes_in (shown_stmt s) in
        let split = split_all (IsUnbroken known) (stmt_parts types scope next (shown_stmt s)) (all_parts types scope (next + n) (shown_stmts rest)) kept in
        (stmt_has depth scope next s lawful.0 split.0, all_have depth scope (next + n) rest lawful.1 split.1)

    branches_have : {n : _} (depth scope next : ℕ) (row : Row_of-Branch n) → AreLawfulBranches depth row →
        AreUnbroken known (branches_parts types scope next (shown_branches row)) → BranchesHaveConstants (shown_branches row)
    branches_have depth scope next end_of-Branch lawful kept = tt
    branches_have depth scope next (more_of-Branch _ statements place rest) lawful kept =
        let n = scopes_in_all (shown_stmts statements) in
        let split = split_all (IsUnbroken known) (all_parts types scope next (shown_stmts statements)) (branches_parts types scope (next + n) (shown_branches rest)) kept in
        (all_have depth scope next statements lawful.0 split.0, branches_have depth scope (next + n) rest lawful.1 split.1)

    otherwise_has : (depth scope next : ℕ) (otherwise : Held-Case-otherwise) → IsLawfulOtherwise depth otherwise →
        AreUnbroken known (otherwise_parts types scope next (shown_otherwise otherwise)) → OtherwiseHasConstants (shown_otherwise otherwise)
    otherwise_has depth scope next None' lawful kept = tt
    otherwise_has depth scope next (Some' _ statements place) lawful kept = all_have depth scope next statements lawful kept

  listed_have : (scope next : ℕ) (list : List Stmt) → All (IsLawfulStmt limit.NESTED_MAX) list →
      AreUnbroken known (all_parts types scope next (as_stmts (map shown_stmt list))) → AllHaveConstants (as_stmts (map shown_stmt list))
  listed_have scope next [] lawful kept = tt
  listed_have scope next (s ∷ rest) lawful kept =
      let n = scopes_in (shown_stmt s) in
      let split = split_all (IsUnbroken known) (stmt_parts types scope next (shown_stmt s)) (all_parts types scope (next + n) (as_stmts (map shown_stmt rest))) kept in (
        stmt_has limit.NESTED_MAX scope next s (All-head (IsLawfulStmt limit.NESTED_MAX) s rest lawful) split.0,
        listed_have scope (next + n) rest (All-tail (IsLawfulStmt limit.NESTED_MAX) s rest lawful) split.1,
      )

  body_has : (next : ℕ) (body : Body) → IsLawfulBody body → AreUnbroken known (body_parts types next (shown_body body)) →
      BodyHasConstants (shown_body body)
  body_has next body lawful kept =
      let shown = shown_body body in
      let split = split_all (IsUnbroken known) (flat_map (body_decl_parts next types) shown.declarations)
      (all_parts types next (next + 1) (as_stmts shown.statements)) kept in (
        body_decls_have next body.declarations.items.items lawful.0 split.0,
        listed_have next (next + 1) body.statements.items.items lawful.1 split.1,
      )

  declared_have : (parts : List Declared) → All IsLawfulDeclared parts → AreUnbroken known (flat_map (declared_parts types) (map shown_declared parts)) →
      AllByRecursion DeclaredHasConstants (map shown_declared parts)
  declared_have [] lawful kept = tt
  declared_have (declared.Item item ∷ rest) lawful kept =
      let split = split_all (IsUnbroken known) (item_parts 0 types (shown_item item)) (flat_map (declared_parts types) (map shown_declared rest)) kept in (
        item_has 0 item (All-head IsLawfulDeclared (declared.Item item) rest lawful) split.0,
        declared_have rest (All-tail IsLawfulDeclared (declared.Item item) rest lawful) split.1,
      )
  declared_have (declared.Sema sema ∷ rest) lawful kept =
      (tt, declared_have rest (All-tail IsLawfulDeclared (declared.Sema sema) rest lawful) kept.1)

  decl_has : (next : ℕ) (part : Decl) → IsLawfulDecl part → AreUnbroken known (decl_parts types next (shown_decl part)) →
      DeclHasConstants (shown_decl part)
  decl_has next (decl.Declare parts place) lawful kept = declared_have parts.items.items lawful kept
  decl_has next (decl.Task name head body place) lawful kept = body_has next body lawful.2 kept
  decl_has next (decl.Proc name params returns body place) lawful kept =
      let outer = split_all (IsUnbroken known) (flat_map param_parts (map shown_param params.items.items))
      (parts_if basic_parts returns ++ body_parts types next (shown_body body)) kept in
      let inner = split_all (IsUnbroken known) (parts_if basic_parts returns) (body_parts types next (shown_body body)) outer.1 in
      body_has next body lawful.3 inner.1
  decl_has next part lawful kept = tt

decls_have : (known : Known) (types next : ℕ) (parts : List Decl) → All IsLawfulDecl parts →
    AreUnbroken known (decls_parts types next (map shown_decl parts)) → AllByRecursion DeclHasConstants (map shown_decl parts)
decls_have known types next [] lawful kept = tt
decls_have known types next (part ∷ rest) lawful kept =
    let past = next + scopes_in_decl (shown_decl part) in
    let more = types + types_in (shown_decl part) in
    let split = split_all (IsUnbroken known) (decl_parts types next (shown_decl part)) (decls_parts more past (map shown_decl rest)) kept in (
      decl_has known types next part (All-head IsLawfulDecl part rest lawful) split.0,
      decls_have known more past rest (All-tail IsLawfulDecl part rest lawful) split.1,
    )

pub module_constants : (tree : Tree) → IsLawful tree → broken (shown_tree tree) ≡ [] → AllByRecursion DeclHasConstants (shown_tree tree).declarations
module_constants tree lawful none =
    decls_have (known_of (shown_tree tree)) 0 1 tree.declarations.items.items lawful.declarations (module_unbroken (shown_tree tree) none)
