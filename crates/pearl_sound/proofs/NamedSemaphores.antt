-- In a tree that spells tokens each REQUEST and RELEASE names a semaphore.
use Rattle.std.specs.Prelude.{ℕ, ◌+◌, ◌-◌, ◌<◌, true, false, List, [], ◌∷◌, length, map}
use Rattle.std.specs.List.{AllByRecursion}
use Rattle.std.proofs.Common.{arith}
use Rattle.pearl_tree.specs.declared.word_code.TheConstants as w
use Rattle.pearl_tree.specs.declared.name.Name.{Name}
use Rattle.pearl_tree.specs.declared.limit.TheConstants as limit
use Rattle.pearl_tree.specs.declared.token.Token.{Token}
use Rattle.pearl_tree.specs.declared.statement.Stmt.{Stmt, If', Case', Repeat', Begin', OnSemas, Row_of-Stmt, end_of-Stmt, more_of-Stmt}
use Rattle.pearl_tree.specs.declared.statement.If as if_
use Rattle.pearl_tree.specs.declared.statement.If.{Held-Case-otherwise, None', Some'}
use Rattle.pearl_tree.specs.declared.statement.Case as case_
use Rattle.pearl_tree.specs.declared.statement.Case.{Row_of-Branch, end_of-Branch, more_of-Branch}
use Rattle.pearl_tree.specs.declared.statement.Body.{Body}
use Rattle.pearl_tree.specs.declared.tree.Decl.{Decl}
use Rattle.pearl_tree.specs.declared.tree.Decl.TheVariants as decl
use Rattle.pearl_tree.specs.declared.tree.Tree.{Tree}
use Rattle.pearl_tree.specs.Standing.{SpellsEach, SpellsList, SpellsName}
use Rattle.pearl_tree.specs.Statements.{SpellsStmt, SpellsStmts, SpellsAlternatives, SpellsMoreAlternatives, SpellsOtherwise}
use Rattle.pearl_tree.specs.Modules.{SpellsBlock, SpellsDecl, Spells}
use Rattle.pearl_tree.specs.ShownStatements.{shown_stmt, shown_stmts, shown_branches, shown_otherwise}
use Rattle.pearl_tree.specs.ShownModules.{shown_body, shown_decl, shown_tree}
use Rattle.pearl_names.specs.Scopes.{as_stmts, scopes_in, scopes_in_all, scopes_in_branches, scopes_in_decl}
use Rattle.pearl_scope.specs.declared.places.Spot.{Spot}
use Rattle.pearl_scope.specs.Placed.{Placed, placed_stmt, placed_all, placed_branches, placed_otherwise, placed_body}
use Rattle.pearl_check.specs.Routines.{Routine, decl_routines, decls_routines, statements_of}
use Rattle.pearl_sound.specs.KnownParts.{NamesSome, NamesSemaphores}
use Rattle.pearl_sound.proofs.SoundForms.{all_append}

abbrev IsNamed : Placed → Type 0
IsNamed place = NamesSome place.statement

abbrev AreNamed : List Placed → Type 0
AreNamed places = AllByRecursion IsNamed places

module _ (tokens : List Token) where
  some_name : (from : ℕ) (names : List Name) (to : ℕ) → SpellsList tokens (SpellsName tokens) from names to → 0 < length names
  some_name from [] to h = absurd h
  some_name from (name ∷ rest) to h = omega arith

  mutual
    stmt_named : (depth from : ℕ) (spot : Spot) (next : ℕ) (statement : Stmt) (to : ℕ) → SpellsStmt tokens depth from statement to →
        AreNamed (placed_stmt spot next (shown_stmt statement))
    stmt_named depth from spot next (If' _ (if_.If' condition _ statements otherwise place)) to h = (
      tt,
      all_append IsNamed (placed_all spot next (shown_stmts statements))
          (placed_otherwise spot (next + scopes_in_all (shown_stmts statements)) (shown_otherwise otherwise))
          (stmts_named (depth - 1) (h.0 + 1) spot next _ statements h.1 h.7)
          (otherwise_named (depth - 1) w.ELSE h.1 spot (next + scopes_in_all (shown_stmts statements)) otherwise h.2 h.8),
    )
    stmt_named depth from spot next (Case' _ (case_.Case' selector _ alternatives otherwise place)) to h = (
      tt,
      all_append IsNamed (placed_branches spot next (shown_branches alternatives))
          (placed_otherwise spot (next + scopes_in_branches (shown_branches alternatives)) (shown_otherwise otherwise))
          (alternatives_named (depth - 1) h.0 spot next _ alternatives h.1 h.6)
          (otherwise_named (depth - 1) w.OUT h.1 spot (next + scopes_in_branches (shown_branches alternatives)) otherwise h.2 h.7),
    )
    stmt_named depth from spot next (Repeat' _ control begin step end condition declarations _ statements body_place place) to h =
        (tt, stmts_named (depth - 1) h.14.0 (record { scope = next; in_loop = true }) (next + 1) _ statements h.5 h.14.3)
    stmt_named depth from spot next (Begin' _ declarations _ statements body_place place) to h =
        (tt, stmts_named (depth - 1) h.4.0 (record { scope = next; in_loop = spot.in_loop }) (next + 1) _ statements h.0 h.4.3)
    stmt_named depth from spot next (OnSemas part) to h = (some_name (from + 1) part.value.names.items.items h.0 h.3, tt)
    stmt_named depth from spot next other to h = (tt, tt)

    stmts_named : (depth from : ℕ) (spot : Spot) (next : ℕ) (n : _) (row : Row_of-Stmt n) (to : ℕ) → SpellsStmts tokens depth from row to →
        AreNamed (placed_all spot next (shown_stmts row))
    stmts_named depth from spot next _ end_of-Stmt to h = tt
    stmts_named depth from spot next _ (more_of-Stmt statement rest) to h =
        let past = next + scopes_in (shown_stmt statement) in
        all_append IsNamed (placed_stmt spot next (shown_stmt statement)) (placed_all spot past (shown_stmts rest))
        (stmt_named depth from spot next statement h.0 h.1) (stmts_named depth h.0 spot past _ rest to h.2)

    alternatives_named : (depth from : ℕ) (spot : Spot) (next : ℕ) (n : _) (row : Row_of-Branch n) (to : ℕ) →
        SpellsAlternatives tokens depth from row to → AreNamed (placed_branches spot next (shown_branches row))
    alternatives_named depth from spot next _ end_of-Branch to h = absurd h
    alternatives_named depth from spot next _ (more_of-Branch _ statements place rest) to h =
        let past = next + scopes_in_all (shown_stmts statements) in
        all_append IsNamed (placed_all spot next (shown_stmts statements)) (placed_branches spot past (shown_branches rest))
        (stmts_named depth (from + 1) spot next _ statements h.0 h.1.2) (more_named depth h.0 spot past _ rest to h.2)

    more_named : (depth from : ℕ) (spot : Spot) (next : ℕ) (n : _) (row : Row_of-Branch n) (to : ℕ) →
        SpellsMoreAlternatives tokens depth from row to → AreNamed (placed_branches spot next (shown_branches row))
    more_named depth from spot next _ end_of-Branch to h = tt
    more_named depth from spot next _ (more_of-Branch _ statements place rest) to h =
        let past = next + scopes_in_all (shown_stmts statements) in
        all_append IsNamed (placed_all spot next (shown_stmts statements)) (placed_branches spot past (shown_branches rest))
        (stmts_named depth (from + 1) spot next _ statements h.0 h.1.2) (more_named depth h.0 spot past _ rest to h.2)

    otherwise_named : (depth word from : ℕ) (spot : Spot) (next : ℕ) (otherwise : Held-Case-otherwise) (to : ℕ) →
        SpellsOtherwise tokens depth word from otherwise to → AreNamed (placed_otherwise spot next (shown_otherwise otherwise))
    otherwise_named depth word from spot next None' to h = tt
    otherwise_named depth word from spot next (Some' _ statements place) to h =
        stmts_named depth (from + 1) spot next _ statements to h.2

  own_named : (depth from : ℕ) (spot : Spot) (next : ℕ) (statements : List Stmt) (to : ℕ) →
      SpellsEach (SpellsStmt tokens depth) from statements to → AreNamed (placed_all spot next (as_stmts (map shown_stmt statements)))
  own_named depth from spot next [] to h = tt
  own_named depth from spot next (statement ∷ rest) to h =
      let past = next + scopes_in (shown_stmt statement) in
      all_append IsNamed (placed_stmt spot next (shown_stmt statement)) (placed_all spot past (as_stmts (map shown_stmt rest)))
      (stmt_named depth from spot next statement h.0 h.1) (own_named depth h.0 spot past rest to h.2)

  abbrev HasNamed : Routine → Type 0
  HasNamed routine = AreNamed (statements_of routine)

  block_named : (from next : ℕ) (body : Body) (to : ℕ) → SpellsBlock tokens from body to →
      AreNamed (placed_body next (as_stmts (shown_body body).statements))
  block_named from next body to h =
      own_named limit.NESTED_MAX h.2.0 (record { scope = next; in_loop = false }) (next + 1) body.statements.items.items h.0 h.2.3

  decl_named : (from next : ℕ) (part : Decl) (to : ℕ) → SpellsDecl tokens from part to →
      AllByRecursion HasNamed (decl_routines next (shown_decl part))
  decl_named from next (decl.Task name head body place) to h = (block_named h.0 next body to h.6, tt)
  decl_named from next (decl.Proc name params returns body place) to h = (block_named h.1 next body to h.8, tt)
  decl_named from next part to h = tt

  decls_named : (from next : ℕ) (parts : List Decl) (to : ℕ) → SpellsEach (SpellsDecl tokens) from parts to →
      AllByRecursion HasNamed (decls_routines next (map shown_decl parts))
  decls_named from next [] to h = tt
  decls_named from next (part ∷ rest) to h =
      let past = next + scopes_in_decl (shown_decl part) in
      all_append HasNamed (decl_routines next (shown_decl part)) (decls_routines past (map shown_decl rest))
      (decl_named from next part h.0 h.1) (decls_named h.0 past rest to h.2)

pub semaphores_named : (tree : Tree) (tokens : List Token) → Spells tree tokens → NamesSemaphores (shown_tree tree)
semaphores_named tree tokens spells =
    let h = spells.spells in decls_named tokens (h.1 + 2) 1 tree.declarations.items.items h.2 h.10
