-- A scope stands within one of a smaller number.
use Rattle.std.proofs.Common.{◌≡◌, ℕ, ◌+◌, ◌<◌, List, [], ◌∷◌, ◌++◌, length, sym, subst, arith}
use Rattle.pearl_tree.specs.ShownStatements.{ShownStmt, OfIf, OfCase, OfRepeat, OfBegin, ShownStmts, NoStmts, MoreStmts, ShownBranches, NoBranches, MoreBranches, ShownOtherwise, NoOtherwise, OfOtherwise}
use Rattle.pearl_tree.specs.ShownModules.{ShownDecl, OfTask, OfProc}
use Rattle.pearl_names.specs.Scopes.{Scope, as_stmts, scopes_in, scopes_in_all, scopes_in_branches, scopes_in_decl, types_in, stmt_scopes, all_scopes, branch_scopes, otherwise_scopes, decl_scopes, decls_scopes}
use Rattle.pearl_names.specs.Laws.{AreWithinEarlier, OuterIsEarlier}
use Rattle.pearl_names.proofs.Collecting.{length-stmt_scopes, length-all_scopes, length-branch_scopes}
use Rattle.pearl_names.proofs.DeclLists.{length-decl_scopes}

-- scopes, and then those that are numbered behind them
earlier-append : (number : ℕ) (scopes rest : List Scope) → AreWithinEarlier number scopes →
    AreWithinEarlier (number + length scopes) rest → AreWithinEarlier number (scopes ++ rest)
earlier-append number [] rest first second = let e : number + 0 ≡ number = omega arith in subst (λ n. AreWithinEarlier n rest) e second
earlier-append number (scope ∷ scopes) rest first second =
    let e : number + (length scopes + 1) ≡ number + 1 + length scopes = omega arith in
    let f : number + length (scope ∷ scopes) ≡ number + 1 + length scopes = omega (arith, e) in
    (first.0, earlier-append (number + 1) scopes rest first.1 (subst (λ n. AreWithinEarlier n rest) f second))

earlier-counted : (number count : ℕ) (scopes rest : List Scope) → length scopes ≡ count → AreWithinEarlier number scopes →
    AreWithinEarlier (number + count) rest → AreWithinEarlier number (scopes ++ rest)
earlier-counted number count scopes rest counted first second =
    earlier-append number scopes rest first (subst (λ n. AreWithinEarlier (number + n) rest) (sym counted) second)

mutual
  stmt_earlier : (types scope next : ℕ) (statement : ShownStmt) → scope < next → AreWithinEarlier next (stmt_scopes types scope next statement)
  stmt_earlier types scope next (OfIf condition statements otherwise place) lt =
      earlier-counted next (scopes_in_all statements) (all_scopes types scope next statements) _
      (length-all_scopes types scope next statements) (all_earlier types scope next statements lt)
      (otherwise_earlier types scope (next + scopes_in_all statements) otherwise (omega (arith, lt)))
  stmt_earlier types scope next (OfCase selector alternatives otherwise place) lt =
      earlier-counted next (scopes_in_branches alternatives) (branch_scopes types scope next alternatives) _
      (length-branch_scopes types scope next alternatives) (branches_earlier types scope next alternatives lt)
      (otherwise_earlier types scope (next + scopes_in_branches alternatives) otherwise (omega (arith, lt)))
  stmt_earlier types scope next (OfRepeat control begin step end condition declarations statements body_place place) lt =
      (lt, all_earlier types next (next + 1) statements (omega arith))
  stmt_earlier types scope next (OfBegin declarations statements body_place place) lt =
      (lt, all_earlier types next (next + 1) statements (omega arith))
  stmt_earlier types scope next statement lt = tt

  all_earlier : (types scope next : ℕ) (statements : ShownStmts) → scope < next → AreWithinEarlier next (all_scopes types scope next statements)
  all_earlier types scope next NoStmts lt = tt
  all_earlier types scope next (MoreStmts statement rest) lt =
      earlier-counted next (scopes_in statement) (stmt_scopes types scope next statement) _
      (length-stmt_scopes types scope next statement) (stmt_earlier types scope next statement lt)
      (all_earlier types scope (next + scopes_in statement) rest (omega (arith, lt)))

  branches_earlier : (types scope next : ℕ) (branches : ShownBranches) → scope < next → AreWithinEarlier next (branch_scopes types scope next branches)
  branches_earlier types scope next NoBranches lt = tt
  branches_earlier types scope next (MoreBranches statements place rest) lt =
      earlier-counted next (scopes_in_all statements) (all_scopes types scope next statements) _
      (length-all_scopes types scope next statements) (all_earlier types scope next statements lt)
      (branches_earlier types scope (next + scopes_in_all statements) rest (omega (arith, lt)))

  otherwise_earlier : (types scope next : ℕ) (otherwise : ShownOtherwise) → scope < next → AreWithinEarlier next (otherwise_scopes types scope next otherwise)
  otherwise_earlier types scope next NoOtherwise lt = tt
  otherwise_earlier types scope next (OfOtherwise statements place) lt = all_earlier types scope next statements lt

decl_earlier : (types next : ℕ) (decl : ShownDecl) → 0 < next → AreWithinEarlier next (decl_scopes types next decl)
decl_earlier types next (OfTask name head body place) lt = (lt, all_earlier types next (next + 1) (as_stmts body.statements) (omega arith))
decl_earlier types next (OfProc name params returns body place) lt = (lt, all_earlier types next (next + 1) (as_stmts body.statements) (omega arith))
decl_earlier types next decl lt = tt

decls_earlier : (types next : ℕ) (decls : List ShownDecl) → 0 < next → AreWithinEarlier next (decls_scopes types next decls)
decls_earlier types next [] lt = tt
decls_earlier types next (decl ∷ rest) lt =
    earlier-counted next (scopes_in_decl decl) (decl_scopes types next decl) _ (length-decl_scopes types next decl)
    (decl_earlier types next decl lt) (decls_earlier (types + types_in decl) (next + scopes_in_decl decl) rest (omega (arith, lt)))

pub outer_earlier : OuterIsEarlier
outer_earlier tree = (tt, decls_earlier 0 1 tree.declarations (omega arith))
