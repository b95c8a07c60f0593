-- Scopes whose declarations stand one after the other.
use Rattle.std.proofs.Common.{◌≡◌, ℕ, ◌+◌, ◌<◌, get_or, take, subst, List, [], ◌∷◌, ◌++◌, refl, sym, ap, ◌∙◌, map, length, length-append, append_assoc, arith}
use Rattle.std.proofs.lemmas.List.{map-append, length-map, append-nil, take_more}
use Rattle.std.proofs.lemmas.Grind.{flat_map-append}
use Rattle.pearl_tree.specs.declared.statement.Stmt.{Stmt}
use Rattle.pearl_tree.specs.declared.statement.Branch.{Branch}
use Rattle.pearl_tree.specs.ShownStatements.{shown_stmt, ShownStmt, OfIf, OfCase, OfRepeat, OfBegin, ShownStmts, NoStmts, MoreStmts, ShownBranches, NoBranches, MoreBranches, ShownOtherwise, NoOtherwise, OfOtherwise}
use Rattle.pearl_names.specs.declared.group.Group.{Group}
use Rattle.pearl_names.specs.declared.group.ScopeGroups.{ScopeGroups}
use Rattle.pearl_names.specs.Groups.{group_entries, entries_in, shown_scope, scopes_in_list}
use Rattle.pearl_names.specs.Listed.{stmts_shown, branches_shown}
use Rattle.pearl_names.specs.Scopes.{Scope, as_stmts, scopes_in, scopes_in_all, scopes_in_branches, scopes_in_otherwise, stmt_scopes, all_scopes, branch_scopes, otherwise_scopes}

pub entries_in-nil : entries_in [] ≡ []
unfolding entries_in
entries_in-nil = refl

pub entries_in-append : (groups rest : List Group) → entries_in (groups ++ rest) ≡ entries_in groups ++ entries_in rest
unfolding entries_in
entries_in-append groups rest = flat_map-append group_entries groups rest

pub entries_in-one : (group : Group) → entries_in (group ∷ []) ≡ group_entries group
unfolding entries_in
entries_in-one group = append-nil (group_entries group)

pub scopes_in_list-nil : scopes_in_list [] ≡ []
unfolding scopes_in_list
scopes_in_list-nil = refl

pub scopes_in_list-append : (scopes rest : List ScopeGroups) → scopes_in_list (scopes ++ rest) ≡ scopes_in_list scopes ++ scopes_in_list rest
unfolding scopes_in_list
scopes_in_list-append scopes rest = map-append shown_scope scopes rest

pub scopes_in_list-one : (scope : ScopeGroups) → scopes_in_list (scope ∷ []) ≡ shown_scope scope ∷ []
unfolding scopes_in_list
scopes_in_list-one scope = refl

pub length-scopes_in_list : (scopes : List ScopeGroups) → length (scopes_in_list scopes) ≡ length scopes
unfolding scopes_in_list
length-scopes_in_list scopes = length-map scopes shown_scope

pub ruleset group_steps = (entries_in-nil, entries_in-append, entries_in-one, scopes_in_list-nil, scopes_in_list-append, scopes_in_list-one, length-scopes_in_list)

-- scopes were added, and then those that begin behind them
pub adds_scopes : (a b c : List Scope) (count : ℕ) (first : List Scope) (rest : ℕ → List Scope) → length first ≡ count →
    b ≡ a ++ first → c ≡ b ++ rest (length b) → c ≡ a ++ (first ++ rest (length a + count))
adds_scopes a b c count first rest counted one two =
    let long : length b ≡ length a + count = ap length one ∙ length-append a first ∙ ap (λ n. length a + n) counted in
    two ∙ ap (λ n. b ++ rest n) long ∙ ap (λ t. t ++ rest (length a + count)) one ∙ append_assoc a first (rest (length a + count))

mutual
  pub length-stmt_scopes : (types scope next : ℕ) (statement : ShownStmt) → length (stmt_scopes types scope next statement) ≡ scopes_in statement
  length-stmt_scopes types scope next (OfIf condition statements otherwise place) =
      length-append (all_scopes types scope next statements) _
      ∙ (λ i. length-all_scopes types scope next statements i + length-otherwise_scopes types scope (next + scopes_in_all statements) otherwise i)
  length-stmt_scopes types scope next (OfCase selector alternatives otherwise place) =
      length-append (branch_scopes types scope next alternatives) _
      ∙ (λ i. length-branch_scopes types scope next alternatives i + length-otherwise_scopes types scope (next + scopes_in_branches alternatives) otherwise i)
  length-stmt_scopes types scope next (OfRepeat control begin step end condition declarations statements body_place place) =
      let h : length (all_scopes types next (next + 1) statements) ≡ scopes_in_all statements = length-all_scopes types next (next + 1) statements in
      omega (arith, h)
  length-stmt_scopes types scope next (OfBegin declarations statements body_place place) =
      let h : length (all_scopes types next (next + 1) statements) ≡ scopes_in_all statements = length-all_scopes types next (next + 1) statements in
      omega (arith, h)
  length-stmt_scopes types scope next statement = refl

  pub length-all_scopes : (types scope next : ℕ) (statements : ShownStmts) → length (all_scopes types scope next statements) ≡ scopes_in_all statements
  length-all_scopes types scope next NoStmts = refl
  length-all_scopes types scope next (MoreStmts statement rest) =
      length-append (stmt_scopes types scope next statement) _
      ∙ (λ i. length-stmt_scopes types scope next statement i + length-all_scopes types scope (next + scopes_in statement) rest i)

  pub length-branch_scopes : (types scope next : ℕ) (branches : ShownBranches) → length (branch_scopes types scope next branches) ≡ scopes_in_branches branches
  length-branch_scopes types scope next NoBranches = refl
  length-branch_scopes types scope next (MoreBranches statements place rest) =
      length-append (all_scopes types scope next statements) _
      ∙ (λ i. length-all_scopes types scope next statements i + length-branch_scopes types scope (next + scopes_in_all statements) rest i)

  length-otherwise_scopes : (types scope next : ℕ) (otherwise : ShownOtherwise) → length (otherwise_scopes types scope next otherwise) ≡ scopes_in_otherwise otherwise
  length-otherwise_scopes types scope next NoOtherwise = refl
  length-otherwise_scopes types scope next (OfOtherwise statements place) = length-all_scopes types scope next statements

-- one statement more
scopes_in-more : (xs : List ShownStmt) (x : ShownStmt) → scopes_in_all (as_stmts (xs ++ x ∷ [])) ≡ scopes_in_all (as_stmts xs) + scopes_in x
scopes_in-more [] x = omega arith
scopes_in-more (y ∷ ys) x = let h : _ = scopes_in-more ys x in omega (arith, h)

pub all_scopes-more : (types scope next : ℕ) (xs : List ShownStmt) (x : ShownStmt) →
    all_scopes types scope next (as_stmts (xs ++ x ∷ [])) ≡
    all_scopes types scope next (as_stmts xs) ++ stmt_scopes types scope (next + scopes_in_all (as_stmts xs)) x
all_scopes-more types scope next [] x =
    append-nil (stmt_scopes types scope next x) ∙ ap (λ n. stmt_scopes types scope n x) (let e : next ≡ next + 0 = omega arith in e)
all_scopes-more types scope next (y ∷ ys) x =
    let e : next + scopes_in y + scopes_in_all (as_stmts ys) ≡ next + (scopes_in y + scopes_in_all (as_stmts ys)) = omega arith in
    ap (λ t. stmt_scopes types scope next y ++ t) (all_scopes-more types scope (next + scopes_in y) ys x
    ∙ ap (λ n. all_scopes types scope (next + scopes_in y) (as_stmts ys) ++ stmt_scopes types scope n x) e)
    ∙ sym (append_assoc (stmt_scopes types scope next y) _ _)

-- one branch more
scopes_in_branches-more : (xs : List Branch) (x : Branch) →
    scopes_in_branches (branches_shown (xs ++ x ∷ [])) ≡ scopes_in_branches (branches_shown xs) + scopes_in_all (stmts_shown x.statements.items.items)
scopes_in_branches-more [] x = omega arith
scopes_in_branches-more (y ∷ ys) x = let h : _ = scopes_in_branches-more ys x in omega (arith, h)

pub branch_scopes-more : (types scope next : ℕ) (xs : List Branch) (x : Branch) →
    branch_scopes types scope next (branches_shown (xs ++ x ∷ [])) ≡
    branch_scopes types scope next (branches_shown xs) ++
    all_scopes types scope (next + scopes_in_branches (branches_shown xs)) (stmts_shown x.statements.items.items)
branch_scopes-more types scope next [] x =
    append-nil (all_scopes types scope next (stmts_shown x.statements.items.items))
    ∙ ap (λ n. all_scopes types scope n (stmts_shown x.statements.items.items)) (let e : next ≡ next + 0 = omega arith in e)
branch_scopes-more types scope next (y ∷ ys) x =
    let here : ℕ = scopes_in_all (stmts_shown y.statements.items.items) in
    let e : next + here + scopes_in_branches (branches_shown ys) ≡ next + (here + scopes_in_branches (branches_shown ys)) = omega arith in
    ap (λ t. all_scopes types scope next (stmts_shown y.statements.items.items) ++ t) (branch_scopes-more types scope (next + here) ys x
    ∙ ap (λ n. branch_scopes types scope (next + here) (branches_shown ys) ++ all_scopes types scope n (stmts_shown x.statements.items.items)) e)
    ∙ sym (append_assoc (all_scopes types scope next (stmts_shown y.statements.items.items)) _ _)

-- one element more is taken of a list
pub taken : {X : Type 0} (xs listed : List X) (i : ℕ) (x : X) → listed ≡ xs → i < length listed → x ≡ get_or listed i x →
    take (i + 1) xs ≡ take i xs ++ x ∷ []
taken xs listed i x same inside is =
    subst (λ l. take (i + 1) l ≡ take i l ++ x ∷ []) same (take_more listed i x inside ∙ ap (λ s. take i listed ++ s ∷ []) (sym is))

pub one_more_stmt : (a b c : List Scope) (types scope : ℕ) (xs listed : List Stmt) (i : ℕ) (x : Stmt) →
    listed ≡ xs → i < length listed → x ≡ get_or listed i x →
    b ≡ a ++ all_scopes types scope (length a) (stmts_shown (take i xs)) →
    c ≡ b ++ stmt_scopes types scope (length b) (shown_stmt x) →
    c ≡ a ++ all_scopes types scope (length a) (stmts_shown (take (i + 1) xs))
one_more_stmt a b c types scope xs listed i x same inside is one two =
    let shown : stmts_shown (take (i + 1) xs) ≡ as_stmts (map shown_stmt (take i xs) ++ shown_stmt x ∷ []) =
    ap stmts_shown (taken xs listed i x same inside is) ∙ ap as_stmts (map-append shown_stmt (take i xs) (x ∷ [])) in
    adds_scopes a b c (scopes_in_all (stmts_shown (take i xs))) (all_scopes types scope (length a) (stmts_shown (take i xs)))
    (λ n. stmt_scopes types scope n (shown_stmt x)) (length-all_scopes types scope (length a) (stmts_shown (take i xs))) one two
    ∙ ap (λ t. a ++ t) (sym (all_scopes-more types scope (length a) (map shown_stmt (take i xs)) (shown_stmt x))
    ∙ ap (λ t. all_scopes types scope (length a) t) (sym shown))

pub one_more_branch : (a b c : List Scope) (types scope : ℕ) (xs listed : List Branch) (i : ℕ) (x : Branch) →
    listed ≡ xs → i < length listed → x ≡ get_or listed i x →
    b ≡ a ++ branch_scopes types scope (length a) (branches_shown (take i xs)) →
    c ≡ b ++ all_scopes types scope (length b) (stmts_shown x.statements.items.items) →
    c ≡ a ++ branch_scopes types scope (length a) (branches_shown (take (i + 1) xs))
one_more_branch a b c types scope xs listed i x same inside is one two =
    adds_scopes a b c (scopes_in_branches (branches_shown (take i xs))) (branch_scopes types scope (length a) (branches_shown (take i xs)))
    (λ n. all_scopes types scope n (stmts_shown x.statements.items.items)) (length-branch_scopes types scope (length a) (branches_shown (take i xs))) one two
    ∙ ap (λ t. a ++ t) (sym (branch_scopes-more types scope (length a) (take i xs) x)
    ∙ ap (λ t. branch_scopes types scope (length a) (branches_shown t)) (sym (taken xs listed i x same inside is)))
