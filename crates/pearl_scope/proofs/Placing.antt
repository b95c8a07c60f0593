-- Statements one after the other, each put at its place.
use Rattle.std.proofs.Common.{◌≡◌, ℕ, ◌+◌, ◌<◌, take, get_or, List, [], ◌∷◌, ◌++◌, refl, sym, ap, ◌∙◌, map, length, append_assoc, arith}
use Rattle.std.proofs.lemmas.List.{map-append, append-nil}
use Rattle.pearl_tree.specs.declared.statement.Stmt.{Stmt}
use Rattle.pearl_tree.specs.declared.statement.Branch.{Branch}
use Rattle.pearl_tree.specs.ShownStatements.{ShownStmt, shown_stmt}
use Rattle.pearl_names.specs.Listed.{stmts_shown, branches_shown}
use Rattle.pearl_names.specs.Scopes.{as_stmts, scopes_in, scopes_in_all, scopes_in_branches}
use Rattle.pearl_scope.specs.declared.places.Spot.{Spot}
use Rattle.pearl_scope.specs.declared.places.Place.{Place}
use Rattle.pearl_scope.specs.Placed.{Grows, Placed, placed_at, placed_in, placed_stmt, placed_all, placed_branches}
use Rattle.pearl_names.proofs.Offered.{one_taken}

pub placed_in-nil : placed_in [] ≡ []
unfolding placed_in
placed_in-nil = refl

pub placed_in-append : (a b : List Place) → placed_in (a ++ b) ≡ placed_in a ++ placed_in b
unfolding placed_in
placed_in-append a b = map-append _ a b

pub placed_in-cons : (a : Place) (b : List Place) → placed_in (a ∷ b) ≡ placed_at a ∷ placed_in b
unfolding placed_in
placed_in-cons a b = refl

pub ruleset place_steps = (placed_in-nil, placed_in-append, placed_in-cons)

-- places that stay
pub grows_none : (places : List Place) → Grows places places
grows_none places = record { more = []; is = sym (append-nil places) }

pub grows_more : (a b c : List Place) → Grows a b → Grows b c → Grows a c
grows_more a b c first second = record {
  more = first.more ++ second.more;
  is = second.is ∙ ap (λ t. t ++ second.more) first.is ∙ append_assoc a first.more second.more;
}

pub grows_back : (a b c : List Place) (n : ℕ) → n ≡ length a → Grows a b → c ≡ take n b → c ≡ a
grows_back a b c n counted grows cut = cut ∙ (λ i. take (counted i) (grows.is i)) ∙ take-front a grows.more
  where
    take-front : (xs more : List Place) → take (length xs) (xs ++ more) ≡ xs
    take-front [] more = refl
    take-front (x ∷ xs) more = ap (λ t. x ∷ t) (take-front xs more)

-- a statement was put, and then those within it
pub put_one : (a b c : List Placed) (x : Placed) (first : List Placed) → b ≡ a ++ x ∷ [] → c ≡ b ++ first → c ≡ a ++ x ∷ first
put_one a b c x first one two = two ∙ ap (λ t. t ++ first) one ∙ append_assoc a (x ∷ []) first

pub put_at : (a b c : List Placed) (x : Placed) (first : ℕ → List Placed) (m n : ℕ) → b ≡ a ++ x ∷ [] → m ≡ n → c ≡ b ++ first m → c ≡ a ++ x ∷ first n
put_at a b c x first m n one same two = put_one a b c x (first n) one (two ∙ ap (λ k. b ++ first k) same)

pub put_two : (a b c d : List Placed) (x : Placed) (first : List Placed) (last : ℕ → List Placed) (m n : ℕ) → b ≡ a ++ x ∷ [] → c ≡ b ++ first → m ≡ n → d ≡ c ++ last m →
    d ≡ a ++ x ∷ (first ++ last n)
put_two a b c d x first last m n one two same three =
    three ∙ (λ i. put_one a b c x first one two i ++ last (same i)) ∙ append_assoc a (x ∷ first) (last n)

scopes-more : (xs : List ShownStmt) (x : ShownStmt) → scopes_in_all (as_stmts (xs ++ x ∷ [])) ≡ scopes_in_all (as_stmts xs) + scopes_in x
scopes-more [] x = omega arith
scopes-more (y ∷ ys) x = let h : _ = scopes-more ys x in omega (arith, h)

placed-more : (spot : Spot) (next : ℕ) (xs : List ShownStmt) (x : ShownStmt) →
    placed_all spot next (as_stmts (xs ++ x ∷ [])) ≡ placed_all spot next (as_stmts xs) ++ placed_stmt spot (next + scopes_in_all (as_stmts xs)) x
placed-more spot next [] x =
    append-nil (placed_stmt spot next x) ∙ ap (λ n. placed_stmt spot n x) (let e : next ≡ next + 0 = omega arith in e)
placed-more spot next (y ∷ ys) x =
    let e : next + scopes_in y + scopes_in_all (as_stmts ys) ≡ next + (scopes_in y + scopes_in_all (as_stmts ys)) = omega arith in
    ap (λ t. placed_stmt spot next y ++ t) (placed-more spot (next + scopes_in y) ys x
    ∙ ap (λ n. placed_all spot (next + scopes_in y) (as_stmts ys) ++ placed_stmt spot n x) e)
    ∙ sym (append_assoc (placed_stmt spot next y) _ _)

-- what a loop over statements has put so far
pub record PutSo (old now : List Placed) (spot : Spot) (next number : ℕ) (stmts : List Stmt) : Type 0 where
  pub placed : now ≡ old ++ placed_all spot next (stmts_shown stmts)
  pub counted : number ≡ next + scopes_in_all (stmts_shown stmts)

pub put_none : (old : List Placed) (spot : Spot) (next : ℕ) → PutSo old old spot next next []
put_none old spot next = record { placed = sym (append-nil old); counted = omega arith }

pub put_more : (old now new : List Placed) (spot : Spot) (next number after : ℕ) (xs : List Stmt) (i : ℕ) (x : Stmt) → i < length xs → x ≡ get_or xs i x →
    PutSo old now spot next number (take i xs) → new ≡ now ++ placed_stmt spot number (shown_stmt x) → after ≡ number + scopes_in (shown_stmt x) →
    PutSo old new spot next after (take (i + 1) xs)
put_more old now new spot next number after xs i x inside is so put counted =
    let shown : stmts_shown (take (i + 1) xs) ≡ as_stmts (map shown_stmt (take i xs) ++ shown_stmt x ∷ []) =
    ap stmts_shown (one_taken xs i x inside is) ∙ ap as_stmts (map-append shown_stmt (take i xs) (x ∷ [])) in
    record {
      placed = put ∙ (λ j. so.placed j ++ placed_stmt spot (so.counted j) (shown_stmt x))
          ∙ append_assoc old (placed_all spot next (stmts_shown (take i xs))) _
          ∙ ap (λ t. old ++ t) (sym (ap (placed_all spot next) shown ∙ placed-more spot next (map shown_stmt (take i xs)) (shown_stmt x)));
      counted = let c : _ = so.counted in let d : _ = scopes-more (map shown_stmt (take i xs)) (shown_stmt x) in
          let e : scopes_in_all (stmts_shown (take (i + 1) xs)) ≡ scopes_in_all (as_stmts (map shown_stmt (take i xs) ++ shown_stmt x ∷ [])) = ap scopes_in_all shown in
          omega (arith, counted, c, d, e);
    }

branches_scopes-more : (xs : List Branch) (x : Branch) →
    scopes_in_branches (branches_shown (xs ++ x ∷ [])) ≡ scopes_in_branches (branches_shown xs) + scopes_in_all (stmts_shown x.statements.items.items)
branches_scopes-more [] x = omega arith
branches_scopes-more (y ∷ ys) x = let h : _ = branches_scopes-more ys x in omega (arith, h)

branches-more : (spot : Spot) (next : ℕ) (xs : List Branch) (x : Branch) →
    placed_branches spot next (branches_shown (xs ++ x ∷ [])) ≡
    placed_branches spot next (branches_shown xs) ++ placed_all spot (next + scopes_in_branches (branches_shown xs)) (stmts_shown x.statements.items.items)
branches-more spot next [] x =
    append-nil (placed_all spot next (stmts_shown x.statements.items.items)) ∙ ap (λ n. placed_all spot n (stmts_shown x.statements.items.items)) (let e : next ≡ next + 0 = omega arith in e)
branches-more spot next (y ∷ ys) x =
    let here : ℕ = scopes_in_all (stmts_shown y.statements.items.items) in
    let e : next + here + scopes_in_branches (branches_shown ys) ≡ next + (here + scopes_in_branches (branches_shown ys)) = omega arith in
    ap (λ t. placed_all spot next (stmts_shown y.statements.items.items) ++ t) (branches-more spot (next + here) ys x
    ∙ ap (λ n. placed_branches spot (next + here) (branches_shown ys) ++ placed_all spot n (stmts_shown x.statements.items.items)) e)
    ∙ sym (append_assoc (placed_all spot next (stmts_shown y.statements.items.items)) _ _)

pub record PutBranches (old now : List Placed) (spot : Spot) (next number : ℕ) (branches : List Branch) : Type 0 where
  pub placed : now ≡ old ++ placed_branches spot next (branches_shown branches)
  pub counted : number ≡ next + scopes_in_branches (branches_shown branches)

pub branches_none : (old : List Placed) (spot : Spot) (next : ℕ) → PutBranches old old spot next next []
branches_none old spot next = record { placed = sym (append-nil old); counted = omega arith }

pub branches_put : (old now new : List Placed) (spot : Spot) (next number after : ℕ) (xs : List Branch) (i : ℕ) (x : Branch) → i < length xs → x ≡ get_or xs i x →
    PutBranches old now spot next number (take i xs) → new ≡ now ++ placed_all spot number (stmts_shown x.statements.items.items) →
    after ≡ number + scopes_in_all (stmts_shown x.statements.items.items) → PutBranches old new spot next after (take (i + 1) xs)
branches_put old now new spot next number after xs i x inside is so put counted =
    let shown : branches_shown (take (i + 1) xs) ≡ branches_shown (take i xs ++ x ∷ []) = ap branches_shown (one_taken xs i x inside is) in
    record {
      placed = put ∙ (λ j. so.placed j ++ placed_all spot (so.counted j) (stmts_shown x.statements.items.items))
          ∙ append_assoc old (placed_branches spot next (branches_shown (take i xs))) _
          ∙ ap (λ t. old ++ t) (sym (ap (placed_branches spot next) shown ∙ branches-more spot next (take i xs) x));
      counted = let c : _ = so.counted in let d : _ = branches_scopes-more (take i xs) x in let e : _ = ap scopes_in_branches shown in omega (arith, counted, c, d, e);
    }
