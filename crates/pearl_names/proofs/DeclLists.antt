-- Declarations of the module one after the other.
use Rattle.std.proofs.Common.{◌≡◌, ℕ, ◌+◌, ◌<◌, List, [], ◌∷◌, ◌++◌, refl, sym, ap, ◌∙◌, map, length, length-append, append_assoc, take, get_or, arith}
use Rattle.std.proofs.lemmas.List.{append-nil, map-append}
use Rattle.pearl_tree.specs.declared.tree.Decl.{Decl}
use Rattle.pearl_tree.specs.ShownModules.{ShownDecl, OfTask, OfProc, shown_decl}
use Rattle.pearl_names.specs.Scopes.{Entry, Scope, types_in, scopes_in_decl, decl_entries, decls_entries, decl_scopes, decls_scopes, as_stmts}
use Rattle.pearl_names.proofs.Collecting.{length-all_scopes, adds_scopes, taken}

-- how many TYPEs there are in some declarations
abbrev pub types_in_all : List ShownDecl → ℕ
types_in_all [] = 0
types_in_all (decl ∷ rest) = types_in decl + types_in_all rest

-- how many scopes begin in some declarations
abbrev scopes_in_decls : List ShownDecl → ℕ
scopes_in_decls [] = 0
scopes_in_decls (decl ∷ rest) = scopes_in_decl decl + scopes_in_decls rest

types_in_all-more : (xs : List ShownDecl) (x : ShownDecl) → types_in_all (xs ++ x ∷ []) ≡ types_in_all xs + types_in x
types_in_all-more [] x = omega arith
types_in_all-more (y ∷ ys) x = let h : types_in_all (ys ++ x ∷ []) ≡ types_in_all ys + types_in x = types_in_all-more ys x in omega (arith, h)

decls_entries-more : (types : ℕ) (xs : List ShownDecl) (x : ShownDecl) →
    decls_entries types (xs ++ x ∷ []) ≡ decls_entries types xs ++ decl_entries (types + types_in_all xs) x
decls_entries-more types [] x =
    append-nil (decl_entries types x) ∙ ap (λ n. decl_entries n x) (let e : types ≡ types + 0 = omega arith in e)
decls_entries-more types (y ∷ ys) x =
    let e : types + types_in y + types_in_all ys ≡ types + (types_in y + types_in_all ys) = omega arith in
    ap (λ t. decl_entries types y ++ t) (decls_entries-more (types + types_in y) ys x
    ∙ ap (λ n. decls_entries (types + types_in y) ys ++ decl_entries n x) e)
    ∙ sym (append_assoc (decl_entries types y) _ _)

-- one declaration more is taken of a list
taken_decl : (xs : List Decl) (i : ℕ) (x : Decl) → i < length xs → x ≡ get_or xs i x →
    map shown_decl (take (i + 1) xs) ≡ map shown_decl (take i xs) ++ shown_decl x ∷ []
taken_decl xs i x inside is = ap (map shown_decl) (taken xs xs i x refl inside is) ∙ map-append shown_decl (take i xs) (x ∷ [])

pub one_more_type : (types after : ℕ) (xs : List Decl) (i : ℕ) (x : Decl) → i < length xs → x ≡ get_or xs i x →
    types ≡ types_in_all (map shown_decl (take i xs)) → after ≡ types + types_in (shown_decl x) →
    after ≡ types_in_all (map shown_decl (take (i + 1) xs))
one_more_type types after xs i x inside is before more =
    more ∙ ap (λ n. n + types_in (shown_decl x)) before ∙ sym (types_in_all-more (map shown_decl (take i xs)) (shown_decl x))
    ∙ ap types_in_all (sym (taken_decl xs i x inside is))

pub one_more_entries : (a b c : List Entry) (types : ℕ) (xs : List Decl) (i : ℕ) (x : Decl) → i < length xs → x ≡ get_or xs i x →
    types ≡ types_in_all (map shown_decl (take i xs)) →
    b ≡ a ++ decls_entries 0 (map shown_decl (take i xs)) →
    c ≡ b ++ decl_entries types (shown_decl x) →
    c ≡ a ++ decls_entries 0 (map shown_decl (take (i + 1) xs))
one_more_entries a b c types xs i x inside is before one two =
    let here = decls_entries 0 (map shown_decl (take i xs)) in
    let more = decl_entries types (shown_decl x) in
    let z : types_in_all (map shown_decl (take i xs)) ≡ 0 + types_in_all (map shown_decl (take i xs)) = omega arith in
    two ∙ ap (λ t. t ++ more) one ∙ append_assoc a here more
    ∙ ap (λ t. a ++ t) (ap (λ n. here ++ decl_entries n (shown_decl x)) (before ∙ z)
    ∙ sym (decls_entries-more 0 (map shown_decl (take i xs)) (shown_decl x))
    ∙ ap (λ t. decls_entries 0 t) (sym (taken_decl xs i x inside is)))

pub length-decl_scopes : (types next : ℕ) (decl : ShownDecl) → length (decl_scopes types next decl) ≡ scopes_in_decl decl
length-decl_scopes types next (OfTask name head body place) =
    let h : _ = length-all_scopes types next (next + 1) (as_stmts body.statements) in omega (arith, h)
length-decl_scopes types next (OfProc name params returns body place) =
    let h : _ = length-all_scopes types next (next + 1) (as_stmts body.statements) in omega (arith, h)
length-decl_scopes types next decl = refl

length-decls_scopes : (types next : ℕ) (decls : List ShownDecl) → length (decls_scopes types next decls) ≡ scopes_in_decls decls
length-decls_scopes types next [] = refl
length-decls_scopes types next (decl ∷ rest) =
    length-append (decl_scopes types next decl) _
    ∙ (λ i. length-decl_scopes types next decl i + length-decls_scopes (types + types_in decl) (next + scopes_in_decl decl) rest i)

decls_scopes-more : (types next : ℕ) (xs : List ShownDecl) (x : ShownDecl) →
    decls_scopes types next (xs ++ x ∷ []) ≡
    decls_scopes types next xs ++ decl_scopes (types + types_in_all xs) (next + scopes_in_decls xs) x
decls_scopes-more types next [] x =
    append-nil (decl_scopes types next x)
    ∙ (λ i. decl_scopes ((let e : types ≡ types + 0 = omega arith in e) i) ((let e : next ≡ next + 0 = omega arith in e) i) x)
decls_scopes-more types next (y ∷ ys) x =
    let e : types + types_in y + types_in_all ys ≡ types + (types_in y + types_in_all ys) = omega arith in
    let f : next + scopes_in_decl y + scopes_in_decls ys ≡ next + (scopes_in_decl y + scopes_in_decls ys) = omega arith in
    ap (λ t. decl_scopes types next y ++ t) (decls_scopes-more (types + types_in y) (next + scopes_in_decl y) ys x
    ∙ (λ i. decls_scopes (types + types_in y) (next + scopes_in_decl y) ys ++ decl_scopes (e i) (f i) x))
    ∙ sym (append_assoc (decl_scopes types next y) _ _)

pub one_more_scopes : (a b c : List Scope) (types : ℕ) (xs : List Decl) (i : ℕ) (x : Decl) → i < length xs → x ≡ get_or xs i x →
    types ≡ types_in_all (map shown_decl (take i xs)) →
    b ≡ a ++ decls_scopes 0 (length a) (map shown_decl (take i xs)) →
    c ≡ b ++ decl_scopes types (length b) (shown_decl x) →
    c ≡ a ++ decls_scopes 0 (length a) (map shown_decl (take (i + 1) xs))
one_more_scopes a b c types xs i x inside is before one two =
    let here = map shown_decl (take i xs) in
    let z : types_in_all here ≡ 0 + types_in_all here = omega arith in
    adds_scopes a b c (scopes_in_decls here) (decls_scopes 0 (length a) here)
    (λ n. decl_scopes (0 + types_in_all here) n (shown_decl x)) (length-decls_scopes 0 (length a) here) one
    (two ∙ ap (λ n. b ++ decl_scopes n (length b) (shown_decl x)) (before ∙ z))
    ∙ ap (λ t. a ++ t) (sym (decls_scopes-more 0 (length a) here (shown_decl x))
    ∙ ap (λ t. decls_scopes 0 (length a) t) (sym (taken_decl xs i x inside is)))
