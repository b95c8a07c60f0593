-- What the table of a module's names has at the number of a scope.
use Rattle.std.specs.Prelude.{◌≡◌, ℕ, zero, suc, ◌+◌, List, [], ◌∷◌, ◌++◌, length, Some, option_map, unwrap_or, slice_get}
use Rattle.std.proofs.Common.{refl, ap, ◌∙◌, sym, subst, arith}
use Rattle.std.proofs.lemmas.List.{append_assoc, length-append}
use Rattle.std.proofs.lemmas.Option.{none-some, slice_get-map}
use Rattle.pearl_tree.specs.ShownModules.{ShownDecl, OfTask, OfProc, ShownTree}
use Rattle.pearl_names.specs.Known.{Known, known_of}
use Rattle.pearl_names.specs.Scopes.{Scope, scopes_of, scopes_in_decl, as_stmts, decl_scopes, decls_scopes, types_in}
use Rattle.pearl_names.specs.Sorts.{scope_names, names_of_scopes}
use Rattle.pearl_names.specs.Tables.{senses_of, senses_in, table_of}
use Rattle.pearl_names.proofs.Offered.{length-decl_scopes}
use Rattle.pearl_resolve.specs.Numbers.{At, senses_at, in_body, decl_numbers, after_decl}
use Rattle.pearl_resolve.specs.Expressions.{Numbered}
use Rattle.pearl_sound.proofs.Going.{all_go}
use Rattle.pearl_sound.proofs.ModuleEntries.{get_at}
use Rattle.pearl_sound.proofs.Stretched.{Lies}

pub head_there : {X : Type 0} {whole : List X} {at : ℕ} (x : X) (rest : List X) → Lies whole (x ∷ rest) at → slice_get whole at ≡ Some x
head_there {whole = whole} x rest lies =
    ap (λ n. slice_get whole n) (sym lies.begins) ∙ ap (λ xs. slice_get xs (length lies.before)) lies.is ∙ get_at lies.before x (rest ++ lies.behind)

pub left_lies : {X : Type 0} {whole : List X} {at : ℕ} (one two : List X) → Lies whole (one ++ two) at → Lies whole one at
left_lies one two lies = record {
  before = lies.before;
  behind = two ++ lies.behind;
  is = lies.is ∙ ap (λ xs. lies.before ++ xs) (append_assoc one two lies.behind);
  begins = lies.begins;
}

pub right_lies : {X : Type 0} {whole : List X} {at : ℕ} (one two : List X) (to : ℕ) → at + length one ≡ to → Lies whole (one ++ two) at → Lies whole two to
right_lies one two to there lies = record {
  before = lies.before ++ one;
  behind = lies.behind;
  is = lies.is ∙ ap (λ xs. lies.before ++ xs) (append_assoc one two lies.behind) ∙ sym (append_assoc lies.before one (two ++ lies.behind));
  begins = let a = length-append lies.before one in let b = lies.begins in omega (arith, a, b, there);
}

senses_get : (known : Known) (from : ℕ) (scopes : List Scope) (n : ℕ) (scope : Scope) → slice_get scopes n ≡ Some scope →
    slice_get (senses_in known from scopes) n ≡ Some (senses_of known (from + n) scope.entries)
senses_get known from [] n scope is = absurd (none-some scope is)
senses_get known from (first ∷ rest) zero scope is =
    let same : from ≡ from + 0 = omega arith in
    ap (option_map (λ (s : Scope). senses_of known from s.entries)) is ∙ ap (λ m. Some (senses_of known m scope.entries)) same
senses_get known from (first ∷ rest) (suc n) scope is =
    let same : from + 1 + n ≡ from + suc n = omega arith in
    senses_get known (from + 1) rest n scope is ∙ ap (λ m. Some (senses_of known m scope.entries)) same

pub senses_there : (tree : ShownTree) (n : ℕ) (scope : Scope) → slice_get (scopes_of tree) n ≡ Some scope →
    slice_get (table_of tree).senses n ≡ Some (senses_of (known_of tree) n scope.entries)
senses_there tree n scope is =
    let same : 0 + n ≡ n = omega arith in
    senses_get (known_of tree) 0 (scopes_of tree) n scope is ∙ ap (λ m. Some (senses_of (known_of tree) m scope.entries)) same

pub scope_senses : (tree : ShownTree) (n : ℕ) (scope : Scope) → slice_get (scopes_of tree) n ≡ Some scope →
    senses_at (table_of tree) n ≡ senses_of (known_of tree) n scope.entries
scope_senses tree n scope is =
    let same : 0 + n ≡ n = omega arith in
    ap (λ found. unwrap_or found []) (senses_get (known_of tree) 0 (scopes_of tree) n scope is) ∙
    ap (λ m. senses_of (known_of tree) m scope.entries) same

pub scope_named : (tree : ShownTree) (n : ℕ) (scope : Scope) → slice_get (scopes_of tree) n ≡ Some scope →
    slice_get (table_of tree).names n ≡ Some (scope_names scope)
unfolding names_of_scopes
scope_named tree n scope is = slice_get-map scope_names (scopes_of tree) n ∙ ap (option_map scope_names) is

pub decl_next : (numbered : Numbered) (at : At) (decl : ShownDecl) → (after_decl numbered.table at decl).next ≡ at.next + scopes_in_decl decl
decl_next numbered at (OfTask name head body place) =
    let past = (all_go numbered at.next (in_body numbered.table at) (as_stmts body.statements)).next in omega (arith, past)
decl_next numbered at (OfProc name params returns body place) =
    let past = (all_go numbered at.next (in_body numbered.table at) (as_stmts body.statements)).next in omega (arith, past)
decl_next numbered at decl = omega arith

pub decl_rows : (numbered : Numbered) (at : At) (decl : ShownDecl) → length (decl_numbers numbered.table at decl) ≡ scopes_in_decl decl
decl_rows numbered at (OfTask name head body place) =
    let past = (all_go numbered at.next (in_body numbered.table at) (as_stmts body.statements)).each in omega (arith, past)
decl_rows numbered at (OfProc name params returns body place) =
    let past = (all_go numbered at.next (in_body numbered.table at) (as_stmts body.statements)).each in omega (arith, past)
decl_rows numbered at decl = refl

-- the scopes of the declarations behind one
pub decls_lie : (numbered : Numbered) {whole : List Scope} (types : ℕ) (at : At) (decl : ShownDecl) (rest : List ShownDecl) →
    Lies whole (decls_scopes types at.next (decl ∷ rest)) at.next →
    Lies whole (decls_scopes (types + types_in decl) (after_decl numbered.table at decl).next rest) (after_decl numbered.table at decl).next
decls_lie numbered {whole = whole} types at decl rest lies =
    let next = decl_next numbered at decl in
    let count = length-decl_scopes types at.next decl in
    subst (λ n. Lies whole (decls_scopes (types + types_in decl) n rest) (after_decl numbered.table at decl).next) (sym next)
    (right_lies (decl_scopes types at.next decl) (decls_scopes (types + types_in decl) (at.next + scopes_in_decl decl) rest)
    (after_decl numbered.table at decl).next (omega (arith, next, count)) lies)
