-- The first values of the variables that a scope declares, one after the other.
use Rattle.std.proofs.Common.{◌≡◌, ℕ, ◌+◌, ◌<◌, ◌≤◌, List, [], ◌∷◌, ◌++◌, length, map, drop, get_or, refl, sym, ap, ◌∙◌, arith}
use Rattle.std.proofs.lemmas.List.{drop_all}
use Rattle.pearl_tree.specs.declared.name.Name.{Name}
use Rattle.pearl_tree.specs.ShownLiterals.{ShownConst}
use Rattle.pearl_program.specs.declared.statement.Stmt.{Stmt}
use Rattle.pearl_program.specs.declared.table.FirstValues.{FirstValues}
use Rattle.pearl_program.specs.PlainPrograms.{PlainLeaf}
use Rattle.pearl_program.specs.PlainStatements.{PlainStmt, OfRenew, PlainStmts, NoStmts, MoreStmts, plain_stmt, plain_stmts, plain_values}
use Rattle.pearl_names.specs.declared.scope.View.TheVariants.{Within}
use Rattle.pearl_resolve.specs.Expressions.{Numbered, meant}
use Rattle.pearl_resolve.specs.Holding.{values_renewals}
use Rattle.pearl_resolve.specs.Laying.{left_behind}
use Rattle.pearl_resolve.specs.Statements.{alone, joined, names_renewals, renewals, slots_of_meant, variable_renewals}
use Rattle.pearl_resolve.proofs.PlainNodes.{one_left}
use Rattle.pearl_resolve.proofs.Resolving.{joined_joined, joined_none, pushed}

joined_pushed : (made new : List Stmt) (s : Stmt) (is : PlainStmt) (rest : PlainStmts) → new ≡ made ++ s ∷ [] → plain_stmt s ≡ is →
    joined (plain_stmts new) rest ≡ joined (plain_stmts made) (MoreStmts is rest)
joined_pushed made new s is rest more so = ap (λ m. joined m rest) (pushed made new s is more so) ∙ joined_joined (plain_stmts made) (alone is) rest

-- the first values of one leaf more
pub values_more : (left rest : List FirstValues) (own : FirstValues) (cell next : ℕ) (made new : List Stmt) (s : Stmt) (all : PlainStmts) → left ≡ own ∷ rest →
    plain_stmt s ≡ OfRenew cell (plain_values own) → next ≡ cell + own.count → new ≡ made ++ s ∷ [] →
    joined (plain_stmts made) (values_renewals cell (map plain_values left)) ≡ all → joined (plain_stmts new) (values_renewals next (map plain_values rest)) ≡ all
values_more left rest own cell next made new s all is renews further more before =
    joined_pushed made new s _ (values_renewals next (map plain_values rest)) more renews
    ∙ ap (λ n. joined (plain_stmts made) (MoreStmts (OfRenew cell (plain_values own)) (values_renewals n (map plain_values rest)))) further
    ∙ ap (λ l. joined (plain_stmts made) (values_renewals cell (map plain_values l))) (sym is)
    ∙ before

pub values_all : (left : List FirstValues) (cell : ℕ) (made : List Stmt) (all : PlainStmts) → left ≡ [] →
    joined (plain_stmts made) (values_renewals cell (map plain_values left)) ≡ all → plain_stmts made ≡ all
values_all left cell made all none before =
    sym (joined_none (plain_stmts made)) ∙ ap (λ l. joined (plain_stmts made) (values_renewals cell (map plain_values l))) (sym none) ∙ before

-- the names of leaves don't count
pub leaves_renew : (cell : ℕ) (leaves : List PlainLeaf) → values_renewals cell (map (λ (leaf : PlainLeaf). leaf.values) leaves) ≡ renewals cell leaves
leaves_renew cell [] = refl
leaves_renew cell (leaf ∷ rest) = ap (MoreStmts (OfRenew cell leaf.values)) (leaves_renew (cell + leaf.values.count) rest)

pub nothing_left : {X : Type 0} (left : List X) → length left ≡ 0 → left ≡ []
nothing_left [] h = refl
nothing_left (x ∷ left) h = absurd (omega (arith, h))

-- one name more
pub name_more : (of : Numbered) (scope : ℕ) (names : List Name) (i : ℕ) (name : Name) (constants left : List ShownConst) (count : ℕ)
    (made new all : PlainStmts) → i < length names → name ≡ get_or names i name →
    new ≡ joined made (variable_renewals constants (meant of (Within scope) name)) → count ≡ slots_of_meant (meant of (Within scope) name) →
    left ≡ left_behind count constants → joined made (names_renewals of scope constants (drop i names)) ≡ all →
    joined new (names_renewals of scope left (drop (i + 1) names)) ≡ all
name_more of scope names i name constants left count made new all inside is adds counted behind before =
    let rest = drop (i + 1) names in
    (λ j. joined (adds j) (names_renewals of scope ((behind ∙ ap (λ n. left_behind n constants) counted) j) rest))
    ∙ joined_joined made (variable_renewals constants (meant of (Within scope) name)) _
    ∙ ap (λ l. joined made (names_renewals of scope constants l)) (sym (one_left names i name inside is))
    ∙ before

-- one part more of those that each become statements
pub part_more : {X S : Type 0} (show : X → S) (f : S → PlainStmts) (g : List S → PlainStmts) (next : (s : S) (rest : List S) → g (s ∷ rest) ≡ joined (f s) (g rest))
    (parts : List X) (i : ℕ) (part : X) (made new all : PlainStmts) → i < length parts → part ≡ get_or parts i part → new ≡ joined made (f (show part)) →
    joined made (g (map show (drop i parts))) ≡ all → joined new (g (map show (drop (i + 1) parts))) ≡ all
part_more show f g next parts i part made new all inside is adds before =
    ap (λ m. joined m (g (map show (drop (i + 1) parts)))) adds
    ∙ joined_joined made (f (show part)) _
    ∙ ap (joined made) (sym (next (show part) (map show (drop (i + 1) parts))))
    ∙ ap (λ l. joined made (g (map show l))) (sym (one_left parts i part inside is))
    ∙ before

pub parts_all : {X S : Type 0} (show : X → S) (g : List S → PlainStmts) (none : g [] ≡ NoStmts) (parts : List X) (i : ℕ) (made all : PlainStmts) →
    length parts ≤ i → joined made (g (map show (drop i parts))) ≡ all → made ≡ all
parts_all show g none parts i made all past before =
    sym (joined_none made) ∙ ap (joined made) (sym none) ∙ ap (λ l. joined made (g (map show l))) (sym (drop_all i parts past)) ∙ before
