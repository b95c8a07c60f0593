-- The leaves of the module's variables, one after the other.
use Rattle.std.proofs.Common.{◌≡◌, ℕ, ◌+◌, ◌<◌, ◌≤◌, List, ◌++◌, length, map, drop, get_or, sym, ap, ◌∙◌, append_assoc, append-nil}
use Rattle.std.specs.List.{flat_map}
use Rattle.std.proofs.lemmas.List.{drop_all}
use Rattle.pearl_tree.specs.declared.name.Name.{Name}
use Rattle.pearl_tree.specs.ShownLiterals.{ShownConst}
use Rattle.pearl_names.specs.declared.scope.View.TheVariants.{Within}
use Rattle.pearl_program.specs.PlainPrograms.{PlainLeaf}
use Rattle.pearl_resolve.specs.Expressions.{Numbered, meant}
use Rattle.pearl_resolve.specs.Laying.{left_behind}
use Rattle.pearl_resolve.specs.Resolve.{names_leaves, variable_leaves}
use Rattle.pearl_resolve.specs.Statements.{slots_of_meant}
use Rattle.pearl_resolve.proofs.PlainNodes.{one_left}

-- one part more of those that each add some
pub flat_more : {X S Y : Type 0} (show : X → S) (f : S → List Y) (parts : List X) (i : ℕ) (part : X) (made new all : List Y) →
    i < length parts → part ≡ get_or parts i part → new ≡ made ++ f (show part) →
    made ++ flat_map f (map show (drop i parts)) ≡ all → new ++ flat_map f (map show (drop (i + 1) parts)) ≡ all
flat_more show f parts i part made new all inside is adds before =
    ap (λ m. m ++ flat_map f (map show (drop (i + 1) parts))) adds
    ∙ append_assoc made (f (show part)) _
    ∙ ap (λ l. made ++ flat_map f (map show l)) (sym (one_left parts i part inside is))
    ∙ before

pub flat_all : {X S Y : Type 0} (show : X → S) (f : S → List Y) (parts : List X) (i : ℕ) (made all : List Y) → length parts ≤ i →
    made ++ flat_map f (map show (drop i parts)) ≡ all → made ≡ all
flat_all show f parts i made all past before =
    sym (append-nil made) ∙ ap (λ l. made ++ flat_map f (map show l)) (sym (drop_all i parts past)) ∙ before

-- one name more
pub name_leaves_more : (of : Numbered) (names : List Name) (i : ℕ) (name : Name) (constants left : List ShownConst) (count : ℕ)
    (made new all : List PlainLeaf) → i < length names → name ≡ get_or names i name →
    new ≡ made ++ variable_leaves name constants (meant of (Within 0) name) → count ≡ slots_of_meant (meant of (Within 0) name) →
    left ≡ left_behind count constants → made ++ names_leaves of constants (drop i names) ≡ all →
    new ++ names_leaves of left (drop (i + 1) names) ≡ all
name_leaves_more of names i name constants left count made new all inside is adds counted behind before =
    let rest = drop (i + 1) names in
    (λ j. adds j ++ names_leaves of ((behind ∙ ap (λ n. left_behind n constants) counted) j) rest)
    ∙ append_assoc made (variable_leaves name constants (meant of (Within 0) name)) _
    ∙ ap (λ l. made ++ names_leaves of constants l) (sym (one_left names i name inside is))
    ∙ before
