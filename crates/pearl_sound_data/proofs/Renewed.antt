-- The cells of local variables get what INIT puts into their slots, from name to name.
use Rattle.std.specs.Prelude.{◌≡◌, ℕ, suc, ◌+◌, List, [], ◌∷◌, ◌++◌, length, map, option_map, unwrap_or}
use Rattle.std.specs.List.{AllByRecursion}
use Rattle.std.proofs.Common.{refl, ap, ◌∙◌, sym, append_assoc, arith}
use Rattle.std.proofs.lemmas.List.{length-replicate, map-append}
use Rattle.pearl_value.specs.declared.kind.Kind.{Kind}
use Rattle.pearl_value.specs.declared.cell.Cell.{Cell}
use Rattle.pearl_tree.specs.declared.name.Name.{Name}
use Rattle.pearl_tree.specs.ShownLiterals.{ShownConst}
use Rattle.pearl_names.specs.declared.scope.View.TheVariants.{Within}
use Rattle.pearl_names.specs.Layout.{Leaf, elements, leaf_slots, slots_of}
use Rattle.pearl_scope.specs.Rules.{slots_of_names}
use Rattle.pearl_program.specs.PlainStatements.{PlainStmts, NoStmts, MoreStmts}
use Rattle.pearl_resolve_tables.specs.Laying.{slots, left_behind, filled_leaves, merged}
use Rattle.pearl_resolve_tables.proofs.Offered.{slot_count, merged_slots}
use Rattle.pearl_resolve.specs.Expressions.{Numbered, Meant, meant, number_of}
use Rattle.pearl_resolve.specs.Statements.{joined, names_renewals, renewals, slots_of_meant, variable_renewals}
use Rattle.pearl_sound_data.specs.Laws.{HasLeaves}
use Rattle.pearl_sound_data.specs.Filling.{filled, cells_from, renewed, renewed_by}
use Rattle.pearl_sound_data.proofs.Filling.{leaf_filled, slots_go_on}

filled_long : (kinds : List Kind) (constants : List ShownConst) → length (filled kinds constants) ≡ length kinds
filled_long [] constants = refl
filled_long (kind ∷ kinds) [] = ap (λ n. suc n) (filled_long kinds [])
filled_long (kind ∷ kinds) (last ∷ []) = ap (λ n. suc n) (filled_long kinds (last ∷ []))
filled_long (kind ∷ kinds) (constant ∷ next ∷ rest) = ap (λ n. suc n) (filled_long kinds (next ∷ rest))

from_append : (cell : ℕ) (one two : List Cell) → cells_from cell (one ++ two) ≡ cells_from cell one ++ cells_from (cell + length one) two
from_append cell [] two = let same : cell ≡ cell + 0 = omega arith in ap (λ n. cells_from n two) same
from_append cell (value ∷ one) two =
    let same : cell + 1 + length one ≡ cell + suc (length one) = omega arith in
    ap (λ l. (cell, value) ∷ l) (from_append (cell + 1) one two ∙ ap (λ n. cells_from (cell + 1) one ++ cells_from n two) same)

from_values : (cell : ℕ) (values : List Cell) → map (λ put. put.1) (cells_from cell values) ≡ values
from_values cell [] = refl
from_values cell (value ∷ rest) = ap (λ l. value ∷ l) (from_values (cell + 1) rest)

-- the leaves of one variable
leaves_renewed : (cell : ℕ) (constants : List ShownConst) (leaves : List Leaf) →
    renewed (renewals cell (filled_leaves [] constants leaves)) ≡ cells_from cell (filled (slots_of leaves) constants)
leaves_renewed cell constants [] = refl
leaves_renewed cell constants (leaf ∷ rest) =
    let own = leaf_slots leaf in
    let count = elements leaf.bounds in
    let behind = left_behind count constants in
    let each : length own ≡ count = length-replicate count leaf.kind in
    let long : length (filled own constants) ≡ count = filled_long own constants ∙ each in
    (λ i. cells_from cell (leaf_filled constants leaf i) ++ leaves_renewed (cell + count) behind rest i)
    ∙ (λ i. cells_from cell (filled own constants) ++ cells_from (cell + sym long i) (filled (slots_of rest) (left_behind (sym each i) constants)))
    ∙ sym (from_append cell (filled own constants) (filled (slots_of rest) (left_behind (length own) constants)))
    ∙ ap (cells_from cell) (sym (slots_go_on own (slots_of rest) constants))

pub variable_renewed : (numbered : Numbered) (scope : ℕ) (constants : List ShownConst) (name : Name) (leaves : List Leaf) →
    HasLeaves numbered scope leaves name →
    renewed (variable_renewals constants (meant numbered (Within scope) name)) ≡
    cells_from (number_of numbered (Within scope) name) (filled (slots_of leaves) constants)
variable_renewed numbered scope constants name leaves has =
    let number : has.0.number ≡ number_of numbered (Within scope) name =
    ap (λ found. unwrap_or (option_map (λ (thing : Meant). thing.number) found) 0) (sym has.1) in
    ap (λ found. renewed (variable_renewals constants found)) has.1
    ∙ ap (λ l. renewed (renewals has.0.number (filled_leaves [] constants (merged l)))) has.2
    ∙ leaves_renewed has.0.number constants (merged leaves)
    ∙ ap (λ kinds. cells_from has.0.number (filled kinds constants)) (merged_slots leaves)
    ∙ ap (λ n. cells_from n (filled (slots_of leaves) constants)) number

renewed_joined : (one two : PlainStmts) → renewed (joined one two) ≡ renewed one ++ renewed two
renewed_joined NoStmts two = refl
renewed_joined (MoreStmts statement rest) two =
    ap (λ l. renewed_by statement ++ l) (renewed_joined rest two) ∙ sym (append_assoc (renewed_by statement) (renewed rest) (renewed two))

pub names_renewed : (numbered : Numbered) (scope : ℕ) (constants : List ShownConst) (names : List Name) (leaves : List Leaf) →
    AllByRecursion (HasLeaves numbered scope leaves) names →
    map (λ put. put.1) (renewed (names_renewals numbered scope constants names)) ≡ filled (slots_of_names names leaves) constants
names_renewed numbered scope constants [] leaves all = refl
names_renewed numbered scope constants (name ∷ rest) leaves all =
    let found = meant numbered (Within scope) name in
    let own = variable_renewals constants found in
    let behind = left_behind (slots_of_meant found) constants in
    let values = λ (puts : List (ℕ × Cell)). map (λ put. put.1) puts in
    let count : slots_of_meant found ≡ length (slots_of leaves) = ap slots_of_meant all.0.1 ∙ ap slots all.0.2 ∙ sym (slot_count leaves) in
    ap values (renewed_joined own (names_renewals numbered scope behind rest))
    ∙ map-append (λ put. put.1) (renewed own) (renewed (names_renewals numbered scope behind rest))
    ∙ (λ i. values (variable_renewed numbered scope constants name leaves all.0 i) ++ names_renewed numbered scope behind rest leaves all.1 i)
    ∙ (λ i. from_values (number_of numbered (Within scope) name) (filled (slots_of leaves) constants) i ++ filled (slots_of_names rest leaves) (left_behind (count i) constants))
    ∙ sym (slots_go_on (slots_of leaves) (slots_of_names rest leaves) constants)
