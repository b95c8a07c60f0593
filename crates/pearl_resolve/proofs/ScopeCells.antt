-- The cells of the names of a scope, one after the other.
use Rattle.std.proofs.Common.{◌≡◌, Bool, ℕ, zero, suc, ◌+◌, ◌<◌, List, [], ◌∷◌, ◌++◌, length, map, replicate, take, get_or, Option, refl, sym, ap, ◌∙◌, append_assoc, append-nil, arith}
use Rattle.std.specs.List.{flat_map, sum_by}
use Rattle.std.proofs.lemmas.List.{map-append}
use Rattle.std.proofs.lemmas.List.Sums.{sum_by-cons}
use Rattle.pearl_value.specs.declared.kind.Kind.{Kind}
use Rattle.pearl_value.specs.declared.kind.CellKind.{CellKind}
use Rattle.pearl_value.specs.declared.kind.CellKind.TheVariants.{Plain}
use Rattle.pearl_tree.specs.ShownLiterals.{ShownConst}
use Rattle.pearl_names.specs.declared.sense.Form.{Form as HeldForm}
use Rattle.pearl_names.specs.declared.sense.Sense.TheVariants as held
use Rattle.pearl_names.specs.declared.types.StructForm.{StructForm}
use Rattle.pearl_names.specs.Holding.{HoldsSense}
use Rattle.pearl_names.specs.Layout.{Leaf, elements, slots_of}
use Rattle.pearl_names.specs.Tables.{Sense, Variable, Control, OwnParameter, NewType, Semaphore, Interrupt, AlphicDation, BasicDation, Task, Procedure}
use Rattle.pearl_names.proofs.Offered.{one_taken}
use Rattle.pearl_program.specs.declared.table.FirstValues.{FirstValues}
use Rattle.pearl_program.specs.PlainStatements.{plain_values}
use Rattle.pearl_resolve.specs.Cells.{sense_cells}
use Rattle.pearl_resolve.specs.Holding.{values_cells}
use Rattle.pearl_resolve.specs.Laying.{cells_of_sense, filled_values, leaves_of_sense, left_behind, slots}

flat_push : {X Y : Type 0} (f : X → List Y) (xs : List X) (x : X) → flat_map f (xs ++ x ∷ []) ≡ flat_map f xs ++ f x
flat_push f [] x = append-nil (f x)
flat_push f (y ∷ xs) x = ap (λ l. f y ++ l) (flat_push f xs x) ∙ sym (append_assoc (f y) (flat_map f xs) (f x))

-- the cells of one leaf more
pub values_cells_more : (values : List FirstValues) (i : ℕ) (own : FirstValues) (old made more : List CellKind) → i < length values → own ≡ get_or values i own →
    made ≡ old ++ flat_map values_cells (map plain_values (take i values)) → more ≡ made ++ values_cells (plain_values own) →
    more ≡ old ++ flat_map values_cells (map plain_values (take (i + 1) values))
values_cells_more values i own old made more inside is before adds =
    adds
    ∙ ap (λ l. l ++ values_cells (plain_values own)) before
    ∙ append_assoc old (flat_map values_cells (map plain_values (take i values))) (values_cells (plain_values own))
    ∙ ap (λ l. old ++ l) (sym (ap (λ l. flat_map values_cells (map plain_values l)) (one_taken values i own inside is)
    ∙ ap (flat_map values_cells) (map-append plain_values (take i values) (own ∷ []))
    ∙ flat_push values_cells (map plain_values (take i values)) (plain_values own)))

plain_replicate : (n : ℕ) (kind : Kind) → replicate n (Plain kind) ≡ map Plain (replicate n kind)
plain_replicate zero kind = refl
plain_replicate (suc n) kind = ap (λ l. Plain kind ∷ l) (plain_replicate n kind)

-- the cells of filled leaves are the slots of the leaves
pub filled_cells : (constants : List ShownConst) (leaves : List Leaf) → flat_map values_cells (filled_values constants leaves) ≡ map Plain (slots_of leaves)
filled_cells constants [] = refl
filled_cells constants (leaf ∷ rest) =
    (λ i. plain_replicate (elements leaf.bounds) leaf.kind i ++ filled_cells (left_behind (elements leaf.bounds) constants) rest i)
    ∙ sym (map-append Plain (replicate (elements leaf.bounds) leaf.kind) (slots_of rest))

-- the cells of a variable
pub variable_count : (forms : List StructForm) (form : Option HeldForm) (inv : Bool) (of : Sense) → HoldsSense forms (held.Variable form inv) of →
    slots (leaves_of_sense of) ≡ cells_of_sense of
variable_count forms form inv (Variable of fixed) h = refl
variable_count forms form inv (Control kind) h = absurd h
variable_count forms form inv (OwnParameter parameter) h = absurd h
variable_count forms form inv NewType h = absurd h
variable_count forms form inv Semaphore h = absurd h
variable_count forms form inv Interrupt h = absurd h
variable_count forms form inv (AlphicDation direction) h = absurd h
variable_count forms form inv (BasicDation direction kind) h = absurd h
variable_count forms form inv Task h = absurd h
variable_count forms form inv (Procedure parameters result) h = absurd h

pub variable_cells : (forms : List StructForm) (form : Option HeldForm) (inv : Bool) (of : Sense) → HoldsSense forms (held.Variable form inv) of →
    map Plain (slots_of (leaves_of_sense of)) ≡ sense_cells of
variable_cells forms form inv (Variable of fixed) h = refl
variable_cells forms form inv (Control kind) h = absurd h
variable_cells forms form inv (OwnParameter parameter) h = absurd h
variable_cells forms form inv NewType h = absurd h
variable_cells forms form inv Semaphore h = absurd h
variable_cells forms form inv Interrupt h = absurd h
variable_cells forms form inv (AlphicDation direction) h = absurd h
variable_cells forms form inv (BasicDation direction kind) h = absurd h
variable_cells forms form inv Task h = absurd h
variable_cells forms form inv (Procedure parameters result) h = absurd h

-- so far the cells of some names are made and counted
pub record CellsSo (made all : List CellKind) (count total : ℕ) (left : List Sense) : Type 0 where
  pub cells : made ++ flat_map sense_cells left ≡ all
  pub counted : count + sum_by cells_of_sense left ≡ total

pub cells_more : (made more all : List CellKind) (count next own total : ℕ) (sense : Sense) (left : List Sense) →
    CellsSo made all count total (sense ∷ left) → more ≡ made ++ sense_cells sense → own ≡ cells_of_sense sense → next ≡ count + own →
    CellsSo more all next total left
cells_more made more all count next own total sense left so adds counts sums =
    let after : next ≡ count + cells_of_sense sense = sums ∙ ap (λ n. count + n) counts in
    let whole : count + (cells_of_sense sense + sum_by cells_of_sense left) ≡ total =
    ap (λ n. count + n) (sym (sum_by-cons cells_of_sense sense left)) ∙ so.counted in
    let moved : (count + cells_of_sense sense) + sum_by cells_of_sense left ≡ total = omega (arith, whole) in
    record {
      cells = ap (λ l. l ++ flat_map sense_cells left) adds ∙ append_assoc made (sense_cells sense) (flat_map sense_cells left) ∙ so.cells;
      counted = ap (λ n. n + sum_by cells_of_sense left) after ∙ moved;
    }

pub cells_all : (made all : List CellKind) (count total : ℕ) → CellsSo made all count total [] → (made ≡ all) × (count ≡ total)
cells_all made all count total so =
    let none : sum_by cells_of_sense [] ≡ 0 = refl in
    let same : count ≡ count + sum_by cells_of_sense [] = omega (arith, none) in
    (sym (append-nil made) ∙ so.cells, same ∙ so.counted)
