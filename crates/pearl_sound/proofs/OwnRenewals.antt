-- The variables that a scope declares get their first values in cells of their own.
use Rattle.std.specs.Prelude.{◌≡◌, ℕ, suc, ◌+◌, Bool, true, false, if◌then◌else◌, List, [], ◌∷◌, ◌++◌, map, take, drop, Option, Some, None, option_map, unwrap_or, slice_get}
use Rattle.std.specs.Option.{option_and_then}
use Rattle.std.specs.List.{AllByRecursion, flat_map}
use Rattle.std.specs.Str.{bytes_eq}
use Rattle.std.proofs.Common.{refl, ap, ◌∙◌, sym, subst, arith}
use Rattle.std.proofs.lemmas.List.{length-map, length-replicate, map-append, take_all}
use Rattle.std.proofs.lemmas.List.Sums.{sum_by-cons}
use Rattle.std.proofs.lemmas.Slice.Eq.{bytes_eq-Decides}
use Rattle.pearl_value.specs.declared.kind.CellKind.TheVariants.{Plain}
use Rattle.pearl_tree.specs.declared.name.Name.{Name}
use Rattle.pearl_tree.specs.Names.{name_text, names_of}
use Rattle.pearl_tree.specs.ShownLiterals.{ShownConst}
use Rattle.pearl_tree.specs.ShownDeclarations.{ShownItem}
use Rattle.pearl_tree.specs.ShownStatements.{ShownBodyDecl}
use Rattle.pearl_tree.specs.ShownModules.{ShownTree}
use Rattle.pearl_names.specs.declared.scope.View.TheVariants.{Within}
use Rattle.pearl_names.specs.FirstNames.{first_index}
use Rattle.pearl_names.specs.Found.{found_in, found_through, names_in, outer_of}
use Rattle.pearl_names.specs.Known.{known_of}
use Rattle.pearl_names.specs.Layout.{Leaf, elements, leaf_slots, slots_of}
use Rattle.pearl_names.specs.Scopes.{Entry, Scope, scopes_of, entries_as, item_entries, body_decl_entries, body_entries}
use Rattle.pearl_names.specs.Scopes as scopes
use Rattle.pearl_names.specs.Sorts.{sorted_names}
use Rattle.pearl_names.specs.Tables.{Variable, Control, OwnParameter, NewType, Semaphore, Interrupt, AlphicDation, BasicDation, Task, Procedure, Sense, senses_of, table_of, leaves_in}
use Rattle.pearl_program.specs.declared.expression.Target.TheVariants as target
use Rattle.pearl_program.specs.PlainStatements.{PlainStmts, NoStmts, MoreStmts}
use Rattle.pearl_program.specs.Typing.{Around, AreOpen, AreOwn}
use Rattle.pearl_program.specs.SoundStatements.{IsIf, AreStmts}
use Rattle.pearl_resolve.specs.Laying.{slots, left_behind, filled_leaves, merged, cells_of_sense}
use Rattle.pearl_resolve.specs.Numbers.{own_numbers, senses_at}
use Rattle.pearl_resolve.specs.Expressions.{Numbered, Meant, meant, meant_at, number_at}
use Rattle.pearl_resolve.specs.Statements.{joined, renewals, variable_renewals, slots_of_meant, names_renewals, items_renewals, declared_renewals}
use Rattle.pearl_resolve_tables.proofs.Offered.{merged_slots, merged_count}
use Rattle.pearl_sound.specs.KnownNames.{IsThereIn}
use Rattle.pearl_sound.specs.Ready.{AreRightFirst}
use Rattle.pearl_sound.specs.Stretches.{Stretch, rows_of, AreInARow}
use Rattle.pearl_sound.proofs.Leading.{thing_of}
use Rattle.pearl_sound.proofs.LocalNames.{lies_from, number_there}
use Rattle.pearl_sound.proofs.Reaching.{LieAt, narrower, map_replicate}
use Rattle.pearl_sound.proofs.ScopesThere.{left_lies, right_lies, scope_senses, scope_named, senses_there}
use Rattle.pearl_sound.proofs.Sighted.{Surrounds, has_cells, lies_get}
use Rattle.pearl_sound.proofs.SimpleStatements.{split_all}
use Rattle.pearl_sound.proofs.Stretched.{Lies, taken}
use Rattle.pearl_sound.proofs.WholeStatements.{joined_sound}

-- what is right in a list of statements is so in both of its parts
pub split_first : (one two : PlainStmts) → AreRightFirst (joined one two) → AreRightFirst one × AreRightFirst two
split_first NoStmts two right = (tt, right)
split_first (MoreStmts statement rest) two right =
    let parts = split_first rest two right.1 in ((right.0, parts.0), parts.1)

-- the first of the leaves in a row of cells
leaf_own : (around : Around) (cell : ℕ) (leaf : Leaf) (rest : List Leaf) → LieAt around (target.Own cell) (leaf ∷ rest) →
    AreOwn around cell (elements leaf.bounds) leaf.kind × LieAt around (target.Own (cell + elements leaf.bounds)) rest
leaf_own around cell leaf rest lie =
    let count = elements leaf.bounds in
    let own = map Plain (leaf_slots leaf) in
    let more = map Plain (slots_of rest) in
    let split = map-append Plain (leaf_slots leaf) (slots_of rest) in
    let lies = subst (λ part. Lies around.cells part cell) split lie.0 in
    let whole = length-map (leaf_slots leaf) (λ kind. Plain kind) in
    let many = length-replicate count leaf.kind in
    let sum = sum_by-cons (λ (leaf : Leaf). elements leaf.bounds) leaf rest in
    let here : cell ≡ cell + 0 = omega arith in (
      (
        ap (λ n. take count (drop n around.cells)) here ∙ taken (left_lies own more lies) count 0 (omega (arith, whole, many)) ∙
            take_all count own (omega (arith, whole, many)) ∙ map_replicate count leaf.kind,
        narrower around.hidden cell (slots (leaf ∷ rest)) cell count (omega arith) (omega (arith, sum)) lie.1,
      ),
      (
        right_lies own more (cell + count) (omega (arith, whole, many)) lies,
        narrower around.hidden cell (slots (leaf ∷ rest)) (cell + count) (slots rest) (omega arith) (omega (arith, sum)) lie.1,
      ),
    )

leaves_renewed : (around : Around) (cell : ℕ) (name : List ℕ) (constants : List ShownConst) (leaves : List Leaf) →
    LieAt around (target.Own cell) leaves → AreRightFirst (renewals cell (filled_leaves name constants leaves)) →
    AreStmts around (renewals cell (filled_leaves name constants leaves))
leaves_renewed around cell name constants [] lie right = tt
leaves_renewed around cell name constants (leaf ∷ rest) lie right =
    let parts = leaf_own around cell leaf rest lie in
    let count = elements leaf.bounds in
    ((right.0, parts.0), leaves_renewed around (cell + count) name (left_behind count constants) rest parts.1 right.1)

-- a variable has its cells
abbrev Held : Around → Meant → Type 0
Held around thing = by thing.sense
  where
    by : Sense → Type 0
    by (Variable form inv) = LieAt around (target.Own thing.number) (leaves_in form)
    by sense = Unit {0}

sense_renewed : (around : Around) (constants : List ShownConst) (sense : Sense) (scope number : ℕ) → Held around (thing_of sense scope number) →
    AreRightFirst (variable_renewals constants (Some (thing_of sense scope number))) →
    AreStmts around (variable_renewals constants (Some (thing_of sense scope number)))
sense_renewed around constants (Variable form inv) scope number held right =
    let leaves = leaves_in form in
    leaves_renewed around number [] constants (merged leaves) (
      subst (λ kinds. Lies around.cells (map Plain kinds) number) (sym (merged_slots leaves)) held.0,
      subst (λ count. AreOpen around.hidden number count) (sym (merged_count leaves)) held.1,
    ) right
sense_renewed around constants sense scope number held right = tt

thing_renewed : (around : Around) (constants : List ShownConst) (found : Option Meant) → IsIf (Held around) found →
    AreRightFirst (variable_renewals constants found) → AreStmts around (variable_renewals constants found)
thing_renewed around constants None held right = tt
thing_renewed around constants (Some thing) held right = sense_renewed around constants thing.sense thing.scope thing.number held right

-- each name of a list is found in it
abbrev IsFoundIn : List Entry → Entry → Type 0
IsFoundIn entries entry = IsThereIn (first_index (sorted_names entries) (name_text entry.name))

weaker : {X : Type 0} (P Q : X → Type 0) (xs : List X) → ((x : X) → P x → Q x) → AllByRecursion P xs → AllByRecursion Q xs
weaker P Q [] more all = tt
weaker P Q (x ∷ xs) more all = (more x all.0, weaker P Q xs more all.1)

further : (entry : Entry) (rest : List Entry) (other : Entry) → IsFoundIn rest other → IsFoundIn (entry ∷ rest) other
unfolding sorted_names
further entry rest other found = by (bytes_eq (name_text other.name) (name_text entry.name))
  where
    by : (test : Bool) → IsThereIn (if test then Some 0 else option_map suc (first_index (sorted_names rest) (name_text other.name)))
    by true = (0, refl)
    by false = (suc found.0, ap (option_map suc) found.1)

all_found : (entries : List Entry) → AllByRecursion (IsFoundIn entries) entries
unfolding sorted_names
all_found [] = tt
all_found (entry ∷ rest) = (
  (
    0,
    ap (λ test. if test then Some 0 else option_map suc (first_index (sorted_names rest) (name_text entry.name)))
        ((bytes_eq-Decides (name_text entry.name) (name_text entry.name)).1 refl),
  ),
  weaker (IsFoundIn rest) (IsFoundIn (entry ∷ rest)) rest (further entry rest) (all_found rest),
)

module _ (tree : ShownTree) (numbers : List (List ℕ)) (start : ℕ) (all : List Stretch) (end to : ℕ)
    (row : AreInARow (table_of tree) start 0 all end to) (inside : Lies numbers (rows_of (table_of tree) all) start) where
  abbrev of : Numbered
  of = record { table = table_of tree; numbers = numbers }

  abbrev Around_of : Around → Type 0
  Around_of around = Surrounds tree numbers start all end to row inside around

  -- the variables of a scope have their cells
  scope_held : (around : Around) → Around_of around → (n k : ℕ) → start + k ≡ n → (scope : Scope) → slice_get (scopes_of tree) n ≡ Some scope →
      (cell from : ℕ) → slice_get (rows_of of.table all) k ≡ Some (own_numbers cell from (senses_at of.table n)) → (j : ℕ) →
      IsIf (Held around) (meant_at of (record { scope = n; entry = j }))
  scope_held around surrounds n k here scope there cell from numbered j =
      subst (λ found. IsIf (Held around) (option_map (λ sense. thing_of sense n (number_at numbers (record { scope = n; entry = j }))) found))
      (sym (ap (option_and_then (λ names. slice_get names j)) (senses_there tree n scope there)))
      (by (slice_get (senses_of (known_of tree) n scope.entries) j) refl)
    where
      by : (found : Option Sense) → slice_get (senses_of (known_of tree) n scope.entries) j ≡ found →
          IsIf (Held around) (option_map (λ sense. thing_of sense n (number_at numbers (record { scope = n; entry = j }))) found)
      by None is = tt
      by (Some (Variable form inv)) is =
          let sense : Sense = Variable form inv in
          let same = scope_senses tree n scope there in
          let means : slice_get (senses_at of.table n) j ≡ Some sense = ap (λ names. slice_get names j) same ∙ is in
          let has = number_there cell from (senses_at of.table n) j sense means in
          let whole = lies_get inside k (own_numbers cell from (senses_at of.table n)) numbered in
          let number_is : has.number ≡ number_at numbers (record { scope = n; entry = j }) =
          sym (ap (λ m. unwrap_or (slice_get (unwrap_or (slice_get numbers m) []) j) 0) (sym here) ∙
          ap (λ found. unwrap_or (slice_get (unwrap_or found []) j) 0) whole ∙ ap (λ found. unwrap_or found 0) has.there) in
          let cells = has_cells tree numbers start all end to row inside around surrounds k (own_numbers cell from (senses_at of.table n)) numbered j has.number sense
          has.there (ap (λ m. slice_get (senses_at of.table m) j) here ∙ means) tt in
          subst (λ number. Held around (thing_of sense n number)) number_is
          (lies_from around.cells (map Plain (slots_of (leaves_in form))) (cells_of_sense sense) has.number cells.lies cells.fits, cells.free)
      by (Some (Control kind)) is = tt
      by (Some (OwnParameter parameter)) is = tt
      by (Some NewType) is = tt
      by (Some Semaphore) is = tt
      by (Some Interrupt) is = tt
      by (Some (AlphicDation direction)) is = tt
      by (Some (BasicDation direction kind)) is = tt
      by (Some Task) is = tt
      by (Some (Procedure parameters result)) is = tt

  module _ (around : Around) (n : ℕ) (held : (j : ℕ) → IsIf (Held around) (meant_at of (record { scope = n; entry = j }))) where
    -- a name that the scope declares
    abbrev IsFoundHere : Entry → Type 0
    IsFoundHere entry = IsThereIn (first_index (names_in (slice_get of.table.names n)) (name_text entry.name))

    name_held : (entry : Entry) → IsFoundHere entry → IsIf (Held around) (meant of (Within n) entry.name)
    name_held entry found =
        subst (λ index. IsIf (Held around) (option_and_then (meant_at of)
        (found_in n index (found_through n of.table.names (name_text entry.name) (outer_of (slice_get of.table.names n))))))
        (sym found.1) (held found.0)

    names_renewed : (item : ShownItem) (types : ℕ) (constants : List ShownConst) (names : List Name) →
        AllByRecursion IsFoundHere (entries_as (scopes.Variable item types) names) → AreRightFirst (names_renewals of n constants names) →
        AreStmts around (names_renewals of n constants names)
    names_renewed item types constants [] found right = tt
    names_renewed item types constants (name ∷ rest) found right =
        let thing = meant of (Within n) name in
        let left = left_behind (slots_of_meant thing) constants in
        let parts = split_first (variable_renewals constants thing) (names_renewals of n left rest) right in
        joined_sound around (variable_renewals constants thing) (names_renewals of n left rest)
        (thing_renewed around constants thing (name_held (record { name = name; meaning = scopes.Variable item types }) found.0) parts.0)
        (names_renewed item types left rest found.1 parts.1)

    items_renewed : (types : ℕ) (items : List ShownItem) → AllByRecursion IsFoundHere (flat_map (item_entries types) items) →
        AreRightFirst (items_renewals of n items) → AreStmts around (items_renewals of n items)
    items_renewed types [] found right = tt
    items_renewed types (item ∷ rest) found right =
        let one = names_renewals of n item.init (names_of item.names) in
        let names = split_all IsFoundHere (item_entries types item) (flat_map (item_entries types) rest) found in
        let parts = split_first one (items_renewals of n rest) right in
        joined_sound around one (items_renewals of n rest) (names_renewed item types item.init (names_of item.names) names.0 parts.0)
        (items_renewed types rest names.1 parts.1)

    declared_renewed : (types : ℕ) (declarations : List ShownBodyDecl) → AllByRecursion IsFoundHere (body_entries types declarations) →
        AreRightFirst (declared_renewals of n declarations) → AreStmts around (declared_renewals of n declarations)
    declared_renewed types [] found right = tt
    declared_renewed types (declaration ∷ rest) found right =
        let one = items_renewals of n declaration.items in
        let names = split_all IsFoundHere (body_decl_entries types declaration) (body_entries types rest) found in
        let parts = split_first one (declared_renewals of n rest) right in
        joined_sound around one (declared_renewals of n rest) (items_renewed types declaration.items names.0 parts.0)
        (declared_renewed types rest names.1 parts.1)

  -- where these names stand first in the scope
  pub scope_renewed : (around : Around) → Around_of around → (n k : ℕ) → start + k ≡ n → (outer : Option ℕ) (front : List Entry) (types : ℕ)
      (declarations : List ShownBodyDecl) →
      slice_get (scopes_of tree) n ≡ Some (record { outer = outer; entries = front ++ body_entries types declarations }) →
      (cell from : ℕ) → slice_get (rows_of of.table all) k ≡ Some (own_numbers cell from (senses_at of.table n)) →
      AreRightFirst (declared_renewals of n declarations) → AreStmts around (declared_renewals of n declarations)
  scope_renewed around surrounds n k here outer front types declarations there cell from numbered right =
      let own : Scope = record { outer = outer; entries = front ++ body_entries types declarations } in
      let found = subst (λ names. AllByRecursion (λ (entry : Entry). IsThereIn (first_index names (name_text entry.name))) own.entries)
      (sym (ap names_in (scope_named tree n own there))) (all_found own.entries) in
      declared_renewed around n (scope_held around surrounds n k here own there cell from numbered) types declarations
      (split_all (λ (entry : Entry). IsThereIn (first_index (names_in (slice_get of.table.names n)) (name_text entry.name))) front
      (body_entries types declarations) found).1 right
