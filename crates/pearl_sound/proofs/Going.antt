-- Statements go past the scopes, cells and formats that they have.
use Rattle.std.specs.Prelude.{◌≡◌, ℕ, ◌+◌, ◌*◌, Bool, true, false, if◌then◌else◌, List, [], ◌∷◌, ◌++◌, length, map, replicate}
use Rattle.std.specs.List.{sum_by}
use Rattle.std.proofs.Common.{refl, ◌∙◌, arith}
use Rattle.std.proofs.lemmas.List.{length-append, length-map, length-replicate}
use Rattle.std.proofs.lemmas.List.Concat.{length-flat_map}
use Rattle.std.proofs.lemmas.List.Sums.{sum_by-cons}
use Rattle.pearl_value.specs.declared.kind.CellKind.{CellKind}
use Rattle.pearl_value.specs.declared.kind.CellKind.TheVariants.{Plain}
use Rattle.pearl_format.specs.declared.item.Item.{Item}
use Rattle.pearl_tree.specs.declared.typing.Sort.TheVariants as sort
use Rattle.pearl_tree.specs.ShownExpressions.{ShownRef}
use Rattle.pearl_tree.specs.ShownStatements.{ShownStmt, OfIf, OfCase, OfRepeat, OfBegin, OfPut, OfGet, ShownStmts}
use Rattle.pearl_tree.specs.ShownModules.{ShownBody}
use Rattle.pearl_names.specs.Lengths.{length_at}
use Rattle.pearl_names.specs.Layout.{Leaf, elements, leaf_slots, slots_of}
use Rattle.pearl_names.specs.Scopes.{as_stmts, scopes_in_all}
use Rattle.pearl_names.specs.Tables.{Sense, Variable, Table}
use Rattle.pearl_resolve.specs.Laying.{leaves_of_sense, slots, cells_of_sense}
use Rattle.pearl_resolve.specs.Numbers.{At, counts, loop_cells, entered, scope_numbers, after_all, numbers_in_all, senses_at, routine_start, in_body, after_body}
use Rattle.pearl_names.specs.declared.scope.View.TheVariants.{Within}
use Rattle.pearl_value.specs.declared.kind.Kind.TheVariants.{Fixed}
use Rattle.pearl_resolve.specs.Expressions.{Numbered, target_kind}
use Rattle.pearl_resolve.specs.Cells.{sense_cells, scope_cells, counter_cells, get_cells, cells_in_all, routine_cells}
use Rattle.pearl_resolve.specs.Resolve.{formats_in_all}
use Rattle.pearl_sound.specs.Laws.{GoesPast}
use Rattle.pearl_sound.proofs.Walk.{Passage, One, Each, Branches, Otherwise, PartsKeep, walk, Pieces, in_turn, pieces, summed}

pub same_sums : {X : Type 0} (f g : X → ℕ) → ((x : X) → f x ≡ g x) → (xs : List X) → sum_by f xs ≡ sum_by g xs
same_sums f g same [] = refl
same_sums f g same (x ∷ xs) = rw (sum_by-cons f x xs, sum_by-cons g x xs, same x, same_sums f g same xs) refl

leaf_length : (leaf : Leaf) → length (leaf_slots leaf) ≡ elements leaf.bounds
leaf_length leaf = length-replicate (elements leaf.bounds) leaf.kind

pub slots_length : (leaves : List Leaf) → length (slots_of leaves) ≡ slots leaves
slots_length leaves =
    length-flat_map leaf_slots leaves ∙ same_sums (λ leaf. length (leaf_slots leaf)) (λ leaf. elements leaf.bounds) leaf_length leaves

variable_length : (leaves : List Leaf) → length (map Plain (slots_of leaves)) ≡ slots leaves
variable_length leaves = length-map (slots_of leaves) (λ kind. Plain kind) ∙ slots_length leaves

pub sense_length : (sense : Sense) → length (sense_cells sense) ≡ cells_of_sense sense
sense_length (Variable form inv) = variable_length (leaves_of_sense (Variable form inv))
sense_length sense = refl

pub scope_length : (table : Table) (scope : ℕ) → length (scope_cells table scope) ≡ sum_by cells_of_sense (senses_at table scope)
scope_length table scope =
    length-flat_map sense_cells (senses_at table scope) ∙
    same_sums (λ sense. length (sense_cells sense)) cells_of_sense sense_length (senses_at table scope)

-- nothing is gone past
stays : (at : At) → GoesPast at at 0 [] [] []
stays at = record { each = refl; next = omega arith; cell = omega arith; format = omega arith }

joins : {from to end : At} (m n : ℕ) (x x' : List (List ℕ)) (y y' : List CellKind) (z z' : List (List Item)) →
    GoesPast from to m x y z → GoesPast to end n x' y' z' → GoesPast from end (m + n) (x ++ x') (y ++ y') (z ++ z')
joins m n x x' y y' z z' one two = record {
  each = length-append x x' ∙ (let a = one.each in let b = two.each in omega (arith, a, b));
  next = let a = one.next in let b = two.next in omega (arith, a, b);
  cell = let a = one.cell in let b = two.cell in let c = length-append y y' in omega (arith, a, b, c);
  format = let a = one.format in let b = two.format in let c = length-append z z' in omega (arith, a, b, c);
}

-- into a scope, before whose cells these stand
enters : (table : Table) (at : At) (hidden : List CellKind) (row : List ℕ) →
    GoesPast at (entered table (length hidden) at) 1 (row ∷ []) (hidden ++ scope_cells table at.next) []
enters table at hidden row = record {
  each = refl;
  next = refl;
  cell = let a = scope_length table at.next in let b = length-append hidden (scope_cells table at.next) in omega (arith, a, b);
  format = omega arith;
}

past_scope : {from end : At} {n : ℕ} {x : List (List ℕ)} {z : List (List Item)} (hidden own inner : List CellKind) →
    GoesPast from end n x ((hidden ++ own) ++ inner) z → GoesPast from end n x (hidden ++ (own ++ inner)) z
past_scope hidden own inner past = record {
  each = past.each;
  next = past.next;
  cell = let a = past.cell in let b = length-append (hidden ++ own) inner in let c = length-append hidden own in
      let d = length-append hidden (own ++ inner) in let e = length-append own inner in omega (arith, a, b, c, d, e);
  format = past.format;
}

-- into a loop
enters_loop : (table : Table) (at : At) (counting : Bool) (len : ℕ) (row : List ℕ) →
    GoesPast at (entered table (if counting then 3 else 0) at) 1 (row ∷ []) (counter_cells counting len ++ scope_cells table at.next) []
enters_loop table at true len row = enters table at (counter_cells true len) row
enters_loop table at false len row = enters table at [] row

pub get_length : (numbered : Numbered) (scope : ℕ) (targets : List ShownRef) → length (get_cells numbered scope targets) ≡ 2 * length targets
get_length numbered scope targets =
    let a = length-append (map (λ target. Plain (target_kind numbered (Within scope) target)) targets) (replicate (length targets) (Plain (Fixed 31))) in
    let b = length-map targets (λ target. Plain (target_kind numbered (Within scope) target)) in
    let c = length-replicate (length targets) (Plain (Fixed 31)) in
    omega (arith, a, b, c)

-- a passage goes past what it brings
abbrev pub Goes : Pieces → Type 0
Goes piece =
    (scope : ℕ) (at : At) → GoesPast at (piece.after at) piece.scopes (piece.numbers at) (piece.cells scope at) piece.formats

both_go : (one two : Pieces) → Goes one → Goes two → Goes (in_turn one two)
both_go one two first second scope at =
    joins one.scopes two.scopes (one.numbers at) (two.numbers (one.after at)) (one.cells scope at) (two.cells scope (one.after at)) one.formats
    two.formats (first scope at) (second scope (one.after at))

module _ (numbered : Numbered) where
  stmt_goes : (s : ShownStmt) → PartsKeep (λ passage. Goes (pieces numbered passage)) s → Goes (pieces numbered (One s))
  stmt_goes (OfIf condition statements otherwise place) parts =
      both_go (pieces numbered (Each statements)) (pieces numbered (Otherwise otherwise)) parts.0 parts.1
  stmt_goes (OfCase selector alternatives otherwise place) parts =
      both_go (pieces numbered (Branches alternatives)) (pieces numbered (Otherwise otherwise)) parts.0 parts.1
  stmt_goes (OfRepeat control begin step end condition declarations statements body_place place) parts = λ scope at.
      let inner = entered numbered.table (loop_cells control begin step end) at in
      let hidden = counter_cells (counts control begin step end) (length_at numbered.table.lengths sort.Fixed place) in
      let row = scope_numbers numbered.table (loop_cells control begin step end) at in
      past_scope hidden (scope_cells numbered.table at.next) (cells_in_all numbered at.next inner statements)
      (joins 1 (scopes_in_all statements) (row ∷ []) (numbers_in_all numbered.table inner statements) (hidden ++ scope_cells numbered.table at.next)
      (cells_in_all numbered at.next inner statements) [] (formats_in_all statements)
      (enters_loop numbered.table at (counts control begin step end) (length_at numbered.table.lengths sort.Fixed place) row)
      (parts at.next inner))
  stmt_goes (OfBegin declarations statements body_place place) parts = λ scope at.
      let inner = entered numbered.table 0 at in
      let row = scope_numbers numbered.table 0 at in
      joins 1 (scopes_in_all statements) (row ∷ []) (numbers_in_all numbered.table inner statements) (scope_cells numbered.table at.next)
      (cells_in_all numbered at.next inner statements) [] (formats_in_all statements) (enters numbered.table at [] row) (parts at.next inner)
  stmt_goes (OfPut values dation formats place) parts = λ scope at.
      record { each = refl; next = omega arith; cell = omega arith; format = refl }
  stmt_goes (OfGet targets dation formats place) parts = λ scope at.
      record { each = refl; next = omega arith; cell = let a = get_length numbered scope targets in omega (arith, a); format = refl }
  stmt_goes statement parts = λ scope at. stays at

  pub goes : (passage : Passage) → Goes (pieces numbered passage)
  goes passage =
      walk (λ passage. Goes (pieces numbered passage))
      (summed numbered Goes (λ scope at. stays at) (λ one two. both_go (pieces numbered one) (pieces numbered two)) stmt_goes) passage

  pub all_go : (scope : ℕ) (at : At) (statements : ShownStmts) →
      GoesPast at (after_all numbered.table at statements) (scopes_in_all statements) (numbers_in_all numbered.table at statements)
      (cells_in_all numbered scope at statements) (formats_in_all statements)
  all_go scope at statements = goes (Each statements) scope at

pub routine_cells_there : (numbered : Numbered) (at : At) (body : ShownBody) →
    (after_body numbered.table at body).cell ≡ length (routine_cells numbered at body)
routine_cells_there numbered at body =
    let inner = enters numbered.table (routine_start at) [] [] in
    let a = inner.cell in
    let b = (all_go numbered at.next (in_body numbered.table at) (as_stmts body.statements)).cell in
    let c = length-append (scope_cells numbered.table at.next) (cells_in_all numbered at.next (in_body numbered.table at) (as_stmts body.statements)) in
    omega (arith, a, b, c)
