-- A routine has as many cells as the rule counts.
use Rattle.std.specs.Prelude.{◌≡◌, ℕ, zero, suc, ◌+◌, Bool, true, false, if◌then◌else◌, List, [], ◌∷◌, ◌++◌, length, take, drop, Some, unwrap_or, slice_get}
use Rattle.std.specs.List.{sum_by}
use Rattle.std.proofs.Common.{refl, ap, ◌∙◌, arith}
use Rattle.std.proofs.lemmas.List.{length-append, length-map, drop-drop}
use Rattle.std.proofs.lemmas.List.Concat.{length-flat_map}
use Rattle.std.proofs.lemmas.List.Sums.{sum_by-append, sum_by-cons}
use Rattle.pearl_value.specs.declared.kind.Kind.TheVariants.{Fixed}
use Rattle.pearl_value.specs.declared.kind.CellKind.TheVariants.{Plain}
use Rattle.pearl_tree.specs.declared.typing.Sort.TheVariants as sort
use Rattle.pearl_tree.specs.ShownStatements.{ShownStmt, OfIf, OfCase, OfRepeat, OfBegin, OfGet, ShownStmts}
use Rattle.pearl_tree.specs.ShownModules.{ShownBody}
use Rattle.pearl_names.specs.Lengths.{length_at}
use Rattle.pearl_names.specs.Layout.{slots_of}
use Rattle.pearl_names.specs.Scopes.{as_stmts, scopes_in_all, scopes_in_branches}
use Rattle.pearl_names.specs.Tables.{Sense, Variable, Table}
use Rattle.pearl_scope.specs.declared.places.Spot.{Spot}
use Rattle.pearl_scope.specs.Placed.{Placed, placed_all, placed_branches, placed_otherwise, placed_body}
use Rattle.pearl_check.specs.Sizes.{cells, hidden_cells, all_hidden}
use Rattle.pearl_resolve.specs.Laying.{leaves_of_sense}
use Rattle.pearl_resolve.specs.Numbers.{At, counts, loop_cells, entered, after, senses_at, in_body}
use Rattle.pearl_resolve.specs.Expressions.{Numbered}
use Rattle.pearl_resolve.specs.Cells.{sense_cells, scope_cells, counter_cells, cells_in_all, routine_cells}
use Rattle.pearl_sound.proofs.Offered.{Passage, One, Each, Branches, Otherwise, PartsKeep, walk, Pieces, in_turn, pieces, summed, goes, same_sums, get_length}

sense_length : (sense : Sense) → length (sense_cells sense) ≡ cells sense
sense_length (Variable (Some form) inv) = length-map (slots_of (leaves_of_sense (Variable (Some form) inv))) (λ kind. Plain kind)
sense_length sense = refl

-- the cells of so many scopes from this one on
abbrev scopes_cells : List (List Sense) → (from count : ℕ) → ℕ
scopes_cells rows from count = sum_by (sum_by cells) (take count (drop from rows))

one_scope : (rows : List (List Sense)) (n : ℕ) → sum_by cells (unwrap_or (slice_get rows n) []) ≡ scopes_cells rows n 1
one_scope [] zero = refl
one_scope [] (suc n) = refl
one_scope (row ∷ rest) zero = let a = sum_by-cons (sum_by cells) row [] in omega (arith, a)
one_scope (row ∷ rest) (suc n) = one_scope rest n

none_taken : {X : Type 0} (f : X → ℕ) (n : ℕ) → sum_by f (take n []) ≡ 0
none_taken f zero = refl
none_taken f (suc n) = refl

taken : {X : Type 0} (f : X → ℕ) (m n : ℕ) (xs : List X) → sum_by f (take (m + n) xs) ≡ sum_by f (take m xs) + sum_by f (take n (drop m xs))
taken f zero n xs = let same : 0 + n ≡ n = omega arith in let a = ap (λ k. sum_by f (take k xs)) same in omega (arith, a)
taken f (suc m) n [] = let a = none_taken f (suc m + n) in let b = none_taken f n in omega (arith, a, b)
taken f (suc m) n (x ∷ xs) =
    let same : suc m + n ≡ suc (m + n) = omega arith in
    let a = ap (λ k. sum_by f (take k (x ∷ xs))) same in
    let b = sum_by-cons f x (take (m + n) xs) in
    let c = sum_by-cons f x (take m xs) in
    let d = taken f m n xs in
    omega (arith, a, b, c, d)

more_scopes : (rows : List (List Sense)) (from m n : ℕ) →
    scopes_cells rows from (m + n) ≡ scopes_cells rows from m + scopes_cells rows (from + m) n
more_scopes rows from m n =
    let a = taken (sum_by cells) m n (drop from rows) in
    let b = ap (λ xs. sum_by (sum_by cells) (take n xs)) (drop-drop m from rows) in
    omega (arith, a, b)

hidden_both : (one two : List Placed) → all_hidden (one ++ two) ≡ all_hidden one + all_hidden two
hidden_both one two = sum_by-append (λ (place : Placed). hidden_cells place.statement) one two

hidden_first : (place : Placed) (rest : List Placed) → all_hidden (place ∷ rest) ≡ hidden_cells place.statement + all_hidden rest
hidden_first place rest = sum_by-cons (λ (place : Placed). hidden_cells place.statement) place rest

counter_length : (counting : Bool) (len : ℕ) → length (counter_cells counting len) ≡ (if counting then 3 else 0)
counter_length true len = refl
counter_length false len = refl

scope_length : (table : Table) (scope : ℕ) → length (scope_cells table scope) ≡ scopes_cells table.senses scope 1
scope_length table scope =
    length-flat_map sense_cells (senses_at table scope) ∙
    same_sums (λ sense. length (sense_cells sense)) cells sense_length (senses_at table scope) ∙ one_scope table.senses scope

module _ (numbered : Numbered) where
  abbrev of_scopes : (from count : ℕ) → ℕ
  of_scopes from count = scopes_cells numbered.table.senses from count

  abbrev HasCells : Pieces → Type 0
  HasCells piece = (spot : Spot) (at : At) →
      length (piece.cells spot.scope at) ≡ of_scopes at.next piece.scopes + all_hidden (piece.places spot at.next)

  both_cells : (one two : Passage) → HasCells (pieces numbered one) → HasCells (pieces numbered two) →
      HasCells (in_turn (pieces numbered one) (pieces numbered two))
  both_cells one two first second spot at =
      let p = pieces numbered one in
      let q = pieces numbered two in
      let behind = p.after at in
      let a = first spot at in
      let b = second spot behind in
      let c = length-append (p.cells spot.scope at) (q.cells spot.scope behind) in
      let d = more_scopes numbered.table.senses at.next p.scopes q.scopes in
      let past = (goes numbered one spot.scope at).next in
      let e = ap (λ n. of_scopes n q.scopes) past in
      let f = ap (λ n. all_hidden (q.places spot n)) past in
      let g = hidden_both (p.places spot at.next) (q.places spot (at.next + p.scopes)) in
      omega (arith, a, b, c, d, e, f, g)

  stmt_cells : (s : ShownStmt) → PartsKeep (λ passage. HasCells (pieces numbered passage)) s → HasCells (pieces numbered (One s))
  stmt_cells (OfIf condition statements otherwise place) parts = λ spot at.
      let a = both_cells (Each statements) (Otherwise otherwise) parts.0 parts.1 spot at in
      let b = hidden_first (record { spot = spot; next = at.next; statement = OfIf condition statements otherwise place })
      (placed_all spot at.next statements ++ placed_otherwise spot (at.next + scopes_in_all statements) otherwise) in
      omega (arith, a, b)
  stmt_cells (OfCase selector alternatives otherwise place) parts = λ spot at.
      let a = both_cells (Branches alternatives) (Otherwise otherwise) parts.0 parts.1 spot at in
      let b = hidden_first (record { spot = spot; next = at.next; statement = OfCase selector alternatives otherwise place })
      (placed_branches spot at.next alternatives ++ placed_otherwise spot (at.next + scopes_in_branches alternatives) otherwise) in
      omega (arith, a, b)
  stmt_cells (OfRepeat control begin step end condition declarations statements body_place place) parts = λ spot at.
      let inner = entered numbered.table (loop_cells control begin step end) at in
      let inner_spot : Spot = record { scope = at.next; in_loop = true } in
      let counting = counts control begin step end in
      let len = length_at numbered.table.lengths sort.Fixed place in
      let a = parts inner_spot inner in
      let b = counter_length counting len in
      let c = scope_length numbered.table at.next in
      let d = length-append (counter_cells counting len) (scope_cells numbered.table at.next ++ cells_in_all numbered at.next inner statements) in
      let e = length-append (scope_cells numbered.table at.next) (cells_in_all numbered at.next inner statements) in
      let f = more_scopes numbered.table.senses at.next 1 (scopes_in_all statements) in
      let g = hidden_first (record { spot = spot; next = at.next; statement = OfRepeat control begin step end condition declarations statements body_place place })
      (placed_all inner_spot (at.next + 1) statements) in
      omega (arith, a, b, c, d, e, f, g)
  stmt_cells (OfBegin declarations statements body_place place) parts = λ spot at.
      let inner = entered numbered.table 0 at in
      let inner_spot : Spot = record { scope = at.next; in_loop = spot.in_loop } in
      let a = parts inner_spot inner in
      let c = scope_length numbered.table at.next in
      let e = length-append (scope_cells numbered.table at.next) (cells_in_all numbered at.next inner statements) in
      let f = more_scopes numbered.table.senses at.next 1 (scopes_in_all statements) in
      let g = hidden_first (record { spot = spot; next = at.next; statement = OfBegin declarations statements body_place place })
      (placed_all inner_spot (at.next + 1) statements) in
      omega (arith, a, c, e, f, g)
  stmt_cells (OfGet targets dation formats place) parts = λ spot at.
      let a = get_length numbered spot.scope targets in
      let b = hidden_first (record { spot = spot; next = at.next; statement = OfGet targets dation formats place }) [] in
      omega (arith, a, b)
  stmt_cells statement parts = λ spot at. refl

  all_cells : (spot : Spot) (at : At) (statements : ShownStmts) → length (cells_in_all numbered spot.scope at statements) ≡
      of_scopes at.next (scopes_in_all statements) + all_hidden (placed_all spot at.next statements)
  all_cells spot at statements =
      walk (λ passage. HasCells (pieces numbered passage)) (summed numbered HasCells (λ spot at. refl) both_cells stmt_cells)
      (Each statements) spot at

  -- a routine's body begins with the scope that comes next
  pub body_cells : (at : At) (body : ShownBody) → length (routine_cells numbered at body) ≡
      sum_by (sum_by cells) (take (1 + scopes_in_all (as_stmts body.statements)) (drop at.next numbered.table.senses)) +
      all_hidden (placed_body at.next (as_stmts body.statements))
  body_cells at body =
      let statements = as_stmts body.statements in
      let inner = in_body numbered.table at in
      let a = all_cells (record { scope = at.next; in_loop = false }) inner statements in
      let c = scope_length numbered.table at.next in
      let e = length-append (scope_cells numbered.table at.next) (cells_in_all numbered at.next inner statements) in
      let f = more_scopes numbered.table.senses at.next 1 (scopes_in_all statements) in
      omega (arith, a, c, e, f)
