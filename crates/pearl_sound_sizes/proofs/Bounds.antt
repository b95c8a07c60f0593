-- What a routine of the program has, against what the rule counts of it in the tree: as many cells, no more values in a
-- statement, and no calls of other procedures.
use Rattle.std.specs.Prelude.{◌≡◌, ℕ, ◌+◌, ◌≤◌, max, Bool, true, false, if◌then◌else◌, List, [], ◌∷◌, ◌++◌, length, map, filter, filter_map, take, drop, unwrap_or, slice_get}
use Rattle.std.specs.List.{AllByRecursion, flat_map, sum_by, cons_option}
use Rattle.std.proofs.Common.{refl, ap, ◌∙◌, sym, subst, arith, true≢false}
use Rattle.std.proofs.lemmas.List.{length-append}
use Rattle.std.proofs.lemmas.List.Elements.{filter_map-append}
use Rattle.pearl_tree.specs.declared.name.Name.{Name}
use Rattle.pearl_tree.specs.ShownModules.{ShownBody, ShownTree}
use Rattle.pearl_names.specs.declared.scope.View.{View}
use Rattle.pearl_names.specs.declared.scope.View.TheVariants.{Within}
use Rattle.pearl_names.specs.Scopes.{as_stmts, scopes_in_all}
use Rattle.pearl_names.specs.Tables.{Table, table_of}
use Rattle.pearl_scope.specs.Placed.{Placed, placed_body}
use Rattle.pearl_system.specs.declared.device.SpecifiedDevice.{SpecifiedDevice}
use Rattle.pearl_calls.specs.Weights.{greatest}
use Rattle.pearl_check_expr.specs.Subjects.{OfValue, OfWhile, OfTarget, OfCallStatement}
use Rattle.pearl_check.specs.Asked.{Asked, Subject, Named, asked_at}
use Rattle.pearl_check.specs.Calls.{referred, subject_pieces, asked_pieces, called_by, calls_of}
use Rattle.pearl_check.specs.Calls as calling
use Rattle.pearl_check.specs.Pieces.{Piece, Reference, Other, exprs_pieces}
use Rattle.pearl_check.specs.Routines.{Routine, routines_of, statements_of}
use Rattle.pearl_check.specs.Sizes.{cells, all_hidden, cells_of, need, greatest_need, procedure_names}
use Rattle.pearl_check.specs.Views.{seen, view_of, is_procedure_sense}
use Rattle.pearl_program.specs.PlainPrograms.{PlainRoutine}
use Rattle.pearl_program.specs.Weights.{Sizes, greatest_of_all, values}
use Rattle.pearl_resolve.specs.Numbers.{At, in_body}
use Rattle.pearl_resolve.specs.Expressions.{Numbered, number_of}
use Rattle.pearl_resolve.specs.Statements.{resolve_all}
use Rattle.pearl_resolve.specs.Resolve.{resolve_routine, numbered_of}
use Rattle.pearl_sound_sizes.proofs.Basics.{split_all, most}
use Rattle.pearl_sound_sizes.proofs.Measures.{IsMeasure, called_size, pieces_size}
use Rattle.pearl_sound_sizes.proofs.MeasuredStatements.{asked_size, all_size, place_size, body_most, all_most}
use Rattle.pearl_sound_sizes.proofs.Cells.{body_cells}
use Rattle.pearl_sound_sizes.proofs.Called.{called_number}
use Rattle.pearl_sound_sizes.proofs.Kept.{CallsProcedure, AllCall}
use Rattle.pearl_sound_sizes.proofs.Routines.{IsOf}

-- the whole of a body, whatever is taken together
body_size : (sizes : Sizes) (is : IsMeasure sizes) (numbered : Numbered) (at : At) (body : ShownBody) →
    greatest_of_all sizes (resolve_routine numbered at body).body ≤
    most (place_size sizes numbered) (placed_body at.next (as_stmts body.statements))
body_size sizes is numbered at body =
    let inner = in_body numbered.table at in
    let a = all_most sizes is numbered (record { scope = at.next; in_loop = false }) inner (as_stmts body.statements) in
    let b = body_most sizes is numbered at.next body.declarations (resolve_all numbered at.next inner (as_stmts body.statements)) in
    omega (arith, a, b)

routine_size : (sizes : Sizes) (is : IsMeasure sizes) (numbered : Numbered) (plain : PlainRoutine) (routine : Routine) → IsOf numbered plain routine →
    greatest_of_all sizes plain.body ≤ most (place_size sizes numbered) (statements_of routine)
routine_size sizes is numbered plain routine of =
    let a = body_size sizes is numbered of.at routine.body in
    let b = ap (λ (plain : PlainRoutine). greatest_of_all sizes plain.body) of.is in
    let c = ap (λ n. most (place_size sizes numbered) (placed_body n (as_stmts routine.body.statements))) of.next in
    omega (arith, a, b, c)

-- cells
pub routine_has_cells : (numbered : Numbered) (plain : PlainRoutine) (routine : Routine) → IsOf numbered plain routine →
    length plain.cells ≡ cells_of numbered.table routine
routine_has_cells numbered plain routine of =
    ap (λ (plain : PlainRoutine). length plain.cells) of.is ∙ body_cells numbered of.at routine.body ∙
    ap (λ n. sum_by (sum_by cells) (take (1 + scopes_in_all (as_stmts routine.body.statements)) (drop n numbered.table.senses)) +
    all_hidden (placed_body n (as_stmts routine.body.statements))) of.next

-- values
values_add : IsMeasure values
values_add = record {
  left = λ a b. omega arith;
  right = λ a b. omega arith;
  grows = λ a b c d first second. omega (arith, first, second);
  assoc = λ a b c. omega arith;
  none = λ a. omega arith;
}

no_call : (numbered : Numbered) (test : Bool) (number : ℕ) → called_size values numbered test number ≡ 0
no_call numbered true number = refl
no_call numbered false number = refl

pieces_counted : (numbered : Numbered) (view : View) (pieces : List Piece) → pieces_size values numbered view pieces ≡ length pieces
pieces_counted numbered view [] = refl
pieces_counted numbered view (Reference name ∷ rest) =
    let a = no_call numbered (is_procedure_sense (seen numbered.table view name)) (number_of numbered view name) in
    let b = pieces_counted numbered view rest in omega (arith, a, b)
pieces_counted numbered view (Other ∷ rest) = let b = pieces_counted numbered view rest in omega (arith, b)

asked_counted : (numbered : Numbered) (asked : Asked) → asked_size values numbered asked ≡ length (asked_pieces asked)
asked_counted numbered (Subject role scope (OfValue e)) = pieces_counted numbered (view_of scope (OfValue e)) (subject_pieces (OfValue e))
asked_counted numbered (Subject role scope (OfWhile e)) = pieces_counted numbered (view_of scope (OfWhile e)) (subject_pieces (OfWhile e))
asked_counted numbered (Subject role scope (OfTarget reference)) =
    pieces_counted numbered (view_of scope (OfTarget reference)) (subject_pieces (OfTarget reference))
asked_counted numbered (Subject role scope (OfCallStatement name arguments)) =
    let a = pieces_counted numbered (Within scope) (exprs_pieces arguments) in omega (arith, a)
asked_counted numbered (Named role scope name) = refl

all_counted : (numbered : Numbered) (asked : List Asked) → all_size values numbered asked ≡ length (flat_map asked_pieces asked)
all_counted numbered [] = refl
all_counted numbered (one ∷ rest) =
    let a = asked_counted numbered one in
    let b = all_counted numbered rest in
    let c = length-append (asked_pieces one) (flat_map asked_pieces rest) in
    omega (arith, a, b, c)

needs_more : (numbered : Numbered) (places : List Placed) → most (place_size values numbered) places + 2 ≤ max 2 (greatest (map need places))
needs_more numbered [] = omega arith
needs_more numbered (place ∷ rest) =
    let a = all_counted numbered (asked_at place) in
    let b = needs_more numbered rest in
    omega (arith, a, b)

pub routine_needs : (numbered : Numbered) (plain : PlainRoutine) (routine : Routine) → IsOf numbered plain routine →
    greatest_of_all values plain.body + 2 ≤ greatest_need (statements_of routine)
routine_needs numbered plain routine of =
    let a = routine_size values values_add numbered plain routine of in
    let b = needs_more numbered (statements_of routine) in
    omega (arith, a, b)

-- calls
abbrev pub of_calls : (ℕ → ℕ) → Sizes
of_calls call = record { one = 0; call = call; both = max }

calls_grow : (call : ℕ → ℕ) → IsMeasure (of_calls call)
calls_grow call = record {
  left = λ a b. omega arith;
  right = λ a b. omega arith;
  grows = λ a b c d first second. omega (arith, first, second);
  assoc = λ a b c. omega arith;
  none = λ a. omega arith;
}

module _ (tree : ShownTree) (devices : List SpecifiedDevice) (procedures : List ℕ) (call : ℕ → ℕ) (limit : ℕ) where
  abbrev table : Table
  table = table_of tree

  abbrev numbered : Numbered
  numbered = numbered_of table devices procedures tree

  abbrev sizes : Sizes
  sizes = of_calls call

  abbrev names : List Name
  names = procedure_names (routines_of tree)

  -- a call of the procedure in this place is within the limit
  abbrev pub IsWithin : ℕ → Type 0
  IsWithin place = call (unwrap_or (slice_get procedures place) 0) ≤ limit

  abbrev AreWithin : List Name → Type 0
  AreWithin list = AllByRecursion IsWithin (filter_map (calling.number_of names) list)

  abbrev NameIsWithin : View → Name → Type 0
  NameIsWithin view name = is_procedure_sense (seen table view name) ≡ true → call (number_of numbered view name) ≤ limit

  abbrev procedures_seen : View → List Name → List Name
  procedures_seen view list = filter (λ name. is_procedure_sense (seen table view name)) list

  first_within : (view : View) (name : Name) (rest : List Name) → is_procedure_sense (seen table view name) ≡ true → AreWithin (name ∷ rest) →
      (call (number_of numbered view name) ≤ limit) × AreWithin rest
  first_within view name rest is all =
      let called = called_number tree devices procedures view name is in
      let own = subst (λ found. AllByRecursion IsWithin (cons_option found (filter_map (calling.number_of names) rest))) called.there all in
      (subst (λ n. call n ≤ limit) (sym called.is) own.0, own.1)

  one_within : (view : View) (name : Name) (rest : List Name) (test : Bool) → is_procedure_sense (seen table view name) ≡ test →
      AreWithin (if test then name ∷ procedures_seen view rest else procedures_seen view rest) →
      (AreWithin (procedures_seen view rest) → AllByRecursion (NameIsWithin view) rest) → AllByRecursion (NameIsWithin view) (name ∷ rest)
  one_within view name rest true is all more =
      let own = first_within view name (procedures_seen view rest) is all in (λ same. own.0, more own.1)
  one_within view name rest false is all more = (λ same. absurd (true≢false (sym same ∙ is)), more all)

  names_within : (view : View) (list : List Name) → AreWithin (procedures_seen view list) → AllByRecursion (NameIsWithin view) list
  names_within view [] all = tt
  names_within view (name ∷ rest) all =
      one_within view name rest (is_procedure_sense (seen table view name)) refl all (λ own. names_within view rest own)

  call_within : (test : Bool) (number : ℕ) → (test ≡ true → call number ≤ limit) → called_size sizes numbered test number ≤ limit
  call_within true number all = all refl
  call_within false number all = omega arith

  pieces_within : (view : View) (pieces : List Piece) → AllByRecursion (NameIsWithin view) (flat_map referred pieces) →
      pieces_size sizes numbered view pieces ≤ limit
  pieces_within view [] all = omega arith
  pieces_within view (Reference name ∷ rest) all =
      let a = call_within (is_procedure_sense (seen table view name)) (number_of numbered view name) all.0 in
      let b = pieces_within view rest all.1 in omega (arith, a, b)
  pieces_within view (Other ∷ rest) all = let b = pieces_within view rest all in omega (arith, b)

  asked_within : (asked : Asked) → CallsProcedure table asked → AreWithin (called_by table asked) → asked_size sizes numbered asked ≤ limit
  asked_within (Subject role scope (OfValue e)) is all =
      let view = view_of scope (OfValue e) in
      let pieces = subject_pieces (OfValue e) in
      pieces_within view pieces (names_within view (flat_map referred pieces) all)
  asked_within (Subject role scope (OfWhile e)) is all =
      let view = view_of scope (OfWhile e) in
      let pieces = subject_pieces (OfWhile e) in
      pieces_within view pieces (names_within view (flat_map referred pieces) all)
  asked_within (Subject role scope (OfTarget reference)) is all =
      let view = view_of scope (OfTarget reference) in
      let pieces = subject_pieces (OfTarget reference) in
      pieces_within view pieces (names_within view (flat_map referred pieces) all)
  asked_within (Subject role scope (OfCallStatement name arguments)) is all =
      let view = Within scope in
      let pieces = exprs_pieces arguments in
      let own = names_within view (name ∷ flat_map referred pieces) all in
      let a = own.0 is in
      let b = pieces_within view pieces own.1 in
      omega (arith, a, b)
  asked_within (Named role scope name) is all = omega arith

  both_within : (one two : List Name) → AreWithin (one ++ two) → AreWithin one × AreWithin two
  both_within one two all =
      split_all IsWithin (filter_map (calling.number_of names) one) (filter_map (calling.number_of names) two)
      (subst (AllByRecursion IsWithin) (filter_map-append (calling.number_of names) one two) all)

  all_within : (asked : List Asked) → AllCall table asked → AreWithin (flat_map (called_by table) asked) → all_size sizes numbered asked ≤ limit
  all_within [] is all = omega arith
  all_within (one ∷ rest) is all =
      let parts = both_within (called_by table one) (flat_map (called_by table) rest) all in
      let a = asked_within one is.0 parts.0 in
      let b = all_within rest is.1 parts.1 in
      omega (arith, a, b)

  places_within : (places : List Placed) → AllByRecursion (λ place. AllCall table (asked_at place)) places →
      AreWithin (flat_map (λ place. flat_map (called_by table) (asked_at place)) places) → most (place_size sizes numbered) places ≤ limit
  places_within [] is all = omega arith
  places_within (place ∷ rest) is all =
      let parts = both_within (flat_map (called_by table) (asked_at place)) (flat_map (λ place. flat_map (called_by table) (asked_at place)) rest) all in
      let a = all_within (asked_at place) is.0 parts.0 in
      let b = places_within rest is.1 parts.1 in
      omega (arith, a, b)

  -- where each call that the tree has is within the limit, so are those of the program
  pub routine_calls : (plain : PlainRoutine) (routine : Routine) → IsOf numbered plain routine →
      AllByRecursion (λ place. AllCall table (asked_at place)) (statements_of routine) →
      AllByRecursion IsWithin (calls_of table names routine) → greatest_of_all sizes plain.body ≤ limit
  routine_calls plain routine of is all =
      let a = routine_size sizes (calls_grow call) numbered plain routine of in
      let b = places_within (statements_of routine) is all in
      omega (arith, a, b)
