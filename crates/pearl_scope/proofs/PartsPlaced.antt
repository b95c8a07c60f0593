-- The parts of statements are those of their places.
use Rattle.std.proofs.Common.{◌≡◌, ℕ, ◌+◌, true, ◌++◌, refl, ap, ◌∙◌, append_assoc}
use Rattle.std.proofs.lemmas.List.{append-nil}
use Rattle.std.proofs.lemmas.Grind.{flat_map-append}
use Rattle.std.specs.List.{flat_map}
use Rattle.pearl_tree.specs.ShownStatements.{ShownStmt, OfIf, OfCase, OfRepeat, OfBegin, ShownStmts, NoStmts, MoreStmts, ShownBranches, NoBranches, MoreBranches, ShownOtherwise, NoOtherwise, OfOtherwise}
use Rattle.pearl_names.specs.Scopes.{scopes_in, scopes_in_all, scopes_in_branches}
use Rattle.pearl_names.specs.declared.scope.View.TheVariants.{Within}
use Rattle.pearl_scope.specs.Parts.{expr_parts, loop_parts, body_decl_parts, simple_parts, stmt_parts, all_parts, branches_parts, otherwise_parts}
use Rattle.pearl_scope.specs.declared.places.Spot.{Spot}
use Rattle.pearl_scope.specs.Placed.{placed_stmt, placed_all, placed_branches, placed_otherwise, parts_at}

mutual
  pub parts_placed : (types : ℕ) (spot : Spot) (next : ℕ) (statement : ShownStmt) →
      flat_map (parts_at types) (placed_stmt spot next statement) ≡ stmt_parts types spot.scope next statement
  parts_placed types spot next (OfIf condition statements otherwise place) =
      ap (λ t. expr_parts (Within spot.scope) condition ++ t)
      (flat_map-append (parts_at types) (placed_all spot next statements) (placed_otherwise spot (next + scopes_in_all statements) otherwise)
      ∙ (λ i. all_placed types spot next statements i ++ otherwise_placed types spot (next + scopes_in_all statements) otherwise i))
  parts_placed types spot next (OfCase selector alternatives otherwise place) =
      ap (λ t. expr_parts (Within spot.scope) selector ++ t)
      (flat_map-append (parts_at types) (placed_branches spot next alternatives) (placed_otherwise spot (next + scopes_in_branches alternatives) otherwise)
      ∙ (λ i. branches_placed types spot next alternatives i ++ otherwise_placed types spot (next + scopes_in_branches alternatives) otherwise i))
  parts_placed types spot next (OfRepeat control begin step end condition declarations statements body_place place) =
      append_assoc (loop_parts spot.scope next begin step end condition) (flat_map (body_decl_parts next types) declarations) _
      ∙ ap (λ t. loop_parts spot.scope next begin step end condition ++ (flat_map (body_decl_parts next types) declarations ++ t))
      (all_placed types (record { scope = next; in_loop = true }) (next + 1) statements)
  parts_placed types spot next (OfBegin declarations statements body_place place) =
      ap (λ t. flat_map (body_decl_parts next types) declarations ++ t)
      (all_placed types (record { scope = next; in_loop = spot.in_loop }) (next + 1) statements)
  parts_placed types spot next statement = append-nil (simple_parts (Within spot.scope) statement)

  pub all_placed : (types : ℕ) (spot : Spot) (next : ℕ) (statements : ShownStmts) →
      flat_map (parts_at types) (placed_all spot next statements) ≡ all_parts types spot.scope next statements
  all_placed types spot next NoStmts = refl
  all_placed types spot next (MoreStmts statement rest) =
      flat_map-append (parts_at types) (placed_stmt spot next statement) (placed_all spot (next + scopes_in statement) rest)
      ∙ (λ i. parts_placed types spot next statement i ++ all_placed types spot (next + scopes_in statement) rest i)

  pub branches_placed : (types : ℕ) (spot : Spot) (next : ℕ) (branches : ShownBranches) →
      flat_map (parts_at types) (placed_branches spot next branches) ≡ branches_parts types spot.scope next branches
  branches_placed types spot next NoBranches = refl
  branches_placed types spot next (MoreBranches statements place rest) =
      flat_map-append (parts_at types) (placed_all spot next statements) (placed_branches spot (next + scopes_in_all statements) rest)
      ∙ (λ i. all_placed types spot next statements i ++ branches_placed types spot (next + scopes_in_all statements) rest i)

  otherwise_placed : (types : ℕ) (spot : Spot) (next : ℕ) (otherwise : ShownOtherwise) →
      flat_map (parts_at types) (placed_otherwise spot next otherwise) ≡ otherwise_parts types spot.scope next otherwise
  otherwise_placed types spot next NoOtherwise = refl
  otherwise_placed types spot next (OfOtherwise statements place) = all_placed types spot next statements
