-- All statements of a module, each with where it stands.
use Rattle.std.specs.Prelude.{◌≡◌, ℕ, ◌+◌, true, false, List, [], ◌∷◌, ◌++◌, map}
use Rattle.pearl_tree.specs.ShownStatements.{ShownStmt, OfIf, OfCase, OfRepeat, OfBegin, ShownStmts, NoStmts, MoreStmts, ShownBranches, NoBranches, MoreBranches, ShownOtherwise, NoOtherwise, OfOtherwise, shown_stmt}
use Rattle.pearl_names.specs.Scopes.{scopes_in, scopes_in_all, scopes_in_branches}
use Rattle.std.specs.List.{flat_map}
use Rattle.pearl_names.specs.declared.scope.View.TheVariants.{Within}
use Rattle.pearl_scope.specs.Parts.{Part, expr_parts, loop_parts, body_decl_parts, simple_parts}
use Rattle.pearl_scope.specs.declared.places.Spot.{Spot}
use Rattle.pearl_scope.specs.declared.places.Place.{Place}

pub record Placed : Type 0 where
  pub spot : Spot
  -- the number of the first scope that begins with it, if one does
  pub next : ℕ
  pub statement : ShownStmt

abbrev mutual
  -- the first scope within has the number `next`
  pub placed_stmt : Spot → (next : ℕ) → ShownStmt → List Placed
  placed_stmt spot next (OfIf condition statements otherwise place) =
      record { spot = spot; next = next; statement = OfIf condition statements otherwise place } ∷
      (placed_all spot next statements ++ placed_otherwise spot (next + scopes_in_all statements) otherwise)
  placed_stmt spot next (OfCase selector alternatives otherwise place) =
      record { spot = spot; next = next; statement = OfCase selector alternatives otherwise place } ∷
      (placed_branches spot next alternatives ++ placed_otherwise spot (next + scopes_in_branches alternatives) otherwise)
  placed_stmt spot next (OfRepeat control begin step end condition declarations statements body_place place) =
      record { spot = spot; next = next; statement = OfRepeat control begin step end condition declarations statements body_place place } ∷
      placed_all (record { scope = next; in_loop = true }) (next + 1) statements
  placed_stmt spot next (OfBegin declarations statements body_place place) =
      record { spot = spot; next = next; statement = OfBegin declarations statements body_place place } ∷
      placed_all (record { scope = next; in_loop = spot.in_loop }) (next + 1) statements
  placed_stmt spot next statement = record { spot = spot; next = next; statement = statement } ∷ []

  pub placed_all : Spot → (next : ℕ) → ShownStmts → List Placed
  placed_all spot next NoStmts = []
  placed_all spot next (MoreStmts statement rest) =
      placed_stmt spot next statement ++ placed_all spot (next + scopes_in statement) rest

  pub placed_branches : Spot → (next : ℕ) → ShownBranches → List Placed
  placed_branches spot next NoBranches = []
  placed_branches spot next (MoreBranches statements place rest) =
      placed_all spot next statements ++ placed_branches spot (next + scopes_in_all statements) rest

  pub placed_otherwise : Spot → (next : ℕ) → ShownOtherwise → List Placed
  placed_otherwise spot next NoOtherwise = []
  placed_otherwise spot next (OfOtherwise statements place) = placed_all spot next statements

-- those of a body that is the scope of this number
abbrev pub placed_body : (scope : ℕ) → ShownStmts → List Placed
placed_body scope statements = placed_all (record { scope = scope; in_loop = false }) (scope + 1) statements

abbrev pub placed_at : Place → Placed
placed_at place = record { spot = place.spot; next = place.next; statement = shown_stmt place.stmt.now }

-- what a list of places in memory tells
unfoldable pub placed_in : List Place → List Placed
placed_in places = map placed_at places

-- places are added behind those that stood there
pub record Grows (old new : List Place) : Type 0 where
  pub more : List Place
  pub is : new ≡ old ++ more

-- what may be broken in a statement by itself, apart from those within it
abbrev pub parts_at : (types : ℕ) → Placed → List Part
parts_at types place = of place.statement
  where
    of : ShownStmt → List Part
    of (OfIf condition statements rest at) = expr_parts (Within place.spot.scope) condition
    of (OfCase selector alternatives rest at) = expr_parts (Within place.spot.scope) selector
    of (OfRepeat control begin step end condition declarations statements body_place at) =
        loop_parts place.spot.scope place.next begin step end condition ++ flat_map (body_decl_parts place.next types) declarations
    of (OfBegin declarations statements body_place at) = flat_map (body_decl_parts place.next types) declarations
    of statement = simple_parts (Within place.spot.scope) statement
