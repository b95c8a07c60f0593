-- When a statement has all that it needs, with all statements within it: names lead to what is there, what it asks for is
-- known, no rule is broken, and its format, its cells and the first values of its variables are there.
use Rattle.std.specs.Prelude.{◌≡◌, ℕ, ◌<◌, Bool, true, false, [], length, map, take, drop, Some, slice_get}
use Rattle.std.specs.List.{AllByRecursion}
use Rattle.pearl_value.specs.declared.kind.Kind.TheVariants.{Fixed}
use Rattle.pearl_value.specs.declared.kind.CellKind.TheVariants.{Plain}
use Rattle.pearl_tree.specs.ShownStatements.{ShownStmt, OfIf, OfCase, OfRepeat, OfBegin, OfOnSemas, OfPut, OfGet, ShownStmts, NoStmts, MoreStmts, ShownBranches, NoBranches, MoreBranches, ShownOtherwise, NoOtherwise, OfOtherwise}
use Rattle.pearl_names.specs.declared.scope.View.TheVariants.{Within, WhileOf}
use Rattle.pearl_scope.specs.declared.places.Spot.{Spot}
use Rattle.pearl_scope.specs.Placed.{Placed}
use Rattle.pearl_check.specs.Asked.{asked_at}
use Rattle.pearl_check.specs.Routines.{RoutineSort, Routine, statements_of}
use Rattle.pearl_check.specs.Rules.{statement_faults}
use Rattle.pearl_program.specs.Typing.{Around, AreCells}
use Rattle.pearl_program.specs.PlainStatements as plain
use Rattle.pearl_program.specs.PlainStatements.{PlainStmt, OfRenew, PlainStmts}
use Rattle.pearl_program.specs.SoundStatements.{AreFirst, within, AreStmts}
use Rattle.pearl_resolve.specs.Numbers.{At, counts, loop_cells, entered, after, after_all, after_branches}
use Rattle.pearl_resolve.specs.Cells.{get_cells}
use Rattle.pearl_resolve.specs.Expressions.{Numbered}
use Rattle.pearl_resolve.specs.Statements.{counter_in, declared_renewals}
use Rattle.pearl_resolve.specs.Resolve.{item_of}
use Rattle.pearl_sound.specs.KnownParts.{IsKnown, Returns}
use Rattle.pearl_sound.specs.SoundNames.{LeadValues, LeadNames, HasSemaphoresApart}

-- apart from the statements within it
pub record IsReady (numbered : Numbered) (sort : RoutineSort) (around : Around) (place : Placed) : Type 0 where
  pub lead : LeadNames numbered (Within place.spot.scope) around
  pub in_loop : place.spot.in_loop ≡ around.in_loop
  pub returns : Returns numbered.table.lengths sort around.returns
  pub known : AllByRecursion (IsKnown numbered.table) (asked_at place)
  pub none : statement_faults numbered.table sort place ≡ []

-- a loop that counts has its cells
abbrev pub HasCounter : Around → ℕ → (counting : Bool) → Type 0
HasCounter around cell true = (len : ℕ) × AreCells around.cells cell 3 (Plain (Fixed len))
HasCounter around cell false = Unit {0}

abbrev pub placed : Spot → At → ShownStmt → Placed
placed spot at statement = record { spot = spot; next = at.next; statement = statement }

abbrev mutual
  pub Stands : Numbered → RoutineSort → Around → Spot → At → ShownStmt → Type 0
  Stands numbered sort around spot at (OfIf condition statements otherwise place) =
      IsReady numbered sort around (placed spot at (OfIf condition statements otherwise place)) ×
      AllStand numbered sort around spot at statements ×
      OtherwiseStands numbered sort around spot (after_all numbered.table at statements) otherwise
  Stands numbered sort around spot at (OfCase selector alternatives otherwise place) =
      IsReady numbered sort around (placed spot at (OfCase selector alternatives otherwise place)) ×
      BranchesStand numbered sort around spot at alternatives ×
      OtherwiseStands numbered sort around spot (after_branches numbered.table at alternatives) otherwise
  Stands numbered sort around spot at (OfRepeat control begin step end condition declarations statements body_place place) =
      IsReady numbered sort around
      (placed spot at (OfRepeat control begin step end condition declarations statements body_place place)) ×
      HasCounter around at.cell (counts control begin step end) ×
      LeadValues numbered (WhileOf at.next) (within around (counter_in numbered spot.scope at control begin step end)) ×
      AreStmts (within around (counter_in numbered spot.scope at control begin step end)) (declared_renewals numbered at.next declarations) ×
      AllStand numbered sort (within around (counter_in numbered spot.scope at control begin step end))
      (record { scope = at.next; in_loop = true }) (entered numbered.table (loop_cells control begin step end) at) statements
  Stands numbered sort around spot at (OfBegin declarations statements body_place place) =
      AreStmts around (declared_renewals numbered at.next declarations) ×
      AllStand numbered sort around (record { scope = at.next; in_loop = spot.in_loop }) (entered numbered.table 0 at) statements
  Stands numbered sort around spot at (OfOnSemas word names place) =
      IsReady numbered sort around (placed spot at (OfOnSemas word names place)) × HasSemaphoresApart numbered (Within spot.scope) ×
      (0 < length names)
  Stands numbered sort around spot at (OfPut values dation formats place) =
      IsReady numbered sort around (placed spot at (OfPut values dation formats place)) ×
      (slice_get around.formats at.format ≡ Some (map item_of formats))
  Stands numbered sort around spot at (OfGet targets dation formats place) =
      IsReady numbered sort around (placed spot at (OfGet targets dation formats place)) ×
      (slice_get around.formats at.format ≡ Some (map item_of formats)) ×
      (take (length (get_cells numbered spot.scope targets)) (drop at.cell around.cells) ≡ get_cells numbered spot.scope targets)
  Stands numbered sort around spot at statement = IsReady numbered sort around (placed spot at statement)

  pub AllStand : Numbered → RoutineSort → Around → Spot → At → ShownStmts → Type 0
  AllStand numbered sort around spot at NoStmts = Unit {0}
  AllStand numbered sort around spot at (MoreStmts statement rest) =
      Stands numbered sort around spot at statement × AllStand numbered sort around spot (after numbered.table at statement) rest

  pub BranchesStand : Numbered → RoutineSort → Around → Spot → At → ShownBranches → Type 0
  BranchesStand numbered sort around spot at NoBranches = Unit {0}
  BranchesStand numbered sort around spot at (MoreBranches statements place rest) =
      AllStand numbered sort around spot at statements ×
      BranchesStand numbered sort around spot (after_all numbered.table at statements) rest

  pub OtherwiseStands : Numbered → RoutineSort → Around → Spot → At → ShownOtherwise → Type 0
  OtherwiseStands numbered sort around spot at NoOtherwise = Unit {0}
  OtherwiseStands numbered sort around spot at (OfOtherwise statements place) = AllStand numbered sort around spot at statements

-- what these statements put into variables as their first values suits them
abbrev pub IsRightFirst : PlainStmt → Type 0
IsRightFirst (OfRenew cell values) = AreFirst values
IsRightFirst statement = Unit {0}

abbrev pub AreRightFirst : PlainStmts → Type 0
AreRightFirst plain.NoStmts = Unit {0}
AreRightFirst (plain.MoreStmts statement rest) = IsRightFirst statement × AreRightFirst rest

-- so does what a loop or BEGIN puts into the variables that it declares
abbrev pub RenewsRight : Numbered → Placed → Type 0
RenewsRight numbered place = by place.statement
  where
    by : ShownStmt → Type 0
    by (OfRepeat control begin step end condition declarations statements body_place at) =
        AreRightFirst (declared_renewals numbered place.next declarations)
    by (OfBegin declarations statements body_place at) = AreRightFirst (declared_renewals numbered place.next declarations)
    by statement = Unit {0}

-- and what a task or procedure puts into its own
abbrev pub RoutineRenewsRight : Numbered → Routine → Type 0
RoutineRenewsRight numbered routine =
    AreRightFirst (declared_renewals numbered routine.scope routine.body.declarations) ×
    AllByRecursion (RenewsRight numbered) (statements_of routine)
