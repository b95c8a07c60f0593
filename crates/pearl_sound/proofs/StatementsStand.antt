-- The statements of a routine have all that they need, where names lead to what is there and no rule is broken.
use Rattle.std.specs.Prelude.{◌≡◌, ℕ, ◌+◌, Bool, true, false, List, [], ◌∷◌, ◌++◌, length, map, take, drop, Some, slice_get}
use Rattle.std.specs.List.{AllByRecursion, flat_map}
use Rattle.std.proofs.Common.{refl, ap, ◌∙◌, sym, subst, arith}
use Rattle.std.proofs.lemmas.List.{take_all}
use Rattle.pearl_format.specs.declared.item.Item.{Item}
use Rattle.pearl_tree.specs.declared.typing.Sort.TheVariants as sorts
use Rattle.pearl_tree.specs.ShownStatements as shown
use Rattle.pearl_tree.specs.ShownStatements.{ShownStmt, ShownStmts}
use Rattle.pearl_tree.specs.ShownModules.{ShownTree}
use Rattle.pearl_names.specs.declared.scope.View.TheVariants.{Within}
use Rattle.pearl_names.specs.Lengths.{length_at}
use Rattle.pearl_names.specs.Scopes.{Scope, control_entries, body_entries, all_scopes}
use Rattle.pearl_names.specs.Tables.{table_of}
use Rattle.pearl_scope.specs.declared.places.Spot.{Spot}
use Rattle.pearl_scope.specs.Placed.{Placed}
use Rattle.pearl_check.specs.Asked.{asked_at}
use Rattle.pearl_check.specs.Roles.{asked_faults}
use Rattle.pearl_check.specs.Routines.{RoutineSort}
use Rattle.pearl_check.specs.Rules.{own_faults, statement_faults}
use Rattle.pearl_program.specs.Typing.{Around}
use Rattle.pearl_program.specs.SoundStatements.{within}
use Rattle.pearl_resolve.specs.Numbers.{At, counts, loop_cells, entered, scope_numbers, numbers_in_all}
use Rattle.pearl_resolve.specs.Cells.{counter_cells, get_cells}
use Rattle.pearl_resolve.specs.Expressions.{Numbered}
use Rattle.pearl_resolve.specs.Statements.{counter_in}
use Rattle.pearl_resolve.specs.Resolve.{item_of}
use Rattle.pearl_sound.specs.KnownParts.{HasItsNames, AskedLiterals, NamesSome, Returns}
use Rattle.pearl_sound.specs.Ready.{IsReady, HasCounter, placed, Stands, AllStand, BranchesStand, OtherwiseStands, RenewsRight}
use Rattle.pearl_sound.specs.Sights.{Sight}
use Rattle.pearl_sound.specs.SoundNames.{LeadNames, HasSemaphoresApart}
use Rattle.pearl_sound.specs.Stretches.{Stretch, OfLoop, OfTargets, loop_stretch, scope_stretch, stretches_in_all, cells_of, rows_of, AreInARow}
use Rattle.pearl_sound.proofs.AskedKnown.{all_asked_known}
use Rattle.pearl_sound.proofs.Going.{goes}
use Rattle.pearl_sound.proofs.OwnRenewals.{scope_renewed}
use Rattle.pearl_sound.proofs.ScopesThere.{head_there, left_lies, right_lies}
use Rattle.pearl_sound.proofs.Sighted.{Surrounds, StandsAt, first_stands, second_stands, inner_stands}
use Rattle.pearl_sound.proofs.SimpleStatements.{left_none, split_all}
use Rattle.pearl_sound.proofs.Stretched.{Lies, taken, place as stretch_place, cells_lie}
use Rattle.pearl_sound.proofs.Walk.{Passage, One, Each, Branches, Otherwise, PartsKeep, walk, Pieces, in_turn, pieces}

-- a statement that breaks no rule, with known names and values, and right first values of its variables
pub record IsWell (numbered : Numbered) (sort : RoutineSort) (place : Placed) : Type 0 where
  pub none : statement_faults numbered.table sort place ≡ []
  pub names : AllByRecursion (HasItsNames numbered.table) (asked_at place)
  pub literals : AllByRecursion (AskedLiterals numbered.table.lengths) (asked_at place)
  pub some : NamesSome place.statement
  pub renews : RenewsRight numbered place

-- in a routine of this sort whose cells have these stretches, in a program with these formats
module _ (tree : ShownTree) (numbers : List (List ℕ)) (start : ℕ) (all : List Stretch) (end to : ℕ)
    (row : AreInARow (table_of tree) start 0 all end to) (inside : Lies numbers (rows_of (table_of tree) all) start)
    (apart : (scope : ℕ) → HasSemaphoresApart (record { table = table_of tree; numbers = numbers }) (Within scope))
    (formats : List (List Item)) (sort : RoutineSort) where
  abbrev of : Numbered
  of = record { table = table_of tree; numbers = numbers }

  abbrev IsSighted : Sight → Type 0
  IsSighted sight = LeadNames of sight.view sight.around

  -- what holds where a statement stands
  pub record Holds (spot : Spot) (around : Around) : Type 0 where
    pub surrounds : Surrounds tree numbers start all end to row inside around
    pub written : around.formats ≡ formats
    pub in_loop : spot.in_loop ≡ around.in_loop
    pub returns : Returns of.table.lengths sort around.returns
    pub lead : LeadNames of (Within spot.scope) around

  -- a passage that stands there, with the views within it, its statements and its formats
  pub record Text (types : ℕ) (around : Around) (spot : Spot) (at : At) (piece : Pieces) : Type 0 where
    pub standing : StandsAt tree numbers start all end to row inside types spot.scope at piece
    pub sighted : AllByRecursion IsSighted (piece.sights around spot.scope at)
    pub well : AllByRecursion (IsWell of sort) (piece.places spot at.next)
    pub lies : Lies formats piece.formats at.format

  -- of two passages the first, and the second behind it
  first_text : (one two : Passage) (types : ℕ) (around : Around) (spot : Spot) (at : At) →
      Text types around spot at (in_turn (pieces of one) (pieces of two)) → Text types around spot at (pieces of one)
  first_text one two types around spot at text =
      let a = pieces of one in
      let b = pieces of two in
      record {
        standing = first_stands tree numbers start all end to row inside one two types spot.scope at text.standing;
        sighted = (split_all IsSighted (a.sights around spot.scope at) (b.sights around spot.scope (a.after at)) text.sighted).0;
        well = (split_all (IsWell of sort) (a.places spot at.next) (b.places spot (at.next + a.scopes)) text.well).0;
        lies = left_lies a.formats b.formats text.lies;
      }

  second_text : (one two : Passage) (types : ℕ) (around : Around) (spot : Spot) (at : At) →
      Text types around spot at (in_turn (pieces of one) (pieces of two)) → Text types around spot ((pieces of one).after at) (pieces of two)
  second_text one two types around spot at text =
      let a = pieces of one in
      let b = pieces of two in
      let past = goes of one spot.scope at in
      record {
        standing = second_stands tree numbers start all end to row inside one two types spot.scope at text.standing;
        sighted = (split_all IsSighted (a.sights around spot.scope at) (b.sights around spot.scope (a.after at)) text.sighted).1;
        well = subst (λ n. AllByRecursion (IsWell of sort) (b.places spot n)) (sym past.next)
            (split_all (IsWell of sort) (a.places spot at.next) (b.places spot (at.next + a.scopes)) text.well).1;
        lies = right_lies a.formats b.formats (a.after at).format (sym past.format) text.lies;
      }

  ready : (around : Around) (spot : Spot) (at : At) (s : ShownStmt) → Holds spot around → IsWell of sort (placed spot at s) →
      IsReady of sort around (placed spot at s)
  ready around spot at s holds well =
      let place = placed spot at s in
      record {
        lead = holds.lead;
        in_loop = holds.in_loop;
        returns = holds.returns;
        known = all_asked_known of.table (asked_at place) well.names well.literals
            (left_none (flat_map (asked_faults of.table) (asked_at place)) (own_faults of.table sort place) well.none);
        none = well.none;
      }

  -- the cells of the stretch that stands first
  stretch_cells : (around : Around) → Surrounds tree numbers start all end to row inside around → (stretch : Stretch) (rest : List Stretch) (index : ℕ) →
      Lies all (stretch ∷ rest) index → take (length stretch.cells) (drop stretch.first around.cells) ≡ stretch.cells
  stretch_cells around surrounds stretch rest index lies =
      let put = stretch_place of.table start 0 all end to row index stretch (head_there stretch rest lies) in
      let count = length stretch.cells in
      let here : stretch.first ≡ stretch.first + 0 = omega arith in
      ap (λ cells. take count (drop stretch.first cells)) surrounds.cells ∙ ap (λ n. take count (drop n (cells_of all))) here ∙
      taken (cells_lie of.table start all end to stretch put) count 0 (omega arith) ∙ take_all count stretch.cells (omega arith)

  counter_there : (around : Around) → Surrounds tree numbers start all end to row inside around → (counting : Bool) (cell len : ℕ) (rest : List Stretch)
      (index : ℕ) → Lies all (loop_stretch counting cell len ++ rest) index → HasCounter around cell counting
  counter_there around surrounds true cell len rest index lies =
      (len, stretch_cells around surrounds (record { owner = OfLoop len; first = cell; cells = counter_cells true len }) rest index lies)
  counter_there around surrounds false cell len rest index lies = tt

  -- a passage has all that it needs
  abbrev HasAll : Around → Spot → At → Passage → Type 0
  HasAll around spot at (One s) = Stands of sort around spot at s
  HasAll around spot at (Each statements) = AllStand of sort around spot at statements
  HasAll around spot at (Branches branches) = BranchesStand of sort around spot at branches
  HasAll around spot at (Otherwise otherwise) = OtherwiseStands of sort around spot at otherwise

  abbrev IsStanding : Passage → Type 0
  IsStanding passage = (types : ℕ) (around : Around) (spot : Spot) (at : At) → Holds spot around → Text types around spot at (pieces of passage) →
      HasAll around spot at passage

  both_stand : (one two : Passage) → IsStanding one → IsStanding two → (types : ℕ) (around : Around) (spot : Spot) (at : At) → Holds spot around →
      Text types around spot at (in_turn (pieces of one) (pieces of two)) →
      HasAll around spot at one × HasAll around spot ((pieces of one).after at) two
  both_stand one two first second types around spot at holds text = (
    first types around spot at holds (first_text one two types around spot at text),
    second types around spot ((pieces of one).after at) holds (second_text one two types around spot at text),
  )

  stmt_stands : (s : ShownStmt) → PartsKeep IsStanding s → IsStanding (One s)
  stmt_stands (shown.OfIf condition statements otherwise place) parts = λ types around spot at holds text.
      let inner = both_stand (Each statements) (Otherwise otherwise) parts.0 parts.1 types around spot at holds
      (record { standing = text.standing; sighted = text.sighted; well = text.well.1; lies = text.lies }) in
      (ready around spot at (shown.OfIf condition statements otherwise place) holds text.well.0, inner.0, inner.1)
  stmt_stands (shown.OfCase selector alternatives otherwise place) parts = λ types around spot at holds text.
      let inner = both_stand (Branches alternatives) (Otherwise otherwise) parts.0 parts.1 types around spot at holds
      (record { standing = text.standing; sighted = text.sighted; well = text.well.1; lies = text.lies }) in
      (ready around spot at (shown.OfCase selector alternatives otherwise place) holds text.well.0, inner.0, inner.1)
  stmt_stands (shown.OfRepeat control begin step last condition declarations statements body_place place) parts = λ types around spot at holds text.
      let scope = spot.scope in
      let counter = counter_in of scope at control begin step last in
      let hidden = loop_cells control begin step last in
      let inner = entered of.table hidden at in
      let own : Scope = record { outer = Some scope; entries = control_entries place control ++ body_entries types declarations } in
      let loop = loop_stretch (counts control begin step last) at.cell (length_at of.table.lengths sorts.Fixed place) in
      let standing = text.standing in
      let around_in = within around counter in
      let surrounds = holds.surrounds in
      let surrounds_in : Surrounds tree numbers start all end to row inside around_in =
      record { cells = surrounds.cells; hidden = surrounds.hidden } in (
        ready around spot at (shown.OfRepeat control begin step last condition declarations statements body_place place) holds text.well.0,
        counter_there around surrounds (counts control begin step last) at.cell (length_at of.table.lengths sorts.Fixed place)
            (scope_stretch of.table hidden at ∷ stretches_in_all of at.next inner statements) standing.place standing.stretched,
        text.sighted.0.values,
        scope_renewed tree numbers start all end to row inside around_in surrounds_in at.next standing.k standing.here (Some scope)
            (control_entries place control) types declarations (head_there own (all_scopes types at.next (at.next + 1) statements) standing.scoped)
            at.cell (at.cell + hidden)
            (head_there (scope_numbers of.table hidden at) (numbers_in_all of.table inner statements) standing.lies) text.well.0.renews,
        parts types around_in (record { scope = at.next; in_loop = true }) inner
            (record { surrounds = surrounds_in; written = holds.written; in_loop = refl; returns = holds.returns; lead = text.sighted.1.0 })
            (record {
              standing = inner_stands tree numbers start all end to row inside types at hidden loop own statements standing;
              sighted = text.sighted.1.1;
              well = text.well.1;
              lies = text.lies;
            }),
      )
  stmt_stands (shown.OfBegin declarations statements body_place place) parts = λ types around spot at holds text.
      let scope = spot.scope in
      let inner = entered of.table 0 at in
      let own : Scope = record { outer = Some scope; entries = body_entries types declarations } in
      let standing = text.standing in (
        scope_renewed tree numbers start all end to row inside around holds.surrounds at.next standing.k standing.here (Some scope) []
            types declarations (head_there own (all_scopes types at.next (at.next + 1) statements) standing.scoped) at.cell (at.cell + 0)
            (head_there (scope_numbers of.table 0 at) (numbers_in_all of.table inner statements) standing.lies) text.well.0.renews,
        parts types around (record { scope = at.next; in_loop = spot.in_loop }) inner
            (record { surrounds = holds.surrounds; written = holds.written; in_loop = holds.in_loop; returns = holds.returns; lead = text.sighted.0 })
            (record {
              standing = inner_stands tree numbers start all end to row inside types at 0 [] own statements standing;
              sighted = text.sighted.1;
              well = text.well.1;
              lies = text.lies;
            }),
      )
  stmt_stands (shown.OfOnSemas word names place) parts = λ types around spot at holds text.
      (ready around spot at (shown.OfOnSemas word names place) holds text.well.0, apart spot.scope, text.well.0.some)
  stmt_stands (shown.OfPut values dation written place) parts = λ types around spot at holds text. (
    ready around spot at (shown.OfPut values dation written place) holds text.well.0,
    ap (λ formats. slice_get formats at.format) holds.written ∙ head_there (map item_of written) [] text.lies,
  )
  stmt_stands (shown.OfGet targets dation written place) parts = λ types around spot at holds text. (
    ready around spot at (shown.OfGet targets dation written place) holds text.well.0,
    ap (λ formats. slice_get formats at.format) holds.written ∙ head_there (map item_of written) [] text.lies,
    stretch_cells around holds.surrounds (record { owner = OfTargets; first = at.cell; cells = get_cells of spot.scope targets }) []
        text.standing.place text.standing.stretched,
  )
  stmt_stands statement parts = λ types around spot at holds text. ready around spot at statement holds text.well.0

  pub all_stand : (types : ℕ) (around : Around) (spot : Spot) (at : At) (statements : ShownStmts) → Holds spot around →
      Text types around spot at (pieces of (Each statements)) → AllStand of sort around spot at statements
  all_stand types around spot at statements =
      walk IsStanding (record {
        no_statement = λ types around spot at holds text. tt;
        no_branch = λ types around spot at holds text. tt;
        no_otherwise = λ types around spot at holds text. tt;
        more = λ s rest. both_stand (One s) (Each rest);
        branch = λ statements place rest. both_stand (Each statements) (Branches rest);
        otherwise = λ statements place standing. standing;
        statement = stmt_stands;
      }) (Each statements) types around spot at
