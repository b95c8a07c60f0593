-- Where a routine's cells are divided into stretches, what lies where, which cells are hidden, and which numbers names have.
use Rattle.std.specs.Prelude.{◌≡◌, ℕ, zero, suc, ◌+◌, ◌-◌, ◌≤◌, ◌<◌, Bool, true, false, List, [], ◌∷◌, ◌++◌, length, take, drop, Some, slice_get}
use Rattle.std.specs.List.{AllByRecursion}
use Rattle.std.proofs.Common.{inl, inr, refl, ap, ◌∙◌, sym, subst, arith, true≢false}
use Rattle.std.proofs.Math.Seq.{drop-append-add}
use Rattle.std.proofs.lemmas.List.{length-append, length-drop, take-append-le, drop-append-le}
use Rattle.std.proofs.lemmas.List.Concat.{flat_map-append}
use Rattle.std.proofs.lemmas.Option.{none-some}
use Rattle.pearl_value.specs.declared.kind.CellKind.{CellKind}
use Rattle.pearl_names.specs.Tables.{Sense, Table}
use Rattle.pearl_program.specs.Typing.{AreOpen}
use Rattle.pearl_program.specs.HiddenCells.{run}
use Rattle.pearl_resolve.specs.Laying.{cells_of_sense}
use Rattle.pearl_resolve.specs.Numbers.{own_numbers, senses_at}
use Rattle.pearl_resolve.specs.Cells.{sense_cells, scope_cells}
use Rattle.pearl_sound.specs.Laws.{IsNoControl}
use Rattle.pearl_sound.specs.Stretches.{Owner, OfScope, OfLoop, OfTargets, Stretch, cells_of, hidden_in, hidden_of, rows_in, rows_of, IsNext, AreInARow}
use Rattle.pearl_sound.proofs.Going.{scope_length}
use Rattle.pearl_sound.proofs.OwnCells.{own_cells_there}
use Rattle.pearl_sound.proofs.SoundParts.{some_one}

-- what lies in a list from a place on
pub record Lies {X : Type 0} (whole part : List X) (at : ℕ) : Type 0 where
  pub before : List X
  pub behind : List X
  pub is : whole ≡ before ++ (part ++ behind)
  pub begins : length before ≡ at

-- some of it, further on
pub taken : {X : Type 0} {whole part : List X} {at : ℕ} → Lies whole part at → (n d : ℕ) → d + n ≤ length part →
    take n (drop (at + d) whole) ≡ take n (drop d part)
taken {whole = whole} {part = part} {at = at} lies n d fits =
    ap (λ xs. take n (drop (at + d) xs)) lies.is ∙
    ap (λ m. take n (drop (m + d) (lies.before ++ (part ++ lies.behind)))) (sym lies.begins) ∙
    ap (λ xs. take n xs) (drop-append-add lies.before (part ++ lies.behind) d) ∙
    ap (λ xs. take n xs) (drop-append-le d part lies.behind (omega (arith, fits))) ∙
    take-append-le n (drop d part) lies.behind (let left = length-drop d part in omega (arith, fits, left))

abbrev Inside : (low high : ℕ) → List ℕ → Type 0
Inside low high xs = AllByRecursion (λ x. (low ≤ x) × (x < high)) xs

wider : (a b c d : ℕ) (xs : List ℕ) → a ≤ b → c ≤ d → Inside b c xs → Inside a d xs
wider a b c d [] low high inside = tt
wider a b c d (x ∷ xs) low high inside =
    let more = inside.0.0 in let less = inside.0.1 in
    ((omega (arith, low, more), omega (arith, high, less)), wider a b c d xs low high inside.1)

inside_both : (a b : ℕ) (xs ys : List ℕ) → Inside a b xs → Inside a b ys → Inside a b (xs ++ ys)
inside_both a b [] ys one two = two
inside_both a b (x ∷ xs) ys one two = (one.0, inside_both a b xs ys one.1 two)

run_inside : (from count : ℕ) → Inside from (from + count) (run from count)
run_inside from zero = tt
run_inside from (suc count) = (
  (omega arith, omega arith),
  wider from (from + 1) (from + 1 + count) (from + suc count) (run (from + 1) count) (omega arith) (omega arith) (run_inside (from + 1) count),
)

one_inside : (owner : Owner) (first : ℕ) (cells : List CellKind) →
    Inside first (first + length cells) (hidden_in (record { owner = owner; first = first; cells = cells }))
one_inside (OfScope scope control) first cells = tt
one_inside other first cells = run_inside first (length cells)

abbrev is_scope : Owner → Bool
is_scope (OfScope scope control) = true
is_scope owner = false

no_scope : {X : Type 0} (owner : Owner) (scope control : ℕ) → is_scope owner ≡ false → owner ≡ OfScope scope control → X
no_scope owner scope control none is = absurd (true≢false (sym (ap is_scope is) ∙ none))

scope_hides : (owner : Owner) (first : ℕ) (cells : List CellKind) (scope control : ℕ) → owner ≡ OfScope scope control →
    hidden_in (record { owner = owner; first = first; cells = cells }) ≡ []
scope_hides (OfScope a b) first cells scope control is = refl
scope_hides other first cells scope control is = no_scope other scope control refl is

open_between : (a b low high : ℕ) (xs ys : List ℕ) → Inside a low xs → Inside high b ys → (cell count : ℕ) → low ≤ cell → cell + count ≤ high →
    AreOpen (xs ++ ys) cell count
open_between a b low high [] [] one two cell count from to = tt
open_between a b low high [] (y ∷ ys) one two cell count from to =
    (inr (let more = two.0.0 in omega (arith, more, to)), open_between a b low high [] ys one two.1 cell count from to)
open_between a b low high (x ∷ xs) ys one two cell count from to =
    (inl (let less = one.0.1 in omega (arith, less, from)), open_between a b low high xs ys one.1 two cell count from to)

module _ (table : Table) where
  row_rises : (next cell : ℕ) (stretches : List Stretch) (end to : ℕ) → AreInARow table next cell stretches end to → cell ≤ to
  row_rises next cell [] end to row = let same = row.1 in omega (arith, same)
  row_rises next cell (stretch ∷ rest) end to row =
      let more = row_rises (next + length (rows_in table stretch)) (cell + length stretch.cells) rest end to row.2 in omega (arith, more)

  all_inside : (next cell : ℕ) (stretches : List Stretch) (end to : ℕ) → AreInARow table next cell stretches end to →
      Inside cell to (hidden_of stretches)
  all_inside next cell [] end to row = tt
  all_inside next cell (stretch ∷ rest) end to row =
      let more = row_rises (next + length (rows_in table stretch)) (cell + length stretch.cells) rest end to row.2 in
      let same = row.1 in
      inside_both cell to (hidden_in stretch) (hidden_of rest)
      (wider cell stretch.first (stretch.first + length stretch.cells) to (hidden_in stretch) (omega (arith, same)) (omega (arith, same, more))
      (one_inside stretch.owner stretch.first stretch.cells))
      (wider cell (cell + length stretch.cells) to to (hidden_of rest) (omega arith) (omega arith)
      (all_inside (next + length (rows_in table stretch)) (cell + length stretch.cells) rest end to row.2))

  cells_before : (next cell : ℕ) (stretches : List Stretch) (end to : ℕ) → AreInARow table next cell stretches end to →
      cell + length (cells_of stretches) ≡ to
  cells_before next cell [] end to row = let same = row.1 in omega (arith, same)
  cells_before next cell (stretch ∷ rest) end to row =
      let more = cells_before (next + length (rows_in table stretch)) (cell + length stretch.cells) rest end to row.2 in
      let both = length-append stretch.cells (cells_of rest) in omega (arith, more, both)

  -- a stretch between those before it and those behind it
  pub record IsPlaced (next cell : ℕ) (stretches : List Stretch) (stretch : Stretch) (end to : ℕ) : Type 0 where
    pub before : List Stretch
    pub after : List Stretch
    pub at : ℕ
    pub is : stretches ≡ before ++ (stretch ∷ after)
    pub left : AreInARow table next cell before at stretch.first
    pub own : IsNext table at stretch
    pub right : AreInARow table (at + length (rows_in table stretch)) (stretch.first + length stretch.cells) after end to

  pub place : (next cell : ℕ) (stretches : List Stretch) (end to : ℕ) → AreInARow table next cell stretches end to → (i : ℕ) (stretch : Stretch) →
      slice_get stretches i ≡ Some stretch → IsPlaced next cell stretches stretch end to
  place next cell [] end to row i stretch is = absurd (none-some stretch is)
  place next cell (head ∷ rest) end to row zero stretch is =
      subst (λ s. IsPlaced next cell (head ∷ rest) s end to) (some_one is) (record {
        before = [];
        after = rest;
        at = next;
        is = refl;
        left = (refl, sym row.1);
        own = row.0;
        right = subst (λ c. AreInARow table (next + length (rows_in table head)) (c + length head.cells) rest end to) (sym row.1) row.2;
      })
  place next cell (head ∷ rest) end to row (suc i) stretch is =
      let placed = place (next + length (rows_in table head)) (cell + length head.cells) rest end to row.2 i stretch is in
      record {
        before = head ∷ placed.before;
        after = placed.after;
        at = placed.at;
        is = ap (λ more. head ∷ more) placed.is;
        left = (row.0, row.1, placed.left);
        own = placed.own;
        right = placed.right;
      }

  -- its cells lie from its first on
  pub cells_lie : (next : ℕ) (stretches : List Stretch) (end to : ℕ) (stretch : Stretch) → IsPlaced next 0 stretches stretch end to →
      Lies (cells_of stretches) stretch.cells stretch.first
  cells_lie next stretches end to stretch placed = record {
    before = cells_of placed.before;
    behind = cells_of placed.after;
    is = ap cells_of placed.is ∙ flat_map-append (λ (stretch : Stretch). stretch.cells) placed.before (stretch ∷ placed.after);
    begins = let same = cells_before next 0 placed.before placed.at stretch.first placed.left in omega (arith, same);
  }

  -- those of names are open
  pub scope_open : (next cell : ℕ) (stretches : List Stretch) (end to : ℕ) (stretch : Stretch) (scope control : ℕ) →
      IsPlaced next cell stretches stretch end to → stretch.owner ≡ OfScope scope control → (number count : ℕ) →
      stretch.first ≤ number → number + count ≤ stretch.first + length stretch.cells → AreOpen (hidden_of stretches) number count
  scope_open next cell stretches end to stretch scope control placed is number count low high =
      subst (λ hidden. AreOpen hidden number count)
      (sym (ap hidden_of placed.is ∙ flat_map-append hidden_in placed.before (stretch ∷ placed.after) ∙
      ap (λ none. hidden_of placed.before ++ (none ++ hidden_of placed.after)) (scope_hides stretch.owner stretch.first stretch.cells scope control is)))
      (open_between cell to stretch.first (stretch.first + length stretch.cells) (hidden_of placed.before) (hidden_of placed.after)
      (all_inside next cell placed.before placed.at stretch.first placed.left)
      (all_inside (placed.at + length (rows_in table stretch)) (stretch.first + length stretch.cells) placed.after end to placed.right)
      number count low high)

  -- the stretch of a row of numbers
  pub record HasRow (next : ℕ) (stretches : List Stretch) (k : ℕ) (row : List ℕ) : Type 0 where
    pub index : ℕ
    pub stretch : Stretch
    pub control : ℕ
    pub there : slice_get stretches index ≡ Some stretch
    pub owner : stretch.owner ≡ OfScope (next + k) control
    pub cells : stretch.cells ≡ scope_cells table (next + k)
    pub row_is : own_numbers control stretch.first (senses_at table (next + k)) ≡ row

  later_row : (next here k : ℕ) (head : Stretch) (rest : List Stretch) (j : ℕ) (row : List ℕ) → next + j ≡ here + k → HasRow next rest j row →
      HasRow here (head ∷ rest) k row
  later_row next here k head rest j row same has = record {
    index = suc has.index;
    stretch = has.stretch;
    control = has.control;
    there = has.there;
    owner = has.owner ∙ ap (λ scope. OfScope scope has.control) same;
    cells = has.cells ∙ ap (scope_cells table) same;
    row_is = ap (λ scope. own_numbers has.control has.stretch.first (senses_at table scope)) (sym same) ∙ has.row_is;
  }

  row_at : (owner : Owner) (first : ℕ) (cells : List CellKind) (rest : List Stretch) (next k : ℕ) (row : List ℕ) →
      IsNext table next (record { owner = owner; first = first; cells = cells }) →
      slice_get (rows_of table (record { owner = owner; first = first; cells = cells } ∷ rest)) k ≡ Some row →
      ((j : ℕ) → slice_get (rows_of table rest) j ≡ Some row →
      HasRow (next + length (rows_in table (record { owner = owner; first = first; cells = cells }))) rest j row) →
      HasRow next (record { owner = owner; first = first; cells = cells } ∷ rest) k row
  row_at (OfScope scope control) first cells rest next zero row own is more =
      let same : scope ≡ next + 0 = let here = own.0 in omega (arith, here) in
      record {
        index = 0;
        stretch = record { owner = OfScope scope control; first = first; cells = cells };
        control = control;
        there = refl;
        owner = ap (λ s. OfScope s control) same;
        cells = own.1 ∙ ap (scope_cells table) same;
        row_is = ap (λ s. own_numbers control first (senses_at table s)) (sym same) ∙ some_one is;
      }
  row_at (OfScope scope control) first cells rest next (suc k) row own is more =
      later_row (next + 1) next (suc k) (record { owner = OfScope scope control; first = first; cells = cells }) rest k row (omega arith) (more k is)
  row_at (OfLoop len) first cells rest next k row own is more =
      later_row (next + 0) next k (record { owner = OfLoop len; first = first; cells = cells }) rest k row (omega arith) (more k is)
  row_at OfTargets first cells rest next k row own is more =
      later_row (next + 0) next k (record { owner = OfTargets; first = first; cells = cells }) rest k row (omega arith) (more k is)

  pub find_row : (next cell : ℕ) (stretches : List Stretch) (end to : ℕ) → AreInARow table next cell stretches end to → (k : ℕ) (row : List ℕ) →
      slice_get (rows_of table stretches) k ≡ Some row → HasRow next stretches k row
  find_row next cell [] end to are k row is = absurd (none-some row is)
  find_row next cell (head ∷ rest) end to are k row is =
      row_at head.owner head.first head.cells rest next k row are.0 is
      (λ j is. find_row (next + length (rows_in table head)) (cell + length head.cells) rest end to are.2 j row is)

  -- the stretches of two rows lie apart
  pub record HasRows (next : ℕ) (stretches : List Stretch) (k l : ℕ) (row other : List ℕ) : Type 0 where
    pub one : HasRow next stretches k row
    pub two : HasRow next stretches l other
    pub apart : one.stretch.first + length one.stretch.cells ≤ two.stretch.first

  later_rows : (next here k l : ℕ) (head : Stretch) (rest : List Stretch) (i j : ℕ) (row other : List ℕ) → next + i ≡ here + k → next + j ≡ here + l →
      HasRows next rest i j row other → HasRows here (head ∷ rest) k l row other
  unfolding later_row
  later_rows next here k l head rest i j row other same also has = record {
    one = later_row next here k head rest i row same has.one;
    two = later_row next here l head rest j other also has.two;
    apart = has.apart;
  }

  behind_row : (next cell : ℕ) (stretches : List Stretch) (end to : ℕ) → AreInARow table next cell stretches end to → (k : ℕ) (row : List ℕ) →
      (has : HasRow next stretches k row) → cell ≤ has.stretch.first
  behind_row next cell stretches end to are k row has =
      let placed = place next cell stretches end to are has.index has.stretch has.there in
      row_rises next cell placed.before placed.at has.stretch.first placed.left

  rows_at : (owner : Owner) (first : ℕ) (cells : List CellKind) (rest : List Stretch) (next k l : ℕ) (row other : List ℕ) → k < l →
      IsNext table next (record { owner = owner; first = first; cells = cells }) →
      slice_get (rows_of table (record { owner = owner; first = first; cells = cells } ∷ rest)) k ≡ Some row →
      slice_get (rows_of table (record { owner = owner; first = first; cells = cells } ∷ rest)) l ≡ Some other →
      ((j : ℕ) → slice_get (rows_of table rest) j ≡ Some other →
      (has : HasRow (next + length (rows_in table (record { owner = owner; first = first; cells = cells }))) rest j other) ×
      (first + length cells ≤ has.stretch.first)) →
      ((i j : ℕ) → i < j → slice_get (rows_of table rest) i ≡ Some row → slice_get (rows_of table rest) j ≡ Some other →
      HasRows (next + length (rows_in table (record { owner = owner; first = first; cells = cells }))) rest i j row other) →
      HasRows next (record { owner = owner; first = first; cells = cells } ∷ rest) k l row other
  unfolding later_row
  rows_at (OfScope scope control) first cells rest next k zero row other less own is has last more = absurd (omega (arith, less))
  rows_at (OfScope scope control) first cells rest next zero (suc l) row other less own is has last more =
      let same : scope ≡ next + 0 = let here = own.0 in omega (arith, here) in
      let found = last l has in
      record {
        one = record {
          index = 0;
          stretch = record { owner = OfScope scope control; first = first; cells = cells };
          control = control;
          there = refl;
          owner = ap (λ s. OfScope s control) same;
          cells = own.1 ∙ ap (scope_cells table) same;
          row_is = ap (λ s. own_numbers control first (senses_at table s)) (sym same) ∙ some_one is;
        };
        two = later_row (next + 1) next (suc l) (record { owner = OfScope scope control; first = first; cells = cells }) rest l other (omega arith) found.0;
        apart = found.1;
      }
  rows_at (OfScope scope control) first cells rest next (suc k) (suc l) row other less own is has last more =
      later_rows (next + 1) next (suc k) (suc l) (record { owner = OfScope scope control; first = first; cells = cells }) rest k l row other
      (omega arith) (omega arith) (more k l (omega (arith, less)) is has)
  rows_at (OfLoop len) first cells rest next k l row other less own is has last more =
      later_rows (next + 0) next k l (record { owner = OfLoop len; first = first; cells = cells }) rest k l row other (omega arith) (omega arith)
      (more k l less is has)
  rows_at OfTargets first cells rest next k l row other less own is has last more =
      later_rows (next + 0) next k l (record { owner = OfTargets; first = first; cells = cells }) rest k l row other (omega arith) (omega arith)
      (more k l less is has)

  pub find_rows : (next cell : ℕ) (stretches : List Stretch) (end to : ℕ) → AreInARow table next cell stretches end to → (k l : ℕ) (row other : List ℕ) →
      k < l → slice_get (rows_of table stretches) k ≡ Some row → slice_get (rows_of table stretches) l ≡ Some other →
      HasRows next stretches k l row other
  find_rows next cell [] end to are k l row other less is has = absurd (none-some row is)
  find_rows next cell (head ∷ rest) end to are k l row other less is has =
      rows_at head.owner head.first head.cells rest next k l row other less are.0 is has
      (λ j has. (find_row (next + length (rows_in table head)) (cell + length head.cells) rest end to are.2 j other has, behind j has))
      (λ i j less is has. find_rows (next + length (rows_in table head)) (cell + length head.cells) rest end to are.2 i j row other less is has)
    where
      behind : (j : ℕ) (has : slice_get (rows_of table rest) j ≡ Some other) → head.first + length head.cells ≤
          (find_row (next + length (rows_in table head)) (cell + length head.cells) rest end to are.2 j other has).stretch.first
      behind j has =
          let low = behind_row (next + length (rows_in table head)) (cell + length head.cells) rest end to are.2 j other
          (find_row (next + length (rows_in table head)) (cell + length head.cells) rest end to are.2 j other has) in
          let same = are.1 in omega (arith, low, same)

-- a name of a scope in the scope's stretch
pub record LiesWithin (stretch : Stretch) (number : ℕ) (sense : Sense) : Type 0 where
  pub low : stretch.first ≤ number
  pub high : number + cells_of_sense sense ≤ stretch.first + length stretch.cells
  pub lies : take (cells_of_sense sense) (drop (number - stretch.first) stretch.cells) ≡ sense_cells sense

pub within_stretch : (table : Table) (next : ℕ) (stretches : List Stretch) (k : ℕ) (row : List ℕ) (has : HasRow table next stretches k row)
    (j number : ℕ) (sense : Sense) → slice_get row j ≡ Some number → slice_get (senses_at table (next + k)) j ≡ Some sense → IsNoControl sense →
    LiesWithin has.stretch number sense
within_stretch table next stretches k row has j number sense at is own =
    let parts = own_cells_there has.control has.stretch.first (senses_at table (next + k)) j number sense is own
    (ap (λ r. slice_get r j) has.row_is ∙ at) in
    let sum = scope_length table (next + k) in
    let same = ap (λ (cells : List CellKind). length cells) has.cells in
    let most = parts.1 in
    record {
      low = parts.0;
      high = omega (arith, most, sum, same);
      lies = ap (λ cells. take (cells_of_sense sense) (drop (number - has.stretch.first) cells)) has.cells ∙ parts.2;
    }

-- its cells are among all, and are open
pub name_lies : (table : Table) (next : ℕ) (stretches : List Stretch) (end to : ℕ) → AreInARow table next 0 stretches end to →
    (k : ℕ) (row : List ℕ) → slice_get (rows_of table stretches) k ≡ Some row → (j number : ℕ) (sense : Sense) → slice_get row j ≡ Some number →
    slice_get (senses_at table (next + k)) j ≡ Some sense → IsNoControl sense →
    (take (cells_of_sense sense) (drop number (cells_of stretches)) ≡ sense_cells sense) × AreOpen (hidden_of stretches) number (cells_of_sense sense)
name_lies table next stretches end to are k row there j number sense at is own =
    let has = find_row table next 0 stretches end to are k row there in
    let placed = place table next 0 stretches end to are has.index has.stretch has.there in
    let within = within_stretch table next stretches k row has j number sense at is own in
    let low = within.low in
    let high = within.high in
    let split : number ≡ has.stretch.first + (number - has.stretch.first) = omega (arith, low) in (
      ap (λ n. take (cells_of_sense sense) (drop n (cells_of stretches))) split ∙
          taken (cells_lie table next stretches end to has.stretch placed) (cells_of_sense sense) (number - has.stretch.first) (omega (arith, low, high)) ∙
          within.lies,
      scope_open table next 0 stretches end to has.stretch (next + k) has.control placed has.owner number (cells_of_sense sense) low high,
    )

-- and no further than all reach
pub name_fits : (table : Table) (next : ℕ) (stretches : List Stretch) (end to : ℕ) → AreInARow table next 0 stretches end to →
    (k : ℕ) (row : List ℕ) → slice_get (rows_of table stretches) k ≡ Some row → (j number : ℕ) (sense : Sense) → slice_get row j ≡ Some number →
    slice_get (senses_at table (next + k)) j ≡ Some sense → IsNoControl sense → number + cells_of_sense sense ≤ length (cells_of stretches)
name_fits table next stretches end to are k row there j number sense at is own =
    let has = find_row table next 0 stretches end to are k row there in
    let placed = place table next 0 stretches end to are has.index has.stretch has.there in
    let high = (within_stretch table next stretches k row has j number sense at is own).high in
    let more = row_rises table (placed.at + length (rows_in table has.stretch)) (has.stretch.first + length has.stretch.cells) placed.after end to placed.right in
    let all = cells_before table next 0 stretches end to are in
    omega (arith, high, more, all)

pub names_apart : (table : Table) (next : ℕ) (stretches : List Stretch) (end to : ℕ) → AreInARow table next 0 stretches end to →
    (k l : ℕ) (row other : List ℕ) → k < l → slice_get (rows_of table stretches) k ≡ Some row → slice_get (rows_of table stretches) l ≡ Some other →
    (i j first second : ℕ) (one two : Sense) → slice_get row i ≡ Some first → slice_get other j ≡ Some second →
    slice_get (senses_at table (next + k)) i ≡ Some one → slice_get (senses_at table (next + l)) j ≡ Some two → IsNoControl one → IsNoControl two →
    first + cells_of_sense one ≤ second
names_apart table next stretches end to are k l row other less there also i j first second one two at has is so own free =
    let rows = find_rows table next 0 stretches end to are k l row other less there also in
    let a = (within_stretch table next stretches k row rows.one i first one at is own).high in
    let b = (within_stretch table next stretches l other rows.two j second two has so free).low in
    let c = rows.apart in omega (arith, a, b, c)
