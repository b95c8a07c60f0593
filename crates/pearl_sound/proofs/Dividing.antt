-- The cells, hidden cells and numbers of a routine are those of its stretches.
use Rattle.std.specs.Prelude.{◌≡◌, ℕ, ◌+◌, ◌*◌, Bool, true, false, if◌then◌else◌, List, [], ◌∷◌, ◌++◌, length, map, Option, Some, None, option_map}
use Rattle.std.proofs.Common.{refl, ap, ◌∙◌, sym, subst, arith}
use Rattle.std.proofs.lemmas.List.{append-nil, append_assoc, length-map}
use Rattle.std.proofs.lemmas.List.Concat.{flat_map-append}
use Rattle.pearl_value.specs.declared.kind.CellKind.{CellKind}
use Rattle.pearl_tree.specs.declared.name.Name.{Name}
use Rattle.pearl_tree.specs.declared.statement.TaskWord.{TaskWord}
use Rattle.pearl_tree.specs.declared.statement.TaskWord.TheVariants.{Suspend}
use Rattle.pearl_tree.specs.declared.statement.SemaWord.{SemaWord}
use Rattle.pearl_tree.specs.declared.statement.SemaWord.TheVariants.{Request, Release}
use Rattle.pearl_tree.specs.declared.statement.InterruptWord.{InterruptWord}
use Rattle.pearl_tree.specs.declared.statement.InterruptWord.TheVariants.{Enable}
use Rattle.pearl_tree.specs.declared.typing.Sort.TheVariants as sort
use Rattle.pearl_tree.specs.Names.{names_of}
use Rattle.pearl_tree.specs.ShownLiterals.{ShownConst}
use Rattle.pearl_tree.specs.ShownExpressions.{ShownRef}
use Rattle.pearl_tree.specs.ShownDeclarations.{ShownItem}
use Rattle.pearl_tree.specs.ShownStatements as shown
use Rattle.pearl_tree.specs.ShownStatements.{ShownBodyDecl, ShownStmt, ShownStmts, ShownBranches, ShownOtherwise}
use Rattle.pearl_tree.specs.ShownModules.{ShownBody}
use Rattle.pearl_names.specs.declared.scope.View.TheVariants.{Within}
use Rattle.pearl_names.specs.Lengths.{length_at}
use Rattle.pearl_names.specs.Scopes.{as_stmts}
use Rattle.pearl_names.specs.Tables.{Table}
use Rattle.pearl_program.specs.PlainExpressions.{PlainExpr}
use Rattle.pearl_program.specs.PlainStatements.{PlainStmts, NoStmts, MoreStmts}
use Rattle.pearl_program.specs.PlainPrograms.{PlainLeaf}
use Rattle.pearl_program.specs.HiddenCells as hiding
use Rattle.pearl_program.specs.HiddenCells.{run, hidden_in_all, hidden_in_branches}
use Rattle.pearl_resolve.specs.Laying.{leaves_of_sense, left_behind, filled_leaves, merged}
use Rattle.pearl_resolve.specs.Numbers.{At, counts, loop_cells, entered, scope_numbers, after, after_all, after_branches, after_otherwise, numbers_in, numbers_in_all, numbers_in_branches, numbers_in_otherwise, routine_start, in_body, after_body, body_numbers}
use Rattle.pearl_resolve.specs.Expressions.{Numbered, Meant, meant, number_of, resolve_variable}
use Rattle.pearl_resolve.specs.Cells.{scope_cells, counter_cells, get_cells, cells_in, cells_in_all, cells_in_branches, cells_in_otherwise, routine_cells}
use Rattle.pearl_resolve.specs.Statements.{value_in, on_task, on_semaphores, on_interrupt, counter_in, renewals, joined, variable_renewals, slots_of_meant, names_renewals, items_renewals, declared_renewals, alone, resolve_stmt, resolve_all, resolve_branches, resolve_otherwise}
use Rattle.pearl_resolve.specs.Resolve.{resolve_routine}
use Rattle.pearl_sound.specs.Stretches.{Stretch, OfTargets, loop_stretch, scope_stretch, stretches_in, stretches_in_all, stretches_in_branches, stretches_in_otherwise, routine_stretches, hidden_in, rows_in, AreInARow, IsDivided}
use Rattle.pearl_sound.proofs.Going.{scope_length, get_length}

-- first values hide nothing
joined_hidden : (x y : PlainStmts) → hidden_in_all (joined x y) ≡ hidden_in_all x ++ hidden_in_all y
joined_hidden NoStmts y = refl
joined_hidden (MoreStmts s rest) y =
    ap (λ more. hiding.hidden_in s ++ more) (joined_hidden rest y) ∙
    sym (append_assoc (hiding.hidden_in s) (hidden_in_all rest) (hidden_in_all y))

behind_none : (x y : PlainStmts) → hidden_in_all x ≡ [] → hidden_in_all (joined x y) ≡ hidden_in_all y
behind_none x y none = joined_hidden x y ∙ ap (λ cells. cells ++ hidden_in_all y) none

renewals_none : (cell : ℕ) (leaves : List PlainLeaf) → hidden_in_all (renewals cell leaves) ≡ []
renewals_none cell [] = refl
renewals_none cell (leaf ∷ rest) = renewals_none (cell + leaf.values.count) rest

variable_none : (constants : List ShownConst) (thing : Option Meant) → hidden_in_all (variable_renewals constants thing) ≡ []
variable_none constants None = refl
variable_none constants (Some thing) = renewals_none thing.number (filled_leaves [] constants (merged (leaves_of_sense thing.sense)))

names_none : (numbered : Numbered) (scope : ℕ) (constants : List ShownConst) (names : List Name) →
    hidden_in_all (names_renewals numbered scope constants names) ≡ []
names_none numbered scope constants [] = refl
names_none numbered scope constants (name ∷ rest) =
    let left = left_behind (slots_of_meant (meant numbered (Within scope) name)) constants in
    behind_none (variable_renewals constants (meant numbered (Within scope) name)) (names_renewals numbered scope left rest)
    (variable_none constants (meant numbered (Within scope) name)) ∙ names_none numbered scope left rest

items_none : (numbered : Numbered) (scope : ℕ) (items : List ShownItem) → hidden_in_all (items_renewals numbered scope items) ≡ []
items_none numbered scope [] = refl
items_none numbered scope (item ∷ rest) =
    behind_none (names_renewals numbered scope item.init (names_of item.names)) (items_renewals numbered scope rest)
    (names_none numbered scope item.init (names_of item.names)) ∙ items_none numbered scope rest

declared_none : (numbered : Numbered) (scope : ℕ) (declarations : List ShownBodyDecl) →
    hidden_in_all (declared_renewals numbered scope declarations) ≡ []
declared_none numbered scope [] = refl
declared_none numbered scope (declaration ∷ rest) =
    behind_none (items_renewals numbered scope declaration.items) (declared_renewals numbered scope rest)
    (items_none numbered scope declaration.items) ∙ declared_none numbered scope rest

row_joins : (table : Table) (next cell : ℕ) (one two : List Stretch) (middle at end to : ℕ) →
    AreInARow table next cell one middle at → AreInARow table middle at two end to → AreInARow table next cell (one ++ two) end to
row_joins table next cell [] two middle at end to first second =
    subst (λ n. AreInARow table n cell two end to) (sym first.0)
    (subst (λ c. AreInARow table middle c two end to) (sym first.1) second)
row_joins table next cell (stretch ∷ rest) two middle at end to first second =
    (first.0, first.1, row_joins table (next + length (rows_in table stretch)) (cell + length stretch.cells) rest two middle at end to first.2 second)

pub joins : {table : Table} {from middle to : At} {one two : List Stretch} {a b : List CellKind} {h k : List ℕ} {m n : List (List ℕ)} →
    IsDivided table from middle one a h m → IsDivided table middle to two b k n → IsDivided table from to (one ++ two) (a ++ b) (h ++ k) (m ++ n)
joins {table = table} {from = from} {middle = middle} {to = to} {one = one} {two = two} first second = record {
  row = row_joins table from.next from.cell one two middle.next middle.cell to.next to.cell first.row second.row;
  cell = flat_map-append (λ (stretch : Stretch). stretch.cells) one two ∙ (λ i. first.cell i ++ second.cell i);
  hides = flat_map-append hidden_in one two ∙ (λ i. first.hides i ++ second.hides i);
  numbered = flat_map-append (rows_in table) one two ∙ (λ i. first.numbered i ++ second.numbered i);
}

-- the same hidden cells
hide_same : {table : Table} {from to : At} {stretches : List Stretch} {cells : List CellKind} {numbers : List (List ℕ)} (one two : List ℕ) →
    one ≡ two → IsDivided table from to stretches cells one numbers → IsDivided table from to stretches cells two numbers
hide_same one two same divided = record { row = divided.row; cell = divided.cell; hides = divided.hides ∙ same; numbered = divided.numbered }

by_itself : {table : Table} {from to : At} {stretches : List Stretch} {cells : List CellKind} {numbers : List (List ℕ)} (hidden : List ℕ) →
    IsDivided table from to stretches cells hidden numbers → IsDivided table from to stretches cells (hidden ++ []) numbers
by_itself hidden divided = hide_same hidden (hidden ++ []) (sym (append-nil hidden)) divided

-- nothing is gone past
stays : (table : Table) (from to : At) → from.next ≡ to.next → from.cell ≡ to.cell → IsDivided table from to [] [] [] []
stays table from to next cell = record { row = (next, cell); cell = refl; hides = refl; numbered = refl }

stays_here : (table : Table) (at : At) → IsDivided table at at [] [] [] []
stays_here table at = stays table at at refl refl

scope_divides : (table : Table) (from at : At) (hidden : ℕ) → at.next ≡ from.next → at.cell + hidden ≡ from.cell →
    IsDivided table from (entered table hidden at) (scope_stretch table hidden at ∷ []) (scope_cells table at.next) []
    (scope_numbers table hidden at ∷ [])
scope_divides table from at hidden next cell = record {
  row = ((next, refl), cell, (omega (arith, next), (let cells = scope_length table at.next in omega (arith, cell, cells))));
  cell = append-nil (scope_cells table at.next);
  hides = refl;
  numbered = refl;
}

abbrev behind_loop : Bool → At → At
behind_loop counting at = record at { cell = at.cell + (if counting then 3 else 0) }

loop_divides : (table : Table) (at : At) (counting : Bool) (len : ℕ) (begin step end : Option PlainExpr) →
    IsDivided table at (behind_loop counting at) (loop_stretch counting at.cell len) (counter_cells counting len)
    (hiding.counter_cells (if counting then Some (record { cell = at.cell; begin = begin; step = step; end = end }) else None)) []
loop_divides table at true len begin step end =
    record { row = (refl, refl, (omega arith, refl)); cell = refl; hides = refl; numbered = refl }
loop_divides table at false len begin step end = record { row = (refl, omega arith); cell = refl; hides = refl; numbered = refl }

targets_divide : (numbered : Numbered) (scope : ℕ) (at to : At) (targets : List ShownRef) → at.next ≡ to.next →
    at.cell + 2 * length targets ≡ to.cell →
    IsDivided numbered.table at to (record { owner = OfTargets; first = at.cell; cells = get_cells numbered scope targets } ∷ [])
    (get_cells numbered scope targets) (run at.cell (2 * length (map (resolve_variable numbered (Within scope)) targets)) ++ []) []
targets_divide numbered scope at to targets next cell =
    let count = get_length numbered scope targets in
    let same = length-map targets (resolve_variable numbered (Within scope)) in
    let equal : length (get_cells numbered scope targets) ≡ 2 * length (map (resolve_variable numbered (Within scope)) targets) = omega (arith, count, same) in
    record {
      row = (tt, refl, (omega (arith, next), omega (arith, cell, count)));
      cell = append-nil (get_cells numbered scope targets);
      hides = ap (λ n. run at.cell n ++ []) equal;
      numbered = refl;
    }

task_hides : (word : TaskWord) (task : Option ℕ) → [] ≡ hidden_in_all (alone (on_task word task))
task_hides Suspend task = refl
task_hides other task = refl

semaphores_hide : (word : SemaWord) (semaphores : List ℕ) → [] ≡ hidden_in_all (alone (on_semaphores word semaphores))
semaphores_hide Request semaphores = refl
semaphores_hide Release semaphores = refl

interrupt_hides : (word : InterruptWord) (interrupt : ℕ) → [] ≡ hidden_in_all (alone (on_interrupt word interrupt))
interrupt_hides Enable interrupt = refl
interrupt_hides other interrupt = refl

-- what a scope's text is divided into, first values and all
body_divides : (numbered : Numbered) (from at to : At) (hidden : ℕ) (declarations : List ShownBodyDecl) (body : PlainStmts)
    {inner : List Stretch} {cells : List CellKind} {numbers : List (List ℕ)} → at.next ≡ from.next → at.cell + hidden ≡ from.cell →
    IsDivided numbered.table (entered numbered.table hidden at) to inner cells (hidden_in_all body) numbers →
    IsDivided numbered.table from to (scope_stretch numbered.table hidden at ∷ inner) (scope_cells numbered.table at.next ++ cells)
    (hidden_in_all (joined (declared_renewals numbered at.next declarations) body)) (scope_numbers numbered.table hidden at ∷ numbers)
body_divides numbered from at to hidden declarations body next cell divided =
    hide_same (hidden_in_all body) (hidden_in_all (joined (declared_renewals numbered at.next declarations) body))
    (sym (behind_none (declared_renewals numbered at.next declarations) body (declared_none numbered at.next declarations)))
    (joins (scope_divides numbered.table from at hidden next cell) divided)

mutual
  stmt_divides : (numbered : Numbered) (scope : ℕ) (at : At) (s : ShownStmt) →
      IsDivided numbered.table at (after numbered.table at s) (stretches_in numbered scope at s) (cells_in numbered scope at s)
      (hidden_in_all (resolve_stmt numbered scope at s)) (numbers_in numbered.table at s)
  stmt_divides numbered scope at (shown.OfIf condition statements otherwise place) =
      let middle = after_all numbered.table at statements in
      by_itself (hidden_in_all (resolve_all numbered scope at statements) ++ hidden_in_all (resolve_otherwise numbered scope middle otherwise))
      (joins (all_divide numbered scope at statements) (otherwise_divides numbered scope middle otherwise))
  stmt_divides numbered scope at (shown.OfCase selector alternatives otherwise place) =
      let middle = after_branches numbered.table at alternatives in
      by_itself (hidden_in_branches (resolve_branches numbered scope at alternatives) ++ hidden_in_all (resolve_otherwise numbered scope middle otherwise))
      (joins (branches_divide numbered scope at alternatives) (otherwise_divides numbered scope middle otherwise))
  stmt_divides numbered scope at (shown.OfRepeat control begin step end condition declarations statements body_place place) =
      let hidden = loop_cells control begin step end in
      let inner = entered numbered.table hidden at in
      let body = resolve_all numbered at.next inner statements in
      by_itself (hiding.counter_cells (counter_in numbered scope at control begin step end) ++
      hidden_in_all (joined (declared_renewals numbered at.next declarations) body))
      (joins (loop_divides numbered.table at (counts control begin step end) (length_at numbered.table.lengths sort.Fixed place)
      (option_map (value_in numbered scope) begin) (option_map (value_in numbered scope) step) (option_map (value_in numbered scope) end))
      (body_divides numbered (behind_loop (counts control begin step end) at) at (after_all numbered.table inner statements) hidden declarations
      body refl refl (all_divide numbered at.next inner statements)))
  stmt_divides numbered scope at (shown.OfBegin declarations statements body_place place) =
      let inner = entered numbered.table 0 at in
      body_divides numbered at at (after_all numbered.table inner statements) 0 declarations (resolve_all numbered at.next inner statements)
      refl (omega arith) (all_divide numbered at.next inner statements)
  stmt_divides numbered scope at (shown.OfGet targets dation formats place) =
      targets_divide numbered scope at (record at { cell = at.cell + 2 * length targets; format = at.format + 1 }) targets refl refl
  stmt_divides numbered scope at (shown.OfPut values dation formats place) = stays numbered.table at (record at { format = at.format + 1 }) refl refl
  stmt_divides numbered scope at (shown.OfOnTask word task place) =
      let given = option_map (number_of numbered (Within scope)) task in
      hide_same [] (hidden_in_all (alone (on_task word given))) (task_hides word given) (stays_here numbered.table at)
  stmt_divides numbered scope at (shown.OfOnSemas word names place) =
      let given = map (number_of numbered (Within scope)) names in
      hide_same [] (hidden_in_all (alone (on_semaphores word given))) (semaphores_hide word given) (stays_here numbered.table at)
  stmt_divides numbered scope at (shown.OfOnInterrupt word name place) =
      let given = number_of numbered (Within scope) name in
      hide_same [] (hidden_in_all (alone (on_interrupt word given))) (interrupt_hides word given) (stays_here numbered.table at)
  stmt_divides numbered scope at statement = stays_here numbered.table at

  all_divide : (numbered : Numbered) (scope : ℕ) (at : At) (statements : ShownStmts) →
      IsDivided numbered.table at (after_all numbered.table at statements) (stretches_in_all numbered scope at statements)
      (cells_in_all numbered scope at statements) (hidden_in_all (resolve_all numbered scope at statements)) (numbers_in_all numbered.table at statements)
  all_divide numbered scope at shown.NoStmts = stays_here numbered.table at
  all_divide numbered scope at (shown.MoreStmts s rest) =
      let first = resolve_stmt numbered scope at s in
      let second = resolve_all numbered scope (after numbered.table at s) rest in
      hide_same (hidden_in_all first ++ hidden_in_all second) (hidden_in_all (joined first second)) (sym (joined_hidden first second))
      (joins (stmt_divides numbered scope at s) (all_divide numbered scope (after numbered.table at s) rest))

  branches_divide : (numbered : Numbered) (scope : ℕ) (at : At) (branches : ShownBranches) →
      IsDivided numbered.table at (after_branches numbered.table at branches) (stretches_in_branches numbered scope at branches)
      (cells_in_branches numbered scope at branches) (hidden_in_branches (resolve_branches numbered scope at branches))
      (numbers_in_branches numbered.table at branches)
  branches_divide numbered scope at shown.NoBranches = stays_here numbered.table at
  branches_divide numbered scope at (shown.MoreBranches statements place rest) =
      joins (all_divide numbered scope at statements) (branches_divide numbered scope (after_all numbered.table at statements) rest)

  otherwise_divides : (numbered : Numbered) (scope : ℕ) (at : At) (otherwise : ShownOtherwise) →
      IsDivided numbered.table at (after_otherwise numbered.table at otherwise) (stretches_in_otherwise numbered scope at otherwise)
      (cells_in_otherwise numbered scope at otherwise) (hidden_in_all (resolve_otherwise numbered scope at otherwise))
      (numbers_in_otherwise numbered.table at otherwise)
  otherwise_divides numbered scope at shown.NoOtherwise = stays_here numbered.table at
  otherwise_divides numbered scope at (shown.OfOtherwise statements place) = all_divide numbered scope at statements

pub routine_divides : (numbered : Numbered) (at : At) (body : ShownBody) →
    IsDivided numbered.table (routine_start at) (after_body numbered.table at body) (routine_stretches numbered at body)
    (routine_cells numbered at body) (hidden_in_all (resolve_routine numbered at body).body) (body_numbers numbered.table at body)
routine_divides numbered at body =
    body_divides numbered (routine_start at) (routine_start at) (after_body numbered.table at body) 0 body.declarations
    (resolve_all numbered at.next (in_body numbered.table at) (as_stmts body.statements)) refl (omega arith)
    (all_divide numbered at.next (in_body numbered.table at) (as_stmts body.statements))
