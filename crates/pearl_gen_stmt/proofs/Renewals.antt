-- A row of cells gets values: by one instruction where they are unset, else one after the other, the last one again and again.
use Rattle.std.specs.Prelude.{◌≡◌, ℕ, zero, suc, ◌+◌, ◌-◌, ◌≤◌, nat_le, List, [], ◌∷◌, ◌++◌, length, take, drop, replicate, Some, slice_get, slice_set}
use Rattle.std.proofs.Common.{refl, sym, subst, ap, ◌∙◌, arith, append-nil}
use Rattle.std.proofs.lemmas.List.{length-set, length-replicate, length-append, length-drop, take-append-drop}
use Rattle.pearl_value.specs.declared.kind.Kind.{Kind}
use Rattle.pearl_value.specs.declared.cell.Cell.{Cell}
use Rattle.pearl_value.specs.Blanks.{blank_of, last_or}
use Rattle.pearl_rules.specs.declared.action.Answer.{Answer}
use Rattle.pearl_program.specs.FirstCells.{first_cells}
use Rattle.pearl_program.specs.PlainStatements.{PlainValues}
use Rattle.pearl_instructions.specs.declared.instr.Instr.TheVariants as instr
use Rattle.pearl_instructions.specs.declared.object.Parts.{Parts as Object}
use Rattle.pearl_instructions.specs.Steps.{Silent}
use Rattle.pearl_instructions.specs.Cells.{filled}
use Rattle.pearl_meaning.specs.Frames.{Store}
use Rattle.pearl_meaning.specs.Evaluation.{Value, gives, put_cells}
use Rattle.pearl_meaning.specs.Setting.{Setting}
use Rattle.pearl_gen_expr.specs.Contexts.{stack, Context, at, IsStoreOf}
use Rattle.pearl_gen_expr.specs.Carrying.{Meets, Carries}
use Rattle.pearl_gen_expr.specs.ExprCode.{code_of, Is}
use Rattle.pearl_gen_expr.specs.Ends.{on_top, done}
use Rattle.pearl_gen_expr.proofs.Offered.{frame_at, RowMeets, then_meets, gives_carries, instr_carries, same_carries}
use Rattle.pearl_gen_expr.proofs.Offered.{silent_meets, given_meets, needed_meets, goes_meets}
use Rattle.pearl_gen_stmt.specs.StmtCode.{StoresAt, RepeatsAt, RenewAt}
use Rattle.pearl_gen_stmt.proofs.Single.{given_value, more_cells, load_carries, const_carries}

-- LISTS

-- the list in which these stand from a place on
abbrev pub put_in : ℕ → List Cell → List Cell → List Cell
put_in cell xs cells = take cell cells ++ xs ++ drop (cell + length xs) cells

-- it isn't shorter
pub put_long : (cell : ℕ) (xs cells : List Cell) → length cells ≤ length (put_in cell xs cells)
put_long cell xs cells =
    let all = length-append (take cell cells ++ xs) (drop (cell + length xs) cells) in
    let rest = length-append (take cell cells) xs in
    let both = length-append (take cell cells) (drop cell cells) in
    let same : length (take cell cells ++ drop cell cells) ≡ length cells = ap length (take-append-drop cell cells) in
    let here = length-drop cell cells in
    let behind = length-drop (cell + length xs) cells in
    omega (arith, all, rest, both, same, here, behind)

-- none of them changes nothing
pub put_none : (cell : ℕ) (cells : List Cell) → put_in cell [] cells ≡ cells
put_none cell cells =
    let same : cell + length {A = Cell} [] ≡ cell = omega arith in
    ap (λ n. take cell cells ++ [] ++ drop n cells) same ∙ ap (λ front. front ++ drop cell cells) (append-nil (take cell cells)) ∙ take-append-drop cell cells

put_one_more : (cells : List Cell) (cell n q m : ℕ) (x : Cell) (xs : List Cell) (old : Cell) → slice_get cells cell ≡ Some old →
    n ≡ cell + suc (length xs) → q ≡ cell + 1 → m ≡ cell + 1 + length xs →
    take cell cells ++ (x ∷ xs) ++ drop n cells ≡ take q (slice_set cells cell x) ++ xs ++ drop m (slice_set cells cell x)
put_one_more [] cell n q m x xs old found a b c = cc
put_one_more (y ∷ cells) zero n q m x xs old found a b c =
    let one : n ≡ suc (length xs) = omega (arith, a) in
    let two : q ≡ suc zero = omega (arith, b) in
    let three : m ≡ suc (length xs) = omega (arith, c) in
    rw (one, two, three) refl
put_one_more (y ∷ cells) (suc cell) n q m x xs old found a b c =
    let one : n ≡ suc (cell + suc (length xs)) = omega (arith, a) in
    let two : q ≡ suc (cell + 1) = omega (arith, b) in
    let three : m ≡ suc (cell + 1 + length xs) = omega (arith, c) in
    rw (one, two, three) (ap (λ tail. y ∷ tail) (put_one_more cells cell (cell + suc (length xs)) (cell + 1) (cell + 1 + length xs) x xs old found refl refl refl))

-- the first is put in, and then the others behind it
pub put_more : (cells : List Cell) (cell : ℕ) (x : Cell) (xs : List Cell) (old : Cell) → slice_get cells cell ≡ Some old →
    put_in (cell + 1) xs (slice_set cells cell x) ≡ put_in cell (x ∷ xs) cells
put_more cells cell x xs old found = sym (put_one_more cells cell (cell + length (x ∷ xs)) (cell + 1) (cell + 1 + length xs) x xs old found refl refl refl)

-- where it is put it stands
set_there : (cells : List Cell) (cell : ℕ) (x old : Cell) → slice_get cells cell ≡ Some old → slice_get (slice_set cells cell x) cell ≡ Some x
set_there [] cell x old found = cc
set_there (y ∷ cells) zero x old found = refl
set_there (y ∷ cells) (suc cell) x old found = set_there cells cell x old found

-- CODE

module _ (o : Object) (c : Context) where
  -- cells get what is unset
  pub fill_carries : (place cell count : ℕ) (kind : Kind) → Is (code_of o c.routine) place (instr.Fill cell count kind) →
      Carries o c (done c (place + 1) []) (at c place []) (put_cells cell (replicate count (blank_of kind)))
  fill_carries place cell count kind is = instr_carries o c (done c (place + 1) []) place [] (instr.Fill cell count kind) (put_cells cell (replicate count (blank_of kind))) is (λ task cells more rest of.
      let lower = stack c.callers more in let f = frame_at c place [] cells in
      let xs = replicate count (blank_of kind) in
      let long : length xs ≡ count = length-replicate count (blank_of kind) in
      let after : Store = record { task = task; frames = put_in cell xs cells ∷ more } in
      needed_meets o c (done c (place + 1) []) (f ∷ lower) (nat_le (cell + count) (length cells)) (Silent (frame_at c (place + 1) [] (filled cells cell count kind) ∷ lower)) rest
      (Value tt after rest) (λ fits.
      subst (λ n. RowMeets o c (done c (place + 1) []) (f ∷ lower) (Silent (frame_at c (place + 1) [] (take cell cells ++ xs ++ drop (cell + n) cells) ∷ lower)) rest (Value tt after rest)) long
      (silent_meets o c (done c (place + 1) []) (f ∷ lower) tt after rest tt (more_cells (put_in cell xs cells) of (put_long cell xs cells)))))

  no_cells : (to from cell : ℕ) → to ≡ from → Carries o c (done c to []) (at c from []) (put_cells cell [])
  no_cells to from cell is = subst (λ to. Carries o c (done c to []) (at c from []) (put_cells cell [])) (sym is)
      (same_carries o c (done c from []) (at c from []) (gives tt) (put_cells cell []) (λ store rest. same store.task store.frames rest)
      (gives_carries o c (done c from []) tt tt))
    where
      same : (task : ℕ) (frames : List (List Cell)) (rest : List Answer) →
          gives tt (record { task = task; frames = frames }) rest ≡ put_cells cell [] (record { task = task; frames = frames }) rest
      same task [] rest = refl
      same task (cells ∷ more) rest = ap (λ cells. Value tt (record { task = task; frames = cells ∷ more }) rest) (sym (put_none cell cells))

  -- a value is put into a cell, where it stands then, and others behind it
  store_then : (place cell to : ℕ) (x : Cell) (xs : List Cell) → Is (code_of o c.routine) place (instr.Store cell) →
      ((task : ℕ) (cells : List Cell) (more : List (List Cell)) (rest : List Answer) → IsStoreOf o c (record { task = task; frames = cells ∷ more }) → slice_get cells cell ≡ Some x →
      let store : Store = record { task = task; frames = cells ∷ more } in
      Meets o c (done c to []) (at c (place + 1) [] store) rest (put_cells (cell + 1) xs store rest)) →
      Carries o c (done c to []) (at c place (x ∷ [])) (put_cells cell (x ∷ xs))
  store_then place cell to x xs is behind = instr_carries o c (done c to []) place (x ∷ []) (instr.Store cell) (put_cells cell (x ∷ xs)) is (λ task cells more rest of.
      let lower = stack c.callers more in let f = frame_at c place (x ∷ []) cells in
      let middle : Store = record { task = task; frames = slice_set cells cell x ∷ more } in
      let long : length (slice_set cells cell x) ≡ length cells = length-set cells cell x in
      given_meets o c (done c to []) (f ∷ lower) (slice_get cells cell) (λ old. Silent (frame_at c (place + 1) [] (slice_set cells cell x) ∷ lower)) rest
      (put_cells cell (x ∷ xs) (record { task = task; frames = cells ∷ more }) rest) (λ old found.
      subst (λ cells. RowMeets o c (done c to []) (f ∷ lower) (Silent (at c (place + 1) [] middle)) rest (Value tt (record { task = task; frames = cells ∷ more }) rest)) (put_more cells cell x xs old found)
      (goes_meets o c (done c to []) (f ∷ lower) (at c (place + 1) [] middle) rest (put_cells (cell + 1) xs middle rest)
      (behind task (slice_set cells cell x) more rest (more_cells (slice_set cells cell x) of (omega (arith, long))) (set_there cells cell x old found)))))

  -- a value that stands in a cell is put into those behind it
  repeats_meet : (setting : Setting) (from cell n to : ℕ) (x : Cell) → RepeatsAt setting (code_of o c.routine) from cell n to →
      (task : ℕ) (cells : List Cell) (more : List (List Cell)) (rest : List Answer) → IsStoreOf o c (record { task = task; frames = cells ∷ more }) → slice_get cells cell ≡ Some x →
      let store : Store = record { task = task; frames = cells ∷ more } in
      Meets o c (done c to []) (at c from [] store) rest (put_cells (cell + 1) (replicate n x) store rest)
  repeats_meet setting from cell zero to x code task cells more rest of found =
      (no_cells to from (cell + 1) code).over (record { task = task; frames = cells ∷ more }) rest of
  repeats_meet setting from cell (suc n) to x code task cells more rest of found =
      let store : Store = record { task = task; frames = cells ∷ more } in
      let two : from + 2 ≡ from + 1 + 1 = omega arith in
      let next : Carries o c (done c to []) (at c (from + 1) (x ∷ [])) (put_cells (cell + 1) (x ∷ replicate n x)) =
      store_then (from + 1) (cell + 1) to x (replicate n x) code.1 (λ task cells more rest of found.
      let store : Store = record { task = task; frames = cells ∷ more } in
      subst (λ place. Meets o c (done c to []) (at c place [] store) rest (put_cells (cell + 1 + 1) (replicate n x) store rest)) two
      (repeats_meet setting (from + 2) (cell + 1) n to x code.2 task cells more rest of found)) in
      let first : Meets o c (on_top c (from + 1) []) (at c from [] store) rest (Value x store rest) =
      subst (λ found. Meets o c (on_top c (from + 1) []) (at c from [] store) rest (given_value found store rest)) found
      ((load_carries o c from cell [] code.0).over store rest of) in
      then_meets o c c (on_top c (from + 1) []) (done c to []) (at c from [] store) rest x store rest (put_cells (cell + 1) (replicate (suc n) x) store rest) first (λ here. next.over store rest of)

  -- the values are put into their cells one after the other, and the last one into the cells behind them
  pub stores_carry : (setting : Setting) (from cell : ℕ) (x : Cell) (xs : List Cell) (end n to : ℕ) → StoresAt setting (code_of o c.routine) from cell (x ∷ xs) end →
      RepeatsAt setting (code_of o c.routine) end (cell + length xs) n to →
      Carries o c (done c to []) (at c from []) (put_cells cell (x ∷ xs ++ replicate n (last_or x xs)))
  stores_carry setting from cell x [] end n to code repeated =
      let two : end ≡ from + 1 + 1 = let is = code.2 in omega (arith, is) in
      let same : cell + length {A = Cell} [] ≡ cell = omega arith in
      let again : RepeatsAt setting (code_of o c.routine) (from + 1 + 1) cell n to =
      subst (λ place. RepeatsAt setting (code_of o c.routine) place cell n to) two (subst (λ cell. RepeatsAt setting (code_of o c.routine) end cell n to) same repeated) in
      const_carries o c (done c to []) from x [] (put_cells cell (x ∷ replicate n x)) code.0
      (store_then (from + 1) cell to x (replicate n x) code.1 (repeats_meet setting (from + 1 + 1) cell n to x again))
  stores_carry setting from cell x (y ∷ ys) end n to code repeated =
      let two : from + 2 ≡ from + 1 + 1 = omega arith in
      let one : cell + length (y ∷ ys) ≡ cell + 1 + length ys = omega arith in
      let all = y ∷ ys ++ replicate n (last_or y ys) in
      let behind : Carries o c (done c to []) (at c (from + 1 + 1) []) (put_cells (cell + 1) all) =
      subst (λ place. Carries o c (done c to []) (at c place []) (put_cells (cell + 1) all)) two
      (stores_carry setting (from + 2) (cell + 1) y ys end n to code.2 (subst (λ cell. RepeatsAt setting (code_of o c.routine) end cell n to) one repeated)) in
      const_carries o c (done c to []) from x [] (put_cells cell (x ∷ all)) code.0
      (store_then (from + 1) cell to x all code.1 (λ task cells more rest of found. behind.over (record { task = task; frames = cells ∷ more }) rest of))

  -- a renewal
  pub renew_carries : (setting : Setting) (from cell : ℕ) (values : PlainValues) (constants : List Cell) (to : ℕ) → values.constants ≡ constants →
      RenewAt setting (code_of o c.routine) from cell values constants to → Carries o c (done c to []) (at c from []) (put_cells cell (first_cells values))
  renew_carries setting from cell values [] to none code =
      let blank = blank_of values.kind in
      let all : first_cells values ≡ replicate (values.count - 0) blank = ap (λ cs. cs ++ replicate (values.count - length cs) (last_or blank cs)) none in
      let count : values.count - 0 ≡ values.count = omega arith in
      subst (λ to. Carries o c (done c to []) (at c from []) (put_cells cell (first_cells values))) (sym code.1)
      (subst (λ xs. Carries o c (done c (from + 1) []) (at c from []) (put_cells cell xs)) (sym (all ∙ ap (λ n. replicate n blank) count))
      (fill_carries from cell values.count values.kind code.0))
  renew_carries setting from cell values (x ∷ xs) to some code =
      let blank = blank_of values.kind in
      let n = values.count - length (x ∷ xs) in
      let all : first_cells values ≡ x ∷ xs ++ replicate n (last_or x xs) = ap (λ cs. cs ++ replicate (values.count - length cs) (last_or blank cs)) some in
      subst (λ cells. Carries o c (done c to []) (at c from []) (put_cells cell cells)) (sym all)
      (stores_carry setting from cell x xs code.0 n to code.1 code.2)
