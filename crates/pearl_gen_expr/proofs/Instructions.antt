-- What single instructions of expressions do is what is meant.
use Rattle.std.proofs.Common.{◌≡◌, ℕ, ◌+◌, ◌*◌, pos, ℤ, List, ◌∷◌, length, map, reverse, take, drop, Option, Some, None, slice_get, refl, sym, ap, ◌∙◌, subst, arith}
use Rattle.std.specs.Prelude.{option_and_then, option_map, Result, Ok, nat_le}
use Rattle.std.proofs.lemmas.List.{length-map}
use Rattle.pearl_value.specs.declared.kind.Kind.{Kind}
use Rattle.pearl_value.specs.declared.cell.Cell.{Cell}
use Rattle.pearl_value.specs.declared.cell.Cell.TheVariants as cell
use Rattle.pearl_value.specs.declared.operator.Monad.{Monad}
use Rattle.pearl_value.specs.declared.operator.Dyad.{Dyad}
use Rattle.pearl_value.specs.declared.trap.Trap.{Trap}
use Rattle.pearl_value.specs.Rows.{row1, row2}
use Rattle.pearl_value.specs.Applied.{applied1, applied2}
use Rattle.pearl_value.specs.Conversions.{converted, suits_kind}
use Rattle.pearl_rules.specs.declared.action.Action.TheVariants as action
use Rattle.pearl_rules.specs.declared.action.Answer.{Answer}
use Rattle.pearl_program.specs.declared.expression.Bound.{Bound}
use Rattle.pearl_program.specs.Typing.{elements}
use Rattle.pearl_instructions.specs.declared.instr.Bounds.{Bounds}
use Rattle.pearl_instructions.specs.declared.instr.Instr.TheVariants as instr
use Rattle.pearl_instructions.specs.declared.object.Parts.{Parts as Object}
use Rattle.pearl_instructions.specs.Steps.{Step, given, needed, value_kind, makes, leaves}
use Rattle.pearl_instructions.specs.Operators.{numbers_of, offset_of, index_of}
use Rattle.pearl_meaning.specs.Frames.{Store}
use Rattle.pearl_meaning.specs.Evaluation as evaluation
use Rattle.pearl_meaning.specs.Evaluation.{Outcome, Does, gives, value_or_trap, ask_value, own_cell}
use Rattle.pearl_meaning.specs.Variables as meaning
use Rattle.pearl_meaning.specs.Variables.{elements_before}
use Rattle.pearl_gen_expr.specs.Contexts.{Context, stack, at, pushed, IsStoreOf}
use Rattle.pearl_gen_expr.specs.Carrying.{Carries}
use Rattle.pearl_gen_expr.specs.ExprCode.{code_of, bounds_of, Is}
use Rattle.pearl_gen_expr.specs.Ends.{on_top, IsOffset}
use Rattle.pearl_gen_expr.proofs.Moves.{frame_at, RowMeets, on_top_of, instr_carries, missing_meets, silent_meets, given_meets, needed_meets, makes_meets, asks_meets}
use Rattle.pearl_gen_expr.proofs.Index.{taken_is, dropped_is, offset_is, is_before}

module _ (o : Object) (c : Context) (place : ℕ) where
  pub const_carries : (operands : List Cell) (literal : Cell) → Is (code_of o c.routine) place (instr.Const literal) →
      Carries o c (on_top c (place + 1) operands) (at c place operands) (gives literal)
  const_carries operands literal is = instr_carries o c (on_top c (place + 1) operands) place operands (instr.Const literal) (gives literal) is
      (λ task cells more rest of. silent_meets o c (on_top c (place + 1) operands) (frame_at c place operands cells ∷ stack c.callers more) literal
      (record { task = task; frames = cells ∷ more }) rest tt of)

  pub now_carries : (operands : List Cell) → Is (code_of o c.routine) place instr.Now →
      Carries o c (on_top c (place + 1) operands) (at c place operands) (ask_value action.Now)
  now_carries operands is = instr_carries o c (on_top c (place + 1) operands) place operands instr.Now (ask_value action.Now) is
      (λ task cells more rest of. asks_meets o c place operands operands cells more task action.Now rest of)

  pub try_carries : (semaphore : ℕ) (operands : List Cell) → Is (code_of o c.routine) place (instr.Try semaphore) →
      Carries o c (on_top c (place + 1) operands) (at c place operands) (ask_value (action.Try semaphore))
  try_carries semaphore operands is = instr_carries o c (on_top c (place + 1) operands) place operands (instr.Try semaphore) (ask_value (action.Try semaphore)) is
      (λ task cells more rest of. asks_meets o c place operands operands cells more task (action.Try semaphore) rest of)

  pub monadic_carries : (op : Monad) (x : Cell) (operands : List Cell) → Is (code_of o c.routine) place (instr.Monadic op) →
      Carries o c (on_top c (place + 1) operands) (at c place (x ∷ operands)) (value_or_trap (applied1 op x))
  monadic_carries op x operands is =
      instr_carries o c (on_top c (place + 1) operands) place (x ∷ operands) (instr.Monadic op) (value_or_trap (applied1 op x)) is (λ task cells more rest of.
      let f = frame_at c place (x ∷ operands) cells in let lower = stack c.callers more in let store : Store = record { task = task; frames = cells ∷ more } in
      given_meets o c (on_top c (place + 1) operands) (f ∷ lower) (option_and_then (row1 op) (value_kind x)) (λ kind. makes f lower operands (applied1 op x)) rest
      (value_or_trap (applied1 op x) store rest) (λ kind here.
      makes_meets o c (λ x. Unit {0}) place (x ∷ operands) operands cells more task (applied1 op x) rest (λ y made. tt) of))

  pub dyadic_carries : (op : Dyad) (x y : Cell) (operands : List Cell) → Is (code_of o c.routine) place (instr.Dyadic op) →
      Carries o c (on_top c (place + 1) operands) (at c place (y ∷ x ∷ operands)) (value_or_trap (applied2 op x y))
  dyadic_carries op x y operands is =
      instr_carries o c (on_top c (place + 1) operands) place (y ∷ x ∷ operands) (instr.Dyadic op) (value_or_trap (applied2 op x y)) is (λ task cells more rest of.
      let f = frame_at c place (y ∷ x ∷ operands) cells in let lower = stack c.callers more in let store : Store = record { task = task; frames = cells ∷ more } in
      let end = on_top c (place + 1) operands in let meant = value_or_trap (applied2 op x y) store rest in
      given_meets o c end (f ∷ lower) (value_kind x) (λ of_x. given (value_kind y) (λ of_y. given (row2 op of_x of_y) (λ kind. makes f lower operands (applied2 op x y)))) rest meant
      (λ of_x here. given_meets o c end (f ∷ lower) (value_kind y) (λ of_y. given (row2 op of_x of_y) (λ kind. makes f lower operands (applied2 op x y))) rest meant
      (λ of_y there. given_meets o c end (f ∷ lower) (row2 op of_x of_y) (λ kind. makes f lower operands (applied2 op x y)) rest meant
      (λ kind last. makes_meets o c (λ x. Unit {0}) place (y ∷ x ∷ operands) operands cells more task (applied2 op x y) rest (λ z made. tt) of))))

  pub conv_carries : (kind : Kind) (x : Cell) (operands : List Cell) → Is (code_of o c.routine) place (instr.Conv kind) →
      Carries o c (on_top c (place + 1) operands) (at c place (x ∷ operands)) (value_or_trap (converted x kind))
  conv_carries kind x operands is =
      instr_carries o c (on_top c (place + 1) operands) place (x ∷ operands) (instr.Conv kind) (value_or_trap (converted x kind)) is (λ task cells more rest of.
      let f = frame_at c place (x ∷ operands) cells in let lower = stack c.callers more in let store : Store = record { task = task; frames = cells ∷ more } in
      let end = on_top c (place + 1) operands in let meant = value_or_trap (converted x kind) store rest in
      given_meets o c end (f ∷ lower) (value_kind x) (λ from. needed (suits_kind from kind) (makes f lower operands (converted x kind))) rest meant
      (λ from here. needed_meets o c end (f ∷ lower) (suits_kind from kind) (makes f lower operands (converted x kind)) rest meant
      (λ suits. makes_meets o c (λ x. Unit {0}) place (x ∷ operands) operands cells more task (converted x kind) rest (λ y made. tt) of)))

  -- what a cell holds
  pub loaded : (all operands cells : List Cell) (more : List (List Cell)) (task : ℕ) (rest : List Answer) (found : Option Cell) →
      IsStoreOf o c (record { task = task; frames = cells ∷ more }) →
      let f = frame_at c place all cells in let lower = stack c.callers more in
      RowMeets o c (on_top c (place + 1) operands) (f ∷ lower) (given found (λ x. leaves f lower (x ∷ operands))) rest
      (evaluation.given found gives (record { task = task; frames = cells ∷ more }) rest)
  loaded all operands cells more task rest None of = missing_meets o c (on_top c (place + 1) operands) (frame_at c place all cells ∷ stack c.callers more) rest
      (evaluation.given None gives (record { task = task; frames = cells ∷ more }) rest)
  loaded all operands cells more task rest (Some x) of = silent_meets o c (on_top c (place + 1) operands) (frame_at c place all cells ∷ stack c.callers more) x
      (record { task = task; frames = cells ∷ more }) rest tt of

  pub load_carries : (cell : ℕ) (operands : List Cell) → Is (code_of o c.routine) place (instr.Load cell) →
      Carries o c (on_top c (place + 1) operands) (at c place operands) (own_cell cell)
  load_carries cell operands is = instr_carries o c (on_top c (place + 1) operands) place operands (instr.Load cell) (own_cell cell) is
      (λ task cells more rest of. loaded operands operands cells more task rest (slice_get cells cell) of)

  -- the subscripts are checked
  found_is : (bounds : List Bound) (xs : List Cell) (ns : List ℤ) → length xs ≡ length bounds → numbers_of xs ≡ Some ns → (store : Store) (rest : List Answer) →
      value_or_trap (index_of (offset_of (pos 0) (map bounds_of bounds) ns)) store rest ≡ meaning.offset_of (elements_before bounds xs) store rest
  found_is bounds xs ns long e store rest =
      ap (λ offset. value_or_trap (index_of offset) store rest) (offset_is 0 bounds xs ns long e) ∙ both (elements_before bounds xs)
    where
      both : (before : Option ℕ) → value_or_trap (index_of (option_map (λ n. pos (0 * elements bounds + n)) before)) store rest ≡ meaning.offset_of before store rest
      both None = refl
      both (Some n) = ap (λ n. gives (cell.Fixed 31 (pos n)) store rest) (omega arith)

  is_offset : (bounds : List Bound) (xs : List Cell) (before : Option ℕ) → elements_before bounds xs ≡ before → (x : Cell) →
      index_of (option_map (λ n. pos (0 * elements bounds + n)) before) ≡ Ok x → IsOffset bounds x
  is_offset bounds xs None e x made = cc
  is_offset bounds xs (Some n) e x made =
      let same : cell.Fixed 31 (pos (0 * elements bounds + n)) ≡ x = cc in
      let none : 0 * elements bounds + n ≡ n = omega arith in
      (n, sym same ∙ ap (λ n. cell.Fixed 31 (pos n)) none, is_before bounds xs n e)

  -- and their offset is pushed
  pub index_carries : (bounds : List Bound) (xs operands : List Cell) → length xs ≡ length bounds →
      Is (code_of o c.routine) place (instr.Index (map bounds_of bounds)) →
      Carries o c (on_top_of c (place + 1) operands (IsOffset bounds)) (at c place (pushed xs operands)) (meaning.offset_of (elements_before bounds xs))
  index_carries bounds xs operands long is =
      let list = map bounds_of bounds in
      let end = on_top_of c (place + 1) operands (IsOffset bounds) in
      instr_carries o c end place (pushed xs operands) (instr.Index list) (meaning.offset_of (elements_before bounds xs)) is (λ task cells more rest of.
      let f = frame_at c place (pushed xs operands) cells in let lower = stack c.callers more in let store : Store = record { task = task; frames = cells ∷ more } in
      let n = length list in
      let all = pushed xs operands in
      let many : length xs ≡ n = long ∙ sym (length-map bounds bounds_of) in
      let meant = meaning.offset_of (elements_before bounds xs) store rest in
      let test = nat_le n (length all) in
      let go : List Cell → List Cell → Step =
      λ xs left. needed test (given (numbers_of xs) (λ ns. makes f lower left (index_of (offset_of (pos 0) list ns)))) in
      let is_step : go (reverse (take n all)) (drop n all) ≡ go xs operands =
      ap (λ xs. go xs (drop n all)) (taken_is xs operands n many) ∙ ap (go xs) (dropped_is xs operands n many) in
      let made : List ℤ → Result Cell Trap = λ ns. index_of (offset_of (pos 0) list ns) in
      subst (λ step. RowMeets o c end (f ∷ lower) step rest meant) (sym is_step)
      (needed_meets o c end (f ∷ lower) test (given (numbers_of xs) (λ ns. makes f lower operands (made ns))) rest meant (λ enough.
      given_meets o c end (f ∷ lower) (numbers_of xs) (λ ns. makes f lower operands (made ns)) rest meant (λ ns here.
      subst (λ m. RowMeets o c end (f ∷ lower) (makes f lower operands (made ns)) rest m) (found_is bounds xs ns long here store rest)
      (makes_meets o c (IsOffset bounds) place all operands cells more task (made ns) rest
      (λ x ok. is_offset bounds xs (elements_before bounds xs) refl x (ap index_of (sym (offset_is 0 bounds xs ns long here)) ∙ ok)) of)))))
