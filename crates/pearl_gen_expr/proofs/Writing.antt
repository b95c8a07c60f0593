-- What is written to a variable is what is meant: it was taken before its value was made.
use Rattle.std.proofs.Common.{◌≡◌, ℕ, ◌+◌, ◌<◌, ◌≤◌, pos, List, [], ◌∷◌, ◌++◌, length, take, drop, replicate, Some, slice_get, slice_set, refl, sym, ap, ◌∙◌, subst, arith, Bool, true, false, lt-ltb, eq-eqb}
use Rattle.std.specs.Prelude.{nat_lt, ◌==◌, if◌then◌else◌, cond, get_or}
use Rattle.std.specs.List.{AllZip}
use Rattle.std.proofs.lemmas.List.{length-set, length-take, length-drop, length-replicate}
use Rattle.std.proofs.lemmas.Option.{slice_get-get_or}
use Rattle.pearl_value.specs.declared.kind.Kind.{Kind}
use Rattle.pearl_value.specs.declared.kind.CellKind.{CellKind}
use Rattle.pearl_value.specs.declared.cell.Cell.{Cell}
use Rattle.pearl_value.specs.declared.cell.Cell.TheVariants as cell
use Rattle.pearl_value.specs.declared.cell.Place.TheVariants as place_
use Rattle.pearl_value.specs.declared.trap.Trap.TheVariants.{Index as IndexTrap}
use Rattle.pearl_rules.specs.declared.action.Action.{Action}
use Rattle.pearl_rules.specs.declared.action.Action.TheVariants as action
use Rattle.pearl_rules.specs.declared.action.Answer.{Answer}
use Rattle.pearl_program.specs.declared.expression.Bound.{Bound}
use Rattle.pearl_program.specs.declared.expression.Target.TheVariants.{Leaf as LeafOf, Own}
use Rattle.pearl_program.specs.PlainPrograms.{PlainProg}
use Rattle.pearl_program.specs.Typing.{elements}
use Rattle.pearl_stack.specs.Frames as stack_frames
use Rattle.pearl_stack.specs.Frames.{Frame}
use Rattle.pearl_instructions.specs.declared.object.Parts.{Parts as Object}
use Rattle.pearl_instructions.specs.declared.instr.Instr.TheVariants as instr
use Rattle.pearl_instructions.specs.Objects.{first_slot}
use Rattle.pearl_instructions.specs.Steps.{Silent, acts, leaves, traps, within}
use Rattle.pearl_instructions.specs.Cells as rows
use Rattle.pearl_instructions.specs.Stacks.{cell_kinds}
use Rattle.pearl_meaning.specs.Frames as meaning
use Rattle.pearl_meaning.specs.Frames.{Store}
use Rattle.pearl_meaning.specs.Evaluation.{Value, Does, gives, next, ask}
use Rattle.pearl_meaning.specs.Variables.{write_reference}
use Rattle.pearl_gen_expr.specs.Contexts.{Standing, Context, stack, at, routines, HasCells, IsStoreOf}
use Rattle.pearl_gen_expr.specs.Carrying.{End, Carries}
use Rattle.pearl_gen_expr.specs.Tables.{plain_leaf, HasTables}
use Rattle.pearl_gen_expr.specs.ExprCode.{code_of, Is, writing}
use Rattle.pearl_gen_expr.specs.Ends.{done, offset_operands}
use Rattle.pearl_gen_expr.proofs.Moves.{frame_at, RowMeets, offered_from, ends_here, heard_meets, instr_carries, missing_meets, silent_meets, given_meets}
use Rattle.pearl_gen_expr.proofs.Tables.{leaf_is}
use Rattle.pearl_gen_expr.proofs.Cells.{callers_are, stack_long}
use Rattle.pearl_gen_expr.proofs.Elements.{FitsLeaf, chosen}

-- FRAMES IN WHICH A CELL IS WRITTEN

-- the frames keep their cells
chosen_cells : (o : Object) (routine : ℕ) (routines : List ℕ) (cells : List Cell) (more written : List (List Cell)) (k : ℕ) (x : Cell) (test : Bool) →
    HasCells o routine cells → AllZip (HasCells o) routines more → AllZip (HasCells o) routines written →
    AllZip (HasCells o) (routine ∷ routines) (if test then slice_set cells k x ∷ more else cells ∷ written)
chosen_cells o routine routines cells more written k x true has all after =
    (subst (λ n. length (cell_kinds o routine) ≤ n) (sym (length-set cells k x)) has, all)
chosen_cells o routine routines cells more written k x false has all after = (has, after)

written_cells : (o : Object) (routines : List ℕ) (frames : List (List Cell)) (n k : ℕ) (x : Cell) → AllZip (HasCells o) routines frames →
    AllZip (HasCells o) routines (meaning.with_cell_at frames n k x)
written_cells o [] [] n k x all = tt
written_cells o [] (cells ∷ more) n k x all = absurd all
written_cells o (routine ∷ routines) [] n k x all = absurd all
written_cells o (routine ∷ routines) (cells ∷ more) n k x all =
    chosen_cells o routine routines cells more (meaning.with_cell_at more n k x) k x (n == length more) all.0 all.1 (written_cells o routines more n k x all.1)

pub written_store : (o : Object) (c : Context) (task : ℕ) (frames : List (List Cell)) (n k : ℕ) (x : Cell) → IsStoreOf o c (record { task = task; frames = frames }) →
    IsStoreOf o c (record { task = task; frames = meaning.with_cell_at frames n k x })
written_store o c task frames n k x is = record { cells = written_cells o (routines c) frames n k x is.cells; task = is.task }

-- the stack is the one that has these cells
chosen_stack : (caller : Standing) (callers : List Standing) (cells : List Cell) (more written : List (List Cell)) (lower : List Frame) (k : ℕ) (x : Cell) (test : Bool) →
    lower ≡ stack callers written →
    let f : Frame = record { routine = caller.routine; place = caller.place; cells = cells; operands = caller.operands } in
    cond test (record f { cells = slice_set cells k x } ∷ stack callers more) (f ∷ lower)
    ≡ stack (caller ∷ callers) (if test then slice_set cells k x ∷ more else cells ∷ written)
chosen_stack caller callers cells more written lower k x true same = refl
chosen_stack caller callers cells more written lower k x false same =
    ap (λ lower. record { routine = caller.routine; place = caller.place; cells = cells; operands = caller.operands } ∷ lower) same

pub written_is : (callers : List Standing) (frames : List (List Cell)) (n k : ℕ) (x : Cell) → length callers ≡ length frames →
    stack_frames.with_cell (stack callers frames) n k x ≡ stack callers (meaning.with_cell_at frames n k x)
written_is [] [] n k x same = refl
written_is [] (cells ∷ more) n k x same = absurd (omega (arith, same))
written_is (caller ∷ callers) [] n k x same = refl
written_is (caller ∷ callers) (cells ∷ more) n k x same =
    let less : length callers ≡ length more = omega (arith, same) in
    let f : Frame = record { routine = caller.routine; place = caller.place; cells = cells; operands = caller.operands } in
    ap (λ long. cond (n == long) (record f { cells = slice_set cells k x } ∷ stack callers more) (f ∷ stack_frames.with_cell (stack callers more) n k x)) (stack_long callers more less)
    ∙ chosen_stack caller callers cells more (meaning.with_cell_at more n k x) (stack_frames.with_cell (stack callers more) n k x) k x (n == length more) (written_is callers more n k x less)

-- that of the routine at work
pub own_written : (cells : List Cell) (more : List (List Cell)) (k : ℕ) (x : Cell) (n : ℕ) → n ≡ length more → meaning.with_cell_at (cells ∷ more) n k x ≡ slice_set cells k x ∷ more
own_written cells more k x n same = by (n == length more) (eq-eqb n (length more) same)
  where
    by : (test : Bool) → test ≡ true → (if test then slice_set cells k x ∷ more else cells ∷ meaning.with_cell_at more n k x) ≡ slice_set cells k x ∷ more
    by true e = refl
    by false e = cc

-- a variable's cell is there
pub is_there : (all : List CellKind) (first count before : ℕ) (kind : CellKind) (cells : List Cell) → take count (drop first all) ≡ replicate count kind → before < count →
    length all ≤ length cells → (x : Cell) × (slice_get cells (first + before) ≡ Some x)
is_there all first count before kind cells are less has =
    let long : length (take count (drop first all)) ≡ count = ap length are ∙ length-replicate count kind in
    let taken = length-take count (drop first all) in
    let dropped = length-drop first all in
    (get_or cells (first + before) (cell.Fixed 31 (pos 0)), slice_get-get_or cells (first + before) (cell.Fixed 31 (pos 0)) (omega (arith, long, taken, dropped, less, has)))

-- THE INSTRUCTIONS

module _ (o : Object) (c : Context) (place : ℕ) where
  -- an action is done, and what was below its operands is left
  pub acts_meets : (operands left cells : List Cell) (more : List (List Cell)) (task : ℕ) (offered : Action) (rest : List Answer) →
      IsStoreOf o c (record { task = task; frames = cells ∷ more }) →
      let f = frame_at c place operands cells in let lower = stack c.callers more in
      let does : Does (Unit {0}) = next (ask offered) (gives tt) in
      RowMeets o c (done c (place + 1) left) (f ∷ lower) (acts offered f lower left) rest (does (record { task = task; frames = cells ∷ more }) rest)
  acts_meets operands left cells more task offered [] is e = offered_from o offered (λ answer. frame_at c (place + 1) left cells ∷ stack c.callers more)
  acts_meets operands left cells more task offered (answer ∷ rest) is e =
      let lower = stack c.callers more in let store : Store = record { task = task; frames = cells ∷ more } in
      heard_meets o c (done c (place + 1) left) (frame_at c place operands cells ∷ lower) offered (λ answer. frame_at c (place + 1) left cells ∷ lower) answer rest (Value tt store rest)
      (ends_here o c (done c (place + 1) left) tt store rest tt is) e

  -- what the variable holds to which a reference leads is this
  pub write_ref : (r x : Cell) (operands : List Cell) → Is (code_of o c.routine) place instr.WriteRef →
      Carries o c (done c (place + 1) operands) (at c place (x ∷ r ∷ operands)) (write_reference r x)
  write_ref r x operands is =
      instr_carries o c (done c (place + 1) operands) place (x ∷ r ∷ operands) instr.WriteRef (write_reference r x) is (λ task cells more rest of. by r task cells more rest of)
    where
      by : (to : Cell) (task : ℕ) (cells : List Cell) (more : List (List Cell)) (rest : List Answer) → IsStoreOf o c (record { task = task; frames = cells ∷ more }) →
          let f = frame_at c place (x ∷ r ∷ operands) cells in let lower = stack c.callers more in
          RowMeets o c (done c (place + 1) operands) (f ∷ lower) (rows.write_reference x f lower operands to) rest
          (write_reference to x (record { task = task; frames = cells ∷ more }) rest)
      by (cell.Ref kind (place_.Slot slot)) task cells more rest of = acts_meets (x ∷ r ∷ operands) operands cells more task (action.Write slot x) rest of
      by (cell.Ref kind (place_.Cell n k)) task cells more rest of =
          let f = frame_at c place (x ∷ r ∷ operands) cells in let lower = stack c.callers more in
          let same = callers_are o c task cells more of in
          let top : Standing = record { routine = c.routine; place = place + 1; operands = operands } in
          let after : Store = record { task = task; frames = meaning.with_cell_at (cells ∷ more) n k x } in
          let end : End (Unit {0}) = done c (place + 1) operands in
          given_meets o c end (f ∷ lower) (stack_frames.cell_at (f ∷ lower) n k)
          (λ old. Silent (stack_frames.with_cell (frame_at c (place + 1) operands cells ∷ lower) n k x)) rest (Value tt after rest) (λ old here.
          subst (λ frames. RowMeets o c end (f ∷ lower) (Silent frames) rest (Value tt after rest))
          (sym (written_is (top ∷ c.callers) (cells ∷ more) n k x (omega (arith, same))))
          (silent_meets o c end (f ∷ lower) tt after rest tt (written_store o c task (cells ∷ more) n k x of)))
      by to task cells more rest of =
          missing_meets o c (done c (place + 1) operands) (frame_at c place (x ∷ r ∷ operands) cells ∷ stack c.callers more) rest
          (write_reference to x (record { task = task; frames = cells ∷ more }) rest)

  -- a cell of the routine at work
  stored : (k : ℕ) (kind : Kind) (x : Cell) (all operands cells : List Cell) (more : List (List Cell)) (task : ℕ) (rest : List Answer) →
      IsStoreOf o c (record { task = task; frames = cells ∷ more }) →
      let f = frame_at c place all cells in let lower = stack c.callers more in
      RowMeets o c (done c (place + 1) operands) (f ∷ lower) (rows.store k x f lower operands) rest
      (write_reference (cell.Ref kind (place_.Cell (length c.callers) k)) x (record { task = task; frames = cells ∷ more }) rest)
  stored k kind x all operands cells more task rest of =
      let f = frame_at c place all cells in let lower = stack c.callers more in
      let end : End (Unit {0}) = done c (place + 1) operands in
      let after : Store = record { task = task; frames = slice_set cells k x ∷ more } in
      let same = own_written cells more k x (length c.callers) (callers_are o c task cells more of) in
      given_meets o c end (f ∷ lower) (slice_get cells k) (λ old. leaves (rows.put f k x) lower operands) rest
      (write_reference (cell.Ref kind (place_.Cell (length c.callers) k)) x (record { task = task; frames = cells ∷ more }) rest) (λ old here.
      subst (λ frames. RowMeets o c end (f ∷ lower) (leaves (rows.put f k x) lower operands) rest (Value tt (record { task = task; frames = frames }) rest)) (sym same)
      (silent_meets o c end (f ∷ lower) tt after rest tt
      (subst (λ frames. IsStoreOf o c (record { task = task; frames = frames })) same (written_store o c task (cells ∷ more) (length c.callers) k x of))))

  pub write_own : (first before : ℕ) (bounds : List Bound) (kind : Kind) (x : Cell) (operands : List Cell) → before < elements bounds →
      Is (code_of o c.routine) place (writing (Own first) bounds) →
      Carries o c (done c (place + 1) operands) (at c place (x ∷ (offset_operands bounds (cell.Fixed 31 (pos before)) ++ operands)))
      (write_reference (cell.Ref kind (place_.Cell (length c.callers) (first + before))) x)
  write_own first before [] kind x operands less is =
      let does : ℕ → Does (Unit {0}) = λ k. write_reference (cell.Ref kind (place_.Cell (length c.callers) k)) x in
      let none : first ≡ first + before = omega (arith, less) in
      subst (λ k. Carries o c (done c (place + 1) operands) (at c place (x ∷ operands)) (does k)) none
      (instr_carries o c (done c (place + 1) operands) place (x ∷ operands) (instr.Store first) (does first) is (λ task cells more rest of.
      stored first kind x (x ∷ operands) operands cells more task rest of))
  write_own first before (bound ∷ bounds) kind x operands less is =
      let at_offset = cell.Fixed 31 (pos before) in let count = elements (bound ∷ bounds) in
      let does : Does (Unit {0}) = write_reference (cell.Ref kind (place_.Cell (length c.callers) (first + before))) x in
      let end : End (Unit {0}) = done c (place + 1) operands in
      instr_carries o c end place (x ∷ at_offset ∷ operands) (instr.StoreAt first count) does is (λ task cells more rest of.
      let f = frame_at c place (x ∷ at_offset ∷ operands) cells in let lower = stack c.callers more in let store : Store = record { task = task; frames = cells ∷ more } in
      subst (λ step. RowMeets o c end (f ∷ lower) step rest (does store rest))
      (sym (chosen (nat_lt before count) (rows.store (first + before) x f lower operands) (traps IndexTrap f lower) (lt-ltb before count less)))
      (stored (first + before) kind x (x ∷ at_offset ∷ operands) operands cells more task rest of))

  -- a slot of a leaf
  pub write_slot : (p : PlainProg) → HasTables p o → (number before : ℕ) (bounds : List Bound) (kind : Kind) (x : Cell) (operands : List Cell) → before < elements bounds →
      FitsLeaf p number bounds → Is (code_of o c.routine) place (writing (LeafOf number) bounds) →
      Carries o c (done c (place + 1) operands) (at c place (x ∷ (offset_operands bounds (cell.Fixed 31 (pos before)) ++ operands)))
      (write_reference (cell.Ref kind (place_.Slot (first_slot o.leaves number + before))) x)
  write_slot p tables number before [] kind x operands less fits is =
      let does : ℕ → Does (Unit {0}) = λ n. write_reference (cell.Ref kind (place_.Slot (first_slot o.leaves number + n))) x in
      let end : End (Unit {0}) = done c (place + 1) operands in
      let none : 0 ≡ before = omega (arith, less) in
      subst (λ n. Carries o c end (at c place (x ∷ operands)) (does n)) none
      (instr_carries o c end place (x ∷ operands) (instr.Write number) (does 0) is (λ task cells more rest of.
      let f = frame_at c place (x ∷ operands) cells in let lower = stack c.callers more in let store : Store = record { task = task; frames = cells ∷ more } in
      given_meets o c end (f ∷ lower) (slice_get o.leaves number) (λ leaf. rows.writes o number 0 x f lower operands) rest (does 0 store rest) (λ leaf here.
      acts_meets (x ∷ operands) operands cells more task (action.Write (first_slot o.leaves number + 0) x) rest of)))
  write_slot p tables number before (bound ∷ bounds) kind x operands less fits is =
      let at_offset = cell.Fixed 31 (pos before) in
      let does : Does (Unit {0}) = write_reference (cell.Ref kind (place_.Slot (first_slot o.leaves number + before))) x in
      let end : End (Unit {0}) = done c (place + 1) operands in
      instr_carries o c end place (x ∷ at_offset ∷ operands) (instr.WriteAt number) does is (λ task cells more rest of.
      let f = frame_at c place (x ∷ at_offset ∷ operands) cells in let lower = stack c.callers more in let store : Store = record { task = task; frames = cells ∷ more } in
      given_meets o c end (f ∷ lower) (slice_get o.leaves number) (λ leaf. within leaf.slots at_offset f lower (λ n. rows.writes o number n x f lower operands)) rest (does store rest) (λ leaf here.
      subst (λ step. RowMeets o c end (f ∷ lower) step rest (does store rest))
      (sym (chosen (nat_lt before leaf.slots) (rows.writes o number before x f lower operands) (traps IndexTrap f lower)
      (lt-ltb before leaf.slots (subst (λ count. before < count) (fits (plain_leaf leaf) (leaf_is p o tables number leaf here)) less))))
      (acts_meets (x ∷ at_offset ∷ operands) operands cells more task (action.Write (first_slot o.leaves number + before) x) rest of)))
