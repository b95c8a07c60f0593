-- The value of an element, and a reference to it, are what is meant: its offset lies on the operands, where it has subscripts.
use Rattle.std.proofs.Common.{◌≡◌, ℕ, ◌+◌, ◌<◌, pos, List, [], ◌∷◌, ◌++◌, length, Option, Some, None, slice_get, refl, sym, ap, ◌∙◌, subst, arith, Bool, true, false, lt-ltb}
use Rattle.std.specs.Prelude.{nat_lt, if◌then◌else◌, option_and_then}
use Rattle.pearl_value.specs.declared.kind.Kind.{Kind}
use Rattle.pearl_value.specs.declared.cell.Cell.{Cell}
use Rattle.pearl_value.specs.declared.cell.Cell.TheVariants as cell
use Rattle.pearl_value.specs.declared.cell.Place.TheVariants as place_
use Rattle.pearl_value.specs.Cells.{kind_of}
use Rattle.pearl_value.specs.declared.trap.Trap.TheVariants.{Index as IndexTrap}
use Rattle.pearl_rules.specs.declared.action.Action.TheVariants as action
use Rattle.pearl_rules.specs.declared.action.Answer.{Answer}
use Rattle.pearl_program.specs.declared.expression.Bound.{Bound}
use Rattle.pearl_program.specs.declared.expression.Target.{Target}
use Rattle.pearl_program.specs.declared.expression.Target.TheVariants.{Leaf as LeafOf, Own, Param}
use Rattle.pearl_program.specs.PlainPrograms.{PlainLeaf, PlainProg}
use Rattle.pearl_program.specs.Typing.{elements}
use Rattle.pearl_stack.specs.Frames as stack_frames
use Rattle.pearl_stack.specs.Frames.{Frame}
use Rattle.pearl_instructions.specs.declared.instr.Instr.TheVariants as instr
use Rattle.pearl_instructions.specs.declared.object.Leaf.{Leaf}
use Rattle.pearl_instructions.specs.declared.object.Parts.{Parts as Object}
use Rattle.pearl_instructions.specs.Objects.{first_slot}
use Rattle.pearl_instructions.specs.Steps.{leaves, traps, value_kind, within}
use Rattle.pearl_instructions.specs.Cells as rows
use Rattle.pearl_meaning.specs.Frames.{Store}
use Rattle.pearl_meaning.specs.Evaluation as evaluation
use Rattle.pearl_meaning.specs.Evaluation.{Outcome, Value, Does, gives, fails, bind, on_value, ask_value, own_cell}
use Rattle.pearl_meaning.specs.Setting.{Setting}
use Rattle.pearl_meaning.specs.Variables as meaning
use Rattle.pearl_meaning.specs.Variables.{reference, own_reference, read_reference, read_place}
use Rattle.pearl_gen_expr.specs.Contexts.{Standing, Context, stack, at, IsStoreOf}
use Rattle.pearl_gen_expr.specs.Carrying.{Carries}
use Rattle.pearl_gen_expr.specs.Tables.{plain_leaf, HasTables}
use Rattle.pearl_gen_expr.specs.ExprCode.{code_of, Is, reading, slot_reference, cell_reference, referring}
use Rattle.pearl_gen_expr.specs.Ends.{on_top, offset_operands, IsOffset}
use Rattle.pearl_gen_expr.proofs.Moves.{frame_at, RowMeets, instr_carries, missing_meets, silent_meets, given_meets, asks_meets}
use Rattle.pearl_gen_expr.proofs.Instructions.{loaded}
use Rattle.pearl_gen_expr.proofs.Tables.{leaf_is, slots_are}
use Rattle.pearl_gen_expr.proofs.Cells.{callers_are, stack_long, cell_is, own_is}
use Rattle.std.proofs.lemmas.Option.{same_Some}

-- WHAT IS MEANT BY AN ELEMENT

pub chosen : {X : Type 0} (test : Bool) (one other : X) → test ≡ true → (if test then one else other) ≡ one
chosen true one other e = refl
chosen false one other e = cc

-- a slot of a leaf
pub slot_is : (setting : Setting) (number before : ℕ) (bounds : List Bound) (leaf : PlainLeaf) → slice_get setting.program.leaves number ≡ Some leaf → before < leaf.values.count →
    (store : Store) (rest : List Answer) → reference setting (LeafOf number) bounds (cell.Fixed 31 (pos before)) store rest
    ≡ Value (cell.Ref leaf.values.kind (place_.Slot (meaning.first_slot setting.program.leaves number + before))) store rest
slot_is setting number before bounds leaf is less store rest =
    let first = meaning.first_slot setting.program.leaves number in
    ap (λ found. evaluation.given found (λ (leaf : PlainLeaf). meaning.within leaf.values.count (cell.Fixed 31 (pos before))
    (λ before. gives (cell.Ref leaf.values.kind (place_.Slot (first + before))))) store rest) is
    ∙ ap (λ (does : Does Cell). does store rest) (chosen (nat_lt before leaf.values.count) (gives (cell.Ref leaf.values.kind (place_.Slot (first + before)))) (fails IndexTrap)
    (lt-ltb before leaf.values.count less))

-- an own cell
pub own_element : (setting : Setting) (at before : ℕ) (bounds : List Bound) → before < elements bounds → (store : Store) (rest : List Answer) →
    reference setting (Own at) bounds (cell.Fixed 31 (pos before)) store rest ≡ own_reference (at + before) store rest
own_element setting at before bounds less store rest =
    ap (λ (does : Does Cell). does store rest) (chosen (nat_lt before (elements bounds)) (own_reference (at + before)) (fails IndexTrap) (lt-ltb before (elements bounds) less))

frame_is : (found : Option Cell) (k : ℕ) (cells : List Cell) (more : List (List Cell)) (task : ℕ) (rest : List Answer) → slice_get cells k ≡ found →
    let store : Store = record { task = task; frames = cells ∷ more } in
    on_value (on_value (evaluation.given found gives store rest) (λ x. bind evaluation.own_frame (λ frame. gives (cell.Ref (kind_of x) (place_.Cell frame k))))) read_reference
    ≡ evaluation.given found gives store rest
frame_is None k cells more task rest e = refl
frame_is (Some x) k cells more task rest e =
    let store : Store = record { task = task; frames = cells ∷ more } in ap (λ found. evaluation.given found gives store rest) (own_is cells more k ∙ e)

own_read : (k : ℕ) (cells : List Cell) (more : List (List Cell)) (task : ℕ) (rest : List Answer) →
    let store : Store = record { task = task; frames = cells ∷ more } in
    bind (own_reference k) read_reference store rest ≡ evaluation.given (slice_get cells k) gives store rest
own_read k cells more task rest = frame_is (slice_get cells k) k cells more task rest refl

value_kind_is : (x : Cell) (kind : Kind) → value_kind x ≡ Some kind → kind_of x ≡ kind
value_kind_is (cell.Fixed len value) kind e = same_Some (kind_of (cell.Fixed len value)) kind e
value_kind_is (cell.Bits len value) kind e = same_Some (kind_of (cell.Bits len value)) kind e
value_kind_is (cell.Chars text) kind e = same_Some (kind_of (cell.Chars text)) kind e
value_kind_is (cell.Clock time) kind e = same_Some (kind_of (cell.Clock time)) kind e
value_kind_is (cell.Span time) kind e = same_Some (kind_of (cell.Span time)) kind e
value_kind_is (cell.Ref of at) kind e = cc

referred : (found : Option Cell) (kind : Kind) → option_and_then value_kind found ≡ Some kind → (x : Cell) × (found ≡ Some x) × (kind_of x ≡ kind)
referred None kind e = cc
referred (Some x) kind e = (x, refl, value_kind_is x kind e)

-- THE INSTRUCTIONS

-- a leaf has as many slots as these bounds have elements
abbrev pub FitsLeaf : PlainProg → ℕ → List Bound → Type 0
FitsLeaf p number bounds = (leaf : PlainLeaf) → slice_get p.leaves number ≡ Some leaf → elements bounds ≡ leaf.values.count

-- of own cells nothing is asked; a parameter with IDENT isn't reached by an offset
abbrev pub FitsTarget : PlainProg → Target → List Bound → Type 0
FitsTarget p (LeafOf number) bounds = FitsLeaf p number bounds
FitsTarget p (Own first) bounds = Unit {0}
FitsTarget p (Param at) bounds = ⊥

module _ (o : Object) (c : Context) (setting : Setting) (tables : HasTables setting.program o) (place : ℕ) where
  slot_meant : (number before : ℕ) (bounds : List Bound) → before < elements bounds → FitsLeaf setting.program number bounds →
      (leaf : Leaf) → slice_get o.leaves number ≡ Some leaf → (store : Store) (rest : List Answer) →
      reference setting (LeafOf number) bounds (cell.Fixed 31 (pos before)) store rest
      ≡ Value (cell.Ref leaf.kind (place_.Slot (first_slot o.leaves number + before))) store rest
  slot_meant number before bounds less fits leaf is store rest =
      let there = leaf_is setting.program o tables number leaf is in
      slot_is setting number before bounds (plain_leaf leaf) there (subst (λ count. before < count) (fits (plain_leaf leaf) there) less) store rest
      ∙ ap (λ first. Value (cell.Ref leaf.kind (place_.Slot (first + before))) store rest) (slots_are setting.program o tables number)

  read_slot : (number before : ℕ) (bounds : List Bound) (operands : List Cell) → before < elements bounds →
      FitsLeaf setting.program number bounds →
      Is (code_of o c.routine) place (reading (LeafOf number) bounds) →
      Carries o c (on_top c (place + 1) operands) (at c place (offset_operands bounds (cell.Fixed 31 (pos before)) ++ operands))
      (bind (reference setting (LeafOf number) bounds (cell.Fixed 31 (pos before))) read_reference)
  read_slot number before [] operands less fits is =
      let x = cell.Fixed 31 (pos before) in let does = bind (reference setting (LeafOf number) [] x) read_reference in
      let end = on_top c (place + 1) operands in
      instr_carries o c end place operands (instr.Read number) does is (λ task cells more rest of.
      let f = frame_at c place operands cells in let lower = stack c.callers more in let store : Store = record { task = task; frames = cells ∷ more } in
      given_meets o c end (f ∷ lower) (slice_get o.leaves number) (λ leaf. rows.reads o number 0 f lower operands) rest (does store rest) (λ leaf here.
      let none : 0 ≡ before = omega (arith, less) in
      subst (λ m. RowMeets o c end (f ∷ lower) (rows.reads o number 0 f lower operands) rest m)
      (ap (λ n. ask_value (action.Read (first_slot o.leaves number + n)) store rest) none
      ∙ sym (ap (λ m. on_value m read_reference) (slot_meant number before [] less fits leaf here store rest)))
      (asks_meets o c place operands operands cells more task (action.Read (first_slot o.leaves number + 0)) rest of)))
  read_slot number before (bound ∷ bounds) operands less fits is =
      let x = cell.Fixed 31 (pos before) in let does = bind (reference setting (LeafOf number) (bound ∷ bounds) x) read_reference in
      let end = on_top c (place + 1) operands in
      instr_carries o c end place (x ∷ operands) (instr.ReadAt number) does is (λ task cells more rest of.
      let f = frame_at c place (x ∷ operands) cells in let lower = stack c.callers more in let store : Store = record { task = task; frames = cells ∷ more } in
      given_meets o c end (f ∷ lower) (slice_get o.leaves number) (λ leaf. within leaf.slots x f lower (λ n. rows.reads o number n f lower operands)) rest (does store rest) (λ leaf here.
      subst (λ step. RowMeets o c end (f ∷ lower) step rest (does store rest))
      (sym (chosen (nat_lt before leaf.slots) (rows.reads o number before f lower operands) (traps IndexTrap f lower)
      (lt-ltb before leaf.slots (subst (λ count. before < count) (fits (plain_leaf leaf) (leaf_is setting.program o tables number leaf here)) less))))
      (subst (λ m. RowMeets o c end (f ∷ lower) (rows.reads o number before f lower operands) rest m)
      (sym (ap (λ m. on_value m read_reference) (slot_meant number before (bound ∷ bounds) less fits leaf here store rest)))
      (asks_meets o c place (x ∷ operands) operands cells more task (action.Read (first_slot o.leaves number + before)) rest of))))

  read_own : (first before : ℕ) (bounds : List Bound) (operands : List Cell) → before < elements bounds → Is (code_of o c.routine) place (reading (Own first) bounds) →
      Carries o c (on_top c (place + 1) operands) (at c place (offset_operands bounds (cell.Fixed 31 (pos before)) ++ operands))
      (bind (reference setting (Own first) bounds (cell.Fixed 31 (pos before))) read_reference)
  read_own first before [] operands less is =
      let x = cell.Fixed 31 (pos before) in let does = bind (reference setting (Own first) [] x) read_reference in
      let end = on_top c (place + 1) operands in
      instr_carries o c end place operands (instr.Load first) does is (λ task cells more rest of.
      let f = frame_at c place operands cells in let lower = stack c.callers more in let store : Store = record { task = task; frames = cells ∷ more } in
      let none : first ≡ first + before = omega (arith, less) in
      subst (λ m. RowMeets o c end (f ∷ lower) (rows.load first f lower operands) rest m)
      (ap (λ k. evaluation.given (slice_get cells k) gives store rest) none
      ∙ sym (ap (λ m. on_value m read_reference) (own_element setting first before [] less store rest) ∙ own_read (first + before) cells more task rest))
      (loaded o c place operands operands cells more task rest (slice_get cells first) of))
  read_own first before (bound ∷ bounds) operands less is =
      let x = cell.Fixed 31 (pos before) in let does = bind (reference setting (Own first) (bound ∷ bounds) x) read_reference in
      let end = on_top c (place + 1) operands in let count = elements (bound ∷ bounds) in
      instr_carries o c end place (x ∷ operands) (instr.LoadAt first count) does is (λ task cells more rest of.
      let f = frame_at c place (x ∷ operands) cells in let lower = stack c.callers more in let store : Store = record { task = task; frames = cells ∷ more } in
      subst (λ step. RowMeets o c end (f ∷ lower) step rest (does store rest))
      (sym (chosen (nat_lt before count) (rows.load (first + before) f lower operands) (traps IndexTrap f lower) (lt-ltb before count less)))
      (subst (λ m. RowMeets o c end (f ∷ lower) (rows.load (first + before) f lower operands) rest m)
      (sym (ap (λ m. on_value m read_reference) (own_element setting first before (bound ∷ bounds) less store rest) ∙ own_read (first + before) cells more task rest))
      (loaded o c place (x ∷ operands) operands cells more task rest (slice_get cells (first + before)) of)))

  -- the value to which a reference leads
  pub read_ref : (r : Cell) (operands : List Cell) → Is (code_of o c.routine) place instr.ReadRef →
      Carries o c (on_top c (place + 1) operands) (at c place (r ∷ operands)) (read_reference r)
  read_ref r operands is =
      instr_carries o c (on_top c (place + 1) operands) place (r ∷ operands) instr.ReadRef (read_reference r) is (λ task cells more rest of. by r task cells more rest of)
    where
      by : (x : Cell) (task : ℕ) (cells : List Cell) (more : List (List Cell)) (rest : List Answer) → IsStoreOf o c (record { task = task; frames = cells ∷ more }) →
          let f = frame_at c place (r ∷ operands) cells in let lower = stack c.callers more in
          RowMeets o c (on_top c (place + 1) operands) (f ∷ lower) (rows.read_reference f lower operands x) rest
          (read_reference x (record { task = task; frames = cells ∷ more }) rest)
      by (cell.Ref kind (place_.Slot slot)) task cells more rest of = asks_meets o c place (r ∷ operands) operands cells more task (action.Read slot) rest of
      by (cell.Ref kind (place_.Cell n k)) task cells more rest of =
          let f = frame_at c place (r ∷ operands) cells in let lower = stack c.callers more in let store : Store = record { task = task; frames = cells ∷ more } in
          let same = callers_are o c task cells more of in
          let top : Standing = record { routine = c.routine; place = place; operands = r ∷ operands } in
          subst (λ m. RowMeets o c (on_top c (place + 1) operands) (f ∷ lower) (rows.read_reference f lower operands (cell.Ref kind (place_.Cell n k))) rest m)
          (ap (λ found. evaluation.given found gives store rest) (cell_is (top ∷ c.callers) (cells ∷ more) n k (omega (arith, same))))
          (loaded o c place (r ∷ operands) operands cells more task rest (stack_frames.cell_at (f ∷ lower) n k) of)
      by x task cells more rest of =
          missing_meets o c (on_top c (place + 1) operands) (frame_at c place (r ∷ operands) cells ∷ stack c.callers more) rest
          (read_reference x (record { task = task; frames = cells ∷ more }) rest)

  -- the value of an element whose offset was found
  pub read_element : (target : Target) (bounds : List Bound) (x : Cell) (operands : List Cell) → IsOffset bounds x → FitsTarget setting.program target bounds →
      Is (code_of o c.routine) place (reading target bounds) →
      Carries o c (on_top c (place + 1) operands) (at c place (offset_operands bounds x ++ operands)) (bind (reference setting target bounds x) read_reference)
  read_element (LeafOf number) bounds x operands of fits is =
      subst (λ x. Carries o c (on_top c (place + 1) operands) (at c place (offset_operands bounds x ++ operands)) (bind (reference setting (LeafOf number) bounds x) read_reference)) (sym of.1)
      (read_slot number of.0 bounds operands of.2 fits is)
  read_element (Own first) bounds x operands of fits is =
      subst (λ x. Carries o c (on_top c (place + 1) operands) (at c place (offset_operands bounds x ++ operands)) (bind (reference setting (Own first) bounds x) read_reference)) (sym of.1)
      (read_own first of.0 bounds operands of.2 is)
  read_element (Param at) bounds x operands of fits is = absurd fits

  -- REFERENCES

  slot_refers : (number before : ℕ) (bounds : List Bound) (operands : List Cell) → before < elements bounds → FitsLeaf setting.program number bounds →
      Is (code_of o c.routine) place (slot_reference number bounds) →
      Carries o c (on_top c (place + 1) operands) (at c place (offset_operands bounds (cell.Fixed 31 (pos before)) ++ operands))
      (reference setting (LeafOf number) bounds (cell.Fixed 31 (pos before)))
  slot_refers number before [] operands less fits is =
      let x = cell.Fixed 31 (pos before) in let does = reference setting (LeafOf number) [] x in let end = on_top c (place + 1) operands in
      instr_carries o c end place operands (instr.RefSlot number) does is (λ task cells more rest of.
      let f = frame_at c place operands cells in let lower = stack c.callers more in let store : Store = record { task = task; frames = cells ∷ more } in
      given_meets o c end (f ∷ lower) (slice_get o.leaves number) (λ leaf. rows.slot_reference o number leaf 0 f lower operands) rest (does store rest) (λ leaf here.
      let none : 0 ≡ before = omega (arith, less) in
      let r : ℕ → Cell = λ n. cell.Ref leaf.kind (place_.Slot (first_slot o.leaves number + n)) in
      subst (λ m. RowMeets o c end (f ∷ lower) (rows.slot_reference o number leaf 0 f lower operands) rest m)
      (ap (λ n. Value (r n) store rest) none ∙ sym (slot_meant number before [] less fits leaf here store rest))
      (silent_meets o c end (f ∷ lower) (r 0) store rest tt of)))
  slot_refers number before (bound ∷ bounds) operands less fits is =
      let x = cell.Fixed 31 (pos before) in let does = reference setting (LeafOf number) (bound ∷ bounds) x in let end = on_top c (place + 1) operands in
      instr_carries o c end place (x ∷ operands) (instr.RefSlotAt number) does is (λ task cells more rest of.
      let f = frame_at c place (x ∷ operands) cells in let lower = stack c.callers more in let store : Store = record { task = task; frames = cells ∷ more } in
      given_meets o c end (f ∷ lower) (slice_get o.leaves number) (λ leaf. within leaf.slots x f lower (λ n. rows.slot_reference o number leaf n f lower operands)) rest (does store rest) (λ leaf here.
      subst (λ step. RowMeets o c end (f ∷ lower) step rest (does store rest))
      (sym (chosen (nat_lt before leaf.slots) (rows.slot_reference o number leaf before f lower operands) (traps IndexTrap f lower)
      (lt-ltb before leaf.slots (subst (λ count. before < count) (fits (plain_leaf leaf) (leaf_is setting.program o tables number leaf here)) less))))
      (subst (λ m. RowMeets o c end (f ∷ lower) (rows.slot_reference o number leaf before f lower operands) rest m)
      (sym (slot_meant number before (bound ∷ bounds) less fits leaf here store rest))
      (silent_meets o c end (f ∷ lower) (cell.Ref leaf.kind (place_.Slot (first_slot o.leaves number + before))) store rest tt of))))

  -- a reference to a cell of the frame at work
  cell_meant : (k : ℕ) (all operands cells : List Cell) (more : List (List Cell)) (task : ℕ) (rest : List Answer) → IsStoreOf o c (record { task = task; frames = cells ∷ more }) →
      let f = frame_at c place all cells in let lower = stack c.callers more in
      RowMeets o c (on_top c (place + 1) operands) (f ∷ lower) (rows.cell_reference k f lower operands) rest
      (own_reference k (record { task = task; frames = cells ∷ more }) rest)
  cell_meant k all operands cells more task rest of =
      let end = on_top c (place + 1) operands in
      let f = frame_at c place all cells in let lower = stack c.callers more in let store : Store = record { task = task; frames = cells ∷ more } in
      given_meets o c end (f ∷ lower) (option_and_then value_kind (slice_get cells k)) (λ kind. leaves f lower (cell.Ref kind (place_.Cell (length lower) k) ∷ operands)) rest
      (own_reference k store rest) (λ kind here.
      let there = referred (slice_get cells k) kind here in
      let r = cell.Ref kind (place_.Cell (length lower) k) in
      let meant : own_reference k store rest ≡ Value (cell.Ref (kind_of there.0) (place_.Cell (length more) k)) store rest =
      ap (λ found. on_value (evaluation.given found gives store rest) (λ x. bind evaluation.own_frame (λ frame. gives (cell.Ref (kind_of x) (place_.Cell frame k))))) there.1 in
      subst (λ m. RowMeets o c end (f ∷ lower) (leaves f lower (r ∷ operands)) rest m)
      (ap (λ kind. Value (cell.Ref kind (place_.Cell (length lower) k)) store rest) (sym there.2)
      ∙ (ap (λ n. Value (cell.Ref (kind_of there.0) (place_.Cell n k)) store rest) (stack_long c.callers more (callers_are o c task cells more of)) ∙ sym meant))
      (silent_meets o c end (f ∷ lower) r store rest tt of))

  own_refers : (first before : ℕ) (bounds : List Bound) (operands : List Cell) → before < elements bounds → Is (code_of o c.routine) place (cell_reference first bounds) →
      Carries o c (on_top c (place + 1) operands) (at c place (offset_operands bounds (cell.Fixed 31 (pos before)) ++ operands))
      (reference setting (Own first) bounds (cell.Fixed 31 (pos before)))
  own_refers first before [] operands less is =
      let x = cell.Fixed 31 (pos before) in let does = reference setting (Own first) [] x in let end = on_top c (place + 1) operands in
      instr_carries o c end place operands (instr.RefCell first) does is (λ task cells more rest of.
      let f = frame_at c place operands cells in let lower = stack c.callers more in let store : Store = record { task = task; frames = cells ∷ more } in
      let none : first ≡ first + before = omega (arith, less) in
      subst (λ m. RowMeets o c end (f ∷ lower) (rows.cell_reference first f lower operands) rest m)
      (ap (λ k. own_reference k store rest) none ∙ sym (own_element setting first before [] less store rest))
      (cell_meant first operands operands cells more task rest of))
  own_refers first before (bound ∷ bounds) operands less is =
      let x = cell.Fixed 31 (pos before) in let does = reference setting (Own first) (bound ∷ bounds) x in
      let end = on_top c (place + 1) operands in let count = elements (bound ∷ bounds) in
      instr_carries o c end place (x ∷ operands) (instr.RefCellAt first count) does is (λ task cells more rest of.
      let f = frame_at c place (x ∷ operands) cells in let lower = stack c.callers more in let store : Store = record { task = task; frames = cells ∷ more } in
      subst (λ step. RowMeets o c end (f ∷ lower) step rest (does store rest))
      (sym (chosen (nat_lt before count) (rows.cell_reference (first + before) f lower operands) (traps IndexTrap f lower) (lt-ltb before count less)))
      (subst (λ m. RowMeets o c end (f ∷ lower) (rows.cell_reference (first + before) f lower operands) rest m)
      (sym (own_element setting first before (bound ∷ bounds) less store rest))
      (cell_meant (first + before) (x ∷ operands) operands cells more task rest of)))

  -- a reference to an element whose offset was found
  pub refer_element : (target : Target) (bounds : List Bound) (x : Cell) (operands : List Cell) → IsOffset bounds x → FitsTarget setting.program target bounds →
      Is (code_of o c.routine) place (referring target bounds) →
      Carries o c (on_top c (place + 1) operands) (at c place (offset_operands bounds x ++ operands)) (reference setting target bounds x)
  refer_element (LeafOf number) bounds x operands of fits is =
      subst (λ x. Carries o c (on_top c (place + 1) operands) (at c place (offset_operands bounds x ++ operands)) (reference setting (LeafOf number) bounds x)) (sym of.1)
      (slot_refers number of.0 bounds operands of.2 fits is)
  refer_element (Own first) bounds x operands of fits is =
      subst (λ x. Carries o c (on_top c (place + 1) operands) (at c place (offset_operands bounds x ++ operands)) (reference setting (Own first) bounds x)) (sym of.1)
      (own_refers first of.0 bounds operands of.2 is)
  refer_element (Param at) bounds x operands of fits is = absurd fits
