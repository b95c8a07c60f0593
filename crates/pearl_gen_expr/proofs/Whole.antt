-- The code of expressions, calls and targets does what they mean.
use Rattle.std.proofs.Common.{◌≡◌, ℕ, ◌+◌, ◌<◌, ◌≤◌, pos, List, [], ◌∷◌, ◌++◌, length, Option, Some, None, slice_get, refl, sym, ap, ◌∙◌, subst}
use Rattle.std.proofs.lemmas.Option.{same_Some}
use Rattle.pearl_value.specs.declared.kind.Kind.{Kind}
use Rattle.pearl_value.specs.declared.kind.CellKind.{CellKind}
use Rattle.pearl_value.specs.declared.kind.CellKind.TheVariants.{Plain, RefTo}
use Rattle.pearl_value.specs.declared.cell.Cell.{Cell}
use Rattle.pearl_value.specs.declared.cell.Cell.TheVariants as cell
use Rattle.pearl_value.specs.declared.cell.Place.TheVariants as place_
use Rattle.pearl_value.specs.Cells.{kind_of}
use Rattle.pearl_rules.specs.declared.action.Answer.{Answer}
use Rattle.pearl_program.specs.declared.expression.Bound.{Bound}
use Rattle.pearl_program.specs.declared.expression.Target.{Target}
use Rattle.pearl_program.specs.declared.expression.Target.TheVariants.{Leaf as LeafOf, Own, Param}
use Rattle.pearl_program.specs.PlainExpressions.{OfVariable, PlainExprs, NoExprs}
use Rattle.pearl_program.specs.PlainPrograms.{PlainLeaf, PlainProcedure}
use Rattle.pearl_program.specs.Typing.{Around, IsVariable, AreSubscripts, AreCells, IsParam, IsLeafOf, elements}
use Rattle.pearl_program.specs.Weights as weights
use Rattle.pearl_meaning.specs.Frames.{Store}
use Rattle.pearl_meaning.specs.Evaluation as evaluation
use Rattle.pearl_meaning.specs.Evaluation.{Value, Does, gives, bind, on_value, own_cell}
use Rattle.pearl_meaning.specs.Setting.{Setting, params_of}
use Rattle.pearl_meaning.specs.Variables.{reference, own_reference, write_reference}
use Rattle.pearl_meaning.specs.Values.{taken, hand_over}
use Rattle.pearl_meaning.specs.Transfers.{offset}
use Rattle.pearl_instructions.specs.declared.instr.Instr.TheVariants as instr
use Rattle.pearl_instructions.specs.declared.object.Parts.{Parts as Object}
use Rattle.pearl_instructions.specs.Objects.{first_slot}
use Rattle.pearl_gen_expr.specs.Contexts.{Context, at, IsStoreOf}
use Rattle.pearl_gen_expr.specs.Carrying.{Meets, Carries}
use Rattle.pearl_gen_expr.specs.ExprCode.{code_of, Is, writing, WayOf, AllAt, ArgumentsAt}
use Rattle.pearl_gen_expr.specs.Ends.{on_top, done, offset_on_top, offset_operands, IsOffset}
use Rattle.pearl_gen_expr.specs.Calls.{IsKnown}
use Rattle.pearl_gen_expr.specs.Laws.{CallCarries, WriteCarries, ExpressionsCarry}
use Rattle.pearl_gen_expr.proofs.Moves.{bind_carries, same_carries}
use Rattle.pearl_gen_expr.proofs.Tables.{slots_are}
use Rattle.pearl_gen_expr.proofs.Cells.{callers_are}
use Rattle.pearl_gen_expr.proofs.Instructions.{load_carries}
use Rattle.pearl_gen_expr.proofs.Elements.{FitsLeaf, slot_is, own_element}
use Rattle.pearl_gen_expr.proofs.Expressions.{by_offset, leaf_fits, offset_part, expr_part, all_part, arguments_part, call_part}
use Rattle.pearl_gen_expr.proofs.Writing.{is_there, write_ref, write_own, write_slot}

-- a leaf that is named is there
leaf_there : (found : Option PlainLeaf) (bounds : List Bound) (kind : Kind) → IsLeafOf found bounds kind → (leaf : PlainLeaf) × (found ≡ Some leaf)
leaf_there None bounds kind is = absurd is
leaf_there (Some leaf) bounds kind is = (leaf, refl)

module _ (o : Object) (c : Context) (setting : Setting) (around : Around) (below : ℕ) (known : IsKnown o c setting around below)
    (middle end : ℕ) (value : Does Cell) (made : (lower : List Cell) → Carries o c (on_top c end lower) (at c middle lower) value) (operands : List Cell) where
  write_param : (found : Option CellKind) (first : ℕ) (bounds : List Bound) (es : PlainExprs) (kind : Kind) (from : ℕ) → IsParam found bounds es kind →
      Is (code_of o c.routine) from (instr.Load first) → middle ≡ from + 1 → Is (code_of o c.routine) end instr.WriteRef →
      Carries o c (done c (end + 1) operands) (at c from operands) (bind (taken setting (OfVariable (Param first) bounds es)) (λ r. bind value (λ x. write_reference r x)))
  write_param (Some (RefTo of)) first [] NoExprs kind from typed load same is =
      bind_carries o c (on_top c middle operands) (done c (end + 1) operands) (at c from operands) (own_cell first) (λ r. bind value (λ x. write_reference r x))
      (subst (λ place. Carries o c (on_top c place operands) (at c from operands) (own_cell first)) (sym same) (load_carries o c from first operands load)) (λ r of.
      bind_carries o c (on_top c end (r ∷ operands)) (done c (end + 1) operands) (at c middle (r ∷ operands)) value (λ x. write_reference r x)
      (made (r ∷ operands)) (λ x of. write_ref o c end r x operands is))
  write_param found first bounds es kind from typed load same is = absurd typed

  -- the value is made on the offset, and then it is written to this reference
  to_slot : (number before : ℕ) (bounds : List Bound) (kind : Kind) → before < elements bounds → FitsLeaf setting.program number bounds → Is (code_of o c.routine) end (writing (LeafOf number) bounds) →
      Carries o c (done c (end + 1) operands) (at c middle (offset_operands bounds (cell.Fixed 31 (pos before)) ++ operands))
      (bind value (λ x. write_reference (cell.Ref kind (place_.Slot (first_slot o.leaves number + before))) x))
  to_slot number before bounds kind less fits is =
      let lower = offset_operands bounds (cell.Fixed 31 (pos before)) ++ operands in
      bind_carries o c (on_top c end lower) (done c (end + 1) operands) (at c middle lower) value
      (λ x. write_reference (cell.Ref kind (place_.Slot (first_slot o.leaves number + before))) x) (made lower)
      (λ x of. write_slot o c end setting.program known.tables number before bounds kind x operands less fits is)

  to_cell : (first before : ℕ) (bounds : List Bound) (kind : Kind) → before < elements bounds → Is (code_of o c.routine) end (writing (Own first) bounds) →
      Carries o c (done c (end + 1) operands) (at c middle (offset_operands bounds (cell.Fixed 31 (pos before)) ++ operands))
      (bind value (λ x. write_reference (cell.Ref kind (place_.Cell (length c.callers) (first + before))) x))
  to_cell first before bounds kind less is =
      let lower = offset_operands bounds (cell.Fixed 31 (pos before)) ++ operands in
      bind_carries o c (on_top c end lower) (done c (end + 1) operands) (at c middle lower) value
      (λ x. write_reference (cell.Ref kind (place_.Cell (length c.callers) (first + before))) x) (made lower)
      (λ x of. write_own o c end first before bounds kind x operands less is)

  -- a value is made, and written where the reference leads
  abbrev write_made : Cell → Does (Unit {0})
  write_made r = bind value (λ x. write_reference r x)

  write_leaf : (number : ℕ) (bounds : List Bound) (leaf : PlainLeaf) (x : Cell) → IsOffset bounds x → slice_get setting.program.leaves number ≡ Some leaf →
      FitsLeaf setting.program number bounds → Is (code_of o c.routine) end (writing (LeafOf number) bounds) →
      Carries o c (done c (end + 1) operands) (at c middle (offset_operands bounds x ++ operands)) (bind (reference setting (LeafOf number) bounds x) write_made)
  write_leaf number bounds leaf x of there fits is =
      let before = of.0 in
      let less : before < leaf.values.count = subst (λ count. before < count) (fits leaf there) of.2 in
      subst (λ x. Carries o c (done c (end + 1) operands) (at c middle (offset_operands bounds x ++ operands)) (bind (reference setting (LeafOf number) bounds x) write_made)) (sym of.1)
      (same_carries o c (done c (end + 1) operands) (at c middle (offset_operands bounds (cell.Fixed 31 (pos before)) ++ operands))
      (write_made (cell.Ref leaf.values.kind (place_.Slot (first_slot o.leaves number + before))))
      (bind (reference setting (LeafOf number) bounds (cell.Fixed 31 (pos before))) write_made)
      (λ store rest. ap (λ first. write_made (cell.Ref leaf.values.kind (place_.Slot (first + before))) store rest) (sym (slots_are setting.program o known.tables number))
      ∙ sym (ap (λ m. on_value m write_made) (slot_is setting number before bounds leaf there less store rest)))
      (to_slot number before bounds leaf.values.kind of.2 fits is))

  write_cell : (first before : ℕ) (bounds : List Bound) (kind : Kind) → before < elements bounds → AreCells around.cells first (elements bounds) (Plain kind) →
      Is (code_of o c.routine) end (writing (Own first) bounds) →
      (task : ℕ) (frames : List (List Cell)) (rest : List Answer) → IsStoreOf o c (record { task = task; frames = frames }) →
      let store : Store = record { task = task; frames = frames } in
      Meets o c (done c (end + 1) operands) (at c middle (offset_operands bounds (cell.Fixed 31 (pos before)) ++ operands) store) rest
      (bind (reference setting (Own first) bounds (cell.Fixed 31 (pos before))) write_made store rest)
  write_cell first before bounds kind less are is task [] rest of = absurd of.cells
  write_cell first before bounds kind less are is task (cells ∷ more) rest of =
      let store : Store = record { task = task; frames = cells ∷ more } in
      let has : length around.cells ≤ length cells = subst (λ all. length all ≤ length cells) known.cells of.cells.0 in
      let found = is_there around.cells first (elements bounds) before (Plain kind) cells are less has in
      let k = first + before in
      let r : ℕ → Cell = λ n. cell.Ref (kind_of found.0) (place_.Cell n k) in
      let referred : own_reference k store rest ≡ Value (r (length more)) store rest =
      ap (λ found. on_value (evaluation.given found gives store rest) (λ x. bind evaluation.own_frame (λ frame. gives (cell.Ref (kind_of x) (place_.Cell frame k))))) found.1 in
      subst (Meets o c (done c (end + 1) operands) (at c middle (offset_operands bounds (cell.Fixed 31 (pos before)) ++ operands) store) rest)
      (ap (λ n. write_made (r n) store rest) (callers_are o c task cells more of)
      ∙ sym (ap (λ m. on_value m write_made) (own_element setting first before bounds less store rest ∙ referred)))
      ((to_cell first before bounds (kind_of found.0) less is).over store rest of)

  write_own_part : (first : ℕ) (bounds : List Bound) (kind : Kind) (x : Cell) → IsOffset bounds x → AreCells around.cells first (elements bounds) (Plain kind) →
      Is (code_of o c.routine) end (writing (Own first) bounds) →
      Carries o c (done c (end + 1) operands) (at c middle (offset_operands bounds x ++ operands)) (bind (reference setting (Own first) bounds x) write_made)
  write_own_part first bounds kind x of are is =
      subst (λ x. Carries o c (done c (end + 1) operands) (at c middle (offset_operands bounds x ++ operands)) (bind (reference setting (Own first) bounds x) write_made)) (sym of.1)
      (record { over = λ store rest is_of. write_cell first of.0 bounds kind of.2 are is store.task store.frames rest is_of })

  -- the offset is found, and then the value is made and written
  write_way : (target : Target) (bounds : List Bound) (es : PlainExprs) (from : ℕ) →
      Carries o c (offset_on_top c middle operands bounds) (at c from operands) (offset setting (OfVariable target bounds es)) →
      ((x : Cell) → IsOffset bounds x →
      Carries o c (done c (end + 1) operands) (at c middle (offset_operands bounds x ++ operands)) (bind (reference setting target bounds x) write_made)) →
      Carries o c (done c (end + 1) operands) (at c from operands) (bind (taken setting (OfVariable target bounds es)) write_made)
  write_way target bounds es from found on =
      same_carries o c (done c (end + 1) operands) (at c from operands)
      (bind (offset setting (OfVariable target bounds es)) (λ x. bind (reference setting target bounds x) write_made))
      (bind (taken setting (OfVariable target bounds es)) write_made) (by_offset setting target bounds es write_made)
      (bind_carries o c (offset_on_top c middle operands bounds) (done c (end + 1) operands) (at c from operands) (offset setting (OfVariable target bounds es))
      (λ x. bind (reference setting target bounds x) write_made) found on)

  write_part : (target : Target) (bounds : List Bound) (es : PlainExprs) (kind : Kind) (from : ℕ) → IsVariable around (OfVariable target bounds es) kind →
      weights.of_exprs weights.calls es ≤ below → WayOf (code_of o c.routine) from target bounds (λ end. AllAt setting.program (code_of o c.routine) from es end) middle →
      Is (code_of o c.routine) end (writing target bounds) →
      Carries o c (done c (end + 1) operands) (at c from operands) (bind (taken setting (OfVariable target bounds es)) write_made)
  write_part (LeafOf number) bounds es kind from typed less way is =
      let leaves = known.stands.leaves in
      let found = leaf_there (slice_get around.leaves number) bounds kind typed.0 in
      write_way (LeafOf number) bounds es from
      (offset_part o c setting around below known (LeafOf number) bounds es from middle operands
      (λ from to kinds operands are at. all_part o c setting around below known es kinds from to operands are less at) typed.2 way)
      (λ x of. write_leaf number bounds found.0 x of (ap (λ leaves. slice_get leaves number) (sym leaves) ∙ found.1)
      (λ leaf there. leaf_fits (slice_get around.leaves number) bounds kind leaf typed.0 (ap (λ leaves. slice_get leaves number) leaves ∙ there)) is)
  write_part (Own first) bounds es kind from typed less way is =
      write_way (Own first) bounds es from
      (offset_part o c setting around below known (Own first) bounds es from middle operands
      (λ from to kinds operands are at. all_part o c setting around below known es kinds from to operands are less at) typed.2 way)
      (λ x of. write_own_part first bounds kind x of typed.0.0 is)
  write_part (Param first) bounds es kind from typed less way is =
      write_param (slice_get around.cells first) first bounds es kind from typed way.0 way.1 is

-- a variable's subscripts are typed
param_subscripts : (around : Around) (found : Option CellKind) (bounds : List Bound) (es : PlainExprs) (kind : Kind) → IsParam found bounds es kind → AreSubscripts around bounds es
param_subscripts around (Some (RefTo of)) [] NoExprs kind typed = tt
param_subscripts around found bounds es kind typed = absurd typed

subscripts_of : (around : Around) (target : Target) (bounds : List Bound) (es : PlainExprs) (kind : Kind) → IsVariable around (OfVariable target bounds es) kind → AreSubscripts around bounds es
subscripts_of around (LeafOf number) bounds es kind typed = typed.2
subscripts_of around (Own first) bounds es kind typed = typed.2
subscripts_of around (Param first) bounds es kind typed = param_subscripts around (slice_get around.cells first) bounds es kind typed

module _ (o : Object) (c : Context) (setting : Setting) (around : Around) (below : ℕ) (known : IsKnown o c setting around below) where
  call_law : CallCarries o c setting around below
  call_law from to number procedure arguments operands there typed few less is =
      let same : is.0 ≡ procedure = same_Some is.0 procedure (sym is.1 ∙ there) in
      call_part o c setting around below known number (λ params. hand_over setting params arguments) from to operands procedure there few is.2
      (arguments_part o c setting around below known arguments (params_of procedure) from is.2 operands typed less
      (subst (λ (procedure : PlainProcedure). ArgumentsAt setting.program (code_of o c.routine) from (params_of procedure) arguments is.2) same is.3)) is.4 is.5

  write_law : WriteCarries o c setting around below
  write_law from middle end (OfVariable target bounds es) kind value operands typed less way made is =
      write_part o c setting around below known middle end value made operands target bounds es kind from typed less way is

pub expressions_carry : ExpressionsCarry
expressions_carry o c setting around below known = record {
  expr = λ from to e kind operands typed less is. expr_part o c setting around below known e kind from to operands typed less is;
  all = λ from to es kinds operands typed less is. all_part o c setting around below known es kinds from to operands typed less is;
  call = call_law o c setting around below known;
  offset = λ from to target bounds es kind operands typed less is. offset_part o c setting around below known target bounds es from to operands
      (λ from to kinds operands are at. all_part o c setting around below known es kinds from to operands are less at)
      (subscripts_of around target bounds es kind typed) is;
  write = write_law o c setting around below known;
}
