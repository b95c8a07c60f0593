-- No rule of the validator fails in the code of an expression.
use Rattle.std.proofs.Common.{◌≡◌, ℕ, zero, suc, ◌+◌, ◌<◌, ◌≤◌, ◌⊎◌, inl, inr, max, true, List, [], ◌∷◌, ◌++◌, Option, Some, None, slice_get, length, map, refl, sym, ap, ◌∙◌, subst, arith}
use Rattle.std.specs.Prelude.{option_map, take, drop, unwrap_or}
use Rattle.std.specs.List.{sum_by}
use Rattle.std.proofs.Math.Nat.{mul-pos}
use Rattle.std.proofs.lemmas.Option.{slice_get-map, same_Some}
use Rattle.std.proofs.lemmas.List.Sums.{sum_by-cons}
use Rattle.std.proofs.lemmas.List.{length-take, length-drop, length-replicate}
use Rattle.pearl_value.specs.declared.kind.Kind.{Kind}
use Rattle.pearl_value.specs.declared.kind.Kind.TheVariants as kind_
use Rattle.pearl_value.specs.declared.kind.CellKind.{CellKind}
use Rattle.pearl_value.specs.declared.kind.CellKind.TheVariants.{Plain, RefTo}
use Rattle.pearl_value.specs.declared.cell.Cell.{Cell}
use Rattle.pearl_value.specs.declared.cell.Cell.TheVariants.{Fixed, Bits, Chars, Clock, Span, Ref}
use Rattle.pearl_value.specs.Cells.{cell_kind_of}
use Rattle.pearl_value.specs.WellFormed.{IsValueOf}
use Rattle.pearl_program.specs.declared.expression.Target.{Target}
use Rattle.pearl_program.specs.declared.expression.Target.TheVariants.{Leaf as LeafOf, Own, Param}
use Rattle.pearl_program.specs.declared.expression.Bound.{Bound}
use Rattle.pearl_program.specs.PlainExpressions.{PlainExpr, OfLiteral, OfRead, OfMonadic, OfDyadic, OfCall, OfNow, OfTry, OfVariable, PlainExprs, NoExprs, MoreExprs, PlainArgument, OfValue, OfIdent, PlainArguments, NoArguments, MoreArguments}
use Rattle.pearl_program.specs.PlainPrograms.{PlainLeaf, PlainProcedure, PlainProg}
use Rattle.pearl_program.specs.Typing.{Around, Signature, elements, HasKind, IsVariable, IsControl, IsLeafOf, IsParam, AreCells, AreSubscripts, Suit, SuitsParam}
use Rattle.pearl_program.specs.Sound.{IsProcedure}
use Rattle.pearl_program.specs.Weights.{calls, values, callees, of_expr, of_exprs, of_argument, of_arguments}
use Rattle.pearl_meaning.specs.Setting.{params_of}
use Rattle.pearl_instructions.specs.declared.instr.Instr.TheVariants as instr
use Rattle.pearl_instructions.specs.declared.object.Leaf.{Leaf}
use Rattle.pearl_instructions.specs.declared.object.Code.{Code}
use Rattle.pearl_instructions.specs.declared.object.Procedure.{Procedure}
use Rattle.pearl_instructions.specs.declared.object.Parts.{Parts as Object}
use Rattle.pearl_instructions.specs.Objects.{is_task}
use Rattle.pearl_instructions.specs.Operands.{Shape}
use Rattle.pearl_instructions.specs.Valid.{result_shape}
use Rattle.pearl_gen_expr.specs.Tables.{plain_leaf, Head, head_of, code_head}
use Rattle.pearl_gen_expr.specs.ExprCode.{Is, reading, writing, slot_reference, cell_reference, OffsetOf, ReadOf, ReferenceOf, ExprAt, AllAt, ArgumentsAt, ArgumentAt}
use Rattle.pearl_gen_expr.specs.Shapes.{IsQuiet, AreQuiet, IsOpen, Keeps, IsPlaced, depths, handed, offset_shape, AllKeep, CallKeeps, OffsetKeeps, WayKeeps, WritingKeeps, ExpressionsKeep}
use Rattle.pearl_gen_expr.proofs.Shapes.{quiet_open, both_keep}
use Rattle.pearl_gen_expr.proofs.Fitting.{const_keeps, now_keeps, try_keeps, conv_keeps, monadic_keeps, dyadic_keeps, load_keeps, read_keeps, read_at_keeps, read_ref_keeps, ref_slot_keeps, ref_slot_at_keeps, load_at_keeps, ref_cell_at_keeps, ref_cell_keeps, first_is_plain}
use Rattle.pearl_gen_expr.proofs.Gathering.{FixedOn, fixed_more, fixed_length, AreBounds, index_keeps, handed_length, call_keeps}
use Rattle.pearl_gen_expr.proofs.Storing.{write_keeps, write_at_keeps, write_ref_keeps, store_keeps, store_at_keeps}
use Rattle.pearl_gen_expr.proofs.Forward.{expr_forward, all_forward, arguments_forward, argument_forward, some_values}
use Rattle.pearl_gen_expr.proofs.Tables.{each, signature_is}

-- WHAT IS TYPED

pub literal_kind : (x : Cell) (kind : Kind) → IsValueOf kind x → cell_kind_of x ≡ Plain kind
literal_kind (Fixed len value) kind is = ap Plain is.same_kind
literal_kind (Bits len value) kind is = ap Plain is.same_kind
literal_kind (Chars text) kind is = ap Plain is.same_kind
literal_kind (Clock time) kind is = ap Plain is.same_kind
literal_kind (Span time) kind is = ap Plain is.same_kind
literal_kind (Ref of place) kind is = absurd is.is_value

pub less_left : (a b bound : ℕ) → max a b ≤ bound → a ≤ bound
less_left a b bound less = omega (arith, less)

pub less_right : (a b bound : ℕ) → max a b ≤ bound → b ≤ bound
less_right a b bound less = omega (arith, less)

pub some_elements : (bounds : List Bound) → 0 < elements bounds
some_elements [] = omega arith
some_elements (bound ∷ bounds) = mul-pos (omega arith) (some_elements bounds)

-- the leaf of the object
pub leaf_of : (found : Option Leaf) (bounds : List Bound) (kind : Kind) → IsLeafOf (option_map plain_leaf found) bounds kind → (leaf : Leaf) × (found ≡ Some leaf) × (leaf.kind ≡ kind)
leaf_of None bounds kind is = absurd is
leaf_of (Some leaf) bounds kind is = (leaf, refl, is.0)

leaf_small : (leaves : List PlainLeaf) (number : ℕ) (bounds : List Bound) (kind : Kind) → IsLeafOf (slice_get leaves number) bounds kind →
    elements bounds ≤ sum_by (λ (leaf : PlainLeaf). leaf.values.count) leaves
leaf_small [] zero bounds kind is = absurd is
leaf_small [] (suc number) bounds kind is = absurd is
leaf_small (leaf ∷ leaves) zero bounds kind is =
    let same = is.1 in let sum = sum_by-cons (λ (leaf : PlainLeaf). leaf.values.count) leaf leaves in omega (arith, same, sum)
leaf_small (leaf ∷ leaves) (suc number) bounds kind is =
    let less = leaf_small leaves number bounds kind is in let sum = sum_by-cons (λ (leaf : PlainLeaf). leaf.values.count) leaf leaves in omega (arith, less, sum)

pub cells_small : (cells : List CellKind) (first count : ℕ) (kind : CellKind) → AreCells cells first count kind → count ≤ length cells
cells_small cells first count kind are =
    let long : length (take count (drop first cells)) ≡ count = ap length are ∙ length-replicate count kind in
    let taken = length-take count (drop first cells) in
    let dropped = length-drop first cells in
    omega (arith, long, taken, dropped)

are_bounds : (around : Around) (bounds : List Bound) (es : PlainExprs) → AreSubscripts around bounds es → AreBounds bounds
are_bounds around [] es are = tt
are_bounds around (bound ∷ bounds) NoExprs are = absurd are
are_bounds around (bound ∷ bounds) (MoreExprs e rest) are = (are.0, are_bounds around bounds rest are.2)

many_values : (around : Around) (bounds : List Bound) (es : PlainExprs) → AreSubscripts around bounds es → length bounds ≤ of_exprs values es
many_values around [] es are = omega arith
many_values around (bound ∷ bounds) NoExprs are = absurd are
many_values around (bound ∷ bounds) (MoreExprs e rest) are = let one = some_values e in let more = many_values around bounds rest are.2 in omega (arith, one, more)

-- own variables, and what is only read
own_typed : (around : Around) (first : ℕ) (bounds : List Bound) (es : PlainExprs) (kind : Kind) →
    IsVariable around (OfVariable (Own first) bounds es) kind ⊎ IsControl around (OfVariable (Own first) bounds es) kind →
    AreCells around.cells first (elements bounds) (Plain kind) × (drop 3 bounds ≡ []) × AreSubscripts around bounds es
own_typed around first bounds es kind (inl is) = (is.0.0, is.1, is.2)
own_typed around first [] NoExprs kind (inr is) = (is.1, refl, tt)
own_typed around first [] (MoreExprs e rest) kind (inr is) = absurd is
own_typed around first (bound ∷ bounds) es kind (inr is) = absurd is

param_typed : (found : Option CellKind) (bounds : List Bound) (es : PlainExprs) (kind : Kind) → IsParam found bounds es kind → found ≡ Some (RefTo kind)
param_typed (Some (RefTo of)) [] NoExprs kind is = ap (λ of. Some (RefTo of)) is
param_typed found bounds es kind is = absurd is

no_bounds : (found : Option CellKind) (bounds : List Bound) (es : PlainExprs) (kind : Kind) → IsParam found bounds es kind → bounds ≡ []
no_bounds (Some (RefTo of)) [] NoExprs kind is = refl
no_bounds found bounds es kind is = absurd is

-- the procedure of the object
pub callee_of : (found : Option Procedure) (procedure : PlainProcedure) → option_map code_head found ≡ Some (head_of procedure) →
    (callee : Procedure) × (found ≡ Some callee) × (code_head callee ≡ head_of procedure)
callee_of None procedure same = cc
callee_of (Some callee) procedure same = (callee, refl, same_Some (code_head callee) (head_of procedure) same)

module _ (o : Object) (r : ℕ) (code : Code) where
  pub nothing_keeps : (from : ℕ) (s : Shape) → Keeps o r code from from s s
  nothing_keeps from s = record { forward = omega arith; shape = λ e. e; sound = λ e i low high. absurd (omega (arith, low, high)) }

  last_quiet : (from end to : ℕ) → AreQuiet code from to → from ≤ end → to ≡ end + 1 → IsQuiet code (end + 1)
  last_quiet from end to quiet less last = quiet (end + 1) (omega (arith, less)) (omega (arith, last))

  first_quiet : (from end to : ℕ) → AreQuiet code from to → end ≤ to → AreQuiet code from end
  first_quiet from end to quiet less place low high = quiet place low (omega (arith, less, high))

  then_quiet : (from middle to : ℕ) → AreQuiet code from to → from ≤ middle → AreQuiet code middle to
  then_quiet from middle to quiet less place low high = quiet place (omega (arith, less, low)) high

  -- a part, and one instruction behind it
  pub then_one : (from end to : ℕ) (s between after : Shape) → to ≡ end + 1 → Keeps o r code from end s between → Keeps o r code end (end + 1) between after → Keeps o r code from to s after
  then_one from end to s between after last one two =
      subst (λ to. Keeps o r code from to s after) (sym last) (both_keep o r code from end (end + 1) s between after one two)

  -- one instruction alone
  pub just_one : (from to : ℕ) (s after : Shape) → to ≡ from + 1 → Keeps o r code from (from + 1) s after → Keeps o r code from to s after
  just_one from to s after last one = subst (λ to. Keeps o r code from to s after) (sym last) one

module _ (o : Object) (r : ℕ) (code : Code) (p : PlainProg) (around : Around) (below most : ℕ) (placed : IsPlaced o r code p around below) where
  -- the depth has room for so many values more, and for those that are called
  abbrev Room : ℕ → Shape → Type 0
  Room n s = length code.cells + length s + n + most ≤ code.depth

  -- the subscripts of these bounds, which end here
  abbrev Subscripts : (from end : ℕ) → List Bound → Shape → Type 0
  Subscripts from end bounds s = (shape : Shape) × Keeps o r code from end s shape × FixedOn (length bounds) shape s

  offset_keeps : (bounds : List Bound) (es : PlainExprs) (from to n : ℕ) (s : Shape) → ((end : ℕ) → AreQuiet code from end → AllAt p code.instructions from es end → Subscripts from end bounds s) →
      AreBounds bounds → drop 3 bounds ≡ [] → elements bounds ≤ 65536 → length bounds ≤ n → Room n s → AreQuiet code from to →
      OffsetOf code.instructions from bounds (λ end. AllAt p code.instructions from es end) to → Keeps o r code from to s (offset_shape bounds s)
  offset_keeps [] es from to n s on are few small many room quiet is = subst (λ to. Keeps o r code from to s s) (sym is) (nothing_keeps o r code from s)
  offset_keeps (bound ∷ bounds) es from to n s on are few small many room quiet is =
      let end = is.0 in let last = is.3 in
      let less = all_forward p code.instructions es from end is.1 in
      let subscripts = on end (first_quiet o r code from end to quiet (omega (arith, last))) is.1 in
      let long = fixed_length (length (bound ∷ bounds)) subscripts.0 s subscripts.2 in
      then_one o r code from end to s subscripts.0 (Plain (kind_.Fixed 31) ∷ s) last subscripts.1
      (index_keeps o r code end (last_quiet o r code from end to quiet less last) bound bounds subscripts.0 s is.2 are few small subscripts.2 (omega (arith, long, many, room)))

  -- READING

  leaf_read : (number : ℕ) (bounds : List Bound) (end : ℕ) (s : Shape) (leaf : Leaf) → slice_get o.leaves number ≡ Some leaf → Is code.instructions end (reading (LeafOf number) bounds) →
      IsQuiet code (end + 1) → Room 1 s → Keeps o r code end (end + 1) (offset_shape bounds s) (Plain leaf.kind ∷ s)
  leaf_read number [] end s leaf there is quiet room = read_keeps o r code end quiet number leaf s is there (omega (arith, room))
  leaf_read number (bound ∷ bounds) end s leaf there is quiet room = read_at_keeps o r code end quiet number leaf s is there (omega (arith, room))

  own_read : (first : ℕ) (bounds : List Bound) (kind : Kind) (end : ℕ) (s : Shape) → AreCells code.cells first (elements bounds) (Plain kind) → Is code.instructions end (reading (Own first) bounds) →
      IsQuiet code (end + 1) → Room 1 s → Keeps o r code end (end + 1) (offset_shape bounds s) (Plain kind ∷ s)
  own_read first [] kind end s are is quiet room =
      load_keeps o r code end quiet first (Plain kind) s is (first_is_plain code first 1 kind (omega arith) are) (omega (arith, room))
  own_read first (bound ∷ bounds) kind end s are is quiet room =
      load_at_keeps o r code end quiet first (elements (bound ∷ bounds)) kind (some_elements (bound ∷ bounds)) are s is (omega (arith, room))

  leaf_refers : (number : ℕ) (bounds : List Bound) (end : ℕ) (s : Shape) (leaf : Leaf) → slice_get o.leaves number ≡ Some leaf → Is code.instructions end (slot_reference number bounds) →
      IsQuiet code (end + 1) → Room 1 s → Keeps o r code end (end + 1) (offset_shape bounds s) (RefTo leaf.kind ∷ s)
  leaf_refers number [] end s leaf there is quiet room = ref_slot_keeps o r code end quiet number leaf s is there (omega (arith, room))
  leaf_refers number (bound ∷ bounds) end s leaf there is quiet room = ref_slot_at_keeps o r code end quiet number leaf s is there (omega (arith, room))

  own_refers : (first : ℕ) (bounds : List Bound) (kind : Kind) (end : ℕ) (s : Shape) → AreCells code.cells first (elements bounds) (Plain kind) → Is code.instructions end (cell_reference first bounds) →
      IsQuiet code (end + 1) → Room 1 s → Keeps o r code end (end + 1) (offset_shape bounds s) (RefTo kind ∷ s)
  own_refers first [] kind end s are is quiet room = ref_cell_keeps o r code end quiet first kind s is are (omega (arith, room))
  own_refers first (bound ∷ bounds) kind end s are is quiet room =
      ref_cell_at_keeps o r code end quiet first (elements (bound ∷ bounds)) kind (some_elements (bound ∷ bounds)) are s is (omega (arith, room))

  -- WAYS TO ELEMENTS

  leaf_there : (number : ℕ) (bounds : List Bound) (kind : Kind) → IsLeafOf (slice_get around.leaves number) bounds kind →
      (leaf : Leaf) × (slice_get o.leaves number ≡ Some leaf) × (leaf.kind ≡ kind)
  leaf_there number bounds kind is =
      leaf_of (slice_get o.leaves number) bounds kind
      (subst (λ found. IsLeafOf found bounds kind) (ap (λ leaves. slice_get leaves number) (placed.stands.leaves ∙ sym placed.tables.leaves) ∙ slice_get-map plain_leaf o.leaves number) is)

  few_elements : (number : ℕ) (bounds : List Bound) (kind : Kind) → IsLeafOf (slice_get around.leaves number) bounds kind → elements bounds ≤ 65536
  few_elements number bounds kind is =
      let less = leaf_small p.leaves number bounds kind (subst (λ leaves. IsLeafOf (slice_get leaves number) bounds kind) placed.stands.leaves is) in
      let all = placed.sound.sizes.slots in
      omega (arith, less, all)

  few_cells : (first : ℕ) (bounds : List Bound) (kind : Kind) (n : ℕ) (s : Shape) → AreCells code.cells first (elements bounds) (Plain kind) → Room n s → elements bounds ≤ 65536
  few_cells first bounds kind n s are room =
      let less = cells_small code.cells first (elements bounds) (Plain kind) are in let deep = placed.depth in omega (arith, less, deep, room)

  read_keeps_on : (target : Target) (bounds : List Bound) (es : PlainExprs) (kind : Kind) (from to : ℕ) (s : Shape) →
      (AreSubscripts around bounds es → (end : ℕ) → AreQuiet code from end → AllAt p code.instructions from es end → Subscripts from end bounds s) →
      IsVariable around (OfVariable target bounds es) kind ⊎ IsControl around (OfVariable target bounds es) kind → Room (1 + of_exprs values es) s → AreQuiet code from to →
      ReadOf code.instructions from target bounds (λ end. AllAt p code.instructions from es end) to → Keeps o r code from to s (Plain kind ∷ s)
  read_keeps_on (LeafOf number) bounds es kind from to s on (inr typed) room quiet is = absurd typed
  read_keeps_on (LeafOf number) bounds es kind from to s on (inl typed) room quiet is =
      let leaf = leaf_there number bounds kind typed.0 in let end = is.0 in let last = is.3 in
      let many = many_values around bounds es typed.2 in
      let before = offset_keeps bounds es from end (of_exprs values es) s (on typed.2) (are_bounds around bounds es typed.2) typed.1 (few_elements number bounds kind typed.0) many
      (omega (arith, room)) (first_quiet o r code from end to quiet (omega (arith, last))) is.1 in
      then_one o r code from end to s (offset_shape bounds s) (Plain kind ∷ s) last before
      (subst (λ kind. Keeps o r code end (end + 1) (offset_shape bounds s) (Plain kind ∷ s)) leaf.2
      (leaf_read number bounds end s leaf.0 leaf.1 is.2 (last_quiet o r code from end to quiet before.forward last) (omega (arith, room))))
  read_keeps_on (Own first) bounds es kind from to s on typed room quiet is =
      let own = own_typed around first bounds es kind typed in let end = is.0 in let last = is.3 in
      let are : AreCells code.cells first (elements bounds) (Plain kind) = subst (λ cells. AreCells cells first (elements bounds) (Plain kind)) placed.cells own.0 in
      let many = many_values around bounds es own.2 in
      let before = offset_keeps bounds es from end (of_exprs values es) s (on own.2) (are_bounds around bounds es own.2) own.1
      (few_cells first bounds kind (1 + of_exprs values es) s are room) many (omega (arith, room)) (first_quiet o r code from end to quiet (omega (arith, last))) is.1 in
      then_one o r code from end to s (offset_shape bounds s) (Plain kind ∷ s) last before
      (own_read first bounds kind end s are is.2 (last_quiet o r code from end to quiet before.forward last) (omega (arith, room)))
  read_keeps_on (Param first) bounds es kind from to s on (inr typed) room quiet is = absurd typed
  read_keeps_on (Param first) bounds es kind from to s on (inl typed) room quiet is =
      let param = param_typed (slice_get around.cells first) bounds es kind typed in let end = is.0 in let last = is.3 in let one = is.1.1 in
      let there : slice_get code.cells first ≡ Some (RefTo kind) = ap (λ cells. slice_get cells first) (sym placed.cells) ∙ param in
      let before = just_one o r code from end s (RefTo kind ∷ s) one (load_keeps o r code from (last_quiet o r code from from end (first_quiet o r code from end to quiet (omega (arith, last))) (omega arith) one)
      first (RefTo kind) s is.1.0 there (omega (arith, room))) in
      then_one o r code from end to s (RefTo kind ∷ s) (Plain kind ∷ s) last before
      (read_ref_keeps o r code end (last_quiet o r code from end to quiet before.forward last) kind s is.2 (omega (arith, room)))

  refer_keeps : (target : Target) (bounds : List Bound) (es : PlainExprs) (kind : Kind) (from to : ℕ) (s : Shape) →
      (AreSubscripts around bounds es → (end : ℕ) → AreQuiet code from end → AllAt p code.instructions from es end → Subscripts from end bounds s) →
      IsVariable around (OfVariable target bounds es) kind → Room (1 + of_exprs values es) s → AreQuiet code from to →
      ReferenceOf code.instructions from target bounds (λ end. AllAt p code.instructions from es end) to → Keeps o r code from to s (RefTo kind ∷ s)
  refer_keeps (LeafOf number) bounds es kind from to s on typed room quiet is =
      let leaf = leaf_there number bounds kind typed.0 in let end = is.0 in let last = is.3 in
      let many = many_values around bounds es typed.2 in
      let before = offset_keeps bounds es from end (of_exprs values es) s (on typed.2) (are_bounds around bounds es typed.2) typed.1 (few_elements number bounds kind typed.0) many
      (omega (arith, room)) (first_quiet o r code from end to quiet (omega (arith, last))) is.1 in
      then_one o r code from end to s (offset_shape bounds s) (RefTo kind ∷ s) last before
      (subst (λ kind. Keeps o r code end (end + 1) (offset_shape bounds s) (RefTo kind ∷ s)) leaf.2
      (leaf_refers number bounds end s leaf.0 leaf.1 is.2 (last_quiet o r code from end to quiet before.forward last) (omega (arith, room))))
  refer_keeps (Own first) bounds es kind from to s on typed room quiet is =
      let end = is.0 in let last = is.3 in
      let are : AreCells code.cells first (elements bounds) (Plain kind) = subst (λ cells. AreCells cells first (elements bounds) (Plain kind)) placed.cells typed.0.0 in
      let many = many_values around bounds es typed.2 in
      let before = offset_keeps bounds es from end (of_exprs values es) s (on typed.2) (are_bounds around bounds es typed.2) typed.1
      (few_cells first bounds kind (1 + of_exprs values es) s are room) many (omega (arith, room)) (first_quiet o r code from end to quiet (omega (arith, last))) is.1 in
      then_one o r code from end to s (offset_shape bounds s) (RefTo kind ∷ s) last before
      (own_refers first bounds kind end s are is.2 (last_quiet o r code from end to quiet before.forward last) (omega (arith, room)))
  refer_keeps (Param first) bounds es kind from to s on typed room quiet is =
      let param = param_typed (slice_get around.cells first) bounds es kind typed in let last = is.1 in
      let there : slice_get code.cells first ≡ Some (RefTo kind) = ap (λ cells. slice_get cells first) (sym placed.cells) ∙ param in
      just_one o r code from to s (RefTo kind ∷ s) last (load_keeps o r code from (last_quiet o r code from from to quiet (omega arith) last) first (RefTo kind) s is.0 there (omega (arith, room)))

  -- CALLS

  callee_there : (number : ℕ) (procedure : PlainProcedure) → slice_get p.procedures number ≡ Some procedure →
      (callee : Procedure) × (slice_get o.procedures number ≡ Some callee) × (code_head callee ≡ head_of procedure)
  callee_there number procedure there =
      callee_of (slice_get o.procedures number) procedure
      (sym (slice_get-map code_head o.procedures number) ∙ (ap (λ heads. slice_get heads number) placed.tables.procedures
      ∙ (slice_get-map head_of p.procedures number ∙ ap (option_map head_of) there)))

  depth_of : (number : ℕ) (callee : Procedure) → slice_get o.procedures number ≡ Some callee → unwrap_or (slice_get (depths o) number) 0 ≡ callee.code.depth
  depth_of number callee there =
      ap (λ (found : Option ℕ). unwrap_or found 0) (slice_get-map (λ (procedure : Procedure). procedure.code.depth) o.procedures number
      ∙ ap (option_map (λ (procedure : Procedure). procedure.code.depth)) there)

  smaller_than : (number : ℕ) → number + 1 ≤ below → (is_task o r ≡ true) ⊎ (below ≤ r) → (is_task o r ≡ true) ⊎ (number < r)
  smaller_than number less (inl task) = inl task
  smaller_than number less (inr all) = inr (omega (arith, less, all))

  -- the arguments lie there, and the procedure is called
  pub called_keeps : (number : ℕ) (procedure : PlainProcedure) (from end to n : ℕ) (s : Shape) → slice_get p.procedures number ≡ Some procedure → number + 1 ≤ below →
      unwrap_or (slice_get (depths o) number) 0 ≤ most → length (params_of procedure) ≤ n → Room n s → IsOpen code to (result_shape procedure.result ++ s) →
      Keeps o r code from end s (handed (params_of procedure) s) → Is code.instructions end (instr.Call number) → to ≡ end + 1 →
      Keeps o r code from to s (result_shape procedure.result ++ s)
  called_keeps number procedure from end to n s there small deep many room clear before is last =
      let found = callee_there number procedure there in
      let callee = found.0 in
      let heads = found.2 in
      let params : callee.params ≡ procedure.params = ap (λ (head : Head). head.params) heads in
      let cells : callee.code.cells ≡ procedure.routine.cells = ap (λ (head : Head). head.cells) heads in
      let result : callee.result ≡ procedure.result = ap (λ (head : Head). head.result) heads in
      let few : callee.params ≤ length callee.code.cells =
      subst (λ cells. callee.params ≤ length cells) (sym cells) (subst (λ n. n ≤ length procedure.routine.cells) (sym params) (each (IsProcedure p) p.procedures number procedure placed.sound.procedures there).few) in
      let same : take callee.params callee.code.cells ≡ params_of procedure = ap (λ n. take n callee.code.cells) params ∙ ap (take procedure.params) cells in
      let depth = depth_of number callee found.1 in
      let long = handed_length (params_of procedure) s in
      let room_before : length code.cells + length (handed (params_of procedure) s) ≤ code.depth = omega (arith, long, many, room) in
      then_one o r code from end to s (handed (params_of procedure) s) (result_shape procedure.result ++ s) last before
      (subst (λ result. Keeps o r code end (end + 1) (handed (params_of procedure) s) (result_shape result ++ s)) result
      (subst (λ kinds. Keeps o r code end (end + 1) (handed kinds s) (result_shape callee.result ++ s)) same
      (call_keeps o r code end number callee found.1 few s
      (subst (λ result. IsOpen code (end + 1) (result_shape result ++ s)) (sym result) (subst (λ to. IsOpen code to (result_shape procedure.result ++ s)) last clear)) is (smaller_than number small placed.smaller)
      (subst (λ kinds. length code.cells + length (handed kinds s) ≤ code.depth) (sym same) room_before) (omega (arith, depth, deep, room)))))

  many_arguments : (params : List CellKind) (arguments : PlainArguments) → Suit around params arguments → length params ≤ of_arguments values arguments
  many_arguments [] arguments suit = omega arith
  many_arguments (param ∷ params) NoArguments suit = absurd suit
  many_arguments (Plain kind ∷ params) (MoreArguments (OfValue e) rest) suit = let one = some_values e in let more = many_arguments params rest suit.1 in omega (arith, one, more)
  many_arguments (RefTo kind ∷ params) (MoreArguments (OfIdent variable) rest) suit = let more = many_arguments params rest suit.1 in omega (arith, more)
  many_arguments (Plain kind ∷ params) (MoreArguments (OfIdent variable) rest) suit = absurd suit.0
  many_arguments (RefTo kind ∷ params) (MoreArguments (OfValue e) rest) suit = absurd suit.0

  argument_values : (param : CellKind) (argument : PlainArgument) → SuitsParam around param argument → 1 ≤ of_argument values argument
  argument_values (Plain kind) (OfValue e) suit = some_values e
  argument_values (RefTo kind) (OfIdent variable) suit = omega arith
  argument_values (Plain kind) (OfIdent variable) suit = absurd suit
  argument_values (RefTo kind) (OfValue e) suit = absurd suit

  -- THE THEOREM

  mutual
    pub expr_keeps : (e : PlainExpr) (kind : Kind) (from to : ℕ) (s : Shape) → HasKind around e kind → of_expr calls e ≤ below → of_expr (callees (depths o)) e ≤ most → Room (of_expr values e) s →
        AreQuiet code from to → ExprAt p code.instructions from e to → Keeps o r code from to s (Plain kind ∷ s)
    expr_keeps (OfLiteral value) kind from to s typed small deep room quiet is =
        let last = is.1 in
        just_one o r code from to s (Plain kind ∷ s) last (const_keeps o r code from (last_quiet o r code from from to quiet (omega arith) last) value kind s is.0
        (literal_kind value kind typed) (omega (arith, room)))
    expr_keeps (OfRead (OfVariable target bounds subscripts)) kind from to s typed small deep room quiet is =
        let small : of_exprs calls subscripts ≤ below = omega (arith, small) in
        let deep : of_exprs (callees (depths o)) subscripts ≤ most = omega (arith, deep) in
        let room_for : Room (of_exprs values subscripts) s = omega (arith, room) in
        read_keeps_on target bounds subscripts kind from to s
        (λ are end quiet at. subscripts_keep subscripts bounds from end s are small deep room_for quiet at) typed room quiet is
    expr_keeps (OfMonadic op operand) kind from to s typed small deep room quiet is =
        let end = is.0 in let last = is.3 in let some = some_values operand in
        let before = expr_keeps operand typed.0 from end s typed.1 small deep room (first_quiet o r code from end to quiet (omega (arith, last))) is.1 in
        then_one o r code from end to s (Plain typed.0 ∷ s) (Plain kind ∷ s) last before
        (monadic_keeps o r code end (last_quiet o r code from end to quiet before.forward last) op typed.0 kind s is.2 typed.2 (omega (arith, room, some)))
    expr_keeps (OfDyadic op left right) kind from to s typed small deep room quiet is =
        let middle = is.0 in let end = is.1 in let last = is.5 in
        let some = some_values left in let more = some_values right in
        let to_left = expr_forward p code.instructions left from middle is.2 in let to_right = expr_forward p code.instructions right middle end is.3 in
        let one = expr_keeps left typed.0 from middle s typed.2 (less_left (of_expr calls left) (of_expr calls right) below small)
        (less_left (of_expr (callees (depths o)) left) (of_expr (callees (depths o)) right) most deep) (omega (arith, room))
        (first_quiet o r code from middle to quiet (omega (arith, to_right, last))) is.2 in
        let two = expr_keeps right typed.1 middle end (Plain typed.0 ∷ s) typed.3 (less_right (of_expr calls left) (of_expr calls right) below small)
        (less_right (of_expr (callees (depths o)) left) (of_expr (callees (depths o)) right) most deep) (omega (arith, room, some))
        (then_quiet o r code from middle end (first_quiet o r code from end to quiet (omega (arith, last))) to_left) is.3 in
        then_one o r code from end to s (Plain typed.1 ∷ Plain typed.0 ∷ s) (Plain kind ∷ s) last
        (both_keep o r code from middle end s (Plain typed.0 ∷ s) (Plain typed.1 ∷ Plain typed.0 ∷ s) one two)
        (dyadic_keeps o r code end (last_quiet o r code from end to quiet (omega (arith, to_left, to_right)) last) op typed.0 typed.1 kind s is.4 typed.4 (omega (arith, room, some, more)))
    expr_keeps (OfCall number arguments) kind from to s typed small deep room quiet is =
        let procedure = is.0 in let there = is.1 in let end = is.2 in let last = is.5 in
        let same = signature_is p around placed.stands number procedure typed.0 there typed.1 in
        let suit = subst (λ (signature : Signature). Suit around signature.params arguments) (sym same) typed.2 in
        let result : procedure.result ≡ Some kind = ap (λ (signature : Signature). signature.result) same ∙ typed.3 in
        let small_here : number + 1 ≤ below = omega (arith, small) in
        let small_within : of_arguments calls arguments ≤ below = omega (arith, small) in
        let deep_here : unwrap_or (slice_get (depths o) number) 0 ≤ most = omega (arith, deep) in
        let deep_within : of_arguments (callees (depths o)) arguments ≤ most = omega (arith, deep) in
        let room_within : Room (of_arguments values arguments) s = omega (arith, room) in
        let before = arguments_keep arguments (params_of procedure) from end s suit small_within deep_within room_within (first_quiet o r code from end to quiet (omega (arith, last))) is.3 in
        subst (λ (result : Option Kind). Keeps o r code from to s (result_shape result ++ s)) result
        (called_keeps number procedure from end to (of_arguments values arguments) s there small_here deep_here (many_arguments (params_of procedure) arguments suit) room_within
        (quiet_open code to (result_shape procedure.result ++ s) (quiet to (let less = before.forward in omega (arith, less, last)) (omega arith))) before is.4 last)
    expr_keeps OfNow kind from to s typed small deep room quiet is =
        let last = is.1 in
        subst (λ kind. Keeps o r code from to s (Plain kind ∷ s)) (sym typed)
        (just_one o r code from to s (Plain kind_.Clock ∷ s) last (now_keeps o r code from (last_quiet o r code from from to quiet (omega arith) last) s is.0 (omega (arith, room))))
    expr_keeps (OfTry semaphore) kind from to s typed small deep room quiet is =
        let last = is.1 in
        subst (λ kind. Keeps o r code from to s (Plain kind ∷ s)) (sym typed.1)
        (just_one o r code from to s (Plain (kind_.Bits 1) ∷ s) last (try_keeps o r code from (last_quiet o r code from from to quiet (omega arith) last) semaphore s is.0
        (subst (λ n. semaphore < n) placed.semaphores typed.0) (omega (arith, room))))

    pub subscripts_keep : (es : PlainExprs) (bounds : List Bound) (from to : ℕ) (s : Shape) → AreSubscripts around bounds es → of_exprs calls es ≤ below → of_exprs (callees (depths o)) es ≤ most →
        Room (of_exprs values es) s → AreQuiet code from to → AllAt p code.instructions from es to → Subscripts from to bounds s
    subscripts_keep NoExprs [] from to s are small deep room quiet is = (s, subst (λ to. Keeps o r code from to s s) (sym is) (nothing_keeps o r code from s), refl)
    subscripts_keep NoExprs (bound ∷ bounds) from to s are small deep room quiet is = absurd are
    subscripts_keep (MoreExprs e rest) [] from to s are small deep room quiet is = absurd are
    subscripts_keep (MoreExprs e rest) (bound ∷ bounds) from to s are small deep room quiet is =
        let middle = is.0 in let len = are.1.0 in let some = some_values e in
        let first = expr_forward p code.instructions e from middle is.1 in let then = all_forward p code.instructions rest middle to is.2 in
        let one = expr_keeps e (kind_.Fixed len) from middle s are.1.1 (less_left (of_expr calls e) (of_exprs calls rest) below small)
        (less_left (of_expr (callees (depths o)) e) (of_exprs (callees (depths o)) rest) most deep) (omega (arith, room)) (first_quiet o r code from middle to quiet then) is.1 in
        let more = subscripts_keep rest bounds middle to (Plain (kind_.Fixed len) ∷ s) are.2 (less_right (of_expr calls e) (of_exprs calls rest) below small)
        (less_right (of_expr (callees (depths o)) e) (of_exprs (callees (depths o)) rest) most deep) (omega (arith, room, some)) (then_quiet o r code from middle to quiet first) is.2 in
        (more.0, both_keep o r code from middle to s (Plain (kind_.Fixed len) ∷ s) more.0 one more.1, fixed_more (length bounds) more.0 s len more.2)

    pub arguments_keep : (arguments : PlainArguments) (params : List CellKind) (from to : ℕ) (s : Shape) → Suit around params arguments → of_arguments calls arguments ≤ below →
        of_arguments (callees (depths o)) arguments ≤ most → Room (of_arguments values arguments) s → AreQuiet code from to → ArgumentsAt p code.instructions from params arguments to →
        Keeps o r code from to s (handed params s)
    arguments_keep NoArguments [] from to s suit small deep room quiet is = subst (λ to. Keeps o r code from to s s) (sym is) (nothing_keeps o r code from s)
    arguments_keep NoArguments (param ∷ params) from to s suit small deep room quiet is = absurd suit
    arguments_keep (MoreArguments argument rest) [] from to s suit small deep room quiet is = absurd suit
    arguments_keep (MoreArguments argument rest) (param ∷ params) from to s suit small deep room quiet is =
        let middle = is.0 in let some = argument_values param argument suit.0 in
        let first = argument_forward p code.instructions argument param from middle is.1 in let then = arguments_forward p code.instructions rest params middle to is.2 in
        let one = argument_keeps argument param from middle s suit.0 (less_left (of_argument calls argument) (of_arguments calls rest) below small)
        (less_left (of_argument (callees (depths o)) argument) (of_arguments (callees (depths o)) rest) most deep) (omega (arith, room)) (first_quiet o r code from middle to quiet then) is.1 in
        let more = arguments_keep rest params middle to (param ∷ s) suit.1 (less_right (of_argument calls argument) (of_arguments calls rest) below small)
        (less_right (of_argument (callees (depths o)) argument) (of_arguments (callees (depths o)) rest) most deep) (omega (arith, room, some)) (then_quiet o r code from middle to quiet first) is.2 in
        both_keep o r code from middle to s (param ∷ s) (handed params (param ∷ s)) one more

    argument_keeps : (argument : PlainArgument) (param : CellKind) (from to : ℕ) (s : Shape) → SuitsParam around param argument → of_argument calls argument ≤ below →
        of_argument (callees (depths o)) argument ≤ most → Room (of_argument values argument) s → AreQuiet code from to → ArgumentAt p code.instructions from param argument to →
        Keeps o r code from to s (param ∷ s)
    argument_keeps (OfValue e) (Plain kind) from to s suit small deep room quiet is =
        let end = is.0 in let last = is.3 in let some = some_values e in
        let before = expr_keeps e suit.0 from end s suit.1 small deep room (first_quiet o r code from end to quiet (omega (arith, last))) is.1 in
        then_one o r code from end to s (Plain suit.0 ∷ s) (Plain kind ∷ s) last before
        (conv_keeps o r code end (last_quiet o r code from end to quiet before.forward last) suit.0 kind s is.2 suit.2 (omega (arith, room, some)))
    argument_keeps (OfValue e) (RefTo kind) from to s suit small deep room quiet is = absurd suit
    argument_keeps (OfIdent variable) (Plain kind) from to s suit small deep room quiet is = absurd suit
    argument_keeps (OfIdent (OfVariable target bounds subscripts)) (RefTo kind) from to s suit small deep room quiet is =
        let small : of_exprs calls subscripts ≤ below = omega (arith, small) in
        let deep : of_exprs (callees (depths o)) subscripts ≤ most = omega (arith, deep) in
        let room_for : Room (of_exprs values subscripts) s = omega (arith, room) in
        refer_keeps target bounds subscripts kind from to s
        (λ are end quiet at. subscripts_keep subscripts bounds from end s are small deep room_for quiet at) suit room quiet is

  all_keep : AllKeep o r code p around below most
  all_keep NoExprs [] from to s typed small deep room quiet is = subst (λ to. Keeps o r code from to s s) (sym is) (nothing_keeps o r code from s)
  all_keep NoExprs (kind ∷ kinds) from to s typed small deep room quiet is = absurd typed
  all_keep (MoreExprs e rest) [] from to s typed small deep room quiet is = absurd typed
  all_keep (MoreExprs e rest) (kind ∷ kinds) from to s typed small deep room quiet is =
      let middle = is.0 in let some = some_values e in
      let first = expr_forward p code.instructions e from middle is.1 in let then = all_forward p code.instructions rest middle to is.2 in
      both_keep o r code from middle to s (Plain kind ∷ s) (handed (map Plain kinds) (Plain kind ∷ s))
      (expr_keeps e kind from middle s typed.0 (less_left (of_expr calls e) (of_exprs calls rest) below small)
      (less_left (of_expr (callees (depths o)) e) (of_exprs (callees (depths o)) rest) most deep) (omega (arith, room)) (first_quiet o r code from middle to quiet then) is.1)
      (all_keep rest kinds middle to (Plain kind ∷ s) typed.1 (less_right (of_expr calls e) (of_exprs calls rest) below small)
      (less_right (of_expr (callees (depths o)) e) (of_exprs (callees (depths o)) rest) most deep) (omega (arith, room, some)) (then_quiet o r code from middle to quiet first) is.2)

  call_at_keeps : CallKeeps o r code p around below most
  call_at_keeps number procedure arguments from to s there suit small_here small_within deep_here deep_within room quiet clear is =
      let end = is.2 in let last = is.5 in
      let same : is.0 ≡ procedure = same_Some is.0 procedure (sym is.1 ∙ there) in
      let at = subst (λ (procedure : PlainProcedure). ArgumentsAt p code.instructions from (params_of procedure) arguments end) same is.3 in
      let before = arguments_keep arguments (params_of procedure) from end s suit small_within deep_within room (λ place low high. quiet place low (omega (arith, last, high))) at in
      called_keeps number procedure from end to (of_arguments values arguments) s there small_here deep_here (many_arguments (params_of procedure) arguments suit) room clear before is.4 last

  offset_at_keeps : OffsetKeeps o r code p around below most
  offset_at_keeps (LeafOf number) bounds es kind from to s typed small deep room quiet is =
      offset_keeps bounds es from to (of_exprs values es) s (λ end quiet at. subscripts_keep es bounds from end s typed.2 small deep room quiet at)
      (are_bounds around bounds es typed.2) typed.1 (few_elements number bounds kind typed.0) (many_values around bounds es typed.2) room quiet is
  offset_at_keeps (Own first) bounds es kind from to s typed small deep room quiet is =
      offset_keeps bounds es from to (of_exprs values es) s (λ end quiet at. subscripts_keep es bounds from end s typed.2 small deep room quiet at)
      (are_bounds around bounds es typed.2) typed.1
      (few_cells first bounds kind (of_exprs values es) s (subst (λ cells. AreCells cells first (elements bounds) (Plain kind)) placed.cells typed.0.0) room)
      (many_values around bounds es typed.2) room quiet is
  offset_at_keeps (Param first) bounds es kind from to s typed small deep room quiet is =
      let none = no_bounds (slice_get around.cells first) bounds es kind typed in
      subst (λ bounds. OffsetOf code.instructions from bounds (λ end. AllAt p code.instructions from es end) to → Keeps o r code from to s (offset_shape bounds s)) (sym none)
      (λ same. subst (λ to. Keeps o r code from to s s) (sym same) (nothing_keeps o r code from s)) is

  way_at_keeps : WayKeeps o r code p around below most
  way_at_keeps (LeafOf number) bounds es kind from to s typed small deep room quiet is = offset_at_keeps (LeafOf number) bounds es kind from to s typed small deep (omega (arith, room)) quiet is
  way_at_keeps (Own first) bounds es kind from to s typed small deep room quiet is = offset_at_keeps (Own first) bounds es kind from to s typed small deep (omega (arith, room)) quiet is
  way_at_keeps (Param first) bounds es kind from to s typed small deep room quiet is =
      let param = param_typed (slice_get around.cells first) bounds es kind typed in let last = is.1 in
      let there : slice_get code.cells first ≡ Some (RefTo kind) = ap (λ cells. slice_get cells first) (sym placed.cells) ∙ param in
      just_one o r code from to s (RefTo kind ∷ s) last (load_keeps o r code from (last_quiet o r code from from to quiet (omega arith) last) first (RefTo kind) s is.0 there (omega (arith, room)))

  leaf_written : (number : ℕ) (bounds : List Bound) (place : ℕ) (s : Shape) (leaf : Leaf) → slice_get o.leaves number ≡ Some leaf → Is code.instructions place (writing (LeafOf number) bounds) →
      IsOpen code (place + 1) s → Room 2 s → Keeps o r code place (place + 1) (Plain leaf.kind ∷ offset_shape bounds s) s
  leaf_written number [] place s leaf there is clear room = write_keeps o r code place number leaf s clear there is (omega (arith, room))
  leaf_written number (bound ∷ bounds) place s leaf there is clear room = write_at_keeps o r code place number leaf s clear there is (omega (arith, room))

  own_written : (first : ℕ) (bounds : List Bound) (kind : Kind) (place : ℕ) (s : Shape) → AreCells code.cells first (elements bounds) (Plain kind) → Is code.instructions place (writing (Own first) bounds) →
      IsOpen code (place + 1) s → Room 2 s → Keeps o r code place (place + 1) (Plain kind ∷ offset_shape bounds s) s
  own_written first [] kind place s are is clear room = store_keeps o r code place first kind s clear is are (omega (arith, room))
  own_written first (bound ∷ bounds) kind place s are is clear room =
      store_at_keeps o r code place first (elements (bound ∷ bounds)) kind s clear is (some_elements (bound ∷ bounds)) are (omega (arith, room))

  writing_keeps : WritingKeeps o r code p around below most
  writing_keeps (LeafOf number) bounds es kind place s typed room clear is =
      let leaf = leaf_there number bounds kind typed.0 in
      subst (λ kind. Keeps o r code place (place + 1) (Plain kind ∷ offset_shape bounds s) s) leaf.2 (leaf_written number bounds place s leaf.0 leaf.1 is clear room)
  writing_keeps (Own first) bounds es kind place s typed room clear is =
      own_written first bounds kind place s (subst (λ cells. AreCells cells first (elements bounds) (Plain kind)) placed.cells typed.0.0) is clear room
  writing_keeps (Param first) bounds es kind place s typed room clear is = write_ref_keeps o r code place kind s clear is (omega (arith, room))

pub expressions_keep : ExpressionsKeep
expressions_keep o r code p around below deepest placed = record {
  expr = λ e kind from to s typed small deep room quiet is. expr_keeps o r code p around below deepest placed e kind from to s typed small deep room quiet is;
  all = all_keep o r code p around below deepest placed;
  call = call_at_keeps o r code p around below deepest placed;
  offset = offset_at_keeps o r code p around below deepest placed;
  way = way_at_keeps o r code p around below deepest placed;
  write = writing_keeps o r code p around below deepest placed;
}
