-- The code of an expression does what the expression means.
use Rattle.std.proofs.Common.{◌≡◌, ℕ, ◌+◌, ◌≤◌, ◌⊎◌, inl, inr, pos, List, [], ◌∷◌, ◌++◌, length, max, Option, Some, None, slice_get, refl, sym, ap, ◌∙◌, subst, arith}
use Rattle.std.specs.Prelude.{option_to_list}
use Rattle.std.proofs.lemmas.Option.{same_Some}
use Rattle.pearl_value.specs.declared.kind.Kind.{Kind}
use Rattle.pearl_value.specs.declared.kind.Kind.TheVariants as kind
use Rattle.pearl_value.specs.declared.kind.CellKind.{CellKind}
use Rattle.pearl_value.specs.declared.kind.CellKind.TheVariants.{Plain, RefTo}
use Rattle.pearl_value.specs.declared.cell.Cell.{Cell}
use Rattle.pearl_value.specs.declared.cell.Cell.TheVariants as cell
use Rattle.pearl_value.specs.Applied.{applied1, applied2}
use Rattle.pearl_value.specs.Conversions.{converted}
use Rattle.pearl_rules.specs.declared.action.Answer.{Answer}
use Rattle.pearl_program.specs.declared.expression.Bound.{Bound}
use Rattle.pearl_program.specs.declared.expression.Target.{Target}
use Rattle.pearl_program.specs.declared.expression.Target.TheVariants.{Leaf as LeafOf, Own, Param}
use Rattle.pearl_program.specs.PlainExpressions.{PlainExpr, OfLiteral, OfRead, OfMonadic, OfDyadic, OfCall, OfNow, OfTry, OfVariable, PlainExprs, NoExprs, MoreExprs, PlainArgument, OfValue, OfIdent, PlainArguments, NoArguments, MoreArguments}
use Rattle.pearl_program.specs.PlainPrograms.{PlainLeaf, PlainProcedure}
use Rattle.pearl_program.specs.Typing.{Around, HasKind, IsVariable, IsControl, AreSubscripts, IsParam, IsLeafOf, Suit, SuitsParam, HaveKinds, elements}
use Rattle.pearl_program.specs.Weights as weights
use Rattle.pearl_stack.specs.Frames.{Frame}
use Rattle.pearl_meaning.specs.Frames.{Store}
use Rattle.pearl_meaning.specs.Evaluation as evaluation
use Rattle.pearl_meaning.specs.Evaluation.{Outcome, Value, Needs, Fails, Does, gives, bind, on_value, own_cell, value_or_trap}
use Rattle.pearl_meaning.specs.Setting.{Setting, params_of}
use Rattle.pearl_meaning.specs.Variables as meaning
use Rattle.pearl_meaning.specs.Variables.{elements_before, reference, read_reference}
use Rattle.pearl_meaning.specs.Values as values
use Rattle.pearl_meaning.specs.Values.{eval, taken, eval_all, hand_over, handed}
use Rattle.pearl_meaning.specs.Transfers.{offset}
use Rattle.pearl_instructions.specs.declared.instr.Instr.TheVariants as instr
use Rattle.pearl_instructions.specs.declared.object.Parts.{Parts as Object}
use Rattle.pearl_gen_expr.specs.Contexts.{Context, at}
use Rattle.pearl_gen_expr.specs.Carrying.{Carries}
use Rattle.pearl_gen_expr.specs.ExprCode.{code_of, Is, reading, referring, OffsetOf, ReadOf, ReferenceOf, ExprAt, AllAt, ArgumentsAt, ArgumentAt}
use Rattle.pearl_gen_expr.specs.Ends.{on_top, all_on_top, result_on_top, offset_on_top, IsResult}
use Rattle.pearl_gen_expr.specs.Calls.{IsKnown}
use Rattle.pearl_gen_expr.proofs.Moves.{bind_carries, gives_carries, same_carries}
use Rattle.pearl_gen_expr.proofs.Tables.{params_are, signature_is}
use Rattle.pearl_gen_expr.proofs.Instructions.{const_carries, now_carries, try_carries, monadic_carries, dyadic_carries, conv_carries, load_carries, index_carries}
use Rattle.pearl_gen_expr.proofs.Elements.{FitsTarget, read_ref, read_element, refer_element}

-- ONE AFTER ANOTHER

parts_of : {X Y Z : Type 0} (m : Outcome X) (f : X → Does Y) (g : Y → Does Z) → on_value (on_value m f) g ≡ on_value m (λ x. bind (f x) g)
parts_of (Value x store rest) f g = refl
parts_of (Needs action) f g = refl
parts_of (Fails trap) f g = refl

-- the same in whatever way it is parted
pub parted : {X Y Z : Type 0} (first : Does X) (f : X → Does Y) (g : Y → Does Z) (store : Store) (rest : List Answer) →
    bind first (λ x. bind (f x) g) store rest ≡ bind (bind first f) g store rest
parted first f g store rest = sym (parts_of (first store rest) f g)

-- an element is taken by its offset, and then the reference is used
pub by_offset : {Y : Type 0} (setting : Setting) (target : Target) (bounds : List Bound) (subscripts : PlainExprs) (use_it : Cell → Does Y) (store : Store) (rest : List Answer) →
    bind (offset setting (OfVariable target bounds subscripts)) (λ x. bind (reference setting target bounds x) use_it) store rest
    ≡ bind (taken setting (OfVariable target bounds subscripts)) use_it store rest
by_offset setting target bounds subscripts use_it store rest = outer (eval_all setting subscripts store rest)
  where
    inner : (m : Outcome Cell) → on_value m (λ x. bind (reference setting target bounds x) use_it) ≡ on_value (on_value m (reference setting target bounds)) use_it
    inner m = sym (parts_of m (reference setting target bounds) use_it)

    outer : (m : Outcome (List Cell)) → on_value (on_value m (λ xs. meaning.offset_of (elements_before bounds xs))) (λ x. bind (reference setting target bounds x) use_it)
        ≡ on_value (on_value m (λ xs. bind (meaning.offset_of (elements_before bounds xs)) (reference setting target bounds))) use_it
    outer (Value xs store rest) = inner (meaning.offset_of (elements_before bounds xs) store rest)
    outer (Needs action) = refl
    outer (Fails trap) = refl

-- and the reference is what is found
taken_by_offset : (setting : Setting) (target : Target) (bounds : List Bound) (subscripts : PlainExprs) (store : Store) (rest : List Answer) →
    bind (offset setting (OfVariable target bounds subscripts)) (λ x. reference setting target bounds x) store rest
    ≡ taken setting (OfVariable target bounds subscripts) store rest
taken_by_offset setting target bounds subscripts store rest =
    parts_of (eval_all setting subscripts store rest) (λ xs. meaning.offset_of (elements_before bounds xs)) (reference setting target bounds)

less_left : (a b bound : ℕ) → max a b ≤ bound → a ≤ bound
less_left a b bound less = omega (arith, less)

less_right : (a b bound : ℕ) → max a b ≤ bound → b ≤ bound
less_right a b bound less = omega (arith, less)

-- WHAT IS TYPED

pub leaf_fits : (found : Option PlainLeaf) (bounds : List Bound) (kind : Kind) (leaf : PlainLeaf) → IsLeafOf found bounds kind → found ≡ Some leaf → elements bounds ≡ leaf.values.count
leaf_fits None bounds kind leaf is at = absurd is
leaf_fits (Some other) bounds kind leaf is at = is.1 ∙ ap (λ (leaf : PlainLeaf). leaf.values.count) (same_Some other leaf at)

-- the kinds of subscripts
subscript_kinds : (around : Around) (bounds : List Bound) (es : PlainExprs) → AreSubscripts around bounds es →
    (kinds : List Kind) × HaveKinds around es kinds × (length kinds ≡ length bounds)
subscript_kinds around [] NoExprs are = ([], tt, refl)
subscript_kinds around [] (MoreExprs e rest) are = absurd are
subscript_kinds around (bound ∷ bounds) NoExprs are = absurd are
subscript_kinds around (bound ∷ bounds) (MoreExprs e rest) are =
    let more = subscript_kinds around bounds rest are.2 in
    let long = more.2 in
    (kind.Fixed are.1.0 ∷ more.0, (are.1.1, more.1), omega (arith, long))

control_alone : (around : Around) (first : ℕ) (bounds : List Bound) (es : PlainExprs) (kind : Kind) → IsControl around (OfVariable (Own first) bounds es) kind →
    AreSubscripts around bounds es
control_alone around first [] NoExprs kind is = tt
control_alone around first [] (MoreExprs e rest) kind is = absurd is
control_alone around first (bound ∷ bounds) es kind is = absurd is

own_subscripts : (around : Around) (first : ℕ) (bounds : List Bound) (es : PlainExprs) (kind : Kind) →
    IsVariable around (OfVariable (Own first) bounds es) kind ⊎ IsControl around (OfVariable (Own first) bounds es) kind → AreSubscripts around bounds es
own_subscripts around first bounds es kind (inl is) = is.2
own_subscripts around first bounds es kind (inr is) = control_alone around first bounds es kind is

module _ (o : Object) (c : Context) (setting : Setting) (around : Around) (below : ℕ) (known : IsKnown o c setting around below) where
  -- what is known of subscripts within
  abbrev Subscripts : PlainExprs → Type 0
  Subscripts es = (from to : ℕ) (kinds : List Kind) (operands : List Cell) → HaveKinds around es kinds → AllAt setting.program (code_of o c.routine) from es to →
      Carries o c (all_on_top c to (length kinds) operands) (at c from operands) (eval_all setting es)

  -- the end may be told in another way
  at_end : (to next : ℕ) (operands : List Cell) (from : Store → List Frame) (does : Does Cell) → to ≡ next → Carries o c (on_top c next operands) from does → Carries o c (on_top c to operands) from does
  at_end to next operands from does same carries = subst (λ to. Carries o c (on_top c to operands) from does) (sym same) carries

  pub offset_part : (target : Target) (bounds : List Bound) (es : PlainExprs) (from to : ℕ) (operands : List Cell) → Subscripts es → AreSubscripts around bounds es →
      OffsetOf (code_of o c.routine) from bounds (λ end. AllAt setting.program (code_of o c.routine) from es end) to →
      Carries o c (offset_on_top c to operands bounds) (at c from operands) (offset setting (OfVariable target bounds es))
  offset_part target [] NoExprs from to operands on are is =
      subst (λ to. Carries o c (offset_on_top c to operands []) (at c from operands) (offset setting (OfVariable target [] NoExprs))) (sym is)
      (gives_carries o c (offset_on_top c from operands []) (cell.Fixed 31 (pos 0)) (0, refl, omega arith))
  offset_part target [] (MoreExprs e rest) from to operands on are is = absurd are
  offset_part target (bound ∷ bounds) es from to operands on are is =
      let all = bound ∷ bounds in
      let typed = subscript_kinds around all es are in
      let end = is.0 in
      subst (λ to. Carries o c (offset_on_top c to operands all) (at c from operands) (offset setting (OfVariable target all es))) (sym is.3)
      (bind_carries o c (all_on_top c end (length typed.0) operands) (offset_on_top c (end + 1) operands all) (at c from operands) (eval_all setting es)
      (λ xs. meaning.offset_of (elements_before all xs)) (on from end typed.0 operands typed.1 is.1)
      (λ xs long. index_carries o c end all xs operands (long ∙ typed.2) is.2))

  -- THE WAY BY AN OFFSET

  element_part : (target : Target) (bounds : List Bound) (es : PlainExprs) (from to : ℕ) (operands : List Cell) → Subscripts es → AreSubscripts around bounds es →
      FitsTarget setting.program target bounds → (end : ℕ) → OffsetOf (code_of o c.routine) from bounds (λ end. AllAt setting.program (code_of o c.routine) from es end) end →
      Is (code_of o c.routine) end (reading target bounds) → to ≡ end + 1 →
      Carries o c (on_top c to operands) (at c from operands) (bind (taken setting (OfVariable target bounds es)) read_reference)
  element_part target bounds es from to operands on are fits end way is same =
      at_end to (end + 1) operands (at c from operands) (bind (taken setting (OfVariable target bounds es)) read_reference) same
      (same_carries o c (on_top c (end + 1) operands) (at c from operands)
      (bind (offset setting (OfVariable target bounds es)) (λ x. bind (reference setting target bounds x) read_reference))
      (bind (taken setting (OfVariable target bounds es)) read_reference) (by_offset setting target bounds es read_reference)
      (bind_carries o c (offset_on_top c end operands bounds) (on_top c (end + 1) operands) (at c from operands) (offset setting (OfVariable target bounds es))
      (λ x. bind (reference setting target bounds x) read_reference) (offset_part target bounds es from end operands on are way)
      (λ x of. read_element o c setting known.tables end target bounds x operands of fits is)))

  -- a parameter with IDENT
  param_part : (found : Option CellKind) (first : ℕ) (bounds : List Bound) (es : PlainExprs) (kind : Kind) (from to : ℕ) (operands : List Cell) → IsParam found bounds es kind →
      ReadOf (code_of o c.routine) from (Param first) bounds (λ end. AllAt setting.program (code_of o c.routine) from es end) to →
      Carries o c (on_top c to operands) (at c from operands) (bind (taken setting (OfVariable (Param first) bounds es)) read_reference)
  param_part (Some (RefTo of)) first [] NoExprs kind from to operands typed is =
      let is_next : Is (code_of o c.routine) (from + 1) instr.ReadRef = subst (λ place. Is (code_of o c.routine) place instr.ReadRef) is.1.1 is.2 in
      at_end to (from + 1 + 1) operands (at c from operands) (bind (taken setting (OfVariable (Param first) [] NoExprs)) read_reference) (is.3 ∙ ap (λ n. n + 1) is.1.1)
      (bind_carries o c (on_top c (from + 1) operands) (on_top c (from + 1 + 1) operands) (at c from operands) (own_cell first) read_reference
      (load_carries o c from first operands is.1.0) (λ r of. read_ref o c setting known.tables (from + 1) r operands is_next))
  param_part found first bounds es kind from to operands typed is = absurd typed

  pub read_part : (target : Target) (bounds : List Bound) (es : PlainExprs) (kind : Kind) (from to : ℕ) (operands : List Cell) → Subscripts es →
      IsVariable around (OfVariable target bounds es) kind ⊎ IsControl around (OfVariable target bounds es) kind →
      ReadOf (code_of o c.routine) from target bounds (λ end. AllAt setting.program (code_of o c.routine) from es end) to →
      Carries o c (on_top c to operands) (at c from operands) (bind (taken setting (OfVariable target bounds es)) read_reference)
  read_part (LeafOf number) bounds es kind from to operands on (inl typed) is =
      element_part (LeafOf number) bounds es from to operands on typed.2 (λ leaf at. leaf_fits (slice_get around.leaves number) bounds kind leaf typed.0
      (ap (λ leaves. slice_get leaves number) known.stands.leaves ∙ at)) is.0 is.1 is.2 is.3
  read_part (LeafOf number) bounds es kind from to operands on (inr typed) is = absurd typed
  read_part (Own first) bounds es kind from to operands on typed is =
      element_part (Own first) bounds es from to operands on (own_subscripts around first bounds es kind typed) tt is.0 is.1 is.2 is.3
  read_part (Param first) bounds es kind from to operands on (inl typed) is =
      param_part (slice_get around.cells first) first bounds es kind from to operands typed is
  read_part (Param first) bounds es kind from to operands on (inr typed) is = absurd typed

  -- REFERENCES

  refer_part : (target : Target) (bounds : List Bound) (es : PlainExprs) (from to : ℕ) (operands : List Cell) → Subscripts es → AreSubscripts around bounds es →
      FitsTarget setting.program target bounds → (end : ℕ) → OffsetOf (code_of o c.routine) from bounds (λ end. AllAt setting.program (code_of o c.routine) from es end) end →
      Is (code_of o c.routine) end (referring target bounds) → to ≡ end + 1 →
      Carries o c (on_top c to operands) (at c from operands) (taken setting (OfVariable target bounds es))
  refer_part target bounds es from to operands on are fits end way is same =
      at_end to (end + 1) operands (at c from operands) (taken setting (OfVariable target bounds es)) same
      (same_carries o c (on_top c (end + 1) operands) (at c from operands)
      (bind (offset setting (OfVariable target bounds es)) (λ x. reference setting target bounds x)) (taken setting (OfVariable target bounds es))
      (taken_by_offset setting target bounds es)
      (bind_carries o c (offset_on_top c end operands bounds) (on_top c (end + 1) operands) (at c from operands) (offset setting (OfVariable target bounds es))
      (λ x. reference setting target bounds x) (offset_part target bounds es from end operands on are way)
      (λ x of. refer_element o c setting known.tables end target bounds x operands of fits is)))

  param_refers : (found : Option CellKind) (first : ℕ) (bounds : List Bound) (es : PlainExprs) (kind : Kind) (from to : ℕ) (operands : List Cell) → IsParam found bounds es kind →
      Is (code_of o c.routine) from (instr.Load first) → to ≡ from + 1 →
      Carries o c (on_top c to operands) (at c from operands) (taken setting (OfVariable (Param first) bounds es))
  param_refers (Some (RefTo of)) first [] NoExprs kind from to operands typed is same =
      at_end to (from + 1) operands (at c from operands) (taken setting (OfVariable (Param first) [] NoExprs)) same (load_carries o c from first operands is)
  param_refers found first bounds es kind from to operands typed is same = absurd typed

  reference_part : (target : Target) (bounds : List Bound) (es : PlainExprs) (kind : Kind) (from to : ℕ) (operands : List Cell) → Subscripts es →
      IsVariable around (OfVariable target bounds es) kind →
      ReferenceOf (code_of o c.routine) from target bounds (λ end. AllAt setting.program (code_of o c.routine) from es end) to →
      Carries o c (on_top c to operands) (at c from operands) (taken setting (OfVariable target bounds es))
  reference_part (LeafOf number) bounds es kind from to operands on typed is =
      refer_part (LeafOf number) bounds es from to operands on typed.2 (λ leaf at. leaf_fits (slice_get around.leaves number) bounds kind leaf typed.0
      (ap (λ leaves. slice_get leaves number) known.stands.leaves ∙ at)) is.0 is.1 is.2 is.3
  reference_part (Own first) bounds es kind from to operands on typed is = refer_part (Own first) bounds es from to operands on typed.2 tt is.0 is.1 is.2 is.3
  reference_part (Param first) bounds es kind from to operands on typed is =
      param_refers (slice_get around.cells first) first bounds es kind from to operands typed is.0 is.1

  -- CALLS

  -- the arguments lie on the operands, and the procedure is called
  pub call_part : (number : ℕ) (arguments : List CellKind → Does (List Cell)) (from to : ℕ) (operands : List Cell) (procedure : PlainProcedure) →
      slice_get setting.program.procedures number ≡ Some procedure → number + 1 ≤ below → (end : ℕ) →
      Carries o c (all_on_top c end (length (params_of procedure)) operands) (at c from operands) (arguments (params_of procedure)) →
      Is (code_of o c.routine) end (instr.Call number) → to ≡ end + 1 →
      Carries o c (result_on_top c to operands procedure.result) (at c from operands) (values.calls setting number arguments)
  call_part number arguments from to operands procedure there less end before is same =
      let entered : Does (Option Cell) = bind (arguments (params_of procedure)) (λ xs. setting.call number xs) in
      subst (λ to. Carries o c (result_on_top c to operands procedure.result) (at c from operands) (values.calls setting number arguments)) (sym same)
      (same_carries o c (result_on_top c (end + 1) operands procedure.result) (at c from operands) entered (values.calls setting number arguments)
      (λ store rest. sym (ap (λ found. evaluation.given found (λ (procedure : PlainProcedure). bind (arguments (params_of procedure)) (λ xs. setting.call number xs)) store rest) there))
      (bind_carries o c (all_on_top c end (length (params_of procedure)) operands) (result_on_top c (end + 1) operands procedure.result) (at c from operands)
      (arguments (params_of procedure)) (λ xs. setting.call number xs) before
      (λ xs long. known.calls.called number (omega (arith, less)) procedure there c end is xs operands (long ∙ params_are setting.program known.sound number procedure there))))

  -- a result that is there
  result_part : (returns : Option Kind) (kind : Kind) (result : Option Cell) (place : ℕ) (operands : List Cell) → returns ≡ Some kind → IsResult returns result →
      Carries o c (on_top c place operands) (at c place (option_to_list result ++ operands)) (evaluation.given result gives)
  result_part None kind result place operands e of = cc
  result_part (Some returns) kind None place operands e of = absurd of
  result_part (Some returns) kind (Some x) place operands e of = gives_carries o c (on_top c place operands) x tt

  -- THE THEOREM

  mutual
    pub expr_part : (e : PlainExpr) (kind : Kind) (from to : ℕ) (operands : List Cell) → HasKind around e kind → weights.of_expr weights.calls e ≤ below →
        ExprAt setting.program (code_of o c.routine) from e to → Carries o c (on_top c to operands) (at c from operands) (eval setting e)
    expr_part (OfLiteral value) kind from to operands typed less is =
        at_end to (from + 1) operands (at c from operands) (gives value) is.1
        (const_carries o c from operands value is.0)
    expr_part (OfRead (OfVariable target bounds subscripts)) kind from to operands typed less is =
        read_part target bounds subscripts kind from to operands (λ from to kinds operands are at. all_part subscripts kinds from to operands are (omega (arith, less)) at) typed is
    expr_part (OfMonadic op operand) kind from to operands typed less is =
        at_end to (is.0 + 1) operands (at c from operands) (eval setting (OfMonadic op operand)) is.3
        (bind_carries o c (on_top c is.0 operands) (on_top c (is.0 + 1) operands) (at c from operands) (eval setting operand) (λ x. value_or_trap (applied1 op x))
        (expr_part operand typed.0 from is.0 operands typed.1 less is.1) (λ x of. monadic_carries o c is.0 op x operands is.2))
    expr_part (OfDyadic op left right) kind from to operands typed less is =
        let one = less_left (weights.of_expr weights.calls left) (weights.of_expr weights.calls right) below less in
        let two = less_right (weights.of_expr weights.calls left) (weights.of_expr weights.calls right) below less in
        let middle = is.0 in let end = is.1 in
        at_end to (end + 1) operands (at c from operands) (eval setting (OfDyadic op left right)) is.5
        (bind_carries o c (on_top c middle operands) (on_top c (end + 1) operands) (at c from operands) (eval setting left)
        (λ x. bind (eval setting right) (λ y. value_or_trap (applied2 op x y))) (expr_part left typed.0 from middle operands typed.2 one is.2) (λ x of.
        bind_carries o c (on_top c end (x ∷ operands)) (on_top c (end + 1) operands) (at c middle (x ∷ operands)) (eval setting right) (λ y. value_or_trap (applied2 op x y))
        (expr_part right typed.1 middle end (x ∷ operands) typed.3 two is.3) (λ y of. dyadic_carries o c end op x y operands is.4)))
    expr_part (OfCall number arguments) kind from to operands typed less is =
        let procedure = is.0 in let there = is.1 in
        let same = signature_is setting.program around known.stands number procedure typed.0 there typed.1 in
        let params : List CellKind → Type 0 = λ params. Suit around params arguments in
        bind_carries o c (result_on_top c to operands procedure.result) (on_top c to operands) (at c from operands)
        (values.calls setting number (λ params. hand_over setting params arguments)) (λ result. evaluation.given result gives)
        (call_part number (λ params. hand_over setting params arguments) from to operands procedure there (omega (arith, less)) is.2
        (arguments_part arguments (params_of procedure) from is.2 operands (subst (λ signature. Suit around signature.params arguments) (sym same) typed.2) (omega (arith, less)) is.3) is.4 is.5)
        (λ result of. result_part procedure.result kind result to operands (ap (λ signature. signature.result) same ∙ typed.3) of)
    expr_part OfNow kind from to operands typed less is =
        at_end to (from + 1) operands (at c from operands) (eval setting OfNow) is.1 (now_carries o c from operands is.0)
    expr_part (OfTry semaphore) kind from to operands typed less is =
        at_end to (from + 1) operands (at c from operands) (eval setting (OfTry semaphore)) is.1 (try_carries o c from semaphore operands is.0)

    pub all_part : (es : PlainExprs) (kinds : List Kind) (from to : ℕ) (operands : List Cell) → HaveKinds around es kinds → weights.of_exprs weights.calls es ≤ below →
        AllAt setting.program (code_of o c.routine) from es to → Carries o c (all_on_top c to (length kinds) operands) (at c from operands) (eval_all setting es)
    all_part NoExprs [] from to operands typed less is =
        subst (λ to. Carries o c (all_on_top c to 0 operands) (at c from operands) (eval_all setting NoExprs)) (sym is)
        (gives_carries o c (all_on_top c from 0 operands) [] refl)
    all_part NoExprs (kind ∷ kinds) from to operands typed less is = absurd typed
    all_part (MoreExprs e rest) [] from to operands typed less is = absurd typed
    all_part (MoreExprs e rest) (kind ∷ kinds) from to operands typed less is =
        let one = less_left (weights.of_expr weights.calls e) (weights.of_exprs weights.calls rest) below less in
        let two = less_right (weights.of_expr weights.calls e) (weights.of_exprs weights.calls rest) below less in
        let end = all_on_top c to (length (kind ∷ kinds)) operands in
        bind_carries o c (on_top c is.0 operands) end (at c from operands) (eval setting e) (λ x. bind (eval_all setting rest) (λ xs. gives (x ∷ xs)))
        (expr_part e kind from is.0 operands typed.0 one is.1) (λ x of.
        bind_carries o c (all_on_top c to (length kinds) (x ∷ operands)) end (at c is.0 (x ∷ operands)) (eval_all setting rest) (λ xs. gives (x ∷ xs))
        (all_part rest kinds is.0 to (x ∷ operands) typed.1 two is.2) (λ xs long. gives_carries o c end (x ∷ xs) (omega (arith, long))))

    pub arguments_part : (arguments : PlainArguments) (params : List CellKind) (from to : ℕ) (operands : List Cell) → Suit around params arguments →
        weights.of_arguments weights.calls arguments ≤ below → ArgumentsAt setting.program (code_of o c.routine) from params arguments to →
        Carries o c (all_on_top c to (length params) operands) (at c from operands) (hand_over setting params arguments)
    arguments_part NoArguments [] from to operands typed less is =
        subst (λ to. Carries o c (all_on_top c to 0 operands) (at c from operands) (hand_over setting [] NoArguments)) (sym is)
        (gives_carries o c (all_on_top c from 0 operands) [] refl)
    arguments_part NoArguments (param ∷ params) from to operands typed less is = absurd typed
    arguments_part (MoreArguments argument rest) [] from to operands typed less is = absurd typed
    arguments_part (MoreArguments argument rest) (param ∷ params) from to operands typed less is =
        let one = less_left (weights.of_argument weights.calls argument) (weights.of_arguments weights.calls rest) below less in
        let two = less_right (weights.of_argument weights.calls argument) (weights.of_arguments weights.calls rest) below less in
        let end = all_on_top c to (length (param ∷ params)) operands in
        bind_carries o c (on_top c is.0 operands) end (at c from operands) (handed setting (Some param) argument)
        (λ x. bind (hand_over setting params rest) (λ xs. gives (x ∷ xs))) (argument_part argument param from is.0 operands typed.0 one is.1) (λ x of.
        bind_carries o c (all_on_top c to (length params) (x ∷ operands)) end (at c is.0 (x ∷ operands)) (hand_over setting params rest) (λ xs. gives (x ∷ xs))
        (arguments_part rest params is.0 to (x ∷ operands) typed.1 two is.2) (λ xs long. gives_carries o c end (x ∷ xs) (omega (arith, long))))

    argument_part : (argument : PlainArgument) (param : CellKind) (from to : ℕ) (operands : List Cell) → SuitsParam around param argument →
        weights.of_argument weights.calls argument ≤ below → ArgumentAt setting.program (code_of o c.routine) from param argument to →
        Carries o c (on_top c to operands) (at c from operands) (handed setting (Some param) argument)
    argument_part (OfValue e) (Plain kind) from to operands typed less is =
        at_end to (is.0 + 1) operands (at c from operands) (handed setting (Some (Plain kind)) (OfValue e)) is.3
        (bind_carries o c (on_top c is.0 operands) (on_top c (is.0 + 1) operands) (at c from operands) (eval setting e) (λ x. value_or_trap (converted x kind))
        (expr_part e typed.0 from is.0 operands typed.1 less is.1) (λ x of. conv_carries o c is.0 kind x operands is.2))
    argument_part (OfValue e) (RefTo kind) from to operands typed less is = absurd typed
    argument_part (OfIdent variable) (Plain kind) from to operands typed less is = absurd typed
    argument_part (OfIdent (OfVariable target bounds subscripts)) (RefTo kind) from to operands typed less is =
        reference_part target bounds subscripts kind from to operands
        (λ from to kinds operands are at. all_part subscripts kinds from to operands are (omega (arith, less)) at) typed is
