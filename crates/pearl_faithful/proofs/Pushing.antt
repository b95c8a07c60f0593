-- Each instruction of an expression leaves an operand, and is one that an object may have.
use Rattle.std.proofs.Common.{◌≡◌, ℕ, ◌⊎◌, inl, inr, true, List, [], ◌∷◌, Option, Some, slice_get, map, refl, sym, ap, ◌∙◌, subst}
use Rattle.std.specs.Prelude.{is_some, option_map, option_and_then}
use Rattle.std.specs.List.{AllByRecursion}
use Rattle.std.proofs.lemmas.Option.{slice_get-map}
use Rattle.pearl_value.specs.declared.kind.Kind.{Kind}
use Rattle.pearl_value.specs.declared.kind.Kind.TheVariants as kind_
use Rattle.pearl_value.specs.declared.kind.CellKind.{CellKind}
use Rattle.pearl_value.specs.declared.kind.CellKind.TheVariants.{Plain, RefTo}
use Rattle.pearl_value.specs.WellFormed.{IsValue}
use Rattle.pearl_program.specs.declared.expression.Target.{Target}
use Rattle.pearl_program.specs.declared.expression.Target.TheVariants.{Leaf as LeafOf, Own, Param}
use Rattle.pearl_program.specs.declared.expression.Bound.{Bound}
use Rattle.pearl_program.specs.PlainExpressions.{PlainExpr, OfLiteral, OfRead, OfMonadic, OfDyadic, OfCall, OfNow, OfTry, OfVariable, PlainExprs, NoExprs, MoreExprs, PlainArgument, OfValue, OfIdent, PlainArguments, NoArguments, MoreArguments}
use Rattle.pearl_program.specs.PlainPrograms.{PlainProcedure, PlainProg}
use Rattle.pearl_program.specs.Typing.{Around, Signature, HasKind, IsVariable, IsControl, AreSubscripts, Suit, SuitsParam, HaveKinds}
use Rattle.pearl_program.specs.Sound.{IsSound, IsProcedure, IsCellKind}
use Rattle.pearl_meaning.specs.Setting.{params_of}
use Rattle.pearl_instructions.specs.declared.instr.Instr.{Instr}
use Rattle.pearl_instructions.specs.declared.instr.Instr.TheVariants as instr
use Rattle.pearl_instructions.specs.declared.object.Procedure.{Procedure}
use Rattle.pearl_instructions.specs.declared.object.Parts.{Parts as Object}
use Rattle.pearl_instructions.specs.Lawful.{IsInstr}
use Rattle.pearl_instructions.specs.Objects.{result_of}
use Rattle.pearl_gen_expr.specs.Calls.{IsAroundIn}
use Rattle.pearl_gen_expr.specs.Tables.{Head, head_of, code_head, HasTables}
use Rattle.pearl_gen_expr.specs.ExprCode.{reading, slot_reference, cell_reference, bounds_of, OffsetOf, WayOf, ReadOf, ReferenceOf, ExprAt, AllAt, ArgumentsAt, ArgumentAt}
use Rattle.pearl_gen_expr.proofs.Offered.{each, signature_is, callee_of}
use Rattle.pearl_faithful.proofs.Places.{pushes, Every, nowhere, at_one, both, then_at}

-- an instruction that leaves an operand, and that an object may have
abbrev pub Adds : Object → ℕ → Instr → Type 0
Adds o j instr = (pushes o instr ≡ true) × IsInstr instr

reading_adds : (o : Object) (j : ℕ) (target : Target) (bounds : List Bound) → Adds o j (reading target bounds)
reading_adds o j (LeafOf number) [] = (refl, tt)
reading_adds o j (LeafOf number) (bound ∷ bounds) = (refl, tt)
reading_adds o j (Own cell) [] = (refl, tt)
reading_adds o j (Own cell) (bound ∷ bounds) = (refl, tt)
reading_adds o j (Param cell) bounds = (refl, tt)

slot_adds : (o : Object) (j number : ℕ) (bounds : List Bound) → Adds o j (slot_reference number bounds)
slot_adds o j number [] = (refl, tt)
slot_adds o j number (bound ∷ bounds) = (refl, tt)

cell_adds : (o : Object) (j cell : ℕ) (bounds : List Bound) → Adds o j (cell_reference cell bounds)
cell_adds o j cell [] = (refl, tt)
cell_adds o j cell (bound ∷ bounds) = (refl, tt)

module _ (o : Object) (instrs : List Instr) (from : ℕ) (subscripts : ℕ → Type 0) where
  pub offset_adds : (bounds : List Bound) (to : ℕ) → ((end : ℕ) → subscripts end → Every instrs (Adds o) from end) → OffsetOf instrs from bounds subscripts to →
      Every instrs (Adds o) from to
  offset_adds [] to on is = nowhere instrs (Adds o) from to is
  offset_adds (bound ∷ bounds) to on is = then_at instrs (Adds o) from is.0 to (instr.Index (map bounds_of (bound ∷ bounds))) (on is.0 is.1) is.3 is.2 (refl, tt)

  pub way_adds : (target : Target) (bounds : List Bound) (to : ℕ) → ((end : ℕ) → subscripts end → Every instrs (Adds o) from end) → WayOf instrs from target bounds subscripts to →
      Every instrs (Adds o) from to
  way_adds (LeafOf number) bounds to on is = offset_adds bounds to on is
  way_adds (Own cell) bounds to on is = offset_adds bounds to on is
  way_adds (Param cell) bounds to on is = at_one instrs (Adds o) from to (instr.Load cell) is.1 is.0 (refl, tt)

  read_adds : (target : Target) (bounds : List Bound) (to : ℕ) → ((end : ℕ) → subscripts end → Every instrs (Adds o) from end) → ReadOf instrs from target bounds subscripts to →
      Every instrs (Adds o) from to
  read_adds target bounds to on is = then_at instrs (Adds o) from is.0 to (reading target bounds) (way_adds target bounds is.0 on is.1) is.3 is.2 (reading_adds o is.0 target bounds)

  reference_adds : (target : Target) (bounds : List Bound) (to : ℕ) → ((end : ℕ) → subscripts end → Every instrs (Adds o) from end) → ReferenceOf instrs from target bounds subscripts to →
      Every instrs (Adds o) from to
  reference_adds (LeafOf number) bounds to on is = then_at instrs (Adds o) from is.0 to (slot_reference number bounds) (offset_adds bounds is.0 on is.1) is.3 is.2 (slot_adds o is.0 number bounds)
  reference_adds (Own cell) bounds to on is = then_at instrs (Adds o) from is.0 to (cell_reference cell bounds) (offset_adds bounds is.0 on is.1) is.3 is.2 (cell_adds o is.0 cell bounds)
  reference_adds (Param cell) bounds to on is = at_one instrs (Adds o) from to (instr.Load cell) is.1 is.0 (refl, tt)

-- what a procedure gives back is the same in the object
pub result_there : (p : PlainProg) (o : Object) → HasTables p o → (number : ℕ) (procedure : PlainProcedure) → slice_get p.procedures number ≡ Some procedure →
    result_of o number ≡ procedure.result
result_there p o tables number procedure there =
    let found = callee_of (slice_get o.procedures number) procedure
    (sym (slice_get-map code_head o.procedures number) ∙ (ap (λ heads. slice_get heads number) tables.procedures
    ∙ (slice_get-map head_of p.procedures number ∙ ap (option_map head_of) there))) in
    ap (λ (found : Option Procedure). option_and_then (λ (p : Procedure). p.result) found) found.1 ∙ ap (λ (head : Head). head.result) found.2

module _ (p : PlainProg) (o : Object) (instrs : List Instr) (around : Around) (sound : IsSound p) (tables : HasTables p o) (stands : IsAroundIn p around) where
  abbrev Adding : (from to : ℕ) → Type 0
  Adding from to = Every instrs (Adds o) from to

  -- what is read has a subscript for each dimension, unless it is a parameter with IDENT
  subscripts_typed : (first : ℕ) (bounds : List Bound) (es : PlainExprs) (kind : Kind) →
      IsVariable around (OfVariable (Own first) bounds es) kind ⊎ IsControl around (OfVariable (Own first) bounds es) kind → AreSubscripts around bounds es
  subscripts_typed first bounds es kind (inl is) = is.2
  subscripts_typed first [] NoExprs kind (inr is) = tt
  subscripts_typed first [] (MoreExprs e rest) kind (inr is) = absurd is
  subscripts_typed first (bound ∷ bounds) es kind (inr is) = absurd is

  read_with : (target : Target) (bounds : List Bound) (es : PlainExprs) (kind : Kind) (from to : ℕ) → (AreSubscripts around bounds es → (end : ℕ) → AllAt p instrs from es end → Adding from end) →
      IsVariable around (OfVariable target bounds es) kind ⊎ IsControl around (OfVariable target bounds es) kind → ReadOf instrs from target bounds (λ end. AllAt p instrs from es end) to → Adding from to
  read_with (LeafOf number) bounds es kind from to on (inl typed) is = read_adds o instrs from (λ end. AllAt p instrs from es end) (LeafOf number) bounds to (on typed.2) is
  read_with (LeafOf number) bounds es kind from to on (inr typed) is = absurd typed
  read_with (Own first) bounds es kind from to on typed is =
      read_adds o instrs from (λ end. AllAt p instrs from es end) (Own first) bounds to (on (subscripts_typed first bounds es kind typed)) is
  read_with (Param first) bounds es kind from to on typed is =
      then_at instrs (Adds o) from is.0 to instr.ReadRef (at_one instrs (Adds o) from is.0 (instr.Load first) is.1.1 is.1.0 (refl, tt)) is.3 is.2 (refl, tt)

  refer_with : (target : Target) (bounds : List Bound) (es : PlainExprs) (kind : Kind) (from to : ℕ) → (AreSubscripts around bounds es → (end : ℕ) → AllAt p instrs from es end → Adding from end) →
      IsVariable around (OfVariable target bounds es) kind → ReferenceOf instrs from target bounds (λ end. AllAt p instrs from es end) to → Adding from to
  refer_with (LeafOf number) bounds es kind from to on typed is = reference_adds o instrs from (λ end. AllAt p instrs from es end) (LeafOf number) bounds to (on typed.2) is
  refer_with (Own first) bounds es kind from to on typed is = reference_adds o instrs from (λ end. AllAt p instrs from es end) (Own first) bounds to (on typed.2) is
  refer_with (Param first) bounds es kind from to on typed is = at_one instrs (Adds o) from to (instr.Load first) is.1 is.0 (refl, tt)

  pub params_lawful : (number : ℕ) (procedure : PlainProcedure) → slice_get p.procedures number ≡ Some procedure → AllByRecursion IsCellKind (params_of procedure)
  params_lawful number procedure there = (each (IsProcedure p) p.procedures number procedure sound.procedures there).routine.params

  mutual
    pub expr_adds : (e : PlainExpr) (kind : Kind) (from to : ℕ) → HasKind around e kind → ExprAt p instrs from e to → Adding from to
    expr_adds (OfLiteral value) kind from to typed is =
        at_one instrs (Adds o) from to (instr.Const value) is.1 is.0 (refl, typed.is_value)
    expr_adds (OfRead (OfVariable target bounds subscripts)) kind from to typed is =
        read_with target bounds subscripts kind from to (λ are end at. subscripts_add subscripts bounds from end are at) typed is
    expr_adds (OfMonadic op operand) kind from to typed is =
        then_at instrs (Adds o) from is.0 to (instr.Monadic op) (expr_adds operand typed.0 from is.0 typed.1 is.1) is.3 is.2 (refl, tt)
    expr_adds (OfDyadic op left right) kind from to typed is =
        then_at instrs (Adds o) from is.1 to (instr.Dyadic op)
        (both instrs (Adds o) from is.0 is.1 (expr_adds left typed.0 from is.0 typed.2 is.2) (expr_adds right typed.1 is.0 is.1 typed.3 is.3)) is.5 is.4 (refl, tt)
    expr_adds (OfCall number arguments) kind from to typed is =
        let procedure = is.0 in let there = is.1 in
        let same = signature_is p around stands number procedure typed.0 there typed.1 in
        let suit = subst (λ (signature : Signature). Suit around signature.params arguments) (sym same) typed.2 in
        let result : result_of o number ≡ Some kind = result_there p o tables number procedure there ∙ (ap (λ (signature : Signature). signature.result) same ∙ typed.3) in
        then_at instrs (Adds o) from is.2 to (instr.Call number) (arguments_add arguments (params_of procedure) from is.2 (params_lawful number procedure there) suit is.3) is.5 is.4
        (ap is_some result, tt)
    expr_adds OfNow kind from to typed is = at_one instrs (Adds o) from to instr.Now is.1 is.0 (refl, tt)
    expr_adds (OfTry semaphore) kind from to typed is = at_one instrs (Adds o) from to (instr.Try semaphore) is.1 is.0 (refl, tt)

    pub subscripts_add : (es : PlainExprs) (bounds : List Bound) (from to : ℕ) → AreSubscripts around bounds es → AllAt p instrs from es to → Adding from to
    subscripts_add NoExprs bounds from to are is = nowhere instrs (Adds o) from to is
    subscripts_add (MoreExprs e rest) [] from to are is = absurd are
    subscripts_add (MoreExprs e rest) (bound ∷ bounds) from to are is =
        both instrs (Adds o) from is.0 to (expr_adds e (kind_.Fixed are.1.0) from is.0 are.1.1 is.1) (subscripts_add rest bounds is.0 to are.2 is.2)

    pub arguments_add : (arguments : PlainArguments) (params : List CellKind) (from to : ℕ) → AllByRecursion IsCellKind params → Suit around params arguments →
        ArgumentsAt p instrs from params arguments to → Adding from to
    arguments_add NoArguments [] from to lawful suit is = nowhere instrs (Adds o) from to is
    arguments_add NoArguments (param ∷ params) from to lawful suit is = absurd suit
    arguments_add (MoreArguments argument rest) [] from to lawful suit is = absurd suit
    arguments_add (MoreArguments argument rest) (param ∷ params) from to lawful suit is =
        both instrs (Adds o) from is.0 to (argument_adds argument param from is.0 lawful.0 suit.0 is.1) (arguments_add rest params is.0 to lawful.1 suit.1 is.2)

    argument_adds : (argument : PlainArgument) (param : CellKind) (from to : ℕ) → IsCellKind param → SuitsParam around param argument → ArgumentAt p instrs from param argument to → Adding from to
    argument_adds (OfValue e) (Plain kind) from to lawful suit is =
        then_at instrs (Adds o) from is.0 to (instr.Conv kind) (expr_adds e suit.0 from is.0 suit.1 is.1) is.3 is.2 (refl, lawful)
    argument_adds (OfValue e) (RefTo kind) from to lawful suit is = absurd suit
    argument_adds (OfIdent variable) (Plain kind) from to lawful suit is = absurd suit
    argument_adds (OfIdent (OfVariable target bounds subscripts)) (RefTo kind) from to lawful suit is =
        refer_with target bounds subscripts kind from to (λ are end at. subscripts_add subscripts bounds from end are at) suit is

  pub all_add : (es : PlainExprs) (kinds : List Kind) (from to : ℕ) → HaveKinds around es kinds → AllAt p instrs from es to → Adding from to
  all_add NoExprs kinds from to have is = nowhere instrs (Adds o) from to is
  all_add (MoreExprs e rest) [] from to have is = absurd have
  all_add (MoreExprs e rest) (kind ∷ kinds) from to have is =
      both instrs (Adds o) from is.0 to (expr_adds e kind from is.0 have.0 is.1) (all_add rest kinds is.0 to have.1 is.2)
