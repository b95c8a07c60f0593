-- No rule of the validator fails in statements that have no statements in them.
use Rattle.std.proofs.Common.{◌≡◌, ℕ, zero, suc, ◌+◌, ◌-◌, ◌<◌, ◌≤◌, List, [], ◌∷◌, ◌++◌, Option, Some, None, slice_get, length, replicate, refl, sym, ap, ◌∙◌, subst, arith}
use Rattle.std.specs.Prelude.{IfSome, is_some}
use Rattle.std.specs.List.{AllByRecursion}
use Rattle.std.proofs.lemmas.Option.{same_Some}
use Rattle.pearl_value.specs.declared.kind.Kind.{Kind}
use Rattle.pearl_value.specs.declared.kind.CellKind.TheVariants.{Plain}
use Rattle.pearl_value.specs.declared.cell.Cell.{Cell}
use Rattle.pearl_value.specs.Cells.{cell_kind_of}
use Rattle.pearl_value.specs.Conversions.{SuitsKind}
use Rattle.pearl_value.specs.WellFormed.{IsValueOf}
use Rattle.pearl_value.specs.declared.device.Device.{Device}
use Rattle.pearl_value.specs.declared.device.Device.TheVariants.{Interrupt, Terminal, Input, Output}
use Rattle.pearl_program.specs.declared.expression.Target.{Target}
use Rattle.pearl_program.specs.declared.expression.Target.TheVariants.{Leaf as LeafOf, Own, Param}
use Rattle.pearl_program.specs.declared.expression.Bound.{Bound}
use Rattle.pearl_program.specs.PlainExpressions.{PlainExpr, PlainVariable, OfVariable, PlainExprs, PlainArguments}
use Rattle.pearl_program.specs.PlainStatements.{PlainValues}
use Rattle.pearl_program.specs.PlainPrograms.{PlainProcedure}
use Rattle.pearl_program.specs.Typing.{Around, Signature, AreCells, HasKind, IsVariable, Suit, HasValueFor}
use Rattle.pearl_program.specs.SoundStatements.{AreFirst, IsReturn, IsInput, IsOutput}
use Rattle.pearl_program.specs.Weights.{Sizes, values, of_expr, of_exprs, of_variable, of_arguments, of_if}
use Rattle.pearl_meaning.specs.Setting.{Setting, params_of, variable_kind, sent_kind}
use Rattle.pearl_instructions.specs.declared.instr.Instr.{Instr}
use Rattle.pearl_instructions.specs.declared.instr.Instr.TheVariants as instr
use Rattle.pearl_instructions.specs.declared.object.Code.{Code}
use Rattle.pearl_instructions.specs.declared.object.Parts.{Parts as Object}
use Rattle.pearl_instructions.specs.Objects.{result_of}
use Rattle.pearl_instructions.specs.Operands.{Shape}
use Rattle.pearl_instructions.specs.Valid.{result_shape}
use Rattle.pearl_gen_expr.specs.ExprCode.{writing_to, Is, ExprAt, ArgumentsAt, WayAt}
use Rattle.pearl_gen_expr.specs.Shapes.{IsOpen, Keeps, way_shape, CodeKeeps}
use Rattle.pearl_gen_expr.proofs.Offered.{some_values, signature_is, quiet_open, both_keep, const_keeps, conv_keeps}
use Rattle.pearl_gen_expr.proofs.Offered.{load_keeps, store_keeps, literal_kind, then_one, just_one, expressions_keep}
use Rattle.pearl_gen_stmt.specs.StmtCode.{StoresAt, RepeatsAt, RenewAt, ConvertedAt, AssignAt, TakeAt, DroppedAt, CallOfAt, ReturnAt, SendAt}
use Rattle.pearl_faithful.proofs.Small.{IsSmall, left, right}
use Rattle.pearl_faithful.proofs.Lists.{part_is, get_copied, one_of}
use Rattle.pearl_faithful.proofs.Pushing.{params_lawful, result_there, arguments_add}
use Rattle.pearl_faithful.proofs.StatementsStand.{IsReturning, Stands, return_typed, return_bare, output_is, variable_is, sent_is, devices_there}
use Rattle.pearl_faithful.proofs.Simple.{expr_piece, way_piece}
use Rattle.pearl_faithful.proofs.Quiet.{stays, IsWhole, quiet_at, are_quiet, open_empty}
use Rattle.pearl_faithful.proofs.Steps.{fill_keeps, drop_keeps, take_keeps, send_keeps, return_keeps}

way_long : (target : Target) (bounds : List Bound) (kind : Kind) → length (way_shape target bounds kind []) ≤ 1
way_long (LeafOf number) [] kind = omega arith
way_long (LeafOf number) (bound ∷ bounds) kind = omega arith
way_long (Own cell) [] kind = omega arith
way_long (Own cell) (bound ∷ bounds) kind = omega arith
way_long (Param cell) bounds kind = omega arith

input_is : (found : Option Device) (kind : Kind) → IsInput found kind → (number : ℕ) × (found ≡ Some (Input number kind))
input_is (Some (Input number of)) kind is = (number, ap (λ of. Some (Input number of)) is)
input_is (Some (Interrupt number)) kind is = absurd is
input_is (Some (Terminal number direction)) kind is = absurd is
input_is (Some (Output number of)) kind is = absurd is
input_is None kind is = absurd is

module _ (o : Object) (r : ℕ) (code : Code) (setting : Setting) (below most need : ℕ) (whole : IsWhole o code) (room : length code.cells + (need + 2) + most ≤ code.depth)
    (around : Around) (stands : Stands o r code setting around below) where
  abbrev instrs : List Instr
  instrs = code.instructions

  abbrev Small : (Sizes → ℕ) → Type 0
  Small of = IsSmall o below most need of

  abbrev pub Passing : (from to : ℕ) (before after : Shape) → Type 0
  Passing from to before after = Keeps o r code from to before after

  pub keeps : CodeKeeps o r code setting.program around below most
  keeps = expressions_keep o r code setting.program around below most stands.placed

  pub expr_keep : (e : PlainExpr) (kind : Kind) (from to : ℕ) (s : Shape) → HasKind around e kind → Small (λ z. of_expr z e) → length s + of_expr values e ≤ need + 2 →
      ExprAt setting.program code.instructions from e to → Passing from to s (Plain kind ∷ s)
  expr_keep e kind from to s typed small fits is =
      keeps.expr e kind from to s typed small.0 small.1 (omega (arith, room, fits))
      (are_quiet o r code whole from to (expr_piece o r code setting around below stands e kind from to typed is).1) is

  pub converted_keep : (e : PlainExpr) (kind : Kind) (found : Option Kind) (from to : ℕ) (s : Shape) → HasValueFor around e kind → found ≡ Some kind → Small (λ z. of_expr z e) →
      length s + of_expr values e ≤ need + 2 → ConvertedAt setting code.instructions from e found to → Passing from to s (Plain kind ∷ s)
  converted_keep e kind found from to s has known small fits is =
      let end = is.0 in let some = some_values e in
      let same : is.1 ≡ kind = same_Some is.1 kind (sym is.2 ∙ known) in
      then_one o r code from end to s (Plain has.0 ∷ s) (Plain kind ∷ s) is.5 (expr_keep e has.0 from end s has.1 small fits is.3)
      (conv_keeps o r code end (quiet_at o r code whole end (instr.Conv is.1) is.4 refl) has.0 kind s (subst (λ kind. Is instrs end (instr.Conv kind)) same is.4) has.2
      (omega (arith, room, fits, some)))

  -- FIRST VALUES

  pub store_keep : (c : ℕ) (kind : Kind) (place : ℕ) → Is instrs place (instr.Store c) → slice_get code.cells c ≡ Some (Plain kind) → Passing place (place + 1) (Plain kind ∷ []) []
  store_keep c kind place is there = store_keeps o r code place c kind [] (open_empty o r code whole (place + 1)) is (one_of code.cells c (Plain kind) there) (omega (arith, room))

  -- so many cells from one on are of this kind
  abbrev pub AreOf : (c n : ℕ) → Kind → Type 0
  AreOf c n kind = (i : ℕ) → i < n → slice_get code.cells (c + i) ≡ Some (Plain kind)

  at_next : (c i : ℕ) (kind : Kind) → slice_get code.cells (c + suc i) ≡ Some (Plain kind) → slice_get code.cells (c + 1 + i) ≡ Some (Plain kind)
  at_next c i kind is = let same : c + 1 + i ≡ c + suc i = omega arith in ap (λ n. slice_get code.cells n) same ∙ is

  at_first : (c : ℕ) (kind : Kind) → slice_get code.cells (c + 0) ≡ Some (Plain kind) → slice_get code.cells c ≡ Some (Plain kind)
  at_first c kind is = let same : c ≡ c + 0 = omega arith in ap (λ n. slice_get code.cells n) same ∙ is

  stores_keep : (xs : List Cell) (kind : Kind) (from c to : ℕ) → AllByRecursion (IsValueOf kind) xs → AreOf c (length xs) kind → StoresAt setting instrs from c xs to → Passing from to [] []
  stores_keep [] kind from c to typed are is = stays o r code from to [] is
  stores_keep (x ∷ xs) kind from c to typed are is =
      let two : from + 2 ≡ from + 1 + 1 = omega arith in
      let one = const_keeps o r code from (quiet_at o r code whole from (instr.Const x) is.0 refl) x kind [] is.0 (literal_kind x kind typed.0) (omega (arith, room)) in
      let stored = store_keep c kind (from + 1) is.1 (at_first c kind (are 0 (omega arith))) in
      both_keep o r code from (from + 2) to [] [] []
      (then_one o r code from (from + 1) (from + 2) [] (Plain kind ∷ []) [] two one stored)
      (stores_keep xs kind (from + 2) (c + 1) to typed.1 (λ i less. at_next c i kind (are (suc i) (omega (arith, less)))) is.2)

  repeats_keep : (more from c to : ℕ) (kind : Kind) → AreOf c (suc more) kind → RepeatsAt setting instrs from c more to → Passing from to [] []
  repeats_keep zero from c to kind are is = stays o r code from to [] is
  repeats_keep (suc more) from c to kind are is =
      let two : from + 2 ≡ from + 1 + 1 = omega arith in
      let one = load_keeps o r code from (quiet_at o r code whole from (instr.Load c) is.0 refl) c (Plain kind) [] is.0 (at_first c kind (are 0 (omega arith))) (omega (arith, room)) in
      let stored = store_keep (c + 1) kind (from + 1) is.1 (are 1 (omega arith)) in
      both_keep o r code from (from + 2) to [] [] []
      (then_one o r code from (from + 1) (from + 2) [] (Plain kind ∷ []) [] two one stored)
      (repeats_keep more (from + 2) (c + 1) to kind (λ i less. at_next c i kind (are (suc i) (omega (arith, less)))) is.2)

  pub renew_keeps : (cell : ℕ) (values : PlainValues) (xs : List Cell) (from to : ℕ) → AreFirst values → AllByRecursion (IsValueOf values.kind) xs → length xs ≤ values.count →
      AreCells around.cells cell values.count (Plain values.kind) → RenewAt setting code.instructions from cell values xs to → Passing from to [] []
  renew_keeps cell values [] from to first typed few are is =
      just_one o r code from to [] [] is.1 (fill_keeps o r code whole from cell values.count values.kind is.0 first.some
      (subst (λ cells. AreCells cells cell values.count (Plain values.kind)) stands.placed.cells are) (omega (arith, room)))
  renew_keeps cell values (x ∷ xs) from to first typed few are is =
      let all : AreOf cell values.count values.kind = λ i less.
      part_is code.cells (replicate values.count (Plain values.kind)) cell values.count i (Plain values.kind)
      (subst (λ cells. AreCells cells cell values.count (Plain values.kind)) stands.placed.cells are) (get_copied values.count i (Plain values.kind) less) in
      both_keep o r code from is.0 to [] [] []
      (stores_keep (x ∷ xs) values.kind from cell is.0 typed (λ i less. all i (omega (arith, less, few))) is.1)
      (repeats_keep (values.count - length (x ∷ xs)) is.0 (cell + length xs) to values.kind (λ i less.
      let same : cell + length xs + i ≡ cell + (length xs + i) = omega arith in
      ap (λ n. slice_get code.cells n) same ∙ all (length xs + i) (omega (arith, less, few))) is.2)

  -- VARIABLES

  -- the way to a target lies below what is written there
  way_keep : (target : Target) (bounds : List Bound) (es : PlainExprs) (kind : Kind) (from to : ℕ) → IsVariable around (OfVariable target bounds es) kind → Small (λ z. of_exprs z es) →
      WayAt setting.program instrs from (OfVariable target bounds es) to → Passing from to [] (way_shape target bounds kind [])
  way_keep target bounds es kind from to typed small is =
      let few = small.2 in
      keeps.way target bounds es kind from to [] typed small.0 small.1 (omega (arith, room, few))
      (are_quiet o r code whole from to (way_piece o r code setting around below stands (OfVariable target bounds es) kind from to typed is).1) is

  write_keep : (target : Target) (bounds : List Bound) (es : PlainExprs) (kind : Kind) (place to : ℕ) → IsVariable around (OfVariable target bounds es) kind →
      Is instrs place (writing_to (OfVariable target bounds es)) → to ≡ place + 1 → Passing place to (Plain kind ∷ way_shape target bounds kind []) []
  write_keep target bounds es kind place to typed is last =
      just_one o r code place to (Plain kind ∷ way_shape target bounds kind []) [] last
      (keeps.write target bounds es kind place [] typed (omega (arith, room)) (open_empty o r code whole (place + 1)) is)

  pub assign_keeps : (target : PlainVariable) (e : PlainExpr) (kind : Kind) (from to : ℕ) → IsVariable around target kind → HasValueFor around e kind →
      Small (λ z. z.both (of_variable z target) (of_expr z e)) → AssignAt setting code.instructions from target e to → Passing from to [] []
  assign_keeps (OfVariable target bounds es) e kind from to typed has small is =
      let known = variable_is o r code setting around below stands (OfVariable target bounds es) kind typed in
      let way = way_shape target bounds kind [] in
      let long = way_long target bounds kind in let sizes = small.2 in
      both_keep o r code from is.1 to [] (Plain kind ∷ way) []
      (both_keep o r code from is.0 is.1 [] way (Plain kind ∷ way)
      (way_keep target bounds es kind from is.0 typed (left o below most need (λ z. of_exprs z es) (λ z. of_expr z e) small) is.2)
      (converted_keep e kind (variable_kind setting (OfVariable target bounds es)) is.0 is.1 way has known.0 (right o below most need (λ z. of_exprs z es) (λ z. of_expr z e) small) (omega (arith, long, sizes)) is.3))
      (write_keep target bounds es kind is.1 to typed is.4 is.5)

  pub take_keep : (target : PlainVariable) (of kind : Kind) (number from to : ℕ) → IsInput (slice_get around.devices number) of → IsVariable around target kind → SuitsKind of kind →
      Small (λ z. of_variable z target) → TakeAt setting code.instructions from target number to → Passing from to [] []
  take_keep (OfVariable target bounds es) of kind number from to input typed suits small is =
      let known = variable_is o r code setting around below stands (OfVariable target bounds es) kind typed in
      let found = input_is (slice_get around.devices number) of input in
      let same : is.1 ≡ kind = same_Some is.1 kind (sym is.2 ∙ known.0) in
      let way = way_shape target bounds kind [] in
      let long = way_long target bounds kind in
      let value = is.0 in let last = is.7 in
      let two : value + 2 ≡ value + 1 + 1 = omega arith in
      let taken = take_keeps o r code whole value number found.0 of way is.4 (devices_there o r code setting around below stands number ∙ found.1) (omega (arith, long, room)) in
      let converted = conv_keeps o r code (value + 1) (quiet_at o r code whole (value + 1) (instr.Conv is.1) is.5 refl) of kind way (subst (λ kind. Is instrs (value + 1) (instr.Conv kind)) same is.5) suits
      (omega (arith, long, room)) in
      both_keep o r code from value to [] way [] (way_keep target bounds es kind from value typed small is.3)
      (both_keep o r code value (value + 2) to way (Plain kind ∷ way) [] (then_one o r code value (value + 1) (value + 2) way (Plain of ∷ way) (Plain kind ∷ way) two taken converted)
      (write_keep target bounds es kind (value + 2) to typed is.6 (omega (arith, last))))

  -- CALLS

  result_open : (number : ℕ) (result : Option Kind) (end : ℕ) → result_of o number ≡ result → Is instrs end (instr.Call number) → IsOpen code (end + 1) (result_shape result ++ [])
  result_open number None end known is = open_empty o r code whole (end + 1)
  result_open number (Some kind) end known is = quiet_open code (end + 1) (Plain kind ∷ []) (quiet_at o r code whole end (instr.Call number) is (ap is_some known))

  dropped_keep : (result : Option Kind) (end to : ℕ) → DroppedAt setting instrs end result to → Passing end to (result_shape result ++ []) []
  dropped_keep None end to is = stays o r code end to [] is
  dropped_keep (Some kind) end to is = just_one o r code end to (Plain kind ∷ []) [] is.1 (drop_keeps o r code whole end (Plain kind) is.0 (omega (arith, room)))

  pub call_keep : (number : ℕ) (found : Option PlainProcedure) (arguments : PlainArguments) (signature : Signature) (from to : ℕ) → slice_get setting.program.procedures number ≡ found →
      slice_get around.procedures number ≡ Some signature → Suit around signature.params arguments → Small (λ z. z.both (z.call number) (of_arguments z arguments)) →
      CallOfAt setting code.instructions from number found arguments to → Passing from to [] []
  call_keep number None _ signature from to found known suit small is = absurd is
  call_keep number (Some procedure) arguments signature from to found known suit small is =
      let call = is.1 in let end = call.2 in let last = call.5 in
      let program = setting.program in
      let same = signature_is program around stands.placed.stands number procedure signature found known in
      let suit : Suit around (params_of procedure) arguments = subst (λ (signature : Signature). Suit around signature.params arguments) (sym same) suit in
      let it : call.0 ≡ procedure = same_Some call.0 procedure (sym call.1 ∙ found) in
      let here = left o below most need (λ z. z.call number) (λ z. of_arguments z arguments) small in
      let within = right o below most need (λ z. z.call number) (λ z. of_arguments z arguments) small in
      let few = within.2 in
      let adds = arguments_add program o instrs around stands.placed.sound stands.placed.tables stands.placed.stands arguments (params_of procedure) from end
      (params_lawful program o instrs around stands.placed.sound stands.placed.tables stands.placed.stands number procedure found) suit
      (subst (λ (procedure : PlainProcedure). ArgumentsAt program instrs from (params_of procedure) arguments end) it call.3) in
      both_keep o r code from is.0 to [] (result_shape procedure.result ++ []) []
      (keeps.call number procedure arguments from is.0 [] found suit here.0 within.0 here.1 within.1 (omega (arith, room, few))
      (λ place low high. are_quiet o r code whole from end adds place low (omega (arith, last, high)))
      (subst (λ at. IsOpen code at (result_shape procedure.result ++ [])) (sym last) (result_open number procedure.result end (result_there program o stands.placed.tables number procedure found) call.4)) is.1)
      (dropped_keep procedure.result is.0 to is.2)

  -- THE END OF A PROCEDURE

  pub return_keep : (value : Option PlainExpr) (from to : ℕ) → IsReturn around around.returns value → Small (λ z. of_if z (of_expr z) value) → ReturnAt setting code.instructions from value to →
      Passing from to [] []
  return_keep None from to typed small is =
      let returns = return_bare around around.returns typed in
      let known = subst (λ found. IfSome found (IsReturning o r setting)) returns stands.returns in
      just_one o r code from to [] [] is.1 (return_keeps o r code whole from None is.0 known.2 known.1 (omega (arith, room)))
  return_keep (Some e) from to typed small is =
      let returns = return_typed around around.returns e typed in
      let known = subst (λ found. IfSome found (IsReturning o r setting)) returns.1 stands.returns in
      let few = small.2 in let end = is.0 in
      then_one o r code from end to [] (Plain returns.0 ∷ []) [] is.2.1
      (converted_keep e returns.0 setting.result from end [] returns.2 (sym known.0) small (omega (arith, few)) is.1)
      (return_keeps o r code whole end (Some returns.0) is.2.0 known.2 known.1 (omega (arith, room)))

  -- OUTPUTS

  pub send_keep : (e : PlainExpr) (kind : Kind) (number from to : ℕ) → IsOutput (slice_get around.devices number) kind → HasValueFor around e kind → Small (λ z. of_expr z e) →
      SendAt setting code.instructions from e number to → Passing from to [] []
  send_keep e kind number from to output has small is =
      let known = sent_is o r code setting around below stands number kind output in
      let found = output_is (slice_get around.devices number) kind output in
      let few = small.2 in let end = is.0 in
      then_one o r code from end to [] (Plain kind ∷ []) [] is.2.1
      (converted_keep e kind (sent_kind setting number) from end [] has known.0 small (omega (arith, few)) is.1)
      (send_keeps o r code whole end number found.0 kind is.2.0 (devices_there o r code setting around below stands number ∙ found.1) (omega (arith, room)))
