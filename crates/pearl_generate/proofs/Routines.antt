-- The code of routines, and of procedures in order.
use Rattle.std.proofs.Common.{◌≡◌, ℕ, ◌<◌, List, [], ◌∷◌, ◌++◌, length, get_or, map, Option, None, Some, slice_get, option_map, refl, sym, ap, ◌∙◌, subst, arith, length-append}
use Rattle.std.proofs.lemmas.List.{length-map}
use Rattle.std.proofs.lemmas.Option.{slice_get-map, slice_get_read, get_or_from_slice_get}
use Rattle.pearl_value.specs.declared.kind.Kind.{Kind}
use Rattle.pearl_program.specs.declared.program.Procedure.{Procedure}
use Rattle.pearl_program.specs.declared.program.Program.{Program}
use Rattle.pearl_program.specs.PlainPrograms.{PlainRoutine, PlainProg, plain_prog, plain_procedure}
use Rattle.pearl_program.specs.Sound.{CallSmaller}
use Rattle.pearl_program.specs.Weights.{weight, weights_of}
use Rattle.pearl_instructions.specs.declared.instr.Instr.{Instr}
use Rattle.pearl_instructions.specs.declared.object.Code.{Code}
use Rattle.pearl_gen_expr.specs.ExprCode.{Is}
use Rattle.pearl_gen_expr.specs.Emitting.{Extends}
use Rattle.pearl_gen_stmt.specs.StmtCode.{StmtsAt}
use Rattle.pearl_gen_stmt.specs.Generated.{within_program}
use Rattle.pearl_generate.specs.Routines.{IsRoutine}
use Rattle.pearl_faithful.proofs.Offered.{weight_is, weights_count}

stands_last : (list : List Instr) (x : Instr) → slice_get (list ++ x ∷ []) (length list) ≡ Some x
stands_last [] x = refl
stands_last (y ∷ list) x = stands_last list x

pub routine_is : (p : PlainProg) (result : Option Kind) (routine : PlainRoutine) (last : Instr) (code : Code) (old now later : List Instr) → old ≡ [] →
    ((later : List Instr) → Extends now later → StmtsAt (within_program p result routine) later None (length old) routine.body (length now)) →
    later ≡ now ++ last ∷ [] → code.instructions ≡ later → code.depth ≡ weight (weights_of p.procedures) routine → code.shapes ≡ [] →
    code.cells ≡ routine.cells → IsRoutine p result routine last code
routine_is p result routine last code old now later none stands added is depth shapes cells =
    let whole : code.instructions ≡ now ++ last ∷ [] = is ∙ added in
    record {
      end = length now;
      statements = subst (λ from. StmtsAt (within_program p result routine) code.instructions None from routine.body (length now)) (ap length none)
          (stands code.instructions (last ∷ [], whole));
      behind = subst (λ list. Is list (length now) last) (sym whole) (stands_last now last);
      whole = ap length whole ∙ length-append now (last ∷ []);
      stated = (depth, shapes);
      cells = cells;
    }

module _ (program : Program) (weights : List ℕ) (xs : List Procedure) (all : xs ≡ program.procedures)
    (are : weights ≡ weights_of (plain_prog program).procedures) (i : ℕ) (inside : i < length xs) where
  pub has_weight : i < length weights
  has_weight =
      let many : length weights ≡ length xs =
      ap length are ∙ (weights_count (map plain_procedure program.procedures) ∙ (length-map program.procedures plain_procedure ∙ sym (ap length all))) in
      omega (arith, many, inside)

  pub its_weight : (x : Procedure) → CallSmaller 0 (plain_prog program).procedures → x ≡ get_or xs i x →
      get_or weights i 0 ≡ weight (weights_of (plain_prog program).procedures) (plain_procedure x).routine
  its_weight x smaller is =
      let procedures = map plain_procedure program.procedures in
      let there : slice_get xs i ≡ Some x = slice_get_read xs (length xs) i x refl inside is in
      let found : slice_get procedures i ≡ Some (plain_procedure x) =
      slice_get-map plain_procedure program.procedures i ∙ ap (option_map plain_procedure) (ap (λ l. slice_get l i) (sym all) ∙ there) in
      ap (λ w. get_or w i 0) are ∙
      get_or_from_slice_get (weights_of procedures) i (weight (weights_of procedures) (plain_procedure x).routine) 0
      (weight_is procedures i (plain_procedure x) found smaller)
