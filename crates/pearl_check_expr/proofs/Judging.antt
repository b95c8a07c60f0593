-- What parts answer and add, put together.
use Rattle.std.proofs.Common.{◌≡◌, ◌==◌, ◌&&◌, not, Bool, true, false, List, [], ◌∷◌, ◌++◌, length, map, Option, is_some, refl, sym, ap, ◌∙◌, append-nil, append_assoc}
use Rattle.std.proofs.lemmas.List.{length-map}
use Rattle.std.proofs.lemmas.List.Folds.{list_all-append}
use Rattle.std.proofs.lemmas.Grind.{flat_map-append}
use Rattle.pearl_value.specs.declared.kind.Kind.{Kind}
use Rattle.pearl_tree.specs.declared.fault.RuleFault.{RuleFault}
use Rattle.pearl_tree.specs.declared.name.Name.{Name}
use Rattle.pearl_tree.specs.declared.expression.Monadic.{Monadic}
use Rattle.pearl_tree.specs.declared.expression.Expr.{Expr}
use Rattle.pearl_tree.specs.Faults.{fault_if}
use Rattle.pearl_tree.specs.ShownExpressions.{shown_expr_list}
use Rattle.pearl_names.specs.declared.scope.View.{View}
use Rattle.pearl_names.specs.declared.sense.Signature.{Signature}
use Rattle.pearl_names.specs.declared.types.StructForm.{StructForm}
use Rattle.pearl_names.specs.Holding.{parameter_of}
use Rattle.pearl_names.specs.Tables.{Table}
use Rattle.pearl_check_expr.specs.declared.standing.Standing.{Standing as Reached}
use Rattle.pearl_check_expr.specs.declared.standing.Subscripts.{Subscripts}
use Rattle.pearl_check_expr.specs.Standings.{Judged, Standing, Walked, behind, is_fixed_or_unknown, faults_of, all_fixed, all_known, element_of, subscripted}
use Rattle.pearl_check_expr.specs.Judged.{with_monadics, monadic_result, Argument, all_well, argument_faults, arguments, called}
use Rattle.pearl_check_expr.specs.Answers.{of_kind, IsJudged, IsWalked, AreJudged, IsArgument, AreArguments, callee_in}
use Rattle.pearl_check_expr.proofs.Walking.{AreKnown, arguments_length}

pub two_added : {X : Type 0} (old mid new a b : List X) → mid ≡ old ++ a → new ≡ mid ++ b → new ≡ old ++ (a ++ b)
two_added old mid new a b e f = f ∙ ap (λ t. t ++ b) e ∙ append_assoc old a b

monadics_kind : (monadics : List Monadic) (part : Judged) → (with_monadics monadics part).kind ≡ (with_monadics monadics (of_kind part.kind)).kind
monadics_kind [] part = refl
monadics_kind (monadic ∷ rest) part = ap (λ k. (monadic_result monadic k).kind) (monadics_kind rest part)

monadics_faults : (monadics : List Monadic) (part : Judged) →
    (with_monadics monadics part).faults ≡ part.faults ++ (with_monadics monadics (of_kind part.kind)).faults
monadics_faults [] part = sym (append-nil part.faults)
monadics_faults (monadic ∷ rest) part =
    (λ i. monadics_faults rest part i ++ (monadic_result monadic (monadics_kind rest part i)).faults)
    ∙ append_assoc part.faults _ _

-- the operators before an operand
pub monadics_judged : (monadics : List Monadic) (part : Judged) (kind answer : Option Kind) (old mid new : List RuleFault) →
    IsJudged kind old mid part → IsJudged answer mid new (with_monadics monadics (of_kind kind)) → IsJudged answer old new (with_monadics monadics part)
monadics_judged monadics part kind answer old mid new first then_so = record {
  same = then_so.same ∙ ap (λ k. (with_monadics monadics (of_kind k)).kind) first.same ∙ sym (monadics_kind monadics part);
  added = two_added old mid new part.faults _ first.added (then_so.added ∙ ap (λ k. mid ++ (with_monadics monadics (of_kind k)).faults) first.same)
      ∙ ap (λ t. old ++ t) (sym (monadics_faults monadics part));
}

-- one subscript more
pub known_more : (fixed known : Bool) (old mid new : List RuleFault) (parts : List Judged) (part : Judged) (kind : Option Kind) →
    AreKnown fixed known old mid parts → IsJudged kind mid new part →
    AreKnown (fixed && is_fixed_or_unknown kind) (known && is_some kind) old new (parts ++ part ∷ [])
known_more fixed known old mid new parts part kind are is = record {
  fixed_ones = (λ i. are.fixed_ones i && is_fixed_or_unknown (is.same i)) ∙ sym (fixed_push parts part);
  known_ones = (λ i. are.known_ones i && is_some (is.same i)) ∙ sym (known_push parts part);
  added = two_added old mid new (faults_of parts) part.faults are.added is.added ∙ ap (λ t. old ++ t) (sym (faults_push parts part));
}
  where
    and-true : (b : Bool) → b && true ≡ b
    and-true true = refl
    and-true false = refl

    fixed_push : (parts : List Judged) (part : Judged) → all_fixed (parts ++ part ∷ []) ≡ all_fixed parts && is_fixed_or_unknown part.kind
    fixed_push parts part = list_all-append _ parts (part ∷ []) ∙ ap (λ b. all_fixed parts && b) (and-true _)

    known_push : (parts : List Judged) (part : Judged) → all_known (parts ++ part ∷ []) ≡ all_known parts && is_some part.kind
    known_push parts part = list_all-append _ parts (part ∷ []) ∙ ap (λ b. all_known parts && b) (and-true _)

    faults_push : (parts : List Judged) (part : Judged) → faults_of (parts ++ part ∷ []) ≡ faults_of parts ++ part.faults
    faults_push parts part = flat_map-append _ parts (part ∷ []) ∙ ap (λ t. faults_of parts ++ t) (append-nil part.faults)

-- one argument more
pub arguments_more : (well one : Bool) (old mid new : List RuleFault) (parts : List Argument) (part : Argument) →
    AreArguments well old mid parts → IsArgument one mid new part → AreArguments (well && one) old new (parts ++ part ∷ [])
arguments_more well one old mid new parts part are is = record {
  same = (λ i. are.same i && is.same i) ∙ sym (well_push parts part);
  added = two_added old mid new (argument_faults parts) part.faults are.added is.added ∙ ap (λ t. old ++ t) (sym (faults_push parts part));
}
  where
    and-true : (b : Bool) → b && true ≡ b
    and-true true = refl
    and-true false = refl

    well_push : (parts : List Argument) (part : Argument) → all_well (parts ++ part ∷ []) ≡ all_well parts && part.well
    well_push parts part = list_all-append _ parts (part ∷ []) ∙ ap (λ b. all_well parts && b) (and-true _)

    faults_push : (parts : List Argument) (part : Argument) → argument_faults (parts ++ part ∷ []) ≡ argument_faults parts ++ part.faults
    faults_push parts part = flat_map-append _ parts (part ∷ []) ∙ ap (λ t. argument_faults parts ++ t) (append-nil part.faults)

-- a call with as many arguments as parameters, or not
pub called_so : (table : Table) (view : View) (name : Name) (signature : Signature) (exprs : List Expr) (as_many well : Bool) (old mid new : List RuleFault) →
    as_many ≡ (length exprs == length signature.parameters.items) →
    mid ≡ old ++ fault_if (not as_many) name.place 20 →
    AreArguments well mid new (arguments table view (map parameter_of signature.parameters.items) (shown_expr_list exprs)) →
    IsArgument (as_many && well) old new (called table view name (callee_in signature) (shown_expr_list exprs))
called_so table view name signature exprs as_many well old mid new many told are =
    let parameters = map parameter_of signature.parameters.items in
    let all = arguments table view parameters (shown_expr_list exprs) in
    let e : as_many ≡ (length all == length parameters) =
    many ∙ (λ i. sym (arguments_length table view parameters exprs) i == sym (length-map signature.parameters.items parameter_of) i) in
    record {
      same = λ i. e i && are.same i;
      added = two_added old mid new _ (argument_faults all) told are.added ∙ (λ i. old ++ (fault_if (not (e i)) name.place 20 ++ argument_faults all));
    }

-- an element behind its subscripts
pub element_so : (name : Name) (forms : List StructForm) (from : Standing) (parts : List Judged) (subscripts : Subscripts) (element : Reached) (old mid new : List RuleFault) →
    AreJudged subscripts old mid parts → IsWalked forms element mid new (element_of name from parts) →
    IsWalked forms element old new (subscripted name from parts)
element_so name forms from parts subscripts element old mid new are is = record {
  stands = is.stands;
  added = two_added old mid new (faults_of parts) _ are.added is.added;
}

-- a step behind others
pub walked_more : (forms : List StructForm) (before next : Reached) (walked step : Walked) (old mid new : List RuleFault) →
    IsWalked forms before old mid walked → IsWalked forms next mid new step → IsWalked forms next old new (behind walked.faults step)
walked_more forms before next walked step old mid new first then_so = record {
  stands = then_so.stands;
  added = two_added old mid new walked.faults step.faults first.added then_so.added;
}
