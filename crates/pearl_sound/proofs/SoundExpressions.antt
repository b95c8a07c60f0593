-- What an expression becomes has the kind with which the expression is judged.
use Rattle.std.specs.Prelude.{◌≡◌, ℕ, zero, suc, ◌==◌, Bool, true, false, ◌&&◌, if◌then◌else◌, List, [], ◌∷◌, length, Option, Some, None, is_some, unwrap_or}
use Rattle.std.proofs.Common.{inl, inr, refl, ap, ◌∙◌, sym, subst, arith, true≢false}
use Rattle.std.proofs.lemmas.Option.{none-some}
use Rattle.std.proofs.lemmas.Bool.{eqb-true}
use Rattle.pearl_value.specs.declared.kind.Kind.{Kind}
use Rattle.pearl_value.specs.declared.kind.Kind.TheVariants.{Fixed}
use Rattle.pearl_tree.specs.declared.name.Name.{Name}
use Rattle.pearl_tree.specs.declared.rule.TheConstants as rule
use Rattle.pearl_tree.specs.Names.{name_text}
use Rattle.pearl_tree.specs.ShownExpressions.{ShownExpr, OfOperand, OfDyadic, ShownPrimary, OfLiteral, OfRef, OfGroup, OfNow, OfTry, OfLimit, ShownSelectors, NoSelectors, MoreSelectors, ShownSelector, OfSubscripts, OfComponent, ShownExprs, NoExprs, MoreExprs, ShownRef}
use Rattle.pearl_names.specs.declared.scope.View.{View}
use Rattle.pearl_names.specs.Shapes.{OfKind}
use Rattle.pearl_names.specs.Tables.{Parameter, sense_from}
use Rattle.pearl_check_expr.specs.Senses.{Callee, callee_of, is_fixed}
use Rattle.pearl_check_expr.specs.Standings.{Standing, Broken, Open, Walked, variable_start, behind, as_value, value_of, all_fixed, all_known, is_fixed_or_unknown}
use Rattle.pearl_check_expr.specs.Judged as judging
use Rattle.pearl_check_expr.specs.Judged.{called, judged, judged_variable, judged_primary, judged_all, applied, first_applied, is_last, arguments, argument_of, fitted, ident_argument, variable_argument, no_variable, all_well, call_value, called_or, dimension_of, expr_place, result_kind, plain_name}
use Rattle.pearl_program.specs.PlainExpressions.{PlainExpr, OfRead, PlainVariable, NoArguments}
use Rattle.pearl_program.specs.PlainExpressions as plain
use Rattle.pearl_program.specs.SoundStatements.{IsCall}
use Rattle.pearl_program.specs.Typing.{Around, HasKind, IsVariable, Suit, SuitsParam}
use Rattle.pearl_resolve.specs.Expressions as resolved
use Rattle.pearl_resolve.specs.Expressions.{Numbered, meant, number_of, Walk, walk_from, variable_of, count, params_of, handed, along, step, resolve_expr, resolve_primary, resolve_exprs, resolve_call, first_arguments, resolve_arguments, resolve_variable}
use Rattle.pearl_resolve.specs.Cells.{param_cell}
use Rattle.pearl_sound.specs.SoundNames.{HasLiterals, PrimaryHasLiterals, SelectorsHaveLiterals, SelectorHasLiterals, HaveLiterals, param_cells, is_control, LeadValues}
use Rattle.pearl_sound.proofs.Subscripting.{both, some_of, AreAllFixed}
use Rattle.pearl_sound.proofs.SoundWalks.{IsSoundAt, Reads, starts_sound, component_sound, subscripts_sound, element_sound, variable_sound}
use Rattle.pearl_sound.proofs.SoundParts.{some_one, dyadic_is, monadics_sound, try_is, limit_sound, fixed_is, no_control, value_suits, variable_suits, well_is, params_of_callee, same_params, callee_is}

-- what a reference reads
reads_is : (around : Around) (control : Bool) (name : Name) (standing : Standing) (walk : Walk) (kind : Kind) →
    IsSoundAt around control standing walk → (value_of name standing).kind ≡ Some kind → Reads around control (variable_of walk) kind
reads_is around control name (Open zero (OfKind of)) walk kind stands is =
    subst (λ k. Reads around control (variable_of walk) k) (some_one is) (variable_sound around control walk of stands)
reads_is around control name other walk kind stands is = absurd (none-some kind is)

either : (around : Around) (control : Bool) (variable : PlainVariable) (kind : Kind) → Reads around control variable kind →
    HasKind around (OfRead variable) kind
either around false variable kind reads = inl reads
either around true variable kind reads = inr reads

read_sound : (around : Around) (control : Bool) (name : Name) (standing : Standing) (walk : Walk) (kind : Kind) →
    IsSoundAt around control standing walk → (value_of name standing).kind ≡ Some kind →
    HasKind around (OfRead (variable_of walk)) kind
read_sound around control name standing walk kind stands is =
    either around control (variable_of walk) kind (reads_is around control name standing walk kind stands is)

module _ (numbered : Numbered) (view : View) (around : Around) (lead : LeadValues numbered view around) where
  abbrev read_of : Name → ShownSelectors → PlainExpr
  read_of name selectors = OfRead (variable_of (along numbered view (walk_from (meant numbered view name)) selectors))

  abbrev call_of : Name → ShownSelectors → List Parameter → PlainExpr
  call_of name selectors parameters = plain.OfCall (number_of numbered view name) (resolve_call numbered view parameters selectors)

  abbrev walked : Name → ShownSelectors → Walked
  walked name selectors =
      judging.along numbered.table view name (variable_start name (sense_from numbered.table view (name_text name))) selectors

  abbrev control_of : Name → Bool
  control_of name = is_control (sense_from numbered.table view (name_text name))

  -- where a reference is there
  abbrev Stands : Name → ShownSelectors → Type 0
  Stands name selectors =
      IsSoundAt around (control_of name) (walked name selectors).standing
      (along numbered view (walk_from (meant numbered view name)) selectors)

  -- a reference that stands alone, in no brackets
  abbrev StandsAlone : ShownExpr → Type 0
  StandsAlone (OfOperand [] (OfRef name selectors at) end) = Stands name selectors
  StandsAlone e = Unit {0}

  ref_sound : (name : Name) (selectors : ShownSelectors) (c : Option Callee) →
      callee_of (sense_from numbered.table view (name_text name)) ≡ c →
      Stands name selectors →
      ((callee : Callee) → (applied numbered.table view name callee selectors).well ≡ true →
      Suit around (param_cells callee.parameters) (resolve_call numbered view callee.parameters selectors)) →
      (kind : Kind) → (called_or c (λ callee. call_value name callee (applied numbered.table view name callee selectors))
      (as_value name (walked name selectors))).kind ≡ Some kind →
      HasKind around (resolved.called_or (params_of (meant numbered view name)) (call_of name selectors) (read_of name selectors)) kind
  ref_sound name selectors None found stands suits kind is =
      subst (λ parameters. HasKind around (resolved.called_or parameters (call_of name selectors) (read_of name selectors)) kind)
      (sym (same_params numbered view name ∙ ap params_of_callee found))
      (read_sound around (control_of name) name (walked name selectors).standing
      (along numbered view (walk_from (meant numbered view name)) selectors) kind stands is)
  ref_sound name selectors (Some callee) found stands suits kind is =
      let parts = well_is (applied numbered.table view name callee selectors).well (result_kind callee) kind is in
      let there = lead.procedures name callee.parameters callee.result
      (callee_is (sense_from numbered.table view (name_text name)) callee found) in
      subst (λ parameters. HasKind around (resolved.called_or parameters (call_of name selectors) (read_of name selectors)) kind)
      (sym (same_params numbered view name ∙ ap params_of_callee found)) (
        there.signature,
        there.there,
        subst (λ cells. Suit around cells (resolve_call numbered view callee.parameters selectors)) (sym there.params) (suits callee parts.0),
        there.gives kind parts.1,
      )

  -- an argument for an IDENT parameter
  named_suits : (place : ℕ) (name : Name) (selectors : ShownSelectors) (to : Option Kind) (c : Option Callee) →
      callee_of (sense_from numbered.table view (name_text name)) ≡ c → Stands name selectors →
      (if is_some c then no_variable place else
      variable_argument place (is_fixed (sense_from numbered.table view (name_text name))) to
      (called_or c (λ callee. call_value name callee (applied numbered.table view name callee selectors))
      (as_value name (walked name selectors))).kind).well ≡ true →
      SuitsParam around (param_cell true (unwrap_or to (Fixed 31)))
      (handed true (resolved.called_or (params_of (meant numbered view name)) (call_of name selectors) (read_of name selectors)))
  named_suits place name selectors to (Some callee) found stands well = absurd (true≢false (sym well))
  named_suits place name selectors to None found stands well =
      let walk = along numbered view (walk_from (meant numbered view name)) selectors in
      subst (λ parameters. SuitsParam around (param_cell true (unwrap_or to (Fixed 31)))
      (handed true (resolved.called_or parameters (call_of name selectors) (read_of name selectors))))
      (sym (same_params numbered view name ∙ ap params_of_callee found))
      (variable_suits around place (is_fixed (sense_from numbered.table view (name_text name))) (variable_of walk) to
      (as_value name (walked name selectors)).kind
      (λ kind free is. subst (λ control. Reads around control (variable_of walk) kind)
      (no_control (sense_from numbered.table view (name_text name)) free)
      (reads_is around (control_of name) name (walked name selectors).standing walk kind stands is)) well)

  ident_suits : (place : ℕ) (e : ShownExpr) (to : Option Kind) → StandsAlone e →
      (ident_argument numbered.table view place to (judged numbered.table view e).kind (plain_name e)).well ≡ true →
      SuitsParam around (param_cell true (unwrap_or to (Fixed 31))) (handed true (resolve_expr numbered view e))
  ident_suits place (OfOperand [] (OfRef name selectors at) end) to stands well =
      named_suits place name selectors to (callee_of (sense_from numbered.table view (name_text name))) refl stands well
  ident_suits place other to stands well = absurd (true≢false (sym well))

  argument_suits : (e : ShownExpr) (ident : Bool) (to : Option Kind) →
      ((kind : Kind) → (judged numbered.table view e).kind ≡ Some kind → HasKind around (resolve_expr numbered view e) kind) →
      StandsAlone e →
      (fitted numbered.table view (record { kind = to; ident = ident }) e (judged numbered.table view e).kind).well ≡ true →
      SuitsParam around (param_cell ident (unwrap_or to (Fixed 31))) (handed ident (resolve_expr numbered view e))
  argument_suits e true to sound stands well = ident_suits (expr_place e) e to stands well
  argument_suits e false to sound stands well =
      value_suits around (expr_place e) (resolve_expr numbered view e) to (judged numbered.table view e).kind sound well

  no_arguments : (parameters : List Parameter) (more : Bool) → (0 == length parameters && more) ≡ true →
      Suit around (param_cells parameters) NoArguments
  no_arguments [] more well = tt
  no_arguments (parameter ∷ rest) more well =
      let same = eqb-true 0 (length (parameter ∷ rest)) (both (0 == length (parameter ∷ rest)) more well).0 in
      absurd (omega (arith, same))

  counted : (exprs : ShownExprs) → count (resolve_exprs numbered view exprs) ≡ length (judged_all numbered.table view exprs)
  counted NoExprs = refl
  counted (MoreExprs e rest) = let a = counted rest in omega (arith, a)

  mutual
    pub expr_sound : (e : ShownExpr) → HasLiterals numbered.table.lengths e → (kind : Kind) →
        (judged numbered.table view e).kind ≡ Some kind → HasKind around (resolve_expr numbered view e) kind
    expr_sound (OfOperand monadics part place) lits kind is =
        monadics_sound around monadics (judged_primary numbered.table view part) (resolve_primary numbered view part)
        (λ kind is. primary_sound part lits kind is) kind is
    expr_sound (OfDyadic left dyadic right place) lits kind is =
        let parts = dyadic_is dyadic (judged numbered.table view left).kind (judged numbered.table view right).kind kind is in
        (parts.0, parts.1, expr_sound left lits.0 parts.0 parts.2, expr_sound right lits.1 parts.1 parts.3, parts.4)

    primary_sound : (part : ShownPrimary) → PrimaryHasLiterals numbered.table.lengths part → (kind : Kind) →
        (judged_primary numbered.table view part).kind ≡ Some kind → HasKind around (resolve_primary numbered view part) kind
    primary_sound (OfLiteral part) lits kind is = lits kind is
    primary_sound (OfRef name selectors place) lits kind is =
        ref_sound name selectors (callee_of (sense_from numbered.table view (name_text name))) refl
        (along_sound name (control_of name) (variable_start name (sense_from numbered.table view (name_text name)))
        (walk_from (meant numbered view name)) selectors lits (starts_sound numbered view around lead name))
        (λ callee well. call_suits name callee selectors lits well) kind is
    primary_sound (OfGroup inner place) lits kind is = expr_sound inner lits kind is
    primary_sound (OfNow place) lits kind is = sym (some_one is)
    primary_sound (OfTry name place) lits kind is =
        let parts = try_is name (sense_from numbered.table view (name_text name)) kind is in (lead.semaphores name parts.0, parts.1)
    primary_sound (OfLimit dimension side name selectors ref_place place) lits kind is =
        limit_sound around (control_of name) name (dimension_of dimension) side (along numbered view (walk_from (meant numbered view name)) selectors)
        (walked name selectors).standing kind
        (along_sound name (control_of name) (variable_start name (sense_from numbered.table view (name_text name)))
        (walk_from (meant numbered view name)) selectors lits (starts_sound numbered view around lead name)) is

    stands_alone : (e : ShownExpr) → HasLiterals numbered.table.lengths e → StandsAlone e
    stands_alone (OfOperand [] (OfRef name selectors at) end) lits =
        along_sound name (control_of name) (variable_start name (sense_from numbered.table view (name_text name)))
        (walk_from (meant numbered view name)) selectors lits (starts_sound numbered view around lead name)
    stands_alone other lits = tt

    along_sound : (name : Name) (control : Bool) (before : Walked) (walk : Walk) (selectors : ShownSelectors) →
        SelectorsHaveLiterals numbered.table.lengths selectors → IsSoundAt around control before.standing walk →
        IsSoundAt around control (judging.along numbered.table view name before selectors).standing (along numbered view walk selectors)
    along_sound name control before walk NoSelectors lits stands = stands
    along_sound name control before walk (MoreSelectors selector rest) lits stands =
        along_sound name control (behind before.faults (judging.step numbered.table view name before.standing selector))
        (step numbered view walk selector) rest lits.1 (step_sound name control before.standing walk selector lits.0 stands)

    step_sound : (name : Name) (control : Bool) (standing : Standing) (walk : Walk) (selector : ShownSelector) →
        SelectorHasLiterals numbered.table.lengths selector → IsSoundAt around control standing walk →
        IsSoundAt around control (judging.step numbered.table view name standing selector).standing (step numbered view walk selector)
    step_sound name control Broken walk (OfSubscripts exprs place) lits stands = tt
    step_sound name control (Open dimensions shape) walk (OfSubscripts exprs place) lits stands =
        let parts = judged_all numbered.table view exprs in
        element_sound around control name.place rule.S17 (length parts == dimensions && all_fixed parts) (all_known parts) shape
        (step numbered view walk (OfSubscripts exprs place))
        (λ test known. let tests = both (length parts == dimensions) (all_fixed parts) test in
        subscripts_sound around control dimensions shape walk (resolve_exprs numbered view exprs) stands
        (counted exprs ∙ eqb-true (length parts) dimensions tests.0) (exprs_fixed exprs lits tests.1 known))
    step_sound name control Broken walk (OfComponent field place) lits stands = tt
    step_sound name control (Open zero shape) walk (OfComponent field place) lits stands = component_sound around control field walk shape stands
    step_sound name control (Open (suc n) shape) walk (OfComponent field place) lits stands = tt

    exprs_fixed : (exprs : ShownExprs) → HaveLiterals numbered.table.lengths exprs →
        all_fixed (judged_all numbered.table view exprs) ≡ true → all_known (judged_all numbered.table view exprs) ≡ true →
        AreAllFixed around (resolve_exprs numbered view exprs)
    exprs_fixed NoExprs lits fixed known = tt
    exprs_fixed (MoreExprs e rest) lits fixed known =
        let first = judged numbered.table view e in
        let others = judged_all numbered.table view rest in
        let fixeds = both (is_fixed_or_unknown first.kind) (all_fixed others) fixed in
        let knowns = both (is_some first.kind) (all_known others) known in
        let some = some_of first.kind knowns.0 in
        let one = fixed_is some.0 (subst (λ kind. is_fixed_or_unknown kind ≡ true) some.1 fixeds.0) in (
          (one.0, subst (λ kind. HasKind around (resolve_expr numbered view e) kind) one.1 (expr_sound e lits.0 some.0 some.1)),
          exprs_fixed rest lits.1 fixeds.1 knowns.1,
        )

    call_suits : (name : Name) (callee : Callee) (selectors : ShownSelectors) → SelectorsHaveLiterals numbered.table.lengths selectors →
        (applied numbered.table view name callee selectors).well ≡ true →
        Suit around (param_cells callee.parameters) (resolve_call numbered view callee.parameters selectors)
    call_suits name callee NoSelectors lits well = no_arguments callee.parameters (all_well []) well
    call_suits name callee (MoreSelectors selector rest) lits well =
        first_suits name callee selector lits.0
        (both (first_applied numbered.table view name callee selector).well (is_last rest) well).0

    first_suits : (name : Name) (callee : Callee) (selector : ShownSelector) → SelectorHasLiterals numbered.table.lengths selector →
        (first_applied numbered.table view name callee selector).well ≡ true →
        Suit around (param_cells callee.parameters) (first_arguments numbered view callee.parameters selector)
    first_suits name callee (OfSubscripts exprs place) lits well =
        let given = arguments numbered.table view callee.parameters exprs in
        let tests = both (length given == length callee.parameters) (all_well given) well in
        arguments_suit callee.parameters exprs lits (eqb-true (length given) (length callee.parameters) tests.0) tests.1
    first_suits name callee (OfComponent component place) lits well = absurd (true≢false (sym well))

    arguments_suit : (parameters : List Parameter) (exprs : ShownExprs) → HaveLiterals numbered.table.lengths exprs →
        length (arguments numbered.table view parameters exprs) ≡ length parameters →
        all_well (arguments numbered.table view parameters exprs) ≡ true →
        Suit around (param_cells parameters) (resolve_arguments numbered view parameters exprs)
    arguments_suit [] NoExprs lits same well = tt
    arguments_suit (parameter ∷ parameters) NoExprs lits same well = absurd (omega (arith, same))
    arguments_suit [] (MoreExprs e rest) lits same well = absurd (omega (arith, same))
    arguments_suit (parameter ∷ parameters) (MoreExprs e rest) lits same well =
        let wells = both (argument_of numbered.table view (Some parameter) e (judged numbered.table view e)).well
        (all_well (arguments numbered.table view parameters rest)) well in (
          argument_suits e parameter.ident parameter.kind (λ kind is. expr_sound e lits.0 kind is) (stands_alone e lits.0) wells.0,
          arguments_suit parameters rest lits.1 (omega (arith, same)) wells.1,
        )

  -- a reference by itself
  ref_stands : (name : Name) (selectors : ShownSelectors) → SelectorsHaveLiterals numbered.table.lengths selectors → Stands name selectors
  ref_stands name selectors lits =
      along_sound name (control_of name) (variable_start name (sense_from numbered.table view (name_text name)))
      (walk_from (meant numbered view name)) selectors lits (starts_sound numbered view around lead name)

  pub target_sound : (reference : ShownRef) → SelectorsHaveLiterals numbered.table.lengths reference.selectors →
      is_control (sense_from numbered.table view (name_text reference.name)) ≡ false → (kind : Kind) →
      (judged_variable numbered.table view reference).kind ≡ Some kind → IsVariable around (resolve_variable numbered view reference) kind
  target_sound reference lits free kind is =
      subst (λ control. Reads around control (resolve_variable numbered view reference) kind) free
      (reads_is around (control_of reference.name) reference.name (walked reference.name reference.selectors).standing
      (along numbered view (walk_from (meant numbered view reference.name)) reference.selectors) kind
      (ref_stands reference.name reference.selectors lits) is)

  pub call_sound : (name : Name) (callee : Callee) (exprs : ShownExprs) → HaveLiterals numbered.table.lengths exprs →
      callee_of (sense_from numbered.table view (name_text name)) ≡ Some callee →
      (called numbered.table view name callee exprs).well ≡ true →
      IsCall around (number_of numbered view name) (resolve_arguments numbered view callee.parameters exprs)
  call_sound name callee exprs lits found well =
      let given = arguments numbered.table view callee.parameters exprs in
      let tests = both (length given == length callee.parameters) (all_well given) well in
      let there = lead.procedures name callee.parameters callee.result
      (callee_is (sense_from numbered.table view (name_text name)) callee found) in (
        there.signature,
        there.there,
        subst (λ cells. Suit around cells (resolve_arguments numbered view callee.parameters exprs)) (sym there.params)
            (arguments_suit callee.parameters exprs lits (eqb-true (length given) (length callee.parameters) tests.0) tests.1),
      )

pub all_sound : (numbered : Numbered) (view : View) (around : Around) → LeadValues numbered view around →
    ((e : ShownExpr) → HasLiterals numbered.table.lengths e → (kind : Kind) →
    (judged numbered.table view e).kind ≡ Some kind → HasKind around (resolve_expr numbered view e) kind) ×
    ((reference : ShownRef) → SelectorsHaveLiterals numbered.table.lengths reference.selectors →
    is_control (sense_from numbered.table view (name_text reference.name)) ≡ false → (kind : Kind) →
    (judged_variable numbered.table view reference).kind ≡ Some kind → IsVariable around (resolve_variable numbered view reference) kind)
all_sound numbered view around lead = (expr_sound numbered view around lead, target_sound numbered view around lead)
