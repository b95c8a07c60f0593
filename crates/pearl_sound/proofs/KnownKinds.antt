-- Where no rule is broken in an expression and all its names are known, so is its kind.
use Rattle.std.specs.Prelude.{◌≡◌, ℕ, zero, ◌==◌, Bool, true, false, ◌&&◌, ◌||◌, not, nat_le, if◌then◌else◌, List, [], ◌∷◌, ◌++◌, length, Option, Some, None, is_some, is_none}
use Rattle.std.specs.Option.{option_and_then}
use Rattle.std.specs.List.{AllByRecursion}
use Rattle.std.proofs.Common.{refl, ap, ◌∙◌, sym, subst, arith, true≢false}
use Rattle.std.proofs.lemmas.Bool.{eqb-true}
use Rattle.std.proofs.lemmas.Option.{none-some}
use Rattle.pearl_value.specs.declared.kind.Kind.{Kind}
use Rattle.pearl_value.specs.declared.kind.Kind.TheVariants as kind
use Rattle.pearl_value.specs.Rows.{row1, row2}
use Rattle.pearl_tree.specs.declared.fault.RuleFault.{RuleFault}
use Rattle.pearl_tree.specs.declared.name.Name.{Name}
use Rattle.pearl_tree.specs.declared.expression.Monadic.{Monadic}
use Rattle.pearl_tree.specs.declared.expression.Dyadic.{Dyadic}
use Rattle.pearl_tree.specs.declared.rule.TheConstants as rule
use Rattle.pearl_tree.specs.Faults.{fault_if}
use Rattle.pearl_tree.specs.Names.{name_text}
use Rattle.pearl_tree.specs.ShownExpressions.{ShownExpr, OfOperand, OfDyadic, ShownPrimary, OfLiteral, OfRef, OfGroup, OfNow, OfTry, OfLimit, ShownSelectors, NoSelectors, MoreSelectors, ShownSelector, OfSubscripts, OfComponent, ShownExprs, NoExprs, MoreExprs, ShownRef}
use Rattle.pearl_names.specs.declared.scope.View.{View}
use Rattle.pearl_names.specs.Shapes.{Shape, OfKind, OfFields}
use Rattle.pearl_names.specs.Forms.{Component, component}
use Rattle.pearl_names.specs.Tables.{Parameter, Sense, Variable, Control, OwnParameter, Table, sense_from}
use Rattle.pearl_check_expr.specs.Senses.{Callee, callee_of, is_fixed, is_semaphore}
use Rattle.pearl_check_expr.specs.Standings.{Judged, faulty, Standing, Broken, Open, Walked, standing_of, start_at, variable_start, stopped, walked_on, behind, element_standing, element_of, all_fixed, all_known, faults_of, to_field, selected, value_of, as_value}
use Rattle.pearl_check_expr.specs.Judged.{result_of, monadic_result, with_monadics, dyadic_result, with_dyadic, try_judged, dimension_of, limit_of, limit_judged, misfits, differs, Argument, value_argument, no_variable, variable_argument, named_argument, ident_argument, plain_name, expr_place, fitted, argument_of, all_well, argument_faults, called_with, is_last, if_well, call_value, called_or, judged, judged_primary, along, step, judged_all, applied, first_applied, beyond, arguments, judged_variable}
use Rattle.pearl_sound.specs.KnownNames.{IsThereIn, HasKnownResult, IsComplete, IsNamed, HasNames, PrimaryHasNames, SelectorsHaveNames, SelectorHasNames, HaveNames}
use Rattle.pearl_sound.proofs.SimpleStatements.{left_none, right_none, not_broken}
use Rattle.pearl_sound.proofs.SoundParts.{some_one, callee_is}

pub one_fault : {X : Type 0} (fault : RuleFault) (rest : List RuleFault) → fault ∷ rest ≡ [] → X
one_fault fault rest none = let more = ap (λ (faults : List RuleFault). length faults) none in absurd (omega (arith, more))

-- operators
result_known : (place : ℕ) (row : Option Kind) → (result_of place row).faults ≡ [] → IsThereIn (result_of place row).kind
result_known place None none = one_fault _ [] none
result_known place (Some kind) none = (kind, refl)

monadics_known : (monadics : List Monadic) (operand : Judged) → (operand.faults ≡ [] → IsThereIn operand.kind) →
    (with_monadics monadics operand).faults ≡ [] → IsThereIn (with_monadics monadics operand).kind
monadics_known [] operand known none = known none
monadics_known (monadic ∷ rest) operand known none =
    let inner = with_monadics rest operand in
    let more = monadics_known rest operand known (left_none inner.faults (monadic_result monadic inner.kind).faults none) in
    subst (λ given. IsThereIn (monadic_result monadic given).kind) (sym more.1)
    (result_known monadic.place (row1 monadic.operator more.0)
    (subst (λ given. (monadic_result monadic given).faults ≡ []) more.1 (right_none inner.faults (monadic_result monadic inner.kind).faults none)))

dyadic_known : (dyadic : Dyadic) (left right : Judged) → (left.faults ≡ [] → IsThereIn left.kind) → (right.faults ≡ [] → IsThereIn right.kind) →
    (with_dyadic dyadic left right).faults ≡ [] → IsThereIn (with_dyadic dyadic left right).kind
dyadic_known dyadic left right first second none =
    let parts = left_none (left.faults ++ right.faults) (dyadic_result dyadic left.kind right.kind).faults none in
    let own = right_none (left.faults ++ right.faults) (dyadic_result dyadic left.kind right.kind).faults none in
    let one = first (left_none left.faults right.faults parts) in
    let two = second (right_none left.faults right.faults parts) in
    subst (λ given. IsThereIn (dyadic_result dyadic given right.kind).kind) (sym one.1)
    (subst (λ given. IsThereIn (dyadic_result dyadic (Some one.0) given).kind) (sym two.1)
    (result_known dyadic.place (row2 dyadic.operator one.0 two.0)
    (subst (λ given. (dyadic_result dyadic (Some one.0) given).faults ≡ []) two.1
    (subst (λ given. (dyadic_result dyadic given right.kind).faults ≡ []) one.1 own))))

try_known : (name : Name) (sense : Sense) → (try_judged name (Some sense)).faults ≡ [] → IsThereIn (try_judged name (Some sense)).kind
try_known name sense none = by (is_semaphore sense) none
  where
    by : (test : Bool) → (if test then record { kind = Some (kind.Bits 1); faults = [] } else faulty name.place rule.S16).faults ≡ [] →
        IsThereIn (if test then record { kind = Some (kind.Bits 1); faults = [] } else faulty name.place rule.S16).kind
    by true none = (kind.Bits 1, refl)
    by false none = one_fault _ [] none

-- references
abbrev IsOpen : Standing → Type 0
IsOpen Broken = ⊥
IsOpen (Open dimensions shape) = Unit {0}

start_open : (name : Name) (sense : Sense) → IsComplete sense → (start_at name (standing_of sense)).faults ≡ [] →
    IsOpen (start_at name (standing_of sense)).standing
start_open name (Variable None inv) complete none = absurd (none-some complete.0 complete.1)
start_open name (Variable (Some form) inv) complete none = tt
start_open name (Control of) complete none = tt
start_open name (OwnParameter parameter) complete none = by parameter.kind complete
  where
    by : (given : Option Kind) → IsThereIn given → IsOpen (start_at name (standing_of (OwnParameter (record { kind = given; ident = parameter.ident })))).standing
    by None there = absurd (none-some there.0 there.1)
    by (Some of) there = tt
start_open name sense complete none = one_fault _ [] none

element_open : (name : Name) (dimensions : ℕ) (shape : Shape) (parts : List Judged) → all_known parts ≡ true →
    (element_of name (Open dimensions shape) parts).faults ≡ [] → IsOpen (element_of name (Open dimensions shape) parts).standing
element_open name dimensions shape parts known none = by (length parts == dimensions && all_fixed parts) none
  where
    by : (test : Bool) → (if test then walked_on (element_standing (all_known parts) shape) [] else stopped name.place rule.S17).faults ≡ [] →
        IsOpen (if test then walked_on (element_standing (all_known parts) shape) [] else stopped name.place rule.S17).standing
    by true none = subst (λ all. IsOpen (element_standing all shape)) (sym known) tt
    by false none = one_fault _ [] none

field_open : (name : Name) (field : Option Component) → (to_field name field).faults ≡ [] → IsOpen (to_field name field).standing
field_open name None none = one_fault _ [] none
field_open name (Some field) none = tt

component_open : (name field : Name) (standing : Standing) → IsOpen standing → (selected name standing field).faults ≡ [] →
    IsOpen (selected name standing field).standing
component_open name field Broken opened none = absurd opened
component_open name field (Open zero (OfFields fields)) opened none = field_open field (component 0 0 fields (name_text field)) none
component_open name field other opened none = one_fault _ [] none

value_known : (name : Name) (standing : Standing) → IsOpen standing → (value_of name standing).faults ≡ [] → IsThereIn (value_of name standing).kind
value_known name Broken opened none = absurd opened
value_known name (Open zero (OfKind of)) opened none = (of, refl)
value_known name other opened none = one_fault _ [] none

limit_known : (name : Name) (dimension : ℕ) (standing : Standing) → IsOpen standing → (limit_of name dimension standing).faults ≡ [] →
    IsThereIn (limit_of name dimension standing).kind
limit_known name dimension Broken opened none = absurd opened
limit_known name dimension (Open dimensions shape) opened none = by (nat_le 1 dimension && nat_le dimension dimensions) none
  where
    by : (test : Bool) → (if test then record { kind = Some (kind.Fixed 31); faults = [] } else faulty name.place rule.S17).faults ≡ [] →
        IsThereIn (if test then record { kind = Some (kind.Fixed 31); faults = [] } else faulty name.place rule.S17).kind
    by true none = (kind.Fixed 31, refl)
    by false none = one_fault _ [] none

-- arguments
value_well : (place : ℕ) (to of : Kind) → (value_argument place (Some to) (Some of)).faults ≡ [] → (value_argument place (Some to) (Some of)).well ≡ true
value_well place to of none =
    ap not (not_broken (misfits (Some of) (Some to)) place rule.S20 none)

both_false : (a b : Bool) → (a || b) ≡ false → (not a && not b) ≡ true
both_false true b is = absurd (true≢false is)
both_false false b is = ap not is

variable_well : (place : ℕ) (fixed : Bool) (to of : Kind) → (variable_argument place fixed (Some to) (Some of)).faults ≡ [] →
    (variable_argument place fixed (Some to) (Some of)).well ≡ true
variable_well place true to of none = one_fault _ [] none
variable_well place false to of none = ap not (not_broken (differs (Some of) (Some to)) place rule.S21 none)

named_well : (place : ℕ) (to of : Kind) (sense : Option Sense) → (named_argument place (Some to) (Some of) sense).faults ≡ [] →
    (named_argument place (Some to) (Some of) sense).well ≡ true
named_well place to of sense none = by (is_some (callee_of sense)) none
  where
    by : (test : Bool) → (if test then no_variable place else variable_argument place (is_fixed sense) (Some to) (Some of)).faults ≡ [] →
        (if test then no_variable place else variable_argument place (is_fixed sense) (Some to) (Some of)).well ≡ true
    by true none = one_fault _ [] none
    by false none = variable_well place (is_fixed sense) to of none

ident_well : (table : Table) (view : View) (place : ℕ) (to of : Kind) (name : Option Name) → (ident_argument table view place (Some to) (Some of) name).faults ≡ [] →
    (ident_argument table view place (Some to) (Some of) name).well ≡ true
ident_well table view place to of None none = one_fault _ [] none
ident_well table view place to of (Some name) none = named_well place to of (sense_from table view (name_text name)) none

fitted_well : (table : Table) (view : View) (ident : Bool) (to of : Kind) (e : ShownExpr) →
    (fitted table view (record { kind = Some to; ident = ident }) e (Some of)).faults ≡ [] →
    (fitted table view (record { kind = Some to; ident = ident }) e (Some of)).well ≡ true
fitted_well table view true to of e none = ident_well table view (expr_place e) to of (plain_name e) none
fitted_well table view false to of e none = value_well (expr_place e) to of none

argument_well : (table : Table) (view : View) (parameter : Parameter) (e : ShownExpr) (value : Judged) → IsThereIn parameter.kind →
    (value.faults ≡ [] → IsThereIn value.kind) → (argument_of table view (Some parameter) e value).faults ≡ [] →
    (argument_of table view (Some parameter) e value).well ≡ true
argument_well table view parameter e value to known none =
    let of = known (left_none value.faults (fitted table view parameter e value.kind).faults none) in
    let own = right_none value.faults (fitted table view parameter e value.kind).faults none in
    by parameter.kind value.kind to.0 of.0 to.1 of.1 own
  where
    by : (given found : Option Kind) (to of : Kind) → given ≡ Some to → found ≡ Some of →
        (fitted table view (record { kind = given; ident = parameter.ident }) e found).faults ≡ [] →
        (fitted table view (record { kind = given; ident = parameter.ident }) e found).well ≡ true
    by None found to of is has none = absurd (none-some to is)
    by (Some given) None to of is has none = absurd (none-some of has)
    by (Some given) (Some found) to of is has none = fitted_well table view parameter.ident given found e none

counted_well : (same well : Bool) (place of : ℕ) (faults : List RuleFault) → fault_if (not same) place of ++ faults ≡ [] →
    (same ≡ true → faults ≡ [] → well ≡ true) → (same && well) ≡ true
counted_well true well place of faults none more = more refl none
counted_well false well place of faults none more = one_fault _ faults none

last_well : (first last : Bool) → first ≡ true → last ≡ true → (first && last) ≡ true
last_well true last is has = has
last_well false last is has = absurd (true≢false (sym is))

-- a call in which no rule is broken has the kind of its result
call_known : (name : Name) (callee : Callee) (call : Argument) → HasKnownResult callee.result → (call.faults ≡ [] → call.well ≡ true) →
    (call_value name callee call).faults ≡ [] → IsThereIn (call_value name callee call).kind
call_known name callee call complete well none =
    by callee.result complete none
  where
    by : (result : Option (Option Kind)) → HasKnownResult result → fault_if (is_none result) name.place rule.S22 ++ call.faults ≡ [] →
        IsThereIn (if_well call.well (option_and_then (λ given. given) result))
    by None complete none = one_fault _ call.faults none
    by (Some result) complete none =
        (complete.0, ap (λ w. if_well w result) (well none) ∙ complete.1)

module _ (table : Table) (view : View) where
  along_prefix : (name : Name) (before : Walked) (selectors : ShownSelectors) → (along table view name before selectors).faults ≡ [] → before.faults ≡ []
  along_prefix name before NoSelectors none = none
  along_prefix name before (MoreSelectors selector rest) none =
      left_none before.faults (step table view name before.standing selector).faults
      (along_prefix name (behind before.faults (step table view name before.standing selector)) rest none)

  beyond_none : (name : Name) (rest : ShownSelectors) → beyond table view name rest ≡ [] → is_last rest ≡ true
  beyond_none name NoSelectors none = refl
  beyond_none name (MoreSelectors (OfSubscripts exprs place) rest) none = one_fault _ _ none
  beyond_none name (MoreSelectors (OfComponent field place) rest) none = one_fault _ _ none

  ref_known : (name : Name) (selectors : ShownSelectors) (found : Option Sense) (given : Option Callee) → callee_of found ≡ given →
      (sense : Sense) → found ≡ Some sense → IsComplete sense →
      ((before : Walked) → IsOpen before.standing → (along table view name before selectors).faults ≡ [] → IsOpen (along table view name before selectors).standing) →
      ((callee : Callee) → AllByRecursion (λ (parameter : Parameter). IsThereIn parameter.kind) callee.parameters →
      (applied table view name callee selectors).faults ≡ [] → (applied table view name callee selectors).well ≡ true) →
      (called_or given (λ callee. call_value name callee (applied table view name callee selectors))
      (as_value name (along table view name (variable_start name found) selectors))).faults ≡ [] →
      IsThereIn (called_or given (λ callee. call_value name callee (applied table view name callee selectors))
      (as_value name (along table view name (variable_start name found) selectors))).kind
  ref_known name selectors found None here sense is complete opened well none =
      let walked = along table view name (variable_start name found) selectors in
      let way = left_none walked.faults (value_of name walked.standing).faults none in
      value_known name walked.standing
      (opened (variable_start name found) (subst (λ s. IsOpen (variable_start name s).standing) (sym is)
      (start_open name sense complete (subst (λ s. (variable_start name s).faults ≡ []) is (along_prefix name (variable_start name found) selectors way)))) way)
      (right_none walked.faults (value_of name walked.standing).faults none)
  ref_known name selectors found (Some callee) here sense is complete opened well none =
      let parts = subst IsComplete (some_one (sym is ∙ callee_is found callee here)) complete in
      call_known name callee (applied table view name callee selectors) parts.1 (λ none. well callee parts.0 none) none

  limit_by : (name : Name) (dimension : ℕ) (walked : Walked) → (walked.faults ≡ [] → IsOpen walked.standing) →
      (limit_judged name dimension walked).faults ≡ [] → IsThereIn (limit_judged name dimension walked).kind
  limit_by name dimension walked opened none =
      limit_known name dimension walked.standing (opened (left_none walked.faults (limit_of name dimension walked.standing).faults none))
      (right_none walked.faults (limit_of name dimension walked.standing).faults none)

  variable_by : (name : Name) (selectors : ShownSelectors) → IsNamed table view name →
      ((before : Walked) → IsOpen before.standing → (along table view name before selectors).faults ≡ [] → IsOpen (along table view name before selectors).standing) →
      (along table view name (variable_start name (sense_from table view (name_text name))) selectors).faults ≡ [] →
      IsOpen (along table view name (variable_start name (sense_from table view (name_text name))) selectors).standing
  variable_by name selectors named opened none =
      opened (variable_start name (sense_from table view (name_text name)))
      (subst (λ found. IsOpen (variable_start name found).standing) (sym named.1)
      (start_open name named.0 named.2 (subst (λ found. (variable_start name found).faults ≡ []) named.1
      (along_prefix name (variable_start name (sense_from table view (name_text name))) selectors none)))) none

  mutual
    pub expr_known : (e : ShownExpr) → HasNames table view e → (judged table view e).faults ≡ [] → IsThereIn (judged table view e).kind
    expr_known (OfOperand monadics part place) names none =
        monadics_known monadics (judged_primary table view part) (λ none. primary_known part names none) none
    expr_known (OfDyadic left dyadic right place) names none =
        dyadic_known dyadic (judged table view left) (judged table view right) (λ none. expr_known left names.0 none)
        (λ none. expr_known right names.1 none) none

    primary_known : (part : ShownPrimary) → PrimaryHasNames table view part → (judged_primary table view part).faults ≡ [] →
        IsThereIn (judged_primary table view part).kind
    primary_known (OfLiteral part) names none = names
    primary_known (OfRef name selectors place) names none =
        ref_known name selectors (sense_from table view (name_text name)) (callee_of (sense_from table view (name_text name))) refl
        names.0.0 names.0.1 names.0.2 (λ before opened none. along_open name before selectors names.1 opened none)
        (λ callee known none. applied_well name callee selectors known names.1 none) none
    primary_known (OfGroup inner place) names none = expr_known inner names none
    primary_known (OfNow place) names none = (kind.Clock, refl)
    primary_known (OfTry name place) names none =
        subst (λ found. IsThereIn (try_judged name found).kind) (sym names.1)
        (try_known name names.0 (subst (λ found. (try_judged name found).faults ≡ []) names.1 none))
    primary_known (OfLimit dimension side name selectors ref_place place) names none =
        limit_by name (dimension_of dimension) (along table view name (variable_start name (sense_from table view (name_text name))) selectors)
        (λ none. variable_by name selectors names.0 (λ before opened none. along_open name before selectors names.1 opened none) none) none

    along_open : (name : Name) (before : Walked) (selectors : ShownSelectors) → SelectorsHaveNames table view selectors → IsOpen before.standing →
        (along table view name before selectors).faults ≡ [] → IsOpen (along table view name before selectors).standing
    along_open name before NoSelectors names opened none = opened
    along_open name before (MoreSelectors selector rest) names opened none =
        let next = step table view name before.standing selector in
        along_open name (behind before.faults next) rest names.1
        (step_open name before.standing selector names.0 opened
        (right_none before.faults next.faults (along_prefix name (behind before.faults next) rest none))) none

    step_open : (name : Name) (standing : Standing) (selector : ShownSelector) → SelectorHasNames table view selector → IsOpen standing →
        (step table view name standing selector).faults ≡ [] → IsOpen (step table view name standing selector).standing
    step_open name Broken (OfSubscripts exprs place) names opened none = absurd opened
    step_open name (Open dimensions shape) (OfSubscripts exprs place) names opened none =
        let parts = judged_all table view exprs in
        element_open name dimensions shape parts (exprs_known exprs names (left_none (faults_of parts) (element_of name (Open dimensions shape) parts).faults none))
        (right_none (faults_of parts) (element_of name (Open dimensions shape) parts).faults none)
    step_open name standing (OfComponent field place) names opened none = component_open name field standing opened none

    exprs_known : (exprs : ShownExprs) → HaveNames table view exprs → faults_of (judged_all table view exprs) ≡ [] →
        all_known (judged_all table view exprs) ≡ true
    exprs_known NoExprs names none = refl
    exprs_known (MoreExprs e rest) names none =
        let first = judged table view e in
        let others = faults_of (judged_all table view rest) in
        let known = expr_known e names.0 (left_none first.faults others none) in
        last_well (is_some first.kind) (all_known (judged_all table view rest)) (ap is_some known.1) (exprs_known rest names.1 (right_none first.faults others none))

    applied_well : (name : Name) (callee : Callee) (selectors : ShownSelectors) → AllByRecursion (λ (parameter : Parameter). IsThereIn parameter.kind) callee.parameters →
        SelectorsHaveNames table view selectors → (applied table view name callee selectors).faults ≡ [] → (applied table view name callee selectors).well ≡ true
    applied_well name callee NoSelectors known names none =
        counted_well (0 == length callee.parameters) true name.place rule.S20 [] none (λ same none. refl)
    applied_well name callee (MoreSelectors selector rest) known names none =
        let first = first_applied table view name callee selector in
        last_well first.well (is_last rest)
        (first_well name callee selector known names.0 (left_none first.faults (beyond table view name rest) none))
        (beyond_none name rest (right_none first.faults (beyond table view name rest) none))

    pub first_well : (name : Name) (callee : Callee) (selector : ShownSelector) → AllByRecursion (λ (parameter : Parameter). IsThereIn parameter.kind) callee.parameters →
        SelectorHasNames table view selector → (first_applied table view name callee selector).faults ≡ [] →
        (first_applied table view name callee selector).well ≡ true
    first_well name callee (OfSubscripts exprs place) known names none =
        let given = arguments table view callee.parameters exprs in
        counted_well (length given == length callee.parameters) (all_well given) name.place rule.S20 (argument_faults given) none
        (λ same none. arguments_well callee.parameters exprs known names (eqb-true (length given) (length callee.parameters) same) none)
    first_well name callee (OfComponent field place) known names none =
        one_fault _ [] (right_none (called_with name callee []).faults _ none)

    arguments_well : (parameters : List Parameter) (exprs : ShownExprs) → AllByRecursion (λ (parameter : Parameter). IsThereIn parameter.kind) parameters →
        HaveNames table view exprs → length (arguments table view parameters exprs) ≡ length parameters →
        argument_faults (arguments table view parameters exprs) ≡ [] → all_well (arguments table view parameters exprs) ≡ true
    arguments_well parameters NoExprs known names same none = refl
    arguments_well [] (MoreExprs e rest) known names same none = absurd (omega (arith, same))
    arguments_well (parameter ∷ parameters) (MoreExprs e rest) known names same none =
        let first = argument_of table view (Some parameter) e (judged table view e) in
        let others = arguments table view parameters rest in
        last_well first.well (all_well others)
        (argument_well table view parameter e (judged table view e) known.0 (λ none. expr_known e names.0 none) (left_none first.faults (argument_faults others) none))
        (arguments_well parameters rest known.1 names.1 (omega (arith, same)) (right_none first.faults (argument_faults others) none))

  pub target_known : (reference : ShownRef) → IsNamed table view reference.name → SelectorsHaveNames table view reference.selectors →
      (judged_variable table view reference).faults ≡ [] → IsThereIn (judged_variable table view reference).kind
  target_known reference named names none =
      let walked = along table view reference.name (variable_start reference.name (sense_from table view (name_text reference.name))) reference.selectors in
      let way = left_none walked.faults (value_of reference.name walked.standing).faults none in
      value_known reference.name walked.standing (variable_by reference.name reference.selectors named
      (λ before opened none. along_open reference.name before reference.selectors names opened none) way)
      (right_none walked.faults (value_of reference.name walked.standing).faults none)

pub kinds_known : (table : Table) (view : View) →
    ((e : ShownExpr) → HasNames table view e → (judged table view e).faults ≡ [] → IsThereIn (judged table view e).kind) ×
    ((reference : ShownRef) → IsNamed table view reference.name → SelectorsHaveNames table view reference.selectors →
    (judged_variable table view reference).faults ≡ [] → IsThereIn (judged_variable table view reference).kind)
kinds_known table view = (expr_known table view, target_known table view)
