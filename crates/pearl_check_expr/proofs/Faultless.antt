-- What has a kind has no fault: part by part.
use Rattle.std.proofs.Common.{◌≡◌, ℕ, zero, suc, ◌==◌, ◌&&◌, ◌||◌, not, cond, nat_le, Bool, true, false, List, [], ◌∷◌, ◌++◌, length, Option, Some, None, is_some, is_none, refl, sym, ap, ◌∙◌, append-nil, ◌⊎◌, inl, inr, true≢false}
use Rattle.std.proofs.lemmas.Option.{none-some}
use Rattle.std.specs.Option.{option_and_then}
use Rattle.pearl_value.specs.declared.kind.Kind.{Kind}
use Rattle.pearl_value.specs.declared.kind.Kind.TheVariants as kind
use Rattle.pearl_value.specs.Rows.{row1, row2}
use Rattle.pearl_tree.specs.declared.fault.RuleFault.{RuleFault}
use Rattle.pearl_tree.specs.declared.name.Name.{Name}
use Rattle.pearl_tree.specs.declared.expression.Monadic.{Monadic}
use Rattle.pearl_tree.specs.declared.expression.Dyadic.{Dyadic}
use Rattle.pearl_tree.specs.Faults.{fault_if}
use Rattle.pearl_tree.specs.Names.{name_text}
use Rattle.pearl_tree.specs.ShownExpressions.{ShownExpr, OfOperand, OfDyadic, ShownPrimary, OfLiteral, OfRef, OfGroup, OfNow, OfTry, OfLimit, ShownSelectors, NoSelectors, MoreSelectors, ShownSelector, OfSubscripts, OfComponent, ShownExprs, NoExprs, MoreExprs}
use Rattle.pearl_names.specs.declared.scope.View.{View}
use Rattle.pearl_names.specs.declared.scope.View.TheVariants.{Within, WhileOf}
use Rattle.pearl_names.specs.Shapes.{OfKind, OfFields}
use Rattle.pearl_names.specs.Forms.{Component, component}
use Rattle.pearl_names.specs.Tables.{Parameter, Sense, Table, sense_from}
use Rattle.pearl_check_expr.specs.Senses.{Callee, callee_of, is_fixed, is_semaphore}
use Rattle.pearl_check_expr.specs.Standings.{Judged, faulty, judged_behind, Standing, Broken, Open, Walked, stopped, walked_on, behind, standing_of, start_at, variable_start, faults_of, all_fixed, all_known, element_standing, subscripted, to_field, selected, as_value}
use Rattle.pearl_check_expr.specs.Judged.{result_of, monadic_result, with_monadic, with_monadics, dyadic_result, with_dyadic, try_judged, limit_judged, misfits, differs, Argument, value_argument, no_variable, variable_argument, named_argument, plain_name, ident_argument, expr_place, fitted, argument_of, all_well, argument_faults, called_with, applied_on, if_well, result_kind, call_value, is_last, called_or, judged, judged_primary, along, step, judged_all, applied, first_applied, beyond, arguments, called}
use Rattle.pearl_check_expr.specs.Subjects.{ShownSubject, OfValue, OfWhile, OfTarget, OfCallStatement, called_or_not, subject_judged}
use Rattle.pearl_check_expr.specs.Laws.{HasNoFault}

abbrev IsSafe : Argument → Type 0
IsSafe argument = argument.well ≡ true → argument.faults ≡ []

-- a rule was broken on the way, or none was
abbrev Reaches : Walked → Type 0
Reaches walked = (walked.standing ≡ Broken) ⊎ (walked.faults ≡ [])

abbrev AllFaultless : List Judged → Type 0
AllFaultless [] = Unit {0}
AllFaultless (part ∷ parts) = HasNoFault part × AllFaultless parts

abbrev AllSafe : List Argument → Type 0
AllSafe [] = Unit {0}
AllSafe (argument ∷ rest) = IsSafe argument × AllSafe rest

both_empty : {X : Type 0} (a b : List X) → a ≡ [] → b ≡ [] → a ++ b ≡ []
both_empty a b e f = λ i. e i ++ f i

result_well : (place : ℕ) (row : Option Kind) → HasNoFault (result_of place row)
result_well place None = λ kind e. absurd (none-some kind e)
result_well place (Some of) = λ kind e. refl

monadic_well : (monadic : Monadic) (operand : Judged) → HasNoFault operand → HasNoFault (with_monadic monadic operand)
monadic_well monadic operand = by operand.kind operand.faults
  where
    by : (of : Option Kind) (faults : List RuleFault) → HasNoFault (record { kind = of; faults = faults }) →
        HasNoFault (judged_behind faults (monadic_result monadic of))
    by None faults well = λ kind e. absurd (none-some kind e)
    by (Some of) faults well = λ kind e. both_empty faults _ (well of refl) (result_well monadic.place (row1 monadic.operator of) kind e)

monadics_well : (monadics : List Monadic) (operand : Judged) → HasNoFault operand → HasNoFault (with_monadics monadics operand)
monadics_well [] operand well = well
monadics_well (monadic ∷ rest) operand well = monadic_well monadic (with_monadics rest operand) (monadics_well rest operand well)

dyadic_well : (dyadic : Dyadic) (left right : Judged) → HasNoFault left → HasNoFault right → HasNoFault (with_dyadic dyadic left right)
dyadic_well dyadic left right = by left.kind right.kind left.faults right.faults
  where
    by : (a b : Option Kind) (before behind : List RuleFault) → HasNoFault (record { kind = a; faults = before }) → HasNoFault (record { kind = b; faults = behind }) →
        HasNoFault (judged_behind (before ++ behind) (dyadic_result dyadic a b))
    by None b before behind first second = λ kind e. absurd (none-some kind e)
    by (Some a) None before behind first second = λ kind e. absurd (none-some kind e)
    by (Some a) (Some b) before behind first second = λ kind e.
        both_empty (before ++ behind) _ (both_empty before behind (first a refl) (second b refl)) (result_well dyadic.place (row2 dyadic.operator a b) kind e)

try_well : (name : Name) (sense : Option Sense) → HasNoFault (try_judged name sense)
try_well name None = λ kind e. refl
try_well name (Some sense) = by (is_semaphore sense)
  where
    by : (b : Bool) → HasNoFault (cond b (record { kind = Some (kind.Bits 1); faults = [] }) (faulty name.place 16))
    by true = λ kind e. refl
    by false = λ kind e. absurd (none-some kind e)

limit_well : (name : Name) (dimension : ℕ) (walked : Walked) → Reaches walked → HasNoFault (limit_judged name dimension walked)
limit_well name dimension walked = by walked.standing walked.faults
  where
    within : (b : Bool) (faults : List RuleFault) → faults ≡ [] →
        HasNoFault (judged_behind faults (cond b (record { kind = Some (kind.Fixed 31); faults = [] }) (faulty name.place 17)))
    within true faults none = λ kind e. both_empty faults [] none refl
    within false faults none = λ kind e. absurd (none-some kind e)

    by : (standing : Standing) (faults : List RuleFault) → Reaches (walked_on standing faults) → HasNoFault (limit_judged name dimension (walked_on standing faults))
    by Broken faults reaches = λ kind e. absurd (none-some kind e)
    by (Open dimensions shape) faults (inl e) = cc
    by (Open dimensions shape) faults (inr e) = within (nat_le 1 dimension && nat_le dimension dimensions) faults e

value_well : (name : Name) (walked : Walked) → Reaches walked → HasNoFault (as_value name walked)
value_well name walked = by walked.standing walked.faults
  where
    by : (standing : Standing) (faults : List RuleFault) → Reaches (walked_on standing faults) → HasNoFault (as_value name (walked_on standing faults))
    by Broken faults reaches = λ kind e. absurd (none-some kind e)
    by (Open zero (OfKind of)) faults (inl e) = cc
    by (Open zero (OfKind of)) faults (inr e) = λ kind k. both_empty faults [] e refl
    by (Open zero (OfFields fields)) faults reaches = λ kind e. absurd (none-some kind e)
    by (Open (suc n) shape) faults reaches = λ kind e. absurd (none-some kind e)

start_reaches : (name : Name) (sense : Option Sense) → Reaches (variable_start name sense)
start_reaches name None = inl refl
start_reaches name (Some sense) = by (standing_of sense)
  where
    by : (standing : Option Standing) → Reaches (start_at name standing)
    by None = inl refl
    by (Some standing) = inr refl

known_empty : (parts : List Judged) → AllFaultless parts → all_known parts ≡ true → faults_of parts ≡ []
known_empty [] well e = refl
known_empty (part ∷ parts) well e = by part.kind part.faults (known_empty parts well.1) well.0 e
  where
    by : (of : Option Kind) (faults : List RuleFault) → (all_known parts ≡ true → faults_of parts ≡ []) → HasNoFault (record { kind = of; faults = faults }) →
        is_some of && all_known parts ≡ true → faults ++ faults_of parts ≡ []
    by None faults rest first e = absurd (true≢false (sym e))
    by (Some of) faults rest first e = both_empty faults _ (first of refl) (rest e)

element_reaches : (name : Name) (from : Standing) (parts : List Judged) → AllFaultless parts → Reaches (subscripted name from parts)
element_reaches name Broken parts well = inl refl
element_reaches name (Open dimensions shape) parts well = by ((length parts == dimensions) && all_fixed parts)
  where
    known : (k : Bool) → all_known parts ≡ k → Reaches (walked_on (element_standing k shape) (faults_of parts ++ []))
    known false e = inl refl
    known true e = inr (append-nil _ ∙ known_empty parts well e)

    by : (b : Bool) → Reaches (behind (faults_of parts) (cond b (walked_on (element_standing (all_known parts) shape) []) (stopped name.place 17)))
    by false = inl refl
    by true = known (all_known parts) refl

selected_reaches : (name : Name) (from : Standing) (to : Name) → Reaches (selected name from to)
selected_reaches name Broken to = inl refl
selected_reaches name (Open zero (OfKind of)) to = inl refl
selected_reaches name (Open zero (OfFields fields)) to = by (component 0 0 fields (name_text to))
  where
    by : (found : Option Component) → Reaches (to_field to found)
    by None = inl refl
    by (Some field) = inr refl
selected_reaches name (Open (suc n) shape) to = inl refl

broken_step : (table : Table) (view : View) (name : Name) (selector : ShownSelector) → (step table view name Broken selector).standing ≡ Broken
broken_step table view name (OfSubscripts subscripts place) = refl
broken_step table view name (OfComponent to place) = refl

step_behind : (table : Table) (view : View) (name : Name) (selector : ShownSelector) (before : Walked) → Reaches before →
    Reaches (step table view name before.standing selector) → Reaches (behind before.faults (step table view name before.standing selector))
step_behind table view name selector before (inl e) reaches =
    inl (ap (λ standing. (step table view name standing selector).standing) e ∙ broken_step table view name selector)
step_behind table view name selector before (inr e) (inl broken) = inl broken
step_behind table view name selector before (inr e) (inr none) = inr (both_empty before.faults _ e none)

value_fits : (place : ℕ) (to value : Option Kind) → (value_argument place to value).well ≡ true →
    (is_some value ≡ true) × ((value_argument place to value).faults ≡ [])
value_fits place to value = by (is_some value) (is_some to) (misfits value to)
  where
    by : (v t m : Bool) → v && t && not m ≡ true → (v ≡ true) × (fault_if m place 20 ≡ [])
    by false t m e = absurd (true≢false (sym e))
    by true false m e = absurd (true≢false (sym e))
    by true true true e = absurd (true≢false (sym e))
    by true true false e = (refl, refl)

variable_fits : (place : ℕ) (fixed : Bool) (to value : Option Kind) → (variable_argument place fixed to value).well ≡ true →
    (is_some value ≡ true) × ((variable_argument place fixed to value).faults ≡ [])
variable_fits place fixed to value = by fixed (is_some value) (is_some to) (differs value to)
  where
    by : (f v t d : Bool) → not f && v && t && not d ≡ true → (v ≡ true) × (fault_if (f || d) place 21 ≡ [])
    by true v t d e = absurd (true≢false (sym e))
    by false false t d e = absurd (true≢false (sym e))
    by false true false d e = absurd (true≢false (sym e))
    by false true true true e = absurd (true≢false (sym e))
    by false true true false e = (refl, refl)

named_fits : (place : ℕ) (to value : Option Kind) (sense : Option Sense) → (named_argument place to value sense).well ≡ true →
    (is_some value ≡ true) × ((named_argument place to value sense).faults ≡ [])
named_fits place to value sense = by (is_some (callee_of sense))
  where
    by : (b : Bool) → (cond b (no_variable place) (variable_argument place (is_fixed sense) to value)).well ≡ true →
        (is_some value ≡ true) × ((cond b (no_variable place) (variable_argument place (is_fixed sense) to value)).faults ≡ [])
    by true e = absurd (true≢false (sym e))
    by false e = variable_fits place (is_fixed sense) to value e

ident_fits : (table : Table) (view : View) (place : ℕ) (to value : Option Kind) (name : Option Name) → (ident_argument table view place to value name).well ≡ true →
    (is_some value ≡ true) × ((ident_argument table view place to value name).faults ≡ [])
ident_fits table view place to value None e = absurd (true≢false (sym e))
ident_fits table view place to value (Some name) e = named_fits place to value (sense_from table view (name_text name)) e

fitted_well : (table : Table) (view : View) (parameter : Parameter) (expr : ShownExpr) (value : Option Kind) → (fitted table view parameter expr value).well ≡ true →
    (is_some value ≡ true) × ((fitted table view parameter expr value).faults ≡ [])
fitted_well table view parameter expr value = by parameter.ident
  where
    both : Bool → Argument
    both b = cond b (ident_argument table view (expr_place expr) parameter.kind value (plain_name expr)) (value_argument (expr_place expr) parameter.kind value)

    by : (b : Bool) → (both b).well ≡ true → (is_some value ≡ true) × ((both b).faults ≡ [])
    by true e = ident_fits table view (expr_place expr) parameter.kind value (plain_name expr) e
    by false e = value_fits (expr_place expr) parameter.kind value e

some_empty : (part : Judged) → HasNoFault part → is_some part.kind ≡ true → part.faults ≡ []
some_empty part = by part.kind part.faults
  where
    by : (of : Option Kind) (faults : List RuleFault) → HasNoFault (record { kind = of; faults = faults }) → is_some of ≡ true → faults ≡ []
    by None faults well e = absurd (true≢false (sym e))
    by (Some of) faults well e = well of refl

argument_safe : (table : Table) (view : View) (parameter : Option Parameter) (expr : ShownExpr) (value : Judged) → HasNoFault value →
    IsSafe (argument_of table view parameter expr value)
argument_safe table view None expr value well = λ e. absurd (true≢false (sym e))
argument_safe table view (Some parameter) expr value well = λ e.
    let fits = fitted_well table view parameter expr value.kind e in
    both_empty value.faults _ (some_empty value well fits.0) fits.1

arguments_empty : (arguments : List Argument) → AllSafe arguments → all_well arguments ≡ true → argument_faults arguments ≡ []
arguments_empty [] safe e = refl
arguments_empty (argument ∷ rest) safe e = by argument.well argument.faults (arguments_empty rest safe.1) safe.0 e
  where
    by : (w : Bool) (faults : List RuleFault) → (all_well rest ≡ true → argument_faults rest ≡ []) → (w ≡ true → faults ≡ []) →
        w && all_well rest ≡ true → faults ++ argument_faults rest ≡ []
    by true faults others first e = both_empty faults _ (first refl) (others e)
    by false faults others first e = absurd (true≢false (sym e))

called_safe : (name : Name) (callee : Callee) (arguments : List Argument) → AllSafe arguments → IsSafe (called_with name callee arguments)
called_safe name callee arguments safe = by (length arguments == length callee.parameters)
  where
    by : (b : Bool) → b && all_well arguments ≡ true → fault_if (not b) name.place 20 ++ argument_faults arguments ≡ []
    by true e = arguments_empty arguments safe e
    by false e = absurd (true≢false (sym e))

applied_on_safe : (first : Argument) (last : Bool) (beyond : List RuleFault) → IsSafe first → (last ≡ true → beyond ≡ []) → IsSafe (applied_on first last beyond)
applied_on_safe first last beyond = by first.well last first.faults
  where
    by : (w l : Bool) (faults : List RuleFault) → (w ≡ true → faults ≡ []) → (l ≡ true → beyond ≡ []) → w && l ≡ true → faults ++ beyond ≡ []
    by true true faults safe rest e = both_empty faults beyond (safe refl) (rest refl)
    by true false faults safe rest e = absurd (true≢false (sym e))
    by false l faults safe rest e = absurd (true≢false (sym e))

last_beyond : (table : Table) (view : View) (name : Name) (selectors : ShownSelectors) → is_last selectors ≡ true → beyond table view name selectors ≡ []
last_beyond table view name NoSelectors e = refl
last_beyond table view name (MoreSelectors selector rest) e = absurd (true≢false (sym e))

well_result : (w : Bool) (faults : List RuleFault) (result : Option Kind) → (w ≡ true → faults ≡ []) → HasNoFault (record { kind = if_well w result; faults = faults })
well_result true faults result safe = λ kind e. safe refl
well_result false faults result safe = λ kind e. absurd (none-some kind e)

call_well : (name : Name) (callee : Callee) (call : Argument) → IsSafe call → HasNoFault (call_value name callee call)
call_well name callee call = by call.well call.faults callee.result
  where
    by : (w : Bool) (faults : List RuleFault) (result : Option (Option Kind)) → (w ≡ true → faults ≡ []) →
        HasNoFault (record { kind = if_well w (option_and_then (λ r. r) result); faults = fault_if (is_none result) name.place 22 ++ faults })
    by true faults None safe = λ kind e. absurd (none-some kind e)
    by true faults (Some result) safe = λ kind e. safe refl
    by false faults result safe = λ kind e. absurd (none-some kind e)

called_or_well : (callee : Option Callee) (called : Callee → Judged) (value : Judged) → ((callee : Callee) → HasNoFault (called callee)) → HasNoFault value →
    HasNoFault (called_or callee called value)
called_or_well None called value call other = other
called_or_well (Some callee) called value call other = call callee

mutual
  judged_well : (table : Table) (view : View) (expr : ShownExpr) → HasNoFault (judged table view expr)
  judged_well table view (OfOperand monadics part place) = monadics_well monadics (judged_primary table view part) (primary_well table view part)
  judged_well table view (OfDyadic left dyadic right place) =
      dyadic_well dyadic (judged table view left) (judged table view right) (judged_well table view left) (judged_well table view right)

  primary_well : (table : Table) (view : View) (part : ShownPrimary) → HasNoFault (judged_primary table view part)
  primary_well table view (OfLiteral part) = λ kind e. refl
  primary_well table view (OfRef name selectors place) =
      called_or_well (callee_of (sense_from table view (name_text name))) (λ callee. call_value name callee (applied table view name callee selectors))
      (as_value name (along table view name (variable_start name (sense_from table view (name_text name))) selectors))
      (λ callee. call_well name callee (applied table view name callee selectors) (applied_safe table view name callee selectors))
      (value_well name (along table view name (variable_start name (sense_from table view (name_text name))) selectors)
      (along_reaches table view name (variable_start name (sense_from table view (name_text name))) selectors (start_reaches name (sense_from table view (name_text name)))))
  primary_well table view (OfGroup inner place) = judged_well table view inner
  primary_well table view (OfNow place) = λ kind e. refl
  primary_well table view (OfTry name place) = try_well name (sense_from table view (name_text name))
  primary_well table view (OfLimit dimension side name selectors ref_place place) =
      limit_well name _ (along table view name (variable_start name (sense_from table view (name_text name))) selectors)
      (along_reaches table view name (variable_start name (sense_from table view (name_text name))) selectors (start_reaches name (sense_from table view (name_text name))))

  along_reaches : (table : Table) (view : View) (name : Name) (before : Walked) (selectors : ShownSelectors) → Reaches before →
      Reaches (along table view name before selectors)
  along_reaches table view name before NoSelectors reaches = reaches
  along_reaches table view name before (MoreSelectors selector rest) reaches =
      along_reaches table view name (behind before.faults (step table view name before.standing selector)) rest
      (step_behind table view name selector before reaches (step_reaches table view name before.standing selector))

  step_reaches : (table : Table) (view : View) (name : Name) (from : Standing) (selector : ShownSelector) → Reaches (step table view name from selector)
  step_reaches table view name from (OfSubscripts subscripts place) =
      element_reaches name from (judged_all table view subscripts) (all_faultless table view subscripts)
  step_reaches table view name from (OfComponent to place) = selected_reaches name from to

  all_faultless : (table : Table) (view : View) (exprs : ShownExprs) → AllFaultless (judged_all table view exprs)
  all_faultless table view NoExprs = tt
  all_faultless table view (MoreExprs expr rest) = (judged_well table view expr, all_faultless table view rest)

  applied_safe : (table : Table) (view : View) (name : Name) (callee : Callee) (selectors : ShownSelectors) → IsSafe (applied table view name callee selectors)
  applied_safe table view name callee NoSelectors = called_safe name callee [] tt
  applied_safe table view name callee (MoreSelectors selector rest) =
      applied_on_safe (first_applied table view name callee selector) (is_last rest) (beyond table view name rest)
      (first_safe table view name callee selector) (last_beyond table view name rest)

  first_safe : (table : Table) (view : View) (name : Name) (callee : Callee) (selector : ShownSelector) → IsSafe (first_applied table view name callee selector)
  first_safe table view name callee (OfSubscripts subscripts place) =
      called_safe name callee (arguments table view callee.parameters subscripts) (arguments_safe table view callee.parameters subscripts)
  first_safe table view name callee (OfComponent to place) = λ e. absurd (true≢false (sym e))

  arguments_safe : (table : Table) (view : View) (parameters : List Parameter) (exprs : ShownExprs) → AllSafe (arguments table view parameters exprs)
  arguments_safe table view [] NoExprs = tt
  arguments_safe table view (parameter ∷ parameters) NoExprs = tt
  arguments_safe table view [] (MoreExprs expr rest) =
      (argument_safe table view None expr (judged table view expr) (judged_well table view expr), arguments_safe table view [] rest)
  arguments_safe table view (parameter ∷ parameters) (MoreExprs expr rest) =
      (argument_safe table view (Some parameter) expr (judged table view expr) (judged_well table view expr), arguments_safe table view parameters rest)

call_statement_well : (table : Table) (view : View) (name : Name) (exprs : ShownExprs) (sense : Option Sense) (callee : Option Callee) →
    HasNoFault (called_or_not table view name exprs sense callee)
call_statement_well table view name exprs sense None = λ kind e. absurd (none-some kind e)
call_statement_well table view name exprs sense (Some callee) =
    let call = called table view name callee exprs in
    well_result call.well call.faults (result_kind callee)
    (called_safe name callee (arguments table view callee.parameters exprs) (arguments_safe table view callee.parameters exprs))

pub subject_well : (table : Table) (scope : ℕ) (subject : ShownSubject) → HasNoFault (subject_judged table scope subject)
subject_well table scope (OfValue expr) = judged_well table (Within scope) expr
subject_well table scope (OfWhile expr) = judged_well table (WhileOf scope) expr
subject_well table scope (OfTarget target) =
    let sense = sense_from table (Within scope) (name_text target.name) in
    value_well target.name (along table (Within scope) target.name (variable_start target.name sense) target.selectors)
    (along_reaches table (Within scope) target.name (variable_start target.name sense) target.selectors (start_reaches target.name sense))
subject_well table scope (OfCallStatement name exprs) =
    let sense = sense_from table (Within scope) (name_text name) in
    call_statement_well table (Within scope) name exprs sense (callee_of sense)
