-- What operators, TRY, LWB, UPB and arguments come to, where their parts have kinds.
use Rattle.std.specs.Prelude.{◌≡◌, ℕ, zero, suc, ◌-◌, ◌<◌, Bool, true, false, ◌&&◌, not, nat_le, if◌then◌else◌, List, [], ◌∷◌, length, Option, Some, None, option_map, unwrap_or, slice_get}
use Rattle.std.specs.Option.{option_and_then}
use Rattle.std.specs.List.{AllByRecursion}
use Rattle.std.proofs.Common.{refl, ap, sym, subst, arith, true≢false}
use Rattle.std.proofs.lemmas.Int.{ints}
use Rattle.std.proofs.lemmas.List.{length-drop}
use Rattle.std.proofs.lemmas.Option.{none-some}
use Rattle.std.proofs.lemmas.Bool.{eqb-true, leb-true}
use Rattle.pearl_value.specs.declared.kind.Kind.{Kind}
use Rattle.pearl_value.specs.declared.kind.Kind.TheVariants.{Fixed, Bits, Chars, Clock, Span}
use Rattle.pearl_value.specs.Rows.{row1, row2}
use Rattle.pearl_tree.specs.declared.name.Name.{Name}
use Rattle.pearl_tree.specs.declared.expression.Monadic.{Monadic}
use Rattle.pearl_tree.specs.declared.expression.Dyadic.{Dyadic}
use Rattle.pearl_tree.specs.declared.expression.Side.{Side}
use Rattle.pearl_tree.specs.declared.expression.Side.TheVariants.{Lower, Upper}
use Rattle.pearl_tree.specs.declared.rule.TheConstants as rule
use Rattle.pearl_tree.specs.Names.{name_text}
use Rattle.pearl_names.specs.declared.scope.View.{View}
use Rattle.pearl_names.specs.declared.meaning.Found.{Found}
use Rattle.pearl_names.specs.Found.{found_from}
use Rattle.pearl_names.specs.Tables.{Parameter, Sense, Variable, Control, Semaphore, Procedure, sense_at, sense_from}
use Rattle.pearl_value.specs.Conversions.{suits_kind}
use Rattle.pearl_check_expr.specs.Kinds.{is_kind}
use Rattle.pearl_check_expr.specs.Senses.{Callee, callee_of, is_fixed}
use Rattle.pearl_check_expr.specs.Standings.{Judged, Standing, Broken, Open, is_fixed_or_unknown, faulty}
use Rattle.pearl_check_expr.specs.Judged.{result_of, monadic_result, dyadic_result, with_monadics, try_judged, limit_of, variable_argument, value_argument, if_well}
use Rattle.pearl_value.proofs.Offered.{suits_both}
use Rattle.pearl_program.specs.declared.expression.Bound.{Bound}
use Rattle.pearl_program.specs.PlainExpressions.{PlainExpr, OfRead, PlainVariable}
use Rattle.pearl_program.specs.Typing.{Around, IsBound, HasKind, IsVariable, SuitsParam}
use Rattle.pearl_resolve.specs.Expressions.{Numbered, number_at, meant_at, meant, Walk, count, params_of, handed, monadics_over, open_bounds, limit_value}
use Rattle.pearl_resolve.specs.Cells.{param_cell}
use Rattle.pearl_sound.specs.SoundNames.{is_control}
use Rattle.pearl_sound.proofs.Subscripting.{sound_behind}
use Rattle.pearl_sound.proofs.SoundWalks.{IsSoundAt}

pub some_one : {X : Type 0} {x y : X} → Some x ≡ Some y → x ≡ y
some_one {x = x} same = ap (λ o. unwrap_or o x) same

-- operators
result_is : (place : ℕ) (row : Option Kind) (kind : Kind) → (result_of place row).kind ≡ Some kind → row ≡ Some kind
result_is place None kind is = absurd (none-some kind is)
result_is place (Some one) kind is = is

monadic_is : (monadic : Monadic) (operand : Option Kind) (kind : Kind) → (monadic_result monadic operand).kind ≡ Some kind →
    (one : Kind) × (operand ≡ Some one) × (row1 monadic.operator one ≡ Some kind)
monadic_is monadic None kind is = absurd (none-some kind is)
monadic_is monadic (Some one) kind is = (one, refl, result_is monadic.place (row1 monadic.operator one) kind is)

pub dyadic_is : (dyadic : Dyadic) (left right : Option Kind) (kind : Kind) → (dyadic_result dyadic left right).kind ≡ Some kind →
    (one : Kind) × (two : Kind) × (left ≡ Some one) × (right ≡ Some two) × (row2 dyadic.operator one two ≡ Some kind)
dyadic_is dyadic None right kind is = absurd (none-some kind is)
dyadic_is dyadic (Some one) None kind is = absurd (none-some kind is)
dyadic_is dyadic (Some one) (Some two) kind is =
    (one, two, refl, refl, result_is dyadic.place (row2 dyadic.operator one two) kind is)

pub monadics_sound : (around : Around) (monadics : List Monadic) (operand : Judged) (e : PlainExpr) →
    ((kind : Kind) → operand.kind ≡ Some kind → HasKind around e kind) →
    (kind : Kind) → (with_monadics monadics operand).kind ≡ Some kind → HasKind around (monadics_over monadics e) kind
monadics_sound around [] operand e sound kind is = sound kind is
monadics_sound around (monadic ∷ rest) operand e sound kind is =
    let parts = monadic_is monadic (with_monadics rest operand).kind kind is in
    (parts.0, monadics_sound around rest operand e sound parts.0 parts.1, parts.2)

-- TRY
pub try_is : (name : Name) (sense : Option Sense) (kind : Kind) → (try_judged name sense).kind ≡ Some kind →
    (sense ≡ Some Semaphore) × (kind ≡ Bits 1)
try_is name (Some Semaphore) kind is = (refl, sym (some_one is))
try_is name other kind is = absurd (none-some kind is)

-- LWB and UPB
bound_is : (around : Around) (side : Side) (bound : Bound) → IsBound bound → HasKind around (limit_value side (Some bound)) (Fixed 31)
bound_is around Lower bound sound =
    let a = sound.rising in let b = sound.high in
    record { is_value = ((omega arith, omega arith), record { low = sound.low; high = omega (arith, ints, a, b) }); same_kind = refl }
bound_is around Upper bound sound =
    let a = sound.rising in let b = sound.low in
    record { is_value = ((omega arith, omega arith), record { low = omega (arith, ints, a, b); high = sound.high }); same_kind = refl }

bound_there : (around : Around) (side : Side) (bounds : List Bound) (i : ℕ) → i < length bounds → AllByRecursion IsBound bounds →
    HasKind around (limit_value side (slice_get bounds i)) (Fixed 31)
bound_there around side [] i below sound = absurd (omega (arith, below))
bound_there around side (bound ∷ rest) zero below sound = bound_is around side bound sound.0
bound_there around side (bound ∷ rest) (suc i) below sound = bound_there around side rest i (omega (arith, below)) sound.1

pub limit_sound : (around : Around) (control : Bool) (name : Name) (dimension : ℕ) (side : Side) (walk : Walk) (standing : Standing) (kind : Kind) →
    IsSoundAt around control standing walk → (limit_of name dimension standing).kind ≡ Some kind →
    HasKind around (limit_value side (slice_get (open_bounds walk) (dimension - 1))) kind
limit_sound around control name dimension side walk Broken kind stands is = absurd (none-some kind is)
limit_sound around control name dimension side walk (Open dimensions shape) kind stands is =
    by (nat_le 1 dimension) (nat_le dimension dimensions) refl refl is
  where
    by : (low high : Bool) → nat_le 1 dimension ≡ low → nat_le dimension dimensions ≡ high →
        (if low && high then record { kind = Some (Fixed 31); faults = [] } else faulty name.place rule.S17).kind ≡ Some kind →
        HasKind around (limit_value side (slice_get (open_bounds walk) (dimension - 1))) kind
    by false high a b is = absurd (none-some kind is)
    by true false a b is = absurd (none-some kind is)
    by true true a b is =
        let one = leb-true 1 dimension a in
        let most = leb-true dimension dimensions b in
        let left = stands.fits in
        let some = length-drop (count walk.subscripts) walk.bounds in
        subst (λ k. HasKind around (limit_value side (slice_get (open_bounds walk) (dimension - 1))) k) (some_one is)
        (bound_there around side (open_bounds walk) (dimension - 1) (omega (arith, one, most, left, some))
        (sound_behind (count walk.subscripts) walk.bounds (stands.reaches []).sound))

-- kinds
not_not : (b : Bool) → not (not b) ≡ true → b ≡ true
not_not true is = refl
not_not false is = absurd (true≢false (sym is))

same_kinds : (a b : Kind) → is_kind a b ≡ true → a ≡ b
same_kinds (Fixed len) (Fixed other) is = ap Fixed (eqb-true len other is)
same_kinds (Bits len) (Bits other) is = ap Bits (eqb-true len other is)
same_kinds (Chars len) (Chars other) is = ap Chars (eqb-true len other is)
same_kinds Clock Clock is = refl
same_kinds Span Span is = refl
same_kinds a b is = absurd (true≢false (sym is))

pub fixed_is : (kind : Kind) → is_fixed_or_unknown (Some kind) ≡ true → (len : ℕ) × (kind ≡ Fixed len)
fixed_is (Fixed len) is = (len, refl)
fixed_is kind is = absurd (true≢false (sym is))

-- what may be changed is no control variable
pub no_control : (sense : Option Sense) → is_fixed sense ≡ false → is_control sense ≡ false
no_control (Some (Control of)) is = is
no_control other is = refl

-- arguments
pub value_suits : (around : Around) (place : ℕ) (e : PlainExpr) (to value : Option Kind) →
    ((kind : Kind) → value ≡ Some kind → HasKind around e kind) → (value_argument place to value).well ≡ true →
    SuitsParam around (param_cell false (unwrap_or to (Fixed 31))) (handed false e)
value_suits around place e to None sound well = absurd (true≢false (sym well))
value_suits around place e None (Some from) sound well = absurd (true≢false (sym well))
value_suits around place e (Some to) (Some from) sound well =
    (from, sound from refl, (suits_both from to).0 (not_not (suits_kind from to) well))

pub variable_suits : (around : Around) (place : ℕ) (fixed : Bool) (variable : PlainVariable) (to value : Option Kind) →
    ((kind : Kind) → fixed ≡ false → value ≡ Some kind → IsVariable around variable kind) →
    (variable_argument place fixed to value).well ≡ true →
    SuitsParam around (param_cell true (unwrap_or to (Fixed 31))) (handed true (OfRead variable))
variable_suits around place true variable to value sound well = absurd (true≢false (sym well))
variable_suits around place false variable to None sound well = absurd (true≢false (sym well))
variable_suits around place false variable None (Some from) sound well = absurd (true≢false (sym well))
variable_suits around place false variable (Some to) (Some from) sound well =
    subst (λ kind. IsVariable around variable kind) (same_kinds from to (not_not (is_kind from to) well)) (sound from refl refl)

pub well_is : (well : Bool) (result : Option Kind) (kind : Kind) → if_well well result ≡ Some kind → (well ≡ true) × (result ≡ Some kind)
well_is true result kind is = (refl, is)
well_is false result kind is = absurd (none-some kind is)

-- which names are those of procedures
abbrev pub params_of_callee : Option Callee → Option (List Parameter)
params_of_callee None = None
params_of_callee (Some callee) = Some callee.parameters

sense_params : (scope number : ℕ) (sense : Sense) →
    params_of (Some (record { sense = sense; scope = scope; number = number })) ≡ params_of_callee (callee_of (Some sense))
sense_params scope number (Variable form inv) = refl
sense_params scope number sense = refl

if_params : (scope number : ℕ) (sense : Option Sense) →
    params_of (option_map (λ s. record { sense = s; scope = scope; number = number }) sense) ≡ params_of_callee (callee_of sense)
if_params scope number None = refl
if_params scope number (Some sense) = sense_params scope number sense

found_params : (numbered : Numbered) (found : Option Found) →
    params_of (option_and_then (meant_at numbered) found) ≡ params_of_callee (callee_of (option_and_then (sense_at numbered.table.senses) found))
found_params numbered None = refl
found_params numbered (Some found) =
    if_params found.scope (number_at numbered.numbers found) (sense_at numbered.table.senses found)

pub same_params : (numbered : Numbered) (view : View) (name : Name) →
    params_of (meant numbered view name) ≡ params_of_callee (callee_of (sense_from numbered.table view (name_text name)))
same_params numbered view name = found_params numbered (found_from numbered.table.names view (name_text name))

pub callee_is : (sense : Option Sense) (callee : Callee) → callee_of sense ≡ Some callee →
    sense ≡ Some (Procedure callee.parameters callee.result)
callee_is (Some (Procedure parameters result)) callee is = ap (λ (c : Callee). Some (Procedure c.parameters c.result)) (some_one is)
callee_is other callee is = absurd (none-some callee is)
