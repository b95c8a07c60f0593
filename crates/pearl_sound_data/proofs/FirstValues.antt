-- Constants become values of each kind, and the leaves that they are put into have first values.
use Rattle.std.specs.Prelude.{◌≡◌, ℕ, zero, suc, ◌-◌, ◌<◌, ◌≤◌, ◌^◌, min, Bool, true, false, not, List, [], ◌∷◌, length, map, take, Option, Some, Result, Ok, Err}
use Rattle.std.specs.List.{AllByRecursion}
use Rattle.std.proofs.Common.{refl, sym, arith, true≢false}
use Rattle.std.proofs.lemmas.Int.{ints}
use Rattle.std.proofs.lemmas.Bool.{ltb-false}
use Rattle.pearl_value.specs.declared.kind.Kind.{Kind}
use Rattle.pearl_value.specs.declared.cell.Cell.{Cell}
use Rattle.pearl_value.specs.declared.trap.Trap.{Trap}
use Rattle.pearl_value.specs.Kinds.{IsKind}
use Rattle.pearl_value.specs.Cells.{FitsFixed}
use Rattle.pearl_value.specs.WellFormed.{FitsSpan, IsValue, IsValueOf}
use Rattle.pearl_value.specs.Conversions.{converted}
use Rattle.pearl_value.specs.Laws.{Gives}
use Rattle.pearl_value.proofs.Offered.{blank_gives, keeps_kinds}
use Rattle.pearl_tree.specs.declared.literal.Sign.{Sign}
use Rattle.pearl_tree.specs.declared.literal.Sign.TheVariants.{Minus}
use Rattle.pearl_tree.specs.Durations.{milliseconds_of}
use Rattle.pearl_tree.specs.ShownLiterals.{ShownLiteral, OfNumber, OfBits, OfText, OfClock, OfDuration, ShownConst}
use Rattle.pearl_names.specs.Durations.{is_too_long}
use Rattle.pearl_names.specs.Layout.{Leaf, elements}
use Rattle.pearl_names.proofs.Offered.{elements_some}
use Rattle.pearl_scope.specs.Laws.{has_value}
use Rattle.pearl_program.specs.PlainPrograms.{PlainLeaf}
use Rattle.pearl_program.specs.SoundStatements.{AreFirst}
use Rattle.pearl_resolve_tables.specs.Laying.{negative_if, value_of, or_blank, constant_in, values_of_leaf, left_behind, filled_leaves, merged}
use Rattle.pearl_resolve_tables.proofs.Offered.{merged_kinds}
use Rattle.pearl_sound_data.specs.Constants.{IsInRange, IsConstant}
use Rattle.pearl_sound_data.proofs.Faults.{all_dropped}

number_fits : (sign : Option Sign) (n : ℕ) → n < 2 ^ 63 → FitsFixed 63 (negative_if sign n)
number_fits (Some Minus) zero small = record { low = omega (arith, ints); high = omega (arith, ints) }
number_fits (Some Minus) (suc n) small = record { low = omega (arith, ints, small); high = omega (arith, ints) }
number_fits other n small = record { low = omega (arith, ints); high = omega (arith, ints, small) }

span_fits : (sign : Option Sign) (n : ℕ) → n ≤ 2 ^ 40 → FitsSpan (negative_if sign n)
span_fits (Some Minus) zero small = record { low = omega (arith, ints); high = omega (arith, ints) }
span_fits (Some Minus) (suc n) small = record { low = omega (arith, ints, small); high = omega (arith, ints) }
span_fits other n small = record { low = omega (arith, ints); high = omega (arith, ints, small) }

not_true : (b : Bool) → not b ≡ true → b ≡ false
not_true true is = absurd (true≢false (sym is))
not_true false is = refl

value_is : (constant : ShownConst) → IsConstant constant → IsValue (value_of constant)
value_is constant is = by constant.sign constant.literal is.lawful is.valued
  where
    by : (sign : Option Sign) (literal : ShownLiteral) → IsInRange literal → has_value literal ≡ true →
        IsValue (value_of (record { sign = sign; literal = literal; place = constant.place }))
    by sign (OfNumber number) lawful valued = ((omega arith, omega arith), number_fits sign number.value lawful)
    by sign (OfBits len value place) lawful valued = ((omega (arith, lawful), lawful.1), lawful.2)
    by sign (OfText text place) lawful valued = ((omega (arith, lawful), lawful.1), lawful.2)
    by sign (OfClock milliseconds place) lawful valued = lawful
    by sign (OfDuration duration) lawful valued =
        span_fits sign (milliseconds_of duration) (ltb-false (2 ^ 40) (milliseconds_of duration) (not_true (is_too_long duration) valued))

or_value : (kind : Kind) → IsKind kind → (result : Result Cell Trap) → Gives kind result → IsValueOf kind (or_blank kind result)
or_value kind is (Ok value) gives = gives
or_value kind is (Err trap) gives = blank_gives kind is

pub constant_value : (kind : Kind) (constant : ShownConst) → IsKind kind → IsConstant constant → IsValueOf kind (constant_in kind constant)
constant_value kind constant is has =
    or_value kind is (converted (value_of constant) kind) (keeps_kinds (value_of constant) kind (value_is constant has) is)

few_taken : (kind : Kind) (n : ℕ) (constants : List ShownConst) → length (map (constant_in kind) (take n constants)) ≤ n
few_taken kind zero constants = omega arith
few_taken kind (suc n) [] = omega arith
few_taken kind (suc n) (constant ∷ rest) = let more = few_taken kind n rest in omega (arith, more)

values_taken : (kind : Kind) → IsKind kind → (n : ℕ) (constants : List ShownConst) → AllByRecursion IsConstant constants →
    AllByRecursion (IsValueOf kind) (map (constant_in kind) (take n constants))
values_taken kind is zero constants all = tt
values_taken kind is (suc n) [] all = tt
values_taken kind is (suc n) (constant ∷ rest) all = (constant_value kind constant is all.0, values_taken kind is n rest all.1)

pub first_values : (leaf : Leaf) → IsKind leaf.kind → (constants : List ShownConst) → AllByRecursion IsConstant constants →
    AreFirst (values_of_leaf constants leaf)
first_values leaf is constants all = record {
  kind = is;
  some = (let one = elements_some leaf.bounds in omega (arith, one));
  few = few_taken leaf.kind (elements leaf.bounds) constants;
  constants = values_taken leaf.kind is (elements leaf.bounds) constants all;
}

pub left_constants : (count : ℕ) (constants : List ShownConst) → AllByRecursion IsConstant constants →
    AllByRecursion IsConstant (left_behind count constants)
left_constants count constants all = all_dropped IsConstant (min count (length constants - 1)) constants all

pub filled_first : (name : List ℕ) (constants : List ShownConst) (leaves : List Leaf) →
    AllByRecursion (λ (leaf : Leaf). IsKind leaf.kind) leaves → AllByRecursion IsConstant constants →
    AllByRecursion (λ (leaf : PlainLeaf). AreFirst leaf.values) (filled_leaves name constants leaves)
filled_first name constants [] kinds all = tt
filled_first name constants (leaf ∷ rest) kinds all = (
  first_values leaf kinds.0 constants all,
  filled_first name (left_behind (elements leaf.bounds) constants) rest kinds.1 (left_constants (elements leaf.bounds) constants all),
)

pub merged_first : (constants : List ShownConst) (leaves : List Leaf) → AllByRecursion (λ (leaf : Leaf). IsKind leaf.kind) leaves →
    AllByRecursion IsConstant constants → AllByRecursion (λ (leaf : PlainLeaf). AreFirst leaf.values) (filled_leaves [] constants (merged leaves))
merged_first constants leaves kinds all = filled_first [] constants (merged leaves) (merged_kinds IsKind leaves kinds) all
