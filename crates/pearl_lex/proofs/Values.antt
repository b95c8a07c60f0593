-- Digits only raise a value.
use Rattle.std.proofs.Common.{◌≡◌, ◌≤◌, ◌<◌, ◌*◌, ◌+◌, ◌-◌, ℕ, suc, List, [], ◌∷◌, fold, drop, length, get_or, Some, None, nat_le, if◌then◌else◌, subst, arith}
use Rattle.std.proofs.Math.Seq.{drop-cons}
use Rattle.std.proofs.lemmas.Bool.Decides.{nat_tests}
use Rattle.pearl_lex.specs.Literals.{next_value, value_of, value_within}

pub grows : (digits : List ℕ) (value : ℕ) → value ≤ fold next_value value digits
grows [] value = omega arith
grows (digit ∷ digits) value = omega (arith, grows digits (next_value value digit))

none_within : (value max : ℕ) → max < value → None ≡ (if nat_le value max then Some value else None)
none_within value max h = grind (arith, nat_tests)

-- the value is above the limit as soon as that of the first digits is
pub over : (digits : List ℕ) (index value max : ℕ) → index < length digits → fold next_value value (drop index digits) ≡ value_of digits
    → max < 10 * value + (get_or digits index 0 - 48) → None ≡ value_within digits max
over digits index value max inside same above =
    let cut : drop index digits ≡ get_or digits index 0 ∷ drop (suc index) digits = drop-cons digits index 0 inside in
    let up : next_value value (get_or digits index 0) ≤ fold next_value (next_value value (get_or digits index 0)) (drop (suc index) digits) = grows (drop (suc index) digits) (next_value value (get_or digits index 0)) in
    let all : fold next_value value (get_or digits index 0 ∷ drop (suc index) digits) ≡ value_of digits = subst (λ ds. fold next_value value ds ≡ value_of digits) cut same in
    none_within (value_of digits) max (omega (arith, up, all))
