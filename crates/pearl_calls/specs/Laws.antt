-- What holds of calls that lead back, of numberings, and of weights where no calls lead back.
use Rattle.std.specs.Prelude.{◌≡◌, ◌↔◌, ℕ, ◌+◌, ◌<◌, true, List, map, take, length, nat_eq, slice_index}
use Rattle.std.specs.List.{list_any}
use Rattle.pearl_calls.specs.Callers.{Caller, calls}
use Rattle.pearl_calls.specs.Cycles.{calls_itself, CallsItself, SomeCallsItself}
use Rattle.pearl_calls.specs.Marks.{times}
use Rattle.pearl_calls.specs.Numberings.{IsNumbering}
use Rattle.pearl_calls.specs.Weights.{called, greatest, whole_weight}

-- a procedure calls itself exactly where some calls lead back to it, however many
abbrev pub CyclesAreWays : Type 0
CyclesAreWays = (procedures : List Caller) (number : ℕ) → (calls_itself procedures number ≡ true) ↔ CallsItself procedures number

-- where a procedure calls itself, there is no numbering
abbrev pub NumberedCallNoneBack : Type 0
NumberedCallNoneBack = (procedures : List Caller) (order : List ℕ) → IsNumbering procedures order → SomeCallsItself procedures → ⊥

-- there is one numbering at most
abbrev pub NumberingsAgree : Type 0
NumberingsAgree = (procedures : List Caller) (one other : List ℕ) → IsNumbering procedures one → IsNumbering procedures other → one ≡ other

-- each procedure has one number, and nothing else has one
pub record EachHasOneNumber : Type 0 where
  pub procedure_once : (procedures : List Caller) (order : List ℕ) (number : ℕ) → IsNumbering procedures order →
      number < length procedures → times number order ≡ 1
  pub all_procedures : (procedures : List Caller) (order : List ℕ) (number : ℕ) → IsNumbering procedures order →
      list_any (nat_eq number) order ≡ true → number < length procedures

-- a procedure that is called has a smaller number than the one that calls it
abbrev pub CalleesComeFirst : Type 0
CalleesComeFirst = (procedures : List Caller) (order : List ℕ) (number callee : ℕ) → IsNumbering procedures order →
    number < length order → callee < length procedures → calls procedures (slice_index order number) callee ≡ true →
    list_any (nat_eq callee) (take number order) ≡ true

-- where no procedure calls itself, a weight is the own one and the greatest of the procedures that are called
abbrev pub WeightsAddUp : Type 0
WeightsAddUp =
    (procedures : List Caller) → (SomeCallsItself procedures → ⊥) → (caller : Caller) →
    whole_weight procedures caller ≡ caller.own + greatest (map (whole_weight procedures) (called procedures caller))
