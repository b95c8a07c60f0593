-- What the operators, conversions and subscripts do.
use Rattle.std.specs.Prelude.{pos, ℤ, ◌+ℤ◌, ◌-ℤ◌, ◌*ℤ◌, int_le, ◌&&◌, if◌then◌else◌, List, [], ◌∷◌, Option, Some, None, option_map, option_and_then, Result, Ok, Err, length}
use Rattle.std.specs.Ordering.{int_eq}
use Rattle.pearl_value.specs.declared.kind.Kind.{Kind}
use Rattle.pearl_value.specs.declared.cell.Cell.{Cell}
use Rattle.pearl_value.specs.declared.cell.Cell.TheVariants.{Fixed}
use Rattle.pearl_value.specs.declared.operator.Monad.{Monad}
use Rattle.pearl_value.specs.declared.operator.Dyad.{Dyad}
use Rattle.pearl_value.specs.declared.trap.Trap.{Trap}
use Rattle.pearl_value.specs.declared.trap.Trap.TheVariants.{Index, Range}
use Rattle.pearl_value.specs.Rows.{row1, row2}
use Rattle.pearl_value.specs.Applied.{applied1, applied2}
use Rattle.pearl_value.specs.Conversions.{converted, suits_kind}
use Rattle.pearl_stack.specs.Frames.{Frame}
use Rattle.pearl_instructions.specs.declared.instr.Bounds.{Bounds}
use Rattle.pearl_instructions.specs.Steps.{Step, given, needed, popped, taken, value_kind, leaves, traps, makes}

-- an operator has a row for the kinds of its operands
abbrev pub monadic : Monad → Frame → List Frame → Step
monadic op f lower = popped f.operands (λ x left.
    given (option_and_then (row1 op) (value_kind x)) (λ kind. makes f lower left (applied1 op x)))

abbrev pub dyadic : Dyad → Frame → List Frame → Step
dyadic op f lower = popped f.operands (λ y more. popped more (λ x left.
    given (value_kind x) (λ of_x. given (value_kind y) (λ of_y. given (row2 op of_x of_y) (λ kind. makes f lower left (applied2 op x y))))))

abbrev pub convert : Kind → Frame → List Frame → Step
convert to f lower = popped f.operands (λ x left. given (value_kind x) (λ from. needed (suits_kind from to) (makes f lower left (converted x to))))

-- the numbers of FIXED values; none where another value is among them
abbrev pub number_of : Cell → Option ℤ
number_of (Fixed len value) = Some value
number_of x = None

abbrev pub numbers_of : List Cell → Option (List ℤ)
numbers_of [] = Some []
numbers_of (x ∷ xs) = option_and_then (λ n. option_map (λ ns. n ∷ ns) (numbers_of xs)) (number_of x)

-- the offset of an element, row by row, the last subscript fastest; none where a subscript is outside its bounds
abbrev pub offset_of : ℤ → List Bounds → List ℤ → Option ℤ
offset_of so_far [] xs = Some so_far
offset_of so_far (b ∷ bounds) [] = None
offset_of so_far (b ∷ bounds) (x ∷ xs) =
    if int_le b.low x && int_le x b.high then offset_of (so_far *ℤ (b.high -ℤ b.low +ℤ pos 1) +ℤ (x -ℤ b.low)) bounds xs else None

abbrev pub index_of : Option ℤ → Result Cell Trap
index_of None = Err Index
index_of (Some offset) = Ok (Fixed 31 offset)

abbrev pub index : List Bounds → Frame → List Frame → Step
index bounds f lower = taken (length bounds) f.operands (λ xs left.
    given (numbers_of xs) (λ ns. makes f lower left (index_of (offset_of (pos 0) bounds ns))))

-- a FIXED that isn't 0 stays, else Range is trapped
abbrev pub non_zero : Frame → List Frame → Step
non_zero f lower = popped f.operands (λ x left. given (number_of x) (λ n. if int_eq n (pos 0) then traps Range f lower else leaves f lower f.operands))
