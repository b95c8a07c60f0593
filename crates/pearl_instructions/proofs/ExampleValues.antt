-- Which values the instructions of small objects leave: signs, orders and ends of ranges.
use Rattle.std.specs.Prelude.{◌≡◌, ℕ, ℤ, pos, negsuc, List, [], ◌∷◌, Some, None}
use Rattle.std.proofs.Common.{refl}
use Rattle.pearl_value.specs.declared.kind.Kind.TheVariants as kind
use Rattle.pearl_value.specs.declared.cell.Cell.{Cell}
use Rattle.pearl_value.specs.declared.cell.Cell.TheVariants.{Fixed, Bits, Clock}
use Rattle.pearl_value.specs.declared.operator.Monad.TheVariants.{Minus}
use Rattle.pearl_value.specs.declared.operator.Dyad.TheVariants.{Sub}
use Rattle.pearl_value.specs.declared.trap.Trap.TheVariants as trap
use Rattle.pearl_rules.specs.declared.action.Action.TheVariants as action
use Rattle.pearl_rules.specs.declared.action.Answer.TheVariants.{Nothing, One}
use Rattle.pearl_rules.specs.declared.action.Start.TheVariants as start
use Rattle.pearl_instructions.specs.declared.schedule.OnceForm.TheVariants as once
use Rattle.pearl_instructions.specs.declared.instr.Instr.TheVariants.{Load, Store, Fill, Drop, Conv, Index, LoadAt, StoreAt, ReadAt, WriteAt, Jump, JumpZero, Case, Return, Within, Advance, NonZero, Monadic, Dyadic, Now, Try, Resume}
use Rattle.pearl_instructions.specs.declared.object.Parts.{Parts as Object}
use Rattle.pearl_instructions.specs.Steps.{Silent}
use Rattle.pearl_instructions.specs.Rows.{row, after}
use Rattle.pearl_instructions.proofs.Examples.{fixed, code, bounds}
use Rattle.pearl_instructions.proofs.ExampleRows.{number, offered, frame, only, calling, caller, callee, with_leaves}

-- cells 1 to 3 are the control, the step and the limit of a loop
abbrev loop : ℕ → ℤ → ℤ → ℤ → List Cell
loop len control step limit = number 9 ∷ Fixed len control ∷ Fixed len step ∷ Fixed len limit ∷ []

-- what Within pushes
abbrev Pushes : ℤ → ℤ → ℤ → ℕ → Type 0
Pushes control step limit bit = row (only (Within 1)) (frame 0 (loop 31 control step limit) []) ≡ Silent (frame 1 (loop 31 control step limit) (Bits 1 bit ∷ []))

up_to_the_limit : Pushes (pos 5) (pos 2) (pos 5) 1
up_to_the_limit = refl

above_the_limit : Pushes (pos 6) (pos 2) (pos 5) 0
above_the_limit = refl

down_to_the_limit : Pushes (pos 5) (negsuc 0) (pos 5) 1
down_to_the_limit = refl

below_the_limit : Pushes (pos 4) (negsuc 0) (pos 5) 0
below_the_limit = refl

above_on_the_way_down : Pushes (pos 6) (negsuc 0) (pos 5) 1
above_on_the_way_down = refl

below_on_the_way_up : Pushes (negsuc 0) (pos 1) (pos 5) 1
below_on_the_way_up = refl

-- a step of 0 counts as one upwards
above_without_a_step : Pushes (pos 6) (pos 0) (pos 5) 0
above_without_a_step = refl

-- FIXED(7) begins at -128
advances_downwards : row (only (Advance 1 5)) (frame 0 (loop 7 (negsuc 125) (negsuc 1) (pos 0)) []) ≡ Silent (frame 1 (loop 7 (negsuc 127) (negsuc 1) (pos 0)) [])
advances_downwards = refl

leaves_its_kind_below : row (only (Advance 1 5)) (frame 0 (loop 7 (negsuc 126) (negsuc 1) (pos 0)) []) ≡ Silent (frame 5 (loop 7 (negsuc 126) (negsuc 1) (pos 0)) [])
leaves_its_kind_below = refl

jumps : row (only (Jump 5)) (frame 0 [] (number 8 ∷ [])) ≡ Silent (frame 5 [] (number 8 ∷ []))
jumps = refl

jumps_at_zero : row (only (JumpZero 5)) (frame 0 [] (Bits 1 0 ∷ number 8 ∷ [])) ≡ Silent (frame 5 [] (number 8 ∷ []))
jumps_at_zero = refl

goes_on_at_one : row (only (JumpZero 5)) (frame 0 [] (Bits 1 1 ∷ number 8 ∷ [])) ≡ Silent (frame 1 [] (number 8 ∷ []))
goes_on_at_one = refl

-- at which instruction a task goes on that has two targets and this number on top
abbrev GoesTo : ℤ → ℕ → Type 0
GoesTo value place = row (only (Case (7 ∷ 5 ∷ []))) (frame 0 [] (Fixed 31 value ∷ number 8 ∷ [])) ≡ Silent (frame place [] (number 8 ∷ []))

first_target : GoesTo (pos 1) 7
first_target = refl

last_target : GoesTo (pos 2) 5
last_target = refl

no_target_zero : GoesTo (pos 0) 1
no_target_zero = refl

behind_the_last : GoesTo (pos 3) 1
behind_the_last = refl

below_the_first : GoesTo (negsuc 0) 1
below_the_first = refl

abbrev four : List Cell
four = number 10 ∷ number 11 ∷ number 12 ∷ number 13 ∷ []

loads : row (only (Load 2)) (frame 0 four (number 8 ∷ [])) ≡ Silent (frame 1 four (number 12 ∷ number 8 ∷ []))
loads = refl

stores : row (only (Store 2)) (frame 0 four (number 7 ∷ number 8 ∷ [])) ≡ Silent (frame 1 (number 10 ∷ number 11 ∷ number 7 ∷ number 13 ∷ []) (number 8 ∷ []))
stores = refl

drops : row (only Drop) (frame 0 [] (number 7 ∷ number 8 ∷ [])) ≡ Silent (frame 1 [] (number 8 ∷ []))
drops = refl

fills : row (only (Fill 1 2 (kind.Bits 4))) (frame 0 four []) ≡ Silent (frame 1 (number 10 ∷ Bits 4 0 ∷ Bits 4 0 ∷ number 13 ∷ []) [])
fills = refl

loads_the_first : row (only (LoadAt 1 2)) (frame 0 four (number 0 ∷ number 8 ∷ [])) ≡ Silent (frame 1 four (number 11 ∷ number 8 ∷ []))
loads_the_first = refl

loads_before_the_range : offered (row (only (LoadAt 1 2)) (frame 0 four (Fixed 31 (negsuc 0) ∷ []))) ≡ Some (action.Trap trap.Index)
loads_before_the_range = refl

-- the value lies above the offset
stores_the_second : row (only (StoreAt 1 2)) (frame 0 four (number 7 ∷ number 1 ∷ number 8 ∷ []))
    ≡ Silent (frame 1 (number 10 ∷ number 11 ∷ number 7 ∷ number 13 ∷ []) (number 8 ∷ []))
stores_the_second = refl

stores_past_the_range : offered (row (only (StoreAt 1 2)) (frame 0 four (number 1 ∷ number 2 ∷ []))) ≡ Some (action.Trap trap.Index)
stores_past_the_range = refl

-- 5 - 3: the right operand lies on top
subtracts : row (only (Dyadic Sub)) (frame 0 [] (number 3 ∷ number 5 ∷ number 8 ∷ [])) ≡ Silent (frame 1 [] (number 2 ∷ number 8 ∷ []))
subtracts = refl

turns_the_sign : row (only (Monadic Minus)) (frame 0 [] (number 5 ∷ number 8 ∷ [])) ≡ Silent (frame 1 [] (Fixed 31 (negsuc 4) ∷ number 8 ∷ []))
turns_the_sign = refl

converts : row (only (Conv (kind.Fixed 8))) (frame 0 [] (number 255 ∷ number 8 ∷ [])) ≡ Silent (frame 1 [] (Fixed 8 (pos 255) ∷ number 8 ∷ []))
converts = refl

too_great_to_convert : offered (row (only (Conv (kind.Fixed 8))) (frame 0 [] (number 300 ∷ []))) ≡ Some (action.Trap trap.Overflow)
too_great_to_convert = refl

keeps_what_is_not_zero : row (only NonZero) (frame 0 [] (number 3 ∷ number 8 ∷ [])) ≡ Silent (frame 1 [] (number 3 ∷ number 8 ∷ []))
keeps_what_is_not_zero = refl

zero_is_refused : offered (row (only NonZero) (frame 0 [] (number 0 ∷ []))) ≡ Some (action.Trap trap.Range)
zero_is_refused = refl

-- (1 : 3, 0 : 1) lies row by row: (2, 0) comes two behind (1, 0)
second_row : row (only (Index (bounds 1 3 ∷ bounds 0 1 ∷ []))) (frame 0 [] (number 0 ∷ number 2 ∷ number 8 ∷ [])) ≡ Silent (frame 1 [] (number 2 ∷ number 8 ∷ []))
second_row = refl

next_in_a_row : row (only (Index (bounds 1 3 ∷ bounds 0 1 ∷ []))) (frame 0 [] (number 1 ∷ number 1 ∷ number 8 ∷ [])) ≡ Silent (frame 1 [] (number 1 ∷ number 8 ∷ []))
next_in_a_row = refl

-- the second leaf begins at slot 3
reads_at : offered (row (with_leaves (ReadAt 1)) (frame 0 [] (number 1 ∷ []))) ≡ Some (action.Read 4)
reads_at = refl

reads_past_a_leaf : offered (row (with_leaves (ReadAt 1)) (frame 0 [] (number 2 ∷ []))) ≡ Some (action.Trap trap.Index)
reads_past_a_leaf = refl

pushes_what_it_reads : after (row (with_leaves (ReadAt 1)) (frame 0 [] (number 1 ∷ number 8 ∷ []))) (One (number 6)) ≡ frame 1 [] (number 6 ∷ number 8 ∷ [])
pushes_what_it_reads = refl

writes_at : offered (row (with_leaves (WriteAt 1)) (frame 0 [] (number 7 ∷ number 1 ∷ []))) ≡ Some (action.Write 4 (number 7))
writes_at = refl

takes_both_off : after (row (with_leaves (WriteAt 1)) (frame 0 [] (number 7 ∷ number 1 ∷ number 8 ∷ []))) Nothing ≡ frame 1 [] (number 8 ∷ [])
takes_both_off = refl

asks_for_the_time : offered (row (only Now) (frame 0 [] [])) ≡ Some action.Now
asks_for_the_time = refl

pushes_the_time : after (row (only Now) (frame 0 [] (number 8 ∷ []))) (One (Clock 500)) ≡ frame 1 [] (Clock 500 ∷ number 8 ∷ [])
pushes_the_time = refl

tries : offered (row (only (Try 3)) (frame 0 [] [])) ≡ Some (action.Try 3)
tries = refl

pushes_whether_it_got_it : after (row (only (Try 3)) (frame 0 [] (number 8 ∷ []))) (One (Bits 1 1)) ≡ frame 1 [] (Bits 1 1 ∷ number 8 ∷ [])
pushes_whether_it_got_it = refl

resumes_at : offered (row (only (Resume once.At)) (frame 0 [] (Clock 500 ∷ []))) ≡ Some (action.Resume (start.At 500))
resumes_at = refl

takes_the_time_off : after (row (only (Resume once.At)) (frame 0 [] (Clock 500 ∷ number 8 ∷ []))) Nothing ≡ frame 1 [] (number 8 ∷ [])
takes_the_time_off = refl

-- a procedure that returns no value; its caller, routine 1, goes on behind its Call with what it had
abbrev without_result : Object
without_result = calling (record { params = 1; result = None; code = code (fixed ∷ []) 9 (Return ∷ []) [] })

returns_nothing : row without_result (callee 0 (number 2 ∷ []) [] ∷ caller 0 (number 4 ∷ []) (number 9 ∷ []) ∷ []) ≡ Silent (caller 1 (number 4 ∷ []) (number 9 ∷ []) ∷ [])
returns_nothing = refl
