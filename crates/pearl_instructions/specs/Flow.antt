-- What jumps, loops and calls do.
use Rattle.std.specs.Prelude.{ℕ, zero, suc, ◌+◌, pos, negsuc, ℤ, ◌+ℤ◌, int_le, int_lt, nat_le, Bool, ◌&&◌, ◌||◌, ◌==◌, if◌then◌else◌, List, [], ◌∷◌, ◌++◌, Option, Some, None, length, map, take, drop, reverse, slice_get}
use Rattle.pearl_value.specs.declared.kind.Kind.{Kind}
use Rattle.pearl_value.specs.declared.kind.CellKind.{CellKind}
use Rattle.pearl_value.specs.declared.kind.CellKind.TheVariants.{Plain, RefTo}
use Rattle.pearl_value.specs.declared.cell.Cell.{Cell}
use Rattle.pearl_value.specs.declared.cell.Cell.TheVariants.{Fixed, Bits}
use Rattle.pearl_value.specs.Blanks.{blank_of}
use Rattle.pearl_value.specs.Conversions.{fits_fixed}
use Rattle.pearl_rules.specs.declared.action.Action.TheVariants.{Enter}
use Rattle.pearl_stack.specs.Frames.{Frame, without}
use Rattle.pearl_instructions.specs.declared.object.Procedure.{Procedure}
use Rattle.pearl_instructions.specs.Steps.{Step, Silent, Offers, Missing, given, needed, popped, at, leaves}
use Rattle.pearl_instructions.specs.Cells.{put}

-- goes on at an instruction, with these operands
abbrev pub goes : ℕ → Frame → List Frame → List Cell → Step
goes i f lower operands = Silent (at i f operands ∷ lower)

-- at i where the BIT(1) is 0, else at the next instruction
abbrev pub jump_zero : ℕ → Frame → List Frame → List Cell → Cell → Step
jump_zero i f lower left (Bits len value) = needed (len == 1) (goes (if value == 0 then i else f.place + 1) f lower left)
jump_zero i f lower left x = Missing

-- the x-th of these instructions; none where there is no x-th
abbrev pub target_of : List ℕ → ℤ → Option ℕ
target_of targets (pos zero) = None
target_of targets (pos (suc n)) = slice_get targets n
target_of targets (negsuc n) = None

abbrev pub goes_or_on : Option ℕ → Frame → List Frame → List Cell → Step
goes_or_on None f lower left = leaves f lower left
goes_or_on (Some i) f lower left = goes i f lower left

abbrev pub branch : List ℕ → Frame → List Frame → List Cell → Cell → Step
branch targets f lower left (Fixed len x) = goes_or_on (target_of targets x) f lower left
branch targets f lower left x = Missing

-- the three cells of a loop are its control, its step and its limit
abbrev pub loop_cells : Frame → ℕ → (ℕ → ℤ → ℤ → ℤ → Step) → Step
loop_cells f c go = given (slice_get f.cells c) (λ x. given (slice_get f.cells (c + 1)) (λ y. given (slice_get f.cells (c + 2)) (λ z. of_cells x y z go)))
  where
    of_cells : Cell → Cell → Cell → (ℕ → ℤ → ℤ → ℤ → Step) → Step
    of_cells (Fixed len control) (Fixed other step) (Fixed another limit) go = go len control step limit
    of_cells x y z go = Missing

-- the control is above the limit and the step isn't negative, or it is below the limit and the step is negative
abbrev pub is_past : ℤ → ℤ → ℤ → Bool
is_past control step limit = (int_lt limit control && int_le (pos 0) step) || (int_lt control limit && int_lt step (pos 0))

abbrev pub within_loop : ℕ → Frame → List Frame → Step
within_loop c f lower = loop_cells f c (λ len control step limit. leaves f lower (Bits 1 (if is_past control step limit then 0 else 1) ∷ f.operands))

-- the step is added to the control; where the sum leaves its kind, nothing is changed, and i comes next
abbrev pub advance : ℕ → ℕ → Frame → List Frame → Step
advance c i f lower = loop_cells f c (λ len control step limit.
    if fits_fixed len (control +ℤ step) then leaves (put f c (Fixed len (control +ℤ step))) lower f.operands else goes i f lower f.operands)

-- what is unset of the kind; only a parameter is a reference
abbrev pub fresh : CellKind → Cell
fresh (Plain kind) = blank_of kind
fresh (RefTo kind) = blank_of kind

-- a frame of procedure p on its caller: its first cells are the arguments in the order in which they were pushed, the others are unset
abbrev pub called : ℕ → Procedure → List Frame → List Cell → List Frame
called p callee frames operands =
    record {
      routine = p;
      place = 0;
      cells = reverse (take callee.params operands) ++ map fresh (drop callee.params callee.code.cells);
      operands = [];
    } ∷ without callee.params frames

abbrev pub call : ℕ → Option Procedure → Frame → List Frame → Step
call p callee f lower = given callee (λ procedure.
    needed (nat_le procedure.params (length f.operands)) (Offers Enter (λ answer. called p procedure (f ∷ lower) f.operands)))

-- back at the caller, behind its Call, with what is returned on its operands
abbrev pub returned : List Frame → List Cell → Step
returned [] results = Missing
returned (g ∷ lower) results = leaves g lower (results ++ g.operands)

-- the result of a procedure, where it has one
abbrev pub returns : Option Kind → Frame → List Frame → Step
returns None f lower = returned lower []
returns (Some kind) f lower = popped f.operands (λ x left. returned lower (x ∷ []))
