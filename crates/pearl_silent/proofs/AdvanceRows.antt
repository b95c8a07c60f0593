-- The rows of Advance and NonZero.
use Rattle.std.proofs.Common.{◌≡◌, ℕ, ◌+◌, ◌<◌, List, [], ◌∷◌, Option, Some, None, length, slice_get, refl, sym, ap, ◌∙◌, Bool, true, false, pos}
use Rattle.std.specs.Prelude.{ℤ, ◌+ℤ◌, IsSome, if◌then◌else◌, option_and_then}
use Rattle.std.specs.Ordering.{int_eq}
use Rattle.std.specs.List.{AllByRecursion}
use Rattle.std.proofs.lemmas.Option.{same_Some}
use Rattle.pearl_value.specs.declared.cell.Cell.{Cell}
use Rattle.pearl_value.specs.declared.cell.Cell.TheVariants.{Fixed, Bits, Chars, Clock, Span, Ref}
use Rattle.pearl_value.specs.declared.trap.Trap.{Trap}
use Rattle.pearl_value.specs.declared.trap.Trap.TheVariants.{Range}
use Rattle.pearl_value.specs.Conversions.{fits_fixed}
use Rattle.pearl_value.specs.WellFormed.{IsValue}
use Rattle.pearl_rules.specs.declared.action.Action.TheVariants as action
use Rattle.pearl_stack.specs.Frames.{Frame, top_operands, moved}
use Rattle.pearl_instructions.specs.Steps as step
use Rattle.pearl_instructions.specs.Steps.{Step, Silent, Offers, given, leaves, traps}
use Rattle.pearl_instructions.specs.Cells.{put}
use Rattle.pearl_instructions.specs.Flow.{advance, goes}
use Rattle.pearl_instructions.specs.Operators.{number_of, non_zero}
use Rattle.pearl_silent.specs.Advances.{advanced, null_trap}
use Rattle.pearl_silent.specs.Numbers.{HasLoop}
use Rattle.pearl_silent.specs.Steps.{on_top, next_of, Applies, IsFormed, top_cells, with_top_cell, left_on}
use Rattle.pearl_silent.proofs.Applied.{one_there}
use Rattle.pearl_silent.proofs.Filling.{all_given}
use Rattle.pearl_silent.proofs.LoopRows.{fixed_at, loop_is}

-- the control is a value
formed_value : (x : Cell) (len : ℕ) (n : ℤ) → x ≡ Fixed len n → IsFormed x → IsValue x
formed_value (Fixed len n) l m e is = is
formed_value (Bits len n) l m e is = is
formed_value (Chars text) l m e is = is
formed_value (Clock time) l m e is = is
formed_value (Span time) l m e is = is
formed_value (Ref kind place) l m e is = cc

pub control_value : (frames : List Frame) (c : ℕ) (x : Cell) → HasLoop c frames → AllByRecursion IsFormed (top_cells frames) → slice_get (top_cells frames) c ≡ Some x → IsValue x
control_value frames c x has all e =
    let one = fixed_at (slice_get (top_cells frames) c) x has.control e in
    formed_value x one.0 one.1 one.2 (all_given IsFormed (top_cells frames) c x all e)

-- the two ways of an Advance

abbrev chosen : Frame → List Frame → ℕ → ℕ → ℕ → ℤ → Step
chosen f lower c i len sum = if fits_fixed len sum then leaves (put f c (Fixed len sum)) lower f.operands else goes i f lower f.operands

some_way : (f : Frame) (lower : List Frame) (c i len : ℕ) (sum : ℤ) (z : Cell) (b : Bool) → fits_fixed len sum ≡ b → (if b then Some (Fixed len sum) else None) ≡ Some z →
    chosen f lower c i len sum ≡ leaves (put f c z) lower f.operands
some_way f lower c i len sum z true t e = rw t (ap (λ z. leaves (put f c z) lower f.operands) (same_Some (Fixed len sum) z e))
some_way f lower c i len sum z false t e = cc

none_way : (f : Frame) (lower : List Frame) (c i len : ℕ) (sum : ℤ) (b : Bool) → fits_fixed len sum ≡ b → (if b then Some (Fixed len sum) else None) ≡ None →
    chosen f lower c i len sum ≡ goes i f lower f.operands
none_way f lower c i len sum true t e = cc
none_way f lower c i len sum false t e = rw t refl

advanced_is : (x y : Cell) (l m : ℕ) (a b : ℤ) → x ≡ Fixed l a → y ≡ Fixed m b → advanced x y ≡ (if fits_fixed l (a +ℤ b) then Some (Fixed l (a +ℤ b)) else None)
advanced_is x y l m a b d e = rw (d, e) refl

pub record Advances (frames : List Frame) (c i : ℕ) (next : Option Cell) : Type 0 where
  pub some : (z : Cell) → next ≡ Some z → on_top (λ f lower. advance c i f lower) frames ≡ Silent (next_of (with_top_cell c z frames))
  pub none : next ≡ None → on_top (λ f lower. advance c i f lower) frames ≡ Silent (moved i frames)

pub advances : (frames : List Frame) (c i : ℕ) (x y : Cell) → HasLoop c frames → slice_get (top_cells frames) c ≡ Some x →
    slice_get (top_cells frames) (c + 1) ≡ Some y → Advances frames c i (advanced x y)
advances [] c i x y has d e = cc
advances (f ∷ lower) c i x y has d e =
    let one = fixed_at (slice_get f.cells c) x has.control d in
    let two = fixed_at (slice_get f.cells (c + 1)) y has.step e in
    let third = some_cell (slice_get f.cells (c + 2)) has.limit in
    let sum : ℤ = one.1 +ℤ two.1 in
    let next = advanced_is x y one.0 two.0 one.1 two.1 one.2 two.2 in
    let row : advance c i f lower ≡ chosen f lower c i one.0 sum =
    loop_is f c one.0 two.0 third.0 one.1 two.1 third.1
    (λ len control step limit. if fits_fixed len (control +ℤ step) then leaves (put f c (Fixed len (control +ℤ step))) lower f.operands else goes i f lower f.operands)
    (d ∙ ap Some one.2) (e ∙ ap Some two.2) third.2 in
    record {
      some = λ z h. row ∙ some_way f lower c i one.0 sum z (fits_fixed one.0 sum) refl (sym next ∙ h);
      none = λ h. row ∙ none_way f lower c i one.0 sum (fits_fixed one.0 sum) refl (sym next ∙ h);
    }
  where
    some_cell : (o : Option Cell) → IsSome (option_and_then number_of o) → (len : ℕ) × (n : ℤ) × (o ≡ Some (Fixed len n))
    some_cell None some = cc
    some_cell (Some (Fixed len n)) some = (len, n, refl)
    some_cell (Some (Bits len n)) some = cc
    some_cell (Some (Chars text)) some = cc
    some_cell (Some (Clock time)) some = cc
    some_cell (Some (Span time)) some = cc
    some_cell (Some (Ref kind place)) some = cc

-- NonZero

abbrev tested : Frame → List Frame → Option Trap → Step
tested f lower None = leaves f lower f.operands
tested f lower (Some trap) = traps trap f lower

tested_if : (f : Frame) (lower : List Frame) (b : Bool) → (if b then traps Range f lower else leaves f lower f.operands) ≡ tested f lower (if b then Some Range else None)
tested_if f lower true = refl
tested_if f lower false = refl

non_zero_by : (f : Frame) (lower : List Frame) (room : ℕ) (x : Cell) →
    Applies (given (number_of x) (λ n. if int_eq n (pos 0) then traps Range f lower else leaves f lower f.operands)) room →
    given (number_of x) (λ n. if int_eq n (pos 0) then traps Range f lower else leaves f lower f.operands) ≡ tested f lower (null_trap x)
non_zero_by f lower room (Fixed len n) a = tested_if f lower (int_eq n (pos 0))
non_zero_by f lower room (Bits len n) a = absurd a
non_zero_by f lower room (Chars text) a = absurd a
non_zero_by f lower room (Clock time) a = absurd a
non_zero_by f lower room (Span time) a = absurd a
non_zero_by f lower room (Ref kind place) a = absurd a

non_zero_at : (f : Frame) (lower : List Frame) (room : ℕ) (xs : List Cell) (x : Cell) →
    Applies (step.popped xs (λ x left. given (number_of x) (λ n. if int_eq n (pos 0) then traps Range f lower else leaves f lower f.operands))) room → slice_get xs 0 ≡ Some x →
    step.popped xs (λ x left. given (number_of x) (λ n. if int_eq n (pos 0) then traps Range f lower else leaves f lower f.operands)) ≡ tested f lower (null_trap x)
non_zero_at f lower room [] x a e = absurd a
non_zero_at f lower room (y ∷ left) x a e = non_zero_by f lower room y a ∙ ap (λ x. tested f lower (null_trap x)) (same_Some y x e)

pub null_traps : (frames : List Frame) (room : ℕ) (x : Cell) (trap : Trap) → Applies (on_top (λ f lower. non_zero f lower) frames) room →
    slice_get (top_operands frames) 0 ≡ Some x → null_trap x ≡ Some trap → on_top (λ f lower. non_zero f lower) frames ≡ Offers (action.Trap trap) (λ answer. frames)
null_traps [] room x trap a e t = absurd a
null_traps (f ∷ lower) room x trap a e t = non_zero_at f lower room f.operands x a e ∙ ap (tested f lower) t

pub other_stays : (frames : List Frame) (room : ℕ) (x : Cell) → Applies (on_top (λ f lower. non_zero f lower) frames) room → slice_get (top_operands frames) 0 ≡ Some x →
    null_trap x ≡ None → on_top (λ f lower. non_zero f lower) frames ≡ left_on 0 frames
other_stays [] room x a e t = absurd a
other_stays (f ∷ lower) room x a e t = non_zero_at f lower room f.operands x a e ∙ ap (tested f lower) t

pub non_zero_there : (frames : List Frame) (room : ℕ) → Applies (on_top (λ f lower. non_zero f lower) frames) room → 0 < length (top_operands frames)
non_zero_there frames room a =
    one_there frames (λ f lower x left. given (number_of x) (λ n. if int_eq n (pos 0) then traps Range f lower else leaves f lower f.operands)) room a
