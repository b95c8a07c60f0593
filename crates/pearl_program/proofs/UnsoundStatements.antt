-- Statements that are not sound, and beside each the one at its edge that is: their numbers, devices, formats and kinds.
use Rattle.std.specs.Prelude.{◌≡◌, ℕ, ◌≤◌, nat_eq, List, [], ◌∷◌, Some, None, slice_get}
use Rattle.std.specs.List.{IsDistinct}
use Rattle.std.proofs.Common.{inl, refl, ap, sym, subst, arith, true≢false}
use Rattle.std.proofs.lemmas.Option.{none-some}
use Rattle.pearl_value.specs.declared.kind.Kind.{Kind}
use Rattle.pearl_value.specs.declared.kind.Kind.TheVariants.{Fixed, Bits}
use Rattle.pearl_value.specs.declared.kind.CellKind.TheVariants.{Plain, RefTo}
use Rattle.pearl_value.specs.declared.cell.Cell.TheVariants as cell
use Rattle.pearl_value.specs.Conversions.{SuitsKind}
use Rattle.pearl_format.specs.declared.item.ItemCode.TheVariants.{F}
use Rattle.pearl_format.specs.Items.{Suits}
use Rattle.pearl_value.specs.declared.device.Direction.TheVariants.{In, Out}
use Rattle.pearl_value.specs.declared.device.Device.{Device}
use Rattle.pearl_value.specs.declared.device.Device.TheVariants.{Interrupt, Terminal, Input, Output}
use Rattle.pearl_program.specs.PlainExpressions.{PlainExpr, OfLiteral, OfRead, NoExprs, MoreExprs, OfValue, OfIdent, NoArguments}
use Rattle.pearl_program.specs.PlainStatements.{PlainStmt, OfCallOf, OfWhen, OfExit, OfReturn, OfActivate, OfRequest, OfPut, OfGet, OfSend, OfTake}
use Rattle.pearl_program.specs.Typing.{Signature, Around, HasKind, IsVariable, Suit, SuitsParam, HaveKinds}
use Rattle.pearl_program.specs.SoundStatements.{IsOutput, IsStmt}
use Rattle.pearl_program.proofs.OneKind.{some_one, one_kind, one_variable}
use Rattle.pearl_program.proofs.WholeProgram.{short, number, alone, around_task, around_procedure, free, value_is}
use Rattle.pearl_program.proofs.Unsound.{around_body}

abbrev len_of : Kind → ℕ
len_of (Fixed len) = len
len_of kind = 0

-- in the loop of the whole program, with this device instead of the terminal
abbrev with_device : Device → Around
with_device device = record around_body { devices = device ∷ [] }

one_is : (device : Device) → HasKind (with_device device) (number 1) short
one_is device = value_is 1 (omega arith)

n_is : (device : Device) → IsVariable (with_device device) (alone 0) short
n_is device = ((refl, free), refl, tt)

-- PUT 1 TO the device BY F(3);
abbrev put : (format : ℕ) → PlainExpr → PlainStmt
put format value = OfPut (MoreExprs value NoExprs) 0 format

put_out : IsStmt (with_device (Terminal 1 Out)) (put 0 (number 1))
put_out = (tt, short ∷ [], (one_is (Terminal 1 Out), tt), record { suits = (omega arith, tt); few = omega arith; short = omega arith })

put_in : IsStmt (with_device (Terminal 1 In)) (put 0 (number 1)) → ⊥
put_in is = is.0

put_on_interrupt : IsStmt (with_device (Interrupt 1)) (put 0 (number 1)) → ⊥
put_on_interrupt is = is.0

-- there is one format
put_beyond : IsStmt (with_device (Terminal 1 Out)) (put 1 (number 1)) → ⊥
put_beyond is = is.3

-- there is no second device
put_nowhere : IsStmt (with_device (Terminal 1 Out)) (OfPut (MoreExprs (number 1) NoExprs) 1 0) → ⊥
put_nowhere is = is.0

-- GET n FROM the device BY F(3);
abbrev get : (cell : ℕ) → PlainStmt
get cell = OfGet (alone 0 ∷ []) 0 0 cell

get_in : IsStmt (with_device (Terminal 1 In)) (get 4)
get_in =
    (tt, short ∷ [], (n_is (Terminal 1 In), tt), record { suits = (omega arith, tt); few = omega arith; short = omega arith }, refl)

get_out : IsStmt (with_device (Terminal 1 Out)) (get 4) → ⊥
get_out is = is.0

-- TAKE n FROM the device;
take_input : IsStmt (with_device (Input 1 short)) (OfTake (alone 0) 0)
take_input = (short, short, refl, n_is (Input 1 short), tt)

take_output : IsStmt (with_device (Output 1 short)) (OfTake (alone 0) 0) → ⊥
take_output is = is.2

-- SEND 1 TO the device;
send_number : IsStmt (with_device (Output 1 short)) (OfSend (number 1) 0)
send_number = (short, refl, (short, one_is (Output 1 short), tt))

send_input : IsStmt (with_device (Input 1 short)) (OfSend (number 1) 0) → ⊥
send_input is = is.1

-- ACTIVATE: there is one task
activate_first : IsStmt around_task (OfActivate 0 None None None)
activate_first = record { named = omega arith; starts = tt; repeats = tt; urgent = tt }

activate_second : IsStmt around_task (OfActivate 1 None None None) → ⊥
activate_second is = let less = is.named in omega (arith, less)

-- WHEN
when_interrupt : IsStmt (with_device (Interrupt 1)) (OfActivate 0 (Some (OfWhen 0)) None None)
when_interrupt = record { named = omega arith; starts = tt; repeats = tt; urgent = tt }

when_terminal : IsStmt (with_device (Terminal 1 In)) (OfActivate 0 (Some (OfWhen 0)) None None) → ⊥
when_terminal is = is.starts

-- two semaphores
abbrev around_two : Around
around_two = record around_task { semaphores = 2 }

request_both : IsStmt around_two (OfRequest (0 ∷ 1 ∷ []))
unfolding IsDistinct
request_both = record {
  some = omega arith;
  few = omega arith;
  distinct = ((refl, tt), (tt, tt));
  there = (omega arith, (omega arith, tt));
}

request_twice : IsStmt around_two (OfRequest (0 ∷ 0 ∷ [])) → ⊥
unfolding IsDistinct
request_twice is = true≢false is.distinct.0.0

request_third : IsStmt around_two (OfRequest (0 ∷ 2 ∷ [])) → ⊥
request_third is = let less = is.there.1.0 in omega (arith, less)

-- RETURN
return_procedure : IsStmt around_procedure (OfReturn None)
return_procedure = tt

return_value : IsStmt around_procedure (OfReturn (Some (number 1))) → ⊥
return_value is = is

return_task : IsStmt around_task (OfReturn None) → ⊥
return_task is = is

-- in a procedure with RETURNS(FIXED(31))
abbrev around_returns : Around
around_returns = record around_procedure { returns = Some (Some short) }

return_one : IsStmt around_returns (OfReturn (Some (number 1)))
return_one = (short, value_is 1 (omega arith), tt)

return_none : IsStmt around_returns (OfReturn None) → ⊥
return_none is = is

-- EXIT
exit_loop : IsStmt around_body OfExit
exit_loop = refl

exit_task : IsStmt around_task OfExit → ⊥
exit_task is = true≢false (sym is)

-- CALL: there is one procedure, with one parameter
call_without : IsStmt around_task (OfCallOf 0 NoArguments) → ⊥
call_without is = subst (λ (signature : Signature). Suit around_task signature.params NoArguments) (sym (some_one is.1)) is.2

call_second : IsStmt around_task (OfCallOf 1 NoArguments) → ⊥
call_second is = none-some is.0 is.1

-- a FIXED(15), which is handed over for a FIXED(31), but not for one with IDENT
abbrev around_fifteen : Around
around_fifteen = record around_task { cells = Plain (Fixed 15) ∷ []; hidden = [] }

fifteen : IsVariable around_fifteen (alone 0) (Fixed 15)
fifteen = ((refl, tt), refl, tt)

hand_value : SuitsParam around_fifteen (Plain short) (OfValue (OfRead (alone 0)))
hand_value = (Fixed 15, inl fifteen, tt)

hand_same : SuitsParam around_fifteen (RefTo (Fixed 15)) (OfIdent (alone 0))
hand_same = fifteen

hand_longer : SuitsParam around_fifteen (RefTo short) (OfIdent (alone 0)) → ⊥
hand_longer is = true≢false (ap (λ kind. nat_eq (len_of kind) 31) (one_variable around_fifteen (alone 0) short (Fixed 15) is fifteen))

-- a BIT(1) for a BIT(2), but not the other way, nor a number for either
abbrev bit : PlainExpr
bit = OfLiteral (cell.Bits 1 1)

bit_is : (around : Around) → HasKind around bit (Bits 1)
bit_is around = record { is_value = ((omega arith, omega arith), omega arith); same_kind = refl }

send_shorter : IsStmt (with_device (Output 1 (Bits 2))) (OfSend bit 0)
send_shorter = (Bits 2, refl, (Bits 1, bit_is (with_device (Output 1 (Bits 2))), omega arith))

abbrev pair : PlainExpr
pair = OfLiteral (cell.Bits 2 1)

pair_is : (around : Around) → HasKind around pair (Bits 2)
pair_is around = record { is_value = ((omega arith, omega arith), omega arith); same_kind = refl }

-- what is sent to an output of this kind suits it
sends : (around : Around) (of from : Kind) (value : PlainExpr) → around.devices ≡ Output 1 of ∷ [] → HasKind around value from →
    IsStmt around (OfSend value 0) → SuitsKind from of
sends around of from value is has sound =
    let output = subst (λ devices. IsOutput (slice_get devices 0) sound.0) is sound.1 in
    subst (λ kind. SuitsKind from kind) (sym output)
    (subst (λ kind. SuitsKind kind sound.0) (one_kind around value sound.2.0 from sound.2.1 has) sound.2.2)

send_longer : IsStmt (with_device (Output 1 (Bits 1))) (OfSend pair 0) → ⊥
send_longer is =
    let around = with_device (Output 1 (Bits 1)) in
    let less : 2 ≤ 1 = sends around (Bits 1) (Bits 2) pair refl (pair_is around) is in omega (arith, less)

send_bit : IsStmt (with_device (Output 1 short)) (OfSend bit 0) → ⊥
send_bit is =
    let around = with_device (Output 1 short) in sends around short (Bits 1) bit refl (bit_is around) is

-- F takes a number
put_bit : IsStmt (with_device (Terminal 1 Out)) (put 0 bit) → ⊥
put_bit is = by is.1 is.2 is.3.suits
  where
    by : (kinds : List Kind) → HaveKinds (with_device (Terminal 1 Out)) (MoreExprs bit NoExprs) kinds →
        Suits (record { code = F; width = 3 } ∷ []) kinds → ⊥
    by [] has suits = has
    by (kind ∷ []) has suits =
        (subst (λ k. Suits (record { code = F; width = 3 } ∷ []) (k ∷ []))
        (one_kind (with_device (Terminal 1 Out)) bit kind (Bits 1) has.0 (bit_is (with_device (Terminal 1 Out)))) suits).0
    by (kind ∷ more ∷ rest) has suits = has.1
