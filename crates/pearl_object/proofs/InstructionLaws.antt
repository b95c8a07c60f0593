-- Instructions are read as they are spelled.
use Rattle.std.proofs.Common.{◌≡◌, ℕ, ◌+◌, ◌-◌, ◌^◌, ◌≤◌, Bool, true, false, List, [], ◌∷◌, None, refl, ap, subst, arith}
use Rattle.std.proofs.lemmas.Bool.{leb-false}
use Rattle.std.specs.Prelude.{nat_le}
use Rattle.pearl_value.specs.declared.operator.Monad.TheVariants as monads
use Rattle.pearl_value.specs.declared.operator.Dyad.TheVariants as dyads
use Rattle.pearl_instructions.specs.declared.instr.Instr.{Instr}
use Rattle.pearl_instructions.specs.declared.instr.Instr.TheVariants as instrs
use Rattle.pearl_fields.specs.Codec.{Codec, pair, number, byte_in, within, list_of, arm_at}
use Rattle.pearl_fields.proofs.Offered.{IsTold, byte_told, pair_told, keyed_told, IsArm, AreArms, arm_of, made_arm, number_told, list_told}
use Rattle.pearl_object.specs.Lists.{each}
use Rattle.pearl_object.specs.Kinds.{kind}
use Rattle.pearl_object.specs.Literals.{literal}
use Rattle.pearl_object.specs.Operands.{bounds, flag, trap, once, maybe_once, start, repetition}
use Rattle.pearl_object.specs.Instructions.{Operand, OfNumber, row, op, opcode_of, number_in_row, two_in_row, kind_in_row, literal_in_row, numbers_in_row, bounds_in_row, cause_in_row, once_in_row, fill_in_row, fill_fields, activation_in_row, activation_fields, made_activation, continuation_in_row, continuation_fields, made_continuation, reading_in_row, reading_fields, made_reading, from_row, one_number, two_numbers, on_cells, on_variables, on_flow, operators, on_tasks, on_devices, chosen, operands_at, instr}
use Rattle.pearl_object.proofs.Parts.{◌&◌, single, each_told, kind_told, literal_told}
use Rattle.pearl_object.proofs.OperandLaws.{bounds_told, flag_told, trap_told, once_told, maybe_told, start_told, repeat_told}

two_told : IsTold (pair number (λ (n : ℕ). number))
two_told = pair_told number (λ n. number) number_told (λ n. number_told)

fill_told : IsTold fill_fields
fill_told =
    pair_told number (λ first. pair number (λ count. kind None)) number_told (λ first. pair_told number (λ count. kind None) number_told (λ count. kind_told None))

activation_told : IsTold activation_fields
activation_told =
    pair_told number (λ task. pair start (λ form. pair repetition (λ again. flag))) number_told (λ task.
    pair_told start (λ form. pair repetition (λ again. flag)) start_told (λ form.
    pair_told repetition (λ again. flag) repeat_told (λ again. flag_told)))

continuation_told : IsTold continuation_fields
continuation_told = pair_told number (λ task. maybe_once) number_told (λ task. maybe_told)

reading_told : IsTold reading_fields
reading_told = pair_told number (λ device. pair number (λ format. number)) number_told (λ device. two_told)

one_row : (t : ℕ) (make : ℕ → Instr) → ((n : ℕ) → row (make n) ≡ op t (OfNumber n ∷ [])) → IsArm opcode_of t (one_number make)
one_row t make is = made_arm opcode_of t (λ i. number_in_row (row i).operands) make number number_told (λ a. ap (λ r. number_in_row r.operands) (is a)) (λ a. ap (λ r. r.opcode) (is a))

two_row : (t : ℕ) (make : ℕ → ℕ → Instr) → ((m n : ℕ) → row (make m n) ≡ op t (OfNumber m ∷ OfNumber n ∷ [])) → IsArm opcode_of t (two_numbers make)
two_row t make is =
    made_arm opcode_of t (λ i. two_in_row (row i).operands) (λ p. make p.0 p.1) (pair number (λ n. number)) two_told (λ a. ap (λ r. two_in_row r.operands) (is a.0 a.1)) (λ a. ap (λ r. r.opcode) (is a.0 a.1))

made_row : {A : Type 0} (t : ℕ) (take : List Operand → A) (make : A → Instr) (c : Codec A) → IsTold c → ((a : A) → take (row (make a)).operands ≡ a) → ((a : A) → opcode_of (make a) ≡ t) → IsArm opcode_of t (from_row take make c)
made_row t take make c l back is = made_arm opcode_of t (λ i. take (row i).operands) make c l back is

on_cells_are : AreArms opcode_of 0 on_cells
on_cells_are =
    made_row 0 literal_in_row instrs.Const (literal None) (literal_told None) (λ a. refl) (λ a. refl)
    & one_row 1 instrs.Load (λ n. refl)
    & one_row 2 instrs.Store (λ n. refl)
    & made_row 3 fill_in_row (λ p. instrs.Fill p.0 p.1.0 p.1.1) fill_fields fill_told (λ a. refl) (λ a. refl)
    & single opcode_of 4 instrs.Drop refl
    & made_row 5 kind_in_row instrs.Conv (kind None) (kind_told None) (λ a. refl) (λ a. refl)
    & made_row 6 bounds_in_row instrs.Index (each bounds) (each_told 0 (2 ^ 64 - 1) bounds bounds_told) (λ a. refl) (λ a. refl)
    & two_row 7 instrs.LoadAt (λ m n. refl)
    & two_row 8 instrs.StoreAt (λ m n. refl)
    & tt

on_variables_are : AreArms opcode_of 9 on_variables
on_variables_are =
    one_row 9 instrs.Read (λ n. refl)
    & one_row 10 instrs.Write (λ n. refl)
    & one_row 11 instrs.ReadAt (λ n. refl)
    & one_row 12 instrs.WriteAt (λ n. refl)
    & one_row 13 instrs.RefSlot (λ n. refl)
    & one_row 14 instrs.RefSlotAt (λ n. refl)
    & one_row 15 instrs.RefCell (λ n. refl)
    & two_row 16 instrs.RefCellAt (λ m n. refl)
    & single opcode_of 17 instrs.ReadRef refl
    & single opcode_of 18 instrs.WriteRef refl
    & tt

on_flow_are : AreArms opcode_of 19 on_flow
on_flow_are =
    one_row 19 instrs.Jump (λ n. refl)
    & one_row 20 instrs.JumpZero (λ n. refl)
    & made_row 21 numbers_in_row instrs.Case (list_of number) (list_told number number_told) (λ a. refl) (λ a. refl)
    & single opcode_of 22 instrs.Turn refl
    & one_row 23 instrs.Call (λ n. refl)
    & single opcode_of 24 instrs.Return refl
    & single opcode_of 25 instrs.End refl
    & made_row 26 cause_in_row instrs.Trap trap trap_told (λ a. refl) (λ a. refl)
    & one_row 27 instrs.Within (λ n. refl)
    & two_row 28 instrs.Advance (λ m n. refl)
    & single opcode_of 29 instrs.NonZero refl
    & tt

operators_are : AreArms opcode_of 30 operators
operators_are =
    single opcode_of 30 (instrs.Monadic monads.Plus) refl
    & single opcode_of 31 (instrs.Monadic monads.Minus) refl
    & single opcode_of 32 (instrs.Monadic monads.Abs) refl
    & single opcode_of 33 (instrs.Monadic monads.Sign) refl
    & single opcode_of 34 (instrs.Monadic monads.Not) refl
    & single opcode_of 35 (instrs.Dyadic dyads.Pow) refl
    & single opcode_of 36 (instrs.Dyadic dyads.Mul) refl
    & single opcode_of 37 (instrs.Dyadic dyads.Div) refl
    & single opcode_of 38 (instrs.Dyadic dyads.Rem) refl
    & single opcode_of 39 (instrs.Dyadic dyads.Cat) refl
    & single opcode_of 40 (instrs.Dyadic dyads.Add) refl
    & single opcode_of 41 (instrs.Dyadic dyads.Sub) refl
    & single opcode_of 42 (instrs.Dyadic dyads.Cshift) refl
    & single opcode_of 43 (instrs.Dyadic dyads.Shift) refl
    & single opcode_of 44 (instrs.Dyadic dyads.Lt) refl
    & single opcode_of 45 (instrs.Dyadic dyads.Gt) refl
    & single opcode_of 46 (instrs.Dyadic dyads.Le) refl
    & single opcode_of 47 (instrs.Dyadic dyads.Ge) refl
    & single opcode_of 48 (instrs.Dyadic dyads.Eq) refl
    & single opcode_of 49 (instrs.Dyadic dyads.Ne) refl
    & single opcode_of 50 (instrs.Dyadic dyads.And) refl
    & single opcode_of 51 (instrs.Dyadic dyads.Or) refl
    & single opcode_of 52 (instrs.Dyadic dyads.Exor) refl
    & tt

on_tasks_are : AreArms opcode_of 53 on_tasks
on_tasks_are =
    single opcode_of 53 instrs.Now refl
    & made_row 54 numbers_in_row instrs.Request (list_of number) (list_told number number_told) (λ a. refl) (λ a. refl)
    & made_row 55 numbers_in_row instrs.Release (list_of number) (list_told number number_told) (λ a. refl) (λ a. refl)
    & one_row 56 instrs.Try (λ n. refl)
    & made_row 57 activation_in_row made_activation activation_fields activation_told (λ a. refl) (λ a. refl)
    & made_row 58 continuation_in_row made_continuation continuation_fields continuation_told (λ a. refl) (λ a. refl)
    & made_row 59 once_in_row instrs.Resume once once_told (λ a. refl) (λ a. refl)
    & one_row 60 instrs.Suspend (λ n. refl)
    & one_row 61 instrs.Terminate (λ n. refl)
    & one_row 62 instrs.Prevent (λ n. refl)
    & single opcode_of 63 instrs.SuspendOwn refl
    & single opcode_of 64 instrs.TerminateOwn refl
    & single opcode_of 65 instrs.PreventOwn refl
    & tt

on_devices_are : AreArms opcode_of 66 on_devices
on_devices_are =
    one_row 66 instrs.Enable (λ n. refl)
    & one_row 67 instrs.Disable (λ n. refl)
    & one_row 68 instrs.Trigger (λ n. refl)
    & two_row 69 instrs.Put (λ m n. refl)
    & made_row 70 reading_in_row made_reading reading_fields reading_told (λ a. refl) (λ a. refl)
    & one_row 71 instrs.Take (λ n. refl)
    & one_row 72 instrs.Send (λ n. refl)
    & tt

-- the arm of a group whose first opcode is `low`
in_group : (low t : ℕ) (arms : List (Codec Instr)) → AreArms opcode_of low arms → low ≤ t → IsArm opcode_of t (arm_at arms (t - low))
in_group low t arms are le =
    let same : low + (t - low) ≡ t = omega (arith, le) in
    subst (λ n. IsArm opcode_of n (arm_at arms (t - low))) same (arm_of opcode_of low arms are (t - low))

either : (t : ℕ) (b : Bool) (c d : Codec Instr) → (b ≡ true → IsArm opcode_of t c) → (b ≡ false → IsArm opcode_of t d) → IsArm opcode_of t (chosen b c d)
either t true c d f g = f refl
either t false c d f g = g refl

operands_arm : (t : ℕ) → IsArm opcode_of t (operands_at t)
unfolding operands_at
operands_arm t =
    either t (nat_le t 8) _ _ (λ e. let same : 0 + t ≡ t = omega arith in subst (λ n. IsArm opcode_of n (arm_at on_cells t)) same (arm_of opcode_of 0 on_cells on_cells_are t)) (λ e1.
    either t (nat_le t 18) _ _ (λ e. in_group 9 t on_variables on_variables_are (leb-false t 8 e1)) (λ e2.
    either t (nat_le t 29) _ _ (λ e. in_group 19 t on_flow on_flow_are (leb-false t 18 e2)) (λ e3.
    either t (nat_le t 52) _ _ (λ e. in_group 30 t operators operators_are (leb-false t 29 e3)) (λ e4.
    either t (nat_le t 65) _ _ (λ e. in_group 53 t on_tasks on_tasks_are (leb-false t 52 e4)) (λ e5.
    in_group 66 t on_devices on_devices_are (leb-false t 65 e5))))))

pub instr_told : IsTold instr
unfolding instr
instr_told =
    keyed_told opcode_of (byte_in 0 72) operands_at (byte_told (within 0 72)) (λ t. (operands_arm t).told) (λ t x h. (operands_arm t).tagged x h)
