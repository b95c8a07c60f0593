-- Operands and instructions that are as each object is to be, and that have bytes, are spelled.
use Rattle.std.proofs.Common.{◌≡◌, ℕ, suc, ◌≤◌, ◌<◌, ◌-◌, ◌^◌, ◌++◌, Bool, true, false, List, [], ◌∷◌, length, Option, Some, None, ℤ, pos, negsuc, ◌≤ℤ◌, refl, arith}
use Rattle.std.proofs.lemmas.Int.{ints}
use Rattle.std.proofs.lemmas.Bool.{ltb-true}
use Rattle.std.specs.List.{AllByRecursion}
use Rattle.pearl_value.specs.declared.trap.Trap.{Trap as Cause}
use Rattle.pearl_value.specs.declared.trap.Trap.TheVariants as traps
use Rattle.pearl_value.specs.declared.operator.Monad.TheVariants as monads
use Rattle.pearl_value.specs.declared.operator.Dyad.TheVariants as dyads
use Rattle.pearl_instructions.specs.declared.schedule.OnceForm.{OnceForm}
use Rattle.pearl_instructions.specs.declared.schedule.OnceForm.TheVariants as once_form
use Rattle.pearl_instructions.specs.declared.schedule.StartForm.{StartForm}
use Rattle.pearl_instructions.specs.declared.schedule.StartForm.TheVariants as start_form
use Rattle.pearl_instructions.specs.declared.schedule.RepeatForm.{RepeatForm}
use Rattle.pearl_instructions.specs.declared.schedule.RepeatForm.TheVariants as repeat_form
use Rattle.pearl_instructions.specs.declared.instr.Bounds.{Bounds}
use Rattle.pearl_instructions.specs.declared.instr.Instr.{Instr}
use Rattle.pearl_instructions.specs.declared.instr.Instr.TheVariants as instrs
use Rattle.pearl_instructions.specs.Lawful.{IsInstr}
use Rattle.pearl_fields.specs.Codec.{Codec, counted, rolled_fit, all_bytes, number, number_bytes, signed_in, list_of, IsBytes}
use Rattle.pearl_fields.proofs.Offered.{bytes_before, bytes_behind, number_in_bytes, spelled_in_bytes}
use Rattle.pearl_object.specs.declared.states.Alone.{Alone}
use Rattle.pearl_object.specs.Lists.{alone, each, each_in}
use Rattle.pearl_object.specs.Kinds.{kind}
use Rattle.pearl_object.specs.Operands.{has_32_bits, least_bound, greatest_bound, bound, bounds, flag, trap, once, maybe_once, start, repetition}
use Rattle.pearl_object.specs.Instructions.{row, row_bytes, instr, operands_at}
use Rattle.pearl_object.proofs.Ranges.{is_within, signed_fits, plain_kind_fits, literal_fits}

-- ---- lists

-- members that are as the parts say, and have bytes, are spelled, whatever is known before them
module _ {S X : Type 0} (c : S → Codec X) (next : S → X → S) (spelled : X → List ℕ) (Known : S → Type 0) (keeps : (s : S) (x : X) → Known s → Known (next s x)) (P : X → Type 0) (fit : (s : S) (x : X) → Known s → P x → IsBytes (spelled x) → (c s).fits x) where
  pub members_fit : (s : S) (xs : List X) → Known s → AllByRecursion P xs → IsBytes (all_bytes spelled xs) → rolled_fit c next s xs
  members_fit s [] k h b = tt
  members_fit s (x ∷ xs) k h b =
      (fit s x k h.0 (bytes_before (spelled x) (all_bytes spelled xs) b), members_fit (next s x) xs (keeps s x k) h.1 (bytes_behind (spelled x) (all_bytes spelled xs) b))

pub counted_fits : {S X : Type 0} (low high : ℕ) (spelled : X → List ℕ) (c : S → Codec X) (next : S → X → S) (s : S) (xs : List X) → low ≤ length xs → length xs ≤ high → IsBytes (number_bytes (length xs) ++ all_bytes spelled xs) → (IsBytes (all_bytes spelled xs) → rolled_fit c next s xs) → (counted low high spelled c next s).fits xs
counted_fits low high spelled c next s xs l h b fit =
    (((number_in_bytes (length xs) (bytes_before (number_bytes (length xs)) (all_bytes spelled xs) b), is_within low high (length xs) l h), (refl, fit (bytes_behind (number_bytes (length xs)) (all_bytes spelled xs) b))), refl)

-- of whatever length has bytes
pub any_length : (n : ℕ) (more : List ℕ) → IsBytes (number_bytes n ++ more) → n ≤ 2 ^ 64 - 1
any_length n more b = let few = number_in_bytes n (bytes_before (number_bytes n) more b) in omega (arith, few)

pub each_fits : {X : Type 0} (c : Codec X) (P : X → Type 0) → ((x : X) → P x → IsBytes (c.bytes x) → c.fits x) → (xs : List X) → AllByRecursion P xs → IsBytes ((each c).bytes xs) → (each c).fits xs
each_fits c P fit xs h b =
    counted_fits 0 (2 ^ 64 - 1) c.bytes (λ (s : Alone). c) (λ s x. s) alone xs (omega arith) (any_length (length xs) (all_bytes c.bytes xs) b) b
    (members_fit (λ (s : Alone). c) (λ s x. s) c.bytes (λ s. Unit {0}) (λ s x k. tt) P (λ s x k. fit x) alone xs tt h)

pub each_fits_in : {X : Type 0} (high : ℕ) (c : Codec X) (P : X → Type 0) → ((x : X) → P x → IsBytes (c.bytes x) → c.fits x) → (xs : List X) → length xs ≤ high → AllByRecursion P xs → IsBytes ((each_in 0 high c).bytes xs) → (each_in 0 high c).fits xs
each_fits_in high c P fit xs few h b =
    counted_fits 0 high c.bytes (λ (s : Alone). c) (λ s x. s) alone xs (omega arith) few b
    (members_fit (λ (s : Alone). c) (λ s x. s) c.bytes (λ s. Unit {0}) (λ s x k. tt) P (λ s x k. fit x) alone xs tt h)

each_any : {X : Type 0} (xs : List X) → AllByRecursion (λ (x : X). Unit {0}) xs
each_any [] = tt
each_any (x ∷ xs) = (tt, each_any xs)

numbers_fit : (list : List ℕ) → IsBytes ((list_of number).bytes list) → (list_of number).fits list
numbers_fit list b =
    counted_fits 0 (2 ^ 64 - 1) number_bytes (λ (s : Unit {0}). number) (λ s x. s) tt list (omega arith) (any_length (length list) (all_bytes number_bytes list) b) b
    (members_fit (λ (s : Unit {0}). number) (λ s x. s) number_bytes (λ s. Unit {0}) (λ s x k. tt) (λ n. Unit {0}) (λ s n k h. number_in_bytes n) tt list tt (each_any list))

-- ---- operands

in_32_bits : (n : ℤ) → has_32_bits n ≡ true → (least_bound ≤ℤ n) × (n ≤ℤ greatest_bound)
in_32_bits (pos n) h = let few = ltb-true n (2 ^ 31) h in (omega (arith, ints), omega (arith, ints, few))
in_32_bits (negsuc n) h = let few = ltb-true n (2 ^ 31) h in (omega (arith, ints, few), omega (arith, ints))

bound_fits : (n : ℤ) → IsBytes (bound.bytes n) → bound.fits n
unfolding bound
bound_fits n b =
    let is = in_32_bits n (spelled_in_bytes has_32_bits (signed_in least_bound greatest_bound) n b) in
    signed_fits least_bound greatest_bound n (omega (arith, ints)) (omega (arith, ints)) is.0 is.1

bounds_fit : (x : Bounds) → IsBytes (bounds.bytes x) → bounds.fits x
unfolding bounds
bounds_fit x b = ((bound_fits x.low (bytes_before (bound.bytes x.low) (bound.bytes x.high) b), bound_fits x.high (bytes_behind (bound.bytes x.low) (bound.bytes x.high) b)), refl)

pub flag_fits : (given : Bool) → flag.fits given
unfolding flag
flag_fits false = ((omega arith, refl), refl)
flag_fits true = ((omega arith, refl), refl)

trap_fits : (cause : Cause) → trap.fits cause
unfolding trap
trap_fits traps.Overflow = ((omega arith, refl), refl)
trap_fits traps.ZeroDivide = ((omega arith, refl), refl)
trap_fits traps.Index = ((omega arith, refl), refl)
trap_fits traps.Range = ((omega arith, refl), refl)
trap_fits traps.Format = ((omega arith, refl), refl)
trap_fits traps.SemaLimit = ((omega arith, refl), refl)

-- a number behind a byte
behind_byte : (t n : ℕ) → IsBytes (t ∷ number_bytes n) → n < 2 ^ 64
behind_byte t n b = number_in_bytes n (λ i. b (suc i))

once_fits : (form : OnceForm) → IsBytes (once.bytes form) → once.fits form
unfolding once
once_fits once_form.At b = ((omega arith, refl), refl)
once_fits once_form.After b = ((omega arith, refl), refl)
once_fits (once_form.When d) b = ((omega arith, refl), (behind_byte 3 d b, refl))

maybe_fits : (form : Option OnceForm) → IsBytes (maybe_once.bytes form) → maybe_once.fits form
unfolding maybe_once
maybe_fits None b = ((omega arith, refl), refl)
maybe_fits (Some once_form.At) b = ((omega arith, refl), refl)
maybe_fits (Some once_form.After) b = ((omega arith, refl), refl)
maybe_fits (Some (once_form.When d)) b = ((omega arith, refl), (behind_byte 3 d b, refl))

start_fits : (form : StartForm) → IsBytes (start.bytes form) → start.fits form
unfolding start
start_fits start_form.Free b = ((omega arith, refl), refl)
start_fits start_form.At b = ((omega arith, refl), refl)
start_fits start_form.After b = ((omega arith, refl), refl)
start_fits (start_form.When d) b = ((omega arith, refl), (behind_byte 3 d b, refl))
start_fits (start_form.WhenAfter d) b = ((omega arith, refl), (behind_byte 4 d b, refl))

repeat_fits : (form : RepeatForm) → repetition.fits form
unfolding repetition
repeat_fits repeat_form.Once = ((omega arith, refl), refl)
repeat_fits repeat_form.All = ((omega arith, refl), refl)
repeat_fits repeat_form.Until = ((omega arith, refl), refl)
repeat_fits repeat_form.During = ((omega arith, refl), refl)

-- ---- instructions

two_fit : (m n : ℕ) → IsBytes (number_bytes m ++ number_bytes n) → (m < 2 ^ 64) × (n < 2 ^ 64)
two_fit m n b =
    (number_in_bytes m (bytes_before (number_bytes m) (number_bytes n) b), number_in_bytes n (bytes_behind (number_bytes m) (number_bytes n) b))

pub first_of_more : (n : ℕ) (more : List ℕ) → IsBytes (number_bytes n ++ more) → (n < 2 ^ 64) × IsBytes more
first_of_more n more b = (number_in_bytes n (bytes_before (number_bytes n) more b), bytes_behind (number_bytes n) more b)

pub instr_fits : (i : Instr) → IsInstr i → IsBytes (row_bytes (row i).operands) → instr.fits i
unfolding instr operands_at
instr_fits (instrs.Load n) h b = ((omega arith, refl), (number_in_bytes n b, refl))
instr_fits (instrs.Store n) h b = ((omega arith, refl), (number_in_bytes n b, refl))
instr_fits (instrs.Read n) h b = ((omega arith, refl), (number_in_bytes n b, refl))
instr_fits (instrs.Write n) h b = ((omega arith, refl), (number_in_bytes n b, refl))
instr_fits (instrs.ReadAt n) h b = ((omega arith, refl), (number_in_bytes n b, refl))
instr_fits (instrs.WriteAt n) h b = ((omega arith, refl), (number_in_bytes n b, refl))
instr_fits (instrs.RefSlot n) h b = ((omega arith, refl), (number_in_bytes n b, refl))
instr_fits (instrs.RefSlotAt n) h b = ((omega arith, refl), (number_in_bytes n b, refl))
instr_fits (instrs.RefCell n) h b = ((omega arith, refl), (number_in_bytes n b, refl))
instr_fits (instrs.Jump n) h b = ((omega arith, refl), (number_in_bytes n b, refl))
instr_fits (instrs.JumpZero n) h b = ((omega arith, refl), (number_in_bytes n b, refl))
instr_fits (instrs.Call n) h b = ((omega arith, refl), (number_in_bytes n b, refl))
instr_fits (instrs.Within n) h b = ((omega arith, refl), (number_in_bytes n b, refl))
instr_fits (instrs.Try n) h b = ((omega arith, refl), (number_in_bytes n b, refl))
instr_fits (instrs.Suspend n) h b = ((omega arith, refl), (number_in_bytes n b, refl))
instr_fits (instrs.Terminate n) h b = ((omega arith, refl), (number_in_bytes n b, refl))
instr_fits (instrs.Prevent n) h b = ((omega arith, refl), (number_in_bytes n b, refl))
instr_fits (instrs.Enable n) h b = ((omega arith, refl), (number_in_bytes n b, refl))
instr_fits (instrs.Disable n) h b = ((omega arith, refl), (number_in_bytes n b, refl))
instr_fits (instrs.Trigger n) h b = ((omega arith, refl), (number_in_bytes n b, refl))
instr_fits (instrs.Take n) h b = ((omega arith, refl), (number_in_bytes n b, refl))
instr_fits (instrs.Send n) h b = ((omega arith, refl), (number_in_bytes n b, refl))
instr_fits (instrs.LoadAt m n) h b = ((omega arith, refl), (two_fit m n b, refl))
instr_fits (instrs.StoreAt m n) h b = ((omega arith, refl), (two_fit m n b, refl))
instr_fits (instrs.RefCellAt m n) h b = ((omega arith, refl), (two_fit m n b, refl))
instr_fits (instrs.Advance m n) h b = ((omega arith, refl), (two_fit m n b, refl))
instr_fits (instrs.Put m n) h b = ((omega arith, refl), (two_fit m n b, refl))
instr_fits instrs.Drop h b = ((omega arith, refl), refl)
instr_fits instrs.ReadRef h b = ((omega arith, refl), refl)
instr_fits instrs.WriteRef h b = ((omega arith, refl), refl)
instr_fits instrs.Turn h b = ((omega arith, refl), refl)
instr_fits instrs.Return h b = ((omega arith, refl), refl)
instr_fits instrs.End h b = ((omega arith, refl), refl)
instr_fits instrs.NonZero h b = ((omega arith, refl), refl)
instr_fits instrs.Now h b = ((omega arith, refl), refl)
instr_fits instrs.SuspendOwn h b = ((omega arith, refl), refl)
instr_fits instrs.TerminateOwn h b = ((omega arith, refl), refl)
instr_fits instrs.PreventOwn h b = ((omega arith, refl), refl)
instr_fits (instrs.Monadic monads.Plus) h b = ((omega arith, refl), refl)
instr_fits (instrs.Monadic monads.Minus) h b = ((omega arith, refl), refl)
instr_fits (instrs.Monadic monads.Abs) h b = ((omega arith, refl), refl)
instr_fits (instrs.Monadic monads.Sign) h b = ((omega arith, refl), refl)
instr_fits (instrs.Monadic monads.Not) h b = ((omega arith, refl), refl)
instr_fits (instrs.Dyadic dyads.Pow) h b = ((omega arith, refl), refl)
instr_fits (instrs.Dyadic dyads.Mul) h b = ((omega arith, refl), refl)
instr_fits (instrs.Dyadic dyads.Div) h b = ((omega arith, refl), refl)
instr_fits (instrs.Dyadic dyads.Rem) h b = ((omega arith, refl), refl)
instr_fits (instrs.Dyadic dyads.Cat) h b = ((omega arith, refl), refl)
instr_fits (instrs.Dyadic dyads.Add) h b = ((omega arith, refl), refl)
instr_fits (instrs.Dyadic dyads.Sub) h b = ((omega arith, refl), refl)
instr_fits (instrs.Dyadic dyads.Cshift) h b = ((omega arith, refl), refl)
instr_fits (instrs.Dyadic dyads.Shift) h b = ((omega arith, refl), refl)
instr_fits (instrs.Dyadic dyads.Lt) h b = ((omega arith, refl), refl)
instr_fits (instrs.Dyadic dyads.Gt) h b = ((omega arith, refl), refl)
instr_fits (instrs.Dyadic dyads.Le) h b = ((omega arith, refl), refl)
instr_fits (instrs.Dyadic dyads.Ge) h b = ((omega arith, refl), refl)
instr_fits (instrs.Dyadic dyads.Eq) h b = ((omega arith, refl), refl)
instr_fits (instrs.Dyadic dyads.Ne) h b = ((omega arith, refl), refl)
instr_fits (instrs.Dyadic dyads.And) h b = ((omega arith, refl), refl)
instr_fits (instrs.Dyadic dyads.Or) h b = ((omega arith, refl), refl)
instr_fits (instrs.Dyadic dyads.Exor) h b = ((omega arith, refl), refl)
instr_fits (instrs.Const x) h b = ((omega arith, refl), (literal_fits None x h refl, refl))
instr_fits (instrs.Fill c n of) h b =
    let first = first_of_more c (number_bytes n ++ (kind None).bytes of) b in
    let second = first_of_more n ((kind None).bytes of) first.1 in ((omega arith, refl), ((first.0, (second.0, plain_kind_fits of h)), refl))
instr_fits (instrs.Conv of) h b = ((omega arith, refl), (plain_kind_fits of h, refl))
instr_fits (instrs.Index list) h b = ((omega arith, refl), (each_fits bounds (λ x. Unit {0}) (λ x h. bounds_fit x) list (each_any list) b, refl))
instr_fits (instrs.Case list) h b = ((omega arith, refl), (numbers_fit list b, refl))
instr_fits (instrs.Request list) h b = ((omega arith, refl), (numbers_fit list b, refl))
instr_fits (instrs.Release list) h b = ((omega arith, refl), (numbers_fit list b, refl))
instr_fits (instrs.Trap cause) h b = ((omega arith, refl), (trap_fits cause, refl))
instr_fits (instrs.Activate a) h b =
    let first = first_of_more a.task (start.bytes a.start ++ (repetition.bytes a.repeat ++ flag.bytes a.priority)) b in
    let form = start_fits a.start (bytes_before (start.bytes a.start) (repetition.bytes a.repeat ++ flag.bytes a.priority) first.1) in
    ((omega arith, refl), ((first.0, (form, (repeat_fits a.repeat, flag_fits a.priority))), refl))
instr_fits (instrs.Continue c) h b =
    let first = first_of_more c.task (maybe_once.bytes c.once) b in ((omega arith, refl), ((first.0, maybe_fits c.once first.1), refl))
instr_fits (instrs.Resume form) h b = ((omega arith, refl), (once_fits form b, refl))
instr_fits (instrs.Get g) h b =
    let first = first_of_more g.device (number_bytes g.format ++ number_bytes g.first) b in ((omega arith, refl), ((first.0, two_fit g.format g.first first.1), refl))
