-- How soon a stack of a valid object offers an action.
use Rattle.std.proofs.Common.{◌≡◌, ℕ, zero, suc, ◌+◌, ◌<◌, ◌≤◌, ℤ, pos, negsuc, ◌+ℤ◌, List, [], ◌∷◌, Option, Some, None, length, take, drop, reverse, slice_get, slice_set, refl, sym, ap, ◌∙◌, subst, arith, Bool, true, false, cond, ltb-true, add-one, inl, inr}
use Rattle.std.specs.Prelude.{◌⊎◌, ◌&&◌, ◌||◌, ◌==◌, nat_lt, nat_le, int_le, if◌then◌else◌, option_and_then, Result, Ok, Err}
use Rattle.std.proofs.lemmas.Bool.{cases_Bool}
use Rattle.std.proofs.lemmas.Option.{same_Some, slice_get_within}
use Rattle.pearl_value.specs.declared.cell.Place.TheVariants as place
use Rattle.pearl_value.specs.declared.cell.Cell.{Cell}
use Rattle.pearl_value.specs.declared.cell.Cell.TheVariants as cell
use Rattle.pearl_value.specs.declared.trap.Trap.{Trap}
use Rattle.pearl_value.specs.declared.trap.Trap.TheVariants.{Range}
use Rattle.pearl_value.specs.Rows.{row1, row2}
use Rattle.pearl_value.specs.Applied.{applied1, applied2}
use Rattle.std.specs.Ordering.{int_eq}
use Rattle.pearl_format.specs.Items.{data_count}
use Rattle.pearl_format.specs.Texts.{text_of}
use Rattle.pearl_rules.specs.declared.action.Action.TheVariants as action
use Rattle.pearl_rules.specs.declared.action.Action.TheVariants.{Enter}
use Rattle.pearl_instructions.specs.Operators.{number_of, numbers_of, offset_of, index_of}
use Rattle.pearl_value.specs.Conversions.{fits_fixed, converted, suits_kind}
use Rattle.pearl_value.specs.declared.kind.Kind.{Kind}
use Rattle.pearl_rules.specs.declared.action.Start.{Start}
use Rattle.pearl_rules.specs.declared.action.Repeat.{Repeat}
use Rattle.pearl_stack.specs.Frames.{Frame, cell_at, with_cell}
use Rattle.pearl_instructions.specs.declared.schedule.StartForm.{StartForm}
use Rattle.pearl_instructions.specs.declared.schedule.StartForm.TheVariants as form
use Rattle.pearl_instructions.specs.declared.schedule.RepeatForm.{RepeatForm}
use Rattle.pearl_instructions.specs.declared.schedule.RepeatForm.TheVariants as again
use Rattle.pearl_instructions.specs.declared.instr.Instr.{Instr}
use Rattle.pearl_instructions.specs.declared.instr.Instr.TheVariants.{Const, Load, Store, Fill, Drop, Conv, Index, LoadAt, StoreAt, Read, Write, ReadAt, WriteAt, RefSlot, RefSlotAt, RefCell, RefCellAt, ReadRef, WriteRef, Jump, JumpZero, Case, Turn, Call, Return, End, Trap as TrapOf, Within, Advance, NonZero, Monadic, Dyadic, Now, Request, Release, Try, Activate, Continue, Resume, Suspend, Terminate, Prevent, SuspendOwn, TerminateOwn, PreventOwn, Enable, Disable, Trigger, Put, Get, Take, Send}
use Rattle.pearl_instructions.specs.declared.object.Code.{Code}
use Rattle.pearl_instructions.specs.declared.object.Parts.{Parts as Object}
use Rattle.pearl_instructions.specs.Objects.{routines, routine_at, result_of, items_at}
use Rattle.pearl_instructions.specs.Lawful.{IsObject}
use Rattle.pearl_instructions.specs.Steps.{Step, Silent, Offers, Missing, given, needed, popped, taken, value_kind, at, next, leaves, traps, acts, all_heard, makes, within}
use Rattle.pearl_instructions.specs.Cells.{read_reference, write_reference}
use Rattle.pearl_instructions.specs.Flow as flow
use Rattle.pearl_instructions.specs.Offers as offers
use Rattle.pearl_instructions.specs.Rows.{act, instr_at, row}
use Rattle.pearl_instructions.specs.Operands.{Shape}
use Rattle.pearl_instructions.specs.Valid.{shape_before, targets, is_turn, IsValid}
use Rattle.pearl_instructions.specs.Stacks.{routines_of, IsCalling, Below, IsStack, all_rows, Then, OffersWithin}
use Rattle.pearl_instructions.proofs.Tests.{or_true, all_at}
use Rattle.pearl_instructions.proofs.Kept.{IsSound, Here, here}
use Rattle.pearl_instructions.proofs.SoundFlow.{Loop, loop_within, loop_past, target_is}
use Rattle.pearl_instructions.proofs.Sound.{row_sound}
use Rattle.pearl_instructions.proofs.Begun.{task_or_procedure, smaller}

abbrev is_other : Instr → ℕ
is_other instr = if is_turn (Some instr) then 0 else 1

-- the instructions but Turns from a place on, and all Turns
abbrev others : List Instr → ℕ → ℕ
others [] n = 0
others (i ∷ is) zero = is_other i + others is zero
others (i ∷ is) (suc n) = others is n

abbrev turns : List Instr → ℕ
turns [] = 0
turns (i ∷ is) = (if is_turn (Some i) then 1 else 0) + turns is

abbrev instrs_or_none : Option Code → List Instr
instrs_or_none None = []
instrs_or_none (Some code) = code.instructions

abbrev code_of : Object → ℕ → List Instr
code_of o r = instrs_or_none (routine_at o r)

-- what falls with each silent row, but where it jumps back to a Turn
abbrev weight : Object → List Frame → ℕ
weight o [] = 0
weight o (f ∷ fs) = others (code_of o f.routine) f.place + turns (code_of o f.routine) + weight o fs

others_all : (is : List Instr) → others is zero + turns is ≤ length is
others_all [] = omega arith
others_all (i ∷ is) = by_test (is_turn (Some i)) (others_all is)
  where
    by_test : (b : Bool) → others is zero + turns is ≤ length is → ((if b then 0 else 1) + others is zero) + ((if b then 1 else 0) + turns is) ≤ suc (length is)
    by_test true h = omega (arith, h)
    by_test false h = omega (arith, h)

others_first : (is : List Instr) (n : ℕ) → others is n ≤ others is zero
others_first [] n = omega arith
others_first (i ∷ is) zero = omega arith
others_first (i ∷ is) (suc n) = let more = others_first is n in omega (arith, more)

others_mono : (is : List Instr) (m n : ℕ) → m ≤ n → others is n ≤ others is m
others_mono [] m n h = omega arith
others_mono (i ∷ is) zero n h = others_first (i ∷ is) n
others_mono (i ∷ is) (suc m) zero h = absurd (omega (arith, h))
others_mono (i ∷ is) (suc m) (suc n) h = others_mono is m n (omega (arith, h))

others_next : (is : List Instr) (n : ℕ) (i : Instr) → slice_get is n ≡ Some i → is_turn (Some i) ≡ false → others is (suc n) < others is n
others_next [] n i e t = cc
others_next (a ∷ is) zero i e t =
    let one : is_other a ≡ 1 = ap is_other (same_Some a i e) ∙ ap (λ b. if b then 0 else 1) t in
    omega (arith, one)
others_next (a ∷ is) (suc n) i e t = others_next is n i e t

turns_some : (is : List Instr) (n : ℕ) → is_turn (slice_get is n) ≡ true → 0 < turns is
turns_some [] n e = cc
turns_some (a ∷ is) zero e = by_test (is_turn (Some a)) e
  where
    by_test : (b : Bool) → b ≡ true → 0 < (if b then 1 else 0) + turns is
    by_test true e = omega arith
    by_test false e = cc
turns_some (a ∷ is) (suc n) e = let more = turns_some is n e in omega (arith, more)

-- the stack stands at a Turn
abbrev AtTurn : Object → List Frame → Type 0
AtTurn o [] = ⊥
AtTurn o (f ∷ fs) = instr_at o f ≡ Some Turn

abbrev Lighter : Object → ℕ → Step → Type 0
Lighter o w (Silent frames) = (weight o frames < w) ⊎ (AtTurn o frames × (2 ≤ w))
Lighter o w step = Unit {0}

pub record IsLight (o : Object) (w : ℕ) (step : Step) : Type 0 where
  pub light : Lighter o w step

popped_light : (o : Object) (w : ℕ) (operands : List Cell) (go : Cell → List Cell → Step) → ((x : Cell) (left : List Cell) → IsLight o w (go x left)) →
    IsLight o w (popped operands go)
popped_light o w [] go h = record { light = tt }
popped_light o w (x ∷ left) go h = h x left

given_light : {A : Type 0} (o : Object) (w : ℕ) (option : Option A) (go : A → Step) → ((x : A) → IsLight o w (go x)) → IsLight o w (given option go)
given_light o w None go h = record { light = tt }
given_light o w (Some x) go h = h x

known_light : {A : Type 0} (o : Object) (w : ℕ) (x : A) (option : Option A) (go : A → Step) → option ≡ Some x → IsLight o w (go x) → IsLight o w (given option go)
known_light o w x None go e h = record { light = tt }
known_light o w x (Some y) go e h = subst (λ y. IsLight o w (go y)) (sym (same_Some y x e)) h

needed_light : (o : Object) (w : ℕ) (b : Bool) (step : Step) → IsLight o w step → IsLight o w (needed b step)
needed_light o w true step h = h
needed_light o w false step h = record { light = tt }

taken_light : (o : Object) (w n : ℕ) (operands : List Cell) (go : List Cell → List Cell → Step) → ((xs left : List Cell) → IsLight o w (go xs left)) →
    IsLight o w (taken n operands go)
taken_light o w n operands go h = needed_light o w (nat_le n (length operands)) (go (reverse (take n operands)) (drop n operands)) (h (reverse (take n operands)) (drop n operands))

if_light : (o : Object) (w : ℕ) (b : Bool) (x y : Step) → IsLight o w x → IsLight o w y → IsLight o w (if b then x else y)
if_light o w true x y h g = h
if_light o w false x y h g = g

within_light : (o : Object) (w n : ℕ) (x : Cell) (f : Frame) (lower : List Frame) (go : ℕ → Step) → ((i : ℕ) → IsLight o w (go i)) → IsLight o w (within n x f lower go)
within_light o w n (cell.Fixed len (pos i)) f lower go h = needed_light o w (len == 31) _ (if_light o w (nat_lt i n) _ _ (h i) (record { light = tt }))
within_light o w n (cell.Fixed len (negsuc i)) f lower go h = needed_light o w (len == 31) _ (record { light = tt })
within_light o w n (cell.Bits len value) f lower go h = record { light = tt }
within_light o w n (cell.Chars text) f lower go h = record { light = tt }
within_light o w n (cell.Clock time) f lower go h = record { light = tt }
within_light o w n (cell.Span time) f lower go h = record { light = tt }
within_light o w n (cell.Ref of at) f lower go h = record { light = tt }

lasting_light : (o : Object) (w : ℕ) (least time : ℤ) (f : Frame) (lower : List Frame) (go : Step) → IsLight o w go → IsLight o w (offers.lasting least time f lower go)
lasting_light o w least time f lower go h = if_light o w (int_le least time) _ _ h (record { light = tt })

started_light : (o : Object) (w : ℕ) (when : StartForm) (values : List Cell) (f : Frame) (lower : List Frame) (go : Start → List Cell → Step) →
    ((s : Start) (rest : List Cell) → IsLight o w (go s rest)) → IsLight o w (offers.started when values f lower go)
started_light o w form.Free values f lower go h = h _ values
started_light o w form.At (cell.Clock time ∷ values) f lower go h = h _ values
started_light o w form.After (cell.Span time ∷ values) f lower go h = lasting_light o w (pos 0) time f lower _ (h _ values)
started_light o w (form.When device) values f lower go h = h _ values
started_light o w (form.WhenAfter device) (cell.Span time ∷ values) f lower go h = lasting_light o w (pos 0) time f lower _ (h _ values)
started_light o w when values f lower go h = record { light = tt }

repeated_light : (o : Object) (w : ℕ) (how : RepeatForm) (values : List Cell) (f : Frame) (lower : List Frame) (go : Repeat → List Cell → Step) →
    ((s : Repeat) (rest : List Cell) → IsLight o w (go s rest)) → IsLight o w (offers.repeated how values f lower go)
repeated_light o w again.Once values f lower go h = h _ values
repeated_light o w again.All (cell.Span period ∷ values) f lower go h = lasting_light o w (pos 1) period f lower _ (h _ values)
repeated_light o w again.Until (cell.Span period ∷ cell.Clock end ∷ values) f lower go h = lasting_light o w (pos 1) period f lower _ (h _ values)
repeated_light o w again.During (cell.Span period ∷ cell.Span time ∷ values) f lower go h =
    lasting_light o w (pos 1) period f lower _ (lasting_light o w (pos 0) time f lower _ (h _ values))
repeated_light o w how values f lower go h = record { light = tt }

priority_light : (o : Object) (w : ℕ) (b : Bool) (values : List Cell) (f : Frame) (lower : List Frame) (go : Option ℕ → Step) →
    ((p : Option ℕ) → IsLight o w (go p)) → IsLight o w (offers.with_priority b values f lower go)
priority_light o w false values f lower go h = h None
priority_light o w true (cell.Fixed len value ∷ values) f lower go h = if_light o w (int_le (pos 1) value && int_le value (pos 255)) _ _ (h _) (record { light = tt })
priority_light o w true values f lower go h = record { light = tt }

put_light : (o : Object) (w device : ℕ) (text : Option (List ℕ)) (f : Frame) (lower : List Frame) (left : List Cell) → IsLight o w (offers.put_text device text f lower left)
put_light o w device None f lower left = record { light = tt }
put_light o w device (Some text) f lower left = record { light = tt }

instr_is : (c : Option Code) (n : ℕ) → option_and_then (λ c. slice_get c.instructions n) c ≡ slice_get (instrs_or_none c) n
instr_is None n = refl
instr_is (Some c) n = refl

turn_of : (i : Option Instr) → is_turn i ≡ true → i ≡ Some Turn
turn_of (Some Turn) e = refl
turn_of i e = cc

weight_set : (o : Object) (fs : List Frame) (n c : ℕ) (x : Cell) → weight o (with_cell fs n c x) ≡ weight o fs
weight_set o [] n c x = refl
weight_set o (f ∷ fs) n c x = by_test (n == length fs) (weight_set o fs n c x)
  where
    by_test : (b : Bool) → weight o (with_cell fs n c x) ≡ weight o fs →
        weight o (cond b (record f { cells = slice_set f.cells c x } ∷ fs) (f ∷ with_cell fs n c x)) ≡ weight o (f ∷ fs)
    by_test true e = refl
    by_test false e = ap (λ w. others (code_of o f.routine) f.place + turns (code_of o f.routine) + w) e

module _ (o : Object) (f : Frame) (lower : List Frame) (i : Instr) (stands : slice_get (code_of o f.routine) f.place ≡ Some i) (other : is_turn (Some i) ≡ false) where
  less : (cells operands : List Cell) (place : ℕ) → f.place < place → weight o (record { routine = f.routine; place = place; cells = cells; operands = operands } ∷ lower) < weight o (f ∷ lower)
  less cells operands place h =
      let one = others_next (code_of o f.routine) f.place i stands other in
      let mono = others_mono (code_of o f.routine) (suc f.place) place (omega (arith, h)) in
      omega (arith, one, mono)

  light : (cells operands : List Cell) → IsLight o (weight o (f ∷ lower)) (Silent (record { routine = f.routine; place = f.place + 1; cells = cells; operands = operands } ∷ lower))
  light cells operands = record { light = inl (less cells operands (f.place + 1) (omega arith)) }

  makes_light : (left : List Cell) (made : Result Cell Trap) → IsLight o (weight o (f ∷ lower)) (makes f lower left made)
  makes_light left (Ok x) = light f.cells (x ∷ left)
  makes_light left (Err trap) = record { light = tt }

  -- a jump
  goes_light : (t : ℕ) (left : List Cell) → (nat_lt f.place t || is_turn (slice_get (code_of o f.routine) t)) ≡ true →
      IsLight o (weight o (f ∷ lower)) (flow.goes t f lower left)
  goes_light t left e = elim (cases_Bool (nat_lt f.place t)) [
    | inl h ↦ record { light = inl (less f.cells left t (ltb-true f.place t h)) }
    | inr h ↦ (let back = or_true (nat_lt f.place t) (is_turn (slice_get (code_of o f.routine) t)) e h in
        let some = turns_some (code_of o f.routine) t back in
        let one = others_next (code_of o f.routine) f.place i stands other in
        let two : 2 ≤ weight o (f ∷ lower) = omega (arith, some, one) in
        record { light = inr (at_turn t left (turn_of (slice_get (code_of o f.routine) t) back), two) })
  ]
    where
      at_turn : (t : ℕ) (left : List Cell) → slice_get (code_of o f.routine) t ≡ Some Turn → instr_at o (at t f left) ≡ Some Turn
      at_turn t left e = instr_is (routine_at o f.routine) t ∙ e

  read_light : (left : List Cell) (r : Cell) → IsLight o (weight o (f ∷ lower)) (read_reference f lower left r)
  read_light left (cell.Ref k (place.Slot v)) = record { light = tt }
  read_light left (cell.Ref k (place.Cell n c)) = given_light o (weight o (f ∷ lower)) (cell_at (f ∷ lower) n c) _ (λ x. light f.cells (x ∷ left))
  read_light left x = record { light = tt }

  write_light : (left : List Cell) (x r : Cell) → IsLight o (weight o (f ∷ lower)) (write_reference x f lower left r)
  write_light left x (cell.Ref k (place.Slot v)) = record { light = tt }
  write_light left x (cell.Ref k (place.Cell n c)) = given_light o (weight o (f ∷ lower)) (cell_at (f ∷ lower) n c) _ (λ old.
      record { light = inl (subst (λ w. w < weight o (f ∷ lower)) (sym (weight_set o (next f left ∷ lower) n c x)) (less f.cells left (f.place + 1) (omega arith))) })
  write_light left x r = record { light = tt }

  jump_zero_light : (t : ℕ) (left : List Cell) (b : Cell) → IsLight o (weight o (f ∷ lower)) (flow.goes t f lower left) →
      IsLight o (weight o (f ∷ lower)) (flow.jump_zero t f lower left b)
  jump_zero_light t left (cell.Bits len value) h = needed_light o (weight o (f ∷ lower)) (len == 1) _ (by_bit (value == 0))
    where
      by_bit : (b : Bool) → IsLight o (weight o (f ∷ lower)) (flow.goes (if b then t else f.place + 1) f lower left)
      by_bit true = h
      by_bit false = light f.cells left
  jump_zero_light t left x h = record { light = tt }

  branch_light : (ts : List ℕ) (left : List Cell) (x : Cell) → ((n t : ℕ) → slice_get ts n ≡ Some t → IsLight o (weight o (f ∷ lower)) (flow.goes t f lower left)) →
      IsLight o (weight o (f ∷ lower)) (flow.branch ts f lower left x)
  branch_light ts left (cell.Fixed len value) h = by_target (flow.target_of ts value) (λ t e. target_is ts value t e)
    where
      by_target : (target : Option ℕ) → ((t : ℕ) → target ≡ Some t → (n : ℕ) × (slice_get ts n ≡ Some t)) →
          IsLight o (weight o (f ∷ lower)) (flow.goes_or_on target f lower left)
      by_target None is = light f.cells left
      by_target (Some t) is = let there = is t refl in h there.0 t there.1
  branch_light ts left x h = record { light = tt }

  returned_light : (p : ℕ) (results : List Cell) → Below o p lower → IsLight o (weight o (f ∷ lower)) (flow.returned lower results)
  returned_light p results b = by_caller lower b
    where
      by_caller : (lower : List Frame) → Below o p lower → IsLight o (weight o (f ∷ lower)) (flow.returned lower results)
      by_caller [] b = record { light = tt }
      by_caller (g ∷ gs) b =
          let call = b.0 in
          let code : code_of o g.routine ≡ call.code.instructions = ap instrs_or_none call.routine in
          let there : slice_get (code_of o g.routine) g.place ≡ Some (Call p) = ap (λ is. slice_get is g.place) code ∙ call.place in
          let one = others_next (code_of o g.routine) g.place (Call p) there refl in
          record { light = inl (rw add-one (omega (arith, one))) }

  returns_light : (result : Option Kind) (p : ℕ) → Below o p lower → IsLight o (weight o (f ∷ lower)) (flow.returns result f lower)
  returns_light None p b = returned_light p [] b
  returns_light (Some k) p b = popped_light o (weight o (f ∷ lower)) f.operands _ (λ x left. returned_light p (x ∷ []) b)

loop_light : (o : Object) (w : ℕ) (f : Frame) (code : Code) (c : ℕ) (rs : List ℕ) (l : Loop o f code c rs) (go : ℕ → ℤ → ℤ → ℤ → Step) →
    IsLight o w (go l.len l.control l.step l.limit) → IsLight o w (flow.loop_cells f c go)
loop_light o w f code c rs l go h =
    known_light o w (cell.Fixed l.len l.control) (slice_get f.cells c) _ l.first
    (known_light o w (cell.Fixed l.len l.step) (slice_get f.cells (c + 1)) _ l.second
    (known_light o w (cell.Fixed l.len l.limit) (slice_get f.cells (c + 2)) _ l.third h))

-- a jump of a valid object goes forward, or back to a Turn
back_is : (o : Object) (f : Frame) (lower : List Frame) (code : Code) (i : Instr) (s : Shape) → Here o f lower code i s → (n t : ℕ) → slice_get (targets i) n ≡ Some t →
    (nat_lt f.place t || is_turn (slice_get (code_of o f.routine) t)) ≡ true
back_is o f lower code i s h n t e =
    let is : code_of o f.routine ≡ code.instructions = ap instrs_or_none h.routine in
    ap (λ is. nat_lt f.place t || is_turn (slice_get is t)) is
    ∙ all_at (λ t. nat_lt f.place t || is_turn (slice_get code.instructions t)) (targets i) n t h.keeps.back e

-- a silent row makes the stack lighter, or it jumps back to a Turn
act_light : (o : Object) (f : Frame) (lower : List Frame) (code : Code) (i : Instr) (s : Shape) → Here o f lower code i s → slice_get (code_of o f.routine) f.place ≡ Some i →
    IsLight o (weight o (f ∷ lower)) (act o i f lower)
act_light o f lower code (Const x) s h at = light o f lower (Const x) at refl f.cells (x ∷ f.operands)
act_light o f lower code (Load c) s h at = given_light o (weight o (f ∷ lower)) (slice_get f.cells c) _ (λ x. light o f lower (Load c) at refl f.cells (x ∷ f.operands))
act_light o f lower code (Store c) s h at = popped_light o (weight o (f ∷ lower)) f.operands _ (λ x left.
    given_light o (weight o (f ∷ lower)) (slice_get f.cells c) _ (λ old. light o f lower (Store c) at refl (slice_set f.cells c x) left))
act_light o f lower code (Fill c n of) s h at = needed_light o (weight o (f ∷ lower)) _ _ (light o f lower (Fill c n of) at refl _ f.operands)
act_light o f lower code Drop s h at = popped_light o (weight o (f ∷ lower)) f.operands _ (λ x left. light o f lower Drop at refl f.cells left)
act_light o f lower code (Conv to) s h at = popped_light o (weight o (f ∷ lower)) f.operands _ (λ x left.
    given_light o (weight o (f ∷ lower)) (value_kind x) (λ from. needed (suits_kind from to) (makes f lower left (converted x to))) (λ from.
    needed_light o (weight o (f ∷ lower)) (suits_kind from to) (makes f lower left (converted x to)) (makes_light o f lower (Conv to) at refl left (converted x to))))
act_light o f lower code (Index bounds) s h at =
    taken_light o (weight o (f ∷ lower)) (length bounds) f.operands (λ xs left. given (numbers_of xs) (λ ns. makes f lower left (index_of (offset_of (pos 0) bounds ns)))) (λ xs left.
    given_light o (weight o (f ∷ lower)) (numbers_of xs) (λ ns. makes f lower left (index_of (offset_of (pos 0) bounds ns))) (λ ns.
    makes_light o f lower (Index bounds) at refl left (index_of (offset_of (pos 0) bounds ns))))
act_light o f lower code (LoadAt c n) s h at = popped_light o (weight o (f ∷ lower)) f.operands _ (λ x left. within_light o (weight o (f ∷ lower)) n x f lower _ (λ i.
    given_light o (weight o (f ∷ lower)) _ _ (λ y. light o f lower (LoadAt c n) at refl f.cells (y ∷ left))))
act_light o f lower code (StoreAt c n) s h at = popped_light o (weight o (f ∷ lower)) f.operands _ (λ x more. popped_light o (weight o (f ∷ lower)) more _ (λ y left.
    within_light o (weight o (f ∷ lower)) n y f lower _ (λ i. given_light o (weight o (f ∷ lower)) _ _ (λ old. light o f lower (StoreAt c n) at refl _ left))))
act_light o f lower code (Read v) s h at = given_light o (weight o (f ∷ lower)) (slice_get o.leaves v) _ (λ leaf. record { light = tt })
act_light o f lower code (Write v) s h at = given_light o (weight o (f ∷ lower)) (slice_get o.leaves v) _ (λ leaf. popped_light o (weight o (f ∷ lower)) f.operands _ (λ x left. record { light = tt }))
act_light o f lower code (ReadAt v) s h at = given_light o (weight o (f ∷ lower)) (slice_get o.leaves v) _ (λ leaf. popped_light o (weight o (f ∷ lower)) f.operands _ (λ x left.
    within_light o (weight o (f ∷ lower)) leaf.slots x f lower _ (λ i. record { light = tt })))
act_light o f lower code (WriteAt v) s h at = given_light o (weight o (f ∷ lower)) (slice_get o.leaves v) _ (λ leaf. popped_light o (weight o (f ∷ lower)) f.operands _ (λ x more.
    popped_light o (weight o (f ∷ lower)) more _ (λ y left. within_light o (weight o (f ∷ lower)) leaf.slots y f lower _ (λ i. record { light = tt }))))
act_light o f lower code (RefSlot v) s h at = given_light o (weight o (f ∷ lower)) (slice_get o.leaves v) _ (λ leaf. light o f lower (RefSlot v) at refl f.cells _)
act_light o f lower code (RefSlotAt v) s h at = given_light o (weight o (f ∷ lower)) (slice_get o.leaves v) _ (λ leaf. popped_light o (weight o (f ∷ lower)) f.operands _ (λ x left.
    within_light o (weight o (f ∷ lower)) leaf.slots x f lower _ (λ i. light o f lower (RefSlotAt v) at refl f.cells _)))
act_light o f lower code (RefCell c) s h at = given_light o (weight o (f ∷ lower)) _ _ (λ k. light o f lower (RefCell c) at refl f.cells _)
act_light o f lower code (RefCellAt c n) s h at = popped_light o (weight o (f ∷ lower)) f.operands _ (λ x left. within_light o (weight o (f ∷ lower)) n x f lower _ (λ i.
    given_light o (weight o (f ∷ lower)) _ _ (λ k. light o f lower (RefCellAt c n) at refl f.cells _)))
act_light o f lower code ReadRef s h at = popped_light o (weight o (f ∷ lower)) f.operands _ (λ r left. read_light o f lower ReadRef at refl left r)
act_light o f lower code WriteRef s h at = popped_light o (weight o (f ∷ lower)) f.operands _ (λ x more. popped_light o (weight o (f ∷ lower)) more _ (λ r left.
    write_light o f lower WriteRef at refl left x r))
act_light o f lower code (Jump t) s h at = goes_light o f lower (Jump t) at refl t f.operands (back_is o f lower code (Jump t) s h 0 t refl)
act_light o f lower code (JumpZero t) s h at = popped_light o (weight o (f ∷ lower)) f.operands _ (λ x left.
    jump_zero_light o f lower (JumpZero t) at refl t left x (goes_light o f lower (JumpZero t) at refl t left (back_is o f lower code (JumpZero t) s h 0 t refl)))
act_light o f lower code (Case ts) s h at = popped_light o (weight o (f ∷ lower)) f.operands _ (λ x left.
    branch_light o f lower (Case ts) at refl ts left x (λ n t e. goes_light o f lower (Case ts) at refl t left (back_is o f lower code (Case ts) s h n t e)))
act_light o f lower code Turn s h at = record { light = tt }
act_light o f lower code (Call p) s h at = given_light o (weight o (f ∷ lower)) (slice_get o.procedures p) _ (λ callee.
    needed_light o (weight o (f ∷ lower)) (nat_le callee.params (length f.operands)) (Offers Enter (λ answer. flow.called p callee (f ∷ lower) f.operands)) (record { light = tt }))
act_light o f lower code Return s h at = returns_light o f lower Return at refl (result_of o f.routine) f.routine h.below
act_light o f lower code End s h at = record { light = tt }
act_light o f lower code (TrapOf trap) s h at = record { light = tt }
act_light o f lower code (Within c) s h at = loop_light o (weight o (f ∷ lower)) f code c (routines_of lower) (loop_within o f lower code s c h) _
    (light o f lower (Within c) at refl f.cells _)
act_light o f lower code (Advance c t) s h at =
    let l = loop_past o f lower code s c t h in
    loop_light o (weight o (f ∷ lower)) f code c (routines_of lower) l _
    (if_light o (weight o (f ∷ lower)) (fits_fixed l.len (l.control +ℤ l.step)) _ _ (light o f lower (Advance c t) at refl _ f.operands)
    (goes_light o f lower (Advance c t) at refl t f.operands (back_is o f lower code (Advance c t) s h 0 t refl)))
act_light o f lower code NonZero s h at = popped_light o (weight o (f ∷ lower)) f.operands _ (λ x left.
    given_light o (weight o (f ∷ lower)) (number_of x) (λ n. if int_eq n (pos 0) then traps Range f lower else leaves f lower f.operands) (λ n.
    if_light o (weight o (f ∷ lower)) (int_eq n (pos 0)) (traps Range f lower) (leaves f lower f.operands) (record { light = tt }) (light o f lower NonZero at refl f.cells f.operands)))
act_light o f lower code (Monadic op) s h at = popped_light o (weight o (f ∷ lower)) f.operands _ (λ x left.
    given_light o (weight o (f ∷ lower)) (option_and_then (row1 op) (value_kind x)) (λ k. makes f lower left (applied1 op x)) (λ k.
    makes_light o f lower (Monadic op) at refl left (applied1 op x)))
act_light o f lower code (Dyadic op) s h at = popped_light o (weight o (f ∷ lower)) f.operands _ (λ y more. popped_light o (weight o (f ∷ lower)) more _ (λ x left.
    given_light o (weight o (f ∷ lower)) (value_kind x) (λ a. given (value_kind y) (λ b. given (row2 op a b) (λ k. makes f lower left (applied2 op x y)))) (λ a.
    given_light o (weight o (f ∷ lower)) (value_kind y) (λ b. given (row2 op a b) (λ k. makes f lower left (applied2 op x y))) (λ b.
    given_light o (weight o (f ∷ lower)) (row2 op a b) (λ k. makes f lower left (applied2 op x y)) (λ k.
    makes_light o f lower (Dyadic op) at refl left (applied2 op x y))))))
act_light o f lower code Now s h at = record { light = tt }
act_light o f lower code (Request list) s h at = record { light = tt }
act_light o f lower code (Release list) s h at = record { light = tt }
act_light o f lower code (Try n) s h at = record { light = tt }
act_light o f lower code (Activate a) s h at =
    taken_light o (weight o (f ∷ lower)) (offers.activation_count a) f.operands
    (λ values left. offers.started a.start values f lower (λ when more. offers.repeated a.repeat more f lower (λ how rest.
    offers.with_priority a.priority rest f lower (λ p. acts (action.Activate a.task when how p) f lower left)))) (λ values left.
    started_light o (weight o (f ∷ lower)) a.start values f lower (λ when more. offers.repeated a.repeat more f lower (λ how rest.
    offers.with_priority a.priority rest f lower (λ p. acts (action.Activate a.task when how p) f lower left))) (λ when more.
    repeated_light o (weight o (f ∷ lower)) a.repeat more f lower (λ how rest.
    offers.with_priority a.priority rest f lower (λ p. acts (action.Activate a.task when how p) f lower left)) (λ how rest.
    priority_light o (weight o (f ∷ lower)) a.priority rest f lower (λ p. acts (action.Activate a.task when how p) f lower left) (λ p. record { light = tt }))))
act_light o f lower code (Continue c) s h at =
    taken_light o (weight o (f ∷ lower)) (length (offers.start_kinds (offers.start_or_free c.once))) f.operands
    (λ values left. offers.started (offers.start_or_free c.once) values f lower (λ when rest. acts (action.Continue c.task when) f lower left)) (λ values left.
    started_light o (weight o (f ∷ lower)) (offers.start_or_free c.once) values f lower (λ when rest. acts (action.Continue c.task when) f lower left) (λ when rest. record { light = tt }))
act_light o f lower code (Resume once) s h at =
    taken_light o (weight o (f ∷ lower)) (length (offers.start_kinds (offers.as_start once))) f.operands
    (λ values left. offers.started (offers.as_start once) values f lower (λ when rest. acts (action.Resume when) f lower left)) (λ values left.
    started_light o (weight o (f ∷ lower)) (offers.as_start once) values f lower (λ when rest. acts (action.Resume when) f lower left) (λ when rest. record { light = tt }))
act_light o f lower code (Suspend n) s h at = record { light = tt }
act_light o f lower code (Terminate n) s h at = record { light = tt }
act_light o f lower code (Prevent n) s h at = record { light = tt }
act_light o f lower code SuspendOwn s h at = record { light = tt }
act_light o f lower code TerminateOwn s h at = record { light = tt }
act_light o f lower code PreventOwn s h at = record { light = tt }
act_light o f lower code (Enable n) s h at = record { light = tt }
act_light o f lower code (Disable n) s h at = record { light = tt }
act_light o f lower code (Trigger n) s h at = record { light = tt }
act_light o f lower code (Put d n) s h at = given_light o (weight o (f ∷ lower)) (items_at o n) _ (λ items.
    taken_light o (weight o (f ∷ lower)) (data_count items) f.operands
    (λ values left. given (offers.value_kinds values) (λ kinds. needed (offers.items_suit items kinds) (offers.put_text d (text_of items values) f lower left))) (λ values left.
    given_light o (weight o (f ∷ lower)) (offers.value_kinds values) (λ kinds. needed (offers.items_suit items kinds) (offers.put_text d (text_of items values) f lower left)) (λ kinds.
    needed_light o (weight o (f ∷ lower)) (offers.items_suit items kinds) (offers.put_text d (text_of items values) f lower left) (put_light o (weight o (f ∷ lower)) d (text_of items values) f lower left))))
act_light o f lower code (Get g) s h at = given_light o (weight o (f ∷ lower)) (items_at o g.format) _ (λ items.
    given_light o (weight o (f ∷ lower)) (option_and_then offers.value_kinds (offers.cells_from f.cells g.first (data_count items))) (λ kinds. needed (offers.items_suit items kinds)
    (Offers (action.Get g.device g.format (record { items = kinds }))
    (λ answer. next (record f { cells = offers.with_values f.cells g.first (all_heard answer) }) f.operands ∷ lower))) (λ kinds.
    needed_light o (weight o (f ∷ lower)) (offers.items_suit items kinds)
    (Offers (action.Get g.device g.format (record { items = kinds }))
    (λ answer. next (record f { cells = offers.with_values f.cells g.first (all_heard answer) }) f.operands ∷ lower)) (record { light = tt })))
act_light o f lower code (Take d) s h at = record { light = tt }
act_light o f lower code (Send d) s h at = popped_light o (weight o (f ∷ lower)) f.operands _ (λ x left. record { light = tt })

stands_at : (o : Object) (f : Frame) (i : Instr) → instr_at o f ≡ Some i → slice_get (code_of o f.routine) f.place ≡ Some i
stands_at o f i e = sym (instr_is (routine_at o f.routine) f.place) ∙ e

row_light : (o : Object) (v : IsValid o) (frames : List Frame) → IsStack o frames → IsLight o (weight o frames) (row o frames)
row_light o v [] never = absurd never
row_light o v (f ∷ lower) t =
    let is = here o v f lower t in
    subst (λ i. IsLight o (weight o (f ∷ lower)) (given i (λ instr. act o instr f lower))) (sym is.1)
    (act_light o f lower t.code is.0 (shape_before o f.routine t.code f.place) is.2 (stands_at o f is.0 is.1))

weight_some : (o : Object) (frames : List Frame) → (v : IsValid o) → IsStack o frames → 0 < weight o frames
weight_some o [] v never = absurd never
weight_some o (f ∷ lower) v t =
    let is = here o v f lower t in
    let there = stands_at o f is.0 is.1 in
    elim (cases_Bool (is_turn (Some is.0))) [
      | inl e ↦ (let some = turns_some (code_of o f.routine) f.place (ap is_turn there ∙ e) in omega (arith, some))
      | inr e ↦ (let one = others_next (code_of o f.routine) f.place is.0 there e in omega (arith, one))
    ]

at_turn_offers : (o : Object) (n : ℕ) (frames : List Frame) → AtTurn o frames → OffersWithin o (suc n) frames
at_turn_offers o n [] never = absurd never
at_turn_offers o n (f ∷ lower) e = subst (λ i. Then (OffersWithin o n) (given i (λ instr. act o instr f lower))) (sym e) tt

at_turn_soon : (o : Object) (n : ℕ) (frames : List Frame) → AtTurn o frames → 0 < n → OffersWithin o n frames
at_turn_soon o zero frames e h = absurd (omega (arith, h))
at_turn_soon o (suc n) frames e h = at_turn_offers o n frames e

offers_then : (o : Object) (n w : ℕ) (step : Step) → IsSound o step → IsLight o w step → w ≤ suc n →
    ((frames : List Frame) → IsStack o frames → weight o frames ≤ n → OffersWithin o n frames) → Then (OffersWithin o n) step
offers_then o n w Missing g l h more = g
offers_then o n w (Offers a go) g l h more = tt
offers_then o n w (Silent frames) g l h more = elim l.light [
  | inl less ↦ more frames g (omega (arith, less, h))
  | inr turn ↦ (let two = turn.1 in at_turn_soon o n frames turn.0 (omega (arith, two, h)))
]

offers_by_weight : (o : Object) → IsValid o → IsObject o → (n : ℕ) (frames : List Frame) → IsStack o frames → weight o frames ≤ n → OffersWithin o n frames
offers_by_weight o v w zero frames t h = let some = weight_some o frames v t in absurd (omega (arith, some, h))
offers_by_weight o v w (suc n) frames t h =
    offers_then o n (weight o frames) (row o frames) (row_sound o v w frames t) (row_light o v frames t) h (offers_by_weight o v w n)

-- all frames together have at most as many instructions as the object

abbrev rows_from : List Code → ℕ → ℕ
rows_from [] n = 0
rows_from (c ∷ cs) zero = length c.instructions + rows_from cs zero
rows_from (c ∷ cs) (suc n) = rows_from cs n

rows_all : (cs : List Code) → rows_from cs zero ≡ all_rows cs
rows_all [] = refl
rows_all (c ∷ cs) = ap (λ n. length c.instructions + n) (rows_all cs)

rows_less : (cs : List Code) (n : ℕ) → rows_from cs n ≤ rows_from cs zero
rows_less [] n = omega arith
rows_less (c ∷ cs) zero = omega arith
rows_less (c ∷ cs) (suc n) = let more = rows_less cs n in omega (arith, more)

rows_mono : (cs : List Code) (m n : ℕ) → m ≤ n → rows_from cs n ≤ rows_from cs m
rows_mono [] m n h = omega arith
rows_mono (c ∷ cs) zero n h = rows_less (c ∷ cs) n
rows_mono (c ∷ cs) (suc m) zero h = absurd (omega (arith, h))
rows_mono (c ∷ cs) (suc m) (suc n) h = rows_mono cs m n (omega (arith, h))

rows_at : (cs : List Code) (n : ℕ) → length (instrs_or_none (slice_get cs n)) + rows_from cs (suc n) ≤ rows_from cs n
rows_at [] n = omega arith
rows_at (c ∷ cs) zero = omega arith
rows_at (c ∷ cs) (suc n) = rows_at cs n

frame_rows : (o : Object) (f : Frame) → others (code_of o f.routine) f.place + turns (code_of o f.routine) ≤ length (code_of o f.routine)
frame_rows o f = let a = others_first (code_of o f.routine) f.place in let b = others_all (code_of o f.routine) in omega (arith, a, b)

-- a frame's routine has a smaller number than that of the frame below it
under : (o : Object) (v : IsValid o) (p : ℕ) (g : Frame) (rs : List ℕ) → IsCalling o p g rs → p < g.routine
under o v p g rs call = elim (task_or_procedure o g.routine) [
  | inl task ↦ (let less = slice_get_within o.procedures p call.callee call.called in omega (arith, task, less))
  | inr procedure ↦ smaller o v p g rs call procedure
]

below_rows : (o : Object) (v : IsValid o) (p : ℕ) (lower : List Frame) → Below o p lower → weight o lower ≤ rows_from (routines o) (suc p)
below_rows o v p [] b = omega arith
below_rows o v p (g ∷ lower) b =
    let less = under o v p g (routines_of lower) b.0 in
    let more = below_rows o v g.routine lower b.1 in
    let own = frame_rows o g in
    let at = rows_at (routines o) g.routine in
    let mono = rows_mono (routines o) (suc p) g.routine (omega (arith, less)) in
    omega (arith, more, own, at, mono)

weight_within : (o : Object) (v : IsValid o) (frames : List Frame) → IsStack o frames → weight o frames ≤ all_rows (routines o)
weight_within o v [] never = absurd never
weight_within o v (f ∷ lower) t =
    let more = below_rows o v f.routine lower t.below in
    let own = frame_rows o f in
    let at = rows_at (routines o) f.routine in
    let all = rows_less (routines o) f.routine in
    let sum = rows_all (routines o) in
    omega (arith, more, own, at, all, sum)

-- From each stack of a valid object an action is offered after at most as many rows as the object has instructions.
pub offers_soon : (o : Object) → IsValid o → IsObject o → (frames : List Frame) → IsStack o frames → OffersWithin o (all_rows (routines o)) frames
offers_soon o v w frames t = offers_by_weight o v w (all_rows (routines o)) frames t (weight_within o v frames t)
