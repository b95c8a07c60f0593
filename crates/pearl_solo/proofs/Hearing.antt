-- The stack after an answer that suits.
use Rattle.std.proofs.Common.{◌≡◌, ℕ, ◌+◌, ◌≤◌, pos, negsuc, List, [], ◌∷◌, Option, Some, None, Ok, Err, length, take, drop, reverse, slice_get, refl, sym, ap, ◌∙◌, subst, arith, Bool, true, false, leb-true}
use Rattle.std.specs.Prelude.{ℤ, ◌+ℤ◌, ◌==◌, ◌&&◌, nat_lt, nat_le, int_le, if◌then◌else◌, option_and_then, Result}
use Rattle.pearl_value.specs.declared.kind.Kind.{Kind}
use Rattle.pearl_value.specs.declared.cell.Cell.{Cell}
use Rattle.pearl_value.specs.declared.cell.Cell.TheVariants.{Fixed, Bits, Chars, Clock, Span, Ref}
use Rattle.pearl_value.specs.declared.cell.Place.TheVariants as place
use Rattle.pearl_value.specs.declared.trap.Trap.{Trap as Trapped}
use Rattle.pearl_rules.specs.declared.action.Answer.{Answer}
use Rattle.pearl_rules.specs.declared.action.Repeat.{Repeat}
use Rattle.pearl_rules.specs.declared.action.Start.{Start}
use Rattle.pearl_stack.specs.Frames.{Frame, cell_at}
use Rattle.pearl_instructions.specs.declared.instr.Reading.{Reading}
use Rattle.pearl_instructions.specs.declared.instr.Instr.{Instr}
use Rattle.pearl_instructions.specs.declared.instr.Instr.TheVariants.{Const, Load, Store, Fill, Drop, Conv, Index, LoadAt, StoreAt, Read, Write, ReadAt, WriteAt, RefSlot, RefSlotAt, RefCell, RefCellAt, ReadRef, WriteRef, Jump, JumpZero, Case, Turn, Call, Return, End, Trap, Within, Advance, NonZero, Monadic, Dyadic, Now, Request, Release, Try, Activate, Continue, Resume, Suspend, Terminate, Prevent, SuspendOwn, TerminateOwn, PreventOwn, Enable, Disable, Trigger, Put, Get, Take, Send}
use Rattle.pearl_instructions.specs.declared.object.Parts.{Parts as Object}
use Rattle.pearl_instructions.specs.declared.schedule.RepeatForm.{RepeatForm}
use Rattle.pearl_instructions.specs.declared.schedule.RepeatForm.TheVariants as again
use Rattle.pearl_instructions.specs.declared.schedule.StartForm.{StartForm}
use Rattle.pearl_instructions.specs.declared.schedule.StartForm.TheVariants as form
use Rattle.pearl_format.specs.declared.item.Item.{Item}
use Rattle.pearl_format.specs.Items.{data_count}
use Rattle.pearl_format.specs.Texts.{text_of}
use Rattle.pearl_value.specs.Applied.{applied1, applied2}
use Rattle.pearl_value.specs.Conversions.{converted, fits_fixed, suits_kind}
use Rattle.pearl_value.specs.Rows.{row1, row2}
use Rattle.std.specs.Ordering.{int_eq}
use Rattle.pearl_value.specs.declared.trap.Trap.TheVariants.{Range, Format}
use Rattle.pearl_instructions.specs.Operators.{number_of, numbers_of}
use Rattle.pearl_instructions.specs.Objects.{items_at, result_of}
use Rattle.pearl_instructions.specs.Offers.{as_start, start_or_free, start_kinds, activation_count, lasting, started, repeated, with_priority, items_suit, value_kinds, put_text}
use Rattle.pearl_instructions.specs.Rows.{act, own_task, after}
use Rattle.pearl_instructions.specs.Flow.{loop_cells, returned, returns, jump_zero, branch, target_of, goes_or_on}
use Rattle.pearl_instructions.specs.Cells.{load, store, cell_reference, read_reference, write_reference}
use Rattle.pearl_instructions.specs.Steps.{Step, Silent, Missing, given, needed, popped, taken, value_kind, traps, makes, within, heard, next}
use Rattle.pearl_solo.specs.Answered.{CanHear, taken_of, count_or_none}

-- this is so after each answer that suits
abbrev pub Heard : Object → ℕ → (Answer → List Frame → Type 0) → Step → Type 0
Heard o own P step = (answer : Answer) → CanHear o own step answer → P answer (after step answer)

module _ (o : Object) (own : ℕ) (P : Answer → List Frame → Type 0) where
  silent_heard : (frames : List Frame) → Heard o own P (Silent frames)
  silent_heard frames = λ answer never. absurd never

  missing_heard : Heard o own P Missing
  missing_heard = λ answer never. absurd never

  traps_heard : (trap : Trapped) (f : Frame) (lower : List Frame) → Heard o own P (traps trap f lower)
  traps_heard trap f lower = λ answer never. absurd never

  makes_heard : (f : Frame) (lower : List Frame) (left : List Cell) (made : Result Cell Trapped) → Heard o own P (makes f lower left made)
  makes_heard f lower left (Ok x) = silent_heard (next f (x ∷ left) ∷ lower)
  makes_heard f lower left (Err trap) = traps_heard trap f lower

  given_heard : {A : Type 0} (option : Option A) (go : A → Step) → ((x : A) → option ≡ Some x → Heard o own P (go x)) → Heard o own P (given option go)
  given_heard None go h = missing_heard
  given_heard (Some x) go h = h x refl

  needed_heard : (b : Bool) (step : Step) → (b ≡ true → Heard o own P step) → Heard o own P (needed b step)
  needed_heard false step h = missing_heard
  needed_heard true step h = h refl

  popped_heard : (xs : List Cell) (go : Cell → List Cell → Step) → ((x : Cell) (left : List Cell) → xs ≡ x ∷ left → Heard o own P (go x left)) → Heard o own P (popped xs go)
  popped_heard [] go h = missing_heard
  popped_heard (x ∷ left) go h = h x left refl

  if_heard : (b : Bool) (x y : Step) → Heard o own P x → Heard o own P y → Heard o own P (if b then x else y)
  if_heard true x y h k = h
  if_heard false x y h k = k

  within_heard : (n : ℕ) (x : Cell) (f : Frame) (lower : List Frame) (go : ℕ → Step) → ((k : ℕ) → Heard o own P (go k)) → Heard o own P (within n x f lower go)
  within_heard n (Fixed len (pos k)) f lower go h =
      needed_heard (len == 31) _ (λ e. if_heard (nat_lt k n) (go k) _ (h k) (λ answer never. absurd never))
  within_heard n (Fixed len (negsuc k)) f lower go h = needed_heard (len == 31) _ (λ e answer never. absurd never)
  within_heard n (Bits len value) f lower go h = missing_heard
  within_heard n (Chars text) f lower go h = missing_heard
  within_heard n (Clock time) f lower go h = missing_heard
  within_heard n (Span time) f lower go h = missing_heard
  within_heard n (Ref kind at) f lower go h = missing_heard

one_off : (xs left : List Cell) (x : Cell) → xs ≡ x ∷ left → (left ≡ drop 1 xs) × (1 ≤ length xs)
one_off xs left x e = (ap (drop 1) (sym e), let long = ap length e in omega (arith, long))

two_off : (xs more left : List Cell) (x y : Cell) → xs ≡ x ∷ more → more ≡ y ∷ left → (left ≡ drop 2 xs) × (2 ≤ length xs)
two_off xs more left x y e h =
    let all : xs ≡ x ∷ y ∷ left = e ∙ ap (λ t. x ∷ t) h in
    (ap (drop 2) (sym all), let long = ap length all in omega (arith, long))

-- where nothing is to be heard: the row is silent, traps, or isn't there
module _ (o : Object) (own : ℕ) (P : Answer → List Frame → Type 0) (f : Frame) (lower : List Frame) where
  same_heard : {A : Type 0} (option other : Option A) (go : A → Step) → option ≡ other → Heard o own P (given other go) → Heard o own P (given option go)
  same_heard option other go e h = subst (λ x. Heard o own P (given x go)) (sym e) h

  loop_heard : (c : ℕ) (go : ℕ → ℤ → ℤ → ℤ → Step) → ((len : ℕ) (x y z : ℤ) → Heard o own P (go len x y z)) → Heard o own P (loop_cells f c go)
  loop_heard c go h = by (slice_get f.cells c) (slice_get f.cells (c + 1)) (slice_get f.cells (c + 2)) refl refl refl
    where
      by : (a b d : Option Cell) → slice_get f.cells c ≡ a → slice_get f.cells (c + 1) ≡ b → slice_get f.cells (c + 2) ≡ d → Heard o own P (loop_cells f c go)
      by None b d p q r = same_heard (slice_get f.cells c) None _ p (missing_heard o own P)
      by (Some x) None d p q r = same_heard (slice_get f.cells c) (Some x) _ p (same_heard (slice_get f.cells (c + 1)) None _ q (missing_heard o own P))
      by (Some x) (Some y) None p q r = same_heard (slice_get f.cells c) (Some x) _ p
          (same_heard (slice_get f.cells (c + 1)) (Some y) _ q (same_heard (slice_get f.cells (c + 2)) None _ r (missing_heard o own P)))
      by (Some (Fixed len x)) (Some (Fixed l y)) (Some (Fixed m z)) p q r = same_heard (slice_get f.cells c) (Some (Fixed len x)) _ p
          (same_heard (slice_get f.cells (c + 1)) (Some (Fixed l y)) _ q
          (same_heard (slice_get f.cells (c + 2)) (Some (Fixed m z)) _ r (h len x y z)))
      by (Some x) (Some y) (Some z) p q r = same_heard (slice_get f.cells c) (Some x) _ p
          (same_heard (slice_get f.cells (c + 1)) (Some y) _ q (same_heard (slice_get f.cells (c + 2)) (Some z) _ r (missing_heard o own P)))

  load_heard : (c : ℕ) (left : List Cell) → Heard o own P (load c f lower left)
  load_heard c left = given_heard o own P (slice_get f.cells c) _ (λ x e answer never. absurd never)

  store_heard : (c : ℕ) (x : Cell) (left : List Cell) → Heard o own P (store c x f lower left)
  store_heard c x left = given_heard o own P (slice_get f.cells c) _ (λ old e answer never. absurd never)

  cell_heard : (c : ℕ) (left : List Cell) → Heard o own P (cell_reference c f lower left)
  cell_heard c left = given_heard o own P (option_and_then value_kind (slice_get f.cells c)) _ (λ kind e answer never. absurd never)

  zero_heard : (i : ℕ) (left : List Cell) (b : Cell) → Heard o own P (jump_zero i f lower left b)
  zero_heard i left (Bits len value) = needed_heard o own P (len == 1) _ (λ e answer never. absurd never)
  zero_heard i left (Fixed len value) = missing_heard o own P
  zero_heard i left (Chars text) = missing_heard o own P
  zero_heard i left (Clock time) = missing_heard o own P
  zero_heard i left (Span time) = missing_heard o own P
  zero_heard i left (Ref kind at) = missing_heard o own P

  goes_heard : (target : Option ℕ) (left : List Cell) → Heard o own P (goes_or_on target f lower left)
  goes_heard None left = λ answer never. absurd never
  goes_heard (Some i) left = λ answer never. absurd never

  branch_heard : (targets : List ℕ) (left : List Cell) (x : Cell) → Heard o own P (branch targets f lower left x)
  branch_heard targets left (Fixed len x) = goes_heard (target_of targets x) left
  branch_heard targets left (Bits len value) = missing_heard o own P
  branch_heard targets left (Chars text) = missing_heard o own P
  branch_heard targets left (Clock time) = missing_heard o own P
  branch_heard targets left (Span time) = missing_heard o own P
  branch_heard targets left (Ref kind at) = missing_heard o own P

  returned_heard : (below : List Frame) (results : List Cell) → Heard o own P (returned below results)
  returned_heard [] results = missing_heard o own P
  returned_heard (g ∷ below) results = λ answer never. absurd never

  returns_heard : (result : Option Kind) → Heard o own P (returns result f lower)
  returns_heard None = returned_heard lower []
  returns_heard (Some kind) = popped_heard o own P f.operands _ (λ x left e. returned_heard lower (x ∷ []))

  -- schedules: what is told goes on, or traps

  lasting_heard : (least time : ℤ) (go : Step) → Heard o own P go → Heard o own P (lasting least time f lower go)
  lasting_heard least time go h = if_heard o own P (int_le least time) go (traps Range f lower) h (traps_heard o own P Range f lower)

  started_heard : (when : StartForm) (values : List Cell) (go : Start → List Cell → Step) → ((s : Start) (rest : List Cell) → Heard o own P (go s rest)) →
      Heard o own P (started when values f lower go)
  started_heard form.Free values go h = h _ values
  started_heard form.At (Clock time ∷ values) go h = h _ values
  started_heard form.After (Span time ∷ values) go h = lasting_heard (pos 0) time _ (h _ values)
  started_heard (form.When device) values go h = h _ values
  started_heard (form.WhenAfter device) (Span time ∷ values) go h = lasting_heard (pos 0) time _ (h _ values)
  started_heard when values go h = missing_heard o own P

  repeated_heard : (how : RepeatForm) (values : List Cell) (go : Repeat → List Cell → Step) → ((s : Repeat) (rest : List Cell) → Heard o own P (go s rest)) →
      Heard o own P (repeated how values f lower go)
  repeated_heard again.Once values go h = h _ values
  repeated_heard again.All (Span period ∷ values) go h = lasting_heard (pos 1) period _ (h _ values)
  repeated_heard again.Until (Span period ∷ Clock end ∷ values) go h = lasting_heard (pos 1) period _ (h _ values)
  repeated_heard again.During (Span period ∷ Span time ∷ values) go h = lasting_heard (pos 1) period _ (lasting_heard (pos 0) time _ (h _ values))
  repeated_heard how values go h = missing_heard o own P

  priority_heard : (b : Bool) (values : List Cell) (go : Option ℕ → Step) → ((p : Option ℕ) → Heard o own P (go p)) → Heard o own P (with_priority b values f lower go)
  priority_heard false values go h = h None
  priority_heard true (Fixed len value ∷ values) go h = if_heard o own P (int_le (pos 1) value && int_le value (pos 255)) _ _ (h _) (traps_heard o own P Range f lower)
  priority_heard true values go h = missing_heard o own P

  put_heard : (device : ℕ) (text : Option (List ℕ)) (left : List Cell) → ((answer : Answer) → P answer (next f left ∷ lower)) → Heard o own P (put_text device text f lower left)
  put_heard device None left h = traps_heard o own P Format f lower
  put_heard device (Some text) left h = λ answer suits. h answer

-- an action after whose answer n operands are off

abbrev pub GoesOn : ℕ → Frame → List Frame → Answer → List Frame → Type 0
GoesOn n f lower answer frames = (frames ≡ next f (drop n f.operands) ∷ lower) × (n ≤ length f.operands)

off : (n : ℕ) (f : Frame) (lower : List Frame) (left : List Cell) → (left ≡ drop n f.operands) × (n ≤ length f.operands) → (answer : Answer) → GoesOn n f lower answer (next f left ∷ lower)
off n f lower left e answer = (ap (λ left. next f left ∷ lower) e.0, e.1)

none_off : (f : Frame) (lower : List Frame) (answer : Answer) → GoesOn 0 f lower answer (next f f.operands ∷ lower)
none_off f lower answer = (refl, omega arith)

writes_on : (o : Object) (own : ℕ) (f : Frame) (lower : List Frame) (x r : Cell) (left : List Cell) → (left ≡ drop 2 f.operands) × (2 ≤ length f.operands) →
    Heard o own (GoesOn 2 f lower) (write_reference x f lower left r)
writes_on o own f lower x (Ref kind (place.Slot slot)) left e = λ answer suits. off 2 f lower left e answer
writes_on o own f lower x (Ref kind (place.Cell n c)) left e = given_heard o own (GoesOn 2 f lower) (cell_at (f ∷ lower) n c) _ (λ old h answer never. absurd never)
writes_on o own f lower x (Fixed len value) left e = missing_heard o own (GoesOn 2 f lower)
writes_on o own f lower x (Bits len value) left e = missing_heard o own (GoesOn 2 f lower)
writes_on o own f lower x (Chars text) left e = missing_heard o own (GoesOn 2 f lower)
writes_on o own f lower x (Clock time) left e = missing_heard o own (GoesOn 2 f lower)
writes_on o own f lower x (Span time) left e = missing_heard o own (GoesOn 2 f lower)

-- whatever the instruction is, but for those that hear a value, a Call and a Get
module _ (o : Object) (f : Frame) (lower : List Frame) where
  abbrev own : ℕ
  own = own_task o f lower

  abbrev On : ℕ → Answer → List Frame → Type 0
  On n = GoesOn n f lower

  puts_heard : (d : ℕ) (items : List Item) (n : ℕ) → n ≡ data_count items →
      Heard o own (On n) (taken (data_count items) f.operands (λ values left. given (value_kinds values) (λ kinds. needed (items_suit items kinds) (put_text d (text_of items values) f lower left))))
  puts_heard d items n same =
      let m = data_count items in
      let values = reverse (take m f.operands) in
      needed_heard o own (On n) (nat_le m (length f.operands)) _ (λ t. given_heard o own (On n) (value_kinds values) _ (λ kinds k. needed_heard o own (On n) (items_suit items kinds) _ (λ b.
      put_heard o own (On n) f lower d (text_of items values) (drop m f.operands)
      (off n f lower (drop m f.operands) (ap (λ k. drop k f.operands) (sym same), subst (λ k. k ≤ length f.operands) (sym same) (leb-true m (length f.operands) t))))))

  pub goes_after : (i : Instr) → ((v : ℕ) → i ≡ Read v → ⊥) → ((v : ℕ) → i ≡ ReadAt v → ⊥) → (i ≡ ReadRef → ⊥) → (i ≡ Now → ⊥) → ((s : ℕ) → i ≡ Try s → ⊥) →
      ((d : ℕ) → i ≡ Take d → ⊥) → ((p : ℕ) → i ≡ Call p → ⊥) → ((g : Reading) → i ≡ Get g → ⊥) → Heard o own (On (taken_of o i)) (act o i f lower)
  goes_after (Const x) n0 n1 n2 n3 n4 n5 n6 n7 = λ answer never. absurd never
  goes_after (Load c) n0 n1 n2 n3 n4 n5 n6 n7 = load_heard o own (On 0) f lower c f.operands
  goes_after (Store c) n0 n1 n2 n3 n4 n5 n6 n7 = popped_heard o own (On 0) f.operands _ (λ x left e. store_heard o own (On 0) f lower c x left)
  goes_after (Fill c n kind) n0 n1 n2 n3 n4 n5 n6 n7 = needed_heard o own (On 0) (nat_le (c + n) (length f.cells)) _ (λ e answer never. absurd never)
  goes_after Drop n0 n1 n2 n3 n4 n5 n6 n7 = popped_heard o own (On 0) f.operands _ (λ x left e answer never. absurd never)
  goes_after (Conv to) n0 n1 n2 n3 n4 n5 n6 n7 = popped_heard o own (On 0) f.operands _ (λ x left e. given_heard o own (On 0) (value_kind x) _ (λ from h. needed_heard o own (On 0) (suits_kind from to) _ (λ t. makes_heard o own (On 0) f lower left (converted x to))))
  goes_after (Index bounds) n0 n1 n2 n3 n4 n5 n6 n7 = needed_heard o own (On 0) (nat_le (length bounds) (length f.operands)) _ (λ t. given_heard o own (On 0) (numbers_of (reverse (take (length bounds) f.operands))) _ (λ ns e. makes_heard o own (On 0) f lower _ _))
  goes_after (LoadAt c n) n0 n1 n2 n3 n4 n5 n6 n7 = popped_heard o own (On 0) f.operands _ (λ x left e. within_heard o own (On 0) n x f lower _ (λ k. load_heard o own (On 0) f lower (c + k) left))
  goes_after (StoreAt c n) n0 n1 n2 n3 n4 n5 n6 n7 = popped_heard o own (On 0) f.operands _ (λ x more e. popped_heard o own (On 0) more _ (λ y left h. within_heard o own (On 0) n y f lower _ (λ k. store_heard o own (On 0) f lower (c + k) x left)))
  goes_after (Read v) n0 n1 n2 n3 n4 n5 n6 n7 = absurd (n0 v refl)
  goes_after (Write v) n0 n1 n2 n3 n4 n5 n6 n7 = given_heard o own (On 1) (slice_get o.leaves v) _ (λ leaf l. popped_heard o own (On 1) f.operands _ (λ x left e answer suits. off 1 f lower left (one_off f.operands left x e) answer))
  goes_after (ReadAt v) n0 n1 n2 n3 n4 n5 n6 n7 = absurd (n1 v refl)
  goes_after (WriteAt v) n0 n1 n2 n3 n4 n5 n6 n7 = given_heard o own (On 2) (slice_get o.leaves v) _ (λ leaf l. popped_heard o own (On 2) f.operands _ (λ x more e. popped_heard o own (On 2) more _ (λ y left h. within_heard o own (On 2) leaf.slots y f lower _ (λ k answer suits. off 2 f lower left (two_off f.operands more left x y e h) answer))))
  goes_after (RefSlot v) n0 n1 n2 n3 n4 n5 n6 n7 = given_heard o own (On 0) (slice_get o.leaves v) _ (λ leaf l answer never. absurd never)
  goes_after (RefSlotAt v) n0 n1 n2 n3 n4 n5 n6 n7 = given_heard o own (On 0) (slice_get o.leaves v) _ (λ leaf l. popped_heard o own (On 0) f.operands _ (λ x left e. within_heard o own (On 0) leaf.slots x f lower _ (λ k answer never. absurd never)))
  goes_after (RefCell c) n0 n1 n2 n3 n4 n5 n6 n7 = cell_heard o own (On 0) f lower c f.operands
  goes_after (RefCellAt c n) n0 n1 n2 n3 n4 n5 n6 n7 = popped_heard o own (On 0) f.operands _ (λ x left e. within_heard o own (On 0) n x f lower _ (λ k. cell_heard o own (On 0) f lower (c + k) left))
  goes_after ReadRef n0 n1 n2 n3 n4 n5 n6 n7 = absurd (n2 refl)
  goes_after WriteRef n0 n1 n2 n3 n4 n5 n6 n7 = popped_heard o own (On 2) f.operands _ (λ x more e. popped_heard o own (On 2) more _ (λ r left h. writes_on o own f lower x r left (two_off f.operands more left x r e h)))
  goes_after (Jump i) n0 n1 n2 n3 n4 n5 n6 n7 = λ answer never. absurd never
  goes_after (JumpZero i) n0 n1 n2 n3 n4 n5 n6 n7 = popped_heard o own (On 0) f.operands _ (λ x left e. zero_heard o own (On 0) f lower i left x)
  goes_after (Case targets) n0 n1 n2 n3 n4 n5 n6 n7 = popped_heard o own (On 0) f.operands _ (λ x left e. branch_heard o own (On 0) f lower targets left x)
  goes_after Turn n0 n1 n2 n3 n4 n5 n6 n7 = λ answer suits. none_off f lower answer
  goes_after (Call p) n0 n1 n2 n3 n4 n5 n6 n7 = absurd (n6 p refl)
  goes_after Return n0 n1 n2 n3 n4 n5 n6 n7 = returns_heard o own (On 0) f lower (result_of o f.routine)
  goes_after End n0 n1 n2 n3 n4 n5 n6 n7 = λ answer never. absurd never
  goes_after (Trap trap) n0 n1 n2 n3 n4 n5 n6 n7 = λ answer never. absurd never
  goes_after (Within c) n0 n1 n2 n3 n4 n5 n6 n7 = loop_heard o own (On 0) f lower c _ (λ len x y z answer never. absurd never)
  goes_after (Advance c i) n0 n1 n2 n3 n4 n5 n6 n7 = loop_heard o own (On 0) f lower c _ (λ len x y z. if_heard o own (On 0) (fits_fixed len (x +ℤ y)) _ _ (λ answer never. absurd never) (λ answer never. absurd never))
  goes_after NonZero n0 n1 n2 n3 n4 n5 n6 n7 = popped_heard o own (On 0) f.operands _ (λ x left e. given_heard o own (On 0) (number_of x) _ (λ n h. if_heard o own (On 0) (int_eq n (pos 0)) _ _ (λ answer never. absurd never) (λ answer never. absurd never)))
  goes_after (Monadic op) n0 n1 n2 n3 n4 n5 n6 n7 = popped_heard o own (On 0) f.operands _ (λ x left e. given_heard o own (On 0) (option_and_then (row1 op) (value_kind x)) _ (λ kind h. makes_heard o own (On 0) f lower left (applied1 op x)))
  goes_after (Dyadic op) n0 n1 n2 n3 n4 n5 n6 n7 = popped_heard o own (On 0) f.operands _ (λ y more e. popped_heard o own (On 0) more _ (λ x left h. given_heard o own (On 0) (value_kind x) _ (λ a p. given_heard o own (On 0) (value_kind y) _ (λ b q. given_heard o own (On 0) (row2 op a b) _ (λ kind r. makes_heard o own (On 0) f lower left (applied2 op x y))))))
  goes_after Now n0 n1 n2 n3 n4 n5 n6 n7 = absurd (n3 refl)
  goes_after (Request list) n0 n1 n2 n3 n4 n5 n6 n7 = λ answer suits. none_off f lower answer
  goes_after (Release list) n0 n1 n2 n3 n4 n5 n6 n7 = λ answer suits. none_off f lower answer
  goes_after (Try s) n0 n1 n2 n3 n4 n5 n6 n7 = absurd (n4 s refl)
  goes_after (Activate a) n0 n1 n2 n3 n4 n5 n6 n7 = let n = activation_count a in needed_heard o own (On n) (nat_le n (length f.operands)) _ (λ t. started_heard o own (On n) f lower a.start _ _ (λ s more. repeated_heard o own (On n) f lower a.repeat more _ (λ how rest. priority_heard o own (On n) f lower a.priority rest _ (λ p answer suits. off n f lower (drop n f.operands) (refl, leb-true n (length f.operands) t) answer))))
  goes_after (Continue c) n0 n1 n2 n3 n4 n5 n6 n7 = let n = length (start_kinds (start_or_free c.once)) in needed_heard o own (On n) (nat_le n (length f.operands)) _ (λ t. started_heard o own (On n) f lower (start_or_free c.once) _ _ (λ s more answer suits. off n f lower (drop n f.operands) (refl, leb-true n (length f.operands) t) answer))
  goes_after (Resume when) n0 n1 n2 n3 n4 n5 n6 n7 = let n = length (start_kinds (as_start when)) in needed_heard o own (On n) (nat_le n (length f.operands)) _ (λ t. started_heard o own (On n) f lower (as_start when) _ _ (λ s more answer suits. off n f lower (drop n f.operands) (refl, leb-true n (length f.operands) t) answer))
  goes_after (Suspend t) n0 n1 n2 n3 n4 n5 n6 n7 = λ answer suits. none_off f lower answer
  goes_after (Terminate t) n0 n1 n2 n3 n4 n5 n6 n7 = λ answer suits. none_off f lower answer
  goes_after (Prevent t) n0 n1 n2 n3 n4 n5 n6 n7 = λ answer suits. none_off f lower answer
  goes_after SuspendOwn n0 n1 n2 n3 n4 n5 n6 n7 = λ answer suits. none_off f lower answer
  goes_after TerminateOwn n0 n1 n2 n3 n4 n5 n6 n7 = λ answer suits. absurd (suits.0 refl)
  goes_after PreventOwn n0 n1 n2 n3 n4 n5 n6 n7 = λ answer suits. none_off f lower answer
  goes_after (Enable d) n0 n1 n2 n3 n4 n5 n6 n7 = λ answer suits. none_off f lower answer
  goes_after (Disable d) n0 n1 n2 n3 n4 n5 n6 n7 = λ answer suits. none_off f lower answer
  goes_after (Trigger d) n0 n1 n2 n3 n4 n5 n6 n7 = λ answer suits. none_off f lower answer
  goes_after (Put d format) n0 n1 n2 n3 n4 n5 n6 n7 = let n = count_or_none (items_at o format) in given_heard o own (On n) (items_at o format) _ (λ items e. puts_heard d items n (ap count_or_none e))
  goes_after (Get g) n0 n1 n2 n3 n4 n5 n6 n7 = absurd (n7 g refl)
  goes_after (Take d) n0 n1 n2 n3 n4 n5 n6 n7 = absurd (n5 d refl)
  goes_after (Send d) n0 n1 n2 n3 n4 n5 n6 n7 = popped_heard o own (On 1) f.operands _ (λ x left e answer suits. off 1 f lower left (one_off f.operands left x e) answer)

-- an action whose answer takes the place of n operands

abbrev pub TakesUp : ℕ → Frame → List Frame → Answer → List Frame → Type 0
TakesUp n f lower answer frames = (frames ≡ next f (heard answer ∷ drop n f.operands) ∷ lower) × (n ≤ length f.operands)

up : (n : ℕ) (f : Frame) (lower : List Frame) (left : List Cell) → (left ≡ drop n f.operands) × (n ≤ length f.operands) → (answer : Answer) →
    TakesUp n f lower answer (next f (heard answer ∷ left) ∷ lower)
up n f lower left e answer = (ap (λ left. next f (heard answer ∷ left) ∷ lower) e.0, e.1)

module _ (o : Object) (f : Frame) (lower : List Frame) where
  abbrev mine : ℕ
  mine = own_task o f lower

  abbrev Up : ℕ → Answer → List Frame → Type 0
  Up n = TakesUp n f lower

  none_up : (answer : Answer) → Up 0 answer (next f (heard answer ∷ f.operands) ∷ lower)
  none_up answer = (refl, omega arith)

  pub read_after : (v : ℕ) → Heard o mine (Up 0) (act o (Read v) f lower)
  read_after v = given_heard o mine (Up 0) (slice_get o.leaves v) _ (λ leaf e answer suits. none_up answer)

  pub now_after : Heard o mine (Up 0) (act o Now f lower)
  now_after = λ answer suits. none_up answer

  pub try_after : (s : ℕ) → Heard o mine (Up 0) (act o (Try s) f lower)
  try_after s = λ answer suits. none_up answer

  pub take_after : (d : ℕ) → Heard o mine (Up 0) (act o (Take d) f lower)
  take_after d = λ answer suits. none_up answer

  pub read_at_after : (v : ℕ) → Heard o mine (Up 1) (act o (ReadAt v) f lower)
  read_at_after v = given_heard o mine (Up 1) (slice_get o.leaves v) _ (λ leaf l. popped_heard o mine (Up 1) f.operands _ (λ x left e.
      within_heard o mine (Up 1) leaf.slots x f lower _ (λ k answer suits. up 1 f lower left (one_off f.operands left x e) answer)))

  reads_up : (r : Cell) (left : List Cell) → (left ≡ drop 1 f.operands) × (1 ≤ length f.operands) → Heard o mine (Up 1) (read_reference f lower left r)
  reads_up (Ref kind (place.Slot slot)) left e = λ answer suits. up 1 f lower left e answer
  reads_up (Ref kind (place.Cell n c)) left e = given_heard o mine (Up 1) (cell_at (f ∷ lower) n c) _ (λ x h answer never. absurd never)
  reads_up (Fixed len value) left e = missing_heard o mine (Up 1)
  reads_up (Bits len value) left e = missing_heard o mine (Up 1)
  reads_up (Chars text) left e = missing_heard o mine (Up 1)
  reads_up (Clock time) left e = missing_heard o mine (Up 1)
  reads_up (Span time) left e = missing_heard o mine (Up 1)

  pub read_ref_after : Heard o mine (Up 1) (act o ReadRef f lower)
  read_ref_after = popped_heard o mine (Up 1) f.operands _ (λ r left e. reads_up r left (one_off f.operands left r e))
