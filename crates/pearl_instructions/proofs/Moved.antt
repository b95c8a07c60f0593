-- How a row moves the frames of a stack.
use Rattle.std.proofs.Common.{◌≡◌, ℕ, ◌+◌, ℤ, pos, negsuc, ◌+ℤ◌, List, [], ◌∷◌, Option, Some, None, length, take, drop, reverse, slice_get, slice_set, refl, sym, ap, ◌∙◌, subst, Bool, true, false, cond, inl, inr}
use Rattle.std.specs.Prelude.{◌&&◌, ◌==◌, nat_lt, nat_le, int_le, if◌then◌else◌, option_and_then, Result, Ok, Err}
use Rattle.pearl_value.specs.declared.kind.Kind.{Kind}
use Rattle.pearl_value.specs.declared.cell.Place.TheVariants as place
use Rattle.pearl_value.specs.declared.cell.Cell.{Cell}
use Rattle.pearl_value.specs.declared.cell.Cell.TheVariants as cell
use Rattle.pearl_value.specs.declared.trap.Trap.{Trap}
use Rattle.pearl_value.specs.declared.trap.Trap.TheVariants.{Range}
use Rattle.pearl_value.specs.Rows.{row1, row2}
use Rattle.pearl_value.specs.Applied.{applied1, applied2}
use Rattle.pearl_value.specs.Conversions.{fits_fixed, converted, suits_kind}
use Rattle.std.specs.Ordering.{int_eq}
use Rattle.pearl_format.specs.Items.{data_count}
use Rattle.pearl_format.specs.Texts.{text_of}
use Rattle.pearl_rules.specs.declared.action.Action.TheVariants as action
use Rattle.pearl_rules.specs.declared.action.Action.TheVariants.{Enter}
use Rattle.pearl_rules.specs.declared.action.Start.{Start}
use Rattle.pearl_rules.specs.declared.action.Repeat.{Repeat}
use Rattle.pearl_stack.specs.Frames.{Frame, cell_at, with_cell}
use Rattle.pearl_instructions.specs.declared.schedule.StartForm.{StartForm}
use Rattle.pearl_instructions.specs.declared.schedule.StartForm.TheVariants as form
use Rattle.pearl_instructions.specs.declared.schedule.RepeatForm.{RepeatForm}
use Rattle.pearl_instructions.specs.declared.schedule.RepeatForm.TheVariants as again
use Rattle.pearl_instructions.specs.declared.instr.Instr.{Instr}
use Rattle.pearl_instructions.specs.declared.instr.Instr.TheVariants.{Const, Load, Store, Fill, Drop, Conv, Index, LoadAt, StoreAt, Read, Write, ReadAt, WriteAt, RefSlot, RefSlotAt, RefCell, RefCellAt, ReadRef, WriteRef, Jump, JumpZero, Case, Turn, Call, Return, End, Trap as TrapOf, Within, Advance, NonZero, Monadic, Dyadic, Now, Request, Release, Try, Activate, Continue, Resume, Suspend, Terminate, Prevent, SuspendOwn, TerminateOwn, PreventOwn, Enable, Disable, Trigger, Put, Get, Take, Send}
use Rattle.pearl_instructions.specs.declared.object.Parts.{Parts as Object}
use Rattle.pearl_instructions.specs.Objects.{result_of, items_at}
use Rattle.pearl_instructions.specs.Steps.{Step, Silent, Offers, given, needed, popped, taken, value_kind, next, leaves, traps, acts, all_heard, makes, within}
use Rattle.pearl_instructions.specs.Cells.{read_reference, write_reference}
use Rattle.pearl_instructions.specs.Operators.{number_of, numbers_of, offset_of, index_of}
use Rattle.pearl_instructions.specs.Flow as flow
use Rattle.pearl_instructions.specs.Offers as offers
use Rattle.pearl_instructions.specs.Rows.{own_task, act}
use Rattle.pearl_instructions.specs.Valid.{goes_on, targets}
use Rattle.pearl_instructions.specs.Owned.{position, standing, GoesTo, Proceeds, GoesBack, Moves, Afterwards}
use Rattle.pearl_instructions.proofs.SoundFlow.{target_is}

-- of each stack that comes after a row of this task
pub record Leads (o : Object) (own : ℕ) (P : List Frame → Type 0) (step : Step) : Type 0 where
  pub leads : Afterwards o own P step

-- where nothing comes next, or something of which it holds
module _ (o : Object) (own : ℕ) (P : List Frame → Type 0) where
  popped_leads : (operands : List Cell) (go : Cell → List Cell → Step) → ((x : Cell) (left : List Cell) → Leads o own P (go x left)) → Leads o own P (popped operands go)
  popped_leads [] go h = record { leads = tt }
  popped_leads (x ∷ left) go h = h x left

  given_leads : {A : Type 0} (option : Option A) (go : A → Step) → ((x : A) → Leads o own P (go x)) → Leads o own P (given option go)
  given_leads None go h = record { leads = tt }
  given_leads (Some x) go h = h x

  same_leads : {A : Type 0} (option other : Option A) (go : A → Step) → option ≡ other → Leads o own P (given other go) → Leads o own P (given option go)
  same_leads option other go e h = subst (λ x. Leads o own P (given x go)) (sym e) h

  needed_leads : (b : Bool) (step : Step) → Leads o own P step → Leads o own P (needed b step)
  needed_leads true step h = h
  needed_leads false step h = record { leads = tt }

  taken_leads : (n : ℕ) (operands : List Cell) (go : List Cell → List Cell → Step) → ((xs left : List Cell) → Leads o own P (go xs left)) → Leads o own P (taken n operands go)
  taken_leads n operands go h = needed_leads (nat_le n (length operands)) (go (reverse (take n operands)) (drop n operands)) (h (reverse (take n operands)) (drop n operands))

  if_leads : (b : Bool) (x y : Step) → Leads o own P x → Leads o own P y → Leads o own P (if b then x else y)
  if_leads true x y h g = h
  if_leads false x y h g = g

  traps_leads : (trap : Trap) (f : Frame) (lower : List Frame) → Leads o own P (traps trap f lower)
  traps_leads trap f lower = record { leads = λ answer never. absurd never }

  within_leads : (n : ℕ) (x : Cell) (f : Frame) (lower : List Frame) (go : ℕ → Step) → ((i : ℕ) → Leads o own P (go i)) → Leads o own P (within n x f lower go)
  within_leads n (cell.Fixed len (pos i)) f lower go h = needed_leads (len == 31) _ (if_leads (nat_lt i n) _ _ (h i) (traps_leads _ f lower))
  within_leads n (cell.Fixed len (negsuc i)) f lower go h = needed_leads (len == 31) _ (traps_leads _ f lower)
  within_leads n (cell.Bits len value) f lower go h = record { leads = tt }
  within_leads n (cell.Chars text) f lower go h = record { leads = tt }
  within_leads n (cell.Clock time) f lower go h = record { leads = tt }
  within_leads n (cell.Span time) f lower go h = record { leads = tt }
  within_leads n (cell.Ref of at) f lower go h = record { leads = tt }

  lasting_leads : (least time : ℤ) (f : Frame) (lower : List Frame) (go : Step) → Leads o own P go → Leads o own P (offers.lasting least time f lower go)
  lasting_leads least time f lower go h = if_leads (int_le least time) go (traps Range f lower) h (traps_leads Range f lower)

  started_leads : (when : StartForm) (values : List Cell) (f : Frame) (lower : List Frame) (go : Start → List Cell → Step) →
      ((s : Start) (rest : List Cell) → Leads o own P (go s rest)) → Leads o own P (offers.started when values f lower go)
  started_leads form.Free values f lower go h = h _ values
  started_leads form.At (cell.Clock time ∷ values) f lower go h = h _ values
  started_leads form.After (cell.Span time ∷ values) f lower go h = lasting_leads (pos 0) time f lower _ (h _ values)
  started_leads (form.When device) values f lower go h = h _ values
  started_leads (form.WhenAfter device) (cell.Span time ∷ values) f lower go h = lasting_leads (pos 0) time f lower _ (h _ values)
  started_leads when values f lower go h = record { leads = tt }

  repeated_leads : (how : RepeatForm) (values : List Cell) (f : Frame) (lower : List Frame) (go : Repeat → List Cell → Step) →
      ((s : Repeat) (rest : List Cell) → Leads o own P (go s rest)) → Leads o own P (offers.repeated how values f lower go)
  repeated_leads again.Once values f lower go h = h _ values
  repeated_leads again.All (cell.Span period ∷ values) f lower go h = lasting_leads (pos 1) period f lower _ (h _ values)
  repeated_leads again.Until (cell.Span period ∷ cell.Clock end ∷ values) f lower go h = lasting_leads (pos 1) period f lower _ (h _ values)
  repeated_leads again.During (cell.Span period ∷ cell.Span time ∷ values) f lower go h =
      lasting_leads (pos 1) period f lower _ (lasting_leads (pos 0) time f lower _ (h _ values))
  repeated_leads how values f lower go h = record { leads = tt }

  priority_leads : (b : Bool) (values : List Cell) (f : Frame) (lower : List Frame) (go : Option ℕ → Step) →
      ((p : Option ℕ) → Leads o own P (go p)) → Leads o own P (offers.with_priority b values f lower go)
  priority_leads false values f lower go h = h None
  priority_leads true (cell.Fixed len value ∷ values) f lower go h = if_leads (int_le (pos 1) value && int_le value (pos 255)) _ _ (h _) (traps_leads Range f lower)
  priority_leads true values f lower go h = record { leads = tt }

-- a cell that is written moves no frame
standing_set : (fs : List Frame) (n c : ℕ) (x : Cell) → standing (with_cell fs n c x) ≡ standing fs
standing_set [] n c x = refl
standing_set (f ∷ fs) n c x = by_test (n == length fs) (standing_set fs n c x)
  where
    by_test : (b : Bool) → standing (with_cell fs n c x) ≡ standing fs →
        standing (cond b (record f { cells = slice_set f.cells c x } ∷ fs) (f ∷ with_cell fs n c x)) ≡ standing (f ∷ fs)
    by_test true e = refl
    by_test false e = ap (λ s. position f ∷ s) e

-- frames that stand alike, one by one
pub same_standing : (f g : Frame) (lower left : List Frame) → standing (f ∷ lower) ≡ standing (g ∷ left) →
    (f.routine ≡ g.routine) × (f.place ≡ g.place) × (standing lower ≡ standing left)
same_standing f g lower left e =
    let top : position f ≡ position g = cc in
    let rest : standing lower ≡ standing left = cc in
    (ap (λ p. p.0) top, ap (λ p. p.1) top, rest)

-- frames that stand like these: the top one has gone on, and no other has moved
proceeds_like : (instr : Instr) (f g : Frame) (lower left : List Frame) (frames : List Frame) → standing frames ≡ standing (g ∷ left) →
    Proceeds instr f lower (g ∷ left) → Proceeds instr f lower frames
proceeds_like instr f g lower left [] e p = cc
proceeds_like instr f g lower left (h ∷ more) e p =
    let same = same_standing h g more left e in
    (same.0 ∙ p.0, subst (λ n. GoesTo instr f.place n) (sym same.1) p.1, same.2 ∙ p.2)

-- an instruction that moves the top frame only, and goes on to the next one
module _ (o : Object) (own : ℕ) (f : Frame) (lower : List Frame) (i : Instr) where
  abbrev Go : List Frame → Type 0
  Go = Proceeds i f lower

  on : (cells operands : List Cell) → goes_on i ≡ true →
      Leads o own Go (Silent (record { routine = f.routine; place = f.place + 1; cells = cells; operands = operands } ∷ lower))
  on cells operands g = record { leads = (refl, inl (g, refl), refl) }

  goes_leads : (n t : ℕ) (left : List Cell) → slice_get (targets i) n ≡ Some t → Leads o own Go (flow.goes t f lower left)
  goes_leads n t left e = record { leads = (refl, inr (n, e), refl) }

  makes_leads : (left : List Cell) (made : Result Cell Trap) → goes_on i ≡ true → Leads o own Go (makes f lower left made)
  makes_leads left (Ok x) g = on f.cells (x ∷ left) g
  makes_leads left (Err trap) g = traps_leads o own Go trap f lower

  read_leads : (left : List Cell) (r : Cell) → goes_on i ≡ true → Leads o own Go (read_reference f lower left r)
  read_leads left (cell.Ref k (place.Slot v)) g = record { leads = λ answer suits. (refl, inl (g, refl), refl) }
  read_leads left (cell.Ref k (place.Cell n c)) g = given_leads o own Go (cell_at (f ∷ lower) n c) _ (λ x. on f.cells (x ∷ left) g)
  read_leads left x g = record { leads = tt }

  write_leads : (left : List Cell) (x r : Cell) → goes_on i ≡ true → Leads o own Go (write_reference x f lower left r)
  write_leads left x (cell.Ref k (place.Slot v)) g = record { leads = λ answer suits. (refl, inl (g, refl), refl) }
  write_leads left x (cell.Ref k (place.Cell n c)) g = given_leads o own Go (cell_at (f ∷ lower) n c) _ (λ old.
      record { leads = proceeds_like i f (next f left) lower lower (with_cell (next f left ∷ lower) n c x) (standing_set (next f left ∷ lower) n c x) (refl, inl (g, refl), refl) })
  write_leads left x r g = record { leads = tt }

  jump_zero_leads : (t : ℕ) (left : List Cell) (b : Cell) → goes_on i ≡ true → slice_get (targets i) 0 ≡ Some t → Leads o own Go (flow.jump_zero t f lower left b)
  jump_zero_leads t left (cell.Bits len value) g e = needed_leads o own Go (len == 1) _ (by_bit (value == 0))
    where
      by_bit : (b : Bool) → Leads o own Go (flow.goes (if b then t else f.place + 1) f lower left)
      by_bit true = goes_leads 0 t left e
      by_bit false = on f.cells left g
  jump_zero_leads t left x g e = record { leads = tt }

  branch_leads : (ts : List ℕ) (left : List Cell) (x : Cell) → goes_on i ≡ true → ts ≡ targets i → Leads o own Go (flow.branch ts f lower left x)
  branch_leads ts left (cell.Fixed len value) g same = by_target (flow.target_of ts value) (λ t e. target_is ts value t e)
    where
      by_target : (target : Option ℕ) → ((t : ℕ) → target ≡ Some t → (n : ℕ) × (slice_get ts n ≡ Some t)) → Leads o own Go (flow.goes_or_on target f lower left)
      by_target None is = on f.cells left g
      by_target (Some t) is = let there = is t refl in goes_leads there.0 t left (ap (λ ts. slice_get ts there.0) (sym same) ∙ there.1)
  branch_leads ts left x g same = record { leads = tt }

  put_leads : (device : ℕ) (text : Option (List ℕ)) (left : List Cell) → goes_on i ≡ true → Leads o own Go (offers.put_text device text f lower left)
  put_leads device None left g = traps_leads o own Go _ f lower
  put_leads device (Some text) left g = record { leads = λ answer suits. (refl, inl (g, refl), refl) }

  loop_leads : (c : ℕ) (go : ℕ → ℤ → ℤ → ℤ → Step) → ((len : ℕ) (x y z : ℤ) → Leads o own Go (go len x y z)) → Leads o own Go (flow.loop_cells f c go)
  loop_leads c go h = by (slice_get f.cells c) (slice_get f.cells (c + 1)) (slice_get f.cells (c + 2)) refl refl refl
    where
      by : (a b d : Option Cell) → slice_get f.cells c ≡ a → slice_get f.cells (c + 1) ≡ b → slice_get f.cells (c + 2) ≡ d → Leads o own Go (flow.loop_cells f c go)
      by None b d p q r = same_leads o own Go (slice_get f.cells c) None _ p (record { leads = tt })
      by (Some x) None d p q r = same_leads o own Go (slice_get f.cells c) (Some x) _ p (same_leads o own Go (slice_get f.cells (c + 1)) None _ q (record { leads = tt }))
      by (Some x) (Some y) None p q r = same_leads o own Go (slice_get f.cells c) (Some x) _ p
          (same_leads o own Go (slice_get f.cells (c + 1)) (Some y) _ q (same_leads o own Go (slice_get f.cells (c + 2)) None _ r (record { leads = tt })))
      by (Some (cell.Fixed len x)) (Some (cell.Fixed l y)) (Some (cell.Fixed m z)) p q r = same_leads o own Go (slice_get f.cells c) (Some (cell.Fixed len x)) _ p
          (same_leads o own Go (slice_get f.cells (c + 1)) (Some (cell.Fixed l y)) _ q
          (same_leads o own Go (slice_get f.cells (c + 2)) (Some (cell.Fixed m z)) _ r (h len x y z)))
      by (Some x) (Some y) (Some z) p q r = same_leads o own Go (slice_get f.cells c) (Some x) _ p
          (same_leads o own Go (slice_get f.cells (c + 1)) (Some y) _ q (same_leads o own Go (slice_get f.cells (c + 2)) (Some z) _ r (record { leads = tt })))

returned_leads : (o : Object) (own : ℕ) (lower : List Frame) (results : List Cell) → Leads o own (GoesBack lower) (flow.returned lower results)
returned_leads o own [] results = record { leads = tt }
returned_leads o own (g ∷ lower) results = record { leads = (refl, refl, refl) }

returns_leads : (o : Object) (own : ℕ) (f : Frame) (lower : List Frame) (result : Option Kind) → Leads o own (GoesBack lower) (flow.returns result f lower)
returns_leads o own f lower None = returned_leads o own lower []
returns_leads o own f lower (Some k) = popped_leads o own (GoesBack lower) f.operands _ (λ x left. returned_leads o own lower (x ∷ []))

-- each row moves the frames as its instruction says
pub act_leads : (o : Object) (own : ℕ) (f : Frame) (lower : List Frame) (instr : Instr) → own_task o f lower ≡ own → Leads o own (Moves instr f lower) (act o instr f lower)
act_leads o own f lower (Const x) same = on o own f lower (Const x) f.cells (x ∷ f.operands) refl
act_leads o own f lower (Load c) same = given_leads o own (Proceeds (Load c) f lower) (slice_get f.cells c) _ (λ x. on o own f lower (Load c) f.cells (x ∷ f.operands) refl)
act_leads o own f lower (Store c) same = popped_leads o own (Proceeds (Store c) f lower) f.operands _ (λ x left.
    given_leads o own (Proceeds (Store c) f lower) (slice_get f.cells c) _ (λ old. on o own f lower (Store c) (slice_set f.cells c x) left refl))
act_leads o own f lower (Fill c n of) same = needed_leads o own (Proceeds (Fill c n of) f lower) _ _ (on o own f lower (Fill c n of) _ f.operands refl)
act_leads o own f lower Drop same = popped_leads o own (Proceeds Drop f lower) f.operands _ (λ x left. on o own f lower Drop f.cells left refl)
act_leads o own f lower (Conv to) same = popped_leads o own (Proceeds (Conv to) f lower) f.operands _ (λ x left.
    given_leads o own (Proceeds (Conv to) f lower) (value_kind x) (λ from. needed (suits_kind from to) (makes f lower left (converted x to))) (λ from.
    needed_leads o own (Proceeds (Conv to) f lower) (suits_kind from to) (makes f lower left (converted x to)) (makes_leads o own f lower (Conv to) left (converted x to) refl)))
act_leads o own f lower (Index bounds) same =
    taken_leads o own (Proceeds (Index bounds) f lower) (length bounds) f.operands
    (λ xs left. given (numbers_of xs) (λ ns. makes f lower left (index_of (offset_of (pos 0) bounds ns)))) (λ xs left.
    given_leads o own (Proceeds (Index bounds) f lower) (numbers_of xs) (λ ns. makes f lower left (index_of (offset_of (pos 0) bounds ns))) (λ ns.
    makes_leads o own f lower (Index bounds) left (index_of (offset_of (pos 0) bounds ns)) refl))
act_leads o own f lower (LoadAt c n) same = popped_leads o own (Proceeds (LoadAt c n) f lower) f.operands _ (λ x left. within_leads o own (Proceeds (LoadAt c n) f lower) n x f lower _ (λ i.
    given_leads o own (Proceeds (LoadAt c n) f lower) _ _ (λ y. on o own f lower (LoadAt c n) f.cells (y ∷ left) refl)))
act_leads o own f lower (StoreAt c n) same = popped_leads o own (Proceeds (StoreAt c n) f lower) f.operands _ (λ x more. popped_leads o own (Proceeds (StoreAt c n) f lower) more _ (λ y left.
    within_leads o own (Proceeds (StoreAt c n) f lower) n y f lower _ (λ i. given_leads o own (Proceeds (StoreAt c n) f lower) _ _ (λ old. on o own f lower (StoreAt c n) _ left refl))))
act_leads o own f lower (Read v) same = given_leads o own (Proceeds (Read v) f lower) (slice_get o.leaves v) _ (λ leaf. record { leads = λ answer suits. (refl, inl (refl, refl), refl) })
act_leads o own f lower (Write v) same = given_leads o own (Proceeds (Write v) f lower) (slice_get o.leaves v) _ (λ leaf.
    popped_leads o own (Proceeds (Write v) f lower) f.operands _ (λ x left. record { leads = λ answer suits. (refl, inl (refl, refl), refl) }))
act_leads o own f lower (ReadAt v) same = given_leads o own (Proceeds (ReadAt v) f lower) (slice_get o.leaves v) _ (λ leaf.
    popped_leads o own (Proceeds (ReadAt v) f lower) f.operands _ (λ x left.
    within_leads o own (Proceeds (ReadAt v) f lower) leaf.slots x f lower _ (λ i. record { leads = λ answer suits. (refl, inl (refl, refl), refl) })))
act_leads o own f lower (WriteAt v) same = given_leads o own (Proceeds (WriteAt v) f lower) (slice_get o.leaves v) _ (λ leaf.
    popped_leads o own (Proceeds (WriteAt v) f lower) f.operands _ (λ x more. popped_leads o own (Proceeds (WriteAt v) f lower) more _ (λ y left.
    within_leads o own (Proceeds (WriteAt v) f lower) leaf.slots y f lower _ (λ i. record { leads = λ answer suits. (refl, inl (refl, refl), refl) }))))
act_leads o own f lower (RefSlot v) same = given_leads o own (Proceeds (RefSlot v) f lower) (slice_get o.leaves v) _ (λ leaf. on o own f lower (RefSlot v) f.cells _ refl)
act_leads o own f lower (RefSlotAt v) same = given_leads o own (Proceeds (RefSlotAt v) f lower) (slice_get o.leaves v) _ (λ leaf.
    popped_leads o own (Proceeds (RefSlotAt v) f lower) f.operands _ (λ x left.
    within_leads o own (Proceeds (RefSlotAt v) f lower) leaf.slots x f lower _ (λ i. on o own f lower (RefSlotAt v) f.cells _ refl)))
act_leads o own f lower (RefCell c) same = given_leads o own (Proceeds (RefCell c) f lower) _ _ (λ k. on o own f lower (RefCell c) f.cells _ refl)
act_leads o own f lower (RefCellAt c n) same = popped_leads o own (Proceeds (RefCellAt c n) f lower) f.operands _ (λ x left.
    within_leads o own (Proceeds (RefCellAt c n) f lower) n x f lower _ (λ i.
    given_leads o own (Proceeds (RefCellAt c n) f lower) _ _ (λ k. on o own f lower (RefCellAt c n) f.cells _ refl)))
act_leads o own f lower ReadRef same = popped_leads o own (Proceeds ReadRef f lower) f.operands _ (λ r left. read_leads o own f lower ReadRef left r refl)
act_leads o own f lower WriteRef same = popped_leads o own (Proceeds WriteRef f lower) f.operands _ (λ x more.
    popped_leads o own (Proceeds WriteRef f lower) more _ (λ r left. write_leads o own f lower WriteRef left x r refl))
act_leads o own f lower (Jump t) same = goes_leads o own f lower (Jump t) 0 t f.operands refl
act_leads o own f lower (JumpZero t) same = popped_leads o own (Proceeds (JumpZero t) f lower) f.operands _ (λ x left. jump_zero_leads o own f lower (JumpZero t) t left x refl refl)
act_leads o own f lower (Case ts) same = popped_leads o own (Proceeds (Case ts) f lower) f.operands _ (λ x left. branch_leads o own f lower (Case ts) ts left x refl refl)
act_leads o own f lower Turn same = record { leads = λ answer suits. (refl, inl (refl, refl), refl) }
act_leads o own f lower (Call p) same = given_leads o own (Moves (Call p) f lower) (slice_get o.procedures p) _ (λ callee.
    needed_leads o own (Moves (Call p) f lower) (nat_le callee.params (length f.operands)) (Offers Enter (λ answer. flow.called p callee (f ∷ lower) f.operands))
    (record { leads = λ answer suits. (refl, refl, refl) }))
act_leads o own f lower Return same = returns_leads o own f lower (result_of o f.routine)
act_leads o own f lower End same = record { leads = λ answer never. absurd never }
act_leads o own f lower (TrapOf trap) same = record { leads = λ answer never. absurd never }
act_leads o own f lower (Within c) same = loop_leads o own f lower (Within c) c _ (λ len x y z. on o own f lower (Within c) f.cells _ refl)
act_leads o own f lower (Advance c t) same = loop_leads o own f lower (Advance c t) c _ (λ len x y z.
    if_leads o own (Proceeds (Advance c t) f lower) (fits_fixed len (x +ℤ y)) _ _ (on o own f lower (Advance c t) _ f.operands refl)
    (goes_leads o own f lower (Advance c t) 0 t f.operands refl))
act_leads o own f lower NonZero same = popped_leads o own (Proceeds NonZero f lower) f.operands _ (λ x left.
    given_leads o own (Proceeds NonZero f lower) (number_of x) (λ n. if int_eq n (pos 0) then traps Range f lower else leaves f lower f.operands) (λ n.
    if_leads o own (Proceeds NonZero f lower) (int_eq n (pos 0)) (traps Range f lower) (leaves f lower f.operands) (traps_leads o own (Proceeds NonZero f lower) Range f lower)
    (on o own f lower NonZero f.cells f.operands refl)))
act_leads o own f lower (Monadic op) same = popped_leads o own (Proceeds (Monadic op) f lower) f.operands _ (λ x left.
    given_leads o own (Proceeds (Monadic op) f lower) (option_and_then (row1 op) (value_kind x)) (λ k. makes f lower left (applied1 op x)) (λ k.
    makes_leads o own f lower (Monadic op) left (applied1 op x) refl))
act_leads o own f lower (Dyadic op) same = popped_leads o own (Proceeds (Dyadic op) f lower) f.operands _ (λ y more. popped_leads o own (Proceeds (Dyadic op) f lower) more _ (λ x left.
    given_leads o own (Proceeds (Dyadic op) f lower) (value_kind x) (λ a. given (value_kind y) (λ b. given (row2 op a b) (λ k. makes f lower left (applied2 op x y)))) (λ a.
    given_leads o own (Proceeds (Dyadic op) f lower) (value_kind y) (λ b. given (row2 op a b) (λ k. makes f lower left (applied2 op x y))) (λ b.
    given_leads o own (Proceeds (Dyadic op) f lower) (row2 op a b) (λ k. makes f lower left (applied2 op x y)) (λ k.
    makes_leads o own f lower (Dyadic op) left (applied2 op x y) refl)))))
act_leads o own f lower Now same = record { leads = λ answer suits. (refl, inl (refl, refl), refl) }
act_leads o own f lower (Request list) same = record { leads = λ answer suits. (refl, inl (refl, refl), refl) }
act_leads o own f lower (Release list) same = record { leads = λ answer suits. (refl, inl (refl, refl), refl) }
act_leads o own f lower (Try n) same = record { leads = λ answer suits. (refl, inl (refl, refl), refl) }
act_leads o own f lower (Activate a) same =
    taken_leads o own (Proceeds (Activate a) f lower) (offers.activation_count a) f.operands
    (λ values left. offers.started a.start values f lower (λ when more. offers.repeated a.repeat more f lower (λ how rest.
    offers.with_priority a.priority rest f lower (λ p. acts (action.Activate a.task when how p) f lower left)))) (λ values left.
    started_leads o own (Proceeds (Activate a) f lower) a.start values f lower (λ when more. offers.repeated a.repeat more f lower (λ how rest.
    offers.with_priority a.priority rest f lower (λ p. acts (action.Activate a.task when how p) f lower left))) (λ when more.
    repeated_leads o own (Proceeds (Activate a) f lower) a.repeat more f lower (λ how rest.
    offers.with_priority a.priority rest f lower (λ p. acts (action.Activate a.task when how p) f lower left)) (λ how rest.
    priority_leads o own (Proceeds (Activate a) f lower) a.priority rest f lower (λ p. acts (action.Activate a.task when how p) f lower left) (λ p.
    record { leads = λ answer suits. (refl, inl (refl, refl), refl) }))))
act_leads o own f lower (Continue c) same =
    taken_leads o own (Proceeds (Continue c) f lower) (length (offers.start_kinds (offers.start_or_free c.once))) f.operands
    (λ values left. offers.started (offers.start_or_free c.once) values f lower (λ when rest. acts (action.Continue c.task when) f lower left)) (λ values left.
    started_leads o own (Proceeds (Continue c) f lower) (offers.start_or_free c.once) values f lower (λ when rest. acts (action.Continue c.task when) f lower left) (λ when rest.
    record { leads = λ answer suits. (refl, inl (refl, refl), refl) }))
act_leads o own f lower (Resume once) same =
    taken_leads o own (Proceeds (Resume once) f lower) (length (offers.start_kinds (offers.as_start once))) f.operands
    (λ values left. offers.started (offers.as_start once) values f lower (λ when rest. acts (action.Resume when) f lower left)) (λ values left.
    started_leads o own (Proceeds (Resume once) f lower) (offers.as_start once) values f lower (λ when rest. acts (action.Resume when) f lower left) (λ when rest.
    record { leads = λ answer suits. (refl, inl (refl, refl), refl) }))
act_leads o own f lower (Suspend n) same = record { leads = λ answer suits. (refl, inl (refl, refl), refl) }
act_leads o own f lower (Terminate n) same = record { leads = λ answer suits. (refl, inl (refl, refl), refl) }
act_leads o own f lower (Prevent n) same = record { leads = λ answer suits. (refl, inl (refl, refl), refl) }
act_leads o own f lower SuspendOwn same = record { leads = λ answer suits. (refl, inl (refl, refl), refl) }
act_leads o own f lower TerminateOwn same = record { leads = λ answer suits. absurd (suits.0 same) }
act_leads o own f lower PreventOwn same = record { leads = λ answer suits. (refl, inl (refl, refl), refl) }
act_leads o own f lower (Enable n) same = record { leads = λ answer suits. (refl, inl (refl, refl), refl) }
act_leads o own f lower (Disable n) same = record { leads = λ answer suits. (refl, inl (refl, refl), refl) }
act_leads o own f lower (Trigger n) same = record { leads = λ answer suits. (refl, inl (refl, refl), refl) }
act_leads o own f lower (Put d n) same = given_leads o own (Proceeds (Put d n) f lower) (items_at o n) _ (λ items.
    taken_leads o own (Proceeds (Put d n) f lower) (data_count items) f.operands
    (λ values left. given (offers.value_kinds values) (λ kinds. needed (offers.items_suit items kinds) (offers.put_text d (text_of items values) f lower left))) (λ values left.
    given_leads o own (Proceeds (Put d n) f lower) (offers.value_kinds values) (λ kinds. needed (offers.items_suit items kinds) (offers.put_text d (text_of items values) f lower left)) (λ kinds.
    needed_leads o own (Proceeds (Put d n) f lower) (offers.items_suit items kinds) (offers.put_text d (text_of items values) f lower left)
    (put_leads o own f lower (Put d n) d (text_of items values) left refl))))
act_leads o own f lower (Get g) same = given_leads o own (Proceeds (Get g) f lower) (items_at o g.format) _ (λ items.
    given_leads o own (Proceeds (Get g) f lower) (option_and_then offers.value_kinds (offers.cells_from f.cells g.first (data_count items)))
    (λ kinds. needed (offers.items_suit items kinds)
    (Offers (action.Get g.device g.format (record { items = kinds }))
    (λ answer. next (record f { cells = offers.with_values f.cells g.first (all_heard answer) }) f.operands ∷ lower))) (λ kinds.
    needed_leads o own (Proceeds (Get g) f lower) (offers.items_suit items kinds)
    (Offers (action.Get g.device g.format (record { items = kinds }))
    (λ answer. next (record f { cells = offers.with_values f.cells g.first (all_heard answer) }) f.operands ∷ lower))
    (record { leads = λ answer suits. (refl, inl (refl, refl), refl) })))
act_leads o own f lower (Take d) same = record { leads = λ answer suits. (refl, inl (refl, refl), refl) }
act_leads o own f lower (Send d) same = popped_leads o own (Proceeds (Send d) f lower) f.operands _ (λ x left. record { leads = λ answer suits. (refl, inl (refl, refl), refl) })
