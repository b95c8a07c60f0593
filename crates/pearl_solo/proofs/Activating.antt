-- The row of ACTIVATE, by the values that lie for it.
use Rattle.std.proofs.Common.{◌≡◌, ℕ, ◌≤◌, ℤ, pos, List, [], ◌∷◌, Option, Some, None, Ok, Err, length, reverse, take, drop, refl, sym, ap, ◌∙◌, subst, Bool, true, false, leb-true}
use Rattle.std.specs.Prelude.{◌&&◌, nat_le, int_le, unsigned_abs, if◌then◌else◌, IsSome, Result}
use Rattle.std.proofs.lemmas.Option.{same_Some}
use Rattle.pearl_value.specs.declared.cell.Cell.{Cell}
use Rattle.pearl_value.specs.declared.cell.Cell.TheVariants.{Fixed, Bits, Chars, Clock, Span, Ref}
use Rattle.pearl_value.specs.declared.trap.Trap.{Trap}
use Rattle.pearl_value.specs.declared.trap.Trap.TheVariants.{Range}
use Rattle.pearl_rules.specs.declared.action.Action.{Action}
use Rattle.pearl_rules.specs.declared.action.Action.TheVariants as action
use Rattle.pearl_rules.specs.declared.action.Repeat.{Repeat}
use Rattle.pearl_rules.specs.declared.action.Repeat.TheVariants as repeat
use Rattle.pearl_rules.specs.declared.action.Start.{Start}
use Rattle.pearl_rules.specs.declared.action.Start.TheVariants as start
use Rattle.pearl_stack.specs.Frames.{Frame, Stack, top_operands}
use Rattle.pearl_instructions.specs.declared.instr.Activation.{Activation}
use Rattle.pearl_instructions.specs.declared.schedule.RepeatForm.{RepeatForm}
use Rattle.pearl_instructions.specs.declared.schedule.RepeatForm.TheVariants as again
use Rattle.pearl_instructions.specs.declared.schedule.StartForm.{StartForm}
use Rattle.pearl_instructions.specs.declared.schedule.StartForm.TheVariants as form
use Rattle.pearl_instructions.specs.Offers.{start_kinds, repeat_kinds, activation_count, started, repeated, with_priority, activate}
use Rattle.pearl_instructions.specs.Steps.{Step, needed, traps, acts}
use Rattle.pearl_silent.specs.Steps.{Stepped}
use Rattle.pearl_silent.specs.Steps.{GoesOn, Halts}
use Rattle.pearl_solo.specs.Plans.{begins_with, if_lasting, repeats_with, urgent_with, then_told, activation_of}
use Rattle.pearl_silent.specs.Steps.{on_top, Applies, Does}
use Rattle.pearl_silent.proofs.Offered.{needed_true}

-- what goes on with what is told, or the trap
abbrev on_told : {A : Type 0} → (A → Step) → Frame → List Frame → Result A Trap → Step
on_told go f lower (Ok x) = go x
on_told go f lower (Err trap) = traps trap f lower

if_told : {A : Type 0} (b : Bool) (x : A) (go : A → Step) (f : Frame) (lower : List Frame) →
    (if b then go x else traps Range f lower) ≡ on_told go f lower (if b then Ok x else Err Range)
if_told true x go f lower = refl
if_told false x go f lower = refl

if_both : {A : Type 0} (a b : Bool) (x : A) (go : A → Step) (f : Frame) (lower : List Frame) →
    (if a then (if b then go x else traps Range f lower) else traps Range f lower) ≡ on_told go f lower (if a && b then Ok x else Err Range)
if_both true true x go f lower = refl
if_both true false x go f lower = refl
if_both false b x go f lower = refl

-- the start

record Starts (when : StartForm) (values : List Cell) (f : Frame) (lower : List Frame) (go : Start → List Cell → Step) : Type 0 where
  pub told : Result Start Trap
  pub is : begins_with when values ≡ Some told
  pub row : started when values f lower go ≡ on_told (λ x. go x (drop (length (start_kinds when)) values)) f lower told

starts : (when : StartForm) (values : List Cell) (f : Frame) (lower : List Frame) (go : Start → List Cell → Step) (room : ℕ) → Applies (started when values f lower go) room →
    Starts when values f lower go
starts form.Free values f lower go room a = record { told = Ok start.Free; is = refl; row = refl }
starts (form.When device) values f lower go room a = record { told = Ok (start.When device); is = refl; row = refl }
starts form.At [] f lower go room a = absurd a
starts form.At (Clock time ∷ values) f lower go room a = record { told = Ok (start.At time); is = refl; row = refl }
starts form.At (Fixed len n ∷ values) f lower go room a = absurd a
starts form.At (Bits len n ∷ values) f lower go room a = absurd a
starts form.At (Chars text ∷ values) f lower go room a = absurd a
starts form.At (Span time ∷ values) f lower go room a = absurd a
starts form.At (Ref kind place ∷ values) f lower go room a = absurd a
starts form.After [] f lower go room a = absurd a
starts form.After (Span time ∷ values) f lower go room a = record {
  told = if_lasting time (start.After time);
  is = refl;
  row = if_told (int_le (pos 0) time) (start.After time) (λ x. go x values) f lower;
}
starts form.After (Fixed len n ∷ values) f lower go room a = absurd a
starts form.After (Bits len n ∷ values) f lower go room a = absurd a
starts form.After (Chars text ∷ values) f lower go room a = absurd a
starts form.After (Clock time ∷ values) f lower go room a = absurd a
starts form.After (Ref kind place ∷ values) f lower go room a = absurd a
starts (form.WhenAfter device) [] f lower go room a = absurd a
starts (form.WhenAfter device) (Span time ∷ values) f lower go room a = record {
  told = if_lasting time (start.WhenAfter device time);
  is = refl;
  row = if_told (int_le (pos 0) time) (start.WhenAfter device time) (λ x. go x values) f lower;
}
starts (form.WhenAfter device) (Fixed len n ∷ values) f lower go room a = absurd a
starts (form.WhenAfter device) (Bits len n ∷ values) f lower go room a = absurd a
starts (form.WhenAfter device) (Chars text ∷ values) f lower go room a = absurd a
starts (form.WhenAfter device) (Clock time ∷ values) f lower go room a = absurd a
starts (form.WhenAfter device) (Ref kind place ∷ values) f lower go room a = absurd a

-- the repetition

record Repeats (how : RepeatForm) (values : List Cell) (f : Frame) (lower : List Frame) (go : Repeat → List Cell → Step) : Type 0 where
  pub told : Result Repeat Trap
  pub is : repeats_with how values ≡ Some told
  pub row : repeated how values f lower go ≡ on_told (λ x. go x (drop (length (repeat_kinds how)) values)) f lower told

until_told : (period : ℤ) (y : Cell) (values : List Cell) (f : Frame) (lower : List Frame) (go : Repeat → List Cell → Step) (room : ℕ) →
    Applies (repeated again.Until (Span period ∷ y ∷ values) f lower go) room → Repeats again.Until (Span period ∷ y ∷ values) f lower go
until_told period (Clock end) values f lower go room a = record {
  told = if int_le (pos 1) period then Ok (repeat.Until period end) else Err Range;
  is = refl;
  row = if_told (int_le (pos 1) period) (repeat.Until period end) (λ x. go x values) f lower;
}
until_told period (Fixed len n) values f lower go room a = absurd a
until_told period (Bits len n) values f lower go room a = absurd a
until_told period (Chars text) values f lower go room a = absurd a
until_told period (Span time) values f lower go room a = absurd a
until_told period (Ref kind place) values f lower go room a = absurd a

during_told : (period : ℤ) (y : Cell) (values : List Cell) (f : Frame) (lower : List Frame) (go : Repeat → List Cell → Step) (room : ℕ) →
    Applies (repeated again.During (Span period ∷ y ∷ values) f lower go) room → Repeats again.During (Span period ∷ y ∷ values) f lower go
during_told period (Span time) values f lower go room a = record {
  told = if int_le (pos 1) period && int_le (pos 0) time then Ok (repeat.During period time) else Err Range;
  is = refl;
  row = if_both (int_le (pos 1) period) (int_le (pos 0) time) (repeat.During period time) (λ x. go x values) f lower;
}
during_told period (Fixed len n) values f lower go room a = absurd a
during_told period (Bits len n) values f lower go room a = absurd a
during_told period (Chars text) values f lower go room a = absurd a
during_told period (Clock time) values f lower go room a = absurd a
during_told period (Ref kind place) values f lower go room a = absurd a

repeats : (how : RepeatForm) (values : List Cell) (f : Frame) (lower : List Frame) (go : Repeat → List Cell → Step) (room : ℕ) → Applies (repeated how values f lower go) room →
    Repeats how values f lower go
repeats again.Once values f lower go room a = record { told = Ok repeat.Once; is = refl; row = refl }
repeats again.All [] f lower go room a = absurd a
repeats again.All (Span period ∷ values) f lower go room a = record {
  told = if int_le (pos 1) period then Ok (repeat.All period) else Err Range;
  is = refl;
  row = if_told (int_le (pos 1) period) (repeat.All period) (λ x. go x values) f lower;
}
repeats again.All (Fixed len n ∷ values) f lower go room a = absurd a
repeats again.All (Bits len n ∷ values) f lower go room a = absurd a
repeats again.All (Chars text ∷ values) f lower go room a = absurd a
repeats again.All (Clock time ∷ values) f lower go room a = absurd a
repeats again.All (Ref kind place ∷ values) f lower go room a = absurd a
repeats again.Until [] f lower go room a = absurd a
repeats again.Until (Span period ∷ []) f lower go room a = absurd a
repeats again.Until (Span period ∷ y ∷ values) f lower go room a = until_told period y values f lower go room a
repeats again.Until (Fixed len n ∷ values) f lower go room a = absurd a
repeats again.Until (Bits len n ∷ values) f lower go room a = absurd a
repeats again.Until (Chars text ∷ values) f lower go room a = absurd a
repeats again.Until (Clock time ∷ values) f lower go room a = absurd a
repeats again.Until (Ref kind place ∷ values) f lower go room a = absurd a
repeats again.During [] f lower go room a = absurd a
repeats again.During (Span period ∷ []) f lower go room a = absurd a
repeats again.During (Span period ∷ y ∷ values) f lower go room a = during_told period y values f lower go room a
repeats again.During (Fixed len n ∷ values) f lower go room a = absurd a
repeats again.During (Bits len n ∷ values) f lower go room a = absurd a
repeats again.During (Chars text ∷ values) f lower go room a = absurd a
repeats again.During (Clock time ∷ values) f lower go room a = absurd a
repeats again.During (Ref kind place ∷ values) f lower go room a = absurd a

-- the priority

record Urges (b : Bool) (values : List Cell) (f : Frame) (lower : List Frame) (go : Option ℕ → Step) : Type 0 where
  pub told : Result (Option ℕ) Trap
  pub is : urgent_with b values ≡ Some told
  pub row : with_priority b values f lower go ≡ on_told go f lower told

urges : (b : Bool) (values : List Cell) (f : Frame) (lower : List Frame) (go : Option ℕ → Step) (room : ℕ) → Applies (with_priority b values f lower go) room →
    Urges b values f lower go
urges false values f lower go room a = record { told = Ok None; is = refl; row = refl }
urges true [] f lower go room a = absurd a
urges true (Fixed len value ∷ values) f lower go room a = record {
  told = if int_le (pos 1) value && int_le value (pos 255) then Ok (Some (unsigned_abs value)) else Err Range;
  is = refl;
  row = if_told (int_le (pos 1) value && int_le value (pos 255)) (Some (unsigned_abs value)) go f lower;
}
urges true (Bits len n ∷ values) f lower go room a = absurd a
urges true (Chars text ∷ values) f lower go room a = absurd a
urges true (Clock time ∷ values) f lower go room a = absurd a
urges true (Span time ∷ values) f lower go room a = absurd a
urges true (Ref kind place ∷ values) f lower go room a = absurd a

-- all three

module _ (a : Activation) (f : Frame) (lower : List Frame) (values left : List Cell) (room : ℕ) where
  abbrev offering : Result Action Trap → Step
  offering told = on_told (λ action. acts action f lower left) f lower told

  abbrev by_priority : Start → Repeat → Option ℕ → Step
  by_priority when how priority = acts (action.Activate a.task when how priority) f lower left

  abbrev by_repeat : Start → Repeat → List Cell → Step
  by_repeat when how rest = with_priority a.priority rest f lower (by_priority when how)

  abbrev by_start : Start → List Cell → Step
  by_start when more = repeated a.repeat more f lower (by_repeat when)

  abbrev behind : List Cell
  behind = drop (length (start_kinds a.start)) values

  abbrev last : List Cell
  last = drop (length (repeat_kinds a.repeat)) behind

  abbrev of_priority : Start → Repeat → Option ℕ → Option (Result Action Trap)
  of_priority when how priority = Some (Ok (action.Activate a.task when how priority))

  abbrev of_repeat : Start → Repeat → Option (Result Action Trap)
  of_repeat when how = then_told (urgent_with a.priority last) (of_priority when how)

  abbrev of_start : Start → Option (Result Action Trap)
  of_start when = then_told (repeats_with a.repeat behind) (of_repeat when)

  record Told (option : Option (Result Action Trap)) (row : Step) : Type 0 where
    pub told : Result Action Trap
    pub is : option ≡ Some told
    pub row_is : row ≡ offering told

  urged : (when : Start) (how : Repeat) (told : Result (Option ℕ) Trap) → Told (then_told (Some told) (of_priority when how)) (on_told (by_priority when how) f lower told)
  urged when how (Ok priority) = record { told = Ok (action.Activate a.task when how priority); is = refl; row_is = refl }
  urged when how (Err trap) = record { told = Err trap; is = refl; row_is = refl }

  same_told : (option other : Option (Result Action Trap)) (row step : Step) → option ≡ other → row ≡ step → Told other step → Told option row
  same_told option other row step e h t = record { told = t.told; is = e ∙ t.is; row_is = h ∙ t.row_is }

  repeating : (when : Start) (told : Result Repeat Trap) → Applies (on_told (λ how. by_repeat when how last) f lower told) room →
      Told (then_told (Some told) (of_repeat when)) (on_told (λ how. by_repeat when how last) f lower told)
  repeating when (Err trap) ap' = record { told = Err trap; is = refl; row_is = refl }
  repeating when (Ok how) ap' =
      let u = urges a.priority last f lower (by_priority when how) room ap' in
      same_told _ _ _ _ (ap (λ o. then_told o (of_priority when how)) u.is) u.row (urged when how u.told)

  starting : (told : Result Start Trap) → Applies (on_told (λ when. by_start when behind) f lower told) room →
      Told (then_told (Some told) of_start) (on_told (λ when. by_start when behind) f lower told)
  starting (Err trap) ap' = record { told = Err trap; is = refl; row_is = refl }
  starting (Ok when) ap' =
      let r = repeats a.repeat behind f lower (by_repeat when) room ap' in
      same_told _ _ _ _ (ap (λ o. then_told o (of_repeat when)) r.is) r.row
      (repeating when r.told (subst (λ s. Applies s room) r.row ap'))

  activating : Applies (started a.start values f lower by_start) room → Told (activation_of a values) (started a.start values f lower by_start)
  activating ap' =
      let s = starts a.start values f lower by_start room ap' in
      same_told _ _ _ _ (ap (λ o. then_told o of_start) s.is) s.row (starting s.told (subst (λ s. Applies s room) s.row ap'))

-- what is offered
abbrev pub told_step : Result Action Trap → Stepped
told_step (Ok action) = Halts action
told_step (Err trap) = Halts (action.Trap trap)

told_does : (f : Frame) (lower : List Frame) (left : List Cell) (s : Stack) (row : Step) (told : Result Action Trap) →
    row ≡ on_told (λ action. acts action f lower left) f lower told → Does row s s (told_step told)
told_does f lower left s row (Ok action) e = (_, e, refl)
told_does f lower left s row (Err trap) e = (_, e, refl)

pub record Activates (a : Activation) (frames : List Frame) : Type 0 where
  pub there : activation_count a ≤ length (top_operands frames)
  pub some : IsSome (activation_of a (reverse (take (activation_count a) (top_operands frames))))
  pub does : (s : Stack) (told : Result Action Trap) → activation_of a (reverse (take (activation_count a) (top_operands frames))) ≡ Some told →
      Does (on_top (λ f lower. activate a f lower) frames) s s (told_step told)

some_of : {A : Type 0} (o : Option A) (x : A) → o ≡ Some x → IsSome o
some_of None x e = cc
some_of (Some y) x e = refl

pub activate_applies : (a : Activation) (frames : List Frame) (room : ℕ) → Applies (on_top (λ f lower. activate a f lower) frames) room → Activates a frames
activate_applies a [] room ap' = absurd ap'
activate_applies a (f ∷ lower) room ap' =
    let n = activation_count a in
    let values = reverse (take n f.operands) in
    let left = drop n f.operands in
    let b = nat_le n (length f.operands) in
    let there = needed_true b _ room ap' in
    let t = activating a f lower values left room there.1 in
    record {
      there = leb-true n (length f.operands) there.0;
      some = some_of (activation_of a values) t.told t.is;
      does = λ s told e.
          let same : t.told ≡ told = same_Some t.told told (sym t.is ∙ e) in
          told_does f lower left s (activate a f lower) told
          (ap (λ b. needed b (started a.start values f lower (by_start a f lower values left room))) there.0
          ∙ (t.row_is ∙ ap (offering a f lower values left room) same));
    }
