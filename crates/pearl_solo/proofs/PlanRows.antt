-- The rows of actions at a planned time.
use Rattle.std.proofs.Common.{◌≡◌, ℕ, ◌<◌, List, [], ◌∷◌, Option, Some, None, Ok, Err, length, slice_get, refl, sym, ap, ◌∙◌, subst, arith, Bool, true, false, pos, le-leb}
use Rattle.std.specs.Prelude.{ℤ, IsSome, int_le, nat_le, Result}
use Rattle.std.proofs.lemmas.Option.{same_Some}
use Rattle.pearl_value.specs.declared.cell.Cell.{Cell}
use Rattle.pearl_value.specs.declared.cell.Cell.TheVariants.{Fixed, Bits, Chars, Clock, Span, Ref}
use Rattle.pearl_value.specs.declared.trap.Trap.{Trap}
use Rattle.pearl_rules.specs.declared.action.Action.{Action}
use Rattle.pearl_rules.specs.declared.action.Action.TheVariants as action
use Rattle.pearl_rules.specs.declared.action.Answer.{Answer}
use Rattle.pearl_rules.specs.declared.action.Start.{Start}
use Rattle.pearl_rules.specs.declared.action.Start.TheVariants as start
use Rattle.pearl_stack.specs.Frames.{Frame, top_operands}
use Rattle.pearl_instructions.specs.declared.schedule.StartForm.{StartForm}
use Rattle.pearl_instructions.specs.declared.schedule.StartForm.TheVariants as form
use Rattle.pearl_instructions.specs.Offers.{start_kinds, started, lasting}
use Rattle.pearl_instructions.specs.Steps.{Step, Offers, needed, taken, traps, acts}
use Rattle.pearl_solo.specs.Plans.{begins_with, if_lasting, planned_on}
use Rattle.pearl_silent.specs.Steps.{Applies}

-- what a plan does once it is told when it begins
abbrev planned : (Start → Step) → Frame → List Frame → Result Start Trap → Step
planned go f lower (Ok when) = go when
planned go f lower (Err trap) = traps trap f lower

lasting_is : (time : ℤ) (when : Start) (go : Start → Step) (f : Frame) (lower : List Frame) (b : Bool) → int_le (pos 0) time ≡ b →
    lasting (pos 0) time f lower (go when) ≡ planned go f lower (if_lasting time when)
lasting_is time when go f lower true t = rw t refl
lasting_is time when go f lower false t = rw t refl

-- the row's own operands
abbrev row_by : (Start → Action) → StartForm → Frame → List Frame → List Cell → Step
row_by make form f lower xs = taken (length (start_kinds form)) xs (λ values left. started form values f lower (λ when rest. acts (make when) f lower left))

pub record Plans (make : Start → Action) (form : StartForm) (f : Frame) (lower : List Frame) (xs : List Cell) : Type 0 where
  pub told : Result Start Trap
  pub is : begins_with form xs ≡ Some told
  pub left : List Cell
  pub row : row_by make form f lower xs ≡ planned (λ when. acts (make when) f lower left) f lower told

none_taken : (xs : List Cell) (go : List Cell → List Cell → Step) → taken 0 xs go ≡ go [] xs
none_taken xs go = let t : nat_le 0 (length xs) ≡ true = le-leb 0 (length xs) (omega arith) in ap (λ b. needed b (go [] xs)) t

one_taken : (x : Cell) (left : List Cell) (go : List Cell → List Cell → Step) → taken 1 (x ∷ left) go ≡ go (x ∷ []) left
one_taken x left go = let t : nat_le 1 (length (x ∷ left)) ≡ true = le-leb 1 (length (x ∷ left)) (omega arith) in ap (λ b. needed b (go (x ∷ []) left)) t

-- what is told by one value
record Told (make : Start → Action) (form : StartForm) (f : Frame) (lower : List Frame) (x : Cell) (left : List Cell) : Type 0 where
  pub told : Result Start Trap
  pub is : begins_with form (x ∷ left) ≡ Some told
  pub row : started form (x ∷ []) f lower (λ when rest. acts (make when) f lower left) ≡ planned (λ when. acts (make when) f lower left) f lower told

at_told : (make : Start → Action) (f : Frame) (lower : List Frame) (x : Cell) (left : List Cell) (room : ℕ) →
    Applies (started form.At (x ∷ []) f lower (λ when rest. acts (make when) f lower left)) room → Told make form.At f lower x left
at_told make f lower (Clock time) left room a = record { told = Ok (start.At time); is = refl; row = refl }
at_told make f lower (Fixed len n) left room a = absurd a
at_told make f lower (Bits len n) left room a = absurd a
at_told make f lower (Chars text) left room a = absurd a
at_told make f lower (Span time) left room a = absurd a
at_told make f lower (Ref kind place) left room a = absurd a

after_told : (make : Start → Action) (f : Frame) (lower : List Frame) (x : Cell) (left : List Cell) (room : ℕ) →
    Applies (started form.After (x ∷ []) f lower (λ when rest. acts (make when) f lower left)) room → Told make form.After f lower x left
after_told make f lower (Span time) left room a = record {
  told = if_lasting time (start.After time);
  is = refl;
  row = lasting_is time (start.After time) (λ when. acts (make when) f lower left) f lower (int_le (pos 0) time) refl;
}
after_told make f lower (Fixed len n) left room a = absurd a
after_told make f lower (Bits len n) left room a = absurd a
after_told make f lower (Chars text) left room a = absurd a
after_told make f lower (Clock time) left room a = absurd a
after_told make f lower (Ref kind place) left room a = absurd a

when_told : (make : Start → Action) (d : ℕ) (f : Frame) (lower : List Frame) (x : Cell) (left : List Cell) (room : ℕ) →
    Applies (started (form.WhenAfter d) (x ∷ []) f lower (λ when rest. acts (make when) f lower left)) room → Told make (form.WhenAfter d) f lower x left
when_told make d f lower (Span time) left room a = record {
  told = if_lasting time (start.WhenAfter d time);
  is = refl;
  row = lasting_is time (start.WhenAfter d time) (λ when. acts (make when) f lower left) f lower (int_le (pos 0) time) refl;
}
when_told make d f lower (Fixed len n) left room a = absurd a
when_told make d f lower (Bits len n) left room a = absurd a
when_told make d f lower (Chars text) left room a = absurd a
when_told make d f lower (Clock time) left room a = absurd a
when_told make d f lower (Ref kind place) left room a = absurd a

plans : (make : Start → Action) (form : StartForm) (f : Frame) (lower : List Frame) (xs : List Cell) (room : ℕ) → Applies (row_by make form f lower xs) room → Plans make form f lower xs
plans make form.Free f lower xs room a =
    record { told = Ok start.Free; is = refl; left = xs; row = none_taken xs (λ values left. started form.Free values f lower (λ when rest. acts (make when) f lower left)) }
plans make (form.When d) f lower xs room a =
    record { told = Ok (start.When d); is = refl; left = xs; row = none_taken xs (λ values left. started (form.When d) values f lower (λ when rest. acts (make when) f lower left)) }
plans make form.At f lower [] room a = absurd a
plans make form.At f lower (x ∷ left) room a =
    let e = one_taken x left (λ values left. started form.At values f lower (λ when rest. acts (make when) f lower left)) in
    let t = at_told make f lower x left room (subst (λ r. Applies r room) e a) in
    record { told = t.told; is = t.is; left = left; row = e ∙ t.row }
plans make form.After f lower [] room a = absurd a
plans make form.After f lower (x ∷ left) room a =
    let e = one_taken x left (λ values left. started form.After values f lower (λ when rest. acts (make when) f lower left)) in
    let t = after_told make f lower x left room (subst (λ r. Applies r room) e a) in
    record { told = t.told; is = t.is; left = left; row = e ∙ t.row }
plans make (form.WhenAfter d) f lower [] room a = absurd a
plans make (form.WhenAfter d) f lower (x ∷ left) room a =
    let e = one_taken x left (λ values left. started (form.WhenAfter d) values f lower (λ when rest. acts (make when) f lower left)) in
    let t = when_told make d f lower x left room (subst (λ r. Applies r room) e a) in
    record { told = t.told; is = t.is; left = left; row = e ∙ t.row }

some_told : {A : Type 0} (o : Option A) (x : A) → o ≡ Some x → IsSome o
some_told None x e = cc
some_told (Some y) x e = refl

pub plan_there : (make : Start → Action) (form : StartForm) (frames : List Frame) (room : ℕ) → Applies (planned_on make form frames) room →
    IsSome (begins_with form (top_operands frames))
plan_there make form [] room a = absurd a
plan_there make form (f ∷ lower) room a = let p = plans make form f lower f.operands room a in some_told (begins_with form f.operands) p.told p.is

pub plan_offers : (make : Start → Action) (form : StartForm) (frames : List Frame) (room : ℕ) (when : Start) → Applies (planned_on make form frames) room →
    begins_with form (top_operands frames) ≡ Some (Ok when) → (go : Answer → List Frame) × (planned_on make form frames ≡ Offers (make when) go)
plan_offers make form [] room when a e = absurd a
plan_offers make form (f ∷ lower) room when a e =
    let p = plans make form f lower f.operands room a in
    let same : p.told ≡ Ok when = same_Some p.told (Ok when) (sym p.is ∙ e) in
    (_, p.row ∙ ap (planned (λ when. acts (make when) f lower p.left) f lower) same)

pub plan_traps : (make : Start → Action) (form : StartForm) (frames : List Frame) (room : ℕ) (trap : Trap) → Applies (planned_on make form frames) room →
    begins_with form (top_operands frames) ≡ Some (Err trap) → planned_on make form frames ≡ Offers (action.Trap trap) (λ answer. frames)
plan_traps make form [] room trap a e = absurd a
plan_traps make form (f ∷ lower) room trap a e =
    let p = plans make form f lower f.operands room a in
    let same : p.told ≡ Err trap = same_Some p.told (Err trap) (sym p.is ∙ e) in
    p.row ∙ ap (planned (λ when. acts (make when) f lower p.left) f lower) same

-- one value is looked at

pub looked : (form : StartForm) (xs : List Cell) (x : Cell) → slice_get xs 0 ≡ Some x → begins_with form xs ≡ begins_with form (x ∷ [])
looked when [] x e = cc
looked when (y ∷ left) x e = only when y left ∙ ap (λ x. begins_with when (x ∷ [])) (same_Some y x e)
  where
    only : (when : StartForm) (y : Cell) (left : List Cell) → begins_with when (y ∷ left) ≡ begins_with when (y ∷ [])
    only form.Free y left = refl
    only (form.When d) y left = refl
    only form.At (Clock time) left = refl
    only form.At (Fixed len n) left = refl
    only form.At (Bits len n) left = refl
    only form.At (Chars text) left = refl
    only form.At (Span time) left = refl
    only form.At (Ref kind place) left = refl
    only form.After (Clock time) left = refl
    only form.After (Fixed len n) left = refl
    only form.After (Bits len n) left = refl
    only form.After (Chars text) left = refl
    only form.After (Span time) left = refl
    only form.After (Ref kind place) left = refl
    only (form.WhenAfter d) (Clock time) left = refl
    only (form.WhenAfter d) (Fixed len n) left = refl
    only (form.WhenAfter d) (Bits len n) left = refl
    only (form.WhenAfter d) (Chars text) left = refl
    only (form.WhenAfter d) (Span time) left = refl
    only (form.WhenAfter d) (Ref kind place) left = refl

pub at_long : (xs : List Cell) → IsSome (begins_with form.At xs) → 0 < length xs
at_long [] some = cc
at_long (x ∷ xs) some = omega arith

pub after_long : (xs : List Cell) → IsSome (begins_with form.After xs) → 0 < length xs
after_long [] some = cc
after_long (x ∷ xs) some = omega arith

pub when_after_long : (d : ℕ) (xs : List Cell) → IsSome (begins_with (form.WhenAfter d) xs) → 0 < length xs
when_after_long d [] some = cc
when_after_long d (x ∷ xs) some = omega arith
