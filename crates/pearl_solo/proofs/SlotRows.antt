-- The rows of slots at an offset.
use Rattle.std.proofs.Common.{◌≡◌, ℕ, ◌+◌, ◌<◌, List, [], ◌∷◌, Option, Some, None, Ok, length, drop, slice_get, refl, sym, ap, ◌∙◌, subst, arith}
use Rattle.std.proofs.lemmas.Option.{same_Some}
use Rattle.pearl_value.specs.declared.cell.Cell.{Cell}
use Rattle.pearl_value.specs.declared.cell.Cell.TheVariants.{Ref}
use Rattle.pearl_value.specs.declared.cell.Place.TheVariants as place
use Rattle.pearl_value.specs.declared.trap.Trap.TheVariants.{Index}
use Rattle.pearl_rules.specs.declared.action.Action.TheVariants as action
use Rattle.pearl_rules.specs.declared.action.Answer.{Answer}
use Rattle.pearl_stack.specs.Frames.{Frame, top_operands}
use Rattle.pearl_instructions.specs.declared.object.Leaf.{Leaf}
use Rattle.pearl_instructions.specs.declared.object.Parts.{Parts as Object}
use Rattle.pearl_instructions.specs.Objects.{first_slot}
use Rattle.pearl_instructions.specs.Steps as step
use Rattle.pearl_instructions.specs.Steps.{Step, Offers, given, leaves, acts, traps, within}
use Rattle.pearl_instructions.specs.Cells.{writes, slot_reference}
use Rattle.pearl_instructions.specs.Slots.{IsLeafAt}
use Rattle.pearl_silent.specs.Steps.{on_top, Applies, made_on, offset_below}
use Rattle.pearl_silent.proofs.Offered.{within_some_of_cell_rows as within_some, within_none}

-- writing at an offset

abbrev write_one : Object → ℕ → Leaf → Frame → List Frame → List Cell → Step
write_one o v leaf f lower xs = step.popped xs (λ x more. step.popped more (λ n left. within leaf.slots n f lower (λ n. writes o v n x f lower left)))

abbrev write_at_row : Object → ℕ → List Frame → Step
write_at_row o v frames =
    on_top (λ f lower. given (slice_get o.leaves v) (λ leaf. step.popped f.operands (λ x more. step.popped more (λ n left. within leaf.slots n f lower (λ n. writes o v n x f lower left))))) frames

write_some : (f : Frame) (lower : List Frame) (o : Object) (v : ℕ) (leaf : Leaf) (room k : ℕ) (xs : List Cell) (x y : Cell) → Applies (write_one o v leaf f lower xs) room →
    slice_get xs 0 ≡ Some x → slice_get xs 1 ≡ Some y → offset_below leaf.slots y ≡ Some k →
    (k < leaf.slots) × ((go : Answer → List Frame) × (write_one o v leaf f lower xs ≡ Offers (action.Write (first_slot o.leaves v + k) x) go))
write_some f lower o v leaf room k [] x y a d e h = absurd a
write_some f lower o v leaf room k (z ∷ []) x y a d e h = absurd a
write_some f lower o v leaf room k (z ∷ n ∷ left) x y a d e h =
    let w = within_some leaf.slots k n f lower (λ n. writes o v n z f lower left) room a (ap (offset_below leaf.slots) (same_Some n y e) ∙ h) in
    (w.0, (_, w.1 ∙ ap (λ x. acts (action.Write (first_slot o.leaves v + k) x) f lower left) (same_Some z x d)))

write_none : (f : Frame) (lower : List Frame) (o : Object) (v : ℕ) (leaf : Leaf) (room : ℕ) (xs : List Cell) (y : Cell) → Applies (write_one o v leaf f lower xs) room →
    slice_get xs 1 ≡ Some y → offset_below leaf.slots y ≡ None → write_one o v leaf f lower xs ≡ traps Index f lower
write_none f lower o v leaf room [] y a e h = absurd a
write_none f lower o v leaf room (z ∷ []) y a e h = absurd a
write_none f lower o v leaf room (z ∷ n ∷ left) y a e h =
    within_none leaf.slots n f lower (λ n. writes o v n z f lower left) room a (ap (offset_below leaf.slots) (same_Some n y e) ∙ h)

pub record WritesAt (o : Object) (v : ℕ) (leaf : Leaf) (first k : ℕ) (x : Cell) (frames : List Frame) : Type 0 where
  pub less : k < leaf.slots
  pub go : Answer → List Frame
  pub is : write_at_row o v frames ≡ Offers (action.Write (first + k) x) go

pub write_at_some : (frames : List Frame) (o : Object) (v : ℕ) (leaf : Leaf) (first room k : ℕ) (x y : Cell) → IsLeafAt o v leaf first → Applies (write_at_row o v frames) room →
    slice_get (top_operands frames) 0 ≡ Some x → slice_get (top_operands frames) 1 ≡ Some y → offset_below leaf.slots y ≡ Some k → WritesAt o v leaf first k x frames
write_at_some [] o v leaf first room k x y is a d e h = absurd a
write_at_some (f ∷ lower) o v leaf first room k x y is a d e h =
    let row : given (slice_get o.leaves v) (λ leaf. write_one o v leaf f lower f.operands) ≡ write_one o v leaf f lower f.operands =
    ap (λ l. given l (λ leaf. write_one o v leaf f lower f.operands)) is.there in
    let by = write_some f lower o v leaf room k f.operands x y (subst (λ r. Applies r room) row a) d e h in
    record { less = by.0; go = by.1.0; is = row ∙ (by.1.1 ∙ ap (λ s. Offers (action.Write (s + k) x) by.1.0) (sym is.number)) }

pub write_at_none : (frames : List Frame) (o : Object) (v : ℕ) (leaf : Leaf) (first room : ℕ) (y : Cell) → IsLeafAt o v leaf first → Applies (write_at_row o v frames) room →
    slice_get (top_operands frames) 1 ≡ Some y → offset_below leaf.slots y ≡ None → write_at_row o v frames ≡ Offers (action.Trap Index) (λ answer. frames)
write_at_none [] o v leaf first room y is a e h = absurd a
write_at_none (f ∷ lower) o v leaf first room y is a e h =
    let row : given (slice_get o.leaves v) (λ leaf. write_one o v leaf f lower f.operands) ≡ write_one o v leaf f lower f.operands =
    ap (λ l. given l (λ leaf. write_one o v leaf f lower f.operands)) is.there in
    row ∙ write_none f lower o v leaf room f.operands y (subst (λ r. Applies r room) row a) e h

write_long : (o : Object) (v : ℕ) (l : Option Leaf) (f : Frame) (lower : List Frame) (xs : List Cell) (room : ℕ) → Applies (given l (λ leaf. write_one o v leaf f lower xs)) room → 1 < length xs
write_long o v None f lower xs room a = absurd a
write_long o v (Some leaf) f lower [] room a = absurd a
write_long o v (Some leaf) f lower (x ∷ []) room a = absurd a
write_long o v (Some leaf) f lower (x ∷ y ∷ left) room a = omega arith

pub write_at_there : (frames : List Frame) (o : Object) (v room : ℕ) → Applies (write_at_row o v frames) room → 1 < length (top_operands frames)
write_at_there [] o v room a = absurd a
write_at_there (f ∷ lower) o v room a = write_long o v (slice_get o.leaves v) f lower f.operands room a

-- a reference to a slot at an offset

abbrev ref_one : Object → ℕ → Leaf → Frame → List Frame → List Cell → Step
ref_one o v leaf f lower xs = step.popped xs (λ n left. within leaf.slots n f lower (λ n. slot_reference o v leaf n f lower left))

abbrev ref_at_row : Object → ℕ → List Frame → Step
ref_at_row o v frames =
    on_top (λ f lower. given (slice_get o.leaves v) (λ leaf. step.popped f.operands (λ n left. within leaf.slots n f lower (λ n. slot_reference o v leaf n f lower left)))) frames

ref_some : (f : Frame) (lower : List Frame) (o : Object) (v : ℕ) (leaf : Leaf) (room k : ℕ) (xs : List Cell) (y : Cell) → Applies (ref_one o v leaf f lower xs) room →
    slice_get xs 0 ≡ Some y → offset_below leaf.slots y ≡ Some k →
    (k < leaf.slots) × (ref_one o v leaf f lower xs ≡ leaves f lower (Ref leaf.kind (place.Slot (first_slot o.leaves v + k)) ∷ drop 1 xs))
ref_some f lower o v leaf room k [] y a e h = absurd a
ref_some f lower o v leaf room k (n ∷ left) y a e h =
    within_some leaf.slots k n f lower (λ n. slot_reference o v leaf n f lower left) room a (ap (offset_below leaf.slots) (same_Some n y e) ∙ h)

ref_none : (f : Frame) (lower : List Frame) (o : Object) (v : ℕ) (leaf : Leaf) (room : ℕ) (xs : List Cell) (y : Cell) → Applies (ref_one o v leaf f lower xs) room →
    slice_get xs 0 ≡ Some y → offset_below leaf.slots y ≡ None → ref_one o v leaf f lower xs ≡ traps Index f lower
ref_none f lower o v leaf room [] y a e h = absurd a
ref_none f lower o v leaf room (n ∷ left) y a e h =
    within_none leaf.slots n f lower (λ n. slot_reference o v leaf n f lower left) room a (ap (offset_below leaf.slots) (same_Some n y e) ∙ h)

pub record RefersAt (o : Object) (v : ℕ) (leaf : Leaf) (first k : ℕ) (frames : List Frame) : Type 0 where
  pub less : k < leaf.slots
  pub is : ref_at_row o v frames ≡ made_on 1 (Ok (Ref leaf.kind (place.Slot (first + k)))) frames

pub ref_at_some : (frames : List Frame) (o : Object) (v : ℕ) (leaf : Leaf) (first room k : ℕ) (y : Cell) → IsLeafAt o v leaf first → Applies (ref_at_row o v frames) room →
    slice_get (top_operands frames) 0 ≡ Some y → offset_below leaf.slots y ≡ Some k → RefersAt o v leaf first k frames
ref_at_some [] o v leaf first room k y is a e h = absurd a
ref_at_some (f ∷ lower) o v leaf first room k y is a e h =
    let row : given (slice_get o.leaves v) (λ leaf. ref_one o v leaf f lower f.operands) ≡ ref_one o v leaf f lower f.operands =
    ap (λ l. given l (λ leaf. ref_one o v leaf f lower f.operands)) is.there in
    let by = ref_some f lower o v leaf room k f.operands y (subst (λ r. Applies r room) row a) e h in
    record { less = by.0; is = row ∙ (by.1 ∙ ap (λ s. leaves f lower (Ref leaf.kind (place.Slot (s + k)) ∷ drop 1 f.operands)) (sym is.number)) }

pub ref_at_none : (frames : List Frame) (o : Object) (v : ℕ) (leaf : Leaf) (first room : ℕ) (y : Cell) → IsLeafAt o v leaf first → Applies (ref_at_row o v frames) room →
    slice_get (top_operands frames) 0 ≡ Some y → offset_below leaf.slots y ≡ None → ref_at_row o v frames ≡ Offers (action.Trap Index) (λ answer. frames)
ref_at_none [] o v leaf first room y is a e h = absurd a
ref_at_none (f ∷ lower) o v leaf first room y is a e h =
    let row : given (slice_get o.leaves v) (λ leaf. ref_one o v leaf f lower f.operands) ≡ ref_one o v leaf f lower f.operands =
    ap (λ l. given l (λ leaf. ref_one o v leaf f lower f.operands)) is.there in
    row ∙ ref_none f lower o v leaf room f.operands y (subst (λ r. Applies r room) row a) e h

ref_long : (o : Object) (v : ℕ) (l : Option Leaf) (f : Frame) (lower : List Frame) (xs : List Cell) (room : ℕ) → Applies (given l (λ leaf. ref_one o v leaf f lower xs)) room → 0 < length xs
ref_long o v None f lower xs room a = absurd a
ref_long o v (Some leaf) f lower [] room a = absurd a
ref_long o v (Some leaf) f lower (x ∷ left) room a = omega arith

pub ref_at_there : (frames : List Frame) (o : Object) (v room : ℕ) → Applies (ref_at_row o v frames) room → 0 < length (top_operands frames)
ref_at_there [] o v room a = absurd a
ref_at_there (f ∷ lower) o v room a = ref_long o v (slice_get o.leaves v) f lower f.operands room a

first_there : (xs : List Cell) → 1 < length xs → (x : Cell) × (slice_get xs 0 ≡ Some x)
first_there [] less = absurd (omega (arith, less))
first_there (x ∷ xs) less = (x, refl)

pub write_at_less : (frames : List Frame) (o : Object) (v : ℕ) (leaf : Leaf) (first room k : ℕ) (y : Cell) → IsLeafAt o v leaf first → Applies (write_at_row o v frames) room →
    slice_get (top_operands frames) 1 ≡ Some y → offset_below leaf.slots y ≡ Some k → k < leaf.slots
write_at_less frames o v leaf first room k y is a e h =
    let x = first_there (top_operands frames) (write_at_there frames o v room a) in
    (write_at_some frames o v leaf first room k x.0 y is a x.1 e h).less
