-- The rows of the module's variables.
use Rattle.std.proofs.Common.{◌≡◌, ℕ, ◌+◌, ◌<◌, List, [], ◌∷◌, Option, Some, None, Ok, length, slice_get, sym, ap, ◌∙◌, subst, arith}
use Rattle.std.proofs.lemmas.Option.{same_Some}
use Rattle.pearl_value.specs.declared.cell.Cell.{Cell}
use Rattle.pearl_value.specs.declared.cell.Cell.TheVariants.{Ref}
use Rattle.pearl_value.specs.declared.cell.Place.TheVariants as place
use Rattle.pearl_value.specs.declared.trap.Trap.TheVariants.{Index}
use Rattle.pearl_rules.specs.declared.action.Action.TheVariants as action
use Rattle.pearl_rules.specs.declared.action.Answer.{Answer}
use Rattle.pearl_stack.specs.declared.stack.Frame as size
use Rattle.pearl_stack.specs.Frames.{Frame, top_operands}
use Rattle.pearl_instructions.specs.declared.object.Leaf.{Leaf}
use Rattle.pearl_instructions.specs.declared.object.Parts.{Parts as Object}
use Rattle.pearl_instructions.specs.Objects.{first_slot}
use Rattle.pearl_instructions.specs.Steps as step
use Rattle.pearl_instructions.specs.Steps.{Step, Offers, given, leaves, asks, acts, traps, within}
use Rattle.pearl_instructions.specs.Cells.{reads, writes, slot_reference}
use Rattle.pearl_instructions.specs.Slots.{IsLeafAt}
use Rattle.pearl_silent.specs.Steps.{on_top, Applies, IsSizes, made_on, offset_below}
use Rattle.pearl_silent.proofs.Offered.{within_some_of_cell_rows as within_some, within_none}

-- the leaf is there
leaf_row : (o : Object) (v : ℕ) (leaf : Leaf) (first : ℕ) (go : Leaf → Step) → IsLeafAt o v leaf first → given (slice_get o.leaves v) go ≡ go leaf
leaf_row o v leaf first go is = ap (λ l. given l go) is.there

slot_is : (o : Object) (v : ℕ) (leaf : Leaf) (first : ℕ) → IsLeafAt o v leaf first → first_slot o.leaves v + 0 ≡ first
slot_is o v leaf first is = omega (arith, is.number)

pub read_offers : (frames : List Frame) (here : size.Frame) (o : Object) (v : ℕ) (leaf : Leaf) (first : ℕ) → IsSizes here frames → IsLeafAt o v leaf first →
    (go : Answer → List Frame) × (on_top (λ f lower. given (slice_get o.leaves v) (λ leaf. reads o v 0 f lower f.operands)) frames ≡ Offers (action.Read first) go)
read_offers [] here o v leaf first never is = absurd never
read_offers (f ∷ lower) here o v leaf first sizes is =
    (_, leaf_row o v leaf first (λ leaf. reads o v 0 f lower f.operands) is ∙ ap (λ s. asks (action.Read s) f lower f.operands) (slot_is o v leaf first is))

write_at : (f : Frame) (lower : List Frame) (s : ℕ) (xs : List Cell) (x : Cell) → slice_get xs 0 ≡ Some x →
    (go : Answer → List Frame) × (step.popped xs (λ x left. acts (action.Write s x) f lower left) ≡ Offers (action.Write s x) go)
write_at f lower s [] x e = cc
write_at f lower s (y ∷ left) x e = (_, ap (λ x. acts (action.Write s x) f lower left) (same_Some y x e))

pub write_offers : (frames : List Frame) (o : Object) (v : ℕ) (leaf : Leaf) (first : ℕ) (x : Cell) → IsLeafAt o v leaf first → slice_get (top_operands frames) 0 ≡ Some x →
    (go : Answer → List Frame)
    × (on_top (λ f lower. given (slice_get o.leaves v) (λ leaf. step.popped f.operands (λ x left. writes o v 0 x f lower left))) frames ≡ Offers (action.Write first x) go)
write_offers [] o v leaf first x is e = cc
write_offers (f ∷ lower) o v leaf first x is e =
    let at = write_at f lower first f.operands x e in (
      at.0,
      leaf_row o v leaf first (λ leaf. step.popped f.operands (λ x left. writes o v 0 x f lower left)) is
          ∙ (ap (λ s. step.popped f.operands (λ x left. acts (action.Write s x) f lower left)) (slot_is o v leaf first is) ∙ at.1),
    )

write_some : (o : Option Leaf) (xs : List Cell) (go : Cell → List Cell → Step) (room : ℕ) → Applies (given o (λ leaf. step.popped xs go)) room → 0 < length xs
write_some None xs go room a = absurd a
write_some (Some leaf) [] go room a = absurd a
write_some (Some leaf) (x ∷ xs) go room a = omega arith

pub write_there : (frames : List Frame) (o : Object) (v room : ℕ) →
    Applies (on_top (λ f lower. given (slice_get o.leaves v) (λ leaf. step.popped f.operands (λ x left. writes o v 0 x f lower left))) frames) room →
    0 < length (top_operands frames)
write_there [] o v room a = absurd a
write_there (f ∷ lower) o v room a = write_some (slice_get o.leaves v) f.operands (λ x left. writes o v 0 x f lower left) room a

pub ref_slot_is : (frames : List Frame) (here : size.Frame) (o : Object) (v : ℕ) (leaf : Leaf) (first : ℕ) → IsSizes here frames → IsLeafAt o v leaf first →
    on_top (λ f lower. given (slice_get o.leaves v) (λ leaf. slot_reference o v leaf 0 f lower f.operands)) frames ≡ made_on 0 (Ok (Ref leaf.kind (place.Slot first))) frames
ref_slot_is [] here o v leaf first never is = absurd never
ref_slot_is (f ∷ lower) here o v leaf first sizes is =
    leaf_row o v leaf first (λ leaf. slot_reference o v leaf 0 f lower f.operands) is
    ∙ ap (λ s. leaves f lower (Ref leaf.kind (place.Slot s) ∷ f.operands)) (slot_is o v leaf first is)

-- at an offset

abbrev read_at_row : Object → ℕ → List Frame → Step
read_at_row o v frames =
    on_top (λ f lower. given (slice_get o.leaves v) (λ leaf. step.popped f.operands (λ n left. within leaf.slots n f lower (λ n. reads o v n f lower left)))) frames

read_at_by : (f : Frame) (lower : List Frame) (o : Object) (v : ℕ) (leaf : Leaf) (room : ℕ) (xs : List Cell) (x : Cell) →
    Applies (step.popped xs (λ n left. within leaf.slots n f lower (λ n. reads o v n f lower left))) room → slice_get xs 0 ≡ Some x →
    (k : ℕ) → offset_below leaf.slots x ≡ Some k →
    (k < leaf.slots) × ((go : Answer → List Frame)
    × (step.popped xs (λ n left. within leaf.slots n f lower (λ n. reads o v n f lower left)) ≡ Offers (action.Read (first_slot o.leaves v + k)) go))
read_at_by f lower o v leaf room [] x a e k h = absurd a
read_at_by f lower o v leaf room (y ∷ left) x a e k h =
    let w = within_some leaf.slots k y f lower (λ n. reads o v n f lower left) room a (ap (offset_below leaf.slots) (same_Some y x e) ∙ h) in
    (w.0, (_, w.1))

read_at_past : (f : Frame) (lower : List Frame) (o : Object) (v : ℕ) (leaf : Leaf) (room : ℕ) (xs : List Cell) (x : Cell) →
    Applies (step.popped xs (λ n left. within leaf.slots n f lower (λ n. reads o v n f lower left))) room → slice_get xs 0 ≡ Some x → offset_below leaf.slots x ≡ None →
    step.popped xs (λ n left. within leaf.slots n f lower (λ n. reads o v n f lower left)) ≡ traps Index f lower
read_at_past f lower o v leaf room [] x a e h = absurd a
read_at_past f lower o v leaf room (y ∷ left) x a e h =
    within_none leaf.slots y f lower (λ n. reads o v n f lower left) room a (ap (offset_below leaf.slots) (same_Some y x e) ∙ h)

pub record ReadsAt (o : Object) (v : ℕ) (leaf : Leaf) (first k : ℕ) (frames : List Frame) : Type 0 where
  pub less : k < leaf.slots
  pub go : Answer → List Frame
  pub is : read_at_row o v frames ≡ Offers (action.Read (first + k)) go

pub read_at_some : (frames : List Frame) (o : Object) (v : ℕ) (leaf : Leaf) (first room k : ℕ) (x : Cell) → IsLeafAt o v leaf first → Applies (read_at_row o v frames) room →
    slice_get (top_operands frames) 0 ≡ Some x → offset_below leaf.slots x ≡ Some k → ReadsAt o v leaf first k frames
read_at_some [] o v leaf first room k x is a e h = absurd a
read_at_some (f ∷ lower) o v leaf first room k x is a e h =
    let go : Leaf → Step = λ leaf. step.popped f.operands (λ n left. within leaf.slots n f lower (λ n. reads o v n f lower left)) in
    let row : given (slice_get o.leaves v) go ≡ go leaf = leaf_row o v leaf first go is in
    let by = read_at_by f lower o v leaf room f.operands x (subst (λ r. Applies r room) row a) e k h in
    record { less = by.0; go = by.1.0; is = row ∙ (by.1.1 ∙ ap (λ s. Offers (action.Read (s + k)) by.1.0) (sym is.number)) }

pub read_at_none : (frames : List Frame) (o : Object) (v : ℕ) (leaf : Leaf) (first room : ℕ) (x : Cell) → IsLeafAt o v leaf first → Applies (read_at_row o v frames) room →
    slice_get (top_operands frames) 0 ≡ Some x → offset_below leaf.slots x ≡ None → read_at_row o v frames ≡ Offers (action.Trap Index) (λ answer. frames)
read_at_none [] o v leaf first room x is a e h = absurd a
read_at_none (f ∷ lower) o v leaf first room x is a e h =
    let go : Leaf → Step = λ leaf. step.popped f.operands (λ n left. within leaf.slots n f lower (λ n. reads o v n f lower left)) in
    let row : given (slice_get o.leaves v) go ≡ go leaf = leaf_row o v leaf first go is in
    row ∙ read_at_past f lower o v leaf room f.operands x (subst (λ r. Applies r room) row a) e h

read_at_long : (o : Option Leaf) (xs : List Cell) (go : Leaf → Cell → List Cell → Step) (room : ℕ) → Applies (given o (λ leaf. step.popped xs (go leaf))) room → 0 < length xs
read_at_long None xs go room a = absurd a
read_at_long (Some leaf) [] go room a = absurd a
read_at_long (Some leaf) (x ∷ xs) go room a = omega arith

pub read_at_there : (frames : List Frame) (o : Object) (v room : ℕ) → Applies (read_at_row o v frames) room → 0 < length (top_operands frames)
read_at_there [] o v room a = absurd a
read_at_there (f ∷ lower) o v room a = read_at_long (slice_get o.leaves v) f.operands (λ leaf n left. within leaf.slots n f lower (λ n. reads o v n f lower left)) room a
