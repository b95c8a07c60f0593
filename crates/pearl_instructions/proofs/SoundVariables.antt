-- The rows on the module's variables and on references lead from a stack of a valid object to such stacks only.
use Rattle.std.proofs.Common.{◌≡◌, ℕ, zero, suc, ◌+◌, ◌-◌, ◌<◌, List, [], ◌∷◌, ◌++◌, Option, Some, None, length, slice_get, refl, sym, ap, ◌∙◌, subst, arith, true, false, ltb-true, lt-ltb, le-ltb}
use Rattle.std.specs.Prelude.{nat_lt, if◌then◌else◌, option_to_list, option_map}
use Rattle.std.specs.List.{AllZip, AllByRecursion}
use Rattle.std.proofs.lemmas.Option.{same_Some}
use Rattle.pearl_value.specs.declared.kind.Kind.{Kind}
use Rattle.pearl_value.specs.declared.kind.CellKind.{CellKind}
use Rattle.pearl_value.specs.declared.kind.CellKind.TheVariants.{Plain, RefTo}
use Rattle.pearl_value.specs.declared.cell.Place.TheVariants as place
use Rattle.pearl_value.specs.declared.cell.Cell.{Cell}
use Rattle.pearl_value.specs.declared.cell.Cell.TheVariants as cell
use Rattle.pearl_value.specs.WellFormed.{IsValueOf}
use Rattle.pearl_rules.specs.declared.action.Action.{Action}
use Rattle.pearl_rules.specs.declared.action.Action.TheVariants as action
use Rattle.pearl_rules.specs.declared.action.Answer.{Answer}
use Rattle.pearl_rules.specs.declared.action.Answer.TheVariants.{Nothing, One, Many}
use Rattle.pearl_stack.specs.Frames.{Frame, cell_at}
use Rattle.pearl_instructions.specs.declared.instr.Instr.{Instr}
use Rattle.pearl_instructions.specs.declared.instr.Instr.TheVariants.{Read, Write, ReadAt, WriteAt, RefSlot, RefSlotAt, ReadRef, WriteRef}
use Rattle.pearl_instructions.specs.declared.object.Leaf.{Leaf}
use Rattle.pearl_instructions.specs.declared.object.Code.{Code}
use Rattle.pearl_instructions.specs.declared.object.Parts.{Parts as Object}
use Rattle.pearl_instructions.specs.Objects.{first_slot, slot_kind}
use Rattle.pearl_instructions.specs.Lawful.{IsLeaf, IsObject}
use Rattle.pearl_instructions.specs.Steps.{next, asks, heard}
use Rattle.pearl_instructions.specs.Cells.{reads, read_reference, write_reference}
use Rattle.pearl_instructions.specs.Rows.{act}
use Rattle.pearl_instructions.specs.Operands.{Shape, same_cell}
use Rattle.pearl_instructions.specs.Kinds.{leaf_kind, is_kind, reference_to}
use Rattle.pearl_instructions.specs.Stacks.{routines_of, Refers, Suits, IsTop, IsStack, IsOneOf, Answers}
use Rattle.pearl_instructions.specs.Actions.{IsOf, IsOffered}
use Rattle.pearl_instructions.proofs.Tests.{same_cell_true}
use Rattle.pearl_instructions.proofs.Zips.{some_at}
use Rattle.pearl_instructions.proofs.Referred.{Housed, kinds_is, below_housed, cell_there, top_set}
use Rattle.pearl_instructions.proofs.OfferedActions.{slot_there}
use Rattle.pearl_instructions.proofs.Kept.{IsSound, Here, goes, given_goes, popped_goes}
use Rattle.pearl_instructions.proofs.SoundCells.{within_goes, offset_on_top}

pub all_of : {A : Type 0} (P : A → Type 0) (xs : List A) (n : ℕ) (x : A) → AllByRecursion P xs → slice_get xs n ≡ Some x → P x
all_of P [] n x all e = cc
all_of P (y ∷ xs) zero x all e = subst P (same_Some y x e) all.0
all_of P (y ∷ xs) (suc n) x all e = all_of P xs n x all.1 e

-- the slots of a leaf have its kind
pub slot_of : (leaves : List Leaf) (v i m : ℕ) (leaf : Leaf) → slice_get leaves v ≡ Some leaf → i < leaf.slots → m ≡ first_slot leaves v + i → slot_kind leaves m ≡ Some leaf.kind
slot_of [] v i m leaf at less e = cc
slot_of (l ∷ leaves) zero i m leaf at less e =
    let same : l ≡ leaf = same_Some l leaf at in
    let slots : l.slots ≡ leaf.slots = ap (λ l. l.slots) same in
    let there : nat_lt m l.slots ≡ true = lt-ltb m l.slots (omega (arith, slots, less, e)) in
    ap (λ b. if b then Some l.kind else slot_kind leaves (m - l.slots)) there ∙ ap (λ l. Some l.kind) same
slot_of (l ∷ leaves) (suc v) i m leaf at less e =
    let past : nat_lt m l.slots ≡ false = le-ltb m l.slots (omega (arith, e)) in
    ap (λ b. if b then Some l.kind else slot_kind leaves (m - l.slots)) past ∙ slot_of leaves v i (m - l.slots) leaf at less (omega (arith, e))

one_is : (k : Kind) (answer : Answer) (option : Option Kind) → option ≡ Some k → IsOneOf option answer → (x : Cell) × (answer ≡ One x) × IsValueOf k x
one_is k answer None e h = cc
one_is k Nothing (Some of) e h = absurd h
one_is k (One x) (Some of) e h = (x, refl, subst (λ k. IsValueOf k x) (same_Some of k e) h)
one_is k (Many xs) (Some of) e h = absurd h

-- a value of this kind is asked for and pushed
pub asks_goes : (o : Object) (action : Action) (f : Frame) (lower : List Frame) (left : List Cell) (k : Kind) (option : Option Kind) → IsOffered o action →
    ((answer : Answer) (own : ℕ) → Answers o own action answer → IsOneOf option answer) → option ≡ Some k →
    ((x : Cell) → IsValueOf k x → IsTop o (next f (x ∷ left)) lower) → IsSound o (asks action f lower left)
asks_goes o action f lower left k option there is e go = (
  there,
  λ answer own h.
      let one = one_is k answer option e (is answer own h) in
      subst (λ a. IsStack o (next f (heard a ∷ left) ∷ lower)) (sym one.1) (go one.0 one.2),
)

leaf_some : (o : Object) (v : ℕ) (leaf : Leaf) → IsObject o → slice_get o.leaves v ≡ Some leaf → 0 < leaf.slots
leaf_some o v leaf w e = (all_of IsLeaf o.leaves v leaf w.leaves e).some.0

reads_goes : (o : Object) (v i : ℕ) (leaf : Leaf) (f : Frame) (lower : List Frame) (left : List Cell) → slice_get o.leaves v ≡ Some leaf → i < leaf.slots →
    ((x : Cell) → IsValueOf leaf.kind x → IsTop o (next f (x ∷ left)) lower) → IsSound o (reads o v i f lower left)
reads_goes o v i leaf f lower left e less go =
    let slot = first_slot o.leaves v + i in
    let kind = slot_of o.leaves v i slot leaf e less refl in
    asks_goes o (action.Read slot) f lower left leaf.kind (slot_kind o.leaves slot) (slot_there o.leaves slot leaf.kind kind) (λ answer own h. h) kind go

writes_there : (o : Object) (rs : List ℕ) (v i : ℕ) (leaf : Leaf) (k : CellKind) (x : Cell) → slice_get o.leaves v ≡ Some leaf → i < leaf.slots →
    is_kind k (leaf_kind (slice_get o.leaves v)) ≡ true → Suits o rs k x → IsOffered o (action.Write (first_slot o.leaves v + i) x)
writes_there o rs v i leaf k x at less exact suits =
    let slot = first_slot o.leaves v + i in
    let kind = slot_of o.leaves v i slot leaf at less refl in
    let same : same_cell k (Plain leaf.kind) ≡ true = ap (λ l. is_kind k (leaf_kind l)) (sym at) ∙ exact in
    let value = subst (λ k. Suits o rs k x) (same_cell_true k (Plain leaf.kind) same) suits in
    (slot_there o.leaves slot leaf.kind kind, subst (λ of. IsOf of x) (sym kind) value)

pub read_sound : (o : Object) (w : IsObject o) (f : Frame) (lower : List Frame) (code : Code) (s : Shape) (v : ℕ) → Here o f lower code (Read v) s → IsSound o (act o (Read v) f lower)
read_sound o w f lower code s v h =
    let leaf = some_at o.leaves v (ltb-true v (length o.leaves) h.keeps.named) in
    given_goes o leaf.0 (slice_get o.leaves v) _ leaf.1
    (reads_goes o v 0 leaf.0 f lower f.operands leaf.1 (leaf_some o v leaf.0 w leaf.1) (λ x fits.
    goes o f lower code (Read v) s h f.cells (x ∷ f.operands) (Plain leaf.0.kind ∷ s) refl (ap (λ l. option_to_list (leaf_kind l) ++ s) (sym leaf.1))
    h.stands.cells (fits, h.stands.operands)))

pub read_at_sound : (o : Object) (f : Frame) (lower : List Frame) (code : Code) (s : Shape) (v : ℕ) → Here o f lower code (ReadAt v) s → IsSound o (act o (ReadAt v) f lower)
read_at_sound o f lower code [] v h = let e = h.keeps.ends in cc
read_at_sound o f lower code (k ∷ ks) v h =
    let rs = f.routine ∷ routines_of lower in
    let leaf = some_at o.leaves v (ltb-true v (length o.leaves) h.keeps.named) in
    given_goes o leaf.0 (slice_get o.leaves v) _ leaf.1
    (popped_goes o (Suits o rs) k ks f.operands _ h.stands.operands (λ x left suits rest.
    within_goes o leaf.0.slots x f lower _ (subst (λ k. Suits o rs k x) (sym (offset_on_top k ks h.keeps.ends)) suits) (λ i less.
    reads_goes o v i leaf.0 f lower left leaf.1 less (λ y fits.
    goes o f lower code (ReadAt v) (k ∷ ks) h f.cells (y ∷ left) (Plain leaf.0.kind ∷ ks) refl (ap (λ l. option_to_list (leaf_kind l) ++ ks) (sym leaf.1))
    h.stands.cells (fits, rest)))))

pub write_sound : (o : Object) (w : IsObject o) (f : Frame) (lower : List Frame) (code : Code) (s : Shape) (v : ℕ) → Here o f lower code (Write v) s → IsSound o (act o (Write v) f lower)
write_sound o w f lower code [] v h = let e = h.keeps.ends in cc
write_sound o w f lower code (k ∷ ks) v h =
    let leaf = some_at o.leaves v (ltb-true v (length o.leaves) h.keeps.named) in
    given_goes o leaf.0 (slice_get o.leaves v) _ leaf.1
    (popped_goes o (Suits o (f.routine ∷ routines_of lower)) k ks f.operands _ h.stands.operands (λ x left suits rest. (
      writes_there o (f.routine ∷ routines_of lower) v 0 leaf.0 k x leaf.1 (leaf_some o v leaf.0 w leaf.1) h.keeps.exact suits,
      λ answer own e. goes o f lower code (Write v) (k ∷ ks) h f.cells left ks refl refl h.stands.cells rest,
    )))

pub write_at_sound : (o : Object) (f : Frame) (lower : List Frame) (code : Code) (s : Shape) (v : ℕ) → Here o f lower code (WriteAt v) s → IsSound o (act o (WriteAt v) f lower)
write_at_sound o f lower code [] v h = let e = h.keeps.ends in cc
write_at_sound o f lower code (k ∷ []) v h = let e = h.keeps.ends in cc
write_at_sound o f lower code (k ∷ l ∷ ks) v h =
    let rs = f.routine ∷ routines_of lower in
    let leaf = some_at o.leaves v (ltb-true v (length o.leaves) h.keeps.named) in
    given_goes o leaf.0 (slice_get o.leaves v) _ leaf.1
    (popped_goes o (Suits o rs) k (l ∷ ks) f.operands _ h.stands.operands (λ x more suits under.
    popped_goes o (Suits o rs) l ks more _ under (λ at left suits_at rest.
    within_goes o leaf.0.slots at f lower _ (subst (λ k. Suits o rs k at) (sym (offset_on_top l ks h.keeps.ends)) suits_at) (λ i less. (
      writes_there o rs v i leaf.0 k x leaf.1 less h.keeps.exact suits,
      λ answer own e. goes o f lower code (WriteAt v) (k ∷ l ∷ ks) h f.cells left ks refl refl h.stands.cells rest,
    )))))

pub ref_slot_sound : (o : Object) (w : IsObject o) (f : Frame) (lower : List Frame) (code : Code) (s : Shape) (v : ℕ) → Here o f lower code (RefSlot v) s →
    IsSound o (act o (RefSlot v) f lower)
ref_slot_sound o w f lower code s v h =
    let leaf = some_at o.leaves v (ltb-true v (length o.leaves) h.keeps.named) in
    given_goes o leaf.0 (slice_get o.leaves v) _ leaf.1
    (goes o f lower code (RefSlot v) s h f.cells (cell.Ref leaf.0.kind (place.Slot (first_slot o.leaves v + 0)) ∷ f.operands) (RefTo leaf.0.kind ∷ s) refl
    (ap (λ l. option_to_list (option_map reference_to (leaf_kind l)) ++ s) (sym leaf.1)) h.stands.cells
    ((refl, slot_of o.leaves v 0 (first_slot o.leaves v + 0) leaf.0 leaf.1 (leaf_some o v leaf.0 w leaf.1) refl), h.stands.operands))

pub ref_slot_at_sound : (o : Object) (f : Frame) (lower : List Frame) (code : Code) (s : Shape) (v : ℕ) → Here o f lower code (RefSlotAt v) s →
    IsSound o (act o (RefSlotAt v) f lower)
ref_slot_at_sound o f lower code [] v h = let e = h.keeps.ends in cc
ref_slot_at_sound o f lower code (k ∷ ks) v h =
    let rs = f.routine ∷ routines_of lower in
    let leaf = some_at o.leaves v (ltb-true v (length o.leaves) h.keeps.named) in
    given_goes o leaf.0 (slice_get o.leaves v) _ leaf.1
    (popped_goes o (Suits o rs) k ks f.operands _ h.stands.operands (λ x left suits rest.
    within_goes o leaf.0.slots x f lower _ (subst (λ k. Suits o rs k x) (sym (offset_on_top k ks h.keeps.ends)) suits) (λ i less.
    goes o f lower code (RefSlotAt v) (k ∷ ks) h f.cells (cell.Ref leaf.0.kind (place.Slot (first_slot o.leaves v + i)) ∷ left) (RefTo leaf.0.kind ∷ ks) refl
    (ap (λ l. option_to_list (option_map reference_to (leaf_kind l)) ++ ks) (sym leaf.1)) h.stands.cells
    ((refl, slot_of o.leaves v i (first_slot o.leaves v + i) leaf.0 leaf.1 less refl), rest))))

here_housed : (o : Object) (f : Frame) (lower : List Frame) (code : Code) (instr : Instr) (s : Shape) → Here o f lower code instr s → Housed o (f ∷ lower)
here_housed o f lower code instr s h =
    (subst (λ ks. AllZip (Suits o (routines_of lower)) ks f.cells) (sym (kinds_is o f.routine code h.routine)) h.stands.cells, below_housed o f.routine lower h.below)

read_reference_goes : (o : Object) (f : Frame) (lower : List Frame) (left : List Cell) (k : Kind) (r : Cell) → Housed o (f ∷ lower) →
    Refers o (f.routine ∷ routines_of lower) k r → ((x : Cell) → IsValueOf k x → IsTop o (next f (x ∷ left)) lower) → IsSound o (read_reference f lower left r)
read_reference_goes o f lower left k (cell.Ref of (place.Slot v)) housed s go =
    asks_goes o (action.Read v) f lower left k (slot_kind o.leaves v) (slot_there o.leaves v k s.1) (λ answer own h. h) s.1 go
read_reference_goes o f lower left k (cell.Ref of (place.Cell n c)) housed s go =
    let got = cell_there o (f ∷ lower) n c k housed s.1 in
    given_goes o got.0 (cell_at (f ∷ lower) n c) _ got.1 (go got.0 got.2)
read_reference_goes o f lower left k x housed s go = absurd s

pub read_ref_sound : (o : Object) (f : Frame) (lower : List Frame) (code : Code) (s : Shape) → Here o f lower code ReadRef s → IsSound o (act o ReadRef f lower)
read_ref_sound o f lower code [] h = let e = h.keeps.ends in cc
read_ref_sound o f lower code (Plain k ∷ ks) h = let e = h.keeps.ends in cc
read_ref_sound o f lower code (RefTo k ∷ ks) h =
    popped_goes o (Suits o (f.routine ∷ routines_of lower)) (RefTo k) ks f.operands _ h.stands.operands (λ r left suits rest.
    read_reference_goes o f lower left k r (here_housed o f lower code ReadRef (RefTo k ∷ ks) h) suits (λ x fits.
    goes o f lower code ReadRef (RefTo k ∷ ks) h f.cells (x ∷ left) (Plain k ∷ ks) refl refl h.stands.cells (fits, rest)))

write_reference_goes : (o : Object) (f : Frame) (lower : List Frame) (left : List Cell) (k : Kind) (x r : Cell) → Housed o (f ∷ lower) →
    Refers o (f.routine ∷ routines_of lower) k r → IsValueOf k x → IsTop o (next f left) lower → IsSound o (write_reference x f lower left r)
write_reference_goes o f lower left k x (cell.Ref of (place.Slot v)) housed s fits t =
    ((slot_there o.leaves v k s.1, subst (λ of. IsOf of x) (sym s.1) fits), λ answer own e. t)
write_reference_goes o f lower left k x (cell.Ref of (place.Cell n c)) housed s fits t =
    let got = cell_there o (f ∷ lower) n c k housed s.1 in
    given_goes o got.0 (cell_at (f ∷ lower) n c) _ got.1 (top_set o (next f left) lower n c k x t s.1 fits)
write_reference_goes o f lower left k x r housed s fits t = absurd s

pub write_ref_sound : (o : Object) (f : Frame) (lower : List Frame) (code : Code) (s : Shape) → Here o f lower code WriteRef s → IsSound o (act o WriteRef f lower)
write_ref_sound o f lower code [] h = let e = h.keeps.ends in cc
write_ref_sound o f lower code (k ∷ []) h = let e = h.keeps.ends in cc
write_ref_sound o f lower code (k ∷ Plain l ∷ ks) h = let e = h.keeps.ends in cc
write_ref_sound o f lower code (k ∷ RefTo l ∷ ks) h =
    let rs = f.routine ∷ routines_of lower in
    let exact : same_cell k (Plain l) ≡ true = h.keeps.exact in
    popped_goes o (Suits o rs) k (RefTo l ∷ ks) f.operands _ h.stands.operands (λ x more suits_x under.
    popped_goes o (Suits o rs) (RefTo l) ks more _ under (λ r left suits rest.
    write_reference_goes o f lower left l x r (here_housed o f lower code WriteRef (k ∷ RefTo l ∷ ks) h) suits
    (subst (λ k. Suits o rs k x) (same_cell_true k (Plain l) exact) suits_x)
    (goes o f lower code WriteRef (k ∷ RefTo l ∷ ks) h f.cells left ks refl refl h.stands.cells rest)))
