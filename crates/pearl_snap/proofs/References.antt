-- Where a state keeps N2 and N5, its references name what is there exactly if they lead to values of their kinds.
use Rattle.std.proofs.Common.{◌≡◌, ℕ, zero, suc, ◌+◌, ◌-◌, ◌≤◌, ◌<◌, inl, inr, List, [], ◌∷◌, ◌++◌, length, take, drop, Some, None, refl, sym, ap, subst, ◌∙◌, arith}
use Rattle.std.specs.Prelude.{◌↔◌, IsSome, map, reverse, replicate, option_map, slice_get}
use Rattle.std.proofs.lemmas.Bool.{cases_lt}
use Rattle.std.proofs.lemmas.List.{reverse-append}
use Rattle.std.proofs.lemmas.Option.{slice_get_cases}
use Rattle.std.specs.List.{AllByRecursion, AllZip, flat_map}
use Rattle.pearl_value.specs.declared.kind.Kind.{Kind}
use Rattle.pearl_value.specs.declared.kind.CellKind.{CellKind}
use Rattle.pearl_value.specs.declared.cell.Cell.{Cell}
use Rattle.pearl_value.specs.Cells.{kind_of}
use Rattle.pearl_value.specs.WellFormed.{IsValueOf}
use Rattle.pearl_instructions.specs.declared.object.Leaf.{Leaf}
use Rattle.pearl_instructions.specs.declared.object.Code.{Code}
use Rattle.pearl_instructions.specs.declared.object.Parts.{Parts as Object}
use Rattle.pearl_instructions.specs.Objects.{first_slot}
use Rattle.pearl_records.specs.declared.record.Standing.{Standing}
use Rattle.pearl_records.specs.declared.record.Standing.TheVariants.{Dormant, Active}
use Rattle.pearl_records.specs.declared.record.TaskRecord.{TaskRecord}
use Rattle.pearl_saved.specs.declared.saved.Target.{Target}
use Rattle.pearl_saved.specs.declared.saved.Target.TheVariants.{Slot, Own}
use Rattle.pearl_saved.specs.declared.saved.SavedCell.{SavedCell}
use Rattle.pearl_saved.specs.declared.saved.SavedCell.TheVariants.{Value, Variable, Array}
use Rattle.pearl_saved.specs.declared.saved.FrameRecord.{FrameRecord}
use Rattle.pearl_saved.specs.declared.saved.Saved.{Saved}
use Rattle.pearl_saved.specs.Rules.{kind_held, AreOf, Stands, IsStackOf, HasStack, HasStacks, own_kind, AreSlots, Names, RefersWell, AllRefer}
use Rattle.pearl_snap.specs.Parts.{HasParts}
use Rattle.pearl_snap.specs.Leads.{kind_at, Leads, AllLead}
use Rattle.pearl_snap.proofs.Zips.{parted}

-- ---- slots

abbrev kinds : Leaf → List Kind
kinds leaf = replicate leaf.slots leaf.kind

abbrev Hold : List Leaf → List Cell → Type 0
Hold leaves slots = AllZip IsValueOf (flat_map (λ leaf. replicate leaf.slots leaf.kind) leaves) slots

-- a leaf of this kind that has this slot
record LeafAt (leaves : List Leaf) (kind : Kind) (slot : ℕ) : Type 0 where
  number : ℕ
  leaf : Leaf
  there : slice_get leaves number ≡ Some leaf
  of : leaf.kind ≡ kind
  from : first_slot leaves number ≤ slot
  up_to : slot + 1 ≤ first_slot leaves number + leaf.slots

front_at : {X : Type 0} (P : X → Type 0) (n : ℕ) (xs : List X) (i : ℕ) (x : X) → AllByRecursion P (take n xs) → i < n → slice_get xs i ≡ Some x → P x
front_at P zero xs i x h less e = absurd (omega (arith, less))
front_at P (suc n) [] i x h less e = absurd cc
front_at P (suc n) (y ∷ xs) zero x h less e = let s : y ≡ x = cc in subst P s h.0
front_at P (suc n) (y ∷ xs) (suc i) x h less e = front_at P n xs i x h.1 (omega (arith, less)) e

get_behind : {X : Type 0} (n : ℕ) (xs : List X) (i : ℕ) → slice_get (drop n xs) i ≡ slice_get xs (n + i)
get_behind zero xs i = let e : i ≡ 0 + i = omega arith in ap (slice_get xs) e
get_behind (suc n) [] i = refl
get_behind (suc n) (x ∷ xs) i = let e : suc (n + i) ≡ suc n + i = omega arith in get_behind n xs i ∙ ap (slice_get (x ∷ xs)) e

leaf_of : (leaves : List Leaf) (slots : List Cell) (slot : ℕ) (x : Cell) → Hold leaves slots → slice_get slots slot ≡ Some x → LeafAt leaves (kind_of x) slot
leaf_of [] [] slot x h e = absurd cc
leaf_of [] (y ∷ slots) slot x h e = absurd h
leaf_of (leaf ∷ leaves) slots slot x h e =
    let f = parted IsValueOf leaf.kind leaf.slots (flat_map kinds leaves) slots h in
    elim (cases_lt slot leaf.slots) [
      | inl less ↦
          let is = front_at (IsValueOf leaf.kind) leaf.slots slots slot x f.front less e in
          record { number = 0; leaf = leaf; there = refl; of = sym is.same_kind; from = omega arith; up_to = omega (arith, less) }
      | inr more ↦
          let n : leaf.slots + (slot - leaf.slots) ≡ slot = omega (arith, more) in
          let r = leaf_of leaves (drop leaf.slots slots) (slot - leaf.slots) x f.rest (get_behind leaf.slots slots (slot - leaf.slots) ∙ ap (slice_get slots) n ∙ e) in
          let low = r.from in
          let high = r.up_to in
          record { number = suc r.number; leaf = r.leaf; there = r.there; of = r.of; from = omega (arith, more, low); up_to = omega (arith, more, high) }
    ]

of_leaf : (leaves : List Leaf) (slots : List Cell) (v : ℕ) (leaf : Leaf) (slot : ℕ) → Hold leaves slots → slice_get leaves v ≡ Some leaf
    → first_slot leaves v ≤ slot → slot + 1 ≤ first_slot leaves v + leaf.slots → option_map kind_of (slice_get slots slot) ≡ Some leaf.kind
of_leaf [] slots v leaf slot h e low high = absurd cc
of_leaf (first ∷ leaves) slots zero leaf slot h e low high =
    let s : first ≡ leaf = cc in
    let few = ap (λ l. l.slots) s in
    let f = parted IsValueOf first.kind first.slots (flat_map kinds leaves) slots h in
    let less : slot < first.slots = omega (arith, high, few) in
    let enough = f.enough in
    elim (slice_get_cases slots slot).1 [
      | inl w ↦ ap (option_map kind_of) w.2 ∙ ap Some ((front_at (IsValueOf first.kind) first.slots slots slot w.0 f.front less w.2).same_kind ∙ ap (λ l. l.kind) s)
      | inr none ↦ let past = none.0 in absurd (omega (arith, past, less, enough))
    ]
of_leaf (first ∷ leaves) slots (suc v) leaf slot h e low high =
    let f = parted IsValueOf first.kind first.slots (flat_map kinds leaves) slots h in
    let more : first.slots ≤ slot = omega (arith, low) in
    let n : first.slots + (slot - first.slots) ≡ slot = omega (arith, more) in
    ap (option_map kind_of) (sym (get_behind first.slots slots (slot - first.slots) ∙ ap (slice_get slots) n))
    ∙ of_leaf leaves (drop first.slots slots) v leaf (slot - first.slots) f.rest e (omega (arith, low, more)) (omega (arith, high, more))

slot_named : (o : Object) (slots : List Cell) → Hold o.leaves slots → (k : Kind) (slot : ℕ) → (option_map kind_of (slice_get slots slot) ≡ Some k) ↔ AreSlots o k slot 1
slot_named o slots h k slot = (forth, λ a. of_leaf o.leaves slots a.number a.leaf slot h a.there a.from a.up_to ∙ ap Some a.of)
  where
    forth : option_map kind_of (slice_get slots slot) ≡ Some k → AreSlots o k slot 1
    forth e = elim (slice_get_cases slots slot).1 [
      | inl w ↦
          let r = leaf_of o.leaves slots slot w.0 h w.2 in
          let same : Some (kind_of w.0) ≡ Some k = sym (ap (option_map kind_of) w.2) ∙ e in
          let s : kind_of w.0 ≡ k = cc in
          record { number = r.number; leaf = r.leaf; there = r.there; of = r.of ∙ s; from = r.from; up_to = r.up_to }
      | inr none ↦ let bad : None ≡ Some k = sym (ap (option_map kind_of) none.1) ∙ e in absurd cc
    ]

-- ---- cells

own_named : (frames : List FrameRecord) (k : Kind) (n c : ℕ) → (own_kind frames n c ≡ Some k) ↔ ((i : ℕ) → i < 1 → own_kind frames n (c + i) ≡ Some k)
own_named frames k n c = (
  λ e i less. let z : c ≡ c + i = omega (arith, less) in subst (λ d. own_kind frames n d ≡ Some k) z e,
  λ h. let z : c + 0 ≡ c = omega arith in subst (λ d. own_kind frames n d ≡ Some k) z (h 0 (omega arith)),
)

named : (o : Object) (slots : List Cell) → Hold o.leaves slots → (frames : List FrameRecord) (k : Kind) (t : Target) → (kind_at slots frames t ≡ Some k) ↔ Names o frames k t 1
named o slots h frames k (Slot slot) = slot_named o slots h k slot
named o slots h frames k (Own n c) = own_named frames k n c

-- what a cell holds that is no array
abbrev pub IsPlainOrRef : SavedCell → Type 0
IsPlainOrRef x = IsSome (kind_held x)

refers_is : (o : Object) (slots : List Cell) → Hold o.leaves slots → (frames : List FrameRecord) (x : SavedCell) → IsPlainOrRef x → Leads slots frames x ↔ RefersWell o frames x
refers_is o slots h frames (Value x) some = (λ l. l, λ r. r)
refers_is o slots h frames (Variable reference) some = named o slots h frames reference.kind reference.target
refers_is o slots h frames (Array array) some = absurd cc

-- ---- lists of cells, and stacks

all_same : {X : Type 0} (S P Q : X → Type 0) → ((x : X) → S x → P x ↔ Q x) → (xs : List X) → AllByRecursion S xs → AllByRecursion P xs ↔ AllByRecursion Q xs
all_same S P Q each [] s = (λ h. h, λ h. h)
all_same S P Q each (x ∷ xs) s =
    let one = each x s.0 in
    let more = all_same S P Q each xs s.1 in
    (λ h. (one.0 h.0, more.0 h.1), λ h. (one.1 h.0, more.1 h.1))

record HoldsNoArray (f : FrameRecord) : Type 0 where
  cells : AllByRecursion IsPlainOrRef f.cells
  operands : AllByRecursion IsPlainOrRef f.operands

stack_refers : (o : Object) (slots : List Cell) → Hold o.leaves slots → (lower more : List FrameRecord) → AllByRecursion HoldsNoArray more → AllLead slots lower more ↔ AllRefer o lower more
stack_refers o slots h lower [] none = (λ l. l, λ r. r)
stack_refers o slots h lower (f ∷ more) none =
    let cells = all_same IsPlainOrRef (Leads slots lower) (RefersWell o lower) (refers_is o slots h lower) f.cells none.0.cells in
    let own = lower ++ f ∷ [] in
    let operands = all_same IsPlainOrRef (Leads slots own) (RefersWell o own) (refers_is o slots h own) f.operands none.0.operands in
    let rest = stack_refers o slots h own more none.1 in
    (λ l. (cells.0 l.0, operands.0 l.1, rest.0 l.2), λ r. (cells.1 r.0, operands.1 r.1, rest.1 r.2))

-- ---- no frame of a state that keeps N5 holds an array

plain_or_ref : (kinds : List CellKind) (xs : List SavedCell) → AreOf kinds xs → AllByRecursion IsPlainOrRef xs
plain_or_ref [] [] e = tt
plain_or_ref [] (x ∷ xs) e = absurd cc
plain_or_ref (k ∷ ks) [] e = tt
plain_or_ref (k ∷ ks) (x ∷ xs) e =
    let one : kind_held x ≡ Some k = cc in
    let more : map kind_held xs ≡ map Some ks = cc in
    (subst IsSome (sym one) refl, plain_or_ref ks xs more)

pub back_all : {X : Type 0} (P : X → Type 0) (xs ys : List X) → AllByRecursion P (xs ++ ys) → AllByRecursion P xs × AllByRecursion P ys
back_all P [] ys h = (tt, h)
back_all P (x ∷ xs) ys h = let r = back_all P xs ys h.1 in ((h.0, r.0), r.1)

forward_all : {X : Type 0} (P : X → Type 0) (xs : List X) → AllByRecursion P (reverse xs) → AllByRecursion P xs
forward_all P [] h = tt
forward_all P (x ∷ xs) h =
    let parts = back_all P (reverse xs) (x ∷ []) (subst (AllByRecursion P) (reverse-append (x ∷ []) xs) h) in
    (parts.1.0, forward_all P xs parts.0)

no_array : (code : Code) (shape : List CellKind) (f : FrameRecord) → Stands code shape f → HoldsNoArray f
no_array code shape f s = record { cells = plain_or_ref code.cells f.cells s.cells; operands = forward_all IsPlainOrRef f.operands (plain_or_ref shape (reverse f.operands) s.operands) }

stack_plain : (o : Object) (routine : ℕ) (frames : List FrameRecord) → IsStackOf o routine frames → AllByRecursion HoldsNoArray frames
stack_plain o routine [] h = absurd h
stack_plain o routine (f ∷ []) h = (no_array _ _ f h.1.stands, tt)
stack_plain o routine (f ∷ above ∷ more) h = (no_array _ _ f h.1.stands, stack_plain o above.routine (above ∷ more) h.2)

task_plain : (o : Object) (task : ℕ) (standing : Standing) (frames : List FrameRecord) → HasStack o task standing frames → AllByRecursion HoldsNoArray frames
task_plain o task Dormant frames h = subst (AllByRecursion HoldsNoArray) (sym h) tt
task_plain o task (Active priority suspended kept) frames h = stack_plain o (length o.procedures + task) frames h

all_plain : (o : Object) (task : ℕ) (rows : List TaskRecord) (stacks : List (List FrameRecord)) → HasStacks o task rows stacks → AllByRecursion (AllByRecursion HoldsNoArray) stacks
all_plain o task [] [] h = tt
all_plain o task [] (frames ∷ stacks) h = absurd h
all_plain o task (row ∷ rows) [] h = absurd h
all_plain o task (row ∷ rows) (frames ∷ stacks) h = (task_plain o task row.standing frames h.0, all_plain o (task + 1) rows stacks h.1)

pub leads_refers : (o : Object) (s : Saved) → HasParts o s.core → HasStacks o 0 s.core.tasks s.stacks → AllByRecursion (AllLead s.core.slots []) s.stacks ↔ AllByRecursion (AllRefer o []) s.stacks
leads_refers o s parts stand =
    all_same (AllByRecursion HoldsNoArray) (AllLead s.core.slots []) (AllRefer o []) (stack_refers o s.core.slots parts.slots []) s.stacks (all_plain o 0 s.core.tasks s.stacks stand)
