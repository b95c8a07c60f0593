-- What is recorded of a stack keeps N5 and N6.
use Rattle.std.proofs.Common.{◌≡◌, inl, inr, ℕ, zero, suc, ◌+◌, ◌-◌, ◌≤◌, ◌<◌, List, [], ◌∷◌, ◌++◌, length, Some, refl, sym, ap, subst, ◌∙◌, arith}
use Rattle.std.specs.Prelude.{nat_lt, if◌then◌else◌, Bool, true, false, drop, map, reverse, slice_get}
use Rattle.std.proofs.lemmas.Bool.{cases_lt, lt-ltb, le-ltb}
use Rattle.std.proofs.lemmas.List.{map-append, reverse-append, append_assoc}
use Rattle.std.specs.List.{AllByRecursion, AllZip}
use Rattle.pearl_value.specs.declared.kind.Kind.{Kind}
use Rattle.pearl_value.specs.declared.kind.CellKind.{CellKind}
use Rattle.pearl_value.specs.declared.kind.CellKind.TheVariants.{Plain, RefTo}
use Rattle.pearl_value.specs.declared.cell.Cell.{Cell}
use Rattle.pearl_value.specs.declared.cell.Cell.TheVariants.{Fixed, Bits, Chars, Clock, Span, Ref}
use Rattle.pearl_value.specs.declared.cell.Place.{Place}
use Rattle.pearl_value.specs.declared.cell.Place.TheVariants as place
use Rattle.pearl_stack.specs.Frames.{Frame}
use Rattle.pearl_instructions.specs.declared.object.Leaf.{Leaf}
use Rattle.pearl_instructions.specs.declared.object.Code.{Code}
use Rattle.pearl_instructions.specs.declared.object.Parts.{Parts as Object}
use Rattle.pearl_instructions.specs.Objects.{routine_at, first_slot, slot_kind}
use Rattle.pearl_instructions.specs.Owners as owners
use Rattle.pearl_instructions.specs.Rows.{lowest}
use Rattle.pearl_instructions.specs.Stacks as stacks
use Rattle.pearl_instructions.specs.Stacks.{routines_of, kind_at, cell_kind, Suits, Below, IsTop}
use Rattle.pearl_instructions.specs.Valid.{shape_before}
use Rattle.pearl_saved.specs.declared.saved.SavedCell.{SavedCell}
use Rattle.pearl_saved.specs.declared.saved.FrameRecord.{FrameRecord}
use Rattle.pearl_saved.specs.Rules.{kind_held, AreOf, IsHeld, Stands, IsAtCall, IsStackOf, own_kind, AreSlots, Names, RefersWell, AllRefer}
use Rattle.pearl_saved.specs.Stacks.{target_of, cell_record, frame_record, stack_record}
use Rattle.pearl_saved.proofs.Turned.{turned_twice, map_reversed, all_joined, all_turned}
use Rattle.pearl_saved.proofs.Alike.{Alike, none_alike, one_more_alike}

-- ---- what references lead to

-- a leaf of this kind that has this slot
record LeafAt (leaves : List Leaf) (kind : Kind) (slot : ℕ) : Type 0 where
  number : ℕ
  leaf : Leaf
  there : slice_get leaves number ≡ Some leaf
  of : leaf.kind ≡ kind
  from : first_slot leaves number ≤ slot
  up_to : slot + 1 ≤ first_slot leaves number + leaf.slots

leaf_at : (leaves : List Leaf) (slot : ℕ) (kind : Kind) → slot_kind leaves slot ≡ Some kind → LeafAt leaves kind slot
leaf_at [] slot kind e = absurd cc
leaf_at (leaf ∷ leaves) slot kind e = elim (cases_lt slot leaf.slots) [
  | inl less ↦
      let one : Some leaf.kind ≡ Some kind = sym (chosen (nat_lt slot leaf.slots) true (lt-ltb slot leaf.slots less)) ∙ e in
      let s : leaf.kind ≡ kind = cc in
      record { number = 0; leaf = leaf; there = refl; of = s; from = omega arith; up_to = omega (arith, less) }
  | inr more ↦
      let rest : slot_kind leaves (slot - leaf.slots) ≡ Some kind = sym (chosen (nat_lt slot leaf.slots) false (le-ltb slot leaf.slots more)) ∙ e in
      let r = leaf_at leaves (slot - leaf.slots) kind rest in
      let low = r.from in
      let high = r.up_to in
      record { number = suc r.number; leaf = r.leaf; there = r.there; of = r.of; from = omega (arith, more, low); up_to = omega (arith, more, high) }
]
  where
    chosen : (a b : Bool) → a ≡ b
        → (if a then Some leaf.kind else slot_kind leaves (slot - leaf.slots)) ≡ (if b then Some leaf.kind else slot_kind leaves (slot - leaf.slots))
    chosen a b same = ap (λ c. if c then Some leaf.kind else slot_kind leaves (slot - leaf.slots)) same

module _ (o : Object) where
  names : (rs : List ℕ) (frames : List FrameRecord) → Alike o rs frames → (kind : Kind) (at : Place) → kind_at o rs at ≡ Some kind → Names o frames kind (target_of at) 1
  names rs frames alike kind (place.Slot slot) e =
      let r = leaf_at o.leaves slot kind e in
      record { number = r.number; leaf = r.leaf; there = r.there; of = r.of; from = r.from; up_to = r.up_to }
  names rs frames alike kind (place.Cell n c) e = λ i less.
      let same : c + i ≡ c = omega (arith, less) in
      ap (own_kind frames n) same ∙ alike.kinds n c ∙ e

  -- ---- cells, operands and frames

  record Recorded (frames : List FrameRecord) (k : CellKind) (x : SavedCell) : Type 0 where
    kind : kind_held x ≡ Some k
    held : IsHeld x
    well : RefersWell o frames x

  value_recorded : (frames : List FrameRecord) (rs : List ℕ) (kind : Kind) (x : Cell) → Suits o rs (Plain kind) x → Recorded frames (Plain kind) (cell_record x)
  value_recorded frames rs kind (Ref of at) h = absurd h.is_value
  value_recorded frames rs kind (Fixed len value) h = record { kind = ap (λ k. Some (Plain k)) h.same_kind; held = h.is_value; well = tt }
  value_recorded frames rs kind (Bits len value) h = record { kind = ap (λ k. Some (Plain k)) h.same_kind; held = h.is_value; well = tt }
  value_recorded frames rs kind (Chars text) h = record { kind = ap (λ k. Some (Plain k)) h.same_kind; held = h.is_value; well = tt }
  value_recorded frames rs kind (Clock time) h = record { kind = ap (λ k. Some (Plain k)) h.same_kind; held = h.is_value; well = tt }
  value_recorded frames rs kind (Span time) h = record { kind = ap (λ k. Some (Plain k)) h.same_kind; held = h.is_value; well = tt }

  recorded : (rs : List ℕ) (frames : List FrameRecord) → Alike o rs frames → (k : CellKind) (x : Cell) → Suits o rs k x → Recorded frames k (cell_record x)
  recorded rs frames alike (Plain kind) x h = value_recorded frames rs kind x h
  recorded rs frames alike (RefTo kind) (Ref of at) h =
      record { kind = ap (λ k. Some (RefTo k)) h.0; held = tt; well = names rs frames alike of at (h.1 ∙ ap Some (sym h.0)) }
  recorded rs frames alike (RefTo kind) x h = absurd h

  record AllRecorded (frames : List FrameRecord) (ks : List CellKind) (xs : List SavedCell) : Type 0 where
    kinds : AreOf ks xs
    held : AllByRecursion IsHeld xs
    well : AllByRecursion (RefersWell o frames) xs

  all_recorded : (rs : List ℕ) (frames : List FrameRecord) → Alike o rs frames → (ks : List CellKind) (xs : List Cell) → AllZip (Suits o rs) ks xs
      → AllRecorded frames ks (map cell_record xs)
  all_recorded rs frames alike [] [] h = record { kinds = refl; held = tt; well = tt }
  all_recorded rs frames alike [] (x ∷ xs) h = absurd h
  all_recorded rs frames alike (k ∷ ks) [] h = absurd h
  all_recorded rs frames alike (k ∷ ks) (x ∷ xs) h =
      let one = recorded rs frames alike k x h.0 in
      let more = all_recorded rs frames alike ks xs h.1 in
      record {
        kinds = ap (λ y. y ∷ map kind_held (map cell_record xs)) one.kind ∙ ap (λ ys. Some k ∷ ys) more.kinds;
        held = (one.held, more.held);
        well = (one.well, more.well);
      }

  record FrameRecorded (lower : List FrameRecord) (code : Code) (shape : List CellKind) (f : FrameRecord) : Type 0 where
    stands : Stands code shape f
    cells : AllByRecursion (RefersWell o lower) f.cells
    operands : AllByRecursion (RefersWell o (lower ++ f ∷ [])) f.operands

  cells_of : (rs : List ℕ) (lower : List FrameRecord) → Alike o rs lower → (f : Frame) (code : Code) (shape : List CellKind) → stacks.Stands o code f shape rs
      → AllRecorded lower code.cells (map cell_record f.cells)
  cells_of rs lower alike f code shape st = all_recorded rs lower alike code.cells f.cells st.cells

  frame_recorded : (rs : List ℕ) (lower : List FrameRecord) → Alike o rs lower → (f : Frame) (code : Code) (shape : List CellKind) → routine_at o f.routine ≡ Some code
      → stacks.Stands o code f shape rs → FrameRecorded lower code shape (frame_record f)
  frame_recorded rs lower alike f code shape is st =
      let own = lower ++ frame_record f ∷ [] in
      let cells = cells_of rs lower alike f code shape st in
      let more = one_more_alike o rs lower (frame_record f) code alike is cells.kinds in
      let operands = all_recorded (f.routine ∷ rs) own more shape f.operands st.operands in
      let turned : map cell_record (reverse f.operands) ≡ reverse (map cell_record f.operands) = map_reversed cell_record f.operands in
      record {
        stands = record {
          cells = cells.kinds;
          operands = ap (map kind_held) (turned_twice cell_record f.operands) ∙ operands.kinds;
          values = all_joined IsHeld (map cell_record f.cells) (map cell_record (reverse f.operands)) cells.held
              (subst (AllByRecursion IsHeld) (sym turned) (all_turned IsHeld (map cell_record f.operands) operands.held));
        };
        cells = cells.well;
        operands = subst (AllByRecursion (RefersWell o own)) (sym turned) (all_turned (RefersWell o own) (map cell_record f.operands) operands.well);
      }

  -- ---- stacks

  stack_more : (f : Frame) (lower : List Frame) → stack_record (f ∷ lower) ≡ stack_record lower ++ frame_record f ∷ []
  stack_more f lower = ap (map frame_record) (reverse-append (f ∷ []) lower) ∙ map-append frame_record (reverse lower) (f ∷ [])

  below_alike : (p : ℕ) (lower : List Frame) → Below o p lower → Alike o (routines_of lower) (stack_record lower)
  below_alike p [] b = none_alike o
  below_alike p (g ∷ lower) b =
      let c = b.0 in
      let alike = below_alike g.routine lower b.1 in
      let shape = drop c.callee.params (shape_before o g.routine c.code g.place) in
      subst (Alike o (routines_of (g ∷ lower))) (sym (stack_more g lower))
      (one_more_alike o (routines_of lower) (stack_record lower) (frame_record g) c.code alike c.routine
      (cells_of (routines_of lower) (stack_record lower) alike g c.code shape c.stands).kinds)

  calling : (p : ℕ) (g : Frame) (lower : List Frame) → Below o p (g ∷ lower) → (c : IsAtCall o p (frame_record g))
      × AllByRecursion (RefersWell o (stack_record lower)) (frame_record g).cells
      × AllByRecursion (RefersWell o (stack_record lower ++ frame_record g ∷ [])) (frame_record g).operands
  calling p g lower b =
      let c = b.0 in
      let shape = drop c.callee.params (shape_before o g.routine c.code g.place) in
      let r = frame_recorded (routines_of lower) (stack_record lower) (below_alike g.routine lower b.1) g c.code shape c.routine c.stands in
      (record { code = c.code; routine = c.routine; place = c.place; callee = c.callee; called = c.called; stands = r.stands }, r.cells, r.operands)

  -- N5: the frames below stand under those above
  descend : (f : Frame) (lower : List Frame) (x : FrameRecord) (more : List FrameRecord) → Below o f.routine lower → IsStackOf o f.routine (x ∷ more) → x.routine ≡ f.routine
      → IsStackOf o (lowest f lower) (stack_record lower ++ x ∷ more)
  descend f [] x more b is same = is
  descend f (g ∷ lower) x more b is same =
      let call = subst (λ p. IsAtCall o p (frame_record g)) (sym same) (calling f.routine g lower b).0 in
      let above = subst (λ p. IsStackOf o p (x ∷ more)) (sym same) is in
      let rest = descend g lower (frame_record g) (x ∷ more) b.1 (refl, call, above) refl in
      subst (λ frames. IsStackOf o (lowest g lower) frames)
      (sym (ap (λ xs. xs ++ x ∷ more) (stack_more g lower) ∙ append_assoc (stack_record lower) (frame_record g ∷ []) (x ∷ more))) rest

  -- N6
  refer_more : (lower xs : List FrameRecord) (x : FrameRecord) → AllRefer o lower xs → AllByRecursion (RefersWell o (lower ++ xs)) x.cells
      → AllByRecursion (RefersWell o ((lower ++ xs) ++ x ∷ [])) x.operands → AllRefer o lower (xs ++ x ∷ [])
  refer_more lower [] x h cells operands =
      let same : lower ++ [] ≡ lower = append_none lower in
      (subst (λ l. AllByRecursion (RefersWell o l) x.cells) same cells, subst (λ l. AllByRecursion (RefersWell o (l ++ x ∷ [])) x.operands) same operands, tt)
    where
      append_none : (xs : List FrameRecord) → xs ++ [] ≡ xs
      append_none [] = refl
      append_none (y ∷ ys) = ap (λ zs. y ∷ zs) (append_none ys)
  refer_more lower (y ∷ xs) x h cells operands =
      let same : lower ++ (y ∷ xs) ≡ (lower ++ y ∷ []) ++ xs = sym (append_assoc lower (y ∷ []) xs) in (
        h.0,
        h.1,
        refer_more (lower ++ y ∷ []) xs x h.2
            (subst (λ l. AllByRecursion (RefersWell o l) x.cells) same cells)
            (subst (λ l. AllByRecursion (RefersWell o (l ++ x ∷ [])) x.operands) same operands),
      )

  below_refer : (p : ℕ) (lower : List Frame) → Below o p lower → AllRefer o [] (stack_record lower)
  below_refer p [] b = tt
  below_refer p (g ∷ lower) b =
      let c = calling p g lower b in
      subst (AllRefer o []) (sym (stack_more g lower)) (refer_more [] (stack_record lower) (frame_record g) (below_refer g.routine lower b.1) c.1 c.2)

  lowest_is : (f : Frame) (lower : List Frame) → Below o f.routine lower → length o.procedures ≤ lowest f lower
  lowest_is f [] b = b
  lowest_is f (g ∷ lower) b = lowest_is g lower b.1

  pub keeps_rules : (t : ℕ) (frames : List Frame) → owners.IsStackOf o t frames → IsStackOf o (length o.procedures + t) (stack_record frames) × AllRefer o [] (stack_record frames)
  keeps_rules t [] h = absurd h.stack
  keeps_rules t (f ∷ lower) h =
      let top : IsTop o f lower = h.stack in
      let shape = shape_before o f.routine top.code f.place in
      let alike = below_alike f.routine lower top.below in
      let r = frame_recorded (routines_of lower) (stack_record lower) alike f top.code shape top.routine top.stands in
      let task : lowest f lower ≡ length o.procedures + t = omega (arith, lowest_is f lower top.below, h.task) in
      let whole = descend f lower (frame_record f) [] top.below
      (refl, record { code = top.code; routine = top.routine; place = top.place; stands = r.stands }) refl in (
        subst (λ frames. IsStackOf o (length o.procedures + t) frames) (sym (stack_more f lower))
            (subst (λ p. IsStackOf o p (stack_record lower ++ frame_record f ∷ [])) task whole),
        subst (AllRefer o []) (sym (stack_more f lower)) (refer_more [] (stack_record lower) (frame_record f) (below_refer f.routine lower top.below) r.cells r.operands),
      )
