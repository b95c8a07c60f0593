-- Frames that keep N5 and N6 are those of a stack.
use Rattle.std.proofs.Common.{◌≡◌, ℕ, zero, suc, ◌+◌, ◌-◌, ◌≤◌, ◌<◌, List, [], ◌∷◌, ◌++◌, length, Some, refl, sym, ap, subst, ◌∙◌, arith}
use Rattle.std.specs.Prelude.{nat_lt, if◌then◌else◌, false, drop, map, reverse, slice_get}
use Rattle.std.proofs.lemmas.Bool.{lt-ltb, le-ltb}
use Rattle.std.specs.List.{AllByRecursion, AllZip}
use mathlib.Core.List.{reverse_aux}
use Rattle.pearl_value.specs.declared.kind.Kind.{Kind}
use Rattle.pearl_value.specs.declared.kind.CellKind.{CellKind}
use Rattle.pearl_value.specs.declared.kind.CellKind.TheVariants.{Plain, RefTo}
use Rattle.pearl_value.specs.declared.cell.Cell.TheVariants.{Ref}
use Rattle.pearl_value.specs.Cells.{kind_of}
use Rattle.pearl_stack.specs.Frames.{Frame}
use Rattle.pearl_instructions.specs.declared.object.Leaf.{Leaf}
use Rattle.pearl_instructions.specs.declared.object.Code.{Code}
use Rattle.pearl_instructions.specs.declared.object.Parts.{Parts as Object}
use Rattle.pearl_instructions.specs.Objects.{routine_at, first_slot, slot_kind}
use Rattle.pearl_instructions.specs.Owners as owners
use Rattle.pearl_instructions.specs.Stacks as stacks
use Rattle.pearl_instructions.specs.Stacks.{routines_of, kind_at, Suits, Below, IsStack, task_of}
use Rattle.pearl_instructions.specs.Valid.{shape_before}
use Rattle.pearl_saved.specs.declared.saved.Target.{Target}
use Rattle.pearl_saved.specs.declared.saved.Target.TheVariants.{Slot, Own}
use Rattle.pearl_saved.specs.declared.saved.SavedCell.{SavedCell}
use Rattle.pearl_saved.specs.declared.saved.SavedCell.TheVariants.{Value, Variable, Array}
use Rattle.pearl_saved.specs.declared.saved.FrameRecord.{FrameRecord}
use Rattle.pearl_saved.specs.Rules.{kind_held, AreOf, IsHeld, Stands, IsStackOf, own_kind, Names, RefersWell, AllRefer}
use Rattle.pearl_saved.specs.Stacks.{place_of, cell_made, frame_made, frames_made}
use Rattle.pearl_saved.proofs.Turned.{all_parted, all_turned}
use Rattle.pearl_saved.proofs.Alike.{Alike, none_alike, one_more_alike}

-- ---- what references lead to

pub slot_there : (leaves : List Leaf) (v : ℕ) (leaf : Leaf) (slot : ℕ) → slice_get leaves v ≡ Some leaf → first_slot leaves v ≤ slot
    → slot + 1 ≤ first_slot leaves v + leaf.slots → slot_kind leaves slot ≡ Some leaf.kind
slot_there [] v leaf slot e low high = absurd cc
slot_there (first ∷ leaves) zero leaf slot e low high =
    let s : first ≡ leaf = cc in
    let less : slot < first.slots = omega (arith, high, ap (λ l. l.slots) s) in
    ap (λ b. if b then Some first.kind else slot_kind leaves (slot - first.slots)) (lt-ltb slot first.slots less) ∙ ap (λ l. Some l.kind) s
slot_there (first ∷ leaves) (suc v) leaf slot e low high =
    let more : first.slots ≤ slot = omega (arith, low) in
    ap (λ b. if b then Some first.kind else slot_kind leaves (slot - first.slots)) (le-ltb slot first.slots more)
    ∙ slot_there leaves v leaf (slot - first.slots) e (omega (arith, low, more)) (omega (arith, high, more))

module _ (o : Object) where
  leads : (rs : List ℕ) (frames : List FrameRecord) → Alike o rs frames → (kind : Kind) (t : Target) → Names o frames kind t 1 → kind_at o rs (place_of t) ≡ Some kind
  leads rs frames alike kind (Slot slot) h = slot_there o.leaves h.number h.leaf slot h.there h.from h.up_to ∙ ap Some h.of
  leads rs frames alike kind (Own n c) h =
      let same : c ≡ c + 0 = omega arith in
      sym (alike.kinds n c) ∙ ap (own_kind frames n) same ∙ h 0 (omega arith)

  -- ---- cells, operands and frames

  suits : (rs : List ℕ) (frames : List FrameRecord) → Alike o rs frames → (k : CellKind) (x : SavedCell) → kind_held x ≡ Some k → IsHeld x → RefersWell o frames x
      → Suits o rs k (cell_made x)
  suits rs frames alike k (Value x) e held well =
      let s : Plain (kind_of x) ≡ k = cc in subst (λ k. Suits o rs k x) s (record { is_value = held; same_kind = refl })
  suits rs frames alike k (Variable reference) e held well =
      let s : RefTo reference.kind ≡ k = cc in
      subst (λ k. Suits o rs k (Ref reference.kind (place_of reference.target))) s (refl, leads rs frames alike reference.kind reference.target well)
  suits rs frames alike k (Array array) e held well = absurd cc

  all_suit : (rs : List ℕ) (frames : List FrameRecord) → Alike o rs frames → (kinds : List CellKind) (xs : List SavedCell) → AreOf kinds xs → AllByRecursion IsHeld xs
      → AllByRecursion (RefersWell o frames) xs → AllZip (Suits o rs) kinds (map cell_made xs)
  all_suit rs frames alike [] [] e held well = tt
  all_suit rs frames alike [] (x ∷ xs) e held well = absurd cc
  all_suit rs frames alike (k ∷ kinds) [] e held well = absurd cc
  all_suit rs frames alike (k ∷ kinds) (x ∷ xs) e held well =
      let one : kind_held x ≡ Some k = cc in
      let more : map kind_held xs ≡ map Some kinds = cc in
      (suits rs frames alike k x one held.0 well.0, all_suit rs frames alike kinds xs more held.1 well.1)

  stands : (rs : List ℕ) (frames : List FrameRecord) → Alike o rs frames → (f : FrameRecord) (code : Code) (shape : List CellKind) → routine_at o f.routine ≡ Some code
      → Stands code shape f → AllByRecursion (RefersWell o frames) f.cells → AllByRecursion (RefersWell o (frames ++ f ∷ [])) f.operands
      → stacks.Stands o code (frame_made f) shape rs
  stands rs frames alike f code shape is st cells operands =
      let held = all_parted IsHeld f.cells f.operands st.values in
      let own = frames ++ f ∷ [] in
      record {
        cells = all_suit rs frames alike code.cells f.cells st.cells held.0 cells;
        operands = all_suit (f.routine ∷ rs) own (one_more_alike o rs frames f code alike is st.cells) shape (reverse f.operands) st.operands
            (all_turned IsHeld f.operands held.1) (all_turned (RefersWell o own) f.operands operands);
      }

  -- ---- stacks: the frames below stand in both orders

  climb : (p : ℕ) (below : List FrameRecord) (lower more : List FrameRecord) → Alike o (routines_of (map frame_made below)) lower → Below o p (map frame_made below)
      → IsStackOf o p more → AllRefer o lower more → IsStack o (map frame_made (reverse_aux more below))
  climb p below lower [] alike b is refers = absurd is
  climb p below lower (f ∷ []) alike b is refers =
      let at = is.1 in
      let rs = routines_of (map frame_made below) in
      record {
        code = at.code;
        routine = at.routine;
        place = at.place;
        stands = stands rs lower alike f at.code (shape_before o f.routine at.code f.place) at.routine at.stands refers.0 refers.1;
        below = subst (λ r. Below o r (map frame_made below)) (sym is.0) b;
      }
  climb p below lower (f ∷ above ∷ more) alike b is refers =
      let at = is.1 in
      let rs = routines_of (map frame_made below) in
      let shape = drop at.callee.params (shape_before o f.routine at.code f.place) in
      climb above.routine (f ∷ below) (lower ++ f ∷ []) (above ∷ more)
      (one_more_alike o rs lower f at.code alike at.routine at.stands.cells) (
        record {
          callee = at.callee;
          called = at.called;
          code = at.code;
          routine = at.routine;
          place = at.place;
          stands = stands rs lower alike f at.code shape at.routine at.stands refers.0 refers.1;
        },
        subst (λ r. Below o r (map frame_made below)) (sym is.0) b,
      )
      is.2 refers.2

  -- frames on a stack leave it its task's
  task_stays : (y : FrameRecord) (below more : List FrameRecord) → task_of o (map frame_made (reverse_aux more (y ∷ below))) ≡ task_of o (map frame_made (y ∷ below))
  task_stays y below [] = refl
  task_stays y below (f ∷ more) = task_stays f (y ∷ below) more

  task_is : (t : ℕ) (frames : List FrameRecord) → IsStackOf o (length o.procedures + t) frames → task_of o (frames_made frames) ≡ t
  task_is t [] h = absurd h
  task_is t (f ∷ []) h = omega (arith, h.0)
  task_is t (f ∷ above ∷ more) h = let first : f.routine - length o.procedures ≡ t = omega (arith, h.0) in task_stays f [] (above ∷ more) ∙ first

  pub are_of_a_stack : (t : ℕ) (frames : List FrameRecord) → IsStackOf o (length o.procedures + t) frames → AllRefer o [] frames → owners.IsStackOf o t (frames_made frames)
  are_of_a_stack t frames is refers = record {
    stack = climb (length o.procedures + t) [] [] frames (none_alike o) (omega arith) is refers;
    task = task_is t frames is;
  }
