-- The first frame of a task.
use Rattle.std.proofs.Common.{◌≡◌, ℕ, zero, suc, ◌+◌, ◌≤◌, List, [], ◌∷◌, ◌++◌, Option, Some, None, length, take, drop, map, slice_get, refl, sym, ap, ◌∙◌, subst, arith, Bool, true, false, eq-eqb, leb-true}
use Rattle.std.specs.Prelude.{◌==◌, nat_lt, nat_le, if◌then◌else◌, option_map}
use Rattle.std.specs.List.{AllByRecursion, list_all}
use Rattle.std.proofs.lemmas.List.{length-map}
use Rattle.std.proofs.lemmas.Option.{same_Some, slice_get-map, slice_get_past}
use Rattle.pearl_value.specs.declared.kind.CellKind.{CellKind}
use Rattle.pearl_stack.specs.Frames.{used, entered}
use Rattle.pearl_instructions.specs.declared.object.Code.{Code}
use Rattle.pearl_instructions.specs.declared.object.Procedure.{Procedure}
use Rattle.pearl_instructions.specs.declared.object.Task.{Task}
use Rattle.pearl_instructions.specs.declared.object.Parts.{Parts as Object}
use Rattle.pearl_instructions.specs.Objects.{routine_at}
use Rattle.pearl_instructions.specs.Flow as flow
use Rattle.pearl_instructions.specs.Lawful.{IsCellKind, IsTask, IsObject}
use Rattle.pearl_instructions.specs.Laws.{Begins, KeepsDepth}
use Rattle.pearl_instructions.specs.Rows.{fresh_cells, begun}
use Rattle.pearl_instructions.specs.Stacks.{IsStack, depth_or_none, room}
use Rattle.pearl_instructions.specs.Valid.{keep, judged_at, judged_whole, is_closed, unsound_in, IsValid}
use Rattle.pearl_silent.specs.Steps.{top_cells, with_cells}
use Rattle.pearl_silent.proofs.Offered.{all_given, keeps}

behind : {A B C : Type 0} (f : A → C) (g : B → C) (xs : List A) (ys : List B) (k t : ℕ) → k ≡ length xs + t → slice_get (map f xs ++ map g ys) k ≡ slice_get (map g ys) t
behind f g [] ys k t e = ap (slice_get (map g ys)) (omega (arith, e))
behind f g (x ∷ xs) ys zero t e = absurd (omega (arith, e))
behind f g (x ∷ xs) ys (suc k) t e = behind f g xs ys k t (omega (arith, e))

some_mapped : {A B : Type 0} (f : A → B) (o : Option A) (y : B) → option_map f o ≡ Some y → (x : A) × (o ≡ Some x) × (f x ≡ y)
some_mapped f None y e = cc
some_mapped f (Some x) y e = (x, refl, same_Some (f x) y e)

-- the stated depth of a routine of a valid object is at most 4,096
pub depth_small : (o : Object) (r : ℕ) (code : Code) → IsValid o → routine_at o r ≡ Some code → code.depth ≤ 4096
depth_small o r code v e =
    let n = length code.instructions in
    let a : judged_at o r code n (slice_get code.instructions n) ≡ None = ap (λ x. unsound_in o r x n) (sym e) ∙ v.sound r n in
    let b : judged_at o r code n None ≡ None = ap (judged_at o r code n) (sym (slice_get_past code.instructions n (omega arith))) ∙ a in
    let same : (n == n) ≡ true = eq-eqb n n refl in
    let d : judged_whole code ≡ None = ap (λ t. if t then judged_whole code else None) (sym same) ∙ b in
    let g = keeps (list_all (λ s. nat_lt s.instruction n) code.shapes) 1 _ d in
    let h = keeps (is_closed code.instructions) 9 _ g.1 in
    let k = keeps (nat_le code.depth 4096) 11 _ h.1 in
    leb-true code.depth 4096 k.0

-- a task of a valid object, and the kinds of its cells
pub record Starts (o : Object) (t : ℕ) (kinds : List CellKind) : Type 0 where
  pub lawful : AllByRecursion IsCellKind kinds
  pub few : length kinds ≤ 4096
  pub fits : length kinds ≤ room o (begun o (length o.procedures + t))
  pub stack : IsStack o (begun o (length o.procedures + t))
  pub frames : with_cells (take 0 (top_cells (entered (length o.procedures + t) 0 (length kinds) [])) ++ map flow.fresh (drop 0 kinds))
      (entered (length o.procedures + t) 0 (length kinds) []) ≡ begun o (length o.procedures + t)

pub starts : (o : Object) (t : ℕ) (kinds : List CellKind) → Begins → KeepsDepth → IsValid o → IsObject o →
    option_map (λ (t : Task). t.code.cells) (slice_get o.tasks t) ≡ Some kinds → Starts o t kinds
starts o t kinds begins keeps_depth v w e =
    let r : ℕ = length o.procedures + t in
    let task = some_mapped (λ (t : Task). t.code.cells) (slice_get o.tasks t) kinds e in
    let is : IsTask task.0 = all_given IsTask o.tasks t task.0 w.tasks task.1 in
    let at : routine_at o r ≡ Some task.0.code =
    behind (λ (p : Procedure). p.code) (λ (t : Task). t.code) o.procedures o.tasks r t refl ∙ (slice_get-map (λ (t : Task). t.code) o.tasks t ∙ ap (option_map (λ (t : Task). t.code)) task.1) in
    let s : IsStack o (begun o r) = begins o r task.0.code v w (omega arith) at in
    let cells : fresh_cells (routine_at o r) ≡ map flow.fresh kinds = ap fresh_cells at ∙ ap (map flow.fresh) task.2 in
    let long : length (fresh_cells (routine_at o r)) ≡ length kinds = ap length cells ∙ length-map kinds flow.fresh in
    let deep : used (begun o r) ≤ room o (begun o r) = keeps_depth o v (begun o r) s in
    let depth : room o (begun o r) ≡ task.0.code.depth = ap depth_or_none at in
    let small = depth_small o r task.0.code v at in
    record {
      lawful = subst (AllByRecursion IsCellKind) task.2 is.code.kinds;
      few = omega (arith, long, deep, depth, small);
      fits = omega (arith, long, deep);
      stack = s;
      frames = ap (λ cells. record { routine = r; place = 0; cells = cells; operands = [] } ∷ []) (sym cells);
    }
